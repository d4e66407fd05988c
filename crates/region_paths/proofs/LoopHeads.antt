-- The loops that stand at the lines of their heads, from the last loop to the first.
use Rattle.std.proofs.Common.{◌≡◌, inl, inr, refl, sym, ap, ◌∙◌, subst, ℕ, zero, suc, ◌<◌, ◌≤◌, Bool, true, false, Option, Some, None, List, [], ◌∷◌, length, slice_get, drop, arith}
use Rattle.std.specs.Prelude.{IfSome, MatchOption, slice_set, nat_eq, ◌||◌, if◌then◌else◌}
use Rattle.std.proofs.lemmas.Bool.Decides.{eqb_tells}
use Rattle.std.proofs.lemmas.Option.{slice_get_within}
use Rattle.il_core.specs.Procedure.{Procedure}
use Rattle.control_flow.specs.declared.control.LoopInfo.{LoopInfo}
use Rattle.test_graph.specs.Decision.{Decision}
use Rattle.test_graph.specs.Lowered.{Unfolds, IsLowered}
use Rattle.test_graph.specs.declared.graph.TestNode.TheVariants.{AtLine}
use Rattle.test_graph.specs.declared.graph.TestGraph.{TestGraph}
use Rattle.region_paths.specs.Region.{is_head, leading_of}
use Rattle.region_paths.specs.Walk.{IsPut, IsLoopOf, AreLoopsOf}
use Rattle.region_paths.proofs.Nodes.{at_line}
use Rattle.region_paths.proofs.Walking.{head_first}
use Rattle.region_paths.proofs.Counts.{there}
use Rattle.region_paths.proofs.Rounds.{set_cases}

-- the loop of a line among those from one on
abbrev pub IsLoopFrom : List LoopInfo → ℕ → ℕ → Option ℕ → Type 0
IsLoopFrom loops at line o = MatchOption o (is_head (drop at loops) line ≡ false)
    (λ k. (l : LoopInfo) × (slice_get loops k ≡ Some l) × (is_head (drop at loops) line ≡ true) × (leading_of (drop at loops) line ≡ l.leading))

drop_from : (loops : List LoopInfo) (k : ℕ) (x : LoopInfo) → slice_get loops k ≡ Some x → drop k loops ≡ x ∷ drop (suc k) loops
drop_from [] k x e = absurd (cc)
drop_from (y ∷ loops) zero x e = let h : y ≡ x = cc in ap (λ (z : LoopInfo). z ∷ loops) h
drop_from (y ∷ loops) (suc k) x e = drop_from loops k x e

-- a line that is not the head of the first loop
others : (x : LoopInfo) (rest : List LoopInfo) (line : ℕ) → (line ≡ x.head → ⊥) → (is_head (x ∷ rest) line ≡ is_head rest line) × (leading_of (x ∷ rest) line ≡ leading_of rest line)
others x rest line differ = elim (eqb_tells x.head line) [
  | inl same ↦ absurd (differ (sym same.1))
  | inr other ↦ by_test (nat_eq x.head line) other.0
]
  where
    by_test : (b : Bool) → b ≡ false → ((b || is_head rest line) ≡ is_head rest line) × ((if b then x.leading else leading_of rest line) ≡ leading_of rest line)
    by_test true h = absurd (cc)
    by_test false h = (refl, refl)

loop_before : (loops : List LoopInfo) (k line : ℕ) (x : LoopInfo) (o : Option ℕ) → drop k loops ≡ x ∷ drop (suc k) loops → (line ≡ x.head → ⊥) → IsLoopFrom loops (suc k) line o → IsLoopFrom loops k line o
loop_before loops k line x None e differ h = ap (λ (ls : List LoopInfo). is_head ls line) e ∙ (others x (drop (suc k) loops) line differ).0 ∙ h
loop_before loops k line x (Some j) e differ h =
    let t = others x (drop (suc k) loops) line differ in
    (h.0, h.1, ap (λ (ls : List LoopInfo). is_head ls line) e ∙ t.0 ∙ h.2, ap (λ (ls : List LoopInfo). leading_of ls line) e ∙ t.1 ∙ h.3)

-- one loop more
pub loop_put : (loops : List LoopInfo) (k line : ℕ) (x : LoopInfo) (heads : List (Option ℕ)) (o : Option ℕ) → slice_get loops k ≡ Some x → IsPut heads x.head k line o
    → ((p : Option ℕ) → slice_get heads line ≡ Some p → IsLoopFrom loops (suc k) line p) → IsLoopFrom loops k line o
loop_put loops k line x heads o e (inl h) before =
    let d = drop_from loops k x e in
    let f = head_first x (drop (suc k) loops) line (sym h.0) in
    subst (IsLoopFrom loops k line) (sym h.1)
    (x, e, ap (λ (ls : List LoopInfo). is_head ls line) d ∙ f.0, ap (λ (ls : List LoopInfo). leading_of ls line) d ∙ f.1)
loop_put loops k line x heads o e (inr h) before = loop_before loops k line x o (drop_from loops k x e) h.0 (before o h.1)

-- no loop is left
pub loop_none : (loops : List LoopInfo) (k line : ℕ) → length loops ≤ k → is_head (drop k loops) line ≡ false
loop_none [] zero line h = refl
loop_none [] (suc k) line h = refl
loop_none (x ∷ loops) zero line h = absurd (omega (arith, h))
loop_none (x ∷ loops) (suc k) line h = loop_none loops k line (omega (arith, h))

pub put_there : (heads : List (Option ℕ)) (head at line : ℕ) (o : Option ℕ) → slice_get (slice_set heads head (Some at)) line ≡ Some o → IsPut heads head at line o
put_there heads head at line o e = set_cases heads head (Some at) line o e

pub put_past : (heads : List (Option ℕ)) (head at line : ℕ) (o : Option ℕ) → length heads ≤ head → slice_get heads line ≡ Some o → IsPut heads head at line o
put_past heads head at line o past e = inr ((λ f. omega (arith, f, past, slice_get_within heads line o e)), e)

-- the loop that stands at a line
pub loop_there : (p : Procedure) (loops : List LoopInfo) (line : ℕ) (heads : List (Option ℕ)) (o : Option ℕ) → AreLoopsOf p loops heads → line < length p.lines
    → ((k : Option ℕ) → slice_get heads line ≡ Some k → o ≡ k) → IsLoopOf loops line o
loop_there p loops line heads o h inside f =
    let a = there heads line (omega (arith, inside, h.lines)) in
    subst (λ (k : Option ℕ). IsLoopOf loops line k) (sym (f a.0 a.1)) (h.each line a.0 a.1)

-- its index is one of a loop
pub loop_inside : (loops : List LoopInfo) (line : ℕ) (o : Option ℕ) → IsLoopOf loops line o → IfSome o (λ k. k < length loops)
loop_inside loops line None h = tt
loop_inside loops line (Some k) h = slice_get_within loops k h.0 h.1

-- the loop of a node's line
pub loop_told : (p : Procedure) (loops : List LoopInfo) (g : TestGraph) (id q first : ℕ) (d : Decision) (heads : List (Option ℕ)) (o : Option ℕ) → IsLowered p g
    → slice_get g.nodes id ≡ Some (AtLine q first) → Unfolds g.nodes g.entries id d → AreLoopsOf p loops heads
    → ((k : Option ℕ) → slice_get heads q ≡ Some k → o ≡ k) → IsLoopOf loops q o
loop_told p loops g id q first d heads o l e u h f =
    let entry = subst (λ (x : Decision). Unfolds g.nodes g.entries id x) (at_line p g id q first d l e u) u in
    let inside : q < length p.lines = subst (λ (n : ℕ). q < n) l.lines (slice_get_within g.entries q id entry) in
    loop_there p loops q heads o h inside f
