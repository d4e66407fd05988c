-- Each state takes exactly one of the paths down a tree.
use Rattle.std.proofs.Common.{◌≡◌, inl, inr, refl, sym, ap, ◌∙◌, subst, Bool, true, false, not, List, [], ◌∷◌, ◌++◌, map}
use Rattle.std.proofs.lemmas.Bool.{cases_Bool, and_parts, and_from}
use Rattle.il_core.specs.Evaluation.{State}
use Rattle.il_core.specs.LineGraph.{IsIn}
use Rattle.flow_graph.proofs.Members.{IsIn-append_left, IsIn-append_right, IsIn-append_cases, IsIn-map, IsIn-from_map}
use Rattle.sym_terms.specs.Tree.{Tree}
use Rattle.sym_terms.specs.Comparison.{Comparison, comparison_holds, comparison_under, denied}
use Rattle.sym_terms.proofs.Comparisons.{denied_holds}
use Rattle.test_graph.specs.Way.{all_hold, changed}
use Rattle.region_paths.specs.PlainRow.{assigned_under}
use Rattle.region_paths.specs.Listing.{RegionPath}
use Rattle.region_paths.specs.PathTree.{PathTree, fork, change, stops, begun, paths_down}

-- each state takes a path
abbrev Takes : List RegionPath → State → Type 0
Takes rows s = (r : RegionPath) × IsIn rows r × (all_hold r.row.literals s ≡ true)

-- a path of one side, behind a literal that holds
taken_behind : (b : Bool) (x : Comparison) (rows : List RegionPath) (s : State) → comparison_holds x s ≡ true → Takes rows s → Takes (map (begun (b ∷ []) (x ∷ []) []) rows) s
taken_behind b x rows s h t =
    (begun (b ∷ []) (x ∷ []) [] t.0, IsIn-map (begun (b ∷ []) (x ∷ []) []) rows t.0 t.1, and_from (comparison_holds x s) (all_hold t.0.row.literals s) h t.2)

-- a path of either part
taken_left : (a b : List RegionPath) (s : State) → Takes a s → Takes (a ++ b) s
taken_left a b s t = (t.0, IsIn-append_left a b t.0 t.1, t.2)

taken_right : (a b : List RegionPath) (s : State) → Takes b s → Takes (a ++ b) s
taken_right a b s t = (t.0, IsIn-append_right a b t.0 t.1, t.2)

pub taken_down : (t : PathTree) (terms : List Tree) (s : State) → (r : RegionPath) × IsIn (paths_down t terms) r × (all_hold r.row.literals s ≡ true)
taken_down (fork c met unmet) terms s = elim (cases_Bool (comparison_holds (comparison_under terms c) s)) [
  | inl h ↦ taken_left _ _ s (taken_behind true (comparison_under terms c) (paths_down met terms) s h (taken_down met terms s))
  | inr h ↦
      taken_right _ _ s
      (taken_behind false (comparison_under terms (denied c)) (paths_down unmet terms) s (denied_holds (comparison_under terms c) s ∙ ap not h) (taken_down unmet terms s))
]
taken_down (change c rest) terms s =
    let t = taken_down rest (changed c terms) s in
    (begun [] [] (assigned_under terms c) t.0, IsIn-map (begun [] [] (assigned_under terms c)) (paths_down rest (changed c terms)) t.0 t.1, t.2)
taken_down (stops end) terms s = (record { row = record { path = []; literals = []; assigned = []; values = terms }; stop = end }, inl refl, refl)

-- all paths of a list that a state takes are the same
abbrev TakesOnce : List RegionPath → State → Type 0
TakesOnce rows s = (r q : RegionPath) → IsIn rows r → IsIn rows q → all_hold r.row.literals s ≡ true → all_hold q.row.literals s ≡ true → r ≡ q

-- the literal before a path that is taken holds, and so do the others
first_holds : (path : List Bool) (x : Comparison) (rows : List RegionPath) (s : State) (r : RegionPath) → IsIn (map (begun path (x ∷ []) []) rows) r → all_hold r.row.literals s ≡ true
    → (q : RegionPath) × IsIn rows q × (begun path (x ∷ []) [] q ≡ r) × (comparison_holds x s ≡ true) × (all_hold q.row.literals s ≡ true)
first_holds path x rows s r i h =
    let t = IsIn-from_map (begun path (x ∷ []) []) rows r i in
    let k = and_parts (comparison_holds x s) (all_hold t.0.row.literals s) (subst (λ (y : RegionPath). all_hold y.row.literals s ≡ true) (sym t.2) h) in
    (t.0, t.1, t.2, k.0, k.1)

once_behind : (path : List Bool) (x : Comparison) (rows : List RegionPath) (s : State) → TakesOnce rows s → TakesOnce (map (begun path (x ∷ []) []) rows) s
once_behind path x rows s once r q i j h k =
    let a = first_holds path x rows s r i h in
    let b = first_holds path x rows s q j k in
    sym a.2 ∙ ap (begun path (x ∷ []) []) (once a.0 b.0 a.1 b.1 a.4 b.4) ∙ b.2

-- no state takes a path of both sides
not_both : (x y : Comparison) (a b : List RegionPath) (s : State) (r q : RegionPath) → comparison_holds y s ≡ not (comparison_holds x s)
    → IsIn (map (begun (true ∷ []) (x ∷ []) []) a) r → IsIn (map (begun (false ∷ []) (y ∷ []) []) b) q
    → all_hold r.row.literals s ≡ true → all_hold q.row.literals s ≡ true → ⊥
not_both x y a b s r q e i j h k =
    let u = (first_holds (true ∷ []) x a s r i h).3 in
    let v = (first_holds (false ∷ []) y b s q j k).3 in
    let w : not true ≡ true = ap not (sym u) ∙ sym e ∙ v in
    absurd (cc)

once_either : (a b : List RegionPath) (s : State) → TakesOnce a s → TakesOnce b s
    → ((r q : RegionPath) → IsIn a r → IsIn b q → all_hold r.row.literals s ≡ true → all_hold q.row.literals s ≡ true → ⊥) → TakesOnce (a ++ b) s
once_either a b s x y no_two r q i j h k = elim (IsIn-append_cases a b r i) [
  | inl l ↦ elim (IsIn-append_cases a b q j) [ inl m ↦ x r q l m h k | inr m ↦ absurd (no_two r q l m h k) ]
  | inr l ↦ elim (IsIn-append_cases a b q j) [ inl m ↦ absurd (no_two q r m l k h) | inr m ↦ y r q l m h k ]
]

pub once_down : (t : PathTree) (terms : List Tree) (s : State) → TakesOnce (paths_down t terms) s
once_down (fork c met unmet) terms s =
    once_either _ _ s
    (once_behind (true ∷ []) (comparison_under terms c) (paths_down met terms) s (once_down met terms s))
    (once_behind (false ∷ []) (comparison_under terms (denied c)) (paths_down unmet terms) s (once_down unmet terms s))
    (λ r q. not_both (comparison_under terms c) (comparison_under terms (denied c)) (paths_down met terms) (paths_down unmet terms) s r q (denied_holds (comparison_under terms c) s))
once_down (change c rest) terms s = λ r q i j h k.
    let a = IsIn-from_map (begun [] [] (assigned_under terms c)) (paths_down rest (changed c terms)) r i in
    let b = IsIn-from_map (begun [] [] (assigned_under terms c)) (paths_down rest (changed c terms)) q j in
    sym a.2
    ∙ ap (begun [] [] (assigned_under terms c))
    (once_down rest (changed c terms) s a.0 b.0 a.1 b.1
    (subst (λ (y : RegionPath). all_hold y.row.literals s ≡ true) (sym a.2) h)
    (subst (λ (y : RegionPath). all_hold y.row.literals s ≡ true) (sym b.2) k))
    ∙ b.2
once_down (stops end) terms s = λ r q i j h k. elim i [ inl e ↦ elim j [ inl f ↦ sym e ∙ f | inr n ↦ absurd n ] | inr n ↦ absurd n ]
