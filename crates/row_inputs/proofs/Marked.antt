-- The heads marked one by one.
use Rattle.std.proofs.Common.{◌≡◌, inl, inr, refl, sym, ap, ◌∙◌, ℕ, suc, ◌+◌, ◌<◌, ◌≤◌, Bool, true, false, ◌||◌, Some, List, [], ◌∷◌, ◌++◌, length, take, get_or, slice_get, arith}
use Rattle.std.specs.Prelude.{nat_eq, slice_set}
use Rattle.std.proofs.Math.Seq.{take-suc}
use Rattle.std.proofs.lemmas.Bool.Decides.{eqb_tells}
use Rattle.std.proofs.lemmas.Option.{slice_get_within}
use Rattle.control_flow.specs.declared.control.LoopInfo.{LoopInfo}
use Rattle.region_paths.specs.Region.{is_head}
use Rattle.region_paths.proofs.Rounds.{set_cases}
use Rattle.row_inputs.specs.Heads.{IsMarked}

-- a mark that is set, and one that is not there
pub set_mark : (marks : List Bool) (line at : ℕ) (b : Bool) → slice_get (slice_set marks line true) at ≡ Some b → IsMarked marks line at b
set_mark marks line at b e = set_cases marks line true at b e

pub past_mark : (marks : List Bool) (line at : ℕ) (b : Bool) → length marks ≤ line → slice_get marks at ≡ Some b → IsMarked marks line at b
past_mark marks line at b past e = inr ((λ f. omega (arith, f, past, slice_get_within marks at b e)), e)

or_assoc : (a b c : Bool) → ((a || b) || c) ≡ (a || (b || c))
or_assoc true b c = refl
or_assoc false b c = refl

or_true : (b : Bool) → (b || true) ≡ true
or_true true = refl
or_true false = refl

or_false : (b : Bool) → (b || false) ≡ b
or_false true = refl
or_false false = refl

-- the heads of one loop more
head_push : (loops : List LoopInfo) (x : LoopInfo) (q : ℕ) → is_head (loops ++ x ∷ []) q ≡ (is_head loops q || nat_eq x.head q)
head_push [] x q = or_false (nat_eq x.head q)
head_push (l ∷ loops) x q = ap (λ b. nat_eq l.head q || b) (head_push loops x q) ∙ sym (or_assoc (nat_eq l.head q) (is_head loops q) (nat_eq x.head q))

-- the mark of a line is that of its loops, also of one loop more
mark_push : (loops : List LoopInfo) (x : LoopInfo) (marks : List Bool) (at : ℕ) (b : Bool) → IsMarked marks x.head at b
    → ((c : Bool) → slice_get marks at ≡ Some c → c ≡ is_head loops at) → b ≡ is_head (loops ++ x ∷ []) at
mark_push loops x marks at b m before = elim (eqb_tells x.head at) [
  | inl same ↦ here same.0 same.1 m
  | inr other ↦ there other.0 other.1 m
]
  where
    here : nat_eq x.head at ≡ true → x.head ≡ at → IsMarked marks x.head at b → b ≡ is_head (loops ++ x ∷ []) at
    here e f (inl g) = g.1 ∙ sym (head_push loops x at ∙ ap (λ c. is_head loops at || c) e ∙ or_true (is_head loops at))
    here e f (inr g) = absurd (g.0 (sym f))

    there : nat_eq x.head at ≡ false → (x.head ≡ at → ⊥) → IsMarked marks x.head at b → b ≡ is_head (loops ++ x ∷ []) at
    there e f (inl g) = absurd (f (sym g.0))
    there e f (inr g) = before b g.1 ∙ sym (head_push loops x at ∙ ap (λ c. is_head loops at || c) e ∙ or_false (is_head loops at))

-- the next loop
pub mark_next : (loops : List LoopInfo) (i : ℕ) (x : LoopInfo) (marks : List Bool) (at : ℕ) (b : Bool) → i < length loops → x ≡ get_or loops i x → IsMarked marks x.head at b
    → ((c : Bool) → slice_get marks at ≡ Some c → c ≡ is_head (take i loops) at) → b ≡ is_head (take (i + 1) loops) at
mark_next loops i x marks at b inside is m before = mark_push (take i loops) x marks at b m before ∙ ap (λ ls. is_head ls at) (sym front)
  where
    front : take (i + 1) loops ≡ take i loops ++ x ∷ []
    front = let next : i + 1 ≡ suc i = omega arith in ap (λ n. take n loops) next ∙ take-suc loops i x inside ∙ ap (λ y. take i loops ++ y ∷ []) (sym is)
