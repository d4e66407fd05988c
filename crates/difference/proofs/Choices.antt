-- Choices of sides: what the two sides of the first split say of all choices.
use Rattle.std.proofs.Common.{◌≡◌, ◌∙◌, suc, ℤ, Bool, true, false, List, [], ◌∷◌, ◌++◌, length, Option, Some, None, is_some, refl, sym, ap, subst, append_assoc, arith}
use Rattle.std.proofs.lemmas.List.{append-nil}
use Rattle.std.proofs.lemmas.Bool.{false≢true}
use Rattle.std.specs.Option.{option_map}
use Rattle.std.specs.declared.vec.Vec.{Vec}
use Rattle.std.specs.declared.alloc.Global.{Global}
use Rattle.difference.specs.Constraints.{Meets, IsSolution, IsLeast}
use Rattle.difference.specs.Answers.{sides, earlier, HasNone, IsFirst, IsUnmet, IsSearched}
use Rattle.difference.specs.declared.constraint.Range64.{Range64}
use Rattle.difference.specs.declared.constraint.Constraint.{Constraint}
use Rattle.difference.specs.declared.constraint.Split.{Split}
use Rattle.difference.proofs.Lists.{all_at, all_by, get_append}

-- the first choice of no splits
pub no-splits : (choice : List Bool) → length choice ≡ 0 → choice ≡ []
no-splits [] e = refl
no-splits (b ∷ bs) e = absurd (omega arith)

module _ (ranges : List Range64) (cs : List Constraint) where
  -- constraints without a solution have none with more of them
  pub fewer-solution : (more : List Constraint) (vals : List ℤ) → IsSolution ranges (cs ++ more) vals → IsSolution ranges cs vals
  fewer-solution more vals s = record {
    within = s.within;
    met = all_by (Meets vals) cs (λ i c e. all_at (Meets vals) (cs ++ more) i c s.met (get_append cs more i c e));
  }

  -- so no choice has one
  pub none-unmet : (splits : List Split) → ((vals : List ℤ) → IsSolution ranges cs vals → ⊥) → IsUnmet ranges cs splits
  none-unmet splits none choice l vals s = none vals (fewer-solution (sides choice splits) vals s)

  -- nothing is earlier than the choice of no splits
  none-earlier : (other : List Bool) → length other ≡ 0 → earlier other [] ≡ true → HasNone ranges cs [] other
  none-earlier [] l e = absurd (false≢true e)
  none-earlier (b ∷ bs) l e = absurd (omega arith)

  -- with no splits there is one choice
  pub first-none : (vals : List ℤ) → IsLeast ranges cs vals → IsFirst ranges cs [] vals
  first-none vals h = record {
    choice = [];
    chosen = refl;
    least = rw append-nil h;
    first = none-earlier;
  }

  -- a side's constraint joins the ones before it
  pub none-side : (s : Split) (ss : List Split) (b : Bool) (c : Constraint) (bs : List Bool) → sides (b ∷ bs) (s ∷ ss) ≡ c ∷ sides bs ss
      → HasNone ranges (cs ++ c ∷ []) ss bs → HasNone ranges cs (s ∷ ss) (b ∷ bs)
  none-side s ss b c bs e none vals sol =
      none vals (subst (λ (l : List Constraint). IsSolution ranges l vals) (ap (λ (l : List Constraint). cs ++ l) e ∙ sym (append_assoc cs (c ∷ []) (sides bs ss))) sol)

  -- where neither side has a choice, there is none
  pub unmet-both : (s : Split) (ss : List Split) → IsUnmet ranges (cs ++ s.low ∷ []) ss → IsUnmet ranges (cs ++ s.high ∷ []) ss
      → IsUnmet ranges cs (s ∷ ss)
  unmet-both s ss low high [] l = absurd (omega arith)
  unmet-both s ss low high (true ∷ bs) l = none-side s ss true s.low bs refl (low bs (omega arith))
  unmet-both s ss low high (false ∷ bs) l = none-side s ss false s.high bs refl (high bs (omega arith))

  -- what is earlier than a choice with the low side has it too
  before-low : (s : Split) (ss : List Split) (vals : List ℤ) (h : IsFirst ranges (cs ++ s.low ∷ []) ss vals)
      → (other : List Bool) → length other ≡ length (s ∷ ss) → earlier other (true ∷ h.choice) ≡ true → HasNone ranges cs (s ∷ ss) other
  before-low s ss vals h [] l e = absurd (omega arith)
  before-low s ss vals h (true ∷ bs) l e = none-side s ss true s.low bs refl (h.first bs (omega arith) e)
  before-low s ss vals h (false ∷ bs) l e = absurd (false≢true e)

  -- the first choice of the low side is the first
  pub first-low : (s : Split) (ss : List Split) (vals : List ℤ) → IsFirst ranges (cs ++ s.low ∷ []) ss vals → IsFirst ranges cs (s ∷ ss) vals
  first-low s ss vals h = record {
    choice = true ∷ h.choice;
    chosen = ap suc h.chosen;
    least = subst (λ (l : List Constraint). IsLeast ranges l vals) (append_assoc cs (s.low ∷ []) (sides h.choice ss)) h.least;
    first = before-low s ss vals h;
  }

  -- what is earlier than a choice with the high side has the low one, or has it too
  before-high : (s : Split) (ss : List Split) (vals : List ℤ) → IsUnmet ranges (cs ++ s.low ∷ []) ss
      → (h : IsFirst ranges (cs ++ s.high ∷ []) ss vals)
      → (other : List Bool) → length other ≡ length (s ∷ ss) → earlier other (false ∷ h.choice) ≡ true → HasNone ranges cs (s ∷ ss) other
  before-high s ss vals low h [] l e = absurd (omega arith)
  before-high s ss vals low h (true ∷ bs) l e = none-side s ss true s.low bs refl (low bs (omega arith))
  before-high s ss vals low h (false ∷ bs) l e = none-side s ss false s.high bs refl (h.first bs (omega arith) e)

  -- where the low side has none, the first choice of the high side is the first
  pub first-high : (s : Split) (ss : List Split) (vals : List ℤ) → IsUnmet ranges (cs ++ s.low ∷ []) ss
      → IsFirst ranges (cs ++ s.high ∷ []) ss vals → IsFirst ranges cs (s ∷ ss) vals
  first-high s ss vals low h = record {
    choice = false ∷ h.choice;
    chosen = ap suc h.chosen;
    least = subst (λ (l : List Constraint). IsLeast ranges l vals) (append_assoc cs (s.high ∷ []) (sides h.choice ss)) h.least;
    first = before-high s ss vals low h;
  }

  -- the low side's answer, where it has one
  pub found-low : (s : Split) (ss : List Split) (o : Option (Vec ℤ Global)) → is_some o ≡ true
      → IsSearched ranges (cs ++ s.low ∷ []) ss (option_map (λ v. v.items) o) → IsSearched ranges cs (s ∷ ss) (option_map (λ v. v.items) o)
  found-low s ss None some h = absurd (false≢true some)
  found-low s ss (Some v) some h = first-low s ss v.items h

  -- an answer of None says that no choice has a solution
  pub none-searched : (ss : List Split) (o : Option (Vec ℤ Global)) → is_some o ≡ false
      → IsSearched ranges cs ss (option_map (λ v. v.items) o) → IsUnmet ranges cs ss
  none-searched ss None none h = h
  none-searched ss (Some v) none h = absurd (false≢true (sym none))

  -- the high side's answer, where the low one has none
  pub found-high : (s : Split) (ss : List Split) (o : Option (Vec ℤ Global)) → IsUnmet ranges (cs ++ s.low ∷ []) ss
      → IsSearched ranges (cs ++ s.high ∷ []) ss (option_map (λ v. v.items) o) → IsSearched ranges cs (s ∷ ss) (option_map (λ v. v.items) o)
  found-high s ss None low h = unmet-both s ss low h
  found-high s ss (Some v) low h = first-high s ss v.items low h
