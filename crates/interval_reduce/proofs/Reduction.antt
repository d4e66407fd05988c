-- The reduction theorem: the levels of a graph end with one interval exactly where no cycle is twice entered.
use Rattle.std.proofs.Common.{◌≡◌, ◌≢◌, inl, inr, refl, ℕ, List, [], ◌∷◌, length}
use Rattle.il_core.specs.LineGraph.{IsIn}
use Rattle.control_flow.specs.Cycle.{IsReducible}
use Rattle.interval_reduce.specs.declared.interval.Interval.{Interval}
use Rattle.interval_reduce.specs.Level.{IsLevel, IsLastLevel, AreLevels, last_level, heads_of, owner, NextArc, AreSingle}
use Rattle.interval_reduce.proofs.Dominance.{Good, one_predecessor}
use Rattle.interval_reduce.proofs.ReductionUp.{carried_up, no_cycle}
use Rattle.interval_reduce.proofs.ReductionDown.{carried_down}
use Rattle.interval_reduce.proofs.Owner.{place}
use Rattle.interval_reduce.proofs.OwnerLevel.{head_in, parted, good_next, all_one, not_single}

-- one interval holds no twice entered cycle
one_then : (n : ℕ) (N : ℕ → Type 0) (E : ℕ → ℕ → Type 0) (level : List Interval) → Good n N E → IsLevel N E level → length level ≡ 1 → IsReducible E 0
one_then n N E level good is one = no_cycle n N E (owner level) (place level) good (parted n N E good level is) (all_one n N E good level is one)

-- a last level without a twice entered cycle has one interval
then_one : (n : ℕ) (N : ℕ → Type 0) (E : ℕ → ℕ → Type 0) (level : List Interval) → Good n N E → IsLevel N E level → IsLastLevel level → IsReducible E 0 → length level ≡ 1
then_one n N E level good is (inl one) reducible = one
then_one n N E level good is (inr single) reducible = by_count level is single
  where
    by_count : (l : List Interval) → IsLevel N E l → AreSingle l → length l ≡ 1
    by_count [] k single = absurd k
    by_count (i ∷ []) k single = refl
    by_count (i ∷ j ∷ rest) k single =
        let m = k.2.0.0 in
        let later : j.head ≢ 0 = λ e. m.outside (rw e (head_in n N E good [] 0 i.members k.1)) in
        absurd (one_predecessor n N E good j.head reducible m.node later
        (λ d v node ne other only. not_single n N E good d v node other only (i ∷ j ∷ rest) k single ne))

-- the levels end with one interval exactly where the graph is reducible
pub reduction : (n : ℕ) (N : ℕ → Type 0) (E : ℕ → ℕ → Type 0) (level : List Interval) (rest : List (List Interval)) → Good n N E → AreLevels N E level rest
    → (length (last_level level rest) ≡ 1 → IsReducible E 0) × (IsReducible E 0 → length (last_level level rest) ≡ 1)
reduction n N E level [] good are = (one_then n N E level good are.0, then_one n N E level good are.0 are.1)
reduction n N E level (next ∷ rest) good are =
    let r = reduction n (IsIn (heads_of level)) (NextArc E level) next rest (good_next n N E good level are.0) are.2 in
    let p = parted n N E good level are.0 in
    ((λ one h. r.0 one (carried_up n N E (owner level) (place level) good p h)), λ reducible. r.1 (λ h. reducible (carried_down n N E (owner level) (place level) good p h)))
