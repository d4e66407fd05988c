-- What an assignment of an argument, of a least value, or of the value of another place gives a place.
use Rattle.std.proofs.Common.{◌≡◌, refl, sym, ap, ◌∙◌, subst, ℕ, zero, suc, ◌+◌, ◌<◌, ℤ, pos, negsuc, ◌≤ℤ◌, Bool, true, false, cond, Option, Some, None, List, [], ◌∷◌, length, slice_get, slice_set, arith}
use Rattle.std.specs.Prelude.{int_le}
use Rattle.std.specs.Option.{option_map}
use Rattle.std.proofs.lemmas.Int.{ints}
use Rattle.il_core.specs.Checked.{HasRange, Suits}
use Rattle.il_core.specs.Expression.{number, variable, flag, truth}
use Rattle.il_core.specs.Evaluation.{State, value_at, whole, holds}
use Rattle.il_core.specs.Machine.{Step, goes, stays, bit, given, lies_in, wrapped, kept, stored, assigned_to, assigned, stepped}
use Rattle.il_core.specs.Procedure.{assign}
use Rattle.il_core.specs.Run.{IsInRange}
use Rattle.il_core.specs.declared.line.Place.{Place}
use Rattle.il_core.proofs.Wrapped.{wrapped_own}
use Rattle.il_called.specs.Called.{Passed, value, variable_of}
use Rattle.il_called.specs.Expansion.{renumbered, is_read, read_as, least_of, argument_value, first_value}
use Rattle.il_inline.specs.Stack.{Gift, gives, faults, stored_in, assigned_in, first_of}
use Rattle.il_inline.specs.Within.{NamesBelow}
use Rattle.il_runs.specs.Moved.{IsAlike, IsAmong, HasValues, halt_at}
use Rattle.il_runs.proofs.Effects.{IsAt}
use Rattle.il_runs.proofs.Fit.{names_back}
use Rattle.il_runs.proofs.Renumber.{renumbered_twice}
use Rattle.il_runs.proofs.Steps.{value_in, kept_alike, given_alike}

-- a place keeps a value of its range
pub kept_own : (p : Place) (v : ℤ) → p.least ≤ℤ v → v ≤ℤ p.greatest → kept p v ≡ Some v
kept_own p v l g = by_wrap p.wrap
  where
    lies : lies_in p v ≡ true
    lies = grind (arith, ints)

    by_wrap : (c : Bool) → cond c (Some (wrapped p v)) (cond (lies_in p v) (Some v) None) ≡ Some v
    by_wrap true = ap Some (wrapped_own p v l g)
    by_wrap false = ap (λ b. cond b (Some v) None) lies

bit_of : (x : ℤ) → pos 0 ≤ℤ x → x ≤ℤ pos 1 → bit (int_le (pos 1) x) ≡ x
bit_of (pos zero) l g = refl
bit_of (pos (suc zero)) l g = refl
bit_of (pos (suc (suc n))) l g = absurd (omega (arith, ints))
bit_of (negsuc n) l g = absurd (omega (arith, ints))

-- the value of a place, as it is read
pub read_back : (v : Place) (flag_of : Bool) (m : ℕ) (t : State) → flag_of ≡ v.flag → HasRange v → v.least ≤ℤ value_at t m → value_at t m ≤ℤ v.greatest
    → cond flag_of (option_map bit (holds (read_as v m) t)) (whole (read_as v m) t) ≡ Some (value_at t m)
read_back v flag_of m t same range l g = ap (λ b. cond b (option_map bit (holds (read_as v m) t)) (whole (read_as v m) t)) same ∙ by_flag v.flag refl
  where
    by_flag : (b : Bool) → v.flag ≡ b → cond b (option_map bit (holds (cond b (flag m) (variable m)) t)) (whole (cond b (flag m) (variable m)) t) ≡ Some (value_at t m)
    by_flag true e = let r = range.bits e in ap Some (bit_of (value_at t m) (subst (λ x. x ≤ℤ value_at t m) r.0 l) (subst (λ x. value_at t m ≤ℤ x) r.1 g))
    by_flag false e = refl

-- what a gift makes of a state on a line
abbrev pub by_gift : ℕ → ℕ → State → Gift → Step
by_gift l q t (gives x) = goes (l + 1) (slice_set t q x)
by_gift l q t (faults h) = stays (halt_at l h) t

pub stored_gift : (l n q : ℕ) (t : State) (o : Option ℤ) → stored l q t o ≡ by_gift l q t (stored_in n o)
stored_gift l n q t None = refl
stored_gift l n q t (Some v) = refl

assigned_gift : (l n q : ℕ) (t : State) (v other : Place) (o : Option ℤ) → IsAlike v other → assigned_to l q other t o ≡ by_gift l q t (assigned_in n v o)
assigned_gift l n q t v other None alike = refl
assigned_gift l n q t v other (Some x) alike = ap (stored l q t) (kept_alike v other x alike) ∙ stored_gift l n q t (kept v x)

-- faults are on their line
abbrev pub GiftAt : ℕ → Gift → Type 0
GiftAt n (gives x) = Unit {0}
GiftAt n (faults h) = IsAt n h

pub stored_at : (n : ℕ) (o : Option ℤ) → GiftAt n (stored_in n o)
stored_at n None = refl
stored_at n (Some v) = tt

assigned_at : (n : ℕ) (v : Place) (o : Option ℤ) → GiftAt n (assigned_in n v o)
assigned_at n v None = refl
assigned_at n v (Some x) = stored_at n (kept v x)

pub first_at : (n : ℕ) (places : List Place) (s : State) (v : Place) (arguments : List Passed) → GiftAt n (first_of n places s v arguments)
first_at n places s v [] = tt
first_at n places s v (a ∷ arguments) = by_read (is_read v.mode)
  where
    by_read : (b : Bool) → GiftAt n (cond b (assigned_in n v (given v (argument_value places (λ p. p) a) s)) (gives v.least))
    by_read true = assigned_at n v (given v (argument_value places (λ p. p) a) s)
    by_read false = tt

-- an argument over the caller's places under other numbers
argument_renumbered : (places : List Place) (g : ℕ → ℕ) (a : Passed) → argument_value places g a ≡ renumbered g (argument_value places (λ p. p) a)
argument_renumbered places g (value e) = sym (renumbered_twice g (λ p. p) g (λ k. refl) e)
argument_renumbered places g (variable_of p) = by_place (slice_get places p)
  where
    by_flag : (b : Bool) → cond b (flag (g p)) (variable (g p)) ≡ renumbered g (cond b (flag p) (variable p))
    by_flag true = refl
    by_flag false = refl

    by_place : (o : Option Place) → elim o [ None ↦ variable (g p) | Some x ↦ read_as x (g p) ] ≡ renumbered g (elim o [ None ↦ variable p | Some x ↦ read_as x p ])
    by_place None = refl
    by_place (Some x) = by_flag x.flag

-- the least value of a place that is alike
least_given : (v : Place) (other : Place) (f : ℕ → ℕ) (t : State) → IsAlike v other → HasRange v → given other (renumbered f (least_of v)) t ≡ Some v.least
least_given v other f t alike range =
    ap (λ b. cond b (option_map bit (holds (renumbered f (least_of v)) t)) (whole (renumbered f (least_of v)) t)) alike.flag ∙ by_flag v.flag refl
  where
    by_flag : (b : Bool) → v.flag ≡ b
        → cond b (option_map bit (holds (renumbered f (cond b (truth false) (number v.least))) t)) (whole (renumbered f (cond b (truth false) (number v.least))) t) ≡ Some v.least
    by_flag true e = ap Some (sym (range.bits e).0)
    by_flag false e = refl

-- the assignment of a variable's first value in the expansion gives what the stack machine gives the variable
pub first_gift : (places wide : List Place) (s t : State) (f g h : ℕ → ℕ) (n l q limit : ℕ) (v : Place) (arguments : List Passed) → IsAmong wide q v → HasRange v
    → HasValues h places wide s t → ((k : ℕ) → f (g k) ≡ h k) → ((k : ℕ) → g k < limit → k < length places) → NamesBelow limit (first_value places g v arguments)
    → stepped wide l t (assign q (renumbered f (first_value places g v arguments))) ≡ by_gift l q t (first_of n places s v arguments)
first_gift places wide s t f g h n l q limit v arguments among range values same back names =
    ap (λ o. assigned l q (renumbered f (first_value places g v arguments)) t o) among.there ∙ by_arguments arguments names
  where
    least : assigned_to l q among.other t (given among.other (renumbered f (least_of v)) t) ≡ goes (l + 1) (slice_set t q v.least)
    least =
        ap (assigned_to l q among.other t) (least_given v among.other f t among.alike range)
        ∙ ap (stored l q t) (kept_alike v among.other v.least among.alike ∙ kept_own v v.least (omega (arith, ints)) range.ordered)

    argument : (a : Passed) → NamesBelow limit (argument_value places g a)
        → assigned_to l q among.other t (given among.other (renumbered f (argument_value places g a)) t) ≡ by_gift l q t (assigned_in n v (given v (argument_value places (λ p. p) a) s))
    argument a named =
        let e = argument_value places (λ p. p) a in
        let below : NamesBelow (length places) e = names_back g (length places) limit back e (subst (NamesBelow limit) (argument_renumbered places g a) named) in
        ap (λ x. assigned_to l q among.other t (given among.other x t)) (ap (renumbered f) (argument_renumbered places g a) ∙ renumbered_twice f g h same e)
        ∙ ap (assigned_to l q among.other t) (given_alike h v among.other e s t among.alike (value_in h places wide s t e values below))
        ∙ assigned_gift l n q t v among.other (given v e s) among.alike

    by_read : (a : Passed) (b : Bool) → NamesBelow limit (cond b (argument_value places g a) (least_of v))
        → assigned_to l q among.other t (given among.other (renumbered f (cond b (argument_value places g a) (least_of v))) t)
        ≡ by_gift l q t (cond b (assigned_in n v (given v (argument_value places (λ p. p) a) s)) (gives v.least))
    by_read a true named = argument a named
    by_read a false named = least

    by_arguments : (arguments : List Passed) → NamesBelow limit (first_value places g v arguments)
        → assigned_to l q among.other t (given among.other (renumbered f (first_value places g v arguments)) t) ≡ by_gift l q t (first_of n places s v arguments)
    by_arguments [] named = least
    by_arguments (a ∷ rest) named = by_read a (is_read v.mode) named

renumbered_read : (f : ℕ → ℕ) (v : Place) (m : ℕ) → renumbered f (read_as v m) ≡ read_as v (f m)
renumbered_read f v m = by_flag v.flag
  where
    by_flag : (b : Bool) → renumbered f (cond b (flag m) (variable m)) ≡ cond b (flag (f m)) (variable (f m))
    by_flag true = refl
    by_flag false = refl

-- an assignment of the value of a place to a place of the same kind
pub read_step : (wide : List Place) (t : State) (f : ℕ → ℕ) (l q m : ℕ) (v to : Place) → IsAmong wide (f m) v → HasRange v → IsInRange wide t → slice_get wide q ≡ Some to
    → to.flag ≡ v.flag → stepped wide l t (assign q (renumbered f (read_as v m))) ≡ stored l q t (kept to (value_at t (f m)))
read_step wide t f l q m v to among range in_range there same =
    ap (λ o. assigned l q (renumbered f (read_as v m)) t o) there
    ∙ ap (λ x. assigned_to l q to t (given to x t)) (renumbered_read f v m)
    ∙ ap (assigned_to l q to t) (read_back v to.flag (f m) t same range
    (subst (λ x. x ≤ℤ value_at t (f m)) among.alike.least (in_range.least (f m) among.other among.there))
    (subst (λ x. value_at t (f m) ≤ℤ x) among.alike.greatest (in_range.greatest (f m) among.other among.there)))

-- to a place with the same range, which keeps it
pub copy_step : (wide : List Place) (t : State) (f : ℕ → ℕ) (l q m : ℕ) (v : Place) → IsAmong wide (f m) v → IsAmong wide q v → HasRange v → IsInRange wide t
    → stepped wide l t (assign q (renumbered f (read_as v m))) ≡ goes (l + 1) (slice_set t q (value_at t (f m)))
copy_step wide t f l q m v among to range in_range =
    read_step wide t f l q m v to.other among range in_range to.there to.alike.flag
    ∙ ap (stored l q t) (kept_alike v to.other (value_at t (f m)) to.alike ∙ kept_own v (value_at t (f m))
    (subst (λ x. x ≤ℤ value_at t (f m)) among.alike.least (in_range.least (f m) among.other among.there))
    (subst (λ x. value_at t (f m) ≤ℤ x) among.alike.greatest (in_range.greatest (f m) among.other among.there)))

-- to a place that is alike another one
pub back_step : (wide : List Place) (t : State) (f : ℕ → ℕ) (l n q m : ℕ) (v place : Place) → IsAmong wide (f m) v → IsAmong wide q place → place.flag ≡ v.flag → HasRange v
    → IsInRange wide t → stepped wide l t (assign q (renumbered f (read_as v m))) ≡ by_gift l q t (stored_in n (kept place (value_at t (f m))))
back_step wide t f l n q m v place among to same range in_range =
    read_step wide t f l q m v to.other among range in_range to.there (to.alike.flag ∙ same)
    ∙ ap (stored l q t) (kept_alike place to.other (value_at t (f m)) to.alike) ∙ stored_gift l n q t (kept place (value_at t (f m)))

-- a place to which a place is handed back is of its kind
pub suits_flag : (b c : Bool) (places : List Place) (m : ℕ) → Suits b places (cond c (flag m) (variable m)) → b ≡ c
suits_flag true true places m h = refl
suits_flag true false places m h = absurd h
suits_flag false true places m h = absurd h
suits_flag false false places m h = refl
