-- The assignments by which a call gives the callee's variables their first values, gives its OLD copies theirs and hands its parameters back.
use Rattle.std.proofs.Common.{◌≡◌, refl, sym, ap, subst, ℕ, zero, suc, ◌+◌, ◌<◌, Bool, true, false, cond, Some, None, List, [], ◌∷◌, ◌++◌, slice_get, arith}
use Rattle.std.specs.Prelude.{filter, Option}
use Rattle.std.proofs.lemmas.Option.{same_Some}
use Rattle.il_core.specs.Bounds.{AreSmall, place_bounds}
use Rattle.il_core.specs.Checked.{FitsAt, IsSoundAssignment}
use Rattle.il_core.specs.Expression.{Expression, number, variable, flag, truth}
use Rattle.il_core.specs.Kind.{HasFlag}
use Rattle.il_core.specs.Procedure.{Instruction, pre, assign, if_true, otherwise, end_if, loop, end_loop, exit, exit_when, label, goto, skip, assert, return, end_procedure}
use Rattle.il_core.specs.declared.line.Place.{Place}
use Rattle.il_core.specs.declared.statement.Mode.{Mode}
use Rattle.il_core.specs.declared.statement.Mode.TheVariants.{Input, InOut, Output, Local}
use Rattle.il_called.specs.Called.{Passed, value, variable_of}
use Rattle.il_called.specs.CalledText.{Suit}
use Rattle.il_called.specs.Expansion.{renumbered, is_parameter, read_as, read_at, least_of, left_behind, argument_value, first_value, entered, copied, back_to, handed_back}
use Rattle.il_runs.specs.Moved.{IsAmong}
use Rattle.call_checks.specs.WellFormed.{HaveSmallRanges, IsHandedTo, AreArguments}
use Rattle.call_checks.proofs.Renumbered.{Among, Gives, gives_kept, flag_among, bounds_among}
use Rattle.call_checks.proofs.Moves.{IsOpen, open_assigned}

-- an assignment that may stand before another line
abbrev pub Assigns : List Place → Instruction → Type 0
Assigns wide (assign p e) = IsSoundAssignment wide p e
Assigns wide (pre e) = ⊥
Assigns wide (if_true e q) = ⊥
Assigns wide (otherwise q) = ⊥
Assigns wide end_if = ⊥
Assigns wide loop = ⊥
Assigns wide (end_loop q) = ⊥
Assigns wide (exit q) = ⊥
Assigns wide (exit_when e q) = ⊥
Assigns wide label = ⊥
Assigns wide (goto q) = ⊥
Assigns wide skip = ⊥
Assigns wide (assert e) = ⊥
Assigns wide (return q) = ⊥
Assigns wide (end_procedure e) = ⊥

abbrev pub AllAssign : List Place → List Instruction → Type 0
AllAssign wide [] = Unit {0}
AllAssign wide (i ∷ is) = Assigns wide i × AllAssign wide is

assigns_fits : (wide : List Place) (total pc : ℕ) → pc + 1 < total → (i : Instruction) → Assigns wide i → FitsAt wide total pc i
assigns_fits wide total pc inside (assign p e) h = (inside, h)
assigns_fits wide total pc inside (pre e) h = absurd h
assigns_fits wide total pc inside (if_true e q) h = absurd h
assigns_fits wide total pc inside (otherwise q) h = absurd h
assigns_fits wide total pc inside end_if h = absurd h
assigns_fits wide total pc inside loop h = absurd h
assigns_fits wide total pc inside (end_loop q) h = absurd h
assigns_fits wide total pc inside (exit q) h = absurd h
assigns_fits wide total pc inside (exit_when e q) h = absurd h
assigns_fits wide total pc inside label h = absurd h
assigns_fits wide total pc inside (goto q) h = absurd h
assigns_fits wide total pc inside skip h = absurd h
assigns_fits wide total pc inside (assert e) h = absurd h
assigns_fits wide total pc inside (return q) h = absurd h
assigns_fits wide total pc inside (end_procedure e) h = absurd h

pub assigned_fits : (wide : List Place) (total pc : ℕ) (is : List Instruction) (j : ℕ) (i : Instruction) → AllAssign wide is → slice_get is j ≡ Some i → pc + 1 < total
    → FitsAt wide total pc i
assigned_fits wide total pc [] j i h e inside = grind arith
assigned_fits wide total pc (x ∷ is) zero i h e inside = assigns_fits wide total pc inside i (subst (Assigns wide) (same_Some _ _ e) h.0)
assigned_fits wide total pc (x ∷ is) (suc j) i h e inside = assigned_fits wide total pc is j i h.1 e inside

pub assign_both : (wide : List Place) (is js : List Instruction) → AllAssign wide is → AllAssign wide js → AllAssign wide (is ++ js)
assign_both wide [] js h g = g
assign_both wide (i ∷ is) js h g = (h.0, assign_both wide is js h.1 g)

-- the least value of a place may be given to it
gives_least : (wide : List Place) (v : Place) → AreSmall (place_bounds (Some v)) → Gives wide v.flag (least_of v)
gives_least wide v small = by v.flag
  where
    by : (b : Bool) → Gives wide b (cond b (truth false) (number v.least))
    by true = record { typed = tt; narrow = tt }
    by false = record { typed = tt; narrow = (small.0, small.0) }

-- so may what a place of its kind holds
pub gives_read : (wide : List Place) (k : ℕ) (v : Place) → IsAmong wide k v → AreSmall (place_bounds (Some v)) → Gives wide v.flag (read_as v k)
gives_read wide k v among small = by v.flag (flag_among wide k v among)
  where
    by : (b : Bool) → HasFlag (slice_get wide k) b → Gives wide b (cond b (flag k) (variable k))
    by true h = record { typed = h; narrow = tt }
    by false h = record { typed = h; narrow = subst AreSmall (sym (bounds_among wide k v among)) small }

-- a variable of the callee as it is brought: it may be assigned, and holds what the variable holds
pub record IsBrought (wide : List Place) (k : ℕ) (v : Place) : Type 0 where
  pub opened : IsOpen wide k v
  pub among : IsAmong wide k v
  pub small : AreSmall (place_bounds (Some v))

-- the variables of the callee from a number on
pub record AreBrought (wide : List Place) (k : ℕ) (vs : List Place) : Type 0 where
  pub each : (j : ℕ) (v : Place) → slice_get vs j ≡ Some v → IsBrought wide (k + j) v

pub brought_first : (wide : List Place) (k : ℕ) (v : Place) (vs : List Place) → AreBrought wide k (v ∷ vs) → IsBrought wide k v
brought_first wide k v vs h = subst (λ m. IsBrought wide m v) (let e : k + 0 ≡ k = omega arith in e) (h.each 0 v refl)

pub brought_rest : (wide : List Place) (k : ℕ) (v : Place) (vs : List Place) → AreBrought wide k (v ∷ vs) → AreBrought wide (suc k) vs
brought_rest wide k v vs h = record { each = λ j u e. subst (λ m. IsBrought wide m u) (let f : k + suc j ≡ suc k + j = omega arith in f) (h.each (suc j) u e) }

-- what is known of the caller: its own places stand among the wide ones
pub record Caller (f : ℕ → ℕ) (places wide : List Place) : Type 0 where
  pub each : (k : ℕ) (place : Place) → slice_get places k ≡ Some place → slice_get wide (f k) ≡ Some place
  pub small : HaveSmallRanges places

pub caller_among : (f : ℕ → ℕ) (places wide : List Place) → Caller f places wide → Among f places wide
caller_among f places wide h = record {
  each = λ k place e. record { other = place; there = h.each k place e; alike = record { flag = refl; wrap = refl; least = refl; greatest = refl } };
}

-- a variable of the caller gives its value
gives_variable : (f : ℕ → ℕ) (places wide : List Place) → Caller f places wide → (v : Place) (p : ℕ) → IsHandedTo places v p
    → Gives wide v.flag (argument_value places f (variable_of p))
gives_variable f places wide caller v p h =
    subst (λ b. Gives wide b (argument_value places f (variable_of p))) h.same
    (subst (Gives wide h.target.flag) (sym (ap (λ (o : Option Place). elim o [ None ↦ variable (f p) | Some there ↦ read_as there (f p) ]) h.there))
    (gives_read wide (f p) h.target ((caller_among f places wide caller).each p h.target h.there) (caller.small p h.target h.there)))

abbrev parameters_in : List Place → List Place
parameters_in vs = filter (λ v. is_parameter v.mode) vs

pub entered_sound : (f : ℕ → ℕ) (places wide : List Place) → Caller f places wide → (k : ℕ) (vs : List Place) (arguments : List Passed) → AreBrought wide k vs
    → Suit (parameters_in vs) arguments → AreArguments places (parameters_in vs) arguments → AllAssign wide (entered places f k vs arguments)
entered_sound f places wide caller k [] arguments brought suits sound = tt
entered_sound f places wide caller k (v ∷ vs) arguments brought suits sound =
    by (λ given g s. entered_sound f places wide caller (suc k) vs given (brought_rest wide k v vs brought) g s) v.mode arguments suits sound
  where
    here : IsBrought wide k v
    here = brought_first wide k v vs brought

    assigned : (e : Expression) → Gives wide v.flag e → IsSoundAssignment wide k e
    assigned e g = open_assigned wide k v e here.opened g

    least : IsSoundAssignment wide k (least_of v)
    least = assigned (least_of v) (gives_least wide v here.small)

    by : ((given : List Passed) → Suit (parameters_in vs) given → AreArguments places (parameters_in vs) given → AllAssign wide (entered places f (suc k) vs given))
        → (m : Mode) (given : List Passed) → Suit (parameters_in (record v { mode = m } ∷ vs)) given → AreArguments places (parameters_in (record v { mode = m } ∷ vs)) given
        → IsSoundAssignment wide k (first_value places f (record v { mode = m }) given) × AllAssign wide (entered places f (suc k) vs (left_behind m given))
    by rest Input [] g s = absurd g
    by rest Input (value x ∷ more) g s = (assigned (renumbered f x) (gives_kept f places wide (caller_among f places wide caller) v.flag x (record { typed = s.0.typed; narrow = s.0.narrow })), rest more g.1 s.1)
    by rest Input (variable_of p ∷ more) g s = absurd g.0
    by rest InOut [] g s = absurd g
    by rest InOut (value x ∷ more) g s = absurd g.0
    by rest InOut (variable_of p ∷ more) g s =
        let h = s.0 in
        (assigned (argument_value places f (variable_of p)) (gives_variable f places wide caller v p (record { target = h.target; there = h.there; variable = h.variable; writable = h.writable; same = h.same })), rest more g.1 s.1)
    by rest Output [] g s = absurd g
    by rest Output (value x ∷ more) g s = absurd g.0
    by rest Output (variable_of p ∷ more) g s = (least, rest more g.1 s.1)
    by rest Local [] g s = (least, rest [] g s)
    by rest Local (value x ∷ more) g s = (least, rest (value x ∷ more) g s)
    by rest Local (variable_of p ∷ more) g s = (least, rest (variable_of p ∷ more) g s)

-- a variable of the callee and its OLD copy, as they are brought
pub record IsRecalled (wide places : List Place) (base k n : ℕ) : Type 0 where
  pub place : Place
  pub there : slice_get places n ≡ Some place
  pub from : IsAmong wide (base + n) place
  pub to : IsOpen wide k place
  pub small : AreSmall (place_bounds (Some place))

pub copied_sound : (wide places : List Place) (base k : ℕ) (ns : List ℕ) → ((j n : ℕ) → slice_get ns j ≡ Some n → IsRecalled wide places base (k + j) n)
    → AllAssign wide (copied places base k ns)
copied_sound wide places base k [] each = tt
copied_sound wide places base k (n ∷ ns) each = (
  open_assigned wide k here.place (read_at places n (base + n)) here.to
      (subst (Gives wide here.place.flag) (sym (ap (λ (o : Option Place). elim o [ None ↦ variable (base + n) | Some x ↦ read_as x (base + n) ]) here.there))
      (gives_read wide (base + n) here.place here.from here.small)),
  copied_sound wide places base (suc k) ns (λ j m e. subst (λ x. IsRecalled wide places base x m) (let f : k + suc j ≡ suc k + j = omega arith in f) (each (suc j) m e)),
)
  where
    here : IsRecalled wide places base k n
    here = subst (λ x. IsRecalled wide places base x n) (let f : k + 0 ≡ k = omega arith in f) (each 0 n refl)

-- a variable of the caller may be assigned what a parameter holds
handed_open : (f : ℕ → ℕ) (places wide : List Place) → Caller f places wide → (v : Place) (p : ℕ) → IsHandedTo places v p → IsOpen wide (f p) v
handed_open f places wide caller v p h = record {
  other = h.target;
  there = caller.each p h.target h.there;
  variable = h.variable;
  writable = h.writable;
  same = h.same;
}

pub handed_sound : (f : ℕ → ℕ) (places wide : List Place) → Caller f places wide → (k : ℕ) (vs : List Place) (arguments : List Passed) → AreBrought wide k vs
    → Suit (parameters_in vs) arguments → AreArguments places (parameters_in vs) arguments → AllAssign wide (handed_back f k vs arguments)
handed_sound f places wide caller k [] arguments brought suits sound = tt
handed_sound f places wide caller k (v ∷ vs) arguments brought suits sound =
    by (λ given g s. handed_sound f places wide caller (suc k) vs given (brought_rest wide k v vs brought) g s) v.mode arguments suits sound
  where
    here : IsBrought wide k v
    here = brought_first wide k v vs brought

    back : (p : ℕ) → IsHandedTo places v p → IsSoundAssignment wide (f p) (read_as v k)
    back p h = open_assigned wide (f p) v (read_as v k) (handed_open f places wide caller v p h) (gives_read wide k v here.among here.small)

    by : ((given : List Passed) → Suit (parameters_in vs) given → AreArguments places (parameters_in vs) given → AllAssign wide (handed_back f (suc k) vs given))
        → (m : Mode) (given : List Passed) → Suit (parameters_in (record v { mode = m } ∷ vs)) given → AreArguments places (parameters_in (record v { mode = m } ∷ vs)) given
        → AllAssign wide (back_to f k (record v { mode = m }) given ++ handed_back f (suc k) vs (left_behind m given))
    by rest Input [] g s = absurd g
    by rest Input (value x ∷ more) g s = rest more g.1 s.1
    by rest Input (variable_of p ∷ more) g s = absurd g.0
    by rest InOut [] g s = absurd g
    by rest InOut (value x ∷ more) g s = absurd g.0
    by rest InOut (variable_of p ∷ more) g s =
        let h = s.0 in
        (back p (record { target = h.target; there = h.there; variable = h.variable; writable = h.writable; same = h.same }), rest more g.1 s.1)
    by rest Output [] g s = absurd g
    by rest Output (value x ∷ more) g s = absurd g.0
    by rest Output (variable_of p ∷ more) g s =
        let h = s.0 in
        (back p (record { target = h.target; there = h.there; variable = h.variable; writable = h.writable; same = h.same }), rest more g.1 s.1)
    by rest Local [] g s = rest [] g s
    by rest Local (value x ∷ more) g s = rest (value x ∷ more) g s
    by rest Local (variable_of p ∷ more) g s = rest (variable_of p ∷ more) g s
