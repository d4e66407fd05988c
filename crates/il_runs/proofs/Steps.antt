-- A line steps alike where it is written and where it stands in an expansion.
use Rattle.std.proofs.Common.{◌≡◌, refl, sym, ap, ◌∙◌, ℕ, ◌+◌, ◌<◌, ℤ, pos, ◌+ℤ◌, ◌-ℤ◌, Bool, true, false, ◌&&◌, cond, Option, Some, None, List, length, slice_get, slice_set, arith, inl, inr}
use Rattle.std.specs.Prelude.{int_le}
use Rattle.std.specs.Int.{int_rem_euclid}
use Rattle.std.specs.Option.{option_map}
use Rattle.std.proofs.lemmas.List.{get_or-set_same, get_or-set_other, length-set}
use Rattle.std.proofs.lemmas.Option.{slice_get_within, slice_get_cases}
use Rattle.std.proofs.lemmas.Bool.Decides.{eqb_tells}
use Rattle.il_core.specs.Expression.{Expression}
use Rattle.il_core.specs.Evaluation.{State, value_at, whole, holds}
use Rattle.il_core.specs.Machine.{Step, stays, decided, bit, given, lies_in, wrapped, kept, stored, assigned_to, assigned, stepped}
use Rattle.il_core.specs.Procedure.{Instruction, pre, assign, if_true, otherwise, end_if, loop, end_loop, exit, exit_when, label, goto, skip, assert, return, end_procedure}
use Rattle.il_core.specs.declared.line.Next.{Next}
use Rattle.il_core.specs.declared.line.Next.TheVariants.{At, Halted}
use Rattle.il_core.specs.declared.line.Halt.TheVariants.{End, Outside, FailedAssert, FailedPost, DivZero, Range}
use Rattle.il_core.specs.declared.line.Place.{Place}
use Rattle.il_called.specs.Expansion.{renumbered, moved, inlined}
use Rattle.il_inline.specs.Within.{NamesBelow}
use Rattle.il_runs.specs.Moved.{IsAlike, Stand, HasValues, EndsAlike, own_next, called_next}
use Rattle.il_runs.specs.Laws.{HasSameValue, IsMoved}
use Rattle.il_runs.proofs.Values.{same_value}

pub value_in : (f : ℕ → ℕ) (places wide : List Place) (s t : State) (e : Expression) → HasValues f places wide s t → NamesBelow (length places) e → HasSameValue f s t e
value_in f places wide s t e v names = same_value f (length places) s t v.each e names

-- alike places keep the same of each value
pub kept_alike : (place other : Place) (v : ℤ) → IsAlike place other → kept other v ≡ kept place v
kept_alike place other v a =
    ap (λ b. cond b (Some (wrapped other v)) (cond (lies_in other v) (Some v) None)) a.wrap
    ∙ ap (λ l. cond place.wrap (Some (l +ℤ int_rem_euclid (v -ℤ l) ((other.greatest -ℤ l) +ℤ pos 1))) (cond (int_le l v && int_le v other.greatest) (Some v) None)) a.least
    ∙ ap (λ g. cond place.wrap (Some (place.least +ℤ int_rem_euclid (v -ℤ place.least) ((g -ℤ place.least) +ℤ pos 1))) (cond (int_le place.least v && int_le v g) (Some v) None)) a.greatest

pub given_alike : (f : ℕ → ℕ) (place other : Place) (e : Expression) (s t : State) → IsAlike place other → HasSameValue f s t e
    → given other (renumbered f e) t ≡ given place e s
given_alike f place other e s t a v =
    ap (λ b. cond b (option_map bit (holds (renumbered f e) t)) (whole (renumbered f e) t)) a.flag
    ∙ ap (λ h. cond place.flag (option_map bit h) (whole (renumbered f e) t)) v.conditions
    ∙ ap (λ w. cond place.flag (option_map bit (holds e s)) w) v.numbers

-- a place gets a value on both sides
pub set_alike : (f : ℕ → ℕ) (places wide : List Place) (s t : State) (p : ℕ) (w : ℤ) → Stand f places wide → HasValues f places wide s t
    → p < length places → f p < length wide → HasValues f places wide (slice_set s p w) (slice_set t (f p) w)
set_alike f places wide s t p w stand v below among =
    record { size = length-set s p w ∙ v.size; wide_size = length-set t (f p) w ∙ v.wide_size; each = at_place }
  where
    here : p < length s
    here = rw v.size below

    there : f p < length t
    there = rw v.wide_size among

    at_place : (q : ℕ) → q < length places → value_at (slice_set t (f p) w) (f q) ≡ value_at (slice_set s p w) q
    at_place q h = elim (eqb_tells q p) [
      | inl same ↦ rw (same.1, get_or-set_same s p w (pos 0) here, get_or-set_same t (f p) w (pos 0) there) refl
      | inr other ↦ get_or-set_other t (f p) (f q) w (pos 0) (λ e. other.1 (stand.apart q p h below e)) ∙ v.each q h ∙ sym (get_or-set_other s p q w (pos 0) other.1)
    ]

-- how the ends on a line of one procedure are those on a line of the other: the next line, and the halts of an assignment
record Maps (next : Next → Next) (pc to : ℕ) : Type 0 where
  on : At (to + 1) ≡ next (At (pc + 1))
  divides : Halted (DivZero to) ≡ next (Halted (DivZero pc))
  outside : Halted (Range to) ≡ next (Halted (Range pc))

abbrev ending : Next → State → Step
ending next s = record { next = next; state = s }

stored_alike : (next : Next → Next) (f : ℕ → ℕ) (places wide : List Place) (pc to p : ℕ) (s t : State) (o : Option ℤ) → Maps next pc to → Stand f places wide
    → HasValues f places wide s t → p < length places → f p < length wide → EndsAlike next f places wide (stored pc p s o) (stored to (f p) t o)
stored_alike next f places wide pc to p s t None m stand v below among = record { ends = m.outside; values = v }
stored_alike next f places wide pc to p s t (Some w) m stand v below among = record { ends = m.on; values = set_alike f places wide s t p w stand v below among }

given_to : (next : Next → Next) (f : ℕ → ℕ) (places wide : List Place) (pc to p : ℕ) (s t : State) (place other : Place) (o : Option ℤ) → Maps next pc to
    → Stand f places wide → HasValues f places wide s t → p < length places → f p < length wide → IsAlike place other
    → EndsAlike next f places wide (assigned_to pc p place s o) (assigned_to to (f p) other t o)
given_to next f places wide pc to p s t place other None m stand v below among alike = record { ends = m.divides; values = v }
given_to next f places wide pc to p s t place other (Some x) m stand v below among alike =
    rw (kept_alike place other x alike) (stored_alike next f places wide pc to p s t (kept place x) m stand v below among)

assigned_alike : (next : Next → Next) (f : ℕ → ℕ) (places wide : List Place) (pc to p : ℕ) (e : Expression) (s t : State) → Maps next pc to → Stand f places wide
    → HasValues f places wide s t → p < length places → NamesBelow (length places) e
    → EndsAlike next f places wide (assigned pc p e s (slice_get places p)) (assigned to (f p) (renumbered f e) t (slice_get wide (f p)))
assigned_alike next f places wide pc to p e s t m stand v below names = elim (slice_get_cases places p).1 [
  | inl here ↦ at here.0 here.2
  | inr past ↦ absurd (let k = past.0 in omega arith)
]
  where
    at : (place : Place) → slice_get places p ≡ Some place
        → EndsAlike next f places wide (assigned pc p e s (slice_get places p)) (assigned to (f p) (renumbered f e) t (slice_get wide (f p)))
    at place there =
        let among = stand.each p place there in
        rw (there, among.there, given_alike f place among.other e s t among.alike (value_in f places wide s t e v names))
        (given_to next f places wide pc to p s t place among.other (given place e s) m stand v below (slice_get_within wide (f p) among.other among.there) among.alike)

-- a condition leads to one of three ends on both sides
decided_alike : (next : Next → Next) (f : ℕ → ℕ) (places wide : List Place) (s t : State) (o : Option Bool) (a b c x y z : Next) → HasValues f places wide s t
    → x ≡ next a → y ≡ next b → z ≡ next c
    → EndsAlike next f places wide (decided o (ending a s) (ending b s) (ending c s)) (decided o (ending x t) (ending y t) (ending z t))
decided_alike next f places wide s t None a b c x y z v h i j = record { ends = h; values = v }
decided_alike next f places wide s t (Some true) a b c x y z v h i j = record { ends = i; values = v }
decided_alike next f places wide s t (Some false) a b c x y z v h i j = record { ends = j; values = v }

tested_alike : (next : Next → Next) (f : ℕ → ℕ) (places wide : List Place) (pc to : ℕ) (e : Expression) (s t : State) (b c y z : Next) → Maps next pc to
    → HasValues f places wide s t → NamesBelow (length places) e → y ≡ next b → z ≡ next c
    → EndsAlike next f places wide (decided (holds e s) (stays (DivZero pc) s) (ending b s) (ending c s))
    (decided (holds (renumbered f e) t) (stays (DivZero to) t) (ending y t) (ending z t))
tested_alike next f places wide pc to e s t b c y z m v names i j =
    rw (value_in f places wide s t e v names).conditions
    (decided_alike next f places wide s t (holds e s) (Halted (DivZero pc)) b c (Halted (DivZero to)) y z v m.divides i j)

own_maps : (line : ℕ → ℕ) (pc : ℕ) → line (pc + 1) ≡ line pc + 1 → Maps (own_next line (line pc)) pc (line pc)
own_maps line pc e = record { on = ap At (sym e); divides = refl; outside = refl }

called_maps : (line : ℕ → ℕ) (pc : ℕ) → line (pc + 1) ≡ line pc + 1 → Maps (called_next line (line pc)) pc (line pc)
called_maps line pc e = record { on = ap At (sym e); divides = refl; outside = refl }

pub moved_alike : (number line : ℕ → ℕ) (places wide : List Place) (pc : ℕ) (s t : State) (i : Instruction) → IsMoved number line places wide pc s t i
    → EndsAlike (own_next line (line pc)) number places wide (stepped places pc s i) (stepped wide (line pc) t (moved number line i))
moved_alike number line places wide pc s t (pre e) is =
    let m = own_maps line pc is.follows in
    tested_alike (own_next line (line pc)) number places wide pc (line pc) e s t (At (pc + 1)) (Halted Outside) (At (line pc + 1)) (Halted Outside) m is.values is.within m.on refl
moved_alike number line places wide pc s t (assign p e) is =
    assigned_alike (own_next line (line pc)) number places wide pc (line pc) p e s t (own_maps line pc is.follows) is.stand is.values is.within.0 is.within.1
moved_alike number line places wide pc s t (if_true e q) is =
    let m = own_maps line pc is.follows in
    tested_alike (own_next line (line pc)) number places wide pc (line pc) e s t (At (pc + 1)) (At q) (At (line pc + 1)) (At (line q)) m is.values is.within.0 m.on refl
moved_alike number line places wide pc s t (otherwise q) is = record { ends = refl; values = is.values }
moved_alike number line places wide pc s t end_if is = record { ends = ap At (sym is.follows); values = is.values }
moved_alike number line places wide pc s t loop is = record { ends = ap At (sym is.follows); values = is.values }
moved_alike number line places wide pc s t (end_loop q) is = record { ends = refl; values = is.values }
moved_alike number line places wide pc s t (exit q) is = record { ends = refl; values = is.values }
moved_alike number line places wide pc s t (exit_when e q) is =
    let m = own_maps line pc is.follows in
    tested_alike (own_next line (line pc)) number places wide pc (line pc) e s t (At q) (At (pc + 1)) (At (line q)) (At (line pc + 1)) m is.values is.within.0 refl m.on
moved_alike number line places wide pc s t label is = record { ends = ap At (sym is.follows); values = is.values }
moved_alike number line places wide pc s t (goto q) is = record { ends = refl; values = is.values }
moved_alike number line places wide pc s t skip is = record { ends = ap At (sym is.follows); values = is.values }
moved_alike number line places wide pc s t (assert e) is =
    let m = own_maps line pc is.follows in
    tested_alike (own_next line (line pc)) number places wide pc (line pc) e s t (At (pc + 1)) (Halted (FailedAssert pc)) (At (line pc + 1)) (Halted (FailedAssert (line pc))) m is.values is.within m.on refl
moved_alike number line places wide pc s t (return q) is = record { ends = refl; values = is.values }
moved_alike number line places wide pc s t (end_procedure e) is =
    let m = own_maps line pc is.follows in
    tested_alike (own_next line (line pc)) number places wide pc (line pc) e s t (Halted End) (Halted FailedPost) (Halted End) (Halted FailedPost) m is.values is.within refl refl

pub inlined_alike : (number line : ℕ → ℕ) (places wide : List Place) (pc : ℕ) (s t : State) (i : Instruction) → IsMoved number line places wide pc s t i
    → EndsAlike (called_next line (line pc)) number places wide (stepped places pc s i) (stepped wide (line pc) t (inlined number line i))
inlined_alike number line places wide pc s t (pre e) is =
    let m = called_maps line pc is.follows in
    tested_alike (called_next line (line pc)) number places wide pc (line pc) e s t (At (pc + 1)) (Halted Outside) (At (line pc + 1)) (Halted (FailedAssert (line pc))) m is.values is.within m.on refl
inlined_alike number line places wide pc s t (assign p e) is =
    assigned_alike (called_next line (line pc)) number places wide pc (line pc) p e s t (called_maps line pc is.follows) is.stand is.values is.within.0 is.within.1
inlined_alike number line places wide pc s t (if_true e q) is =
    let m = called_maps line pc is.follows in
    tested_alike (called_next line (line pc)) number places wide pc (line pc) e s t (At (pc + 1)) (At q) (At (line pc + 1)) (At (line q)) m is.values is.within.0 m.on refl
inlined_alike number line places wide pc s t (otherwise q) is = record { ends = refl; values = is.values }
inlined_alike number line places wide pc s t end_if is = record { ends = ap At (sym is.follows); values = is.values }
inlined_alike number line places wide pc s t loop is = record { ends = ap At (sym is.follows); values = is.values }
inlined_alike number line places wide pc s t (end_loop q) is = record { ends = refl; values = is.values }
inlined_alike number line places wide pc s t (exit q) is = record { ends = refl; values = is.values }
inlined_alike number line places wide pc s t (exit_when e q) is =
    let m = called_maps line pc is.follows in
    tested_alike (called_next line (line pc)) number places wide pc (line pc) e s t (At q) (At (pc + 1)) (At (line q)) (At (line pc + 1)) m is.values is.within.0 refl m.on
inlined_alike number line places wide pc s t label is = record { ends = ap At (sym is.follows); values = is.values }
inlined_alike number line places wide pc s t (goto q) is = record { ends = refl; values = is.values }
inlined_alike number line places wide pc s t skip is = record { ends = ap At (sym is.follows); values = is.values }
inlined_alike number line places wide pc s t (assert e) is =
    let m = called_maps line pc is.follows in
    tested_alike (called_next line (line pc)) number places wide pc (line pc) e s t (At (pc + 1)) (Halted (FailedAssert pc)) (At (line pc + 1)) (Halted (FailedAssert (line pc))) m is.values is.within m.on refl
inlined_alike number line places wide pc s t (return q) is = record { ends = refl; values = is.values }
inlined_alike number line places wide pc s t (end_procedure e) is =
    let m = called_maps line pc is.follows in
    tested_alike (called_next line (line pc)) number places wide pc (line pc) e s t (Halted End) (Halted FailedPost) (At (line pc + 1)) (Halted (FailedAssert (line pc))) m is.values is.within refl refl
