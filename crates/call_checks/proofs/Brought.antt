-- The places of an expansion: the procedure's own ones, and those that its calls bring.
use Rattle.std.proofs.Common.{◌≡◌, ◌≢◌, refl, sym, ap, ◌∙◌, subst, ℕ, ◌+◌, ◌-◌, false, Option, Some, None, List, [], ◌++◌, length, map, drop, slice_get, arith}
use Rattle.std.specs.Prelude.{filter}
use Rattle.std.proofs.lemmas.List.{length-append, length-drop}
use Rattle.il_core.specs.Checked.{HasRange, old_copy, is_copied}
use Rattle.il_core.specs.Run.{inout_from}
use Rattle.il_core.specs.declared.line.Place.{Place}
use Rattle.il_core.specs.declared.statement.Mode.TheVariants.{Input, Local}
use Rattle.il_called.specs.Called.{Passed, WrittenLine, own, call, WrittenProcedure}
use Rattle.il_called.specs.Expansion.{Callee, variables_in, base_of, own_place, each_from, places_of, expansion_of, brought, call_number}
use Rattle.il_inline.specs.Calls.{CallFits, AllCall}
use Rattle.il_inline.proofs.Shape.{each_member, behind}
use Rattle.il_inline.proofs.Texts.{kept_left, all_call}
use Rattle.il_runs.specs.Moved.{IsAmong}
use Rattle.il_runs.proofs.Blocks.{front, dropped, place_sits}
use Rattle.il_runs.proofs.Inouts.{HasCopy, has_copy, places_count}
use Rattle.il_runs.proofs.Numbers.{own_there}
use Rattle.call_checks.specs.Laws.{IsCallable, AreCallable}
use Rattle.call_checks.specs.WellFormed.{IsWellFormed}
use Rattle.call_checks.proofs.Assigned.{Caller, AreBrought, IsRecalled}
use Rattle.call_checks.proofs.Found.{mapped}
use Rattle.call_checks.proofs.Moves.{IsOpen}

-- the calls fit
pub call_fits : (callees : List Callee) (p : WrittenProcedure) → AreCallable callees → IsWellFormed callees p → (n c : ℕ) (arguments : List Passed)
    → slice_get p.lines n ≡ Some (call c arguments) → CallFits callees c arguments
call_fits callees p callable formed n c arguments e =
    let s = formed.calls n c arguments e in
    let some = (callable c s.callee s.there).checked.some_lines in
    record { callee = s.callee; there = s.there; suits = s.suits; lines = omega arith }

pub calls_fit : (callees : List Callee) (p : WrittenProcedure) → AreCallable callees → IsWellFormed callees p → AllCall callees p.lines
calls_fit callees p callable formed = all_call callees p.lines (call_fits callees p callable formed)

-- the caller's own places
pub own_places : (callees : List Callee) (number : ℕ) (p : WrittenProcedure) → IsWellFormed callees p
    → Caller (own_place callees p) p.places (expansion_of callees number p).places
own_places callees number p formed = record {
  each = λ k place e. own_there callees number p k place formed.checked.in_order e;
  small = formed.small;
}

-- a place of the callee as the call on line n brings it
pub brought_there : (callees : List Callee) (number : ℕ) (p : WrittenProcedure) (n c : ℕ) (arguments : List Passed) (fits : CallFits callees c arguments)
    → slice_get p.lines n ≡ Some (call c arguments) → (j : ℕ) (place : Place) → slice_get fits.callee.expanded.places j ≡ Some place
    → slice_get (expansion_of callees number p).places (base_of callees p n + j) ≡ Some (brought (call_number p.lines n) place)
brought_there callees number p n c arguments fits e j place h =
    kept_left (variables_in p.places ++ each_from (places_of callees p) 0 p.lines) (drop (length (variables_in p.places)) p.places) (base_of callees p n + j)
    (brought (call_number p.lines n) place) (place_sits callees p n c arguments fits j place e h)

local_is_not_input : Local ≢ Input
local_is_not_input h = cc

-- it may be assigned, and holds what the place holds
pub record Brings (wide : List Place) (base : ℕ) (places : List Place) : Type 0 where
  pub opened : (j : ℕ) (place : Place) → slice_get places j ≡ Some place → IsOpen wide (base + j) place
  pub among : (j : ℕ) (place : Place) → slice_get places j ≡ Some place → IsAmong wide (base + j) place

pub call_brings : (callees : List Callee) (number : ℕ) (p : WrittenProcedure) (n c : ℕ) (arguments : List Passed) (fits : CallFits callees c arguments)
    → slice_get p.lines n ≡ Some (call c arguments) → Brings (expansion_of callees number p).places (base_of callees p n) fits.callee.expanded.places
call_brings callees number p n c arguments fits e = record {
  opened = λ j place h. record {
    other = brought (call_number p.lines n) place;
    there = brought_there callees number p n c arguments fits e j place h;
    variable = refl;
    writable = local_is_not_input;
    same = refl;
  };
  among = λ j place h. record {
    other = brought (call_number p.lines n) place;
    there = brought_there callees number p n c arguments fits e j place h;
    alike = record { flag = refl; wrap = refl; least = refl; greatest = refl };
  };
}

-- the callee's variables stand in front of its expanded places
front_variable : (y : Callee) → IsCallable y → (j : ℕ) (v : Place) → slice_get (variables_in y.written.places) j ≡ Some v → slice_get y.expanded.places j ≡ Some v
front_variable y callable j v e =
    let vs = variables_in y.written.places in
    ap (λ (l : List Place). slice_get l j) callable.places
    ∙ kept_left (vs ++ callable.brought) (drop (length vs) y.written.places) j v (kept_left vs callable.brought j v e)

written_variable : (y : Callee) → IsCallable y → (j : ℕ) (v : Place) → slice_get (variables_in y.written.places) j ≡ Some v → slice_get y.written.places j ≡ Some v
written_variable y callable j v e =
    let vs = variables_in y.written.places in
    ap (λ (l : List Place). slice_get l j) callable.in_order ∙ kept_left vs (map old_copy (filter is_copied vs)) j v e

pub variables_brought : (wide : List Place) (base : ℕ) (y : Callee) → IsCallable y → Brings wide base y.expanded.places → AreBrought wide base (variables_in y.written.places)
variables_brought wide base y callable brings = record {
  each = λ j v e. record {
    opened = brings.opened j v (front_variable y callable j v e);
    among = brings.among j v (front_variable y callable j v e);
    small = callable.small j v (written_variable y callable j v e);
  };
}

-- the callee's OLD copies stand at their end
last_copy : (y : Callee) → IsCallable y → (j m : ℕ) (copy : Place) → slice_get y.written.places (length (variables_in y.written.places) + j) ≡ Some copy
    → m ≡ (length y.expanded.places - length (inout_from 0 y.written.places)) + j → slice_get y.expanded.places m ≡ Some copy
last_copy y callable j m copy e f =
    let vs = variables_in y.written.places in
    let rest = drop (length vs) y.written.places in
    let a = length-append (vs ++ callable.brought) rest in
    let b = length-append vs callable.brought in
    let c = length-drop (length vs) y.written.places in
    let d = places_count y.written callable.in_order in
    let all : length y.expanded.places ≡ length (vs ++ callable.brought ++ rest) = ap length callable.places in
    ap (λ (l : List Place). slice_get l m) callable.places
    ∙ behind (vs ++ callable.brought) rest (length vs + length callable.brought) j m copy (omega arith) (omega arith) (dropped (length vs) y.written.places j ∙ e)

pub copies_brought : (wide : List Place) (base : ℕ) (y : Callee) → IsCallable y → Brings wide base y.expanded.places
    → (j n : ℕ) → slice_get (inout_from 0 y.written.places) j ≡ Some n
    → IsRecalled wide y.written.places base ((base + (length y.expanded.places - length (inout_from 0 y.written.places))) + j) n
copies_brought wide base y callable brings j n e = record {
  place = copy.place;
  there = copy.there;
  from = brings.among n copy.place (front_variable y callable n copy.place
      (sym (front vs (map old_copy (filter is_copied vs)) n copy.below) ∙ ap (λ (l : List Place). slice_get l n) (sym callable.in_order) ∙ copy.there));
  to = subst (λ k. IsOpen wide k copy.place) at (record { other = to.other; there = to.there; variable = to.variable; writable = to.writable; same = to.same });
  small = callable.small n copy.place copy.there;
}
  where
    copy : HasCopy y.written j n
    copy = has_copy y.written j n callable.in_order e

    vs : List Place
    vs = variables_in y.written.places

    m : ℕ
    m = (length y.expanded.places - length (inout_from 0 y.written.places)) + j

    to : IsOpen wide (base + m) (old_copy copy.place)
    to = brings.opened m (old_copy copy.place) (last_copy y callable j m (old_copy copy.place) copy.copy refl)

    at : base + m ≡ (base + (length y.expanded.places - length (inout_from 0 y.written.places))) + j
    at = omega arith

-- what a line brings are LOCAL variables with the ranges of the callee's places
pub record IsLocal (place : Place) : Type 0 where
  pub variable : place.old ≡ false
  pub local : place.mode ≡ Local
  pub range : HasRange place

line_local : (callees : List Callee) (p : WrittenProcedure) → AreCallable callees → IsWellFormed callees p → (n m : ℕ) (line : WrittenLine) (place : Place)
    → slice_get p.lines n ≡ Some line → slice_get (places_of callees p n line) m ≡ Some place → IsLocal place
line_local callees p callable formed n m (own i) place e h = grind arith
line_local callees p callable formed n m (call c arguments) place e h =
    let s = formed.calls n c arguments e in
    let here : slice_get (map (brought (call_number p.lines n)) s.callee.expanded.places) m ≡ Some place =
    subst (λ (o : Option Callee). slice_get {X = Place} (elim o [ None ↦ [] | Some it ↦ map (brought (call_number p.lines n)) it.expanded.places ]) m ≡ Some place) s.there h in
    let r = mapped (brought (call_number p.lines n)) s.callee.expanded.places m place here in
    let range = (callable c s.callee s.there).checked.ranges m r.what r.there in
    subst IsLocal r.is (record { variable = refl; local = refl; range = record { ordered = range.ordered; bits = range.bits } })

pub all_local : (callees : List Callee) (p : WrittenProcedure) → AreCallable callees → IsWellFormed callees p → (j : ℕ) (place : Place)
    → slice_get (each_from (places_of callees p) 0 p.lines) j ≡ Some place → IsLocal place
all_local callees p callable formed j place e =
    let r = each_member (places_of callees p) 0 p.lines j place e in
    line_local callees p callable formed r.line r.member r.what place r.there
    (subst (λ n. slice_get (places_of callees p n r.what) r.member ≡ Some place) (let z : 0 + r.line ≡ r.line = omega arith in z) r.is)
