-- One step of a loop over the lines of a procedure, and the parts of a call.
use Rattle.std.proofs.Common.{◌≡◌, ℕ, suc, ◌+◌, ◌-◌, ◌<◌, List, ◌∷◌, ◌++◌, length, map, drop, get_or, sym, ap, ◌∙◌, subst, append_assoc, arith}
use Rattle.std.proofs.Math.Path.{fun_ext}
use Rattle.std.proofs.lemmas.List.{drop_more}
use Rattle.std.proofs.lemmas.Bool.{le-ltb}
use Rattle.std.specs.Prelude.{Bool, if◌then◌else◌}
use Rattle.il_core.specs.Procedure.{Instruction, instruction_of}
use Rattle.il_core.specs.Run.{inout_from}
use Rattle.il_core.specs.declared.line.Line.{Line}
use Rattle.il_core.specs.declared.line.Place.{Place}
use Rattle.il_called.specs.Called.{Passed, WrittenLine, written_of}
use Rattle.il_called.specs.Expansion.{Callee, each_from, inlined, call_lines, entered, copied, body_of, exit_of, entry_width, variables_in}
use Rattle.il_called.specs.declared.called.CalledLine.{CalledLine}
use Rattle.il_inline.specs.declared.layout.Layout.{Layout}
use Rattle.il_inline.specs.Fits.{AllFit}
use Rattle.il_inline.specs.Held.{place_under}
use Rattle.il_inline.specs.Within.{AreWithin}
use Rattle.il_inline.proofs.Limits.{within_left, within_right}

pub rest_is : (lines : List CalledLine) (at : ℕ) (x : CalledLine) → at < length lines → x ≡ get_or lines at x
    → map written_of (drop at lines) ≡ written_of x ∷ map written_of (drop (at + 1) lines)
rest_is lines at x h e = ap (map written_of) (drop_more lines at x h ∙ ap (λ (y : CalledLine). y ∷ drop (at + 1) lines) (sym e))

pub each_step : {Y : Type 0} (f : ℕ → WrittenLine → List Y) (lines : List CalledLine) (at : ℕ) (x : CalledLine) → at < length lines → x ≡ get_or lines at x
    → each_from f at (map written_of (drop at lines)) ≡ f at (written_of x) ++ each_from f (at + 1) (map written_of (drop (at + 1) lines))
each_step f lines at x h e =
    let one : suc at ≡ at + 1 = omega arith in
    ap (each_from f at) (rest_is lines at x h e) ∙ ap (λ k. f at (written_of x) ++ each_from f k (map written_of (drop (at + 1) lines))) one

-- what is made so far before the rest is all
pub made_step : {Y : Type 0} (new old mine rest left whole : List Y) → new ≡ old ++ mine → left ≡ mine ++ rest → old ++ left ≡ whole → new ++ rest ≡ whole
made_step new old mine rest left whole e s h = ap (λ l. l ++ rest) e ∙ append_assoc old mine rest ∙ ap (λ l. old ++ l) (sym s) ∙ h

-- the four parts of a call
pub record Parts (a b c d : List Instruction) : Type 0 where
  pub first : AreWithin a
  pub copies : AreWithin b
  pub body : AreWithin c
  pub last : AreWithin d

pub parts_of : (a b c d : List Instruction) → AreWithin (a ++ b ++ c ++ d) → Parts a b c d
parts_of a b c d h =
    let abc = within_left (a ++ b ++ c) d h in
    let ab = within_left (a ++ b) c abc in
    record { first = within_left a b ab; copies = within_right a b ab; body = within_right (a ++ b) c abc; last = within_right (a ++ b ++ c) d h }

pub joined : {Y : Type 0} (o p q r s a b c d : List Y) → p ≡ o ++ a → q ≡ p ++ b → r ≡ q ++ c → s ≡ r ++ d → s ≡ o ++ (a ++ b ++ c ++ d)
joined o p q r s a b c d e f g h =
    h ∙ ap (λ l. l ++ d) (g ∙ ap (λ l. l ++ c) (f ∙ ap (λ l. l ++ b) e ∙ append_assoc o a b) ∙ append_assoc o (a ++ b) c) ∙ append_assoc o (a ++ b ++ c) d

-- the parts of the lines of a call
pub call_parts : (places : List Place) (place : ℕ → ℕ) (base start : ℕ) (it : Callee) (arguments : List Passed) → AreWithin (call_lines places place base start it arguments)
    → Parts (entered places place base (variables_in it.written.places) arguments)
    (copied it.written.places base (base + (length it.expanded.places - length (inout_from 0 it.written.places))) (inout_from 0 it.written.places))
    (body_of base (start + entry_width it) it) (exit_of place base it arguments)
call_parts places place base start it arguments h = parts_of (entered places place base (variables_in it.written.places) arguments)
    (copied it.written.places base (base + (length it.expanded.places - length (inout_from 0 it.written.places))) (inout_from 0 it.written.places))
    (body_of base (start + entry_width it) it) (exit_of place base it arguments) h

pub copied_same : (base : ℕ) (places others : List Place) (first next : ℕ) (inouts numbers : List ℕ) → places ≡ others → first ≡ next → inouts ≡ numbers
    → copied places base first inouts ≡ copied others base next numbers
copied_same base places others first next inouts numbers e f g =
    ap (λ (x : List Place). copied x base first inouts) e ∙ ap (λ (k : ℕ). copied others base k inouts) f ∙ ap (λ (l : List ℕ). copied others base next l) g

moved_up : (base p : ℕ) → place_under (record { kept = 0; shift = base }) p ≡ base + p
moved_up base p = ap (λ (b : Bool). if b then p else p + base) (le-ltb p 0 (omega arith)) ∙ (omega arith)

moved_up_all : (base : ℕ) → place_under (record { kept = 0; shift = base }) ≡ (λ p. base + p)
moved_up_all base = fun_ext (λ p. moved_up base p)

pub body_same : (base middle other : ℕ) (lines same : List Line) → middle ≡ other → lines ≡ same
    → map (inlined (place_under (record { kept = 0; shift = base })) (λ q. middle + q)) (map instruction_of lines)
    ≡ map (inlined (λ p. base + p) (λ q. other + q)) (map instruction_of same)
body_same base middle other lines same e f =
    ap (λ (place : ℕ → ℕ). map (inlined place (λ q. middle + q)) (map instruction_of lines)) (moved_up_all base)
    ∙ ap (λ (m : ℕ). map (inlined (λ p. base + p) (λ q. m + q)) (map instruction_of lines)) e
    ∙ ap (λ (l : List Line). map (inlined (λ p. base + p) (λ q. other + q)) (map instruction_of l)) f

pub next_fit : (callees : List Callee) (count : ℕ) (layout : Layout) (n : ℕ) (rest : List WrittenLine) → AllFit callees count layout (suc n) rest → AllFit callees count layout (n + 1) rest
next_fit callees count layout n rest h = let one : suc n ≡ n + 1 = omega arith in subst (λ k. AllFit callees count layout k rest) one h
