-- Where the expansion of a procedure that runs stands in the expansion of the first procedure.
use Rattle.std.proofs.Common.{◌≡◌, ℕ, ◌+◌, Bool, true, false, List, ◌++◌, drop, length, refl, sym, ap, ◌∙◌, arith}
use Rattle.std.specs.Prelude.{slice_get, Some}
use Rattle.il_core.specs.Procedure.{Instruction}
use Rattle.il_core.specs.declared.line.Place.{Place}
use Rattle.il_called.specs.Called.{Passed, call, WrittenProcedure, WrittenText}
use Rattle.il_called.specs.CalledText.{IsCalledText}
use Rattle.il_called.specs.Expansion.{Callee, Expansion, entry_width, start_of, base_of, own_place, call_number, brought, variables_in, each_from, places_of, expansion_of}
use Rattle.il_called.specs.declared.called.Origin.{Origin}
use Rattle.il_inline.specs.Calls.{CallFits}
use Rattle.il_inline.proofs.Known.{made, Known, known_before}
use Rattle.il_inline.proofs.Shape.{line_calls}
use Rattle.il_inline.proofs.Texts.{kept_left}
use Rattle.il_inline.proofs.Together.{HasOrigins, origins_before}
use Rattle.il_runs.specs.Moved.{IsAmong, Stand}
use Rattle.il_runs.proofs.Blocks.{CallSits, call_sits, place_sits}
use Rattle.il_runs.proofs.Numbers.{own_apart, own_there}
use Rattle.il_runs.proofs.Renumber.{placed, inlined_twice, moved_itself}

-- a procedure with those before it; how far its places and its lines are moved up; and whether it is called
pub record Seat : Type 0 where
  pub number : ℕ
  pub written : WrittenProcedure
  pub before : List Callee
  pub place : ℕ
  pub line : ℕ
  pub called : Bool

abbrev pub expansion_at : Seat → Expansion
expansion_at s = expansion_of s.before s.number s.written

abbrev pub place_in : Seat → ℕ → ℕ
place_in s k = s.place + k

abbrev pub line_in : Seat → ℕ → ℕ
line_in s n = s.line + n

-- the numbers of its own places, and the lines at which its written lines begin
abbrev pub own_in : Seat → ℕ → ℕ
own_in s k = s.place + own_place s.before s.written k

abbrev pub start_in : Seat → ℕ → ℕ
start_in s n = s.line + start_of s.before s.written.lines n

pub record IsSeat (procs : List WrittenProcedure) (wide : Expansion) (s : Seat) : Type 0 where
  pub known : Known procs s.number s.written s.before
  pub earlier : (c : ℕ) (y : Callee) → slice_get s.before c ≡ Some y → HasOrigins y
  pub places : (k : ℕ) (place : Place) → slice_get (expansion_at s).places k ≡ Some place → IsAmong wide.places (place_in s k) place
  pub lines : (pc : ℕ) (i : Instruction) → slice_get (expansion_at s).lines pc ≡ Some i → slice_get wide.lines (line_in s pc) ≡ Some (placed s.called (place_in s) (line_in s) i)
  pub origins : (pc : ℕ) (o : Origin) → slice_get (expansion_at s).origins pc ≡ Some o → slice_get wide.origins (line_in s pc) ≡ Some o

pub seat_stand : (procs : List WrittenProcedure) (wide : Expansion) (s : Seat) → IsSeat procs wide s → Stand (own_in s) s.written.places wide.places
seat_stand procs wide s is = record {
  each = λ k place e. is.places (own_place s.before s.written k) place (own_there s.before s.number s.written k place is.known.in_order e);
  apart = λ j k a b e. own_apart s.before s.written j k (omega arith);
}

-- the seat of the first procedure
abbrev pub main_seat : ℕ → WrittenProcedure → List Callee → Seat
main_seat number p before = record { number = number; written = p; before = before; place = 0; line = 0; called = false }

among_itself : (wide : List Place) (k : ℕ) (place : Place) → slice_get wide k ≡ Some place → IsAmong wide (0 + k) place
among_itself wide k place e =
    let zeros : 0 + k ≡ k = omega arith in
    record { other = place; there = ap (slice_get wide) zeros ∙ e; alike = record { flag = refl; wrap = refl; least = refl; greatest = refl } }

pub main_is : (t : WrittenText) (number : ℕ) (p : WrittenProcedure) (before : List Callee) → IsCalledText t → Known t.procs number p before
    → IsSeat t.procs (expansion_of before number p) (main_seat number p before)
main_is t number p before h known = record {
  known = known;
  earlier = origins_before t number p before h known;
  places = among_itself (expansion_of before number p).places;
  lines = λ pc i e. ap (slice_get (expansion_of before number p).lines) (zeros pc) ∙ e ∙ ap Some (sym (moved_itself (λ k. 0 + k) (λ k. 0 + k) zeros zeros i));
  origins = λ pc o e. ap (slice_get (expansion_of before number p).origins) (zeros pc) ∙ e;
}
  where
    zeros : (k : ℕ) → 0 + k ≡ k
    zeros k = omega arith

-- the seat of a procedure that is called on a line
abbrev pub called_seat : Seat → ℕ → ℕ → WrittenProcedure → List Callee → Seat
called_seat s n c q before = record {
  number = c;
  written = q;
  before = before;
  place = s.place + base_of s.before s.written n;
  line = s.line + (start_of s.before s.written.lines n + entry_width (made before c q));
  called = true;
}

among_moved : (wide : List Place) (j k m : ℕ) (place : Place) → j ≡ k → IsAmong wide j (brought m place) → IsAmong wide k place
among_moved wide j k m place e a =
    let alike = a.alike in
    record { other = a.other; there = ap (slice_get wide) (sym e) ∙ a.there; alike = record { flag = alike.flag; wrap = alike.wrap; least = alike.least; greatest = alike.greatest } }

-- the call on a line fits, and what it calls is known
pub record CallKnown (procs : List WrittenProcedure) (s : Seat) (n c : ℕ) (arguments : List Passed) : Type 0 where
  pub callee : WrittenProcedure
  pub before : List Callee
  pub known : Known procs c callee before
  pub fits : CallFits s.before c arguments
  pub same : fits.callee ≡ made before c callee

pub call_known : (t : WrittenText) (wide : Expansion) (s : Seat) (n c : ℕ) (arguments : List Passed) → IsCalledText t → IsSeat t.procs wide s
    → slice_get s.written.lines n ≡ Some (call c arguments) → CallKnown t.procs s n c arguments
call_known t wide s n c arguments h is e =
    let fits : CallFits s.before c arguments = line_calls s.before s.written.lines n (call c arguments) is.known.calls e in
    let it = known_before t s.number s.written s.before c fits.callee h is.known fits.there in
    record { callee = fits.callee.written; before = it.before; known = it.known; fits = fits; same = sym it.same }

pub called_is : (t : WrittenText) (wide : Expansion) (s : Seat) (n c : ℕ) (arguments : List Passed) → IsCalledText t → IsSeat t.procs wide s
    → slice_get s.written.lines n ≡ Some (call c arguments) → (it : CallKnown t.procs s n c arguments) → IsSeat t.procs wide (called_seat s n c it.callee it.before)
called_is t wide s n c arguments h is e it = record {
  known = it.known;
  earlier = origins_before t c it.callee it.before h it.known;
  places = λ k place at.
      let there = place_sits s.before s.written n c arguments it.fits k place e (ap (λ (x : Callee). slice_get x.expanded.places k) it.same ∙ at) in
      among_moved wide.places _ _ (call_number s.written.lines n) place (let f : s.place + (base_of s.before s.written n + k) ≡ (s.place + base_of s.before s.written n) + k = omega arith in f)
      (is.places (base_of s.before s.written n + k) (brought (call_number s.written.lines n) place) (kept_left (variables_in s.written.places ++ each_from (places_of s.before s.written) 0 s.written.lines)
      (drop (length (variables_in s.written.places)) s.written.places) (base_of s.before s.written n + k) (brought (call_number s.written.lines n) place) there));
  lines = λ pc i at.
      let there = sits.body pc i (ap (λ (x : Callee). slice_get x.expanded.lines pc) it.same ∙ at) in
      ap (slice_get wide.lines) (shifted pc) ∙ is.lines _ _ there
      ∙ ap Some (inlined_twice s.called (place_in s) (λ q. base_of s.before s.written n + q) (place_in to) (line_in s) (λ l. (start_of s.before s.written.lines n + entry_width it.fits.callee) + l) (line_in to)
      (λ k. omega arith) (λ l. sym (shifted l)) i);
  origins = λ pc o at.
      let there = sits.body_origin pc o (ap (λ (x : Callee). slice_get x.expanded.origins pc) it.same ∙ at) in
      ap (slice_get wide.origins) (shifted pc) ∙ is.origins _ _ there;
}
  where
    to : Seat
    to = called_seat s n c it.callee it.before

    sits : CallSits s.before s.number s.written n arguments it.fits.callee (expansion_at s).lines (expansion_at s).origins
    sits = call_sits s.before s.number s.written n c arguments it.fits is.known.calls is.earlier e

    shifted : (k : ℕ) → line_in to k ≡ s.line + ((start_of s.before s.written.lines n + entry_width it.fits.callee) + k)
    shifted k = let w : entry_width it.fits.callee ≡ entry_width (made it.before c it.callee) = ap entry_width it.same in omega arith
