-- Procedures that are held in memory, written and expanded.
use Rattle.std.proofs.Common.{◌≡◌, ℕ, zero, suc, ◌+◌, ◌<◌, ◌≤◌, List, [], ◌∷◌, ◌++◌, length, map, get_or, refl, ap, ◌∙◌, arith}
use Rattle.std.specs.Prelude.{slice_get, Option, Some, None, count_by, replicate}
use Rattle.std.proofs.lemmas.Option.{same_Some, slice_get_read}
use Rattle.il_called.specs.Called.{Passed, call}
use Rattle.il_called.specs.Expansion.{Callee, width_of, call_width, entry_width, call_lines, brings, brought, origin_at, origins_of, repeated, variables_in, is_returned}
use Rattle.il_called.specs.declared.called.CalledProc.{CalledProc}
use Rattle.il_inline.specs.declared.inlined.Inlined.{Inlined}
use Rattle.il_called.specs.declared.called.Origin.{Origin}
use Rattle.il_core.specs.declared.line.Place.{Place}
use Rattle.il_inline.specs.declared.layout.Slot.{Slot}
use Rattle.il_inline.specs.declared.layout.Layout.{Layout}
use Rattle.il_inline.specs.declared.renumbering.Renumbering.{Renumbering}
use Rattle.il_inline.specs.Held.{place_under, callee_held, callees_held}
use Rattle.il_inline.specs.Slots.{slot_behind, slot_in, lines_by, places_by}

-- the procedure of a number, as it is held
pub held_at : (ps : List CalledProc) (xs : List Inlined) (n : ℕ) (p : CalledProc) (x : Inlined) → slice_get ps n ≡ Some p → slice_get xs n ≡ Some x
    → slice_get (callees_held ps xs) n ≡ Some (callee_held p x)
held_at [] xs n p x e h = grind arith
held_at (q ∷ ps) [] n p x e h = grind arith
held_at (q ∷ ps) (y ∷ xs) zero p x e h = ap Some (ap (λ (r : CalledProc). callee_held r y) (same_Some _ _ e) ∙ ap (callee_held p) (same_Some _ _ h))
held_at (q ∷ ps) (y ∷ xs) (suc n) p x e h = held_at ps xs n p x e h

-- one more procedure is expanded
pub held_more : (ps : List CalledProc) (xs : List Inlined) (p : CalledProc) (x : Inlined) → slice_get ps (length xs) ≡ Some p
    → callees_held ps (xs ++ x ∷ []) ≡ callees_held ps xs ++ callee_held p x ∷ []
held_more [] xs p x e = grind arith
held_more (q ∷ ps) [] p x e = ap (λ (r : CalledProc). callee_held r x ∷ []) (same_Some _ _ e)
held_more (q ∷ ps) (y ∷ xs) p x e = ap (λ l. callee_held q y ∷ l) (held_more ps xs p x e)

pub held_count : (ps : List CalledProc) (xs : List Inlined) → length xs ≤ length ps → length (callees_held ps xs) ≡ length xs
held_count ps [] h = refl
held_count [] (x ∷ xs) h = absurd (omega arith)
held_count (p ∷ ps) (x ∷ xs) h = ap suc (held_count ps xs (omega arith))

-- the same, as the code reads it
pub held_read : (ps : List CalledProc) (xs : List Inlined) (n : ℕ) (p : CalledProc) (x : Inlined) → length xs ≤ length ps → n < length xs
    → p ≡ get_or ps n p → x ≡ get_or xs n x → slice_get (callees_held ps xs) n ≡ Some (callee_held p x)
held_read ps xs n p x sizes below e h = held_at ps xs n p x (slice_get_read ps (length ps) n p refl (omega arith) e) (slice_get_read xs (length xs) n x refl below h)

-- what a call of a procedure that is there needs
pub width_held : (callees : List Callee) (n : ℕ) (arguments : List Passed) (callee : Callee) → slice_get callees n ≡ Some callee
    → width_of callees (call n arguments) ≡ call_width callee
width_held callees n arguments callee e = ap (λ (o : Option Callee). elim o [ None ↦ 1 | Some it ↦ call_width it ]) e

pub brings_held : (callees : List Callee) (n : ℕ) (arguments : List Passed) (callee : Callee) → slice_get callees n ≡ Some callee
    → brings callees (call n arguments) ≡ length callee.expanded.places
brings_held callees n arguments callee e = ap (λ (o : Option Callee). elim o [ None ↦ 0 | Some it ↦ length it.expanded.places ]) e

abbrev slot_made : ℕ → ℕ → ℕ → Slot
slot_made a b c = record { start = a; base = b; calls = c }

pub slot_call : (callees : List Callee) (s : Slot) (n : ℕ) (arguments : List Passed) (callee : Callee) → slice_get callees n ≡ Some callee
    → slot_behind callees s (call n arguments) ≡ record { start = s.start + call_width callee; base = s.base + length callee.expanded.places; calls = s.calls + 1 }
slot_call callees s n arguments callee e =
    ap (λ k. slot_made (s.start + k) (s.base + brings callees (call n arguments)) (s.calls + 1)) (width_held callees n arguments callee e)
    ∙ ap (λ k. slot_made (s.start + call_width callee) (s.base + k) (s.calls + 1)) (brings_held callees n arguments callee e)

-- what it becomes
pub lines_held : (callees : List Callee) (places : List Place) (under : Renumbering) (layout : Layout) (at n : ℕ) (arguments : List Passed) (callee : Callee)
    → slice_get callees n ≡ Some callee
    → lines_by callees places under layout at (call n arguments) ≡ call_lines places (place_under under) (slot_in layout at).base (slot_in layout at).start callee arguments
lines_held callees places under layout at n arguments callee e =
    ap (λ (o : Option Callee). elim o [ None ↦ [] | Some it ↦ call_lines places (place_under under) (slot_in layout at).base (slot_in layout at).start it arguments ]) e

pub origins_held : (callees : List Callee) (procedure at n : ℕ) (arguments : List Passed) (callee : Callee) → slice_get callees n ≡ Some callee
    → origins_of callees procedure at (call n arguments) ≡ repeated (origin_at procedure at) (entry_width callee) ++ callee.expanded.origins
    ++ repeated (origin_at procedure at) (count_by (λ v. is_returned v.mode) (variables_in callee.written.places))
origins_held callees procedure at n arguments callee e =
    ap (λ (o : Option Callee). elim o [
      | None ↦ []
      | Some it ↦ repeated (origin_at procedure at) (entry_width it) ++ it.expanded.origins ++ repeated (origin_at procedure at) (count_by (λ v. is_returned v.mode) (variables_in it.written.places))
    ]) e

pub places_held : (inlined : List Inlined) (layout : Layout) (at n : ℕ) (arguments : List Passed) (x : Inlined) → slice_get inlined n ≡ Some x
    → places_by inlined layout at (call n arguments) ≡ map (brought ((slot_in layout at).calls + 1)) x.proc.places
places_held inlined layout at n arguments x e =
    ap (λ (o : Option Inlined). elim o [ None ↦ [] | Some it ↦ map (brought ((slot_in layout at).calls + 1)) it.proc.places ]) e

-- std's word for a repeated value
pub repeated_is : (o : Origin) (n : ℕ) → replicate n o ≡ repeated o n
repeated_is o zero = refl
repeated_is o (suc n) = ap (λ l. o ∷ l) (repeated_is o n)
