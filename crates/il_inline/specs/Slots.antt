-- Where the lines of a procedure and the places that its calls bring stand in its expansion.
use Rattle.std.specs.Prelude.{ℕ, ◌+◌, ◌-◌, List, [], ◌∷◌, None, Some, map, slice_get, slice_index_or, if◌then◌else◌}
use Rattle.il_core.specs.Procedure.{Instruction}
use Rattle.il_core.specs.declared.line.Place.{Place}
use Rattle.il_called.specs.Called.{WrittenLine, own, call}
use Rattle.il_called.specs.Expansion.{Callee, moved, call_lines, width_of, brings, is_call, brought}
use Rattle.il_called.specs.declared.called.CallSpan.{CallSpan}
use Rattle.il_inline.specs.declared.inlined.Inlined.{Inlined}
use Rattle.il_inline.specs.declared.layout.Slot.{Slot}
use Rattle.il_inline.specs.declared.layout.Layout.{Layout}
use Rattle.il_inline.specs.declared.renumbering.Renumbering.{Renumbering}
use Rattle.il_inline.specs.Held.{place_under}

-- what stands before the next line
abbrev pub slot_behind : List Callee → Slot → WrittenLine → Slot
slot_behind callees s line = record {
  start = s.start + width_of callees line;
  base = s.base + brings callees line;
  calls = if is_call line then s.calls + 1 else s.calls;
}

-- what stands before each of these lines, and before the end
abbrev pub slots_from : List Callee → Slot → List WrittenLine → List Slot
slots_from callees s [] = []
slots_from callees s (line ∷ lines) = s ∷ slots_from callees (slot_behind callees s line) lines

abbrev pub end_from : List Callee → Slot → List WrittenLine → Slot
end_from callees s [] = s
end_from callees s (line ∷ lines) = end_from callees (slot_behind callees s line) lines

-- the slot of a line; past the last line stands the end
abbrev pub slot_in : Layout → ℕ → Slot
slot_in layout n = slice_index_or layout.slots n layout.end

abbrev pub start_in : Layout → ℕ → ℕ
start_in layout n = (slot_in layout n).start

-- the lines that a written line becomes, by a layout
abbrev pub lines_by : List Callee → List Place → Renumbering → Layout → ℕ → WrittenLine → List Instruction
lines_by callees places under layout n (own i) = moved (place_under under) (start_in layout) i ∷ []
lines_by callees places under layout n (call c arguments) = elim (slice_get callees c) [
  | None ↦ []
  | Some callee ↦ call_lines places (place_under under) (slot_in layout n).base (slot_in layout n).start callee arguments
]

-- the places that it brings
abbrev pub places_by : List Inlined → Layout → ℕ → WrittenLine → List Place
places_by inlined layout n (own i) = []
places_by inlined layout n (call c arguments) = elim (slice_get inlined c) [ None ↦ [] | Some x ↦ map (brought ((slot_in layout n).calls + 1)) x.proc.places ]

-- the lines of its call
abbrev pub spans_by : Layout → ℕ → WrittenLine → List CallSpan
spans_by layout n (own i) = []
spans_by layout n (call c arguments) = record { first = start_in layout n; last = start_in layout (n + 1) - 1; callee = c } ∷ []
