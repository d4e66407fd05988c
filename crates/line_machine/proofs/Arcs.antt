-- Where each arc leads forward or to a marked line, every cycle has a marked line.
use Rattle.std.proofs.Common.{◌≡◌, refl, subst, ℕ, ◌+◌, ◌<◌, ◌≤◌, Bool, Option, Some, None, List, [], ◌∷◌, length, slice_get, arith, inl, inr, ◌⊎◌}
use Rattle.std.proofs.lemmas.Option.{slice_get-map}
use Rattle.std.specs.Option.{option_map}
use Rattle.il_core.specs.Procedure.{Procedure, instruction_of}
use Rattle.il_core.specs.LineGraph.{IsIn, HasArc, IsPath, heads_of, heads_at}
use Rattle.il_core.specs.Checked.{NamedProcedure, procedure_of}
use Rattle.il_core.specs.declared.line.Line.{Line}
use Rattle.line_machine.specs.Cut.{IsMarked, CyclesAreCut}
use Rattle.line_machine.specs.Arcs.{LeadOn, LinesLeadOn}

-- a line that such arcs enter is later or marked
entered : (cuts : List Bool) (pc : ℕ) (qs : List ℕ) → LeadOn cuts pc qs → (q : ℕ) → IsIn qs q → (pc < q) ⊎ IsMarked cuts q
entered cuts pc [] f q i = absurd i
entered cuts pc (r ∷ rs) f q (inl e) = subst (λ (x : ℕ). (pc < x) ⊎ IsMarked cuts x) e f.0
entered cuts pc (r ∷ rs) f q (inr i) = entered cuts pc rs f.1 q i

-- the same of the arcs of a line that may be there
entered-from : (cuts : List Bool) (pc : ℕ) (o : Option Line) → ((l : Line) → o ≡ Some l → LeadOn cuts pc (heads_of pc (instruction_of l)))
    → (q : ℕ) → IsIn (heads_at pc (option_map instruction_of o)) q → (pc < q) ⊎ IsMarked cuts q
entered-from cuts pc None f q i = absurd i
entered-from cuts pc (Some l) f q i = entered cuts pc (heads_of pc (instruction_of l)) (f l refl) q i

-- the same of each arc of the procedure
leads-on : (p : NamedProcedure) (cuts : List Bool) → LinesLeadOn cuts p.lines → (pc q : ℕ) → HasArc (procedure_of p) pc q → (pc < q) ⊎ IsMarked cuts q
leads-on p cuts f pc q a =
    entered-from cuts pc (slice_get p.lines pc) (f pc) q (subst (λ (o : _). IsIn (heads_at pc o) q) (slice_get-map instruction_of p.lines pc) a)

-- a path that comes to no marked line rises at each arc
rises : (p : Procedure) (cuts : List Bool) → ((pc q : ℕ) → HasArc p pc q → (pc < q) ⊎ IsMarked cuts q) → (from : ℕ) (qs : List ℕ) (to : ℕ) → IsPath p from qs to
    → ((r : ℕ) × IsIn qs r × IsMarked cuts r) ⊎ (from + length qs ≤ to)
rises p cuts f from [] to h = inr (omega (arith, h))
rises p cuts f from (r ∷ rs) to h = elim (f from r h.0) [
  | inr m ↦ inl (r, inl refl, m)
  | inl lower ↦ elim (rises p cuts f r rs to h.1) [ inl w ↦ inl (w.0, inr w.1, w.2) | inr rest ↦ inr (omega (arith, lower, rest)) ]
]

-- so each cycle has a marked line
pub cycles_cut : (p : NamedProcedure) (cuts : List Bool) (pc : ℕ) → LinesLeadOn cuts p.lines → CyclesAreCut (procedure_of p) cuts pc
cycles_cut p cuts pc f = λ before round q h k n.
    elim (rises (procedure_of p) cuts (leads-on p cuts f) q round q k) [ inl w ↦ w | inr rest ↦ absurd (omega (arith, rest, n)) ]
