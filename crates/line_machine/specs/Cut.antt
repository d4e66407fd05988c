-- Steps from a line to a halt or to the first marked line, at least one.
use Rattle.std.specs.Prelude.{◌≡◌, ℕ, zero, suc, Bool, true, false, Some, List, slice_get, ◌<◌, length}
use Rattle.il_core.specs.Evaluation.{State}
use Rattle.il_core.specs.Machine.{step}
use Rattle.il_core.specs.Procedure.{Procedure}
use Rattle.il_core.specs.LineGraph.{IsIn, IsPath}
use Rattle.il_core.specs.declared.line.Next.{Next}
use Rattle.il_core.specs.declared.line.Next.TheVariants as next
use Rattle.il_core.specs.declared.line.Stop.{Stop}
use Rattle.il_core.specs.declared.line.Stop.TheVariants as stop

abbrev pub IsMarked : List Bool → ℕ → Type 0
IsMarked cuts pc = slice_get cuts pc ≡ Some true

-- each cycle that can be reached from line pc has a marked line
abbrev pub CyclesAreCut : Procedure → List Bool → ℕ → Type 0
CyclesAreCut p cuts pc = (before round : List ℕ) (q : ℕ) → IsPath p pc before q → IsPath p q round q → 0 < length round
    → (r : ℕ) × IsIn round r × IsMarked cuts r

-- one step ends here: at a halt, or at a marked line
abbrev pub EndsAt : List Bool → Next → Stop → Type 0
EndsAt cuts (next.At q) end = IsMarked cuts q × (end ≡ stop.Head q)
EndsAt cuts (next.Halted h) end = end ≡ stop.Halted h

-- one step goes on from here
abbrev pub GoesOnAt : List Bool → Next → ℕ → Type 0
GoesOnAt cuts (next.At q) pc = (q ≡ pc) × (slice_get cuts q ≡ Some false)
GoesOnAt cuts (next.Halted h) pc = ⊥

-- n + 1 steps, of which the last alone halts or comes to a marked line
abbrev pub Reaches : Procedure → List Bool → ℕ → ℕ → State → Stop → State → Type 0
Reaches p cuts zero pc s end to_s = EndsAt cuts (step p pc s).next end × (to_s ≡ (step p pc s).state)
Reaches p cuts (suc n) pc s end to_s = (mid : ℕ) × GoesOnAt cuts (step p pc s).next mid × Reaches p cuts n mid (step p pc s).state end to_s
