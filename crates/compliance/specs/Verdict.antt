-- The verdict of a threat: it is plainly refuted; or its least input takes it, which stepping the lines shows; or else it is open, and its first
-- loose literal is named.
use Rattle.std.specs.Prelude.{◌≡◌, ℕ, zero, suc, ◌<◌, Bool, List, ◌++◌}
use Rattle.il_core.specs.Evaluation.{State}
use Rattle.il_core.specs.Machine.{step}
use Rattle.il_core.specs.Procedure.{Procedure}
use Rattle.il_core.specs.declared.line.Halt.{Halt}
use Rattle.il_core.specs.declared.line.Next.TheVariants as next
use Rattle.il_core.specs.declared.line.Stop.TheVariants as stop
use Rattle.sym_simplify.specs.Literal.{LiteralForm}
use Rattle.test_graph.specs.Way.{decisions}
use Rattle.region_paths.specs.Listing.{RegionPath}
use Rattle.path_inputs.specs.Core.{IsLoose}
use Rattle.path_inputs.specs.Least.{IsPlainlyRefuted, IsLeastInput}
use Rattle.semantic_tables.specs.Row.{forms_of}
use Rattle.compliance.specs.declared.threat.Verdict.{Verdict}
use Rattle.compliance.specs.declared.threat.Verdict.TheVariants.{Refuted, Shown, Open}

-- n + 1 steps from line pc and a state, of which the last alone halts, take these decisions
abbrev pub TakesDecisions : Procedure → ℕ → ℕ → State → List Bool → Halt → Type 0
TakesDecisions p zero pc s path h = (path ≡ decisions p pc s) × ((step p pc s).next ≡ next.Halted h)
TakesDecisions p (suc n) pc s path h = (q : ℕ) × (rest : List Bool) × ((step p pc s).next ≡ next.At q) × (path ≡ decisions p pc s ++ rest)
    × TakesDecisions p n q (step p pc s).state rest h

-- the lines stepped from line pc and a state take the path's decisions and stop as it does
abbrev pub TakesPath : Procedure → ℕ → State → RegionPath → Type 0
TakesPath p pc s r = (n : ℕ) × (h : Halt) × (r.stop ≡ stop.Halted h) × TakesDecisions p n pc s r.row.path h

-- the first literal that is hard, or an easy `/=` outside the core
abbrev pub IsFirstLoose : List LiteralForm → ℕ → Type 0
IsFirstLoose fs i = IsLoose fs i × ((j : ℕ) → j < i → IsLoose fs j → ⊥)

abbrev pub HasVerdict : Procedure → ℕ → RegionPath → Verdict → Type 0
HasVerdict p pc r Refuted = IsPlainlyRefuted p.places pc (forms_of r)
HasVerdict p pc r (Shown s) = IsLeastInput p.places pc (forms_of r) s × TakesPath p pc s r
HasVerdict p pc r (Open i) = (s : State) × IsLeastInput p.places pc (forms_of r) s × (TakesPath p pc s r → ⊥) × IsFirstLoose (forms_of r) i
