-- The threats of all regions within their size, region by region, each with its verdict.
use Rattle.std.specs.Prelude.{◌≡◌, ℕ, ℤ, Option, Some, None, List, [], ◌∷◌, ◌++◌, map, slice_get}
use Rattle.il_core.specs.LineGraph.{IsIn}
use Rattle.il_core.specs.Procedure.{Procedure}
use Rattle.il_core.specs.Run.{HasNoBadRun}
use Rattle.il_core.specs.declared.line.Stop.TheVariants.{Halted}
use Rattle.control_flow.specs.declared.control.LoopInfo.{LoopInfo}
use Rattle.il_core.specs.declared.operator.Relation.{Relation}
use Rattle.sym_simplify.specs.Form.{Form}
use Rattle.sym_simplify.specs.Literal.{keep, literal_form_of}
use Rattle.region_paths.specs.Region.{first_lines}
use Rattle.region_paths.specs.Listing.{RegionPath}
use Rattle.region_paths.specs.Size.{IsPast}
use Rattle.region_paths.specs.declared.limit.Limit.{Limit}
use Rattle.path_inputs.specs.Least.{HasNoInput}
use Rattle.semantic_tables.specs.Row.{forms_of}
use Rattle.compliance.specs.Threat.{AreThreats}
use Rattle.compliance.specs.Verdict.{HasVerdict}
use Rattle.compliance.specs.declared.threat.Threat.{Threat}
use Rattle.compliance.specs.declared.threat.Verdict.TheVariants.{Refuted, Open}

-- a threat of the region of line pc with its verdict
pub record IsTold (p : Procedure) (pc : ℕ) (r : RegionPath) (t : Threat) : Type 0 where
  pub region : t.region ≡ pc
  pub path : t.path ≡ r.row.path
  pub literals : map literal_form_of t.literals ≡ forms_of r
  pub stop : r.stop ≡ Halted t.stop
  pub verdict : HasVerdict p pc r t.verdict

-- each with its verdict, in order
abbrev pub AreTold : Procedure → ℕ → List RegionPath → List Threat → Type 0
AreTold p pc [] ts = ts ≡ []
AreTold p pc (r ∷ rows) [] = ⊥
AreTold p pc (r ∷ rows) (t ∷ ts) = IsTold p pc r t × AreTold p pc rows ts

-- no threat of a region that is past its size is listed, and all of any other one
abbrev pub AreListedWithin : Procedure → List LoopInfo → ℕ → Option Limit → List Threat → Type 0
AreListedWithin p loops pc (Some limit) ts = ts ≡ []
AreListedWithin p loops pc None ts = (rows : List RegionPath) × AreThreats p loops pc rows × AreTold p pc rows ts

abbrev pub AreThreatsOf : Procedure → List LoopInfo → List ℕ → List Threat → Type 0
AreThreatsOf p loops [] ts = ts ≡ []
AreThreatsOf p loops (pc ∷ lines) ts = (here : List Threat) × (others : List Threat) × (ts ≡ here ++ others)
    × (past : Option Limit) × IsPast p loops pc past × AreListedWithin p loops pc past here × AreThreatsOf p loops lines others

-- no input of its region meets all literals of a threat
abbrev pub IsUnmet : Procedure → Threat → Type 0
IsUnmet p t = HasNoInput p.places t.region (map literal_form_of t.literals)

-- where no region is past its size and no input meets a threat listed, no run from the precondition halts badly
abbrev pub IsSafeWhereUnmet : Procedure → List LoopInfo → List Threat → Type 0
IsSafeWhereUnmet p loops ts = ((pc : ℕ) → IsIn (first_lines loops) pc → IsPast p loops pc None) → ((t : Threat) → IsIn ts t → IsUnmet p t) → HasNoBadRun p

-- where no region is past its size and each threat listed is refuted, no run from the precondition halts badly
abbrev pub IsSafeWhereRefuted : Procedure → List LoopInfo → List Threat → Type 0
IsSafeWhereRefuted p loops ts = ((pc : ℕ) → IsIn (first_lines loops) pc → IsPast p loops pc None) → ((t : Threat) → IsIn ts t → t.verdict ≡ Refuted) → HasNoBadRun p

-- the literal that an open threat names is there, and compares a term
abbrev pub NamesItsLiteral : Threat → Type 0
NamesItsLiteral t = (i : ℕ) → t.verdict ≡ Open i
    → (n : Form) × (r : Relation) × (bound : ℤ) × (slice_get (map literal_form_of t.literals) i ≡ Some (keep n r bound))
