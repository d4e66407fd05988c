-- The test inputs of the first tables, and those of the next one.
use Rattle.std.proofs.Common.{◌≡◌, sym, ap, subst, ◌∙◌, ℕ, suc, ◌+◌, ◌<◌, List, [], ◌∷◌, ◌++◌, length, take, get_or, arith}
use Rattle.std.proofs.Math.Seq.{take-suc}
use Rattle.control_flow.specs.declared.control.LoopInfo.{LoopInfo}
use Rattle.flow_graph.proofs.Members.{IsIn-map, IsIn-get_or}
use Rattle.il_core.specs.LineGraph.{IsIn}
use Rattle.il_core.specs.Procedure.{Procedure}
use Rattle.region_paths.specs.Region.{first_lines}
use Rattle.semantic_tables.specs.declared.row.TableOr.{TableOr}
use Rattle.semantic_tables.specs.declared.row.TableOr.TheVariants.{Table, Past}
use Rattle.report.specs.Inputs.{AreInputsBy, AreInputs}
use Rattle.report.specs.Reported.{AreTables}
use Rattle.report.specs.declared.report.RegionInputs.{RegionInputs}
use Rattle.report.specs.declared.report.RegionTable.{RegionTable}
use Rattle.malpas_suite.proofs.Regions.{first_of}

-- what is added behind the last region
behind_more : (p : Procedure) (loops : List LoopInfo) (body : TableOr) (pc : ℕ) (B C : List RegionInputs → Type 0) (is more : List RegionInputs)
    → ((js : List RegionInputs) → B js → C (js ++ more)) → AreInputsBy p loops body pc B is → AreInputsBy p loops body pc C (is ++ more)
behind_more p loops (Past limit) pc B C is more f h = f is h
behind_more p loops (Table rows) pc B C [] more f h = absurd h
behind_more p loops (Table rows) pc B C (i ∷ is) more f h = (h.0, h.1, f is h.2)

inputs_more : (p : Procedure) (loops : List LoopInfo) (ts : List RegionTable) (is : List RegionInputs) (t : RegionTable) (more : List RegionInputs) → AreInputs p loops ts is
    → AreInputs p loops (t ∷ []) more → AreInputs p loops (ts ++ t ∷ []) (is ++ more)
inputs_more p loops [] [] t more h k = k
inputs_more p loops [] (i ∷ is) t more h k = absurd h
inputs_more p loops (x ∷ ts) is t more h k =
    behind_more p loops x.body x.pc (AreInputs p loops ts) (AreInputs p loops (ts ++ t ∷ [])) is more (λ js g. inputs_more p loops ts js t more g k) h

-- what stands before the next one, and that one
pub front_more : {X : Type 0} (xs : List X) (i : ℕ) (x : X) → i < length xs → x ≡ get_or xs i x → take (i + 1) xs ≡ take i xs ++ x ∷ []
front_more xs i x inside here =
    let next : i + 1 ≡ suc i = omega arith in ap (λ n. take n xs) next ∙ take-suc xs i x inside ∙ ap (λ y. take i xs ++ y ∷ []) (sym here)

-- the next table
pub inputs_next : (p : Procedure) (loops : List LoopInfo) (ts : List RegionTable) (i : ℕ) (t : RegionTable) (is after more : List RegionInputs) → i < length ts → t ≡ get_or ts i t
    → AreInputs p loops (take i ts) is → AreInputs p loops (t ∷ []) more → after ≡ is ++ more → AreInputs p loops (take (i + 1) ts) after
inputs_next p loops ts i t is after more inside here h k e =
    subst (AreInputs p loops (take (i + 1) ts)) (sym e)
    (subst (λ l. AreInputs p loops l (is ++ more)) (sym (front_more ts i t inside here)) (inputs_more p loops (take i ts) is t more h k))

-- what stands in a list is one of it
pub there : {X : Type 0} (ts : List X) (i : ℕ) (t : X) → i < length ts → t ≡ get_or ts i t → IsIn ts t
there ts i t inside here = subst (IsIn ts) (sym here) (IsIn-get_or ts i t inside)

-- the region of a table begins at a first line
pub begins_there : (p : Procedure) (loops : List LoopInfo) (ts : List RegionTable) (t : RegionTable) → AreTables p loops ts → IsIn ts t → IsIn (first_lines loops) t.pc
begins_there p loops ts t all i = subst (λ lines. IsIn lines t.pc) all.regions (IsIn-map first_of ts t i)
