-- What an accepted certificate shows: no input of the region meets all literals, and so none takes a threat that has them.
-- And an item has one quantity at most.
use Rattle.std.specs.Prelude.{◌≡◌, ℕ, List}
use Rattle.il_core.specs.Evaluation.{State}
use Rattle.il_core.specs.Input.{IsInput}
use Rattle.il_core.specs.Procedure.{Procedure}
use Rattle.il_core.specs.declared.line.Place.{Place}
use Rattle.control_flow.specs.declared.control.LoopInfo.{LoopInfo}
use Rattle.region_paths.specs.Listing.{RegionPath}
use Rattle.region_paths.specs.Laws.{BeginsRegion}
use Rattle.sym_simplify.specs.Norm.{Summand}
use Rattle.sym_simplify.specs.Literal.{LiteralForm}
use Rattle.path_inputs.specs.Least.{HasNoInput}
use Rattle.semantic_tables.specs.Row.{forms_of}
use Rattle.compliance.specs.Threat.{IsThreat}
use Rattle.compliance.specs.Verdict.{TakesPath}
use Rattle.il_core.specs.Certificate.{Certificate}
use Rattle.cert_rules.specs.Quantity.{IsQuantity}
use Rattle.cert_rules.specs.Acceptance.{IsAccepted}
use Rattle.il_core.specs.declared.certificate.Item.{Item}

abbrev pub AcceptedThreatsHaveNoInput : Type 0
AcceptedThreatsHaveNoInput = (places : List Place) (pc : ℕ) (fs : List LiteralForm) (c : Certificate) → IsAccepted places pc fs c → HasNoInput places pc fs

abbrev pub AcceptedThreatsAreNotTaken : Type 0
AcceptedThreatsAreNotTaken = (p : Procedure) (loops : List LoopInfo) (pc : ℕ) (r : RegionPath) (c : Certificate) → BeginsRegion p loops pc → IsThreat p loops pc r
    → IsAccepted p.places pc (forms_of r) c → (s : State) → IsInput p.places pc s → TakesPath p pc s r → ⊥

abbrev pub OneQuantity : Type 0
OneQuantity = (places : List Place) (pc : ℕ) (fs : List LiteralForm) (i : Item) (q r : List Summand) → IsQuantity places pc fs i q → IsQuantity places pc fs i r → q ≡ r
