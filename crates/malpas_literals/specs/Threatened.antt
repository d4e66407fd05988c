-- A procedure with its threats: those of all regions within their size where each loop has one entry, and none told where some has two.
use Rattle.std.specs.Prelude.{◌≡◌, List, [], ◌∷◌, Option, None, Some}
use Rattle.compliance.specs.Safe.{AreThreatsOf}
use Rattle.compliance.specs.declared.threat.Threat.{Threat}
use Rattle.control_flow.specs.Control.{IsControlOf}
use Rattle.control_flow.specs.declared.control.Control.{Control}
use Rattle.control_flow.specs.declared.control.LoopInfo.{LoopInfo}
use Rattle.control_flow.specs.declared.control.Shape.{Shape}
use Rattle.control_flow.specs.declared.control.Shape.TheVariants.{Reducible, TwoEntries}
use Rattle.flow_graph.specs.Graph.{graph_of}
use Rattle.il_core.specs.Procedure.{Procedure}
use Rattle.il_core.specs.Text.{TextProcedure}
use Rattle.region_paths.specs.Region.{first_lines}
use Rattle.malpas_literals.specs.declared.threats.Threatened.{Threatened}

-- they are told exactly where the shape is reducible
abbrev pub AreThreatsBy : Procedure → List LoopInfo → Shape → Option (List Threat) → Type 0
AreThreatsBy p loops Reducible None = ⊥
AreThreatsBy p loops Reducible (Some ts) = AreThreatsOf p loops (first_lines loops) ts
AreThreatsBy p loops (TwoEntries e) None = Unit {0}
AreThreatsBy p loops (TwoEntries e) (Some ts) = ⊥

pub record IsThreatened (p : TextProcedure) (r : Threatened) : Type 0 where
  pub name : r.name ≡ p.name
  pub places : r.places ≡ p.body.places
  pub control : Control
  pub structure : IsControlOf (graph_of p.body) control
  pub threats : AreThreatsBy p.body control.loops control.shape r.threats

-- one for each procedure
abbrev pub AreThreatened : List TextProcedure → List Threatened → Type 0
AreThreatened [] [] = Unit {0}
AreThreatened [] (r ∷ rs) = ⊥
AreThreatened (p ∷ ps) [] = ⊥
AreThreatened (p ∷ ps) (r ∷ rs) = IsThreatened p r × AreThreatened ps rs
