-- The lines to which a line may lead, as the list that `Heads` holds.
use Rattle.std.specs.Prelude.{ℕ, List, [], ◌∷◌}
use Rattle.flow_graph.specs.declared.building.Heads.{Heads}
use Rattle.flow_graph.specs.declared.building.Heads.TheVariants.{Nowhere, One, Two}

abbrev pub heads_in : Heads → List ℕ
heads_in Nowhere = []
heads_in (One a) = a ∷ []
heads_in (Two a b) = a ∷ b ∷ []
