-- A table that grows from left to right: each entry is made from one node and the entries before it.
use Rattle.std.specs.Prelude.{◌≡◌, List, [], ◌∷◌, ◌++◌, length, take}

abbrev pub grown : {N V : Type 0} → (List V → N → V) → List V → List N → List V
grown make done [] = done
grown make done (n ∷ ns) = grown make (done ++ make done n ∷ []) ns

-- the old elements stand at their positions; more may follow
pub record Keeps {X : Type 0} (old new : List X) : Type 0 where
  pub front : take (length old) new ≡ old
