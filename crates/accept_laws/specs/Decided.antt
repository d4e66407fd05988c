-- Each text, of whatever length, is accepted, with its expansion, or has a first refusal.
use Rattle.std.specs.Prelude.{ℕ, ◌⊎◌, List}
use Rattle.il_core.specs.declared.refusal.Refusal.{Refusal}
use Rattle.il_inline.specs.Expanded.{WholeExpansion}
use Rattle.acceptance.specs.Acceptance.{Accepts, HasRefusal}

-- some expansion is that of the text, or some refusal is its first
abbrev pub Decided : Type 0
Decided = (text : List ℕ) → ((x : WholeExpansion) × Accepts text x) ⊎ ((refusal : Refusal) × HasRefusal text refusal)
