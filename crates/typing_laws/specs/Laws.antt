-- The declarations and the kinds that these definitions give are those by which a text is accepted or refused.
use Rattle.std.specs.Prelude.{◌≡◌, ◌≢◌, ◌↔◌, ℕ, ◌<◌, true, false, List, None, Some, is_some}
use Rattle.il_core.specs.Bounds.{Bounds, IsNarrow, bounds_of}
use Rattle.il_core.specs.Expression.{Expression}
use Rattle.il_core.specs.Statement.{Statement, Placed}
use Rattle.il_core.specs.Tree.{Tree}
use Rattle.il_types.specs.declared.kind.Kind.{Kind}
use Rattle.il_types.specs.declared.kind.Kind.TheVariants.{Truth}
use Rattle.il_types.specs.declared.modes.Part.{Part}
use Rattle.il_types.specs.Built.{built}
use Rattle.il_types.specs.Modes.{keeps_modes, is_allowed}
use Rattle.il_types.specs.Names.{in_force}
use Rattle.il_types.specs.Narrow.{static_bounds}
use Rattle.il_types.specs.Ranges.{has_range}
use Rattle.il_types.specs.Rules.{twice_at, Answers}
use Rattle.il_types.specs.Typing.{kind_of, is_typed}
use Rattle.il_types.specs.Unknown.{unknown}
use Rattle.il_syntax.specs.Order.{IsInOrder}
use Rattle.il_built.specs.Holding.{setting_at}
use Rattle.typing_laws.specs.Accepted.{KeepsRules}
use Rattle.typing_laws.specs.Allowed.{BreaksModes, IsEmptyRange}
use Rattle.typing_laws.specs.Bounded.{Bounded, HasSmallParts, AllWellTyped}
use Rattle.typing_laws.specs.Declared.{Says, DeclaredTwice, DeclaredOnce, InForce, IsKnown}
use Rattle.typing_laws.specs.Means.{own_places, Means}
use Rattle.typing_laws.specs.Parts.{HasExpression}
use Rattle.typing_laws.specs.Typed.{Typed, WellTyped}
use Rattle.typing_laws.specs.Used.{used_names, IsFirstUnknown, AreKnown}

-- the first name of statement i that has a declaration before
pub record IsFirstTwice (stmts : List Placed) (i : ℕ) (name : List ℕ) : Type 0 where
  pub index : ℕ
  pub twice : DeclaredTwice stmts i index name
  pub first : (k : ℕ) (other : List ℕ) → k < index → DeclaredTwice stmts i k other → ⊥

pub record TwiceIsRefused (stmts : List Placed) (i : ℕ) (x : Statement) : Type 0 where
  pub refused : (name : List ℕ) → (twice_at stmts i x ≡ Some name) ↔ IsFirstTwice stmts i name
  pub accepted : (twice_at stmts i x ≡ None) ↔ ((k : ℕ) (name : List ℕ) → DeclaredTwice stmts i k name → ⊥)

abbrev pub DeclaredTwiceIsRefused : Type 0
DeclaredTwiceIsRefused = (stmts : List Placed) → IsInOrder stmts → (i : ℕ) (x : Statement) → Says stmts i x → TwiceIsRefused stmts i x

pub record ForceIsFound (stmts : List Placed) (i : ℕ) (name : List ℕ) : Type 0 where
  pub known : (is_some (in_force (setting_at stmts i) name) ≡ true) ↔ IsKnown stmts i name
  pub found : DeclaredOnce stmts → (j k : ℕ) → (in_force (setting_at stmts i) name ≡ Some (j, k)) ↔ InForce stmts i name j k

abbrev pub InForceIsFound : Type 0
InForceIsFound = (stmts : List Placed) → IsInOrder stmts → (i : ℕ) (name : List ℕ) → ForceIsFound stmts i name

abbrev pub TypedIsAccepted : Type 0
TypedIsAccepted = (stmts : List Placed) → IsInOrder stmts → DeclaredOnce stmts → (i : ℕ) (e : Tree) (kind : Kind)
    → (kind_of (setting_at stmts i) e ≡ Some kind) ↔ Typed stmts i e kind

abbrev pub WellTypedIsAccepted : Type 0
WellTypedIsAccepted = (stmts : List Placed) → IsInOrder stmts → DeclaredOnce stmts → (i : ℕ) (x : Statement)
    → (is_typed (setting_at stmts i) x ≡ true) ↔ WellTyped stmts i x

-- the first name that a statement uses without a declaration in force, in the order in which it is written
pub record UnknownIsRefused (stmts : List Placed) (i : ℕ) (x : Statement) : Type 0 where
  pub refused : (name : List ℕ) → (unknown (setting_at stmts i) x ≡ Some name) ↔ IsFirstUnknown stmts i (used_names x) name
  pub accepted : (unknown (setting_at stmts i) x ≡ None) ↔ AreKnown stmts i (used_names x)

abbrev pub UnknownNamesAreRefused : Type 0
UnknownNamesAreRefused = (stmts : List Placed) → IsInOrder stmts → (i : ℕ) (x : Statement) → UnknownIsRefused stmts i x

abbrev pub BrokenModesAreRefused : Type 0
BrokenModesAreRefused = (stmts : List Placed) → IsInOrder stmts → DeclaredOnce stmts → (i : ℕ) (x : Statement)
    → (is_allowed (setting_at stmts i) x ≡ false) ↔ BreaksModes stmts i x

abbrev pub EmptyRangesAreRefused : Type 0
EmptyRangesAreRefused = (stmts : List Placed) → IsInOrder stmts → DeclaredOnce stmts → (i : ℕ) (x : Statement)
    → (has_range (setting_at stmts i) x ≡ false) ↔ IsEmptyRange stmts i x

-- static bounds are found exactly where no part of the expression has any that are too wide, and those of an expression that is no condition are
-- the ones that the rules give
pub record BoundsAreFound (stmts : List Placed) (i : ℕ) (e : Tree) (kind : Kind) : Type 0 where
  pub there : (is_some (static_bounds (setting_at stmts i) e) ≡ true) ↔ HasSmallParts stmts i e
  pub exact : kind ≢ Truth → (b : Bounds) → (static_bounds (setting_at stmts i) e ≡ Some b) ↔ (Bounded stmts i e b × HasSmallParts stmts i e)

abbrev pub StaticBoundsAreFound : Type 0
StaticBoundsAreFound = (stmts : List Placed) → IsInOrder stmts → DeclaredOnce stmts → AllWellTyped stmts → (i : ℕ) (e : Tree) (kind : Kind) → Typed stmts i e kind
    → BoundsAreFound stmts i e kind

-- no rule of names, types, modes, ranges, bounds and limits refuses a text in order exactly where it keeps these rules
abbrev pub RulesAreKept : Type 0
RulesAreKept = (stmts : List Placed) → IsInOrder stmts → Answers stmts None ↔ KeepsRules stmts

-- the static bounds of an expression as it is written are there exactly where each part of what is built of it has small bounds over the places
-- of its procedure, and they are the bounds of that
abbrev pub BoundsAreShared : Type 0
BoundsAreShared = (stmts : List Placed) → IsInOrder stmts → (i : ℕ) (x : Statement) (part : Part) (e : Tree) → Says stmts i x → HasExpression x part e
    → keeps_modes (setting_at stmts i) part e ≡ true → (b : Bounds)
    → (static_bounds (setting_at stmts i) e ≡ Some b) ↔ ((bounds_of (own_places stmts i) (built (setting_at stmts i) e) ≡ b) × IsNarrow (own_places stmts i) (built (setting_at stmts i) e))

-- what is built of an expression of a text that keeps the rules is what it stands for
abbrev pub MeaningIsBuilt : Type 0
MeaningIsBuilt = (stmts : List Placed) → IsInOrder stmts → KeepsRules stmts → (i : ℕ) (x : Statement) (part : Part) (d : Tree) → Says stmts i x → HasExpression x part d
    → (y : Expression) → (built (setting_at stmts i) d ≡ y) ↔ Means stmts i d y
