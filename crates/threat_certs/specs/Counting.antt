-- Each constraint that literals and OLD copies put on the places is counted by an item: its quantity is how far values are from the bound.
use Rattle.std.specs.Prelude.{◌≡◌, ◌≢◌, ◌-◌, ℕ, zero, suc, ℤ, Option, Some, None, List, [], ◌∷◌, ◌++◌, map, length, slice_get}
use Rattle.il_core.specs.Evaluation.{State}
use Rattle.il_core.specs.LineGraph.{IsIn}
use Rattle.il_core.specs.Run.{variable_count}
use Rattle.il_core.specs.declared.certificate.Item.{Item}
use Rattle.il_core.specs.declared.certificate.Item.TheVariants.{Up, Down, Never, OldUp, OldDown}
use Rattle.il_core.specs.declared.line.Place.{Place}
use Rattle.il_core.specs.declared.operator.Relation.{Relation}
use Rattle.il_core.specs.declared.operator.Relation.TheVariants.{Eq, Ne, Lt, Le, Gt, Ge}
use Rattle.sym_simplify.specs.Form.{Form, place, pair, form_value}
use Rattle.sym_simplify.specs.Norm.{Summand, alone, often, normal_of}
use Rattle.sym_simplify.specs.Literal.{LiteralForm, always, never, keep}
use Rattle.sym_simplify.specs.Easy.{IsKept, multiple_of}
use Rattle.sym_simplify.specs.declared.easy.Multiple.{Multiple}
use Rattle.difference.specs.Chains.{room}
use Rattle.difference.specs.declared.constraint.Constraint.{Constraint}
use Rattle.difference.specs.declared.constraint.Split.{Split}
use Rattle.path_inputs.specs.Bounding.{either_side, splits_of}
use Rattle.cert_rules.specs.Quantity.{IsQuantity}
use Rattle.threat_certs.specs.declared.counting.Fork.{Fork}

-- a number, or a place as often as a coefficient says
abbrev pub IsOfPlaces : List Summand → Type 0
IsOfPlaces [] = Unit {0}
IsOfPlaces (alone c ∷ more) = IsOfPlaces more
IsOfPlaces (often c (place p) ∷ more) = IsOfPlaces more
IsOfPlaces (often c (pair k m n) ∷ more) = ⊥

-- the quantity of the item is how far values are from the bound of the constraint
pub record IsCounted (places : List Place) (pc : ℕ) (fs : List LiteralForm) (c : Constraint) (item : Item) : Type 0 where
  pub quantity : List Summand
  pub is_quantity : IsQuantity places pc fs item quantity
  pub of_places : IsOfPlaces quantity
  pub room_is : (s : State) → form_value (normal_of quantity) s ≡ room (Some c) s

-- each constraint by the item at its place
abbrev pub AreCounted : List Place → ℕ → List LiteralForm → List Constraint → List Item → Type 0
AreCounted places pc fs [] items = items ≡ []
AreCounted places pc fs (c ∷ cs) [] = ⊥
AreCounted places pc fs (c ∷ cs) (item ∷ items) = IsCounted places pc fs c item × AreCounted places pc fs cs items

-- the items that count the constraints of a multiple compared like this
abbrev pub relation_items : ℕ → Relation → List Item
relation_items i Eq = Up i ∷ Down i ∷ []
relation_items i Ne = []
relation_items i Lt = Up i ∷ []
relation_items i Le = Up i ∷ []
relation_items i Gt = Down i ∷ []
relation_items i Ge = Down i ∷ []

abbrev pub easy_items : ℕ → Option Multiple → Relation → List Item
easy_items i None r = []
easy_items i (Some m) r = relation_items i r

-- those of the form with number i
abbrev pub items_in : ℕ → LiteralForm → List Item
items_in i always = []
items_in i never = Never i ∷ []
items_in i (keep n r bound) = easy_items i (multiple_of n) r

-- those of forms that are numbered from i on
abbrev pub items_from : ℕ → List LiteralForm → List Item
items_from i [] = []
items_from i (f ∷ fs) = items_in i f ++ items_from (suc i) fs

-- those of n OLD copies from place c on
abbrev pub copied_items : ℕ → ℕ → List Item
copied_items c zero = []
copied_items c (suc n) = OldUp c ∷ OldDown c ∷ copied_items (suc c) n

abbrev pub copy_items : List Place → ℕ → List Item
copy_items places zero = copied_items (variable_count places) (length places - variable_count places)
copy_items places (suc pc) = []

abbrev pub fork_at : ℕ → Split → Fork
fork_at i s = record { literal = i; split = s }

-- the splits of forms that are numbered from i on, with their numbers
abbrev pub forks_from : ℕ → List LiteralForm → List Fork
forks_from i [] = []
forks_from i (f ∷ fs) = map (fork_at i) (splits_of f) ++ forks_from (suc i) fs

abbrev pub splits_among : List Fork → List Split
splits_among forks = map (λ f. f.split) forks

-- the fork is of an easy `/=`
pub record IsFork (fs : List LiteralForm) (f : Fork) : Type 0 where
  pub parts : Form
  pub bound : ℤ
  pub there : slice_get fs f.literal ≡ Some (keep parts Ne bound)
  pub kept : IsKept (keep parts Ne bound)
  pub multiple : Multiple
  pub easy : multiple_of parts ≡ Some multiple
  pub sides : f.split ≡ either_side multiple bound

-- no fork is of the literal with this number
abbrev pub IsApart : ℕ → List Fork → Type 0
IsApart i forks = (f : Fork) → IsIn forks f → i ≢ f.literal

-- forks of literals of which none stands twice
abbrev pub AreForks : List LiteralForm → List Fork → Type 0
AreForks fs [] = Unit {0}
AreForks fs (f ∷ forks) = IsFork fs f × IsApart f.literal forks × AreForks fs forks
