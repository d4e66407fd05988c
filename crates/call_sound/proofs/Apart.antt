-- A name that stands for a variable has the place of that variable, so names that differ have places that differ.
use Rattle.std.proofs.Common.{◌≡◌, ◌⊎◌, ℕ, zero, suc, ◌∙◌, sym, ap, refl, inl, inr, Bool, true, false, List, [], ◌∷◌, length, nat_eq, if◌then◌else◌}
use Rattle.std.specs.Prelude.{Option, Some, None, nat_lt, slice_get, unwrap_or}
use Rattle.std.specs.Option.{option_map, option_or}
use Rattle.std.specs.Map.{lookup}
use Rattle.std.proofs.Math.Seq.{take-length}
use Rattle.std.proofs.lemmas.Option.{same_Some}
use Rattle.il_core.specs.Statement.{Statement, Placed, variable}
use Rattle.il_core.specs.declared.line.Place.{Place}
use Rattle.il_core.specs.declared.statement.Mode.{Mode}
use Rattle.il_core.specs.declared.statement.TypeUse.{TypeUse}
use Rattle.il_syntax.specs.Order.{IsInOrder}
use Rattle.il_types.specs.declared.kind.Kind.{Kind}
use Rattle.il_types.specs.Built.{place_of, place_number, assigned_place}
use Rattle.il_types.specs.Names.{Setting, Spot, same_key, front_of, counts_at, earlier, of_procedure, in_force, said, declaration, declared_names}
use Rattle.il_types.specs.Typing.{variable_in, kind_of_variable}
use Rattle.il_built.specs.CheckedText.{places_of}
use Rattle.il_built.specs.Holding.{setting_at}
use Rattle.il_built.proofs.Entered.{bound, mapped, own_variable}
use Rattle.il_built.proofs.PlacesHold.{places_hold}
use Rattle.il_built.proofs.VariablesFirst.{owned}
use Rattle.typing_laws.proofs.Entries.{Made, found_made}
use Rattle.typing_laws.proofs.Standing.{says_of, one_said}

either : {A : Type 0} (o p : Option A) (a : A) → option_or o p ≡ Some a → (o ≡ Some a) ⊎ (p ≡ Some a)
either None p a e = inr e
either (Some x) p a e = inl e

within_procedure : (b : Bool) (o : Option Spot) (spot : Spot) → (if b then None else o) ≡ Some spot → o ≡ Some spot
within_procedure true o spot e = absurd (cc)
within_procedure false o spot e = e

before : (at : ℕ) (o : Option Spot) (spot : Spot) → earlier at o ≡ Some spot → o ≡ Some spot
before at None spot e = absurd (cc)
before at (Some x) spot e = by_test (nat_lt x.0 at) e
  where
    by_test : (b : Bool) → (if b then Some x else None) ≡ Some spot → Some x ≡ Some spot
    by_test true h = h
    by_test false h = absurd (cc)

-- a name in force is declared by the statement of its spot
in_force_made : (stmts : List Placed) (i : ℕ) (name : List ℕ) (spot : Spot) → in_force (setting_at stmts i) name ≡ Some spot
    → (scope : ℕ) × Made stmts (length stmts) (scope, name) spot
in_force_made stmts i name spot e =
    let s = setting_at stmts i in
    let whole : (scope : ℕ) → lookup (same_key (scope, name)) (front_of stmts).table ≡ Some spot → Made stmts (length stmts) (scope, name) spot =
    λ scope l. found_made stmts (length stmts) (scope, name) spot (ap (λ (xs : List Placed). lookup (same_key (scope, name)) (front_of xs).table) (take-length stmts) ∙ l) in
    elim (either (of_procedure s.table s.owner name) (earlier s.at (lookup (same_key (0, name)) s.table)) spot e) [
      | inl p ↦ (s.owner, whole s.owner (within_procedure (nat_eq s.owner 0) _ spot p))
      | inr p ↦ (0, whole 0 (before s.at _ spot p))
    ]

only : (called name : List ℕ) (k : ℕ) → slice_get (called ∷ []) k ≡ Some name → called ≡ name
only called name zero h = same_Some _ _ h
only called name (suc k) h = absurd (cc)

-- a name that stands for a variable is that of the variable
same_name : (stmts : List Placed) (i : ℕ) (name : List ℕ) (spot : Spot) (m : Mode) (called : List ℕ) (used : TypeUse)
    → declaration (setting_at stmts i) name ≡ Some (spot, variable m called used) → called ≡ name
same_name stmts i name spot m called used e =
    let found = bound (said stmts) (in_force (setting_at stmts i) name) (spot, variable m called used) e in
    let read = mapped (λ (x : Placed). (found.0, x.says)) (slice_get stmts found.0.0) (spot, variable m called used) found.2 in
    let says : read.0.says ≡ variable m called used = ap (λ (p : Spot × Statement). p.1) read.2 in
    let made = in_force_made stmts i name found.0 found.1 in
    let same : made.1.stmt ≡ variable m called used = one_said stmts found.0.0 made.1.stmt read.0.says made.1.says (says_of stmts found.0.0 read.0 read.1) ∙ says in
    only called name found.0.1 (sym (ap (λ x. slice_get (declared_names x) found.0.1) same) ∙ made.1.named)

-- the variable that a name stands for, and its place
pub record HasPlace (stmts : List Placed) (owner i : ℕ) (name : List ℕ) : Type 0 where
  pub spot : Spot
  pub mode : Mode
  pub used : TypeUse
  pub declared : declaration (setting_at stmts i) name ≡ Some (spot, variable mode name used)
  pub there : slice_get (places_of stmts owner) (assigned_place (setting_at stmts i) name) ≡ Some (place_of (setting_at stmts spot.0) (variable mode name used))

variable_is : (s : Setting) (spot : Spot) (x : Statement) (kind : Kind) → variable_in s spot x ≡ Some kind → (m : Mode) × (name : List ℕ) × (used : TypeUse) × (x ≡ variable m name used)
variable_is s spot (variable m name used) kind e = (m, name, used, refl)
variable_is s spot _ kind e = absurd (cc)

pub has_place : (stmts : List Placed) (owner i : ℕ) (name : List ℕ) (kind : Kind) → IsInOrder stmts → (counts_at stmts i).procedures ≡ owner
    → kind_of_variable (setting_at stmts i) name ≡ Some kind → HasPlace stmts owner i name
has_place stmts owner i name kind o own e =
    let s = setting_at stmts i in
    let found = bound (λ (d : Spot × Statement). variable_in s d.0 d.1) (declaration s name) kind e in
    let spot = found.0.0 in
    let v = variable_is s spot found.0.1 kind found.2 in
    let whole : declaration s name ≡ Some (spot, variable v.0 v.1 v.2) = found.1 ∙ ap (λ x. Some (spot, x)) v.3 in
    let same : v.1 ≡ name = same_name stmts i name spot v.0 v.1 v.2 whole in
    let declared : declaration s name ≡ Some (spot, variable v.0 name v.2) = whole ∙ ap (λ n. Some (spot, variable v.0 n v.2)) same in
    let is = own_variable stmts (counts_at stmts i).procedures i name spot v.0 name v.2 (owned stmts o) declared in
    let number : assigned_place s name ≡ (counts_at stmts spot.0).variables =
    ap (λ d. unwrap_or (option_map (λ (e : Spot × Statement). place_number s e.0) d) 0) declared in
    record {
      spot = spot;
      mode = v.0;
      used = v.2;
      declared = declared;
      there = ap (slice_get (places_of stmts owner)) number ∙ (places_hold stmts owner).variables spot.0 v.0 name v.2 is.declares (is.owner_is ∙ own);
    }

-- so names that have one place are one
pub one_name : (stmts : List Placed) (owner i : ℕ) (a b : List ℕ) → HasPlace stmts owner i a → HasPlace stmts owner i b
    → assigned_place (setting_at stmts i) a ≡ assigned_place (setting_at stmts i) b → a ≡ b
one_name stmts owner i a b h g e = ap (λ (p : Place). p.name) (same_Some _ _ (sym h.there ∙ ap (slice_get (places_of stmts owner)) e ∙ g.there))
