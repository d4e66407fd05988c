-- What a statement declares by its names, and what the table of the first statements says of it.
use Rattle.std.proofs.Common.{◌≡◌, ◌≢◌, ℕ, zero, suc, ◌<◌, ◌∙◌, sym, ap, subst, refl, inl, inr, ◌⊎◌, List, [], ◌∷◌, arith}
use Rattle.std.specs.Prelude.{Some, None, slice_get}
use Rattle.il_core.specs.Statement.{Statement, Placed}
use Rattle.il_core.specs.Statement as st
use Rattle.il_core.specs.declared.statement.Mode.{Mode}
use Rattle.il_core.specs.declared.statement.TypeUse.{TypeUse}
use Rattle.il_types.specs.Names.{Spot, declared_names, scope_of}
use Rattle.typing_laws.specs.Declared.{Says, Names, a_constant, a_range, a_wrapping, an_enumeration, a_value, a_procedure, IsShared, Begins, IsVariable}
use Rattle.typing_laws.proofs.Standing.{count, stands_in}
use Rattle.typing_laws.proofs.Entries.{Made}

-- each variable stands in a procedure, and what is no variable nor a procedure stands in front of all of them
pub record ArePlaced (stmts : List Placed) : Type 0 where
  pub owned : (j : ℕ) (mode : Mode) (name : List ℕ) (type : TypeUse) → Says stmts j (st.variable mode name type) → count stmts j ≢ 0
  pub first : (j k : ℕ) (name : List ℕ) → IsShared stmts j k name → Begins stmts j ⊎ (count stmts j ≡ 0)

-- a name that all procedures share
pub record IsName (x : Statement) (k : ℕ) (name : List ℕ) : Type 0 where
  pub named : slice_get (declared_names x) k ≡ Some name
  pub scope : (owner : ℕ) → scope_of owner x ≡ 0

pub names_are : (x : Statement) (k : ℕ) (name : List ℕ) → Names x k name → IsName x k name
names_are x k name (a_constant called value) = record { named = refl; scope = λ o. refl }
names_are x k name (a_range called least greatest) = record { named = refl; scope = λ o. refl }
names_are x k name (a_wrapping called least greatest) = record { named = refl; scope = λ o. refl }
names_are x k name (an_enumeration called values) = record { named = refl; scope = λ o. refl }
names_are x k name (a_value called word values n h) = record { named = h; scope = λ o. refl }
names_are x k name (a_procedure called) = record { named = refl; scope = λ o. refl }

-- the variable that a statement declares
pub record IsVariableName (x : Statement) (k : ℕ) (name : List ℕ) : Type 0 where
  pub mode : Mode
  pub type : TypeUse
  pub is : x ≡ st.variable mode name type
  pub alone : k ≡ 0

-- the one name of a list
only : (called name : List ℕ) (k : ℕ) → slice_get (called ∷ []) k ≡ Some name → (k ≡ 0) × (called ≡ name)
only called name zero h = (refl, cc)
only called name (suc k) h = absurd (cc)

alone : (x : Statement) (called name : List ℕ) (k : ℕ) → Names x 0 called → slice_get (called ∷ []) k ≡ Some name → Names x k name
alone x called name k n h =
    let o = only called name k h in
    subst (λ m. Names x m name) (sym o.0) (subst (λ l. Names x 0 l) o.1 n)

nothing : {A : Type 0} (name : List ℕ) → None ≡ Some name → A
nothing name h = absurd (cc)

-- a name of a statement is a shared one or that of its variable
pub are_names : (x : Statement) (k : ℕ) (name : List ℕ) → slice_get (declared_names x) k ≡ Some name → Names x k name ⊎ IsVariableName x k name
are_names (st.constant_is called value) k name h = inl (alone _ called name k (a_constant called value) h)
are_names (st.range_type called least greatest) k name h = inl (alone _ called name k (a_range called least greatest) h)
are_names (st.wrap_type called least greatest) k name h = inl (alone _ called name k (a_wrapping called least greatest) h)
are_names (st.enum_type called values) zero name h =
    let e : called ≡ name = cc in inl (subst (λ l. Names (st.enum_type called values) 0 l) e (an_enumeration called values))
are_names (st.enum_type called values) (suc k) name h = inl (a_value called name values k h)
are_names (st.procedure called) k name h = inl (alone _ called name k (a_procedure called) h)
are_names (st.variable mode called type) k name h =
    let o = only called name k h in
    inr (record { mode = mode; type = type; is = ap (λ l. st.variable mode l type) o.1; alone = o.0 })
are_names _ k name h = nothing name h

zero_one : {A : Type 0} → suc zero ≡ zero → A
zero_one h = absurd (omega arith)

-- no statement declares both
pub not_both : {A : Type 0} (x : Statement) (k l : ℕ) (name other : List ℕ) → Names x k name → IsVariableName x l other → A
not_both x k l name other n v = zero_one (sym (ap (scope_of 1) v.is) ∙ (names_are x k name n).scope 1)

-- a shared name is made in the scope of the whole text
pub shared_made : (stmts : List Placed) (n j k : ℕ) (name : List ℕ) → IsShared stmts j k name → j < n → Made stmts n (0, name) (j, k)
shared_made stmts n j k name s lt =
    let is = names_are s.stmt k name s.names in
    record { stmt = s.stmt; says = s.says; below = lt; scope = sym (is.scope (count stmts j)); named = is.named }

-- and what is made there is shared
pub made_shared : (stmts : List Placed) (n : ℕ) (name : List ℕ) (spot : Spot) → ArePlaced stmts → Made stmts n (0, name) spot → IsShared stmts spot.0 spot.1 name
made_shared stmts n name spot placed m = elim (are_names m.stmt spot.1 name m.named) [
  | inl names ↦ record { stmt = m.stmt; says = m.says; names = names }
  | inr v ↦ absurd (placed.owned spot.0 v.mode name v.type (m.says ∙ ap Some v.is) (sym (m.scope ∙ ap (scope_of (count stmts spot.0)) v.is)))
]

-- the variable is made in the scope of its procedure
pub variable_made : (stmts : List Placed) (n p j : ℕ) (name : List ℕ) → IsVariable stmts p j name → j < n → Made stmts n (count stmts j, name) (j, 0)
variable_made stmts n p j name v lt = record { stmt = st.variable v.mode name v.type; says = v.says; below = lt; scope = refl; named = refl }

-- a variable of a procedure with this number
pub record IsOwned (stmts : List Placed) (owner : ℕ) (name : List ℕ) (spot : Spot) : Type 0 where
  pub procedure : ℕ
  pub variable : IsVariable stmts procedure spot.0 name
  pub owner_is : count stmts spot.0 ≡ owner
  pub alone : spot.1 ≡ 0

pub made_variable : (stmts : List Placed) (n owner : ℕ) (name : List ℕ) (spot : Spot) → owner ≢ 0 → Made stmts n (owner, name) spot → IsOwned stmts owner name spot
made_variable stmts n owner name spot some m = elim (are_names m.stmt spot.1 name m.named) [
  | inl names ↦ absurd (some (m.scope ∙ (names_are m.stmt spot.1 name names).scope (count stmts spot.0)))
  | inr v ↦
      let own : count stmts spot.0 ≡ owner = sym (m.scope ∙ ap (scope_of (count stmts spot.0)) v.is) in
      let s = stands_in stmts spot.0 (λ e. some (sym own ∙ e)) in
      record {
        procedure = s.0;
        variable = record { mode = v.mode; type = v.type; says = m.says ∙ ap Some v.is; stands = s.1 };
        owner_is = own;
        alone = v.alone;
      }
]
