-- A statement keeps the rules on types exactly where it is found to.
use Rattle.std.proofs.Common.{◌≡◌, ℕ, ◌∙◌, ap, subst, refl, inl, inr, Bool, true, ◌&&◌, ◌||◌, List, ℤ, nat_eq, arith}
use Rattle.std.specs.Prelude.{Option, Some, None, is_some}
use Rattle.std.specs.Option.{option_and_then}
use Rattle.il_core.specs.Statement.{Statement, Placed}
use Rattle.il_core.specs.Statement as st
use Rattle.il_core.specs.Tree.{Tree}
use Rattle.il_core.specs.declared.statement.Bound.{Bound}
use Rattle.il_core.specs.declared.statement.Bound.TheVariants as bound
use Rattle.il_core.specs.declared.statement.TypeUse.{TypeUse}
use Rattle.il_core.specs.declared.statement.TypeUse.TheVariants as use_
use Rattle.il_types.specs.declared.kind.Kind.{Kind}
use Rattle.il_types.specs.declared.kind.Kind.TheVariants.{Whole, Truth, Enumeration}
use Rattle.il_types.specs.Names.{Spot, declaration}
use Rattle.il_types.specs.Typing.{constant_in, bound_value, kind_of_use, kind_of_variable, kind_of, is_whole, is_truth, are_whole, are_truth, are_of_one, are_bounds, is_type, may_hold, is_condition, is_typed}
use Rattle.il_built.specs.Holding.{setting_at}
use Rattle.typing_laws.specs.Typed.{StandsFor, Typed, IsEnd, literal, named, AreEnds, IsType, IsTaken, WellTyped}
use Rattle.typing_laws.proofs.ExpressionKinds.{IsFair, found, stands_declared, declared_stands, alone_index, values_kind, kind_values, variable_is, is_variable, typed_kind, kind_typed, whole_is, truth_is, both_true, one_true, none_some, one_enumeration}

-- the number of an end of a range
pub end_value : (stmts : List Placed) (i : ℕ) (b : Bound) (v : ℤ) → IsFair stmts → IsEnd stmts i b v → bound_value (setting_at stmts i) b ≡ Some v
end_value stmts i b v fair (literal n) = refl
end_value stmts i b v fair (named name called j n s) =
    ap (option_and_then (λ (d : Spot × Statement). constant_in d.1)) (stands_declared stmts i name j 0 (st.constant_is called n) fair s)

number_is : (a b : ℤ) → Some a ≡ Some b → a ≡ b
number_is a b h = cc

pub value_end : (stmts : List Placed) (i : ℕ) (b : Bound) (v : ℤ) → IsFair stmts → bound_value (setting_at stmts i) b ≡ Some v → IsEnd stmts i b v
value_end stmts i (bound.Number n) v fair e = subst (IsEnd stmts i (bound.Number n)) (number_is n v e) (literal n)
value_end stmts i (bound.Constant name) v fair e =
    let f = found (λ (d : Spot × Statement). constant_in d.1) (declaration (setting_at stmts i) name) v e in
    by f.0.0 f.0.1 f.1 f.2
  where
    by : (spot : Spot) (x : Statement) → declaration (setting_at stmts i) name ≡ Some (spot, x) → constant_in x ≡ Some v → IsEnd stmts i (bound.Constant name) v
    by spot (st.constant_is called n) f g =
        let s = declared_stands stmts i name spot (st.constant_is called n) fair f in
        let first = subst (λ k. StandsFor stmts i name spot.0 k (st.constant_is called n)) (alone_index stmts i name spot.0 spot.1 (st.constant_is called n) called refl s) s in
        subst (IsEnd stmts i (bound.Constant name)) (number_is n v g) (named name called spot.0 n first)
    by spot _ f g = none_some v g

there : {A : Type 0} (o : Option A) → is_some o ≡ true → (a : A) × (o ≡ Some a)
there None h = absurd (cc)
there (Some a) h = (a, refl)

both : (a b : Bool) → a ≡ true → b ≡ true → (a && b) ≡ true
both a b e f = ap (λ t. t && b) e ∙ f

ends_are : (stmts : List Placed) (i : ℕ) (least greatest : Bound) → IsFair stmts → AreEnds stmts i least greatest → are_bounds (setting_at stmts i) least greatest ≡ true
ends_are stmts i least greatest fair a =
    both _ _ (ap is_some (end_value stmts i least a.low fair a.is_low)) (ap is_some (end_value stmts i greatest a.high fair a.is_high))

are_ends : (stmts : List Placed) (i : ℕ) (least greatest : Bound) → IsFair stmts → are_bounds (setting_at stmts i) least greatest ≡ true → AreEnds stmts i least greatest
are_ends stmts i least greatest fair h =
    let b = both_true _ _ h in
    let low = there (bound_value (setting_at stmts i) least) b.0 in
    let high = there (bound_value (setting_at stmts i) greatest) b.1 in
    record { low = low.0; high = high.0; is_low = value_end stmts i least low.0 fair low.1; is_high = value_end stmts i greatest high.0 fair high.1 }

-- a type that may be used
type_is : (stmts : List Placed) (i : ℕ) (type : TypeUse) → IsFair stmts → IsType stmts i type → is_type (setting_at stmts i) type ≡ true
type_is stmts i use_.Bool fair t = refl
type_is stmts i (use_.Named name) fair t = ap is_some (values_kind stmts i (use_.Named name) t.0 fair t.1)
type_is stmts i (use_.Range least greatest) fair t = ends_are stmts i least greatest fair t
type_is stmts i (use_.Wrap least greatest) fair t = ends_are stmts i least greatest fair t

is_a_type : (stmts : List Placed) (i : ℕ) (type : TypeUse) → IsFair stmts → is_type (setting_at stmts i) type ≡ true → IsType stmts i type
is_a_type stmts i use_.Bool fair h = tt
is_a_type stmts i (use_.Named name) fair h = let k = there (kind_of_use (setting_at stmts i) (use_.Named name)) h in (k.0, kind_values stmts i (use_.Named name) k.0 fair k.1)
is_a_type stmts i (use_.Range least greatest) fair h = are_ends stmts i least greatest fair h
is_a_type stmts i (use_.Wrap least greatest) fair h = are_ends stmts i least greatest fair h

-- a condition
condition_is : (stmts : List Placed) (i : ℕ) (e : Tree) → IsFair stmts → Typed stmts i e Truth → is_condition (setting_at stmts i) e ≡ true
condition_is stmts i e fair t = ap is_truth (typed_kind stmts i e Truth fair t)

is_a_condition : (stmts : List Placed) (i : ℕ) (e : Tree) → IsFair stmts → is_condition (setting_at stmts i) e ≡ true → Typed stmts i e Truth
is_a_condition stmts i e fair h = kind_typed stmts i e Truth fair (truth_is (kind_of (setting_at stmts i) e) h)

itself : (j : ℕ) → nat_eq j j ≡ true
itself j = grind arith

-- values of one kind
one_kind : (k : Kind) → may_hold (Some k) (Some k) ≡ true
one_kind Whole = refl
one_kind Truth = refl
one_kind (Enumeration j) = itself j

taken_is : (stmts : List Placed) (i : ℕ) (name : List ℕ) (e : Tree) → IsFair stmts → IsTaken stmts i name e → may_hold (kind_of_variable (setting_at stmts i) name) (kind_of (setting_at stmts i) e) ≡ true
taken_is stmts i name e fair t =
    ap (λ o. may_hold o (kind_of (setting_at stmts i) e)) (variable_is stmts i name t.kind fair t.target)
    ∙ ap (may_hold (Some t.kind)) (typed_kind stmts i e t.kind fair t.value) ∙ one_kind t.kind

-- a choice of sides of one kind
held : (o p : Option Kind) → may_hold o p ≡ true → (k : Kind) × (o ≡ Some k) × (p ≡ Some k)
held o p h = elim (one_true (are_whole o p) (are_truth o p || are_of_one o p) h) [
  | inl w ↦ let b = both_true (is_whole o) (is_whole p) w in (Whole, whole_is o b.0, whole_is p b.1)
  | inr r ↦ elim (one_true (are_truth o p) (are_of_one o p) r) [
    | inl t ↦ let b = both_true (is_truth o) (is_truth p) t in (Truth, truth_is o b.0, truth_is p b.1)
    | inr e ↦ let n = one_enumeration o p e in (Enumeration n.0, n.1, n.2)
  ]
]

is_taken : (stmts : List Placed) (i : ℕ) (name : List ℕ) (e : Tree) → IsFair stmts → may_hold (kind_of_variable (setting_at stmts i) name) (kind_of (setting_at stmts i) e) ≡ true → IsTaken stmts i name e
is_taken stmts i name e fair h =
    let k = held (kind_of_variable (setting_at stmts i) name) (kind_of (setting_at stmts i) e) h in
    record { kind = k.0; target = is_variable stmts i name k.0 fair k.1; value = kind_typed stmts i e k.0 fair k.2 }

pub well_typed_is : (stmts : List Placed) (i : ℕ) (x : Statement) → IsFair stmts → WellTyped stmts i x → is_typed (setting_at stmts i) x ≡ true
well_typed_is stmts i (st.range_type name least greatest) fair w = ends_are stmts i least greatest fair w
well_typed_is stmts i (st.wrap_type name least greatest) fair w = ends_are stmts i least greatest fair w
well_typed_is stmts i (st.variable mode name type) fair w = type_is stmts i type fair w
well_typed_is stmts i (st.pre e) fair w = condition_is stmts i e fair w
well_typed_is stmts i (st.post e) fair w = condition_is stmts i e fair w
well_typed_is stmts i (st.assign name e) fair w = taken_is stmts i name e fair w
well_typed_is stmts i (st.if_true e) fair w = condition_is stmts i e fair w
well_typed_is stmts i (st.exit_when e) fair w = condition_is stmts i e fair w
well_typed_is stmts i (st.assert e) fair w = condition_is stmts i e fair w
well_typed_is stmts i _ fair w = refl

pub is_well_typed : (stmts : List Placed) (i : ℕ) (x : Statement) → IsFair stmts → is_typed (setting_at stmts i) x ≡ true → WellTyped stmts i x
is_well_typed stmts i (st.range_type name least greatest) fair h = are_ends stmts i least greatest fair h
is_well_typed stmts i (st.wrap_type name least greatest) fair h = are_ends stmts i least greatest fair h
is_well_typed stmts i (st.variable mode name type) fair h = is_a_type stmts i type fair h
is_well_typed stmts i (st.pre e) fair h = is_a_condition stmts i e fair h
is_well_typed stmts i (st.post e) fair h = is_a_condition stmts i e fair h
is_well_typed stmts i (st.assign name e) fair h = is_taken stmts i name e fair h
is_well_typed stmts i (st.if_true e) fair h = is_a_condition stmts i e fair h
is_well_typed stmts i (st.exit_when e) fair h = is_a_condition stmts i e fair h
is_well_typed stmts i (st.assert e) fair h = is_a_condition stmts i e fair h
is_well_typed stmts i _ fair h = tt
