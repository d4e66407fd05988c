-- The static bounds that are found for an expression are those that the rules give.
use Rattle.std.proofs.Common.{◌≡◌, ◌≢◌, ℕ, suc, ◌-◌, ◌∙◌, sym, ap, subst, refl, Bool, true, false, List, pos, length, arith, if◌then◌else◌}
use Rattle.std.specs.Prelude.{Option, Some, None, is_some, unwrap_or}
use Rattle.std.specs.Option.{option_and_then, option_map}
use Rattle.il_core.specs.Bounds.{Bounds, AreSmall, only, operator_bounds}
use Rattle.il_core.specs.Statement.{Statement, Placed}
use Rattle.il_core.specs.Statement as st
use Rattle.il_core.specs.Tree.{Tree}
use Rattle.il_core.specs.Tree as tree
use Rattle.il_core.specs.declared.operator.BinOp.{BinOp}
use Rattle.il_core.specs.declared.operator.BinOp.TheVariants.{Compare}
use Rattle.il_core.specs.declared.statement.Bound.{Bound}
use Rattle.il_core.specs.declared.statement.TypeUse.{TypeUse}
use Rattle.il_core.specs.declared.statement.TypeUse.TheVariants as use_
use Rattle.il_types.specs.declared.kind.Kind.{Kind}
use Rattle.il_types.specs.declared.kind.Kind.TheVariants.{Whole, Truth, Enumeration}
use Rattle.il_types.specs.declared.range.Range.{Range}
use Rattle.il_types.specs.Built.{bound_or_zero, range_between, range_in, range_of_use, is_flag, plain}
use Rattle.il_types.specs.Names.{Spot}
use Rattle.il_types.specs.Narrow.{range_bounds, variable_bounds, value_bounds, named_bounds, recalled_value, recalled_bounds, opposite_bounds, static_bounds}
use Rattle.il_types.specs.Typing.{type_in, is_truth}
use Rattle.il_built.specs.Holding.{setting_at}
use Rattle.typing_laws.specs.Bounded.{LieAt, HasLimits, IsVariableWithin, Bounded, HasSmallParts, AllWellTyped}
use Rattle.typing_laws.specs.Bounded as bounded
use Rattle.typing_laws.specs.Parts.{whole, of_minus, of_opposite, of_left, of_right}
use Rattle.typing_laws.specs.Typed.{StandsFor, HasValues, IsVariableOf, IsArithmetic, Typed, IsEnd, AreEnds, IsType, WellTyped}
use Rattle.typing_laws.specs.Typed as typed
use Rattle.typing_laws.specs.Laws.{BoundsAreFound}
use Rattle.typing_laws.proofs.ExpressionKinds.{IsFair, stands_declared, own_count, own_setting, values_kind}
use Rattle.typing_laws.proofs.StatementKinds.{end_value}
use Rattle.typing_laws.proofs.RawBounds.{raw, SmallParts, zero_small, part_small, static_agrees, agrees_static}

-- two ends as a range
ends_between : (stmts : List Placed) (i : ℕ) (wrap : Bool) (least greatest : Bound) (b : Bounds) → IsFair stmts → LieAt stmts i least greatest b
    → range_bounds (range_between (setting_at stmts i) wrap least greatest) ≡ b
ends_between stmts i wrap least greatest b fair l =
    let s = setting_at stmts i in
    ap (λ o. record { low = unwrap_or o (pos 0); high = bound_or_zero s greatest }) (end_value stmts i least b.low fair l.is_low)
    ∙ ap (λ o. record { low = b.low; high = unwrap_or o (pos 0) }) (end_value stmts i greatest b.high fair l.is_high)

-- a named type
declared_range : (stmts : List Placed) (i : ℕ) (name : List ℕ) (j : ℕ) (x : Statement) (r : Range) → IsFair stmts → StandsFor stmts i name j 0 x
    → range_in (setting_at stmts i) (j, 0) x ≡ Some r → range_of_use (setting_at stmts i) (use_.Named name) ≡ r
declared_range stmts i name j x r fair s e =
    let f = λ (d : Spot × Statement). range_in (setting_at stmts i) d.0 d.1 in
    ap (λ o. unwrap_or (option_and_then f o) (plain (pos 0) (pos 0))) (stands_declared stmts i name j 0 x fair s) ∙ ap (λ o. unwrap_or o (plain (pos 0) (pos 0))) e

no_flag : (stmts : List Placed) (i : ℕ) (name : List ℕ) (j : ℕ) (x : Statement) → IsFair stmts → StandsFor stmts i name j 0 x → is_truth (type_in (j, 0) x) ≡ false
    → is_flag (setting_at stmts i) (use_.Named name) ≡ false
no_flag stmts i name j x fair s e = ap (λ o. is_truth (option_and_then (λ (d : Spot × Statement). type_in d.0 d.1) o)) (stands_declared stmts i name j 0 x fair s) ∙ e

-- the bounds of a variable of a type with limits
named_limits : (stmts : List Placed) (i : ℕ) (name : List ℕ) (j : ℕ) (x : Statement) (r : Range) (b : Bounds) → IsFair stmts → StandsFor stmts i name j 0 x
    → is_truth (type_in (j, 0) x) ≡ false → range_in (setting_at stmts i) (j, 0) x ≡ Some r → range_bounds r ≡ b → variable_bounds (setting_at stmts i) (use_.Named name) ≡ b
named_limits stmts i name j x r b fair s t e f =
    ap (λ c. if c then only (pos 0) else range_bounds (range_of_use (setting_at stmts i) (use_.Named name))) (no_flag stmts i name j x fair s t)
    ∙ ap range_bounds (declared_range stmts i name j x r fair s e) ∙ f

limits_are : (stmts : List Placed) (i : ℕ) (type : TypeUse) (b : Bounds) → IsFair stmts → HasLimits stmts i type b → variable_bounds (setting_at stmts i) type ≡ b
limits_are stmts i type b fair (bounded.range least greatest d l) = ends_between stmts i false least greatest d fair l
limits_are stmts i type b fair (bounded.wrapping least greatest d l) = ends_between stmts i true least greatest d fair l
limits_are stmts i type b fair (bounded.named_range name called j least greatest d s l) =
    named_limits stmts i name j (st.range_type called least greatest) (range_between (setting_at stmts j) false least greatest) d fair s refl refl
    (ends_between stmts j false least greatest d fair l)
limits_are stmts i type b fair (bounded.named_wrapping name called j least greatest d s l) =
    named_limits stmts i name j (st.wrap_type called least greatest) (range_between (setting_at stmts j) true least greatest) d fair s refl refl
    (ends_between stmts j true least greatest d fair l)
limits_are stmts i type b fair (bounded.named_enumeration name called j values s) =
    named_limits stmts i name j (st.enum_type called values) (plain (pos 0) (pos (length values - 1))) (bounded.between (pos 0) (pos (length values - 1))) fair s refl refl refl

-- the bounds of a name that stands for a variable
variable_within : (stmts : List Placed) (i : ℕ) (name : List ℕ) (b : Bounds) → IsFair stmts → (v : IsVariableWithin stmts i name b)
    → variable_bounds (record (setting_at stmts i) { at = v.at }) v.type ≡ b
variable_within stmts i name b fair v =
    ap (λ s. variable_bounds s v.type) (own_setting stmts i v.at (own_count stmts i name v.at 0 v.mode v.called v.type v.stands)) ∙ limits_are stmts v.at v.type b fair v.limits

named_is : (stmts : List Placed) (i : ℕ) (name : List ℕ) (j k : ℕ) (x : Statement) → IsFair stmts → StandsFor stmts i name j k x
    → named_bounds (setting_at stmts i) name ≡ value_bounds (setting_at stmts i) (j, k) x
named_is stmts i name j k x fair s =
    ap (λ o. unwrap_or (option_map (λ (d : Spot × Statement). value_bounds (setting_at stmts i) d.0 d.1) o) (only (pos 0))) (stands_declared stmts i name j k x fair s)

recalled_is : (stmts : List Placed) (i : ℕ) (name : List ℕ) (j k : ℕ) (x : Statement) → IsFair stmts → StandsFor stmts i name j k x
    → recalled_bounds (setting_at stmts i) name ≡ recalled_value (setting_at stmts i) (j, k) x
recalled_is stmts i name j k x fair s =
    ap (λ o. unwrap_or (option_map (λ (d : Spot × Statement). recalled_value (setting_at stmts i) d.0 d.1) o) (only (pos 0))) (stands_declared stmts i name j k x fair s)

-- bounds by the rules are the raw ones
pub bounded_raw : (stmts : List Placed) (i : ℕ) (e : Tree) (b : Bounds) → IsFair stmts → Bounded stmts i e b → raw (setting_at stmts i) e ≡ b
bounded_raw stmts i e b fair (bounded.number n) = refl
bounded_raw stmts i e b fair (bounded.constant name called j v s) = named_is stmts i name j 0 (st.constant_is called v) fair s
bounded_raw stmts i e b fair (bounded.value name called j k values s) =
    let less : suc k - 1 ≡ k = omega arith in named_is stmts i name j (suc k) (st.enum_type called values) fair s ∙ ap (λ n. only (pos n)) less
bounded_raw stmts i e b fair (bounded.variable_now name d v) =
    named_is stmts i name v.at 0 (st.variable v.mode v.called v.type) fair v.stands ∙ variable_within stmts i name d fair v
bounded_raw stmts i e b fair (bounded.variable_old name d v) =
    recalled_is stmts i name v.at 0 (st.variable v.mode v.called v.type) fair v.stands ∙ variable_within stmts i name d fair v
bounded_raw stmts i e b fair (bounded.minus a d t) = ap opposite_bounds (bounded_raw stmts i a d fair t)
bounded_raw stmts i e b fair (bounded.calculated o x y c d h t u) =
    ap (λ a. operator_bounds o a (raw (setting_at stmts i) y)) (bounded_raw stmts i x c fair t) ∙ ap (operator_bounds o c) (bounded_raw stmts i y d fair u)

-- a kind of numbers
abbrev pub is_number : Kind → Bool
is_number Truth = false
is_number _ = true

some_limits : (stmts : List Placed) (i : ℕ) (type : TypeUse) (kind : Kind) → AllWellTyped stmts → HasValues stmts i type kind → IsType stmts i type → is_number kind ≡ true
    → (b : Bounds) × HasLimits stmts i type b
some_limits stmts i type kind all typed.truths t n = absurd (cc)
some_limits stmts i type kind all (typed.range least greatest) t n =
    (bounded.between t.low t.high, bounded.range least greatest (bounded.between t.low t.high) (record { is_low = t.is_low; is_high = t.is_high }))
some_limits stmts i type kind all (typed.wrapping least greatest) t n =
    (bounded.between t.low t.high, bounded.wrapping least greatest (bounded.between t.low t.high) (record { is_low = t.is_low; is_high = t.is_high }))
some_limits stmts i type kind all (typed.named_range name called j least greatest s) t n =
    let w : AreEnds stmts j least greatest = all j (st.range_type called least greatest) s.says in
    (bounded.between w.low w.high, bounded.named_range name called j least greatest (bounded.between w.low w.high) s (record { is_low = w.is_low; is_high = w.is_high }))
some_limits stmts i type kind all (typed.named_wrapping name called j least greatest s) t n =
    let w : AreEnds stmts j least greatest = all j (st.wrap_type called least greatest) s.says in
    (bounded.between w.low w.high, bounded.named_wrapping name called j least greatest (bounded.between w.low w.high) s (record { is_low = w.is_low; is_high = w.is_high }))
some_limits stmts i type kind all (typed.named_enumeration name called j values s) t n =
    (bounded.between (pos 0) (pos (length values - 1)), bounded.named_enumeration name called j values s)

within : (stmts : List Placed) (i : ℕ) (name : List ℕ) (kind : Kind) → AllWellTyped stmts → IsVariableOf stmts i name kind → is_number kind ≡ true
    → (b : Bounds) × IsVariableWithin stmts i name b
within stmts i name kind all v n =
    let l = some_limits stmts v.at v.type kind all v.values (all v.at (st.variable v.mode v.called v.type) v.stands.says) n in
    (l.0, record { at = v.at; mode = v.mode; called = v.called; type = v.type; stands = v.stands; limits = l.1 })

-- a typed expression for numbers has bounds
has_bounds : (stmts : List Placed) (i : ℕ) (e : Tree) (kind : Kind) → AllWellTyped stmts → Typed stmts i e kind → is_number kind ≡ true → (b : Bounds) × Bounded stmts i e b
has_bounds stmts i e kind all (typed.number n) h = (only (pos n), bounded.number n)
has_bounds stmts i e kind all (typed.truth b) h = absurd (cc)
has_bounds stmts i e kind all (typed.constant name called j v s) h = (only v, bounded.constant name called j v s)
has_bounds stmts i e kind all (typed.value name called j k values s) h = (only (pos k), bounded.value name called j k values s)
has_bounds stmts i e kind all (typed.variable_now name k v) h = let w = within stmts i name k all v h in (w.0, bounded.variable_now name w.0 w.1)
has_bounds stmts i e kind all (typed.variable_old name k v) h = let w = within stmts i name k all v h in (w.0, bounded.variable_old name w.0 w.1)
has_bounds stmts i e kind all (typed.minus a t) h = let b = has_bounds stmts i a Whole all t refl in (opposite_bounds b.0, bounded.minus a b.0 b.1)
has_bounds stmts i e kind all (typed.opposite a t) h = absurd (cc)
has_bounds stmts i e kind all (typed.calculated o x y is t u) h =
    let b = has_bounds stmts i x Whole all t refl in
    let c = has_bounds stmts i y Whole all u refl in
    (operator_bounds o b.0 c.0, bounded.calculated o x y b.0 c.0 is b.1 c.1)
has_bounds stmts i e kind all (typed.joined o x y is t u) h = absurd (cc)
has_bounds stmts i e kind all (typed.compared r x y t u) h = absurd (cc)
has_bounds stmts i e kind all (typed.same r x y j is t u) h = absurd (cc)

-- an expression for numbers that has small parts has small raw bounds
whole_small : (stmts : List Placed) (i : ℕ) (e : Tree) (kind : Kind) → IsFair stmts → AllWellTyped stmts → Typed stmts i e kind → is_number kind ≡ true → HasSmallParts stmts i e
    → AreSmall (raw (setting_at stmts i) e)
whole_small stmts i e kind fair all t n h =
    let b = has_bounds stmts i e kind all t n in
    subst AreSmall (sym (bounded_raw stmts i e b.0 fair b.1)) (h e b.0 whole b.1)

-- a truth value has no bounds, and 0 stands there
truth_variable : (stmts : List Placed) (j : ℕ) (type : TypeUse) → IsFair stmts → HasValues stmts j type Truth → variable_bounds (setting_at stmts j) type ≡ only (pos 0)
truth_variable stmts j type fair h =
    ap (λ o. if is_truth o then only (pos 0) else range_bounds (range_of_use (setting_at stmts j) type)) (values_kind stmts j type Truth fair h)

variable_small : (stmts : List Placed) (i : ℕ) (name : List ℕ) (e : Tree) (kind : Kind) → IsFair stmts → AllWellTyped stmts → (v : IsVariableOf stmts i name kind) → Typed stmts i e kind
    → raw (setting_at stmts i) e ≡ variable_bounds (setting_at stmts v.at) v.type → HasSmallParts stmts i e → AreSmall (raw (setting_at stmts i) e)
variable_small stmts i name e Whole fair all v t r h = whole_small stmts i e Whole fair all t refl h
variable_small stmts i name e (Enumeration j) fair all v t r h = whole_small stmts i e (Enumeration j) fair all t refl h
variable_small stmts i name e Truth fair all v t r h = subst AreSmall (sym (r ∙ truth_variable stmts v.at v.type fair v.values)) zero_small

own_type : (stmts : List Placed) (i : ℕ) (name : List ℕ) (kind : Kind) → (v : IsVariableOf stmts i name kind)
    → variable_bounds (record (setting_at stmts i) { at = v.at }) v.type ≡ variable_bounds (setting_at stmts v.at) v.type
own_type stmts i name kind v = ap (λ s. variable_bounds s v.type) (own_setting stmts i v.at (own_count stmts i name v.at 0 v.mode v.called v.type v.stands))

-- an operator that joins conditions, or compares, gives no bounds
logical_zero : (o : BinOp) (a b : Bounds) → typed.IsLogical o → operator_bounds o a b ≡ only (pos 0)
logical_zero o a b typed.conjunction = refl
logical_zero o a b typed.disjunction = refl

-- small parts by the rules are small parts
pub parts_small : (stmts : List Placed) (i : ℕ) (e : Tree) (kind : Kind) → IsFair stmts → AllWellTyped stmts → Typed stmts i e kind → HasSmallParts stmts i e
    → SmallParts (setting_at stmts i) e
parts_small stmts i e kind fair all (typed.number n) h = h (tree.number n) (only (pos n)) whole (bounded.number n)
parts_small stmts i e kind fair all (typed.truth b) h = zero_small
parts_small stmts i e kind fair all (typed.constant name called j v s) h = whole_small stmts i (tree.word name) Whole fair all (typed.constant name called j v s) refl h
parts_small stmts i e kind fair all (typed.value name called j k values s) h =
    whole_small stmts i (tree.word name) (Enumeration j) fair all (typed.value name called j k values s) refl h
parts_small stmts i e kind fair all (typed.variable_now name k v) h =
    variable_small stmts i name (tree.word name) k fair all v (typed.variable_now name k v)
    (named_is stmts i name v.at 0 (st.variable v.mode v.called v.type) fair v.stands ∙ own_type stmts i name k v) h
parts_small stmts i e kind fair all (typed.variable_old name k v) h =
    variable_small stmts i name (tree.former name) k fair all v (typed.variable_old name k v)
    (recalled_is stmts i name v.at 0 (st.variable v.mode v.called v.type) fair v.stands ∙ own_type stmts i name k v) h
parts_small stmts i e kind fair all (typed.minus a t) h = (
  parts_small stmts i a Whole fair all t (λ p b is. h p b (of_minus a is)),
  whole_small stmts i (tree.minus a) Whole fair all (typed.minus a t) refl h,
)
parts_small stmts i e kind fair all (typed.opposite a t) h = (parts_small stmts i a Truth fair all t (λ p b is. h p b (of_opposite a is)), zero_small)
parts_small stmts i e kind fair all (typed.calculated o x y is t u) h = (
  parts_small stmts i x Whole fair all t (λ p b q. h p b (of_left o x y q)),
  parts_small stmts i y Whole fair all u (λ p b q. h p b (of_right o x y q)),
  whole_small stmts i (tree.two o x y) Whole fair all (typed.calculated o x y is t u) refl h,
)
parts_small stmts i e kind fair all (typed.joined o x y is t u) h = (
  parts_small stmts i x Truth fair all t (λ p b q. h p b (of_left o x y q)),
  parts_small stmts i y Truth fair all u (λ p b q. h p b (of_right o x y q)),
  subst AreSmall (sym (logical_zero o _ _ is)) zero_small,
)
parts_small stmts i e kind fair all (typed.compared r x y t u) h = (
  parts_small stmts i x Whole fair all t (λ p b q. h p b (of_left (Compare r) x y q)),
  parts_small stmts i y Whole fair all u (λ p b q. h p b (of_right (Compare r) x y q)),
  zero_small,
)
parts_small stmts i e kind fair all (typed.same r x y j is t u) h = (
  parts_small stmts i x (Enumeration j) fair all t (λ p b q. h p b (of_left (Compare r) x y q)),
  parts_small stmts i y (Enumeration j) fair all u (λ p b q. h p b (of_right (Compare r) x y q)),
  zero_small,
)

-- and the other way round
pub small_parts : (stmts : List Placed) (i : ℕ) (e : Tree) → IsFair stmts → SmallParts (setting_at stmts i) e → HasSmallParts stmts i e
small_parts stmts i e fair h part b is has = subst AreSmall (bounded_raw stmts i part b fair has) (part_small (setting_at stmts i) part e is h)

number_kind : (kind : Kind) → kind ≢ Truth → is_number kind ≡ true
number_kind Whole h = refl
number_kind Truth h = absurd (h refl)
number_kind (Enumeration j) h = refl

pub bounds_found : (stmts : List Placed) (i : ℕ) (e : Tree) (kind : Kind) → IsFair stmts → AllWellTyped stmts → Typed stmts i e kind → BoundsAreFound stmts i e kind
bounds_found stmts i e kind fair all t = record {
  there = (
    λ h. by (static_bounds (setting_at stmts i) e) refl h,
    λ h. ap is_some (agrees_static (setting_at stmts i) e (parts_small stmts i e kind fair all t h)),
  );
  exact = λ other b. (
    λ h. let r = static_agrees (setting_at stmts i) e b h in
        let d = has_bounds stmts i e kind all t (number_kind kind other) in
        (subst (Bounded stmts i e) (sym (bounded_raw stmts i e d.0 fair d.1) ∙ r.same) d.1, small_parts stmts i e fair r.small),
    λ h. agrees_static (setting_at stmts i) e (parts_small stmts i e kind fair all t h.1) ∙ ap Some (bounded_raw stmts i e b fair h.0),
  );
}
  where
    by : (o : Option Bounds) → static_bounds (setting_at stmts i) e ≡ o → is_some o ≡ true → HasSmallParts stmts i e
    by None h g = absurd (cc)
    by (Some b) h g = small_parts stmts i e fair (static_agrees (setting_at stmts i) e b h).small
