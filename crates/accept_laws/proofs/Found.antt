-- In a text that breaks no rule each look-up of a name finds something, which is what is built in its place.
use Rattle.std.proofs.Common.{◌≡◌, ℕ, ◌-◌, ◌∙◌, sym, ap, subst, refl, inl, inr, Bool, true, false, ◌&&◌, ◌||◌, List, [], ◌∷◌, length, arith, nat_eq, ℤ, pos, slice_get, if◌then◌else◌}
use Rattle.std.specs.Prelude.{Option, Some, None, is_some, unwrap_or}
use Rattle.std.specs.Option.{option_and_then, option_map}
use Rattle.il_core.specs.Expression.{Expression}
use Rattle.il_core.specs.Expression as e
use Rattle.il_core.specs.Run.{is_inout}
use Rattle.il_core.specs.Statement.{Statement, Placed}
use Rattle.il_core.specs.Statement as st
use Rattle.il_core.specs.Tree.{Tree, number, word, former, constant, minus, opposite, two}
use Rattle.il_core.specs.declared.operator.BinOp.{BinOp}
use Rattle.il_core.specs.declared.operator.BinOp.TheVariants.{Compare, And, Or}
use Rattle.il_core.specs.declared.statement.Bound.{Bound}
use Rattle.il_core.specs.declared.statement.Mode.{Mode}
use Rattle.il_core.specs.declared.statement.TypeUse.{TypeUse}
use Rattle.il_core.specs.declared.statement.TypeUse.TheVariants as use_
use Rattle.il_types.specs.declared.kind.Kind.{Kind}
use Rattle.il_types.specs.declared.kind.Kind.TheVariants.{Whole, Truth, Enumeration}
use Rattle.il_types.specs.declared.modes.Part.{Part}
use Rattle.il_types.specs.declared.range.Range.{Range}
use Rattle.il_types.specs.Built.{plain, place_with, range_between, range_in, range_of_use, is_flag, place_of, read, place_number, copy_number, built_value, built_recalled, built}
use Rattle.il_types.specs.Modes.{mode_in, mode_of, keeps_modes, is_allowed}
use Rattle.il_types.specs.Names.{Setting, Spot, setting, front_of, in_force, said, declaration}
use Rattle.il_types.specs.Typing.{bound_value, type_in, kind_of_use, variable_in, value_in, kind_of, kind_if, kind_of_two, is_whole, is_truth, is_equality, are_of_one, are_whole, are_truth, are_comparable, are_bounds, is_type, may_hold, is_typed}
use Rattle.il_built.specs.Holding.{setting_at}
use Rattle.il_built.proofs.BuiltSorts.{none_some, both_true, one_of, whole_is, truth_is, enumerations_are, recalls_inout}
use Rattle.il_built.proofs.Entered.{bound, mapped}
use Rattle.accept_laws.specs.LookUps.{ends, range_found, numbered, type_found, use_found, flag_found, place_found, number_of, value_of, copy_of, joined, expression_found}
use Rattle.accept_laws.specs.NoDefault.{IsFound}

-- an enumeration has a value
abbrev pub HasValues : Statement → Type 0
HasValues (st.enum_type _ []) = ⊥
HasValues _ = Unit {0}

-- what each statement of an accepted text keeps
pub record AreKept (stmts : List Placed) : Type 0 where
  pub typed : (i : ℕ) (x : Placed) → slice_get stmts i ≡ Some x → is_typed (setting_at stmts i) x.says ≡ true
  pub allowed : (i : ℕ) (x : Placed) → slice_get stmts i ≡ Some x → is_allowed (setting_at stmts i) x.says ≡ true
  pub valued : (i : ℕ) (x : Placed) → slice_get stmts i ≡ Some x → HasValues x.says

-- a range both of whose ends have a value
ends_there : (wrap : Bool) (a b : Option ℤ) → (is_some a && is_some b) ≡ true → ends wrap a b ≡ Some (record { least = unwrap_or a (pos 0); greatest = unwrap_or b (pos 0); wrap = wrap })
ends_there wrap (Some x) (Some y) h = refl
ends_there wrap (Some x) None h = absurd (cc)
ends_there wrap None b h = absurd (cc)

pub range_there : (s : Setting) (wrap : Bool) (least greatest : Bound) → are_bounds s least greatest ≡ true → range_found s wrap least greatest ≡ Some (range_between s wrap least greatest)
range_there s wrap least greatest h = ends_there wrap (bound_value s least) (bound_value s greatest) h

-- the statement that a name in force stands for
said_there : (s : Setting) (name : List ℕ) (spot : Spot) (x : Statement) → declaration s name ≡ Some (spot, x) → (y : Placed) × (slice_get s.stmts spot.0 ≡ Some y) × (y.says ≡ x)
said_there s name spot x e =
    let found = bound (said s.stmts) (in_force s name) (spot, x) e in
    let seen = mapped (λ (y : Placed). (found.0, y.says)) (slice_get s.stmts found.0.0) (spot, x) found.2 in
    (seen.0, subst (λ (p : Spot). slice_get s.stmts p.0 ≡ Some seen.0) (ap (λ (p : Spot × Statement). p.0) seen.2) seen.1, ap (λ (p : Spot × Statement). p.1) seen.2)

-- a type that a statement declares
record IsType (s : Setting) (spot : Spot) (x : Statement) : Type 0 where
  range : Range
  found : type_found s spot x ≡ Some range
  same : range_in s spot x ≡ Some range

passed : {A : Type 0} (b : Bool) (a : A) → is_some (if b then Some a else None) ≡ true → b ≡ true
passed true a h = refl
passed false a h = absurd (cc)

type_there : (stmts : List Placed) (owner at : ℕ) (spot : Spot) (x : Statement) → is_typed (setting_at stmts spot.0) x ≡ true → HasValues x → is_some (type_in spot x) ≡ true
    → IsType (setting (front_of stmts).table stmts owner at) spot x
type_there stmts owner at spot (st.range_type called lo hi) typed valued some =
    record { range = range_between (setting_at stmts spot.0) false lo hi; found = range_there (setting_at stmts spot.0) false lo hi typed; same = refl }
type_there stmts owner at spot (st.wrap_type called lo hi) typed valued some =
    record { range = range_between (setting_at stmts spot.0) true lo hi; found = range_there (setting_at stmts spot.0) true lo hi typed; same = refl }
type_there stmts owner at spot (st.enum_type called []) typed valued some = absurd valued
type_there stmts owner at spot (st.enum_type called (first ∷ others)) typed valued some =
    let one_less : length (first ∷ others) - 1 ≡ length others = omega arith in
    record {
      range = plain (pos 0) (pos (length others));
      found = ap (λ (b : Bool). if b then numbered (first ∷ others) else None) (passed (nat_eq spot.1 0) (Enumeration spot.0) some);
      same = ap (λ (n : ℕ). Some (plain (pos 0) (pos n))) one_less;
    }
type_there stmts owner at spot _ typed valued some = absurd (cc)

-- a name as a type
named_there : (stmts : List Placed) (owner at : ℕ) (name : List ℕ) (o : Option (Spot × Statement)) → AreKept stmts → declaration (setting (front_of stmts).table stmts owner at) name ≡ o
    → is_some (option_and_then (λ d. type_in d.0 d.1) o) ≡ true
    → option_and_then (λ d. type_found (setting (front_of stmts).table stmts owner at) d.0 d.1) o
    ≡ Some (unwrap_or (option_and_then (λ d. range_in (setting (front_of stmts).table stmts owner at) d.0 d.1) o) (plain (pos 0) (pos 0)))
named_there stmts owner at name None k e some = absurd (cc)
named_there stmts owner at name (Some d) k e some =
    let there = said_there (setting (front_of stmts).table stmts owner at) name d.0 d.1 e in
    let typed : is_typed (setting_at stmts d.0.0) d.1 ≡ true = subst (λ x. is_typed (setting_at stmts d.0.0) x ≡ true) there.2 (k.typed d.0.0 there.0 there.1) in
    let t = type_there stmts owner at d.0 d.1 typed (subst HasValues there.2 (k.valued d.0.0 there.0 there.1)) some in
    t.found ∙ ap (λ (r : Option Range). Some (unwrap_or r (plain (pos 0) (pos 0)))) (sym t.same)

use_there : (stmts : List Placed) (owner at : ℕ) (used : TypeUse) → AreKept stmts → is_type (setting (front_of stmts).table stmts owner at) used ≡ true
    → use_found (setting (front_of stmts).table stmts owner at) used ≡ Some (range_of_use (setting (front_of stmts).table stmts owner at) used)
use_there stmts owner at use_.Bool k h = refl
use_there stmts owner at (use_.Named name) k h = named_there stmts owner at name (declaration (setting (front_of stmts).table stmts owner at) name) k refl h
use_there stmts owner at (use_.Range least greatest) k h = range_there (setting (front_of stmts).table stmts owner at) false least greatest h
use_there stmts owner at (use_.Wrap least greatest) k h = range_there (setting (front_of stmts).table stmts owner at) true least greatest h

-- whether a type holds truth values
kind_there : (s : Setting) (used : TypeUse) → is_type s used ≡ true → is_some (kind_of_use s used) ≡ true
kind_there s use_.Bool h = refl
kind_there s (use_.Named name) h = h
kind_there s (use_.Range least greatest) h = refl
kind_there s (use_.Wrap least greatest) h = refl

flag_there : (s : Setting) (used : TypeUse) → is_some (kind_of_use s used) ≡ true → flag_found s used ≡ Some (is_flag s used)
flag_there s used h = by (kind_of_use s used) h
  where
    by : (o : Option Kind) → is_some o ≡ true → option_map (λ k. is_truth (Some k)) o ≡ Some (is_truth o)
    by None h = absurd (cc)
    by (Some k) h = refl

-- the place of a variable
pub place_there : (stmts : List Placed) (owner at : ℕ) (m : Mode) (name : List ℕ) (used : TypeUse) → AreKept stmts → is_type (setting (front_of stmts).table stmts owner at) used ≡ true
    → place_found (setting (front_of stmts).table stmts owner at) (st.variable m name used) ≡ Some (place_of (setting (front_of stmts).table stmts owner at) (st.variable m name used))
place_there stmts owner at m name used k h =
    let s = setting (front_of stmts).table stmts owner at in
    ap (option_and_then (λ (flag : Bool). option_map (place_with name m flag) (use_found s used))) (flag_there s used (kind_there s used h))
    ∙ ap (option_map (place_with name m (is_flag s used))) (use_there stmts owner at used k h)

-- a name as a variable
pub number_there : (s : Setting) (o : Option (Spot × Statement)) (k : Kind) → option_and_then (λ d. variable_in s d.0 d.1) o ≡ Some k
    → option_and_then (λ d. number_of s d.0 d.1) o ≡ Some (unwrap_or (option_map (λ d. place_number s d.0) o) 0)
number_there s None k h = none_some k h
number_there s (Some d) k h = by d.0 d.1 h
  where
    by : (spot : Spot) (x : Statement) → variable_in s spot x ≡ Some k → number_of s spot x ≡ Some (place_number s spot)
    by spot (st.variable m name used) h = refl
    by spot _ h = none_some k h

-- a name as a value
value_there : (s : Setting) (o : Option (Spot × Statement)) (k : Kind) → option_and_then (λ d. value_in s d.0 d.1) o ≡ Some k
    → option_and_then (λ d. value_of s d.0 d.1) o ≡ Some (unwrap_or (option_map (λ d. built_value s d.0 d.1) o) (e.number (pos 0)))
value_there s None k h = none_some k h
value_there s (Some d) k h = by d.0 d.1 h
  where
    tested : (b : Bool) (l : Kind) (x : Expression) → (if b then None else Some l) ≡ Some k → (if b then None else Some x) ≡ Some x
    tested true l x h = none_some k h
    tested false l x h = refl

    by : (spot : Spot) (x : Statement) → value_in s spot x ≡ Some k → value_of s spot x ≡ Some (built_value s spot x)
    by spot (st.constant_is name value) h = refl
    by spot (st.enum_type name values) h = tested (nat_eq spot.1 0) (Enumeration spot.0) (e.number (pos (spot.1 - 1))) h
    by spot (st.variable m name used) h = ap (option_map (λ (flag : Bool). read flag (place_number s spot))) (flag_there (record s { at = spot.0 }) used (ap is_some h))
    by spot _ h = none_some k h

-- a name behind OLD
copy_there : (s : Setting) (o : Option (Spot × Statement)) (k : Kind) → ((m : Mode) → option_and_then (λ d. mode_in d.1) o ≡ Some m → is_inout m ≡ true)
    → option_and_then (λ d. variable_in s d.0 d.1) o ≡ Some k
    → option_and_then (λ d. copy_of s d.0 d.1) o ≡ Some (unwrap_or (option_map (λ d. built_recalled s d.0 d.1) o) (e.number (pos 0)))
copy_there s None k i h = none_some k h
copy_there s (Some d) k i h = by d.0 d.1 i h
  where
    by : (spot : Spot) (x : Statement) → ((m : Mode) → mode_in x ≡ Some m → is_inout m ≡ true) → variable_in s spot x ≡ Some k → copy_of s spot x ≡ Some (built_recalled s spot x)
    by spot (st.variable m name used) i h =
        let copied = option_map (λ (flag : Bool). read flag (copy_number s spot)) (flag_found (record s { at = spot.0 }) used) in
        ap (λ (b : Bool). if b then copied else None) (i m refl)
        ∙ ap (option_map (λ (flag : Bool). read flag (copy_number s spot))) (flag_there (record s { at = spot.0 }) used (ap is_some h))
    by spot _ i h = none_some k h

-- both sides of an operator have a kind
abbrev pub HasKind : Option Kind → Type 0
HasKind o = (k : Kind) × (o ≡ Some k)

kept_if : (b : Bool) (l k : Kind) → kind_if b l ≡ Some k → b ≡ true
kept_if true l k h = refl
kept_if false l k h = none_some k h

whole_sides : (a b : Option Kind) → are_whole a b ≡ true → HasKind a × HasKind b
whole_sides a b h = let w = both_true _ _ h in ((Whole, whole_is a w.0), (Whole, whole_is b w.1))

truth_sides : (a b : Option Kind) → are_truth a b ≡ true → HasKind a × HasKind b
truth_sides a b h = let w = both_true _ _ h in ((Truth, truth_is a w.0), (Truth, truth_is b w.1))

one_sides : (a b : Option Kind) → are_of_one a b ≡ true → HasKind a × HasKind b
one_sides a b h = let n = enumerations_are a b h in ((Enumeration n.0, n.2), (Enumeration n.1, n.3))

sides : (o : BinOp) (a b : Option Kind) (k : Kind) → kind_of_two o a b ≡ Some k → HasKind a × HasKind b
sides (Compare r) a b k h = elim (one_of (are_whole a b) (is_equality r && are_of_one a b) (kept_if (are_comparable r a b) Truth k h)) [
  | inl w ↦ whole_sides a b w
  | inr w ↦ one_sides a b (both_true _ _ w).1
]
sides And a b k h = truth_sides a b (kept_if (are_truth a b) Truth k h)
sides Or a b k h = truth_sides a b (kept_if (are_truth a b) Truth k h)
sides _ a b k h = whole_sides a b (kept_if (are_whole a b) Whole k h)

pub held_sides : (a b : Option Kind) → may_hold a b ≡ true → HasKind a × HasKind b
held_sides a b h = elim (one_of (are_whole a b) (are_truth a b || are_of_one a b) h) [
  | inl w ↦ whole_sides a b w
  | inr w ↦ (elim (one_of (are_truth a b) (are_of_one a b) w) [
    | inl t ↦ truth_sides a b t
    | inr n ↦ one_sides a b n
  ])
]

both_joined : (make : Expression → Expression → Expression) (a b : Option Expression) (x y : Expression) → a ≡ Some x → b ≡ Some y → joined make a b ≡ Some (make x y)
both_joined make a b x y f g = ap (λ (o : Option Expression). joined make o b) f ∙ ap (joined make (Some x)) g

-- a well typed expression with allowed modes
pub expression_there : (s : Setting) (p : Part) (x : Tree) → keeps_modes s p x ≡ true → (k : Kind) → kind_of s x ≡ Some k → expression_found s x ≡ Some (built s x)
expression_there s p (number n) m k h = refl
expression_there s p (word name) m k h = value_there s (declaration s name) k h
expression_there s p (former name) m k h = copy_there s (declaration s name) k (recalls_inout p (mode_of s name) m) h
expression_there s p (constant b) m k h = refl
expression_there s p (minus x) m k h =
    ap (option_map e.minus) (expression_there s p x m Whole (whole_is _ (kept_if (is_whole (kind_of s x)) Whole k h)))
expression_there s p (opposite x) m k h =
    ap (option_map e.opposite) (expression_there s p x m Truth (truth_is _ (kept_if (is_truth (kind_of s x)) Truth k h)))
expression_there s p (two o x y) m k h =
    let both = both_true _ _ m in
    let kinds = sides o (kind_of s x) (kind_of s y) k h in
    both_joined (e.two o) (expression_found s x) (expression_found s y) (built s x) (built s y) (expression_there s p x both.0 kinds.0.0 kinds.0.1) (expression_there s p y both.1 kinds.1.0 kinds.1.1)

pub condition_there : (s : Setting) (p : Part) (x : Tree) → keeps_modes s p x ≡ true → is_truth (kind_of s x) ≡ true → IsFound s x
condition_there s p x m h = expression_there s p x m Truth (truth_is _ h)
