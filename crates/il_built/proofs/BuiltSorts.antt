-- The expressions that are built of well typed ones with allowed modes are well typed over the places, and their static bounds are the same.
use Rattle.std.proofs.Common.{◌≡◌, ℕ, ◌-◌, ◌∙◌, sym, ap, subst, refl, inl, inr, ◌⊎◌, Bool, true, false, ◌&&◌, ◌||◌, List, ℤ, pos, nat_eq, if◌then◌else◌}
use Rattle.std.specs.Prelude.{Option, Some, None, slice_get, unwrap_or}
use Rattle.std.specs.Option.{option_and_then, option_map}
use Rattle.il_core.specs.Checked.{old_copy}
use Rattle.il_core.specs.Expression.{Expression}
use Rattle.il_core.specs.Expression as e
use Rattle.il_core.specs.Kind.{HasFlag, IsWhole, IsCondition}
use Rattle.il_core.specs.Run.{is_inout}
use Rattle.il_core.specs.Statement.{Statement}
use Rattle.il_core.specs.Statement as st
use Rattle.il_core.specs.Tree.{Tree, number, word, former, constant, minus, opposite, two}
use Rattle.il_core.specs.declared.line.Place.{Place}
use Rattle.il_core.specs.declared.operator.BinOp.{BinOp}
use Rattle.il_core.specs.declared.operator.BinOp.TheVariants.{Add, Sub, Mul, Div, Mod, Compare, And, Or}
use Rattle.il_core.specs.declared.operator.Relation.{Relation}
use Rattle.il_core.specs.declared.statement.Mode.{Mode}
use Rattle.il_core.specs.declared.statement.Mode.TheVariants as mode
use Rattle.il_core.specs.declared.statement.TypeUse.{TypeUse}
use Rattle.il_types.specs.declared.kind.Kind.{Kind}
use Rattle.il_types.specs.declared.kind.Kind.TheVariants.{Whole, Truth, Enumeration}
use Rattle.il_types.specs.declared.modes.Part.{Part}
use Rattle.il_types.specs.declared.modes.Part.TheVariants as part
use Rattle.il_types.specs.Built.{read, is_flag, place_of, place_number, copy_number, built_value, built_recalled, built}
use Rattle.il_types.specs.Modes.{mode_in, mode_of, may_recall, keeps_modes}
use Rattle.il_types.specs.Names.{Setting, Spot, declaration}
use Rattle.il_types.specs.Typing.{value_in, variable_in, kind_of, kind_if, kind_of_two, is_whole, is_truth, is_enumeration, is_equality, are_of_one, are_whole, are_truth, are_comparable}

-- the places give each variable of the setting its place, and each INOUT one its OLD copy
pub record Reads (s : Setting) (places : List Place) : Type 0 where
  pub variables : (word : List ℕ) (spot : Spot) (m : Mode) (name : List ℕ) (used : TypeUse) → declaration s word ≡ Some (spot, st.variable m name used)
      → slice_get places (place_number s spot) ≡ Some (place_of (record s { at = spot.0 }) (st.variable m name used))
  pub copies : (word : List ℕ) (spot : Spot) (m : Mode) (name : List ℕ) (used : TypeUse) → declaration s word ≡ Some (spot, st.variable m name used) → is_inout m ≡ true
      → slice_get places (copy_number s spot) ≡ Some (old_copy (place_of (record s { at = spot.0 }) (st.variable m name used)))

-- an enumeration counts as whole
abbrev pub IsOfKind : Kind → List Place → Expression → Type 0
IsOfKind Whole places x = IsWhole places x
IsOfKind Truth places x = IsCondition places x
IsOfKind (Enumeration at) places x = IsWhole places x

pub none_some : {A : Type 0} {B : Type 0} (a : A) → None ≡ Some a → B
none_some a h = absurd (cc)

kind_is : (k l : Kind) → Some k ≡ Some l → k ≡ l
kind_is k l h = cc

pub both_true : (a b : Bool) → (a && b) ≡ true → (a ≡ true) × (b ≡ true)
both_true true b h = (refl, h)
both_true false b h = absurd (cc)

-- a place that is there, read by its flag
read_sort : (k : Kind) (places : List Place) (f : Bool) (p : ℕ) (place : Place) → f ≡ is_truth (Some k) → slice_get places p ≡ Some place → place.flag ≡ f
    → IsOfKind k places (read f p)
read_sort Whole places f p place t there flag =
    subst (λ b. IsWhole places (read b p)) (sym t) (subst (λ o. HasFlag o false) (sym there) (flag ∙ t))
read_sort Truth places f p place t there flag =
    subst (λ b. IsCondition places (read b p)) (sym t) (subst (λ o. HasFlag o true) (sym there) (flag ∙ t))
read_sort (Enumeration at) places f p place t there flag =
    subst (λ b. IsWhole places (read b p)) (sym t) (subst (λ o. HasFlag o false) (sym there) (flag ∙ t))

zero_sort : (k : Kind) (places : List Place) (n : ℤ) → (is_truth (Some k) ≡ true → ⊥) → IsOfKind k places (e.number n)
zero_sort Whole places n h = tt
zero_sort Truth places n h = absurd (h refl)
zero_sort (Enumeration at) places n h = tt

-- what a statement declares, as a value
value_sort_in : (s : Setting) (places : List Place) → Reads s places → (name : List ℕ) (spot : Spot) (x : Statement) → declaration s name ≡ Some (spot, x)
    → (k : Kind) → value_in s spot x ≡ Some k → IsOfKind k places (built_value s spot x)
value_sort_in s places r name spot (st.title called) h k t = none_some k t
value_sort_in s places r name spot (st.constant_is called value) h k t = subst (λ l. IsOfKind l places (e.number value)) (kind_is Whole k t) tt
value_sort_in s places r name spot (st.range_type called lo hi) h k t = none_some k t
value_sort_in s places r name spot (st.wrap_type called lo hi) h k t = none_some k t
value_sort_in s places r name spot (st.enum_type called values) h k t = by_test (nat_eq spot.1 0) t
  where
    by_test : (b : Bool) → (if b then None else Some (Enumeration spot.0)) ≡ Some k → IsOfKind k places (e.number (pos (spot.1 - 1)))
    by_test true t = none_some k t
    by_test false t = subst (λ l. IsOfKind l places (e.number (pos (spot.1 - 1)))) (kind_is (Enumeration spot.0) k t) tt
value_sort_in s places r name spot (st.procedure called) h k t = none_some k t
value_sort_in s places r name spot (st.variable m called used) h k t =
    read_sort k places (is_flag (record s { at = spot.0 }) used) (place_number s spot) (place_of (record s { at = spot.0 }) (st.variable m called used)) (ap is_truth t)
    (r.variables name spot m called used h) refl
value_sort_in s places r name spot (st.pre tree) h k t = none_some k t
value_sort_in s places r name spot (st.post tree) h k t = none_some k t
value_sort_in s places r name spot (st.assign called tree) h k t = none_some k t
value_sort_in s places r name spot (st.if_true tree) h k t = none_some k t
value_sort_in s places r name spot st.otherwise h k t = none_some k t
value_sort_in s places r name spot st.end_if h k t = none_some k t
value_sort_in s places r name spot st.loop h k t = none_some k t
value_sort_in s places r name spot st.end_loop h k t = none_some k t
value_sort_in s places r name spot st.exit h k t = none_some k t
value_sort_in s places r name spot (st.exit_when tree) h k t = none_some k t
value_sort_in s places r name spot (st.label called) h k t = none_some k t
value_sort_in s places r name spot (st.goto called) h k t = none_some k t
value_sort_in s places r name spot (st.call called arguments) h k t = none_some k t
value_sort_in s places r name spot st.skip h k t = none_some k t
value_sort_in s places r name spot (st.assert tree) h k t = none_some k t
value_sort_in s places r name spot st.return h k t = none_some k t
value_sort_in s places r name spot st.end_procedure h k t = none_some k t
value_sort_in s places r name spot st.finish h k t = none_some k t

value_sort : (s : Setting) (places : List Place) → Reads s places → (name : List ℕ) (o : Option (Spot × Statement)) → declaration s name ≡ o
    → (k : Kind) → option_and_then (λ d. value_in s d.0 d.1) o ≡ Some k → IsOfKind k places (unwrap_or (option_map (λ d. built_value s d.0 d.1) o) (e.number (pos 0)))
value_sort s places r name None h k t = none_some k t
value_sort s places r name (Some d) h k t = value_sort_in s places r name d.0 d.1 h k t

-- what a statement declares, behind OLD
copy_sort_in : (s : Setting) (places : List Place) → Reads s places → (name : List ℕ) (spot : Spot) (x : Statement) → declaration s name ≡ Some (spot, x)
    → ((m : Mode) → mode_in x ≡ Some m → is_inout m ≡ true) → (k : Kind) → variable_in s spot x ≡ Some k → IsOfKind k places (built_recalled s spot x)
copy_sort_in s places r name spot (st.title called) h i k t = none_some k t
copy_sort_in s places r name spot (st.constant_is called value) h i k t = none_some k t
copy_sort_in s places r name spot (st.range_type called lo hi) h i k t = none_some k t
copy_sort_in s places r name spot (st.wrap_type called lo hi) h i k t = none_some k t
copy_sort_in s places r name spot (st.enum_type called values) h i k t = none_some k t
copy_sort_in s places r name spot (st.procedure called) h i k t = none_some k t
copy_sort_in s places r name spot (st.variable m called used) h i k t =
    read_sort k places (is_flag (record s { at = spot.0 }) used) (copy_number s spot) (old_copy (place_of (record s { at = spot.0 }) (st.variable m called used))) (ap is_truth t)
    (r.copies name spot m called used h (i m refl)) refl
copy_sort_in s places r name spot (st.pre tree) h i k t = none_some k t
copy_sort_in s places r name spot (st.post tree) h i k t = none_some k t
copy_sort_in s places r name spot (st.assign called tree) h i k t = none_some k t
copy_sort_in s places r name spot (st.if_true tree) h i k t = none_some k t
copy_sort_in s places r name spot st.otherwise h i k t = none_some k t
copy_sort_in s places r name spot st.end_if h i k t = none_some k t
copy_sort_in s places r name spot st.loop h i k t = none_some k t
copy_sort_in s places r name spot st.end_loop h i k t = none_some k t
copy_sort_in s places r name spot st.exit h i k t = none_some k t
copy_sort_in s places r name spot (st.exit_when tree) h i k t = none_some k t
copy_sort_in s places r name spot (st.label called) h i k t = none_some k t
copy_sort_in s places r name spot (st.goto called) h i k t = none_some k t
copy_sort_in s places r name spot (st.call called arguments) h i k t = none_some k t
copy_sort_in s places r name spot st.skip h i k t = none_some k t
copy_sort_in s places r name spot (st.assert tree) h i k t = none_some k t
copy_sort_in s places r name spot st.return h i k t = none_some k t
copy_sort_in s places r name spot st.end_procedure h i k t = none_some k t
copy_sort_in s places r name spot st.finish h i k t = none_some k t

copy_sort : (s : Setting) (places : List Place) → Reads s places → (name : List ℕ) (o : Option (Spot × Statement)) → declaration s name ≡ o
    → ((m : Mode) → option_and_then (λ d. mode_in d.1) o ≡ Some m → is_inout m ≡ true)
    → (k : Kind) → option_and_then (λ d. variable_in s d.0 d.1) o ≡ Some k → IsOfKind k places (unwrap_or (option_map (λ d. built_recalled s d.0 d.1) o) (e.number (pos 0)))
copy_sort s places r name None h i k t = none_some k t
copy_sort s places r name (Some d) h i k t = copy_sort_in s places r name d.0 d.1 h i k t

mode_is : (m n : Mode) → Some m ≡ Some n → m ≡ n
mode_is m n h = cc

-- OLD names INOUT variables alone
pub recalls_inout : (p : Part) (o : Option Mode) → may_recall p o ≡ true → (m : Mode) → o ≡ Some m → is_inout m ≡ true
recalls_inout part.Action o h m t = absurd (cc)
recalls_inout p None h m t = none_some m t
recalls_inout part.Precondition (Some mode.InOut) h m t = subst (λ n. is_inout n ≡ true) (mode_is mode.InOut m t) refl
recalls_inout part.Postcondition (Some mode.InOut) h m t = subst (λ n. is_inout n ≡ true) (mode_is mode.InOut m t) refl
recalls_inout part.Assertion (Some mode.InOut) h m t = subst (λ n. is_inout n ≡ true) (mode_is mode.InOut m t) refl
recalls_inout part.Precondition (Some mode.Input) h m t = absurd (cc)
recalls_inout part.Precondition (Some mode.Output) h m t = absurd (cc)
recalls_inout part.Precondition (Some mode.Local) h m t = absurd (cc)
recalls_inout part.Postcondition (Some mode.Input) h m t = absurd (cc)
recalls_inout part.Postcondition (Some mode.Output) h m t = absurd (cc)
recalls_inout part.Postcondition (Some mode.Local) h m t = absurd (cc)
recalls_inout part.Assertion (Some mode.Input) h m t = absurd (cc)
recalls_inout part.Assertion (Some mode.Output) h m t = absurd (cc)
recalls_inout part.Assertion (Some mode.Local) h m t = absurd (cc)

kept_kind : (b : Bool) (l k : Kind) → kind_if b l ≡ Some k → (b ≡ true) × (l ≡ k)
kept_kind true l k h = (refl, kind_is l k h)
kept_kind false l k h = none_some k h

pub whole_is : (o : Option Kind) → is_whole o ≡ true → o ≡ Some Whole
whole_is None h = absurd (cc)
whole_is (Some Whole) h = refl
whole_is (Some Truth) h = absurd (cc)
whole_is (Some (Enumeration at)) h = absurd (cc)

pub truth_is : (o : Option Kind) → is_truth o ≡ true → o ≡ Some Truth
truth_is None h = absurd (cc)
truth_is (Some Whole) h = absurd (cc)
truth_is (Some Truth) h = refl
truth_is (Some (Enumeration at)) h = absurd (cc)

enumeration_is : (at : ℕ) (o : Option Kind) → is_enumeration at o ≡ true → (b : ℕ) × (o ≡ Some (Enumeration b))
enumeration_is at None h = absurd (cc)
enumeration_is at (Some Whole) h = absurd (cc)
enumeration_is at (Some Truth) h = absurd (cc)
enumeration_is at (Some (Enumeration b)) h = (b, refl)

pub enumerations_are : (o p : Option Kind) → are_of_one o p ≡ true → (a : ℕ) × (b : ℕ) × (o ≡ Some (Enumeration a)) × (p ≡ Some (Enumeration b))
enumerations_are None p h = absurd (cc)
enumerations_are (Some Whole) p h = absurd (cc)
enumerations_are (Some Truth) p h = absurd (cc)
enumerations_are (Some (Enumeration a)) p h = let k = enumeration_is a p h in (a, k.0, refl, k.1)

pub one_of : (a b : Bool) → (a || b) ≡ true → (a ≡ true) ⊎ (b ≡ true)
one_of true b h = inl refl
one_of false b h = inr h

-- two sides that may be compared are whole where each is of its kind
compared : (r : Relation) (o p : Option Kind) (places : List Place) (x y : Expression) → are_comparable r o p ≡ true
    → ((k : Kind) → o ≡ Some k → IsOfKind k places x) → ((k : Kind) → p ≡ Some k → IsOfKind k places y) → IsWhole places x × IsWhole places y
compared r o p places x y h f g = elim (one_of (are_whole o p) (is_equality r && are_of_one o p) h) [
  | inl w ↦ let b = both_true _ _ w in (f Whole (whole_is o b.0), g Whole (whole_is p b.1))
  | inr w ↦ let n = enumerations_are o p (both_true _ _ w).1 in (f (Enumeration n.0) n.2, g (Enumeration n.1) n.3)
]

-- an operator over two sides, each of its kind
two_sort : (o : BinOp) (a b : Option Kind) (places : List Place) (x y : Expression) (k : Kind) → kind_of_two o a b ≡ Some k
    → ((l : Kind) → a ≡ Some l → IsOfKind l places x) → ((l : Kind) → b ≡ Some l → IsOfKind l places y) → IsOfKind k places (e.two o x y)
two_sort Add a b places x y k h f g =
    let kept = kept_kind (are_whole a b) Whole k h in
    let w = both_true _ _ kept.0 in
    subst (λ l. IsOfKind l places (e.two Add x y)) kept.1 (f Whole (whole_is a w.0), g Whole (whole_is b w.1))
two_sort Sub a b places x y k h f g =
    let kept = kept_kind (are_whole a b) Whole k h in
    let w = both_true _ _ kept.0 in
    subst (λ l. IsOfKind l places (e.two Sub x y)) kept.1 (f Whole (whole_is a w.0), g Whole (whole_is b w.1))
two_sort Mul a b places x y k h f g =
    let kept = kept_kind (are_whole a b) Whole k h in
    let w = both_true _ _ kept.0 in
    subst (λ l. IsOfKind l places (e.two Mul x y)) kept.1 (f Whole (whole_is a w.0), g Whole (whole_is b w.1))
two_sort Div a b places x y k h f g =
    let kept = kept_kind (are_whole a b) Whole k h in
    let w = both_true _ _ kept.0 in
    subst (λ l. IsOfKind l places (e.two Div x y)) kept.1 (f Whole (whole_is a w.0), g Whole (whole_is b w.1))
two_sort Mod a b places x y k h f g =
    let kept = kept_kind (are_whole a b) Whole k h in
    let w = both_true _ _ kept.0 in
    subst (λ l. IsOfKind l places (e.two Mod x y)) kept.1 (f Whole (whole_is a w.0), g Whole (whole_is b w.1))
two_sort And a b places x y k h f g =
    let kept = kept_kind (are_truth a b) Truth k h in
    let w = both_true _ _ kept.0 in
    subst (λ l. IsOfKind l places (e.two And x y)) kept.1 (f Truth (truth_is a w.0), g Truth (truth_is b w.1))
two_sort Or a b places x y k h f g =
    let kept = kept_kind (are_truth a b) Truth k h in
    let w = both_true _ _ kept.0 in
    subst (λ l. IsOfKind l places (e.two Or x y)) kept.1 (f Truth (truth_is a w.0), g Truth (truth_is b w.1))
two_sort (Compare r) a b places x y k h f g =
    let kept = kept_kind (are_comparable r a b) Truth k h in
    subst (λ l. IsOfKind l places (e.two (Compare r) x y)) kept.1 (compared r a b places x y kept.0 f g)

-- a well typed expression with allowed modes
pub built_sort : (s : Setting) (places : List Place) → Reads s places → (p : Part) (x : Tree) → keeps_modes s p x ≡ true
    → (k : Kind) → kind_of s x ≡ Some k → IsOfKind k places (built s x)
built_sort s places r p (number n) m k t = subst (λ l. IsOfKind l places (e.number (pos n))) (kind_is Whole k t) tt
built_sort s places r p (word name) m k t = value_sort s places r name (declaration s name) refl k t
built_sort s places r p (former name) m k t = copy_sort s places r name (declaration s name) refl (recalls_inout p (mode_of s name) m) k t
built_sort s places r p (constant b) m k t = subst (λ l. IsOfKind l places (e.truth b)) (kind_is Truth k t) tt
built_sort s places r p (minus x) m k t =
    let kept = kept_kind (is_whole (kind_of s x)) Whole k t in
    subst (λ l. IsOfKind l places (e.minus (built s x))) kept.1 (built_sort s places r p x m Whole (whole_is _ kept.0))
built_sort s places r p (opposite x) m k t =
    let kept = kept_kind (is_truth (kind_of s x)) Truth k t in
    subst (λ l. IsOfKind l places (e.opposite (built s x))) kept.1 (built_sort s places r p x m Truth (truth_is _ kept.0))
built_sort s places r p (two o x y) m k t =
    let both = both_true _ _ m in
    two_sort o (kind_of s x) (kind_of s y) places (built s x) (built s y) k t (λ l h. built_sort s places r p x both.0 l h) (λ l h. built_sort s places r p y both.1 l h)
