-- The static bounds of what is built are those of what is written, and they are small where those are there.
use Rattle.std.proofs.Common.{◌≡◌, ℕ, ◌-◌, ◌≤◌, ◌∙◌, sym, ap, subst, refl, Bool, true, false, ◌&&◌, List, arith, pos, nat_le, if◌then◌else◌}
use Rattle.std.specs.Prelude.{Option, Some, None, slice_get, unwrap_or}
use Rattle.std.specs.Option.{option_and_then, option_map}
use Rattle.il_core.specs.Bounds.{Bounds, AreSmall, IsNarrow, bounds_of, place_bounds, only, operator_bounds}
use Rattle.il_core.specs.Checked.{old_copy}
use Rattle.il_core.specs.Expression.{Expression}
use Rattle.il_core.specs.Expression as e
use Rattle.il_core.specs.Run.{is_inout}
use Rattle.il_core.specs.Statement.{Statement}
use Rattle.il_core.specs.Statement as st
use Rattle.il_core.specs.Tree.{Tree, number, word, former, constant, minus, opposite, two}
use Rattle.il_core.specs.declared.line.Place.{Place}
use Rattle.il_core.specs.declared.operator.BinOp.{BinOp}
use Rattle.il_core.specs.declared.statement.Mode.{Mode}
use Rattle.il_types.specs.declared.modes.Part.{Part}
use Rattle.il_types.specs.Built.{read, is_flag, place_of, place_number, copy_number, built_value, built_recalled, built}
use Rattle.il_types.specs.Modes.{mode_in, mode_of, keeps_modes}
use Rattle.il_types.specs.Names.{Setting, Spot, declaration}
use Rattle.il_types.specs.Narrow.{is_small, if_small, value_bounds, recalled_value, opposite_bounds, bounds_of_two, static_bounds}
use Rattle.il_built.proofs.BuiltSorts.{Reads, both_true, recalls_inout}
use Rattle.il_built.proofs.Entered.{bound, mapped}

-- an expression has these bounds, and each part of it small ones
abbrev Agrees : List Place → Expression → Bounds → Type 0
Agrees places x d = (bounds_of places x ≡ d) × IsNarrow places x

at_most : (a b : ℕ) → nat_le a b ≡ true → a ≤ b
at_most a b h = grind arith

some_is : {A : Type 0} (a b : A) → Some a ≡ Some b → a ≡ b
some_is a b h = cc

small_means : (b d : Bounds) → if_small b ≡ Some d → (b ≡ d) × AreSmall b
small_means b d = by_test (is_small b.low && is_small b.high) refl
  where
    by_test : (t : Bool) → (is_small b.low && is_small b.high) ≡ t → (if t then Some b else None) ≡ Some d → (b ≡ d) × AreSmall b
    by_test true h k = let both = both_true _ _ h in (some_is b d k, (at_most _ _ both.0, at_most _ _ both.1))
    by_test false h k = absurd (cc)

-- a place that is there, read by its flag
read_bounds : (places : List Place) (f : Bool) (p : ℕ) (place : Place) (d : Bounds) → slice_get places p ≡ Some place
    → if_small (if f then only (pos 0) else place_bounds (Some place)) ≡ Some d → Agrees places (read f p) d
read_bounds places true p place d there h = ((small_means (only (pos 0)) d h).0, tt)
read_bounds places false p place d there h =
    let m = small_means (place_bounds (Some place)) d h in
    (ap place_bounds there ∙ m.0, subst AreSmall (sym (ap place_bounds there)) m.1)

-- what a statement declares, as a value
value_bounds_in : (s : Setting) (places : List Place) → Reads s places → (name : List ℕ) (spot : Spot) (x : Statement) → declaration s name ≡ Some (spot, x)
    → (d : Bounds) → if_small (value_bounds s spot x) ≡ Some d → Agrees places (built_value s spot x) d
value_bounds_in s places r name spot (st.title called) h d t = small_means (only (pos 0)) d t
value_bounds_in s places r name spot (st.constant_is called value) h d t = small_means (only value) d t
value_bounds_in s places r name spot (st.range_type called lo hi) h d t = small_means (only (pos 0)) d t
value_bounds_in s places r name spot (st.wrap_type called lo hi) h d t = small_means (only (pos 0)) d t
value_bounds_in s places r name spot (st.enum_type called values) h d t = small_means (only (pos (spot.1 - 1))) d t
value_bounds_in s places r name spot (st.procedure called) h d t = small_means (only (pos 0)) d t
value_bounds_in s places r name spot (st.variable m called used) h d t =
    read_bounds places (is_flag (record s { at = spot.0 }) used) (place_number s spot) (place_of (record s { at = spot.0 }) (st.variable m called used)) d
    (r.variables name spot m called used h) t
value_bounds_in s places r name spot (st.pre tree) h d t = small_means (only (pos 0)) d t
value_bounds_in s places r name spot (st.post tree) h d t = small_means (only (pos 0)) d t
value_bounds_in s places r name spot (st.assign called tree) h d t = small_means (only (pos 0)) d t
value_bounds_in s places r name spot (st.if_true tree) h d t = small_means (only (pos 0)) d t
value_bounds_in s places r name spot st.otherwise h d t = small_means (only (pos 0)) d t
value_bounds_in s places r name spot st.end_if h d t = small_means (only (pos 0)) d t
value_bounds_in s places r name spot st.loop h d t = small_means (only (pos 0)) d t
value_bounds_in s places r name spot st.end_loop h d t = small_means (only (pos 0)) d t
value_bounds_in s places r name spot st.exit h d t = small_means (only (pos 0)) d t
value_bounds_in s places r name spot (st.exit_when tree) h d t = small_means (only (pos 0)) d t
value_bounds_in s places r name spot (st.label called) h d t = small_means (only (pos 0)) d t
value_bounds_in s places r name spot (st.goto called) h d t = small_means (only (pos 0)) d t
value_bounds_in s places r name spot (st.call called arguments) h d t = small_means (only (pos 0)) d t
value_bounds_in s places r name spot st.skip h d t = small_means (only (pos 0)) d t
value_bounds_in s places r name spot (st.assert tree) h d t = small_means (only (pos 0)) d t
value_bounds_in s places r name spot st.return h d t = small_means (only (pos 0)) d t
value_bounds_in s places r name spot st.end_procedure h d t = small_means (only (pos 0)) d t
value_bounds_in s places r name spot st.finish h d t = small_means (only (pos 0)) d t

value_bounds_are : (s : Setting) (places : List Place) → Reads s places → (name : List ℕ) (o : Option (Spot × Statement)) → declaration s name ≡ o
    → (d : Bounds) → if_small (unwrap_or (option_map (λ x. value_bounds s x.0 x.1) o) (only (pos 0))) ≡ Some d
    → Agrees places (unwrap_or (option_map (λ x. built_value s x.0 x.1) o) (e.number (pos 0))) d
value_bounds_are s places r name None h d t = small_means (only (pos 0)) d t
value_bounds_are s places r name (Some x) h d t = value_bounds_in s places r name x.0 x.1 h d t

-- what a statement declares, behind OLD
copy_bounds_in : (s : Setting) (places : List Place) → Reads s places → (name : List ℕ) (spot : Spot) (x : Statement) → declaration s name ≡ Some (spot, x)
    → ((m : Mode) → mode_in x ≡ Some m → is_inout m ≡ true) → (d : Bounds) → if_small (recalled_value s spot x) ≡ Some d → Agrees places (built_recalled s spot x) d
copy_bounds_in s places r name spot (st.title called) h i d t = small_means (only (pos 0)) d t
copy_bounds_in s places r name spot (st.constant_is called value) h i d t = small_means (only (pos 0)) d t
copy_bounds_in s places r name spot (st.range_type called lo hi) h i d t = small_means (only (pos 0)) d t
copy_bounds_in s places r name spot (st.wrap_type called lo hi) h i d t = small_means (only (pos 0)) d t
copy_bounds_in s places r name spot (st.enum_type called values) h i d t = small_means (only (pos 0)) d t
copy_bounds_in s places r name spot (st.procedure called) h i d t = small_means (only (pos 0)) d t
copy_bounds_in s places r name spot (st.variable m called used) h i d t =
    read_bounds places (is_flag (record s { at = spot.0 }) used) (copy_number s spot) (old_copy (place_of (record s { at = spot.0 }) (st.variable m called used))) d
    (r.copies name spot m called used h (i m refl)) t
copy_bounds_in s places r name spot (st.pre tree) h i d t = small_means (only (pos 0)) d t
copy_bounds_in s places r name spot (st.post tree) h i d t = small_means (only (pos 0)) d t
copy_bounds_in s places r name spot (st.assign called tree) h i d t = small_means (only (pos 0)) d t
copy_bounds_in s places r name spot (st.if_true tree) h i d t = small_means (only (pos 0)) d t
copy_bounds_in s places r name spot st.otherwise h i d t = small_means (only (pos 0)) d t
copy_bounds_in s places r name spot st.end_if h i d t = small_means (only (pos 0)) d t
copy_bounds_in s places r name spot st.loop h i d t = small_means (only (pos 0)) d t
copy_bounds_in s places r name spot st.end_loop h i d t = small_means (only (pos 0)) d t
copy_bounds_in s places r name spot st.exit h i d t = small_means (only (pos 0)) d t
copy_bounds_in s places r name spot (st.exit_when tree) h i d t = small_means (only (pos 0)) d t
copy_bounds_in s places r name spot (st.label called) h i d t = small_means (only (pos 0)) d t
copy_bounds_in s places r name spot (st.goto called) h i d t = small_means (only (pos 0)) d t
copy_bounds_in s places r name spot (st.call called arguments) h i d t = small_means (only (pos 0)) d t
copy_bounds_in s places r name spot st.skip h i d t = small_means (only (pos 0)) d t
copy_bounds_in s places r name spot (st.assert tree) h i d t = small_means (only (pos 0)) d t
copy_bounds_in s places r name spot st.return h i d t = small_means (only (pos 0)) d t
copy_bounds_in s places r name spot st.end_procedure h i d t = small_means (only (pos 0)) d t
copy_bounds_in s places r name spot st.finish h i d t = small_means (only (pos 0)) d t

copy_bounds_are : (s : Setting) (places : List Place) → Reads s places → (name : List ℕ) (o : Option (Spot × Statement)) → declaration s name ≡ o
    → ((m : Mode) → option_and_then (λ x. mode_in x.1) o ≡ Some m → is_inout m ≡ true)
    → (d : Bounds) → if_small (unwrap_or (option_map (λ x. recalled_value s x.0 x.1) o) (only (pos 0))) ≡ Some d
    → Agrees places (unwrap_or (option_map (λ x. built_recalled s x.0 x.1) o) (e.number (pos 0))) d
copy_bounds_are s places r name None h i d t = small_means (only (pos 0)) d t
copy_bounds_are s places r name (Some x) h i d t = copy_bounds_in s places r name x.0 x.1 h i d t

-- the bounds of both sides
both_sides : (o : BinOp) (a b : Option Bounds) (d : Bounds) → bounds_of_two o a b ≡ Some d
    → (u : Bounds) × (v : Bounds) × (a ≡ Some u) × (b ≡ Some v) × (if_small (operator_bounds o u v) ≡ Some d)
both_sides o None b d h = absurd (cc)
both_sides o (Some u) None d h = absurd (cc)
both_sides o (Some u) (Some v) d h = (u, v, refl, refl, h)

pub built_bounds : (s : Setting) (places : List Place) → Reads s places → (p : Part) (x : Tree) → keeps_modes s p x ≡ true
    → (d : Bounds) → static_bounds s x ≡ Some d → Agrees places (built s x) d
built_bounds s places r p (number n) m d t = small_means (only (pos n)) d t
built_bounds s places r p (word name) m d t = value_bounds_are s places r name (declaration s name) refl d t
built_bounds s places r p (former name) m d t = copy_bounds_are s places r name (declaration s name) refl (recalls_inout p (mode_of s name) m) d t
built_bounds s places r p (constant b) m d t = (some_is (only (pos 0)) d t, tt)
built_bounds s places r p (minus x) m d t =
    let inner = bound (λ b. if_small (opposite_bounds b)) (static_bounds s x) d t in
    let same = built_bounds s places r p x m inner.0 inner.1 in
    let small = small_means (opposite_bounds inner.0) d inner.2 in
    (ap opposite_bounds same.0 ∙ small.0, (same.1, subst AreSmall (sym (ap opposite_bounds same.0)) small.1))
built_bounds s places r p (opposite x) m d t =
    let inner = mapped (λ b. only (pos 0)) (static_bounds s x) d t in
    (inner.2, (built_bounds s places r p x m inner.0 inner.1).1)
built_bounds s places r p (two o x y) m d t =
    let modes = both_true _ _ m in
    let sides = both_sides o (static_bounds s x) (static_bounds s y) d t in
    let left = built_bounds s places r p x modes.0 sides.0 sides.2 in
    let right = built_bounds s places r p y modes.1 sides.1 sides.3 in
    let small = small_means (operator_bounds o sides.0 sides.1) d sides.4 in
    let same : operator_bounds o (bounds_of places (built s x)) (bounds_of places (built s y)) ≡ operator_bounds o sides.0 sides.1 =
    ap (λ a. operator_bounds o a (bounds_of places (built s y))) left.0 ∙ ap (operator_bounds o sides.0) right.0 in
    (same ∙ small.0, (left.1, right.1, subst AreSmall (sym same) small.1))
