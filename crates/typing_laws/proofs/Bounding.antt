-- The static bounds of a written expression are there exactly where each part of what is built of it has small ones, and they are its bounds.
use Rattle.std.proofs.Common.{◌≡◌, ℕ, ◌-◌, ◌≤◌, ◌∙◌, sym, ap, subst, refl, Bool, true, false, ◌&&◌, List, arith, pos, nat_le, if◌then◌else◌}
use Rattle.std.specs.Prelude.{Option, Some, None, slice_get, unwrap_or}
use Rattle.std.specs.Option.{option_and_then, option_map}
use Rattle.il_core.specs.Bounds.{Bounds, AreSmall, IsNarrow, bounds_of, place_bounds, only, operator_bounds}
use Rattle.il_core.specs.Checked.{old_copy}
use Rattle.il_core.specs.Expression.{Expression}
use Rattle.il_core.specs.Expression as e
use Rattle.il_core.specs.Run.{is_inout}
use Rattle.il_core.specs.Statement.{Statement, Placed}
use Rattle.il_core.specs.Statement as st
use Rattle.il_core.specs.Tree.{Tree}
use Rattle.il_core.specs.Tree as tree
use Rattle.il_core.specs.declared.line.Place.{Place}
use Rattle.il_core.specs.declared.statement.Mode.{Mode}
use Rattle.il_syntax.specs.Order.{part_of, IsInOrder}
use Rattle.il_types.specs.declared.modes.Part.{Part}
use Rattle.il_types.specs.Built.{read, is_flag, place_of, place_number, copy_number, built_value, built_recalled, built}
use Rattle.il_types.specs.Modes.{mode_in, mode_of, keeps_modes}
use Rattle.il_types.specs.Names.{Setting, Spot, declaration, counts_at}
use Rattle.il_types.specs.Narrow.{is_small, if_small, value_bounds, recalled_value, opposite_bounds, bounds_of_two, static_bounds}
use Rattle.il_built.specs.CheckedText.{places_of}
use Rattle.il_built.specs.Holding.{setting_at, Holds}
use Rattle.il_built.proofs.BuiltBounds.{built_bounds}
use Rattle.il_built.proofs.BuiltFits.{reads_of}
use Rattle.il_built.proofs.BuiltSorts.{Reads, both_true, recalls_inout}
use Rattle.il_built.proofs.PlacesHold.{places_hold}
use Rattle.il_built.proofs.VariablesFirst.{is_behind, owned, all_before}
use Rattle.typing_laws.specs.Parts.{HasExpression, of_pre, of_post, of_assert, of_assignment, of_if, of_exit}
use Rattle.typing_laws.specs.Declared.{Says}
use Rattle.typing_laws.specs.Means.{own_places}
use Rattle.typing_laws.specs.Laws.{BoundsAreShared}
use Rattle.typing_laws.proofs.Standing.{placed_at}

tests_small : (a : ℕ) (b : ℕ) → a ≤ b → nat_le a b ≡ true
tests_small a b h = grind arith

both : (a b : Bool) → a ≡ true → b ≡ true → (a && b) ≡ true
both a b p q = ap (λ t. t && b) p ∙ q

pub small_is : (b : Bounds) → AreSmall b → if_small b ≡ Some b
small_is b s = ap (λ t. if t then Some b else None) (both (is_small b.low) (is_small b.high) (tests_small _ _ s.0) (tests_small _ _ s.1))

-- a place that is there, read by its flag
narrow_read : (places : List Place) (f : Bool) (p : ℕ) (place : Place) → slice_get places p ≡ Some place → IsNarrow places (read f p)
    → if_small (if f then only (pos 0) else place_bounds (Some place)) ≡ Some (bounds_of places (read f p))
narrow_read places true p place there n = refl
narrow_read places false p place there n =
    let same : place_bounds (slice_get places p) ≡ place_bounds (Some place) = ap place_bounds there in
    small_is (place_bounds (Some place)) (subst AreSmall same n) ∙ ap Some (sym same)

narrow_value_in : (s : Setting) (places : List Place) → Reads s places → (name : List ℕ) (spot : Spot) (x : Statement) → declaration s name ≡ Some (spot, x)
    → IsNarrow places (built_value s spot x) → if_small (value_bounds s spot x) ≡ Some (bounds_of places (built_value s spot x))
narrow_value_in s places r name spot (st.constant_is called value) h n = small_is (only value) n
narrow_value_in s places r name spot (st.enum_type called values) h n = small_is (only (pos (spot.1 - 1))) n
narrow_value_in s places r name spot (st.variable m called used) h n =
    narrow_read places (is_flag (record s { at = spot.0 }) used) (place_number s spot) (place_of (record s { at = spot.0 }) (st.variable m called used))
    (r.variables name spot m called used h) n
narrow_value_in s places r name spot _ h n = refl

narrow_value : (s : Setting) (places : List Place) → Reads s places → (name : List ℕ) (o : Option (Spot × Statement)) → declaration s name ≡ o
    → IsNarrow places (unwrap_or (option_map (λ x. built_value s x.0 x.1) o) (e.number (pos 0)))
    → if_small (unwrap_or (option_map (λ x. value_bounds s x.0 x.1) o) (only (pos 0))) ≡ Some (bounds_of places (unwrap_or (option_map (λ x. built_value s x.0 x.1) o) (e.number (pos 0))))
narrow_value s places r name None h n = refl
narrow_value s places r name (Some x) h n = narrow_value_in s places r name x.0 x.1 h n

narrow_copy_in : (s : Setting) (places : List Place) → Reads s places → (name : List ℕ) (spot : Spot) (x : Statement) → declaration s name ≡ Some (spot, x)
    → ((m : Mode) → mode_in x ≡ Some m → is_inout m ≡ true) → IsNarrow places (built_recalled s spot x)
    → if_small (recalled_value s spot x) ≡ Some (bounds_of places (built_recalled s spot x))
narrow_copy_in s places r name spot (st.variable m called used) h i n =
    narrow_read places (is_flag (record s { at = spot.0 }) used) (copy_number s spot) (old_copy (place_of (record s { at = spot.0 }) (st.variable m called used)))
    (r.copies name spot m called used h (i m refl)) n
narrow_copy_in s places r name spot _ h i n = refl

narrow_copy : (s : Setting) (places : List Place) → Reads s places → (name : List ℕ) (o : Option (Spot × Statement)) → declaration s name ≡ o
    → ((m : Mode) → option_and_then (λ x. mode_in x.1) o ≡ Some m → is_inout m ≡ true)
    → IsNarrow places (unwrap_or (option_map (λ x. built_recalled s x.0 x.1) o) (e.number (pos 0)))
    → if_small (unwrap_or (option_map (λ x. recalled_value s x.0 x.1) o) (only (pos 0))) ≡ Some (bounds_of places (unwrap_or (option_map (λ x. built_recalled s x.0 x.1) o) (e.number (pos 0))))
narrow_copy s places r name None h i n = refl
narrow_copy s places r name (Some x) h i n = narrow_copy_in s places r name x.0 x.1 h i n

-- where each part of what is built has small bounds, these are the static bounds of what is written
narrow_bounds : (s : Setting) (places : List Place) → Reads s places → (p : Part) (x : Tree) → keeps_modes s p x ≡ true → IsNarrow places (built s x)
    → static_bounds s x ≡ Some (bounds_of places (built s x))
narrow_bounds s places r p (tree.number n) m h = small_is (only (pos n)) h
narrow_bounds s places r p (tree.word name) m h = narrow_value s places r name (declaration s name) refl h
narrow_bounds s places r p (tree.former name) m h = narrow_copy s places r name (declaration s name) refl (recalls_inout p (mode_of s name) m) h
narrow_bounds s places r p (tree.constant b) m h = refl
narrow_bounds s places r p (tree.minus x) m h =
    let inner = narrow_bounds s places r p x m h.0 in
    ap (option_and_then (λ b. if_small (opposite_bounds b))) inner ∙ small_is (opposite_bounds (bounds_of places (built s x))) h.1
narrow_bounds s places r p (tree.opposite x) m h = ap (option_map (λ b. only (pos 0))) (narrow_bounds s places r p x m h)
narrow_bounds s places r p (tree.two o x y) m h =
    let modes = both_true _ _ m in
    let left = narrow_bounds s places r p x modes.0 h.0 in
    let right = narrow_bounds s places r p y modes.1 h.1 in
    ap (λ a. bounds_of_two o a (static_bounds s y)) left ∙ ap (bounds_of_two o (Some (bounds_of places (built s x)))) right
    ∙ small_is (operator_bounds o (bounds_of places (built s x)) (bounds_of places (built s y))) h.2

-- a statement that has an expression stands behind the variables of its procedure
behind : (x : Statement) (p : Part) (d : Tree) → HasExpression x p d → is_behind (part_of x) ≡ true
behind x p d (of_pre t) = refl
behind x p d (of_post t) = refl
behind x p d (of_assert t) = refl
behind x p d (of_assignment name t) = refl
behind x p d (of_if t) = refl
behind x p d (of_exit t) = refl

reads_places : (stmts : List Placed) (i : ℕ) (s : Placed) → IsInOrder stmts → slice_get stmts i ≡ Some s → is_behind (part_of s.says) ≡ true
    → Reads (setting_at stmts i) (places_of stmts (counts_at stmts i).procedures)
reads_places stmts i s order there h =
    let c = counts_at stmts i in
    let holds : Holds (places_of stmts c.procedures) stmts c.procedures c.variables =
    subst (Holds (places_of stmts c.procedures) stmts c.procedures) (all_before stmts i s order there h) (places_hold stmts c.procedures) in
    reads_of stmts (places_of stmts c.procedures) i (owned stmts order) holds

-- the places of its procedure are read at a statement that has an expression
pub reads_at : (stmts : List Placed) (i : ℕ) (x : Statement) (p : Part) (d : Tree) → IsInOrder stmts → Says stmts i x → HasExpression x p d
    → Reads (setting_at stmts i) (own_places stmts i)
reads_at stmts i x p d order says has =
    let s = placed_at stmts i x says in
    reads_places stmts i s.0 order s.1 (ap (λ y. is_behind (part_of y)) s.2 ∙ behind x p d has)

pub bounds_shared : BoundsAreShared
bounds_shared stmts order i x p d says has modes b =
    let r = reads_at stmts i x p d order says has in (
      λ h. built_bounds (setting_at stmts i) (own_places stmts i) r p d modes b h,
      λ h. narrow_bounds (setting_at stmts i) (own_places stmts i) r p d modes h.1 ∙ ap Some h.0,
    )
