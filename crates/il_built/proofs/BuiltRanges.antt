-- The place of a variable has a range where no statement breaks the rules of types and of ranges.
use Rattle.std.proofs.Common.{◌≡◌, ℕ, ◌∙◌, sym, ap, subst, refl, Bool, true, false, ◌&&◌, List, arith, nat_eq, ℤ, pos, ◌≤ℤ◌, if◌then◌else◌}
use Rattle.std.specs.Prelude.{Option, Some, None, is_some, int_le, slice_get, unwrap_or}
use Rattle.std.specs.Option.{option_and_then}
use Rattle.std.proofs.lemmas.Int.{ints}
use Rattle.il_core.specs.Checked.{HasRange}
use Rattle.il_core.specs.Statement.{Statement, Placed}
use Rattle.il_core.specs.Statement as st
use Rattle.il_core.specs.declared.refusal.Code.TheVariants as code
use Rattle.il_core.specs.declared.statement.Bound.{Bound}
use Rattle.il_core.specs.declared.statement.Mode.{Mode}
use Rattle.il_core.specs.declared.statement.TypeUse.{TypeUse}
use Rattle.il_core.specs.declared.statement.TypeUse.TheVariants as use_
use Rattle.il_types.specs.declared.kind.Kind.TheVariants.{Enumeration}
use Rattle.il_types.specs.declared.range.Range.{Range}
use Rattle.il_types.specs.declared.rules.Found.{Found}
use Rattle.il_types.specs.declared.rules.Rule.TheVariants as rule
use Rattle.il_types.specs.Built.{plain, range_between, range_in, place_of}
use Rattle.il_types.specs.Names.{Setting, Spot, setting, front_of, said, in_force, declaration}
use Rattle.il_types.specs.Ranges.{is_not_above, holds_some, has_range}
use Rattle.il_types.specs.Rules.{broken, ComesNowhere}
use Rattle.il_types.specs.Typing.{bound_value, type_in, is_truth, are_bounds, is_typed}
use Rattle.il_built.specs.Holding.{setting_at, Declares}
use Rattle.il_built.proofs.BuiltFits.{kept_unless}
use Rattle.il_built.proofs.Entered.{bound, mapped}

not_above : (a b : ℤ) → int_le a b ≡ true → a ≤ℤ b
not_above a b h = grind (arith, ints)

-- the ends of a range that are there and hold a value
ends : (a b : Option ℤ) → (is_some a && is_some b) ≡ true → is_not_above a b ≡ true → unwrap_or a (pos 0) ≤ℤ unwrap_or b (pos 0)
ends (Some x) (Some y) h k = not_above x y k
ends (Some x) None h k = absurd (cc)
ends None b h k = absurd (cc)

pub record IsOrdered (r : Range) : Type 0 where
  pub ordered : r.least ≤ℤ r.greatest

between : (s : Setting) (wrap : Bool) (least greatest : Bound) → are_bounds s least greatest ≡ true → holds_some s least greatest ≡ true
    → IsOrdered (range_between s wrap least greatest)
between s wrap least greatest h k = record { ordered = ends (bound_value s least) (bound_value s greatest) h k }

-- a statement does not break a rule that no statement breaks
pub nowhere_at : (pass : ℕ → Statement → Option Found) (stmts : List Placed) (i : ℕ) (x : Placed) → ComesNowhere pass stmts → slice_get stmts i ≡ Some x → pass i x.says ≡ None
nowhere_at pass stmts i x n there = sym (ap (option_and_then (λ (y : Placed). pass i y.says)) there) ∙ n i

typed_at : (stmts : List Placed) (i : ℕ) (x : Placed) → ComesNowhere (broken rule.Typed (front_of stmts).table stmts) stmts → slice_get stmts i ≡ Some x
    → is_typed (setting_at stmts i) x.says ≡ true
typed_at stmts i x n there = kept_unless (is_typed (setting_at stmts i) x.says) code.Typing (nowhere_at (broken rule.Typed (front_of stmts).table stmts) stmts i x n there)

filled_at : (stmts : List Placed) (i : ℕ) (x : Placed) → ComesNowhere (broken rule.Filled (front_of stmts).table stmts) stmts → slice_get stmts i ≡ Some x
    → has_range (setting_at stmts i) x.says ≡ true
filled_at stmts i x n there = kept_unless (has_range (setting_at stmts i) x.says) code.EmptyRange (nowhere_at (broken rule.Filled (front_of stmts).table stmts) stmts i x n there)

-- the statement that a name in force stands for
said_there : (s : Setting) (name : List ℕ) (spot : Spot) (x : Statement) → declaration s name ≡ Some (spot, x)
    → (y : Placed) × (slice_get s.stmts spot.0 ≡ Some y) × (y.says ≡ x)
said_there s name spot x e =
    let found = bound (said s.stmts) (in_force s name) (spot, x) e in
    let read = mapped (λ (y : Placed). (found.0, y.says)) (slice_get s.stmts found.0.0) (spot, x) found.2 in
    (read.0, subst (λ (p : Spot). slice_get s.stmts p.0 ≡ Some read.0) (ap (λ (p : Spot × Statement). p.0) read.2) read.1, ap (λ (p : Spot × Statement). p.1) read.2)

-- a type that a statement declares
record IsFine (s : Setting) (spot : Spot) (x : Statement) : Type 0 where
  ordered : IsOrdered (unwrap_or (range_in s spot x) (plain (pos 0) (pos 0)))
  no_flag : is_truth (type_in spot x) ≡ true → ⊥

fine : (stmts : List Placed) (owner at : ℕ) (spot : Spot) (x : Statement)
    → is_typed (setting_at stmts spot.0) x ≡ true → has_range (setting_at stmts spot.0) x ≡ true → is_some (type_in spot x) ≡ true
    → IsFine (setting (front_of stmts).table stmts owner at) spot x
fine stmts owner at spot (st.title called) h k some = absurd (cc)
fine stmts owner at spot (st.constant_is called value) h k some = absurd (cc)
fine stmts owner at spot (st.range_type called lo hi) h k some = record { ordered = between (setting_at stmts spot.0) false lo hi h k; no_flag = λ z. absurd (cc) }
fine stmts owner at spot (st.wrap_type called lo hi) h k some = record { ordered = between (setting_at stmts spot.0) true lo hi h k; no_flag = λ z. absurd (cc) }
fine stmts owner at spot (st.enum_type called values) h k some = record { ordered = record { ordered = omega (arith, ints) }; no_flag = no_truth (nat_eq spot.1 0) }
  where
    no_truth : (b : Bool) → is_truth (if b then Some (Enumeration spot.0) else None) ≡ true → ⊥
    no_truth true z = absurd (cc)
    no_truth false z = absurd (cc)
fine stmts owner at spot (st.procedure called) h k some = absurd (cc)
fine stmts owner at spot (st.variable m called used) h k some = absurd (cc)
fine stmts owner at spot (st.pre tree) h k some = absurd (cc)
fine stmts owner at spot (st.post tree) h k some = absurd (cc)
fine stmts owner at spot (st.assign called tree) h k some = absurd (cc)
fine stmts owner at spot (st.if_true tree) h k some = absurd (cc)
fine stmts owner at spot st.otherwise h k some = absurd (cc)
fine stmts owner at spot st.end_if h k some = absurd (cc)
fine stmts owner at spot st.loop h k some = absurd (cc)
fine stmts owner at spot st.end_loop h k some = absurd (cc)
fine stmts owner at spot st.exit h k some = absurd (cc)
fine stmts owner at spot (st.exit_when tree) h k some = absurd (cc)
fine stmts owner at spot (st.label called) h k some = absurd (cc)
fine stmts owner at spot (st.goto called) h k some = absurd (cc)
fine stmts owner at spot (st.call called arguments) h k some = absurd (cc)
fine stmts owner at spot st.skip h k some = absurd (cc)
fine stmts owner at spot (st.assert tree) h k some = absurd (cc)
fine stmts owner at spot st.return h k some = absurd (cc)
fine stmts owner at spot st.end_procedure h k some = absurd (cc)
fine stmts owner at spot st.finish h k some = absurd (cc)

fine_name : (stmts : List Placed) (owner at : ℕ) (name : List ℕ) (o : Option (Spot × Statement)) → ComesNowhere (broken rule.Typed (front_of stmts).table stmts) stmts
    → ComesNowhere (broken rule.Filled (front_of stmts).table stmts) stmts → declaration (setting (front_of stmts).table stmts owner at) name ≡ o
    → is_some (option_and_then (λ d. type_in d.0 d.1) o) ≡ true
    → IsOrdered (unwrap_or (option_and_then (λ d. range_in (setting (front_of stmts).table stmts owner at) d.0 d.1) o) (plain (pos 0) (pos 0)))
    × (is_truth (option_and_then (λ d. type_in d.0 d.1) o) ≡ true → ⊥)
fine_name stmts owner at name None t f e some = absurd (cc)
fine_name stmts owner at name (Some d) t f e some =
    let there = said_there (setting (front_of stmts).table stmts owner at) name d.0 d.1 e in
    let typed : is_typed (setting_at stmts d.0.0) d.1 ≡ true = subst (λ x. is_typed (setting_at stmts d.0.0) x ≡ true) there.2 (typed_at stmts d.0.0 there.0 t there.1) in
    let filled : has_range (setting_at stmts d.0.0) d.1 ≡ true = subst (λ x. has_range (setting_at stmts d.0.0) x ≡ true) there.2 (filled_at stmts d.0.0 there.0 f there.1) in
    let is = fine stmts owner at d.0 d.1 typed filled some in (is.ordered, is.no_flag)

by_use : (stmts : List Placed) (i : ℕ) (m : Mode) (name : List ℕ) (used : TypeUse) → ComesNowhere (broken rule.Typed (front_of stmts).table stmts) stmts
    → ComesNowhere (broken rule.Filled (front_of stmts).table stmts) stmts → is_typed (setting_at stmts i) (st.variable m name used) ≡ true
    → has_range (setting_at stmts i) (st.variable m name used) ≡ true → HasRange (place_of (setting_at stmts i) (st.variable m name used))
by_use stmts i m name use_.Bool t f typed filled = record { ordered = omega (arith, ints); bits = λ h. (refl, refl) }
by_use stmts i m name (use_.Range least greatest) t f typed filled =
    record { ordered = (between (setting_at stmts i) false least greatest typed filled).ordered; bits = λ h. absurd (cc) }
by_use stmts i m name (use_.Wrap least greatest) t f typed filled =
    record { ordered = (between (setting_at stmts i) true least greatest typed filled).ordered; bits = λ h. absurd (cc) }
by_use stmts i m name (use_.Named word) t f typed filled =
    let s = setting_at stmts i in
    let is = fine_name stmts s.owner i word (declaration s word) t f refl typed in
    record { ordered = is.0.ordered; bits = λ h. absurd (is.1 h) }

pub place_has_range : (stmts : List Placed) (i : ℕ) (m : Mode) (name : List ℕ) (used : TypeUse) → ComesNowhere (broken rule.Typed (front_of stmts).table stmts) stmts
    → ComesNowhere (broken rule.Filled (front_of stmts).table stmts) stmts → Declares stmts i m name used → HasRange (place_of (setting_at stmts i) (st.variable m name used))
place_has_range stmts i m name used t f d =
    let typed : is_typed (setting_at stmts i) (st.variable m name used) ≡ true = subst (λ x. is_typed (setting_at stmts i) x ≡ true) d.says (typed_at stmts i d.stmt t d.there) in
    let filled : has_range (setting_at stmts i) (st.variable m name used) ≡ true = subst (λ x. has_range (setting_at stmts i) x ≡ true) d.says (filled_at stmts i d.stmt f d.there) in
    by_use stmts i m name used t f typed filled
