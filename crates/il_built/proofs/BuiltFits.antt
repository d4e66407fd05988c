-- What is built of statements that keep the rules is sound over the places of their procedure.
use Rattle.std.proofs.Common.{◌≡◌, ◌≢◌, ℕ, ◌∙◌, sym, ap, subst, refl, inl, inr, Bool, true, false, ◌||◌, List}
use Rattle.std.specs.Prelude.{Option, Some, None, is_some, slice_get, unwrap_or}
use Rattle.std.specs.Option.{option_and_then, option_map}
use Rattle.il_core.specs.Bounds.{IsNarrow}
use Rattle.il_core.specs.Checked.{IsSoundCondition, IsSoundAssignment, Suits, old_copy}
use Rattle.il_core.specs.Expression.{Expression}
use Rattle.il_core.specs.Statement.{Statement, Placed}
use Rattle.il_core.specs.Statement as st
use Rattle.il_core.specs.Tree.{Tree}
use Rattle.il_core.specs.declared.line.Place.{Place}
use Rattle.il_core.specs.declared.refusal.Code.{Code}
use Rattle.il_core.specs.declared.refusal.Code.TheVariants as code
use Rattle.il_core.specs.declared.statement.Mode.{Mode}
use Rattle.il_core.specs.declared.statement.Mode.TheVariants as mode
use Rattle.il_types.specs.declared.kind.Kind.{Kind}
use Rattle.il_types.specs.declared.kind.Kind.TheVariants.{Whole, Truth, Enumeration}
use Rattle.il_types.specs.declared.modes.Part.{Part}
use Rattle.il_types.specs.declared.modes.Part.TheVariants as part
use Rattle.il_types.specs.declared.rules.Rule.TheVariants as rule
use Rattle.il_types.specs.Built.{place_of, place_number, assigned_place, built}
use Rattle.il_types.specs.Modes.{mode_in, mode_of, may_assign, keeps_modes, is_allowed}
use Rattle.il_types.specs.Names.{Setting, Spot, setting, counts_at, front_of, declaration}
use Rattle.il_types.specs.Narrow.{static_bounds, is_narrow}
use Rattle.il_types.specs.Rules.{unless, broken}
use Rattle.il_types.specs.Typing.{variable_in, kind_of_variable, kind_of, is_truth, are_whole, are_truth, are_of_one, may_hold, is_condition, is_typed}
use Rattle.il_built.specs.Holding.{setting_at, AreOwned, Holds}
use Rattle.il_built.proofs.BuiltBounds.{built_bounds}
use Rattle.il_built.proofs.BuiltSorts.{Reads, IsOfKind, none_some, both_true, one_of, whole_is, truth_is, enumerations_are, built_sort}
use Rattle.il_built.proofs.Entered.{own_variable}

-- the places of a procedure give the variables of a statement behind all its variables their places
pub reads_of : (stmts : List Placed) (places : List Place) (i : ℕ) → AreOwned stmts → Holds places stmts (counts_at stmts i).procedures (counts_at stmts i).variables
    → Reads (setting_at stmts i) places
reads_of stmts places i owned holds =
    let owner = (counts_at stmts i).procedures in
    let table = (front_of stmts).table in
    record {
      variables = λ word spot m name used h. let own = own_variable stmts owner i word spot m name used owned h in
          holds.variables spot.0 m name used own.declares own.owner_is ∙ ap (λ k. Some (place_of (setting table stmts k spot.0) (st.variable m name used))) own.owner_is;
      copies = λ word spot m name used h inout. let own = own_variable stmts owner i word spot m name used owned h in
          holds.copies spot.0 m name used own.declares own.owner_is inout ∙ ap (λ k. Some (old_copy (place_of (setting table stmts k spot.0) (st.variable m name used)))) own.owner_is;
    }

-- a statement keeps the rules that its expression must keep
pub record IsKept (s : Setting) (x : Statement) : Type 0 where
  pub typed : is_typed s x ≡ true
  pub allowed : is_allowed s x ≡ true
  pub narrow : is_narrow s x ≡ true

pub kept_unless : (b : Bool) (c : Code) → unless b c ≡ None → b ≡ true
kept_unless true c h = refl
kept_unless false c h = absurd (cc)

-- a statement that breaks none of these rules keeps them
pub keeps : (stmts : List Placed) (i : ℕ) (x : Statement) → broken rule.Typed (front_of stmts).table stmts i x ≡ None
    → broken rule.Allowed (front_of stmts).table stmts i x ≡ None → broken rule.Narrow (front_of stmts).table stmts i x ≡ None → IsKept (setting_at stmts i) x
keeps stmts i x t a n = record {
  typed = kept_unless (is_typed (setting_at stmts i) x) code.Typing t;
  allowed = kept_unless (is_allowed (setting_at stmts i) x) code.Access a;
  narrow = kept_unless (is_narrow (setting_at stmts i) x) code.Wide n;
}

there_is : {A : Type 0} (o : Option A) → is_some o ≡ true → (a : A) × (o ≡ Some a)
there_is None h = absurd (cc)
there_is (Some a) h = (a, refl)

narrow_is : (s : Setting) (places : List Place) → Reads s places → (p : Part) (x : Tree) → keeps_modes s p x ≡ true → is_some (static_bounds s x) ≡ true → IsNarrow places (built s x)
narrow_is s places r p x m h = let b = there_is (static_bounds s x) h in (built_bounds s places r p x m b.0 b.1).1

condition : (s : Setting) (places : List Place) → Reads s places → (p : Part) (x : Tree) → keeps_modes s p x ≡ true → is_condition s x ≡ true
    → is_some (static_bounds s x) ≡ true → IsSoundCondition places (built s x)
condition s places r p x m t n = record {
  typed = built_sort s places r p x m Truth (truth_is (kind_of s x) t);
  narrow = narrow_is s places r p x m n;
}

pub pre_fits : (s : Setting) (places : List Place) → Reads s places → (x : Tree) → IsKept s (st.pre x) → IsSoundCondition places (built s x)
pre_fits s places r x k = condition s places r part.Precondition x k.allowed k.typed k.narrow

pub post_fits : (s : Setting) (places : List Place) → Reads s places → (x : Tree) → IsKept s (st.post x) → IsSoundCondition places (built s x)
post_fits s places r x k = condition s places r part.Postcondition x k.allowed k.typed k.narrow

pub if_true_fits : (s : Setting) (places : List Place) → Reads s places → (x : Tree) → IsKept s (st.if_true x) → IsSoundCondition places (built s x)
if_true_fits s places r x k = condition s places r part.Action x k.allowed k.typed k.narrow

pub exit_when_fits : (s : Setting) (places : List Place) → Reads s places → (x : Tree) → IsKept s (st.exit_when x) → IsSoundCondition places (built s x)
exit_when_fits s places r x k = condition s places r part.Action x k.allowed k.typed k.narrow

pub assert_fits : (s : Setting) (places : List Place) → Reads s places → (x : Tree) → IsKept s (st.assert x) → IsSoundCondition places (built s x)
assert_fits s places r x k = condition s places r part.Assertion x k.allowed k.typed k.narrow

-- a place that may be assigned a value of a kind
record IsGiven (places : List Place) (p : ℕ) (k : Kind) : Type 0 where
  target : Place
  there : slice_get places p ≡ Some target
  variable : target.old ≡ false
  writable : target.mode ≢ mode.Input
  flag : target.flag ≡ is_truth (Some k)

not_input : (m : Mode) → may_assign (Some m) ≡ true → m ≢ mode.Input
not_input mode.Input h = absurd (cc)
not_input mode.InOut h = λ z. absurd (cc)
not_input mode.Output h = λ z. absurd (cc)
not_input mode.Local h = λ z. absurd (cc)

given_in : (s : Setting) (places : List Place) → Reads s places → (name : List ℕ) (spot : Spot) (x : Statement) → declaration s name ≡ Some (spot, x)
    → may_assign (mode_in x) ≡ true → (k : Kind) → variable_in s spot x ≡ Some k → IsGiven places (place_number s spot) k
given_in s places r name spot (st.title called) h a k t = none_some k t
given_in s places r name spot (st.constant_is called value) h a k t = none_some k t
given_in s places r name spot (st.range_type called lo hi) h a k t = none_some k t
given_in s places r name spot (st.wrap_type called lo hi) h a k t = none_some k t
given_in s places r name spot (st.enum_type called values) h a k t = none_some k t
given_in s places r name spot (st.procedure called) h a k t = none_some k t
given_in s places r name spot (st.variable m called used) h a k t = record {
  target = place_of (record s { at = spot.0 }) (st.variable m called used);
  there = r.variables name spot m called used h;
  variable = refl;
  writable = not_input m a;
  flag = ap is_truth t;
}
given_in s places r name spot (st.pre tree) h a k t = none_some k t
given_in s places r name spot (st.post tree) h a k t = none_some k t
given_in s places r name spot (st.assign called tree) h a k t = none_some k t
given_in s places r name spot (st.if_true tree) h a k t = none_some k t
given_in s places r name spot st.otherwise h a k t = none_some k t
given_in s places r name spot st.end_if h a k t = none_some k t
given_in s places r name spot st.loop h a k t = none_some k t
given_in s places r name spot st.end_loop h a k t = none_some k t
given_in s places r name spot st.exit h a k t = none_some k t
given_in s places r name spot (st.exit_when tree) h a k t = none_some k t
given_in s places r name spot (st.label called) h a k t = none_some k t
given_in s places r name spot (st.goto called) h a k t = none_some k t
given_in s places r name spot (st.call called arguments) h a k t = none_some k t
given_in s places r name spot st.skip h a k t = none_some k t
given_in s places r name spot (st.assert tree) h a k t = none_some k t
given_in s places r name spot st.return h a k t = none_some k t
given_in s places r name spot st.end_procedure h a k t = none_some k t
given_in s places r name spot st.finish h a k t = none_some k t

given : (s : Setting) (places : List Place) → Reads s places → (name : List ℕ) (o : Option (Spot × Statement)) → declaration s name ≡ o
    → may_assign (option_and_then (λ d. mode_in d.1) o) ≡ true → (k : Kind) → option_and_then (λ d. variable_in s d.0 d.1) o ≡ Some k
    → IsGiven places (unwrap_or (option_map (λ d. place_number s d.0) o) 0) k
given s places r name None h a k t = none_some k t
given s places r name (Some d) h a k t = given_in s places r name d.0 d.1 h a k t

-- what a variable may hold has a kind that suits its place
pub record AreAlike (a b : Option Kind) : Type 0 where
  pub variable : Kind
  pub value : Kind
  pub first : a ≡ Some variable
  pub second : b ≡ Some value
  pub suits : (places : List Place) (x : Expression) → IsOfKind value places x → Suits (is_truth (Some variable)) places x

alike : (a b : Option Kind) → may_hold a b ≡ true → AreAlike a b
alike a b h = elim (one_of (are_whole a b) (are_truth a b || are_of_one a b) h) [
  | inl w ↦ let k = both_true _ _ w in record { variable = Whole; value = Whole; first = whole_is a k.0; second = whole_is b k.1; suits = λ places x t. t }
  | inr w ↦ elim (one_of (are_truth a b) (are_of_one a b) w) [
    | inl v ↦ let k = both_true _ _ v in record { variable = Truth; value = Truth; first = truth_is a k.0; second = truth_is b k.1; suits = λ places x t. t }
    | inr v ↦ let n = enumerations_are a b v in record { variable = Enumeration n.0; value = Enumeration n.1; first = n.2; second = n.3; suits = λ places x t. t }
  ]
]

pub assign_fits : (s : Setting) (places : List Place) → Reads s places → (name : List ℕ) (x : Tree) → IsKept s (st.assign name x)
    → IsSoundAssignment places (assigned_place s name) (built s x)
assign_fits s places r name x kept =
    let both = both_true (may_assign (mode_of s name)) (keeps_modes s part.Action x) kept.allowed in
    let k = alike (kind_of_variable s name) (kind_of s x) kept.typed in
    let g = given s places r name (declaration s name) refl both.0 k.variable k.first in
    record {
      target = g.target;
      there = g.there;
      variable = g.variable;
      writable = g.writable;
      typed = subst (λ f. Suits f places (built s x)) (sym g.flag) (k.suits places (built s x) (built_sort s places r part.Action x both.1 k.value k.second));
      narrow = narrow_is s places r part.Action x both.1 kept.narrow;
    }
