-- What a CALL gives each parameter is sound over the places of the procedure in which it stands.
use Rattle.std.proofs.Common.{◌≡◌, ◌≢◌, ℕ, ◌∙◌, sym, ap, subst, refl, inl, inr, true, ◌||◌, List, [], ◌∷◌}
use Rattle.std.specs.Prelude.{Option, Some, None, is_some, map, slice_get, unwrap_or}
use Rattle.std.specs.List.{list_all}
use Rattle.std.specs.Option.{option_and_then, option_map}
use Rattle.il_core.specs.Checked.{Suits}
use Rattle.il_core.specs.Expression.{Expression}
use Rattle.il_core.specs.Statement.{Statement, Placed, variable, call}
use Rattle.il_core.specs.Tree.{Tree}
use Rattle.il_core.specs.declared.line.Place.{Place}
use Rattle.il_core.specs.declared.statement.Mode.{Mode}
use Rattle.il_core.specs.declared.statement.Mode.TheVariants as mode
use Rattle.il_syntax.specs.Order.{part_of, IsInOrder}
use Rattle.il_types.specs.declared.kind.Kind.{Kind}
use Rattle.il_types.specs.declared.kind.Kind.TheVariants.{Whole, Truth, Enumeration}
use Rattle.il_types.specs.declared.modes.Part.TheVariants as part
use Rattle.il_types.specs.Built.{place_of, place_number, assigned_place, built}
use Rattle.il_types.specs.Modes.{mode_in, mode_of, may_assign, keeps_modes}
use Rattle.il_types.specs.Names.{Setting, Spot, counts_at}
use Rattle.il_types.specs.Narrow.{static_bounds}
use Rattle.il_types.specs.Typing.{variable_in, kind_of, kind_of_variable, is_truth, are_whole, are_truth, are_of_one, may_hold}
use Rattle.il_built.specs.CheckedText.{places_of}
use Rattle.il_built.specs.Holding.{setting_at, Holds}
use Rattle.il_built.proofs.BuiltBounds.{built_bounds}
use Rattle.il_built.proofs.BuiltFits.{reads_of}
use Rattle.il_built.proofs.BuiltSorts.{Reads, IsOfKind, both_true, one_of, whole_is, truth_is, enumerations_are, built_sort}
use Rattle.il_built.proofs.PlacesHold.{places_hold}
use Rattle.il_built.proofs.VariablesFirst.{is_behind, owned, all_before}
use Rattle.il_called.specs.Called.{value, variable_of}
use Rattle.call_checks.specs.WellFormed.{IsGiven, IsHandedTo, IsArgument, AreArguments}
use Rattle.call_rules.specs.declared.parameters.Parameter.{Parameter}
use Rattle.call_rules.specs.Callee.{paired, pairings}
use Rattle.call_rules.specs.CalledText.{passed}
use Rattle.call_rules.specs.Calls.{back_to, takes_back, may_take_back, is_allowed_pairing, is_typed_pairing}
use Rattle.call_sound.proofs.Apart.{has_place}
use Rattle.call_sound.proofs.Suited.{sort_of, parameter_sorts, first_sort}

-- the places of a procedure are read at a CALL, which stands behind all its variables
pub reads_at : (stmts : List Placed) (owner i : ℕ) (x : Placed) (name : List ℕ) (given : List Tree) → IsInOrder stmts → slice_get stmts i ≡ Some x
    → (counts_at stmts i).procedures ≡ owner → x.says ≡ call name given → Reads (setting_at stmts i) (places_of stmts owner)
reads_at stmts owner i x name given o there own says =
    let c = counts_at stmts i in
    let behind : is_behind (part_of x.says) ≡ true = ap (λ (y : Statement). is_behind (part_of y)) says in
    let holds : Holds (places_of stmts c.procedures) stmts c.procedures c.variables =
    subst (Holds (places_of stmts c.procedures) stmts c.procedures) (all_before stmts i x o there behind) (places_hold stmts c.procedures) in
    subst (λ k. Reads (setting_at stmts i) (places_of stmts k)) own (reads_of stmts (places_of stmts c.procedures) i (owned stmts o) holds)

-- what may hold a value is of a kind that the value suits
record AreAlike (a b : Option Kind) : Type 0 where
  holder : Kind
  held : Kind
  first : a ≡ Some holder
  second : b ≡ Some held
  both_truth : is_truth a ≡ is_truth b
  suits : (places : List Place) (e : Expression) → IsOfKind held places e → Suits (is_truth (Some holder)) places e

alike : (a b : Option Kind) → may_hold a b ≡ true → AreAlike a b
alike a b h = elim (one_of (are_whole a b) (are_truth a b || are_of_one a b) h) [
  | inl w ↦ let k = both_true _ _ w in of_kinds Whole Whole (whole_is a k.0) (whole_is b k.1) refl (λ places e t. t)
  | inr w ↦ elim (one_of (are_truth a b) (are_of_one a b) w) [
    | inl v ↦ let k = both_true _ _ v in of_kinds Truth Truth (truth_is a k.0) (truth_is b k.1) refl (λ places e t. t)
    | inr v ↦ let n = enumerations_are a b v in of_kinds (Enumeration n.0) (Enumeration n.1) n.2 n.3 refl (λ places e t. t)
  ]
]
  where
    of_kinds : (k l : Kind) → a ≡ Some k → b ≡ Some l → is_truth (Some k) ≡ is_truth (Some l)
        → ((places : List Place) (e : Expression) → IsOfKind l places e → Suits (is_truth (Some k)) places e) → AreAlike a b
    of_kinds k l f g t suits = record { holder = k; held = l; first = f; second = g; both_truth = ap is_truth f ∙ t ∙ sym (ap is_truth g); suits = suits }

there_is : {A : Type 0} (o : Option A) → is_some o ≡ true → (a : A) × (o ≡ Some a)
there_is None h = absurd (cc)
there_is (Some a) h = (a, refl)

-- a value that a parameter of a kind may be given
value_given : (s : Setting) (places : List Place) (v : Place) (p : Parameter) (e : Tree) → Reads s places → v.flag ≡ is_truth p.kind
    → may_hold p.kind (kind_of s e) ≡ true → keeps_modes s part.Action e ≡ true → is_some (static_bounds s e) ≡ true → IsGiven places v (built s e)
value_given s places v p e r flag typed allowed narrow =
    let k = alike p.kind (kind_of s e) typed in
    let b = there_is (static_bounds s e) narrow in
    record {
      typed = subst (λ f. Suits f places (built s e)) (sym (flag ∙ ap is_truth k.first)) (k.suits places (built s e) (built_sort s places r part.Action e allowed k.held k.second));
      narrow = (built_bounds s places r part.Action e allowed b.0 b.1).1;
    }

not_input : (m : Mode) → may_assign (Some m) ≡ true → m ≢ mode.Input
not_input mode.Input h = absurd (cc)
not_input mode.InOut h = λ z. absurd (cc)
not_input mode.Output h = λ z. absurd (cc)
not_input mode.Local h = λ z. absurd (cc)

-- a variable that takes back what a parameter of a kind holds
handed_to : (stmts : List Placed) (owner i : ℕ) (places : List Place) (v : Place) (p : Parameter) (name : List ℕ) → IsInOrder stmts → (counts_at stmts i).procedures ≡ owner
    → Reads (setting_at stmts i) places → v.flag ≡ is_truth p.kind → may_hold (kind_of_variable (setting_at stmts i) name) p.kind ≡ true
    → may_assign (mode_of (setting_at stmts i) name) ≡ true → IsHandedTo places v (assigned_place (setting_at stmts i) name)
handed_to stmts owner i places v p name o own r flag typed allowed =
    let s = setting_at stmts i in
    let k = alike (kind_of_variable s name) p.kind typed in
    let h = has_place stmts owner i name k.holder o own k.first in
    let says = variable h.mode name h.used in
    let number : assigned_place s name ≡ place_number s h.spot = ap (λ d. unwrap_or (option_map (λ (e : Spot × Statement). place_number s e.0) d) 0) h.declared in
    let kind : kind_of_variable s name ≡ variable_in s h.spot says = ap (λ d. option_and_then (λ (e : Spot × Statement). variable_in s e.0 e.1) d) h.declared in
    let may : may_assign (Some h.mode) ≡ true = sym (ap (λ d. may_assign (option_and_then (λ (e : Spot × Statement). mode_in e.1) d)) h.declared) ∙ allowed in
    record {
      target = place_of (record s { at = h.spot.0 }) says;
      there = ap (slice_get places) number ∙ r.variables name h.spot h.mode name h.used h.declared;
      variable = refl;
      writable = not_input h.mode may;
      same = sym (ap is_truth kind) ∙ k.both_truth ∙ sym flag;
    }

-- one argument
one_given : (stmts : List Placed) (owner i : ℕ) (places : List Place) (v : Place) (p : Parameter) (e : Tree) → IsInOrder stmts → (counts_at stmts i).procedures ≡ owner
    → Reads (setting_at stmts i) places → v.flag ≡ is_truth p.kind → is_typed_pairing (setting_at stmts i) (paired (Some p) e) ≡ true
    → is_allowed_pairing (setting_at stmts i) (paired (Some p) e) ≡ true → is_some (static_bounds (setting_at stmts i) e) ≡ true
    → IsArgument places v (passed (setting_at stmts i) (paired (Some p) e))
one_given stmts owner i places v p e o own r flag typed allowed narrow =
    let s = setting_at stmts i in
    let g = paired (Some p) e in
    let t = both_true (may_hold p.kind (kind_of s e)) (takes_back s g (back_to g)) typed in
    let a = both_true (may_take_back s (back_to g)) (keeps_modes s part.Action e) allowed in
    by (back_to g) (value_given s places v p e r flag t.0 a.1 narrow) t.1 a.0
  where
    by : (b : Option (List ℕ)) → IsGiven places v (built (setting_at stmts i) e) → takes_back (setting_at stmts i) (paired (Some p) e) b ≡ true
        → may_take_back (setting_at stmts i) b ≡ true
        → IsArgument places v (elim b [ None ↦ value (built (setting_at stmts i) e) | Some name ↦ variable_of (assigned_place (setting_at stmts i) name) ])
    by None given t a = given
    by (Some name) given t a = handed_to stmts owner i places v p name o own r flag t a

-- one argument for each
pub all_given : (stmts : List Placed) (owner i : ℕ) (places : List Place) (vs : List Place) (ps : List Parameter) (es : List Tree) → IsInOrder stmts
    → (counts_at stmts i).procedures ≡ owner → Reads (setting_at stmts i) places → map sort_of vs ≡ parameter_sorts ps
    → list_all (is_typed_pairing (setting_at stmts i)) (pairings ps es) ≡ true → list_all (is_allowed_pairing (setting_at stmts i)) (pairings ps es) ≡ true
    → list_all (λ e. is_some (static_bounds (setting_at stmts i) e)) es ≡ true → AreArguments places vs (map (passed (setting_at stmts i)) (pairings ps es))
all_given stmts owner i places [] ps es o own r m typed allowed narrow = tt
all_given stmts owner i places (v ∷ vs) [] es o own r m typed allowed narrow = absurd (cc)
all_given stmts owner i places (v ∷ vs) (p ∷ ps) [] o own r m typed allowed narrow = tt
all_given stmts owner i places (v ∷ vs) (p ∷ ps) (e ∷ es) o own r m typed allowed narrow =
    let s = setting_at stmts i in
    let same = first_sort v p vs ps m in
    let flag : v.flag ≡ is_truth p.kind = ap (λ q. q.1) same.0 in
    let t = both_true (is_typed_pairing s (paired (Some p) e)) (list_all (is_typed_pairing s) (pairings ps es)) typed in
    let a = both_true (is_allowed_pairing s (paired (Some p) e)) (list_all (is_allowed_pairing s) (pairings ps es)) allowed in
    let n = both_true (is_some (static_bounds s e)) (list_all (λ d. is_some (static_bounds s d)) es) narrow in
    (one_given stmts owner i places v p e o own r flag t.0 a.0 n.0, all_given stmts owner i places vs ps es o own r same.1 t.1 a.1 n.1)
