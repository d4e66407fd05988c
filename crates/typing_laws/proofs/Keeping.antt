-- No rule refuses a text in order exactly where it keeps the rules.
use Rattle.std.proofs.Common.{◌≡◌, ℕ, ◌+◌, ◌≤◌, arith, if◌then◌else◌, ◌∙◌, sym, ap, refl, Bool, true, false, List}
use Rattle.std.specs.Prelude.{Option, Some, None, nat_lt, is_some, slice_get}
use Rattle.std.specs.Option.{option_map, option_and_then}
use Rattle.il_core.specs.Statement.{Statement, Placed}
use Rattle.il_core.specs.Statement as st
use Rattle.il_core.specs.Tree.{Tree}
use Rattle.il_core.specs.declared.refusal.Code.{Code}
use Rattle.il_core.specs.declared.refusal.Code.TheVariants as code
use Rattle.il_syntax.specs.Order.{IsInOrder}
use Rattle.il_core.specs.declared.refusal.Many.TheVariants as many
use Rattle.il_types.specs.declared.counts.Counts.{Counts}
use Rattle.il_types.specs.declared.kind.Kind.{Kind}
use Rattle.il_types.specs.declared.kind.Kind.TheVariants.{Truth}
use Rattle.il_types.specs.declared.modes.Part.{Part}
use Rattle.il_types.specs.declared.rules.Found.{Found}
use Rattle.il_types.specs.declared.rules.Rule.TheVariants as rule
use Rattle.il_types.specs.Counts.{counts_behind, too_many}
use Rattle.il_types.specs.Modes.{is_allowed}
use Rattle.il_types.specs.Names.{front_of, counts_at}
use Rattle.il_types.specs.Narrow.{static_bounds, is_narrow}
use Rattle.il_types.specs.Ranges.{has_range}
use Rattle.il_types.specs.Rules.{unless, twice, twice_at, broken, ComesNowhere, Answers}
use Rattle.il_types.specs.Typing.{is_typed}
use Rattle.il_types.specs.Unknown.{unknown}
use Rattle.il_built.specs.Holding.{setting_at}
use Rattle.typing_laws.specs.Accepted.{IsWithinLimits, KeepsRules}
use Rattle.typing_laws.specs.Bounded.{AllWellTyped}
use Rattle.typing_laws.specs.Declared.{Says, DeclaredTwice, shared, beside_shared, beside_variable, DeclaredOnce}
use Rattle.typing_laws.specs.Laws.{RulesAreKept}
use Rattle.typing_laws.specs.Parts.{HasExpression, of_pre, of_post, of_assert, of_assignment, of_if, of_exit}
use Rattle.typing_laws.specs.Typed.{Typed, WellTyped}
use Rattle.typing_laws.proofs.EmptyRanges.{empty_range, range_empty}
use Rattle.typing_laws.proofs.ExpressionKinds.{IsFair}
use Rattle.typing_laws.proofs.Modes.{breaks_modes, modes_broken}
use Rattle.typing_laws.proofs.Ordered.{are_placed}
use Rattle.typing_laws.proofs.Standing.{placed_at, says_of}
use Rattle.typing_laws.proofs.StatementKinds.{well_typed_is, is_well_typed}
use Rattle.typing_laws.proofs.StaticBounds.{bounds_found}
use Rattle.typing_laws.proofs.Twice.{twice_refused}
use Rattle.typing_laws.proofs.UnknownNames.{unknown_refused}

-- a pass that finds nothing finds nothing at any statement
nowhere_says : (pass : ℕ → Statement → Option Found) (stmts : List Placed) (i : ℕ) (x : Statement) → ComesNowhere pass stmts → Says stmts i x → pass i x ≡ None
nowhere_says pass stmts i x h says =
    let s = placed_at stmts i x says in
    sym (ap (option_and_then (λ (y : Placed). pass i y.says)) s.1 ∙ ap (pass i) s.2) ∙ h i

says_nowhere : (pass : ℕ → Statement → Option Found) (stmts : List Placed) → ((i : ℕ) (x : Statement) → Says stmts i x → pass i x ≡ None) → ComesNowhere pass stmts
says_nowhere pass stmts h i = by (slice_get stmts i) refl
  where
    by : (o : Option Placed) → slice_get stmts i ≡ o → option_and_then (λ (y : Placed). pass i y.says) o ≡ None
    by None e = refl
    by (Some s) e = h i s.says (says_of stmts i s e)

unmapped : {A B : Type 0} (f : A → B) (o : Option A) → option_map f o ≡ None → o ≡ None
unmapped f None h = refl
unmapped f (Some a) h = absurd (cc)

kept : (b : Bool) (c : Code) → unless b c ≡ None → b ≡ true
kept true c h = refl
kept false c h = absurd (cc)

keeps : (b : Bool) (c : Code) → b ≡ true → unless b c ≡ None
keeps b c h = ap (λ t. unless t c) h

not_false : {A : Type 0} (b : Bool) → b ≡ true → b ≡ false → A
not_false b e f = let z : true ≡ false = sym e ∙ f in absurd (cc)

pub true_unless : (b : Bool) → (b ≡ false → ⊥) → b ≡ true
true_unless true h = refl
true_unless false h = absurd (h refl)

-- a declaration that is one too many is made by a statement
twice_says : (stmts : List Placed) (i k : ℕ) (name : List ℕ) → DeclaredTwice stmts i k name → (x : Statement) × Says stmts i x
twice_says stmts i k name (shared j m l word is other order) = (is.stmt, is.says)
twice_says stmts i k name (beside_shared p j l word is other lt) = (st.variable is.mode word is.type, is.says)
twice_says stmts i k name (beside_variable p j word is other lt) = (st.variable is.mode word is.type, is.says)

-- the expression of a statement that keeps the rules on types has a kind
pub expression_typed : (stmts : List Placed) (i : ℕ) (x : Statement) (part : Part) (e : Tree) → HasExpression x part e → WellTyped stmts i x → (kind : Kind) × Typed stmts i e kind
expression_typed stmts i x part e (of_pre d) w = (Truth, w)
expression_typed stmts i x part e (of_post d) w = (Truth, w)
expression_typed stmts i x part e (of_assert d) w = (Truth, w)
expression_typed stmts i x part e (of_assignment name d) w = (w.kind, w.value)
expression_typed stmts i x part e (of_if d) w = (Truth, w)
expression_typed stmts i x part e (of_exit d) w = (Truth, w)

narrow_of : (stmts : List Placed) (i : ℕ) (x : Statement) (part : Part) (e : Tree) → HasExpression x part e → is_narrow (setting_at stmts i) x ≡ is_some (static_bounds (setting_at stmts i) e)
narrow_of stmts i x part e (of_pre d) = refl
narrow_of stmts i x part e (of_post d) = refl
narrow_of stmts i x part e (of_assert d) = refl
narrow_of stmts i x part e (of_assignment name d) = refl
narrow_of stmts i x part e (of_if d) = refl
narrow_of stmts i x part e (of_exit d) = refl

narrow_all : (stmts : List Placed) (i : ℕ) (x : Statement) → ((part : Part) (e : Tree) → HasExpression x part e → is_some (static_bounds (setting_at stmts i) e) ≡ true)
    → is_narrow (setting_at stmts i) x ≡ true
narrow_all stmts i (st.pre e) h = h _ e (of_pre e)
narrow_all stmts i (st.post e) h = h _ e (of_post e)
narrow_all stmts i (st.assert e) h = h _ e (of_assert e)
narrow_all stmts i (st.assign name e) h = h _ e (of_assignment name e)
narrow_all stmts i (st.if_true e) h = h _ e (of_if e)
narrow_all stmts i (st.exit_when e) h = h _ e (of_exit e)
narrow_all stmts i _ h = refl

-- counts of which there is not too much
within : (c : Counts) → too_many c ≡ None → IsWithinLimits c
within c h = by (nat_lt 64 c.procedures) (nat_lt 1000 c.lines) (nat_lt 64 (c.variables + c.copies)) refl refl refl h
  where
    at_most : (n m : ℕ) → nat_lt n m ≡ false → m ≤ n
    at_most n m e = grind arith

    by : (p l q : Bool) → nat_lt 64 c.procedures ≡ p → nat_lt 1000 c.lines ≡ l → nat_lt 64 (c.variables + c.copies) ≡ q
        → (if p then Some many.Procedures else (if l then Some many.Lines else (if q then Some many.Places else None))) ≡ None → IsWithinLimits c
    by true l q e f g h = absurd (cc)
    by false true q e f g h = absurd (cc)
    by false false true e f g h = absurd (cc)
    by false false false e f g h = record { procedures = at_most 64 c.procedures e; lines = at_most 1000 c.lines f; places = at_most 64 (c.variables + c.copies) g }

not_too_many : (c : Counts) → IsWithinLimits c → too_many c ≡ None
not_too_many c w =
    ap (λ p. if p then Some many.Procedures else (if nat_lt 1000 c.lines then Some many.Lines else (if nat_lt 64 (c.variables + c.copies) then Some many.Places else None)))
    (not_above 64 c.procedures w.procedures)
    ∙ ap (λ l. if l then Some many.Lines else (if nat_lt 64 (c.variables + c.copies) then Some many.Places else None)) (not_above 1000 c.lines w.lines)
    ∙ ap (λ q. if q then Some many.Places else None) (not_above 64 (c.variables + c.copies) w.places)
  where
    not_above : (n m : ℕ) → m ≤ n → nat_lt n m ≡ false
    not_above n m h = grind arith

keeps_rules : (stmts : List Placed) → IsInOrder stmts → Answers stmts None → KeepsRules stmts
keeps_rules stmts order a =
    let table = (front_of stmts).table in
    let placed = are_placed stmts order in
    let once : DeclaredOnce stmts = (λ i k name d. let s = twice_says stmts i k name d in
    (twice_refused stmts i s.0 placed s.1).accepted.0 (unmapped _ (twice_at stmts i s.0) (nowhere_says (twice stmts) stmts i s.0 a.0 s.1)) k name d) in
    let fair : IsFair stmts = record { placed = placed; once = once } in
    let typed : AllWellTyped stmts = (λ i x says.
    is_well_typed stmts i x fair (kept (is_typed (setting_at stmts i) x) code.Typing (nowhere_says (broken rule.Typed table stmts) stmts i x a.1.1.0 says))) in
    record {
      once = once;
      known = λ i x says. (unknown_refused stmts i x placed).accepted.0 (unmapped _ (unknown (setting_at stmts i) x) (nowhere_says (broken rule.Known table stmts) stmts i x a.1.0 says));
      typed = typed;
      modes = λ i x says b.
          not_false (is_allowed (setting_at stmts i) x) (kept (is_allowed (setting_at stmts i) x) code.Access (nowhere_says (broken rule.Allowed table stmts) stmts i x a.1.1.1.0 says))
          (breaks_modes stmts i x fair b);
      ranges = λ i x says e.
          not_false (has_range (setting_at stmts i) x) (kept (has_range (setting_at stmts i) x) code.EmptyRange (nowhere_says (broken rule.Filled table stmts) stmts i x a.1.1.1.1.0 says))
          (empty_range stmts i x fair e);
      narrow = λ i x part e says has.
          let t = expression_typed stmts i x part e has (typed i x says) in
          (bounds_found stmts i e t.0 fair typed t.1).there.0
          (sym (narrow_of stmts i x part e has) ∙ kept (is_narrow (setting_at stmts i) x) code.Wide (nowhere_says (broken rule.Narrow table stmts) stmts i x a.1.1.1.1.1.0 says));
      limits = λ i x says.
          within (counts_behind (counts_at stmts i) x) (unmapped _ (too_many (counts_behind (counts_at stmts i) x)) (nowhere_says (broken rule.Limited table stmts) stmts i x a.1.1.1.1.1.1.0 says));
    }

rules_kept : (stmts : List Placed) → IsInOrder stmts → KeepsRules stmts → Answers stmts None
rules_kept stmts order k =
    let table = (front_of stmts).table in
    let placed = are_placed stmts order in
    let fair : IsFair stmts = record { placed = placed; once = k.once } in (
      says_nowhere (twice stmts) stmts (λ i x says. ap (option_map _) ((twice_refused stmts i x placed says).accepted.1 (λ n name d. k.once i n name d))),
      (
        says_nowhere (broken rule.Known table stmts) stmts (λ i x says. ap (option_map _) ((unknown_refused stmts i x placed).accepted.1 (k.known i x says))),
        (
          says_nowhere (broken rule.Typed table stmts) stmts (λ i x says. keeps (is_typed (setting_at stmts i) x) code.Typing (well_typed_is stmts i x fair (k.typed i x says))),
          (
            says_nowhere (broken rule.Allowed table stmts) stmts
                (λ i x says. keeps (is_allowed (setting_at stmts i) x) code.Access (true_unless (is_allowed (setting_at stmts i) x) (λ f. k.modes i x says (modes_broken stmts i x fair f)))),
            (
              says_nowhere (broken rule.Filled table stmts) stmts
                  (λ i x says. keeps (has_range (setting_at stmts i) x) code.EmptyRange (true_unless (has_range (setting_at stmts i) x) (λ f. k.ranges i x says (range_empty stmts i x fair f)))),
              (
                says_nowhere (broken rule.Narrow table stmts) stmts
                    (λ i x says. keeps (is_narrow (setting_at stmts i) x) code.Wide (narrow_all stmts i x (λ part e has.
                    let t = expression_typed stmts i x part e has (k.typed i x says) in
                    (bounds_found stmts i e t.0 fair k.typed t.1).there.1 (k.narrow i x part e says has)))),
                (says_nowhere (broken rule.Limited table stmts) stmts (λ i x says. ap (option_map _) (not_too_many (counts_behind (counts_at stmts i) x) (k.limits i x says))), tt),
              ),
            ),
          ),
        ),
      ),
    )

pub rules_are_kept : RulesAreKept
rules_are_kept stmts order = (λ a. keeps_rules stmts order a, λ k. rules_kept stmts order k)
