-- A statement is refused for its modes exactly where it breaks a rule on modes.
use Rattle.std.proofs.Common.{◌≡◌, ℕ, ◌∙◌, sym, ap, subst, refl, inl, inr, Bool, true, false, ◌&&◌, List}
use Rattle.std.specs.Prelude.{Option, Some, None}
use Rattle.std.specs.Option.{option_and_then}
use Rattle.std.proofs.lemmas.Bool.{and_cases}
use Rattle.il_core.specs.Statement.{Statement, Placed}
use Rattle.il_core.specs.Statement as st
use Rattle.il_core.specs.Tree.{Tree}
use Rattle.il_core.specs.Tree as tree
use Rattle.il_core.specs.declared.statement.Mode.{Mode}
use Rattle.il_core.specs.declared.statement.Mode.TheVariants.{Input, InOut, Output, Local}
use Rattle.il_types.specs.declared.modes.Part.{Part}
use Rattle.il_types.specs.declared.modes.Part.TheVariants.{Precondition, Postcondition, Assertion, Action}
use Rattle.il_types.specs.Modes.{mode_in, mode_of, may_name, may_recall, may_assign, keeps_modes, is_allowed}
use Rattle.il_types.specs.Names.{Spot, declaration}
use Rattle.il_built.specs.Holding.{setting_at}
use Rattle.typing_laws.specs.Allowed.{HasMode, BreaksModes, assigns_input, recalls_other, recalls_in_action, output_in_precondition, local_in_precondition, local_in_postcondition}
use Rattle.typing_laws.specs.Parts.{HasExpression, of_pre, of_post, of_assert, of_assignment, of_if, of_exit, IsPart, whole, of_minus, of_opposite, of_left, of_right}
use Rattle.typing_laws.specs.Typed.{StandsFor}
use Rattle.typing_laws.proofs.ExpressionKinds.{IsFair, found, stands_declared, declared_stands, alone_index, none_some}

-- the mode of a name
mode_is : (stmts : List Placed) (i : ℕ) (name : List ℕ) (mode : Mode) → IsFair stmts → HasMode stmts i name mode → mode_of (setting_at stmts i) name ≡ Some mode
mode_is stmts i name mode fair m =
    ap (option_and_then (λ (d : Spot × Statement). mode_in d.1)) (stands_declared stmts i name m.at 0 (st.variable mode m.called m.type) fair m.stands)

has_mode : (stmts : List Placed) (i : ℕ) (name : List ℕ) (mode : Mode) → IsFair stmts → mode_of (setting_at stmts i) name ≡ Some mode → HasMode stmts i name mode
has_mode stmts i name mode fair e =
    let f = found (λ (d : Spot × Statement). mode_in d.1) (declaration (setting_at stmts i) name) mode e in
    by f.0.0 f.0.1 f.1 f.2
  where
    by : (spot : Spot) (x : Statement) → declaration (setting_at stmts i) name ≡ Some (spot, x) → mode_in x ≡ Some mode → HasMode stmts i name mode
    by spot (st.variable m called type) f g =
        let same : m ≡ mode = cc in
        let s = declared_stands stmts i name spot (st.variable m called type) fair f in
        let first = subst (λ k. StandsFor stmts i name spot.0 k (st.variable m called type)) (alone_index stmts i name spot.0 spot.1 (st.variable m called type) called refl s) s in
        record { at = spot.0; called = called; type = type; stands = subst (λ n. StandsFor stmts i name spot.0 0 (st.variable n called type)) same first }
    by spot _ f g = none_some mode g

-- a name in an expression that breaks the modes there
data Breaks (stmts : List Placed) (i : ℕ) (part : Part) (e : Tree) : Type 0 where
  by_name : (name : List ℕ) → IsPart (tree.word name) e → may_name part (mode_of (setting_at stmts i) name) ≡ false → Breaks stmts i part e
  by_old : (name : List ℕ) → IsPart (tree.former name) e → may_recall part (mode_of (setting_at stmts i) name) ≡ false → Breaks stmts i part e

breaks : (stmts : List Placed) (i : ℕ) (part : Part) (e : Tree) → keeps_modes (setting_at stmts i) part e ≡ false → Breaks stmts i part e
breaks stmts i part (tree.number n) h = absurd (cc)
breaks stmts i part (tree.word name) h = by_name name whole h
breaks stmts i part (tree.former name) h = by_old name whole h
breaks stmts i part (tree.constant b) h = absurd (cc)
breaks stmts i part (tree.minus e) h = elim (breaks stmts i part e h) [
  | by_name name p g ↦ by_name name (of_minus e p) g
  | by_old name p g ↦ by_old name (of_minus e p) g
]
breaks stmts i part (tree.opposite e) h = elim (breaks stmts i part e h) [
  | by_name name p g ↦ by_name name (of_opposite e p) g
  | by_old name p g ↦ by_old name (of_opposite e p) g
]
breaks stmts i part (tree.two o a b) h = elim (and_cases (keeps_modes (setting_at stmts i) part a) (keeps_modes (setting_at stmts i) part b) h) [
  | inl f ↦ elim (breaks stmts i part a f) [
    | by_name name p g ↦ by_name name (of_left o a b p) g
    | by_old name p g ↦ by_old name (of_left o a b p) g
  ]
  | inr f ↦ elim (breaks stmts i part b f) [
    | by_name name p g ↦ by_name name (of_right o a b p) g
    | by_old name p g ↦ by_old name (of_right o a b p) g
  ]
]

left_false : (a b : Bool) → a ≡ false → (a && b) ≡ false
left_false a b e = ap (λ t. t && b) e

right_false : (a b : Bool) → b ≡ false → (a && b) ≡ false
right_false true b e = e
right_false false b e = refl

-- a part that breaks them breaks them in the whole
broken_part : (stmts : List Placed) (i : ℕ) (part : Part) (leaf e : Tree) → IsPart leaf e → keeps_modes (setting_at stmts i) part leaf ≡ false → keeps_modes (setting_at stmts i) part e ≡ false
broken_part stmts i part leaf e whole h = h
broken_part stmts i part leaf e (of_minus a p) h = broken_part stmts i part leaf a p h
broken_part stmts i part leaf e (of_opposite a p) h = broken_part stmts i part leaf a p h
broken_part stmts i part leaf e (of_left o a b p) h = left_false _ _ (broken_part stmts i part leaf a p h)
broken_part stmts i part leaf e (of_right o a b p) h = right_false _ _ (broken_part stmts i part leaf b p h)

-- what a statement with an expression is refused for
statement_breaks : (stmts : List Placed) (i : ℕ) (x : Statement) (part : Part) (e : Tree) → HasExpression x part e → keeps_modes (setting_at stmts i) part e ≡ false
    → is_allowed (setting_at stmts i) x ≡ false
statement_breaks stmts i x part e (of_pre d) h = h
statement_breaks stmts i x part e (of_post d) h = h
statement_breaks stmts i x part e (of_assert d) h = h
statement_breaks stmts i x part e (of_assignment name d) h = right_false _ _ h
statement_breaks stmts i x part e (of_if d) h = h
statement_breaks stmts i x part e (of_exit d) h = h

-- OLD of another than an INOUT variable
may_not_recall : (part : Part) (o : Option Mode) → (o ≡ Some InOut → ⊥) → may_recall part o ≡ false
may_not_recall Action o h = refl
may_not_recall Precondition None h = refl
may_not_recall Precondition (Some InOut) h = absurd (h refl)
may_not_recall Precondition (Some Input) h = refl
may_not_recall Precondition (Some Output) h = refl
may_not_recall Precondition (Some Local) h = refl
may_not_recall Postcondition None h = refl
may_not_recall Postcondition (Some InOut) h = absurd (h refl)
may_not_recall Postcondition (Some Input) h = refl
may_not_recall Postcondition (Some Output) h = refl
may_not_recall Postcondition (Some Local) h = refl
may_not_recall Assertion None h = refl
may_not_recall Assertion (Some InOut) h = absurd (h refl)
may_not_recall Assertion (Some Input) h = refl
may_not_recall Assertion (Some Output) h = refl
may_not_recall Assertion (Some Local) h = refl

pub breaks_modes : (stmts : List Placed) (i : ℕ) (x : Statement) → IsFair stmts → BreaksModes stmts i x → is_allowed (setting_at stmts i) x ≡ false
breaks_modes stmts i x fair (assigns_input name e m) = left_false _ _ (ap may_assign (mode_is stmts i name Input fair m))
breaks_modes stmts i x fair (recalls_other y part e name has p other) =
    statement_breaks stmts i y part e has (broken_part stmts i part (tree.former name) e p
    (may_not_recall part (mode_of (setting_at stmts i) name) (λ h. other (has_mode stmts i name InOut fair h))))
breaks_modes stmts i x fair (recalls_in_action y e name has p) = statement_breaks stmts i y Action e has (broken_part stmts i Action (tree.former name) e p refl)
breaks_modes stmts i x fair (output_in_precondition y e name has p m) =
    statement_breaks stmts i y Precondition e has (broken_part stmts i Precondition (tree.word name) e p (ap (may_name Precondition) (mode_is stmts i name Output fair m)))
breaks_modes stmts i x fair (local_in_precondition y e name has p m) =
    statement_breaks stmts i y Precondition e has (broken_part stmts i Precondition (tree.word name) e p (ap (may_name Precondition) (mode_is stmts i name Local fair m)))
breaks_modes stmts i x fair (local_in_postcondition y e name has p m) =
    statement_breaks stmts i y Postcondition e has (broken_part stmts i Postcondition (tree.word name) e p (ap (may_name Postcondition) (mode_is stmts i name Local fair m)))

-- a name that may not stand where it does
misnamed : (stmts : List Placed) (i : ℕ) (x : Statement) (part : Part) (e : Tree) (name : List ℕ) → IsFair stmts → HasExpression x part e → IsPart (tree.word name) e
    → (o : Option Mode) → mode_of (setting_at stmts i) name ≡ o → may_name part o ≡ false → BreaksModes stmts i x
misnamed stmts i x Precondition e name fair has p (Some Output) h g = output_in_precondition x e name has p (has_mode stmts i name Output fair h)
misnamed stmts i x Precondition e name fair has p (Some Local) h g = local_in_precondition x e name has p (has_mode stmts i name Local fair h)
misnamed stmts i x Postcondition e name fair has p (Some Local) h g = local_in_postcondition x e name has p (has_mode stmts i name Local fair h)
misnamed stmts i x part e name fair has p o h g = absurd (cc)

recalled : (stmts : List Placed) (i : ℕ) (x : Statement) (part : Part) (e : Tree) (name : List ℕ) → IsFair stmts → HasExpression x part e → IsPart (tree.former name) e
    → may_recall part (mode_of (setting_at stmts i) name) ≡ false → BreaksModes stmts i x
recalled stmts i x Action e name fair has p g = recalls_in_action x e name has p
recalled stmts i x Precondition e name fair has p g = recalls_other x Precondition e name has p
    (λ m. let z : true ≡ false = sym (ap (may_recall Precondition) (mode_is stmts i name InOut fair m)) ∙ g in cc)
recalled stmts i x Postcondition e name fair has p g = recalls_other x Postcondition e name has p
    (λ m. let z : true ≡ false = sym (ap (may_recall Postcondition) (mode_is stmts i name InOut fair m)) ∙ g in cc)
recalled stmts i x Assertion e name fair has p g = recalls_other x Assertion e name has p
    (λ m. let z : true ≡ false = sym (ap (may_recall Assertion) (mode_is stmts i name InOut fair m)) ∙ g in cc)

expression_breaks : (stmts : List Placed) (i : ℕ) (x : Statement) (part : Part) (e : Tree) → IsFair stmts → HasExpression x part e → keeps_modes (setting_at stmts i) part e ≡ false
    → BreaksModes stmts i x
expression_breaks stmts i x part e fair has h = elim (breaks stmts i part e h) [
  | by_name name p g ↦ misnamed stmts i x part e name fair has p (mode_of (setting_at stmts i) name) refl g
  | by_old name p g ↦ recalled stmts i x part e name fair has p g
]

-- only an IN variable may not be assigned
input_is : (o : Option Mode) → may_assign o ≡ false → o ≡ Some Input
input_is None h = absurd (cc)
input_is (Some Input) h = refl
input_is (Some InOut) h = absurd (cc)
input_is (Some Output) h = absurd (cc)
input_is (Some Local) h = absurd (cc)

pub modes_broken : (stmts : List Placed) (i : ℕ) (x : Statement) → IsFair stmts → is_allowed (setting_at stmts i) x ≡ false → BreaksModes stmts i x
modes_broken stmts i (st.pre e) fair h = expression_breaks stmts i (st.pre e) Precondition e fair (of_pre e) h
modes_broken stmts i (st.post e) fair h = expression_breaks stmts i (st.post e) Postcondition e fair (of_post e) h
modes_broken stmts i (st.assert e) fair h = expression_breaks stmts i (st.assert e) Assertion e fair (of_assert e) h
modes_broken stmts i (st.if_true e) fair h = expression_breaks stmts i (st.if_true e) Action e fair (of_if e) h
modes_broken stmts i (st.exit_when e) fair h = expression_breaks stmts i (st.exit_when e) Action e fair (of_exit e) h
modes_broken stmts i (st.assign name e) fair h =
    elim (and_cases (may_assign (mode_of (setting_at stmts i) name)) (keeps_modes (setting_at stmts i) Action e) h) [
      | inl f ↦ assigns_input name e (has_mode stmts i name Input fair (input_is (mode_of (setting_at stmts i) name) f))
      | inr f ↦ expression_breaks stmts i (st.assign name e) Action e fair (of_assignment name e) f
    ]
modes_broken stmts i _ fair h = absurd (cc)
