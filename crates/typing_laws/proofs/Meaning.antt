-- What is built of a typed expression is what it stands for.
use Rattle.std.proofs.Common.{◌≡◌, ℕ, suc, ◌-◌, ◌∙◌, sym, ap, subst, refl, true, false, List, pos, arith}
use Rattle.std.specs.Prelude.{Some, unwrap_or}
use Rattle.std.specs.Option.{option_and_then, option_map}
use Rattle.il_core.specs.Checked.{old_copy}
use Rattle.il_core.specs.Expression.{Expression}
use Rattle.il_core.specs.Expression as e
use Rattle.il_core.specs.Statement.{Statement, Placed}
use Rattle.il_core.specs.Statement as st
use Rattle.il_core.specs.Tree.{Tree}
use Rattle.il_core.specs.Tree as tree
use Rattle.il_core.specs.declared.line.Place.{Place}
use Rattle.il_core.specs.declared.operator.BinOp.TheVariants.{Compare}
use Rattle.il_core.specs.declared.statement.Mode.{Mode}
use Rattle.il_core.specs.declared.statement.TypeUse.{TypeUse}
use Rattle.il_types.specs.declared.kind.Kind.{Kind}
use Rattle.il_types.specs.declared.kind.Kind.TheVariants.{Whole, Truth, Enumeration}
use Rattle.il_types.specs.declared.modes.Part.{Part}
use Rattle.il_types.specs.Built.{read, place_of, place_number, copy_number, built_value, built_name, built_recalled, built_copy, built}
use Rattle.il_types.specs.Modes.{mode_in, mode_of, keeps_modes, is_allowed}
use Rattle.il_types.specs.Names.{Spot}
use Rattle.il_built.specs.Holding.{setting_at}
use Rattle.il_built.proofs.BuiltSorts.{Reads, both_true, recalls_inout}
use Rattle.typing_laws.specs.Laws.{MeaningIsBuilt}
use Rattle.typing_laws.specs.Means.{own_places, IsPlaceOf, Means}
use Rattle.typing_laws.specs.Means as means
use Rattle.typing_laws.specs.Parts.{HasExpression, of_pre, of_post, of_assert, of_assignment, of_if, of_exit}
use Rattle.typing_laws.specs.Typed.{StandsFor, IsVariableOf, Typed}
use Rattle.typing_laws.specs.Typed as typed
use Rattle.typing_laws.proofs.Bounding.{reads_at}
use Rattle.typing_laws.proofs.Keeping.{true_unless, expression_typed}
use Rattle.typing_laws.proofs.Modes.{modes_broken}
use Rattle.typing_laws.proofs.OnePlace.{IsOnePlace, one_place}
use Rattle.typing_laws.proofs.Ordered.{are_placed}
use Rattle.typing_laws.proofs.ExpressionKinds.{IsFair, stands_declared, declared_index}

-- what is built of a name by its declaration
named_built : (stmts : List Placed) (i : ℕ) (name : List ℕ) (j k : ℕ) (x : Statement) → IsFair stmts → StandsFor stmts i name j k x
    → built_name (setting_at stmts i) name ≡ built_value (setting_at stmts i) (j, k) x
named_built stmts i name j k x fair s =
    ap (λ o. unwrap_or (option_map (λ (d : Spot × Statement). built_value (setting_at stmts i) d.0 d.1) o) (e.number (pos 0))) (stands_declared stmts i name j k x fair s)

recalled_built : (stmts : List Placed) (i : ℕ) (name : List ℕ) (j k : ℕ) (x : Statement) → IsFair stmts → StandsFor stmts i name j k x
    → built_copy (setting_at stmts i) name ≡ built_recalled (setting_at stmts i) (j, k) x
recalled_built stmts i name j k x fair s =
    ap (λ o. unwrap_or (option_map (λ (d : Spot × Statement). built_recalled (setting_at stmts i) d.0 d.1) o) (e.number (pos 0))) (stands_declared stmts i name j k x fair s)

-- a variable has the name by which it is used
own_name : (stmts : List Placed) (i : ℕ) (name : List ℕ) (j : ℕ) (mode : Mode) (called : List ℕ) (type : TypeUse) → StandsFor stmts i name j 0 (st.variable mode called type) → called ≡ name
own_name stmts i name j mode called type s =
    let h : Some called ≡ Some name = declared_index stmts i name j 0 (st.variable mode called type) s.force s.says in cc

-- the place of a variable
place_now : (stmts : List Placed) (i : ℕ) (name : List ℕ) (j : ℕ) (mode : Mode) (called : List ℕ) (type : TypeUse) → IsFair stmts → Reads (setting_at stmts i) (own_places stmts i)
    → StandsFor stmts i name j 0 (st.variable mode called type)
    → IsPlaceOf stmts i name false (place_number (setting_at stmts i) (j, 0)) (place_of (record (setting_at stmts i) { at = j }) (st.variable mode called type))
place_now stmts i name j mode called type fair r s = record {
  at = j;
  mode = mode;
  called = called;
  type = type;
  stands = s;
  there = r.variables name (j, 0) mode called type (stands_declared stmts i name j 0 (st.variable mode called type) fair s);
  named = own_name stmts i name j mode called type s;
  copied = refl;
}

mode_is : (stmts : List Placed) (i : ℕ) (name : List ℕ) (j : ℕ) (mode : Mode) (called : List ℕ) (type : TypeUse) → IsFair stmts → StandsFor stmts i name j 0 (st.variable mode called type)
    → mode_of (setting_at stmts i) name ≡ Some mode
mode_is stmts i name j mode called type fair s =
    ap (option_and_then (λ (d : Spot × Statement). mode_in d.1)) (stands_declared stmts i name j 0 (st.variable mode called type) fair s)

-- and that of its OLD copy
place_old : (stmts : List Placed) (i : ℕ) (name : List ℕ) (j : ℕ) (mode : Mode) (called : List ℕ) (type : TypeUse) (part : Part) → IsFair stmts
    → Reads (setting_at stmts i) (own_places stmts i) → keeps_modes (setting_at stmts i) part (tree.former name) ≡ true → StandsFor stmts i name j 0 (st.variable mode called type)
    → IsPlaceOf stmts i name true (copy_number (setting_at stmts i) (j, 0)) (old_copy (place_of (record (setting_at stmts i) { at = j }) (st.variable mode called type)))
place_old stmts i name j mode called type part fair r m s = record {
  at = j;
  mode = mode;
  called = called;
  type = type;
  stands = s;
  there = r.copies name (j, 0) mode called type (stands_declared stmts i name j 0 (st.variable mode called type) fair s)
      (recalls_inout part (mode_of (setting_at stmts i) name) m mode (mode_is stmts i name j mode called type fair s));
  named = own_name stmts i name j mode called type s;
  copied = refl;
}

pub built_means : (stmts : List Placed) (i : ℕ) (part : Part) (d : Tree) (kind : Kind) → IsFair stmts → Reads (setting_at stmts i) (own_places stmts i)
    → keeps_modes (setting_at stmts i) part d ≡ true → Typed stmts i d kind → Means stmts i d (built (setting_at stmts i) d)
built_means stmts i part d kind fair r m (typed.number n) = means.number n
built_means stmts i part d kind fair r m (typed.truth b) = means.truth b
built_means stmts i part d kind fair r m (typed.constant name called j v s) =
    subst (Means stmts i (tree.word name)) (sym (named_built stmts i name j 0 (st.constant_is called v) fair s)) (means.constant name called j v s)
built_means stmts i part d kind fair r m (typed.value name called j k values s) =
    let less : k ≡ suc k - 1 = omega arith in
    subst (Means stmts i (tree.word name)) (ap (λ n. e.number (pos n)) less ∙ sym (named_built stmts i name j (suc k) (st.enum_type called values) fair s))
    (means.value name called j k values s)
built_means stmts i part d kind fair r m (typed.variable_now name k v) =
    subst (Means stmts i (tree.word name)) (sym (named_built stmts i name v.at 0 (st.variable v.mode v.called v.type) fair v.stands))
    (means.variable_now name (place_number (setting_at stmts i) (v.at, 0)) (place_of (record (setting_at stmts i) { at = v.at }) (st.variable v.mode v.called v.type))
    (place_now stmts i name v.at v.mode v.called v.type fair r v.stands))
built_means stmts i part d kind fair r m (typed.variable_old name k v) =
    subst (Means stmts i (tree.former name)) (sym (recalled_built stmts i name v.at 0 (st.variable v.mode v.called v.type) fair v.stands))
    (means.variable_old name (copy_number (setting_at stmts i) (v.at, 0)) (old_copy (place_of (record (setting_at stmts i) { at = v.at }) (st.variable v.mode v.called v.type)))
    (place_old stmts i name v.at v.mode v.called v.type part fair r m v.stands))
built_means stmts i part d kind fair r m (typed.minus a t) = means.minus a (built (setting_at stmts i) a) (built_means stmts i part a Whole fair r m t)
built_means stmts i part d kind fair r m (typed.opposite a t) = means.opposite a (built (setting_at stmts i) a) (built_means stmts i part a Truth fair r m t)
built_means stmts i part d kind fair r m (typed.calculated o a b is t u) =
    let both = both_true _ _ m in
    means.two o a b (built (setting_at stmts i) a) (built (setting_at stmts i) b) (built_means stmts i part a Whole fair r both.0 t) (built_means stmts i part b Whole fair r both.1 u)
built_means stmts i part d kind fair r m (typed.joined o a b is t u) =
    let both = both_true _ _ m in
    means.two o a b (built (setting_at stmts i) a) (built (setting_at stmts i) b) (built_means stmts i part a Truth fair r both.0 t) (built_means stmts i part b Truth fair r both.1 u)
built_means stmts i part d kind fair r m (typed.compared q a b t u) =
    let both = both_true _ _ m in
    means.two (Compare q) a b (built (setting_at stmts i) a) (built (setting_at stmts i) b) (built_means stmts i part a Whole fair r both.0 t) (built_means stmts i part b Whole fair r both.1 u)
built_means stmts i part d kind fair r m (typed.same q a b j is t u) =
    let both = both_true _ _ m in
    means.two (Compare q) a b (built (setting_at stmts i) a) (built (setting_at stmts i) b) (built_means stmts i part a (Enumeration j) fair r both.0 t)
    (built_means stmts i part b (Enumeration j) fair r both.1 u)

-- an expression that reads one place
read_alike : (p q : ℕ) (place other : Place) → IsOnePlace p q place other → read place.flag p ≡ read other.flag q
read_alike p q place other o = ap (λ (x : Place). read x.flag p) o.same ∙ ap (read other.flag) o.number

-- what an expression stands for is what is built of it
pub means_built : (stmts : List Placed) (i : ℕ) (part : Part) (d : Tree) (y : Expression) → IsFair stmts → Reads (setting_at stmts i) (own_places stmts i)
    → keeps_modes (setting_at stmts i) part d ≡ true → Means stmts i d y → built (setting_at stmts i) d ≡ y
means_built stmts i part d y fair r m (means.number n) = refl
means_built stmts i part d y fair r m (means.truth b) = refl
means_built stmts i part d y fair r m (means.constant name called j v s) = named_built stmts i name j 0 (st.constant_is called v) fair s
means_built stmts i part d y fair r m (means.value name called j k values s) =
    let less : suc k - 1 ≡ k = omega arith in named_built stmts i name j (suc k) (st.enum_type called values) fair s ∙ ap (λ n. e.number (pos n)) less
means_built stmts i part d y fair r m (means.variable_now name p place is) =
    let own = place_of (record (setting_at stmts i) { at = is.at }) (st.variable is.mode is.called is.type) in
    named_built stmts i name is.at 0 (st.variable is.mode is.called is.type) fair is.stands
    ∙ read_alike (place_number (setting_at stmts i) (is.at, 0)) p own place
    (one_place stmts i (place_number (setting_at stmts i) (is.at, 0)) p name false own place fair (place_now stmts i name is.at is.mode is.called is.type fair r is.stands) is)
means_built stmts i part d y fair r m (means.variable_old name p place is) =
    let own = old_copy (place_of (record (setting_at stmts i) { at = is.at }) (st.variable is.mode is.called is.type)) in
    recalled_built stmts i name is.at 0 (st.variable is.mode is.called is.type) fair is.stands
    ∙ read_alike (copy_number (setting_at stmts i) (is.at, 0)) p own place
    (one_place stmts i (copy_number (setting_at stmts i) (is.at, 0)) p name true own place fair (place_old stmts i name is.at is.mode is.called is.type part fair r m is.stands) is)
means_built stmts i part d y fair r m (means.minus a x t) = ap e.minus (means_built stmts i part a x fair r m t)
means_built stmts i part d y fair r m (means.opposite a x t) = ap e.opposite (means_built stmts i part a x fair r m t)
means_built stmts i part d y fair r m (means.two o a b x z t u) =
    let both = both_true _ _ m in
    ap (λ w. e.two o w (built (setting_at stmts i) b)) (means_built stmts i part a x fair r both.0 t) ∙ ap (e.two o x) (means_built stmts i part b z fair r both.1 u)

-- the modes of an expression in a statement that breaks no rule on modes
allowed_keeps : (stmts : List Placed) (i : ℕ) (x : Statement) (part : Part) (d : Tree) → HasExpression x part d → is_allowed (setting_at stmts i) x ≡ true
    → keeps_modes (setting_at stmts i) part d ≡ true
allowed_keeps stmts i x part d (of_pre t) h = h
allowed_keeps stmts i x part d (of_post t) h = h
allowed_keeps stmts i x part d (of_assert t) h = h
allowed_keeps stmts i x part d (of_assignment name t) h = (both_true _ _ h).1
allowed_keeps stmts i x part d (of_if t) h = h
allowed_keeps stmts i x part d (of_exit t) h = h

pub meaning_built : MeaningIsBuilt
meaning_built stmts order k i x part d says has y =
    let fair : IsFair stmts = record { placed = are_placed stmts order; once = k.once } in
    let r = reads_at stmts i x part d order says has in
    let modes = allowed_keeps stmts i x part d has (true_unless (is_allowed (setting_at stmts i) x) (λ f. k.modes i x says (modes_broken stmts i x fair f))) in
    let t = expression_typed stmts i x part d has (k.typed i x says) in (
      λ h. subst (Means stmts i d) h (built_means stmts i part d t.0 fair r modes t.1),
      λ h. means_built stmts i part d y fair r modes h,
    )
