-- An expression has the kind that is found for it, and no other.
use Rattle.std.proofs.Common.{◌≡◌, ℕ, zero, suc, ◌∙◌, sym, ap, subst, refl, inl, inr, ◌⊎◌, Bool, true, false, ◌&&◌, ◌||◌, List, [], ◌∷◌, nat_eq, arith, if◌then◌else◌}
use Rattle.std.specs.Prelude.{Option, Some, None, slice_get}
use Rattle.std.specs.Option.{option_and_then, option_map}
use Rattle.il_core.specs.Statement.{Statement, Placed}
use Rattle.il_core.specs.Statement as st
use Rattle.il_core.specs.Tree.{Tree}
use Rattle.il_core.specs.Tree as tree
use Rattle.il_core.specs.declared.operator.BinOp.{BinOp}
use Rattle.il_core.specs.declared.operator.BinOp.TheVariants.{Add, Sub, Mul, Div, Mod, Compare, And, Or}
use Rattle.il_core.specs.declared.operator.Relation.{Relation}
use Rattle.il_core.specs.declared.operator.Relation.TheVariants.{Eq, Ne, Lt, Le, Gt, Ge}
use Rattle.il_core.specs.declared.statement.Mode.{Mode}
use Rattle.il_core.specs.declared.statement.TypeUse.{TypeUse}
use Rattle.il_core.specs.declared.statement.TypeUse.TheVariants as use_
use Rattle.il_types.specs.declared.kind.Kind.{Kind}
use Rattle.il_types.specs.declared.kind.Kind.TheVariants.{Whole, Truth, Enumeration}
use Rattle.il_types.specs.Names.{Spot, declared_names, setting, front_of, in_force, said, declaration}
use Rattle.il_types.specs.Typing.{type_in, kind_of_use, value_in, variable_in, kind_of_value, kind_of_variable, is_whole, is_truth, is_enumeration, is_equality, are_of_one, are_whole, are_truth, are_comparable, kind_if, kind_of_two, kind_of}
use Rattle.il_built.specs.Holding.{setting_at}
use Rattle.typing_laws.specs.Declared.{Says, InForce, earlier_is, own_is, DeclaredOnce}
use Rattle.typing_laws.specs.Typed.{StandsFor, HasValues, truths, range, wrapping, named_range, named_wrapping, named_enumeration, IsVariableOf, IsArithmetic, sum, difference, product, quotient, remainder, IsLogical, conjunction, disjunction, IsEquality, equal, unequal, Typed, number, truth, constant, value, variable_now, variable_old, minus, opposite, calculated, joined, compared, same}
use Rattle.typing_laws.proofs.Standing.{count, placed_at, says_of, one_said, stands_count}
use Rattle.typing_laws.proofs.Declaring.{ArePlaced, names_are, not_both}
use Rattle.typing_laws.proofs.Force.{found_in_force, found_exactly}

-- a text whose declarations are in their places, each name declared once
pub record IsFair (stmts : List Placed) : Type 0 where
  pub placed : ArePlaced stmts
  pub once : DeclaredOnce stmts

-- the parts of an answer that is there
pub found : {A B : Type 0} (f : A → Option B) (o : Option A) (b : B) → option_and_then f o ≡ Some b → (a : A) × (o ≡ Some a) × (f a ≡ Some b)
found f None b e = absurd (cc)
found f (Some a) b e = (a, refl, e)

-- what a name stands for is its declaration
pub stands_declared : (stmts : List Placed) (i : ℕ) (name : List ℕ) (j k : ℕ) (x : Statement) → IsFair stmts → StandsFor stmts i name j k x
    → declaration (setting_at stmts i) name ≡ Some ((j, k), x)
stands_declared stmts i name j k x fair s =
    let p = placed_at stmts j x s.says in
    ap (option_and_then (said stmts)) (found_exactly stmts i j k name fair.placed fair.once s.force)
    ∙ ap (option_map (λ (y : Placed). ((j, k), y.says))) p.1 ∙ ap (λ y. Some ((j, k), y)) p.2

pub declared_stands : (stmts : List Placed) (i : ℕ) (name : List ℕ) (spot : Spot) (x : Statement) → IsFair stmts → declaration (setting_at stmts i) name ≡ Some (spot, x)
    → StandsFor stmts i name spot.0 spot.1 x
declared_stands stmts i name spot x fair e =
    let f = found (said stmts) (in_force (setting_at stmts i) name) (spot, x) e in
    here f.0 f.1 (slice_get stmts f.0.0) refl f.2
  where
    here : (s : Spot) → in_force (setting_at stmts i) name ≡ Some s → (o : Option Placed) → slice_get stmts s.0 ≡ o → option_map {U = Spot × Statement} (λ (y : Placed). (s, y.says)) o ≡ Some (spot, x)
        → StandsFor stmts i name spot.0 spot.1 x
    here s f None h g = absurd (cc)
    here s f (Some y) h g =
        let pair : (s, y.says) ≡ (spot, x) = cc in
        let at : s ≡ spot = ap (λ (p : Spot × Statement). p.0) pair in
        let is : y.says ≡ x = ap (λ (p : Spot × Statement). p.1) pair in
        record {
          force = subst (λ (t : Spot). InForce stmts i name t.0 t.1) at (found_in_force stmts i name s fair.placed f);
          says = subst (λ (t : Spot). Says stmts t.0 x) at (subst (Says stmts s.0) is (says_of stmts s.0 y h));
        }

-- a variable in force is one of the procedure in which it is used
pub own_count : (stmts : List Placed) (i : ℕ) (name : List ℕ) (j k : ℕ) (mode : Mode) (called : List ℕ) (type : TypeUse) → StandsFor stmts i name j k (st.variable mode called type)
    → count stmts j ≡ count stmts i
own_count stmts i name j k mode called type s = by j k s.force s.says
  where
    by : (a b : ℕ) → InForce stmts i name a b → Says stmts a (st.variable mode called type) → count stmts a ≡ count stmts i
    by a b (earlier_is c d h lt) says =
        let e = one_said stmts c h.stmt (st.variable mode called type) h.says says in
        not_both h.stmt d 0 name called h.names (record { mode = mode; type = type; is = e; alone = refl })
    by a b (own_is p c stands v) says = stands_count stmts p c v.stands ∙ sym (stands_count stmts p i stands)

-- the number of a name among those of its statement
pub declared_index : (stmts : List Placed) (i : ℕ) (name : List ℕ) (j k : ℕ) (x : Statement) → InForce stmts i name j k → Says stmts j x → slice_get (declared_names x) k ≡ Some name
declared_index stmts i name j k x (earlier_is c d h lt) says =
    ap (λ y. slice_get (declared_names y) d) (one_said stmts c x h.stmt says h.says) ∙ (names_are h.stmt d name h.names).named
declared_index stmts i name j k x (own_is p c stands v) says =
    ap (λ y. slice_get (declared_names y) 0) (one_said stmts c x (st.variable v.mode name v.type) says v.says)

single : (called name : List ℕ) (k : ℕ) → slice_get (called ∷ []) k ≡ Some name → k ≡ 0
single called name zero h = refl
single called name (suc k) h = absurd (cc)

-- is 0 where there is one
pub alone_index : (stmts : List Placed) (i : ℕ) (name : List ℕ) (j k : ℕ) (x : Statement) (called : List ℕ) → declared_names x ≡ called ∷ [] → StandsFor stmts i name j k x → k ≡ 0
alone_index stmts i name j k x called one s = single called name k (sym (ap (λ l. slice_get l k) one) ∙ declared_index stmts i name j k x s.force s.says)

-- so its type is read where it is declared
pub own_setting : (stmts : List Placed) (i j : ℕ) → count stmts j ≡ count stmts i → record (setting_at stmts i) { at = j } ≡ setting_at stmts j
own_setting stmts i j e = ap (λ n. setting (front_of stmts).table stmts n j) (sym e)

-- the kind of the values of a type
pub values_kind : (stmts : List Placed) (i : ℕ) (type : TypeUse) (kind : Kind) → IsFair stmts → HasValues stmts i type kind → kind_of_use (setting_at stmts i) type ≡ Some kind
values_kind stmts i type kind fair truths = refl
values_kind stmts i type kind fair (range least greatest) = refl
values_kind stmts i type kind fair (wrapping least greatest) = refl
values_kind stmts i type kind fair (named_range name called j least greatest s) =
    ap (option_and_then (λ (d : Spot × Statement). type_in d.0 d.1)) (stands_declared stmts i name j 0 (st.range_type called least greatest) fair s)
values_kind stmts i type kind fair (named_wrapping name called j least greatest s) =
    ap (option_and_then (λ (d : Spot × Statement). type_in d.0 d.1)) (stands_declared stmts i name j 0 (st.wrap_type called least greatest) fair s)
values_kind stmts i type kind fair (named_enumeration name called j values s) =
    ap (option_and_then (λ (d : Spot × Statement). type_in d.0 d.1)) (stands_declared stmts i name j 0 (st.enum_type called values) fair s)

pub kind_is : (a b : Kind) → Some a ≡ Some b → a ≡ b
kind_is a b h = cc

pub none_some : {A : Type 0} {B : Type 0} (a : A) → None ≡ Some a → B
none_some a h = absurd (cc)

is_zero : (n : ℕ) → nat_eq n 0 ≡ true → n ≡ 0
is_zero n h = grind arith

pub kind_values : (stmts : List Placed) (i : ℕ) (type : TypeUse) (kind : Kind) → IsFair stmts → kind_of_use (setting_at stmts i) type ≡ Some kind → HasValues stmts i type kind
kind_values stmts i use_.Bool kind fair e = subst (HasValues stmts i use_.Bool) (kind_is Truth kind e) truths
kind_values stmts i (use_.Range least greatest) kind fair e = subst (HasValues stmts i (use_.Range least greatest)) (kind_is Whole kind e) (range least greatest)
kind_values stmts i (use_.Wrap least greatest) kind fair e = subst (HasValues stmts i (use_.Wrap least greatest)) (kind_is Whole kind e) (wrapping least greatest)
kind_values stmts i (use_.Named name) kind fair e =
    let f = found (λ (d : Spot × Statement). type_in d.0 d.1) (declaration (setting_at stmts i) name) kind e in
    named f.0.0 f.0.1 f.1 f.2
  where
    by_index : (spot : Spot) (called : List ℕ) (values : List (List ℕ)) (t : Bool) → nat_eq spot.1 0 ≡ t → StandsFor stmts i name spot.0 spot.1 (st.enum_type called values)
        → (if t then Some (Enumeration spot.0) else None) ≡ Some kind → HasValues stmts i (use_.Named name) kind
    by_index spot called values false h s g = none_some kind g
    by_index spot called values true h s g =
        subst (HasValues stmts i (use_.Named name)) (kind_is (Enumeration spot.0) kind g)
        (named_enumeration name called spot.0 values (subst (λ k. StandsFor stmts i name spot.0 k (st.enum_type called values)) (is_zero spot.1 h) s))

    first : (x : Statement) (spot : Spot) (called : List ℕ) → declared_names x ≡ called ∷ [] → declaration (setting_at stmts i) name ≡ Some (spot, x) → StandsFor stmts i name spot.0 0 x
    first x spot called one e =
        let s = declared_stands stmts i name spot x fair e in
        subst (λ k. StandsFor stmts i name spot.0 k x) (alone_index stmts i name spot.0 spot.1 x called one s) s

    named : (spot : Spot) (x : Statement) → declaration (setting_at stmts i) name ≡ Some (spot, x) → type_in spot x ≡ Some kind → HasValues stmts i (use_.Named name) kind
    named spot (st.range_type called least greatest) f g = subst (HasValues stmts i (use_.Named name)) (kind_is Whole kind g)
        (named_range name called spot.0 least greatest (first (st.range_type called least greatest) spot called refl f))
    named spot (st.wrap_type called least greatest) f g = subst (HasValues stmts i (use_.Named name)) (kind_is Whole kind g)
        (named_wrapping name called spot.0 least greatest (first (st.wrap_type called least greatest) spot called refl f))
    named spot (st.enum_type called values) f g = by_index spot called values (nat_eq spot.1 0) refl (declared_stands stmts i name spot (st.enum_type called values) fair f) g
    named spot _ f g = none_some kind g

-- what a name stands for gives this of it
declared : {A : Type 0} (f : Spot × Statement → Option A) (stmts : List Placed) (i : ℕ) (name : List ℕ) (j k : ℕ) (x : Statement) → IsFair stmts → StandsFor stmts i name j k x
    → option_and_then f (declaration (setting_at stmts i) name) ≡ f ((j, k), x)
declared f stmts i name j k x fair s = ap (option_and_then f) (stands_declared stmts i name j k x fair s)

-- the kind of a variable, read where it is declared
variable_read : (stmts : List Placed) (i : ℕ) (name : List ℕ) (kind : Kind) → IsFair stmts → (v : IsVariableOf stmts i name kind)
    → kind_of_use (record (setting_at stmts i) { at = v.at }) v.type ≡ Some kind
variable_read stmts i name kind fair v =
    ap (λ s. kind_of_use s v.type) (own_setting stmts i v.at (own_count stmts i name v.at 0 v.mode v.called v.type v.stands)) ∙ values_kind stmts v.at v.type kind fair v.values

read_variable : (stmts : List Placed) (i : ℕ) (name : List ℕ) (kind : Kind) (spot : Spot) (mode : Mode) (called : List ℕ) (type : TypeUse) → IsFair stmts
    → declaration (setting_at stmts i) name ≡ Some (spot, st.variable mode called type) → kind_of_use (record (setting_at stmts i) { at = spot.0 }) type ≡ Some kind → IsVariableOf stmts i name kind
read_variable stmts i name kind spot mode called type fair e k =
    let s = declared_stands stmts i name spot (st.variable mode called type) fair e in
    let counts = own_count stmts i name spot.0 spot.1 mode called type s in
    record {
      at = spot.0;
      mode = mode;
      called = called;
      type = type;
      stands = subst (λ n. StandsFor stmts i name spot.0 n (st.variable mode called type)) (alone_index stmts i name spot.0 spot.1 (st.variable mode called type) called refl s) s;
      values = kind_values stmts spot.0 type kind fair (sym (ap (λ t. kind_of_use t type) (own_setting stmts i spot.0 counts)) ∙ k);
    }

pub variable_is : (stmts : List Placed) (i : ℕ) (name : List ℕ) (kind : Kind) → IsFair stmts → IsVariableOf stmts i name kind → kind_of_variable (setting_at stmts i) name ≡ Some kind
variable_is stmts i name kind fair v =
    declared (λ d. variable_in (setting_at stmts i) d.0 d.1) stmts i name v.at 0 (st.variable v.mode v.called v.type) fair v.stands ∙ variable_read stmts i name kind fair v

pub is_variable : (stmts : List Placed) (i : ℕ) (name : List ℕ) (kind : Kind) → IsFair stmts → kind_of_variable (setting_at stmts i) name ≡ Some kind → IsVariableOf stmts i name kind
is_variable stmts i name kind fair e =
    let f = found (λ (d : Spot × Statement). variable_in (setting_at stmts i) d.0 d.1) (declaration (setting_at stmts i) name) kind e in
    by f.0.0 f.0.1 f.1 f.2
  where
    by : (spot : Spot) (x : Statement) → declaration (setting_at stmts i) name ≡ Some (spot, x) → variable_in (setting_at stmts i) spot x ≡ Some kind → IsVariableOf stmts i name kind
    by spot (st.variable mode called type) f g = read_variable stmts i name kind spot mode called type fair f g
    by spot _ f g = none_some kind g

above : (n : ℕ) → nat_eq (suc n) 0 ≡ false
above n = grind arith

-- a name as a value
value_typed : (stmts : List Placed) (i : ℕ) (name : List ℕ) (kind : Kind) → IsFair stmts → kind_of_value (setting_at stmts i) name ≡ Some kind → Typed stmts i (tree.word name) kind
value_typed stmts i name kind fair e =
    let f = found (λ (d : Spot × Statement). value_in (setting_at stmts i) d.0 d.1) (declaration (setting_at stmts i) name) kind e in
    by f.0.0 f.0.1 f.1 f.2
  where
    numbered : (spot : Spot) (n : ℕ) (called : List ℕ) (values : List (List ℕ)) → StandsFor stmts i name spot.0 n (st.enum_type called values)
        → (if nat_eq n 0 then None else Some (Enumeration spot.0)) ≡ Some kind → Typed stmts i (tree.word name) kind
    numbered spot zero called values s g = none_some kind g
    numbered spot (suc n) called values s g =
        let h : Some (Enumeration spot.0) ≡ Some kind = sym (ap (λ t. if t then None else Some (Enumeration spot.0)) (above n)) ∙ g in
        subst (Typed stmts i (tree.word name)) (kind_is (Enumeration spot.0) kind h) (value name called spot.0 n values s)

    by : (spot : Spot) (x : Statement) → declaration (setting_at stmts i) name ≡ Some (spot, x) → value_in (setting_at stmts i) spot x ≡ Some kind → Typed stmts i (tree.word name) kind
    by spot (st.variable mode called type) f g = variable_now name kind (read_variable stmts i name kind spot mode called type fair f g)
    by spot (st.constant_is called v) f g =
        let s = declared_stands stmts i name spot (st.constant_is called v) fair f in
        let first = subst (λ n. StandsFor stmts i name spot.0 n (st.constant_is called v)) (alone_index stmts i name spot.0 spot.1 (st.constant_is called v) called refl s) s in
        subst (Typed stmts i (tree.word name)) (kind_is Whole kind g) (constant name called spot.0 v first)
    by spot (st.enum_type called values) f g = numbered spot spot.1 called values (declared_stands stmts i name spot (st.enum_type called values) fair f) g
    by spot _ f g = none_some kind g

-- what the operators make of two kinds
arithmetic : (o : BinOp) → IsArithmetic o → kind_of_two o (Some Whole) (Some Whole) ≡ Some Whole
arithmetic o sum = refl
arithmetic o difference = refl
arithmetic o product = refl
arithmetic o quotient = refl
arithmetic o remainder = refl

logical : (o : BinOp) → IsLogical o → kind_of_two o (Some Truth) (Some Truth) ≡ Some Truth
logical o conjunction = refl
logical o disjunction = refl

itself : (j : ℕ) → nat_eq j j ≡ true
itself j = grind arith

equality : (r : Relation) (j : ℕ) → IsEquality r → kind_of_two (Compare r) (Some (Enumeration j)) (Some (Enumeration j)) ≡ Some Truth
equality r j equal = ap (λ b. kind_if b Truth) (itself j)
equality r j unequal = ap (λ b. kind_if b Truth) (itself j)

of_both : (o : BinOp) (p q a b : Option Kind) → p ≡ a → q ≡ b → kind_of_two o p q ≡ kind_of_two o a b
of_both o p q a b e f = ap (λ x. kind_of_two o x q) e ∙ ap (kind_of_two o a) f

-- an expression of a kind has it
pub typed_kind : (stmts : List Placed) (i : ℕ) (e : Tree) (kind : Kind) → IsFair stmts → Typed stmts i e kind → kind_of (setting_at stmts i) e ≡ Some kind
typed_kind stmts i e kind fair (number n) = refl
typed_kind stmts i e kind fair (truth b) = refl
typed_kind stmts i e kind fair (constant name called j v s) =
    declared (λ d. value_in (setting_at stmts i) d.0 d.1) stmts i name j 0 (st.constant_is called v) fair s
typed_kind stmts i e kind fair (value name called j k values s) =
    declared (λ d. value_in (setting_at stmts i) d.0 d.1) stmts i name j (suc k) (st.enum_type called values) fair s
    ∙ ap (λ t. if t then None else Some (Enumeration j)) (above k)
typed_kind stmts i e kind fair (variable_now name k v) =
    declared (λ d. value_in (setting_at stmts i) d.0 d.1) stmts i name v.at 0 (st.variable v.mode v.called v.type) fair v.stands ∙ variable_read stmts i name k fair v
typed_kind stmts i e kind fair (variable_old name k v) = variable_is stmts i name k fair v
typed_kind stmts i e kind fair (minus a t) = ap (λ o. kind_if (is_whole o) Whole) (typed_kind stmts i a Whole fair t)
typed_kind stmts i e kind fair (opposite a t) = ap (λ o. kind_if (is_truth o) Truth) (typed_kind stmts i a Truth fair t)
typed_kind stmts i e kind fair (calculated o a b h t u) = of_both o _ _ _ _ (typed_kind stmts i a Whole fair t) (typed_kind stmts i b Whole fair u) ∙ arithmetic o h
typed_kind stmts i e kind fair (joined o a b h t u) = of_both o _ _ _ _ (typed_kind stmts i a Truth fair t) (typed_kind stmts i b Truth fair u) ∙ logical o h
typed_kind stmts i e kind fair (compared r a b t u) = of_both (Compare r) _ _ _ _ (typed_kind stmts i a Whole fair t) (typed_kind stmts i b Whole fair u)
typed_kind stmts i e kind fair (same r a b j h t u) =
    of_both (Compare r) _ _ _ _ (typed_kind stmts i a (Enumeration j) fair t) (typed_kind stmts i b (Enumeration j) fair u) ∙ equality r j h

-- the sides of an operator whose sides have the kinds that it needs
kept : (b : Bool) (l k : Kind) → kind_if b l ≡ Some k → (b ≡ true) × (l ≡ k)
kept true l k h = (refl, kind_is l k h)
kept false l k h = none_some k h

pub both_true : (a b : Bool) → (a && b) ≡ true → (a ≡ true) × (b ≡ true)
both_true true b e = (refl, e)
both_true false b e = absurd (cc)

pub one_true : (a b : Bool) → (a || b) ≡ true → (a ≡ true) ⊎ (b ≡ true)
one_true true b h = inl refl
one_true false b h = inr h

pub whole_is : (o : Option Kind) → is_whole o ≡ true → o ≡ Some Whole
whole_is None h = absurd (cc)
whole_is (Some Whole) h = refl
whole_is (Some Truth) h = absurd (cc)
whole_is (Some (Enumeration at)) h = absurd (cc)

pub truth_is : (o : Option Kind) → is_truth o ≡ true → o ≡ Some Truth
truth_is None h = absurd (cc)
truth_is (Some Whole) h = absurd (cc)
truth_is (Some Truth) h = refl
truth_is (Some (Enumeration at)) h = absurd (cc)

same_number : (a b : ℕ) → nat_eq a b ≡ true → a ≡ b
same_number a b e = grind arith

enumeration_is : (at : ℕ) (o : Option Kind) → is_enumeration at o ≡ true → o ≡ Some (Enumeration at)
enumeration_is at None h = absurd (cc)
enumeration_is at (Some Whole) h = absurd (cc)
enumeration_is at (Some Truth) h = absurd (cc)
enumeration_is at (Some (Enumeration b)) h = ap (λ n. Some (Enumeration n)) (sym (same_number at b h))

pub one_enumeration : (o p : Option Kind) → are_of_one o p ≡ true → (at : ℕ) × (o ≡ Some (Enumeration at)) × (p ≡ Some (Enumeration at))
one_enumeration None p h = absurd (cc)
one_enumeration (Some Whole) p h = absurd (cc)
one_enumeration (Some Truth) p h = absurd (cc)
one_enumeration (Some (Enumeration a)) p h = (a, refl, enumeration_is a p h)

equality_is : (r : Relation) → is_equality r ≡ true → IsEquality r
equality_is Eq h = equal
equality_is Ne h = unequal
equality_is Lt h = absurd (cc)
equality_is Le h = absurd (cc)
equality_is Gt h = absurd (cc)
equality_is Ge h = absurd (cc)

-- an operator of two sides, each of its kind
two_typed : (stmts : List Placed) (i : ℕ) (o : BinOp) (a b : Tree) (p q : Option Kind) (kind : Kind) → kind_of_two o p q ≡ Some kind
    → ((k : Kind) → p ≡ Some k → Typed stmts i a k) → ((k : Kind) → q ≡ Some k → Typed stmts i b k) → Typed stmts i (tree.two o a b) kind
two_typed stmts i o a b p q kind e f g = by o e
  where
    whole : (h : BinOp) → IsArithmetic h → kind_if (are_whole p q) Whole ≡ Some kind → Typed stmts i (tree.two h a b) kind
    whole h is t =
        let k = kept (are_whole p q) Whole kind t in
        let w = both_true (is_whole p) (is_whole q) k.0 in
        subst (Typed stmts i (tree.two h a b)) k.1 (calculated h a b is (f Whole (whole_is p w.0)) (g Whole (whole_is q w.1)))

    truths_of : (h : BinOp) → IsLogical h → kind_if (are_truth p q) Truth ≡ Some kind → Typed stmts i (tree.two h a b) kind
    truths_of h is t =
        let k = kept (are_truth p q) Truth kind t in
        let w = both_true (is_truth p) (is_truth q) k.0 in
        subst (Typed stmts i (tree.two h a b)) k.1 (joined h a b is (f Truth (truth_is p w.0)) (g Truth (truth_is q w.1)))

    comparable : (r : Relation) → are_comparable r p q ≡ true → Typed stmts i (tree.two (Compare r) a b) Truth
    comparable r t = elim (one_true (are_whole p q) (is_equality r && are_of_one p q) t) [
      | inl u ↦ let w = both_true (is_whole p) (is_whole q) u in compared r a b (f Whole (whole_is p w.0)) (g Whole (whole_is q w.1))
      | inr u ↦
          let w = both_true (is_equality r) (are_of_one p q) u in
          let n = one_enumeration p q w.1 in
          same r a b n.0 (equality_is r w.0) (f (Enumeration n.0) n.1) (g (Enumeration n.0) n.2)
    ]

    by : (h : BinOp) → kind_of_two h p q ≡ Some kind → Typed stmts i (tree.two h a b) kind
    by Add t = whole Add sum t
    by Sub t = whole Sub difference t
    by Mul t = whole Mul product t
    by Div t = whole Div quotient t
    by Mod t = whole Mod remainder t
    by And t = truths_of And conjunction t
    by Or t = truths_of Or disjunction t
    by (Compare r) t = let k = kept (are_comparable r p q) Truth kind t in subst (Typed stmts i (tree.two (Compare r) a b)) k.1 (comparable r k.0)

-- and one that has a kind is of it
pub kind_typed : (stmts : List Placed) (i : ℕ) (e : Tree) (kind : Kind) → IsFair stmts → kind_of (setting_at stmts i) e ≡ Some kind → Typed stmts i e kind
kind_typed stmts i (tree.number n) kind fair h = subst (Typed stmts i (tree.number n)) (kind_is Whole kind h) (number n)
kind_typed stmts i (tree.word name) kind fair h = value_typed stmts i name kind fair h
kind_typed stmts i (tree.former name) kind fair h = variable_old name kind (is_variable stmts i name kind fair h)
kind_typed stmts i (tree.constant b) kind fair h = subst (Typed stmts i (tree.constant b)) (kind_is Truth kind h) (truth b)
kind_typed stmts i (tree.minus a) kind fair h =
    let k = kept (is_whole (kind_of (setting_at stmts i) a)) Whole kind h in
    subst (Typed stmts i (tree.minus a)) k.1 (minus a (kind_typed stmts i a Whole fair (whole_is _ k.0)))
kind_typed stmts i (tree.opposite a) kind fair h =
    let k = kept (is_truth (kind_of (setting_at stmts i) a)) Truth kind h in
    subst (Typed stmts i (tree.opposite a)) k.1 (opposite a (kind_typed stmts i a Truth fair (truth_is _ k.0)))
kind_typed stmts i (tree.two o a b) kind fair h =
    two_typed stmts i o a b (kind_of (setting_at stmts i) a) (kind_of (setting_at stmts i) b) kind h (λ k e. kind_typed stmts i a k fair e) (λ k e. kind_typed stmts i b k fair e)
