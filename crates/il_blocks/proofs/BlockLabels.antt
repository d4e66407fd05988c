-- What the table of labels holds, and what it tells of a statement.
use Rattle.std.proofs.Common.{◌≡◌, ◌||◌, ◌&&◌, ◌+◌, ◌<◌, ◌≤◌, not, nat_eq, bytes_eq, is_none, ℕ, suc, Bool, true, false, List, [], ◌∷◌, ◌++◌, length, take, slice_get, refl, sym, ◌∙◌, ap, subst, inl, inr, arith, if◌then◌else◌}
use Rattle.std.specs.Prelude.{Option, Some, None, MatchOption, map}
use Rattle.std.proofs.lemmas.List.{length-map}
use Rattle.std.proofs.lemmas.Bool.Decides.{Decides-eqb}
use Rattle.std.proofs.lemmas.Option.{slice_get_within}
use Rattle.std.proofs.lemmas.Slice.Eq.{bytes_eq-Decides}
use borrow.Author.Count.{below_more}
use Rattle.il_core.specs.Statement.{Placed, placed}
use Rattle.il_core.specs.declared.statement.Stmt.{Stmt}
use Rattle.il_blocks.specs.BlockLabel.{begins, procedures, owner, label_of, target_of, IsLabel, IsRepeated, IsLost, IsMislabelled, Entries, same_key, found, IsTable, enlisted, is_other, is_repeat, is_lost}
use Rattle.il_blocks.proofs.BlockPlaces.{take_next}

not_some : {A : Type 0} (x : A) → ◌≡◌ {A = Option A} None (Some x) → ⊥
not_some x e = cc

-- one statement stands at a number
one_at : (ss : List Placed) (i : ℕ) (a b : Placed) → slice_get ss i ≡ Some a → slice_get ss i ≡ Some b → a ≡ b
one_at ss i a b f g = let z : ◌≡◌ {A = Option Placed} (Some a) (Some b) = sym f ∙ g in cc

begun : (xs : List Placed) (s : Placed) → procedures (xs ++ s ∷ []) ≡ procedures xs + begins s.says
begun [] s = omega arith
begun (x ∷ xs) s = let e = begun xs s in omega arith

-- the procedure of the next statement
pub owner_next : (ss : List Placed) (i : ℕ) (s : Placed) → slice_get ss i ≡ Some s → owner ss (i + 1) ≡ owner ss i + begins s.says
owner_next ss i s at =
    let e : i + 1 ≡ suc i = omega arith in
    ap (λ (n : ℕ). procedures (take n ss)) e ∙ ap procedures (take_next ss i s at) ∙ begun (take i ss) s

both_true : (a b : Bool) → (a && b) ≡ true → (a ≡ true) × (b ≡ true)
both_true true b e = (refl, e)
both_true false b e = absurd (let z : false ≡ true = e in cc)

both_are : (a b : Bool) → a ≡ true → b ≡ true → (a && b) ≡ true
both_are true b e f = f
both_are false b e f = cc

-- equal keys are one
pub one_key : (inside : ℕ) (name : List ℕ) (k : ℕ × List ℕ) → same_key inside name k ≡ true → (inside ≡ k.0) × (name ≡ k.1)
one_key inside name k e =
    let two = both_true (nat_eq inside k.0) (bytes_eq name k.1) e in ((Decides-eqb inside k.0).0 two.0, (bytes_eq-Decides name k.1).0 two.1)

pub key_is : (inside : ℕ) (name : List ℕ) (k : ℕ × List ℕ) → inside ≡ k.0 → name ≡ k.1 → same_key inside name k ≡ true
key_is inside name k e f = both_are (nat_eq inside k.0) (bytes_eq name k.1) ((Decides-eqb inside k.0).1 e) ((bytes_eq-Decides name k.1).1 f)

-- what is found behind one more entry
abbrev or_here : Option ℕ → Bool → ℕ → Option ℕ
or_here (Some j) b i = Some j
or_here None true i = Some i
or_here None false i = None

found_more : (inside : ℕ) (name : List ℕ) (es : Entries) (k : ℕ × List ℕ) (i : ℕ) → found inside name (es ++ (k, i) ∷ []) ≡ or_here (found inside name es) (same_key inside name k) i
found_more inside name [] k i = here (same_key inside name k)
  where
    here : (b : Bool) → (if b then Some i else None) ≡ or_here None b i
    here true = refl
    here false = refl
found_more inside name (e ∷ es) k i = here (same_key inside name e.0) (found inside name es) (found inside name (es ++ (k, i) ∷ [])) (found_more inside name es k i)
  where
    here : (b : Bool) (o p : Option ℕ) → p ≡ or_here o (same_key inside name k) i → (if b then Some e.1 else p) ≡ or_here (if b then Some e.1 else o) (same_key inside name k) i
    here true o p f = refl
    here false o p f = f

-- the table holds what it held, with one more
abbrev Holds : List Placed → ℕ → ℕ → List ℕ → Option ℕ → Type 0
Holds ss n inside name o = MatchOption o ((j : ℕ) → j < n → IsLabel ss inside name j → ⊥)
    (λ j. (j < n) × IsLabel ss inside name j × ((k : ℕ) → k < j → IsLabel ss inside name k → ⊥))

holds_more : (ss : List Placed) (n inside : ℕ) (name : List ℕ) (o : Option ℕ) → Holds ss n inside name o → ((o ≡ None) → IsLabel ss inside name n → ⊥) → Holds ss (n + 1) inside name o
holds_more ss n inside name None h here = below_more (λ (j : ℕ). IsLabel ss inside name j → ⊥) n h (here refl)
holds_more ss n inside name (Some j) h here = let k : j < n + 1 = omega (arith, h.0) in (k, h.1, h.2)

holds_here : (ss : List Placed) (n inside : ℕ) (name : List ℕ) (o : Option ℕ) (b : Bool) → Holds ss n inside name o
    → (b ≡ true → IsLabel ss inside name n) → (b ≡ false → IsLabel ss inside name n → ⊥) → Holds ss (n + 1) inside name (or_here o b n)
holds_here ss n inside name (Some j) b h yes_here not_here = let k : j < n + 1 = omega (arith, h.0) in (k, h.1, h.2)
holds_here ss n inside name None true h yes_here not_here = let k : n < n + 1 = omega arith in (k, yes_here refl, h)
holds_here ss n inside name None false h yes_here not_here = below_more (λ (j : ℕ). IsLabel ss inside name j → ⊥) n h (not_here refl)

-- the label that a statement is
label_is : (ss : List Placed) (i : ℕ) (s : Placed) (inside : ℕ) (name : List ℕ) → slice_get ss i ≡ Some s → IsLabel ss inside name i → (label_of s.says ≡ Some name) × (owner ss i ≡ inside)
label_is ss i s inside name at l = (ap (λ (x : Placed). label_of x.says) (one_at ss i s l.stmt at l.at) ∙ l.says, l.same)

-- the table goes on past a statement
pub table_next : (ss : List Placed) (i : ℕ) (s : Placed) (es : Entries) → slice_get ss i ≡ Some s → IsTable ss i es → IsTable ss (i + 1) (enlisted (label_of s.says) (owner ss i) i es)
table_next ss i s es at t = by_label (label_of s.says) refl
  where
    by_new : (own : List ℕ) → label_of s.says ≡ Some own → (o : Option ℕ) → found (owner ss i) own es ≡ o
        → IsTable ss (i + 1) (if is_none o then es ++ ((owner ss i, own), i) ∷ [] else es)
    by_new own e (Some j) f inside name =
        holds_more ss i inside name (found inside name es) (t inside name)
        (λ none l. let here = label_is ss i s inside name at l in
        let z : ◌≡◌ {A = Option (List ℕ)} (Some own) (Some name) = sym e ∙ here.0 in
        let same : own ≡ name = cc in
        not_some j (sym none ∙ ap (λ (n : ℕ). found n name es) (sym here.1) ∙ ap (λ (n : List ℕ). found (owner ss i) n es) (sym same) ∙ f))
    by_new own e None f inside name =
        subst (Holds ss (i + 1) inside name) (sym (found_more inside name es (owner ss i, own) i))
        (holds_here ss i inside name (found inside name es) (same_key inside name (owner ss i, own)) (t inside name)
        (λ key. let one = one_key inside name (owner ss i, own) key in
        record { stmt = s; at = at; says = e ∙ ap (λ (n : List ℕ). Some n) (sym one.1); same = sym one.0 })
        (λ key l. let here = label_is ss i s inside name at l in
        let z : ◌≡◌ {A = Option (List ℕ)} (Some own) (Some name) = sym e ∙ here.0 in
        let same : own ≡ name = cc in
        let w : true ≡ false = sym (key_is inside name (owner ss i, own) (sym here.1) (sym same)) ∙ key in cc))

    by_label : (a : Option (List ℕ)) → label_of s.says ≡ a → IsTable ss (i + 1) (enlisted a (owner ss i) i es)
    by_label None e inside name =
        holds_more ss i inside name (found inside name es) (t inside name)
        (λ none l. not_some name (sym e ∙ (label_is ss i s inside name at l).0))
    by_label (Some own) e inside name = by_new own e (found (owner ss i) own es) refl inside name

-- a label that is not the first with its name in its procedure is repeated
other_repeated : (ss : List Placed) (i : ℕ) (s : Placed) (name : List ℕ) (o : Option ℕ) → slice_get ss i ≡ Some s → label_of s.says ≡ Some name
    → i < length ss → Holds ss (length ss) (owner ss i) name o → is_other i o ≡ true → IsRepeated ss i
other_repeated ss i s name None at e within h g = absurd (h i within (record { stmt = s; at = at; says = e; same = refl }))
other_repeated ss i s name (Some j) at e within h g = record {
  stmt = s;
  at = at;
  name = name;
  says = e;
  first = j;
  before = lower (nat_eq j i) refl g;
  earlier = h.1;
}
  where
    lower : (b : Bool) → nat_eq j i ≡ b → not b ≡ true → j < i
    lower true f g = absurd (let z : false ≡ true = g in cc)
    lower false f g =
        let apart : j ≡ i → ⊥ = λ same. (let w : true ≡ false = sym ((Decides-eqb j i).1 same) ∙ f in cc) in
        let least : i < j → ⊥ = λ less. h.2 i less (record { stmt = s; at = at; says = e; same = refl }) in
        omega arith

repeated_other : (ss : List Placed) (i : ℕ) (name : List ℕ) (o : Option ℕ) → Holds ss (length ss) (owner ss i) name o → (first : ℕ) → first < i
    → first < length ss → IsLabel ss (owner ss i) name first → is_other i o ≡ true
repeated_other ss i name None h first less within l = refl
repeated_other ss i name (Some j) h first less within l = differ (nat_eq j i) refl
  where
    differ : (b : Bool) → nat_eq j i ≡ b → not b ≡ true
    differ false f = refl
    differ true f = let same : j ≡ i = (Decides-eqb j i).0 f in let k : first < j = omega arith in absurd (h.2 first k l)

-- what the table tells of a statement is so
pub mislabelled_here : (ss : List Placed) (i : ℕ) (s : Placed) (es : Entries) → slice_get ss i ≡ Some s → IsTable ss (length ss) es
    → (is_repeat (label_of s.says) (owner ss i) i es || is_lost (target_of s.says) (owner ss i) es) ≡ true → IsMislabelled ss i
mislabelled_here ss i s es at t e = split (is_repeat (label_of s.says) (owner ss i) i es) refl e
  where
    repeat : (a : Option (List ℕ)) → label_of s.says ≡ a → is_repeat a (owner ss i) i es ≡ true → IsRepeated ss i
    repeat None f g = absurd (let z : false ≡ true = g in cc)
    repeat (Some name) f g = other_repeated ss i s name (found (owner ss i) name es) at f (slice_get_within ss i s at) (t (owner ss i) name) g

    lose : (name : List ℕ) (o : Option ℕ) → target_of s.says ≡ Some name → Holds ss (length ss) (owner ss i) name o → is_none o ≡ true → IsLost ss i
    lose name None f h g = record { stmt = s; at = at; name = name; says = f; nowhere = λ j l. h j (slice_get_within ss j l.stmt l.at) l }
    lose name (Some j) f h g = absurd (let z : false ≡ true = g in cc)

    lost : (a : Option (List ℕ)) → target_of s.says ≡ a → is_lost a (owner ss i) es ≡ true → IsLost ss i
    lost None f g = absurd (let z : false ≡ true = g in cc)
    lost (Some name) f g = lose name (found (owner ss i) name es) f (t (owner ss i) name) g

    split : (b : Bool) → is_repeat (label_of s.says) (owner ss i) i es ≡ b → (b || is_lost (target_of s.says) (owner ss i) es) ≡ true → IsMislabelled ss i
    split true f g = inl (repeat (label_of s.says) refl f)
    split false f g = inr (lost (target_of s.says) refl g)

-- and what is so, it tells
pub labelled_here : (ss : List Placed) (i : ℕ) (s : Placed) (es : Entries) → slice_get ss i ≡ Some s → IsTable ss (length ss) es
    → (is_repeat (label_of s.says) (owner ss i) i es || is_lost (target_of s.says) (owner ss i) es) ≡ false → IsMislabelled ss i → ⊥
labelled_here ss i s es at t e (inl r) =
    let same = one_at ss i s r.stmt at r.at in
    let says : label_of s.says ≡ Some r.name = ap (λ (x : Placed). label_of x.says) same ∙ r.says in
    let told : is_repeat (label_of s.says) (owner ss i) i es ≡ true =
    ap (λ (a : Option (List ℕ)). is_repeat a (owner ss i) i es) says
    ∙ repeated_other ss i r.name (found (owner ss i) r.name es) (t (owner ss i) r.name) r.first r.before (slice_get_within ss r.first r.earlier.stmt r.earlier.at) r.earlier in
    let w : true ≡ false = sym (ap (λ (b : Bool). b || is_lost (target_of s.says) (owner ss i) es) told) ∙ e in
    cc
labelled_here ss i s es at t e (inr l) =
    let same = one_at ss i s l.stmt at l.at in
    let says : target_of s.says ≡ Some l.name = ap (λ (x : Placed). target_of x.says) same ∙ l.says in
    let told : is_lost (target_of s.says) (owner ss i) es ≡ true =
    ap (λ (a : Option (List ℕ)). is_lost a (owner ss i) es) says ∙ none_there (found (owner ss i) l.name es) (t (owner ss i) l.name) in
    let w : true ≡ false = sym (second (is_repeat (label_of s.says) (owner ss i) i es) (is_lost (target_of s.says) (owner ss i) es) told) ∙ e in
    cc
  where
    none_there : (o : Option ℕ) → Holds ss (length ss) (owner ss i) l.name o → is_none o ≡ true
    none_there None h = refl
    none_there (Some j) h = absurd (l.nowhere j h.1)

    second : (a b : Bool) → b ≡ true → (a || b) ≡ true
    second true b f = refl
    second false b f = f

-- no statement has been passed: the table is empty
pub table_start : (ss : List Placed) → IsTable ss 0 []
table_start ss inside name = λ j h l. omega (arith, h)

-- what holds of each statement before the end holds of all
pub none_mislabelled : (ss : List Placed) (i : ℕ) → length ss ≤ i → ((j : ℕ) → j < i → IsMislabelled ss j → ⊥) → (j : ℕ) → IsMislabelled ss j → ⊥
none_mislabelled ss i h before j (inl r) = let k : j < length ss = slice_get_within ss j r.stmt r.at in before j (omega arith) (inl r)
none_mislabelled ss i h before j (inr l) = let k : j < length ss = slice_get_within ss j l.stmt l.at in before j (omega arith) (inr l)

-- a label whose name is new stands at the end of the table
pub enlisted_new : (inside : ℕ) (name : List ℕ) (i : ℕ) (es more : Entries) (a : Option (List ℕ)) → a ≡ Some name → found inside name es ≡ None
    → more ≡ es ++ ((inside, name), i) ∷ [] → more ≡ enlisted a inside i es
enlisted_new inside name i es more a e f g = g ∙ sym (ap (λ (o : Option ℕ). if is_none o then es ++ ((inside, name), i) ∷ [] else es) f) ∙ sym (ap (λ (b : Option (List ℕ)). enlisted b inside i es) e)

-- a table of more statements than there are is one of all
pub table_whole : (stmts : List Stmt) (i : ℕ) (es : Entries) → length stmts ≤ i → IsTable (map placed stmts) i es → IsTable (map placed stmts) (length stmts) es
table_whole stmts i es h t inside name = lower (found inside name es) (t inside name)
  where
    lower : (o : Option ℕ) → Holds (map placed stmts) i inside name o → Holds (map placed stmts) (length stmts) inside name o
    lower None k = λ j less l. let m : j < i = omega arith in k j m l
    lower (Some j) k = let m : j < length (map placed stmts) = slice_get_within (map placed stmts) j k.1.stmt k.1.at in (rw length-map at m, k.1, k.2)

-- a table of all statements, by the number of those that are placed
pub table_same : (stmts : List Stmt) (es : Entries) → IsTable (map placed stmts) (length stmts) es → IsTable (map placed stmts) (length (map placed stmts)) es
table_same stmts es t = subst (λ (n : ℕ). IsTable (map placed stmts) n es) (sym (length-map stmts placed)) t
