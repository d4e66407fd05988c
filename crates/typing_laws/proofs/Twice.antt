-- A name is taken exactly where it is declared twice.
use Rattle.std.proofs.Common.{◌≡◌, ◌≢◌, ℕ, suc, ◌+◌, ◌-◌, ◌<◌, ◌≤◌, ◌∙◌, sym, ap, subst, refl, inl, inr, ◌⊎◌, Bool, true, false, ◌||◌, cond, List, [], ◌∷◌, ◌++◌, arith, if◌then◌else◌}
use Rattle.std.specs.Prelude.{Option, Some, None, is_some, slice_get}
use Rattle.std.specs.Map.{lookup}
use Rattle.std.proofs.lemmas.Bool.{cases_lt, cases_order}
use Rattle.il_core.specs.Statement.{Statement, Placed}
use Rattle.il_core.specs.Statement as st
use Rattle.il_types.specs.Names.{Key, Spot, Table, same_key, declared_names, scope_of, entries_from, is_taken, first_taken}
use Rattle.il_types.specs.Rules.{twice_at}
use Rattle.typing_laws.specs.Declared.{Says, Names, IsShared, IsVariable, DeclaredTwice, shared, beside_shared, beside_variable}
use Rattle.typing_laws.specs.Laws.{IsFirstTwice, TwiceIsRefused}
use Rattle.typing_laws.proofs.Standing.{count, one_said, stands_in, stands_count, one_procedure}
use Rattle.typing_laws.proofs.Entries.{table_to, Made, found_made, made_found, lookup_left, lookup_right, one_key, key_itself}
use Rattle.typing_laws.proofs.Declaring.{ArePlaced, IsVariableName, names_are, are_names, not_both, shared_made, made_shared, variable_made, made_variable}

-- a key has a declaration in front of the m-th name of statement i
data Seen (stmts : List Placed) (i : ℕ) (x : Statement) (m : ℕ) (key : Key) : Type 0 where
  before : (spot : Spot) → Made stmts i key spot → Seen stmts i x m key
  beside : (l : ℕ) → key.0 ≡ scope_of (count stmts i) x → l < m → slice_get (declared_names x) l ≡ Some key.1 → Seen stmts i x m key

-- a table finds exactly the keys that have one
record IsUpTo (stmts : List Placed) (i : ℕ) (x : Statement) (m : ℕ) (table : Table) : Type 0 where
  sound : (key : Key) (spot : Spot) → lookup (same_key key) table ≡ Some spot → Seen stmts i x m key
  complete : (key : Key) → Seen stmts i x m key → (spot : Spot) × (lookup (same_key key) table ≡ Some spot)

up_to_start : (stmts : List Placed) (i : ℕ) (x : Statement) → IsUpTo stmts i x 0 (table_to stmts i)
up_to_start stmts i x = record { sound = λ key spot e. before spot (found_made stmts i key spot e); complete = λ key s. all key s }
  where
    all : (key : Key) → Seen stmts i x 0 key → (spot : Spot) × (lookup (same_key key) (table_to stmts i) ≡ Some spot)
    all key (before spot m) = let f = made_found stmts i key spot m in (f.spot, f.found)
    all key (beside l s h n) = absurd (omega arith)

-- one entry alone
in_one : (key other : Key) (spot found : Spot) → lookup (same_key key) ((other, spot) ∷ []) ≡ Some found → key ≡ other
in_one key other spot found e = by (same_key key other) refl e
  where
    by : (t : Bool) → same_key key other ≡ t → cond t (Some spot) None ≡ Some found → key ≡ other
    by true h f = one_key key other h
    by false h f = absurd (cc)

up_to_next : (stmts : List Placed) (i : ℕ) (x : Statement) (m : ℕ) (table : Table) (name : List ℕ) (spot : Spot) → IsUpTo stmts i x m table
    → slice_get (declared_names x) m ≡ Some name → IsUpTo stmts i x (suc m) (table ++ ((scope_of (count stmts i) x, name), spot) ∷ [])
up_to_next stmts i x m table name spot u h = record { sound = λ key s e. known key s (lookup (same_key key) table) refl e; complete = λ key s. all key s (lookup (same_key key) table) refl }
  where
    scope : ℕ
    scope = scope_of (count stmts i) x

    later : (key : Key) → Seen stmts i x m key → Seen stmts i x (suc m) key
    later key (before s k) = before s k
    later key (beside l e lt n) = beside l e (omega arith) n

    known : (key : Key) (s : Spot) (o : Option Spot) → lookup (same_key key) table ≡ o → lookup (same_key key) (table ++ ((scope_of (count stmts i) x, name), spot) ∷ []) ≡ Some s
        → Seen stmts i x (suc m) key
    known key s (Some t) e f = later key (u.sound key t e)
    known key s None e f =
        let same = in_one key (scope_of (count stmts i) x, name) spot s (sym (lookup_right key table (((scope_of (count stmts i) x, name), spot) ∷ []) e) ∙ f) in
        beside m (ap (λ (k : Key). k.0) same) (omega arith) (h ∙ sym (ap (λ (k : Key). Some k.1) same))

    seen_here : (key : Key) → key ≡ (scope_of (count stmts i) x, name) → lookup (same_key key) (((scope_of (count stmts i) x, name), spot) ∷ []) ≡ Some spot
    seen_here key e =
        let t : same_key key (scope_of (count stmts i) x, name) ≡ true = sym (ap (same_key key) e) ∙ key_itself key in
        ap (λ b. cond b (Some spot) None) t

    named : (l : ℕ) (word : List ℕ) → l ≡ m → slice_get (declared_names x) l ≡ Some word → word ≡ name
    named l word e f = let g : Some word ≡ Some name = sym f ∙ ap (slice_get (declared_names x)) e ∙ h in cc

    all : (key : Key) → Seen stmts i x (suc m) key → (o : Option Spot) → lookup (same_key key) table ≡ o
        → (s : Spot) × (lookup (same_key key) (table ++ ((scope_of (count stmts i) x, name), spot) ∷ []) ≡ Some s)
    all key s (Some t) e = (t, lookup_left key table (((scope_of (count stmts i) x, name), spot) ∷ []) t e)
    all key (before s k) None e = let f = u.complete key (before s k) in let z : Some f.0 ≡ None = sym f.1 ∙ e in absurd (cc)
    all key (beside l s lt n) None e = elim (cases_lt l m) [
      | inl less ↦ let f = u.complete key (beside l s less n) in let z : Some f.0 ≡ None = sym f.1 ∙ e in absurd (cc)
      | inr last ↦
          let at : l ≡ m = omega arith in
          let same : key ≡ (scope_of (count stmts i) x, name) = ap (λ k. (k, key.1)) s ∙ ap (λ w. (scope_of (count stmts i) x, w)) (named l key.1 at n) in
          (spot, lookup_right key table (((scope_of (count stmts i) x, name), spot) ∷ []) e ∙ seen_here key same)
    ]

-- a name has a declaration in the whole text or in its own scope
abbrev Taken : List Placed → ℕ → Statement → ℕ → List ℕ → Type 0
Taken stmts i x k name = Seen stmts i x k (0, name) ⊎ Seen stmts i x k (scope_of (count stmts i) x, name)

taken_by : (stmts : List Placed) (i : ℕ) (x : Statement) (m : ℕ) (table : Table) (name : List ℕ) → IsUpTo stmts i x m table
    → (is_taken table (scope_of (count stmts i) x, name) ≡ true → Taken stmts i x m name) × (Taken stmts i x m name → is_taken table (scope_of (count stmts i) x, name) ≡ true)
taken_by stmts i x m table name u = (
  λ e. sound (lookup (same_key (0, name)) table) (lookup (same_key (scope_of (count stmts i) x, name)) table) refl refl e,
  λ t. complete t,
)
  where
    sound : (a b : Option Spot) → lookup (same_key (0, name)) table ≡ a → lookup (same_key (scope_of (count stmts i) x, name)) table ≡ b → (is_some a || is_some b) ≡ true
        → Taken stmts i x m name
    sound (Some s) b e f t = inl (u.sound (0, name) s e)
    sound None (Some s) e f t = inr (u.sound (scope_of (count stmts i) x, name) s f)
    sound None None e f t = absurd (cc)

    second : (a : Option Spot) → (is_some a || true) ≡ true
    second None = refl
    second (Some s) = refl

    complete : Taken stmts i x m name → (is_some (lookup (same_key (0, name)) table) || is_some (lookup (same_key (scope_of (count stmts i) x, name)) table)) ≡ true
    complete (inl s) =
        let f = u.complete (0, name) s in
        ap (λ o. is_some o || is_some (lookup (same_key (scope_of (count stmts i) x, name)) table)) f.1
    complete (inr s) =
        let f = u.complete (scope_of (count stmts i) x, name) s in
        ap (λ o. is_some (lookup (same_key (0, name)) table) || is_some o) f.1 ∙ second (lookup (same_key (0, name)) table)

-- what the first name that is taken, of those from the m-th on, is
record IsFirstTaken (stmts : List Placed) (i : ℕ) (x : Statement) (m : ℕ) (name : List ℕ) : Type 0 where
  index : ℕ
  from : m ≤ index
  named : slice_get (declared_names x) index ≡ Some name
  taken : Taken stmts i x index name
  first : (l : ℕ) (other : List ℕ) → m ≤ l → l < index → slice_get (declared_names x) l ≡ Some other → Taken stmts i x l other → ⊥

abbrev Answers : List Placed → ℕ → Statement → ℕ → Option (List ℕ) → Type 0
Answers stmts i x m None = (k : ℕ) (name : List ℕ) → m ≤ k → slice_get (declared_names x) k ≡ Some name → Taken stmts i x k name → ⊥
Answers stmts i x m (Some name) = IsFirstTaken stmts i x m name

answered : (stmts : List Placed) (i : ℕ) (x : Statement) (m : ℕ) (name : List ℕ) (o : Option (List ℕ)) → slice_get (declared_names x) m ≡ Some name
    → (Taken stmts i x m name → ⊥) → Answers stmts i x (suc m) o → Answers stmts i x m o
answered stmts i x m name None h free a = λ k other le n t. elim (cases_lt m k) [
  | inl lt ↦ a k other (omega arith) n t
  | inr ge ↦
      let e : k ≡ m = omega arith in
      let same : other ≡ name = (let g : Some other ≡ Some name = sym n ∙ ap (slice_get (declared_names x)) e ∙ h in cc) in
      free (subst (λ j. Taken stmts i x j name) e (subst (λ w. Taken stmts i x k w) same t))
]
answered stmts i x m name (Some word) h free a =
    let from = a.from in
    record { index = a.index; from = omega arith; named = a.named; taken = a.taken; first = λ l other le lt n t. before_it l other le lt n t }
  where
    before_it : (l : ℕ) (other : List ℕ) → m ≤ l → l < a.index → slice_get (declared_names x) l ≡ Some other → Taken stmts i x l other → ⊥
    before_it l other le lt n t = elim (cases_lt m l) [
      | inl less ↦ a.first l other (omega arith) lt n t
      | inr ge ↦
          let e : l ≡ m = omega arith in
          let same : other ≡ name = (let g : Some other ≡ Some name = sym n ∙ ap (slice_get (declared_names x)) e ∙ h in cc) in
          free (subst (λ j. Taken stmts i x j name) e (subst (λ w. Taken stmts i x l w) same t))
    ]

-- the names from the m-th on
abbrev AreRest : Statement → ℕ → List (List ℕ) → Type 0
AreRest x m rest = (k : ℕ) → slice_get (declared_names x) (m + k) ≡ slice_get rest k

walked : (stmts : List Placed) (i : ℕ) (x : Statement) (rest : List (List ℕ)) (m : ℕ) (table : Table) → IsUpTo stmts i x m table → AreRest x m rest
    → Answers stmts i x m (first_taken table (entries_from (scope_of (count stmts i) x) i m rest))
walked stmts i x [] m table u r = λ k name le n t. none k name le n
  where
    none : (k : ℕ) (name : List ℕ) → m ≤ k → slice_get (declared_names x) k ≡ Some name → ⊥
    none k name le n =
        let d : (j : ℕ) × (m + j ≡ k) = (k - m, omega arith) in
        let z : None ≡ Some name = sym (r d.0) ∙ ap (slice_get (declared_names x)) d.1 ∙ n in cc
walked stmts i x (name ∷ rest) m table u r =
    let zero_more : m + 0 ≡ m = omega arith in
    let here : slice_get (declared_names x) m ≡ Some name = ap (slice_get (declared_names x)) (sym zero_more) ∙ r 0 in
    by (is_taken table (scope_of (count stmts i) x, name)) refl here
    (walked stmts i x rest (suc m) (table ++ ((scope_of (count stmts i) x, name), (i, m)) ∷ []) (up_to_next stmts i x m table name (i, m) u here)
    (λ k. let e : suc m + k ≡ m + suc k = omega arith in ap (slice_get (declared_names x)) e ∙ r (suc k)))
  where
    by : (t : Bool) → is_taken table (scope_of (count stmts i) x, name) ≡ t → slice_get (declared_names x) m ≡ Some name
        → Answers stmts i x (suc m) (first_taken (table ++ ((scope_of (count stmts i) x, name), (i, m)) ∷ []) (entries_from (scope_of (count stmts i) x) i (suc m) rest))
        → Answers stmts i x m (if t then Some name else first_taken (table ++ ((scope_of (count stmts i) x, name), (i, m)) ∷ []) (entries_from (scope_of (count stmts i) x) i (suc m) rest))
    by true e h a = record {
      index = m;
      from = omega arith;
      named = h;
      taken = (taken_by stmts i x m table name u).0 e;
      first = λ l other le lt n t. absurd (omega arith);
    }
    by false e h a =
        answered stmts i x m name (first_taken (table ++ ((scope_of (count stmts i) x, name), (i, m)) ∷ []) (entries_from (scope_of (count stmts i) x) i (suc m) rest)) h
        (λ t. let z : true ≡ false = sym ((taken_by stmts i x m table name u).1 t) ∙ e in cc) a

-- a name that is taken is declared twice
twice_of : (stmts : List Placed) (i k : ℕ) (x : Statement) (name : List ℕ) → ArePlaced stmts → Says stmts i x → slice_get (declared_names x) k ≡ Some name → Taken stmts i x k name
    → DeclaredTwice stmts i k name
twice_of stmts i k x name placed says h t = elim (are_names x k name h) [
  | inl names ↦
      let is : IsShared stmts i k name = record { stmt = x; says = says; names = names } in
      let scope : scope_of (count stmts i) x ≡ 0 = (names_are x k name names).scope (count stmts i) in
      let seen : Seen stmts i x k (0, name) = elim t [ inl s ↦ s | inr s ↦ subst (λ n. Seen stmts i x k (n, name)) scope s ] in
      by_shared is seen
  | inr v ↦ by_variable v t
]
  where
    beside_it : (l : ℕ) → slice_get (declared_names x) l ≡ Some name → IsShared stmts i k name → IsShared stmts i l name
    beside_it l n is = elim (are_names x l name n) [
      | inl names ↦ record { stmt = x; says = says; names = names }
      | inr v ↦ not_both x k l name name (subst (λ y. Names y k name) (one_said stmts i is.stmt x is.says says) is.names) v
    ]

    by_shared : IsShared stmts i k name → Seen stmts i x k (0, name) → DeclaredTwice stmts i k name
    by_shared is (before spot m) = shared spot.0 k spot.1 name is (made_shared stmts i name spot placed m) (inl m.below)
    by_shared is (beside l s lt n) = shared i k l name is (beside_it l n is) (inr (refl, lt))

    by_variable : IsVariableName x k name → Taken stmts i x k name → DeclaredTwice stmts i k name
    by_variable v u =
        let alone = v.alone in
        let saying : Says stmts i (st.variable v.mode name v.type) = says ∙ ap Some v.is in
        let some = placed.owned i v.mode name v.type saying in
        let s = stands_in stmts i some in
        let is : IsVariable stmts s.0 i name = record { mode = v.mode; type = v.type; says = saying; stands = s.1 } in
        let scope : scope_of (count stmts i) x ≡ count stmts i = ap (scope_of (count stmts i)) v.is in
        subst (λ n. DeclaredTwice stmts i n name) (sym v.alone) (elim u [
          | inl seen ↦ hidden s.0 is alone seen
          | inr seen ↦ again s.0 is alone some (subst (λ n. Seen stmts i x k (n, name)) scope seen)
        ])
      where
        hidden : (p : ℕ) → IsVariable stmts p i name → k ≡ 0 → Seen stmts i x k (0, name) → DeclaredTwice stmts i 0 name
        hidden p is alone (before spot m) = beside_shared p spot.0 spot.1 name is (made_shared stmts i name spot placed m) m.below
        hidden p is alone (beside l s lt n) = absurd (omega arith)

        again : (p : ℕ) → IsVariable stmts p i name → k ≡ 0 → count stmts i ≢ 0 → Seen stmts i x k (count stmts i, name) → DeclaredTwice stmts i 0 name
        again p is alone some (before spot m) =
            let other = made_variable stmts i (count stmts i) name spot some m in
            let same : other.procedure ≡ p = one_procedure stmts other.procedure p spot.0 i other.variable.stands is.stands other.owner_is in
            beside_variable p spot.0 name is (subst (λ q. IsVariable stmts q spot.0 name) same other.variable) m.below
        again p is alone some (beside l s lt n) = absurd (omega arith)

-- a name that is declared twice is taken
record IsTaken (stmts : List Placed) (i : ℕ) (x : Statement) (k : ℕ) (name : List ℕ) : Type 0 where
  named : slice_get (declared_names x) k ≡ Some name
  taken : Taken stmts i x k name

of_twice : (stmts : List Placed) (i k : ℕ) (x : Statement) (name : List ℕ) → Says stmts i x → DeclaredTwice stmts i k name → IsTaken stmts i x k name
of_twice stmts i k x name says (shared j m l word is other order) =
    let same = one_said stmts i is.stmt x is.says says in
    let here = names_are x m word (subst (λ y. Names y m word) same is.names) in
    record {
      named = here.named;
      taken = elim order [
        | inl lt ↦ inl (before (j, l) (shared_made stmts i j l word other lt))
        | inr at ↦
            let there : Says stmts i other.stmt = subst (λ n. Says stmts n other.stmt) at.0 other.says in
            let names = names_are x l word (subst (λ y. Names y l word) (one_said stmts i other.stmt x there says) other.names) in
            inl (beside l (sym (here.scope (count stmts i))) at.1 names.named)
      ];
    }
of_twice stmts i k x name says (beside_shared p j l word is other lt) =
    let same = one_said stmts i (st.variable is.mode word is.type) x is.says says in
    record {
      named = ap (λ y. slice_get (declared_names y) 0) (sym same);
      taken = inl (before (j, l) (shared_made stmts i j l word other lt));
    }
of_twice stmts i k x name says (beside_variable p j word is other lt) =
    let same = one_said stmts i (st.variable is.mode word is.type) x is.says says in
    let counts : count stmts j ≡ count stmts i = stands_count stmts p j other.stands ∙ sym (stands_count stmts p i is.stands) in
    let scope : count stmts j ≡ scope_of (count stmts i) x = counts ∙ ap (scope_of (count stmts i)) same in
    record {
      named = ap (λ y. slice_get (declared_names y) 0) (sym same);
      taken = inr (before (j, 0) (subst (λ n. Made stmts i (n, word) (j, 0)) scope (variable_made stmts i p j word other lt)));
    }

-- what a statement answers by the walk over its names
walk : (stmts : List Placed) (i : ℕ) (x : Statement) → Answers stmts i x 0 (twice_at stmts i x)
walk stmts i x = walked stmts i x (declared_names x) 0 (table_to stmts i) (up_to_start stmts i x) (λ k. let e : 0 + k ≡ k = omega arith in ap (slice_get (declared_names x)) e)

-- the first name that is taken is the first that is declared twice
first_is : (stmts : List Placed) (i : ℕ) (x : Statement) (name word : List ℕ) → ArePlaced stmts → Says stmts i x → IsFirstTaken stmts i x 0 word → IsFirstTwice stmts i name
    → word ≡ name
first_is stmts i x name word placed says a f =
    let t = of_twice stmts i f.index x name says f.twice in
    elim (cases_order a.index f.index) [
      | inl e ↦ let z : Some word ≡ Some name = sym a.named ∙ ap (slice_get (declared_names x)) e ∙ t.named in cc
      | inr (inl lt) ↦ absurd (f.first a.index word lt (twice_of stmts i a.index x word placed says a.named a.taken))
      | inr (inr gt) ↦ absurd (a.first f.index name (omega arith) gt t.named t.taken)
    ]

pub twice_refused : (stmts : List Placed) (i : ℕ) (x : Statement) → ArePlaced stmts → Says stmts i x → TwiceIsRefused stmts i x
twice_refused stmts i x placed says = record {
  refused = λ name. (
    λ e. told name (subst (Answers stmts i x 0) e (walk stmts i x)),
    λ f. tells name f (twice_at stmts i x) refl (walk stmts i x),
  );
  accepted = (
    λ e k name d. let t = of_twice stmts i k x name says d in subst (Answers stmts i x 0) e (walk stmts i x) k name (omega arith) t.named t.taken,
    λ free. none free (twice_at stmts i x) refl (walk stmts i x),
  );
}
  where
    told : (name : List ℕ) → IsFirstTaken stmts i x 0 name → IsFirstTwice stmts i name
    told name a = record {
      index = a.index;
      twice = twice_of stmts i a.index x name placed says a.named a.taken;
      first = λ k other lt d. let t = of_twice stmts i k x other says d in a.first k other (omega arith) lt t.named t.taken;
    }

    tells : (name : List ℕ) → IsFirstTwice stmts i name → (o : Option (List ℕ)) → twice_at stmts i x ≡ o → Answers stmts i x 0 o → twice_at stmts i x ≡ Some name
    tells name f None e a = let t = of_twice stmts i f.index x name says f.twice in absurd (a f.index name (omega arith) t.named t.taken)
    tells name f (Some word) e a = e ∙ ap Some (first_is stmts i x name word placed says a f)

    none : ((k : ℕ) (name : List ℕ) → DeclaredTwice stmts i k name → ⊥) → (o : Option (List ℕ)) → twice_at stmts i x ≡ o → Answers stmts i x 0 o → twice_at stmts i x ≡ None
    none free None e a = e
    none free (Some word) e a = absurd (free a.index word (twice_of stmts i a.index x word placed says a.named a.taken))
