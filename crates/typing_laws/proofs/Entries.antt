-- What the table of the first statements of a text has under a scope and a name.
use Rattle.std.proofs.Common.{◌≡◌, ℕ, zero, suc, ◌+◌, ◌<◌, ◌≤◌, ◌∙◌, sym, ap, subst, refl, inl, inr, Bool, true, false, ◌&&◌, cond, List, [], ◌∷◌, ◌++◌, length, take, arith, nat_eq}
use Rattle.std.specs.Prelude.{Option, Some, None, slice_get}
use Rattle.std.specs.Cmp.Lexicographic.{pointwise, same_text}
use Rattle.std.specs.Map.{lookup}
use Rattle.std.proofs.lemmas.Bool.{cases_lt}
use Rattle.std.proofs.lemmas.Cmp.{nat_list_eq_equiv}
use Rattle.std.proofs.lemmas.Option.{slice_get_within}
use Rattle.il_core.specs.Statement.{Statement, Placed, procedure, variable}
use Rattle.il_types.specs.declared.counts.Counts.{Counts}
use Rattle.il_types.specs.Counts.{counts_behind}
use Rattle.il_types.specs.Names.{Key, Spot, Table, Front, same_key, declared_names, scope_of, entries_from, entries, front_of, counts_at}
use Rattle.typing_laws.specs.Declared.{Says}
use Rattle.typing_laws.proofs.Standing.{count, placed_at, said_or_past, front_next, front_past}

both_true : (a b : Bool) → (a && b) ≡ true → (a ≡ true) × (b ≡ true)
both_true true b e = (refl, e)
both_true false b e = absurd (cc)

same_number : (a b : ℕ) → nat_eq a b ≡ true → a ≡ b
same_number a b e = grind arith

itself : (a : ℕ) → nat_eq a a ≡ true
itself a = grind arith

-- two keys that test alike are one
pub one_key : (a b : Key) → same_key a b ≡ true → a ≡ b
one_key a b e =
    let both = both_true _ _ e in
    ap (λ n. (n, a.1)) (same_number a.0 b.0 both.0) ∙ ap (λ l. (b.0, l)) (same_text a.1 b.1 (sym both.1))

pub key_itself : (a : Key) → same_key a a ≡ true
key_itself a = ap (λ t. t && pointwise nat_eq a.1 a.1) (itself a.0) ∙ nat_list_eq_equiv.refl a.1

-- what is found in a front is found in the whole
pub lookup_left : (key : Key) (a b : Table) (spot : Spot) → lookup (same_key key) a ≡ Some spot → lookup (same_key key) (a ++ b) ≡ Some spot
lookup_left key [] b spot e = absurd (cc)
lookup_left key (x ∷ a) b spot e = by (same_key key x.0) (lookup_left key a b spot) e
  where
    by : (t : Bool) → (lookup (same_key key) a ≡ Some spot → lookup (same_key key) (a ++ b) ≡ Some spot)
        → cond t (Some x.1) (lookup (same_key key) a) ≡ Some spot → cond t (Some x.1) (lookup (same_key key) (a ++ b)) ≡ Some spot
    by true f h = h
    by false f h = f h

-- what is not in the front is looked for behind it
pub lookup_right : (key : Key) (a b : Table) → lookup (same_key key) a ≡ None → lookup (same_key key) (a ++ b) ≡ lookup (same_key key) b
lookup_right key [] b e = refl
lookup_right key (x ∷ a) b e = by (same_key key x.0) (lookup_right key a b) e
  where
    by : (t : Bool) → (lookup (same_key key) a ≡ None → lookup (same_key key) (a ++ b) ≡ lookup (same_key key) b)
        → cond t (Some x.1) (lookup (same_key key) a) ≡ None → cond t (Some x.1) (lookup (same_key key) (a ++ b)) ≡ lookup (same_key key) b
    by true f h = absurd (cc)
    by false f h = f h

-- an entry that is found among those of a statement
pub record IsEntry (key : Key) (scope at index : ℕ) (names : List (List ℕ)) (spot : Spot) : Type 0 where
  pub k : ℕ
  pub scope_is : key.0 ≡ scope
  pub spot_is : spot ≡ (at, index + k)
  pub named : slice_get names k ≡ Some key.1

pub entry_made : (key : Key) (scope at index : ℕ) (names : List (List ℕ)) (spot : Spot) → lookup (same_key key) (entries_from scope at index names) ≡ Some spot
    → IsEntry key scope at index names spot
entry_made key scope at index [] spot e = absurd (cc)
entry_made key scope at index (name ∷ names) spot e = by (λ f. entry_made key scope at (suc index) names spot f) (same_key key (scope, name)) refl e
  where
    by : (lookup (same_key key) (entries_from scope at (suc index) names) ≡ Some spot → IsEntry key scope at (suc index) names spot)
        → (t : Bool) → same_key key (scope, name) ≡ t → cond t (Some (at, index)) (lookup (same_key key) (entries_from scope at (suc index) names)) ≡ Some spot
        → IsEntry key scope at index (name ∷ names) spot
    by go true h f =
        let k = one_key key (scope, name) h in
        let i : index ≡ index + 0 = omega arith in
        let s : (at, index) ≡ spot = cc in
        record { k = 0; scope_is = ap (λ (x : Key). x.0) k; spot_is = sym s ∙ ap (λ n. (at, n)) i; named = sym (ap (λ (x : Key). Some x.1) k) }
    by go false h f =
        let r = go f in
        let i : suc index + r.k ≡ index + suc r.k = omega arith in
        record { k = suc r.k; scope_is = r.scope_is; spot_is = r.spot_is ∙ ap (λ n. (at, n)) i; named = r.named }

-- a name of a statement is found there
pub entry_found : (key : Key) (scope at index : ℕ) (names : List (List ℕ)) (k : ℕ) → key.0 ≡ scope → slice_get names k ≡ Some key.1
    → (l : ℕ) × (lookup (same_key key) (entries_from scope at index names) ≡ Some (at, l))
entry_found key scope at index [] k s e = absurd (cc)
entry_found key scope at index (name ∷ names) zero s e =
    let same : (scope, name) ≡ key = ap (λ n. (n, name)) (sym s) ∙ ap (λ l. (key.0, l)) (first name key.1 e) in
    let test : same_key key (scope, name) ≡ true = ap (same_key key) same ∙ key_itself key in
    (index, ap (λ t. cond t (Some (at, index)) (lookup (same_key key) (entries_from scope at (suc index) names))) test)
  where
    first : (a b : List ℕ) → Some a ≡ Some b → a ≡ b
    first a b h = cc
entry_found key scope at index (name ∷ names) (suc k) s e =
    let r = entry_found key scope at (suc index) names k s e in
    by (same_key key (scope, name)) r.0 r.1
  where
    by : (t : Bool) (l : ℕ) → lookup (same_key key) (entries_from scope at (suc index) names) ≡ Some (at, l)
        → (m : ℕ) × (cond t (Some (at, index)) (lookup (same_key key) (entries_from scope at (suc index) names)) ≡ Some (at, m))
    by true l h = (index, refl)
    by false l h = (l, h)

-- the number of statements in front of statement n
further : (c : Counts) (x : Statement) → (counts_behind c x).statements ≡ c.statements + 1
further c (procedure name) = refl
further c (variable m name used) = refl
further c _ = refl

statements_before : (stmts : List Placed) (n : ℕ) → n ≤ length stmts → (counts_at stmts n).statements ≡ n
statements_before stmts zero h = refl
statements_before stmts (suc n) h = elim (said_or_past stmts n) [
  | inl x ↦
      let s = placed_at stmts n x.0 x.1 in
      ap (λ (f : Front). f.counts.statements) (front_next stmts n s.0 s.1) ∙ further (counts_at stmts n) s.0.says ∙ ap (λ m. m + 1) (statements_before stmts n (omega arith))
      ∙ omega arith
  | inr past ↦ absurd (omega arith)
]

abbrev pub table_to : List Placed → ℕ → Table
table_to stmts n = (front_of (take n stmts)).table

-- the table with the entries of one statement more
pub table_next : (stmts : List Placed) (n : ℕ) (x : Statement) → Says stmts n x → table_to stmts (suc n) ≡ table_to stmts n ++ entries (count stmts n) n x
table_next stmts n x h =
    let s = placed_at stmts n x h in
    let inside = slice_get_within stmts n s.0 s.1 in
    ap (λ (f : Front). f.table) (front_next stmts n s.0 s.1)
    ∙ ap (λ m. table_to stmts n ++ entries (count stmts n) m s.0.says) (statements_before stmts n (omega arith))
    ∙ ap (λ (y : Statement). table_to stmts n ++ entries (count stmts n) n y) s.2

-- one of the first n statements declares the name of a key in its scope
pub record Made (stmts : List Placed) (n : ℕ) (key : Key) (spot : Spot) : Type 0 where
  pub stmt : Statement
  pub says : Says stmts spot.0 stmt
  pub below : spot.0 < n
  pub scope : key.0 ≡ scope_of (count stmts spot.0) stmt
  pub named : slice_get (declared_names stmt) spot.1 ≡ Some key.1

weaker : (stmts : List Placed) (n : ℕ) (key : Key) (spot : Spot) → Made stmts n key spot → Made stmts (suc n) key spot
weaker stmts n key spot m = let b = m.below in record { stmt = m.stmt; says = m.says; below = omega arith; scope = m.scope; named = m.named }

made_here : (stmts : List Placed) (n : ℕ) (x : Statement) (key : Key) (spot : Spot) → Says stmts n x → IsEntry key (scope_of (count stmts n) x) n 0 (declared_names x) spot
    → Made stmts (suc n) key spot
made_here stmts n x key spot h e =
    let k : 0 + e.k ≡ e.k = omega arith in
    let at : (n, e.k) ≡ spot = sym (e.spot_is ∙ ap (λ m. (n, m)) k) in
    subst (Made stmts (suc n) key) at (record { stmt = x; says = h; below = omega arith; scope = e.scope_is; named = e.named })

-- what is found is made
pub found_made : (stmts : List Placed) (n : ℕ) (key : Key) (spot : Spot) → lookup (same_key key) (table_to stmts n) ≡ Some spot → Made stmts n key spot
found_made stmts zero key spot e = absurd (cc)
found_made stmts (suc n) key spot e = elim (said_or_past stmts n) [
  | inl x ↦
      by (λ s f. found_made stmts n key s f) (lookup (same_key key) (table_to stmts n)) refl x.0 x.1
      (sym (ap (lookup (same_key key)) (table_next stmts n x.0 x.1)) ∙ e)
  | inr past ↦
      let same : table_to stmts (suc n) ≡ table_to stmts n = ap (λ (f : Front). f.table) (front_past stmts (suc n) (omega arith) ∙ sym (front_past stmts n past)) in
      weaker stmts n key spot (found_made stmts n key spot (sym (ap (lookup (same_key key)) same) ∙ e))
]
  where
    by : ((s : Spot) → lookup (same_key key) (table_to stmts n) ≡ Some s → Made stmts n key s)
        → (o : Option Spot) → lookup (same_key key) (table_to stmts n) ≡ o → (x : Statement) → Says stmts n x
        → lookup (same_key key) (table_to stmts n ++ entries (count stmts n) n x) ≡ Some spot → Made stmts (suc n) key spot
    by go (Some s) h x there f =
        let same : Some s ≡ Some spot = sym (lookup_left key (table_to stmts n) (entries (count stmts n) n x) s h) ∙ f in
        weaker stmts n key spot (go spot (h ∙ same))
    by go None h x there f =
        made_here stmts n x key spot there
        (entry_made key (scope_of (count stmts n) x) n 0 (declared_names x) spot (sym (lookup_right key (table_to stmts n) (entries (count stmts n) n x) h) ∙ f))

-- an entry is found, no later than a statement
pub record Finds (table : Table) (key : Key) (at : ℕ) : Type 0 where
  pub spot : Spot
  pub found : lookup (same_key key) table ≡ Some spot
  pub early : spot.0 ≤ at

-- what is made is found
pub made_found : (stmts : List Placed) (n : ℕ) (key : Key) (spot : Spot) → Made stmts n key spot → Finds (table_to stmts n) key spot.0
made_found stmts zero key spot m = let b = m.below in absurd (omega arith)
made_found stmts (suc n) key spot m = elim (said_or_past stmts n) [
  | inl x ↦ elim (cases_lt spot.0 n) [
    | inl lt ↦
        let r = made_found stmts n key spot (record { stmt = m.stmt; says = m.says; below = lt; scope = m.scope; named = m.named }) in
        longer x.0 x.1 (record {
          spot = r.spot;
          found = lookup_left key (table_to stmts n) (entries (count stmts n) n x.0) r.spot r.found;
          early = r.early;
        })
    | inr ge ↦ let b = m.below in let at : spot.0 ≡ n = omega arith in here at x.0 x.1
  ]
  | inr past ↦
      let s = placed_at stmts spot.0 m.stmt m.says in
      let inside = slice_get_within stmts spot.0 s.0 s.1 in
      let r = made_found stmts n key spot (record { stmt = m.stmt; says = m.says; below = omega arith; scope = m.scope; named = m.named }) in
      let same : table_to stmts (suc n) ≡ table_to stmts n = ap (λ (f : Front). f.table) (front_past stmts (suc n) (omega arith) ∙ sym (front_past stmts n past)) in
      subst (λ t. Finds t key spot.0) (sym same) r
]
  where
    longer : (x : Statement) → Says stmts n x → Finds (table_to stmts n ++ entries (count stmts n) n x) key spot.0 → Finds (table_to stmts (suc n)) key spot.0
    longer x there f = subst (λ t. Finds t key spot.0) (sym (table_next stmts n x there)) f

    by : (x : Statement) (l : ℕ) → spot.0 ≡ n → lookup (same_key key) (entries (count stmts n) n x) ≡ Some (n, l)
        → (o : Option Spot) → lookup (same_key key) (table_to stmts n) ≡ o → Finds (table_to stmts n ++ entries (count stmts n) n x) key spot.0
    by x l at f None h = record { spot = (n, l); found = lookup_right key (table_to stmts n) (entries (count stmts n) n x) h ∙ f; early = omega arith }
    by x l at f (Some s) h =
        let b = (found_made stmts n key s h).below in
        record { spot = s; found = lookup_left key (table_to stmts n) (entries (count stmts n) n x) s h; early = omega arith }

    here : spot.0 ≡ n → (x : Statement) → Says stmts n x → Finds (table_to stmts (suc n)) key spot.0
    here at x there =
        let at_n : Says stmts n m.stmt = subst (λ k. Says stmts k m.stmt) at m.says in
        let same : m.stmt ≡ x = let z : Some m.stmt ≡ Some x = sym at_n ∙ there in cc in
        let scope : key.0 ≡ scope_of (count stmts n) x = m.scope ∙ ap (λ k. scope_of (count stmts k) m.stmt) at ∙ ap (scope_of (count stmts n)) same in
        let named : slice_get (declared_names x) spot.1 ≡ Some key.1 = sym (ap (λ y. slice_get (declared_names y) spot.1) same) ∙ m.named in
        let e = entry_found key (scope_of (count stmts n) x) n 0 (declared_names x) spot.1 scope named in
        longer x there (by x e.0 at e.1 (lookup (same_key key) (table_to stmts n)) refl)
