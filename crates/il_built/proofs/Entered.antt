-- What stands in the table of all declarations: each entry is made by the statement of its number, in the scope of that statement.
use Rattle.std.proofs.Common.{◌≡◌, ℕ, zero, suc, ◌+◌, ◌<◌, ◌≤◌, ◌∙◌, sym, ap, subst, refl, inl, inr, ◌⊎◌, Bool, true, false, ◌&&◌, cond, List, [], ◌∷◌, ◌++◌, length, take, get_or, arith, nat_eq, if◌then◌else◌}
use Rattle.std.specs.Prelude.{Option, Some, None, slice_get, nat_lt}
use Rattle.std.specs.Option.{option_and_then, option_map, option_or}
use Rattle.std.specs.Map.{lookup}
use Rattle.std.proofs.lemmas.List.{take_all}
use Rattle.std.proofs.lemmas.List.Sums.{fold_more}
use Rattle.std.proofs.lemmas.Option.{slice_get-get_or}
use Rattle.il_core.specs.Statement.{Statement, Placed, title, constant_is, range_type, wrap_type, enum_type, procedure, variable, pre, post, assign, if_true, otherwise, end_if, loop, end_loop, exit, exit_when, label, goto, call, skip, assert, return, end_procedure, finish}
use Rattle.il_core.specs.declared.statement.Mode.{Mode}
use Rattle.il_core.specs.declared.statement.TypeUse.{TypeUse}
use Rattle.il_types.specs.declared.counts.Counts.{Counts}
use Rattle.il_types.specs.Counts.{counts_behind}
use Rattle.il_types.specs.Names.{Key, Spot, Table, Front, setting, same_key, scope_of, entries_from, entries, one_more, front_of, counts_at, earlier, of_procedure, in_force, said, declaration}
use Rattle.il_built.specs.Holding.{Declares, AreOwned}

-- a choice that gives a value
chosen : {A : Type 0} (b : Bool) (v w : A) (o : Option A) → cond b (Some v) o ≡ Some w → ((b ≡ true) × (v ≡ w)) ⊎ (o ≡ Some w)
chosen true v w o e = inl (refl, cc)
chosen false v w o e = inr e

first_true : (a b : Bool) → (a && b) ≡ true → a ≡ true
first_true true b e = refl
first_true false b e = cc

same_number : (a b : ℕ) → nat_eq a b ≡ true → a ≡ b
same_number a b e = grind arith

-- what is found in one list behind another is found in one of them
lookup_either : (k : Key) (a b : Table) (spot : Spot) → lookup (same_key k) (a ++ b) ≡ Some spot → (lookup (same_key k) a ≡ Some spot) ⊎ (lookup (same_key k) b ≡ Some spot)
lookup_either k [] b spot e = inr e
lookup_either k (x ∷ a) b spot e = by_test (lookup_either k a b spot) (same_key k x.0) e
  where
    by_test : (lookup (same_key k) (a ++ b) ≡ Some spot → (lookup (same_key k) a ≡ Some spot) ⊎ (lookup (same_key k) b ≡ Some spot))
        → (t : Bool) → cond t (Some x.1) (lookup (same_key k) (a ++ b)) ≡ Some spot
        → (cond t (Some x.1) (lookup (same_key k) a) ≡ Some spot) ⊎ (lookup (same_key k) b ≡ Some spot)
    by_test f true h = inl h
    by_test f false h = f h

-- an entry of a statement
entry_is : (k : Key) (scope at index : ℕ) (names : List (List ℕ)) (spot : Spot) → lookup (same_key k) (entries_from scope at index names) ≡ Some spot
    → (k.0 ≡ scope) × (spot.0 ≡ at)
entry_is k scope at index [] spot e = absurd (cc)
entry_is k scope at index (name ∷ names) spot e = elim (chosen (same_key k (scope, name)) (at, index) spot (lookup (same_key k) (entries_from scope at (suc index) names)) e) [
  | inl h ↦ (same_number k.0 scope (first_true _ _ h.0), sym (ap (λ (x : Spot). x.0) h.1))
  | inr h ↦ entry_is k scope at (suc index) names spot h
]

one_further : (c : Counts) (x : Statement) → (counts_behind c x).statements ≡ c.statements + 1
one_further c (title name) = refl
one_further c (constant_is name value) = refl
one_further c (range_type name a b) = refl
one_further c (wrap_type name a b) = refl
one_further c (enum_type name values) = refl
one_further c (procedure name) = refl
one_further c (variable m name used) = refl
one_further c (pre e) = refl
one_further c (post e) = refl
one_further c (assign name e) = refl
one_further c (if_true e) = refl
one_further c otherwise = refl
one_further c end_if = refl
one_further c loop = refl
one_further c end_loop = refl
one_further c exit = refl
one_further c (exit_when e) = refl
one_further c (label name) = refl
one_further c (goto name) = refl
one_further c (call name arguments) = refl
one_further c skip = refl
one_further c (assert e) = refl
one_further c return = refl
one_further c end_procedure = refl
one_further c finish = refl

-- the front with one statement more
longer : (stmts : List Placed) (i : ℕ) (d : Placed) → i < length stmts → front_of (take (suc i) stmts) ≡ one_more (front_of (take i stmts)) (get_or stmts i d)
longer stmts i d h = let e : suc i ≡ i + 1 = omega arith in ap (λ n. front_of (take n stmts)) e ∙ fold_more one_more _ stmts i d h

statements_are : (stmts : List Placed) (i : ℕ) (d : Placed) → i ≤ length stmts → (counts_at stmts i).statements ≡ i
statements_are stmts zero d h = refl
statements_are stmts (suc i) d h =
    let inside : i < length stmts = omega arith in
    ap (λ (f : Front). f.counts.statements) (longer stmts i d inside)
    ∙ one_further (counts_at stmts i) (get_or stmts i d).says ∙ ap (λ n. n + 1) (statements_are stmts i d (omega arith)) ∙ omega arith

-- the statement that made an entry of the table
pub record IsMade (stmts : List Placed) (k : Key) (spot : Spot) : Type 0 where
  pub stmt : Placed
  pub there : slice_get stmts spot.0 ≡ Some stmt
  pub scope : k.0 ≡ scope_of (counts_at stmts spot.0).procedures stmt.says

made_here : (stmts : List Placed) (i : ℕ) (d : Placed) (k : Key) (spot : Spot) → i < length stmts
    → lookup (same_key k) (entries (counts_at stmts i).procedures (counts_at stmts i).statements (get_or stmts i d).says) ≡ Some spot → IsMade stmts k spot
made_here stmts i d k spot h e =
    let x = get_or stmts i d in
    let is = entry_is k (scope_of (counts_at stmts i).procedures x.says) (counts_at stmts i).statements 0 _ spot e in
    let at : i ≡ spot.0 = sym (is.1 ∙ statements_are stmts i d (omega arith)) in
    record {
      stmt = x;
      there = subst (λ n. slice_get stmts n ≡ Some x) at (slice_get-get_or stmts i d h);
      scope = subst (λ n. k.0 ≡ scope_of (counts_at stmts n).procedures x.says) at is.0;
    }

made_before : (stmts : List Placed) (i : ℕ) (d : Placed) (k : Key) (spot : Spot) → i ≤ length stmts → lookup (same_key k) (front_of (take i stmts)).table ≡ Some spot → IsMade stmts k spot
made_before stmts zero d k spot h e = absurd (cc)
made_before stmts (suc i) d k spot h e =
    let inside : i < length stmts = omega arith in
    let c = counts_at stmts i in
    let both = lookup_either k (front_of (take i stmts)).table (entries c.procedures c.statements (get_or stmts i d).says) spot
    (sym (ap (λ (f : Front). lookup (same_key k) f.table) (longer stmts i d inside)) ∙ e) in
    elim both [
      | inl p ↦ made_before stmts i d k spot (omega arith) p
      | inr p ↦ made_here stmts i d k spot inside p
    ]

pub made : (stmts : List Placed) (d : Placed) (k : Key) (spot : Spot) → lookup (same_key k) (front_of stmts).table ≡ Some spot → IsMade stmts k spot
made stmts d k spot e = made_before stmts (length stmts) d k spot (omega arith)
    (ap (λ (xs : List Placed). lookup (same_key k) (front_of xs).table) (take_all (length stmts) stmts (omega arith)) ∙ e)

-- the parts of an answer that is there
pub bound : {A B : Type 0} (f : A → Option B) (o : Option A) (b : B) → option_and_then f o ≡ Some b → (a : A) × (o ≡ Some a) × (f a ≡ Some b)
bound f None b e = absurd (cc)
bound f (Some a) b e = (a, refl, e)

pub mapped : {A B : Type 0} (f : A → B) (o : Option A) (b : B) → option_map f o ≡ Some b → (a : A) × (o ≡ Some a) × (f a ≡ b)
mapped f None b e = absurd (cc)
mapped f (Some a) b e = (a, refl, cc)

either : {A : Type 0} (o p : Option A) (a : A) → option_or o p ≡ Some a → (o ≡ Some a) ⊎ (p ≡ Some a)
either None p a e = inr e
either (Some x) p a e = inl e

within_procedure : (b : Bool) (o : Option Spot) (spot : Spot) → (if b then None else o) ≡ Some spot → o ≡ Some spot
within_procedure true o spot e = absurd (cc)
within_procedure false o spot e = e

before : (at : ℕ) (o : Option Spot) (spot : Spot) → earlier at o ≡ Some spot → o ≡ Some spot
before at None spot e = e
before at (Some x) spot e = by_test (nat_lt x.0 at) e
  where
    by_test : (b : Bool) → (if b then Some x else None) ≡ Some spot → Some x ≡ Some spot
    by_test true h = h
    by_test false h = absurd (cc)

-- a name that stands for a variable stands for one of the procedure
pub record IsOwn (stmts : List Placed) (owner : ℕ) (spot : Spot) (m : Mode) (name : List ℕ) (used : TypeUse) : Type 0 where
  pub declares : Declares stmts spot.0 m name used
  pub owner_is : (counts_at stmts spot.0).procedures ≡ owner

pub own_variable : (stmts : List Placed) (owner at : ℕ) (word : List ℕ) (spot : Spot) (m : Mode) (name : List ℕ) (used : TypeUse) → AreOwned stmts
    → declaration (setting (front_of stmts).table stmts owner at) word ≡ Some (spot, variable m name used) → IsOwn stmts owner spot m name used
own_variable stmts owner at word spot m name used owned e =
    let s = setting (front_of stmts).table stmts owner at in
    let found = bound (said stmts) (in_force s word) (spot, variable m name used) e in
    let read = mapped (λ (x : Placed). (found.0, x.says)) (slice_get stmts found.0.0) (spot, variable m name used) found.2 in
    let at_spot : found.0 ≡ spot = ap (λ (p : Spot × Statement). p.0) read.2 in
    let says : read.0.says ≡ variable m name used = ap (λ (p : Spot × Statement). p.1) read.2 in
    let there : slice_get stmts spot.0 ≡ Some read.0 = subst (λ (p : Spot). slice_get stmts p.0 ≡ Some read.0) at_spot read.1 in
    let declares : Declares stmts spot.0 m name used = record { stmt = read.0; there = there; says = says } in
    let force : in_force s word ≡ Some spot = found.1 ∙ ap Some at_spot in
    let scope : (k : Key) → lookup (same_key k) (front_of stmts).table ≡ Some spot → k.0 ≡ (counts_at stmts spot.0).procedures =
    λ k l. let is = made stmts read.0 k spot l in
    let same : is.stmt ≡ read.0 = let z : Some is.stmt ≡ Some read.0 = sym is.there ∙ there in cc in
    is.scope ∙ ap (λ (x : Placed). scope_of (counts_at stmts spot.0).procedures x.says) same ∙ ap (scope_of (counts_at stmts spot.0).procedures) says in
    elim (either (of_procedure s.table owner word) (earlier at (lookup (same_key (0, word)) s.table)) spot force) [
      | inl p ↦ record { declares = declares; owner_is = sym (scope (owner, word) (within_procedure (nat_eq owner 0) _ spot p)) }
      | inr p ↦ absurd (owned spot.0 m name used declares (sym (scope (0, word) (before at _ spot p))))
    ]
