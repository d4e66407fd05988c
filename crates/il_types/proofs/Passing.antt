-- One pass over the statements of a text, one statement at a time.
use Rattle.std.proofs.Common.{◌≡◌, ℕ, ◌+◌, ◌<◌, ◌≤◌, ◌∙◌, sym, ap, subst, refl, inl, inr, List, ◌++◌, length, take, arith, get_or, below_more}
use Rattle.std.specs.Prelude.{Option, Some, None, map, slice_get}
use Rattle.std.specs.Option.{option_and_then, option_map}
use Rattle.std.proofs.lemmas.Bool.{cases_lt}
use Rattle.std.proofs.lemmas.List.{length-map, get_or-map, take_all}
use Rattle.std.proofs.lemmas.List.Sums.{fold_more}
use Rattle.std.proofs.lemmas.Option.{slice_get-map, slice_get_read, slice_get_past}
use Rattle.il_core.specs.Statement.{Statement, Placed, placed, statement_of}
use Rattle.il_core.specs.declared.refusal.Code.TheVariants as code
use Rattle.il_core.specs.declared.refusal.Refusal.{Refusal}
use Rattle.il_core.specs.declared.statement.Stmt.{Stmt}
use Rattle.il_types.specs.declared.counts.Counts.{Counts}
use Rattle.il_types.specs.declared.rules.Found.{Found}
use Rattle.il_types.specs.declared.rules.Rule.{Rule}
use Rattle.il_types.specs.Counts.{counts_behind}
use Rattle.il_types.specs.Names.{Table, Front, front_of, one_more, setting, entries, first_taken, IsDeclared, FindAlike, GoesOn, counts_at}
use Rattle.il_types.specs.Rules.{fault, naming, refusal_of, broken, twice_at, twice, passes_with, at_stmt, ComesFirst, ComesNowhere, Refuses, Answers}

-- the front with one statement more
pub front_more : (stmts : List Stmt) (i : ℕ) (stmt : Stmt) → i < length stmts → stmt ≡ get_or stmts i stmt
    → front_of (take (i + 1) (map placed stmts)) ≡ one_more (front_of (take i (map placed stmts))) (placed stmt)
front_more stmts i stmt h e =
    let inside : i < length (map placed stmts) = subst (λ n. i < n) (sym (length-map stmts placed)) h in
    fold_more one_more _ (map placed stmts) i (placed stmt) inside
    ∙ ap (one_more (front_of (take i (map placed stmts)))) (get_or-map placed stmts i stmt (placed stmt) h ∙ ap placed (sym e))

pub counts_more : (stmts : List Stmt) (i : ℕ) (stmt : Stmt) (c : Counts) → i < length stmts → stmt ≡ get_or stmts i stmt
    → c ≡ counts_at (map placed stmts) i → counts_behind c (statement_of stmt.form) ≡ counts_at (map placed stmts) (i + 1)
counts_more stmts i stmt c h e same = ap (λ d. counts_behind d (statement_of stmt.form)) same ∙ sym (ap (λ (f : Front). f.counts) (front_more stmts i stmt h e))

-- a statement where it stands
pub here : (stmts : List Stmt) (i : ℕ) (stmt : Stmt) → i < length stmts → stmt ≡ get_or stmts i stmt → slice_get (map placed stmts) i ≡ Some (placed stmt)
here stmts i stmt h e = slice_get-map placed stmts i ∙ ap (option_map placed) (slice_get_read stmts (length stmts) i stmt refl h e)

-- a pass has gone over one statement more
pub before_more : (pass : ℕ → Statement → Option Found) (stmts : List Stmt) (i : ℕ) (stmt : Stmt) → i < length stmts → stmt ≡ get_or stmts i stmt
    → ((k : ℕ) → k < i → at_stmt pass (map placed stmts) k ≡ None) → pass i (statement_of stmt.form) ≡ None
    → (k : ℕ) → k < i + 1 → at_stmt pass (map placed stmts) k ≡ None
before_more pass stmts i stmt h e before none =
    below_more _ _ before (ap (option_and_then (λ (x : Placed). pass i x.says)) (here stmts i stmt h e) ∙ none)

-- a pass has gone over all statements
pub nowhere : (pass : ℕ → Statement → Option Found) (stmts : List Stmt) (n : ℕ) → length stmts ≤ n
    → ((k : ℕ) → k < n → at_stmt pass (map placed stmts) k ≡ None) → ComesNowhere pass (map placed stmts)
nowhere pass stmts n h before k = elim (cases_lt k n) [
  | inl lt ↦ before k lt
  | inr ge ↦
      let past : length (map placed stmts) ≤ k = subst (λ m. m ≤ k) (sym (length-map stmts placed)) (at_most (length stmts) n k h ge) in
      ap (option_and_then (λ (x : Placed). pass k x.says)) (slice_get_past (map placed stmts) k past)
]
  where
    at_most : (a b c : ℕ) → a ≤ b → b ≤ c → a ≤ c
    at_most a b c p q = omega arith

-- a pass finds its first fault
pub first_here : (pass : ℕ → Statement → Option Found) (stmts : List Stmt) (i : ℕ) (stmt : Stmt) (r : Refusal) → i < length stmts → stmt ≡ get_or stmts i stmt
    → ((k : ℕ) → k < i → at_stmt pass (map placed stmts) k ≡ None) → pass i (statement_of stmt.form) ≡ Some (record { code = r.code; name = r.name })
    → r.place ≡ stmt.place → ComesFirst pass (map placed stmts) r
first_here pass stmts i stmt r h e before faulty place = record {
  i = i;
  stmt = placed stmt;
  at = here stmts i stmt h e;
  faulty = faulty;
  place = place;
  before = before;
}

-- where a pass finds a fault a statement stands
pub stands : (pass : ℕ → Statement → Option Found) (stmts : List Stmt) (i : ℕ) (f : Found) → at_stmt pass (map placed stmts) i ≡ Some f → i < length stmts
stands pass stmts i f e = elim (cases_lt i (length stmts)) [
  | inl lt ↦ lt
  | inr ge ↦
      let past : length (map placed stmts) ≤ i = subst (λ m. m ≤ i) (sym (length-map stmts placed)) ge in
      let none = ap (option_and_then (λ (x : Placed). pass i x.says)) (slice_get_past (map placed stmts) i past) in
      let clash : None ≡ Some f = sym none ∙ e in
      absurd (cc)
]

-- the first fault of a pass, by what the pass finds at its statement
pub first_there : (pass : ℕ → Statement → Option Found) (stmts : List Stmt) (i : ℕ) (stmt : Stmt) (r : Refusal) → i < length stmts → stmt ≡ get_or stmts i stmt
    → ((k : ℕ) → k < i → at_stmt pass (map placed stmts) k ≡ None) → at_stmt pass (map placed stmts) i ≡ Some (record { code = r.code; name = r.name })
    → r.place ≡ stmt.place → ComesFirst pass (map placed stmts) r
first_there pass stmts i stmt r h e before found place =
    first_here pass stmts i stmt r h e before (sym (ap (option_and_then (λ (x : Placed). pass i x.says)) (here stmts i stmt h e)) ∙ found) place

pub refuses_here : (pass : ℕ → Statement → Option Found) (stmts : List Stmt) (i : ℕ) (stmt : Stmt) (found : Found) (r : Refusal) → i < length stmts → stmt ≡ get_or stmts i stmt
    → ((k : ℕ) → k < i → at_stmt pass (map placed stmts) k ≡ None) → pass i (statement_of stmt.form) ≡ Some found
    → r ≡ refusal_of found stmt.place → ComesFirst pass (map placed stmts) r
refuses_here pass stmts i stmt found r h e before faulty is =
    subst (ComesFirst pass (map placed stmts)) (sym is) (first_here pass stmts i stmt (refusal_of found stmt.place) h e before faulty refl)

-- the passes after the first, with the table that it left
pub answers_with : (stmts : List Placed) (table : Table) (o : Option Refusal) → table ≡ (front_of stmts).table → ComesNowhere (twice stmts) stmts
    → Refuses (passes_with table stmts) stmts o → Answers stmts o
answers_with stmts table None e n r = (n, subst (λ (t : Table). Refuses (passes_with t stmts) stmts None) e r)
answers_with stmts table (Some f) e n r = inr (n, subst (λ (t : Table). Refuses (passes_with t stmts) stmts (Some f)) e r)

-- the fault of a rule by the counts of the front
pub broken_is : (r : Rule) (table : Table) (stmts : List Placed) (i : ℕ) (x : Statement) (c : Counts) → c ≡ counts_at stmts i
    → fault r (setting table stmts c.procedures i) c x ≡ broken r table stmts i x
broken_is r table stmts i x c e = ap (λ d. fault r (setting table stmts d.procedures i) d x) e

-- the first name that is taken by the counts and the table of the front
pub twice_is : (stmts : List Placed) (i : ℕ) (x : Statement) (table : Table) (c : Counts) → table ≡ (front_of (take i stmts)).table → c ≡ counts_at stmts i
    → first_taken table (entries c.procedures i x) ≡ twice_at stmts i x
twice_is stmts i x table c t e =
    ap (λ u. first_taken u (entries c.procedures i x)) t
    ∙ ap (λ (d : Counts). first_taken (front_of (take i stmts)).table (entries d.procedures i x)) e

-- what the declarations of a statement answer is what the pass finds
pub twice_here : (stmts : List Placed) (i : ℕ) (x : Statement) (table next : Table) (c : Counts) (o : Option (List ℕ)) → table ≡ (front_of (take i stmts)).table → c ≡ counts_at stmts i
    → IsDeclared table next (entries c.procedures i x) o → twice stmts i x ≡ option_map (naming code.Twice) o
twice_here stmts i x table next c o t e d = ap (option_map (naming code.Twice)) (sym (d.0 ∙ twice_is stmts i x table c t e))

-- the table with the declarations of one statement more
pub table_more : (stmts : List Stmt) (i : ℕ) (stmt : Stmt) (table next : Table) (c : Counts) → i < length stmts → stmt ≡ get_or stmts i stmt
    → table ≡ (front_of (take i (map placed stmts))).table → c ≡ counts_at (map placed stmts) i → c.statements ≡ i
    → next ≡ table ++ entries c.procedures i (statement_of stmt.form) → next ≡ (front_of (take (i + 1) (map placed stmts))).table
table_more stmts i stmt table next c h e t same at n =
    let x = statement_of stmt.form in
    n ∙ ap (λ j. table ++ entries c.procedures j x) (sym at)
    ∙ ap (λ u. u ++ entries c.procedures c.statements x) t
    ∙ ap (λ (d : Counts). (front_of (take i (map placed stmts))).table ++ entries d.procedures d.statements x) same
    ∙ sym (ap (λ (f : Front). f.table) (front_more stmts i stmt h e))

-- a table that finds alike, with the first declarations of one statement more
pub alike_more : (stmts : List Stmt) (i : ℕ) (stmt : Stmt) (table next : Table) (c : Counts) → i < length stmts → stmt ≡ get_or stmts i stmt
    → FindAlike table (front_of (take i (map placed stmts))).table → c ≡ counts_at (map placed stmts) i → c.statements ≡ i
    → GoesOn table next (entries c.procedures i (statement_of stmt.form)) → FindAlike next (front_of (take (i + 1) (map placed stmts))).table
alike_more stmts i stmt table next c h e t same at goes =
    let before = (front_of (take i (map placed stmts))).table in
    subst (FindAlike next) (table_more stmts i stmt before (before ++ entries c.procedures i (statement_of stmt.form)) c h e refl same at refl) (goes before t)

-- the front of all statements
pub whole_front : (stmts : List Stmt) (n : ℕ) → length stmts ≤ n → (front_of (take n (map placed stmts))).table ≡ (front_of (map placed stmts)).table
whole_front stmts n h =
    let counted : length (map placed stmts) ≤ n = subst (λ m. m ≤ n) (sym (length-map stmts placed)) h in
    ap (λ (xs : List Placed). (front_of xs).table) (take_all n (map placed stmts) counted)
