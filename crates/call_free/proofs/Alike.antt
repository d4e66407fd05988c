-- Without a CALL each rule of texts with calls finds what that of texts without calls finds.
use Rattle.std.proofs.Common.{◌≡◌, ℕ, suc, ◌+◌, ◌≤◌, ◌∙◌, sym, ap, refl, inl, inr, false, List, [], ◌∷◌, ◌++◌, length, arith}
use Rattle.std.specs.Prelude.{Option, Some, None, map, sum_by, slice_get}
use Rattle.std.specs.Option.{option_and_then, option_map}
use Rattle.std.proofs.lemmas.Option.{none-some, slice_get_within}
use Rattle.il_core.specs.Statement.{Statement, Placed}
use Rattle.il_core.specs.Statement as st
use Rattle.il_core.specs.declared.refusal.Code.TheVariants as code
use Rattle.il_core.specs.declared.refusal.Refusal.{Refusal}
use Rattle.il_core.specs.declared.statement.Link.{Link}
use Rattle.il_types.specs.declared.counts.Counts.{Counts}
use Rattle.il_types.specs.declared.rules.Found.{Found}
use Rattle.il_types.specs.declared.rules.Rule.{Rule}
use Rattle.il_types.specs.declared.rules.Rule.TheVariants as rule
use Rattle.il_types.specs.Counts.{counts_behind, too_many}
use Rattle.il_types.specs.Names.{front_of, counts_at}
use Rattle.il_types.specs.Rules.{unnamed, broken, twice, at_stmt, ComesFirst, ComesNowhere, Refuses}
use Rattle.il_types.specs.Rules as types
use Rattle.il_built.proofs.CheckedLinesNumbered.{line_at}
use Rattle.il_built.proofs.Given.{counts_next, given_by}
use Rattle.il_called.specs.Called.{own}
use Rattle.il_called.specs.Expansion.{brings}
use Rattle.call_rules.specs.Calls.{fault_at}
use Rattle.call_rules.specs.CalledText.{callees_before, lines_before}
use Rattle.call_rules.specs.Clash.{twice_at}
use Rattle.call_rules.specs.Fits.{misfit_at}
use Rattle.call_rules.specs.Limits.{counts_with_calls, excess_at, lines_in, widths_of}
use Rattle.call_rules.specs.Rules as calls
use Rattle.call_limits.proofs.Widths.{own_widths, own_brings}
use Rattle.call_free.specs.Laws.{is_call, HasNoCall, AnswersAlike}
use Rattle.call_free.proofs.Lines.{lines_own, lines_counted}

abbrev Pass : Type 0
Pass = ℕ → Statement → Option Found

-- two passes find the same at each statement
abbrev FindAlike : List Placed → Pass → Pass → Type 0
FindAlike stmts p q = (i : ℕ) (x : Placed) → slice_get stmts i ≡ Some x → p i x.says ≡ q i x.says

at_alike : (stmts : List Placed) (p q : Pass) → FindAlike stmts p q → (i : ℕ) → at_stmt p stmts i ≡ at_stmt q stmts i
at_alike stmts p q h i = by (slice_get stmts i) refl
  where
    by : (o : Option Placed) → slice_get stmts i ≡ o → option_and_then (λ x. p i x.says) o ≡ option_and_then (λ x. q i x.says) o
    by None e = refl
    by (Some x) e = h i x e

nowhere_alike : (stmts : List Placed) (p q : Pass) → FindAlike stmts p q → ComesNowhere p stmts → ComesNowhere q stmts
nowhere_alike stmts p q h n i = sym (at_alike stmts p q h i) ∙ n i

first_alike : (stmts : List Placed) (p q : Pass) (r : Refusal) → FindAlike stmts p q → ComesFirst p stmts r → ComesFirst q stmts r
first_alike stmts p q r h c = record {
  i = c.i;
  stmt = c.stmt;
  at = c.at;
  faulty = sym (h c.i c.stmt c.at) ∙ c.faulty;
  place = c.place;
  before = λ j less. sym (at_alike stmts p q h j) ∙ c.before j less;
}

-- a pass that finds nothing
abbrev silent : Pass
silent i x = None

-- passes that find the same, and behind them some that find nothing
abbrev AllAlike : List Placed → List Pass → List Pass → Type 0
AllAlike stmts [] [] = Unit {0}
AllAlike stmts [] (q ∷ qs) = ⊥
AllAlike stmts (p ∷ ps) [] = FindAlike stmts p silent × AllAlike stmts ps []
AllAlike stmts (p ∷ ps) (q ∷ qs) = FindAlike stmts p q × AllAlike stmts ps qs

silent_nowhere : (stmts : List Placed) → ComesNowhere silent stmts
silent_nowhere stmts i = by (slice_get stmts i)
  where
    by : (o : Option Placed) → option_and_then (λ x. silent i x.says) o ≡ None
    by None = refl
    by (Some x) = refl

backwards : (stmts : List Placed) (p q : Pass) → FindAlike stmts p q → FindAlike stmts q p
backwards stmts p q h i x e = sym (h i x e)

less_calls : (stmts : List Placed) (ps qs : List Pass) (o : Option Refusal) → AllAlike stmts ps qs → Refuses ps stmts o → Refuses qs stmts o
less_calls stmts [] [] o h a = a
less_calls stmts [] (q ∷ qs) o h a = absurd h
less_calls stmts (p ∷ ps) [] None h a = tt
less_calls stmts (p ∷ ps) [] (Some r) h (inl c) = absurd (none-some _ (sym (h.0 c.i c.stmt c.at) ∙ c.faulty))
less_calls stmts (p ∷ ps) [] (Some r) h (inr a) = less_calls stmts ps [] (Some r) h.1 a.1
less_calls stmts (p ∷ ps) (q ∷ qs) None h a = (nowhere_alike stmts p q h.0 a.0, less_calls stmts ps qs None h.1 a.1)
less_calls stmts (p ∷ ps) (q ∷ qs) (Some r) h (inl c) = inl (first_alike stmts p q r h.0 c)
less_calls stmts (p ∷ ps) (q ∷ qs) (Some r) h (inr a) = inr (nowhere_alike stmts p q h.0 a.0, less_calls stmts ps qs (Some r) h.1 a.1)

more_calls : (stmts : List Placed) (ps qs : List Pass) (o : Option Refusal) → AllAlike stmts ps qs → Refuses qs stmts o → Refuses ps stmts o
more_calls stmts [] [] o h a = a
more_calls stmts [] (q ∷ qs) o h a = absurd h
more_calls stmts (p ∷ ps) [] None h a = (nowhere_alike stmts silent p (backwards stmts p silent h.0) (silent_nowhere stmts), more_calls stmts ps [] None h.1 a)
more_calls stmts (p ∷ ps) [] (Some r) h a = absurd a
more_calls stmts (p ∷ ps) (q ∷ qs) None h a = (nowhere_alike stmts q p (backwards stmts p q h.0) a.0, more_calls stmts ps qs None h.1 a.1)
more_calls stmts (p ∷ ps) (q ∷ qs) (Some r) h (inl c) = inl (first_alike stmts q p r (backwards stmts p q h.0) c)
more_calls stmts (p ∷ ps) (q ∷ qs) (Some r) h (inr a) = inr (nowhere_alike stmts q p (backwards stmts p q h.0) a.0, more_calls stmts ps qs (Some r) h.1 a.1)

-- statement by statement
same_twice : (stmts : List Placed) (links : List Link) (i : ℕ) (x : Statement) → is_call x ≡ false → twice_at stmts links i x ≡ twice stmts i x
same_twice stmts links i (st.call name arguments) h = absurd (cc)
same_twice stmts links i _ h = refl

same_fault : (r : Rule) (stmts : List Placed) (i : ℕ) (x : Statement) → is_call x ≡ false → fault_at r stmts i x ≡ broken r (front_of stmts).table stmts i x
same_fault r stmts i (st.call name arguments) h = absurd (cc)
same_fault r stmts i _ h = refl

no_misfit : (stmts : List Placed) (links : List Link) (i : ℕ) (x : Statement) → is_call x ≡ false → misfit_at stmts links i x ≡ None
no_misfit stmts links i (st.call name arguments) h = absurd (cc)
no_misfit stmts links i _ h = refl

-- the counts behind a statement are those that are told without calls
same_counts : (stmts : List Placed) (links : List Link) (i : ℕ) (x : Placed) → HasNoCall stmts → slice_get stmts i ≡ Some x
    → counts_with_calls stmts links i x.says ≡ counts_behind (counts_at stmts i) x.says
same_counts stmts links i x free there =
    let c = counts_behind (counts_at stmts i) x.says in
    let cs = callees_before stmts links c.procedures in
    let ls = lines_before stmts links c.procedures (i + 1) in
    let is = given_by (line_at stmts links c.procedures) stmts c.procedures (i + 1) in
    let within = slice_get_within stmts i x there in
    let low : i + 1 ≤ length stmts = omega (arith, within) in
    let more : i + 1 ≡ suc i = omega arith in
    let next : counts_at stmts (i + 1) ≡ c = ap (counts_at stmts) more ∙ counts_next stmts i x there in
    let are : ls ≡ map own is = lines_own stmts links c.procedures (i + 1) free low in
    let lines : sum_by (lines_in (widths_of cs)) ls ≡ c.lines =
    ap (sum_by (lines_in (widths_of cs))) are ∙ own_widths (widths_of cs) is
    ∙ lines_counted stmts links c.procedures (i + 1) low (ap (λ (d : Counts). d.procedures) next) ∙ ap (λ (d : Counts). d.lines) next in
    let none : sum_by (brings cs) ls ≡ 0 = ap (sum_by (brings cs)) are ∙ own_brings cs is in
    let copies : c.copies + sum_by (brings cs) ls ≡ c.copies = omega (arith, none) in
    ap (λ n. record c { lines = n; copies = c.copies + sum_by (brings cs) ls }) lines ∙ ap (λ n. record c { lines = c.lines; copies = n }) copies

same_excess : (stmts : List Placed) (links : List Link) (i : ℕ) (x : Placed) → HasNoCall stmts → slice_get stmts i ≡ Some x
    → excess_at stmts links i x.says ≡ broken rule.Limited (front_of stmts).table stmts i x.says
same_excess stmts links i x free there = ap (λ c. option_map (λ m. unnamed (code.TooMany m)) (too_many c)) (same_counts stmts links i x free there)

all_alike : (stmts : List Placed) (links : List Link) → HasNoCall stmts → AllAlike stmts (calls.passes stmts links) (types.passes stmts)
all_alike stmts links free =
    let limits : AllAlike stmts (calls.passes_with_calls stmts links) (broken rule.Limited (front_of stmts).table stmts ∷ []) =
    (λ i x e. same_excess stmts links i x free e, (λ i x e. no_misfit stmts links i x.says (free i x e), tt)) in
    let names : AllAlike stmts (calls.passes_with_names stmts ++ calls.passes_with_calls stmts links) (types.passes_with (front_of stmts).table stmts) =
    (rules rule.Known, (rules rule.Typed, (rules rule.Allowed, (rules rule.Filled, (rules rule.Narrow, limits))))) in
    (λ i x e. same_twice stmts links i x.says (free i x e), names)
  where
    rules : (r : Rule) → FindAlike stmts (fault_at r stmts) (broken r (front_of stmts).table stmts)
    rules r i x e = same_fault r stmts i x.says (free i x e)

pub answers_alike : AnswersAlike
answers_alike stmts links o free =
    let h = all_alike stmts links free in
    (λ a. less_calls stmts (calls.passes stmts links) (types.passes stmts) o h a, λ a. more_calls stmts (calls.passes stmts links) (types.passes stmts) o h a)
