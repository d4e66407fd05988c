-- The names of the places of expansions have at most 40 bytes, where those of the variables have.
use Rattle.std.proofs.Common.{◌≡◌, ℕ, zero, suc, ◌+◌, ◌-◌, ◌≤◌, ◌∙◌, sym, ap, subst, refl, inl, inr, Bool, true, false, cond, List, [], ◌∷◌, ◌++◌, length, take, drop, arith}
use Rattle.std.specs.Prelude.{Option, Some, None, map, filter, count_by, slice_get, nat_le}
use Rattle.std.specs.List.{list_all}
use Rattle.std.proofs.lemmas.Bool.{cases_eq}
use Rattle.il_core.specs.Checked.{is_copied, old_copy}
use Rattle.il_core.specs.LineGraph.{IsIn}
use Rattle.il_core.specs.Statement.{Statement, Placed, variable}
use Rattle.il_core.specs.declared.line.Place.{Place}
use Rattle.il_core.specs.declared.statement.Link.{Link}
use Rattle.il_core.specs.declared.statement.Mode.{Mode}
use Rattle.il_core.specs.declared.statement.TypeUse.{TypeUse}
use Rattle.il_types.specs.Names.{Setting, counts_at}
use Rattle.il_built.specs.CheckedText.{of_procedure, declared_place, variables_of}
use Rattle.il_built.specs.Holding.{setting_at}
use Rattle.il_built.proofs.BuiltSorts.{both_true}
use Rattle.il_built.proofs.Given.{given_by, given_next, given_here, not_given, stands}
use Rattle.il_called.specs.Called.{WrittenLine, own, call, WrittenProcedure}
use Rattle.il_called.specs.Expansion.{Callee, brought, brought_name, call_number, callees_of, each_from, expansion_of, is_call, variables_in}
use Rattle.il_called.specs.Expansion as expansion
use Rattle.call_rules.specs.CalledText.{written_procedures, lines_before, callees_before, owner_at, call_number_at}
use Rattle.call_rules.specs.Clash.{new_names_of}
use Rattle.call_rules.specs.Fits.{is_short}
use Rattle.call_limits.proofs.Variables.{variables_are, copies_behind}
use Rattle.call_sound.specs.Laws.{HaveShortNames}
use Rattle.call_sound.proofs.Fits.{known}
use Rattle.call_sound.proofs.Frame.{procedure_at}
use Rattle.call_sound.proofs.Kept.{KeepsCalls}

abbrev pub AreShort : List Place → Type 0
AreShort [] = Unit {0}
AreShort (p ∷ ps) = (length p.name ≤ 40) × AreShort ps

pub short_in : (ps : List Place) (p : Place) → AreShort ps → IsIn ps p → length p.name ≤ 40
short_in [] p h is = absurd is
short_in (q ∷ ps) p h (inl e) = subst (λ (r : Place). length r.name ≤ 40) e h.0
short_in (q ∷ ps) p h (inr is) = short_in ps p h.1 is

short_append : (ps qs : List Place) → AreShort ps → AreShort qs → AreShort (ps ++ qs)
short_append [] qs h g = g
short_append (p ∷ ps) qs h g = (h.0, short_append ps qs h.1 g)

short_filter : (f : Place → Bool) (ps : List Place) → AreShort ps → AreShort (filter f ps)
short_filter f [] h = tt
short_filter f (p ∷ ps) h = by (f p) (short_filter f ps h.1)
  where
    by : (b : Bool) → AreShort (filter f ps) → AreShort (cond b (p ∷ filter f ps) (filter f ps))
    by true g = (h.0, g)
    by false g = g

short_copies : (ps : List Place) → AreShort ps → AreShort (map old_copy ps)
short_copies [] h = tt
short_copies (p ∷ ps) h = (h.0, short_copies ps h.1)

declared_short : (s : Setting) (x : Statement) → ((m : Mode) (name : List ℕ) (used : TypeUse) → x ≡ variable m name used → length name ≤ 40) → AreShort (declared_place s x)
declared_short s (variable m name used) h = (h m name used refl, tt)
declared_short s _ h = tt

own_short : (stmts : List Placed) (o n : ℕ) → HaveShortNames stmts → n ≤ length stmts → AreShort (given_by (λ i x. declared_place (setting_at stmts i) x) stmts o n)
own_short stmts o zero h within = tt
own_short stmts o (suc n) h within =
    let give = λ (k : ℕ) (y : Statement). declared_place (setting_at stmts k) y in
    let x = stands stmts n (omega arith) in
    let here : AreShort (of_procedure give stmts o n) = elim (cases_eq (counts_at stmts n).procedures o) [
      | inl e ↦ subst AreShort (sym (given_here give stmts o n x.0 x.1 e))
          (declared_short (setting_at stmts n) x.0.says (λ m name used says. h n m name used (record { stmt = x.0; there = x.1; says = says })))
      | inr e ↦ subst AreShort (sym (not_given give stmts o n x.0 x.1 e)) tt
    ] in
    subst AreShort (sym (given_next give stmts o n)) (short_append _ _ (own_short stmts o n h (omega arith)) here)

short_each : {X : Type 0} (f : ℕ → X → List Place) (k : ℕ) (xs : List X) → ((i : ℕ) (x : X) → slice_get xs i ≡ Some x → AreShort (f (k + i) x)) → AreShort (each_from f k xs)
short_each f k [] each = tt
short_each f k (x ∷ xs) each =
    let zeroth : k + 0 ≡ k = omega arith in
    short_append (f k x) (each_from f (suc k) xs) (subst (λ n. AreShort (f n x)) zeroth (each 0 x refl))
    (short_each f (suc k) xs (λ i y e. subst (λ n. AreShort (f n y)) (next i) (each (suc i) y e)))
  where
    next : (i : ℕ) → k + suc i ≡ suc k + i
    next i = omega arith

is_at_most : (n : ℕ) → nat_le n 40 ≡ true → n ≤ 40
is_at_most n h = grind arith

brought_short : (k : ℕ) (ps : List Place) → list_all is_short (map (brought_name k) ps) ≡ true → AreShort (map (brought k) ps)
brought_short k [] h = tt
brought_short k (p ∷ ps) h =
    let both = both_true (is_short (brought_name k p)) (list_all is_short (map (brought_name k) ps)) h in
    (is_at_most (length (brought_name k p)) both.0, brought_short k ps both.1)

-- what a line brings
line_short : (stmts : List Placed) (links : List Link) (k n : ℕ) (p : WrittenProcedure) (line : WrittenLine) → KeepsCalls stmts links
    → slice_get (written_procedures stmts links) k ≡ Some p → slice_get p.lines n ≡ Some line
    → AreShort (expansion.places_of (callees_of (take k (written_procedures stmts links))) p n line)
line_short stmts links k n p (own i) keeps there e = tt
line_short stmts links k n p (call c arguments) keeps there e =
    let x = known stmts links k n c arguments p keeps there e in
    let ps = written_procedures stmts links in
    let f = x.fit in
    let w = x.line in
    let own = w.own in
    let number = x.number in
    let q = procedure_at stmts links k p there in
    let less : owner_at stmts w.at - 1 ≡ k = omega (arith, own) in
    let one : f.number - 1 ≡ c = omega (arith, number) in
    let at : slice_get (callees_of (take k ps)) c ≡ Some f.callee =
    ap (λ m. slice_get (callees_of (take m ps)) c) (sym less) ∙ ap (slice_get (callees_before stmts links (owner_at stmts w.at))) (sym one) ∙ f.there in
    let count : call_number p.lines n ≡ call_number_at stmts links w.at =
    ap (λ (r : WrittenProcedure). call_number r.lines n) q.is ∙ ap (λ ls. count_by is_call ls + 1) w.before
    ∙ ap (λ o. count_by is_call (lines_before stmts links o w.at) + 1) (sym own) in
    let short = sym (ap (λ o. list_all is_short (new_names_of (call_number_at stmts links w.at) o)) f.callee_is) ∙ f.short in
    subst (λ (o : Option Callee). AreShort (elim o [ None ↦ [] | Some it ↦ map (brought (call_number p.lines n)) it.expanded.places ])) (sym at)
    (subst (λ m. AreShort (map (brought m) f.callee.expanded.places)) (sym count) (brought_short (call_number_at stmts links w.at) f.callee.expanded.places short))

-- the places of the expansion of a procedure
pub expanded_short : (stmts : List Placed) (links : List Link) (k number : ℕ) (p : WrittenProcedure) → KeepsCalls stmts links → HaveShortNames stmts
    → slice_get (written_procedures stmts links) k ≡ Some p → AreShort (expansion_of (callees_of (take k (written_procedures stmts links))) number p).places
expanded_short stmts links k number p keeps h there =
    let q = procedure_at stmts links k p there in
    let o = 1 + k in
    let cs = callees_of (take k (written_procedures stmts links)) in
    let vs = own_short stmts o (length stmts) h (omega arith) in
    let front : AreShort (variables_in p.places) = subst (λ (r : WrittenProcedure). AreShort (variables_in r.places)) (sym q.is) (subst AreShort (sym (variables_are stmts o)) vs) in
    let behind : AreShort (drop (length (variables_in p.places)) p.places) =
    subst (λ (r : WrittenProcedure). AreShort (drop (length (variables_in r.places)) r.places)) (sym q.is)
    (subst AreShort (sym (copies_behind stmts o)) (short_copies (filter is_copied (variables_of stmts o)) (short_filter is_copied (variables_of stmts o) vs))) in
    let between : AreShort (each_from (expansion.places_of cs p) 0 p.lines) = short_each (expansion.places_of cs p) 0 p.lines
    (λ i line e. subst (λ m. AreShort (expansion.places_of cs p m line)) (zeroth i) (line_short stmts links k i p line keeps there e)) in
    short_append (variables_in p.places ++ each_from (expansion.places_of cs p) 0 p.lines) _ (short_append (variables_in p.places) _ front between) behind
  where
    zeroth : (i : ℕ) → i ≡ 0 + i
    zeroth i = omega arith
