-- What is written keeps the limits of texts without calls.
use Rattle.std.proofs.Common.{◌≡◌, ℕ, zero, suc, ◌+◌, ◌-◌, ◌≤◌, ◌∙◌, sym, ap, subst, refl, false, List, [], ◌++◌, length, arith, if◌then◌else◌}
use Rattle.std.specs.Prelude.{Some, None, sum_by, slice_get, nat_lt}
use Rattle.std.specs.Option.{option_map}
use Rattle.std.proofs.lemmas.List.{length-append}
use Rattle.il_core.specs.Statement.{Statement, Placed, procedure, variable, call}
use Rattle.il_core.specs.declared.refusal.Code.TheVariants as code
use Rattle.il_core.specs.declared.refusal.Many.TheVariants as many
use Rattle.il_core.specs.declared.statement.Link.{Link}
use Rattle.il_syntax.specs.Order.{IsInOrder}
use Rattle.il_types.specs.declared.counts.Counts.{Counts}
use Rattle.il_types.specs.declared.rules.Rule.TheVariants as rule
use Rattle.il_types.specs.Counts.{is_line, one_if, counts_behind, too_many}
use Rattle.il_types.specs.Names.{front_of, counts_at}
use Rattle.il_types.specs.Rules.{unnamed, ComesNowhere, broken}
use Rattle.il_built.proofs.CheckedLinesWhole.{names_owned}
use Rattle.il_built.proofs.Given.{stands, counts_next, given_next, given_here}
use Rattle.call_limits.proofs.Passed.{none_yet, later}
use Rattle.call_rules.specs.CalledText.{written_lines, lines_before, callees_before}
use Rattle.call_rules.specs.Limits.{lines_in, widths_of}
use Rattle.std.proofs.lemmas.Option.{slice_get_within}
use Rattle.il_built.proofs.CheckedLinesCounts.{owner_is}
use Rattle.il_built.proofs.WithoutFault.{AreWithinLimits}
use Rattle.il_called.specs.Expansion.{brings}
use Rattle.call_sound.proofs.Frame.{procedures_counted}
use Rattle.call_sound.proofs.Kept.{KeepsCalls, limited_behind}
use Rattle.call_sound.proofs.Own.{nowhere}
use Rattle.call_sound.proofs.Positive.{no_fewer, widths_positive}

one_written : (stmts : List Placed) (links : List Link) (o i : ℕ) (x : Statement) → length (written_lines stmts links o i x) ≡ one_if (is_line x)
one_written stmts links o i (call name arguments) = refl
one_written stmts links o i _ = refl

-- a procedure has as many written lines as are counted
pub lines_are : (stmts : List Placed) (links : List Link) (i : ℕ) → i ≤ length stmts → (counts_at stmts i).lines ≡ length (lines_before stmts links (counts_at stmts i).procedures i)
lines_are stmts links zero h = refl
lines_are stmts links (suc i) h =
    let x = stands stmts i (omega arith) in
    subst (λ (d : Counts). d.lines ≡ length (lines_before stmts links d.procedures (suc i))) (sym (counts_next stmts i x.0 x.1)) (by (lines_are stmts links i (omega arith)) x.0 x.1 x.0.says refl)
  where
    more : (counts_at stmts i).lines ≡ length (lines_before stmts links (counts_at stmts i).procedures i) → (x : Placed) → slice_get stmts i ≡ Some x
        → (counts_at stmts i).lines + one_if (is_line x.says) ≡ length (lines_before stmts links (counts_at stmts i).procedures (suc i))
    more before x there =
        let o = (counts_at stmts i).procedures in
        let give = written_lines stmts links o in
        sym (ap length (given_next give stmts o i ∙ ap (λ ls. lines_before stmts links o i ++ ls) (given_here give stmts o i x there refl))
        ∙ length-append (lines_before stmts links o i) (give i x.says)
        ∙ ap (λ n. length (lines_before stmts links o i) + n) (one_written stmts links o i x.says)
        ∙ ap (λ n. n + one_if (is_line x.says)) (sym before))

    by : (counts_at stmts i).lines ≡ length (lines_before stmts links (counts_at stmts i).procedures i) → (x : Placed) → slice_get stmts i ≡ Some x → (says : Statement) → x.says ≡ says
        → (counts_behind (counts_at stmts i) says).lines ≡ length (lines_before stmts links (counts_behind (counts_at stmts i) says).procedures (suc i))
    by before x there (procedure name) says =
        let o = (counts_at stmts i).procedures + 1 in
        let n : i + 1 ≡ suc i = omega arith in
        let none : lines_before stmts links o (suc i) ≡ [] = ap (lines_before stmts links o) (sym n) ∙ none_yet (written_lines stmts links o) stmts o i (omega arith) (omega arith) in
        sym (ap length none)
    by before x there (variable m name used) says =
        let z : one_if (is_line x.says) ≡ 0 = ap (λ y. one_if (is_line y)) says in
        let e = more before x there in
        omega (arith, z, e)
    by before x there says is = ap (λ y. (counts_at stmts i).lines + one_if (is_line y)) (sym is) ∙ more before x there

none_many : (c : Counts) → AreWithinLimits c → option_map (λ m. unnamed (code.TooMany m)) (too_many c) ≡ None
none_many c h =
    let p = above 64 c.procedures h.procedures in
    let l = above 1000 c.lines h.lines in
    let q = above 64 (c.variables + c.copies) h.places in
    ap (λ b. option_map (λ m. unnamed (code.TooMany m)) (if b then Some many.Procedures else (if nat_lt 1000 c.lines then Some many.Lines
    else (if nat_lt 64 (c.variables + c.copies) then Some many.Places else None)))) p
    ∙ ap (λ b. option_map (λ m. unnamed (code.TooMany m)) (if b then Some many.Lines else (if nat_lt 64 (c.variables + c.copies) then Some many.Places else None))) l
    ∙ ap (λ b. option_map (λ m. unnamed (code.TooMany m)) (if b then Some many.Places else None)) q
  where
    above : (n m : ℕ) → m ≤ n → nat_lt n m ≡ false
    above n m e = grind arith

-- so what is written is not too much where what is counted is not
pub own_limited : (stmts : List Placed) (links : List Link) → KeepsCalls stmts links → IsInOrder stmts → ComesNowhere (broken rule.Limited (front_of stmts).table stmts) stmts
own_limited stmts links keeps order = nowhere (broken rule.Limited (front_of stmts).table stmts) stmts
    (λ i x there. none_many (counts_behind (counts_at stmts i) x.says) (within i x there))
  where
    within : (i : ℕ) (x : Placed) → slice_get stmts i ≡ Some x → AreWithinLimits (counts_behind (counts_at stmts i) x.says)
    within i x there =
        let c = counts_behind (counts_at stmts i) x.says in
        let limit = limited_behind stmts links i x keeps there in
        let inside = slice_get_within stmts i x there in
        let next = counts_next stmts i x there in
        let n : i + 1 ≡ suc i = omega arith in
        let ws = widths_of (callees_before stmts links c.procedures) in
        let rest : suc i + (length stmts - suc i) ≡ length stmts = omega (arith, inside) in
        let rise : (counts_at stmts (suc i)).procedures ≤ (counts_at stmts (length stmts)).procedures =
        subst (λ m. (counts_at stmts (suc i)).procedures ≤ (counts_at stmts m).procedures) rest (later stmts (suc i) (length stmts - suc i) (omega (arith, rest))) in
        let own = ap (λ (d : Counts). d.procedures) next in
        let end = owner_is stmts (length stmts) in
        let names = names_owned stmts in
        let count = procedures_counted stmts links in
        let positive = widths_positive stmts links (c.procedures - 1) order (omega (arith, rise, own, end, names, count)) in
        let many : c.lines ≡ length (lines_before stmts links c.procedures (suc i)) =
        subst (λ (d : Counts). d.lines ≡ length (lines_before stmts links d.procedures (suc i))) next (lines_are stmts links (suc i) (omega (arith, inside))) in
        let fewer = no_fewer ws (lines_before stmts links c.procedures (suc i)) positive in
        let lines : sum_by (lines_in ws) (lines_before stmts links c.procedures (suc i)) ≤ 1000 =
        subst (λ m. sum_by (lines_in ws) (lines_before stmts links c.procedures m) ≤ 1000) n limit.lines in
        let few = limit.procedures in
        let places : c.variables + (c.copies + sum_by (brings (callees_before stmts links c.procedures)) (lines_before stmts links c.procedures (i + 1))) ≤ 64 = limit.places in
        record { procedures = few; lines = omega (arith, many, fewer, lines); places = omega (arith, places) }
