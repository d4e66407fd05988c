-- Where nothing is too much, what counts of each whole procedure keeps within the limits.
use Rattle.std.proofs.Common.{◌≡◌, ℕ, suc, ◌+◌, ◌-◌, ◌<◌, ◌≤◌, ◌∙◌, sym, ap, subst, refl, inl, inr, Bool, true, false, List, [], ◌∷◌, ◌++◌, length, take, arith, append-nil}
use Rattle.std.specs.Prelude.{Some, filter, sum_by, slice_get}
use Rattle.std.proofs.lemmas.Bool.{cases_eq}
use Rattle.std.proofs.lemmas.List.{length-append}
use Rattle.std.proofs.lemmas.Option.{slice_get_within}
use Rattle.il_core.specs.Checked.{is_copied}
use Rattle.il_core.specs.Statement.{Statement, Placed, end_procedure}
use Rattle.il_core.specs.Statement as st
use Rattle.il_core.specs.declared.statement.Link.{Link}
use Rattle.il_syntax.specs.Order.{IsInOrder, part_of}
use Rattle.il_blocks.specs.BlockLabel.{owner}
use Rattle.il_blocks.specs.BlockLink.{has_line}
use Rattle.il_types.specs.Names.{counts_at}
use Rattle.il_built.proofs.CheckedLinesWhole.{names_owned}
use Rattle.il_built.specs.CheckedText.{of_procedure, declared_place, procedure_names, variables_of}
use Rattle.il_built.specs.Holding.{setting_at}
use Rattle.il_built.proofs.CheckedLinesCounts.{owner_is}
use Rattle.il_built.proofs.CheckedLinesEnd.{IsEndOf, end_of, none_behind}
use Rattle.il_built.proofs.CheckedLinesGiven.{given_is}
use Rattle.il_built.proofs.CheckedLinesUpto.{ends_at}
use Rattle.il_built.proofs.Given.{stands, given_front, given_here, not_given}
use Rattle.il_built.proofs.VariablesCounted.{variables_to, variables_counted}
use Rattle.il_built.proofs.VariablesFirst.{is_behind, all_before}
use Rattle.il_built.proofs.WithoutFault.{AreWithinLimits}
use Rattle.il_called.specs.Expansion.{brings, callees_of}
use Rattle.call_rules.specs.CalledText.{written_lines, written_procedures, lines_before, callees_before}
use Rattle.call_rules.specs.Limits.{lines_in, widths_of, counts_with_calls}
use Rattle.call_sound.proofs.Kept.{KeepsCalls, limited_behind}

-- a statement that is no line gives none
none_written : (stmts : List Placed) (links : List Link) (o i : ℕ) (x : Statement) → has_line x ≡ false → written_lines stmts links o i x ≡ []
none_written stmts links o i (st.title name) h = refl
none_written stmts links o i (st.constant_is name v) h = refl
none_written stmts links o i (st.range_type name a b) h = refl
none_written stmts links o i (st.wrap_type name a b) h = refl
none_written stmts links o i (st.enum_type name vs) h = refl
none_written stmts links o i (st.procedure name) h = refl
none_written stmts links o i (st.variable m name used) h = refl
none_written stmts links o i (st.post e) h = refl
none_written stmts links o i st.finish h = refl
none_written stmts links o i _ h = absurd (cc)

-- behind its ENDPROC nothing is written of a procedure
pub ended_lines : (stmts : List Placed) (links : List Link) (o z : ℕ) → IsInOrder stmts → IsEndOf stmts o z
    → lines_before stmts links o (length stmts) ≡ lines_before stmts links o (suc z)
ended_lines stmts links o z order e =
    let give = written_lines stmts links o in
    let within = slice_get_within stmts z e.stmt e.is_line.there in
    given_is give stmts o (length stmts) ∙ ends_at (of_procedure give stmts o) (suc z) (length stmts) (omega arith) none ∙ sym (given_is give stmts o (suc z))
  where
    by : (y : ℕ) (x : Placed) (b : Bool) → suc z ≤ y → slice_get stmts y ≡ Some x → (counts_at stmts y).procedures ≡ o → has_line x.says ≡ b
        → of_procedure (written_lines stmts links o) stmts o y ≡ []
    by y x true low there own h =
        let l : y ≤ z = none_behind stmts o z y x order e (record { there = there; own = sym (owner_is stmts y) ∙ own; has = h }) in absurd (omega arith)
    by y x false low there own h = given_here (written_lines stmts links o) stmts o y x there own ∙ none_written stmts links o y x.says h

    none : (y : ℕ) → suc z ≤ y → y < length stmts → of_procedure (written_lines stmts links o) stmts o y ≡ []
    none y low high =
        let x = stands stmts y high in
        elim (cases_eq (counts_at stmts y).procedures o) [
          | inl own ↦ by y x.0 (has_line x.0.says) low x.1 own refl
          | inr other ↦ not_given (written_lines stmts links o) stmts o y x.0 x.1 other
        ]

no_more : {A : Type 0} (xs ys rest : List A) → xs ≡ ys ++ rest → length xs ≡ length ys → xs ≡ ys
no_more xs ys [] e h = e ∙ append-nil ys
no_more xs ys (r ∷ rest) e h =
    let l = ap length e ∙ length-append ys (r ∷ rest) in
    let s : length (r ∷ rest) ≡ suc (length rest) = refl in
    absurd (omega (arith, l, s, h))

-- in front of it stand all variables
ended_variables : (stmts : List Placed) (o z : ℕ) → IsInOrder stmts → IsEndOf stmts o z → (counts_at stmts z).procedures ≡ o
    → variables_of stmts o ≡ variables_to stmts o z
ended_variables stmts o z order e own =
    let within = slice_get_within stmts z e.stmt e.is_line.there in
    let front = given_front (λ k y. declared_place (setting_at stmts k) y) stmts o z (length stmts) (omega arith) in
    let whole : length (variables_of stmts o) ≡ (counts_at stmts z).variables =
    subst (λ n. length (variables_of stmts n) ≡ (counts_at stmts z).variables) own (all_before stmts z e.stmt order e.is_line.there (ap (λ x. is_behind (part_of x)) e.says)) in
    no_more (variables_of stmts o) (variables_to stmts o z) front.0 front.1 (whole ∙ sym ((variables_counted stmts o z (omega arith)).variables own))

-- what counts of procedure k
pub record KeepsSize (stmts : List Placed) (links : List Link) (k : ℕ) : Type 0 where
  pub lines : sum_by (lines_in (widths_of (callees_of (take k (written_procedures stmts links))))) (lines_before stmts links (1 + k) (length stmts)) ≤ 1000
  pub places : length (variables_of stmts (1 + k)) + length (filter is_copied (variables_of stmts (1 + k)))
      + sum_by (brings (callees_of (take k (written_procedures stmts links)))) (lines_before stmts links (1 + k) (length stmts)) ≤ 64

record KeepsOwn (stmts : List Placed) (links : List Link) (o : ℕ) : Type 0 where
  lines : sum_by (lines_in (widths_of (callees_before stmts links o))) (lines_before stmts links o (length stmts)) ≤ 1000
  places : length (variables_of stmts o) + length (filter is_copied (variables_of stmts o)) + sum_by (brings (callees_before stmts links o)) (lines_before stmts links o (length stmts)) ≤ 64

keeps_own : (stmts : List Placed) (links : List Link) (z : ℕ) → KeepsCalls stmts links → IsInOrder stmts → IsEndOf stmts (counts_at stmts z).procedures z
    → KeepsOwn stmts links (counts_at stmts z).procedures
keeps_own stmts links z keeps order e =
    let o = (counts_at stmts z).procedures in
    let cs = callees_before stmts links o in
    let limit = subst (λ x. AreWithinLimits (counts_with_calls stmts links z x)) e.says (limited_behind stmts links z e.stmt keeps e.is_line.there) in
    let n : suc z ≡ z + 1 = omega arith in
    let all : lines_before stmts links o (length stmts) ≡ lines_before stmts links o (z + 1) = ended_lines stmts links o z order e ∙ ap (lines_before stmts links o) n in
    let lines : sum_by (lines_in (widths_of cs)) (lines_before stmts links o (z + 1)) ≤ 1000 = limit.lines in
    let places : (counts_at stmts z).variables + ((counts_at stmts z).copies + sum_by (brings cs) (lines_before stmts links o (z + 1))) ≤ 64 = limit.places in
    let within = slice_get_within stmts z e.stmt e.is_line.there in
    let counted = variables_counted stmts o z (omega arith) in
    let vs = ended_variables stmts o z order e refl in
    let many : length (variables_of stmts o) ≡ (counts_at stmts z).variables = ap length vs ∙ counted.variables refl in
    let copies : length (filter is_copied (variables_of stmts o)) ≡ (counts_at stmts z).copies = ap (λ ps. length (filter is_copied ps)) vs ∙ counted.copies refl in
    let brought = ap (sum_by (brings cs)) all in
    record {
      lines = subst (λ ls. sum_by (lines_in (widths_of cs)) ls ≤ 1000) (sym all) lines;
      places = omega (arith, many, copies, brought, places);
    }

pub keeps_size : (stmts : List Placed) (links : List Link) (k : ℕ) → KeepsCalls stmts links → IsInOrder stmts → k < length (procedure_names stmts) → KeepsSize stmts links k
keeps_size stmts links k keeps order h =
    let e = names_owned stmts in
    let begun : k < owner stmts (length stmts) = omega (arith, h, e) in
    let end = end_of stmts k order begun in
    let z = end.0 in
    let number : suc k ≡ (counts_at stmts z).procedures = sym (owner_is stmts z ∙ end.1.is_line.own) in
    let one : suc k ≡ 1 + k = omega arith in
    let less : 1 + k - 1 ≡ k = omega arith in
    let own = subst (KeepsOwn stmts links) (sym number ∙ one) (keeps_own stmts links z keeps order (subst (λ o. IsEndOf stmts o z) number end.1)) in
    let ps = written_procedures stmts links in
    record {
      lines = subst (λ n. sum_by (lines_in (widths_of (callees_of (take n ps)))) (lines_before stmts links (1 + k) (length stmts)) ≤ 1000) less own.lines;
      places = subst (λ n. length (variables_of stmts (1 + k)) + length (filter is_copied (variables_of stmts (1 + k)))
          + sum_by (brings (callees_of (take n ps))) (lines_before stmts links (1 + k) (length stmts)) ≤ 64) less own.places;
    }
