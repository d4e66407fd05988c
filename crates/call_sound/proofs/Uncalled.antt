-- A procedure of a text with calls is, with a SKIP for each call, the procedure of the text without calls.
use Rattle.std.proofs.Common.{◌≡◌, ℕ, zero, suc, ◌+◌, ◌≤◌, ◌∙◌, sym, ap, subst, refl, inl, inr, List, [], ◌∷◌, ◌++◌, length, arith}
use Rattle.std.specs.Prelude.{Some, None, map, slice_get}
use Rattle.std.proofs.lemmas.Bool.{cases_eq}
use Rattle.std.proofs.lemmas.List.{map-append}
use Rattle.il_core.specs.Checked.{IsChecked}
use Rattle.il_core.specs.Procedure.{Instruction}
use Rattle.il_core.specs.Statement.{Statement, Placed}
use Rattle.il_core.specs.Statement as st
use Rattle.il_core.specs.declared.statement.Link.{Link}
use Rattle.il_syntax.specs.Order.{IsInOrder}
use Rattle.il_blocks.specs.BlockLink.{AreLinks}
use Rattle.il_types.specs.Names.{counts_at}
use Rattle.il_types.specs.Rules.{Answers}
use Rattle.il_built.specs.CheckedText.{of_procedure, instructions, post_of, procedure_names, procedure_of, target_at}
use Rattle.il_built.specs.Holding.{setting_at}
use Rattle.il_built.proofs.CheckedLinesWhole.{procedures_are_checked}
use Rattle.il_built.proofs.Given.{stands, given_by, given_next, given_here, not_given}
use Rattle.il_called.specs.Called.{own, WrittenProcedure}
use Rattle.call_checks.specs.WellFormed.{uncalled, without_calls}
use Rattle.call_rules.specs.CalledText.{written_lines, written_procedure, written_procedures, lines_before}
use Rattle.call_sound.proofs.Frame.{found, procedure_at}

own_lines : (is : List Instruction) → map uncalled (map own is) ≡ is
own_lines [] = refl
own_lines (i ∷ is) = ap (λ js. i ∷ js) (own_lines is)

line_uncalled : (stmts : List Placed) (links : List Link) (o i : ℕ) (x : Statement)
    → map uncalled (written_lines stmts links o i x) ≡ instructions (setting_at stmts i) (post_of stmts o) (target_at links i) x
line_uncalled stmts links o i (st.call name arguments) = refl
line_uncalled stmts links o i _ = own_lines _

lines_uncalled : (stmts : List Placed) (links : List Link) (o n : ℕ) → n ≤ length stmts
    → map uncalled (lines_before stmts links o n) ≡ given_by (λ i x. instructions (setting_at stmts i) (post_of stmts o) (target_at links i) x) stmts o n
lines_uncalled stmts links o zero h = refl
lines_uncalled stmts links o (suc n) h =
    let give = λ (i : ℕ) (x : Statement). instructions (setting_at stmts i) (post_of stmts o) (target_at links i) x in
    let written = written_lines stmts links o in
    let x = stands stmts n (omega arith) in
    let here : map uncalled (of_procedure written stmts o n) ≡ of_procedure give stmts o n = elim (cases_eq (counts_at stmts n).procedures o) [
      | inl e ↦ ap (map uncalled) (given_here written stmts o n x.0 x.1 e) ∙ line_uncalled stmts links o n x.0.says ∙ sym (given_here give stmts o n x.0 x.1 e)
      | inr e ↦ ap (map uncalled) (not_given written stmts o n x.0 x.1 e) ∙ sym (not_given give stmts o n x.0 x.1 e)
    ] in
    ap (map uncalled) (given_next written stmts o n) ∙ map-append uncalled (lines_before stmts links o n) (of_procedure written stmts o n)
    ∙ ap (λ ls. ls ++ map uncalled (of_procedure written stmts o n)) (lines_uncalled stmts links o n (omega arith))
    ∙ ap (λ ls. given_by give stmts o n ++ ls) here ∙ sym (given_next give stmts o n)

-- so it is a checked procedure where the text keeps the rules of texts without calls
pub uncalled_checked : (stmts : List Placed) (links : List Link) (k : ℕ) (p : WrittenProcedure) → IsInOrder stmts → AreLinks stmts links → Answers stmts None
    → slice_get (written_procedures stmts links) k ≡ Some p → IsChecked (without_calls p)
uncalled_checked stmts links k p o ls a there =
    let q = procedure_at stmts links k p there in
    let n = found (procedure_names stmts) k q.below in
    let one : suc k ≡ 1 + k = omega arith in
    let c = subst (λ m. IsChecked (procedure_of stmts links m)) one ((procedures_are_checked stmts links o ls a).each k n.0 n.1) in
    let same = lines_uncalled stmts links (1 + k) (length stmts) (omega arith) in
    subst (λ (r : WrittenProcedure). IsChecked (without_calls r)) (sym q.is)
    (subst (λ ls. IsChecked (record { places = (written_procedure stmts links (1 + k) q.name).places; lines = ls })) (sym same) c)
