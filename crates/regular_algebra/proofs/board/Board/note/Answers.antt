use Rattle.std.proofs.Common.{refl, ap, ◌∙◌, ◌<◌, ◌++◌, ◌∷◌, List, ℕ, [], length, arith}
use Rattle.std.proofs.lemmas.List.{get_or_read}
use Rattle.regular_algebra.specs.Cells.{table_of}
use Rattle.regular_algebra.proofs.Cells.{noted-pushed, noted-either}
use Rattle.regular_algebra.proofs.board.Board.note.Goals as goal

pub invariant_of-self-clause-noted : goal.invariant_of-self-clause-noted
invariant_of-self-clause-noted c =
    let b = c.args.self.now in
    let within : c.args.j < length b.columns.items = omega (arith, c.requires, b.has_columns, b.columns.ok) in
    let column = get_or_read b.columns.items c.args.j c.index_mut.result.now within c.index_mut.ensures.value [] in
    noted-either b.rows.items b.columns.items c.args.j c.args.i c.index_mut.result.now c.push.new.self c.push.result within column c.push.ensures.ok c.push.ensures.err b.noted

pub returns-clause-table : goal.returns-clause-table
unfolding table_of
returns-clause-table c = refl

pub returns-clause-noted : goal.returns-clause-noted
returns-clause-noted c =
    let b = c.args.self.now in
    let within : c.args.j < length b.columns.items = omega (arith, c.requires, b.has_columns, b.columns.ok) in
    let column = get_or_read b.columns.items c.args.j c.index_mut.result.now within c.index_mut.ensures.value [] in
    noted-pushed b.columns.items c.args.j c.args.i c.push.new.self within (c.in_ok-push.ensures.ok ∙ ap (λ (x : List ℕ). x ++ c.args.i ∷ []) column)
