-- The limits of a procedure hold of its expansion: each CALL counts as the lines that it becomes and the places that it brings, in the order of
-- the statements, whatever its arguments are; a CALL of its own procedure counts as one line and no place.
use Rattle.std.specs.Prelude.{ℕ, ◌+◌, List, [], ◌∷◌, ◌++◌, sum_by, count_by, slice_get, unwrap_or, Option}
use Rattle.std.specs.Option.{option_map}
use Rattle.il_core.specs.Statement.{Statement, Placed}
use Rattle.il_core.specs.declared.refusal.Code.TheVariants as code
use Rattle.il_core.specs.declared.statement.Link.{Link}
use Rattle.il_types.specs.declared.counts.Counts.{Counts}
use Rattle.il_types.specs.declared.rules.Found.{Found}
use Rattle.il_types.specs.Counts.{counts_behind, too_many}
use Rattle.il_types.specs.Names.{counts_at}
use Rattle.il_types.specs.Rules.{unnamed}
use Rattle.il_called.specs.Called.{WrittenLine, own, call}
use Rattle.il_called.specs.Expansion.{Callee, brings, entry_width, is_returned, variables_in}
use Rattle.call_rules.specs.CalledText.{callees_before, lines_before}

-- the lines that a written line counts as, where a CALL of each earlier procedure counts as so many
abbrev pub lines_in : List ℕ → WrittenLine → ℕ
lines_in widths (own i) = 1
lines_in widths (call n arguments) = unwrap_or (slice_get widths n) 1

-- the lines that a CALL of a procedure counts as: one for each of its variables and OLD copies, those of its own lines, and one for each
-- INOUT and OUT parameter
abbrev pub counted_width : List ℕ → Callee → ℕ
counted_width widths callee = entry_width callee + sum_by (lines_in widths) callee.written.lines
    + count_by (λ v. is_returned v.mode) (variables_in callee.written.places)

-- the lines that a CALL of each procedure counts as, behind those that stand before it
abbrev pub widths_behind : List ℕ → List Callee → List ℕ
widths_behind before [] = before
widths_behind before (c ∷ cs) = widths_behind (before ++ counted_width before c ∷ []) cs

abbrev pub widths_of : List Callee → List ℕ
widths_of callees = widths_behind [] callees

-- counts with the lines that written lines count as and the places that they bring; places that are brought are counted with the OLD copies
abbrev pub expanded_counts : List Callee → List WrittenLine → Counts → Counts
expanded_counts callees lines c = record c { lines = sum_by (lines_in (widths_of callees)) lines; copies = c.copies + sum_by (brings callees) lines }

-- the counts behind statement i
abbrev pub counts_with_calls : List Placed → List Link → ℕ → Statement → Counts
counts_with_calls stmts links i x =
    let c = counts_behind (counts_at stmts i) x in
    expanded_counts (callees_before stmts links c.procedures) (lines_before stmts links c.procedures (i + 1)) c

abbrev pub excess_at : List Placed → List Link → ℕ → Statement → Option Found
excess_at stmts links i x = option_map (λ m. unnamed (code.TooMany m)) (too_many (counts_with_calls stmts links i x))
