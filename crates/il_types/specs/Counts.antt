-- What the statements in front of a statement come to: how many they are, their procedures, and of the latest procedure the variables,
-- the OLD copies and the lines.
use Rattle.std.specs.Prelude.{ℕ, ◌+◌, Bool, true, false, Option, Some, None, if◌then◌else◌, nat_lt}
use Rattle.il_core.specs.Run.{is_inout}
use Rattle.il_core.specs.Statement.{Statement, title, constant_is, range_type, wrap_type, enum_type, procedure, variable, post, finish}
use Rattle.il_core.specs.declared.refusal.Many.{Many}
use Rattle.il_core.specs.declared.refusal.Many.TheVariants as many
use Rattle.il_types.specs.declared.counts.Counts.{Counts}

-- the lines of a procedure are its PRE, its body and its ENDPROC
abbrev pub is_line : Statement → Bool
is_line (title _) = false
is_line (constant_is _ _) = false
is_line (range_type _ _ _) = false
is_line (wrap_type _ _ _) = false
is_line (enum_type _ _) = false
is_line (procedure _) = false
is_line (variable _ _ _) = false
is_line (post _) = false
is_line finish = false
is_line _ = true

abbrev pub no_counts : Counts
no_counts = record { statements = 0; procedures = 0; variables = 0; copies = 0; lines = 0 }

abbrev pub one_if : Bool → ℕ
one_if b = if b then 1 else 0

-- one statement more
abbrev pub counts_behind : Counts → Statement → Counts
counts_behind c (procedure _) = record { statements = c.statements + 1; procedures = c.procedures + 1; variables = 0; copies = 0; lines = 0 }
counts_behind c (variable mode _ _) = record c { statements = c.statements + 1; variables = c.variables + 1; copies = c.copies + one_if (is_inout mode) }
counts_behind c x = record c { statements = c.statements + 1; lines = c.lines + one_if (is_line x) }

-- what there is too much of: more than 64 procedures, 1000 lines or 64 places
abbrev pub too_many : Counts → Option Many
too_many c = if nat_lt 64 c.procedures then Some many.Procedures
    else (if nat_lt 1000 c.lines then Some many.Lines
    else (if nat_lt 64 (c.variables + c.copies) then Some many.Places else None))
