-- The lines that statements without an expression are, but for the ENDPROC.
use Rattle.std.specs.Prelude.{ℕ, List, [], ◌∷◌}
use Rattle.il_core.specs.Procedure.{Instruction}
use Rattle.il_core.specs.Procedure as line
use Rattle.il_core.specs.Statement.{Statement, otherwise, end_if, loop, end_loop, exit, label, goto, call, skip, return}

abbrev pub plain_lines : ℕ → Statement → List Instruction
plain_lines target otherwise = line.otherwise target ∷ []
plain_lines target end_if = line.end_if ∷ []
plain_lines target loop = line.loop ∷ []
plain_lines target end_loop = line.end_loop target ∷ []
plain_lines target exit = line.exit target ∷ []
plain_lines target (label name) = line.label ∷ []
plain_lines target (goto name) = line.goto target ∷ []
plain_lines target (call _ _) = line.skip ∷ []
plain_lines target skip = line.skip ∷ []
plain_lines target return = line.return target ∷ []
plain_lines target _ = []
