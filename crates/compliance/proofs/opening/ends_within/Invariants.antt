use Rattle.std.proofs.Common.{◌≡◌, drop}
use Rattle.il_core.specs.Checked.{procedure_of}
use Rattle.compliance.specs.Behind.{ends_within}
use Rattle.compliance.proofs.opening.ends_within.Given as goal

abbrev pub invariant-loop-line : goal.invariant-loop-line
invariant-loop-line l = ends_within (procedure_of l.fn.proc) l.fn.lines l.fn.path ≡ ends_within (procedure_of l.fn.proc) (drop l.line-index l.lines) l.left
