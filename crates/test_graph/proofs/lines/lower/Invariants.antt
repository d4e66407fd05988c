use Rattle.il_core.specs.Checked.{procedure_of}
use Rattle.test_graph.specs.Standing.{AreLowered}
use Rattle.test_graph.proofs.lines.lower.Given as goal

-- the lines so far are lowered
abbrev pub invariant-loop-pc : goal.invariant-loop-pc
invariant-loop-pc l = AreLowered (procedure_of l.proc) l.count l.pc l.nodes.items
