use Rattle.path_expr.specs.Marks.{DefineMarked}
use Rattle.path_expr.proofs.definitions.defs_of.Given as goal

-- the marked ones among the first k steps are defined
abbrev pub invariant-loop-k : goal.invariant-loop-k
invariant-loop-k l = DefineMarked l.live l.steps l.used l.ranks l.k l.defs
