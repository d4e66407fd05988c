use Rattle.std.proofs.Common.{map}
use Rattle.sym_simplify.specs.Literal.{literal_form_of}
use Rattle.semantic_tables.specs.Walk.{IsRefutedFirst}
use Rattle.semantic_tables.proofs.refuting.shortest_refuted.Given as goal

abbrev pub invariant-loop-count : goal.invariant-loop-count
invariant-loop-count l = IsRefutedFirst l.fn.exploration.proc.now.places l.fn.exploration.line (map literal_form_of l.fn.literals) l.shortest
