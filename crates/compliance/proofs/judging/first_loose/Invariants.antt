use Rattle.std.proofs.Common.{map}
use Rattle.sym_simplify.specs.Literal.{literal_form_of}
use Rattle.compliance.proofs.Loose.{NoneIsLoose}
use Rattle.compliance.proofs.judging.first_loose.Given as goal

abbrev pub invariant-loop-at : goal.invariant-loop-at
invariant-loop-at l = NoneIsLoose (map literal_form_of l.literals) l.at l.count
