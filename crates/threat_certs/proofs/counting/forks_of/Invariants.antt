use Rattle.std.proofs.Common.{◌≡◌, ◌++◌, drop, map}
use Rattle.sym_simplify.specs.Literal.{literal_form_of}
use Rattle.threat_certs.specs.Counting.{forks_from}
use Rattle.threat_certs.proofs.counting.forks_of.Given as goal

-- those so far before those of the rest are all
abbrev pub invariant-loop-literal : goal.invariant-loop-literal
invariant-loop-literal l = l.forks.items ++ forks_from l.literal (map literal_form_of (drop l.literal l.literals)) ≡ forks_from 0 (map literal_form_of l.fn.literals)
