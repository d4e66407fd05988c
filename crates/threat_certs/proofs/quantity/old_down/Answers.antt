use Rattle.std.proofs.Common.{[], arith}
use Rattle.threat_certs.specs.Adding.{total_in}
use Rattle.threat_certs.proofs.Measured.{falling_measured, no_falling}
use Rattle.threat_certs.proofs.quantity.old_down.Goals as goal

pub returns-in_ok-difference-in-Some : goal.returns-in_ok-difference-in-Some
returns-in_ok-difference-in-Some c =
    falling_measured c.args.subject.now.places.now c.args.subject.now.pc [] c.in-Some.variable c.args.copy (omega arith) c.in-Some.ensures
    (total_in c.in_ok-difference-in-Some.field-0) c.in_ok-difference-in-Some.ensures

pub returns-in-None : goal.returns-in-None
returns-in-None c = no_falling c.args.subject.now.places.now c.args.subject.now.pc [] c.args.copy c.in-None.ensures
