use Rattle.std.proofs.Common.{◌^◌}
use Rattle.threat_certs.specs.Measuring.{form_in, on_sides}
use Rattle.threat_certs.proofs.Measured.{up_found, no_up_at}
use Rattle.threat_certs.proofs.quantity.up_at.Goals as goal

pub returns-in-Some : goal.returns-in-Some
returns-in-Some c =
    up_found c.args.subject.now.places.now c.args.subject.now.pc (on_sides c.args.subject.now.literals.now c.args.sides.now) c.args.at (form_in c.in-Some.literal) c.in-Some.ensures.0
    (2 ^ 101) c.up.result c.up.ensures

pub returns-in-None : goal.returns-in-None
returns-in-None c =
    no_up_at c.args.subject.now.places.now c.args.subject.now.pc (on_sides c.args.subject.now.literals.now c.args.sides.now) c.args.at c.in-None.ensures
