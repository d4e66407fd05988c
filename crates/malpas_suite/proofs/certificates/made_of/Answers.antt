use Rattle.malpas_suite.proofs.Rows.{made_next}
use Rattle.malpas_suite.proofs.Tried.{there}
use Rattle.malpas_suite.proofs.certificates.made_of.Goals as goal

pub add_made-requires : goal.add_made-requires
add_made-requires c = c.requires c.index-threats-at.result (there c.args.threats.now c.loop-at.at c.index-threats-at.result c.loop-at-test.true c.index-threats-at.is)

pub loop-at-preserved : goal.loop-at-preserved
loop-at-preserved c =
    let added = c.in_ok-add_made.ensures in
    made_next c.args.proc.now.name c.args.proc.now.places c.args.threats.now c.loop-at.at c.index-threats-at.result c.loop-at.made c.add_made.new.made added.0
    c.loop-at-test.true c.index-threats-at.is c.loop-at.invariant added.1 added.2 added.3
