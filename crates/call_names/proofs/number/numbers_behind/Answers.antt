use Rattle.call_names.proofs.Numbered.{one_more_name}
use Rattle.call_names.proofs.number.numbers_behind.Goals as goal

pub loop-name-preserved : goal.loop-name-preserved
loop-name-preserved c = one_more_name c.args.stem.now c.args.names.now c.loop-name.name-index c.name-item.result c.loop-name.numbers.items c.push_number.new.numbers.items
    c.number_behind.result c.loop-name-test.true c.name-item.is c.loop-name.invariant c.number_behind.ensures c.in_ok-push_number.ensures
