use Rattle.std.proofs.Common.{◌≡◌, ◌+◌, ap, drop, get_or}
use Rattle.report_text.specs.Threats.{count_here}
use Rattle.report_text.proofs.Regions.{none_written, next_written, stopped_within, all_written, tail_of, front_of}
use Rattle.report_text.proofs.threats.put_regions.Goals as goal

pub loop-table-init : goal.loop-table-init
loop-table-init g c = none_written c.args.sink.now c.args.places.now c.args.tables.now c.args.threats.now

pub loop-table-preserved : goal.loop-table-preserved
loop-table-preserved g c =
    let here : c.count_here.result ≡ count_here (get_or c.args.tables.now c.loop-table.table-index c.table-item.result).pc (drop c.loop-table.before c.args.threats.now) =
    rw (tail_of c.args.threats.now c.loop-table.before, c.table-item.is) at c.count_here.ensures in
    next_written c.args.places.now c.args.tables.now c.args.threats.now c.loop-table.table-index c.loop-table.before (c.loop-table.before + c.count_here.result)
    c.table-item.result c.loop-table-test.true (ap (λ n. c.loop-table.before + n) here) c.loop-table.invariant
    (rw (c.table-item.is, front_of c.args.threats.now c.loop-table.before c.count_here.result, here) at c.in-Ok.ensures)

pub returns-in-Err : goal.returns-in-Err
returns-in-Err g c =
    let here : c.count_here.result ≡ count_here (get_or c.args.tables.now c.loop-table.table-index c.table-item.result).pc (drop c.loop-table.before c.args.threats.now) =
    rw (tail_of c.args.threats.now c.loop-table.before, c.table-item.is) at c.count_here.ensures in
    stopped_within c.args.places.now c.args.tables.now c.args.threats.now c.loop-table.table-index c.loop-table.before (c.loop-table.before + c.count_here.result)
    c.table-item.result c.in-Err.failed c.loop-table-test.true (ap (λ n. c.loop-table.before + n) here) c.loop-table.invariant
    (rw (c.table-item.is, front_of c.args.threats.now c.loop-table.before c.count_here.result, here) at c.in-Err.ensures)

pub returns : goal.returns
returns g c = all_written c.args.places.now c.args.tables.now c.args.threats.now c.loop-table.table-index c.loop-table.before c.loop-table-test.false c.loop-table.invariant
    (rw (tail_of c.args.threats.now c.loop-table.before) at c.put_each_threat.ensures)
