-- A pass and a sweep that changed nothing have met each constraint.
use Rattle.difference.proofs.Sweeps.{round-sweep}
use Rattle.difference.proofs.rounds.round.Goals as goal

pub returns-in_ok-outcome-in-Quiet : goal.returns-in_ok-outcome-in-Quiet
returns-in_ok-outcome-in-Quiet c =
    let same = rw c.in-Quiet.is at c.in_ok-pass.ensures in
    round-sweep c.args.ranges.now c.args.constraints.now c.args.table.now.count c.args.board.now c.sweep.new.board c.requires.given c.requires.ready same.1
    c.in_ok-outcome-in-Quiet.outcome (rw same.0 at c.in_ok-outcome-in-Quiet.ensures)
