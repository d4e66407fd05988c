-- A side whose bucket has lifted is quiet.
use Rattle.difference.proofs.Sweeps.{calm-spread}
use Rattle.difference.proofs.rounds.calm.Goals as goal

pub returns : goal.returns
returns c =
    let bucket = rw c.deref.ensures.value at c.bucket_at.ensures in
    calm-spread c.args.ranges.now c.args.constraints.now c.args.table.now.count c.args.table.now.buckets.items c.args.board.now c.hush.new.board c.spread.new.board
    c.args.place bucket.0 c.requires.filed bucket.1 c.requires.place c.requires.ready c.hush.ensures.values c.hush.ensures.chains c.hush.ensures.pending
    c.in_ok-outcome.outcome (rw bucket.2 at c.in_ok-outcome.ensures)
