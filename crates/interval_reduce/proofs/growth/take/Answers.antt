use Rattle.interval_reduce.proofs.Growing.{border_after}
use Rattle.interval_reduce.proofs.growth.take.Goals as goal

pub returns-clause-border : goal.returns-clause-border
returns-clause-border c =
    border_after c.args.border.now.items c.args.node _ _ c.add_free.new.nodes.items (rw (c.remove.ensures, c.row_at.ensures, c.as_slice.ensures.value) at c.in_ok-add_free.ensures)
