use Rattle.control_flow.proofs.Splits.{tails_back}
use Rattle.control_flow.proofs.splitting.back_tails.Goals as goal

pub returns : goal.returns
returns c =
    tails_back c.args.graph.now.arcs c.args.row.now c.in_ok-tails.tails c.args.reached.now c.args.around.now c.in_ok-through.through.items c.as_slice.result.now c.args.line
    c.requires.row c.requires.reached c.requires.around c.in_ok-through.ensures.exact c.as_slice.ensures.value c.in_ok-tails.ensures
