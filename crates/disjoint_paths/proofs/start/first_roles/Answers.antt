use Rattle.std.proofs.Common.{arith}
use Rattle.flow_graph.proofs.Members.{IsIn-get_or}
use Rattle.disjoint_paths.proofs.Starts.{placed_more}
use Rattle.disjoint_paths.proofs.start.first_roles.Goals as goal

pub index_mut-requires : goal.index_mut-requires
index_mut-requires c =
    let b = c.requires.path _ (IsIn-get_or c.args.asked.now.path.now c.loop-place.place 0 c.loop-place-test.true) in
    let s = c.loop-place.invariant.size in
    omega (arith, b, s)

pub loop-place-preserved : goal.loop-place-preserved
loop-place-preserved c =
    placed_more c.args.asked.now.path.now _ c.loop-place.place c.loop-place.roles.items c.loop-place.invariant c.loop-place-test.true
    (c.requires.path _ (IsIn-get_or c.args.asked.now.path.now c.loop-place.place 0 c.loop-place-test.true))
