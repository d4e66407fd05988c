use Rattle.std.proofs.Common.{◌∙◌, ◌<◌, length, get_or, arith}
use Rattle.std.proofs.lemmas.List.{length-set}
use Rattle.flow_graph.proofs.Members.{IsIn-get_or}
use Rattle.interval_reduce.proofs.Carrying.{noted_more}
use Rattle.interval_reduce.proofs.arcs.note_members.Goals as goal

pub index_mut-requires : goal.index_mut-requires
index_mut-requires c =
    let b = c.requires _ (IsIn-get_or c.args.members.now c.loop-member.member-index 0 c.loop-member-test.true) in
    let s = c.loop-member.invariant.size in omega arith

pub loop-member-preserved : goal.loop-member-preserved
loop-member-preserved c =
    let b = c.requires _ (IsIn-get_or c.args.members.now c.loop-member.member-index 0 c.loop-member-test.true) in
    let s = c.loop-member.invariant.size in
    let l : get_or c.args.members.now c.loop-member.member-index 0 < length c.loop-member.owners.items = omega arith in
    record {
      size = length-set _ _ _ ∙ s;
      owners = noted_more c.args.owners.now.items c.loop-member.owners.items c.args.members.now c.loop-member.member-index c.args.head c.loop-member-test.true l c.loop-member.invariant.owners;
    }
