use Rattle.std.proofs.Common.{arith}
use Rattle.control_flow.specs.Loop.{IsMember}
use Rattle.control_flow.proofs.Listing.{lists_same, ok_map}
use Rattle.control_flow.proofs.Leading.{member_marks}
use Rattle.control_flow.proofs.loops.members_of.Goals as goal

pub returns : goal.returns
returns c =
    ok_map c.marked_lines.result _ _ (λ xs l. lists_same _ (IsMember c.args.graph.now.arcs c.args.head) xs l (
    (member_marks c.args.graph.now c.in_ok-found.found c.args.unreached.now c.in_ok-members.members.items c.as_slice-2.result.now c.args.head c.in_ok-found.ensures.size
    c.in_ok-found.ensures.exact c.requires.unreached (rw c.as_slice.ensures at c.in_ok-members.ensures.exact)
    (let s = c.in_ok-found.ensures.size in let t = rw c.as_slice.ensures at c.in_ok-members.ensures.size in let h = c.requires.head.0 in omega (arith, s, t, h))
    c.requires.head.1 c.as_slice-2.ensures.value))) c.marked_lines.ensures
