use Rattle.std.proofs.Common.{◌≡◌, ◌+◌, ◌-◌, length, ap, arith}
use Rattle.data_use.proofs.Collected.{IsCollected, collected, routes-with_last, routes-without_last}
use Rattle.data_use.proofs.routes.routes.Goals as goal
use Rattle.data_use.proofs.routes.routes.Goals.{then-marks-count+in_ok-push, else-marks-count}

pub returns : goal.returns
returns c =
    let g = c.args.graph.now in
    let marks = c.args.marks.now in
    let last = c.len-count.result - 1 in
    let size : last + 1 ≡ length g.nodes = omega (arith, c.len-count.ensures, c.requires.formed.some_nodes) in
    let all : IsCollected g marks c.add_exits.new.routes.items =
    collected g marks c.new-routes.result.items c.add_arcs.new.routes.items c.add_exits.new.routes.items c.as_slice.result.now c.new-routes.ensures.items c.as_slice.ensures
    c.requires.size c.in_ok-add_arcs.ensures c.in_ok-add_exits.ensures in
    elim c.if-marks-count.branch [
      | then-marks-count+in_ok-push w ↦
          routes-with_last g marks c.add_exits.new.routes.items c.if-marks-count.routes.items last (c.len-count.result + 1) size
          (ap (λ k. k + 1) c.len-count.ensures) c.requires.marks all w.if-marks-count.true (cc (w.routes-is, w.in_ok-push.ensures.items))
      | else-marks-count w ↦ routes-without_last g marks c.add_exits.new.routes.items c.if-marks-count.routes.items last size c.requires.marks all w.if-marks-count.false (cc w.routes-is)
    ]
