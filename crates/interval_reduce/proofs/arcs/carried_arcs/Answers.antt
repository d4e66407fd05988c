use Rattle.std.proofs.Common.{sym, ◌∙◌}
use Rattle.std.specs.Prelude.{slice_index}
use Rattle.flow_graph.proofs.Members.{IsIn-get_or}
use Rattle.interval_reduce.proofs.Carrying.{carried_push, carried_skip}
use Rattle.interval_reduce.proofs.arcs.carried_arcs.Goals as goal
use Rattle.interval_reduce.proofs.arcs.carried_arcs.Goals.{then-tail-head+in_ok-push, else-tail-head}

pub owner_at-tail-requires : goal.owner_at-tail-requires
owner_at-tail-requires c = (c.requires _ _ (IsIn-get_or c.args.arcs.now c.loop-arc.arc-index (record { tail = 0; head = 0 }) c.loop-arc-test.true)).tail

pub owner_at-head-requires : goal.owner_at-head-requires
owner_at-head-requires c = (c.requires _ _ (IsIn-get_or c.args.arcs.now c.loop-arc.arc-index (record { tail = 0; head = 0 }) c.loop-arc-test.true)).head

pub loop-arc-preserved : goal.loop-arc-preserved
loop-arc-preserved c = elim c.if-tail-head.branch [
  | then-tail-head+in_ok-push w ↦
      rw (w.carried-is, w.in_ok-push.ensures.ok, c.owner_at-tail.ensures, c.owner_at-head.ensures)
      (carried_push (slice_index c.args.owners.now) c.args.arcs.now c.loop-arc.arc-index (record { tail = 0; head = 0 }) c.loop-arc.carried c.loop-arc-test.true
      (λ e. w.if-tail-head.true (c.owner_at-tail.ensures ∙ e ∙ sym c.owner_at-head.ensures)) c.loop-arc.invariant)
  | else-tail-head w ↦
      rw w.carried-is
      (carried_skip (slice_index c.args.owners.now) c.args.arcs.now c.loop-arc.arc-index (record { tail = 0; head = 0 }) c.loop-arc.carried c.loop-arc-test.true
      (sym c.owner_at-tail.ensures ∙ w.if-tail-head.false ∙ c.owner_at-head.ensures) c.loop-arc.invariant)
]
