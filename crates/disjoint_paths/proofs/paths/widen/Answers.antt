use Rattle.std.proofs.Common.{◌<◌, inl, inr, ap, length, arith}
use Rattle.std.proofs.lemmas.List.{get_or_read, take_rest}
use Rattle.disjoint_paths.specs.declared.widening.Opened.{Opened}
use Rattle.disjoint_paths.specs.declared.widening.Origin.TheVariants.{Tail}
use Rattle.disjoint_paths.specs.Asked.{arcs_of, targets_of}
use Rattle.disjoint_paths.proofs.Openings.{last_or_less}
use Rattle.disjoint_paths.proofs.Starts.{widened, no_more}
use Rattle.disjoint_paths.proofs.paths.widen.Goals as goal

pub returns-in-Some-clause-some : goal.returns-in-Some-clause-some
returns-in-Some-clause-some c =
    let s = rw c.in-Some.is at c.in_ok-end.ensures.some in
    let m = c.in_ok-end.ensures.grown.more in
    let l : c.loop-next.next < length c.visit.new.self.opened.items = omega arith in
    let same = c.in_ok-end.ensures.grown.same c.loop-next.next (omega arith) in
    let f = ap (λ (o : Opened). o.from) (get_or_read c.visit.new.self.opened.items c.loop-next.next c.index.result.now l c.index.ensures (record { line = 0; origin = Tail; from = 0 })) in
    widened (arcs_of c.args.asked.now) (targets_of c.args.asked.now) c.args.asked.now.tail c.args.asked.now.path.now (length c.args.asked.now.rows.now) c.visit.new.self.roles.items
    c.visit.new.self.opened.items c.as_slice.result.now c.visit.new.self.start c.loop-next.next c.in-Some.end c.in_ok-pair.pair (record { left = c.push.new.self; right = c.extend.new.list }) c.requires.first
    c.in_ok-end.ensures.state l c.as_slice.ensures.value c.in_ok-pair.ensures (rw same s.0) s.1 c.in_ok-push.ensures.ok (rw take_rest at (rw f at c.in_ok-extend.ensures))

pub loop-next-preserved : goal.loop-next-preserved
loop-next-preserved c =
    let m = c.in_ok-end.ensures.grown.more in
    let none = rw c.in_default.is at c.in_ok-end.ensures.none in
    record {
      state = c.in_ok-end.ensures.state;
      within = omega arith;
      closed = λ k h v arc. (
          let i : k < length c.loop-next.state.opened.items = omega arith in
          let same = c.in_ok-end.ensures.grown.same k i in
          elim (last_or_less k c.loop-next.next h) [
            | inl less ↦ c.in_ok-end.ensures.grown.kept v (c.loop-next.invariant.closed k less v (rw (← same) arc))
            | inr last ↦ none v (rw (last, ← same) arc)
          ]
          );
    }

pub returns-clause-none : goal.returns-clause-none
returns-clause-none c =
    no_more (arcs_of c.args.asked.now) (targets_of c.args.asked.now) c.args.asked.now.tail c.args.asked.now.path.now (length c.args.asked.now.rows.now) c.loop-next.state.roles.items
    c.loop-next.state.opened.items c.loop-next.state.start c.loop-next.next c.loop-next.invariant.state (omega arith) c.loop-next.invariant.closed
