use Rattle.std.proofs.Common.{◌≡◌, ◌+◌, ◌-◌, Err, sym, ap, subst, ◌∙◌, arith}
use Rattle.il_syntax.specs.Expression.{kinds}
use Rattle.il_syntax.specs.ExpressionReading.{Gives, ◌>>=◌, view, joined, further, climb}
use Rattle.il_syntax.proofs.ExpressionSteps.{fails_bind, climb-none, climb-some, further-ends, further-full, further-goes, same_count}
use Rattle.il_syntax.proofs.expression.+climb.Goals as goal

pub climb-returns-then-room-eq0-clause-value : goal.climb-returns-then-room-eq0-clause-value
climb-returns-then-room-eq0-clause-value t c = climb-none c.args.room c.args.least (kinds c.args.tokens.now) c.if-room-eq0.true

pub climb-returns-in-Err-clause-value : goal.climb-returns-in-Err-clause-value
climb-returns-in-Err-clause-value t c =
    subst (Gives (Err c.in-Err.end)) (sym (climb-some c.args.room c.args.least (kinds c.args.tokens.now) (omega arith)))
    (fails_bind c.in-Err.end _ _ c.in-Err.ensures.value)

pub climb-returns-in-Ok-clause-value : goal.climb-returns-in-Ok-clause-value
climb-returns-in-Ok-clause-value t c =
    subst (Gives c.further.result)
    (sym (climb-some c.args.room c.args.least (kinds c.args.tokens.now) (omega arith)
    ∙ ap (λ o. o >>= (λ x. further (climb (c.args.room - 1)) (c.args.room - 1 + 1) (c.args.room - 1) c.args.least x.0 x.1)) c.in-Ok.ensures.value))
    c.further.ensures.value

pub further-returns-then-seen-room-clause-value : goal.further-returns-then-seen-room-clause-value
further-returns-then-seen-room-clause-value t c =
    sym c.sides.invariant.same
    ∙ further-full (climb c.args.room) c.args.room c.args.least (c.args.room + 1) (view c.sides.seen) (kinds c.sides.rest.now) (c.in-Some.op, kinds c.in-Some.behind.now) c.in-Some.ensures c.if-seen-room.true

pub further-returns-in-Err-clause-value : goal.further-returns-in-Err-clause-value
further-returns-in-Err-clause-value t c =
    let goes = further-goes (climb c.args.room) c.args.room c.args.least c.args.room (view c.sides.seen) (kinds c.sides.rest.now) (c.in-Some.op, kinds c.in-Some.behind.now) c.in-Some.ensures c.if-seen-room.false in
    let fails = subst (λ n. Gives (Err c.in-Err.end) (climb c.args.room (n + 1) (kinds c.in-Some.behind.now))) c.own_level.ensures.value c.in-Err.ensures.value in
    subst (Gives (Err c.in-Err.end)) (sym goes ∙ c.sides.invariant.same) (fails_bind c.in-Err.end _ _ fails)

pub further-sides-preserved : goal.further-sides-preserved
further-sides-preserved t c =
    let goes = further-goes (climb c.args.room) c.args.room c.args.least c.args.room (view c.sides.seen) (kinds c.sides.rest.now) (c.in-Some.op, kinds c.in-Some.behind.now) c.in-Some.ensures c.if-seen-room.false in
    let right = ap (λ n. climb c.args.room (n + 1) (kinds c.in-Some.behind.now)) (sym c.own_level.ensures.value) ∙ c.in-Ok.ensures.value in
    let both = joined c.in-Some.op (view c.sides.seen) (view c.in-Ok.right) in
    let is_both : view c.in_ok-seen-in-Ok.seen ≡ both = c.in_ok-seen-in-Ok.ensures in
    let deep = ap (λ x. x.depth) is_both in
    record {
      shallow = omega (arith, deep, c.in-Ok.ensures.shallow);
      same = ap (λ x. further (climb c.args.room) (c.args.room + 1) c.args.room c.args.least x (kinds c.in-Ok.after.now)) is_both
          ∙ same_count (climb c.args.room) c.args.room c.args.least (c.args.room + 1) c.args.room both (kinds c.in-Ok.after.now) (omega arith) (omega arith)
          ∙ sym (ap (λ o. o >>= (λ y. further (climb c.args.room) c.args.room c.args.room c.args.least (joined c.in-Some.op (view c.sides.seen) y.0) y.1)) right)
          ∙ sym goes
          ∙ c.sides.invariant.same;
    }

pub further-returns-clause-value : goal.further-returns-clause-value
further-returns-clause-value t c =
    sym c.sides.invariant.same
    ∙ further-ends (climb c.args.room) c.args.room c.args.least (c.args.room + 1) (view c.sides.seen) (kinds c.sides.rest.now) c.in_default.ensures
