use Rattle.std.proofs.Common.{◌≡◌, ◌∙◌, length, map, true, false, ap, eq-eqb}
use Rattle.cert_text.specs.Text.{named_of}
use Rattle.cert_text.proofs.Certs.{none_so_far, more_so_far, head_stuck, body_fails}
use Rattle.cert_text.proofs.reading.read_all.Goals as goal

pub loop-rest-init : goal.loop-rest-init
loop-rest-init c =
    let none = none_so_far c.args.names.now c.args.text.now c.new-certs.result c.new-certs.ensures in
    record { front = none.front; readable = none.readable }

pub returns-in_default : goal.returns-in_default
returns-in_default c =
    head_stuck c.args.names.now (map named_of c.loop-rest.certs) c.args.text.now c.loop-rest.rest.now c.loop-rest.invariant.readable c.loop-rest.invariant.front
    (λ e. let t : false ≡ true = c.loop-rest-test.ensures ∙ eq-eqb (length c.loop-rest.rest.now) 0 (ap length e) in cc) c.in_default.ensures

pub loop-rest-preserved : goal.loop-rest-preserved
loop-rest-preserved c =
    let head = c.in-Some.ensures in
    let body = c.in-Ok.ensures in
    let more = more_so_far c.args.names.now c.args.text.now c.loop-rest.rest.now c.in-Some.head.behind.now c.in-Ok.after.now c.loop-rest.certs c.push.new.self
    (record { procedure = c.in-Some.head.procedure; threat = c.in-Some.head.threat; body = c.in-Ok.body })
    (record { front = c.loop-rest.invariant.front; readable = c.loop-rest.invariant.readable }) c.in_ok-push-in-Ok.ensures.ok head.1 head.0 body.0 body.1 in
    record { front = more.front; readable = more.readable }

pub returns-in-Err : goal.returns-in-Err
returns-in-Err c =
    let head = c.in-Some.ensures in
    body_fails c.args.names.now (map named_of c.loop-rest.certs) c.in-Some.head.procedure c.in-Some.head.threat c.args.text.now c.loop-rest.rest.now c.in-Some.head.behind.now c.in-Err.end
    c.loop-rest.invariant.readable head.1 c.loop-rest.invariant.front head.0 c.in-Err.ensures
