use Rattle.std.proofs.Common.{◌≡◌, ◌++◌, ◌≤◌, sym, subst, map, length, List, IfOk}
use Rattle.il_called.specs.Called.{passed_of}
use Rattle.il_called.specs.declared.called.Origin.{Origin}
use Rattle.il_inline.specs.Held.{callee_held, callees_held}
use Rattle.il_inline.proofs.Held.{held_read, width_held, origins_held}
use Rattle.il_inline.proofs.origins.push_origins.Goals as goal

pub push_call_origins-requires : goal.push_call_origins-requires
push_call_origins-requires c =
    let below = rw c.in-Call.is at c.requires.below in
    let it = callee_held c.index-written-callee.result c.index-inlined-callee.result in
    let held = held_read c.args.written.now c.args.inlined.now c.in-Call.callee c.index-written-callee.result c.index-inlined-callee.result c.requires.sizes below c.index-written-callee.is c.index-inlined-callee.is in
    subst (λ k. k ≤ 1000) (width_held (callees_held c.args.written.now c.args.inlined.now) c.in-Call.callee (map passed_of c.in-Call.field-1) it held) (rw c.in-Call.is at c.requires.few)

pub returns-in-Call : goal.returns-in-Call
returns-in-Call c =
    let below = rw c.in-Call.is at c.requires.below in
    let it = callee_held c.index-written-callee.result c.index-inlined-callee.result in
    let held = held_read c.args.written.now c.args.inlined.now c.in-Call.callee c.index-written-callee.result c.index-inlined-callee.result c.requires.sizes below c.index-written-callee.is c.index-inlined-callee.is in
    let same = sym (origins_held (callees_held c.args.written.now c.args.inlined.now) (length c.args.inlined.now) c.args.at c.in-Call.callee (map passed_of c.in-Call.field-1) it held) in
    rw c.in-Call.is
    (subst (λ (l : List Origin). IfOk c.push_call_origins.result (λ x. c.push_call_origins.new.out.items ≡ c.args.out.now.items ++ l)) same c.push_call_origins.ensures)
