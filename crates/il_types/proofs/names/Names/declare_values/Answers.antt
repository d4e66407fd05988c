use Rattle.std.proofs.Common.{◌∙◌, ◌+◌, ◌++◌, ◌∷◌, [], sym, ap, drop, if◌then◌else◌}
use Rattle.il_types.specs.Names.{entries_from}
use Rattle.il_types.proofs.Declaring.{far_cut, far_found, far_next, far_end, next_value, no_value}
use Rattle.il_types.proofs.names.Names.declare_values.Goals as goal

pub returns-then-is_taken : goal.returns-then-is_taken
returns-then-is_taken c =
    let at = c.args.at in
    let k = c.loop-k.k in
    let values = c.args.values.now in
    let v = c.index-values-k.result in
    let before = c.args.self.now in
    let es = entries_from 0 at 1 values in
    let rest = entries_from 0 at (k + 1 + 1) (drop (k + 1) values) in
    let cut = far_cut before es c.loop-k.self (entries_from 0 at (k + 1) (drop k values)) (((0, v), (at, k + 1)) ∷ rest) (next_value at k values v c.loop-k-test.true c.index-values-k.is) c.loop-k.invariant in
    far_found before es c.loop-k.self c.declare.new.self rest ((0, v), (at, k + 1)) cut (sym c.in_ok-is_taken.ensures.taken ∙ c.if-is_taken.true)

pub loop-k-preserved : goal.loop-k-preserved
loop-k-preserved c =
    let at = c.args.at in
    let k = c.loop-k.k in
    let values = c.args.values.now in
    let v = c.index-values-k.result in
    let before = c.args.self.now in
    let es = entries_from 0 at 1 values in
    let rest = entries_from 0 at (k + 1 + 1) (drop (k + 1) values) in
    let table = c.loop-k.self in
    let cut = far_cut before es table (entries_from 0 at (k + 1) (drop k values)) (((0, v), (at, k + 1)) ∷ rest) (next_value at k values v c.loop-k-test.true c.index-values-k.is) c.loop-k.invariant in
    far_next before es table c.declare.new.self rest ((0, v), (at, k + 1)) cut (sym c.in_ok-is_taken.ensures.taken ∙ c.if-is_taken.false)
    (c.in_ok-is_taken.ensures.names ∙ ap (λ b. if b then table else table ++ ((0, v), (at, k + 1)) ∷ []) c.if-is_taken.false)

pub returns : goal.returns
returns c =
    let at = c.args.at in
    let k = c.loop-k.k in
    let values = c.args.values.now in
    let before = c.args.self.now in
    let es = entries_from 0 at 1 values in
    far_end before es c.loop-k.self (far_cut before es c.loop-k.self (entries_from 0 at (k + 1) (drop k values)) [] (no_value at k values c.loop-k-test.false) c.loop-k.invariant)
