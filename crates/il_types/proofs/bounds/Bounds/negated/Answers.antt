use Rattle.std.proofs.Common.{◌≡◌, arith, pos, ◌-ℤ◌, neg_ℤ, to_z, of_z}
use Rattle.std.specs.Int.{w128}
use Rattle.std.proofs.lemmas.Int.{ints}
use Rattle.il_types.proofs.Saturated.{rewritten}
use Rattle.il_types.proofs.bounds.Bounds.negated.Goals as goal

pub returns : goal.returns
returns c =
    let h = c.high.ensures in
    let l = c.low.ensures in
    let low : to_z w128 (of_z w128 (pos 0 -ℤ to_z w128 (of_z w128 c.high.result))) ≡ neg_ℤ c.args.self.high = omega (arith, ints, h.value, h.small) in
    let high : to_z w128 (of_z w128 (pos 0 -ℤ to_z w128 (of_z w128 c.low.result))) ≡ neg_ℤ c.args.self.low = omega (arith, ints, l.value, l.small) in
    rewritten (neg_ℤ c.args.self.high) (neg_ℤ c.args.self.low) _ _ c.new.result c.new.ensures low high
