use Rattle.std.proofs.Common.{◌≡◌, ◌∙◌, ap, arith, ◌-ℤ◌, to_z, of_z}
use Rattle.std.specs.Int.{w128}
use Rattle.std.proofs.lemmas.Int.{ints}
use Rattle.il_types.proofs.Saturated.{from_cut, cut}
use Rattle.il_types.proofs.bounds.Bounds.difference.Goals as goal

pub returns : goal.returns
returns c =
    let a = c.low.ensures in
    let b = c.high.ensures in
    let d = c.high-2.ensures in
    let e = c.low-2.ensures in
    let low : to_z w128 (of_z w128 c.low.result) -ℤ to_z w128 (of_z w128 c.high.result) ≡ c.args.self.low -ℤ c.args.other.high = omega (arith, ints, a.value, a.small, b.value, b.small) in
    let high : to_z w128 (of_z w128 c.high-2.result) -ℤ to_z w128 (of_z w128 c.low-2.result) ≡ c.args.self.high -ℤ c.args.other.low = omega (arith, ints, d.value, d.small, e.value, e.small) in
    let first : to_z w128 (of_z w128 c.saturating_sub.result) ≡ c.saturating_sub.result = omega (arith, ints, c.saturating_sub.type_inv) in
    let second : to_z w128 (of_z w128 c.saturating_sub-2.result) ≡ c.saturating_sub-2.result = omega (arith, ints, c.saturating_sub-2.type_inv) in
    from_cut (c.args.self.low -ℤ c.args.other.high) (c.args.self.high -ℤ c.args.other.low) _ _ c.new.result c.new.ensures
    (first ∙ c.saturating_sub.ensures ∙ ap cut low) (second ∙ c.saturating_sub-2.ensures ∙ ap cut high)
