use Rattle.std.proofs.Common.{◌≡◌, ◌∙◌, arith, ℤ, ◌*ℤ◌, to_z, of_z}
use Rattle.std.specs.Int.{w128}
use Rattle.std.proofs.lemmas.Int.{ints}
use Rattle.il_types.proofs.Saturated.{cut, cut_product, from_four}
use Rattle.il_types.proofs.bounds.Bounds.product.Goals as goal

abbrev again : ℤ → ℤ
again v = to_z w128 (of_z w128 v)

pub returns : goal.returns
returns c =
    let a = c.args.self in
    let b = c.args.other in
    let first_left : again c.low.result ≡ a.low = omega (arith, ints, c.low.ensures.value, c.low.ensures.small) in
    let first_right : again c.low-2.result ≡ b.low = omega (arith, ints, c.low-2.ensures.value, c.low-2.ensures.small) in
    let first_held : again c.saturating_mul-first.result ≡ c.saturating_mul-first.result = omega (arith, ints, c.saturating_mul-first.type_inv) in
    let first : again c.saturating_mul-first.result ≡ cut (a.low *ℤ b.low) =
    cut_product a.low b.low (again c.low.result) (again c.low-2.result) c.saturating_mul-first.result (again c.saturating_mul-first.result) first_left first_right c.saturating_mul-first.ensures first_held in
    let second_left : again c.low-3.result ≡ a.low = omega (arith, ints, c.low-3.ensures.value, c.low-3.ensures.small) in
    let second_right : again c.high.result ≡ b.high = omega (arith, ints, c.high.ensures.value, c.high.ensures.small) in
    let second_held : again c.saturating_mul-second.result ≡ c.saturating_mul-second.result = omega (arith, ints, c.saturating_mul-second.type_inv) in
    let second : again c.saturating_mul-second.result ≡ cut (a.low *ℤ b.high) =
    cut_product a.low b.high (again c.low-3.result) (again c.high.result) c.saturating_mul-second.result (again c.saturating_mul-second.result) second_left second_right c.saturating_mul-second.ensures second_held in
    let third_left : again c.high-2.result ≡ a.high = omega (arith, ints, c.high-2.ensures.value, c.high-2.ensures.small) in
    let third_right : again c.low-4.result ≡ b.low = omega (arith, ints, c.low-4.ensures.value, c.low-4.ensures.small) in
    let third_held : again c.saturating_mul-third.result ≡ c.saturating_mul-third.result = omega (arith, ints, c.saturating_mul-third.type_inv) in
    let third : again c.saturating_mul-third.result ≡ cut (a.high *ℤ b.low) =
    cut_product a.high b.low (again c.high-2.result) (again c.low-4.result) c.saturating_mul-third.result (again c.saturating_mul-third.result) third_left third_right c.saturating_mul-third.ensures third_held in
    let fourth_left : again c.high-3.result ≡ a.high = omega (arith, ints, c.high-3.ensures.value, c.high-3.ensures.small) in
    let fourth_right : again c.high-4.result ≡ b.high = omega (arith, ints, c.high-4.ensures.value, c.high-4.ensures.small) in
    let fourth_held : again c.saturating_mul-fourth.result ≡ c.saturating_mul-fourth.result = omega (arith, ints, c.saturating_mul-fourth.type_inv) in
    let fourth : again c.saturating_mul-fourth.result ≡ cut (a.high *ℤ b.high) =
    cut_product a.high b.high (again c.high-3.result) (again c.high-4.result) c.saturating_mul-fourth.result (again c.saturating_mul-fourth.result) fourth_left fourth_right c.saturating_mul-fourth.ensures fourth_held in
    let min_0 : again c.min.result ≡ c.min.result = omega (arith, ints, c.min.type_inv) in
    let min_1 : again c.min-2.result ≡ c.min-2.result = omega (arith, ints, c.min-2.type_inv) in
    let min_2 : again c.min-3.result ≡ c.min-3.result = omega (arith, ints, c.min-3.type_inv) in
    let max_0 : again c.max.result ≡ c.max.result = omega (arith, ints, c.max.type_inv) in
    let max_1 : again c.max-2.result ≡ c.max-2.result = omega (arith, ints, c.max-2.type_inv) in
    let max_2 : again c.max-3.result ≡ c.max-3.result = omega (arith, ints, c.max-3.type_inv) in
    from_four (a.low *ℤ b.low) (a.low *ℤ b.high) (a.high *ℤ b.low) (a.high *ℤ b.high)
    (again c.saturating_mul-first.result) (again c.saturating_mul-second.result) (again c.saturating_mul-third.result) (again c.saturating_mul-fourth.result)
    c.min.result c.min-2.result (again c.min.result) (again c.min-2.result) (again c.min-3.result)
    c.max.result c.max-2.result (again c.max.result) (again c.max-2.result) (again c.max-3.result)
    c.new.result c.new.ensures
    (min_2 ∙ c.min-3.ensures.value, min_0, min_1, c.min.ensures.value, c.min-2.ensures.value)
    (max_2 ∙ c.max-3.ensures.value, max_0, max_1, c.max.ensures.value, c.max-2.ensures.value)
    (first, second, third, fourth)
