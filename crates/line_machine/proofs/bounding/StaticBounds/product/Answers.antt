use Rattle.std.proofs.Common.{◌≡◌, refl, ℤ, ◌*ℤ◌, rules, to_z, of_z}
use Rattle.std.specs.Int.{int_min, int_max, w128}
use Rattle.std.proofs.lemmas.Int.{ints}
use Rattle.line_machine.proofs.bounding.StaticBounds.product.Goals as goal

-- the least or the greatest of four products, two by two, of factors that were kept as they are
joined : (f : ℤ → ℤ → ℤ) (x y l h x' y' u v w : ℤ) → x' ≡ x → y' ≡ y → u ≡ f (x' *ℤ l) (x' *ℤ h) → v ≡ f (y' *ℤ l) (y' *ℤ h) → w ≡ f u v
    → w ≡ f (f (x *ℤ l) (x *ℤ h)) (f (y *ℤ l) (y *ℤ h))
joined f x y l h x' y' u v w a b c d e = rw (e, c, d, a, b) refl

pub returns-clause-low : goal.returns-clause-low
returns-clause-low c =
    let first : to_z w128 (of_z w128 c.args.self.low) ≡ c.args.self.low = search (rules, ints) in
    let second : to_z w128 (of_z w128 c.args.self.high) ≡ c.args.self.high = search (rules, ints) in
    joined int_min c.args.self.low c.args.self.high c.args.other.low c.args.other.high _ _ _ _ _ first second c.times-first.ensures.low c.times-second.ensures.low
    c.joined.ensures.low

pub returns-clause-high : goal.returns-clause-high
returns-clause-high c =
    let first : to_z w128 (of_z w128 c.args.self.low) ≡ c.args.self.low = search (rules, ints) in
    let second : to_z w128 (of_z w128 c.args.self.high) ≡ c.args.self.high = search (rules, ints) in
    joined int_max c.args.self.low c.args.self.high c.args.other.low c.args.other.high _ _ _ _ _ first second c.times-first.ensures.high c.times-second.ensures.high
    c.joined.ensures.high
