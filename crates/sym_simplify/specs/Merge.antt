-- The sum of two normal terms, and a normal term a number of times.
use Rattle.std.specs.Prelude.{ℤ, pos, ◌+ℤ◌, ◌*ℤ◌, if◌then◌else◌}
use Rattle.std.specs.Ordering.{int_eq}
use Rattle.std.specs.declared.cmp.Ordering.{Ordering}
use Rattle.std.specs.declared.cmp.Ordering.TheVariants.{Less, Equal, Greater}
use Rattle.sym_simplify.specs.Form.{Form, constant, part, Factor}
use Rattle.sym_simplify.specs.Order.{factor_cmp}
use Rattle.sym_simplify.specs.Norm.{before, shift}

-- the sum of two normal terms whose first parts compare like this, from the sums without the one, without both, without the other
abbrev pub merge_at : Ordering → ℤ → Factor → ℤ → Factor → Form → Form → Form → Form
merge_at Less c a d b first both second = part c a first
merge_at Equal c a d b first both second = before (c +ℤ d) b both
merge_at Greater c a d b first both second = part d b second

-- the sum of a normal term that begins with this part, given how to add its rest
abbrev pub merge_part : ℤ → Factor → (Form → Form) → Form → Form
merge_part c a more (constant d) = part c a (more (constant d))
merge_part c a more (part d b n) = merge_at (factor_cmp a b) c a d b (more (part d b n)) (more n) (merge_part c a more n)

abbrev pub merge : Form → Form → Form
merge (constant c) n = shift c n
merge (part c a m) n = merge_part c a (merge m) n

-- each number of the normal term multiplied
abbrev pub scale_parts : ℤ → Form → Form
scale_parts c (constant d) = constant (c *ℤ d)
scale_parts c (part d a n) = part (c *ℤ d) a (scale_parts c n)

abbrev pub scale : ℤ → Form → Form
scale c n = if int_eq c (pos 0) then constant (pos 0) else scale_parts c n
