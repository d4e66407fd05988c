-- The normal terms of products, quotients and remainders, from those of their sides.
use Rattle.std.specs.Prelude.{pos}
use Rattle.sym_simplify.specs.Form.{Kind, kind_value, Form, constant, part, Factor, pair}
use Rattle.sym_simplify.specs.Order.{form_cmp}
use Rattle.sym_simplify.specs.Norm.{lesser_first}
use Rattle.sym_simplify.specs.Merge.{scale}

-- one atom, once
abbrev pub single_form : Factor → Form
single_form a = part (pos 1) a (constant (pos 0))

abbrev pub product_form : Form → Form → Form
product_form (constant c) n = scale c n
product_form (part c a m) (constant d) = scale d (part c a m)
product_form (part c a m) (part d b n) = single_form (lesser_first (form_cmp (part c a m) (part d b n)) (part c a m) (part d b n))

abbrev pub division_form : Kind → Form → Form → Form
division_form k (constant c) (constant d) = constant (kind_value k c d)
division_form k (constant c) (part d b n) = single_form (pair k (constant c) (part d b n))
division_form k (part c a m) n = single_form (pair k (part c a m) n)
