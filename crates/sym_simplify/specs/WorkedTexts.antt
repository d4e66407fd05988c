-- The texts of some normal terms and of some forms of literals over the places a, b and c, worked out by hand.
use Rattle.std.specs.Prelude.{◌≡◌, ℕ, zero, suc, pos, negsuc, List, codes}
use Rattle.il_core.specs.declared.operator.Relation.TheVariants.{Le}
use Rattle.sym_simplify.specs.Form.{Form, times, over, rest, constant, part, place, pair}
use Rattle.sym_simplify.specs.FormText.{form_text, literal_form_text}
use Rattle.sym_simplify.specs.Literal.{keep}

abbrev pub letter : ℕ → List ℕ
letter zero = codes "a"
letter (suc zero) = codes "b"
letter (suc (suc p)) = codes "OLD a"

-- the normal term that is one place
abbrev pub just : ℕ → Form
just p = part (pos 1) (place p) (constant (pos 0))

abbrev pub quotient : Form → Form → Form
quotient m n = part (pos 1) (pair over m n) (constant (pos 0))

pub record WorkedTexts : Type 0 where
  pub constants : form_text letter (constant (negsuc 6)) ≡ codes "-7"
  pub place_alone : form_text letter (just 2) ≡ codes "OLD a"
  pub signs : form_text letter (part (negsuc 0) (place 0) (part (pos 1) (place 1) (part (negsuc 2) (place 2) (constant (negsuc 4))))) ≡ codes "-a + b - 3*OLD a - 5"
  pub product_of_a_quotient : form_text letter (part (pos 1) (pair times (just 1) (quotient (just 0) (just 1))) (constant (pos 0))) ≡ codes "b*((a DIV b))"
  pub remainder_of_a_quotient : form_text letter (part (pos 1) (pair rest (quotient (just 0) (constant (pos 3))) (constant (pos 2))) (constant (pos 0))) ≡ codes "(((a DIV 3)) MOD 2)"
  pub wrapped : form_text letter (part (pos 1) (pair rest (part (pos 2) (place 0) (constant (pos 128))) (constant (pos 256))) (constant (negsuc 127))) ≡ codes "((2*a + 128) MOD 256) - 128"
  pub negative_side : form_text letter (part (negsuc 1) (pair times (constant (negsuc 0)) (just 1)) (constant (pos 0))) ≡ codes "-2*(-1)*b"
  pub literal : literal_form_text letter (keep (part (pos 1) (place 0) (part (negsuc 0) (place 1) (constant (pos 0)))) Le (negsuc 8)) ≡ codes "a - b <= -9"
