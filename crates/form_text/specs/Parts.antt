-- The text of a normal term by the list of its parts: each with its sign, its coefficient and its atom, and the constant at the end.
use Rattle.std.specs.Prelude.{ℕ, ℤ, pos, unsigned_abs, Bool, true, false, List, [], ◌++◌, decimal, ◌==◌, ◌&&◌, if◌then◌else◌}
use Rattle.std.specs.Fmt.{signed_decimal}
use Rattle.std.specs.Ordering.{int_eq}
use Rattle.sym_simplify.specs.declared.normal.Part.{Part}
use Rattle.sym_simplify.specs.Form.{Form, constant, part, place}
use Rattle.sym_simplify.specs.FormText.{first_sign, later_sign, coefficient_text, factor_text}
use Rattle.sym_simplify.specs.Held.{factor_of}

abbrev pub sign_text : Bool → ℤ → List ℕ
sign_text first c = if first then first_sign c else later_sign c

abbrev pub part_text : (ℕ → List ℕ) → Bool → Part → List ℕ
part_text name first p = sign_text first p.coefficient ++ coefficient_text p.coefficient ++ factor_text name (factor_of p.atom)

-- the constant alone, or behind parts
abbrev pub end_text : Bool → ℤ → List ℕ
end_text true c = signed_decimal c
end_text false c = if int_eq c (pos 0) then [] else later_sign c ++ decimal (unsigned_abs c)

-- a normal term that is one place
abbrev pub is_place : ℕ → Form → Bool
is_place at (constant c) = false
is_place at (part c (place p) (constant d)) = int_eq c (pos 1) && (p == at) && int_eq d (pos 0)
is_place at (part c a n) = false
