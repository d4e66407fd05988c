-- A normal term without pointers: its parts, each a coefficient with an atom, and the constant at the end.
use Rattle.std.specs.Prelude.{ℕ, ℤ, ◌+ℤ◌, ◌*ℤ◌}
use Rattle.il_core.specs.Evaluation.{State, value_at}
use Rattle.sym_terms.specs.Value.{quotient_by, remainder_by}

pub data Kind : Type 0 where
  times : Kind
  over : Kind
  rest : Kind

mutual
  pub data Form : Type 0 where
    constant : ℤ → Form
    part : ℤ → Factor → Form → Form

  pub data Factor : Type 0 where
    place : ℕ → Factor
    pair : Kind → Form → Form → Factor

-- what a kind of atom makes of the values of its sides
abbrev pub kind_value : Kind → ℤ → ℤ → ℤ
kind_value times a b = a *ℤ b
kind_value over a b = quotient_by a b
kind_value rest a b = remainder_by a b

-- the value of a normal term and of an atom in a state
abbrev mutual
  pub form_value : Form → State → ℤ
  form_value (constant c) s = c
  form_value (part c a n) s = (c *ℤ factor_value a s) +ℤ form_value n s

  pub factor_value : Factor → State → ℤ
  factor_value (place p) s = value_at s p
  factor_value (pair k m n) s = kind_value k (form_value m s) (form_value n s)
