-- What is found at a call, worked out by hand. A procedure `f` has an INOUT, an OUT and an IN parameter with the range 0 to 9, and a procedure
-- `g` a LOCAL variable whose name has 38 bytes, a call of its own and a call without arguments; a procedure `p` has some variables, two
-- calls that fit, and the call.
use Rattle.std.specs.Prelude.{◌≡◌, ℕ, ◌+◌, pos, true, List, [], ◌∷◌, map, codes, Option, Some, None}
use Rattle.std.specs.Option.{option_or}
use Rattle.il_core.specs.Tree.{Tree, number, word, former, constant, two}
use Rattle.il_core.specs.Statement.{Statement, Placed, title, constant_is, procedure, variable, pre, post, call, end_procedure, finish}
use Rattle.il_core.specs.declared.operator.BinOp.TheVariants.{Add, Mul}
use Rattle.il_core.specs.declared.refusal.Code.TheVariants as code
use Rattle.il_core.specs.declared.statement.Bound.TheVariants as bound
use Rattle.il_core.specs.declared.statement.Mode.TheVariants.{Input, InOut, Output, Local}
use Rattle.il_core.specs.declared.statement.TypeUse.{TypeUse}
use Rattle.il_core.specs.declared.statement.TypeUse.TheVariants as use_
use Rattle.il_types.specs.declared.counts.Counts.{Counts}
use Rattle.il_types.specs.declared.rules.Found.{Found}
use Rattle.il_types.specs.Rules.{naming, unnamed, at_stmt}
use Rattle.call_rules.specs.Limits.{counts_with_calls}
use Rattle.call_rules.specs.Rules.{passes}

abbrev pub placed_at : ℕ → List Statement → List Placed
placed_at n [] = []
placed_at n (x ∷ xs) = record { place = n; says = x } ∷ placed_at n xs

abbrev pub digit : TypeUse
digit = use_.Range (bound.Number (pos 0)) (bound.Number (pos 9))

-- statement 26 is the call; of the variables of `p` one is free
abbrev pub worked_text : List ℕ → Statement → List Placed
worked_text free x = placed_at 0 (
    title (codes "t") ∷ constant_is (codes "k") (pos 3)
    ∷ procedure (codes "f") ∷ variable InOut (codes "v") digit ∷ variable Output (codes "w") digit ∷ variable Input (codes "n") digit
    ∷ pre (constant true) ∷ post (constant true) ∷ end_procedure
    ∷ procedure (codes "g") ∷ variable Local (codes "a2345678901234567890123456789012345678") digit
    ∷ pre (constant true) ∷ post (constant true) ∷ call (codes "g") [] ∷ call (codes "f") [] ∷ end_procedure
    ∷ procedure (codes "p") ∷ variable InOut (codes "x") digit ∷ variable Local (codes "y") digit ∷ variable Input (codes "r") digit
    ∷ variable Local (codes "b") use_.Bool ∷ variable Local free digit ∷ pre (constant true) ∷ post (constant true)
    ∷ call (codes "f") (word (codes "x") ∷ word (codes "y") ∷ number 1 ∷ []) ∷ call (codes "f") (word (codes "x") ∷ word (codes "y") ∷ number 1 ∷ [])
    ∷ x ∷ end_procedure ∷ finish ∷ []
    )

abbrev pub first_found : List (Option Found) → Option Found
first_found [] = None
first_found (o ∷ os) = option_or o (first_found os)

-- what the first rule that finds something at the call finds
abbrev pub found_with : List ℕ → Statement → Option Found
found_with free x = let stmts = worked_text free x in first_found (map (λ pass. at_stmt pass stmts 26) (passes stmts []))

abbrev pub found : Statement → Option Found
found x = found_with (codes "z") x

abbrev pub of_f : List Tree → Statement
of_f arguments = call (codes "f") arguments

-- the counts behind the call; each call of `f` counts as eight lines and four places
abbrev pub counted : Statement → Counts
counted x = let stmts = worked_text (codes "z") x in counts_with_calls stmts [] 26 x

pub record WorkedRules : Type 0 where
  pub fits : found (of_f (word (codes "x") ∷ word (codes "y") ∷ word (codes "k") ∷ [])) ≡ None
  pub new_name : found_with (codes "c3_n") (of_f (word (codes "x") ∷ word (codes "y") ∷ number 1 ∷ [])) ≡ Some (naming code.Twice (codes "c3_n"))
  pub old_name : found_with (codes "o3_v") (of_f (word (codes "x") ∷ word (codes "y") ∷ number 1 ∷ [])) ≡ Some (naming code.Twice (codes "o3_v"))
  pub no_procedure : found (call (codes "h") []) ≡ Some (naming code.Unknown (codes "h"))
  pub unknown_argument : found (of_f (word (codes "x") ∷ word (codes "u") ∷ number 1 ∷ [])) ≡ Some (naming code.Unknown (codes "u"))
  pub variable_called : found (call (codes "x") []) ≡ Some (unnamed code.Typing)
  pub constant_handed_back : found (of_f (word (codes "x") ∷ word (codes "k") ∷ number 1 ∷ [])) ≡ Some (unnamed code.Typing)
  pub truth_for_number : found (of_f (word (codes "x") ∷ word (codes "b") ∷ number 1 ∷ [])) ≡ Some (unnamed code.Typing)
  pub mistyped_past_the_last : found (of_f (word (codes "x") ∷ word (codes "y") ∷ number 1 ∷ two Add (number 1) (constant true) ∷ [])) ≡ Some (unnamed code.Typing)
  pub handed_back_to_in : found (of_f (word (codes "r") ∷ word (codes "y") ∷ number 1 ∷ [])) ≡ Some (unnamed code.Access)
  pub old_value : found (of_f (word (codes "x") ∷ word (codes "y") ∷ former (codes "x") ∷ [])) ≡ Some (unnamed code.Access)
  pub wide_argument : found (of_f (word (codes "x") ∷ word (codes "y") ∷ two Mul (number 9223372036854775808) (two Mul (number 9223372036854775808) (number 2)) ∷ []))
      ≡ Some (unnamed code.Wide)
  pub own_procedure : found (call (codes "p") (word (codes "x") ∷ number 1 ∷ [])) ≡ Some (unnamed code.BadCall)
  pub one_too_few : found (of_f (word (codes "x") ∷ word (codes "y") ∷ [])) ≡ Some (unnamed code.BadCall)
  pub one_too_many : found (of_f (word (codes "x") ∷ word (codes "y") ∷ number 1 ∷ number 1 ∷ [])) ≡ Some (unnamed code.BadCall)
  pub no_single_name : found (of_f (word (codes "x") ∷ two Add (word (codes "y")) (number 1) ∷ number 1 ∷ [])) ≡ Some (unnamed code.BadCall)
  pub one_variable_twice : found (of_f (word (codes "x") ∷ word (codes "x") ∷ number 1 ∷ [])) ≡ Some (unnamed code.BadCall)
  pub long_name : found (call (codes "g") []) ≡ Some (unnamed code.BadCall)
  pub lines_of_calls : (counted (of_f [])).lines ≡ 25
  pub places_of_calls : (counted (of_f [])).variables + (counted (of_f [])).copies ≡ 18
  pub line_of_own_call : (counted (call (codes "p") [])).lines ≡ 18
  pub places_of_own_call : (counted (call (codes "p") [])).variables + (counted (call (codes "p") [])).copies ≡ 14
  pub lines_of_nested_calls : (counted (call (codes "g") [])).lines ≡ 29
  pub places_of_nested_calls : (counted (call (codes "g") [])).variables + (counted (call (codes "g") [])).copies ≡ 19
