-- The rules of the statements, at a CALL. Its arguments are values that are assigned to the parameters, and the INOUT and OUT parameters
-- are assigned back to the variables that they are given; in these assignments a parameter is a LOCAL variable.
use Rattle.std.specs.Prelude.{ℕ, Bool, true, ◌&&◌, List, [], ◌∷◌, Option, Some, None, is_some, if◌then◌else◌}
use Rattle.std.specs.List.{list_all}
use Rattle.std.specs.Option.{option_map, option_or}
use Rattle.il_core.specs.Statement.{Statement, Placed, call}
use Rattle.il_core.specs.Tree.{Tree, word}
use Rattle.il_core.specs.declared.refusal.Code.TheVariants as code
use Rattle.il_types.specs.declared.counts.Counts.{Counts}
use Rattle.il_types.specs.declared.kind.Kind.{Kind}
use Rattle.il_types.specs.declared.modes.Part.TheVariants as part
use Rattle.il_types.specs.declared.rules.Found.{Found}
use Rattle.il_types.specs.declared.rules.Rule.{Rule}
use Rattle.il_types.specs.declared.rules.Rule.TheVariants as rule
use Rattle.il_types.specs.Modes.{mode_of, may_assign, keeps_modes}
use Rattle.il_types.specs.Names.{Setting, counts_at}
use Rattle.il_types.specs.Narrow.{static_bounds}
use Rattle.il_types.specs.Rules.{naming, unless, fault}
use Rattle.il_types.specs.Typing.{kind_of, kind_of_variable, may_hold}
use Rattle.il_types.specs.Unknown.{unknown_name, unknown_in}
use Rattle.il_built.specs.Holding.{setting_at}
use Rattle.il_called.specs.Expansion.{is_returned}
use Rattle.call_rules.specs.declared.parameters.Parameter.{Parameter}
use Rattle.call_rules.specs.Callee.{Pairing, procedure_named, parameters_named, pairings}

-- the variable to which a parameter is assigned back: the argument of an INOUT or OUT parameter, where it is a single name
abbrev pub single_name : Tree → Option (List ℕ)
single_name (word name) = Some name
single_name _ = None

abbrev pub back_to : Pairing → Option (List ℕ)
back_to g = elim g.parameter [ None ↦ None | Some p ↦ (if is_returned p.mode then single_name g.argument else None) ]

-- names known: that of the procedure, then those in the arguments
abbrev pub first_unknown : Setting → List Tree → Option (List ℕ)
first_unknown s [] = None
first_unknown s (e ∷ es) = option_or (unknown_in s e) (first_unknown s es)

abbrev pub unknown_in_call : Setting → List ℕ → List Tree → Option (List ℕ)
unknown_in_call s name arguments = option_or (unknown_name s name) (first_unknown s arguments)

-- types: an argument is assigned to its parameter, or without one has some kind; and the parameter is assigned back, which a name that is no
-- variable takes from none
abbrev pub may_be_given : Option Parameter → Option Kind → Bool
may_be_given None kind = is_some kind
may_be_given (Some p) kind = may_hold p.kind kind

abbrev pub kind_given : Option Parameter → Option Kind
kind_given None = None
kind_given (Some p) = p.kind

abbrev pub takes_back : Setting → Pairing → Option (List ℕ) → Bool
takes_back s g None = true
takes_back s g (Some name) = may_hold (kind_of_variable s name) (kind_given g.parameter)

abbrev pub is_typed_pairing : Setting → Pairing → Bool
is_typed_pairing s g = may_be_given g.parameter (kind_of s g.argument) && takes_back s g (back_to g)

abbrev pub is_typed_call : Setting → List ℕ → List Tree → Bool
is_typed_call s name arguments = is_some (procedure_named s name) && list_all (is_typed_pairing s) (pairings (parameters_named s name) arguments)

-- modes: no argument has an OLD, and what is assigned back goes to no IN variable
abbrev pub may_take_back : Setting → Option (List ℕ) → Bool
may_take_back s None = true
may_take_back s (Some name) = may_assign (mode_of s name)

abbrev pub is_allowed_pairing : Setting → Pairing → Bool
is_allowed_pairing s g = may_take_back s (back_to g) && keeps_modes s part.Action g.argument

abbrev pub is_allowed_call : Setting → List ℕ → List Tree → Bool
is_allowed_call s name arguments = list_all (is_allowed_pairing s) (pairings (parameters_named s name) arguments)

-- bounds: those of each argument; what is assigned back is a variable, whose range has bounds that are small
abbrev pub is_narrow_call : Setting → List Tree → Bool
is_narrow_call s arguments = list_all (λ e. is_some (static_bounds s e)) arguments

-- what a CALL breaks of a rule; it declares no range, and limits are told apart
abbrev pub call_fault : Rule → Setting → List ℕ → List Tree → Option Found
call_fault rule.Known s name arguments = option_map (naming code.Unknown) (unknown_in_call s name arguments)
call_fault rule.Typed s name arguments = unless (is_typed_call s name arguments) code.Typing
call_fault rule.Allowed s name arguments = unless (is_allowed_call s name arguments) code.Access
call_fault rule.Filled s name arguments = None
call_fault rule.Narrow s name arguments = unless (is_narrow_call s arguments) code.Wide
call_fault rule.Limited s name arguments = None

-- what a statement breaks of a rule, with the counts before it
abbrev pub fault_in : Rule → Setting → Counts → Statement → Option Found
fault_in r s c (call name arguments) = call_fault r s name arguments
fault_in r s c x = fault r s c x

abbrev pub fault_at : Rule → List Placed → ℕ → Statement → Option Found
fault_at r stmts i x = fault_in r (setting_at stmts i) (counts_at stmts i) x
