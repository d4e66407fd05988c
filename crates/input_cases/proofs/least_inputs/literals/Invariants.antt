use Rattle.std.proofs.Common.{All}
use Rattle.sym_simplify.specs.Literal.{literal_form_of}
use Rattle.input_cases.specs.Asked.{IsAsked}
use Rattle.input_cases.proofs.least_inputs.literals.Given as goal

abbrev pub invariant-loop-one : goal.invariant-loop-one
invariant-loop-one l = All (λ f. IsAsked l.fn.places (literal_form_of f)) l.forms.items
