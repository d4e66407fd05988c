use Rattle.std.specs.Fmt.{digits}
use Rattle.std.proofs.Common.{refl}
use Rattle.il_called.specs.Expansion.{callees_of}
use Rattle.call_rules.proofs.laws.worked_rules.Goals as goal

pub returns : goal.returns
unfolding callees_of digits
returns c = record {
  fits = refl;
  new_name = refl;
  old_name = refl;
  no_procedure = refl;
  unknown_argument = refl;
  variable_called = refl;
  constant_handed_back = refl;
  truth_for_number = refl;
  mistyped_past_the_last = refl;
  handed_back_to_in = refl;
  old_value = refl;
  wide_argument = refl;
  own_procedure = refl;
  one_too_few = refl;
  one_too_many = refl;
  no_single_name = refl;
  one_variable_twice = refl;
  long_name = refl;
  lines_of_calls = refl;
  places_of_calls = refl;
  line_of_own_call = refl;
  places_of_own_call = refl;
  lines_of_nested_calls = refl;
  places_of_nested_calls = refl;
}
