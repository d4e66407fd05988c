use Rattle.std.proofs.Common.{◌≡◌, ◌-◌, ◌≤◌, ◌++◌}
use Rattle.std.specs.List.{flat_map, range_with_len}
use Rattle.made_text.specs.Made.{opening_text, round_text}
use Rattle.made_text.proofs.making.make_text.Given as goal

abbrev pub invariant-loop-least : goal.invariant-loop-least
invariant-loop-least l = record {
  first : 1 ≤ l.least;
  last : l.least ≤ l.number;
  before : l.text.items ≡ opening_text l.number ++ flat_map round_text (range_with_len 1 (l.least - 1));
}
