use Rattle.std.proofs.Common.{◌≡◌, drop}
use Rattle.region_paths.specs.Region.{is_head, leading_of}
use Rattle.region_paths.proofs.walk.loop_of.Given as goal

abbrev pub invariant-loop-at : goal.invariant-loop-at
invariant-loop-at l = record {
  head : is_head l.loops l.line ≡ is_head (drop l.at l.loops) l.line;
  leading : leading_of l.loops l.line ≡ leading_of (drop l.at l.loops) l.line;
}
