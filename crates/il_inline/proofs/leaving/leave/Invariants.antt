use Rattle.std.proofs.Common.{◌≡◌, ◌+◌, ◌++◌, drop, map}
use Rattle.il_core.specs.Procedure.{instruction_of}
use Rattle.il_called.specs.Called.{passed_of}
use Rattle.il_called.specs.Expansion.{handed_back}
use Rattle.il_inline.specs.Held.{place_under}
use Rattle.il_inline.specs.Within.{AreWithin}
use Rattle.il_inline.proofs.leaving.leave.Given as goal

-- the lines so far before those of the rest are all
abbrev pub invariant-loop-number : goal.invariant-loop-number
invariant-loop-number l =
    let left = handed_back (place_under l.under) (l.base + l.number) (drop l.number l.variables) (map passed_of l.rest) in
    record {
      made : map instruction_of l.out ++ left ≡ map instruction_of l.initial.out ++ handed_back (place_under l.under) l.base l.variables (map passed_of l.arguments);
      within : AreWithin left;
    }
