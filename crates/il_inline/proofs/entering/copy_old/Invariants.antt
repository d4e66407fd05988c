use Rattle.std.proofs.Common.{◌≡◌, ◌++◌, drop, map}
use Rattle.il_core.specs.Procedure.{instruction_of}
use Rattle.il_called.specs.Expansion.{copied}
use Rattle.il_inline.specs.Within.{AreWithin}
use Rattle.il_inline.proofs.entering.copy_old.Given as goal

-- the lines so far before those of the rest are all
abbrev pub invariant-loop-inout : goal.invariant-loop-inout
invariant-loop-inout l =
    let left = copied l.places l.base l.copy (drop l.inout-index l.inouts) in
    record {
      made : map instruction_of l.out ++ left ≡ map instruction_of l.initial.out ++ copied l.places l.base l.first l.inouts;
      within : AreWithin left;
    }
