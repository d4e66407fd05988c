use Rattle.std.proofs.Common.{map}
use Rattle.il_core.specs.Procedure.{instruction_of}
use Rattle.flow_slice.specs.Sides.{IsLoose, side_at}
use Rattle.flow_slice.proofs.FixedTests.{FixedBelow}
use Rattle.flow_slice.proofs.fixing.fixed_tests.Given as goal

abbrev pub invariant-loop-line : goal.invariant-loop-line
invariant-loop-line l =
    FixedBelow (IsLoose (map instruction_of l.lines) l.reached l.marks) (side_at l.distances (map instruction_of l.lines)) l.line l.fixed
