use Rattle.std.proofs.Common.{◌≡◌, ◌++◌, length, map}
use Rattle.il_core.specs.LineGraph.{IsIn}
use Rattle.data_use.specs.Facts.{IsUseRow, variables_from, place_of}
use Rattle.data_use.specs.declared.row.UseRow.{UseRow}
use Rattle.data_use.proofs.report.data_use.Given as goal

-- the variables that are not left have their rows
abbrev pub invariant-loop-rest : goal.invariant-loop-rest
invariant-loop-rest l =
    record {
      places : map place_of l.rows.items ++ l.rest ≡ variables_from 0 l.places;
      facts : (row : UseRow) → IsIn l.rows.items row → IsUseRow l.graph row;
    }

abbrev pub decreases-loop-rest : goal.decreases-loop-rest
decreases-loop-rest l = length l.rest
