use Rattle.il_core.specs.Checked.{procedure_of}
use Rattle.region_paths.specs.Laws.{BeginsRegion}
use Rattle.semantic_tables.specs.Table.{IsTable}
use Rattle.semantic_tables.specs.OneRow.{OneRowEach}
use Rattle.semantic_tables.specs.Walk.{IsTableFor}
use Rattle.semantic_tables.specs.declared.exploration.Query.TheVariants.{Table}
use Rattle.semantic_tables.specs.declared.row.TableOr.{TableOr}
use Rattle.semantic_tables.proofs.Made.{ok_both, ok_one, table_told}
use Rattle.semantic_tables.proofs.making.table_by.Goals as goal

pub returns-clause-rows : goal.returns-clause-rows
returns-clause-rows c =
    ok_one c.rows_within.result (IsTableFor Table (procedure_of c.args.proc.now) c.args.control.now.loops c.args.pc) (IsTable (procedure_of c.args.proc.now) c.args.control.now.loops c.args.pc)
    c.rows_within.ensures.rows (table_told (procedure_of c.args.proc.now) c.args.control.now.loops c.args.pc)

pub returns-clause-one : goal.returns-clause-one
returns-clause-one c =
    ok_both c.rows_within.result (λ (t : TableOr). BeginsRegion (procedure_of c.args.proc.now) c.args.control.now.loops c.args.pc) (IsTable (procedure_of c.args.proc.now) c.args.control.now.loops c.args.pc)
    (OneRowEach (procedure_of c.args.proc.now) c.args.control.now.loops c.args.pc) c.rows_within.ensures.begins (returns-clause-rows c)
    (λ t b k. c.inputs_have_one_row.ensures (procedure_of c.args.proc.now) c.args.control.now.loops c.args.pc t b k)
