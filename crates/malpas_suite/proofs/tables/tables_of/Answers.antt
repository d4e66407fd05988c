use Rattle.il_core.specs.Checked.{procedure_of}
use Rattle.malpas_suite.proofs.Regions.{begins_region, next_table}
use Rattle.malpas_suite.proofs.tables.tables_of.Goals as goal

pub region_table-requires-in-loop-info-clause-first : goal.region_table-requires-in-loop-info-clause-first
region_table-requires-in-loop-info-clause-first c =
    begins_region c.args.control.now.loops c.as_slice-info-items.result.now c.loop-info.info-index c.info-item.result _ c.as_slice-info-items.ensures c.loop-info-test.true c.info-item.is

pub loop-info-preserved : goal.loop-info-preserved
loop-info-preserved c =
    next_table (procedure_of c.args.proc.now) c.args.control.now.loops c.as_slice-info-items.result.now c.loop-info.info-index c.info-item.result _ c.loop-info.tables _ c.in_ok-next.next
    c.as_slice-info-items.ensures c.loop-info-test.true c.info-item.is c.loop-info.invariant c.in_ok-push-2.ensures.ok
    c.in_ok-next.ensures.region c.in_ok-next.ensures.rows c.in_ok-next.ensures.one c.in_ok-next.ensures.fits
