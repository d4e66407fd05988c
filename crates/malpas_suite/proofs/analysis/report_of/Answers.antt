use Rattle.il_core.specs.Checked.{procedure_of}
use Rattle.report.specs.Certified.{certs_for}
use Rattle.malpas_suite.proofs.Settled.{tells, sound_in}
use Rattle.malpas_suite.proofs.analysis.report_of.Goals as goal

pub rows_of-requires : goal.rows_of-requires
rows_of-requires c =
    rw c.threats_in.ensures (sound_in (procedure_of c.args.proc.now) c.in_ok-control.control.loops c.in_ok-control.control.shape c.in_ok-derivation.derivation.order c.in_ok-analyses.analyses
    c.listed_threats_are_sound.ensures c.places.ensures.checked c.in_ok-analyses.ensures.analyses)

pub returns-clause-runs : goal.returns-clause-runs
returns-clause-runs c =
    let control = rw c.in_ok-graph.ensures.graph at c.in_ok-control.ensures in
    tells (procedure_of c.args.proc.now) c.in_ok-control.control.loops c.in_ok-control.control.shape c.in_ok-derivation.derivation.order (certs_for c.args.proc.now.name c.args.certs.now)
    c.in_ok-certs.certs c.in_ok-analyses.analyses c.certified_threats_mean_no_bad_run.ensures c.places.ensures.checked control.loops control.shape c.in_ok-analyses.ensures.analyses
    (rw c.threats_in.ensures at c.in_ok-certs.ensures) c.in_ok-analyses.ensures.one_row c.in_ok-analyses.ensures.safe c.in_ok-analyses.ensures.equal_values
