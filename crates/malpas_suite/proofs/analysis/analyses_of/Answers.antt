use Rattle.std.proofs.Common.{sym, ◌∙◌}
use Rattle.il_core.specs.Checked.{procedure_of}
use Rattle.malpas_suite.proofs.Safe.{safe_where_clean}
use Rattle.malpas_suite.proofs.analysis.analyses_of.Goals as goal

pub made_of-requires : goal.made_of-requires
made_of-requires c =
    rw c.as_slice-2.ensures (c.listed_threats_are_sound.ensures (procedure_of c.args.proc.now) c.args.control.now.loops c.in_ok-threats.threats c.places.ensures.checked c.in_ok-threats.ensures.threats)

pub returns-clause-safe : goal.returns-clause-safe
returns-clause-safe c =
    safe_where_clean (procedure_of c.args.proc.now) c.args.control.now.loops c.in_ok-tables.tables c.in_ok-threats.threats c.in_ok-tables.ensures.tables c.in_ok-threats.ensures.safe

pub returns-clause-equal_values : goal.returns-clause-equal_values
returns-clause-equal_values c =
    let places = c.as_slice-places.ensures ∙ c.places.ensures.value in
    λ row. c.in_ok-found.ensures.agree (procedure_of c.args.proc.now) c.places.ensures.checked (sym c.requires.graph) (sym places) row
