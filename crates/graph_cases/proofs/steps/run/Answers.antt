use Rattle.std.proofs.Common.{◌≡◌, rules}
use Rattle.std.specs.Bool.{IsTrue}
use Rattle.line_machine.specs.Arcs.{LinesLeadOn}
use Rattle.line_machine.proofs.Arcs.{cycles_cut}
use Rattle.graph_cases.proofs.steps.run.Goals as goal

pub run_to_cut-stop-requires-clause-cut : goal.run_to_cut-stop-requires-clause-cut
run_to_cut-stop-requires-clause-cut g c =
    let lines : c.as_slice.result.now ≡ c.args.proc.now.lines = cc in
    let passed : IsTrue c.lines_lead_on.result = search rules in
    let on : LinesLeadOn c.args.cuts.now c.as_slice.result.now = c.lines_lead_on.ensures passed in
    cycles_cut c.args.proc.now c.args.cuts.now c.args.line (rw lines at on)
