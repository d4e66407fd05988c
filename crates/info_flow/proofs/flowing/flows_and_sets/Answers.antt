use Rattle.std.proofs.Common.{sym, ◌∙◌}
use Rattle.info_flow.proofs.Rows.{rows_agree}
use Rattle.info_flow.proofs.flowing.flows_and_sets.Goals as goal

pub rows_of_sets-requires-clause-least : goal.rows_of_sets-requires-clause-least
rows_of_sets-requires-clause-least c = rw c.as_slice.ensures c.in_ok-sets.ensures.each

pub returns-clause-flows : goal.returns-clause-flows
returns-clause-flows c = record {
  variables = rw c.as_slice.ensures at c.in_ok-flows.ensures.places ∙ c.in_ok-sets.ensures.variables;
  each = c.in_ok-flows.ensures.sources;
}

pub returns-clause-agree : goal.returns-clause-agree
returns-clause-agree c = rows_agree c.args.graph.now c.args.places.now c.in_ok-flows.flows c.in_ok-flows.ensures.sources
