use Rattle.control_flow.specs.Loop.{IsLeading}
use Rattle.control_flow.proofs.Listing.{lists_same, lists_none, ok_map}
use Rattle.control_flow.proofs.Leading.{leading_at, leading_behind, leading_nowhere}
use Rattle.control_flow.proofs.loops.leading_lines.Goals as goal

pub returns-in-Assertion : goal.returns-in-Assertion
returns-in-Assertion c =
    ok_map c.assertions_from.result _ _ (λ xs l. lists_same _ (IsLeading c.args.nodes.now c.args.head) xs l (leading_at c.args.nodes.now c.args.head c.in-Assertion.ensures))
    c.assertions_from.ensures

pub returns-in-Plain : goal.returns-in-Plain
returns-in-Plain c =
    ok_map c.assertions_from-in-Plain.result _ _
    (λ xs l. lists_same _ (IsLeading c.args.nodes.now c.args.head) xs l (leading_behind c.args.nodes.now c.args.head c.in-Plain.ensures)) c.assertions_from-in-Plain.ensures

pub returns-in_default : goal.returns-in_default
returns-in_default c =
    rw c.new.ensures
    (lists_none _ (leading_nowhere c.args.nodes.now c.args.head c.kind_at.result c.kind_at.ensures c.in_default.not-Assertion c.in_default.not-Plain))
