use Rattle.std.proofs.Common.{◌≡◌, ◌++◌, codes, List, append_assoc}
use Rattle.il_core.specs.declared.line.Place.{Place}
use Rattle.info_flow.specs.declared.row.FlowRow.{FlowRow}
use Rattle.form_text.specs.Lists.{lines_text, names_text, place_at}
use Rattle.report_text.specs.Sections.{flow_text}
use Rattle.form_text.proofs.Written.{prefix_more, writes_behind, writes_failed}
use Rattle.report_text.proofs.flows.put_flow.Goals as goal

-- The line of a variable in its five parts.
in_parts : (places : List Place) (row : FlowRow) → flow_text places row
    ≡ (codes "VAR " ++ place_at places row.place ++ codes " FROM ") ++ (names_text places row.sources ++ (codes " TESTS " ++ (lines_text row.tests ++ codes "\n")))
unfolding flow_text
in_parts places row = simp append_assoc

pub returns-in_err-put_variable-clause-text : goal.returns-in_err-put_variable-clause-text
returns-in_err-put_variable-clause-text g c = rw in_parts (writes_failed _ _ _ _ c.from_residual.ensures.0 (prefix_more _ _ _ _ c.in_err-put_variable.ensures.text))

pub returns-in_err-put_names-clause-text : goal.returns-in_err-put_names-clause-text
returns-in_err-put_names-clause-text g c =
    let names = rw c.as_slice.ensures at c.in_err-put_names.ensures.text in
    rw in_parts (writes_behind _ _ _ _ _ _ c.in_ok-put_variable.ensures.text
    (writes_failed _ _ _ _ c.from_residual-in_err-put_names.ensures.0 (prefix_more _ _ _ _ names)))

pub returns-in_err-put-clause-text : goal.returns-in_err-put-clause-text
returns-in_err-put-clause-text g c =
    let names = rw c.as_slice.ensures at c.in_ok-put_names.ensures.text in
    rw in_parts (writes_behind _ _ _ _ _ _ c.in_ok-put_variable.ensures.text (writes_behind _ _ _ _ _ _ names
    (writes_failed _ _ _ _ c.from_residual-in_err-put.ensures.0 (prefix_more _ _ _ _ c.in_err-put.ensures.text))))

pub returns-in_err-put_lines-clause-text : goal.returns-in_err-put_lines-clause-text
returns-in_err-put_lines-clause-text g c =
    let names = rw c.as_slice.ensures at c.in_ok-put_names.ensures.text in
    let lines = rw c.as_slice-2.ensures at c.in_err-put_lines.ensures.text in
    rw in_parts (writes_behind _ _ _ _ _ _ c.in_ok-put_variable.ensures.text (writes_behind _ _ _ _ _ _ names (writes_behind _ _ _ _ _ _ c.in_ok-put.ensures.text
    (writes_failed _ _ _ _ c.from_residual-in_err-put_lines.ensures.0 (prefix_more _ _ _ _ lines)))))

pub returns-clause-text : goal.returns-clause-text
returns-clause-text g c =
    let names = rw c.as_slice.ensures at c.in_ok-put_names.ensures.text in
    let lines = rw c.as_slice-2.ensures at c.in_ok-put_lines.ensures.text in
    rw in_parts (writes_behind _ _ _ _ _ _ c.in_ok-put_variable.ensures.text (writes_behind _ _ _ _ _ _ names (writes_behind _ _ _ _ _ _ c.in_ok-put.ensures.text
    (writes_behind _ _ _ _ _ _ lines c.put-2.ensures.text))))
