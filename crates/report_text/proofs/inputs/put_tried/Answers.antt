use Rattle.report_text.proofs.inputs.put_tried.Goals as goal

pub returns-in-Some : goal.returns-in-Some
returns-in-Some g c = rw c.in-Some.is (rw c.as_slice.ensures at c.put_input.ensures)
