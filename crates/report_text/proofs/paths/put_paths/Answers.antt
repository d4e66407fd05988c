use Rattle.std.proofs.Common.{◌≡◌, ◌++◌, codes, List, append_assoc}
use Rattle.flow_graph.specs.declared.graph.Arc.{Arc}
use Rattle.path_expr.specs.declared.report.PathReport.{PathReport}
use Rattle.form_text.specs.Lists.{numbered}
use Rattle.report_text.specs.Sections.{paths_text, arc_text, def_text, ref_text}
use Rattle.form_text.proofs.Written.{prefix_more, writes_behind, writes_failed}
use Rattle.report_text.proofs.paths.put_paths.Goals as goal

-- The section on paths in its four parts.
in_parts : (arcs : List Arc) (p : PathReport)
    → paths_text arcs p ≡ codes "PATHS\n" ++ (numbered arc_text 1 arcs ++ (numbered def_text 1 p.defs ++ (codes "ALL = " ++ ref_text p.whole ++ codes "\n")))
unfolding paths_text
in_parts arcs p = simp append_assoc

pub returns-in_err-put-clause-text : goal.returns-in_err-put-clause-text
returns-in_err-put-clause-text g c = rw in_parts (writes_failed _ _ _ _ c.from_residual.ensures.0 (prefix_more _ _ _ _ c.in_err-put.ensures.text))

pub returns-in_err-put_arcs-clause-text : goal.returns-in_err-put_arcs-clause-text
returns-in_err-put_arcs-clause-text g c =
    rw in_parts (writes_behind _ _ _ _ _ _ c.in_ok-put.ensures.text
    (writes_failed _ _ _ _ c.from_residual-in_err-put_arcs.ensures.0 (prefix_more _ _ _ _ c.in_err-put_arcs.ensures.text)))

pub returns-in_err-put_defs-clause-text : goal.returns-in_err-put_defs-clause-text
returns-in_err-put_defs-clause-text g c =
    let defs = rw c.as_slice.ensures at c.in_err-put_defs.ensures.text in
    rw in_parts (writes_behind _ _ _ _ _ _ c.in_ok-put.ensures.text (writes_behind _ _ _ _ _ _ c.in_ok-put_arcs.ensures.text
    (writes_failed _ _ _ _ c.from_residual-in_err-put_defs.ensures.0 (prefix_more _ _ _ _ defs))))

pub returns-clause-text : goal.returns-clause-text
returns-clause-text g c =
    let defs = rw c.as_slice.ensures at c.in_ok-put_defs.ensures.text in
    rw in_parts (writes_behind _ _ _ _ _ _ c.in_ok-put.ensures.text (writes_behind _ _ _ _ _ _ c.in_ok-put_arcs.ensures.text
    (writes_behind _ _ _ _ _ _ defs c.put_whole.ensures.text)))
