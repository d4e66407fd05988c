-- The text of a report: its head, a part for each procedure with the sections that are selected, and its status.
use Rattle.std.specs.Prelude.{ℕ, Bool, List, [], ◌++◌, codes, decimal, None, Some, if◌then◌else◌}
use Rattle.std.specs.List.{flat_map}
use Rattle.report.specs.Status.{status_of}
use Rattle.report.specs.declared.report.ProcReport.{ProcReport}
use Rattle.report.specs.declared.report.Report.{Report}
use Rattle.request.specs.declared.selection.Selection.{Selection}
use Rattle.report_text.specs.Calls.{calls_text}
use Rattle.report_text.specs.Certificates.{certificates_text}
use Rattle.report_text.specs.Sections.{control_text, usage_text, flows_text, paths_text}
use Rattle.report_text.specs.Inputs.{inputs_text}
use Rattle.report_text.specs.Slices.{slices_text}
use Rattle.report_text.specs.Tables.{tables_text}
use Rattle.report_text.specs.Threats.{threats_text}

-- the first two lines
unfoldable pub head_text : Report → List ℕ
head_text report = codes "MALPAS PROFILE " ++ decimal report.profile ++ codes "\nTITLE " ++ report.title ++ codes "\n"

-- a section that is selected
abbrev pub chosen : Bool → List ℕ → List ℕ
chosen selected text = if selected then text else []

-- a section that is not given for an irreducible procedure
abbrev pub not_reported : List ℕ
not_reported = codes "NOT REPORTED IRREDUCIBLE\n"

unfoldable pub usage_section : ProcReport → List ℕ
usage_section p = elim p.analyses [ None ↦ codes "USE\n" ++ not_reported | Some a ↦ usage_text p.places a.usage ]

unfoldable pub flow_section : ProcReport → List ℕ
flow_section p = elim p.analyses [ None ↦ codes "FLOW\n" ++ not_reported | Some a ↦ flows_text p.places a.flows ]

unfoldable pub slice_section : ProcReport → List ℕ
slice_section p = elim p.analyses [ None ↦ codes "SLICE\n" ++ not_reported | Some a ↦ slices_text p.places a.slices ]

unfoldable pub paths_section : ProcReport → List ℕ
paths_section p = elim p.analyses [ None ↦ codes "PATHS\n" ++ not_reported | Some a ↦ paths_text p.arcs a.paths ]

unfoldable pub semantic_section : ProcReport → List ℕ
semantic_section p = elim p.analyses [ None ↦ codes "SEMANTIC\n" ++ not_reported | Some a ↦ tables_text p.places a.tables ]

unfoldable pub inputs_section : ProcReport → List ℕ
inputs_section p = elim p.analyses [ None ↦ codes "INPUTS\n" ++ not_reported | Some a ↦ inputs_text p.places a.tables a.inputs ]

unfoldable pub compliance_section : ProcReport → List ℕ
compliance_section p = elim p.analyses [ None ↦ codes "COMPLIANCE\n" ++ not_reported | Some a ↦ threats_text p.places a.tables a.threats ]

unfoldable pub certificates_section : ProcReport → List ℕ
certificates_section p = elim p.analyses [ None ↦ codes "CERTIFICATES\n" ++ not_reported | Some a ↦ certificates_text p.certs a.made ]

-- the line of a procedure
unfoldable pub title_text : ProcReport → List ℕ
title_text p = codes "PROCEDURE " ++ p.name ++ codes " LINES " ++ decimal p.lines ++ codes "\n"

-- the line of a procedure, and a line for each of its calls
unfoldable pub heading_text : ProcReport → List ℕ
heading_text p = title_text p ++ calls_text p.calls

-- these lines, and what is selected of the sections on its lines and its graph
unfoldable pub graph_text : Selection → ProcReport → List ℕ
graph_text selection p = heading_text p ++ chosen selection.control (control_text p.control p.derivation) ++ chosen selection.usage (usage_section p)
    ++ chosen selection.flow (flow_section p) ++ chosen selection.slice (slice_section p) ++ chosen selection.paths (paths_section p)

-- what is selected of the sections on its values
unfoldable pub values_text : Selection → ProcReport → List ℕ
values_text selection p = chosen selection.semantic (semantic_section p) ++ chosen selection.inputs (inputs_section p)
    ++ chosen selection.compliance (compliance_section p) ++ chosen selection.certificates (certificates_section p)

-- the part of a procedure
unfoldable pub part_text : Selection → ProcReport → List ℕ
part_text selection p = graph_text selection p ++ values_text selection p

-- the last line
unfoldable pub end_text : ℕ → List ℕ
end_text status = codes "STATUS " ++ decimal status ++ codes "\n"

-- all parts, one after the other
abbrev pub parts_text : Selection → List ProcReport → List ℕ
parts_text selection procs = flat_map (part_text selection) procs

-- the whole text
abbrev pub report_text : Selection → Report → List ℕ
report_text selection report = head_text report ++ parts_text selection report.procs ++ end_text (status_of report)
