-- The text that a text with calls stands for: each procedure's expansion, under its name; with the written line from which each line comes, and
-- the lines of each call.
use Rattle.std.specs.Prelude.{◌≡◌, ℕ, ◌<◌, ◌≤◌, List, length, map, slice_get, Some}
use Rattle.il_core.specs.Checked.{NamedProcedure}
use Rattle.il_core.specs.Text.{Text, TextProcedure, text_of}
use Rattle.il_called.specs.Called.{WrittenText}
use Rattle.il_called.specs.Expansion.{Callee, procedure_in, callees_of}
use Rattle.il_called.specs.declared.called.Origin.{Origin}
use Rattle.il_called.specs.declared.called.CallSpan.{CallSpan}
use Rattle.il_inline.specs.declared.expanded.Expanded.{Expanded}

abbrev pub expanded_procedure : Callee → TextProcedure
expanded_procedure callee = record { name = callee.written.name; body = procedure_in callee.expanded }

abbrev pub expanded_text : WrittenText → Text
expanded_text t = record { title = t.title; profile = t.profile; procs = map expanded_procedure (callees_of t.procs) }

pub record IsExpanded (t : WrittenText) (e : Expanded) : Type 0 where
  pub text : text_of e.text ≡ expanded_text t
  pub origins : e.origins ≡ map (λ c. c.expanded.origins) (callees_of t.procs)
  pub spans : e.spans ≡ map (λ c. c.expanded.spans) (callees_of t.procs)

-- the lines of a call: two lines of a procedure, in order, and an earlier procedure
pub record SpanFits (count number : ℕ) (span : CallSpan) : Type 0 where
  pub ordered : span.first ≤ span.last
  pub inside : span.last < count
  pub earlier : span.callee < number

-- an expanded text whose parts fit together: a list of origins and one of spans for each procedure, an origin for each of its lines, and spans of it
pub record IsExpandedText (e : Expanded) : Type 0 where
  pub origins : length e.origins ≡ length e.text.procs
  pub spans : length e.spans ≡ length e.text.procs
  pub lines : (k : ℕ) (p : NamedProcedure) (from : List Origin) → slice_get e.text.procs k ≡ Some p → slice_get e.origins k ≡ Some from → length from ≡ length p.lines
  pub calls : (k n : ℕ) (p : NamedProcedure) (of : List CallSpan) (span : CallSpan) → slice_get e.text.procs k ≡ Some p → slice_get e.spans k ≡ Some of
      → slice_get of n ≡ Some span → SpanFits (length p.lines) k span

-- a text with calls has one expansion, whatever memory holds it
pub record AreSame (e f : Expanded) : Type 0 where
  pub text : text_of e.text ≡ text_of f.text
  pub origins : e.origins ≡ f.origins
  pub spans : e.spans ≡ f.spans

abbrev pub SameExpansion : Type 0
SameExpansion = (t : WrittenText) (e f : Expanded) → IsExpanded t e → IsExpanded t f → AreSame e f

-- an expanded text as a value: a text, and for each of its procedures the written line from which each line comes, and the lines of each call
pub record WholeExpansion : Type 0 where
  pub text : Text
  pub origins : List (List Origin)
  pub spans : List (List CallSpan)

-- the expansion of a text with calls
abbrev pub whole_expansion : WrittenText → WholeExpansion
whole_expansion t = record {
  text = expanded_text t;
  origins = map (λ c. c.expanded.origins) (callees_of t.procs);
  spans = map (λ c. c.expanded.spans) (callees_of t.procs);
}

-- what an expanded text holds
abbrev pub whole_of : Expanded → WholeExpansion
whole_of e = record { text = text_of e.text; origins = e.origins; spans = e.spans }
