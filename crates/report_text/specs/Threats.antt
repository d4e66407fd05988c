-- The section on threats: for each region its line, and behind it the threats that stand next and are of that region, each with its path, its
-- stop and its verdict; and a last line that counts the threats by their verdicts and the regions past their size. Each threat is written once,
-- under its number from 1 through the procedure: what is left behind the last region stands there.
use Rattle.std.specs.Prelude.{ℕ, ◌+◌, ◌==◌, ℤ, Bool, true, false, List, [], ◌∷◌, ◌++◌, length, take, drop, count_by, codes, decimal, slice_get, None, Some}
use Rattle.std.specs.Fmt.{signed_decimal}
use Rattle.std.specs.List.{prefix_len}
use Rattle.il_core.specs.declared.line.Place.{Place}
use Rattle.sym_simplify.specs.declared.normal.LitForm.{LitForm}
use Rattle.sym_simplify.specs.FormText.{literal_form_text}
use Rattle.sym_simplify.specs.Literal.{literal_form_of}
use Rattle.compliance.specs.declared.threat.Threat.{Threat}
use Rattle.compliance.specs.declared.threat.Verdict.{Verdict}
use Rattle.compliance.specs.declared.threat.Verdict.TheVariants.{Refuted, Shown, Open}
use Rattle.semantic_tables.specs.declared.row.TableOr.TheVariants.{Table, Past}
use Rattle.report.specs.Status.{is_refuted}
use Rattle.report.specs.declared.report.RegionTable.{RegionTable}
use Rattle.form_text.specs.Lists.{numbered, place_at}
use Rattle.report_text.specs.Path.{numbered_path, halt_text}
use Rattle.report_text.specs.Tables.{region_text}

-- the value of a place
abbrev pub equal_text : List Place → ℕ → ℤ → List ℕ
equal_text places at v = place_at places at ++ codes " = " ++ signed_decimal v

abbrev pub other_text : List Place → ℕ → ℤ → List ℕ
other_text places at v = codes ", " ++ equal_text places at v

-- an input: the value of each place in order
abbrev pub input_text : List Place → List ℤ → List ℕ
input_text places [] = codes "EMPTY"
input_text places (v ∷ vs) = equal_text places 0 v ++ numbered (other_text places) 1 vs

-- the literal of a number, counted from 0; no text where there is none
abbrev pub literal_at : List Place → List LitForm → ℕ → List ℕ
literal_at places ls i = elim (slice_get ls i) [ None ↦ [] | Some l ↦ literal_form_text (place_at places) (literal_form_of l) ]

abbrev pub verdict_text : List Place → List LitForm → Verdict → List ℕ
verdict_text places ls Refuted = codes "FALSE"
verdict_text places ls (Shown s) = codes "SHOWN " ++ input_text places s
verdict_text places ls (Open i) = codes "OPEN " ++ literal_at places ls i

unfoldable pub threat_text : List Place → ℕ → Threat → List ℕ
threat_text places n t = numbered_path (codes "THREAT ") n t.path ++ (codes " STOP " ++ halt_text t.stop ++ codes " ") ++ verdict_text places t.literals t.verdict ++ codes "\n"

-- how many threats stand next that are of the region of line pc
abbrev pub count_here : ℕ → List Threat → ℕ
count_here pc ts = prefix_len (λ t. t.region == pc) ts

-- the regions with their threats, behind so many threats of regions before them
abbrev pub regions_text : List Place → ℕ → List RegionTable → List Threat → List ℕ
regions_text places before [] ts = numbered (threat_text places) (before + 1) ts
regions_text places before (r ∷ rs) ts = region_text r ++ numbered (threat_text places) (before + 1) (take (count_here r.pc ts) ts)
    ++ regions_text places (before + count_here r.pc ts) rs (drop (count_here r.pc ts) ts)

abbrev pub is_shown : Verdict → Bool
is_shown Refuted = false
is_shown (Shown s) = true
is_shown (Open i) = false

abbrev pub is_open : Verdict → Bool
is_open Refuted = false
is_open (Shown s) = false
is_open (Open i) = true

abbrev pub is_past : RegionTable → Bool
is_past r = elim r.body [ Table rows ↦ false | Past limit ↦ true ]

-- the last line
unfoldable pub counts_text : List RegionTable → List Threat → List ℕ
counts_text rs ts = codes "THREATS " ++ decimal (length ts) ++ codes " FALSE " ++ decimal (count_by (λ t. is_refuted t.verdict) ts)
    ++ codes " SHOWN " ++ decimal (count_by (λ t. is_shown t.verdict) ts) ++ codes " OPEN " ++ decimal (count_by (λ t. is_open t.verdict) ts)
    ++ codes " PAST " ++ decimal (count_by is_past rs) ++ codes "\n"

unfoldable pub threats_text : List Place → List RegionTable → List Threat → List ℕ
threats_text places rs ts = codes "COMPLIANCE\n" ++ regions_text places 0 rs ts ++ counts_text rs ts
