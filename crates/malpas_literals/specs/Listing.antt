-- The listing of the literals of open threats, line by line: for each procedure its places with their numbers and ranges, and for each of its open
-- threats the number, the region and the literals with their numbers. Procedures, places, literals and regions are told as certificates and reports
-- name them: places and literals are numbered from 0, threats from 1 through the procedure.
use Rattle.std.specs.Prelude.{ℕ, List, [], ◌++◌, codes, decimal, Option, None, Some, if◌then◌else◌}
use Rattle.std.specs.Fmt.{signed_decimal}
use Rattle.std.specs.List.{flat_map}
use Rattle.il_core.specs.declared.line.Place.{Place}
use Rattle.sym_simplify.specs.declared.normal.LitForm.{LitForm}
use Rattle.sym_simplify.specs.FormText.{literal_form_text}
use Rattle.sym_simplify.specs.Literal.{LiteralForm, always, never, keep, literal_form_of}
use Rattle.compliance.specs.declared.threat.Threat.{Threat}
use Rattle.form_text.specs.Lists.{numbered, place_at}
use Rattle.report_text.specs.Threats.{is_open}
use Rattle.malpas_literals.specs.declared.threats.Threatened.{Threatened}

-- a place: its number, its least and its greatest value, and its name, with the mark of an OLD copy
unfoldable pub place_line : List Place → ℕ → Place → List ℕ
place_line places n p = codes "PLACE " ++ decimal n ++ (codes " " ++ signed_decimal p.least) ++ (codes " " ++ signed_decimal p.greatest)
    ++ (codes " " ++ place_at places n) ++ codes "\n"

-- what a literal says
abbrev pub said_by : List Place → LiteralForm → List ℕ
said_by places always = codes "ALWAYS"
said_by places never = codes "NEVER"
said_by places (keep n r bound) = literal_form_text (place_at places) (keep n r bound)

abbrev pub literal_start : ℕ → List ℕ
literal_start n = codes "LITERAL " ++ decimal n ++ codes " "

unfoldable pub literal_line : List Place → ℕ → LitForm → List ℕ
literal_line places n l = literal_start n ++ said_by places (literal_form_of l) ++ codes "\n"

-- the line of a threat: its number and the first line of its region
abbrev pub threat_line : ℕ → ℕ → List ℕ
threat_line n pc = codes "THREAT " ++ decimal n ++ codes " REGION L" ++ decimal pc ++ codes "\n"

-- a threat with its literals
unfoldable pub open_lines : List Place → ℕ → Threat → List ℕ
open_lines places n t = threat_line n t.region ++ numbered (literal_line places) 0 t.literals

-- where it is open
abbrev pub threat_lines : List Place → ℕ → Threat → List ℕ
threat_lines places n t = if is_open t.verdict then open_lines places n t else []

-- the open threats, or that none are told, since some loop has two entries
abbrev pub threats_lines : List Place → Option (List Threat) → List ℕ
threats_lines places None = codes "IRREDUCIBLE\n"
threats_lines places (Some ts) = numbered (threat_lines places) 1 ts

unfoldable pub procedure_lines : Threatened → List ℕ
procedure_lines p = (codes "PROCEDURE " ++ p.name ++ codes "\n") ++ numbered (place_line p.places) 0 p.places ++ threats_lines p.places p.threats

unfoldable pub listing_text : List Threatened → List ℕ
listing_text ps = codes "MALPAS LITERALS 1\n" ++ flat_map procedure_lines ps ++ codes "END\n"
