-- The text of a refusal is one line: the number of its code, the byte at fault, and what is wrong, with the name at fault where one is told.
use Rattle.std.specs.Prelude.{ℕ, List, [], ◌∷◌, codes, decimal, Option, None, Some}
use Rattle.std.specs.List.{concat}
use Rattle.il_core.specs.declared.refusal.Many.{Many}
use Rattle.il_core.specs.declared.refusal.Many.TheVariants.{Procedures, Lines, Places}
use Rattle.il_core.specs.declared.refusal.Code.{Code}
use Rattle.il_core.specs.declared.refusal.Code.TheVariants.{TooLong, NotAscii, Lexical, Number, Syntax, Order, Unmatched, Twice, Unknown, Typing, Access, EmptyRange, Wide, TooMany, BadCall, BadCertificate}
use Rattle.il_core.specs.declared.refusal.Refusal.{Refusal}

-- the number of a code, in two digits
abbrev pub code_number : Code → List ℕ
code_number TooLong = codes "01"
code_number NotAscii = codes "02"
code_number Lexical = codes "03"
code_number Number = codes "04"
code_number Syntax = codes "05"
code_number Order = codes "06"
code_number Unmatched = codes "07"
code_number Twice = codes "08"
code_number Unknown = codes "09"
code_number Typing = codes "10"
code_number Access = codes "11"
code_number EmptyRange = codes "12"
code_number Wide = codes "13"
code_number (TooMany many) = codes "14"
code_number BadCall = codes "16"
code_number BadCertificate = codes "17"

abbrev pub many_words : Many → List ℕ
many_words Procedures = codes "too many procedures"
many_words Lines = codes "too many lines"
many_words Places = codes "too many places"

-- what is wrong
abbrev pub code_words : Code → List ℕ
code_words TooLong = codes "text too long"
code_words NotAscii = codes "byte is not ASCII"
code_words Lexical = codes "no such token"
code_words Number = codes "number too large"
code_words Syntax = codes "statement has no form"
code_words Order = codes "statement out of order"
code_words Unmatched = codes "block or label unmatched"
code_words Twice = codes "name declared twice: "
code_words Unknown = codes "name unknown: "
code_words Typing = codes "wrong type"
code_words Access = codes "wrong mode"
code_words EmptyRange = codes "range is empty"
code_words Wide = codes "expression too wide"
code_words (TooMany many) = many_words many
code_words BadCall = codes "call does not fit"
code_words BadCertificate = codes "certificate has no form"

-- a name that is told
abbrev pub told_name : Option (List ℕ) → List ℕ
told_name None = []
told_name (Some name) = name

-- the name at fault, behind the words of the two codes that end in one
abbrev pub name_behind : Code → Option (List ℕ) → List ℕ
name_behind Twice name = told_name name
name_behind Unknown name = told_name name
name_behind _ name = []

unfoldable pub refusal_text : Refusal → List ℕ
refusal_text refusal = concat (codes "malpas: E" ∷ code_number refusal.code ∷ codes " at byte " ∷ decimal refusal.place ∷ codes ": " ∷ code_words refusal.code
    ∷ name_behind refusal.code refusal.name ∷ codes "\n" ∷ [])

-- the line that answers words of a form that is not known
unfoldable pub words_text : List ℕ
words_text = codes "malpas: words not understood\n"
