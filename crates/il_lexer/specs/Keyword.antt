-- A keyword is one of these 35 words, in capital letters.
use Rattle.std.specs.Prelude.{ℕ, List, Option, Some, None, if◌then◌else◌, bytes_eq, codes}
use Rattle.std.specs.Option.{option_or}
use Rattle.il_core.specs.declared.token.Keyword.{Keyword}
use Rattle.il_core.specs.declared.token.Keyword.TheVariants.{KwTitle, KwConst, KwType, KwProc, KwIn, KwInout, KwOut, KwLocal, KwBool, KwPre, KwPost, KwIf, KwElse, KwEndif, KwLoop, KwEndloop, KwExit, KwWhen, KwLabel, KwGoto, KwSkip, KwAssert, KwReturn, KwEndproc, KwFinish, KwOld, KwTrue, KwFalse, KwNot, KwAnd, KwOr, KwDiv, KwMod, KwCall, KwWrap}

-- what stands outside the bodies of procedures
unfoldable pub outer_keyword : List ℕ → Option Keyword
outer_keyword bs =
    if bytes_eq bs (codes "TITLE") then Some KwTitle
    else (if bytes_eq bs (codes "CONST") then Some KwConst
    else (if bytes_eq bs (codes "TYPE") then Some KwType
    else (if bytes_eq bs (codes "PROC") then Some KwProc
    else (if bytes_eq bs (codes "ENDPROC") then Some KwEndproc
    else (if bytes_eq bs (codes "FINISH") then Some KwFinish
    else (if bytes_eq bs (codes "PRE") then Some KwPre
    else (if bytes_eq bs (codes "POST") then Some KwPost
    else (if bytes_eq bs (codes "WRAP") then Some KwWrap
    else None))))))))

-- variables and truth values
unfoldable pub variable_keyword : List ℕ → Option Keyword
variable_keyword bs =
    if bytes_eq bs (codes "IN") then Some KwIn
    else (if bytes_eq bs (codes "INOUT") then Some KwInout
    else (if bytes_eq bs (codes "OUT") then Some KwOut
    else (if bytes_eq bs (codes "LOCAL") then Some KwLocal
    else (if bytes_eq bs (codes "BOOL") then Some KwBool
    else (if bytes_eq bs (codes "OLD") then Some KwOld
    else (if bytes_eq bs (codes "TRUE") then Some KwTrue
    else (if bytes_eq bs (codes "FALSE") then Some KwFalse
    else None)))))))

-- the flow of control
unfoldable pub control_keyword : List ℕ → Option Keyword
control_keyword bs =
    if bytes_eq bs (codes "IF") then Some KwIf
    else (if bytes_eq bs (codes "ELSE") then Some KwElse
    else (if bytes_eq bs (codes "ENDIF") then Some KwEndif
    else (if bytes_eq bs (codes "LOOP") then Some KwLoop
    else (if bytes_eq bs (codes "ENDLOOP") then Some KwEndloop
    else (if bytes_eq bs (codes "EXIT") then Some KwExit
    else (if bytes_eq bs (codes "WHEN") then Some KwWhen
    else (if bytes_eq bs (codes "LABEL") then Some KwLabel
    else (if bytes_eq bs (codes "GOTO") then Some KwGoto
    else None))))))))

-- plain statements and operators
unfoldable pub plain_keyword : List ℕ → Option Keyword
plain_keyword bs =
    if bytes_eq bs (codes "SKIP") then Some KwSkip
    else (if bytes_eq bs (codes "ASSERT") then Some KwAssert
    else (if bytes_eq bs (codes "RETURN") then Some KwReturn
    else (if bytes_eq bs (codes "CALL") then Some KwCall
    else (if bytes_eq bs (codes "NOT") then Some KwNot
    else (if bytes_eq bs (codes "AND") then Some KwAnd
    else (if bytes_eq bs (codes "OR") then Some KwOr
    else (if bytes_eq bs (codes "DIV") then Some KwDiv
    else (if bytes_eq bs (codes "MOD") then Some KwMod
    else None))))))))

-- the keyword that the bytes spell
abbrev pub keyword_of : List ℕ → Option Keyword
keyword_of bs = option_or (outer_keyword bs) (option_or (variable_keyword bs) (option_or (control_keyword bs) (plain_keyword bs)))
