-- Each line of a made text is a statement.
use Rattle.std.proofs.Common.{◌≡◌, ℕ, ◌+◌, ◌-◌, ◌^◌, ◌≤◌, true, ◌&&◌, List, [], ◌∷◌, ◌++◌, length, refl, sym, ap, ◌∙◌, subst, arith, inl, length-append}
use Rattle.std.specs.Prelude.{codes, decimal, pos}
use Rattle.std.specs.List.{list_all}
use Rattle.std.proofs.lemmas.List.Folds.{list_all-append}
use Rattle.il_core.specs.Statement.{Statement, title, procedure, variable, pre, post, assign, loop, end_loop, exit_when, end_procedure, finish}
use Rattle.il_core.specs.Tree as tree
use Rattle.il_core.specs.declared.operator.BinOp.TheVariants.{Add, Compare}
use Rattle.il_core.specs.declared.operator.Relation.TheVariants.{Ge}
use Rattle.il_core.specs.declared.statement.Bound.TheVariants as bound
use Rattle.il_core.specs.declared.statement.Mode.TheVariants as mode
use Rattle.il_core.specs.declared.statement.TypeUse.TheVariants as type
use Rattle.il_core.specs.declared.token.Keyword.TheVariants as k
use Rattle.il_core.specs.declared.token.Symbol.TheVariants as s
use Rattle.il_core.specs.declared.token.Token.{Token}
use Rattle.il_core.specs.declared.token.TokenKind.{TokenKind}
use Rattle.il_core.specs.declared.token.TokenKind.TheVariants.{Key, Ident, Number, Symbol}
use Rattle.il_lexer.specs.Keyword.{outer_keyword, variable_keyword, control_keyword, plain_keyword}
use Rattle.il_syntax.specs.Expression.{kinds, IsExpression}
use Rattle.il_syntax.specs.Expression as written
use Rattle.il_syntax.specs.Form.{Derives}
use Rattle.il_syntax.specs.Parse.{pieces, place_of}
use Rattle.made_text.proofs.Pieces.{joined_end}
use Rattle.made_accepted.specs.Statements.{at_least, raised}
use Rattle.made_accepted.proofs.Cutting.{Hop, Hops, hop_tokens, blank, token, steps_cut, cuts_then}
use Rattle.made_accepted.proofs.Digits.{is_low, number_cut, low_decimal}

-- where steps end that begin at a place
abbrev pub reached : ℕ → List Hop → ℕ
reached at [] = at
reached at (step ∷ steps) = reached (at + step.len) steps

-- a number token is at most the least limit
abbrev pub IsSmall : TokenKind → Type 0
IsSmall (Number value) = value ≤ 2 ^ 63 - 1
IsSmall _ = Unit {0}

abbrev pub AreSmall : List Token → Type 0
AreSmall [] = Unit {0}
AreSmall (t ∷ ts) = IsSmall t.kind × AreSmall ts

-- a line, with its newline and whatever follows, is cut into the tokens of a statement
pub record IsLine (line : List ℕ) (says : Statement) : Type 0 where
  pub steps : List Hop
  pub cut : (rest : List ℕ) → Hops ((line ++ codes "\n") ++ rest) steps rest
  pub one_piece : (at : ℕ) (more : List Token) → pieces (hop_tokens at steps ++ more) ≡ hop_tokens at steps ∷ pieces more
  pub derived : (at : ℕ) → Derives says (kinds (hop_tokens at steps))
  pub starts : (at : ℕ) → place_of (hop_tokens at steps) ≡ at
  pub ends : (at : ℕ) → reached at steps ≡ at + length line + 1
  pub small : (at : ℕ) → AreSmall (hop_tokens at steps)
  pub low : list_all is_low (line ++ codes "\n") ≡ true

pub title_line : IsLine (codes "TITLE gen;") (title (codes "gen"))
unfolding outer_keyword variable_keyword control_keyword plain_keyword
title_line = record {
  steps = token 5 (Key k.KwTitle) ∷ blank 1 ∷ token 3 (Ident (codes "gen")) ∷ token 1 (Symbol s.Semicolon) ∷ blank 1 ∷ [];
  cut = λ rest. steps_cut 5 (codes "TITLE gen;\n" ++ rest);
  one_piece = λ at more. refl;
  derived = λ at. record { body = Key k.KwTitle ∷ Ident (codes "gen") ∷ []; spelt = refl; ended = refl };
  starts = λ at. refl;
  ends = λ at. omega arith;
  small = λ at. (tt, (tt, (tt, tt)));
  low = refl;
}

pub procedure_line : IsLine (codes "PROC p;") (procedure (codes "p"))
unfolding outer_keyword variable_keyword control_keyword plain_keyword
procedure_line = record {
  steps = token 4 (Key k.KwProc) ∷ blank 1 ∷ token 1 (Ident (codes "p")) ∷ token 1 (Symbol s.Semicolon) ∷ blank 1 ∷ [];
  cut = λ rest. steps_cut 5 (codes "PROC p;\n" ++ rest);
  one_piece = λ at more. refl;
  derived = λ at. record { body = Key k.KwProc ∷ Ident (codes "p") ∷ []; spelt = refl; ended = refl };
  starts = λ at. refl;
  ends = λ at. omega arith;
  small = λ at. (tt, (tt, (tt, tt)));
  low = refl;
}

pub variable_line : IsLine (codes "INOUT x : 0 .. 200;") (variable mode.InOut (codes "x") (type.Range (bound.Number (pos 0)) (bound.Number (pos 200))))
unfolding outer_keyword variable_keyword control_keyword plain_keyword
variable_line = record {
  steps = token 5 (Key k.KwInout) ∷ blank 1 ∷ token 1 (Ident (codes "x")) ∷ blank 1 ∷ token 1 (Symbol s.Colon) ∷ blank 1 ∷ token 1 (Number 0) ∷ blank 1
      ∷ token 2 (Symbol s.Dots) ∷ blank 1 ∷ token 3 (Number 200) ∷ token 1 (Symbol s.Semicolon) ∷ blank 1 ∷ [];
  cut = λ rest. steps_cut 13 (codes "INOUT x : 0 .. 200;\n" ++ rest);
  one_piece = λ at more. refl;
  derived = λ at. record {
    body = Key k.KwInout ∷ Ident (codes "x") ∷ Symbol s.Colon ∷ Number 0 ∷ Symbol s.Dots ∷ Number 200 ∷ [];
    spelt = (
      Number 0 ∷ Symbol s.Dots ∷ Number 200 ∷ [],
      refl,
      record {
        front = Number 0 ∷ [];
        behind = Number 200 ∷ [];
        from = inl (0, omega arith, refl, refl);
        to = inl (200, omega arith, refl, refl);
        spelt = refl;
      },
    );
    ended = refl;
  };
  starts = λ at. refl;
  ends = λ at. omega arith;
  small = λ at. (tt, (tt, (tt, (omega arith, (tt, (omega arith, (tt, tt)))))));
  low = refl;
}

pub pre_line : IsLine (codes "PRE TRUE;") (pre (tree.constant true))
unfolding outer_keyword variable_keyword control_keyword plain_keyword
pre_line = record {
  steps = token 3 (Key k.KwPre) ∷ blank 1 ∷ token 4 (Key k.KwTrue) ∷ token 1 (Symbol s.Semicolon) ∷ blank 1 ∷ [];
  cut = λ rest. steps_cut 5 (codes "PRE TRUE;\n" ++ rest);
  one_piece = λ at more. refl;
  derived = λ at. record {
    body = Key k.KwPre ∷ Key k.KwTrue ∷ [];
    spelt = (Key k.KwTrue ∷ [], refl, record { written = written.constant true; levelled = tt; shallow = omega arith; spelt = refl; tree_is = refl });
    ended = refl;
  };
  starts = λ at. refl;
  ends = λ at. omega arith;
  small = λ at. (tt, (tt, (tt, tt)));
  low = refl;
}

pub loop_line : IsLine (codes "LOOP;") loop
unfolding outer_keyword variable_keyword control_keyword plain_keyword
loop_line = record {
  steps = token 4 (Key k.KwLoop) ∷ token 1 (Symbol s.Semicolon) ∷ blank 1 ∷ [];
  cut = λ rest. steps_cut 3 (codes "LOOP;\n" ++ rest);
  one_piece = λ at more. refl;
  derived = λ at. record { body = Key k.KwLoop ∷ []; spelt = refl; ended = refl };
  starts = λ at. refl;
  ends = λ at. omega arith;
  small = λ at. (tt, (tt, tt));
  low = refl;
}

pub end_loop_line : IsLine (codes "ENDLOOP;") end_loop
unfolding outer_keyword variable_keyword control_keyword plain_keyword
end_loop_line = record {
  steps = token 7 (Key k.KwEndloop) ∷ token 1 (Symbol s.Semicolon) ∷ blank 1 ∷ [];
  cut = λ rest. steps_cut 3 (codes "ENDLOOP;\n" ++ rest);
  one_piece = λ at more. refl;
  derived = λ at. record { body = Key k.KwEndloop ∷ []; spelt = refl; ended = refl };
  starts = λ at. refl;
  ends = λ at. omega arith;
  small = λ at. (tt, (tt, tt));
  low = refl;
}

pub end_procedure_line : IsLine (codes "ENDPROC;") end_procedure
unfolding outer_keyword variable_keyword control_keyword plain_keyword
end_procedure_line = record {
  steps = token 7 (Key k.KwEndproc) ∷ token 1 (Symbol s.Semicolon) ∷ blank 1 ∷ [];
  cut = λ rest. steps_cut 3 (codes "ENDPROC;\n" ++ rest);
  one_piece = λ at more. refl;
  derived = λ at. record { body = Key k.KwEndproc ∷ []; spelt = refl; ended = refl };
  starts = λ at. refl;
  ends = λ at. omega arith;
  small = λ at. (tt, (tt, tt));
  low = refl;
}

pub finish_line : IsLine (codes "FINISH;") finish
unfolding outer_keyword variable_keyword control_keyword plain_keyword
finish_line = record {
  steps = token 6 (Key k.KwFinish) ∷ token 1 (Symbol s.Semicolon) ∷ blank 1 ∷ [];
  cut = λ rest. steps_cut 3 (codes "FINISH;\n" ++ rest);
  one_piece = λ at more. refl;
  derived = λ at. record { body = Key k.KwFinish ∷ []; spelt = refl; ended = refl };
  starts = λ at. refl;
  ends = λ at. omega arith;
  small = λ at. (tt, (tt, tt));
  low = refl;
}

-- x + 1
raised_spelt : IsExpression (Ident (codes "x") ∷ Symbol s.Plus ∷ Number 1 ∷ []) raised
raised_spelt = record {
  written = written.two Add (written.word (codes "x")) (written.number 1);
  levelled = (omega arith, omega arith, tt, tt);
  shallow = omega arith;
  spelt = refl;
  tree_is = refl;
}

pub assign_line : IsLine (codes "x := x + 1;") (assign (codes "x") raised)
unfolding outer_keyword variable_keyword control_keyword plain_keyword
assign_line = record {
  steps = token 1 (Ident (codes "x")) ∷ blank 1 ∷ token 2 (Symbol s.Becomes) ∷ blank 1 ∷ token 1 (Ident (codes "x")) ∷ blank 1 ∷ token 1 (Symbol s.Plus) ∷ blank 1
      ∷ token 1 (Number 1) ∷ token 1 (Symbol s.Semicolon) ∷ blank 1 ∷ [];
  cut = λ rest. steps_cut 11 (codes "x := x + 1;\n" ++ rest);
  one_piece = λ at more. refl;
  derived = λ at. record {
    body = Ident (codes "x") ∷ Symbol s.Becomes ∷ Ident (codes "x") ∷ Symbol s.Plus ∷ Number 1 ∷ [];
    spelt = (Ident (codes "x") ∷ Symbol s.Plus ∷ Number 1 ∷ [], refl, raised_spelt);
    ended = refl;
  };
  starts = λ at. refl;
  ends = λ at. omega arith;
  small = λ at. (tt, (tt, (tt, (tt, (omega arith, (tt, tt))))));
  low = refl;
}

-- x >= k
at_least_spelt : (n : ℕ) → IsExpression (Ident (codes "x") ∷ Symbol s.AtLeast ∷ Number n ∷ []) (at_least n)
at_least_spelt n = record {
  written = written.two (Compare Ge) (written.word (codes "x")) (written.number n);
  levelled = (omega arith, omega arith, tt, tt);
  shallow = omega arith;
  spelt = refl;
  tree_is = refl;
}

-- a number and the end of its line behind a front that is cut
ended_number : (front : List ℕ) (n : ℕ) (rest : List ℕ) (steps : List Hop) → n ≤ 200
    → Hops (front ++ (((decimal n ++ codes ";") ++ codes "\n") ++ rest)) steps (((decimal n ++ codes ";") ++ codes "\n") ++ rest)
    → Hops (front ++ (((decimal n ++ codes ";") ++ codes "\n") ++ rest)) (steps ++ token (length (decimal n)) (Number n) ∷ token 1 (Symbol s.Semicolon) ∷ blank 1 ∷ []) rest
ended_number front n rest steps h c =
    let last = token 1 (Symbol s.Semicolon) ∷ blank 1 ∷ [] in
    cuts_then (front ++ (((decimal n ++ codes ";") ++ codes "\n") ++ rest)) steps (token (length (decimal n)) (Number n) ∷ last) (((decimal n ++ codes ";") ++ codes "\n") ++ rest) rest c
    (subst (λ t. Hops t (token (length (decimal n)) (Number n) ∷ last) rest) (sym (joined_end (decimal n) rest))
    (cuts_then (decimal n ++ (codes ";\n" ++ rest)) (token (length (decimal n)) (Number n) ∷ []) last (codes ";\n" ++ rest) rest
    (number_cut n 59 (codes "\n" ++ rest) h refl) (steps_cut 2 (codes ";\n" ++ rest))))

-- the bytes of a number's line are low
low_number : (n : ℕ) → n ≤ 200 → list_all is_low ((decimal n ++ codes ";") ++ codes "\n") ≡ true
low_number n h =
    list_all-append is_low (decimal n ++ codes ";") (codes "\n")
    ∙ ap (λ t. t && true) (list_all-append is_low (decimal n) (codes ";") ∙ ap (λ t. t && true) (low_decimal n h))

pub post_line : (n : ℕ) → n ≤ 200 → IsLine (codes "POST x >= " ++ (decimal n ++ codes ";")) (post (at_least n))
unfolding outer_keyword variable_keyword control_keyword plain_keyword
post_line n h = record {
  steps = token 4 (Key k.KwPost) ∷ blank 1 ∷ token 1 (Ident (codes "x")) ∷ blank 1 ∷ token 2 (Symbol s.AtLeast) ∷ blank 1
      ∷ token (length (decimal n)) (Number n) ∷ token 1 (Symbol s.Semicolon) ∷ blank 1 ∷ [];
  cut = λ rest. ended_number (codes "POST x >= ") n rest (token 4 (Key k.KwPost) ∷ blank 1 ∷ token 1 (Ident (codes "x")) ∷ blank 1 ∷ token 2 (Symbol s.AtLeast) ∷ blank 1 ∷ []) h (steps_cut 6 (codes "POST x >= " ++ (((decimal n ++ codes ";") ++ codes "\n") ++ rest)));
  one_piece = λ at more. refl;
  derived = λ at. record {
    body = Key k.KwPost ∷ Ident (codes "x") ∷ Symbol s.AtLeast ∷ Number n ∷ [];
    spelt = (Ident (codes "x") ∷ Symbol s.AtLeast ∷ Number n ∷ [], refl, at_least_spelt n);
    ended = refl;
  };
  starts = λ at. refl;
  ends = λ at. omega (arith, length-append (decimal n) (codes ";"));
  small = λ at. (tt, (tt, (tt, (omega arith, (tt, tt)))));
  low = low_number n h;
}

pub exit_line : (n : ℕ) → n ≤ 200 → IsLine (codes "EXIT WHEN x >= " ++ (decimal n ++ codes ";")) (exit_when (at_least n))
unfolding outer_keyword variable_keyword control_keyword plain_keyword
exit_line n h = record {
  steps = token 4 (Key k.KwExit) ∷ blank 1 ∷ token 4 (Key k.KwWhen) ∷ blank 1 ∷ token 1 (Ident (codes "x")) ∷ blank 1 ∷ token 2 (Symbol s.AtLeast) ∷ blank 1
      ∷ token (length (decimal n)) (Number n) ∷ token 1 (Symbol s.Semicolon) ∷ blank 1 ∷ [];
  cut = λ rest. ended_number (codes "EXIT WHEN x >= ") n rest (token 4 (Key k.KwExit) ∷ blank 1 ∷ token 4 (Key k.KwWhen) ∷ blank 1 ∷ token 1 (Ident (codes "x")) ∷ blank 1 ∷ token 2 (Symbol s.AtLeast) ∷ blank 1 ∷ []) h (steps_cut 8 (codes "EXIT WHEN x >= " ++ (((decimal n ++ codes ";") ++ codes "\n") ++ rest)));
  one_piece = λ at more. refl;
  derived = λ at. record {
    body = Key k.KwExit ∷ Key k.KwWhen ∷ Ident (codes "x") ∷ Symbol s.AtLeast ∷ Number n ∷ [];
    spelt = (Ident (codes "x") ∷ Symbol s.AtLeast ∷ Number n ∷ [], refl, at_least_spelt n);
    ended = refl;
  };
  starts = λ at. refl;
  ends = λ at. omega (arith, length-append (decimal n) (codes ";"));
  small = λ at. (tt, (tt, (tt, (tt, (omega arith, (tt, tt))))));
  low = low_number n h;
}
