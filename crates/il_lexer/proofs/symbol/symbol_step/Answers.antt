-- The longer symbol is taken, else the shorter, else there is none.
use Rattle.std.proofs.Common.{sym}
use Rattle.il_lexer.proofs.Steps.{no_step_from, no_blank, double_token, single_token, no_symbol_token}
use Rattle.il_lexer.proofs.symbol.symbol_step.Goals as goal

pub returns-in-Some : goal.returns-in-Some
returns-in-Some c =
    let two = c.in-Some.ensures in
    record { inside = two.0; takes = double_token c.args.rest.now c.in-Some.symbol c.requires.no_word c.requires.no_number two.0 two.1 }

pub returns-in-Some-single_symbol : goal.returns-in-Some-single_symbol
returns-in-Some-single_symbol c = record {
  inside = c.requires.some;
  takes = single_token c.args.rest.now c.in-Some-single_symbol.symbol c.requires.no_word c.requires.no_number c.requires.some c.in-None.ensures (sym c.in-Some-single_symbol.ensures);
}

pub returns-in-None-single_symbol : goal.returns-in-None-single_symbol
returns-in-None-single_symbol c =
    let text = c.args.rest.now in
    no_step_from text (no_blank text c.requires.no_space c.requires.no_comment)
    (no_symbol_token text c.requires.no_word c.requires.no_number c.in-None.ensures (sym c.in-None-single_symbol.ensures))
