-- The comment ends with the first `]`.
use Rattle.std.proofs.Common.{◌+◌, ap, sym, inr, arith}
use Rattle.std.specs.Option.{option_map}
use Rattle.il_lexer.proofs.Steps.{no_open_comment}
use Rattle.il_lexer.proofs.step.comment_step.Goals as goal

pub returns-in-Some : goal.returns-in-Some
returns-in-Some c = record {
  inside = omega (arith, c.in-Some.ensures.within);
  takes = inr (c.requires, ap (option_map (λ place. place + 1)) (sym c.in-Some.ensures.place));
}

pub returns-in-None : goal.returns-in-None
returns-in-None c = no_open_comment c.args.rest.now c.requires (ap (option_map (λ place. place + 1)) (sym c.in-None.ensures.place))
