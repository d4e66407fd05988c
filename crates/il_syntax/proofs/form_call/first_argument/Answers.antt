use Rattle.std.proofs.Common.{◌∙◌, sym, ap, arith, drop, length}
use Rattle.il_syntax.proofs.CallArguments.{len_within, cut_none, cut_some}
use Rattle.il_syntax.proofs.form_call.first_argument.Goals as goal

pub split_at-requires : goal.split_at-requires
split_at-requires c = omega (arith, len_within c.args.tokens.now)

pub returns-in-None-clause-cut : goal.returns-in-None-clause-cut
returns-in-None-clause-cut c =
    rw (c.split_at.ensures.front, c.argument_len.ensures)
    (cut_none c.args.tokens.now (ap (λ n. length (drop n c.args.tokens.now)) (sym c.argument_len.ensures) ∙ ap length (sym c.split_at.ensures.back) ∙ c.in-None.ensures.cases))

pub returns-in-Some-clause-cut : goal.returns-in-Some-clause-cut
returns-in-Some-clause-cut c =
    rw (c.split_at.ensures.front, c.argument_len.ensures)
    (cut_some c.args.tokens.now c.in-Some.field-0-0.now c.in-Some.behind.now (ap (λ n. drop n c.args.tokens.now) (sym c.argument_len.ensures) ∙ sym c.split_at.ensures.back ∙ c.in-Some.ensures.cases.0))
