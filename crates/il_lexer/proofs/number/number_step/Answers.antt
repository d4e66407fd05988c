-- The run of digits at the front is a token.
use Rattle.std.proofs.Common.{sym, subst, arith}
use Rattle.std.specs.Char.{is_ascii_digit}
use Rattle.std.proofs.lemmas.List.Sums.{prefix_len-le-length}
use Rattle.il_core.specs.declared.token.TokenKind.TheVariants.{Number}
use Rattle.il_lexer.specs.Step.{IsLongest}
use Rattle.il_lexer.proofs.Steps.{number_token, digits_pass}
use Rattle.il_lexer.proofs.number.number_step.Goals as goal

pub returns : goal.returns
returns c =
    let text = c.args.rest.now in
    let n = c.digits_len-len.result in
    let p = prefix_len-le-length is_ascii_digit text in
    let e = c.digits_len-len.ensures in
    record {
      inside = omega arith;
      takes = subst (λ v. IsLongest text n (Number v)) (sym c.value_of-value.ensures) (number_token text n c.requires.no_word c.requires.digit e);
    }

pub value_of-value-requires : goal.value_of-value-requires
value_of-value-requires c = digits_pass c.args.rest.now c.digits_len-len.result c.digits_len-len.ensures
