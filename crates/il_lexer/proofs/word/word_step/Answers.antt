-- The word at the front is a token where it has 40 bytes at most, and else there is none.
use Rattle.std.proofs.Common.{sym, subst, arith}
use Rattle.std.proofs.lemmas.List.Sums.{prefix_len-le-length}
use Rattle.il_core.specs.Name.{is_name_part}
use Rattle.il_lexer.specs.Step.{IsLongest}
use Rattle.il_lexer.proofs.Steps.{no_step_from, no_blank, word_token, long_word_token, word_name}
use Rattle.il_lexer.proofs.word.word_step.Goals as goal

pub word_kind-kind-requires : goal.word_kind-kind-requires
word_kind-kind-requires c = word_name c.args.rest.now c.word_len-len.result c.requires.letter c.word_len-len.ensures c.if-len-le-WORD_LIMIT.true

pub returns-then-len-le-WORD_LIMIT : goal.returns-then-len-le-WORD_LIMIT
returns-then-len-le-WORD_LIMIT c =
    let text = c.args.rest.now in
    let n = c.word_len-len.result in
    let e = c.word_len-len.ensures in
    let p = prefix_len-le-length is_name_part text in
    record {
      inside = omega arith;
      takes = subst (λ k. IsLongest text n k) (sym c.word_kind-kind.ensures) (word_token text n c.requires.letter e c.if-len-le-WORD_LIMIT.true);
    }

pub returns-else-len-le-WORD_LIMIT : goal.returns-else-len-le-WORD_LIMIT
returns-else-len-le-WORD_LIMIT c =
    let text = c.args.rest.now in
    let e = c.word_len-len.ensures in
    no_step_from text (no_blank text c.requires.no_space c.requires.no_comment) (long_word_token text c.requires.letter (omega arith))
