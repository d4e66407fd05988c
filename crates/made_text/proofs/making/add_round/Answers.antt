use Rattle.std.proofs.Common.{◌++◌, ◌∙◌, ap}
use Rattle.std.specs.Prelude.{codes, decimal}
use Rattle.made_text.specs.Made.{round_text}
use Rattle.made_text.proofs.Pieces.{three, round_is}
use Rattle.made_text.proofs.making.add_round.Goals as goal

pub returns : goal.returns
returns c =
    three c.args.text.now.items (codes "LOOP;\nEXIT WHEN x >= ") (decimal c.args.least) (codes ";\nx := x + 1;\nENDLOOP;\n") (round_text c.args.least) _ _ _
    (round_is c.args.least) c.in_ok-extend_from_slice.ensures.items
    (c.in_ok-extend_from_slice-2.ensures.items ∙ ap (λ t. c.extend_from_slice.new.self.items ++ t) (c.as_bytes.ensures.value ∙ c.format.ensures.text))
    c.in_ok-extend_from_slice-3.ensures.items
