use Rattle.std.proofs.Common.{◌++◌, ◌∙◌, ap}
use Rattle.std.specs.Prelude.{codes, decimal}
use Rattle.made_text.specs.Made.{opening_text}
use Rattle.made_text.proofs.Pieces.{three, opening_is}
use Rattle.made_text.proofs.making.add_opening.Goals as goal

pub returns : goal.returns
returns c =
    three c.args.text.now.items (codes "TITLE gen;\nPROC p;\nINOUT x : 0 .. 200;\nPRE TRUE;\nPOST x >= ") (decimal c.args.number) (codes ";\n") (opening_text c.args.number) _ _ _
    (opening_is c.args.number) c.in_ok-extend_from_slice.ensures.items
    (c.in_ok-extend_from_slice-2.ensures.items ∙ ap (λ t. c.extend_from_slice.new.self.items ++ t) (c.as_bytes.ensures.value ∙ c.format.ensures.text))
    c.in_ok-extend_from_slice-3.ensures.items
