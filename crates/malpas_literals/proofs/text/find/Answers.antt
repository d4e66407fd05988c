use Rattle.malpas_literals.proofs.Input.{finds_of}
use Rattle.malpas_literals.proofs.text.find.Goals as goal

pub returns-in-Ok-clause-found : goal.returns-in-Ok-clause-found
returns-in-Ok-clause-found g c =
    finds_of (g.S.Source.left c.args.source.now) (g.S.Source.left c.read_all.new.source) (g.S.Source.faults c.args.source.now) (g.S.Source.faults c.read_all.new.source)
    c.in-Ok.input.items c.text_of_input.result.now c.find_in_text.result c.in-Ok.ensures.end c.in-Ok.ensures.all c.in-Ok.ensures.short
    (rw c.as_slice.ensures.value at c.text_of_input.ensures.text) c.find_in_text.ensures
