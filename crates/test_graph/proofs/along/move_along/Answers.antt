use Rattle.std.proofs.Common.{◌∙◌, ap, Some}
use Rattle.il_core.specs.declared.line.Next.{Next}
use Rattle.test_graph.proofs.FollowedSteps.{jump_along, onward_along}
use Rattle.test_graph.proofs.along.move_along.Goals as goal

pub returns-in-EndIf : goal.returns-in-EndIf
returns-in-EndIf c =
    onward_along c.args.places.now c.args.pc c.args.line.now c.args.vals.now c.args.path.now c.taken.result c.in-EndIf.is
    ((c.taken.ensures c.args.vals.now).0 ∙ ap (λ (n : Next). Some (record { next = n; used = 0 })) c.onward-in-EndIf.ensures)

pub returns-in-Else : goal.returns-in-Else
returns-in-Else c =
    jump_along c.args.places.now c.args.pc c.in-Else.target c.args.line.now c.args.vals.now c.args.path.now c.taken-in-Else.result c.in-Else.is
    (c.taken-in-Else.ensures c.args.vals.now).0
