use Rattle.std.proofs.Common.{ap, ◌<◌, subst}
use Rattle.il_edge.proofs.Given.{left-range, left-parts, left-none}
use Rattle.il_edge.proofs.mem_source.MemSourceSource.read.Goals as goal

pub returns-clause-bytes : goal.returns-clause-bytes
returns-clause-bytes c =
    let fields = c.self.inside in
    let from = ap (λ it. it.left) c.self.view_is in
    let copied = c.copy_front-count in
    let seen = left-range _ _ _ fields.given from c.deref-2.ensures.value in (
      left-parts _ _ _ _ fields.given copied.result from seen copied.ensures.front,
      λ none has_room. left-none _ _ _ fields.given copied.result fields.piece _ from seen copied.ensures.count c.self.invariant.1 none
          (subst (λ n. 0 < n) copied.auto.buf has_room),
    )
