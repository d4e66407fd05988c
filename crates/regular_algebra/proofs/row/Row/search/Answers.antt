use Rattle.std.proofs.Common.{rules}
use Rattle.std.proofs.lemmas.List.Sorted.{answers_always}
use Rattle.regular_algebra.proofs.Rows.{searched}
use Rattle.regular_algebra.specs.declared.row.Item.{Item}
use Rattle.regular_algebra.proofs.row.Row.search.Goals as goal

-- the closure gives an item's node
pub returns : goal.returns
returns c =
    let facts = c.binary_search_by_key.ensures in
    let by_node = facts.position (λ (x : Item). x.node) (answers_always _ _ _ (λ f a r g called. search rules)) in
    rw (← c.self.view_is, ← c.deref.ensures.value) (searched _ (rw c.deref.ensures.value c.self.invariant) c.args.node _ facts.bound by_node)
