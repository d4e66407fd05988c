use Rattle.std.proofs.Common.{◌≡◌, sym, ◌∙◌, ◌<◌, subst, ℕ, List, [], true, length, arith}
use Rattle.std.proofs.lemmas.List.{get_or_read}
use Rattle.std.proofs.lemmas.List.Filters.{dedup_is}
use Rattle.std.proofs.lemmas.List.Kept.{Contains-dedup_nat}
use Rattle.std.proofs.lemmas.List.Sorted.{Contains-permutation}
use Rattle.std.proofs.lemmas.Map.Keys.{IsStrictlyIncreasing-dedup}
use Rattle.regular_algebra.specs.Rows.{has_node}
use Rattle.regular_algebra.proofs.Sizes.{board-noted}
use Rattle.regular_algebra.proofs.Leaving.{contains-node}
use Rattle.regular_algebra.proofs.Listed.{among-contained, rise-increasing}
use Rattle.regular_algebra.proofs.board.Board.entering.Goals as goal

pub returns : goal.returns
returns c =
    let b = c.args.self.now in
    let within : c.args.p < length b.columns.items = omega (arith, c.requires, b.has_columns, b.columns.ok) in
    let column = get_or_read b.columns.items c.args.p c.index.result.now within c.index.ensures [] in
    let copied = c.in_ok-nodes.ensures.items ∙ c.as_slice.ensures ∙ column in
    let is = dedup_is _ _ _ c.dedup.ensures.filtered in
    record {
      rising = rise-increasing _ (rw is (IsStrictlyIncreasing-dedup _ c.sort_unstable.ensures.sorted));
      all = λ k v e.
          let stands = subst (λ (x : List ℕ). has_node x k ≡ true) (sym copied) (board-noted b k c.args.p v (sym e)) in
          among-contained _ k (rw is (Contains-dedup_nat _ k (Contains-permutation _ _ k c.sort_unstable.ensures.permutation (contains-node _ k stands))));
    }
