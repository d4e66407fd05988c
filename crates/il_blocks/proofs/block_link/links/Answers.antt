use Rattle.std.proofs.Common.{◌≡◌, ◌+◌, ◌≤◌, ℕ, List, length, arith, refl, sym, ◌∙◌, ap, subst}
use Rattle.std.specs.Prelude.{map}
use Rattle.std.proofs.lemmas.List.{length-map}
use Rattle.il_core.specs.Statement.{Placed, placed}
use Rattle.il_core.specs.declared.statement.Link.{Link}
use Rattle.il_blocks.specs.BlockLabel.{owner}
use Rattle.il_blocks.proofs.BlockPlaces.{placed_at}
use Rattle.il_blocks.proofs.BlockLabels.{owner_next}
use Rattle.il_blocks.proofs.BlockLinks.{LinksSoFar, links_more, links_whole}
use Rattle.il_blocks.proofs.block_link.links.Goals as goal

pub link-requires-clause-says : goal.link-requires-clause-says
link-requires-clause-says c = record {
  stmt = placed c.index-stmts-i.result;
  at = placed_at c.args.stmts.now c.loop-i.i c.index-stmts-i.result c.loop-i-test.true (sym c.index-stmts-i.is);
  says = refl;
}

pub loop-i-preserved : goal.loop-i-preserved
loop-i-preserved c =
    let ss : List Placed = map placed c.args.stmts.now in
    let at = placed_at c.args.stmts.now c.loop-i.i c.index-stmts-i.result c.loop-i-test.true (sym c.index-stmts-i.is) in
    let within : c.loop-i.inside + c.begins-inside.result ≤ c.loop-i.i + 1 = omega (arith, c.loop-i.invariant.0, c.begins-inside.ensures.bound) in
    let next : c.loop-i.inside + c.begins-inside.result ≡ owner ss (c.loop-i.i + 1) =
    ap (λ (n : ℕ). n + c.begins-inside.result) c.loop-i.invariant.1 ∙ ap (λ (n : ℕ). owner ss c.loop-i.i + n) c.begins-inside.ensures.value
    ∙ sym (owner_next ss c.loop-i.i (placed c.index-stmts-i.result) at) in (
      within,
      next,
      subst (λ (ls : List Link). LinksSoFar ss (c.loop-i.i + 1) ls) (sym c.in_ok-push.ensures.ok)
          (links_more ss c.loop-i.i (placed c.index-stmts-i.result) c.link.result c.loop-i.links at c.link.ensures c.loop-i.invariant.2),
    )

pub returns : goal.returns
returns c =
    let ss : List Placed = map placed c.args.stmts.now in
    let end : c.loop-i.i ≡ length ss = omega (arith, length-map c.args.stmts.now placed, c.loop-i-test.false, c.loop-i.auto.i-end) in
    links_whole ss c.loop-i.i c.loop-i.links end c.requires.matched c.loop-i.invariant.2
