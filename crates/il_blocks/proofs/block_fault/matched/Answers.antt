use Rattle.std.proofs.Common.{◌<◌, length, refl, sym, ap, subst, ℕ, List, Option, Some, Err}
use Rattle.std.specs.Prelude.{map}
use Rattle.std.proofs.lemmas.List.{length-map}
use Rattle.il_core.specs.Statement.{Placed, placed}
use Rattle.il_core.specs.declared.refusal.TextEnd.{TextEnd}
use Rattle.il_core.specs.declared.statement.Stmt.{Stmt}
use Rattle.il_blocks.specs.Block.{IsFirst}
use Rattle.il_blocks.specs.BlockFault.{IsFault, MatchGives}
use Rattle.il_blocks.proofs.BlockPlaces.{placed_at}
use Rattle.il_blocks.proofs.BlockFirst.{fault_within}
use Rattle.il_blocks.proofs.block_fault.matched.Goals as goal

pub returns-in-Some : goal.returns-in-Some
returns-in-Some c =
    let ss : List Placed = map placed c.args.stmts.now in
    let first : IsFirst (IsFault ss) (Some c.in-Some.at) = subst (λ (o : Option ℕ). IsFirst (IsFault ss) o) c.in-Some.is (c.in_ok-at.ensures {u = tt}) in
    let far : c.in-Some.at < length ss = fault_within ss c.in-Some.at first.0 in
    let within : c.in-Some.at < length c.args.stmts.now = rw length-map at far in
    subst (λ (e : TextEnd). MatchGives ss (Err e)) (sym c.refused.ensures)
    (record {
      number = c.in-Some.at;
      stmt = placed c.index-stmts-at.result;
      at = placed_at c.args.stmts.now c.in-Some.at c.index-stmts-at.result within (sym c.index-stmts-at.is);
      first = first;
      code = refl;
      place = ap (λ (s : Stmt). s.place) (sym c.index-stmts-at.is);
      name = refl;
    })
