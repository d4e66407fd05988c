use Rattle.regular_algebra.specs.Relation.{Joins}
use Rattle.regular_algebra.proofs.Bits.{composed-more}
use Rattle.regular_algebra.proofs.relation.BitRelation.composed.Goals as goal

pub loop-a-preserved : goal.loop-a-preserved
loop-a-preserved c =
    record {
      each = composed-more (Joins c.args.self.now) (Joins c.args.other.now) (Joins c.loop-a.product) (Joins c.add_row.new.self) c.loop-a.a c.row_through.result
          c.args.self.now.rows c.args.other.now.rows c.loop-a-test.true (λ x y. (λ h. h, λ h. h)) (λ x y. (λ h. h, λ h. h)) c.loop-a.invariant.each c.row_through.ensures
          c.add_row.ensures;
    }
