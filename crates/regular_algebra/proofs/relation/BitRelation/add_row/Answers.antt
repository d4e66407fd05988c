use Rattle.std.proofs.Common.{◌<◌, length, arith, inl, inr}
use Rattle.regular_algebra.proofs.Bits.{row-grown}
use Rattle.regular_algebra.proofs.relation.BitRelation.add_row.Goals as goal

pub returns : goal.returns
returns c =
    λ x y.
    let within : c.args.a < length c.args.self.now.rows = omega arith in
    let r = row-grown c.args.self.now.rows c.args.a c.args.row within x y in (
      λ h. elim (r.0 h.2) [ inl p ↦ inl (h.0, h.1, p) | inr p ↦ inr (p.0, h.1, p.1) ],
      λ k. elim k [ inl j ↦ (j.0, j.1, r.1 (inl j.2)) | inr j ↦ (omega (arith, j.0), j.1, r.1 (inr (j.0, j.2))) ],
    )
