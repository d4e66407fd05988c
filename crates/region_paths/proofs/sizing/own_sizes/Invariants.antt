use Rattle.std.proofs.Common.{◌≡◌, map}
use Rattle.std.specs.Prelude.{All}
use Rattle.sym_terms.specs.Measure.{measured, IsCapped}
use Rattle.sym_terms.specs.Identity.{own_values}
use Rattle.region_paths.proofs.sizing.own_sizes.Given as goal

abbrev pub invariant-loop-place : goal.invariant-loop-place
invariant-loop-place l = record {
  sizes : l.sizes.items ≡ map measured (own_values l._place);
  capped : All IsCapped l.sizes.items;
}
