use Rattle.std.proofs.Common.{sym, ap, ◌∙◌, ℕ, List, ◌-◌, drop, get_or, arith}
use Rattle.std.proofs.lemmas.List.{length-map}
use Rattle.std.proofs.lemmas.Option.{slice_get-get_or}
use Rattle.il_core.specs.Checked.{procedure_of}
use Rattle.il_core.specs.Procedure.{instruction_of}
use Rattle.region_paths.specs.PathTree.{leading_tree}
use Rattle.region_paths.specs.Count.{leaves, capped}
use Rattle.region_paths.proofs.Walking.{in_at}
use Rattle.region_paths.proofs.Counts.{lead_on, drop_on}
use Rattle.region_paths.proofs.counting.leading_count.Goals as goal

pub line_ways-way-requires-clause-line : goal.line_ways-way-requires-clause-line
line_ways-way-requires-clause-line c =
    let e = slice_get-get_or c.args.leading.now (c.loop-k.k - 1) 0 (omega (arith, c.loop-k-test.true, c.loop-k.auto.k)) in
    omega (arith, c.requires.leading _ (in_at c.args.leading.now (c.loop-k.k - 1) _ e), length-map c.args.proc.now.lines instruction_of)

pub loop-k-preserved : goal.loop-k-preserved
loop-k-preserved c = record {
  few = omega (arith, c.min-count.ensures);
  exact = λ head.
      lead_on (procedure_of c.args.proc.now) head (get_or c.args.leading.now (c.loop-k.k - 1) 0) (drop c.loop-k.k c.args.leading.now) c.line_ways-way.result c.loop-k.count c.min-count.result
      c.line_ways-way.ensures.exact (c.loop-k.invariant.exact head) c.min-count.ensures
      ∙ ap (λ (xs : List ℕ). capped (leaves (leading_tree (procedure_of c.args.proc.now) head xs))) (sym (drop_on c.args.leading.now c.loop-k.k c.loop-k-test.true c.loop-k.auto.k));
}
