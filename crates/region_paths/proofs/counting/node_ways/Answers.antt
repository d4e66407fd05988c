use Rattle.std.proofs.Common.{◌≡◌, sym, ap, ◌∙◌, subst, ℕ, ◌++◌, ◌∷◌, [], All, length, arith}
use Rattle.std.proofs.lemmas.List.{length-append}
use Rattle.std.proofs.lemmas.List.Elements.{All-push}
use Rattle.test_graph.specs.Lowered.{Unfolds}
use Rattle.region_paths.specs.Count.{AreNodeWays, IsFewWays}
use Rattle.region_paths.proofs.Counts.{ways_more}
use Rattle.region_paths.proofs.counting.node_ways.Goals as goal

pub loop-id-preserved : goal.loop-id-preserved
loop-id-preserved c =
    let e : c.push.new.self.items ≡ c.loop-id.ways.items ++ c.ways_at-way.result ∷ [] = c.in_ok-push.ensures.items in
    record {
      size = ap length e ∙ length-append c.loop-id.ways.items (c.ways_at-way.result ∷ []) ∙ omega (arith, c.loop-id.invariant.size);
      ways = subst (AreNodeWays c.args.graph.now) (sym e)
          (ways_more c.args.graph.now c.loop-id.ways.items c.ways_at-way.result c.loop-id.invariant.ways
          (λ d u. c.ways_at-way.ensures.exact d (subst (λ (k : ℕ). Unfolds c.args.graph.now.nodes c.args.graph.now.entries k d) c.loop-id.invariant.size u)));
      few = subst (All IsFewWays) (sym e) (All-push IsFewWays c.loop-id.ways.items c.ways_at-way.result c.loop-id.invariant.few c.ways_at-way.ensures.few);
    }
