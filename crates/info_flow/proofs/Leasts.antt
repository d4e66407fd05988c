-- From the last line alone the marks and masks grow to the least closed sets.
use Rattle.std.proofs.Common.{◌≡◌, refl, ℕ, ◌<◌, Bool, true, eqb, eq-eqb, List, length, get_or, arith}
use Rattle.std.specs.Int.{bit_at}
use Rattle.std.proofs.lemmas.Bool.Decides.{nat_tests}
use Rattle.std.proofs.lemmas.Option.{slice_get_within}
use Rattle.flow_graph.specs.declared.graph.FlowGraph.{FlowGraph}
use Rattle.flow_graph.specs.Graph.{Joins, arc_to, IsWellFormed}
use Rattle.info_flow.specs.Relevance.{IsClosed}
use Rattle.info_flow.specs.Growth.{Needs, AreSettled, AreDecided, IsGrown, AreOfLast, AreLeast, is_relevant, is_needed}

-- the sets of the last line are below all closed sets
pub grown_start : (g : FlowGraph) (v : ℕ) (lines : List Bool) (masks : List ℕ) → AreOfLast (length g.nodes) v lines masks → IsGrown g v lines masks
grown_start g v lines masks a = record {
  lines_size = a.lines_size;
  masks_size = a.masks_size;
  last = λ k e. ((a.mark k).1 e, (a.place k v).1 (e, refl));
  low_lines = λ relevant needs c k h. (c.last k ((a.mark k).0 h)).0;
  low_places = λ relevant needs c k p h. let t = (a.place k p).0 h in rw t.1 (c.last k t.0).1;
}

-- a mask has a place where the test says so
pub tested : (masks : List ℕ) (k p : ℕ) → is_needed masks k p ≡ true → Needs masks k p
tested masks k p h = test_one (bit_at (get_or masks k 0) p) h
  where
    test_one : (x : ℕ) → eqb x 1 ≡ true → x ≡ 1
    test_one x e = grind (arith, nat_tests)

-- sets that are settled and decided at each line are closed
closed_at : (g : FlowGraph) (v : ℕ) (lines : List Bool) (masks : List ℕ) → IsWellFormed g → IsGrown g v lines masks → AreSettled g lines masks → AreDecided g lines
    → IsClosed g v (is_relevant lines) (is_needed masks)
closed_at g v lines masks w grown s d = record {
  last = λ k e. ((grown.last k e).0, eq-eqb _ 1 (grown.last k e).1);
  assigned = λ k h p a j n. (s k (within k h j)).assigned p a (h, j, tested masks h p n);
  read = λ k p m a. eq-eqb _ 1 ((s k (slice_get_within g.nodes k a.0 a.1)).read p m a);
  kept = λ k h p j n o. eq-eqb _ 1 ((s k (within k h j)).kept p (h, j, tested masks h p n) o);
  tested = λ k t p. d k (slice_get_within g.nodes k t.0 t.1) (t, p);
}
  where
    within : (k h : ℕ) → Joins g.arcs k h → k < length g.nodes
    within k h j = (w.arcs (arc_to k h) j).tail_inside

pub least_end : (g : FlowGraph) (v : ℕ) (lines : List Bool) (masks : List ℕ) → IsWellFormed g → IsGrown g v lines masks → AreSettled g lines masks → AreDecided g lines
    → AreLeast g v lines masks
least_end g v lines masks w grown s d = record {
  lines_size = grown.lines_size;
  masks_size = grown.masks_size;
  least = record {
    closed = closed_at g v lines masks w grown s d;
    least_lines = grown.low_lines;
    least_places = λ relevant needs c k p h. grown.low_places relevant needs c k p (tested masks k p h);
  };
}
