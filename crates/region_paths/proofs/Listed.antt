-- The laws of the paths of a region.
use Rattle.std.proofs.Common.{◌≡◌, sym, ap, ◌∙◌, subst, ℕ, true, List, length}
use Rattle.il_core.specs.Evaluation.{State}
use Rattle.il_core.specs.LineGraph.{IsIn}
use Rattle.il_core.specs.Procedure.{Procedure}
use Rattle.il_core.specs.Run.{IsInRange}
use Rattle.il_core.specs.declared.line.Stop.{Stop}
use Rattle.control_flow.specs.declared.control.LoopInfo.{LoopInfo}
use Rattle.sym_terms.specs.Substitution.{state_of}
use Rattle.sym_terms.specs.Identity.{own_values}
use Rattle.sym_terms.proofs.Composed.{own_state}
use Rattle.test_graph.specs.Way.{Way, all_hold}
use Rattle.test_graph.specs.Laws.{WaysAreSteps, WaysGoAlongArcs}
use Rattle.region_paths.specs.Chain.{IsChain, IsLongChain}
use Rattle.region_paths.specs.PlainRow.{PlainRow}
use Rattle.region_paths.specs.Listing.{RegionPath, IsRowOf, ListsPaths}
use Rattle.region_paths.specs.Stepping.{StepsTo, LongStepsTo, TakesOne}
use Rattle.region_paths.specs.PathTree.{PathTree, paths_down, short_tree, long_tree, short_paths, long_paths}
use Rattle.region_paths.specs.Laws.{BeginsRegion, AreListed, TakesPaths, AreOneByDecisions}
use Rattle.region_paths.proofs.Orders.{one_by_decisions}
use Rattle.region_paths.proofs.Descent.{paths_down-ascend}
use Rattle.region_paths.proofs.Taking.{taken_down, once_down}
use Rattle.region_paths.proofs.Matching.{Matches}
use Rattle.region_paths.proofs.Trees.{short_matches, long_matches}
use Rattle.region_paths.proofs.Fits.{fits, ended, along-holds, along-ends}
use Rattle.region_paths.proofs.Steps.{chain_steps, long_chain_steps}

-- a tree that matches some chains lists their rows
pub tree_lists : (t : PathTree) (C : List Way → Stop → Type 0) (n : ℕ) → Matches t C → ListsPaths (IsRowOf C (own_values n)) (paths_down t (own_values n))
tree_lists t C n m = record { ordered = paths_down-ascend t (own_values n); each = λ r. m (own_values n) r }

pub are_listed : (p : Procedure) (loops : List LoopInfo) (pc : ℕ) → WaysGoAlongArcs → BeginsRegion p loops pc → AreListed p loops pc
unfolding short_paths long_paths
are_listed p loops pc arcs b = record {
  short = tree_lists (short_tree p loops pc) (IsChain p loops pc) (length p.places) (short_matches p loops pc arcs b);
  long = tree_lists (long_tree p loops pc) (IsLongChain p loops pc) (length p.places) (long_matches p loops pc arcs b);
}

-- a state takes one path of a tree that matches some chains, each of which leads to its stop and the state behind its ways where it fits
takes_one : (p : Procedure) (t : PathTree) (C : List Way → Stop → Type 0) (Leads : Stop → State → Type 0) (s : State) → IsInRange p.places s → Matches t C
    → ((ws : List Way) (end : Stop) → C ws end → fits ws s ≡ true → Leads end (ended ws s)) → TakesOne (IsRowOf C (own_values (length p.places))) Leads s
takes_one p t C Leads s r m leads = record {
  path = row.0;
  there = k;
  holds = row.2;
  only = λ q j h. once_down t (own_values (length p.places)) s q row.0 ((m (own_values (length p.places)) q).1 j) row.1 h row.2;
  leads = subst (λ (x : State). Leads row.0.stop x) (sym at_end) (leads k.ways row.0.stop k.chain fit);
}
  where
    row : (x : RegionPath) × IsIn (paths_down t (own_values (length p.places))) x × (all_hold x.row.literals s ≡ true)
    row = taken_down t (own_values (length p.places)) s

    k : IsRowOf C (own_values (length p.places)) row.0
    k = (m (own_values (length p.places)) row.0).0 row.1

    own : state_of (own_values (length p.places)) s ≡ s
    own = own_state s (length p.places) r.size

    fit : fits k.ways s ≡ true
    fit =
        ap (fits k.ways) (sym own) ∙ sym (along-holds k.ways (own_values (length p.places)) s)
        ∙ ap (λ (x : PlainRow). all_hold x.literals s) (sym k.row) ∙ row.2

    at_end : state_of row.0.row.values s ≡ ended k.ways s
    at_end = ap (λ (x : PlainRow). state_of x.values s) k.row ∙ along-ends k.ways (own_values (length p.places)) s ∙ ap (ended k.ways) own

pub takes_paths : (p : Procedure) (loops : List LoopInfo) (pc : ℕ) (s : State) → WaysAreSteps → WaysGoAlongArcs → BeginsRegion p loops pc → IsInRange p.places s → TakesPaths p loops pc s
takes_paths p loops pc s steps arcs b r = record {
  short = takes_one p (short_tree p loops pc) (IsChain p loops pc) (StepsTo p loops pc s) s r (short_matches p loops pc arcs b)
      (λ ws end c f. chain_steps p loops pc ws s end steps b.checked r c f);
  long = takes_one p (long_tree p loops pc) (IsLongChain p loops pc) (LongStepsTo p loops pc s) s r (long_matches p loops pc arcs b)
      (λ ws end c f. long_chain_steps p loops pc ws s end steps b.checked r c f);
}

pub one_each : (p : Procedure) (loops : List LoopInfo) (pc : ℕ) → WaysGoAlongArcs → BeginsRegion p loops pc → AreOneByDecisions p loops pc
one_each p loops pc arcs b = record {
  short = λ x y i j e. one_by_decisions (short_paths p loops pc) x y l.short.ordered ((l.short.each x).1 i) ((l.short.each y).1 j) e;
  long = λ x y i j e. one_by_decisions (long_paths p loops pc) x y l.long.ordered ((l.long.each x).1 i) ((l.long.each y).1 j) e;
}
  where
    l : AreListed p loops pc
    l = are_listed p loops pc arcs b
