-- Steps that take a path of a region are few: no line comes up twice before the first head, and the leading assertions behind it follow one
-- another.
use Rattle.std.proofs.Common.{◌≡◌, inl, inr, refl, sym, ap, ◌∙◌, subst, ℕ, zero, suc, ◌+◌, ◌*◌, ◌<◌, ◌≤◌, Bool, true, false, Some, List, [], ◌∷◌, length, arith}
use Rattle.std.proofs.lemmas.Option.{slice_get_within}
use Rattle.il_core.specs.Evaluation.{State}
use Rattle.il_core.specs.LineGraph.{IsIn, HasArc, IsPath}
use Rattle.il_core.specs.Procedure.{Procedure}
use Rattle.il_core.specs.Run.{IsInRange}
use Rattle.il_core.specs.Checked.{IsChecked}
use Rattle.il_core.specs.declared.line.Halt.{Halt}
use Rattle.il_core.specs.declared.line.Next.TheVariants as next
use Rattle.il_core.specs.declared.line.Stop.TheVariants as stop
use Rattle.line_machine.proofs.Ways.{AreUnmarked, few_unmarked}
use Rattle.flow_graph.specs.Graph.{graph_of}
use Rattle.control_flow.specs.Loop.{BeginsAt}
use Rattle.control_flow.specs.declared.control.LoopInfo.{LoopInfo}
use Rattle.sym_terms.specs.Identity.{own_values}
use Rattle.test_graph.specs.Way.{Way, state_behind}
use Rattle.test_graph.specs.Laws.{WaysAreSteps, WaysGoAlongArcs}
use Rattle.region_paths.specs.Region.{AreRegions, head_marks, is_head, leading_of}
use Rattle.region_paths.specs.Chain.{IsLongChain, Onward, Leads, Passes}
use Rattle.region_paths.specs.PlainRow.{PlainRow}
use Rattle.region_paths.specs.Listing.{RegionPath, IsLongPath}
use Rattle.region_paths.specs.Walk.{AreLines}
use Rattle.region_paths.specs.Laws.{BeginsRegion}
use Rattle.region_paths.proofs.Cuts.{heads_cut}
use Rattle.region_paths.proofs.Marks.{mark_of, length-head_marks}
use Rattle.region_paths.proofs.Trees.{arc_inside}
use Rattle.compliance.specs.Verdict.{TakesDecisions}
use Rattle.compliance.proofs.QuietLines.{IsQuiet}
use Rattle.compliance.proofs.Openings.{leading_lists, leading_quiet}
use Rattle.compliance.proofs.Following.{FollowOn, leads_from}
use Rattle.compliance.proofs.Taking.{path_of, along-path, behind_in_range}
use Rattle.compliance.proofs.TakenBack.{GoesOnTaking, goes_on_taking, line_behind, plain_back}

-- lines that follow one another below m are at most m
follow_few : (a m : ℕ) (b : ℕ) (xs : List ℕ) → FollowOn a (b ∷ xs) → ((q : ℕ) → IsIn (b ∷ xs) q → q < m) → a + length (b ∷ xs) ≤ m
follow_few a m b [] f low = let l = low b (inl refl) in let e = f.0 in omega (arith, l, e)
follow_few a m b (c ∷ xs) f low = let k = follow_few (a + 1) m c xs f.1 (λ q i. low q (inr i)) in omega (arith, k)

-- the leading assertions of a head are lines of the procedure
pub leading_inside : (p : Procedure) (loops : List LoopInfo) (q : ℕ) → AreRegions p loops → AreLines p (leading_of loops q)
leading_inside p loops q regions = λ x i. let k = leading_quiet p loops q x regions i in slice_get_within p.lines x k.instruction k.there

-- they are at most as many as the lines
leading_few : (p : Procedure) (loops : List LoopInfo) (q : ℕ) → AreRegions p loops → length (leading_of loops q) ≤ length p.lines
leading_few p loops q regions = by_lines (leading_of loops q) refl
  where
    by_lines : (lines : List ℕ) → leading_of loops q ≡ lines → length lines ≤ length p.lines
    by_lines [] e = omega arith
    by_lines (a ∷ lines) e =
        let i : IsIn (leading_of loops q) a = subst (λ x. IsIn x a) (sym e) (inl refl) in
        let t = leads_from (graph_of p).nodes q a (leading_of loops q) (leading_lists p loops q a regions i) i in
        let k = follow_few t.start (length p.lines) a lines (subst (FollowOn t.start) e t.follow) (λ x j. leading_inside p loops q regions x (subst (λ xs. IsIn xs x) (sym e) j)) in
        omega (arith, k)

-- through leading assertions that follow one another
leads_few : (p : Procedure) (head a : ℕ) (lines : List ℕ) (ws : List Way) (n : ℕ) (s : State) (h : Halt) → WaysAreSteps → IsChecked p → IsInRange p.places s
    → ((q : ℕ) → IsIn lines q → IsQuiet p q) → FollowOn a lines → Leads p head lines ws (stop.Halted h) → TakesDecisions p n a s (path_of ws) h → n < length lines
leads_few p head a [] ws n s h law c r k follow l t = absurd (let e = l.1 in cc)
leads_few p head a (b ∷ lines) [] n s h law c r k follow l t = absurd l
leads_few p head a (b ∷ lines) (w ∷ ws) zero s h law c r k follow l t = omega arith
leads_few p head a (b ∷ lines) (w ∷ ws) (suc n) s h law c r k follow l t =
    let g = goes_on_taking p n b s w ws h law c r l.0 (subst (λ x. TakesDecisions p (suc n) x s (path_of (w ∷ ws)) h) (sym follow.0) t) in
    let m : Leads p head lines ws (stop.Halted h) = subst (λ x. Passes x ws (stop.Halted h) (Leads p head lines ws (stop.Halted h))) g.next l.1 in
    let there : g.line ≡ a + 1 = line_behind p n b s w ws h g (k b (inl refl)) ∙ ap (λ y. y + 1) follow.0 in
    let few =
    leads_few p head (a + 1) lines ws n (state_behind w.change s) h law c (behind_in_range p b s w c r g.stepped) (λ q i. k q (inr i)) follow.1 m
    (subst (λ x. TakesDecisions p n x (state_behind w.change s) (path_of ws) h) there g.takes) in
    omega (arith, few)

-- from a head on
head_few : (p : Procedure) (loops : List LoopInfo) (q : ℕ) (ws : List Way) (n : ℕ) (s : State) (h : Halt) → WaysAreSteps → IsChecked p → AreRegions p loops → IsInRange p.places s
    → Leads p q (leading_of loops q) ws (stop.Halted h) → TakesDecisions p n q s (path_of ws) h → n ≤ length (leading_of loops q)
head_few p loops q ws n s h law c regions r l t = by_lines (leading_of loops q) refl l
  where
    at_start : (start : ℕ) → BeginsAt (graph_of p).nodes q start → (m : ℕ) × TakesDecisions p m start s (path_of ws) h × (n ≤ suc m)
    at_start start (inl b) = (n, subst (λ x. TakesDecisions p n x s (path_of ws) h) (sym b.1) t, omega arith)
    at_start start (inr b) =
        let u = plain_back p q n s (path_of ws) h b.0 t in
        let e = u.2 in
        (u.0, subst (λ x. TakesDecisions p u.0 x s (path_of ws) h) (sym b.1) u.1, omega (arith, e))

    by_lines : (lines : List ℕ) → leading_of loops q ≡ lines → Leads p q lines ws (stop.Halted h) → n ≤ length (leading_of loops q)
    by_lines [] e m = absurd (let x = m.1 in cc)
    by_lines (a ∷ lines) e m =
        let i : IsIn (leading_of loops q) a = subst (λ x. IsIn x a) (sym e) (inl refl) in
        let f = leads_from (graph_of p).nodes q a (leading_of loops q) (leading_lists p loops q a regions i) i in
        let u = at_start f.start f.begins in
        let few = leads_few p q f.start (leading_of loops q) ws u.0 s h law c r (λ x j. leading_quiet p loops q x regions j) f.follow l u.1 in
        let k = u.2 in
        omega (arith, few, k)

-- the unmarked lines to which steps come from line pc, and that the steps are hardly more than these and the lines of the procedure
pub record AreCounted (p : Procedure) (loops : List LoopInfo) (pc n : ℕ) : Type 0 where
  pub lines : List ℕ
  pub to : ℕ
  pub path : IsPath p pc lines to
  pub unmarked : AreUnmarked (head_marks (length p.lines) loops) lines
  pub few : n ≤ length lines + suc (length p.lines)

chain_few : (p : Procedure) (loops : List LoopInfo) (pc : ℕ) (ws : List Way) (n : ℕ) (s : State) (h : Halt) → WaysAreSteps → WaysGoAlongArcs → IsChecked p → AreRegions p loops
    → IsInRange p.places s → IsLongChain p loops pc ws (stop.Halted h) → TakesDecisions p n pc s (path_of ws) h → AreCounted p loops pc n
chain_few p loops pc [] n s h law arcs c regions r k t = absurd k
chain_few p loops pc (w ∷ ws) zero s h law arcs c regions r k t = record { lines = []; to = pc; path = refl; unmarked = tt; few = omega arith }
chain_few p loops pc (w ∷ ws) (suc n) s h law arcs c regions r k t =
    by_head (is_head loops g.line) refl on (λ m. chain_few p loops g.line ws n (state_behind w.change s) h law arcs c regions later m g.takes)
  where
    g : GoesOnTaking p n pc s w ws h
    g = goes_on_taking p n pc s w ws h law c r k.0 t

    later : IsInRange p.places (state_behind w.change s)
    later = behind_in_range p pc s w c r g.stepped

    arc : HasArc p pc g.line
    arc = arcs p pc g.line w k.0 g.next

    on : Onward loops (next.At g.line) ws (stop.Halted h) (λ q. Leads p q (leading_of loops q) ws (stop.Halted h)) (λ q. IsLongChain p loops q ws (stop.Halted h))
    on = subst (λ x. Onward loops x ws (stop.Halted h) (λ q. Leads p q (leading_of loops q) ws (stop.Halted h)) (λ q. IsLongChain p loops q ws (stop.Halted h))) g.next k.1

    by_head : (b : Bool) → is_head loops g.line ≡ b
        → Onward loops (next.At g.line) ws (stop.Halted h) (λ q. Leads p q (leading_of loops q) ws (stop.Halted h)) (λ q. IsLongChain p loops q ws (stop.Halted h))
        → (IsLongChain p loops g.line ws (stop.Halted h) → AreCounted p loops g.line n) → AreCounted p loops pc (suc n)
    by_head true e m go =
        let few = head_few p loops g.line ws n (state_behind w.change s) h law c regions later (rw e at m) g.takes in
        let most = leading_few p loops g.line regions in
        record { lines = []; to = pc; path = refl; unmarked = tt; few = omega (arith, few, most) }
    by_head false e m go =
        let u = go (rw e at m) in
        let few = u.few in
        record {
          lines = g.line ∷ u.lines;
          to = u.to;
          path = (arc, u.path);
          unmarked = (mark_of (length p.lines) loops g.line (arc_inside p pc g.line c arc) ∙ ap Some e, u.unmarked);
          few = omega (arith, few);
        }

-- a run that takes a path of a region makes few steps
pub few_steps : (p : Procedure) (loops : List LoopInfo) (pc : ℕ) (s : State) (r : RegionPath) (n : ℕ) (h : Halt) → WaysAreSteps → WaysGoAlongArcs → BeginsRegion p loops pc
    → IsInRange p.places s → IsLongPath p loops pc r → r.stop ≡ stop.Halted h → TakesDecisions p n pc s r.row.path h → n < 2 * length p.lines + 2
few_steps p loops pc s r n h law arcs b range k e t =
    let chain : IsLongChain p loops pc k.ways (stop.Halted h) = subst (λ x. IsLongChain p loops pc k.ways x) e k.chain in
    let same : r.row.path ≡ path_of k.ways = ap (λ (x : PlainRow). x.path) k.row ∙ along-path k.ways (own_values (length p.places)) in
    let u = chain_few p loops pc k.ways n s h law arcs b.checked b.regions range chain (subst (λ x. TakesDecisions p n pc s x h) same t) in
    let lines = few_unmarked p (head_marks (length p.lines) loops) pc u.lines u.to (heads_cut p loops pc b) u.path u.unmarked in
    let few = u.few in
    omega (arith, few, lines, length-head_marks (length p.lines) loops)
