use Rattle.std.proofs.Common.{inl, inr, ap, ◌<◌, length, get_or, arith}
use Rattle.std.proofs.lemmas.List.{get_or_read, take_all}
use Rattle.il_core.specs.LineGraph.{IsIn}
use Rattle.disjoint_paths.specs.declared.widening.Opened.{Opened}
use Rattle.disjoint_paths.specs.declared.widening.Origin.TheVariants.{Tail}
use Rattle.disjoint_paths.specs.Asked.{arcs_of, targets_of}
use Rattle.disjoint_paths.proofs.Openings.{row_read, row_entry, kept_more, grown_same, grown_on, grown_step, widening_step, line_new}
use Rattle.disjoint_paths.proofs.widening.Widening.visit.Goals as goal
use Rattle.disjoint_paths.proofs.widening.Widening.visit.Goals.{in-Opens+in_ok-add-in-Opens, in-Leaps+in_ok-leap-in-Leaps, in-Stays}

pub turn-requires-clause-within : goal.turn-requires-clause-within
turn-requires-clause-within c =
    c.requires.asked.rows _ _ (row_entry c.args.asked.now.rows.now c.args.self.now.opened.items c.args.before c.index.result.now c.row-row.result.now c.loop-line.line-index c.row-row.ensures
    c.index.ensures c.requires.known c.loop-line-test.true)

pub returns-in-Ends-clause-some : goal.returns-in-Ends-clause-some
returns-in-Ends-clause-some c = (
  row_entry c.args.asked.now.rows.now c.args.self.now.opened.items c.args.before c.index.result.now c.row-row.result.now c.loop-line.line-index c.row-row.ensures
      c.index.ensures c.requires.known c.loop-line-test.true,
  c.in-Ends.ensures,
)

pub add-requires : goal.add-requires
add-requires c =
    let b = c.requires.asked.rows _ _ (row_entry c.args.asked.now.rows.now c.args.self.now.opened.items c.args.before c.index.result.now c.row-row.result.now c.loop-line.line-index c.row-row.ensures
    c.index.ensures c.requires.known c.loop-line-test.true) in
    let s = c.loop-line.invariant.state.size in
    omega (arith, b, s)

pub leap-requires-clause-arc : goal.leap-requires-clause-arc
leap-requires-clause-arc c =
    let same = c.loop-line.invariant.grown.same c.args.before c.requires.known in
    rw (same, c.in-Leaps.ensures.1) (row_entry c.args.asked.now.rows.now c.args.self.now.opened.items c.args.before c.index.result.now c.row-row.result.now c.loop-line.line-index c.row-row.ensures
    c.index.ensures c.requires.known c.loop-line-test.true)

pub loop-line-preserved : goal.loop-line-preserved
loop-line-preserved c = elim c.match-turn.branch [
  | in-Opens+in_ok-add-in-Opens w ↦
      let arc = row_entry c.args.asked.now.rows.now c.args.self.now.opened.items c.args.before c.index.result.now c.row-row.result.now c.loop-line.line-index c.row-row.ensures
      c.index.ensures c.requires.known c.loop-line-test.true in
      let same = c.loop-line.invariant.grown.same c.args.before c.requires.known in
      let m = c.loop-line.invariant.grown.more in
      let l : c.args.before < length c.loop-line.self.opened.items = omega arith in
      let b = c.requires.asked.rows _ _ arc in
      let f = ap (λ (o : Opened). o.from) (get_or_read c.loop-line.self.opened.items c.args.before w.index-in-Opens.result.now l w.index-in-Opens.ensures (record { line = 0; origin = Tail; from = 0 })) in
      let state = widening_step (arcs_of c.args.asked.now) (targets_of c.args.asked.now) c.args.asked.now.tail c.args.asked.now.path.now (length c.args.asked.now.rows.now) c.loop-line.self.roles.items
      c.loop-line.self.opened.items c.loop-line.self.start (get_or c.row-row.result.now c.loop-line.line-index 0) c.args.before _ c.loop-line.invariant.state l (rw same arc) b f
      w.in-Opens.ensures.0 w.in-Opens.ensures.1 w.in-Opens.ensures.2 in
      let grown = grown_step (arcs_of c.args.asked.now) (targets_of c.args.asked.now) c.args.asked.now.tail c.args.asked.now.path.now (length c.args.asked.now.rows.now) c.loop-line.self.roles.items
      c.loop-line.self.opened.items c.loop-line.self.start c.loop-line.self.start _ c.loop-line.invariant.state b w.in-Opens.ensures.0 w.in-Opens.ensures.1 in
      rw (w.self-is, w.in_ok-add-in-Opens.ensures.start, w.in_ok-add-in-Opens.ensures.roles, w.in_ok-add-in-Opens.ensures.opened)
      (record {
        state = state;
        grown = grown_on _ _ _ _ _ _ _ _ _ _ _ c.loop-line.invariant.grown grown;
        kept = kept_more (targets_of c.args.asked.now) c.args.asked.now.path.now c.row-row.result.now c.loop-line.line-index _ _ _ _ _ _ c.loop-line-test.true c.loop-line.invariant.kept grown
            (inr (line_new c.loop-line.self.opened.items _, w.in-Opens.ensures.2.0));
      })
  | in-Leaps+in_ok-leap-in-Leaps w ↦
      rw w.self-is
      (record {
        state = w.in_ok-leap-in-Leaps.ensures.state;
        grown = grown_on _ _ _ _ _ _ _ _ _ _ _ c.loop-line.invariant.grown w.in_ok-leap-in-Leaps.ensures.grown;
        kept = kept_more (targets_of c.args.asked.now) c.args.asked.now.path.now c.row-row.result.now c.loop-line.line-index _ _ _ _ _ _ c.loop-line-test.true c.loop-line.invariant.kept
            w.in_ok-leap-in-Leaps.ensures.grown
            (rw w.in_ok-leap-in-Leaps.ensures.start (inl (w.in-Leaps.ensures.0, w.in-Leaps.ensures.1)));
      })
  | in-Stays w ↦
      rw w.self-is
      (record {
        state = c.loop-line.invariant.state;
        grown = c.loop-line.invariant.grown;
        kept = kept_more (targets_of c.args.asked.now) c.args.asked.now.path.now c.row-row.result.now c.loop-line.line-index _ _ _ _ _ _ c.loop-line-test.true c.loop-line.invariant.kept
            (grown_same _ _ c.loop-line.self.roles.items c.loop-line.self.opened.items c.loop-line.self.start) (inr (w.in-Stays.ensures.0, w.in-Stays.ensures.1));
      })
]

pub returns-clause-none : goal.returns-clause-none
returns-clause-none c v h =
    let e = row_read c.args.asked.now.rows.now c.args.self.now.opened.items c.args.before c.index.result.now c.row-row.result.now c.row-row.ensures c.index.ensures c.requires.known in
    let i : IsIn c.row-row.result.now v = rw e h in
    let a = take_all c.loop-line.line-index c.row-row.result.now c.loop-line-test.false in
    c.loop-line.invariant.kept v (rw a i)
