-- The runs of a slice: it is checked, passes from each line to the next relevant one, and ends where the procedure ends, with the same value of the variable.
use Rattle.std.proofs.Common.{◌≡◌, inl, inr, refl, sym, ap, subst, ◌∙◌, ℕ, zero, suc, ◌+◌, ◌<◌, Bool, true, false, cond, Some, List, [], ◌∷◌, length, slice_get, arith}
use Rattle.std.proofs.lemmas.Bool.{false≢true}
use Rattle.std.proofs.lemmas.List.{length-map}
use Rattle.std.proofs.lemmas.Option.{slice_get_cases, slice_get_within, same_Some}
use Rattle.il_core.specs.Evaluation.{State, value_at}
use Rattle.il_core.specs.Machine.{Step, goes, stays, decided, stepped, step}
use Rattle.il_core.specs.Procedure.{Procedure, Instruction, pre, assign, if_true, otherwise, end_if, loop, end_loop, exit, exit_when, label, goto, skip, assert, return, end_procedure}
use Rattle.il_core.specs.Expression.{truth}
use Rattle.il_core.specs.Run.{IsInRange, IsInitial, Steps, Ends}
use Rattle.il_core.specs.Checked.{IsChecked, AreInOrder, HasRange}
use Rattle.il_core.specs.LineGraph.{IsIn, heads_of, heads_at}
use Rattle.il_core.specs.declared.line.Place.{Place}
use Rattle.il_core.specs.declared.line.Halt.{Halt}
use Rattle.il_core.specs.declared.line.Halt.TheVariants.{End}
use Rattle.il_core.proofs.StepKeeps.{step-kept}
use Rattle.flow_graph.specs.declared.graph.NodeKind.TheVariants.{Test}
use Rattle.flow_graph.specs.Graph.{Joins, arc_to, graph_of, heads_from, node_of, returned_from, written_by, kind_of}
use Rattle.flow_graph.specs.Meeting.{Meets}
use Rattle.flow_graph.proofs.LineArcs.{heads_from_graph, Joins-from_heads}
use Rattle.flow_graph.proofs.Formed.{graph_formed, graph_placed, graph_reads}
use Rattle.info_flow.specs.Relevance.{IsClosed}
use Rattle.info_flow.specs.Agreement.{Agree}
use Rattle.info_flow.proofs.Meetings.{one_meeting}
use Rattle.info_flow.proofs.Outside.{no_pair_outside}
use Rattle.info_flow.proofs.Stepping.{stepped_value}
use Rattle.info_flow.proofs.TwoRuns.{EndsIn}
use Rattle.info_flow.proofs.LineRuns.{GoesOn, Finishes, LineAt, line_at, step_is, is_some_of_or_not, assigns_means, value_kept, along, last_kind, simulates, run_ends}
use Rattle.flow_slice.specs.Slice.{IsSlice, IsFixedTo, sliced}
use Rattle.flow_slice.specs.Laws.{EndsWith}
use Rattle.flow_slice.proofs.Nearest.{IsNearest, nearest_of, away_of_meeting, one_head, no_head, fixed_side}
use Rattle.flow_slice.proofs.Mirrored.{Passes, Mirror, Mirrors, equal_ending}
use Rattle.flow_slice.proofs.SlicedLines.{sliced_fits, written_kept, sliced_end, goes_alike}

-- each line of a slice is made of one of the procedure
line_made : (p slice : Procedure) (relevant : ℕ → Bool) (m : IsSlice p relevant slice) (k : ℕ) (j : Instruction) → slice_get slice.lines k ≡ Some j
    → (i : Instruction) × (slice_get p.lines k ≡ Some i) × (j ≡ sliced (relevant k) (m.taken k) i)
line_made p slice relevant m k j e = elim (slice_get_cases p.lines k).1 [
  | inl t ↦ (t.0, t.2, same_Some j _ (sym e ∙ m.lines k t.0 t.2))
  | inr t ↦ let l = slice_get_within slice.lines k j e in let s = m.size in absurd (omega (arith, l, s, t.0))
]

pub slice_checked : (p slice : Procedure) (relevant : ℕ → Bool) → IsChecked p → IsSlice p relevant slice → IsChecked slice
slice_checked p slice relevant c m = record {
  some_lines = rw m.size c.some_lines;
  few_lines = rw m.size c.few_lines;
  few_places = rw m.places c.few_places;
  begins = (truth true, m.lines 0 (pre c.begins.0) c.begins.1);
  ends = (truth true, c.ends.1, rw m.size c.ends.2, m.lines c.ends.1 (end_procedure c.ends.0) c.ends.3);
  fits = λ pc j e. let t = line_made p slice relevant m pc j e in
      rw (m.places, m.size, t.2) (sliced_fits p.places (length p.lines) pc (relevant pc) (m.taken pc) t.0 (c.fits pc t.0 t.1));
  ranges = subst (λ (ps : List Place). (k : ℕ) (place : Place) → slice_get ps k ≡ Some place → HasRange place) (sym m.places) c.ranges;
  in_order = subst AreInOrder (sym m.places) c.in_order;
}

module _ (p slice : Procedure) (checked : IsChecked p) (v : ℕ) (relevant : ℕ → Bool) (needs : ℕ → ℕ → Bool) (closed : IsClosed (graph_of p) v relevant needs)
    (made : IsSlice p relevant slice) where
  -- the step of a line of the slice
  made_step : (a : ℕ) (t : State) (l : LineAt p a) → step slice a t ≡ stepped p.places a t (sliced (relevant a) (made.taken a) l.instruction)
  made_step a t l = step_is slice a t _ (made.lines a l.instruction l.there) ∙ ap (λ ps. stepped ps a t (sliced (relevant a) (made.taken a) l.instruction)) made.places

  inside : (a : ℕ) → a < length p.lines → a < length slice.lines
  inside a l = rw made.size l

  -- a step at a relevant line
  alike : (a b : ℕ) (s t f : State) → relevant a ≡ true → GoesOn p a s b f → IsInRange slice.places t → Agree (λ x. needs a x ≡ true) s t
      → Mirror (Joins (graph_of p).arcs) (GoesOn p) (Finishes p) value_at relevant needs v (GoesOn slice) (Finishes slice) (IsInRange slice.places) b f a t
  alike a b s t f r g k same =
      let l = line_at p a g.0 in
      let node = node_of (returned_from 0 p.places) l.instruction in
      let range : IsInRange p.places t = rw made.places at k in
      let w = goes_alike p.places a (made.taken a) l.instruction b s t f g.1.size range.size
      (λ x h. rw h at ((graph_placed p checked).each a node l.node).writes)
      (λ x i. same x (closed.read a x r (node, l.node, (graph_reads p checked a l.instruction node l.there l.node x).1 i)))
      (sym (step_is p a s l.instruction l.there) ∙ g.2) in
      let e : step slice a t ≡ goes b w.state = made_step a t l ∙ rw r w.step in
      record {
        state = w.state;
        step = (inside a g.0, k, e);
        fit = rw (ap (λ (y : Step). y.state) e) at (step-kept slice a t (slice_checked p slice relevant checked made) k).in_range;
        same = λ x h. elim (is_some_of_or_not (written_by l.instruction) x) [
          | inl here ↦ w.value x here
          | inr n ↦
              let m = closed.kept a b x (along p checked v relevant needs closed a b s f g) h (λ y. n (assigns_means p a x l y)) in
              let kept = stepped_value p.places a t (sliced true (made.taken a) l.instruction) x (λ y. n (sym (written_kept (made.taken a) l.instruction) ∙ y)) in
              value_kept p checked v relevant needs closed a b s f g l x n ∙ same x m ∙ sym (rw (ap (λ (y : Step). y.state) w.step) at kept)
        ];
      }

  halting : (a : ℕ) (s t : State) → Finishes p a s → IsInRange slice.places t → Finishes slice a t
  halting a s t h k =
      let l = line_at p a h.0 in
      (inside a h.0, k, made_step a t l ∙ sliced_end p.places a t (relevant a) (made.taken a) l.instruction (last_kind p checked v relevant needs closed a s h l))

  -- a step of a line that is not relevant: it leaves the state as it is, and goes along an arc from which a path of n arcs to a relevant line is shortest
  record Approach (n a : ℕ) (t : State) (i : Instruction) : Type 0 where
    pub line : ℕ
    pub step : stepped p.places a t i ≡ goes line t
    pub arc : IsIn (heads_from (graph_of p).arcs a) line
    pub nearest : IsNearest (graph_of p).arcs relevant n line

  -- to the only head
  only_way : (n a q : ℕ) (t : State) (i : Instruction) → stepped p.places a t i ≡ goes q t → heads_from (graph_of p).arcs a ≡ q ∷ [] → IsNearest (graph_of p).arcs relevant (suc n) a
      → Approach n a t i
  only_way n a q t i e h w = record { line = q; step = e; arc = rw h (inl refl); nearest = one_head (graph_of p).arcs relevant n a q h w }

  -- to the side to which a test is fixed
  fixed_way : (n a met unmet : ℕ) (t : State) (i : Instruction) (taken : Bool) → stepped p.places a t i ≡ goes (cond taken met unmet) t
      → heads_from (graph_of p).arcs a ≡ met ∷ unmet ∷ [] → IsNearest (graph_of p).arcs relevant (suc n) a → IsFixedTo (graph_of p) relevant a taken → Approach n a t i
  fixed_way n a met unmet t i taken e h w f = record {
    line = cond taken met unmet;
    step = e;
    arc = rw h (either taken);
    nearest = fixed_side (graph_of p).arcs relevant n a met unmet taken w h (f met unmet h);
  }
    where
      either : (b : Bool) → IsIn (met ∷ unmet ∷ []) (cond b met unmet)
      either true = inl refl
      either false = inr (inl refl)

  test_step : (taken : Bool) (h : Halt) (met unmet : ℕ) (t : State) → decided (Some taken) (stays h t) (goes met t) (goes unmet t) ≡ goes (cond taken met unmet) t
  test_step true h met unmet t = refl
  test_step false h met unmet t = refl

  approach : (n a : ℕ) (t : State) (i : Instruction) (taken : Bool) → heads_from (graph_of p).arcs a ≡ heads_of a i → IsNearest (graph_of p).arcs relevant (suc n) a
      → (kind_of i ≡ Test → IsFixedTo (graph_of p) relevant a taken) → Approach n a t (sliced false taken i)
  approach n a t (pre e) b h w f = only_way n a (a + 1) t _ refl h w
  approach n a t (assign x e) b h w f = only_way n a (a + 1) t _ refl h w
  approach n a t (if_true e q) b h w f = fixed_way n a (a + 1) q t _ b (test_step b _ (a + 1) q t) h w (f refl)
  approach n a t (otherwise q) b h w f = only_way n a q t _ refl h w
  approach n a t end_if b h w f = only_way n a (a + 1) t _ refl h w
  approach n a t loop b h w f = only_way n a (a + 1) t _ refl h w
  approach n a t (end_loop q) b h w f = only_way n a q t _ refl h w
  approach n a t (exit q) b h w f = only_way n a q t _ refl h w
  approach n a t (exit_when e q) b h w f = fixed_way n a q (a + 1) t _ b (test_step b _ q (a + 1) t) h w (f refl)
  approach n a t label b h w f = only_way n a (a + 1) t _ refl h w
  approach n a t (goto q) b h w f = only_way n a q t _ refl h w
  approach n a t skip b h w f = only_way n a (a + 1) t _ refl h w
  approach n a t (assert e) b h w f = only_way n a (a + 1) t _ refl h w
  approach n a t (return q) b h w f = only_way n a q t _ refl h w
  approach n a t (end_procedure e) b h w f = no_head (graph_of p).arcs relevant n a h w

  -- steps of the slice from a line to the next relevant one, which leave the state as it is
  record Passing (a : ℕ) (t : State) : Type 0 where
    pub line : ℕ
    pub lines : List ℕ
    pub meets : Meets (Joins (graph_of p).arcs) (λ l. relevant l ≡ true) a lines line
    pub count : ℕ
    pub passes : Passes (Joins (graph_of p).arcs) (GoesOn p) (Finishes p) value_at relevant needs v (GoesOn slice) (Finishes slice) (IsInRange slice.places) count a t line

  arrived : (a : ℕ) (t : State) → relevant a ≡ true → Passing a t
  arrived a t r = record { line = a; lines = []; meets = (refl, r); count = 0; passes = refl }

  -- an arc leaves a line of the procedure
  tail_inside : (a b : ℕ) → Joins (graph_of p).arcs a b → a < length p.lines
  tail_inside a b j =
      let l = ((graph_formed p checked).arcs (arc_to a b) j).tail_inside in
      rw (length-map p.lines (node_of (returned_from 0 p.places))) at l

  goes_on : (n a : ℕ) (t : State) (l : LineAt p a) → a < length p.lines → relevant a ≡ false → IsNearest (graph_of p).arcs relevant (suc n) a → IsInRange slice.places t
      → ((b : ℕ) → IsNearest (graph_of p).arcs relevant n b → Passing b t) → Passing a t
  goes_on n a t l inside_p r w k more =
      let heads : heads_from (graph_of p).arcs a ≡ heads_of a l.instruction = heads_from_graph p a ∙ ap (heads_at a) l.there in
      let x = approach n a t l.instruction (made.taken a) heads w (λ e. made.fixed a (node_of (returned_from 0 p.places) l.instruction, l.node, e) r) in
      let e : step slice a t ≡ goes x.line t = made_step a t l ∙ rw r x.step in
      let y = more x.line x.nearest in
      record {
        line = y.line;
        lines = x.line ∷ y.lines;
        meets = (λ h. false≢true (sym r ∙ h), Joins-from_heads (graph_of p).arcs a x.line x.arc, y.meets);
        count = suc y.count;
        passes = (x.line, (inside a inside_p, k, e), y.passes);
      }

  passing : (n a : ℕ) (t : State) → IsNearest (graph_of p).arcs relevant n a → IsInRange slice.places t → Passing a t
  passing zero a t w k = arrived a t w.away
  passing (suc n) a t w k = by_test (λ b h. passing n b t h k) (relevant a) refl
    where
      by_test : ((b : ℕ) → IsNearest (graph_of p).arcs relevant n b → Passing b t) → (r : Bool) → relevant a ≡ r → Passing a t
      by_test more true r = arrived a t r
      by_test more false r = let l = tail_inside a w.away.0 w.away.1 in goes_on n a t (line_at p a l) l r w k more

  -- from a line from which a walk meets a relevant line, the slice passes to that line
  straight : (a : ℕ) (lines : List ℕ) (x : ℕ) (t : State) → Meets (Joins (graph_of p).arcs) (λ l. relevant l ≡ true) a lines x → IsInRange slice.places t
      → (n : ℕ) × Passes (Joins (graph_of p).arcs) (GoesOn p) (Finishes p) value_at relevant needs v (GoesOn slice) (Finishes slice) (IsInRange slice.places) n a t x
  straight a lines x t m k =
      let n = nearest_of (graph_of p).arcs relevant (length lines) a (away_of_meeting (graph_of p).arcs relevant a lines x m) in
      let y = passing n.0 a t n.1 k in
      let same : y.line ≡ x = one_meeting (Joins (graph_of p).arcs) (λ l. relevant l ≡ true) (no_pair_outside (graph_of p) v relevant needs (graph_formed p checked) closed) a y.lines lines y.line x y.meets m in
      (y.count, rw same at y.passes)

  mirrors : Mirrors (Joins (graph_of p).arcs) (GoesOn p) (Finishes p) value_at relevant needs v (GoesOn slice) (Finishes slice) (IsInRange slice.places)
  mirrors = record { alike = alike; halting = halting; straight = straight }

  -- a run that ends, step by step
  run_of : (n a : ℕ) (s f : State) → EndsIn (GoesOn slice) (Finishes slice) n a s f → (last : ℕ) × Steps slice n a s last f × (step slice last f ≡ stays End f)
  run_of zero a s f e = (a, (refl, e.1), rw e.1 at e.0.2)
  run_of (suc n) a s f e = let t = run_of n e.0 e.1 f e.3 in (t.0, (e.0, e.1, e.2.2, t.1), t.2)

  pub ends_alike : (s f : State) → Ends p s f → EndsWith slice s v f
  ends_alike s f e =
      let start : IsInitial slice.places s = rw made.places e.initial in
      let w = equal_ending (Joins (graph_of p).arcs) (GoesOn p) (Finishes p) value_at relevant needs v (GoesOn slice) (Finishes slice) (IsInRange slice.places)
      (simulates p checked v relevant needs closed) mirrors e.count e.count 0 s s f (omega arith) (run_ends p checked v relevant needs closed s f e) start.in_range (λ x h. refl) in
      let r = run_of w.count 0 s w.state w.run in
      (w.state, record { count = w.count; initial = start; halts = record { last = r.0; steps = r.1; halts = r.2 } }, w.equal)
