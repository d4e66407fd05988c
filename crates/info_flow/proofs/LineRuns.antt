-- The runs of a checked procedure over its graph: two that end, and whose initial states agree on what line 0 needs, end with equal values.
use Rattle.std.proofs.Common.{◌≡◌, ◌⊎◌, inl, inr, sym, ap, subst, ◌∙◌, ℕ, zero, suc, ◌<◌, Bool, true, false, Option, Some, None, length, slice_get, arith}
use Rattle.std.specs.Option.{option_map}
use Rattle.std.proofs.lemmas.Bool.{false≢true}
use Rattle.std.proofs.lemmas.Bool.Decides.{eqb_tells}
use Rattle.std.proofs.lemmas.Option.{slice_get-map, slice_get_cases, same_Some}
use Rattle.il_core.specs.Evaluation.{State, value_at}
use Rattle.il_core.specs.Machine.{Step, goes, stays, stepped, stepped_at, step}
use Rattle.il_core.specs.Procedure.{Procedure, Instruction}
use Rattle.il_core.specs.Run.{IsInRange, Steps, Ends}
use Rattle.il_core.specs.Checked.{IsChecked}
use Rattle.il_core.specs.declared.line.Halt.TheVariants.{End}
use Rattle.il_core.proofs.StepKeeps.{step-kept}
use Rattle.flow_graph.specs.declared.graph.Node.{Node}
use Rattle.flow_graph.specs.declared.graph.NodeKind.TheVariants.{Last}
use Rattle.flow_graph.specs.Graph.{Joins, graph_of, node_of, returned_from, written_by, kind_of}
use Rattle.flow_graph.proofs.LineArcs.{Joins-from_HasArc}
use Rattle.flow_graph.proofs.Formed.{graph_formed, graph_placed, graph_reads}
use Rattle.info_flow.specs.Relevance.{Assigns, IsClosed}
use Rattle.info_flow.specs.Agreement.{Agree}
use Rattle.info_flow.proofs.TwoRuns.{EndsIn, Simulates, equal_ends}
use Rattle.info_flow.proofs.Stepping.{Alike, stepped_value, stepped_alike, stepped_end}
use Rattle.info_flow.proofs.Outside.{no_pair_outside, none_leaves}

-- an option holds a number or not
pub is_some_of_or_not : (o : Option ℕ) (x : ℕ) → (o ≡ Some x) ⊎ (o ≡ Some x → ⊥)
is_some_of_or_not None x = inr (λ e. cc)
is_some_of_or_not (Some y) x = elim (eqb_tells y x) [ inl same ↦ inl (ap Some same.1) | inr other ↦ inr (λ e. other.1 (same_Some y x e)) ]

-- the step of a line is that of its instruction
pub step_is : (p : Procedure) (a : ℕ) (s : State) (i : Instruction) → slice_get p.lines a ≡ Some i → step p a s ≡ stepped p.places a s i
unfolding step
step_is p a s i e = ap (stepped_at p.places a s) e

-- the step from a line of the procedure and a state in range goes on, or halts at the end
abbrev pub GoesOn : Procedure → ℕ → State → ℕ → State → Type 0
GoesOn p a s b t = (a < length p.lines) × IsInRange p.places s × (step p a s ≡ goes b t)

abbrev pub Finishes : Procedure → ℕ → State → Type 0
Finishes p a s = (a < length p.lines) × IsInRange p.places s × (step p a s ≡ stays End s)

-- a line of a procedure: its instruction and its node
pub record LineAt (p : Procedure) (a : ℕ) : Type 0 where
  pub instruction : Instruction
  pub there : slice_get p.lines a ≡ Some instruction
  pub node : slice_get (graph_of p).nodes a ≡ Some (node_of (returned_from 0 p.places) instruction)

pub line_at : (p : Procedure) (a : ℕ) → a < length p.lines → LineAt p a
line_at p a l = elim (slice_get_cases p.lines a).1 [
  | inl t ↦ record {
    instruction = t.0;
    there = t.2;
    node = slice_get-map (node_of (returned_from 0 p.places)) p.lines a ∙ ap (option_map (node_of (returned_from 0 p.places))) t.2;
  }
  | inr t ↦ absurd (omega (arith, l, t.0))
]

-- what the node of a line assigns
assigns_from : (p : Procedure) (a x : ℕ) (l : LineAt p a) → written_by l.instruction ≡ Some x → Assigns (graph_of p).nodes a x
assigns_from p a x l h = (node_of (returned_from 0 p.places) l.instruction, l.node, h)

pub assigns_means : (p : Procedure) (a x : ℕ) (l : LineAt p a) → Assigns (graph_of p).nodes a x → written_by l.instruction ≡ Some x
assigns_means p a x l w =
    let same : node_of (returned_from 0 p.places) l.instruction ≡ w.0 = same_Some _ w.0 (sym l.node ∙ w.1) in
    ap (λ (n : Node). n.writes) same ∙ w.2

module _ (p : Procedure) (checked : IsChecked p) (v : ℕ) (relevant : ℕ → Bool) (needs : ℕ → ℕ → Bool) (closed : IsClosed (graph_of p) v relevant needs) where
  pub along : (a b : ℕ) (s t : State) → GoesOn p a s b t → Joins (graph_of p).arcs a b
  along a b s t g = Joins-from_HasArc p a b ((step-kept p a s checked g.1).along b (ap (λ (x : Step). x.next) g.2))

  -- a step changes no place but the one that the line assigns
  pub value_kept : (a b : ℕ) (s t : State) → GoesOn p a s b t → (l : LineAt p a) (x : ℕ) → (written_by l.instruction ≡ Some x → ⊥) → value_at t x ≡ value_at s x
  value_kept a b s t g l x n =
      let e : (stepped p.places a s l.instruction).state ≡ t = ap (λ (y : Step). y.state) (sym (step_is p a s l.instruction l.there) ∙ g.2) in
      subst (λ (u : State). value_at u x ≡ value_at s x) e (stepped_value p.places a s l.instruction x n)

  -- what a line behind it needs, a line that is not relevant needs too, and leaves as it is
  quiet : (a b : ℕ) (s t : State) → relevant a ≡ false → GoesOn p a s b t → (x : ℕ) → needs b x ≡ true → (needs a x ≡ true) × (value_at t x ≡ value_at s x)
  quiet a b s t r g x h =
      let l = line_at p a g.0 in
      let j = along a b s t g in
      let n : Assigns (graph_of p).nodes a x → ⊥ = λ w. false≢true (sym r ∙ closed.assigned a b x w j h) in
      (closed.kept a b x j h n, value_kept a b s t g l x (λ w. n (assigns_from p a x l w)))

  -- two steps of a relevant line from states that agree on what it needs
  both_step : (a b c : ℕ) (s t f g : State) → relevant a ≡ true → GoesOn p a s b f → GoesOn p a t c g → Agree (λ x. needs a x ≡ true) s t
      → (l : LineAt p a) → Alike l.instruction b c f g
  both_step a b c s t f g r d e same l =
      let node = node_of (returned_from 0 p.places) l.instruction in
      stepped_alike p.places a l.instruction b c s t f g d.1.size e.1.size
      (λ x w. rw w at ((graph_placed p checked).each a node l.node).writes)
      (λ x i. same x (closed.read a x r (node, l.node, (graph_reads p checked a l.instruction node l.there l.node x).1 i)))
      (sym (step_is p a s l.instruction l.there) ∙ d.2) (sym (step_is p a t l.instruction l.there) ∙ e.2)

  alike : (a b c : ℕ) (s t f g : State) → relevant a ≡ true → GoesOn p a s b f → GoesOn p a t c g → Agree (λ x. needs a x ≡ true) s t
      → (b ≡ c) × ((x : ℕ) → needs b x ≡ true → value_at f x ≡ value_at g x)
  alike a b c s t f g r d e same =
      let l = line_at p a d.0 in
      let k = both_step a b c s t f g r d e same l in (
        k.line,
        λ x h. elim (is_some_of_or_not (written_by l.instruction) x) [
          | inl w ↦ k.value x w
          | inr n ↦
              let m = closed.kept a b x (along a b s f d) h (λ w. n (assigns_means p a x l w)) in
              value_kept a b s f d l x n ∙ same x m ∙ sym (value_kept a c t g e l x n)
        ],
      )

  -- a run ends at the last line
  pub last_kind : (a : ℕ) (s : State) → Finishes p a s → (l : LineAt p a) → kind_of l.instruction ≡ Last
  last_kind a s e l = stepped_end p.places a s l.instruction (ap (λ (y : Step). y.next) (sym (step_is p a s l.instruction l.there) ∙ e.2))

  ends : (a : ℕ) (s : State) → Finishes p a s → (relevant a ≡ true) × (needs a v ≡ true)
  ends a s e =
      let l = line_at p a e.0 in
      let n = (graph_formed p checked).nodes a (node_of (returned_from 0 p.places) l.instruction) l.node in
      closed.last a (n.last.0 (last_kind a s e l))

  stuck : (a b : ℕ) (s : State) → Finishes p a s → Joins (graph_of p).arcs a b → ⊥
  stuck a b s e j =
      let l = line_at p a e.0 in
      none_leaves (graph_of p) a b (node_of (returned_from 0 p.places) l.instruction) (graph_formed p checked) l.node (last_kind a s e l) j

  pub simulates : Simulates (Joins (graph_of p).arcs) (GoesOn p) (Finishes p) value_at relevant needs v
  simulates = record {
    along = along;
    quiet = quiet;
    alike = alike;
    ends = ends;
    stuck = stuck;
    alone = no_pair_outside (graph_of p) v relevant needs (graph_formed p checked) closed;
  }

  -- the steps of a run that ends
  steps_end : (n a : ℕ) (s : State) (last : ℕ) (f : State) → a < length p.lines → IsInRange p.places s → Steps p n a s last f → step p last f ≡ stays End f
      → EndsIn (GoesOn p) (Finishes p) n a s f
  steps_end zero a s last f l r w e = ((l, r, rw (w.0, w.1) e), w.1)
  steps_end (suc n) a s last f l r w e =
      let k = step-kept p a s checked r in
      (w.0, w.1, (l, r, w.2), steps_end n w.0 w.1 last f (k.inside w.0 (ap (λ (x : Step). x.next) w.2)) (rw (ap (λ (x : Step). x.state) w.2) at k.in_range) w.3 e)

  pub run_ends : (s f : State) (e : Ends p s f) → EndsIn (GoesOn p) (Finishes p) e.count 0 s f
  run_ends s f e = let m = checked.some_lines in steps_end e.count 0 s e.halts.last f (omega arith) e.initial.in_range e.halts.steps e.halts.halts

  pub equal_values : (s t f g : State) → Ends p s f → Ends p t g → Agree (λ x. needs 0 x ≡ true) s t → value_at f v ≡ value_at g v
  equal_values s t f g d e same =
      equal_ends (Joins (graph_of p).arcs) (GoesOn p) (Finishes p) value_at relevant needs v simulates d.count d.count e.count 0 s t f g (omega arith) (run_ends s f d) (run_ends t g e) same
