-- Each line of an opening is quiet; and where a run has passed the leading assertions of a head, it would pass the opening of the head's region.
use Rattle.std.proofs.Common.{◌≡◌, ◌⊎◌, inl, inr, refl, sym, ap, ◌∙◌, subst, ℕ, suc, ◌+◌, ◌≤◌, Bool, true, false, cond, eqb, Some, List, [], ◌∷◌, arith, eqb-true}
use Rattle.std.specs.Prelude.{slice_get}
use Rattle.il_core.specs.Evaluation.{State}
use Rattle.il_core.specs.LineGraph.{IsIn}
use Rattle.il_core.specs.Machine.{Step, goes, step}
use Rattle.il_core.specs.Procedure.{Procedure}
use Rattle.il_core.specs.Run.{is_bad}
use Rattle.il_core.specs.Checked.{IsChecked}
use Rattle.il_core.specs.declared.line.Halt.{Halt}
use Rattle.il_core.specs.declared.line.Stop.{Stop}
use Rattle.il_core.specs.declared.line.Stop.TheVariants as stop
use Rattle.flow_graph.specs.Graph.{graph_of, arc_to}
use Rattle.flow_graph.specs.Reached.{Lists}
use Rattle.flow_graph.specs.declared.graph.NodeKind.TheVariants.{Plain}
use Rattle.flow_graph.proofs.Formed.{graph_formed}
use Rattle.control_flow.specs.Control.{heads_of}
use Rattle.control_flow.specs.Loop.{kind_at, IsAssertion, IsLeading}
use Rattle.control_flow.specs.declared.control.LoopInfo.{LoopInfo}
use Rattle.region_paths.specs.Region.{AreRegions, leading_of}
use Rattle.region_paths.specs.Stepping.{StepsPast, StepsThrough}
use Rattle.compliance.specs.Opening.{opened_by, opening}
use Rattle.compliance.proofs.QuietLines.{IsQuiet, quiet_step, assertion_quiet, plain_quiet, plain_step}

-- each of these lines is passed, and the state stays
abbrev pub ArePassed : Procedure → List ℕ → State → Type 0
ArePassed p lines s = (q : ℕ) → IsIn lines q → step p q s ≡ goes (q + 1) s

-- one step of each of some quiet lines: all are passed, or one halts badly
abbrev pub PassesAllOrFails : Procedure → ℕ → List ℕ → State → Stop → State → Type 0
PassesAllOrFails p head lines s end to_s = ((end ≡ stop.Head head) × (to_s ≡ s) × ArePassed p lines s) ⊎ ((h : Halt) × (end ≡ stop.Halted h) × (is_bad h ≡ true))

passed_more : (p : Procedure) (a : ℕ) (lines : List ℕ) (s : State) → step p a s ≡ goes (a + 1) s → ArePassed p lines s → ArePassed p (a ∷ lines) s
passed_more p a lines s e h q (inl same) = subst (λ x. step p x s ≡ goes (x + 1) s) same e
passed_more p a lines s e h q (inr i) = h q i

pub through_quiet : (p : Procedure) (head : ℕ) (lines : List ℕ) (s : State) (end : Stop) (to_s : State) → ((q : ℕ) → IsIn lines q → IsQuiet p q)
    → StepsThrough p head lines s end to_s → PassesAllOrFails p head lines s end to_s
through_quiet p head [] s end to_s k h = inl (h.0, h.1, λ q i. absurd i)
through_quiet p head (a ∷ lines) s end to_s k h =
    let P : Step → Type 0 = λ t. StepsPast t end to_s (StepsThrough p head lines t.state end to_s) in
    elim (quiet_step p a s (k a (inl refl))) [
      | inl e ↦ elim (through_quiet p head lines s end to_s (λ q i. k q (inr i)) (subst P e h)) [
        | inl t ↦ inl (t.0, t.1, passed_more p a lines s e t.2)
        | inr t ↦ inr t
      ]
      | inr f ↦ let r : (end ≡ stop.Halted f.0) × (to_s ≡ s) = subst P f.1 h in inr (f.0, r.0, f.2)
    ]

-- the loop of a head that has leading assertions
pub record HasLoop (loops : List LoopInfo) (h : ℕ) : Type 0 where
  pub place : ℕ
  pub loop : LoopInfo
  pub there : slice_get loops place ≡ Some loop
  pub head : loop.head ≡ h
  pub leading : leading_of loops h ≡ loop.leading
  pub listed : IsIn (heads_of loops) h

loop_found : (loops : List LoopInfo) (h a : ℕ) → IsIn (leading_of loops h) a → HasLoop loops h
loop_found [] h a i = absurd i
loop_found (l ∷ loops) h a i = by_test (loop_found loops h a) (eqb l.head h) refl i
  where
    by_test : (IsIn (leading_of loops h) a → HasLoop loops h) → (t : Bool) → eqb l.head h ≡ t → IsIn (cond t l.leading (leading_of loops h)) a → HasLoop (l ∷ loops) h
    by_test later true e j = record {
      place = 0;
      loop = l;
      there = refl;
      head = eqb-true l.head h e;
      leading = ap (λ t. cond t l.leading (leading_of loops h)) e;
      listed = inl (eqb-true l.head h e);
    }
    by_test later false e j = let r = later j in record {
      place = suc r.place;
      loop = r.loop;
      there = r.there;
      head = r.head;
      leading = ap (λ t. cond t l.leading (leading_of loops h)) e ∙ r.leading;
      listed = inr r.listed;
    }

-- a list with an element, of the leading lines of a head, has exactly its leading assertions
pub leading_lists : (p : Procedure) (loops : List LoopInfo) (h a : ℕ) → AreRegions p loops → IsIn (leading_of loops h) a
    → Lists (IsLeading (graph_of p).nodes h) (leading_of loops h)
leading_lists p loops h a r i =
    let f = loop_found loops h a i in
    let t : Lists (IsLeading (graph_of p).nodes f.loop.head) f.loop.leading = (r.loops_of.each f.place f.loop f.there).leading in
    let u : Lists (IsLeading (graph_of p).nodes h) f.loop.leading = rw f.head at t in
    subst (Lists (IsLeading (graph_of p).nodes h)) (sym f.leading) u

pub leading_quiet : (p : Procedure) (loops : List LoopInfo) (h a : ℕ) → AreRegions p loops → IsIn (leading_of loops h) a → IsQuiet p a
leading_quiet p loops h a r i = let t = ((leading_lists p loops h a r i).exact a).0 i in assertion_quiet p a (t.3 a t.2 (omega arith))

-- a head with leading assertions is itself one, or does nothing
head_kind : (p : Procedure) (loops : List LoopInfo) (h a : ℕ) → AreRegions p loops → IsIn (leading_of loops h) a
    → IsIn (leading_of loops h) h × IsQuiet p h ⊎ (kind_at (graph_of p).nodes h ≡ Some Plain)
head_kind p loops h a r i =
    let l = leading_lists p loops h a r i in
    let t = (l.exact a).0 i in
    elim t.1 [
      | inl b ↦
          let here : (j : ℕ) → h ≤ j → j ≤ h → IsAssertion (graph_of p).nodes j = λ j low high. let e : h ≡ j = omega (arith, low, high) in subst (IsAssertion (graph_of p).nodes) e b.0 in
          inl ((l.exact h).1 (h, inl (b.0, refl), omega arith, here), assertion_quiet p h b.0)
      | inr b ↦ inr b.0
    ]

-- a line of the opening is a leading assertion, or the head
in_opened : (pc : ℕ) (lines : List ℕ) (q : ℕ) → IsIn (opened_by pc lines) q → IsIn lines q ⊎ ((pc ≡ q) × (a : ℕ) × IsIn lines a)
in_opened pc [] q i = absurd i
in_opened pc (a ∷ lines) q i = by_test (eqb a pc) i
  where
    by_test : (t : Bool) → IsIn (cond t (a ∷ lines) (pc ∷ a ∷ lines)) q → IsIn (a ∷ lines) q ⊎ ((pc ≡ q) × (b : ℕ) × IsIn (a ∷ lines) b)
    by_test true j = inl j
    by_test false (inl e) = inr (e, a, inl refl)
    by_test false (inr j) = inl j

pub opening_quiet : (p : Procedure) (loops : List LoopInfo) (pc q : ℕ) → AreRegions p loops → IsIn (opening loops pc) q → IsQuiet p q
opening_quiet p loops pc q r i = elim (in_opened pc (leading_of loops pc) q i) [
  | inl j ↦ leading_quiet p loops pc q r j
  | inr t ↦ subst (IsQuiet p) t.0 (elim (head_kind p loops pc t.1 r t.2) [ inl k ↦ k.1 | inr k ↦ plain_quiet p pc k ])
]

pub opening_passed : (p : Procedure) (loops : List LoopInfo) (pc : ℕ) (s : State) → AreRegions p loops → ArePassed p (leading_of loops pc) s
    → ArePassed p (opening loops pc) s
opening_passed p loops pc s r h q i = elim (in_opened pc (leading_of loops pc) q i) [
  | inl j ↦ h q j
  | inr t ↦ subst (λ x. step p x s ≡ goes (x + 1) s) t.0 (elim (head_kind p loops pc t.1 r t.2) [ inl k ↦ h pc k.0 | inr k ↦ plain_step p pc s k ])
]

-- line 0 is no head, so its region has no opening
pub start_not_opened : (p : Procedure) (loops : List LoopInfo) (q : ℕ) → IsChecked p → AreRegions p loops → IsIn (opening loops 0) q → ⊥
start_not_opened p loops q c r i = elim (in_opened 0 (leading_of loops 0) q i) [ inl j ↦ never q j | inr t ↦ never t.1 t.2 ]
  where
    never : (a : ℕ) → IsIn (leading_of loops 0) a → ⊥
    never a j =
        let f = loop_found loops 0 a j in
        let b = (r.loops_of.heads.exact 0).0 f.listed in
        ((graph_formed p c).arcs (arc_to b.0 0) b.1.arc).enters_no_start refl
