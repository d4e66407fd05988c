-- A long path that halts stays within the opening of its region exactly where it passes no more lines than the opening has.
use Rattle.std.proofs.Common.{◌≡◌, ◌⊎◌, inl, inr, refl, sym, ap, ◌∙◌, subst, ℕ, ◌+◌, ◌≤◌, Bool, true, false, cond, Option, Some, List, [], ◌∷◌, length, slice_get, arith}
use Rattle.std.proofs.lemmas.Bool.Decides.{eqb_tells}
use Rattle.il_core.specs.LineGraph.{IsIn, heads_of, heads_at}
use Rattle.il_core.specs.Procedure.{Procedure, Instruction, end_if, loop, label, skip, assert}
use Rattle.il_core.specs.declared.line.Halt.{Halt}
use Rattle.il_core.specs.declared.line.Next.{Next}
use Rattle.il_core.specs.declared.line.Next.TheVariants as next
use Rattle.il_core.specs.declared.line.Stop.TheVariants as stop
use Rattle.flow_graph.specs.Graph.{graph_of, kind_of}
use Rattle.flow_graph.specs.declared.graph.NodeKind.TheVariants.{Assertion, Plain}
use Rattle.control_flow.specs.Loop.{IsAssertion, BeginsAt}
use Rattle.control_flow.specs.declared.control.LoopInfo.{LoopInfo}
use Rattle.test_graph.specs.Way.{Way, line_paths}
use Rattle.test_graph.specs.Laws.{WaysGoAlongArcs}
use Rattle.region_paths.specs.Region.{AreRegions, is_head, leading_of}
use Rattle.region_paths.specs.Chain.{IsLongChain, Onward, Leads, Passes}
use Rattle.compliance.specs.Opening.{opened_by, opening, StayWithin}
use Rattle.compliance.proofs.QuietLines.{IsQuiet, IsQuietKind, assertion_quiet, plain_quiet}
use Rattle.compliance.proofs.Openings.{leading_lists}
use Rattle.compliance.proofs.Following.{FollowOn, LeadsFrom, leads_from}

-- ways that stay within some lines are not more than these
pub within_few : (p : Procedure) (lines : List ℕ) (ws : List Way) → StayWithin p lines ws → length ws ≤ length lines
within_few p lines [] h = omega arith
within_few p [] (w ∷ ws) h = absurd h
within_few p (q ∷ lines) (w ∷ ws) h = let k = within_few p lines ws h.1 in omega (arith, k)

quiet_heads : (q r : ℕ) (i : Instruction) → IsQuietKind (kind_of i) → IsIn (heads_of q i) r → r ≡ q + 1
quiet_heads q r end_if h (inl e) = sym e
quiet_heads q r end_if h (inr j) = absurd j
quiet_heads q r loop h (inl e) = sym e
quiet_heads q r loop h (inr j) = absurd j
quiet_heads q r label h (inl e) = sym e
quiet_heads q r label h (inr j) = absurd j
quiet_heads q r skip h (inl e) = sym e
quiet_heads q r skip h (inr j) = absurd j
quiet_heads q r (assert x) h (inl e) = sym e
quiet_heads q r (assert x) h (inr j) = absurd j
quiet_heads q r i h j = absurd h

-- from a quiet line a way that does not halt leads to the next line
quiet_next : (p : Procedure) (q r : ℕ) (w : Way) → WaysGoAlongArcs → IsQuiet p q → IsIn (line_paths p q) w → w.next ≡ next.At r → r ≡ q + 1
quiet_next p q r w arcs k i e =
    let a : IsIn (heads_at q (slice_get p.lines q)) r = arcs p q r w i e in
    quiet_heads q r k.instruction k.quiet (subst (λ (o : Option Instruction). IsIn (heads_at q o) r) k.there a)

-- these are ways through these lines, one after the other, as far as both reach
abbrev pub GoAlong : Procedure → List ℕ → List Way → Type 0
GoAlong p [] ws = Unit {0}
GoAlong p (q ∷ lines) [] = Unit {0}
GoAlong p (q ∷ lines) (w ∷ ws) = IsIn (line_paths p q) w × GoAlong p lines ws

none_along : (p : Procedure) (lines : List ℕ) → GoAlong p lines []
none_along p [] = tt
none_along p (q ∷ lines) = tt

-- where they are no more than the lines, they stay within these
pub along_within : (p : Procedure) (lines : List ℕ) (ws : List Way) → GoAlong p lines ws → length ws ≤ length lines → StayWithin p lines ws
along_within p lines [] k few = tt
along_within p [] (w ∷ ws) k few = absurd (omega (arith, few))
along_within p (q ∷ lines) (w ∷ ws) k few = (k.0, along_within p lines ws k.1 (omega (arith, few)))

-- ways of lines that follow one another are ways of any lines that follow on from the same line
leads_along : (p : Procedure) (head a : ℕ) (xs lines : List ℕ) (ws : List Way) (h : Halt) → FollowOn a xs → FollowOn a lines → Leads p head xs ws (stop.Halted h) → GoAlong p lines ws
leads_along p head a xs [] ws h f g l = tt
leads_along p head a xs (b ∷ lines) [] h f g l = tt
leads_along p head a [] (b ∷ lines) (w ∷ ws) h f g l = absurd (let e = l.1 in cc)
leads_along p head a (x ∷ xs) (b ∷ lines) (w ∷ ws) h f g l =
    (subst (λ y. IsIn (line_paths p y) w) (f.0 ∙ sym g.0) l.0, by_next w.next l.1 (λ m. leads_along p head (a + 1) xs lines ws h f.1 g.1 m))
  where
    by_next : (n : Next) → Passes n ws (stop.Halted h) (Leads p head xs ws (stop.Halted h)) → (Leads p head xs ws (stop.Halted h) → GoAlong p lines ws) → GoAlong p lines ws
    by_next (next.Halted x) m later = subst (GoAlong p lines) (sym m.0) (none_along p lines)
    by_next (next.At q) m later = later m

-- the leading assertions of a head that is an assertion follow on from it
own_lead : (p : Procedure) (loops : List LoopInfo) (q a : ℕ) → AreRegions p loops → IsAssertion (graph_of p).nodes q → IsIn (leading_of loops q) a → FollowOn q (leading_of loops q)
own_lead p loops q a regions k i = from (leads_from (graph_of p).nodes q a (leading_of loops q) (leading_lists p loops q a regions i) i)
  where
    at_start : (start : ℕ) → BeginsAt (graph_of p).nodes q start → FollowOn start (leading_of loops q) → FollowOn q (leading_of loops q)
    at_start start (inl b) f = subst (λ x. FollowOn x (leading_of loops q)) b.1 f
    at_start start (inr b) f = let e : Some Assertion ≡ Some Plain = sym k ∙ b.0 in absurd cc

    from : LeadsFrom (graph_of p).nodes q (leading_of loops q) → FollowOn q (leading_of loops q)
    from t = at_start t.start t.begins t.follow

-- at a head that is an assertion
head_along : (p : Procedure) (loops : List LoopInfo) (q : ℕ) (lines : List ℕ) (ws : List Way) (h : Halt) → AreRegions p loops → IsAssertion (graph_of p).nodes q
    → FollowOn q lines → Leads p q (leading_of loops q) ws (stop.Halted h) → GoAlong p lines ws
head_along p loops q lines ws h regions k f l = by_lines (leading_of loops q) refl l
  where
    by_lines : (xs : List ℕ) → leading_of loops q ≡ xs → Leads p q xs ws (stop.Halted h) → GoAlong p lines ws
    by_lines [] e m = absurd (let x = m.1 in cc)
    by_lines (a ∷ xs) e m =
        let i : IsIn (leading_of loops q) a = subst (λ x. IsIn x a) (sym e) (inl refl) in
        leads_along p q q (leading_of loops q) lines ws h (own_lead p loops q a regions k i) f l

-- lines that follow one another, a quiet one and then assertions
pub record IsRun (p : Procedure) (pc : ℕ) (lines : List ℕ) : Type 0 where
  pub follow : FollowOn pc lines
  pub quiet : (q : ℕ) → IsIn lines q → IsQuiet p q
  pub asserted : (q : ℕ) → IsIn lines q → (q ≡ pc) ⊎ IsAssertion (graph_of p).nodes q

chain_along : (p : Procedure) (loops : List LoopInfo) (pc : ℕ) (lines : List ℕ) (ws : List Way) (h : Halt) → WaysGoAlongArcs → AreRegions p loops → FollowOn pc lines
    → ((q : ℕ) → IsIn lines q → IsQuiet p q) → ((q : ℕ) → IsIn lines q → (q ≡ pc) ⊎ IsAssertion (graph_of p).nodes q) → IsLongChain p loops pc ws (stop.Halted h)
    → GoAlong p lines ws
chain_along p loops pc [] ws h arcs regions f k a c = tt
chain_along p loops pc (b ∷ lines) [] h arcs regions f k a c = tt
chain_along p loops pc (b ∷ lines) (w ∷ ws) h arcs regions f k a c =
    (subst (λ y. IsIn (line_paths p y) w) (sym f.0) c.0, by_next w.next refl c.1 (λ q e m. chain_along p loops q lines ws h arcs regions (from q e) (λ x i. k x (inr i)) (λ x i. inr (later x i)) m))
  where
    above : (x n : ℕ) (xs : List ℕ) → FollowOn n xs → IsIn xs x → n ≤ x
    above x n [] g i = absurd i
    above x n (y ∷ xs) g (inl e) = let l = g.0 in omega (arith, e, l)
    above x n (y ∷ xs) g (inr i) = let l = above x (n + 1) xs g.1 i in omega (arith, l)

    later : (x : ℕ) → IsIn lines x → IsAssertion (graph_of p).nodes x
    later x i = elim (a x (inr i)) [ inl e ↦ let l = above x (pc + 1) lines f.1 i in absurd (omega (arith, l, e)) | inr m ↦ m ]

    from : (q : ℕ) → q ≡ pc + 1 → FollowOn q lines
    from q e = subst (λ x. FollowOn x lines) (sym e) f.1

    on : (q : ℕ) → w.next ≡ next.At q → q ≡ pc + 1
    on q e = let i : IsQuiet p pc = subst (IsQuiet p) f.0 (k b (inl refl)) in quiet_next p pc q w arcs i c.0 e

    first_asserted : (q : ℕ) (xs : List ℕ) → FollowOn q xs → ((x : ℕ) → IsIn xs x → IsAssertion (graph_of p).nodes x) → (xs ≡ []) ⊎ IsAssertion (graph_of p).nodes q
    first_asserted q [] g m = inl refl
    first_asserted q (x ∷ xs) g m = inr (subst (IsAssertion (graph_of p).nodes) g.0 (m x (inl refl)))

    at_head : (q : ℕ) → q ≡ pc + 1 → Leads p q (leading_of loops q) ws (stop.Halted h) → GoAlong p lines ws
    at_head q e m = elim (first_asserted q lines (from q e) later) [
      | inl none ↦ subst (λ x. GoAlong p x ws) (sym none) tt
      | inr own ↦ head_along p loops q lines ws h regions own (from q e) m
    ]

    by_head : (t : Bool) (q : ℕ) → q ≡ pc + 1 → is_head loops q ≡ t
        → Onward loops (next.At q) ws (stop.Halted h) (λ x. Leads p x (leading_of loops x) ws (stop.Halted h)) (λ x. IsLongChain p loops x ws (stop.Halted h))
        → ((x : ℕ) → x ≡ pc + 1 → IsLongChain p loops x ws (stop.Halted h) → GoAlong p lines ws) → GoAlong p lines ws
    by_head true q e t m go = at_head q e (rw t at m)
    by_head false q e t m go = go q e (rw t at m)

    by_next : (n : Next) → w.next ≡ n
        → Onward loops n ws (stop.Halted h) (λ x. Leads p x (leading_of loops x) ws (stop.Halted h)) (λ x. IsLongChain p loops x ws (stop.Halted h))
        → ((x : ℕ) → x ≡ pc + 1 → IsLongChain p loops x ws (stop.Halted h) → GoAlong p lines ws) → GoAlong p lines ws
    by_next (next.Halted x) e m go = subst (GoAlong p lines) (sym m.0) (none_along p lines)
    by_next (next.At q) e m go = by_head (is_head loops q) q (on q e) refl m go

-- the lines of an opening follow one another, and behind the first they are assertions
opening_run : (p : Procedure) (loops : List LoopInfo) (pc : ℕ) → AreRegions p loops → IsRun p pc (opening loops pc)
opening_run p loops pc regions = by_lines (leading_of loops pc) refl
  where
    asserted : (q : ℕ) → IsIn (leading_of loops pc) q → IsAssertion (graph_of p).nodes q
    asserted q i = let t = ((leading_lists p loops pc q regions i).exact q).0 i in t.3 q t.2 (omega arith)

    at_start : (a : ℕ) (lines : List ℕ) → leading_of loops pc ≡ (a ∷ lines) → (start : ℕ) → BeginsAt (graph_of p).nodes pc start → FollowOn start (a ∷ lines)
        → IsRun p pc (opened_by pc (a ∷ lines))
    at_start a lines e start (inl b) f = elim (eqb_tells a pc) [
      | inl same ↦
          subst (IsRun p pc) (sym (ap (λ t. cond t (a ∷ lines) (pc ∷ a ∷ lines)) same.0))
          (record {
            follow = subst (λ x. FollowOn x (a ∷ lines)) b.1 f;
            quiet = λ q i. assertion_quiet p q (asserted q (subst (λ x. IsIn x q) (sym e) i));
            asserted = λ q i. inr (asserted q (subst (λ x. IsIn x q) (sym e) i));
          })
      | inr other ↦ absurd (other.1 (f.0 ∙ b.1))
    ]
    at_start a lines e start (inr b) f = elim (eqb_tells a pc) [
      | inl same ↦ let s = same.1 in let g = f.0 in let d = b.1 in absurd (omega (arith, s, g, d))
      | inr other ↦
          subst (IsRun p pc) (sym (ap (λ t. cond t (a ∷ lines) (pc ∷ a ∷ lines)) other.0))
          (record {
            follow = (refl, subst (λ x. FollowOn x (a ∷ lines)) b.1 f);
            quiet = λ q i. elim i [
              | inl same ↦ subst (IsQuiet p) same (plain_quiet p pc b.0)
              | inr j ↦ assertion_quiet p q (asserted q (subst (λ x. IsIn x q) (sym e) j))
            ];
            asserted = λ q i. elim i [ inl same ↦ inl (sym same) | inr j ↦ inr (asserted q (subst (λ x. IsIn x q) (sym e) j)) ];
          })
    ]

    by_lines : (lines : List ℕ) → leading_of loops pc ≡ lines → IsRun p pc (opened_by pc lines)
    by_lines [] e = record { follow = tt; quiet = λ q i. absurd i; asserted = λ q i. absurd i }
    by_lines (a ∷ lines) e =
        let i : IsIn (leading_of loops pc) a = subst (λ x. IsIn x a) (sym e) (inl refl) in
        let t = leads_from (graph_of p).nodes pc a (leading_of loops pc) (leading_lists p loops pc a regions i) i in
        at_start a lines e t.start t.begins (subst (FollowOn t.start) e t.follow)

-- a long chain that halts goes along the opening
pub opening_along : (p : Procedure) (loops : List LoopInfo) (pc : ℕ) (ws : List Way) (h : Halt) → WaysGoAlongArcs → AreRegions p loops → IsLongChain p loops pc ws (stop.Halted h)
    → GoAlong p (opening loops pc) ws
opening_along p loops pc ws h arcs regions c =
    let r = opening_run p loops pc regions in chain_along p loops pc (opening loops pc) ws h arcs regions r.follow r.quiet r.asserted c

-- where it passes no more lines than the opening has, it stays within it
pub short_within : (p : Procedure) (loops : List LoopInfo) (pc : ℕ) (ws : List Way) (h : Halt) → WaysGoAlongArcs → AreRegions p loops → IsLongChain p loops pc ws (stop.Halted h)
    → length ws ≤ length (opening loops pc) → StayWithin p (opening loops pc) ws
short_within p loops pc ws h arcs regions c few = along_within p (opening loops pc) ws (opening_along p loops pc ws h arcs regions c) few
