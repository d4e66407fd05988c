-- Chains: what they sum to, how they grow, and how the edges of one refute.
use Rattle.std.proofs.Common.{◌≡◌, ◌∙◌, inl, inr, ℕ, ◌+◌, ◌<◌, ◌≤◌, ℤ, pos, ◌+ℤ◌, ◌-ℤ◌, ◌≤ℤ◌, ◌<ℤ◌, List, [], ◌∷◌, ◌++◌, length, take, drop, map, set, Option, Some, None, slice_get, MatchOption, refl, sym, ap, subst, arith}
use Rattle.std.proofs.lemmas.Int.{ints}
use Rattle.std.proofs.lemmas.Bool.{cases_eq}
use Rattle.std.proofs.lemmas.Option.{same_Some, none-some, slice_get_within}
use Rattle.std.proofs.lemmas.List.{take-append-le, take_all, length_push, length-map, length-drop, map-append, take-append-drop, drop-map, get_or-set_same, get_or-set_other}
use Rattle.std.specs.declared.vec.Vec.{Vec}
use Rattle.std.specs.declared.alloc.Global.{Global}
use Rattle.difference.specs.Constraints.{number, value_at}
use Rattle.difference.specs.Chains.{quantity, total, room, below_greatest, Names, IsSimple, IsRefuted, enters, right_of, edges_of, IsChain, Proves, Kept}
use Rattle.difference.specs.Solving.{IsRaised}
use Rattle.difference.specs.declared.constraint.Range64.{Range64}
use Rattle.difference.specs.declared.constraint.Constraint.{Constraint}
use Rattle.difference.specs.declared.constraint.Edge.{Edge}
use Rattle.difference.specs.declared.constraint.Edge.TheVariants.{High, Given}
use Rattle.difference.specs.declared.chain.Step.{Step}
use Rattle.difference.proofs.Lists.{get_push, get_drop, get_mapped, all_by, few_apart}

-- to write a higher value lowers none
pub number-raised : (values : List ℤ) (node : ℕ) (x : ℤ) → node < length values → number values node <ℤ x
    → (k : ℕ) → number values k ≤ℤ number (set values node x) k
number-raised values node x l h k = elim (cases_eq k node) [
  | inl e ↦ rw (e, get_or-set_same values node x (pos 0) l) (omega (arith, ints))
  | inr ne ↦ rw (get_or-set_other values node k x (pos 0) ne) (omega (arith, ints))
]

module _ (ranges : List Range64) (cs : List Constraint) where
  -- the total of two lists joined
  pub total-append : (vals : List ℤ) (es fs : List Edge)
      → total ranges cs vals (es ++ fs) ≡ total ranges cs vals es +ℤ total ranges cs vals fs
  total-append vals [] fs = omega (arith, ints)
  total-append vals (e ∷ es) fs = omega (arith, ints, total-append vals es fs)

  -- the total with one more edge
  pub total-push : (vals : List ℤ) (es : List Edge) (e : Edge)
      → total ranges cs vals (es ++ e ∷ []) ≡ total ranges cs vals es +ℤ quantity ranges cs vals e
  total-push vals es e = omega (arith, ints, total-append vals es (e ∷ []))

  -- a constraint behind a chain of its left side proves what it asks of its right side
  pub proves-more : (steps : List Step) (i : ℕ) (c : Constraint) (start reach : ℤ)
      → Proves ranges cs steps c.left start → slice_get cs i ≡ Some c → reach ≡ start -ℤ c.bound
      → (vals : List ℤ) → total ranges cs vals (edges_of steps ++ Given i ∷ []) ≡ value_at vals c.right -ℤ reach
  proves-more steps i c start reach p there r vals =
      let a = total-push vals (edges_of steps) (Given i) in
      let b = p.whole vals in
      let q : room (slice_get cs i) vals ≡ room (Some c) vals = ap (λ o. room o vals) there in
      omega (arith, ints)

  -- values may rise
  pub chain-higher : (values after : List ℤ) (steps : List Step) → IsChain ranges cs values steps
      → ((k : ℕ) → number values k ≤ℤ number after k) → IsChain ranges cs after steps
  chain-higher values after steps h up = record {
    sums = h.sums;
    names = h.names;
    entered = h.entered;
    known = h.known;
    apart = h.apart;
    below = λ j s e. omega (arith, ints, h.below j s e, up s.node);
  }

  -- one more step, to an unknown that the chain does not enter
  pub chain-more : (values : List ℤ) (steps : List Step) (s : Step) → IsChain ranges cs values steps
      → Names (length ranges) (length cs) s.edge → enters cs s.edge ≡ Some s.node → s.node < length ranges
      → s.value ≤ℤ number values s.node
      → ((vals : List ℤ) → total ranges cs vals (edges_of (steps ++ s ∷ [])) ≡ number vals s.node -ℤ s.value)
      → ((k : ℕ) (t : Step) → slice_get steps k ≡ Some t → t.node ≡ s.node → ⊥)
      → IsChain ranges cs values (steps ++ s ∷ [])
  chain-more values steps s h named enter known low whole absent = record {
    sums = λ j t e vals. elim (get_push steps s j t e) [
      | inl p ↦ let w : take (j + 1) (steps ++ s ∷ []) ≡ take (j + 1) steps
          = take-append-le (j + 1) steps (s ∷ []) (omega (arith, slice_get_within steps j t p)) in
          rw w (h.sums j t p vals)
      | inr p ↦ let w : take (j + 1) (steps ++ s ∷ []) ≡ steps ++ s ∷ []
          = take_all (j + 1) (steps ++ s ∷ []) (omega (arith, length_push steps s)) in
          rw (w, p.1) (whole vals)
    ];
    names = λ j t e. elim (get_push steps s j t e) [ inl p ↦ h.names j t p | inr p ↦ rw p.1 named ];
    entered = λ j t e. elim (get_push steps s j t e) [ inl p ↦ h.entered j t p | inr p ↦ rw p.1 enter ];
    known = λ j t e. elim (get_push steps s j t e) [ inl p ↦ h.known j t p | inr p ↦ rw p.1 known ];
    below = λ j t e. elim (get_push steps s j t e) [ inl p ↦ h.below j t p | inr p ↦ rw p.1 low ];
    apart = λ i j a b e f n. elim (get_push steps s i a e) [
      | inl p ↦ elim (get_push steps s j b f) [
        | inl q ↦ h.apart i j a b p q n
        | inr q ↦ absurd (absent i a p (n ∙ ap (λ (x : Step). x.node) q.1))
      ]
      | inr p ↦ elim (get_push steps s j b f) [
        | inl q ↦ absurd (absent j b q (sym n ∙ ap (λ (x : Step). x.node) p.1))
        | inr q ↦ p.0 ∙ sym q.0
      ]
    ];
  }

  -- a chain has at most one step for each unknown
  pub chain-few : (values : List ℤ) (steps : List Step) → IsChain ranges cs values steps → length steps ≤ length ranges
  chain-few values steps h =
      let few = few_apart (map (λ (s : Step). s.node) steps) (length ranges)
      (λ i j x e f. let a = get_mapped (λ (s : Step). s.node) steps i x e in
      let b = get_mapped (λ (s : Step). s.node) steps j x f in
      h.apart i j a.0 b.0 a.1 b.1 (a.2 ∙ sym b.2))
      (all_by (λ (x : ℕ). x < length ranges) (map (λ (s : Step). s.node) steps) (λ i x e.
      let a = get_mapped (λ (s : Step). s.node) steps i x e in
      let k : a.0.node < length ranges = h.known i a.0 a.1 in omega (arith, a.2))) in
      omega (arith, length-map steps (λ (s : Step). s.node))

  -- no edge of a chain stands twice
  pub simple-chain : (values : List ℤ) (steps : List Step) → IsChain ranges cs values steps → IsSimple (edges_of steps)
  simple-chain values steps h = λ i j e p q.
      let a = get_mapped (λ (s : Step). s.edge) steps i e p in
      let b = get_mapped (λ (s : Step). s.edge) steps j e q in
      h.apart i j a.0 b.0 a.1 b.1
      (same_Some a.0.node b.0.node (sym (h.entered i a.0 a.1) ∙ (ap (enters cs) (a.2 ∙ sym b.2) ∙ h.entered j b.0 b.1)))

  -- the edges of a chain name unknowns and constraints
  pub names-chain : (values : List ℤ) (steps : List Step) → IsChain ranges cs values steps
      → (j : ℕ) (e : Edge) → slice_get (edges_of steps) j ≡ Some e → Names (length ranges) (length cs) e
  names-chain values steps h j e p =
      let a = get_mapped (λ (s : Step). s.edge) steps j e p in
      subst (λ (x : Edge). Names (length ranges) (length cs) x) a.2 (h.names j a.0 a.1)

  -- an edge that enters no unknown of a chain is none of its edges
  pub absent-chain : (values : List ℤ) (steps : List Step) (x : Edge) → IsChain ranges cs values steps
      → ((j : ℕ) (s : Step) → slice_get steps j ≡ Some s → enters cs x ≡ Some s.node → ⊥)
      → (j : ℕ) → slice_get (edges_of steps) j ≡ Some x → ⊥
  absent-chain values steps x h none j p =
      let a = get_mapped (λ (s : Step). s.edge) steps j x p in
      none j a.0 a.1 (sym (ap (enters cs) a.2) ∙ h.entered j a.0 a.1)

  -- edges that stand once, with a last one that is none of them and makes the sum negative
  pub refuted-last : (es : List Edge) (x : Edge) (d : ℤ) → IsSimple es → length es ≤ length ranges
      → ((j : ℕ) (e : Edge) → slice_get es j ≡ Some e → Names (length ranges) (length cs) e)
      → Names (length ranges) (length cs) x
      → ((j : ℕ) → slice_get es j ≡ Some x → ⊥)
      → ((vals : List ℤ) → total ranges cs vals es +ℤ quantity ranges cs vals x ≡ d) → d <ℤ pos 0
      → IsRefuted ranges cs (es ++ x ∷ [])
  refuted-last es x d simple few names name absent sum low = record {
    named = λ j e p. elim (get_push es x j e p) [ inl q ↦ names j e q | inr q ↦ rw q.1 name ];
    once = λ i j e p q. elim (get_push es x i e p) [
      | inl a ↦ elim (get_push es x j e q) [
        | inl b ↦ simple i j e a b
        | inr b ↦ absurd (absent i (a ∙ ap Some b.1))
      ]
      | inr a ↦ elim (get_push es x j e q) [
        | inl b ↦ absurd (absent j (b ∙ ap Some a.1))
        | inr b ↦ a.0 ∙ sym b.0
      ]
    ];
    few = omega (arith, length_push es x);
    constant = d;
    negative = low;
    sum = λ vals. total-push vals es x ∙ sum vals;
  }

  -- a chain to 0 whose value is above 0
  pub refuted-zero : (values : List ℤ) (steps : List Step) (i : ℕ) (c : Constraint) (start : ℤ)
      → IsChain ranges cs values steps → Proves ranges cs steps c.left start → slice_get cs i ≡ Some c → c.right ≡ None
      → pos 0 <ℤ (start -ℤ c.bound) → IsRefuted ranges cs (edges_of steps ++ Given i ∷ [])
  refuted-zero values steps i c start h p there right above =
      refuted-last (edges_of steps) (Given i) (c.bound -ℤ start) (simple-chain values steps h)
      (omega (arith, chain-few values steps h, length-map steps (λ (s : Step). s.edge)))
      (names-chain values steps h) (slice_get_within cs i c there)
      (absent-chain values steps (Given i) h (λ j s e q. none-some s.node (sym right ∙ (sym (ap right_of there) ∙ q))))
      (λ vals. let a = proves-more steps i c start (start -ℤ c.bound) p there refl vals in
      let b = total-push vals (edges_of steps) (Given i) in
      let v : value_at vals c.right ≡ value_at vals None = ap (value_at vals) right in
      omega (arith, ints))
      (omega (arith, ints))

  -- a chain that comes back to one of its unknowns with a higher value
  pub refuted-cycle : (values : List ℤ) (steps : List Step) (i : ℕ) (c : Constraint) (start : ℤ) (j : ℕ) (t : Step)
      → IsChain ranges cs values steps → Proves ranges cs steps c.left start → slice_get cs i ≡ Some c
      → slice_get steps j ≡ Some t → c.right ≡ Some t.node → number values t.node <ℤ (start -ℤ c.bound)
      → IsRefuted ranges cs (edges_of (drop (j + 1) steps) ++ Given i ∷ [])
  refuted-cycle values steps i c start j t h p there at right above =
      let cut : edges_of (drop (j + 1) steps) ≡ drop (j + 1) (edges_of steps) = sym (drop-map (λ (s : Step). s.edge) (j + 1) steps) in
      refuted-last (edges_of (drop (j + 1) steps)) (Given i) (t.value -ℤ (start -ℤ c.bound))
      (λ a b e q r. let q' = get_mapped (λ (s : Step). s.edge) (drop (j + 1) steps) a e q in
      let r' = get_mapped (λ (s : Step). s.edge) (drop (j + 1) steps) b e r in
      let same : j + 1 + a ≡ j + 1 + b = simple-chain values steps h (j + 1 + a) (j + 1 + b) e
      (sym (get_drop (j + 1) (edges_of steps) a) ∙ (sym (ap (λ (l : List Edge). slice_get l a) cut) ∙ q))
      (sym (get_drop (j + 1) (edges_of steps) b) ∙ (sym (ap (λ (l : List Edge). slice_get l b) cut) ∙ r)) in
      omega arith)
      (omega (arith, chain-few values steps h, length-map (drop (j + 1) steps) (λ (s : Step). s.edge), length-drop (j + 1) steps))
      (λ a e q. names-chain values steps h (j + 1 + a) e
      (sym (get_drop (j + 1) (edges_of steps) a) ∙ (sym (ap (λ (l : List Edge). slice_get l a) cut) ∙ q)))
      (slice_get_within cs i c there)
      (λ a q. let s = get_mapped (λ (s : Step). s.edge) (drop (j + 1) steps) a (Given i) q in
      let place = sym (get_drop (j + 1) steps a) ∙ s.1 in
      let node : s.0.node ≡ t.node = same_Some s.0.node t.node
      (sym (h.entered (j + 1 + a) s.0 place) ∙ (ap (enters cs) s.2 ∙ (ap right_of there ∙ right))) in
      let same : j + 1 + a ≡ j = h.apart (j + 1 + a) j s.0 t place at node in
      omega arith)
      (λ vals. let a = proves-more steps i c start (start -ℤ c.bound) p there refl vals in
      let b = total-push vals (edges_of steps) (Given i) in
      let v : value_at vals c.right ≡ value_at vals (Some t.node) = ap (value_at vals) right in
      let front = h.sums j t at vals in
      let whole : total ranges cs vals (edges_of steps)
      ≡ total ranges cs vals (edges_of (take (j + 1) steps)) +ℤ total ranges cs vals (edges_of (drop (j + 1) steps))
      = ap (λ (l : List Step). total ranges cs vals (edges_of l)) (sym (take-append-drop (j + 1) steps))
      ∙ (ap (total ranges cs vals) (map-append (λ (s : Step). s.edge) (take (j + 1) steps) (drop (j + 1) steps))
      ∙ total-append vals (edges_of (take (j + 1) steps)) (edges_of (drop (j + 1) steps))) in
      omega (arith, ints))
      (let low = h.below j t at in omega (arith, ints))

  -- the quantities of that chain
  pub whole-raised : (steps : List Step) (i : ℕ) (c : Constraint) (start reach : ℤ) (node : ℕ)
      → Proves ranges cs steps c.left start → slice_get cs i ≡ Some c → c.right ≡ Some node → reach ≡ start -ℤ c.bound
      → (vals : List ℤ)
      → total ranges cs vals (edges_of (steps ++ record { node = node; value = reach; edge = Given i } ∷ [])) ≡ number vals node -ℤ reach
  whole-raised steps i c start reach node p there right r vals =
      let s : Step = record { node = node; value = reach; edge = Given i } in
      ap (total ranges cs vals) (map-append (λ (x : Step). x.edge) steps (s ∷ []))
      ∙ (proves-more steps i c start reach p there r vals ∙ ap (λ o. value_at vals o -ℤ reach) right)

  -- a constraint behind a chain makes a chain of its right side
  pub chain-raised : (values after : List ℤ) (steps : List Step) (i : ℕ) (c : Constraint) (start reach : ℤ) (node : ℕ)
      → IsChain ranges cs values steps → Proves ranges cs steps c.left start → slice_get cs i ≡ Some c
      → c.right ≡ Some node → node < length ranges → reach ≡ start -ℤ c.bound
      → ((k : ℕ) (t : Step) → slice_get steps k ≡ Some t → t.node ≡ node → ⊥)
      → number after node ≡ reach → ((k : ℕ) → number values k ≤ℤ number after k)
      → IsChain ranges cs after (steps ++ record { node = node; value = reach; edge = Given i } ∷ [])
  chain-raised values after steps i c start reach node h p there right known r absent now up =
      chain-more after steps (record { node = node; value = reach; edge = Given i }) (chain-higher values after steps h up)
      (slice_get_within cs i c there) (ap right_of there ∙ right) known (omega (arith, ints))
      (whole-raised steps i c start reach node p there right r) absent

  -- a chain whose value is above the greatest of the range
  pub refuted-high : (values : List ℤ) (steps : List Step) (i : ℕ) (c : Constraint) (start : ℤ) (node : ℕ) (r : Range64)
      → length values ≡ length ranges
      → IsChain ranges cs values steps → Proves ranges cs steps c.left start → slice_get cs i ≡ Some c
      → c.right ≡ Some node → slice_get ranges node ≡ Some r
      → ((k : ℕ) (t : Step) → slice_get steps k ≡ Some t → t.node ≡ node → ⊥)
      → number values node <ℤ (start -ℤ c.bound) → r.greatest <ℤ (start -ℤ c.bound)
      → IsRefuted ranges cs ((edges_of steps ++ Given i ∷ []) ++ High node ∷ [])
  refuted-high values steps i c start node r size h p there right range absent higher above =
      let reach : ℤ = start -ℤ c.bound in
      let s : Step = record { node = node; value = reach; edge = Given i } in
      let l : node < length values = omega (arith, slice_get_within ranges node r range) in
      let after : List ℤ = set values node reach in
      let raised = chain-raised values after steps i c start reach node h p there right (slice_get_within ranges node r range) refl absent
      (get_or-set_same values node reach (pos 0) l) (number-raised values node reach l higher) in
      let joined : edges_of (steps ++ s ∷ []) ≡ edges_of steps ++ Given i ∷ [] = map-append (λ (x : Step). x.edge) steps (s ∷ []) in
      let refuted = refuted-last (edges_of (steps ++ s ∷ [])) (High node) (r.greatest -ℤ reach) (simple-chain after (steps ++ s ∷ []) raised)
      (omega (arith, chain-few after (steps ++ s ∷ []) raised, length-map (steps ++ s ∷ []) (λ (x : Step). x.edge)))
      (names-chain after (steps ++ s ∷ []) raised) (slice_get_within ranges node r range)
      (absent-chain after (steps ++ s ∷ []) (High node) raised (λ j t e q. none-some t.node q))
      (λ vals. let a = whole-raised steps i c start reach node p there right refl vals in
      let b : below_greatest (slice_get ranges node) (number vals node) ≡ below_greatest (Some r) (number vals node)
      = ap (λ o. below_greatest o (number vals node)) range in
      omega (arith, ints))
      (omega (arith, ints)) in
      subst (λ (es : List Edge). IsRefuted ranges cs (es ++ High node ∷ [])) joined refuted

  -- the chain of a side is a chain, and proves the side's value
  pub record Holds (values : List ℤ) (steps : List Step) (side : Option ℕ) : Type 0 where
    pub chain : IsChain ranges cs values steps
    pub proves : Proves ranges cs steps side (value_at values side)

  -- the empty chain
  pub chain-empty : (values : List ℤ) → IsChain ranges cs values []
  chain-empty values = record {
    sums = λ j s e vals. absurd (none-some s e);
    names = λ j s e. absurd (none-some s e);
    entered = λ j s e. absurd (none-some s e);
    known = λ j s e. absurd (none-some s e);
    below = λ j s e. absurd (none-some s e);
    apart = λ i j s t e f n. absurd (none-some s e);
  }

  -- the chain that a side has on the board
  pub chain-at : (values : List ℤ) (chains : List (Vec Step Global)) (side : Option ℕ) (steps : List Step)
      → Kept ranges cs values chains
      → MatchOption side (steps ≡ []) (λ k. (c : Vec Step Global) × (slice_get chains k ≡ Some c) × (steps ≡ c.items))
      → Holds values steps side
  chain-at values chains None steps kept e = rw e (record {
    chain = chain-empty values;
    proves = record { whole = λ vals. omega (arith, ints) };
  })
  chain-at values chains (Some k) steps kept e = rw e.2 (record {
    chain = kept.chained k e.0 e.1;
    proves = kept.proves k e.0 e.1;
  })

  -- a chain of the right side, whose value is inside its range, raises it
  pub raised-by : (values : List ℤ) (steps longer : List Step) (i : ℕ) (c : Constraint) (start value : ℤ) (node : ℕ)
      → IsChain ranges cs values steps → Proves ranges cs steps c.left start → slice_get cs i ≡ Some c
      → c.right ≡ Some node → node < length ranges → value ≡ start -ℤ c.bound
      → ((k : ℕ) (t : Step) → slice_get steps k ≡ Some t → t.node ≡ node → ⊥)
      → number values node <ℤ value → ((r : Range64) → slice_get ranges node ≡ Some r → value ≤ℤ r.greatest)
      → longer ≡ steps ++ record { node = node; value = value; edge = Given i } ∷ []
      → IsRaised ranges cs values node value longer
  raised-by values steps longer i c start value node h p there right known v absent higher fits e = rw e (record {
    known = known;
    higher = higher;
    fits = fits;
    chain = λ after now up. chain-raised values after steps i c start value node h p there right known v absent now up;
    proves = record { whole = whole-raised steps i c start value node p there right v };
  })
