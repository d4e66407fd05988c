-- The runs of assertions with which loops begin, and the marks of a loop's members.
use Rattle.std.proofs.Common.{◌≡◌, ◌⊎◌, inl, inr, refl, sym, ℕ, ◌+◌, ◌<◌, ◌≤◌, Bool, true, List, length, set, arith, None, Some}
use Rattle.std.specs.Prelude.{◌↔◌}
use Rattle.std.proofs.lemmas.Bool.{cases_lt}
use Rattle.std.proofs.lemmas.Option.{slice_get_cases}
use Rattle.flow_graph.specs.Search.{IsMarked, IsUnmarked}
use Rattle.flow_graph.specs.Reached.{IsReached, Lists}
use Rattle.flow_graph.specs.declared.graph.FlowGraph.{FlowGraph}
use Rattle.flow_graph.specs.declared.graph.Node.{Node}
use Rattle.flow_graph.specs.declared.graph.NodeKind.{NodeKind}
use Rattle.flow_graph.specs.declared.graph.NodeKind.TheVariants as kind
use Rattle.flow_graph.proofs.Spreading.{marked_within, marked_cases, marked_new, marked_old}
use Rattle.control_flow.specs.Loop.{kind_at, IsAssertion, IsLeading, IsMember, ComesRound}
use Rattle.control_flow.specs.Forward.{IsInRun, MarksUnreachable}
use Rattle.control_flow.proofs.Listing.{lists_same, unmarked_from}

-- the lines from one on, below the next line
pub span_next : (start n : ℕ) → start ≤ n → (k : ℕ) → ((start ≤ k) × (k < n + 1)) ↔ (((start ≤ k) × (k < n)) ⊎ (k ≡ n))
span_next start n l k = (there, back)
  where
    there : (start ≤ k) × (k < n + 1) → ((start ≤ k) × (k < n)) ⊎ (k ≡ n)
    there p = elim (cases_lt k n) [ inl low ↦ inl (p.0, low) | inr high ↦ let b = p.1 in inr (omega (arith, high, b)) ]

    back : ((start ≤ k) × (k < n)) ⊎ (k ≡ n) → (start ≤ k) × (k < n + 1)
    back (inl p) = let b = p.1 in (p.0, omega (arith, b))
    back (inr e) = (omega (arith, l, e), omega (arith, e))

pub all_next : (nodes : List Node) (start n : ℕ) → ((j : ℕ) → start ≤ j → j < n → IsAssertion nodes j) → IsAssertion nodes n
    → (j : ℕ) → start ≤ j → j < n + 1 → IsAssertion nodes j
all_next nodes start n all this j s l = elim (cases_lt j n) [ inl low ↦ all j s low | inr high ↦ let e : j ≡ n = omega (arith, high, l) in rw e this ]

-- a run ends before the first line that is no assertion
pub run_ends : (nodes : List Node) (start n : ℕ) (xs : List ℕ) → Lists (λ k. (start ≤ k) × (k < n)) xs → ((j : ℕ) → start ≤ j → j < n → IsAssertion nodes j)
    → start ≤ n → (IsAssertion nodes n → ⊥) → Lists (IsInRun nodes start) xs
run_ends nodes start n xs l all s not = lists_same _ (IsInRun nodes start) xs l (λ k. (
  λ p. (p.0, λ j a b. let e = p.1 in all j a (omega (arith, b, e))),
  λ r. (r.0, elim (cases_lt k n) [ inl low ↦ low | inr high ↦ absurd (not (r.1 n s high)) ]),
))

-- behind the last line there is no assertion
pub none_behind : (nodes : List Node) (n : ℕ) → length nodes ≤ n → IsAssertion nodes n → ⊥
none_behind nodes n l a = elim (slice_get_cases nodes n).1 [
  | inl p ↦ let b = p.1 in omega (arith, b, l)
  | inr p ↦ let e : None ≡ Some kind.Assertion = rw p.1 at a in absurd (cc)
]

pub leading_at : (nodes : List Node) (h : ℕ) → IsAssertion nodes h → (k : ℕ) → IsInRun nodes h k ↔ IsLeading nodes h k
leading_at nodes h a k = (λ r. (h, inl (a, refl), r.0, r.1), back)
  where
    run : h ≤ k → ((j : ℕ) → h ≤ j → j ≤ k → IsAssertion nodes j) → IsInRun nodes h k
    run low all = (low, all)

    back : IsLeading nodes h k → IsInRun nodes h k
    back l = elim l.1 [ inl p ↦ run (rw p.1 at l.2) (rw p.1 at l.3) | inr p ↦ let q = p.0 in absurd (cc) ]

pub leading_behind : (nodes : List Node) (h : ℕ) → kind_at nodes h ≡ Some kind.Plain → (k : ℕ) → IsInRun nodes (h + 1) k ↔ IsLeading nodes h k
leading_behind nodes h a k = (λ r. (h + 1, inr (a, refl), r.0, r.1), back)
  where
    run : h + 1 ≤ k → ((j : ℕ) → h + 1 ≤ j → j ≤ k → IsAssertion nodes j) → IsInRun nodes (h + 1) k
    run low all = (low, all)

    back : IsLeading nodes h k → IsInRun nodes (h + 1) k
    back l = elim l.1 [ inl p ↦ let q = p.0 in absurd (cc) | inr p ↦ run (rw p.1 at l.2) (rw p.1 at l.3) ]

-- the marks of what comes round, without the unreachable lines, and with the head
pub member_marks : (g : FlowGraph) (found unreached both marks : List Bool) (h : ℕ) → length found ≡ length g.nodes → ((k : ℕ) → IsMarked found k ↔ ComesRound g.arcs h k)
    → MarksUnreachable g unreached → ((k : ℕ) → IsMarked both k ↔ (IsMarked found k × IsUnmarked unreached k)) → h < length both → IsReached g.arcs h
    → marks ≡ set both h true → (k : ℕ) → IsMarked marks k ↔ IsMember g.arcs h k
member_marks g found unreached both marks h s f u b l r e k = rw e (there, back)
  where
    there : IsMarked (set both h true) k → IsMember g.arcs h k
    there m = elim (marked_cases both h k m) [
      | inl same ↦ (rw same at r, inl (sym same))
      | inr old ↦
          let p = (b k).0 old in
          let w = marked_within found k p.0 in
          (u.others k (omega (arith, w, s)) p.1, inr ((f k).0 p.0))
    ]

    back : IsMember g.arcs h k → IsMarked (set both h true) k
    back m = elim m.1 [
      | inl same ↦ rw same (marked_new both h l)
      | inr round ↦ marked_old both h k l ((b k).1 ((f k).1 round, unmarked_from unreached k (λ i. ((u.exact k).0 i).1 m.0)))
    ]

-- a line that is neither an assertion nor plain begins no assertions
pub leading_nowhere : (nodes : List Node) (h : ℕ) (what : NodeKind) → kind_at nodes h ≡ Some what → (what ≡ kind.Assertion → ⊥) → (what ≡ kind.Plain → ⊥)
    → (k : ℕ) → IsLeading nodes h k → ⊥
leading_nowhere nodes h what e a p k l = elim l.1 [
  | inl q ↦ let i = q.0 in a (cc)
  | inr q ↦ let i = q.0 in p (cc)
]
