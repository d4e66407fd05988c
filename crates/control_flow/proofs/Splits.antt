-- Rows that are extended, arcs back and forward, and the loops of the heads below a line.
use Rattle.std.proofs.Common.{◌≡◌, ◌≢◌, ◌⊎◌, inl, inr, refl, sym, ◌∙◌, ℕ, zero, suc, ◌+◌, ◌<◌, Bool, List, [], ◌∷◌, ◌++◌, length, take, set, get_or, arith, get_or-set_same, get_or-set_other, Some, slice_get}
use Rattle.std.specs.Prelude.{◌↔◌}
use Rattle.std.proofs.lemmas.Bool.{cases_lt}
use Rattle.std.proofs.lemmas.Bool.Decides.{eqb_tells}
use Rattle.std.proofs.lemmas.List.{map-append}
use Rattle.std.proofs.lemmas.Option.{same_Some, none-some}
use Rattle.il_core.specs.LineGraph.{IsIn}
use Rattle.flow_graph.specs.Graph.{Joins}
use Rattle.flow_graph.specs.Search.{IsMarked, IsUnmarked, row_of}
use Rattle.flow_graph.specs.Reached.{IsReached}
use Rattle.flow_graph.specs.declared.graph.Arc.{Arc}
use Rattle.flow_graph.specs.declared.graph.FlowGraph.{FlowGraph}
use Rattle.flow_graph.proofs.Members.{IsIn-append_left, IsIn-push, IsIn-push_cases, IsIn-more_cases, IsIn-more_old, IsIn-more_new}
use Rattle.flow_graph.proofs.Spreading.{walk_on}
use Rattle.control_flow.specs.Loop.{IsBackArc, IsHead}
use Rattle.control_flow.specs.Control.{IsLoop, heads_of}
use Rattle.control_flow.specs.Forward.{AreRows, AreLoopsBelow, IsForward, IsReachedAround}
use Rattle.control_flow.specs.declared.control.LoopInfo.{LoopInfo}
use Rattle.control_flow.proofs.Listing.{lists_push, lists_same, not_both, unmarked_from}
use Rattle.control_flow.proofs.Walks.{in_or}

-- the members of the rows after one of them is extended
row_extended : (rows : List (List ℕ)) (x item a b : ℕ) → x < length rows
    → IsIn (row_of (set rows x (row_of rows x ++ item ∷ [])) a) b ↔ (IsIn (row_of rows a) b ⊎ ((x ≡ a) × (item ≡ b)))
row_extended rows x item a b l = elim (eqb_tells a x) [
  | inl same ↦ (here same.1, back_here same.1)
  | inr other ↦ (λ i. inl (rw (get_or-set_other rows x a (row_of rows x ++ item ∷ []) [] other.1) at i), there other.1)
]
  where
    here : a ≡ x → IsIn (row_of (set rows x (row_of rows x ++ item ∷ [])) a) b → IsIn (row_of rows a) b ⊎ ((x ≡ a) × (item ≡ b))
    here e i =
        let j : IsIn (row_of rows x ++ item ∷ []) b = rw (e, get_or-set_same rows x (row_of rows x ++ item ∷ []) [] l) at i in
        elim (IsIn-push_cases (row_of rows x) item b j) [ inl old ↦ inl (rw e old) | inr new ↦ inr (sym e, new) ]

    back_here : a ≡ x → IsIn (row_of rows a) b ⊎ ((x ≡ a) × (item ≡ b)) → IsIn (row_of (set rows x (row_of rows x ++ item ∷ [])) a) b
    back_here e (inl old) = rw (e, get_or-set_same rows x (row_of rows x ++ item ∷ []) [] l) (IsIn-append_left (row_of rows x) (item ∷ []) b (rw e at old))
    back_here e (inr new) = rw (e, get_or-set_same rows x (row_of rows x ++ item ∷ []) [] l) (rw (← new.1) (IsIn-push (row_of rows x) item))

    there : a ≢ x → IsIn (row_of rows a) b ⊎ ((x ≡ a) × (item ≡ b)) → IsIn (row_of (set rows x (row_of rows x ++ item ∷ [])) a) b
    there n (inl old) = rw (get_or-set_other rows x a (row_of rows x ++ item ∷ []) [] n) old
    there n (inr new) = absurd (n (sym new.0))

-- the rows of one line more are extended
pub rows_extended : (was rows now : List (List ℕ)) (lines : List ℕ) (i item : ℕ) → i < length lines → get_or lines i 0 < length rows
    → now ≡ set rows (get_or lines i 0) (row_of rows (get_or lines i 0) ++ item ∷ [])
    → ((a b : ℕ) → IsIn (row_of rows a) b ↔ (IsIn (row_of was a) b ⊎ (IsIn (take i lines) a × (b ≡ item))))
    → (a b : ℕ) → IsIn (row_of now a) b ↔ (IsIn (row_of was a) b ⊎ (IsIn (take (i + 1) lines) a × (b ≡ item)))
rows_extended was rows now lines i item l w n e a b = rw n (there, back)
  where
    x : ℕ
    x = get_or lines i 0

    there : IsIn (row_of (set rows (get_or lines i 0) (row_of rows (get_or lines i 0) ++ item ∷ [])) a) b → IsIn (row_of was a) b ⊎ (IsIn (take (i + 1) lines) a × (b ≡ item))
    there h = elim ((row_extended rows (get_or lines i 0) item a b w).0 h) [
      | inl old ↦ elim ((e a b).0 old) [ inl p ↦ inl p | inr q ↦ inr (IsIn-more_old lines i 0 a l q.0, q.1) ]
      | inr new ↦ inr (rw (← new.0) (IsIn-more_new lines i 0 l), sym new.1)
    ]

    back : IsIn (row_of was a) b ⊎ (IsIn (take (i + 1) lines) a × (b ≡ item)) → IsIn (row_of (set rows (get_or lines i 0) (row_of rows (get_or lines i 0) ++ item ∷ [])) a) b
    back (inl p) = (row_extended rows (get_or lines i 0) item a b w).1 (inl ((e a b).1 (inl p)))
    back (inr q) = elim (IsIn-more_cases lines i 0 a l q.0) [
      | inl old ↦ (row_extended rows (get_or lines i 0) item a b w).1 (inl ((e a b).1 (inr (old, q.1))))
      | inr new ↦ (row_extended rows (get_or lines i 0) item a b w).1 (inr (new, sym q.1))
    ]

-- the tails of the arcs back to a line are its reached tails that are not reached around it
pub tails_back : (arcs : List Arc) (row tails : List ℕ) (reached around through slice : List Bool) (h : ℕ) → ((u : ℕ) → IsIn row u ↔ Joins arcs u h)
    → ((k : ℕ) → IsMarked reached k ↔ IsReached arcs k) → ((k : ℕ) → IsMarked around k ↔ IsReachedAround arcs h k)
    → ((k : ℕ) → IsMarked through k ↔ (IsMarked reached k × IsUnmarked around k)) → slice ≡ through
    → ((k : ℕ) → IsIn tails k ↔ (IsIn row k × IsMarked slice k)) → (u : ℕ) → IsIn tails u ↔ IsBackArc arcs u h
tails_back arcs row tails reached around through slice h r m a t s e u = (there, back)
  where
    there : IsIn tails u → IsBackArc arcs u h
    there i =
        let p = (e u).0 i in
        let q = (t u).0 (rw s at p.1) in
        record {
          arc = (r u).0 p.0;
          reached = (m u).0 q.0;
          through = λ lines w. elim (in_or (0 ∷ lines) h) [ inl here ↦ here | inr not ↦ absurd (not_both around u ((a u).1 (lines, w, not)) q.1) ];
        }

    back : IsBackArc arcs u h → IsIn tails u
    back b = (e u).1 ((r u).1 b.arc, rw s ((t u).1 ((m u).1 b.reached, unmarked_from around u (λ i. let p = (a u).0 i in p.2 (b.through p.0 p.1)))))

-- a head is reached
pub head_reached : (arcs : List Arc) (tails : List ℕ) (h : ℕ) → 0 < length tails → ((u : ℕ) → IsIn tails u ↔ IsBackArc arcs u h) → IsHead arcs h × IsReached arcs h
head_reached arcs [] h l e = absurd (omega arith)
head_reached arcs (u ∷ tails) h l e =
    let b = (e u).0 (inl refl) in
    ((u, b), (b.reached.0 ++ h ∷ [], walk_on (Joins arcs) 0 b.reached.0 u h b.reached.1 b.arc))

pub no_head : (arcs : List Arc) (tails : List ℕ) (h : ℕ) → length tails ≡ 0 → ((u : ℕ) → IsIn tails u ↔ IsBackArc arcs u h) → IsHead arcs h → ⊥
no_head arcs [] h l e i = (e i.0).1 i.1
no_head arcs (u ∷ tails) h l e i = absurd (omega arith)

-- what each loop has, and one more has, each has behind a push
each_pushed : (P : LoopInfo → Type 0) (loops : List LoopInfo) (info : LoopInfo) → ((k : ℕ) (l : LoopInfo) → slice_get loops k ≡ Some l → P l) → P info
    → (k : ℕ) (l : LoopInfo) → slice_get (loops ++ info ∷ []) k ≡ Some l → P l
each_pushed P [] info h i zero l e = rw (same_Some info l e) at i
each_pushed P [] info h i (suc k) l e = absurd (none-some l e)
each_pushed P (x ∷ loops) info h i zero l e = h zero l e
each_pushed P (x ∷ loops) info h i (suc k) l e = each_pushed P loops info (λ j m s. h (suc j) m s) i k l e

-- the loops below one line more
pub loops_push : (g : FlowGraph) (n : ℕ) (loops : List LoopInfo) (info : LoopInfo) → AreLoopsBelow g n loops → IsHead g.arcs n → info.head ≡ n → IsLoop g info
    → AreLoopsBelow g (n + 1) (loops ++ info ∷ [])
loops_push g n loops info b h e i = record {
  heads =
      rw (map-append (λ (l : LoopInfo). l.head) loops (info ∷ []))
      (rw e (lists_push _ (λ k. IsHead g.arcs k × (k < n + 1)) (heads_of loops) n b.heads (λ k p. p.1) (λ k. (there k, back k))));
  each = each_pushed (IsLoop g) loops info b.each i;
}
  where
    there : (k : ℕ) → IsHead g.arcs k × (k < n + 1) → (IsHead g.arcs k × (k < n)) ⊎ (k ≡ n)
    there k p = elim (cases_lt k n) [ inl low ↦ inl (p.0, low) | inr high ↦ let q = p.1 in inr (omega (arith, high, q)) ]

    back : (k : ℕ) → (IsHead g.arcs k × (k < n)) ⊎ (k ≡ n) → IsHead g.arcs k × (k < n + 1)
    back k (inl p) = let q = p.1 in (p.0, omega (arith, q))
    back k (inr s) = (rw s h, omega (arith, s))

pub loops_skip : (g : FlowGraph) (n : ℕ) (loops : List LoopInfo) → AreLoopsBelow g n loops → (IsHead g.arcs n → ⊥) → AreLoopsBelow g (n + 1) loops
loops_skip g n loops b h = record {
  heads = lists_same _ (λ k. IsHead g.arcs k × (k < n + 1)) (heads_of loops) b.heads (λ k. (λ p. let q = p.1 in (p.0, omega (arith, q)), back k));
  each = b.each;
}
  where
    back : (k : ℕ) → IsHead g.arcs k × (k < n + 1) → IsHead g.arcs k × (k < n)
    back k p = elim (cases_lt k n) [ inl low ↦ (p.0, low) | inr high ↦ let q = p.1 in let e : k ≡ n = omega (arith, high, q) in absurd (h (rw e at p.0)) ]

-- the arcs forward into a line come from the lines of its row that are reached around it
pub front_forward : (arcs : List Arc) (row front slice : List ℕ) (around marks : List Bool) (v : ℕ) → ((u : ℕ) → IsIn row u ↔ Joins arcs u v)
    → ((k : ℕ) → IsMarked around k ↔ IsReachedAround arcs v k) → marks ≡ around → ((k : ℕ) → IsIn front k ↔ (IsIn row k × IsMarked marks k)) → slice ≡ front
    → (u : ℕ) → IsIn slice u ↔ IsForward arcs u v
front_forward arcs row front slice around marks v j m same f is u = (
  λ i. let p = (f u).0 (rw is at i) in ((j u).0 p.0, (m u).0 (rw same at p.1)),
  λ q. rw is ((f u).1 ((j u).1 q.0, rw same ((m u).1 q.1))),
)

-- the rows of forward arcs into the lines below one line more
pub forward_more : (count : ℕ) (arcs : List Arc) (rows now : List (List ℕ)) (front : List ℕ) (v : ℕ)
    → AreRows count (λ a b. IsForward arcs a b × (b < v)) rows → length now ≡ length rows → ((u : ℕ) → IsIn front u ↔ IsForward arcs u v)
    → ((a b : ℕ) → IsIn (row_of now a) b ↔ (IsIn (row_of rows a) b ⊎ (IsIn front a × (b ≡ v)))) → AreRows count (λ a b. IsForward arcs a b × (b < v + 1)) now
forward_more count arcs rows now front v r s f e = record { size = s ∙ r.size; exact = λ a b. (there a b, back a b) }
  where
    there : (a b : ℕ) → IsIn (row_of now a) b → IsForward arcs a b × (b < v + 1)
    there a b i = elim ((e a b).0 i) [
      | inl old ↦ let p = (r.exact a b).0 old in let l = p.1 in (p.0, omega (arith, l))
      | inr new ↦ let l = new.1 in (rw l ((f a).0 new.0), omega (arith, l))
    ]

    back : (a b : ℕ) → IsForward arcs a b × (b < v + 1) → IsIn (row_of now a) b
    back a b p = elim (cases_lt b v) [
      | inl low ↦ (e a b).1 (inl ((r.exact a b).1 (p.0, low)))
      | inr high ↦
          let l = p.1 in
          let at_v : b ≡ v = omega (arith, high, l) in
          let q : IsForward arcs a v = rw at_v at p.0 in
          (e a b).1 (inr ((f a).1 q, at_v))
    ]
