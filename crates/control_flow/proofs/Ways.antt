-- What a search finds, as walks from a seed over lines that are not blocked.
use Rattle.std.proofs.Common.{◌≡◌, inl, inr, refl, ℕ, ◌+◌, ◌<◌, ◌≤◌, Bool, List, [], ◌∷◌, length, arith}
use Rattle.std.specs.Prelude.{◌↔◌}
use Rattle.il_core.specs.LineGraph.{IsIn}
use Rattle.flow_graph.specs.Graph.{Joins, IsSoundArc, arc_to, heads_from, tails_into}
use Rattle.flow_graph.specs.Search.{IsWalk, Reaches, IsFound, Follows, IsMarked, IsUnmarked, StayBelow, row_of}
use Rattle.flow_graph.specs.declared.graph.Arc.{Arc}
use Rattle.flow_graph.proofs.LineArcs.{Joins-from_heads, heads_from-Joins, Joins-from_tails, tails_into-Joins}
use Rattle.control_flow.specs.Forward.{AreRows, IsReachedAround}
use Rattle.control_flow.specs.Loop.{ComesRound, IsBackArc}
use Rattle.control_flow.proofs.Walks.{walk_turn}
use Rattle.control_flow.proofs.Listing.{unmarked_from, not_both}

-- a walk from a seed over free lines
pub record Way (E : ℕ → ℕ → Type 0) (free : ℕ → Type 0) (seeds : List ℕ) (k : ℕ) : Type 0 where
  pub seed : ℕ
  pub lines : List ℕ
  pub given : IsIn seeds seed
  pub walk : IsWalk E seed lines k
  pub each : (j : ℕ) → IsIn (seed ∷ lines) j → free j

-- a walk along arcs that follow is one over lines that are not blocked
pub walk_free : (rows : List (List ℕ)) (blocked : List Bool) (a : ℕ) (lines : List ℕ) (b : ℕ) → IsWalk (Follows rows blocked) a lines b → (j : ℕ) → IsIn lines j → IsUnmarked blocked j
walk_free rows blocked a [] b w j i = absurd i
walk_free rows blocked a (c ∷ rest) b w j (inl e) = rw e at w.0.1
walk_free rows blocked a (c ∷ rest) b w j (inr i) = walk_free rows blocked c rest b w.1 j i

pub walk_follows : (E : ℕ → ℕ → Type 0) (rows : List (List ℕ)) (blocked : List Bool) → ((a b : ℕ) → E a b → IsIn (row_of rows a) b) → (a : ℕ) (lines : List ℕ) (b : ℕ)
    → IsWalk E a lines b → ((j : ℕ) → IsIn lines j → IsUnmarked blocked j) → IsWalk (Follows rows blocked) a lines b
walk_follows E rows blocked r a [] b w f = w
walk_follows E rows blocked r a (c ∷ rest) b w f = ((r a c w.0, f c (inl refl)), walk_follows E rows blocked r c rest b w.1 (λ j i. f j (inr i)))

pub walk_plain : (E : ℕ → ℕ → Type 0) (rows : List (List ℕ)) (blocked : List Bool) → ((a b : ℕ) → IsIn (row_of rows a) b → E a b) → (a : ℕ) (lines : List ℕ) (b : ℕ)
    → IsWalk (Follows rows blocked) a lines b → IsWalk E a lines b
walk_plain E rows blocked r a [] b w = w
walk_plain E rows blocked r a (c ∷ rest) b w = (r a c w.0.0, walk_plain E rows blocked r c rest b w.1)

pub way_found : (n : ℕ) (E : ℕ → ℕ → Type 0) (rows : List (List ℕ)) (blocked : List Bool) (seeds : List ℕ) (k : ℕ) → AreRows n E rows
    → IsFound rows blocked seeds k ↔ Way E (IsUnmarked blocked) seeds k
way_found n E rows blocked seeds k r = (there, back)
  where
    there : IsFound rows blocked seeds k → Way E (IsUnmarked blocked) seeds k
    there f = record {
      seed = f.seed;
      lines = f.reached.0;
      given = f.given;
      walk = walk_plain E rows blocked (λ a b. (r.exact a b).0) f.seed f.reached.0 k f.reached.1;
      each = λ j i. elim i [ inl e ↦ rw e at f.free | inr h ↦ walk_free rows blocked f.seed f.reached.0 k f.reached.1 j h ];
    }

    back : Way E (IsUnmarked blocked) seeds k → IsFound rows blocked seeds k
    back w = record {
      seed = w.seed;
      given = w.given;
      free = w.each w.seed (inl refl);
      reached = (w.lines, walk_follows E rows blocked (λ a b. (r.exact a b).1) w.seed w.lines k w.walk (λ j i. w.each j (inr i)));
    }

-- rows of lines inside stay below the number of lines
pub rows_stay : (n : ℕ) (E : ℕ → ℕ → Type 0) (rows : List (List ℕ)) → AreRows n E rows → ((a b : ℕ) → E a b → b < n) → StayBelow (length rows) rows
rows_stay n E rows r low a k i = let l = low a k ((r.exact a k).0 i) in let s = r.size in omega (arith, l, s)

pub heads_inside : (n : ℕ) (arcs : List Arc) → ((a : Arc) → IsIn arcs a → IsSoundArc n a) → (a b : ℕ) → Joins arcs a b → b < n
heads_inside n arcs s a b j = (s (arc_to a b) j).head_inside

pub tails_inside : (n : ℕ) (arcs : List Arc) → ((a : Arc) → IsIn arcs a → IsSoundArc n a) → (a b : ℕ) → Joins arcs b a → b < n
tails_inside n arcs s a b j = (s (arc_to b a) j).tail_inside

-- exactly one line is marked
pub only_marked : (marks : List Bool) (h : ℕ) → ((k : ℕ) → IsMarked marks k ↔ ((h ≤ k) × (k < h + 1))) → (k : ℕ) → IsUnmarked marks k ↔ (h ≡ k → ⊥)
only_marked marks h m k = (
  λ u e. not_both marks k ((m k).1 (omega (arith, e), omega (arith, e))) u,
  λ n. unmarked_from marks k (λ i. let p = (m k).0 i in n (omega (arith, p))),
)

-- what a search from line 0 finds where line h alone is blocked
pub around_found : (n : ℕ) (arcs : List Arc) (rows : List (List ℕ)) (blocked marks : List Bool) (h : ℕ) → AreRows n (Joins arcs) rows → blocked ≡ marks
    → ((k : ℕ) → IsMarked marks k ↔ ((h ≤ k) × (k < h + 1))) → (k : ℕ) → IsFound rows blocked (0 ∷ []) k ↔ IsReachedAround arcs h k
around_found n arcs rows blocked marks h r e m k = rw e (there, back)
  where
    there : IsFound rows marks (0 ∷ []) k → IsReachedAround arcs h k
    there f = from_way ((way_found n (Joins arcs) rows marks (0 ∷ []) k r).0 f)
      where
        from_way : Way (Joins arcs) (IsUnmarked marks) (0 ∷ []) k → IsReachedAround arcs h k
        from_way w = elim w.given [
          | inl z ↦ (w.lines, rw (← z) at w.walk, λ i. (only_marked marks h m h).0 (w.each h (rw z at i)) refl)
          | inr none ↦ absurd none
        ]

    back : IsReachedAround arcs h k → IsFound rows marks (0 ∷ []) k
    back t = (way_found n (Joins arcs) rows marks (0 ∷ []) k r).1 (record {
      seed = 0;
      lines = t.0;
      given = inl refl;
      walk = t.1;
      each = λ j i. (only_marked marks h m j).1 (λ same. t.2 (rw same i));
    })

-- what a search back from one line finds where none is blocked
pub ending_found : (n : ℕ) (arcs : List Arc) (rows : List (List ℕ)) (blocked marks : List Bool) (last : ℕ) → AreRows n (λ a b. Joins arcs b a) rows → blocked ≡ marks
    → ((k : ℕ) → IsMarked marks k ↔ ((0 ≤ k) × (k < 0))) → (k : ℕ) → IsFound rows blocked (last ∷ []) k ↔ Reaches (Joins arcs) k last
ending_found n arcs rows blocked marks last r e m k = rw e (there, back)
  where
    there : IsFound rows marks (last ∷ []) k → Reaches (Joins arcs) k last
    there f = from_way ((way_found n (λ a b. Joins arcs b a) rows marks (last ∷ []) k r).0 f)
      where
        from_way : Way (λ a b. Joins arcs b a) (IsUnmarked marks) (last ∷ []) k → Reaches (Joins arcs) k last
        from_way w = elim w.given [
          | inl z ↦
              let v : IsWalk (λ a b. Joins arcs b a) last w.lines k = rw (← z) at w.walk in
              let t = walk_turn (λ a b. Joins arcs b a) (Joins arcs) (λ a b j. j) last w.lines k v in
              (t.0, t.1)
          | inr none ↦ absurd none
        ]

    back : Reaches (Joins arcs) k last → IsFound rows marks (last ∷ []) k
    back w =
        let t = walk_turn (Joins arcs) (λ a b. Joins arcs b a) (λ a b j. j) k w.0 last w.1 in
        (way_found n (λ a b. Joins arcs b a) rows marks (last ∷ []) k r).1 (record {
          seed = last;
          lines = t.0;
          given = inl refl;
          walk = t.1;
          each = λ j i. unmarked_from marks j (λ h. let p = (m j).0 h in absurd (omega (arith, p)));
        })

-- what a search back from the tails of the arcs back to line h finds where line h alone is blocked
pub round_found : (n : ℕ) (arcs : List Arc) (rows : List (List ℕ)) (blocked marks : List Bool) (h : ℕ) (tails : List ℕ) → AreRows n (λ a b. Joins arcs b a) rows
    → blocked ≡ marks → ((k : ℕ) → IsMarked marks k ↔ ((h ≤ k) × (k < h + 1))) → ((u : ℕ) → IsIn tails u ↔ IsBackArc arcs u h)
    → (k : ℕ) → IsFound rows blocked tails k ↔ ComesRound arcs h k
round_found n arcs rows blocked marks h tails r e m b k = rw e (there, back)
  where
    there : IsFound rows marks tails k → ComesRound arcs h k
    there f =
        let w = (way_found n (λ a b. Joins arcs b a) rows marks tails k r).0 f in
        let t = walk_turn (λ a b. Joins arcs b a) (Joins arcs) (λ a b j. j) w.seed w.lines k w.walk in
        (w.seed, t.0, (b w.seed).0 w.given, t.1, λ i. (only_marked marks h m h).0 (w.each h (t.2 h i)) refl)

    back : ComesRound arcs h k → IsFound rows marks tails k
    back c =
        let t = walk_turn (Joins arcs) (λ a b. Joins arcs b a) (λ a b j. j) k c.1 c.0 c.3 in
        (way_found n (λ a b. Joins arcs b a) rows marks tails k r).1 (record {
          seed = c.0;
          lines = t.0;
          given = (b c.0).1 c.2;
          walk = t.1;
          each = λ j i. (only_marked marks h m j).1 (λ same. c.4 (rw (← same) at (t.2 j i)));
        })

-- rows made of heads and of tails
pub rows_of_heads : (n : ℕ) (arcs : List Arc) (rows : List (List ℕ)) → length rows ≡ n → ((k : ℕ) → row_of rows k ≡ heads_from arcs k) → AreRows n (Joins arcs) rows
rows_of_heads n arcs rows s r = record { size = s; exact = λ a b. (λ i. Joins-from_heads arcs a b (rw (r a) at i), λ j. rw (r a) (heads_from-Joins arcs a b j)) }

pub rows_of_tails : (n : ℕ) (arcs : List Arc) (rows : List (List ℕ)) → length rows ≡ n → ((k : ℕ) → row_of rows k ≡ tails_into arcs k) → AreRows n (λ a b. Joins arcs b a) rows
rows_of_tails n arcs rows s r = record { size = s; exact = λ a b. (λ i. Joins-from_tails arcs a b (rw (r a) at i), λ j. rw (r a) (tails_into-Joins arcs a b j)) }
