-- Walks along joined lists of lines.
use Rattle.std.proofs.Common.{◌≡◌, inl, inr, refl, ℕ, ◌<◌, List, [], ◌∷◌, ◌++◌, length, Option, Some, None, arith}
use Rattle.std.specs.Prelude.{IfSome, IfNone}
use Rattle.flow_graph.specs.declared.graph.Arc.{Arc}
use Rattle.il_core.specs.LineGraph.{IsIn}
use Rattle.flow_graph.specs.Graph.{Joins, heads_from, arc_to, IsSoundArc}
use Rattle.flow_graph.specs.Search.{IsWalk, AreBelow, StayBelow, row_of}
use Rattle.flow_graph.proofs.LineArcs.{Joins-from_heads, heads_from-Joins}
use Rattle.flow_graph.proofs.Spreading.{walk_along}
use Rattle.disjoint_paths.specs.declared.pair.Pair.{Pair}
use Rattle.disjoint_paths.specs.Pair.{LeadsTo, ArePaths, HasPair, IsPair}
use Rattle.disjoint_paths.specs.FirstPath.{IsNext}

-- two walks in turn
pub walk_join : (E : ℕ → ℕ → Type 0) (a : ℕ) (xs : List ℕ) (b : ℕ) (ys : List ℕ) (c : ℕ) → IsWalk E a xs b → IsWalk E b ys c → IsWalk E a (xs ++ ys) c
walk_join E a [] b ys c w u = rw w u
walk_join E a (x ∷ xs) b ys c w u = (w.0, walk_join E x xs b ys c w.1 u)

-- a walk in two parts
pub walk_split : (E : ℕ → ℕ → Type 0) (a : ℕ) (xs ys : List ℕ) (c : ℕ) → IsWalk E a (xs ++ ys) c → (b : ℕ) × IsWalk E a xs b × IsWalk E b ys c
walk_split E a [] ys c w = (a, refl, w)
walk_split E a (x ∷ xs) ys c w = let t = walk_split E x xs ys c w.1 in (t.0, (w.0, t.1), t.2)

-- a walk ends at the last of its lines
pub walk_last : (E : ℕ → ℕ → Type 0) (a : ℕ) (xs : List ℕ) (x b : ℕ) → IsWalk E a (xs ++ x ∷ []) b → x ≡ b
walk_last E a [] x b w = w.1
walk_last E a (y ∷ xs) x b w = walk_last E y xs x b w.1

-- a walk of some lines into a set leads to it
pub LeadsTo-from_walk : (E : ℕ → ℕ → Type 0) (P : ℕ → Type 0) (t : ℕ) (lines : List ℕ) (x : ℕ) → 0 < length lines → IsWalk E t lines x → P x → LeadsTo E P t lines
LeadsTo-from_walk E P t [] x l w p = absurd (omega arith)
LeadsTo-from_walk E P t (b ∷ lines) x l w p = (x, w, p)

-- the lines of a walk along rows that name lines below a limit are below it
pub walk_below : (n : ℕ) (rows : List (List ℕ)) → StayBelow n rows → (a : ℕ) (lines : List ℕ) (b : ℕ) → IsWalk (IsNext rows) a lines b → AreBelow n lines
walk_below n rows s a [] b w k h = absurd h
walk_below n rows s a (c ∷ rest) b w k (inl e) = rw (← e) (s a c w.0)
walk_below n rows s a (c ∷ rest) b w k (inr h) = walk_below n rows s c rest b w.1 k h

-- pairs of paths along arcs of one kind are those along arcs of another where each is one of those
LeadsTo-along : (E F : ℕ → ℕ → Type 0) (P : ℕ → Type 0) → ((a b : ℕ) → E a b → F a b) → (t : ℕ) (lines : List ℕ) → LeadsTo E P t lines → LeadsTo F P t lines
LeadsTo-along E F P f t [] l = l
LeadsTo-along E F P f t (b ∷ lines) l = (l.0, walk_along E F f t (b ∷ lines) l.0 l.1, l.2)

paths_along : (E F : ℕ → ℕ → Type 0) (P : ℕ → Type 0) → ((a b : ℕ) → E a b → F a b) → (t : ℕ) (left right : List ℕ) → ArePaths E P t left right → ArePaths F P t left right
paths_along E F P f t left right p = record {
  left_leads = LeadsTo-along E F P f t left p.left_leads;
  right_leads = LeadsTo-along E F P f t right p.right_leads;
  apart = p.apart;
}

pub some_along : (E F : ℕ → ℕ → Type 0) (P : ℕ → Type 0) → ((a b : ℕ) → E a b → F a b) → (t : ℕ) (o : Option Pair) → IfSome o (λ pair. IsPair E P t pair) → IfSome o (λ pair. IsPair F P t pair)
some_along E F P f t None h = tt
some_along E F P f t (Some pair) h = (h.0, h.1, h.2, h.3, paths_along E F P f t h.0 h.1 h.4)

pub none_along : (E F : ℕ → ℕ → Type 0) (P : ℕ → Type 0) → ((a b : ℕ) → F a b → E a b) → (t : ℕ) (o : Option Pair) → IfNone o (HasPair E P t → ⊥) → IfNone o (HasPair F P t → ⊥)
none_along E F P f t None h = λ p. h (p.0, p.1, paths_along F E P f t p.0 p.1 p.2)
none_along E F P f t (Some pair) h = tt

-- the rows of heads have the arcs
pub Joins-from_next : (rows xs : List (List ℕ)) (arcs : List Arc) → xs ≡ rows → ((k : ℕ) → row_of rows k ≡ heads_from arcs k) → (a b : ℕ) → IsNext xs a b → Joins arcs a b
Joins-from_next rows xs arcs e r a b h = Joins-from_heads arcs a b (rw (e, r a) at h)

pub next-from_Joins : (rows xs : List (List ℕ)) (arcs : List Arc) → xs ≡ rows → ((k : ℕ) → row_of rows k ≡ heads_from arcs k) → (a b : ℕ) → Joins arcs a b → IsNext xs a b
next-from_Joins rows xs arcs e r a b h = rw (e, r a) (heads_from-Joins arcs a b h)

-- rows of heads of a well formed graph have no line in its own row
pub no_loop : (rows xs : List (List ℕ)) (arcs : List Arc) (n : ℕ) → xs ≡ rows → ((k : ℕ) → row_of rows k ≡ heads_from arcs k) → ((a : Arc) → IsIn arcs a → IsSoundArc n a) → (t : ℕ) → IsNext xs t t → ⊥
no_loop rows xs arcs n e r s t h = (s (arc_to t t) (Joins-from_next rows xs arcs e r t t h)).goes_elsewhere refl
