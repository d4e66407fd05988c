-- The nodes of a level: each is in exactly one interval, which its head alone is entered from outside.
use Rattle.std.proofs.Common.{◌≡◌, ◌⊎◌, inl, inr, refl, sym, ◌∙◌, subst, ℕ, suc, ◌<◌, ◌≤◌, Bool, true, false, cond, List, [], ◌∷◌, ◌++◌, length, append_assoc, arith}
use Rattle.std.specs.List.{flat_map}
use Rattle.std.proofs.Math.Dec.{eqb}
use Rattle.std.proofs.lemmas.Bool.Decides.{eqb_tells}
use Rattle.il_core.specs.LineGraph.{IsIn}
use Rattle.flow_graph.specs.Reached.{Differ}
use Rattle.flow_graph.proofs.Members.{IsIn-push, IsIn-append_left, IsIn-append_right, IsIn-append_cases}
use Rattle.interval_reduce.specs.declared.interval.Interval.{Interval}
use Rattle.interval_reduce.specs.Interval.{Fits, Takes, IsIntervalOf}
use Rattle.interval_reduce.specs.Level.{GoesOn, IsLevel, heads_of, holds, owner}
use Rattle.interval_reduce.proofs.ReductionLists.{member_from, any_from, Differ-append}

-- the nodes of the intervals
abbrev pub nodes_of : List Interval → List ℕ
nodes_of level = flat_map (λ i. i.members) level

-- the head of the only interval
pub only_one : (level : List Interval) (u v : ℕ) → length level ≡ 1 → IsIn (heads_of level) u → IsIn (heads_of level) v → u ≡ v
only_one [] u v e h k = absurd h
only_one (i ∷ []) u v e (inl h) (inl k) = sym h ∙ k
only_one (i ∷ []) u v e (inr h) k = absurd h
only_one (i ∷ []) u v e (inl h) (inr k) = absurd k
only_one (i ∷ j ∷ rest) u v e h k = absurd (omega arith)

-- the place of a node in a list
abbrev pub index_of : List ℕ → ℕ → ℕ
index_of [] v = 0
index_of (x ∷ xs) v = cond (eqb x v) 0 (suc (index_of xs v))

-- the place of a node in its interval
abbrev pub place : List Interval → ℕ → ℕ
place [] v = 0
place (i ∷ rest) v = cond (holds i v) (index_of i.members v) (place rest v)

index_in : (xs ys : List ℕ) (u : ℕ) → IsIn xs u → index_of (xs ++ ys) u < length xs
index_in [] ys u h = absurd h
index_in (x ∷ xs) ys u h = elim (eqb_tells x u) [
  | inl same ↦ rw same.0 (omega arith)
  | inr other ↦ rw other.0 (elim h [ inl e ↦ absurd (other.1 e) | inr i ↦ let t = index_in xs ys u i in omega arith ])
]

index_out : (xs ys : List ℕ) (v : ℕ) → (IsIn xs v → ⊥) → length xs ≤ index_of (xs ++ ys) v
index_out [] ys v n = omega arith
index_out (x ∷ xs) ys v n = elim (eqb_tells x v) [
  | inl same ↦ absurd (n (inl same.1))
  | inr other ↦ rw other.0 (let t = index_out xs ys v (λ i. n (inr i)) in omega arith)
]

-- a node of an interval belongs to its head, and its place is the one among the members; others are as they are without the interval
holds_in : (i : Interval) (v : ℕ) → IsIn i.members v → holds i v ≡ true
holds_in i v h = any_from i.members v h

holds_out : (i : Interval) (v : ℕ) → (IsIn i.members v → ⊥) → holds i v ≡ false
holds_out i v n = by_test (holds i v) refl
  where
    by_test : (b : Bool) → holds i v ≡ b → b ≡ false
    by_test true e = absurd (n (member_from i.members v e))
    by_test false e = refl

pub owner_here : (i : Interval) (rest : List Interval) (v : ℕ) → IsIn i.members v → owner (i ∷ rest) v ≡ i.head
owner_here i rest v h = rw (holds_in i v h)

pub owner_later : (i : Interval) (rest : List Interval) (v : ℕ) → (IsIn i.members v → ⊥) → owner (i ∷ rest) v ≡ owner rest v
owner_later i rest v n = rw (holds_out i v n)

place_here : (i : Interval) (rest : List Interval) (v : ℕ) → IsIn i.members v → place (i ∷ rest) v ≡ index_of i.members v
place_here i rest v h = rw (holds_in i v h)

place_later : (i : Interval) (rest : List Interval) (v : ℕ) → (IsIn i.members v → ⊥) → place (i ∷ rest) v ≡ place rest v
place_later i rest v n = rw (holds_out i v n)

-- intervals of heads that are nodes, one behind the other, where these nodes are in earlier ones
abbrev pub AreIntervals : (ℕ → Type 0) → (ℕ → ℕ → Type 0) → List ℕ → List Interval → Type 0
AreIntervals N E earlier [] = Unit {0}
AreIntervals N E earlier (i ∷ rest) = N i.head × (IsIn earlier i.head → ⊥) × IsIntervalOf N E earlier i.head i.members × AreIntervals N E (earlier ++ i.members) rest

module _ (N : ℕ → Type 0) (E : ℕ → ℕ → Type 0) where
  pub intervals_on : (earlier : List ℕ) (rest : List Interval) → GoesOn N E earlier rest → AreIntervals N E earlier rest
  intervals_on earlier [] g = tt
  intervals_on earlier (i ∷ rest) g = (g.0.0.node, g.0.0.outside, g.1, intervals_on (earlier ++ i.members) rest g.2)

  pub intervals_of : (level : List Interval) → N 0 → IsLevel N E level → AreIntervals N E [] level
  intervals_of [] s l = absurd l
  intervals_of (i ∷ rest) s l = (rw l.0 s, (λ h. h), rw l.0 l.1, intervals_on i.members rest l.2)

  -- what an interval takes: nodes in no interval yet, each once, entered from what stands before it alone
  record Taken (earlier front others : List ℕ) : Type 0 where
    nodes : (v : ℕ) → IsIn others v → N v
    fresh : (v : ℕ) → IsIn others v → IsIn earlier v → ⊥
    new : (v : ℕ) → IsIn others v → IsIn front v → ⊥
    differ : Differ others
    entered : (v : ℕ) → IsIn others v → (u : ℕ) → E u v → IsIn (front ++ others) u × (index_of (front ++ others) u < index_of (front ++ others) v)

  taken_more : (earlier front : List ℕ) (x : ℕ) (others : List ℕ) → Fits N E earlier front x → Taken earlier (front ++ x ∷ []) others → Taken earlier front (x ∷ others)
  taken_more earlier front x others f later = record {
    nodes = λ v h. elim h [ inl e ↦ rw (← e) f.node | inr i ↦ later.nodes v i ];
    fresh = λ v h. elim h [ inl e ↦ rw (← e) f.not_earlier | inr i ↦ later.fresh v i ];
    new = λ v h. elim h [ inl e ↦ rw (← e) f.not_taken | inr i ↦ λ j. later.new v i (IsIn-append_left front (x ∷ []) v j) ];
    differ = ((λ h. later.new x h (IsIn-push front x)), later.differ);
    entered = λ v h. elim h [ inl e ↦ rw (← e) at_x | inr i ↦ subst (λ (xs : List ℕ). Before xs v) (append_assoc front (x ∷ []) others) (later.entered v i) ];
  }
    where
      Before : List ℕ → ℕ → Type 0
      Before xs v = (u : ℕ) → E u v → IsIn xs u × (index_of xs u < index_of xs v)

      at_x : Before (front ++ x ∷ others) x
      at_x u e =
          let i = f.entered_inside u e in
          let a = index_in front (x ∷ others) u i in
          let b = index_out front (x ∷ others) x f.not_taken in
          (IsIn-append_left front (x ∷ others) u i, omega arith)

  taken_all : (earlier front others : List ℕ) → Takes N E earlier front others → Taken earlier front others
  taken_all earlier front [] t = record { nodes = λ v h. absurd h; fresh = λ v h. absurd h; new = λ v h. absurd h; differ = tt; entered = λ v h. absurd h }
  taken_all earlier front (x ∷ others) t = taken_more earlier front x others t.0.0 (taken_all earlier (front ++ x ∷ []) others t.1)

  -- the members of an interval
  record Members (earlier : List ℕ) (h : ℕ) (members : List ℕ) : Type 0 where
    head_in : IsIn members h
    nodes : (v : ℕ) → IsIn members v → N v
    fresh : (v : ℕ) → IsIn members v → IsIn earlier v → ⊥
    differ : Differ members
    entered : (v : ℕ) → IsIn members v → (v ≡ h) ⊎ ((u : ℕ) → E u v → IsIn members u × (index_of members u < index_of members v))

  members_of : (earlier : List ℕ) (h : ℕ) (members : List ℕ) → N h → (IsIn earlier h → ⊥) → IsIntervalOf N E earlier h members → Members earlier h members
  members_of earlier h members node out i = subst (Members earlier h) (sym i.1) (record {
    head_in = inl refl;
    nodes = λ v j. elim j [ inl e ↦ rw (← e) node | inr k ↦ t.nodes v k ];
    fresh = λ v j. elim j [ inl e ↦ rw (← e) out | inr k ↦ t.fresh v k ];
    differ = ((λ j. t.new h j (inl refl)), t.differ);
    entered = λ v j. elim j [ inl e ↦ inl (sym e) | inr k ↦ inr (t.entered v k) ];
  })
    where
      t : Taken earlier (h ∷ []) i.0
      t = taken_all earlier (h ∷ []) i.0 i.2

  -- the intervals, one behind the other
  pub record Shared (earlier : List ℕ) (level : List Interval) : Type 0 where
    pub nodes : (v : ℕ) → IsIn (nodes_of level) v → N v
    pub fresh : (v : ℕ) → IsIn (nodes_of level) v → IsIn earlier v → ⊥
    pub differ : Differ (nodes_of level)
    pub entered : (v : ℕ) → IsIn (nodes_of level) v → (v ≡ owner level v)
        ⊎ ((u : ℕ) → E u v → IsIn (nodes_of level) u × (owner level u ≡ owner level v) × (place level u < place level v))
    pub owned : (v : ℕ) → IsIn (nodes_of level) v → IsIn (heads_of level) (owner level v)
    pub heads : (h : ℕ) → IsIn (heads_of level) h → IsIn (nodes_of level) h × (owner level h ≡ h)

  shared_more : (earlier : List ℕ) (i : Interval) (rest : List Interval) → Members earlier i.head i.members → Shared (earlier ++ i.members) rest → Shared earlier (i ∷ rest)
  shared_more earlier i rest m s = record {
    nodes = λ v h. elim (parts v h) [ inl a ↦ m.nodes v a | inr b ↦ s.nodes v b.0 ];
    fresh = λ v h j. elim (parts v h) [ inl a ↦ m.fresh v a j | inr b ↦ s.fresh v b.0 (IsIn-append_left earlier i.members v j) ];
    differ = Differ-append i.members (nodes_of rest) m.differ s.differ (λ k a b. not_here k b a);
    entered = λ v h. elim (parts v h) [ inl a ↦ here v a (m.entered v a) | inr b ↦ later v b.0 b.1 (s.entered v b.0) ];
    owned = λ v h. elim (parts v h) [
      | inl a ↦ inl (sym (owner_here i rest v a))
      | inr b ↦ inr (rw (owner_later i rest v b.1) (s.owned v b.0))
    ];
    heads = λ h j. elim j [
      | inl e ↦ (rw (← e) (IsIn-append_left i.members (nodes_of rest) i.head m.head_in), rw (← e) (owner_here i rest i.head m.head_in))
      | inr k ↦ let t = s.heads h k in (IsIn-append_right i.members (nodes_of rest) h t.0, owner_later i rest h (not_here h t.0) ∙ t.1)
    ];
  }
    where
      not_here : (v : ℕ) → IsIn (nodes_of rest) v → IsIn i.members v → ⊥
      not_here v h j = s.fresh v h (IsIn-append_right earlier i.members v j)

      parts : (v : ℕ) → IsIn (nodes_of (i ∷ rest)) v → IsIn i.members v ⊎ (IsIn (nodes_of rest) v × (IsIn i.members v → ⊥))
      parts v h = elim (IsIn-append_cases i.members (nodes_of rest) v h) [ inl a ↦ inl a | inr b ↦ inr (b, not_here v b) ]

      From : ℕ → Type 0
      From v = (v ≡ owner (i ∷ rest) v)
          ⊎ ((u : ℕ) → E u v → IsIn (nodes_of (i ∷ rest)) u × (owner (i ∷ rest) u ≡ owner (i ∷ rest) v) × (place (i ∷ rest) u < place (i ∷ rest) v))

      here : (v : ℕ) → IsIn i.members v → (v ≡ i.head) ⊎ ((u : ℕ) → E u v → IsIn i.members u × (index_of i.members u < index_of i.members v)) → From v
      here v a (inl e) = inl (e ∙ sym (owner_here i rest v a))
      here v a (inr f) = inr (λ u e. let t = f u e in
          let p = place_here i rest u t.0 in
          let q = place_here i rest v a in
          (IsIn-append_left i.members (nodes_of rest) u t.0, owner_here i rest u t.0 ∙ sym (owner_here i rest v a), rw (p, q) t.1))

      later : (v : ℕ) → IsIn (nodes_of rest) v → (IsIn i.members v → ⊥)
          → (v ≡ owner rest v) ⊎ ((u : ℕ) → E u v → IsIn (nodes_of rest) u × (owner rest u ≡ owner rest v) × (place rest u < place rest v)) → From v
      later v b n (inl e) = inl (e ∙ sym (owner_later i rest v n))
      later v b n (inr f) = inr (λ u e. let t = f u e in
          let m = not_here u t.0 in
          let p = place_later i rest u m in
          let q = place_later i rest v n in
          (IsIn-append_right i.members (nodes_of rest) u t.0, owner_later i rest u m ∙ t.1 ∙ sym (owner_later i rest v n), rw (p, q) t.2))

  pub shared_all : (earlier : List ℕ) (level : List Interval) → AreIntervals N E earlier level → Shared earlier level
  shared_all earlier [] a = record { nodes = λ v h. absurd h; fresh = λ v h. absurd h; differ = tt; entered = λ v h. absurd h; owned = λ v h. absurd h; heads = λ v h. absurd h }
  shared_all earlier (i ∷ rest) a =
      shared_more earlier i rest (members_of earlier i.head i.members a.0 a.1 a.2) (shared_all (earlier ++ i.members) rest a.3)
