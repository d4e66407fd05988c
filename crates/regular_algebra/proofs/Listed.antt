-- Turns through a node over the nodes that are listed alone make what turns over all nodes make.
use Rattle.std.proofs.Common.{◌≡◌, refl, sym, ap, ◌∙◌, subst, ℕ, zero, suc, ◌+◌, ◌<◌, ◌≤◌, ◌⊎◌, ◌||◌, inl, inr, eqb, Option, Some, None, List, [], ◌∷◌, length, take, get_or, fold, arith}
use Rattle.std.proofs.lemmas.Bool.{cond-false, cases_eq}
use Rattle.std.proofs.lemmas.List.{get_or_default}
use Rattle.std.proofs.lemmas.List.Kept.{AllPairs-from_increasing}
use Rattle.std.proofs.lemmas.List.Sums.{fold_more}
use Rattle.std.specs.List.{AllPairs, Contains}
use Rattle.std.specs.List.Sorted.{IsStrictlyIncreasing}
use Rattle.regular_algebra.specs.Answers.{IsAmong}
use Rattle.regular_algebra.specs.Rule.{Table, next, made, put, joined, joined_to, multiplied, through, turned, turn, row, rows}
use Rattle.regular_algebra.specs.Cells.{RiseFrom, IsListed}
use Rattle.regular_algebra.specs.declared.steps.Step.{Step}
use Rattle.regular_algebra.specs.declared.steps.Step.TheVariants.{Plus, Times}
use Rattle.regular_algebra.proofs.Tables.{either_tells}
use Rattle.regular_algebra.proofs.Cells.{put_away}
use Rattle.regular_algebra.proofs.Turns.{turn-own, turn-none_right, row-skipped, among-at}

rising_pairs : (nodes : List ℕ) (a : ℕ) → AllPairs (λ x y. x < y) nodes → ((k : ℕ) → k < length nodes → a ≤ get_or nodes k 0) → RiseFrom a nodes
rising_pairs [] a pairs least = tt
rising_pairs (x ∷ nodes) a pairs least =
    (least 0 (omega arith), rising_pairs nodes (suc x) (λ i j d l m. pairs (suc i) (suc j) d (omega arith) (omega arith)) (λ k l. let b = pairs 0 (suc k) 0 (omega arith) (omega arith) in omega (arith, b)))

-- nodes that increase rise from 0 on
pub rise-increasing : (nodes : List ℕ) → IsStrictlyIncreasing nodes → RiseFrom 0 nodes
rise-increasing nodes h = rising_pairs nodes 0 (AllPairs-from_increasing nodes h) (λ k l. omega arith)

-- what rises from a on has no node below a
not_below : (nodes : List ℕ) (a k : ℕ) → RiseFrom a nodes → IsAmong nodes k → a ≤ k
not_below [] a k r h = absurd h
not_below (x ∷ nodes) a k r (inl e) = let l = r.0 in omega arith
not_below (x ∷ nodes) a k r (inr h) = let l = r.0 in let m = not_below nodes (suc x) k r.1 h in omega arith

-- what a list contains is among its elements
pub among-contained : (nodes : List ℕ) (k : ℕ) → Contains nodes k → IsAmong nodes k
among-contained nodes k h = subst (IsAmong nodes) (get_or_default nodes h.0 0 k h.1 ∙ h.2) (among-at nodes h.0 h.1)

-- steps g, one for each node, between tables of one kind
module _ (g : ℕ → Table → Table) (Kind : Table → Type 0) (keeps : (k : ℕ) (u : Table) → Kind u → Kind (g k u)) where
  -- the step of a node changes nothing
  abbrev Idle : ℕ → Type 0
  Idle k = (u : Table) → Kind u → g k u ≡ u

  -- the steps of the m nodes from a on
  abbrev run : ℕ → ℕ → Table → Table
  run a zero t = t
  run a (suc m) t = run (suc a) m (g a t)

  run_last : (m a : ℕ) (t : Table) → run a (suc m) t ≡ g (a + m) (run a m t)
  run_last zero a t = ap (λ k. g k t) (omega arith)
  run_last (suc m) a t = run_last m (suc a) (g a t) ∙ ap (λ k. g k (run (suc a) m (g a t))) (omega arith)

  -- what takes one step more each time
  run_all : (f : ℕ → Table) (t : Table) → f 0 ≡ t → ((j : ℕ) → f (suc j) ≡ g j (f j)) → (j : ℕ) → f j ≡ run 0 j t
  run_all f t e s zero = e
  run_all f t e s (suc j) = s j ∙ ap (g j) (run_all f t e s j) ∙ sym (run_last j 0 t ∙ ap (λ k. g k (run 0 j t)) (omega arith))

  all_idle : (nodes : List ℕ) (a : ℕ) (t : Table) → Kind t → RiseFrom a nodes → ((k : ℕ) → a ≤ k → Idle k) → fold (λ u k. g k u) t nodes ≡ t
  all_idle [] a t h r idle = refl
  all_idle (x ∷ nodes) a t h r idle =
      let l : a ≤ x = r.0 in
      ap (λ u. fold (λ w k. g k w) u nodes) (idle x l t h) ∙ all_idle nodes (suc x) t h r.1 (λ k m. idle k (omega arith))

  -- the steps of the listed nodes are those of all nodes, where every other is idle
  skipped : (m a : ℕ) (nodes : List ℕ) (t : Table) → Kind t → RiseFrom a nodes → ((k : ℕ) → a ≤ k → IsAmong nodes k ⊎ Idle k)
      → ((k : ℕ) → a + m ≤ k → Idle k) → fold (λ u k. g k u) t nodes ≡ run a m t
  skipped zero a nodes t h r each beyond = all_idle nodes a t h r (λ k l. beyond k (omega arith))
  skipped (suc m) a [] t h r each beyond =
      elim (each a (omega arith)) [
        | inl s ↦ absurd s
        | inr s ↦ skipped m (suc a) [] t h tt (λ k l. each k (omega arith)) (λ k l. beyond k (omega arith)) ∙ ap (run (suc a) m) (sym (s t h))
      ]
  skipped (suc m) a (x ∷ nodes) t h r each beyond =
      let l : a ≤ x = r.0 in
      elim (cases_eq x a) [
        | inl e ↦
            ap (λ k. fold (λ u j. g j u) (g k t) nodes) e
            ∙ skipped m (suc a) nodes (g a t) (keeps a t h) (subst (λ k. RiseFrom (suc k) nodes) e r.1)
            (λ k b. elim (each k (omega arith)) [ inl s ↦ elim s [ inl same ↦ absurd (omega arith) | inr other ↦ inl other ] | inr s ↦ inr s ])
            (λ k b. beyond k (omega arith))
        | inr n ↦
            let above : suc a ≤ x = omega arith in
            elim (each a (omega arith)) [
              | inl s ↦ let b = not_below (x ∷ nodes) (suc a) a (above, r.1) s in absurd (omega arith)
              | inr s ↦
                  skipped m (suc a) (x ∷ nodes) t h (above, r.1) (λ k b. each k (omega arith)) (λ k b. beyond k (omega arith)) ∙ ap (run (suc a) m) (sym (s t h))
            ]
      ]

-- the row and the column of p are as in t
pub record Keeps (p : ℕ) (t u : Table) : Type 0 where
  pub row : (j : ℕ) → u.entry p j ≡ t.entry p j
  pub column : (i : ℕ) → u.entry i p ≡ t.entry i p

pub keeps-same : (p : ℕ) (t : Table) → Keeps p t t
keeps-same p t = record { row = λ j. refl; column = λ i. refl }

pub keeps-then : (p : ℕ) (t u v : Table) → Keeps p t u → Keeps p u v → Keeps p t v
keeps-then p t u v h k = record { row = λ j. k.row j ∙ h.row j; column = λ i. k.column i ∙ h.column i }

pub keeps-made : (p : ℕ) (s : Step) (t : Table) → Keeps p t (made s t)
unfolding made
keeps-made p s t = record { row = λ j. refl; column = λ i. refl }

keeps_put : (p i j : ℕ) (v : Option ℕ) (t : Table) → (i ≡ p → ⊥) → (j ≡ p → ⊥) → Keeps p t (put i j v t)
keeps_put p i j v t ni nj =
    record { row = λ b. put_away i j p b v t (λ e f. ni (sym e)); column = λ a. put_away i j a p v t (λ e f. nj (sym f)) }

keeps_joined_to : (n p i j v : ℕ) (t : Table) (o : Option ℕ) → (i ≡ p → ⊥) → (j ≡ p → ⊥) → Keeps p t (joined_to n i j v t o)
keeps_joined_to n p i j v t None ni nj = keeps_put p i j (Some v) t ni nj
keeps_joined_to n p i j v t (Some u) ni nj =
    keeps-then p t (made (Plus u v) t) (put i j (Some (next n t)) (made (Plus u v) t)) (keeps-made p (Plus u v) t) (keeps_put p i j (Some (next n t)) (made (Plus u v) t) ni nj)

keeps_joined : (n p i j v : ℕ) (t : Table) → (i ≡ p → ⊥) → (j ≡ p → ⊥) → Keeps p t (joined n i j v t)
unfolding joined
keeps_joined n p i j v t ni nj = keeps_joined_to n p i j v t (t.entry i j) ni nj

keeps_multiplied : (n p i j a b : ℕ) (t : Table) → (i ≡ p → ⊥) → (j ≡ p → ⊥) → Keeps p t (multiplied n i j a b t)
unfolding multiplied
keeps_multiplied n p i j a b t ni nj =
    let m = made (Times a b) t in keeps-then p t m (joined n i j (next n t) m) (keeps-made p (Times a b) t) (keeps_joined n p i j (next n t) m ni nj)

keeps_through : (n p i j a : ℕ) (star : Option ℕ) (b : ℕ) (t : Table) → (i ≡ p → ⊥) → (j ≡ p → ⊥) → Keeps p t (through n i j a star b t)
keeps_through n p i j a None b t ni nj = keeps_multiplied n p i j a b t ni nj
keeps_through n p i j a (Some s) b t ni nj =
    let m = made (Times a s) t in
    keeps-then p t m (multiplied n i j (next n t) b m) (keeps-made p (Times a s) t) (keeps_multiplied n p i j (next n t) b m ni nj)

keeps_turned : (n p : ℕ) (star : Option ℕ) (i j : ℕ) (t : Table) (x y : Option ℕ) → (i ≡ p → ⊥) → (j ≡ p → ⊥) → Keeps p t (turned n star i j t x y)
keeps_turned n p star i j t None y ni nj = keeps-same p t
keeps_turned n p star i j t (Some a) None ni nj = keeps-same p t
keeps_turned n p star i j t (Some a) (Some b) ni nj = keeps_through n p i j a star b t ni nj

-- a turn through p leaves the row and the column of p
keeps_turn : (n p : ℕ) (star : Option ℕ) (i j : ℕ) (t : Table) → Keeps p t (turn n p star i j t)
unfolding turn
keeps_turn n p star i j t =
    elim (either_tells i j p) [
      | inl q ↦ subst (Keeps p t) (turn-own n p star i j t q.1) (keeps-same p t)
      | inr q ↦
          subst (Keeps p t) (sym (cond-false (eqb i p || eqb j p) t (turned n star i j t (t.entry i p) (t.entry p j)) q.0))
          (keeps_turned n p star i j t (t.entry i p) (t.entry p j) q.1 q.2)
    ]

-- so do the turns from a node
pub keeps-row : (n p : ℕ) (star : Option ℕ) (i j : ℕ) (t : Table) → Keeps p t (row n p star i j t)
unfolding row
keeps-row n p star i zero t = keeps-same p t
keeps-row n p star i (suc j) t =
    keeps-then p t (row n p star i j t) (turn n p star i j (row n p star i j t)) (keeps-row n p star i j t) (keeps_turn n p star i j (row n p star i j t))

-- a value or none
either_stands : (o : Option ℕ) → (o ≡ None) ⊎ ((v : ℕ) × (o ≡ Some v))
either_stands None = inl refl
either_stands (Some v) = inr (v, refl)

row_start : (n p : ℕ) (star : Option ℕ) (i : ℕ) (t : Table) → row n p star i 0 t ≡ t
unfolding row
row_start n p star i t = refl

row_next : (n p : ℕ) (star : Option ℕ) (i : ℕ) (t : Table) (j : ℕ) → row n p star i (suc j) t ≡ turn n p star i j (row n p star i j t)
unfolding row
row_next n p star i t j = refl

-- the turns from i to the nodes that p leads to are those to all nodes
pub row-listed : (n p : ℕ) (star : Option ℕ) (i count : ℕ) (t : Table) (nodes : List ℕ) → IsListed (t.entry p) nodes → ((j : ℕ) → count ≤ j → t.entry p j ≡ None)
    → fold (λ u j. turn n p star i j u) t nodes ≡ row n p star i count t
row-listed n p star i count t nodes h beyond =
    let g = λ (j : ℕ) (u : Table). turn n p star i j u in
    let keeps : (j : ℕ) (u : Table) → Keeps p t u → Keeps p t (g j u) = λ j u k. keeps-then p t u (g j u) k (keeps_turn n p star i j u) in
    let idle : (j : ℕ) → t.entry p j ≡ None → (u : Table) → Keeps p t u → g j u ≡ u = λ j e u k. sym (turn-none_right n p star i j u (sym (k.row j ∙ e))) in
    skipped g (Keeps p t) keeps count 0 nodes t (keeps-same p t) h.rising
    (λ j l. elim (either_stands (t.entry p j)) [ inl e ↦ inr (idle j e) | inr s ↦ inl (h.all j s.0 s.1) ])
    (λ j l. idle j (beyond j (omega arith)))
    ∙ sym (run_all g (Keeps p t) keeps (λ j. row n p star i j t) t (row_start n p star i t) (row_next n p star i t) count)

rows_start : (n p : ℕ) (star : Option ℕ) (count : ℕ) (t : Table) → rows n p star count 0 t ≡ t
unfolding rows
rows_start n p star count t = refl

rows_next : (n p : ℕ) (star : Option ℕ) (count : ℕ) (t : Table) (i : ℕ) → rows n p star count (suc i) t ≡ row n p star i count (rows n p star count i t)
unfolding rows
rows_next n p star count t i = refl

-- the turns from the nodes that lead to p are those from all nodes
pub rows-listed : (n p : ℕ) (star : Option ℕ) (count : ℕ) (t : Table) (nodes : List ℕ) → IsListed (λ i. t.entry i p) nodes → ((i : ℕ) → count ≤ i → t.entry i p ≡ None)
    → fold (λ u i. row n p star i count u) t nodes ≡ rows n p star count count t
rows-listed n p star count t nodes h beyond =
    let g = λ (i : ℕ) (u : Table). row n p star i count u in
    let keeps : (i : ℕ) (u : Table) → Keeps p t u → Keeps p t (g i u) = λ i u k. keeps-then p t u (g i u) k (keeps-row n p star i count u) in
    let idle : (i : ℕ) → t.entry i p ≡ None → (u : Table) → Keeps p t u → g i u ≡ u = λ i e u k. sym (row-skipped n p star i count u (sym (k.column i ∙ e))) in
    skipped g (Keeps p t) keeps count 0 nodes t (keeps-same p t) h.rising
    (λ i l. elim (either_stands (t.entry i p)) [ inl e ↦ inr (idle i e) | inr s ↦ inl (h.all i s.0 s.1) ])
    (λ i l. idle i (beyond i (omega arith)))
    ∙ sym (run_all g (Keeps p t) keeps (λ i. rows n p star count i t) t (rows_start n p star count t) (rows_next n p star count t) count)

made_lists : (p : ℕ) (s : Step) (t : Table) (entering leaving : List ℕ) → IsListed (λ i. t.entry i p) entering → IsListed (t.entry p) leaving
    → IsListed (λ i. (made s t).entry i p) entering × IsListed ((made s t).entry p) leaving
unfolding made
made_lists p s t entering leaving h k = (h, k)

-- a step changes no entry
pub listed-made : (p : ℕ) (s : Step) (t u : Table) (entering leaving : List ℕ) → u ≡ made s t → IsListed (λ i. t.entry i p) entering → IsListed (t.entry p) leaving
    → IsListed (λ i. u.entry i p) entering × IsListed (u.entry p) leaving
listed-made p s t u entering leaving e h k =
    subst (λ (x : Table). IsListed (λ i. x.entry i p) entering × IsListed (x.entry p) leaving) (sym e) (made_lists p s t entering leaving h k)

-- the turns from a node, on a board of the same size
pub row-sized : (n q p : ℕ) (star : Option ℕ) (i count size : ℕ) (m u : Table) → q ≡ n → size ≡ count → u ≡ row q p star i size m
    → Keeps p m u × (u ≡ row n p star i count m)
row-sized n q p star i count size m u d e f =
    let g = f ∙ ap (λ x. row x p star i size m) d ∙ ap (λ x. row n p star i x m) e in
    (subst (Keeps p m) (sym g) (keeps-row n p star i count m), g)

-- the turns from one listed node more
pub rows-more_listed : (n p : ℕ) (star : Option ℕ) (count : ℕ) (t m u : Table) (nodes : List ℕ) (i : ℕ) → i < length nodes
    → m ≡ fold (λ w k. row n p star k count w) t (take i nodes) → u ≡ row n p star (get_or nodes i 0) count m
    → u ≡ fold (λ w k. row n p star k count w) t (take (i + 1) nodes)
rows-more_listed n p star count t m u nodes i l e f =
    f ∙ ap (row n p star (get_or nodes i 0) count) e ∙ sym (fold_more (λ (w : Table) (k : ℕ). row n p star k count w) t nodes i 0 l)
