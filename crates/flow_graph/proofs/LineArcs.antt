-- The arcs of a procedure's graph are those of its lines.
use Rattle.std.proofs.Common.{◌≡◌, ◌≢◌, inl, inr, refl, sym, ap, subst, ◌∙◌, ℕ, zero, suc, ◌+◌, ◌<◌, ◌≤◌, Bool, true, false, cond, eqb, List, [], ◌∷◌, ◌++◌, length, map, replicate, arith, slice_get, append-nil, eq-eqb, ne_eqb, take, set, get_or}
use Rattle.std.specs.Prelude.{◌↔◌}
use Rattle.std.proofs.lemmas.Bool.Decides.{nat_tests, eqb_tells}
use Rattle.std.proofs.lemmas.List.{take_more, get_or-set_same, get_or-set_other}
use Rattle.il_core.specs.Procedure.{Procedure, Instruction}
use Rattle.il_core.specs.LineGraph.{IsIn, heads_of, heads_at, HasArc, IsPath}
use Rattle.flow_graph.specs.declared.graph.Arc.{Arc}
use Rattle.flow_graph.specs.Graph.{arc_to, arcs_from, graph_of, Joins, heads_from, tails_into, StandInOrder, IsSoundArc}
use Rattle.flow_graph.specs.Search.{IsWalk, Reaches, row_of, Follows, IsFound, IsUnmarked, StayBelow}
use Rattle.flow_graph.proofs.Members.{IsIn-append_cases, IsIn-get_or, IsIn-from_map}
use Rattle.flow_graph.proofs.Spreading.{walk_along, none_unmarked}

-- one element more at the front, or not, of a joined list
cond_append : (t : Bool) (x : ℕ) (xs ys zs : List ℕ) → xs ≡ ys ++ zs → cond t (x ∷ xs) xs ≡ cond t (x ∷ ys) ys ++ zs
cond_append true x xs ys zs e = ap (λ vs. x ∷ vs) e
cond_append false x xs ys zs e = e

-- the heads of joined lists of arcs
pub heads_from-append : (xs bs : List Arc) (k : ℕ) → heads_from (xs ++ bs) k ≡ heads_from xs k ++ heads_from bs k
heads_from-append [] bs k = refl
heads_from-append (a ∷ xs) bs k = cond_append (eqb a.tail k) a.head _ _ _ (heads_from-append xs bs k)

pub tails_into-append : (xs bs : List Arc) (k : ℕ) → tails_into (xs ++ bs) k ≡ tails_into xs k ++ tails_into bs k
tails_into-append [] bs k = refl
tails_into-append (a ∷ xs) bs k = cond_append (eqb a.head k) a.tail _ _ _ (tails_into-append xs bs k)

-- an arc is its tail and its head
arc_is : (a : Arc) (k h : ℕ) → a.tail ≡ k → a.head ≡ h → a ≡ arc_to k h
arc_is a k h e f = rw (← e, ← f) refl

-- a head of a node is where an arc goes
pub Joins-from_heads : (arcs : List Arc) (k h : ℕ) → IsIn (heads_from arcs k) h → Joins arcs k h
Joins-from_heads [] k h i = absurd i
Joins-from_heads (a ∷ rest) k h i = by_test (Joins-from_heads rest k h) (eqb a.tail k) refl i
  where
    by_test : (IsIn (heads_from rest k) h → Joins rest k h) → (t : Bool) → eqb a.tail k ≡ t
        → IsIn (cond t (a.head ∷ heads_from rest k) (heads_from rest k)) h → Joins (a ∷ rest) k h
    by_test more true e (inl same) = let f : a.tail ≡ k = grind (arith, nat_tests) in inl (arc_is a k h f same)
    by_test more true e (inr j) = inr (more j)
    by_test more false e j = inr (more j)

pub heads_from-Joins : (arcs : List Arc) (k h : ℕ) → Joins arcs k h → IsIn (heads_from arcs k) h
heads_from-Joins [] k h i = absurd i
heads_from-Joins (a ∷ rest) k h i = by_test (heads_from-Joins rest k h) (eqb a.tail k) refl i
  where
    by_test : (Joins rest k h → IsIn (heads_from rest k) h) → (t : Bool) → eqb a.tail k ≡ t → Joins (a ∷ rest) k h
        → IsIn (cond t (a.head ∷ heads_from rest k) (heads_from rest k)) h
    by_test more true e (inl same) = let f : a.head ≡ h = cc in inl f
    by_test more true e (inr j) = inr (more j)
    by_test more false e (inl same) = let f : a.tail ≡ k = cc in absurd (grind (arith, nat_tests))
    by_test more false e (inr j) = more j

-- a tail into a node is where an arc comes from
pub Joins-from_tails : (arcs : List Arc) (k t : ℕ) → IsIn (tails_into arcs k) t → Joins arcs t k
Joins-from_tails [] k t i = absurd i
Joins-from_tails (a ∷ rest) k t i = by_test (Joins-from_tails rest k t) (eqb a.head k) refl i
  where
    by_test : (IsIn (tails_into rest k) t → Joins rest t k) → (b : Bool) → eqb a.head k ≡ b
        → IsIn (cond b (a.tail ∷ tails_into rest k) (tails_into rest k)) t → Joins (a ∷ rest) t k
    by_test more true e (inl same) = let f : a.head ≡ k = grind (arith, nat_tests) in inl (arc_is a t k same f)
    by_test more true e (inr j) = inr (more j)
    by_test more false e j = inr (more j)

pub tails_into-Joins : (arcs : List Arc) (k t : ℕ) → Joins arcs t k → IsIn (tails_into arcs k) t
tails_into-Joins [] k t i = absurd i
tails_into-Joins (a ∷ rest) k t i = by_test (tails_into-Joins rest k t) (eqb a.head k) refl i
  where
    by_test : (Joins rest t k → IsIn (tails_into rest k) t) → (b : Bool) → eqb a.head k ≡ b → Joins (a ∷ rest) t k
        → IsIn (cond b (a.tail ∷ tails_into rest k) (tails_into rest k)) t
    by_test more true e (inl same) = let f : a.tail ≡ t = cc in inl f
    by_test more true e (inr j) = inr (more j)
    by_test more false e (inl same) = let f : a.head ≡ k = cc in absurd (grind (arith, nat_tests))
    by_test more false e (inr j) = more j

cond_yes : (t : Bool) (xs ys : List ℕ) → t ≡ true → cond t xs ys ≡ xs
cond_yes t xs ys e = rw e refl

cond_no : (t : Bool) (xs ys : List ℕ) → t ≡ false → cond t xs ys ≡ ys
cond_no t xs ys e = rw e refl

-- the arcs of one line leave that line alone
heads_from_same : (k : ℕ) (hs : List ℕ) → heads_from (map (arc_to k) hs) k ≡ hs
heads_from_same k [] = refl
heads_from_same k (h ∷ hs) = cond_yes (eqb k k) _ _ (eq-eqb k k refl) ∙ ap (λ xs. h ∷ xs) (heads_from_same k hs)

heads_from_other : (k j : ℕ) (hs : List ℕ) → k ≢ j → heads_from (map (arc_to k) hs) j ≡ []
heads_from_other k j [] n = refl
heads_from_other k j (h ∷ hs) n = cond_no (eqb k j) _ _ (ne_eqb k j n) ∙ heads_from_other k j hs n

-- lines behind a line have no arc that leaves it
heads_from_behind : (k j : ℕ) (lines : List Instruction) → j < k → heads_from (arcs_from k lines) j ≡ []
heads_from_behind k j [] l = refl
heads_from_behind k j (i ∷ rest) l =
    let n : k ≢ j = omega arith in
    heads_from-append (map (arc_to k) (heads_of k i)) (arcs_from (k + 1) rest) j
    ∙ rw (heads_from_other k j (heads_of k i) n, heads_from_behind (k + 1) j rest (omega arith)) refl

-- the heads of a node are those of its line
pub heads_from_lines : (k : ℕ) (lines : List Instruction) (j : ℕ) → heads_from (arcs_from k lines) (k + j) ≡ heads_at (k + j) (slice_get lines j)
heads_from_lines k [] j = refl
heads_from_lines k (i ∷ rest) zero =
    let e : k + 0 ≡ k = omega arith in
    rw e (heads_from-append (map (arc_to k) (heads_of k i)) (arcs_from (k + 1) rest) k
    ∙ rw (heads_from_same k (heads_of k i), heads_from_behind (k + 1) k rest (omega arith)) (append-nil (heads_of k i)))
heads_from_lines k (i ∷ rest) (suc j) =
    let e : k + suc j ≡ (k + 1) + j = omega arith in
    let n : k ≢ (k + 1) + j = omega arith in
    rw e (heads_from-append (map (arc_to k) (heads_of k i)) (arcs_from (k + 1) rest) ((k + 1) + j)
    ∙ rw (heads_from_other k ((k + 1) + j) (heads_of k i) n) (heads_from_lines (k + 1) rest j))

pub heads_from_graph : (p : Procedure) (k : ℕ) → heads_from (graph_of p).arcs k ≡ heads_at k (slice_get p.lines k)
heads_from_graph p k = let e : 0 + k ≡ k = omega arith in rw e at (heads_from_lines 0 p.lines k)

-- an arc of the graph is one of the line graph
pub HasArc-from_Joins : (p : Procedure) (a b : ℕ) → Joins (graph_of p).arcs a b → HasArc p a b
HasArc-from_Joins p a b j = rw (← heads_from_graph p a) (heads_from-Joins (graph_of p).arcs a b j)

pub Joins-from_HasArc : (p : Procedure) (a b : ℕ) → HasArc p a b → Joins (graph_of p).arcs a b
Joins-from_HasArc p a b h = Joins-from_heads (graph_of p).arcs a b (rw (heads_from_graph p a) h)

-- a walk of the graph is a path
pub IsPath-from_walk : (p : Procedure) (a : ℕ) (lines : List ℕ) (b : ℕ) → IsWalk (Joins (graph_of p).arcs) a lines b → IsPath p a lines b
IsPath-from_walk p a [] b w = w
IsPath-from_walk p a (c ∷ rest) b w = (HasArc-from_Joins p a c w.0, IsPath-from_walk p c rest b w.1)

pub IsWalk-from_path : (p : Procedure) (a : ℕ) (lines : List ℕ) (b : ℕ) → IsPath p a lines b → IsWalk (Joins (graph_of p).arcs) a lines b
IsWalk-from_path p a [] b w = w
IsWalk-from_path p a (c ∷ rest) b w = (Joins-from_HasArc p a c w.0, IsWalk-from_path p c rest b w.1)

-- arcs of lines from k on leave lines from k on
tail_low : (k : ℕ) (lines : List Instruction) (a : Arc) → IsIn (arcs_from k lines) a → k ≤ a.tail
tail_low k [] a h = absurd h
tail_low k (i ∷ rest) a h = elim (IsIn-append_cases (map (arc_to k) (heads_of k i)) (arcs_from (k + 1) rest) a h) [
  | inl x ↦ let t = IsIn-from_map (arc_to k) (heads_of k i) a x in let e : k ≡ a.tail = ap (λ (y : Arc). y.tail) t.2 in omega arith
  | inr y ↦ let l = tail_low (k + 1) rest a y in omega arith
]

-- arcs of one line stand in order before arcs of lines behind it
order_line : (k : ℕ) (hs : List ℕ) (rest : List Arc) → StandInOrder rest → ((b : Arc) → IsIn rest b → k ≤ b.tail) → StandInOrder (map (arc_to k) hs ++ rest)
order_line k [] rest s l = s
order_line k (h ∷ hs) rest s l = (low, order_line k hs rest s l)
  where
    low : (b : Arc) → IsIn (map (arc_to k) hs ++ rest) b → k ≤ b.tail
    low b i = elim (IsIn-append_cases (map (arc_to k) hs) rest b i) [
      | inl x ↦ let t = IsIn-from_map (arc_to k) hs b x in let e : k ≡ b.tail = ap (λ (y : Arc). y.tail) t.2 in omega arith
      | inr y ↦ l b y
    ]

pub arcs_in_order : (k : ℕ) (lines : List Instruction) → StandInOrder (arcs_from k lines)
arcs_in_order k [] = tt
arcs_in_order k (i ∷ rest) =
    order_line k (heads_of k i) (arcs_from (k + 1) rest) (arcs_in_order (k + 1) rest) (λ b h. let l = tail_low (k + 1) rest b h in omega arith)

-- the heads of one arc more
pub heads_more : (arcs : List Arc) (i : ℕ) (d : Arc) (k : ℕ) → i < length arcs
    → heads_from (take (i + 1) arcs) k ≡ heads_from (take i arcs) k ++ cond (eqb (get_or arcs i d).tail k) ((get_or arcs i d).head ∷ []) []
heads_more arcs i d k l = rw (take_more arcs i d l) (heads_from-append (take i arcs) (get_or arcs i d ∷ []) k)

pub tails_more : (arcs : List Arc) (i : ℕ) (d : Arc) (k : ℕ) → i < length arcs
    → tails_into (take (i + 1) arcs) k ≡ tails_into (take i arcs) k ++ cond (eqb (get_or arcs i d).head k) ((get_or arcs i d).tail ∷ []) []
tails_more arcs i d k l = rw (take_more arcs i d l) (tails_into-append (take i arcs) (get_or arcs i d ∷ []) k)

-- the rows after an item is added to one of them
pub row_more : (rows : List (List ℕ)) (x item : ℕ) (f g : ℕ → List ℕ) → x < length rows → ((k : ℕ) → row_of rows k ≡ f k)
    → ((k : ℕ) → g k ≡ f k ++ cond (eqb x k) (item ∷ []) []) → (k : ℕ) → row_of (set rows x (row_of rows x ++ item ∷ [])) k ≡ g k
row_more rows x item f g l r m k = elim (eqb_tells k x) [
  | inl same ↦
      rw same.1 (get_or-set_same rows x (row_of rows x ++ item ∷ []) [] l ∙ ap (λ xs. xs ++ item ∷ []) (r x)
      ∙ sym (m x ∙ ap (λ xs. f x ++ xs) (cond_yes (eqb x x) _ _ (eq-eqb x x refl))))
  | inr other ↦
      get_or-set_other rows x k (row_of rows x ++ item ∷ []) [] other.1 ∙ r k ∙ sym (append-nil (f k))
      ∙ sym (m k ∙ ap (λ xs. f k ++ xs) (cond_no (eqb x k) _ _ (ne_eqb x k (λ e. other.1 (sym e)))))
]

-- the arc at a place joins nodes
pub arc_inside : (n : ℕ) (arcs xs : List Arc) (i : ℕ) (d : Arc) → xs ≡ arcs → i < length xs → ((a : Arc) → IsIn arcs a → IsSoundArc n a) → IsSoundArc n (get_or xs i d)
arc_inside n arcs xs i d e l s = s (get_or xs i d) (subst (λ (ys : List Arc). IsIn ys (get_or xs i d)) e (IsIn-get_or xs i d l))

-- the rows of heads after one arc more
pub heads_after : (arcs xs : List Arc) (i : ℕ) (d : Arc) (was rows : List (List ℕ)) → xs ≡ arcs → i < length xs → (get_or xs i d).tail < length was
    → rows ≡ set was (get_or xs i d).tail (row_of was (get_or xs i d).tail ++ (get_or xs i d).head ∷ [])
    → ((k : ℕ) → row_of was k ≡ heads_from (take i arcs) k) → (k : ℕ) → row_of rows k ≡ heads_from (take (i + 1) arcs) k
heads_after arcs xs i d was rows e l w r =
    subst (λ (ys : List Arc). ((k : ℕ) → row_of was k ≡ heads_from (take i ys) k) → (k : ℕ) → row_of rows k ≡ heads_from (take (i + 1) ys) k) e
    (λ h k. ap (λ rs. row_of rs k) r
    ∙ row_more was (get_or xs i d).tail (get_or xs i d).head (heads_from (take i xs)) (heads_from (take (i + 1) xs)) w h (λ j. heads_more xs i d j l) k)

-- the rows of tails after one arc more
pub tails_after : (arcs xs : List Arc) (i : ℕ) (d : Arc) (was rows : List (List ℕ)) → xs ≡ arcs → i < length xs → (get_or xs i d).head < length was
    → rows ≡ set was (get_or xs i d).head (row_of was (get_or xs i d).head ++ (get_or xs i d).tail ∷ [])
    → ((k : ℕ) → row_of was k ≡ tails_into (take i arcs) k) → (k : ℕ) → row_of rows k ≡ tails_into (take (i + 1) arcs) k
tails_after arcs xs i d was rows e l w r =
    subst (λ (ys : List Arc). ((k : ℕ) → row_of was k ≡ tails_into (take i ys) k) → (k : ℕ) → row_of rows k ≡ tails_into (take (i + 1) ys) k) e
    (λ h k. ap (λ rs. row_of rs k) r
    ∙ row_more was (get_or xs i d).head (get_or xs i d).tail (tails_into (take i xs)) (tails_into (take (i + 1) xs)) w h (λ j. tails_more xs i d j l) k)

-- rows of heads name nodes
pub rows_stay_below : (rows xs : List (List ℕ)) (arcs : List Arc) (n : ℕ) → xs ≡ rows → ((k : ℕ) → row_of rows k ≡ heads_from arcs k)
    → ((a : Arc) → IsIn arcs a → IsSoundArc n a) → length rows ≡ n → StayBelow (length xs) xs
rows_stay_below rows xs arcs n e r s l a k i =
    let j : IsIn (heads_from arcs a) k = rw (e, r a) at i in
    let h = (s (arc_to a k) (Joins-from_heads arcs a k j)).head_inside in
    let m = ap length e in
    omega (arith, h, m, l)

-- what a search over the heads finds from line 0, where none is blocked, is what is reached along arcs
pub found_from_start : (rows : List (List ℕ)) (arcs : List Arc) (n : ℕ) → ((a : ℕ) → row_of rows a ≡ heads_from arcs a) → (k : ℕ)
    → IsFound rows (replicate n false) (0 ∷ []) k ↔ Reaches (Joins arcs) 0 k
found_from_start rows arcs n r k = (there, back)
  where
    free : (j : ℕ) → IsUnmarked (replicate n false) j
    free j = none_unmarked n j

    there : IsFound rows (replicate n false) (0 ∷ []) k → Reaches (Joins arcs) 0 k
    there f = elim f.given [
      | inl same ↦ (f.reached.0, walk_along (Follows rows (replicate n false)) (Joins arcs) (λ a b w. Joins-from_heads arcs a b (rw (r a) at w.0)) 0 f.reached.0 k (rw (← same) at f.reached.1))
      | inr none ↦ absurd none
    ]

    back : Reaches (Joins arcs) 0 k → IsFound rows (replicate n false) (0 ∷ []) k
    back w = record { seed = 0; given = inl refl; free = free 0; reached = (w.0, walk_along (Joins arcs) (Follows rows (replicate n false)) (λ a b j. (rw (r a) (heads_from-Joins arcs a b j), free b)) 0 w.0 k w.1) }

-- the same for lists that equal those
pub reached_from_start : (rows xs : List (List ℕ)) (blocked : List Bool) (arcs : List Arc) (n : ℕ) → xs ≡ rows → blocked ≡ replicate n false
    → ((a : ℕ) → row_of rows a ≡ heads_from arcs a) → (k : ℕ) → IsFound xs blocked (0 ∷ []) k ↔ Reaches (Joins arcs) 0 k
reached_from_start rows xs blocked arcs n e b r k = rw (e, b) (found_from_start rows arcs n r k)
