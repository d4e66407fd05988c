-- A finite set in which each line has a line before it holds a cycle.
use Rattle.std.proofs.Common.{◌≡◌, ◌≢◌, ◌⊎◌, inl, inr, refl, sym, ◌∙◌, ℕ, zero, suc, ◌+◌, ◌<◌, ◌≤◌, List, [], ◌∷◌, length, arith}
use Rattle.il_core.specs.LineGraph.{IsIn}
use Rattle.flow_graph.specs.Search.{IsWalk, row_of}
use Rattle.flow_graph.specs.Reached.{Differ}
use Rattle.control_flow.proofs.Walks.{in_or}

-- a list without one of its members
record Without (xs : List ℕ) (x : ℕ) : Type 0 where
  others : List ℕ
  shorter : length others + 1 ≡ length xs
  kept : (v : ℕ) → IsIn xs v → v ≢ x → IsIn others v

taken_out : (xs : List ℕ) (x : ℕ) → IsIn xs x → Without xs x
taken_out [] x i = absurd i
taken_out (y ∷ xs) x (inl e) = record {
  others = xs;
  shorter = omega arith;
  kept = λ v i n. elim i [ inl s ↦ absurd (n (sym s ∙ e)) | inr j ↦ j ];
}
taken_out (y ∷ xs) x (inr i) =
    let t = taken_out xs x i in
    let s = t.shorter in
    record {
      others = y ∷ t.others;
      shorter = omega (arith, s);
      kept = λ v j n. elim j [ inl e ↦ inl e | inr k ↦ inr (t.kept v k n) ];
    }

-- different members of a list are no more than it has
differ_length : (xs ys : List ℕ) → Differ xs → ((v : ℕ) → IsIn xs v → IsIn ys v) → length xs ≤ length ys
differ_length [] ys d i = omega arith
differ_length (x ∷ xs) ys d i =
    let t = taken_out ys x (i x (inl refl)) in
    let l = differ_length xs t.others d.1 (λ v j. t.kept v (i v (inr j)) (λ e. d.0 (rw e at j))) in
    let s = t.shorter in
    omega (arith, l, s)

-- a closed walk of at least one arc
pub record Closed (E : ℕ → ℕ → Type 0) : Type 0 where
  pub a : ℕ
  pub b : ℕ
  pub lines : List ℕ
  pub walk : IsWalk E a (b ∷ lines) a

-- a walk of at least one arc
record Way (E : ℕ → ℕ → Type 0) (a c : ℕ) : Type 0 where
  b : ℕ
  lines : List ℕ
  walk : IsWalk E a (b ∷ lines) c

go_back : (E : ℕ → ℕ → Type 0) (set : List ℕ) → ((m : ℕ) → IsIn set m → (c : ℕ) × IsIn set c × E c m) → (fuel t : ℕ) (seen : List ℕ) → IsIn set t → Differ seen
    → ((v : ℕ) → IsIn seen v → IsIn set v) → ((v : ℕ) → IsIn seen v → Way E t v) → length set < fuel + length seen → Closed E
go_back E set p zero t seen i d s w l = let h = differ_length seen set d s in absurd (omega (arith, h, l))
go_back E set p (suc fuel) t seen i d s w l = elim (in_or seen t) [
  | inl met ↦ let c = w t met in record { a = t; b = c.b; lines = c.lines; walk = c.walk }
  | inr new ↦
      let c = p t i in
      go_back E set p fuel c.0 (t ∷ seen) c.1 (new, d) (λ v j. elim j [ inl e ↦ rw e at i | inr k ↦ s v k ]) (λ v j. further c.0 c.2 v j) (omega (arith, l))
]
  where
    further : (c : ℕ) → E c t → (v : ℕ) → IsIn (t ∷ seen) v → Way E c v
    further c e v (inl same) = record { b = t; lines = []; walk = (e, same) }
    further c e v (inr j) = let x = w v j in record { b = t; lines = x.b ∷ x.lines; walk = (e, x.walk) }

pub closing : (E : ℕ → ℕ → Type 0) (set : List ℕ) → ((m : ℕ) → IsIn set m → (c : ℕ) × IsIn set c × E c m) → (t : ℕ) → IsIn set t → Closed E
closing E set p t i = go_back E set p (length set + 1) t [] i tt (λ v j. absurd j) (λ v j. absurd j) (omega arith)

-- some member of a list has a line in its row or none has
one_or : (rows : List (List ℕ)) (set : List ℕ) (m : ℕ) → ((c : ℕ) × IsIn set c × IsIn (row_of rows c) m) ⊎ ((c : ℕ) → IsIn set c → IsIn (row_of rows c) m → ⊥)
one_or rows [] m = inr (λ c i j. i)
one_or rows (x ∷ set) m = elim (in_or (row_of rows x) m) [
  | inl i ↦ inl (x, inl refl, i)
  | inr n ↦ elim (one_or rows set m) [
    | inl t ↦ inl (t.0, inr t.1, t.2)
    | inr k ↦ inr (λ c i j. elim i [ inl e ↦ n (rw (← e) at j) | inr h ↦ k c h j ])
  ]
]

-- a first member, which no row of a member has, or a row for each
pub first_or : (rows : List (List ℕ)) (set some : List ℕ)
    → ((m : ℕ) × IsIn some m × ((c : ℕ) → IsIn set c → IsIn (row_of rows c) m → ⊥)) ⊎ ((m : ℕ) → IsIn some m → (c : ℕ) × IsIn set c × IsIn (row_of rows c) m)
first_or rows set [] = inr (λ m i. absurd i)
first_or rows set (x ∷ some) = elim (one_or rows set x) [
  | inr n ↦ inl (x, inl refl, n)
  | inl t ↦ elim (first_or rows set some) [
    | inl m ↦ inl (m.0, inr m.1, m.2)
    | inr p ↦ inr (λ m i. by_case t p m i)
  ]
]
  where
    by_case : (c : ℕ) × IsIn set c × IsIn (row_of rows c) x → ((m : ℕ) → IsIn some m → (c : ℕ) × IsIn set c × IsIn (row_of rows c) m)
        → (m : ℕ) → IsIn (x ∷ some) m → (c : ℕ) × IsIn set c × IsIn (row_of rows c) m
    by_case t p m (inl e) = (t.0, t.1, rw e at t.2)
    by_case t p m (inr i) = p m i
