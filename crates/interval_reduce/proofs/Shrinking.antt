-- The next level has fewer nodes, unless this one is the last.
use Rattle.std.proofs.Common.{◌≡◌, ◌≢◌, ◌⊎◌, inl, inr, refl, sym, ◌∙◌, ℕ, zero, suc, ◌+◌, ◌<◌, ◌≤◌, List, [], ◌∷◌, ◌++◌, length, get_or, arith}
use Rattle.std.proofs.lemmas.List.{length-append}
use Rattle.std.proofs.lemmas.Bool.Decides.{eqb_tells}
use Rattle.il_core.specs.LineGraph.{IsIn}
use Rattle.flow_graph.specs.Reached.{Differ}
use Rattle.interval_reduce.specs.declared.interval.Interval.{Interval}
use Rattle.interval_reduce.specs.Interval.{IsIntervalOf}
use Rattle.interval_reduce.specs.Level.{GoesOn, IsLevel, AreSingle, IsLastLevel}
use Rattle.interval_reduce.specs.Growth.{members_of}

-- a list where one member is left out
abbrev without : (xs : List ℕ) (x : ℕ) → IsIn xs x → List ℕ
without [] x h = []
without (y ∷ xs) x (inl e) = xs
without (y ∷ xs) x (inr h) = y ∷ without xs x h

length-without : (xs : List ℕ) (x : ℕ) (h : IsIn xs x) → length (without xs x h) + 1 ≡ length xs
length-without [] x h = absurd h
length-without (y ∷ xs) x (inl e) = omega arith
length-without (y ∷ xs) x (inr h) = let l = length-without xs x h in omega arith

IsIn-without : (xs : List ℕ) (x : ℕ) (h : IsIn xs x) (v : ℕ) → IsIn xs v → (v ≢ x) → IsIn (without xs x h) v
IsIn-without [] x h v i n = absurd h
IsIn-without (y ∷ xs) x (inl e) v (inl f) n = absurd (n (sym f ∙ e))
IsIn-without (y ∷ xs) x (inl e) v (inr i) n = i
IsIn-without (y ∷ xs) x (inr h) v (inl f) n = inl f
IsIn-without (y ∷ xs) x (inr h) v (inr i) n = inr (IsIn-without xs x h v i n)

-- where no member stands twice, a list that has them all is no shorter
pub length-le_from_members : (xs ys : List ℕ) → Differ xs → ((v : ℕ) → IsIn xs v → IsIn ys v) → length xs ≤ length ys
length-le_from_members [] ys d h = omega arith
length-le_from_members (x ∷ xs) ys d h =
    let i = h x (inl refl) in
    let l = length-without ys x i in
    let r = length-le_from_members xs (without ys x i) d.1 (λ v j. IsIn-without ys x i v (h v (inr j)) (λ e. d.0 (rw e at j))) in
    omega (arith, l, r)

-- single intervals in front of single ones
single_cons : (i : Interval) (rest : List Interval) → length i.members ≡ 1 → AreSingle rest → AreSingle (i ∷ rest)
single_cons i rest l s = λ j h. elim h [ inl e ↦ rw (← e) l | inr k ↦ s j k ]

-- an interval has its head at least
interval_length : (N : ℕ → Type 0) (E : ℕ → ℕ → Type 0) (earlier : List ℕ) (head : ℕ) (members : List ℕ) → IsIntervalOf N E earlier head members → 0 < length members
interval_length N E earlier head members h = rw h.1 (omega arith)

-- there are at least as many nodes as intervals, and more unless all are single
abbrev IsCounted : List Interval → Type 0
IsCounted level = (length level ≤ length (members_of level)) × (AreSingle level ⊎ (length level < length (members_of level)))

counted_cons : (i : Interval) (rest : List Interval) → 0 < length i.members → IsCounted rest → IsCounted (i ∷ rest)
counted_cons i rest l c = (
  omega (arith, length-append i.members (members_of rest), c.0),
  elim c.1 [
    | inr less ↦ inr (omega (arith, length-append i.members (members_of rest), less))
    | inl single ↦ elim (eqb_tells (length i.members) 1) [
      | inl one ↦ inl (single_cons i rest one.1 single)
      | inr more ↦ let m = more.1 in inr (omega (arith, length-append i.members (members_of rest), c.0))
    ]
  ],
)

counted : (N : ℕ → Type 0) (E : ℕ → ℕ → Type 0) (earlier : List ℕ) (level : List Interval) → GoesOn N E earlier level → IsCounted level
counted N E earlier [] g = (omega arith, inl (λ i h. absurd h))
counted N E earlier (i ∷ rest) g = counted_cons i rest (interval_length N E earlier i.head i.members g.1) (counted N E (earlier ++ i.members) rest g.2)

level_counted : (N : ℕ → Type 0) (E : ℕ → ℕ → Type 0) (level : List Interval) → IsLevel N E level → IsCounted level
level_counted N E [] h = absurd h
level_counted N E (i ∷ rest) h = counted_cons i rest (interval_length N E [] 0 i.members h.1) (counted N E i.members rest h.2)

pub more_members : (N : ℕ → Type 0) (E : ℕ → ℕ → Type 0) (level : List Interval) → IsLevel N E level → (IsLastLevel level → ⊥) → length level < length (members_of level)
more_members N E level h last = elim (level_counted N E level h).1 [ inl single ↦ absurd (last (inr single)) | inr less ↦ less ]

-- intervals up to one more
pub single_push : (level : List Interval) (i : Interval) → AreSingle level → length i.members ≡ 1 → AreSingle (level ++ i ∷ [])
single_push [] i s l = single_cons i [] l s
single_push (j ∷ level) i s l = single_cons j (level ++ i ∷ []) (s j (inl refl)) (single_push level i (λ k h. s k (inr h)) l)

pub single_at : (level : List Interval) (k : ℕ) (d : Interval) → k < length level → AreSingle level → length (get_or level k d).members ≡ 1
single_at [] k d l s = absurd (omega arith)
single_at (i ∷ level) zero d l s = s i (inl refl)
single_at (i ∷ level) (suc k) d l s = single_at level k d (omega arith) (λ j h. s j (inr h))
