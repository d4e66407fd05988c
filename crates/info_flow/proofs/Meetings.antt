-- Where no line outside a set has two paths into it that share that line alone, all walks from a line meet the set first at one line.
use Rattle.std.proofs.Common.{◌≡◌, ◌⊎◌, inl, inr, refl, sym, ◌∙◌, ℕ, List, [], ◌∷◌}
use Rattle.std.proofs.lemmas.Bool.Decides.{eqb_tells}
use Rattle.il_core.specs.LineGraph.{IsIn}
use Rattle.flow_graph.specs.Search.{IsWalk}
use Rattle.flow_graph.specs.Meeting.{Meets}
use Rattle.disjoint_paths.specs.Pair.{LeadsTo, HasPair}

-- a line stands on a list or not
pub is_in_or_not : (xs : List ℕ) (a : ℕ) → IsIn xs a ⊎ (IsIn xs a → ⊥)
is_in_or_not [] a = inr (λ i. i)
is_in_or_not (x ∷ xs) a = elim (eqb_tells x a) [
  | inl same ↦ inl (inl same.1)
  | inr other ↦ elim (is_in_or_not xs a) [
    | inl i ↦ inl (inr i)
    | inr n ↦ inr (λ i. elim i [ inl e ↦ other.1 e | inr j ↦ n j ])
  ]
]

module _ (E : ℕ → ℕ → Type 0) (P : ℕ → Type 0) where
  -- a walk that meets the set is a walk to a line of it
  walk_of_meeting : (a : ℕ) (lines : List ℕ) (x : ℕ) → Meets E P a lines x → IsWalk E a lines x × P x
  walk_of_meeting a [] x m = (m.0, rw m.0 at m.1)
  walk_of_meeting a (b ∷ rest) x m = let t = walk_of_meeting b rest x m.2 in ((m.1, t.0), t.1)

  -- a line of the set on such a walk is its last
  meeting_is_last : (s : ℕ) (lines : List ℕ) (y a : ℕ) → Meets E P s lines y → IsIn (s ∷ lines) a → P a → a ≡ y
  meeting_is_last s [] y a m (inl e) h = sym e ∙ m.0
  meeting_is_last s [] y a m (inr i) h = absurd i
  meeting_is_last s (b ∷ rest) y a m (inl e) h = absurd (m.0 (rw (← e) at h))
  meeting_is_last s (b ∷ rest) y a m (inr i) h = meeting_is_last b rest y a m.2 i h

  -- the rest of such a walk from a line on it
  rest_of_meeting : (s : ℕ) (lines : List ℕ) (y a : ℕ) → Meets E P s lines y → IsIn (s ∷ lines) a
      → (rest : List ℕ) × Meets E P a rest y × ((v : ℕ) → IsIn rest v → IsIn lines v)
  rest_of_meeting s lines y a m (inl e) = (lines, rw e at m, λ v i. i)
  rest_of_meeting s [] y a m (inr i) = absurd i
  rest_of_meeting s (b ∷ rest) y a m (inr i) =
      let t = rest_of_meeting b rest y a m.2 i in
      (t.0, t.1, λ v j. inr (t.2 v j))

  -- a walk of at least one arc, where the start is outside
  leads_of_meeting : (a : ℕ) (lines : List ℕ) (x : ℕ) → Meets E P a lines x → (P a → ⊥) → LeadsTo E P a lines
  leads_of_meeting a [] x m n = n m.1
  leads_of_meeting a (b ∷ rest) x m n = let t = walk_of_meeting b rest x m.2 in (x, (m.1, t.0), t.1)

  -- a walk that meets the set shares no line with another such walk, or both meet it at one line
  apart_or_same : ((t : ℕ) → (P t → ⊥) → HasPair E P t → ⊥) → (s : ℕ) (other : List ℕ) (y : ℕ) → Meets E P s other y
      → (a : ℕ) (lines : List ℕ) (x : ℕ) → Meets E P a lines x → ((v : ℕ) → IsIn (a ∷ lines) v → IsIn (s ∷ other) v → ⊥) ⊎ (x ≡ y)
  apart_or_same none s other y m a [] x w = elim (is_in_or_not (s ∷ other) a) [
    | inl i ↦ inr (sym w.0 ∙ meeting_is_last s other y a m i w.1)
    | inr n ↦ inl (λ v i j. elim i [ inl e ↦ n (rw (← e) at j) | inr k ↦ absurd k ])
  ]
  apart_or_same none s other y m a (b ∷ lines) x w = elim (apart_or_same none s other y m b lines x w.2) [
    | inr e ↦ inr e
    | inl apart ↦ elim (is_in_or_not (s ∷ other) a) [
      | inr n ↦ inl (λ v i j. elim i [ inl e ↦ n (rw (← e) at j) | inr k ↦ apart v k j ])
      | inl i ↦
          let t = rest_of_meeting s other y a m i in
          absurd (none a w.0 (
            b ∷ lines,
            t.0,
            record {
              left_leads = leads_of_meeting a (b ∷ lines) x w w.0;
              right_leads = leads_of_meeting a t.0 y t.1 w.0;
              apart = λ v k j. absurd (apart v k (inr (t.2 v j)));
            },
          ))
    ]
  ]

  -- all walks from one line meet the set first at one line
  pub one_meeting : ((t : ℕ) → (P t → ⊥) → HasPair E P t → ⊥) → (a : ℕ) (left right : List ℕ) (x y : ℕ) → Meets E P a left x → Meets E P a right y → x ≡ y
  one_meeting none a left right x y m w = elim (apart_or_same none a right y w a left x m) [
    | inl apart ↦ absurd (apart a (inl refl) (inl refl))
    | inr e ↦ e
  ]
