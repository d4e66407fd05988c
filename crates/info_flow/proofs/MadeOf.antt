-- A list that is made of another one, element by element: each stands for the same place as the one that it is made of, and has a property.
use Rattle.std.proofs.Common.{◌≡◌, inl, inr, refl, ap, subst, ◌∙◌, ℕ, ◌+◌, ◌<◌, ◌≤◌, List, [], ◌∷◌, ◌++◌, length, map, take, get_or}
use Rattle.std.proofs.lemmas.List.{map-append, map_more, take_all}
use Rattle.il_core.specs.LineGraph.{IsIn}
use Rattle.flow_graph.proofs.Members.{IsIn-push_cases}

pub record IsMadeOf {X Y : Type 0} (p : X → ℕ) (q : Y → ℕ) (P : Y → Type 0) (xs : List X) (i : ℕ) (ys : List Y) : Type 0 where
  pub places : map q ys ≡ map p (take i xs)
  pub each : (y : Y) → IsIn ys y → P y

pub made_start : {X Y : Type 0} (p : X → ℕ) (q : Y → ℕ) (P : Y → Type 0) (xs : List X) → IsMadeOf p q P xs 0 []
made_start p q P xs = record { places = refl; each = λ y i. absurd i }

pub made_more : {X Y : Type 0} (p : X → ℕ) (q : Y → ℕ) (P : Y → Type 0) (xs : List X) (i : ℕ) (d : X) (ys : List Y) (y : Y) → i < length xs
    → q y ≡ p (get_or xs i d) → P y → IsMadeOf p q P xs i ys → IsMadeOf p q P xs (i + 1) (ys ++ y ∷ [])
made_more p q P xs i d ys y l e h w = record {
  places = rw (map-append, map_more p xs i d l, w.places, e) refl;
  each = λ x j. elim (IsIn-push_cases ys y x j) [ inl old ↦ w.each x old | inr same ↦ subst P same h ];
}

pub made_all : {X Y : Type 0} (p : X → ℕ) (q : Y → ℕ) (P : Y → Type 0) (xs : List X) (i : ℕ) (ys : List Y) → length xs ≤ i → IsMadeOf p q P xs i ys → map q ys ≡ map p xs
made_all p q P xs i ys l w = w.places ∙ ap (map p) (take_all i xs l)
