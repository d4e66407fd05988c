-- Walks: joined, cut at a line, turned round, along arcs that are free, and where they first meet a set.
use Rattle.std.proofs.Common.{◌≡◌, ◌⊎◌, inl, inr, refl, sym, ◌∙◌, ℕ, List, [], ◌∷◌, ◌++◌}
use Rattle.std.proofs.lemmas.Bool.{cases_eq}
use Rattle.il_core.specs.LineGraph.{IsIn}
use Rattle.flow_graph.specs.Search.{IsWalk}
use Rattle.flow_graph.specs.Meeting.{Meets}
use Rattle.flow_graph.proofs.Members.{IsIn-append_cases, IsIn-push_cases}
use Rattle.flow_graph.proofs.Spreading.{walk_on}

-- a number is in a list or not
pub in_or : (xs : List ℕ) (x : ℕ) → IsIn xs x ⊎ (IsIn xs x → ⊥)
in_or [] x = inr (λ h. h)
in_or (y ∷ xs) x = elim (cases_eq y x) [
  | inl same ↦ inl (inl same)
  | inr other ↦ elim (in_or xs x) [
    | inl i ↦ inl (inr i)
    | inr n ↦ inr (λ h. elim h [ inl e ↦ other e | inr i ↦ n i ])
  ]
]

-- the end of a walk is one of its lines
pub walk_end : (E : ℕ → ℕ → Type 0) (a : ℕ) (lines : List ℕ) (b : ℕ) → IsWalk E a lines b → IsIn (a ∷ lines) b
walk_end E a [] b w = inl w
walk_end E a (c ∷ rest) b w = inr (walk_end E c rest b w.1)

-- two walks, one behind the other
pub walk_join : (E : ℕ → ℕ → Type 0) (a : ℕ) (xs : List ℕ) (b : ℕ) (ys : List ℕ) (c : ℕ) → IsWalk E a xs b → IsWalk E b ys c → IsWalk E a (xs ++ ys) c
walk_join E a [] b ys c v w = rw v w
walk_join E a (d ∷ rest) b ys c v w = (v.0, walk_join E d rest b ys c v.1 w)

-- a walk is cut at one of its lines
pub record Cut (E : ℕ → ℕ → Type 0) (a : ℕ) (lines : List ℕ) (b m : ℕ) : Type 0 where
  pub front : List ℕ
  pub back : List ℕ
  pub to : IsWalk E a front m
  pub on : IsWalk E m back b
  pub early : (j : ℕ) → IsIn (a ∷ front) j → IsIn (a ∷ lines) j
  pub late : (j : ℕ) → IsIn (m ∷ back) j → IsIn (a ∷ lines) j

pub walk_cut : (E : ℕ → ℕ → Type 0) (a : ℕ) (lines : List ℕ) (b m : ℕ) → IsWalk E a lines b → IsIn (a ∷ lines) m → Cut E a lines b m
walk_cut E a lines b m w (inl e) = rw (← e) (record {
  front = [];
  back = lines;
  to = refl;
  on = w;
  early = λ j h. elim h [ inl s ↦ inl s | inr n ↦ absurd n ];
  late = λ j h. h;
})
walk_cut E a [] b m w (inr i) = absurd i
walk_cut E a (c ∷ rest) b m w (inr i) =
    let k = walk_cut E c rest b m w.1 i in
    record {
      front = c ∷ k.front;
      back = k.back;
      to = (w.0, k.to);
      on = k.on;
      early = λ j h. elim h [ inl s ↦ inl s | inr n ↦ inr (k.early j n) ];
      late = λ j h. inr (k.late j h);
    }

-- a walk turned round, along arcs that are the same turned round
pub walk_turn : (E F : ℕ → ℕ → Type 0) → ((a b : ℕ) → E a b → F b a) → (a : ℕ) (lines : List ℕ) (b : ℕ) → IsWalk E a lines b
    → (back : List ℕ) × IsWalk F b back a × ((j : ℕ) → IsIn (b ∷ back) j → IsIn (a ∷ lines) j)
walk_turn E F f a [] b w = ([], sym w, λ j h. elim h [ inl s ↦ inl (w ∙ s) | inr n ↦ absurd n ])
walk_turn E F f a (c ∷ rest) b w =
    let t = walk_turn E F f c rest b w.1 in
    (t.0 ++ a ∷ [], walk_on F b t.0 c a t.1 (f a c w.0), λ j h. turned t.0 t.2 j h)
  where
    turned : (back : List ℕ) → ((j : ℕ) → IsIn (b ∷ back) j → IsIn (c ∷ rest) j) → (j : ℕ) → IsIn (b ∷ (back ++ a ∷ [])) j → IsIn (a ∷ c ∷ rest) j
    turned back g j (inl s) = inr (g j (inl s))
    turned back g j (inr h) = elim (IsIn-push_cases back a j h) [ inl i ↦ inr (g j (inr i)) | inr e ↦ inl e ]

-- where a walk comes to a set it meets it first at some line
pub first_meeting : (E : ℕ → ℕ → Type 0) (set : List ℕ) (a : ℕ) (lines : List ℕ) (c : ℕ) → IsWalk E a lines c → IsIn set c
    → (y : ℕ) × (front : List ℕ) × Meets E (IsIn set) a front y × ((j : ℕ) → IsIn (a ∷ front) j → IsIn (a ∷ lines) j)
first_meeting E set a [] c w i = (a, [], (refl, rw w i), λ j h. h)
first_meeting E set a (d ∷ rest) c w i = elim (in_or set a) [
  | inl here ↦ (a, [], (refl, here), λ j h. elim h [ inl s ↦ inl s | inr n ↦ absurd n ])
  | inr not_here ↦
      let t = first_meeting E set d rest c w.1 i in
      (t.0, d ∷ t.1, (not_here, w.0, t.2), λ j h. elim h [ inl s ↦ inl s | inr n ↦ inr (t.3 j n) ])
]

-- the line that is met is in the set, and no other line of the walk is
pub met_inside : (E : ℕ → ℕ → Type 0) (P : ℕ → Type 0) (a : ℕ) (lines : List ℕ) (x : ℕ) → Meets E P a lines x → P x
met_inside E P a [] x m = rw m.0 at m.1
met_inside E P a (b ∷ rest) x m = met_inside E P b rest x m.2

pub met_walk : (E : ℕ → ℕ → Type 0) (P : ℕ → Type 0) (a : ℕ) (lines : List ℕ) (x : ℕ) → Meets E P a lines x → IsWalk E a lines x
met_walk E P a [] x m = m.0
met_walk E P a (b ∷ rest) x m = (m.1, met_walk E P b rest x m.2)

pub met_only : (E : ℕ → ℕ → Type 0) (P : ℕ → Type 0) (a : ℕ) (lines : List ℕ) (x m : ℕ) → Meets E P a lines x → IsIn (a ∷ lines) m → P m → m ≡ x
met_only E P a [] x m t i p = elim i [ inl e ↦ sym e ∙ t.0 | inr n ↦ absurd n ]
met_only E P a (b ∷ rest) x m t i p = elim i [ inl e ↦ absurd (t.0 (rw e p)) | inr j ↦ met_only E P b rest x m t.2 j p ]

-- the arc by which a walk comes to a line
pub arc_before : (E : ℕ → ℕ → Type 0) (a : ℕ) (lines : List ℕ) (b m : ℕ) → IsWalk E a lines b → IsIn lines m → (u : ℕ) × E u m × IsIn (a ∷ lines) u
arc_before E a [] b m w i = absurd i
arc_before E a (c ∷ rest) b m w (inl e) = (a, rw e at w.0, inl refl)
arc_before E a (c ∷ rest) b m w (inr i) = let t = arc_before E c rest b m w.1 i in (t.0, t.1, inr t.2)

-- each line of a closed walk is left and entered along it
pub arc_into : (E : ℕ → ℕ → Type 0) (a b : ℕ) (lines : List ℕ) (m : ℕ) → IsWalk E a (b ∷ lines) a → IsIn (a ∷ b ∷ lines) m → (u : ℕ) × E u m × IsIn (a ∷ b ∷ lines) u
arc_into E a b lines m w (inl e) = arc_before E a (b ∷ lines) a m w (rw e at (walk_end E b lines a w.1))
arc_into E a b lines m w (inr i) = arc_before E a (b ∷ lines) a m w i

-- along a closed walk each of its lines comes to each other
pub around : (E : ℕ → ℕ → Type 0) (a : ℕ) (lines : List ℕ) (c m : ℕ) → IsWalk E a lines a → IsIn (a ∷ lines) c → IsIn (a ∷ lines) m
    → (way : List ℕ) × IsWalk E c way m × ((j : ℕ) → IsIn (c ∷ way) j → IsIn (a ∷ lines) j)
around E a lines c m w i k =
    let s = walk_cut E a lines a c w i in
    let t = walk_cut E a lines a m w k in
    (s.back ++ t.front, walk_join E c s.back a t.front m s.on t.to, inside s t)
  where
    inside : (s : Cut E a lines a c) (t : Cut E a lines a m) → (j : ℕ) → IsIn (c ∷ (s.back ++ t.front)) j → IsIn (a ∷ lines) j
    inside s t j (inl e) = s.late j (inl e)
    inside s t j (inr h) = elim (IsIn-append_cases s.back t.front j h) [ inl p ↦ s.late j (inr p) | inr p ↦ t.early j (inr p) ]
