-- The core of a list of forms grows with the list, and a split of the core implies it.
use Rattle.std.proofs.Common.{◌≡◌, ◌⊎◌, ◌∙◌, inl, inr, refl, sym, ap, ℕ, zero, suc, ◌≤◌, ℤ, Bool, true, false, not, ◌&&◌, cond, List, [], ◌∷◌, ◌++◌, length, take, Some, slice_get, arith}
use Rattle.std.specs.Prelude.{filter, int_lt}
use Rattle.std.specs.Ordering.{int_eq}
use Rattle.std.proofs.lemmas.Int.{ints}
use Rattle.std.proofs.lemmas.List.Elements.{filter-append}
use Rattle.il_core.specs.Evaluation.{State}
use Rattle.il_core.specs.LineGraph.{IsIn}
use Rattle.il_core.specs.declared.line.Place.{Place}
use Rattle.il_core.specs.declared.operator.Relation.TheVariants.{Eq, Ne, Lt, Le, Gt, Ge}
use Rattle.sym_simplify.specs.Form.{form_value}
use Rattle.sym_simplify.specs.Literal.{LiteralForm, always, never, keep, form_holds}
use Rattle.sym_simplify.specs.Easy.{is_easy, is_unequal}
use Rattle.path_inputs.specs.Core.{is_plain, is_disequality, core_disequalities, core, IsLoose, sided, all_sided, split_by}
use Rattle.path_inputs.specs.Least.{Meets, IsPlainlyRefuted, IsLeastInput}
use Rattle.path_inputs.specs.Laws.{AreInCore}
use Rattle.path_inputs.proofs.Members.{in-left, in-right, in-either, in-take, in-take_more, in-take_all, in-filter, from-filter}

both-true : (a b : Bool) → a ≡ true → b ≡ true → (a && b) ≡ true
both-true a b e f = rw (e, f) refl

first-true : (a b : Bool) → (a && b) ≡ true → a ≡ true
first-true true b e = refl
first-true false b e = e

pub second-true : (a b : Bool) → (a && b) ≡ true → b ≡ true
second-true true b e = e
second-true false b e = absurd cc

-- an easy form is plain or a disequality
pub easy-either : (f : LiteralForm) → is_easy f ≡ true → (is_plain f ≡ true) ⊎ (is_disequality f ≡ true)
easy-either f e = by_test (is_unequal f) refl
  where
    by_test : (b : Bool) → is_unequal f ≡ b → (is_plain f ≡ true) ⊎ (is_disequality f ≡ true)
    by_test true h = inr (both-true (is_easy f) (is_unequal f) e h)
    by_test false h = inl (both-true (is_easy f) (not (is_unequal f)) e (ap not h))

-- what is in the core of a list is in that of a longer one
pub core-more : (fs more : List LiteralForm) (f : LiteralForm) → IsIn (core fs) f → IsIn (core (fs ++ more)) f
core-more fs more f h = elim (in-either (filter is_plain fs) (core_disequalities fs) f h) [
  | inl k ↦ in-left (filter is_plain (fs ++ more)) (core_disequalities (fs ++ more)) f
      (rw (filter-append is_plain fs more) (in-left (filter is_plain fs) (filter is_plain more) f k))
  | inr k ↦ in-right (filter is_plain (fs ++ more)) (core_disequalities (fs ++ more)) f
      (rw (filter-append is_disequality fs more) (in-take_more 8 (filter is_disequality fs) (filter is_disequality more) f k))
]

-- inputs of more forms are inputs of fewer
pub fewer-met : (places : List Place) (pc : ℕ) (fs gs : List LiteralForm) (s : State) → ((f : LiteralForm) → IsIn gs f → IsIn fs f) → Meets places pc fs s → Meets places pc gs s
fewer-met places pc fs gs s h m = record { input = m.input; each = λ f k. m.each f (h f k) }

pub refuted-more : (places : List Place) (pc : ℕ) (fs more : List LiteralForm) → IsPlainlyRefuted places pc fs → IsPlainlyRefuted places pc (fs ++ more)
refuted-more places pc fs more (inl h) = inl (λ s m. h s (fewer-met places pc (core (fs ++ more)) (core fs) s (core-more fs more) m))
refuted-more places pc fs more (inr h) =
    inr (h.0, in-left fs more h.0 h.1, h.2, (λ s m e. h.3 s (fewer-met places pc (core (fs ++ more)) (core fs) s (core-more fs more) m) e))

-- a side of a disequality implies it
less-unequal : (a b : ℤ) → int_lt a b ≡ true → not (int_eq a b) ≡ true
less-unequal a b h = grind (arith, ints)

greater-unequal : (a b : ℤ) → int_lt b a ≡ true → not (int_eq a b) ≡ true
greater-unequal a b h = grind (arith, ints)

pub side-holds : (b : Bool) (f : LiteralForm) (s : State) → is_unequal f ≡ true → form_holds (sided b f) s ≡ true → form_holds f s ≡ true
side-holds b always s u h = refl
side-holds b never s u h = absurd cc
side-holds true (keep n Ne k) s u h = less-unequal (form_value n s) k h
side-holds false (keep n Ne k) s u h = greater-unequal (form_value n s) k h
side-holds b (keep n Eq k) s u h = absurd cc
side-holds b (keep n Lt k) s u h = absurd cc
side-holds b (keep n Le k) s u h = absurd cc
side-holds b (keep n Gt k) s u h = absurd cc
side-holds b (keep n Ge k) s u h = absurd cc

-- and one of the sides holds where it does
pub side-of : (f : LiteralForm) (s : State) → is_unequal f ≡ true → form_holds f s ≡ true → (b : Bool) × (form_holds (sided b f) s ≡ true)
side-of always s u h = absurd cc
side-of never s u h = absurd cc
side-of (keep n Ne k) s u h = by_test (int_lt (form_value n s) k) refl
  where
    by_test : (c : Bool) → int_lt (form_value n s) k ≡ c → (b : Bool) × (form_holds (sided b (keep n Ne k)) s ≡ true)
    by_test true e = (true, e)
    by_test false e = (false, other (form_value n s) k h e)
      where
        other : (a c : ℤ) → not (int_eq a c) ≡ true → int_lt a c ≡ false → int_lt c a ≡ true
        other a c h e = grind (arith, ints)
side-of (keep n Eq k) s u h = absurd cc
side-of (keep n Lt k) s u h = absurd cc
side-of (keep n Le k) s u h = absurd cc
side-of (keep n Gt k) s u h = absurd cc
side-of (keep n Ge k) s u h = absurd cc

-- chosen sides of disequalities imply them
sides-hold : (choice : List Bool) (gs : List LiteralForm) (s : State) → length choice ≡ length gs → ((g : LiteralForm) → IsIn (all_sided choice gs) g → form_holds g s ≡ true)
    → (f : LiteralForm) → IsIn gs f → is_unequal f ≡ true → form_holds f s ≡ true
sides-hold [] [] s l h f k u = absurd k
sides-hold [] (g ∷ gs) s l h f k u = absurd (omega arith)
sides-hold (b ∷ bs) [] s l h f k u = absurd k
sides-hold (b ∷ bs) (g ∷ gs) s l h f (inl e) u =
    side-holds b f s u (ap (λ x. form_holds (sided b x) s) (sym e) ∙ h (sided b g) (inl refl))
sides-hold (b ∷ bs) (g ∷ gs) s l h f (inr k) u = sides-hold bs gs s (omega arith) (λ x i. h x (inr i)) f k u

-- where disequalities hold, some choice of sides holds
sides-of : (gs : List LiteralForm) (s : State) → ((g : LiteralForm) → IsIn gs g → is_unequal g ≡ true) → ((g : LiteralForm) → IsIn gs g → form_holds g s ≡ true)
    → (choice : List Bool) × (length choice ≡ length gs) × ((g : LiteralForm) → IsIn (all_sided choice gs) g → form_holds g s ≡ true)
sides-of [] s u h = ([], refl, (λ g k. absurd k))
sides-of (f ∷ gs) s u h =
    let one = side-of f s (u f (inl refl)) (h f (inl refl)) in
    let more = sides-of gs s (λ g k. u g (inr k)) (λ g k. h g (inr k)) in
    (one.0 ∷ more.0, ap suc more.1, (λ g k. elim k [ inl e ↦ ap (λ x. form_holds x s) (sym e) ∙ one.1 | inr i ↦ more.2 g i ]))

module _ (places : List Place) (pc : ℕ) (fs : List LiteralForm) (s : State) where
  unequal-in_core : (f : LiteralForm) → IsIn (core_disequalities fs) f → is_unequal f ≡ true
  unequal-in_core f k = second-true (is_easy f) (is_unequal f) (from-filter is_disequality fs f (in-take 8 (filter is_disequality fs) f k)).1

  -- an input of a split meets the core
  pub split-core : (choice : List Bool) → length choice ≡ length (core_disequalities fs) → Meets places pc (split_by choice fs) s → Meets places pc (core fs) s
  split-core choice l m = record {
    input = m.input;
    each = λ f k. elim (in-either (filter is_plain fs) (core_disequalities fs) f k) [
      | inl i ↦ m.each f (in-left (filter is_plain fs) (all_sided choice (core_disequalities fs)) f i)
      | inr i ↦ sides-hold choice (core_disequalities fs) s l (λ g j. m.each g (in-right (filter is_plain fs) (all_sided choice (core_disequalities fs)) g j)) f i (unequal-in_core f i)
    ];
  }

  -- an input of the core meets one of its splits
  pub core-split : Meets places pc (core fs) s → (choice : List Bool) × (length choice ≡ length (core_disequalities fs)) × Meets places pc (split_by choice fs) s
  core-split m =
      let some = sides-of (core_disequalities fs) s unequal-in_core (λ g k. m.each g (in-right (filter is_plain fs) (core_disequalities fs) g k)) in (
        some.0,
        some.1,
        record {
          input = m.input;
          each = λ f k. elim (in-either (filter is_plain fs) (all_sided some.0 (core_disequalities fs)) f k) [
            | inl i ↦ m.each f (in-left (filter is_plain fs) (core_disequalities fs) f i)
            | inr i ↦ some.2 f i
          ];
        },
      )

  all-in_core : AreInCore fs → (f : LiteralForm) → IsIn fs f → IsIn (core fs) f
  all-in_core c f k = elim (easy-either f (c.easy f k)) [
    | inl p ↦ in-left (filter is_plain fs) (core_disequalities fs) f (in-filter is_plain fs f k p)
    | inr d ↦ in-right (filter is_plain fs) (core_disequalities fs) f (in-take_all 8 (filter is_disequality fs) f c.few (in-filter is_disequality fs f k d))
  ]

  pub least-meets : AreInCore fs → IsLeastInput places pc fs s → Meets places pc fs s
  least-meets c h = fewer-met places pc (core fs) fs s (all-in_core c) (split-core h.choice h.chosen h.met)

-- each form is easy and at most k are disequalities, or one is hard or a disequality with k before it
abbrev AllOrLoose : ℕ → List LiteralForm → Type 0
AllOrLoose k fs =
    (((f : LiteralForm) → IsIn fs f → is_easy f ≡ true) × (length (filter is_disequality fs) ≤ k))
    ⊎ ((i : ℕ) × (f : LiteralForm) × (slice_get fs i ≡ Some f) × ((is_easy f ≡ false) ⊎ ((is_disequality f ≡ true) × (k ≤ length (filter is_disequality (take i fs))))))

counted : (g : LiteralForm) (fs : List LiteralForm) (b : Bool) → is_disequality g ≡ b
    → length (filter is_disequality (g ∷ fs)) ≡ length (cond b (g ∷ filter is_disequality fs) (filter is_disequality fs))
counted g fs b e = ap (λ c. length (cond c (g ∷ filter is_disequality fs) (filter is_disequality fs))) e

easy-more : (g : LiteralForm) (fs : List LiteralForm) → is_easy g ≡ true → ((f : LiteralForm) → IsIn fs f → is_easy f ≡ true) → (f : LiteralForm) → IsIn (g ∷ fs) f → is_easy f ≡ true
easy-more g fs e h f (inl k) = ap is_easy (sym k) ∙ e
easy-more g fs e h f (inr k) = h f k

after-plain : (k : ℕ) (g : LiteralForm) (fs : List LiteralForm) → is_easy g ≡ true → is_disequality g ≡ false → AllOrLoose k fs → AllOrLoose k (g ∷ fs)
after-plain k g fs e d (inl h) = inl (easy-more g fs e h.0, (let c = counted g fs false d in let l = h.1 in omega arith))
after-plain k g fs e d (inr h) = inr (suc h.0, h.1, h.2, later h.3)
  where
    later : ((is_easy h.1 ≡ false) ⊎ ((is_disequality h.1 ≡ true) × (k ≤ length (filter is_disequality (take h.0 fs)))))
        → (is_easy h.1 ≡ false) ⊎ ((is_disequality h.1 ≡ true) × (k ≤ length (filter is_disequality (g ∷ take h.0 fs))))
    later (inl n) = inl n
    later (inr u) = inr (u.0, (let c = counted g (take h.0 fs) false d in let l = u.1 in omega arith))

after-unequal : (k : ℕ) (g : LiteralForm) (fs : List LiteralForm) → is_easy g ≡ true → is_disequality g ≡ true → AllOrLoose k fs → AllOrLoose (suc k) (g ∷ fs)
after-unequal k g fs e d (inl h) = inl (easy-more g fs e h.0, (let c = counted g fs true d in let l = h.1 in omega arith))
after-unequal k g fs e d (inr h) = inr (suc h.0, h.1, h.2, later h.3)
  where
    later : ((is_easy h.1 ≡ false) ⊎ ((is_disequality h.1 ≡ true) × (k ≤ length (filter is_disequality (take h.0 fs)))))
        → (is_easy h.1 ≡ false) ⊎ ((is_disequality h.1 ≡ true) × (suc k ≤ length (filter is_disequality (g ∷ take h.0 fs))))
    later (inl n) = inl n
    later (inr u) = inr (u.0, (let c = counted g (take h.0 fs) true d in let l = u.1 in omega arith))

-- hard, plain or a disequality
three-kinds : (g : LiteralForm) → (is_easy g ≡ false) ⊎ (((is_easy g ≡ true) × (is_disequality g ≡ false)) ⊎ ((is_easy g ≡ true) × (is_disequality g ≡ true)))
three-kinds g = by_test (is_easy g) refl (is_unequal g) refl
  where
    by_test : (a : Bool) → is_easy g ≡ a → (b : Bool) → is_unequal g ≡ b
        → (is_easy g ≡ false) ⊎ (((is_easy g ≡ true) × (is_disequality g ≡ false)) ⊎ ((is_easy g ≡ true) × (is_disequality g ≡ true)))
    by_test false e b h = inl e
    by_test true e true h = inr (inr (e, both-true (is_easy g) (is_unequal g) e h))
    by_test true e false h = inr (inl (e, ap (λ c. c && is_unequal g) e ∙ h))

all-or_loose : (k : ℕ) (fs : List LiteralForm) → AllOrLoose k fs
all-or_loose k [] = inl ((λ f h. absurd h), omega arith)
all-or_loose zero (g ∷ fs) = elim (three-kinds g) [
  | inl n ↦ inr (0, g, refl, inl n)
  | inr c ↦ elim c [ inl p ↦ after-plain zero g fs p.0 p.1 (all-or_loose zero fs) | inr u ↦ inr (0, g, refl, inr (u.1, omega arith)) ]
]
all-or_loose (suc k) (g ∷ fs) = elim (three-kinds g) [
  | inl n ↦ inr (0, g, refl, inl n)
  | inr c ↦ elim c [ inl p ↦ after-plain (suc k) g fs p.0 p.1 (all-or_loose (suc k) fs) | inr u ↦ after-unequal k g fs u.0 u.1 (all-or_loose k fs) ]
]

pub unmet-loose : (places : List Place) (pc : ℕ) (fs : List LiteralForm) (s : State) → IsLeastInput places pc fs s → (Meets places pc fs s → ⊥) → (i : ℕ) × IsLoose fs i
unmet-loose places pc fs s h n = elim (all-or_loose 8 fs) [
  | inl c ↦ absurd (n (least-meets places pc fs s (record { easy = c.0; few = c.1 }) h))
  | inr l ↦ (l.0, (l.1, l.2, l.3))
]
