-- The words of a value, by the step that makes it, and as steps are added.
use Rattle.std.proofs.Common.{◌≡◌, refl, sym, ap, subst, ℕ, zero, suc, ◌+◌, ◌-◌, ◌<◌, ◌≤◌, ◌⊎◌, ◌↔◌, inl, inr, Some, List, [], ◌∷◌, ◌++◌, length, slice_get, arith}
use Rattle.std.proofs.lemmas.Bool.{cases_lt}
use Rattle.regular_algebra.specs.Words.{IsStep, Word, of_arc, of_left, of_right, of_both, of_none, of_more, NamesLower, EachNamesLower}
use Rattle.regular_algebra.specs.declared.steps.Step.{Step}
use Rattle.regular_algebra.specs.declared.steps.Step.TheVariants.{Plus, Times, Star}
use Rattle.regular_algebra.proofs.Ways.{Many, none, some, Pair, many-grow}

-- an element stays as a list grows
get-more : {A : Type 0} (xs ys : List A) (k : ℕ) (x : A) → slice_get xs k ≡ Some x → slice_get (xs ++ ys) k ≡ Some x
get-more [] ys k x h = absurd (cc)
get-more (z ∷ zs) ys zero x h = h
get-more (z ∷ zs) ys (suc k) x h = get-more zs ys k x h

-- an element of the front of a grown list
pub get-less : {A : Type 0} (xs ys : List A) (k : ℕ) (x : A) → k < length xs → slice_get (xs ++ ys) k ≡ Some x → slice_get xs k ≡ Some x
get-less [] ys k x l h = absurd (omega arith)
get-less (z ∷ zs) ys zero x l h = h
get-less (z ∷ zs) ys (suc k) x l h = get-less zs ys k x (omega arith) h

-- the last element
get-last : {A : Type 0} (xs : List A) (y : A) → slice_get (xs ++ y ∷ []) (length xs) ≡ Some y
get-last [] y = refl
get-last (x ∷ xs) y = get-last xs y

pub get-last_same : {A : Type 0} (xs : List A) (y : A) (k : ℕ) (x : A) → length xs ≤ k → slice_get (xs ++ y ∷ []) k ≡ Some x → (k ≡ length xs) × (y ≡ x)
get-last_same [] y zero x l h = (refl, cc)
get-last_same [] y (suc k) x l h = absurd (cc)
get-last_same (z ∷ zs) y zero x l h = absurd (omega arith)
get-last_same (z ∷ zs) y (suc k) x l h =
    let r = get-last_same zs y k x (omega arith) h in
    (ap suc r.0, r.1)

-- an index within has an element
pub get-some : {A : Type 0} (xs : List A) (k : ℕ) → k < length xs → (x : A) × (slice_get xs k ≡ Some x)
get-some [] k l = absurd (omega arith)
get-some (x ∷ xs) zero l = (x, refl)
get-some (x ∷ xs) (suc k) l = get-some xs k (omega arith)

module _ (n : ℕ) (steps : List Step) where
  -- a value has one step
  plus_same : (v a b c d : ℕ) → IsStep n steps v (Plus a b) → IsStep n steps v (Plus c d) → (a ≡ c) × (b ≡ d)
  plus_same v a b c d s t = let e = s.stands in let f = t.stands in (cc, cc)

  times_same : (v a b c d : ℕ) → IsStep n steps v (Times a b) → IsStep n steps v (Times c d) → (a ≡ c) × (b ≡ d)
  times_same v a b c d s t = let e = s.stands in let f = t.stands in (cc, cc)

  star_same : (v a c : ℕ) → IsStep n steps v (Star a) → IsStep n steps v (Star c) → a ≡ c
  star_same v a c s t = let e = s.stands in let f = t.stands in cc

  plus_times : (v a b c d : ℕ) → IsStep n steps v (Plus a b) → IsStep n steps v (Times c d) → ⊥
  plus_times v a b c d s t = let e = s.stands in let f = t.stands in cc

  plus_star : (v a b c : ℕ) → IsStep n steps v (Plus a b) → IsStep n steps v (Star c) → ⊥
  plus_star v a b c s t = let e = s.stands in let f = t.stands in cc

  times_star : (v a b c : ℕ) → IsStep n steps v (Times a b) → IsStep n steps v (Star c) → ⊥
  times_star v a b c s t = let e = s.stands in let f = t.stands in cc

  -- a step's value is behind the arcs
  is_late : (v : ℕ) (s : Step) → IsStep n steps v s → v < n → ⊥
  is_late v s t l = let e = t.after in omega arith

  -- the one word of an arc
  pub word-arc : {v : ℕ} {w : List ℕ} → Word n steps v w → v < n → w ≡ v ∷ []
  word-arc (of_arc k h) l = refl
  word-arc (of_left v c d w t u) l = absurd (is_late v (Plus c d) t l)
  word-arc (of_right v c d w t u) l = absurd (is_late v (Plus c d) t l)
  word-arc (of_both v c d x y t p q) l = absurd (is_late v (Times c d) t l)
  word-arc (of_none v c t) l = absurd (is_late v (Star c) t l)
  word-arc (of_more v c x y t p q) l = absurd (is_late v (Star c) t l)

  -- a word of a sum is one of either side
  pub word-plus : {v : ℕ} {w : List ℕ} → Word n steps v w → (a b : ℕ) → IsStep n steps v (Plus a b) → Word n steps a w ⊎ Word n steps b w
  word-plus (of_arc k h) a b s = absurd (is_late k (Plus a b) s h)
  word-plus (of_left v c d w t u) a b s = inl (subst (λ x. Word n steps x w) (plus_same v c d a b t s).0 u)
  word-plus (of_right v c d w t u) a b s = inr (subst (λ x. Word n steps x w) (plus_same v c d a b t s).1 u)
  word-plus (of_both v c d x y t p q) a b s = absurd (plus_times v a b c d s t)
  word-plus (of_none v c t) a b s = absurd (plus_star v a b c s t)
  word-plus (of_more v c x y t p q) a b s = absurd (plus_star v a b c s t)

  -- a word of a product is one of the left and then one of the right
  pub word-times : {v : ℕ} {w : List ℕ} → Word n steps v w → (a b : ℕ) → IsStep n steps v (Times a b) → Pair (Word n steps a) (Word n steps b) w
  word-times (of_arc k h) a b s = absurd (is_late k (Times a b) s h)
  word-times (of_left v c d w t u) a b s = absurd (plus_times v c d a b t s)
  word-times (of_right v c d w t u) a b s = absurd (plus_times v c d a b t s)
  word-times (of_both v c d x y t p q) a b s =
      record {
        x = x;
        y = y;
        whole = refl;
        begins = subst (λ u. Word n steps u x) (times_same v c d a b t s).0 p;
        ends = subst (λ u. Word n steps u y) (times_same v c d a b t s).1 q;
      }
  word-times (of_none v c t) a b s = absurd (times_star v a b c s t)
  word-times (of_more v c x y t p q) a b s = absurd (times_star v a b c s t)

  -- a word of a star is any number of words of its side
  pub word-star : {v : ℕ} {w : List ℕ} → Word n steps v w → (a : ℕ) → IsStep n steps v (Star a) → Many (Word n steps a) w
  word-star (of_arc k h) a s = absurd (is_late k (Star a) s h)
  word-star (of_left v c d w t u) a s = absurd (plus_star v c d a t s)
  word-star (of_right v c d w t u) a s = absurd (plus_star v c d a t s)
  word-star (of_both v c d x y t p q) a s = absurd (times_star v c d a t s)
  word-star (of_none v c t) a s = none
  word-star (of_more v c x y t p q) a s = some x y (subst (λ u. Word n steps u x) (star_same v c a t s) p) (word-star q a s)

  -- and the other way round
  pub star-word : (v a : ℕ) {w : List ℕ} → IsStep n steps v (Star a) → Many (Word n steps a) w → Word n steps v w
  star-word v a s none = of_none v a s
  star-word v a s (some x y p r) = of_more v a x y s p (star-word v a s r)

  -- a value keeps its step as steps are added
  step-more : (rest : List Step) (v : ℕ) (s : Step) → IsStep n steps v s → IsStep n (steps ++ rest) v s
  step-more rest v s t = record { after = t.after; stands = get-more steps rest (v - n) s t.stands }

  -- and has no other
  step-fewer : (rest : List Step) (v : ℕ) (s : Step) → v < n + length steps → IsStep n (steps ++ rest) v s → IsStep n steps v s
  step-fewer rest v s l t = let e = t.after in record { after = t.after; stands = get-less steps rest (v - n) s (omega arith) t.stands }

  -- a value keeps its words as steps are added
  pub word-more : (rest : List Step) {v : ℕ} {w : List ℕ} → Word n steps v w → Word n (steps ++ rest) v w
  word-more rest (of_arc k h) = of_arc k h
  word-more rest (of_left v a b w s u) = of_left v a b w (step-more rest v (Plus a b) s) (word-more rest u)
  word-more rest (of_right v a b w s u) = of_right v a b w (step-more rest v (Plus a b) s) (word-more rest u)
  word-more rest (of_both v a b x y s p q) = of_both v a b x y (step-more rest v (Times a b) s) (word-more rest p) (word-more rest q)
  word-more rest (of_none v a s) = of_none v a (step-more rest v (Star a) s)
  word-more rest (of_more v a x y s p q) = of_more v a x y (step-more rest v (Star a) s) (word-more rest p) (word-more rest q)

  -- a step names lower values
  pub lower-plus : EachNamesLower n steps → (v a b : ℕ) → IsStep n steps v (Plus a b) → (a < v) × (b < v)
  lower-plus low v a b s =
      let h = low (v - n) (Plus a b) s.stands in
      let e = s.after in
      (omega (arith, h.0), omega (arith, h.1))

  pub lower-times : EachNamesLower n steps → (v a b : ℕ) → IsStep n steps v (Times a b) → (a < v) × (b < v)
  lower-times low v a b s =
      let h = low (v - n) (Times a b) s.stands in
      let e = s.after in
      (omega (arith, h.0), omega (arith, h.1))

  pub lower-star : EachNamesLower n steps → (v a : ℕ) → IsStep n steps v (Star a) → a < v
  lower-star low v a s =
      let h = low (v - n) (Star a) s.stands in
      let e = s.after in
      omega (arith, h)

  -- and has no others
  pub word-fewer : (rest : List Step) → EachNamesLower n steps → {v : ℕ} {w : List ℕ} → Word n (steps ++ rest) v w → v < n + length steps → Word n steps v w
  word-fewer rest low (of_arc k h) l = of_arc k h
  word-fewer rest low (of_left v a b w s u) l =
      let t = step-fewer rest v (Plus a b) l s in
      let h = lower-plus low v a b t in
      of_left v a b w t (word-fewer rest low u (omega (arith, h.0)))
  word-fewer rest low (of_right v a b w s u) l =
      let t = step-fewer rest v (Plus a b) l s in
      let h = lower-plus low v a b t in
      of_right v a b w t (word-fewer rest low u (omega (arith, h.1)))
  word-fewer rest low (of_both v a b x y s p q) l =
      let t = step-fewer rest v (Times a b) l s in
      let h = lower-times low v a b t in
      of_both v a b x y t (word-fewer rest low p (omega (arith, h.0))) (word-fewer rest low q (omega (arith, h.1)))
  word-fewer rest low (of_none v a s) l = of_none v a (step-fewer rest v (Star a) l s)
  word-fewer rest low (of_more v a x y s p q) l =
      let t = step-fewer rest v (Star a) l s in
      let h = lower-star low v a t in
      of_more v a x y t (word-fewer rest low p (omega (arith, h))) (word-fewer rest low q l)

  -- the step that is made last
  step-last : (s : Step) → IsStep n (steps ++ s ∷ []) (n + length steps) s
  step-last s =
      let e : length steps ≡ n + length steps - n = omega arith in
      record { after = omega arith; stands = subst (λ k. slice_get (steps ++ s ∷ []) k ≡ Some s) e (get-last steps s) }

  -- a step that names lower values may be added
  pub low-more : (s : Step) → EachNamesLower n steps → NamesLower (n + length steps) s → EachNamesLower n (steps ++ s ∷ [])
  low-more s low h k t e =
      elim (cases_lt k (length steps)) [
        | inl l ↦ low k t (get-less steps (s ∷ []) k t l e)
        | inr g ↦
            let r = get-last_same steps s k t g e in
            subst (λ x. NamesLower (n + x) t) (sym r.0) (subst (λ u. NamesLower (n + length steps) u) r.1 h)
      ]

-- the words of a sum, a product and a star that are made last
pub plus-words : (n : ℕ) (steps : List Step) → EachNamesLower n steps → (a b : ℕ) → a < n + length steps → b < n + length steps → (w : List ℕ)
    → Word n (steps ++ Plus a b ∷ []) (n + length steps) w ↔ (Word n steps a w ⊎ Word n steps b w)
plus-words n steps low a b la lb w = (
  λ u.
      elim (word-plus n (steps ++ Plus a b ∷ []) u a b (step-last n steps (Plus a b))) [
        | inl p ↦ inl (word-fewer n steps (Plus a b ∷ []) low p la)
        | inr q ↦ inr (word-fewer n steps (Plus a b ∷ []) low q lb)
      ],
  λ c.
      elim c [
        | inl p ↦ of_left (n + length steps) a b w (step-last n steps (Plus a b)) (word-more n steps (Plus a b ∷ []) p)
        | inr q ↦ of_right (n + length steps) a b w (step-last n steps (Plus a b)) (word-more n steps (Plus a b ∷ []) q)
      ],
)

pub times-words : (n : ℕ) (steps : List Step) → EachNamesLower n steps → (a b : ℕ) → a < n + length steps → b < n + length steps → (w : List ℕ)
    → Word n (steps ++ Times a b ∷ []) (n + length steps) w ↔ Pair (Word n steps a) (Word n steps b) w
times-words n steps low a b la lb w = (
  λ u.
      let p = word-times n (steps ++ Times a b ∷ []) u a b (step-last n steps (Times a b)) in
      record {
        x = p.x;
        y = p.y;
        whole = p.whole;
        begins = word-fewer n steps (Times a b ∷ []) low p.begins la;
        ends = word-fewer n steps (Times a b ∷ []) low p.ends lb;
      },
  λ p.
      subst (λ s. Word n (steps ++ Times a b ∷ []) (n + length steps) s) (sym p.whole)
      (of_both (n + length steps) a b p.x p.y (step-last n steps (Times a b)) (word-more n steps (Times a b ∷ []) p.begins) (word-more n steps (Times a b ∷ []) p.ends)),
)

pub star-words : (n : ℕ) (steps : List Step) → EachNamesLower n steps → (a : ℕ) → a < n + length steps → (w : List ℕ)
    → Word n (steps ++ Star a ∷ []) (n + length steps) w ↔ Many (Word n steps a) w
star-words n steps low a la w = (
  λ u.
      many-grow (Word n (steps ++ Star a ∷ []) a) (Word n steps a) (λ x h. word-fewer n steps (Star a ∷ []) low h la)
      (word-star n (steps ++ Star a ∷ []) u a (step-last n steps (Star a))),
  λ m.
      star-word n (steps ++ Star a ∷ []) (n + length steps) a (step-last n steps (Star a))
      (many-grow (Word n steps a) (Word n (steps ++ Star a ∷ []) a) (λ x h. word-more n steps (Star a ∷ []) h) m),
)

-- a value has a word where the lower ones have
word_by : (n : ℕ) (steps : List Step) (v : ℕ) (s : Step) → IsStep n steps v s → NamesLower v s
    → ((u : ℕ) → u < v → (w : List ℕ) × Word n steps u w) → (w : List ℕ) × Word n steps v w
word_by n steps v (Plus a b) s l rec = let r = rec a l.0 in (r.0, of_left v a b r.0 s r.1)
word_by n steps v (Times a b) s l rec =
    let r = rec a l.0 in
    let t = rec b l.1 in
    (r.0 ++ t.0, of_both v a b r.0 t.0 s r.1 t.1)
word_by n steps v (Star a) s l rec = ([], of_none v a s)

-- the step of a value names lower ones
lower_at : (n : ℕ) (steps : List Step) → EachNamesLower n steps → (v : ℕ) (s : Step) → n ≤ v → slice_get steps (v - n) ≡ Some s → NamesLower v s
lower_at n steps low v s l e = let k : n + (v - n) ≡ v = omega arith in subst (λ x. NamesLower x s) k (low (v - n) s e)

-- each value has a word
pub some-word : (n : ℕ) (steps : List Step) → EachNamesLower n steps → (m v : ℕ) → v < m → v < n + length steps → (w : List ℕ) × Word n steps v w
some-word n steps low zero v l h = absurd (omega arith)
some-word n steps low (suc m) v l h =
    let rec : (u : ℕ) → u < v → (w : List ℕ) × Word n steps u w = λ u k. some-word n steps low m u (omega arith) (omega arith) in
    elim (cases_lt v n) [
      | inl a ↦ (v ∷ [], of_arc v a)
      | inr b ↦
          let within : v - n < length steps = omega arith in
          let s = get-some steps (v - n) within in
          word_by n steps v s.0 (record { after = b; stands = s.1 }) (lower_at n steps low v s.0 b s.1) rec
    ]
