-- The words of a value that the answer uses are those of its reference, with the arcs' numbers in place of their places.
use Rattle.std.proofs.Common.{◌≡◌, ◌⊎◌, inl, inr, refl, sym, ap, ◌∙◌, subst, ℕ, zero, suc, ◌+◌, ◌-◌, ◌<◌, ◌≤◌, ltb, Option, Some, None, List, [], ◌∷◌, ◌++◌, length, map, get_or, arith, lt-ltb, le-ltb}
use Rattle.std.specs.Prelude.{◌↔◌}
use Rattle.std.proofs.lemmas.Bool.{cond-true, cond-false, cases_lt}
use Rattle.std.proofs.lemmas.Option.{slice_get_within}
use Rattle.regular_algebra.specs.Words as value
use Rattle.regular_algebra.specs.Words.{IsStep, EachNamesLower}
use Rattle.regular_algebra.specs.Answers.{IsNumberBelow}
use Rattle.regular_algebra.specs.declared.steps.Step.{Step}
use Rattle.regular_algebra.specs.declared.steps.Step.TheVariants.{Plus, Times, Star}
use Rattle.regular_algebra.proofs.Ways.{Many, none, some, Pair}
use Rattle.regular_algebra.proofs.Values.{get-some, star-word, lower-plus, lower-times, lower-star}
use Rattle.path_expr.specs.declared.report.Ref.{Ref}
use Rattle.path_expr.specs.declared.report.Ref.TheVariants as ref
use Rattle.path_expr.specs.declared.report.Def.{Def}
use Rattle.path_expr.specs.declared.report.Def.TheVariants as def
use Rattle.path_expr.specs.Word.{IsDef, Word, of_one, of_arc, of_left, of_right, of_both, of_none, of_more}
use Rattle.path_expr.specs.Definitions.{IsUsed, itself, a_side, rank, ref_of, def_of, whole_of, AreDefinitions}

module _ (defs : List Def) where
  same_number : (j k : ℕ) → ref.Def (suc j) ≡ ref.Def (suc k) → j ≡ k
  same_number j k e = let f : suc j ≡ suc k = cc in omega arith

  -- the one word of an arc
  word-arc : {q : Ref} {w : List ℕ} → Word defs q w → (k : ℕ) → q ≡ ref.Arc k → w ≡ k ∷ []
  word-arc of_one k e = absurd (cc)
  word-arc (of_arc j) k e = let f : j ≡ k = cc in ap (λ x. x ∷ []) f
  word-arc (of_left j a b w t u) k e = absurd (cc)
  word-arc (of_right j a b w t u) k e = absurd (cc)
  word-arc (of_both j a b x y t p q) k e = absurd (cc)
  word-arc (of_none j a t) k e = absurd (cc)
  word-arc (of_more j a x y t p q) k e = absurd (cc)

  -- zero has no word
  pub word-zero : {q : Ref} {w : List ℕ} → Word defs q w → q ≡ ref.Zero → ⊥
  word-zero of_one e = cc
  word-zero (of_arc j) e = cc
  word-zero (of_left j a b w t u) e = cc
  word-zero (of_right j a b w t u) e = cc
  word-zero (of_both j a b x y t p q) e = cc
  word-zero (of_none j a t) e = cc
  word-zero (of_more j a x y t p q) e = cc

  sum_same : (j k : ℕ) (a b c d : Ref) → j ≡ k → IsDef defs j (def.Sum a b) → IsDef defs k (def.Sum c d) → (a ≡ c) × (b ≡ d)
  sum_same j k a b c d e s t = (cc, cc)

  product_same : (j k : ℕ) (a b c d : Ref) → j ≡ k → IsDef defs j (def.Product a b) → IsDef defs k (def.Product c d) → (a ≡ c) × (b ≡ d)
  product_same j k a b c d e s t = (cc, cc)

  star_same : (j k : ℕ) (a c : Ref) → j ≡ k → IsDef defs j (def.Star a) → IsDef defs k (def.Star c) → a ≡ c
  star_same j k a c e s t = cc

  sum_product : (j k : ℕ) (a b c d : Ref) → j ≡ k → IsDef defs j (def.Sum a b) → IsDef defs k (def.Product c d) → ⊥
  sum_product j k a b c d e s t = cc

  sum_star : (j k : ℕ) (a b c : Ref) → j ≡ k → IsDef defs j (def.Sum a b) → IsDef defs k (def.Star c) → ⊥
  sum_star j k a b c e s t = cc

  product_star : (j k : ℕ) (a b c : Ref) → j ≡ k → IsDef defs j (def.Product a b) → IsDef defs k (def.Star c) → ⊥
  product_star j k a b c e s t = cc

  -- a word of a sum is one of either side
  word-sum : {q : Ref} {w : List ℕ} → Word defs q w → (k : ℕ) (a b : Ref) → q ≡ ref.Def (suc k) → IsDef defs k (def.Sum a b) → Word defs a w ⊎ Word defs b w
  word-sum of_one k a b e s = absurd (cc)
  word-sum (of_arc j) k a b e s = absurd (cc)
  word-sum (of_left j c d w t u) k a b e s = inl (subst (λ (x : Ref). Word defs x w) (sum_same j k c d a b (same_number j k e) t s).0 u)
  word-sum (of_right j c d w t u) k a b e s = inr (subst (λ (x : Ref). Word defs x w) (sum_same j k c d a b (same_number j k e) t s).1 u)
  word-sum (of_both j c d x y t p q) k a b e s = absurd (sum_product k j a b c d (sym (same_number j k e)) s t)
  word-sum (of_none j c t) k a b e s = absurd (sum_star k j a b c (sym (same_number j k e)) s t)
  word-sum (of_more j c x y t p q) k a b e s = absurd (sum_star k j a b c (sym (same_number j k e)) s t)

  -- a word of a product is one of the left and then one of the right
  word-product : {q : Ref} {w : List ℕ} → Word defs q w → (k : ℕ) (a b : Ref) → q ≡ ref.Def (suc k) → IsDef defs k (def.Product a b)
      → Pair (Word defs a) (Word defs b) w
  word-product of_one k a b e s = absurd (cc)
  word-product (of_arc j) k a b e s = absurd (cc)
  word-product (of_left j c d w t u) k a b e s = absurd (sum_product j k c d a b (same_number j k e) t s)
  word-product (of_right j c d w t u) k a b e s = absurd (sum_product j k c d a b (same_number j k e) t s)
  word-product (of_both j c d x y t p q) k a b e s =
      let f = product_same j k c d a b (same_number j k e) t s in
      record { x = x; y = y; whole = refl; begins = subst (λ (z : Ref). Word defs z x) f.0 p; ends = subst (λ (z : Ref). Word defs z y) f.1 q }
  word-product (of_none j c t) k a b e s = absurd (product_star k j a b c (sym (same_number j k e)) s t)
  word-product (of_more j c x y t p q) k a b e s = absurd (product_star k j a b c (sym (same_number j k e)) s t)

  -- a word of a star is any number of words of its side
  word-star : {q : Ref} {w : List ℕ} → Word defs q w → (k : ℕ) (a : Ref) → q ≡ ref.Def (suc k) → IsDef defs k (def.Star a) → Many (Word defs a) w
  word-star of_one k a e s = absurd (cc)
  word-star (of_arc j) k a e s = absurd (cc)
  word-star (of_left j c d w t u) k a e s = absurd (sum_star j k c d a (same_number j k e) t s)
  word-star (of_right j c d w t u) k a e s = absurd (sum_star j k c d a (same_number j k e) t s)
  word-star (of_both j c d x y t p q) k a e s = absurd (product_star j k c d a (same_number j k e) t s)
  word-star (of_none j c t) k a e s = none
  word-star (of_more j c x y t p q) k a e s =
      some x y (subst (λ (z : Ref). Word defs z x) (star_same j k c a (same_number j k e) t s) p) (word-star q k a e s)

map_join : (f : ℕ → ℕ) (x y : List ℕ) → map f (x ++ y) ≡ map f x ++ map f y
map_join f [] y = refl
map_join f (k ∷ x) y = ap (λ z. f k ∷ z) (map_join f x y)

-- a word whose arcs are renamed
pub record Renamed (f : ℕ → ℕ) (L : List ℕ → Type 0) (w : List ℕ) : Type 0 where
  pub x : List ℕ
  pub word : L x
  pub is : w ≡ map f x

both_renamed : (f : ℕ → ℕ) (x a y b : List ℕ) → x ≡ map f a → y ≡ map f b → x ++ y ≡ map f (a ++ b)
both_renamed f x a y b e g = rw (e, g) (sym (map_join f a b))

renamed_many : (f : ℕ → ℕ) (L M : List ℕ → Type 0) → ((w : List ℕ) → M w → Renamed f L w) → {w : List ℕ} → Many M w → Renamed f (Many L) w
renamed_many f L M g none = record { x = []; word = none; is = refl }
renamed_many f L M g (some x y p r) =
    let a = g x p in
    let b = renamed_many f L M g r in
    record { x = a.x ++ b.x; word = some a.x b.x a.word b.word; is = both_renamed f x a.x y b.x a.is b.is }

module _ (live : List ℕ) (steps : List Step) (answer : Option ℕ) (defs : List Def) (whole : Ref) (d : AreDefinitions live steps answer defs whole)
    (low : EachNamesLower (length live) steps) where
  -- the number of an arc
  abbrev pub number : ℕ → ℕ
  number k = get_or live k 0 + 1

  abbrev pub reference : ℕ → Ref
  reference v = ref_of live d.ranks v

  pub ref_arc : (v : ℕ) → v < length live → reference v ≡ ref.Arc (number v)
  ref_arc v l = cond-true (ltb v (length live)) _ _ (lt-ltb v (length live) l)

  pub ref_def : (v : ℕ) → length live ≤ v → v - length live < length steps → reference v ≡ ref.Def (suc (rank d.used (v - length live)))
  ref_def v l h =
      let s = d.marks.size in
      let e = d.are_ranks.each (v - length live) (omega arith) in
      let f : get_or d.ranks (v - length live) 0 + 1 ≡ suc (rank d.used (v - length live)) = omega arith in
      cond-false (ltb v (length live)) _ _ (le-ltb v (length live) l) ∙ ap (λ (x : ℕ). ref.Def x) f

  -- the definition of a step that is used
  defined : (v : ℕ) (s : Step) → IsUsed (length live) steps answer v → IsStep (length live) steps v s
      → (reference v ≡ ref.Def (suc (rank d.used (v - length live)))) × IsDef defs (rank d.used (v - length live)) (def_of reference s)
  defined v s u t =
      let a = t.after in
      let e : v ≡ length live + (v - length live) = omega arith in
      let w = slice_get_within steps (v - length live) s t.stands in
      let m = (d.marks.exact (v - length live)).1 (w, subst (IsUsed (length live) steps answer) e u) in
      (ref_def v t.after w, d.each (v - length live) s m t.stands)

  -- a word of a value, renamed, is one of its reference
  from_value : {v : ℕ} {x : List ℕ} → value.Word (length live) steps v x → IsUsed (length live) steps answer v → Word defs (reference v) (map number x)
  from_value (value.of_arc k l) u = subst (λ (q : Ref). Word defs q (number k ∷ [])) (sym (ref_arc k l)) (of_arc (number k))
  from_value (value.of_left v a b w s h) u =
      let t = defined v (Plus a b) u s in
      subst (λ (q : Ref). Word defs q (map number w)) (sym t.0)
      (of_left _ (reference a) (reference b) (map number w) t.1 (from_value h (a_side v a (Plus a b) u s (inl refl))))
  from_value (value.of_right v a b w s h) u =
      let t = defined v (Plus a b) u s in
      subst (λ (q : Ref). Word defs q (map number w)) (sym t.0)
      (of_right _ (reference a) (reference b) (map number w) t.1 (from_value h (a_side v b (Plus a b) u s (inr refl))))
  from_value (value.of_both v a b x y s p q) u =
      let t = defined v (Times a b) u s in
      subst (λ (z : List ℕ). Word defs (reference v) z) (sym (map_join number x y))
      (subst (λ (z : Ref). Word defs z (map number x ++ map number y)) (sym t.0)
      (of_both _ (reference a) (reference b) (map number x) (map number y) t.1 (from_value p (a_side v a (Times a b) u s (inl refl)))
      (from_value q (a_side v b (Times a b) u s (inr refl)))))
  from_value (value.of_none v a s) u =
      let t = defined v (Star a) u s in
      subst (λ (q : Ref). Word defs q []) (sym t.0) (of_none _ (reference a) t.1)
  from_value (value.of_more v a x y s p q) u =
      let t = defined v (Star a) u s in
      subst (λ (z : List ℕ). Word defs (reference v) z) (sym (map_join number x y))
      (subst (λ (z : Ref). Word defs z (map number x ++ map number y)) (sym t.0)
      (of_more _ (reference a) (map number x) (map number y) t.1 (from_value p (a_side v a (Star a) u s refl))
      (subst (λ (z : Ref). Word defs z (map number y)) t.0 (from_value q u))))

  -- the words of a value
  abbrev Words : ℕ → List ℕ → Type 0
  Words v w = Renamed number (value.Word (length live) steps v) w

  -- a word of the reference of a step, from those of the lower ones
  by_step : (v : ℕ) (s : Step) → IsUsed (length live) steps answer v → IsStep (length live) steps v s
      → ((u : ℕ) → u < v → IsUsed (length live) steps answer u → (w : List ℕ) → Word defs (reference u) w → Words u w)
      → (w : List ℕ) → Word defs (reference v) w → Words v w
  by_step v (Plus a b) u s lower w h =
      let t = defined v (Plus a b) u s in
      let l = lower-plus (length live) steps low v a b s in
      elim (word-sum defs h (rank d.used (v - length live)) (reference a) (reference b) t.0 t.1) [
        | inl p ↦ let r = lower a l.0 (a_side v a (Plus a b) u s (inl refl)) w p in record { x = r.x; word = value.of_left v a b r.x s r.word; is = r.is }
        | inr p ↦ let r = lower b l.1 (a_side v b (Plus a b) u s (inr refl)) w p in record { x = r.x; word = value.of_right v a b r.x s r.word; is = r.is }
      ]
  by_step v (Times a b) u s lower w h =
      let t = defined v (Times a b) u s in
      let l = lower-times (length live) steps low v a b s in
      let p = word-product defs h (rank d.used (v - length live)) (reference a) (reference b) t.0 t.1 in
      let m = lower a l.0 (a_side v a (Times a b) u s (inl refl)) p.x p.begins in
      let n = lower b l.1 (a_side v b (Times a b) u s (inr refl)) p.y p.ends in
      record {
        x = m.x ++ n.x;
        word = value.of_both v a b m.x n.x s m.word n.word;
        is = p.whole ∙ both_renamed number p.x m.x p.y n.x m.is n.is;
      }
  by_step v (Star a) u s lower w h =
      let t = defined v (Star a) u s in
      let l = lower-star (length live) steps low v a s in
      let p = word-star defs h (rank d.used (v - length live)) (reference a) t.0 t.1 in
      let r = renamed_many number (value.Word (length live) steps a) (Word defs (reference a)) (λ y q. lower a l (a_side v a (Star a) u s refl) y q) p in
      record { x = r.x; word = star-word (length live) steps v a s r.word; is = r.is }

  to_value : (m v : ℕ) → v < m → v < length live + length steps → IsUsed (length live) steps answer v → (w : List ℕ) → Word defs (reference v) w → Words v w
  to_value zero v l b u w h = absurd (omega arith)
  to_value (suc m) v l b u w h = elim (cases_lt v (length live)) [
    | inl arc ↦ record { x = v ∷ []; word = value.of_arc v arc; is = word-arc defs h (number v) (ref_arc v arc) }
    | inr made ↦
        let g = get-some steps (v - length live) (omega arith) in
        by_step v g.0 u (record { after = made; stands = g.1 }) (λ y k q x t. to_value m y (omega arith) (omega arith) q x t) w h
  ]

  -- the words of the whole are those of the answer, renamed
  pub whole_words : IsNumberBelow (length live + length steps) answer → (w : List ℕ)
      → Word defs whole w ↔ Renamed number (value.HasWord (length live) steps answer) w
  whole_words b w = by_answer answer refl b
    where
      by_answer : (o : Option ℕ) → answer ≡ o → IsNumberBelow (length live + length steps) o → Word defs whole w ↔ Renamed number (value.HasWord (length live) steps o) w
      by_answer None e l = (
        (λ h. absurd (word-zero defs h (d.whole_is ∙ ap (whole_of reference) e))),
        λ r. absurd r.word,
      )
      by_answer (Some v) e l =
          let i : whole ≡ reference v = d.whole_is ∙ ap (whole_of reference) e in (
            (λ h. to_value (suc v) v (omega arith) l (itself v e) w (subst (λ (q : Ref). Word defs q w) i h)),
            λ r. subst (λ (z : List ℕ). Word defs whole z) (sym r.is) (subst (λ (q : Ref). Word defs q (map number r.x)) (sym i) (from_value r.word (itself v e))),
          )
