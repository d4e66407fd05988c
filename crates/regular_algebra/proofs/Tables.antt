-- What a table's values say: the words of each entry, and how the rule's small steps change them.
use Rattle.std.proofs.Common.{◌≡◌, refl, sym, ap, ◌∙◌, subst, ℕ, ◌+◌, ◌<◌, ◌⊎◌, ◌↔◌, ◌&&◌, ◌||◌, inl, inr, eqb, cond, Bool, true, false, Option, Some, None, List, [], ◌∷◌, ◌++◌, length, append-nil, arith, length-append}
use Rattle.std.proofs.lemmas.Bool.{and_from, and_left, and_right, or_left, or_right, or_from}
use Rattle.std.proofs.lemmas.Bool.Decides.{eqb_tells}
use Rattle.regular_algebra.specs.Words.{Word, HasWord, NamesLower, EachNamesLower}
use Rattle.regular_algebra.specs.Rule.{Table, next, made, put, joined, joined_to, multiplied, through}
use Rattle.regular_algebra.specs.declared.steps.Step.{Step}
use Rattle.regular_algebra.specs.declared.steps.Step.TheVariants.{Plus, Times}
use Rattle.regular_algebra.proofs.Ways.{Pair, Between}
use Rattle.regular_algebra.proofs.Values.{word-more, word-fewer, low-more, plus-words, times-words}

-- the words between two factors: those of the star, or none but the empty one
abbrev pub HasTurn : ℕ → List Step → Option ℕ → List ℕ → Type 0
HasTurn n steps None w = w ≡ []
HasTurn n steps (Some v) w = Word n steps v w

-- the words of entry (i, j) are M i · j, and those of the star are K
pub record Holds (n : ℕ) (star : Option ℕ) (K : List ℕ → Type 0) (t : Table) (M : ℕ → List ℕ → ℕ → Type 0) : Type 0 where
  pub low : (i j v : ℕ) → t.entry i j ≡ Some v → v < next n t
  pub star_low : (v : ℕ) → star ≡ Some v → v < next n t
  pub names_lower : EachNamesLower n t.steps
  pub words : (i j : ℕ) (w : List ℕ) → HasWord n t.steps (t.entry i j) w ↔ M i w j
  pub star_words : (w : List ℕ) → HasTurn n t.steps star w ↔ K w

-- the words of L come to those of entry (i, j)
abbrev pub Joined : (ℕ → List ℕ → ℕ → Type 0) → ℕ → ℕ → (List ℕ → Type 0) → ℕ → List ℕ → ℕ → Type 0
Joined M i j L a w b = M a w b ⊎ ((a ≡ i) × (b ≡ j) × L w)

-- whether a pair is (i, j)
pub both_tell : (a b i j : ℕ) → (((eqb a i && eqb b j) ≡ true) × (a ≡ i) × (b ≡ j)) ⊎ (((eqb a i && eqb b j) ≡ false) × (a ≡ i → b ≡ j → ⊥))
both_tell a b i j =
    elim (eqb_tells a i) [
      | inl p ↦
          elim (eqb_tells b j) [
            | inl q ↦ inl (and_from (eqb a i) (eqb b j) p.0 q.0, p.1, q.1)
            | inr q ↦ inr (and_right (eqb a i) (eqb b j) q.0, λ x y. q.1 y)
          ]
      | inr p ↦ inr (and_left (eqb a i) (eqb b j) p.0, λ x y. p.1 x)
    ]

-- whether one of two nodes is p
pub either_tells : (i j p : ℕ) → (((eqb i p || eqb j p) ≡ true) × ((i ≡ p) ⊎ (j ≡ p))) ⊎ (((eqb i p || eqb j p) ≡ false) × (i ≡ p → ⊥) × (j ≡ p → ⊥))
either_tells i j p =
    elim (eqb_tells i p) [
      | inl q ↦ inl (or_left (eqb i p) (eqb j p) q.0, inl q.1)
      | inr q ↦
          elim (eqb_tells j p) [
            | inl r ↦ inl (or_right (eqb i p) (eqb j p) r.0, inr r.1)
            | inr r ↦ inr (or_from (eqb i p) (eqb j p) q.0 r.0, q.1, r.1)
          ]
    ]

-- an entry keeps its words as steps are added
pub has-more : (n : ℕ) (steps rest : List Step) → EachNamesLower n steps → (o : Option ℕ) → ((v : ℕ) → o ≡ Some v → v < n + length steps) → (w : List ℕ)
    → HasWord n (steps ++ rest) o w ↔ HasWord n steps o w
has-more n steps rest low None l w = (λ h. h, λ h. h)
has-more n steps rest low (Some v) l w = (λ h. word-fewer n steps rest low h (l v refl), λ h. word-more n steps rest h)

-- the star keeps its words as steps are added
turn-more : (n : ℕ) (steps rest : List Step) → EachNamesLower n steps → (o : Option ℕ) → ((v : ℕ) → o ≡ Some v → v < n + length steps) → (w : List ℕ)
    → HasTurn n (steps ++ rest) o w ↔ HasTurn n steps o w
turn-more n steps rest low None l w = (λ h. h, λ h. h)
turn-more n steps rest low (Some v) l w = (λ h. word-fewer n steps rest low h (l v refl), λ h. word-more n steps rest h)

-- a step takes one number
pub next-made : (n : ℕ) (s : Step) (t : Table) → next n (made s t) ≡ next n t + 1
unfolding made
next-made n s t = omega (arith, length-append t.steps (s ∷ []))

-- the entries stand for the same words as steps are added
pub holds-made : (n : ℕ) (star : Option ℕ) (K : List ℕ → Type 0) (t : Table) (M : ℕ → List ℕ → ℕ → Type 0) (s : Step)
    → Holds n star K t M → NamesLower (next n t) s → Holds n star K (made s t) M
unfolding made
holds-made n star K t M s h l =
    record {
      low = λ i j v e. let b = h.low i j v e in omega (arith, b, length-append t.steps (s ∷ []));
      star_low = λ v e. let b = h.star_low v e in omega (arith, b, length-append t.steps (s ∷ []));
      names_lower = low-more n t.steps s h.names_lower l;
      words = λ i j w.
          let m = has-more n t.steps (s ∷ []) h.names_lower (t.entry i j) (h.low i j) w in
          (λ u. (h.words i j w).0 (m.0 u), λ u. m.1 ((h.words i j w).1 u));
      star_words = λ w.
          let m = turn-more n t.steps (s ∷ []) h.names_lower star h.star_low w in
          (λ u. (h.star_words w).0 (m.0 u), λ u. m.1 ((h.star_words w).1 u));
    }

-- a matrix of words may be stated otherwise
pub holds-iff : (n : ℕ) (star : Option ℕ) (K : List ℕ → Type 0) (t : Table) (M N : ℕ → List ℕ → ℕ → Type 0)
    → ((a : ℕ) (w : List ℕ) (b : ℕ) → M a w b ↔ N a w b) → Holds n star K t M → Holds n star K t N
holds-iff n star K t M N f h =
    record {
      low = h.low;
      star_low = h.star_low;
      names_lower = h.names_lower;
      words = λ i j w. (λ u. (f i w j).0 ((h.words i j w).0 u), λ u. (h.words i j w).1 ((f i w j).1 u));
      star_words = h.star_words;
    }

-- the number of a put entry is below a bound
pick_low : (c : Bool) (v bound : ℕ) (o : Option ℕ) → v < bound → ((u : ℕ) → o ≡ Some u → u < bound) → (u : ℕ) → cond c (Some v) o ≡ Some u → u < bound
pick_low true v bound o l f u e = let s : v ≡ u = cc in omega arith
pick_low false v bound o l f u e = f u e

-- the words of a put entry
pick_words : (n : ℕ) (steps : List Step) (c : Bool) (v : ℕ) (o : Option ℕ) (w : List ℕ) (P : Type 0)
    → (c ≡ true → Word n steps v w ↔ P) → (c ≡ false → HasWord n steps o w ↔ P) → HasWord n steps (cond c (Some v) o) w ↔ P
pick_words n steps true v o w P f g = f refl
pick_words n steps false v o w P f g = g refl

-- words at (i, j) are words at a pair that is (i, j)
moved : (M : ℕ → List ℕ → ℕ → Type 0) (i j a b : ℕ) (w : List ℕ) → a ≡ i → b ≡ j → M i w j → M a w b
moved M i j a b w e f h = subst (λ x. M x w b) (sym e) (subst (λ y. M i w y) (sym f) h)

moved_back : (M : ℕ → List ℕ → ℕ → Type 0) (i j a b : ℕ) (w : List ℕ) → a ≡ i → b ≡ j → M a w b → M i w j
moved_back M i j a b w e f h = subst (λ x. M x w j) e (subst (λ y. M a w y) f h)

-- the words of a put entry are those of M and, at (i, j), of L
put_words : (M : ℕ → List ℕ → ℕ → Type 0) (i j a b : ℕ) (L : List ℕ → Type 0) (w : List ℕ) (W H : Type 0)
    → W ↔ (M i w j ⊎ L w) → H ↔ M a w b → (c : Bool) → ((c ≡ true) × (a ≡ i) × (b ≡ j)) ⊎ ((c ≡ false) × (a ≡ i → b ≡ j → ⊥))
    → (c ≡ true → W ↔ Joined M i j L a w b) × (c ≡ false → H ↔ Joined M i j L a w b)
put_words M i j a b L w W H f g c (inl q) = (
  λ r. (
    λ u. elim (f.0 u) [ inl m ↦ inl (moved M i j a b w q.1 q.2 m) | inr l ↦ inr (q.1, q.2, l) ],
    λ k. f.1 (elim k [ inl m ↦ inl (moved_back M i j a b w q.1 q.2 m) | inr l ↦ inr l.2 ]),
  ),
  λ r. absurd (let s = q.0 in cc),
)
put_words M i j a b L w W H f g c (inr q) = (
  λ r. absurd (let s = q.0 in cc),
  λ r. (λ u. inl (g.0 u), λ k. elim k [ inl m ↦ g.1 m | inr l ↦ absurd (q.1 l.0 l.1) ]),
)

-- entry (i, j) gets a value with its own words and those of L
pub holds-put : (n : ℕ) (star : Option ℕ) (K : List ℕ → Type 0) (t : Table) (M : ℕ → List ℕ → ℕ → Type 0) (i j v : ℕ) (L : List ℕ → Type 0)
    → Holds n star K t M → v < next n t → ((w : List ℕ) → Word n t.steps v w ↔ (M i w j ⊎ L w)) → Holds n star K (put i j (Some v) t) (Joined M i j L)
unfolding put
holds-put n star K t M i j v L h l f =
    record {
      low = λ a b u e. pick_low (eqb a i && eqb b j) v (next n t) (t.entry a b) l (h.low a b) u e;
      star_low = h.star_low;
      names_lower = h.names_lower;
      words = λ a b w.
          let r = put_words M i j a b L w (Word n t.steps v w) (HasWord n t.steps (t.entry a b) w) (f w) (h.words a b w) (eqb a i && eqb b j) (both_tell a b i j) in
          pick_words n t.steps (eqb a i && eqb b j) v (t.entry a b) w (Joined M i j L a w b) r.0 r.1;
      star_words = h.star_words;
    }

-- no value has no word
has_none : (n : ℕ) (steps : List Step) (o : Option ℕ) (w : List ℕ) → o ≡ None → HasWord n steps o w → ⊥
has_none n steps None w e h = h
has_none n steps (Some v) w e h = cc

-- an entry with a value has its words
pub has_some : (n : ℕ) (steps : List Step) (o : Option ℕ) (v : ℕ) (w : List ℕ) → o ≡ Some v → HasWord n steps o w ↔ Word n steps v w
has_some n steps None v w e = absurd (cc)
has_some n steps (Some u) v w e =
    let s : u ≡ v = cc in
    (λ h. subst (λ x. Word n steps x w) s h, λ h. subst (λ x. Word n steps x w) (sym s) h)

-- the value comes alone or in a sum
joined_holds : (n : ℕ) (star : Option ℕ) (K : List ℕ → Type 0) (t : Table) (M : ℕ → List ℕ → ℕ → Type 0) (i j u : ℕ) (L : List ℕ → Type 0)
    → Holds n star K t M → u < next n t → ((w : List ℕ) → Word n t.steps u w ↔ L w) → (o : Option ℕ) → t.entry i j ≡ o
    → Holds n star K (joined_to n i j u t o) (Joined M i j L)
unfolding made
joined_holds n star K t M i j u L h l f None e =
    holds-put n star K t M i j u L h l (λ w. (
      λ x. inr ((f w).0 x),
      λ k. elim k [ inl m ↦ absurd (has_none n t.steps (t.entry i j) w e ((h.words i j w).1 m)) | inr q ↦ (f w).1 q ],
    ))
joined_holds n star K t M i j u L h l f (Some v) e =
    let lv = h.low i j v e in
    holds-put n star K (made (Plus v u) t) M i j (next n t) L (holds-made n star K t M (Plus v u) h (lv, l)) (omega (arith, length-append t.steps (Plus v u ∷ []))) (λ w.
    let p = plus-words n t.steps h.names_lower v u lv l w in
    let q = has_some n t.steps (t.entry i j) v w e in (
      λ x. elim (p.0 x) [ inl a ↦ inl ((h.words i j w).0 (q.1 a)) | inr b ↦ inr ((f w).0 b) ],
      λ k. p.1 (elim k [ inl m ↦ inl (q.0 ((h.words i j w).1 m)) | inr b ↦ inr ((f w).1 b) ]),
    ))

-- a value with the words of L comes to entry (i, j)
pub holds-joined : (n : ℕ) (star : Option ℕ) (K : List ℕ → Type 0) (t : Table) (M : ℕ → List ℕ → ℕ → Type 0) (i j u : ℕ) (L : List ℕ → Type 0)
    → Holds n star K t M → u < next n t → ((w : List ℕ) → Word n t.steps u w ↔ L w) → Holds n star K (joined n i j u t) (Joined M i j L)
unfolding joined
holds-joined n star K t M i j u L h l f = joined_holds n star K t M i j u L h l f (t.entry i j) refl

-- the product of two values comes to entry (i, j)
pub holds-multiplied : (n : ℕ) (star : Option ℕ) (K : List ℕ → Type 0) (t : Table) (M : ℕ → List ℕ → ℕ → Type 0) (i j a b : ℕ) (A B : List ℕ → Type 0)
    → Holds n star K t M → a < next n t → b < next n t → ((w : List ℕ) → Word n t.steps a w ↔ A w) → ((w : List ℕ) → Word n t.steps b w ↔ B w)
    → Holds n star K (multiplied n i j a b t) (Joined M i j (Pair A B))
unfolding multiplied made
holds-multiplied n star K t M i j a b A B h la lb f g =
    holds-joined n star K (made (Times a b) t) M i j (next n t) (Pair A B) (holds-made n star K t M (Times a b) h (la, lb))
    (omega (arith, length-append t.steps (Times a b ∷ []))) (λ w.
    let p = times-words n t.steps h.names_lower a b la lb w in (
      λ u. let q = p.0 u in record { x = q.x; y = q.y; whole = q.whole; begins = (f q.x).0 q.begins; ends = (g q.y).0 q.ends },
      λ q. p.1 (record { x = q.x; y = q.y; whole = q.whole; begins = (f q.x).1 q.begins; ends = (g q.y).1 q.ends }),
    ))

-- the words that come may be told otherwise
joined-iff : (M : ℕ → List ℕ → ℕ → Type 0) (i j : ℕ) (L N : List ℕ → Type 0) → ((w : List ℕ) → L w ↔ N w) → (a : ℕ) (w : List ℕ) (b : ℕ)
    → Joined M i j L a w b ↔ Joined M i j N a w b
joined-iff M i j L N f a w b = (
  λ k. elim k [ inl m ↦ inl m | inr l ↦ inr (l.0, l.1, (f w).0 l.2) ],
  λ k. elim k [ inl m ↦ inl m | inr l ↦ inr (l.0, l.1, (f w).1 l.2) ],
)

-- the product of two values, and of the star between them where there is one, comes to entry (i, j)
pub holds-through : (n : ℕ) (star : Option ℕ) (K : List ℕ → Type 0) (t : Table) (M : ℕ → List ℕ → ℕ → Type 0) (i j a b : ℕ) (A B : List ℕ → Type 0)
    → Holds n star K t M → a < next n t → b < next n t → ((w : List ℕ) → Word n t.steps a w ↔ A w) → ((w : List ℕ) → Word n t.steps b w ↔ B w)
    → Holds n star K (through n i j a star b t) (Joined M i j (Between A K B))
unfolding made
holds-through n None K t M i j a b A B h la lb f g =
    holds-iff n None K (multiplied n i j a b t) (Joined M i j (Pair A B)) (Joined M i j (Between A K B))
    (joined-iff M i j (Pair A B) (Between A K B) (λ w. (
      λ p.
          record {
            x = p.x;
            y = [];
            z = p.y;
            whole = p.whole ∙ ap (λ s. s ++ p.y) (sym (append-nil p.x));
            begins = p.begins;
            turns = (h.star_words []).0 refl;
            ends = p.ends;
          },
      λ v.
          record {
            x = v.x;
            y = v.z;
            whole = v.whole ∙ ap (λ s. (v.x ++ s) ++ v.z) ((h.star_words v.y).1 v.turns) ∙ ap (λ s. s ++ v.z) (append-nil v.x);
            begins = v.begins;
            ends = v.ends;
          },
    ))) (holds-multiplied n None K t M i j a b A B h la lb f g)
holds-through n (Some s) K t M i j a b A B h la lb f g =
    let ls = h.star_low s refl in
    let m = made (Times a s) t in
    let hm = holds-made n (Some s) K t M (Times a s) h (la, ls) in
    let more : next n m ≡ next n t + 1 = omega (arith, length-append t.steps (Times a s ∷ [])) in
    holds-iff n (Some s) K (multiplied n i j (next n t) b m) (Joined M i j (Pair (Pair A K) B)) (Joined M i j (Between A K B))
    (joined-iff M i j (Pair (Pair A K) B) (Between A K B) (λ w. (
      λ p.
          let q = p.begins in
          record { x = q.x; y = q.y; z = p.y; whole = p.whole ∙ ap (λ u. u ++ p.y) q.whole; begins = q.begins; turns = q.ends; ends = p.ends },
      λ v.
          record {
            x = v.x ++ v.y;
            y = v.z;
            whole = v.whole;
            begins = record { x = v.x; y = v.y; whole = refl; begins = v.begins; ends = v.turns };
            ends = v.ends;
          },
    )))
    (holds-multiplied n (Some s) K m M i j (next n t) b (Pair A K) B hm (omega (arith, more)) (omega (arith, more)) (λ w.
    let p = times-words n t.steps h.names_lower a s la ls w in (
      λ u. let q = p.0 u in record { x = q.x; y = q.y; whole = q.whole; begins = (f q.x).0 q.begins; ends = (h.star_words q.y).0 q.ends },
      λ q. p.1 (record { x = q.x; y = q.y; whole = q.whole; begins = (f q.x).1 q.begins; ends = (h.star_words q.y).1 q.ends }),
    )) (λ w. (
      λ u. (g w).0 (word-fewer n t.steps (Times a s ∷ []) h.names_lower u lb),
      λ u. word-more n t.steps (Times a s ∷ []) ((g w).1 u),
    )))
