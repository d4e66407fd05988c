-- The turns of one elimination, one after the other, add to each entry the words that go through the node.
use Rattle.std.proofs.Common.{◌≡◌, ◌≢◌, refl, sym, ◌∙◌, subst, ℕ, zero, suc, ◌<◌, ◌⊎◌, ◌↔◌, ◌||◌, inl, inr, eqb, cond, Bool, true, false, Option, Some, None, List, [], ◌∷◌, arith, length-append}
use Rattle.std.proofs.lemmas.Bool.{cases_order}
use Rattle.regular_algebra.specs.Words.{Word, HasWord}
use Rattle.regular_algebra.specs.Rule.{Table, next, made, turned, turn, row, rows, cleared, passed, passed_by}
use Rattle.regular_algebra.specs.declared.steps.Step.{Step}
use Rattle.regular_algebra.specs.declared.steps.Step.TheVariants.{Star}
use Rattle.regular_algebra.proofs.Ways.{Between, Many, none, Via, between-grow, many-grow, many-empty}
use Rattle.regular_algebra.proofs.Values.{star-words}
use Rattle.regular_algebra.proofs.Tables.{Holds, Joined, holds-iff, holds-made, holds-through, has_some, either_tells}

-- for each pair of D, neither of which is p, the words through p come to those of M
abbrev pub Past : (ℕ → List ℕ → ℕ → Type 0) → ℕ → (List ℕ → Type 0) → (ℕ → ℕ → Type 0) → ℕ → List ℕ → ℕ → Type 0
Past M p K D a w b = M a w b ⊎ (D a b × (a ≢ p) × (b ≢ p) × Between (λ x. M a x p) K (λ z. M p z b) w)

-- the pairs may be told otherwise
past-iff : (M : ℕ → List ℕ → ℕ → Type 0) (p : ℕ) (K : List ℕ → Type 0) (D E : ℕ → ℕ → Type 0) → ((a b : ℕ) → D a b ↔ E a b)
    → (a : ℕ) (w : List ℕ) (b : ℕ) → Past M p K D a w b ↔ Past M p K E a w b
past-iff M p K D E f a w b = (
  λ k. elim k [ inl m ↦ inl m | inr r ↦ inr ((f a b).0 r.0, r.1, r.2, r.3) ],
  λ k. elim k [ inl m ↦ inl m | inr r ↦ inr ((f a b).1 r.0, r.1, r.2, r.3) ],
)

-- no value has no word
no_word : (n : ℕ) (steps : List Step) (o : Option ℕ) (w : List ℕ) → o ≡ None → HasWord n steps o w → ⊥
no_word n steps None w e h = h
no_word n steps (Some v) w e h = cc

-- a turn brings the words through p to entry (i, j)
turned_holds : (n p : ℕ) (star : Option ℕ) (K : List ℕ → Type 0) (i j : ℕ) (t : Table) (N : ℕ → List ℕ → ℕ → Type 0) → Holds n star K t N
    → (left right : Option ℕ) → t.entry i p ≡ left → t.entry p j ≡ right
    → Holds n star K (turned n star i j t left right) (Joined N i j (Between (λ x. N i x p) K (λ z. N p z j)))
turned_holds n p star K i j t N h None right e f =
    holds-iff n star K t N (Joined N i j (Between (λ x. N i x p) K (λ z. N p z j))) (λ a w b. (
      λ m. inl m,
      λ k.
          elim k [ inl m ↦ m | inr r ↦ absurd (no_word n t.steps (t.entry i p) r.2.x e ((h.words i p r.2.x).1 r.2.begins)) ],
    )) h
turned_holds n p star K i j t N h (Some a) None e f =
    holds-iff n star K t N (Joined N i j (Between (λ x. N i x p) K (λ z. N p z j))) (λ a w b. (
      λ m. inl m,
      λ k.
          elim k [ inl m ↦ m | inr r ↦ absurd (no_word n t.steps (t.entry p j) r.2.z f ((h.words p j r.2.z).1 r.2.ends)) ],
    )) h
turned_holds n p star K i j t N h (Some a) (Some b) e f =
    holds-through n star K t N i j a b (λ x. N i x p) (λ z. N p z j) h (h.low i p a e) (h.low p j b f)
    (λ w. let q = has_some n t.steps (t.entry i p) a w e in (λ u. (h.words i p w).0 (q.1 u), λ m. q.0 ((h.words i p w).1 m)))
    (λ w. let q = has_some n t.steps (t.entry p j) b w f in (λ u. (h.words p j w).0 (q.1 u), λ m. q.0 ((h.words p j w).1 m)))

-- p's own row and column are as before
past_into : (M : ℕ → List ℕ → ℕ → Type 0) (p : ℕ) (K : List ℕ → Type 0) (D : ℕ → ℕ → Type 0) (i : ℕ) (x : List ℕ) → Past M p K D i x p → M i x p
past_into M p K D i x (inl m) = m
past_into M p K D i x (inr r) = absurd (r.2 refl)

past_out : (M : ℕ → List ℕ → ℕ → Type 0) (p : ℕ) (K : List ℕ → Type 0) (D : ℕ → ℕ → Type 0) (j : ℕ) (x : List ℕ) → Past M p K D p x j → M p x j
past_out M p K D j x (inl m) = m
past_out M p K D j x (inr r) = absurd (r.1 refl)

-- with the words through p at (i, j), that pair is done
turn_iff : (M : ℕ → List ℕ → ℕ → Type 0) (p : ℕ) (K : List ℕ → Type 0) (D : ℕ → ℕ → Type 0) (i j : ℕ) → (i ≡ p → ⊥) → (j ≡ p → ⊥)
    → (a : ℕ) (w : List ℕ) (b : ℕ)
    → Joined (Past M p K D) i j (Between (λ x. Past M p K D i x p) K (λ z. Past M p K D p z j)) a w b
    ↔ Past M p K (λ a b. D a b ⊎ ((a ≡ i) × (b ≡ j))) a w b
turn_iff M p K D i j ni nj a w b = (
  λ k.
      elim k [
        | inl (inl m) ↦ inl m
        | inl (inr r) ↦ inr (inl r.0, r.1, r.2, r.3)
        | inr r ↦
            inr (
              inr (r.0, r.1),
              λ e. ni (sym r.0 ∙ e),
              λ e. nj (sym r.1 ∙ e),
              between-grow (λ x. Past M p K D i x p) K (λ z. Past M p K D p z j) (λ x. M a x p) K (λ z. M p z b)
                  (λ x h. subst (λ c. M c x p) (sym r.0) (past_into M p K D i x h)) (λ x h. h) (λ x h. subst (λ c. M p x c) (sym r.1) (past_out M p K D j x h)) w r.2,
            )
      ],
  λ k.
      elim k [
        | inl m ↦ inl (inl m)
        | inr r ↦
            elim r.0 [
              | inl d ↦ inl (inr (d, r.1, r.2, r.3))
              | inr e ↦
                  inr (
                    e.0,
                    e.1,
                    between-grow (λ x. M a x p) K (λ z. M p z b) (λ x. Past M p K D i x p) K (λ z. Past M p K D p z j)
                        (λ x h. inl (subst (λ c. M c x p) e.0 h)) (λ x h. h) (λ x h. inl (subst (λ c. M p x c) e.1 h)) w r.3,
                  )
            ]
      ],
)

-- a pair of p itself has nothing to do
skip_iff : (M : ℕ → List ℕ → ℕ → Type 0) (p : ℕ) (K : List ℕ → Type 0) (D : ℕ → ℕ → Type 0) (i j : ℕ) → (i ≡ p) ⊎ (j ≡ p)
    → (a : ℕ) (w : List ℕ) (b : ℕ) → Past M p K D a w b ↔ Past M p K (λ a b. D a b ⊎ ((a ≡ i) × (b ≡ j))) a w b
skip_iff M p K D i j s a w b = (
  λ k. elim k [ inl m ↦ inl m | inr r ↦ inr (inl r.0, r.1, r.2, r.3) ],
  λ k.
      elim k [
        | inl m ↦ inl m
        | inr r ↦
            elim r.0 [
              | inl d ↦ inr (d, r.1, r.2, r.3)
              | inr e ↦ absurd (elim s [ inl u ↦ r.1 (e.0 ∙ u) | inr u ↦ r.2 (e.1 ∙ u) ])
            ]
      ],
)

-- a turn, made or skipped
turn_holds : (n p : ℕ) (star : Option ℕ) (K : List ℕ → Type 0) (i j : ℕ) (t : Table) (M : ℕ → List ℕ → ℕ → Type 0) (D : ℕ → ℕ → Type 0)
    → Holds n star K t (Past M p K D) → (c : Bool) → ((c ≡ true) × ((i ≡ p) ⊎ (j ≡ p))) ⊎ ((c ≡ false) × (i ≡ p → ⊥) × (j ≡ p → ⊥))
    → Holds n star K (cond c t (turned n star i j t (t.entry i p) (t.entry p j))) (Past M p K (λ a b. D a b ⊎ ((a ≡ i) × (b ≡ j))))
turn_holds n p star K i j t M D h true (inl s) =
    holds-iff n star K t (Past M p K D) (Past M p K (λ a b. D a b ⊎ ((a ≡ i) × (b ≡ j)))) (skip_iff M p K D i j s.1) h
turn_holds n p star K i j t M D h true (inr s) = absurd (let e = s.0 in cc)
turn_holds n p star K i j t M D h false (inl s) = absurd (let e = s.0 in cc)
turn_holds n p star K i j t M D h false (inr s) =
    holds-iff n star K (turned n star i j t (t.entry i p) (t.entry p j))
    (Joined (Past M p K D) i j (Between (λ x. Past M p K D i x p) K (λ z. Past M p K D p z j)))
    (Past M p K (λ a b. D a b ⊎ ((a ≡ i) × (b ≡ j)))) (turn_iff M p K D i j s.1 s.2)
    (turned_holds n p star K i j t (Past M p K D) h (t.entry i p) (t.entry p j) refl refl)

-- after a turn one more pair is done
pub holds-turn : (n p : ℕ) (star : Option ℕ) (K : List ℕ → Type 0) (i j : ℕ) (t : Table) (M : ℕ → List ℕ → ℕ → Type 0) (D : ℕ → ℕ → Type 0)
    → Holds n star K t (Past M p K D) → Holds n star K (turn n p star i j t) (Past M p K (λ a b. D a b ⊎ ((a ≡ i) × (b ≡ j))))
unfolding turn
holds-turn n p star K i j t M D h = turn_holds n p star K i j t M D h (eqb i p || eqb j p) (either_tells i j p)

-- no pair of a row is done at first
none_below : (D : ℕ → ℕ → Type 0) (i a b : ℕ) → D a b ↔ (D a b ⊎ ((a ≡ i) × (b < 0)))
none_below D i a b = (λ d. inl d, λ k. elim k [ inl d ↦ d | inr r ↦ let l = r.1 in absurd (omega arith) ])

-- one more pair of a row is done
one_more : (D : ℕ → ℕ → Type 0) (i j a b : ℕ) → ((D a b ⊎ ((a ≡ i) × (b < j))) ⊎ ((a ≡ i) × (b ≡ j))) ↔ (D a b ⊎ ((a ≡ i) × (b < suc j)))
one_more D i j a b = (
  λ k.
      elim k [
        | inl (inl d) ↦ inl d
        | inl (inr r) ↦ let l = r.1 in inr (r.0, omega arith)
        | inr r ↦ let l = r.1 in inr (r.0, omega arith)
      ],
  λ k.
      elim k [
        | inl d ↦ inl (inl d)
        | inr r ↦
            let l = r.1 in
            elim (cases_order b j) [ inl e ↦ inr (r.0, e) | inr (inl u) ↦ inl (inr (r.0, u)) | inr (inr u) ↦ absurd (omega arith) ]
      ],
)

-- after a row its pairs are done
pub holds-row : (n p : ℕ) (star : Option ℕ) (K : List ℕ → Type 0) (i j : ℕ) (t : Table) (M : ℕ → List ℕ → ℕ → Type 0) (D : ℕ → ℕ → Type 0)
    → Holds n star K t (Past M p K D) → Holds n star K (row n p star i j t) (Past M p K (λ a b. D a b ⊎ ((a ≡ i) × (b < j))))
unfolding row
holds-row n p star K i zero t M D h =
    holds-iff n star K t (Past M p K D) (Past M p K (λ a b. D a b ⊎ ((a ≡ i) × (b < 0)))) (past-iff M p K D (λ a b. D a b ⊎ ((a ≡ i) × (b < 0))) (none_below D i)) h
holds-row n p star K i (suc j) t M D h =
    holds-iff n star K (turn n p star i j (row n p star i j t)) (Past M p K (λ a b. (D a b ⊎ ((a ≡ i) × (b < j))) ⊎ ((a ≡ i) × (b ≡ j))))
    (Past M p K (λ a b. D a b ⊎ ((a ≡ i) × (b < suc j))))
    (past-iff M p K (λ a b. (D a b ⊎ ((a ≡ i) × (b < j))) ⊎ ((a ≡ i) × (b ≡ j))) (λ a b. D a b ⊎ ((a ≡ i) × (b < suc j))) (one_more D i j))
    (holds-turn n p star K i j (row n p star i j t) M (λ a b. D a b ⊎ ((a ≡ i) × (b < j))) (holds-row n p star K i j t M D h))

-- no pair is done at first
none_yet : (M : ℕ → List ℕ → ℕ → Type 0) (p : ℕ) (K : List ℕ → Type 0) (count a : ℕ) (w : List ℕ) (b : ℕ)
    → M a w b ↔ Past M p K (λ a b. (a < 0) × (b < count)) a w b
none_yet M p K count a w b = (λ m. inl m, λ k. elim k [ inl m ↦ m | inr r ↦ let l = r.0.0 in absurd (omega arith) ])

-- one more row is done
row_more : (count i a b : ℕ) → (((a < i) × (b < count)) ⊎ ((a ≡ i) × (b < count))) ↔ ((a < suc i) × (b < count))
row_more count i a b = (
  λ k. elim k [ inl r ↦ let l = r.0 in (omega arith, r.1) | inr r ↦ let l = r.0 in (omega arith, r.1) ],
  λ r.
      let l = r.0 in
      elim (cases_order a i) [ inl e ↦ inr (e, r.1) | inr (inl u) ↦ inl (u, r.1) | inr (inr u) ↦ absurd (omega arith) ],
)

-- after all rows below i their pairs are done
pub holds-rows : (n p : ℕ) (star : Option ℕ) (K : List ℕ → Type 0) (count i : ℕ) (t : Table) (M : ℕ → List ℕ → ℕ → Type 0)
    → Holds n star K t M → Holds n star K (rows n p star count i t) (Past M p K (λ a b. (a < i) × (b < count)))
unfolding rows
holds-rows n p star K count zero t M h = holds-iff n star K t M (Past M p K (λ a b. (a < 0) × (b < count))) (none_yet M p K count) h
holds-rows n p star K count (suc i) t M h =
    holds-iff n star K (row n p star i count (rows n p star count i t)) (Past M p K (λ a b. ((a < i) × (b < count)) ⊎ ((a ≡ i) × (b < count))))
    (Past M p K (λ a b. (a < suc i) × (b < count)))
    (past-iff M p K (λ a b. ((a < i) × (b < count)) ⊎ ((a ≡ i) × (b < count))) (λ a b. (a < suc i) × (b < count)) (row_more count i))
    (holds-row n p star K i count (rows n p star count i t) M (λ a b. (a < i) × (b < count)) (holds-rows n p star K count i t M h))

-- the empty word
abbrev pub IsEmpty : List ℕ → Type 0
IsEmpty w = w ≡ []

-- without a star only the empty word turns
pub unstarred : (n : ℕ) (star : Option ℕ) (K : List ℕ → Type 0) (t : Table) (M : ℕ → List ℕ → ℕ → Type 0) → Holds n star K t M → Holds n None IsEmpty t M
unstarred n star K t M h =
    record { low = h.low; star_low = λ v e. absurd (cc); names_lower = h.names_lower; words = h.words; star_words = λ w. (λ e. e, λ e. e) }

-- the words of a pass: those of before, and those through p between other nodes
abbrev pub Passed : (ℕ → List ℕ → ℕ → Type 0) → ℕ → ℕ → List ℕ → ℕ → Type 0
Passed M p a w b = M a w b ⊎ ((a ≢ p) × (b ≢ p) × Via M p a b w)

-- all pairs of nodes are done
past_all : (M : ℕ → List ℕ → ℕ → Type 0) (p count : ℕ) → ((a : ℕ) (w : List ℕ) (b : ℕ) → M a w b → (a < count) × (b < count))
    → (a : ℕ) (w : List ℕ) (b : ℕ) → Past M p (Many (λ u. M p u p)) (λ a b. (a < count) × (b < count)) a w b ↔ Passed M p a w b
past_all M p count f a w b = (
  λ k. elim k [ inl m ↦ inl m | inr r ↦ inr (r.1, r.2, r.3) ],
  λ k.
      elim k [
        | inl m ↦ inl m
        | inr r ↦ let v = r.2 in inr (((f a v.x p v.begins).0, (f p v.z b v.ends).1), r.0, r.1, r.2)
      ],
)

-- after a pass, with its star, all pairs are done
passed_holds : (n count p : ℕ) (t : Table) (M : ℕ → List ℕ → ℕ → Type 0) → Holds n None IsEmpty t M → (o : Option ℕ) → t.entry p p ≡ o
    → (star : Option ℕ) × Holds n star (Many (λ u. M p u p)) (passed_by n count p t o) (Past M p (Many (λ u. M p u p)) (λ a b. (a < count) × (b < count)))
unfolding made
passed_holds n count p t M h None e =
    let empty : (x : List ℕ) → M p x p → ⊥ = λ x m. no_word n t.steps (t.entry p p) x e ((h.words p p x).1 m) in
    let here : Holds n None (Many (λ u. M p u p)) t M =
    record {
      low = h.low;
      star_low = h.star_low;
      names_lower = h.names_lower;
      words = h.words;
      star_words = λ w. (λ d. subst (Many (λ u. M p u p)) (sym d) none, λ m. many-empty (λ u. M p u p) empty m);
    } in
    (None, holds-rows n p None (Many (λ u. M p u p)) count count t M here)
passed_holds n count p t M h (Some v) e =
    let l = h.low p p v e in
    let k = holds-made n None IsEmpty t M (Star v) h l in
    let here : Holds n (Some (next n t)) (Many (λ u. M p u p)) (made (Star v) t) M =
    record {
      low = k.low;
      star_low = λ u d. let s : next n t ≡ u = cc in omega (arith, s, length-append t.steps (Star v ∷ []));
      names_lower = k.names_lower;
      words = k.words;
      star_words = λ w.
          let q = star-words n t.steps h.names_lower v l w in (
            λ u. many-grow (Word n t.steps v) (λ x. M p x p) (λ x d. (h.words p p x).0 ((has_some n t.steps (t.entry p p) v x e).1 d)) (q.0 u),
            λ m. q.1 (many-grow (λ x. M p x p) (Word n t.steps v) (λ x d. (has_some n t.steps (t.entry p p) v x e).0 ((h.words p p x).1 d)) m),
          );
    } in
    (Some (next n t), holds-rows n p (Some (next n t)) (Many (λ u. M p u p)) count count (made (Star v) t) M here)

-- a pass adds the words through p
pub holds-passed : (n count p : ℕ) (t : Table) (M : ℕ → List ℕ → ℕ → Type 0) → ((a : ℕ) (w : List ℕ) (b : ℕ) → M a w b → (a < count) × (b < count))
    → Holds n None IsEmpty t M → Holds n None IsEmpty (passed n count p t) (Passed M p)
unfolding passed
holds-passed n count p t M f h =
    let r = passed_holds n count p t M h (t.entry p p) refl in
    let u = unstarred n r.0 (Many (λ u. M p u p)) (passed_by n count p t (t.entry p p)) (Past M p (Many (λ u. M p u p)) (λ a b. (a < count) × (b < count))) r.1 in
    holds-iff n None IsEmpty (passed_by n count p t (t.entry p p)) (Past M p (Many (λ u. M p u p)) (λ a b. (a < count) × (b < count))) (Passed M p) (past_all M p count f) u

-- a cleared entry has no value
cleared_low : (c : Bool) (bound : ℕ) (o : Option ℕ) → ((u : ℕ) → o ≡ Some u → u < bound) → (u : ℕ) → cond c None o ≡ Some u → u < bound
cleared_low true bound o f u e = absurd (cc)
cleared_low false bound o f u e = f u e

-- a cleared entry has no words
cleared_words : (n : ℕ) (steps : List Step) (c : Bool) (o : Option ℕ) (w : List ℕ) (a b p : ℕ) (N : Type 0) → HasWord n steps o w ↔ N
    → ((c ≡ true) × ((a ≡ p) ⊎ (b ≡ p))) ⊎ ((c ≡ false) × (a ≡ p → ⊥) × (b ≡ p → ⊥))
    → HasWord n steps (cond c None o) w ↔ ((a ≢ p) × (b ≢ p) × N)
cleared_words n steps true o w a b p N f (inl s) = (λ h. absurd h, λ r. elim s.1 [ inl e ↦ r.0 e | inr e ↦ r.1 e ])
cleared_words n steps true o w a b p N f (inr s) = absurd (let e = s.0 in cc)
cleared_words n steps false o w a b p N f (inl s) = absurd (let e = s.0 in cc)
cleared_words n steps false o w a b p N f (inr s) = (λ h. (s.1, s.2, f.0 h), λ r. f.1 r.2)

-- once p is cleared its entries have no words
pub holds-cleared : (n p : ℕ) (t : Table) (N : ℕ → List ℕ → ℕ → Type 0) → Holds n None IsEmpty t N
    → Holds n None IsEmpty (cleared p t) (λ a w b. (a ≢ p) × (b ≢ p) × N a w b)
unfolding cleared
holds-cleared n p t N h =
    record {
      low = λ i j v e. cleared_low (eqb i p || eqb j p) (next n t) (t.entry i j) (h.low i j) v e;
      star_low = h.star_low;
      names_lower = h.names_lower;
      words = λ i j w. cleared_words n t.steps (eqb i p || eqb j p) (t.entry i j) w i j p (N i w j) (h.words i j w) (either_tells i j p);
      star_words = h.star_words;
    }
