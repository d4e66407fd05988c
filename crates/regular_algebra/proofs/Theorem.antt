-- The words of each answer of the finished table are exactly the paths.
use Rattle.std.proofs.Common.{◌≡◌, ◌≢◌, refl, sym, ap, ap₂, ◌∙◌, subst, ℕ, zero, suc, ◌+◌, ◌<◌, ◌≤◌, ◌⊎◌, ◌↔◌, inl, inr, Option, Some, None, List, [], ◌∷◌, length, slice_get, map, fold, arith}
use Rattle.std.proofs.lemmas.Bool.{cases_order}
use Rattle.std.proofs.lemmas.Option.{slice_get_within}
use Rattle.regular_algebra.specs.Paths.{IsArc, Path}
use Rattle.regular_algebra.specs.Words.{Word, of_arc, HasWord, EachNamesLower}
use Rattle.regular_algebra.specs.Answers.{IsAmong, Differ, FitsArcs, IsAnswer, AreAnswers}
use Rattle.regular_algebra.specs.Rule.{Table, blank, joined, taken, entered, passed, eliminated, finished}
use Rattle.regular_algebra.specs.declared.steps.Ends.{Ends}
use Rattle.regular_algebra.specs.declared.steps.Step.{Step}
use Rattle.regular_algebra.proofs.Ways.{Way, direct, onward, Many, Via, Also, way-via, way-split, way-grow, way-below, way-path, path-way, between-grow, many-grow}
use Rattle.regular_algebra.proofs.Values.{word-arc, some-word}
use Rattle.regular_algebra.proofs.Tables.{Holds, Joined, holds-iff, holds-joined}
use Rattle.regular_algebra.proofs.Passes.{IsEmpty, Passed, holds-passed, holds-cleared}

-- ways between nodes that are not in G, through nodes of G
abbrev pub Open : List Ends → (ℕ → Type 0) → ℕ → List ℕ → ℕ → Type 0
Open arcs G i w j = (G i → ⊥) × (G j → ⊥) × Way arcs G i w j

-- what is left of M once p is eliminated
abbrev pub Gone : (ℕ → List ℕ → ℕ → Type 0) → ℕ → ℕ → List ℕ → ℕ → Type 0
Gone M p a w b = (a ≢ p) × (b ≢ p) × Passed M p a w b

-- through p by open ways is through p
open_via : (arcs : List Ends) (G : ℕ → Type 0) (p a b : ℕ) (w : List ℕ) → Via (Open arcs G) p a b w → Via (Way arcs G) p a b w
open_via arcs G p a b w v =
    between-grow (λ x. Open arcs G a x p) (Many (λ u. Open arcs G p u p)) (λ z. Open arcs G p z b)
    (λ x. Way arcs G a x p) (Many (λ u. Way arcs G p u p)) (λ z. Way arcs G p z b)
    (λ x h. h.2) (λ x m. many-grow (λ u. Open arcs G p u p) (λ u. Way arcs G p u p) (λ u h. h.2) m) (λ x h. h.2) w v

-- through p is through p by open ways
via_open : (arcs : List Ends) (G : ℕ → Type 0) (p a b : ℕ) (w : List ℕ) → (G p → ⊥) → (G a → ⊥) → (G b → ⊥) → Via (Way arcs G) p a b w → Via (Open arcs G) p a b w
via_open arcs G p a b w np na nb v =
    between-grow (λ x. Way arcs G a x p) (Many (λ u. Way arcs G p u p)) (λ z. Way arcs G p z b)
    (λ x. Open arcs G a x p) (Many (λ u. Open arcs G p u p)) (λ z. Open arcs G p z b)
    (λ x h. (na, np, h)) (λ x m. many-grow (λ u. Way arcs G p u p) (λ u. Open arcs G p u p) (λ u h. (np, np, h)) m) (λ x h. (np, nb, h)) w v

-- eliminating p opens the ways through p
open-gone : (arcs : List Ends) (G : ℕ → Type 0) (p : ℕ) → (G p → ⊥) → (a : ℕ) (w : List ℕ) (b : ℕ) → Gone (Open arcs G) p a w b ↔ Open arcs (Also G p) a w b
open-gone arcs G p np a w b = (
  λ r.
      elim r.2 [
        | inl m ↦ (
          λ k. elim k [ inl g ↦ m.0 g | inr e ↦ r.0 e ],
          λ k. elim k [ inl g ↦ m.1 g | inr e ↦ r.1 e ],
          way-grow arcs G (Also G p) (λ c g. inl g) m.2,
        )
        | inr s ↦
            let v = s.2 in (
              λ k. elim k [ inl g ↦ v.begins.0 g | inr e ↦ r.0 e ],
              λ k. elim k [ inl g ↦ v.ends.1 g | inr e ↦ r.1 e ],
              way-via arcs G p a b w (open_via arcs G p a b w v),
            )
      ],
  λ r.
      let na : G a → ⊥ = λ g. r.0 (inl g) in
      let nb : G b → ⊥ = λ g. r.1 (inl g) in
      let ap : a ≢ p = λ e. r.0 (inr e) in
      let bp : b ≢ p = λ e. r.1 (inr e) in (
        ap,
        bp,
        elim (way-split arcs G p r.2) [
          | inl u ↦ inl (na, nb, u)
          | inr v ↦ inr (ap, bp, via_open arcs G p a b w np na nb v)
        ],
      ),
)

-- once p is eliminated, what is left of M holds
pub holds-eliminated : (n count p : ℕ) (t : Table) (M : ℕ → List ℕ → ℕ → Type 0) → ((a : ℕ) (w : List ℕ) (b : ℕ) → M a w b → (a < count) × (b < count))
    → Holds n None IsEmpty t M → Holds n None IsEmpty (eliminated n count t p) (Gone M p)
unfolding eliminated
holds-eliminated n count p t M f h = holds-cleared n p (passed n count p t) (Passed M p) (holds-passed n count p t M f h)

-- open ways are between nodes
pub open-below : (arcs : List Ends) (G : ℕ → Type 0) (count : ℕ) → ((k i j : ℕ) → IsArc arcs k i j → (i < count) × (j < count))
    → (a : ℕ) (w : List ℕ) (b : ℕ) → Open arcs G a w b → (a < count) × (b < count)
open-below arcs G count f a w b h = way-below arcs G count f h.2

-- once p is eliminated the ways through p hold
pub holds-one : (n count : ℕ) (arcs : List Ends) (G : ℕ → Type 0) (p : ℕ) (t : Table) → ((k i j : ℕ) → IsArc arcs k i j → (i < count) × (j < count)) → (G p → ⊥)
    → Holds n None IsEmpty t (Open arcs G) → Holds n None IsEmpty (eliminated n count t p) (Open arcs (Also G p))
holds-one n count arcs G p t f np h =
    holds-iff n None IsEmpty (eliminated n count t p) (Gone (Open arcs G) p) (Open arcs (Also G p)) (open-gone arcs G p np)
    (holds-eliminated n count p t (Open arcs G) (open-below arcs G count f) h)

-- the nodes of G and those of the order
abbrev pub Gathered : (ℕ → Type 0) → List ℕ → ℕ → Type 0
Gathered G [] a = G a
Gathered G (p ∷ ps) a = Gathered (Also G p) ps a

-- a gathered node is of G or of the order
pub gathered-back : (G : ℕ → Type 0) (order : List ℕ) (a : ℕ) → Gathered G order a → G a ⊎ IsAmong order a
gathered-back G [] a g = inl g
gathered-back G (p ∷ ps) a g =
    elim (gathered-back (Also G p) ps a g) [ inl (inl h) ↦ inl h | inl (inr e) ↦ inr (inl (sym e)) | inr i ↦ inr (inr i) ]

-- a node of G is gathered
gathered-old : (G : ℕ → Type 0) (order : List ℕ) (a : ℕ) → G a → Gathered G order a
gathered-old G [] a g = g
gathered-old G (p ∷ ps) a g = gathered-old (Also G p) ps a (inl g)

-- a node of the order is gathered
pub gathered-new : (G : ℕ → Type 0) (order : List ℕ) (a : ℕ) → IsAmong order a → Gathered G order a
gathered-new G [] a i = absurd i
gathered-new G (p ∷ ps) a (inl e) = gathered-old (Also G p) ps a (inr (sym e))
gathered-new G (p ∷ ps) a (inr i) = gathered-new (Also G p) ps a i

-- the rest of the order is not gathered yet
pub rest_fresh : (G : ℕ → Type 0) (p : ℕ) (ps : List ℕ) → Differ (p ∷ ps) → ((q : ℕ) → IsAmong (p ∷ ps) q → G q → ⊥) → (q : ℕ) → IsAmong ps q → Also G p q → ⊥
rest_fresh G p ps d f q i (inl g) = f q (inr i) g
rest_fresh G p ps d f q i (inr e) = d.0 (subst (IsAmong ps) e i)

-- once the order is eliminated the ways through it hold
pub holds-fold : (n count : ℕ) (arcs : List Ends) → ((k i j : ℕ) → IsArc arcs k i j → (i < count) × (j < count)) → (order : List ℕ) (G : ℕ → Type 0) (t : Table)
    → Differ order → ((q : ℕ) → IsAmong order q → G q → ⊥) → Holds n None IsEmpty t (Open arcs G)
    → Holds n None IsEmpty (fold (eliminated n count) t order) (Open arcs (Gathered G order))
holds-fold n count arcs f [] G t d fresh h = h
holds-fold n count arcs f (p ∷ ps) G t d fresh h =
    holds-fold n count arcs f ps (Also G p) (eliminated n count t p) d.1 (rest_fresh G p ps d fresh)
    (holds-one n count arcs G p t f (fresh p (inl refl)) h)

-- the first k arcs, each alone
abbrev pub Arcs : List Ends → ℕ → ℕ → List ℕ → ℕ → Type 0
Arcs arcs k a w b = (l : ℕ) × (l < k) × (w ≡ l ∷ []) × IsArc arcs l a b

-- one more arc
arcs_iff : (arcs : List Ends) (k : ℕ) (e : Ends) → slice_get arcs k ≡ Some e → (a : ℕ) (w : List ℕ) (b : ℕ)
    → Joined (Arcs arcs k) e.tail e.head (λ w. w ≡ k ∷ []) a w b ↔ Arcs arcs (suc k) a w b
arcs_iff arcs k e h a w b = (
  λ s.
      elim s [
        | inl m ↦ let l = m.1 in (m.0, omega arith, m.2, m.3)
        | inr r ↦
            let ends_of : ℕ → ℕ → Ends = λ x y. record { tail = x; head = y } in
            let same : ◌≡◌ {A = Ends} e (record { tail = a; head = b }) = ap₂ ends_of (sym r.0) (sym r.1) in
            (k, omega arith, r.2, h ∙ ap Some same)
      ],
  λ m.
      let l = m.1 in
      elim (cases_order m.0 k) [
        | inl s ↦
            let got : slice_get arcs k ≡ Some (record { tail = a; head = b }) = subst (λ x. IsArc arcs x a b) s m.3 in
            let same : ◌≡◌ {A = Option Ends} (Some e) (Some (record { tail = a; head = b })) = sym h ∙ got in
            inr (tail_of same, head_of same, m.2 ∙ ap (λ x. x ∷ []) s)
        | inr (inl u) ↦ inl (m.0, u, m.2, m.3)
        | inr (inr u) ↦ absurd (omega arith)
      ],
)
  where
    tail_of : ◌≡◌ {A = Option Ends} (Some e) (Some (record { tail = a; head = b })) → a ≡ e.tail
    tail_of s = let t : ◌≡◌ {A = Ends} e (record { tail = a; head = b }) = cc in sym (ap (λ (x : Ends). x.tail) t)

    head_of : ◌≡◌ {A = Option Ends} (Some e) (Some (record { tail = a; head = b })) → b ≡ e.head
    head_of s = let t : ◌≡◌ {A = Ends} e (record { tail = a; head = b }) = cc in sym (ap (λ (x : Ends). x.head) t)

-- one more arc is entered
taken_holds : (arcs : List Ends) (k : ℕ) (t : Table) → k < length arcs → Holds (length arcs) None IsEmpty t (Arcs arcs k) → (o : Option Ends) → slice_get arcs k ≡ o
    → Holds (length arcs) None IsEmpty (taken (length arcs) k t o) (Arcs arcs (suc k))
taken_holds arcs k t l h None e = absurd (past arcs k l e)
  where
    past : (xs : List Ends) (k : ℕ) → k < length xs → slice_get xs k ≡ None → ⊥
    past [] k l e = omega arith
    past (x ∷ xs) zero l e = cc
    past (x ∷ xs) (suc k) l e = past xs k (omega arith) e
taken_holds arcs k t l h (Some e) g =
    holds-iff (length arcs) None IsEmpty (joined (length arcs) e.tail e.head k t) (Joined (Arcs arcs k) e.tail e.head (λ w. w ≡ k ∷ [])) (Arcs arcs (suc k)) (arcs_iff arcs k e g)
    (holds-joined (length arcs) None IsEmpty t (Arcs arcs k) e.tail e.head k (λ w. w ≡ k ∷ []) h (omega arith) (λ w. (
      λ u. word-arc (length arcs) t.steps u l,
      λ s. subst (Word (length arcs) t.steps k) (sym s) (of_arc k l),
    )))

-- a blank table has no words
holds_blank : (arcs : List Ends) → Holds (length arcs) None IsEmpty blank (Arcs arcs 0)
unfolding blank
holds_blank arcs =
    record {
      low = λ i j v e. absurd (cc);
      star_low = λ v e. absurd (cc);
      names_lower = λ k s e. absurd (cc);
      words = λ i j w. (λ h. absurd h, λ m. let l = m.1 in absurd (omega arith));
      star_words = λ w. (λ e. e, λ e. e);
    }

-- the first k arcs are entered
pub holds-entered : (arcs : List Ends) (k : ℕ) → k ≤ length arcs → Holds (length arcs) None IsEmpty (entered arcs k) (Arcs arcs k)
unfolding entered
holds-entered arcs zero l = holds_blank arcs
holds-entered arcs (suc k) l = taken_holds arcs k (entered arcs k) l (holds-entered arcs k (omega arith)) (slice_get arcs k) refl

-- no node
abbrev pub Nowhere : ℕ → Type 0
Nowhere a = ⊥

-- an arc alone is a way without inner nodes
arcs_open : (arcs : List Ends) (a : ℕ) (w : List ℕ) (b : ℕ) → Arcs arcs (length arcs) a w b ↔ Open arcs Nowhere a w b
arcs_open arcs a w b = (
  λ m. (λ g. g, λ g. g, subst (λ s. Way arcs Nowhere a s b) (sym m.2) (direct a m.0 b m.3)),
  λ r. one arcs r.2,
)
  where
    one : (arcs : List Ends) {a b : ℕ} {w : List ℕ} → Way arcs Nowhere a w b → Arcs arcs (length arcs) a w b
    one arcs (direct i k j h) = (k, slice_get_within arcs k (record { tail = i; head = j }) h, refl, h)
    one arcs (onward i k m j w h g u) = absurd g

-- once all arcs are entered the ways without inner nodes hold
pub holds-begun : (arcs : List Ends) → Holds (length arcs) None IsEmpty (entered arcs (length arcs)) (Open arcs Nowhere)
holds-begun arcs =
    holds-iff (length arcs) None IsEmpty (entered arcs (length arcs)) (Arcs arcs (length arcs)) (Open arcs Nowhere) (arcs_open arcs)
    (holds-entered arcs (length arcs) (omega arith))

-- the words of each entry of the finished table are the ways through the nodes of the order
pub holds-finished : (count : ℕ) (arcs : List Ends) (order : List ℕ) (start : ℕ) (targets : List ℕ) → FitsArcs count arcs order start targets
    → Holds (length arcs) None IsEmpty (finished count arcs order) (Open arcs (Gathered Nowhere order))
unfolding finished
holds-finished count arcs order start targets fits =
    holds-fold (length arcs) count arcs fits.arcs_below order Nowhere (entered arcs (length arcs)) fits.order_differs (λ q i g. g) (holds-begun arcs)

-- a node that is entered and left is of the order
inner_gone : (count : ℕ) (arcs : List Ends) (order : List ℕ) (start : ℕ) (targets : List ℕ) → FitsArcs count arcs order start targets
    → (m k l i j : ℕ) → IsArc arcs k i m → IsArc arcs l m j → Gathered Nowhere order m
inner_gone count arcs order start targets fits m k l i j a b =
    elim (fits.tails l m j b) [
      | inl e ↦ absurd (elim (fits.heads k i m a) [ inl t ↦ fits.start_no_target (subst (IsAmong targets) e t) | inr o ↦ fits.start_not_in_order (subst (IsAmong order) e o) ])
      | inr o ↦ gathered-new Nowhere order m o
    ]

-- a path between different nodes is an open way
path_open : (arcs : List Ends) (G : ℕ → Type 0) → ((m k l i j : ℕ) → IsArc arcs k i m → IsArc arcs l m j → G m) → (w : List ℕ) (i j : ℕ)
    → (G i → ⊥) → (G j → ⊥) → (i ≡ j → ⊥) → Path arcs i w j → Open arcs G i w j
path_open arcs G inner [] i j ni nj d h = absurd (d h)
path_open arcs G inner (k ∷ w) i j ni nj d h = (ni, nj, path-way arcs G inner w i k h.0 j h.1 h.2)

-- one answer
pub right-answer : (count : ℕ) (arcs : List Ends) (order : List ℕ) (start : ℕ) (targets : List ℕ) → FitsArcs count arcs order start targets → (target : ℕ)
    → IsAmong targets target → IsAnswer arcs (finished count arcs order).steps start target ((finished count arcs order).entry start target)
right-answer count arcs order start targets fits target i =
    let h = holds-finished count arcs order start targets fits in
    let t = finished count arcs order in
    let ns : Gathered Nowhere order start → ⊥ = λ g. elim (gathered-back Nowhere order start g) [ inl a ↦ a | inr o ↦ fits.start_not_in_order o ] in
    let nt : Gathered Nowhere order target → ⊥ = λ g. elim (gathered-back Nowhere order target g) [ inl a ↦ a | inr o ↦ fits.targets_not_in_order target i o ] in
    let d : start ≡ target → ⊥ = λ e. fits.start_no_target (subst (IsAmong targets) (sym e) i) in
    let words : (w : List ℕ) → HasWord (length arcs) t.steps (t.entry start target) w ↔ Path arcs start w target =
    λ w. (
      λ u. way-path arcs (Gathered Nowhere order) ((h.words start target w).0 u).2,
      λ p. (h.words start target w).1 (path_open arcs (Gathered Nowhere order) (inner_gone count arcs order start targets fits) w start target ns nt d p),
    ) in
    record { words = words; none = none_where (length arcs) t.steps h.names_lower (t.entry start target) (h.low start target) (λ w. Path arcs start w target) words }
  where
    none_where : (n : ℕ) (steps : List Step) → EachNamesLower n steps → (o : Option ℕ) → ((v : ℕ) → o ≡ Some v → v < n + length steps) → (P : List ℕ → Type 0)
        → ((w : List ℕ) → HasWord n steps o w ↔ P w) → (o ≡ None) ↔ ((w : List ℕ) → P w → ⊥)
    none_where n steps low None l P f = (λ e w p. (f w).1 p, λ g. refl)
    none_where n steps low (Some v) l P f = (λ e w p. cc, λ g. absurd (let s = some-word n steps low (suc v) v (omega arith) (l v refl) in g s.0 ((f s.0).0 s.1)))

-- so are all answers
some_answers : (arcs : List Ends) (steps : List Step) (start : ℕ) (entry : ℕ → Option ℕ) (targets : List ℕ)
    → ((t : ℕ) → IsAmong targets t → IsAnswer arcs steps start t (entry t)) → AreAnswers arcs steps start targets (map entry targets)
some_answers arcs steps start entry [] f = tt
some_answers arcs steps start entry (t ∷ ts) f = (f t (inl refl), some_answers arcs steps start entry ts (λ u i. f u (inr i)))

-- each answer of the finished table is right
pub right-answers : (count : ℕ) (arcs : List Ends) (order : List ℕ) (start : ℕ) (targets : List ℕ) → FitsArcs count arcs order start targets
    → AreAnswers arcs (finished count arcs order).steps start targets (map (λ t. (finished count arcs order).entry start t) targets)
right-answers count arcs order start targets fits =
    some_answers arcs (finished count arcs order).steps start (λ t. (finished count arcs order).entry start t) targets
    (right-answer count arcs order start targets fits)
