-- The forks of literals, and one beside a core of them.
use Rattle.std.proofs.Common.{◌≡◌, ◌⊎◌, ◌<◌, inl, inr, ◌∙◌, refl, sym, ap, subst, ℕ, zero, suc, ◌+◌, ◌≤◌, ℤ, true, false, Option, Some, None, is_some, List, [], ◌∷◌, ◌++◌, map, take, drop, length, slice_get, arith, All}
use Rattle.std.specs.List.{flat_map}
use Rattle.std.proofs.lemmas.List.{map-append, take-map, drop-map, take-append-drop}
use Rattle.std.proofs.lemmas.Option.{same_Some, slice_get_within}
use Rattle.il_core.specs.LineGraph.{IsIn}
use Rattle.il_core.specs.Places.{AreCheckedPlaces}
use Rattle.il_core.specs.declared.certificate.Cert.{Cert}
use Rattle.il_core.specs.declared.certificate.Item.{Item}
use Rattle.il_core.specs.declared.line.Place.{Place}
use Rattle.il_core.specs.declared.operator.Relation.{Relation}
use Rattle.il_core.specs.declared.operator.Relation.TheVariants.{Eq, Ne, Lt, Le, Gt, Ge}
use Rattle.sym_simplify.specs.Form.{Form}
use Rattle.sym_simplify.specs.Literal.{LiteralForm, always, never, keep, literal_form_of}
use Rattle.sym_simplify.specs.Easy.{multiple_of, IsKept}
use Rattle.sym_simplify.specs.declared.easy.Multiple.{Multiple}
use Rattle.sym_simplify.specs.declared.normal.LitForm.{LitForm}
use Rattle.difference.specs.Answers.{IsSplit}
use Rattle.difference.specs.declared.constraint.Constraint.{Constraint}
use Rattle.difference.specs.declared.constraint.Range64.{Range64}
use Rattle.difference.specs.declared.constraint.Split.{Split}
use Rattle.difference.proofs.Lists.{get_mapped, all_at}
use Rattle.path_inputs.specs.Least.{IsPlainlyRefuted}
use Rattle.path_inputs.specs.Bounding.{range_of, copies, constraints_of, splits_of, constraints_of_literal, splits_of_literal, multiple_reading, splits_in, IsJudged}
use Rattle.path_inputs.proofs.Members.{in-left, in-right, in-either, in-place}
use Rattle.path_inputs.proofs.Elements.{from-map, flat-map_map, get-map, members-all, all-both, all-left, all-right}
use Rattle.path_inputs.proofs.Asked.{AreKept, kept-forms, literals-unrefuted}
use Rattle.cert_rules.specs.Acceptance.{IsAccepted}
use Rattle.il_core.specs.Certificate.{Certificate, certificate_of}
use Rattle.threat_certs.specs.Counting.{AreCounted, fork_at, forks_from, splits_among, copy_items, items_from, IsFork, IsApart, AreForks}
use Rattle.threat_certs.specs.Making.{RefutesForks, IsMade, HaveSolutions, IsAcceptedForks, IsMadeOfAll}
use Rattle.threat_certs.specs.declared.counting.Fork.{Fork}
use Rattle.threat_certs.proofs.Counts.{all-counted, counted-length}

-- the forks of literals that are numbered from i on have numbers from i on
forks-after : (i : ℕ) (gs : List LiteralForm) (f : Fork) → IsIn (forks_from i gs) f → i ≤ f.literal
forks-after i [] f h = absurd h
forks-after i (g ∷ gs) f h = elim (in-either (map (fork_at i) (splits_of g)) (forks_from (suc i) gs) f h) [
  | inl k ↦ let m = from-map (fork_at i) (splits_of g) f k in let e : i ≡ f.literal = ap (λ (x : Fork). x.literal) m.2 in omega arith
  | inr k ↦ let l = forks-after (suc i) gs f k in omega arith
]

pub literal-forks : (fs : List LiteralForm) (i : ℕ) (gs : List LiteralForm) → ((j : ℕ) (f : LiteralForm) → slice_get gs j ≡ Some f → slice_get fs (i + j) ≡ Some f)
    → ((f : LiteralForm) → IsIn gs f → IsKept f) → AreForks fs (forks_from i gs)
literal-forks fs i [] there kept = tt
literal-forks fs i (g ∷ gs) there kept = first g here (kept g (inl refl)) (literal-forks fs (suc i) gs later (λ f k. kept f (inr k)))
  where
    here : slice_get fs i ≡ Some g
    here = let z : i + 0 ≡ i = omega arith in subst (λ k. slice_get fs k ≡ Some g) z (there 0 g refl)

    later : (j : ℕ) (f : LiteralForm) → slice_get gs j ≡ Some f → slice_get fs (suc i + j) ≡ Some f
    later j f e = let y : i + suc j ≡ suc i + j = omega arith in subst (λ k. slice_get fs k ≡ Some f) y (there (suc j) f e)

    apart : IsApart i (forks_from (suc i) gs)
    apart f k e = let l = forks-after (suc i) gs f k in absurd (omega arith)

    by_relation : (n : Form) (b : ℤ) (m : Multiple) (r : Relation) → multiple_of n ≡ Some m → slice_get fs i ≡ Some (keep n r b) → IsKept (keep n r b) → AreForks fs (forks_from (suc i) gs)
        → AreForks fs (map (fork_at i) (splits_in (multiple_reading (Some m) r b)) ++ forks_from (suc i) gs)
    by_relation n b m Eq e t k more = more
    by_relation n b m Ne e t k more = (record { parts = n; bound = b; there = t; kept = k; multiple = m; easy = e; sides = refl }, apart, more)
    by_relation n b m Lt e t k more = more
    by_relation n b m Le e t k more = more
    by_relation n b m Gt e t k more = more
    by_relation n b m Ge e t k more = more

    by_multiple : (n : Form) (r : Relation) (b : ℤ) (o : Option Multiple) → multiple_of n ≡ o → slice_get fs i ≡ Some (keep n r b) → IsKept (keep n r b) → AreForks fs (forks_from (suc i) gs)
        → AreForks fs (map (fork_at i) (splits_in (multiple_reading o r b)) ++ forks_from (suc i) gs)
    by_multiple n r b None e t k more = more
    by_multiple n r b (Some m) e t k more = by_relation n b m r e t k more

    first : (f : LiteralForm) → slice_get fs i ≡ Some f → IsKept f → AreForks fs (forks_from (suc i) gs) → AreForks fs (map (fork_at i) (splits_of f) ++ forks_from (suc i) gs)
    first always t k more = more
    first never t k more = more
    first (keep n r b) t k more = by_multiple n r b (multiple_of n) refl t k more

fork-splits : (i : ℕ) (ss : List Split) → splits_among (map (fork_at i) ss) ≡ ss
fork-splits i [] = refl
fork-splits i (s ∷ ss) = ap (λ x. s ∷ x) (fork-splits i ss)

pub literal-splits : (i : ℕ) (gs : List LiteralForm) → splits_among (forks_from i gs) ≡ flat_map splits_of gs
literal-splits i [] = refl
literal-splits i (g ∷ gs) =
    map-append (λ (f : Fork). f.split) (map (fork_at i) (splits_of g)) (forks_from (suc i) gs)
    ∙ (ap (λ x. x ++ splits_among (forks_from (suc i) gs)) (fork-splits i (splits_of g)) ∙ ap (λ x. splits_of g ++ x) (literal-splits (suc i) gs))

module _ (fs : List LiteralForm) where
  fork-in : (forks : List Fork) (f : Fork) → AreForks fs forks → IsIn forks f → IsFork fs f
  fork-in [] f h k = absurd k
  fork-in (g ∷ forks) f h (inl e) = subst (IsFork fs) e h.0
  fork-in (g ∷ forks) f h (inr k) = fork-in forks f h.2 k

  pub core-forks : (core others : List Fork) → AreForks fs (core ++ others) → AreForks fs core
  core-forks [] others h = tt
  core-forks (f ∷ core) others h = (h.0, (λ g k. h.1 g (in-left core others g k)), core-forks core others h.2)

  apart-core : (core others : List Fork) (f : Fork) → AreForks fs (core ++ others) → IsIn others f → IsApart f.literal core
  apart-core [] others f h i g k = absurd k
  apart-core (c ∷ core) others f h i g (inl e) = λ s. h.1 f (in-right core others f i) (ap (λ (x : Fork). x.literal) e ∙ sym s)
  apart-core (c ∷ core) others f h i g (inr k) = apart-core core others f h.2 i g k

  other-fork : (core others : List Fork) (f : Fork) → AreForks fs (core ++ others) → IsIn others f → IsFork fs f
  other-fork core others f h i = fork-in (core ++ others) f h (in-right core others f i)

  -- one of the others beside the core
  pub beside-core : (core others : List Fork) (f : Fork) → AreForks fs (core ++ others) → IsIn others f → AreForks fs (f ∷ core)
  beside-core core others f h i = (other-fork core others f h i, apart-core core others f h i, core-forks core others h)

module _ (ranges : List Range64) (cs : List Constraint) (items : List Item) (core others : List Fork) (few : length core ≤ 8) where
  pub core-accepted : (cert : Certificate) → RefutesForks ranges cs items core cert → IsAcceptedForks ranges cs items (core ++ others) cert
  core-accepted cert h places pc fs r size counted forks =
      let k = h places pc fs r size counted (core-forks fs core others forks) in
      let l = k.1 in
      record { nested = omega arith; refutes = k.0 }

  pub other-accepted : (cert : Certificate) (j : ℕ) (f : Fork) → slice_get others j ≡ Some f → RefutesForks ranges cs items (f ∷ core) cert → IsAcceptedForks ranges cs items (core ++ others) cert
  other-accepted cert j f there h places pc fs r size counted forks =
      let k = h places pc fs r size counted (beside-core fs core others f forks (in-place others j f there)) in
      let l = k.1 in
      record { nested = omega arith; refutes = k.0 }

  pub core-made : (o : Option Cert) → is_some o ≡ true → IsMade ranges cs items core o → IsMadeOfAll ranges cs items core others o
  core-made None e h = absurd cc
  core-made (Some cert) e h = core-accepted (certificate_of cert) h

  pub other-made : (j : ℕ) (f : Fork) (o : Option Cert) → slice_get others j ≡ Some f → is_some o ≡ true → IsMade ranges cs items (f ∷ core) o → IsMadeOfAll ranges cs items core others o
  other-made j f None there e h = absurd cc
  other-made j f (Some cert) there e h = other-accepted (certificate_of cert) j f there h

-- where no certificate is made there is a solution
none-solved : (ranges : List Range64) (cs : List Constraint) (items : List Item) (forks : List Fork) (o : Option Cert) → is_some o ≡ false → IsMade ranges cs items forks o
    → IsJudged ranges cs (splits_among forks) true
none-solved ranges cs items forks None e h = h
none-solved ranges cs items forks (Some cert) e h = absurd cc

pub with-other : (n : ℕ) (core others : List Fork) (j : ℕ) (f : Fork) → All (IsSplit n) (splits_among core) → All (IsSplit n) (splits_among others) → slice_get others j ≡ Some f
    → All (IsSplit n) (splits_among (f ∷ core))
with-other n core others j f h k there = all-both (IsSplit n) (f.split ∷ []) (splits_among core) (members-all (IsSplit n) (f.split ∷ []) (λ s m. elim m [ inl e ↦ subst (IsSplit n) e here | inr i ↦ absurd i ])) h
  where
    here : IsSplit n f.split
    here = all_at (IsSplit n) (splits_among others) j f.split k (get-map (λ (x : Fork). x.split) others j f there)

pub take-few : {A : Type 0} (n : ℕ) (xs : List A) → length (take n xs) ≤ n
take-few zero xs = omega arith
take-few (suc n) [] = omega arith
take-few (suc n) (x ∷ xs) = let l = take-few n xs in omega arith

-- the splits of forks that are cut
pub cut-splits : (n : ℕ) (forks core others : List Fork) (ss : List Split) → splits_among forks ≡ ss → core ≡ take n forks → others ≡ drop n forks
    → (splits_among core ≡ take n ss) × (splits_among others ≡ drop n ss)
cut-splits n forks core others ss e f g = (
  ap splits_among f ∙ (sym (take-map (λ (x : Fork). x.split) n forks) ∙ ap (take n) e),
  ap splits_among g ∙ (sym (drop-map (λ (x : Fork). x.split) n forks) ∙ ap (drop n) e),
)

all-split : (n : ℕ) (k : ℕ) (ss : List Split) → All (IsSplit n) ss → All (IsSplit n) (take k ss) × All (IsSplit n) (drop k ss)
all-split n k ss h =
    let w : All (IsSplit n) (take k ss ++ drop k ss) = subst (All (IsSplit n)) (sym (take-append-drop k ss)) h in
    (all-left (IsSplit n) (take k ss) (drop k ss) w, all-right (IsSplit n) (take k ss) (drop k ss) w)

-- each constraint of literals has its item
pub literals-length : (places : List Place) (pc : ℕ) (ls : List LitForm) → AreCheckedPlaces places → AreKept ls → (cs : List Constraint) (items : List Item)
    → cs ≡ copies places pc ++ flat_map constraints_of_literal ls → items ≡ copy_items places pc ++ items_from 0 (map literal_form_of ls) → length items ≡ length cs
literals-length places pc ls checked kept cs items given e =
    counted-length places pc (map literal_form_of ls) cs items
    (subst (λ x. AreCounted places pc (map literal_form_of ls) x items) (sym (given ∙ ap (λ x. copies places pc ++ x) (flat-map_map constraints_of literal_form_of ls)))
    (subst (AreCounted places pc (map literal_form_of ls) (copies places pc ++ flat_map constraints_of (map literal_form_of ls))) (sym e)
    (all-counted places pc (map literal_form_of ls) checked (kept-forms ls kept))))

below-or-same : (j n : ℕ) → j < n + 1 → (j < n) ⊎ (j ≡ n)
below-or-same zero zero h = inr refl
below-or-same zero (suc n) h = inl (omega arith)
below-or-same (suc j) zero h = absurd (omega arith)
below-or-same (suc j) (suc n) h = elim (below-or-same j n (omega arith)) [ inl l ↦ inl (omega arith) | inr e ↦ inr (ap suc e) ]

-- those before a place and the one there have solutions beside the core
module _ (ranges : List Range64) (cs : List Constraint) (core others : List Fork) where
  abbrev AreSolvedBefore : ℕ → Type 0
  AreSolvedBefore n = (j : ℕ) (f : Fork) → j < n → slice_get others j ≡ Some f → IsJudged ranges cs (splits_among (f ∷ core)) true

  solved-more : (n : ℕ) (f : Fork) → slice_get others n ≡ Some f → AreSolvedBefore n → IsJudged ranges cs (splits_among (f ∷ core)) true → AreSolvedBefore (n + 1)
  solved-more n f there h s j g l e = elim (below-or-same j n l) [
    | inl k ↦ h j g k e
    | inr k ↦ subst (λ x. IsJudged ranges cs (splits_among (x ∷ core)) true) (same_Some f g (sym there ∙ (ap (slice_get others) (sym k) ∙ e))) s
  ]

  pub other-solved : (items : List Item) (n : ℕ) (f : Fork) (forks : List Fork) (o : Option Cert) → slice_get others n ≡ Some f → forks ≡ f ∷ core → is_some o ≡ false → IsMade ranges cs items forks o
      → AreSolvedBefore n → AreSolvedBefore (n + 1)
  other-solved items n f forks o there e k h before =
      solved-more n f there before (subst (λ x. IsJudged ranges cs (splits_among x) true) e (none-solved ranges cs items forks o k h))

  pub all-solved : (n : ℕ) → length others ≤ n → IsJudged ranges cs (splits_among core) true → AreSolvedBefore n → HaveSolutions ranges cs core others
  all-solved n l c h = record { core_solved = c; others_solved = λ j f e. let k = slice_get_within others j f e in h j f (omega arith) e }

literals-splits : (ls : List LitForm) → splits_among (forks_from 0 (map literal_form_of ls)) ≡ flat_map splits_of_literal ls
literals-splits ls = literal-splits 0 (map literal_form_of ls) ∙ sym (flat-map_map splits_of literal_form_of ls)

module _ (ls : List LitForm) (forks core others : List Fork) (whole : forks ≡ forks_from 0 (map literal_form_of ls)) (first : core ≡ take 8 forks) (later : others ≡ drop 8 forks) where
  cut : (splits_among core ≡ take 8 (flat_map splits_of_literal ls)) × (splits_among others ≡ drop 8 (flat_map splits_of_literal ls))
  cut = cut-splits 8 forks core others (flat_map splits_of_literal ls) (ap splits_among whole ∙ literals-splits ls) first later

  pub core-splits : (n : ℕ) → All (IsSplit n) (flat_map splits_of_literal ls) → All (IsSplit n) (splits_among core)
  core-splits n h = subst (All (IsSplit n)) (sym cut.0) (all-split n 8 (flat_map splits_of_literal ls) h).0

  pub other-splits : (n : ℕ) → All (IsSplit n) (flat_map splits_of_literal ls) → All (IsSplit n) (splits_among others)
  other-splits n h = subst (All (IsSplit n)) (sym cut.1) (all-split n 8 (flat_map splits_of_literal ls) h).1

  joined : core ++ others ≡ forks_from 0 (map literal_form_of ls)
  joined = ap (λ x. x ++ others) first ∙ (ap (λ x. take 8 forks ++ x) later ∙ (take-append-drop 8 forks ∙ whole))

  module _ (places : List Place) (pc : ℕ) (checked : AreCheckedPlaces places) (kept : AreKept ls) (rs : List Range64) (ranges : rs ≡ map range_of places)
      (cs : List Constraint) (given : cs ≡ copies places pc ++ flat_map constraints_of_literal ls) where
    -- the certificate is one for the literals
    pub literals-accepted : (items : List Item) (cert : Certificate) → items ≡ copy_items places pc ++ items_from 0 (map literal_form_of ls) → IsAcceptedForks rs cs items (core ++ others) cert
        → IsAccepted places pc (map literal_form_of ls) cert
    literals-accepted items cert e h =
        let fs = map literal_form_of ls in
        let k = kept-forms ls kept in
        h places pc fs ranges checked.few
        (subst (λ x. AreCounted places pc fs x items) (sym (given ∙ ap (λ x. copies places pc ++ x) (flat-map_map constraints_of literal_form_of ls)))
        (subst (AreCounted places pc fs (copies places pc ++ flat_map constraints_of fs)) (sym e) (all-counted places pc fs checked k)))
        (subst (AreForks fs) (sym joined) (literal-forks fs 0 fs (λ j f there. let z : 0 + j ≡ j = omega arith in subst (λ i. slice_get fs i ≡ Some f) (sym z) there) k))

    -- literals with solutions are not refuted
    pub literals-solved : HaveSolutions rs cs core others → IsPlainlyRefuted places pc (map literal_form_of ls) → ⊥
    literals-solved h =
        literals-unrefuted places pc ls kept
        (subst (λ x. IsJudged (map range_of places) (copies places pc ++ flat_map constraints_of_literal ls) x true) cut.0 (in-system (splits_among core) h.core_solved))
        (λ j s there.
        let f = get_mapped (λ (x : Fork). x.split) others j s (subst (λ x. slice_get x j ≡ Some s) (sym cut.1) there) in
        subst (λ x. IsJudged (map range_of places) (copies places pc ++ flat_map constraints_of_literal ls) (s ∷ x) true) cut.0
        (subst (λ x. IsJudged (map range_of places) (copies places pc ++ flat_map constraints_of_literal ls) (x ∷ splits_among core) true) f.2
        (in-system (splits_among (f.0 ∷ core)) (h.others_solved j f.0 f.1))))
      where
        in-system : (ss : List Split) → IsJudged rs cs ss true → IsJudged (map range_of places) (copies places pc ++ flat_map constraints_of_literal ls) ss true
        in-system ss g = subst (λ x. IsJudged x (copies places pc ++ flat_map constraints_of_literal ls) ss true) ranges (subst (λ x. IsJudged rs x ss true) given g)
