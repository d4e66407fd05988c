-- The constraints and the splits of forms: those of a split's forms are those of the plain forms and the chosen sides.
use Rattle.std.proofs.Common.{◌≡◌, ◌∙◌, inl, inr, refl, sym, ap, ℕ, zero, suc, ℤ, Bool, true, false, ◌&&◌, cond, List, [], ◌∷◌, ◌++◌, length, take, drop, Option, Some, None, is_some}
use Rattle.std.specs.Prelude.{filter}
use Rattle.std.specs.List.{flat_map}
use Rattle.std.proofs.lemmas.Grind.{flat_map-append}
use Rattle.il_core.specs.LineGraph.{IsIn}
use Rattle.il_core.specs.declared.operator.Relation.{Relation}
use Rattle.il_core.specs.declared.operator.Relation.TheVariants.{Eq, Ne, Lt, Le, Gt, Ge}
use Rattle.sym_simplify.specs.Form.{Form}
use Rattle.sym_simplify.specs.Literal.{LiteralForm, always, never, keep}
use Rattle.sym_simplify.specs.Easy.{multiple_of, IsKept}
use Rattle.sym_simplify.specs.declared.easy.Multiple.{Multiple}
use Rattle.difference.specs.Answers.{sides}
use Rattle.difference.specs.declared.constraint.Constraint.{Constraint}
use Rattle.difference.specs.declared.constraint.Split.{Split}
use Rattle.path_inputs.specs.Core.{is_plain, is_disequality, core_disequalities, sided, all_sided, split_by}
use Rattle.path_inputs.specs.Bounding.{either_side, multiple_reading, constraints_in, splits_in, constraints_of, splits_of}
use Rattle.path_inputs.proofs.Members.{in-take, from-filter}

abbrev pub side : Bool → Split → Constraint
side true s = s.low
side false s = s.high

-- what is no disequality has no split, and what is not plain has no constraint
no-split : (n : Form) (r : Relation) (b : ℤ) (o : Option Multiple) → multiple_of n ≡ o → is_disequality (keep n r b) ≡ false → splits_in (multiple_reading o r b) ≡ []
no-split n r b None e h = refl
no-split n Eq b (Some m) e h = refl
no-split n Ne b (Some m) e h = let z : is_disequality (keep n Ne b) ≡ true = ap (λ o. is_some o && true) e in absurd cc
no-split n Lt b (Some m) e h = refl
no-split n Le b (Some m) e h = refl
no-split n Gt b (Some m) e h = refl
no-split n Ge b (Some m) e h = refl

pub other-splits : (f : LiteralForm) → is_disequality f ≡ false → splits_of f ≡ []
other-splits always h = refl
other-splits never h = refl
other-splits (keep n r b) h = no-split n r b (multiple_of n) refl h

no-constraint : (n : Form) (r : Relation) (b : ℤ) (o : Option Multiple) → multiple_of n ≡ o → is_plain (keep n r b) ≡ false → constraints_in (multiple_reading o r b) ≡ []
no-constraint n r b None e h = refl
no-constraint n Eq b (Some m) e h = let z : is_plain (keep n Eq b) ≡ true = ap (λ o. is_some o && true) e in absurd cc
no-constraint n Ne b (Some m) e h = refl
no-constraint n Lt b (Some m) e h = let z : is_plain (keep n Lt b) ≡ true = ap (λ o. is_some o && true) e in absurd cc
no-constraint n Le b (Some m) e h = let z : is_plain (keep n Le b) ≡ true = ap (λ o. is_some o && true) e in absurd cc
no-constraint n Gt b (Some m) e h = let z : is_plain (keep n Gt b) ≡ true = ap (λ o. is_some o && true) e in absurd cc
no-constraint n Ge b (Some m) e h = let z : is_plain (keep n Ge b) ≡ true = ap (λ o. is_some o && true) e in absurd cc

pub other-constraints : (f : LiteralForm) → is_plain f ≡ false → constraints_of f ≡ []
other-constraints always h = absurd cc
other-constraints never h = absurd cc
other-constraints (keep n r b) h = no-constraint n r b (multiple_of n) refl h

-- a disequality has one split, and its sides are the plain forms of the split's sides
pub record HasSplit (f : LiteralForm) : Type 0 where
  pub split : Split
  pub splits : splits_of f ≡ split ∷ []
  pub constraints : (b : Bool) → constraints_of (sided b f) ≡ side b split ∷ []
  pub plain : (b : Bool) → is_plain (sided b f) ≡ true

unequal-split : (n : Form) (b : ℤ) (o : Option Multiple) → multiple_of n ≡ o → is_some o ≡ true → HasSplit (keep n Ne b)
unequal-split n b None e h = absurd cc
unequal-split n b (Some m) e h = record {
  split = either_side m b;
  splits = ap (λ o. splits_in (multiple_reading o Ne b)) e;
  constraints = λ c. elim c as (λ x. constraints_of (sided x (keep n Ne b)) ≡ side x (either_side m b) ∷ []) [
    | true ↦ ap (λ o. constraints_in (multiple_reading o Lt b)) e
    | false ↦ ap (λ o. constraints_in (multiple_reading o Gt b)) e
  ];
  plain = λ c. elim c as (λ x. is_plain (sided x (keep n Ne b)) ≡ true) [
    | true ↦ ap (λ o. is_some o && true) e
    | false ↦ ap (λ o. is_some o && true) e
  ];
}

easy-first : (a b : Bool) → (a && b) ≡ true → a ≡ true
easy-first true b e = refl
easy-first false b e = e

not-unequal : (a : Bool) → (a && false) ≡ true → ⊥
not-unequal true e = cc
not-unequal false e = cc

pub has-split : (f : LiteralForm) → is_disequality f ≡ true → HasSplit f
has-split always h = absurd cc
has-split never h = absurd cc
has-split (keep n Eq b) h = absurd (not-unequal (is_some (multiple_of n)) h)
has-split (keep n Ne b) h = unequal-split n b (multiple_of n) refl (easy-first (is_some (multiple_of n)) true h)
has-split (keep n Lt b) h = absurd (not-unequal (is_some (multiple_of n)) h)
has-split (keep n Le b) h = absurd (not-unequal (is_some (multiple_of n)) h)
has-split (keep n Gt b) h = absurd (not-unequal (is_some (multiple_of n)) h)
has-split (keep n Ge b) h = absurd (not-unequal (is_some (multiple_of n)) h)

-- a side of a form is as small as the form
pub sided-kept : (b : Bool) (f : LiteralForm) → IsKept f → IsKept (sided b f)
sided-kept true always k = k
sided-kept false always k = k
sided-kept true never k = k
sided-kept false never k = k
sided-kept true (keep n r c) k = k
sided-kept false (keep n r c) k = k

-- only plain forms have constraints, and only disequalities have splits
pub plain-constraints : (fs : List LiteralForm) → flat_map constraints_of fs ≡ flat_map constraints_of (filter is_plain fs)
plain-constraints [] = refl
plain-constraints (f ∷ fs) = by_test (is_plain f) refl (plain-constraints fs)
  where
    by_test : (b : Bool) → is_plain f ≡ b → flat_map constraints_of fs ≡ flat_map constraints_of (filter is_plain fs)
        → constraints_of f ++ flat_map constraints_of fs ≡ flat_map constraints_of (cond b (f ∷ filter is_plain fs) (filter is_plain fs))
    by_test true e h = ap (λ cs. constraints_of f ++ cs) h
    by_test false e h = ap (λ cs. cs ++ flat_map constraints_of fs) (other-constraints f e) ∙ h

pub disequality-splits : (fs : List LiteralForm) → flat_map splits_of fs ≡ flat_map splits_of (filter is_disequality fs)
disequality-splits [] = refl
disequality-splits (f ∷ fs) = by_test (is_disequality f) refl (disequality-splits fs)
  where
    by_test : (b : Bool) → is_disequality f ≡ b → flat_map splits_of fs ≡ flat_map splits_of (filter is_disequality fs)
        → splits_of f ++ flat_map splits_of fs ≡ flat_map splits_of (cond b (f ∷ filter is_disequality fs) (filter is_disequality fs))
    by_test true e h = ap (λ cs. splits_of f ++ cs) h
    by_test false e h = ap (λ cs. cs ++ flat_map splits_of fs) (other-splits f e) ∙ h

abbrev pub AreDisequalities : List LiteralForm → Type 0
AreDisequalities gs = (g : LiteralForm) → IsIn gs g → is_disequality g ≡ true

-- disequalities have one split each
pub split-length : (gs : List LiteralForm) → AreDisequalities gs → length (flat_map splits_of gs) ≡ length gs
split-length [] d = refl
split-length (g ∷ gs) d =
    let h = has-split g (d g (inl refl)) in
    ap (λ ss. length (ss ++ flat_map splits_of gs)) h.splits ∙ ap suc (split-length gs (λ f k. d f (inr k)))

pub split-take : (n : ℕ) (gs : List LiteralForm) → AreDisequalities gs → take n (flat_map splits_of gs) ≡ flat_map splits_of (take n gs)
split-take zero gs d = refl
split-take (suc n) [] d = refl
split-take (suc n) (g ∷ gs) d =
    let h = has-split g (d g (inl refl)) in
    ap (λ ss. take (suc n) (ss ++ flat_map splits_of gs)) h.splits
    ∙ (ap (λ ss. h.split ∷ ss) (split-take n gs (λ f k. d f (inr k))) ∙ ap (λ ss. ss ++ flat_map splits_of (take n gs)) (sym h.splits))

pub split-drop : (n : ℕ) (gs : List LiteralForm) → AreDisequalities gs → drop n (flat_map splits_of gs) ≡ flat_map splits_of (drop n gs)
split-drop zero gs d = refl
split-drop (suc n) [] d = refl
split-drop (suc n) (g ∷ gs) d =
    let h = has-split g (d g (inl refl)) in
    ap (λ ss. drop (suc n) (ss ++ flat_map splits_of gs)) h.splits ∙ split-drop n gs (λ f k. d f (inr k))

-- the sides of the splits are the constraints of the sides
pub sides-constraints : (choice : List Bool) (gs : List LiteralForm) → AreDisequalities gs → sides choice (flat_map splits_of gs) ≡ flat_map constraints_of (all_sided choice gs)
sides-constraints [] gs d = refl
sides-constraints (b ∷ bs) [] d = refl
sides-constraints (b ∷ bs) (g ∷ gs) d =
    let h = has-split g (d g (inl refl)) in
    ap (λ ss. sides (b ∷ bs) (ss ++ flat_map splits_of gs)) h.splits
    ∙ (one-side b h.split ∙ (ap (λ cs. side b h.split ∷ cs) (sides-constraints bs gs (λ f k. d f (inr k)))
    ∙ ap (λ cs. cs ++ flat_map constraints_of (all_sided bs gs)) (sym (h.constraints b))))
  where
    one-side : (b : Bool) (s : Split) → sides (b ∷ bs) (s ∷ flat_map splits_of gs) ≡ side b s ∷ sides bs (flat_map splits_of gs)
    one-side true s = refl
    one-side false s = refl

pub core-unequal : (fs : List LiteralForm) → AreDisequalities (core_disequalities fs)
core-unequal fs g k = (from-filter is_disequality fs g (in-take 8 (filter is_disequality fs) g k)).1

pub all-unequal : (fs : List LiteralForm) → AreDisequalities (filter is_disequality fs)
all-unequal fs g k = (from-filter is_disequality fs g k).1

-- the splits of the core are the first eight
pub first-splits : (fs : List LiteralForm) → take 8 (flat_map splits_of fs) ≡ flat_map splits_of (core_disequalities fs)
first-splits fs = ap (take 8) (disequality-splits fs) ∙ split-take 8 (filter is_disequality fs) (all-unequal fs)

-- the constraints of a split of the core
pub split-constraints : (choice : List Bool) (fs : List LiteralForm)
    → flat_map constraints_of fs ++ sides choice (take 8 (flat_map splits_of fs)) ≡ flat_map constraints_of (split_by choice fs)
split-constraints choice fs =
    ap (λ cs. cs ++ sides choice (take 8 (flat_map splits_of fs))) (plain-constraints fs)
    ∙ (ap (λ ss. flat_map constraints_of (filter is_plain fs) ++ sides choice ss) (first-splits fs)
    ∙ (ap (λ cs. flat_map constraints_of (filter is_plain fs) ++ cs) (sides-constraints choice (core_disequalities fs) (core-unequal fs))
    ∙ sym (flat_map-append constraints_of (filter is_plain fs) (all_sided choice (core_disequalities fs)))))

-- a form of a list of sides is a side of one of the forms
pub from-sided : (choice : List Bool) (gs : List LiteralForm) (f : LiteralForm) → IsIn (all_sided choice gs) f → (b : Bool) × (g : LiteralForm) × IsIn gs g × (sided b g ≡ f)
from-sided [] gs f h = absurd h
from-sided (b ∷ bs) [] f h = absurd h
from-sided (b ∷ bs) (g ∷ gs) f (inl e) = (b, g, inl refl, e)
from-sided (b ∷ bs) (g ∷ gs) f (inr k) = let r = from-sided bs gs f k in (r.0, r.1, inr r.2, r.3)
