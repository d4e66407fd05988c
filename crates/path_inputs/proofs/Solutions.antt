-- Inputs that meet forms are solutions of their constraints, so what the solver answers decides which lists are plainly refuted and which
-- input is least.
use Rattle.std.proofs.Common.{◌≡◌, ◌∙◌, inl, inr, refl, sym, ap, subst, append_assoc, ℕ, suc, ◌<◌, ℤ, Bool, true, false, List, [], ◌∷◌, ◌++◌, length, map, take, drop, Option, Some, None, All, arith}
use Rattle.std.specs.Prelude.{filter, MatchOption}
use Rattle.std.specs.List.{flat_map}
use Rattle.std.proofs.lemmas.List.{length-map}
use Rattle.il_core.specs.Evaluation.{State}
use Rattle.il_core.specs.LineGraph.{IsIn}
use Rattle.il_core.specs.declared.line.Place.{Place}
use Rattle.sym_simplify.specs.Literal.{LiteralForm, form_holds}
use Rattle.sym_simplify.specs.Easy.{is_easy, is_unequal, IsKept}
use Rattle.difference.specs.Constraints as difference
use Rattle.difference.specs.Constraints.{IsSolution}
use Rattle.difference.specs.Answers.{sides, IsFirst, IsUnmet}
use Rattle.difference.specs.declared.constraint.Range64.{Range64}
use Rattle.difference.specs.declared.constraint.Constraint.{Constraint}
use Rattle.difference.specs.declared.constraint.Split.{Split}
use Rattle.path_inputs.specs.Core.{is_plain, is_disequality, core_disequalities, other_disequalities, core, sided, all_sided, split_by}
use Rattle.path_inputs.specs.Least.{Meets, HasNoInput, IsPlainlyRefuted, IsLeastInput}
use Rattle.path_inputs.specs.Bounding.{range_of, copies, constraints_of, splits_of, all_constraints, IsJudged, AreJudged, IsAnswered}
use Rattle.path_inputs.proofs.Members.{in-left, in-right, in-either, in-take, in-drop, in-take_or_drop, in-filter, from-filter, in-place, place-of}
use Rattle.path_inputs.proofs.Elements.{all-members, members-all, in-flat, from-flat}
use Rattle.path_inputs.proofs.Cores.{second-true, side-holds, side-of, split-core, core-split}
use Rattle.path_inputs.proofs.Readings.{form-met, met-form}
use Rattle.path_inputs.proofs.Splits.{side, HasSplit, has-split, sided-kept, disequality-splits, split-length, split-drop, core-unequal, all-unequal, first-splits, split-constraints, from-sided}
use Rattle.path_inputs.proofs.Copies.{range-within, within-range, input-copies, input-range, copies-input}

-- one more among what all meet
pub with-one : {A : Type 0} (P : A → Type 0) (xs ys : List A) (x : A) → All P (xs ++ ys) → P x → All P (xs ++ x ∷ ys)
with-one P xs ys x h p = members-all P (xs ++ x ∷ ys) (λ y i. elim (in-either xs (x ∷ ys) y i) [
  | inl j ↦ all-members P (xs ++ ys) h y (in-left xs ys y j)
  | inr j ↦ elim j [ inl e ↦ subst P e p | inr k ↦ all-members P (xs ++ ys) h y (in-right xs ys y k) ]
])

without-one : {A : Type 0} (P : A → Type 0) (xs ys : List A) (x : A) → All P (xs ++ x ∷ ys) → All P (xs ++ ys)
without-one P xs ys x h = members-all P (xs ++ ys) (λ y i. elim (in-either xs ys y i) [
  | inl j ↦ all-members P (xs ++ x ∷ ys) h y (in-left xs (x ∷ ys) y j)
  | inr j ↦ all-members P (xs ++ x ∷ ys) h y (in-right xs (x ∷ ys) y (inr j))
])

the-one : {A : Type 0} (P : A → Type 0) (xs ys : List A) (x : A) → All P (xs ++ x ∷ ys) → P x
the-one P xs ys x h = all-members P (xs ++ x ∷ ys) h x (in-right xs (x ∷ ys) x (inl refl))

pub one-side : (b : Bool) (bs : List Bool) (s : Split) (ss : List Split) → sides (b ∷ bs) (s ∷ ss) ≡ side b s ∷ sides bs ss
one-side true bs s ss = refl
one-side false bs s ss = refl

only-split : (f : LiteralForm) (h : HasSplit f) (s : Split) → IsIn (splits_of f) s → h.split ≡ s
only-split f h s i = elim (subst (λ ss. IsIn ss s) h.splits i) [ inl e ↦ e | inr k ↦ absurd k ]

module _ (places : List Place) (pc : ℕ) where
  -- inputs that meet kept forms are solutions, and the other way round where the forms are plain
  met-solution : (gs : List LiteralForm) (s : State) → ((g : LiteralForm) → IsIn gs g → IsKept g) → Meets places pc gs s → IsSolution (map range_of places) (all_constraints places pc gs) s
  met-solution gs s k m = record {
    within = range-within places s (input-range places pc s m.input);
    met = members-all (difference.Meets s) (all_constraints places pc gs) (λ c i. elim (in-either (copies places pc) (flat_map constraints_of gs) c i) [
      | inl j ↦ input-copies places pc s m.input c j
      | inr j ↦ let f = from-flat constraints_of gs c j in form-met f.0 s (k f.0 f.1) (m.each f.0 f.1) c f.2
    ]);
  }

  solution-met : (gs : List LiteralForm) (s : State) → ((g : LiteralForm) → IsIn gs g → IsKept g) → ((g : LiteralForm) → IsIn gs g → is_plain g ≡ true)
      → IsSolution (map range_of places) (all_constraints places pc gs) s → Meets places pc gs s
  solution-met gs s k p h = record {
    input = copies-input places pc s (within-range places s h.within)
        (λ d i. all-members (difference.Meets s) (all_constraints places pc gs) h.met d (in-left (copies places pc) (flat_map constraints_of gs) d i));
    each = λ f i. met-form f s (k f i) (p f i)
        (λ c j. all-members (difference.Meets s) (all_constraints places pc gs) h.met c (in-right (copies places pc) (flat_map constraints_of gs) c (in-flat constraints_of gs f c i j)));
  }

  module _ (fs : List LiteralForm) (kept : (f : LiteralForm) → IsIn fs f → IsKept f) where
    abbrev first-eight : List Split
    first-eight = take 8 (flat_map splits_of fs)

    abbrev ranges : List Range64
    ranges = map range_of places

    abbrev given : List Constraint
    given = all_constraints places pc fs

    in-core_is : (g : LiteralForm) → IsIn (core_disequalities fs) g → IsIn fs g
    in-core_is g k = (from-filter is_disequality fs g (in-take 8 (filter is_disequality fs) g k)).0

    split-kept : (choice : List Bool) (g : LiteralForm) → IsIn (split_by choice fs) g → IsKept g
    split-kept choice g i = elim (in-either (filter is_plain fs) (all_sided choice (core_disequalities fs)) g i) [
      | inl j ↦ kept g (from-filter is_plain fs g j).0
      | inr j ↦ let r = from-sided choice (core_disequalities fs) g j in subst IsKept r.3 (sided-kept r.0 r.1 (kept r.1 (in-core_is r.1 r.2)))
    ]

    split-plain : (choice : List Bool) (g : LiteralForm) → IsIn (split_by choice fs) g → is_plain g ≡ true
    split-plain choice g i = elim (in-either (filter is_plain fs) (all_sided choice (core_disequalities fs)) g i) [
      | inl j ↦ (from-filter is_plain fs g j).1
      | inr j ↦
          let r = from-sided choice (core_disequalities fs) g j in
          let h = has-split r.1 (core-unequal fs r.1 r.2) in
          ap is_plain (sym r.3) ∙ h.plain r.0
    ]

    split-given : (choice : List Bool) → given ++ sides choice first-eight ≡ all_constraints places pc (split_by choice fs)
    split-given choice =
        append_assoc (copies places pc) (flat_map constraints_of fs) (sides choice first-eight) ∙ ap (λ cs. copies places pc ++ cs) (split-constraints choice fs)

    split-count : length first-eight ≡ length (core_disequalities fs)
    split-count = ap length (first-splits fs) ∙ split-length (core_disequalities fs) (core-unequal fs)

    -- an input of a split is a solution of its sides
    split-solution : (choice : List Bool) (s : State) → Meets places pc (split_by choice fs) s → IsSolution ranges (given ++ sides choice first-eight) s
    split-solution choice s m =
        subst (λ cs. IsSolution ranges cs s) (sym (split-given choice)) (met-solution (split_by choice fs) s (split-kept choice) m)

    solution-split : (choice : List Bool) (s : State) → IsSolution ranges (given ++ sides choice first-eight) s → Meets places pc (split_by choice fs) s
    solution-split choice s h =
        solution-met (split_by choice fs) s (split-kept choice) (split-plain choice) (subst (λ cs. IsSolution ranges cs s) (split-given choice) h)

    unmet-none : IsUnmet ranges given first-eight → HasNoInput places pc (core fs)
    unmet-none h s m = let c = core-split places pc fs s m in h c.0 (c.1 ∙ sym split-count) s (split-solution c.0 s c.2)

    -- one more disequality beside the core
    module _ (f : LiteralForm) (i : IsIn fs f) (d : is_disequality f ≡ true) (h : HasSplit f) where
      abbrev beside : List Bool → Bool → List Constraint
      beside bs b = given ++ (side b h.split ∷ sides bs first-eight)

      unequal : is_unequal f ≡ true
      unequal = second-true (is_easy f) (is_unequal f) d

      beside-is : (bs : List Bool) (b : Bool) → given ++ sides (b ∷ bs) (h.split ∷ first-eight) ≡ beside bs b
      beside-is bs b = ap (λ cs. given ++ cs) (one-side b bs h.split first-eight)

      side-met : (b : Bool) (t : State) → form_holds (sided b f) t ≡ true → difference.Meets t (side b h.split)
      side-met b t e = form-met (sided b f) t (sided-kept b f (kept f i)) e (side b h.split) (subst (λ cs. IsIn cs (side b h.split)) (sym (h.constraints b)) (inl refl))

      met-side : (b : Bool) (t : State) → difference.Meets t (side b h.split) → form_holds f t ≡ true
      met-side b t m =
          side-holds b f t unequal (met-form (sided b f) t (sided-kept b f (kept f i)) (h.plain b)
          (λ c k. elim (subst (λ cs. IsIn cs c) (h.constraints b) k) [ inl e ↦ subst (difference.Meets t) e m | inr n ↦ absurd n ]))

      unmet-other : IsUnmet ranges given (h.split ∷ first-eight) → (t : State) → Meets places pc (core fs) t → form_holds f t ≡ true → ⊥
      unmet-other none t m e =
          let c = core-split places pc fs t m in
          let b = side-of f t unequal e in
          let s = split-solution c.0 t c.2 in
          none (b.0 ∷ c.0) (ap suc (c.1 ∙ sym split-count)) t (subst (λ cs. IsSolution ranges cs t) (sym (beside-is c.0 b.0)) (record {
            within = s.within;
            met = with-one (difference.Meets t) given (sides c.0 first-eight) (side b.0 h.split) s.met (side-met b.0 t b.1);
          }))

      met-by : (t : State) (choice : List Bool) → length choice ≡ length (h.split ∷ first-eight) → IsSolution ranges (given ++ sides choice (h.split ∷ first-eight)) t
          → Meets places pc (core fs) t × (form_holds f t ≡ true)
      met-by t [] l s = absurd (omega arith)
      met-by t (b ∷ bs) l s =
          let k : length bs ≡ length first-eight = omega arith in
          let u = subst (λ cs. IsSolution ranges cs t) (beside-is bs b) s in
          let m = solution-split bs t (record { within = u.within; met = without-one (difference.Meets t) given (sides bs first-eight) (side b h.split) u.met }) in
          (split-core places pc fs t bs (k ∙ split-count) m, met-side b t (the-one (difference.Meets t) given (sides bs first-eight) (side b h.split) u.met))

    other-splits_are : drop 8 (flat_map splits_of fs) ≡ flat_map splits_of (other_disequalities fs)
    other-splits_are = ap (drop 8) (disequality-splits fs) ∙ split-drop 8 (filter is_disequality fs) (all-unequal fs)

    other-in : (f : LiteralForm) → IsIn (other_disequalities fs) f → IsIn fs f × (is_disequality f ≡ true)
    other-in f k = from-filter is_disequality fs f (in-drop 8 (filter is_disequality fs) f k)

    -- a split that is not met refutes
    unmet-refuted : AreJudged ranges given first-eight (drop 8 (flat_map splits_of fs)) false → IsPlainlyRefuted places pc fs
    unmet-refuted h =
        let r = from-flat splits_of (other_disequalities fs) h.1 (subst (λ ss. IsIn ss h.1) other-splits_are (in-place (drop 8 (flat_map splits_of fs)) h.0 h.1 h.2)) in
        let i = other-in r.0 r.1 in
        let w = has-split r.0 i.1 in
        inr (r.0, i.0, i.1, unmet-other r.0 i.0 i.1 w (subst (λ s. IsUnmet ranges given (s ∷ first-eight)) (sym (only-split r.0 w h.1 r.2)) h.3))

    -- where each other split is met, some input of the core meets its disequality
    other-met : AreJudged ranges given first-eight (drop 8 (flat_map splits_of fs)) true → (f : LiteralForm) → IsIn (other_disequalities fs) f
        → (t : State) × Meets places pc (core fs) t × (form_holds f t ≡ true)
    other-met h f k =
        let i = other-in f k in
        let w = has-split f i.1 in
        let j = in-flat splits_of (other_disequalities fs) f w.split k (subst (λ ss. IsIn ss w.split) (sym w.splits) (inl refl)) in
        let p = place-of (drop 8 (flat_map splits_of fs)) w.split (subst (λ ss. IsIn ss w.split) (sym other-splits_are) j) in
        let s = h p.0 w.split p.1 in
        let m = met-by f i.0 i.1 w s.0 s.1 s.2 s.3 in
        (s.0, m.0, m.1)

    not-refuted : (s : State) → Meets places pc (core fs) s → AreJudged ranges given first-eight (drop 8 (flat_map splits_of fs)) true → IsPlainlyRefuted places pc fs → ⊥
    not-refuted s m h (inl n) = n s m
    not-refuted s m h (inr n) = elim (in-take_or_drop 8 (filter is_disequality fs) n.0 (in-filter is_disequality fs n.0 n.1 n.2)) [
      | inl k ↦ n.3 s m (m.each n.0 (in-right (filter is_plain fs) (core_disequalities fs) n.0 k))
      | inr k ↦ let t = other-met h n.0 k in n.3 t.0 t.1 t.2
    ]

    -- where the core and each other split beside it have a solution, the forms are not refuted
    pub unrefuted : IsJudged ranges given first-eight true → AreJudged ranges given first-eight (drop 8 (flat_map splits_of fs)) true → IsPlainlyRefuted places pc fs → ⊥
    unrefuted (s, choice, chosen, h) o = not-refuted s (split-core places pc fs s choice (chosen ∙ split-count) (solution-split choice s h)) o

    first-least : (s : State) → IsFirst ranges given first-eight s → AreJudged ranges given first-eight (drop 8 (flat_map splits_of fs)) true → IsLeastInput places pc fs s
    first-least s h o =
        let m = solution-split h.choice s h.least.solution in
        let l = h.chosen ∙ split-count in
        record {
          not_refuted = not-refuted s (split-core places pc fs s h.choice l m) o;
          choice = h.choice;
          chosen = l;
          met = m;
          least = λ t n k b. h.least.least t (split-solution h.choice t n) k (subst (λ c. k < c) (sym (length-map places range_of)) b);
          first = λ other c e t n. h.first other (c ∙ sym split-count) e t (split-solution other t n);
        }

    -- what the solver answers decides
    pub answered : (o : Option (List ℤ)) → IsAnswered ranges given (flat_map splits_of fs) o → MatchOption o (IsPlainlyRefuted places pc fs) (IsLeastInput places pc fs)
    answered None (inl h) = inl (unmet-none h)
    answered None (inr h) = unmet-refuted h
    answered (Some s) h = first-least s h.0 h.1
