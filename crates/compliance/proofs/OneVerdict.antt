-- A path has at most one verdict: there is one least input at most, and one first loose literal.
use Rattle.std.proofs.Common.{◌≡◌, ◌⊎◌, inl, inr, refl, sym, ap, ◌∙◌, subst, ℕ, suc, ◌<◌, ℤ, ◌≤ℤ◌, Bool, true, false, List, [], ◌∷◌, length, arith}
use Rattle.std.proofs.lemmas.Bool.{cases_lt}
use Rattle.std.proofs.lemmas.Int.{ints}
use Rattle.il_core.specs.Evaluation.{State, value_at}
use Rattle.il_core.specs.Procedure.{Procedure}
use Rattle.il_core.specs.declared.line.Place.{Place}
use Rattle.difference.specs.Answers.{earlier}
use Rattle.sym_simplify.specs.Literal.{LiteralForm}
use Rattle.region_paths.specs.Listing.{RegionPath}
use Rattle.path_inputs.specs.Core.{split_by}
use Rattle.path_inputs.specs.Least.{Meets, IsLeastInput}
use Rattle.semantic_tables.specs.Row.{forms_of}
use Rattle.compliance.specs.Verdict.{TakesPath, IsFirstLoose, HasVerdict}
use Rattle.compliance.specs.declared.threat.Verdict.{Verdict}
use Rattle.compliance.specs.declared.threat.Verdict.TheVariants.{Refuted, Shown, Open}
use Rattle.compliance.proofs.NoBadRun.{input_in_range}

-- of two choices of one length, they are the same or one is earlier
earlier_or : (a b : List Bool) → length a ≡ length b → (a ≡ b) ⊎ ((earlier a b ≡ true) ⊎ (earlier b a ≡ true))
earlier_or [] [] h = inl refl
earlier_or [] (y ∷ b) h = absurd (omega (arith, h))
earlier_or (x ∷ a) [] h = absurd (omega (arith, h))
earlier_or (true ∷ a) (true ∷ b) h = elim (earlier_or a b (omega (arith, h))) [ inl e ↦ inl (ap (λ c. true ∷ c) e) | inr e ↦ inr e ]
earlier_or (true ∷ a) (false ∷ b) h = inr (inl refl)
earlier_or (false ∷ a) (true ∷ b) h = inr (inr refl)
earlier_or (false ∷ a) (false ∷ b) h = elim (earlier_or a b (omega (arith, h))) [ inl e ↦ inl (ap (λ c. false ∷ c) e) | inr e ↦ inr e ]

-- states of one length with the same value at each place are the same
one_state : (s t : State) → length s ≡ length t → ((k : ℕ) → k < length s → value_at s k ≡ value_at t k) → s ≡ t
one_state [] [] l h = refl
one_state [] (y ∷ t) l h = absurd (omega (arith, l))
one_state (x ∷ s) [] l h = absurd (omega (arith, l))
one_state (x ∷ s) (y ∷ t) l h =
    let first : x ≡ y = h 0 (omega arith) in
    let rest : s ≡ t = one_state s t (omega (arith, l)) (λ k b. h (suc k) (omega (arith, b))) in
    cc

not_above : (a b : ℤ) → a ≤ℤ b → b ≤ℤ a → a ≡ b
not_above a b h k = omega (arith, ints)

pub one_least : (places : List Place) (pc : ℕ) (fs : List LiteralForm) (s t : State) → IsLeastInput places pc fs s → IsLeastInput places pc fs t → s ≡ t
one_least places pc fs s t a b = by_choice (earlier_or a.choice b.choice (a.chosen ∙ sym b.chosen))
  where
    same_length : length s ≡ length t
    same_length = (input_in_range places pc s a.met.input).size ∙ sym (input_in_range places pc t b.met.input).size

    by_choice : (a.choice ≡ b.choice) ⊎ ((earlier a.choice b.choice ≡ true) ⊎ (earlier b.choice a.choice ≡ true)) → s ≡ t
    by_choice (inl e) =
        let t_met : Meets places pc (split_by a.choice fs) t = subst (λ c. Meets places pc (split_by c fs) t) (sym e) b.met in
        let s_met : Meets places pc (split_by b.choice fs) s = subst (λ c. Meets places pc (split_by c fs) s) e a.met in
        let size = (input_in_range places pc s a.met.input).size in
        one_state s t same_length (λ k l. not_above (value_at s k) (value_at t k) (a.least t t_met k (omega (arith, l, size))) (b.least s s_met k (omega (arith, l, size))))
    by_choice (inr (inl e)) = absurd (b.first a.choice a.chosen e s a.met)
    by_choice (inr (inr e)) = absurd (a.first b.choice b.chosen e t b.met)

one_first : (fs : List LiteralForm) (i j : ℕ) → IsFirstLoose fs i → IsFirstLoose fs j → i ≡ j
one_first fs i j a b = elim (cases_lt i j) [
  | inl low ↦ absurd (b.1 i low a.0)
  | inr high ↦ elim (cases_lt j i) [ inl low ↦ absurd (a.1 j low b.0) | inr other ↦ omega (arith, high, other) ]
]

pub one_verdict : (p : Procedure) (pc : ℕ) (r : RegionPath) (v w : Verdict) → HasVerdict p pc r v → HasVerdict p pc r w → v ≡ w
one_verdict p pc r Refuted Refuted a b = refl
one_verdict p pc r Refuted (Shown t) a b = absurd (b.0.not_refuted a)
one_verdict p pc r Refuted (Open j) a b = absurd (b.1.not_refuted a)
one_verdict p pc r (Shown s) Refuted a b = absurd (a.0.not_refuted b)
one_verdict p pc r (Shown s) (Shown t) a b = ap Shown (one_least p.places pc (forms_of r) s t a.0 b.0)
one_verdict p pc r (Shown s) (Open j) a b = absurd (b.2 (subst (λ x. TakesPath p pc x r) (one_least p.places pc (forms_of r) s b.0 a.0 b.1) a.1))
one_verdict p pc r (Open i) Refuted a b = absurd (a.1.not_refuted b)
one_verdict p pc r (Open i) (Shown t) a b = absurd (a.2 (subst (λ x. TakesPath p pc x r) (one_least p.places pc (forms_of r) t a.0 b.0 a.1) b.1))
one_verdict p pc r (Open i) (Open j) a b = ap Open (one_first (forms_of r) i j a.3 b.3)
