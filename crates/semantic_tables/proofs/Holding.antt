-- The forms of a path's literals hold exactly where its literals do; and what an input meets is not plainly refuted.
use Rattle.std.proofs.Common.{◌≡◌, inl, inr, refl, sym, ap, ◌∙◌, ℕ, zero, suc, Bool, true, false, ◌&&◌, List, [], ◌∷◌, map}
use Rattle.std.specs.Prelude.{filter, take, if◌then◌else◌}
use Rattle.il_core.specs.Evaluation.{State}
use Rattle.il_core.specs.Input.{IsInput}
use Rattle.il_core.specs.LineGraph.{IsIn}
use Rattle.il_core.specs.declared.line.Place.{Place}
use Rattle.flow_graph.proofs.Members.{IsIn-append_cases}
use Rattle.sym_terms.specs.Tree.{Tree}
use Rattle.sym_terms.specs.Comparison.{Comparison, comparison_holds}
use Rattle.sym_terms.specs.Value.{value_of}
use Rattle.sym_terms.specs.Substitution.{state_of}
use Rattle.sym_simplify.specs.Form.{form_value}
use Rattle.sym_simplify.specs.Norm.{norm}
use Rattle.sym_simplify.specs.Literal.{LiteralForm, form_holds}
use Rattle.sym_simplify.specs.Laws.{NormalTermsKeepValues}
use Rattle.sym_simplify.proofs.LiteralForms.{literal_keeps}
use Rattle.test_graph.specs.Way.{all_hold}
use Rattle.path_inputs.specs.Core.{is_plain, is_disequality, core, core_disequalities}
use Rattle.path_inputs.specs.Least.{Meets, IsPlainlyRefuted}
use Rattle.semantic_tables.specs.Row.{comparison_form}
use Rattle.semantic_tables.specs.OneRow.{forms_hold}

-- the forms of comparisons hold together exactly where the comparisons do
pub forms_hold-same : (cs : List Comparison) (s : State) → forms_hold (map comparison_form cs) s ≡ all_hold cs s
forms_hold-same [] s = refl
forms_hold-same (c ∷ cs) s =
    ap (λ b. b && forms_hold (map comparison_form cs) s) (literal_keeps c.relation c.left c.right s) ∙ ap (λ b. comparison_holds c s && b) (forms_hold-same cs s)

-- the normal terms of terms have their values
pub values-same : (terms : List Tree) (s : State) → NormalTermsKeepValues → map (λ n. form_value n s) (map norm terms) ≡ state_of terms s
values-same [] s keep = refl
values-same (t ∷ terms) s keep = ap (λ v. v ∷ map (λ n. form_value n s) (map norm terms)) (keep t s) ∙ ap (λ vs. value_of t s ∷ vs) (values-same terms s keep)

both_true : (a b : Bool) → (a && b) ≡ true → (a ≡ true) × (b ≡ true)
both_true true b e = (refl, e)
both_true false b e = absurd cc

-- of forms that hold together each holds
each-holds : (fs : List LiteralForm) (s : State) → forms_hold fs s ≡ true → (f : LiteralForm) → IsIn fs f → form_holds f s ≡ true
each-holds [] s h f i = absurd i
each-holds (g ∷ fs) s h f (inl e) = ap (λ x. form_holds x s) (sym e) ∙ (both_true (form_holds g s) (forms_hold fs s) h).0
each-holds (g ∷ fs) s h f (inr i) = each-holds fs s (both_true (form_holds g s) (forms_hold fs s) h).1 f i

-- a member of a filtered list, or of a front of it, is one of the list
from_filter : {X : Type 0} (p : X → Bool) (xs : List X) (x : X) → IsIn (filter p xs) x → IsIn xs x
from_filter p [] x i = absurd i
from_filter p (y ∷ xs) x i = by_test (p y) i (from_filter p xs x)
  where
    by_test : (t : Bool) → IsIn (if t then y ∷ filter p xs else filter p xs) x → (IsIn (filter p xs) x → IsIn xs x) → IsIn (y ∷ xs) x
    by_test true (inl e) later = inl e
    by_test true (inr j) later = inr (later j)
    by_test false j later = inr (later j)

from_take : {X : Type 0} (n : ℕ) (xs : List X) (x : X) → IsIn (take n xs) x → IsIn xs x
from_take zero xs x i = absurd i
from_take (suc n) [] x i = absurd i
from_take (suc n) (y ∷ xs) x (inl e) = inl e
from_take (suc n) (y ∷ xs) x (inr i) = inr (from_take n xs x i)

-- a form of the core is one of the list
from_core : (fs : List LiteralForm) (f : LiteralForm) → IsIn (core fs) f → IsIn fs f
from_core fs f i = elim (IsIn-append_cases (filter is_plain fs) (core_disequalities fs) f i) [
  | inl j ↦ from_filter is_plain fs f j
  | inr j ↦ from_filter is_disequality fs f (from_take 8 (filter is_disequality fs) f j)
]

-- forms that hold together in some input are not plainly refuted
pub met_not_refuted : (places : List Place) (pc : ℕ) (fs : List LiteralForm) (s : State) → IsInput places pc s → forms_hold fs s ≡ true → IsPlainlyRefuted places pc fs → ⊥
met_not_refuted places pc fs s i h r = by_case r
  where
    met : Meets places pc fs s
    met = record { input = i; each = each-holds fs s h }

    core_met : Meets places pc (core fs) s
    core_met = record { input = i; each = λ f j. met.each f (from_core fs f j) }

    by_case : IsPlainlyRefuted places pc fs → ⊥
    by_case (inl none) = none s core_met
    by_case (inr t) = t.3 s core_met (met.each t.0 t.1)
