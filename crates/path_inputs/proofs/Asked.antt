-- What the solver asks of the system of literals, and what its answer says of them.
use Rattle.std.proofs.Common.{◌≡◌, ◌∙◌, sym, ap, subst, ℕ, ℤ, true, List, ◌++◌, length, map, take, drop, Option, Result, Ok, Err, IfOk, All}
use Rattle.std.specs.Prelude.{MatchOption}
use Rattle.std.specs.List.{flat_map}
use Rattle.std.proofs.lemmas.List.{length-map}
use Rattle.il_core.specs.LineGraph.{IsIn}
use Rattle.il_core.specs.Places.{AreCheckedPlaces}
use Rattle.il_core.specs.declared.line.Place.{Place}
use Rattle.sym_simplify.specs.declared.normal.LitForm.{LitForm}
use Rattle.sym_simplify.specs.Literal.{LiteralForm, literal_form_of}
use Rattle.sym_simplify.specs.Places.{HasLiteralPlacesBelow}
use Rattle.sym_simplify.specs.Easy.{IsKept}
use Rattle.difference.specs.Constraints.{IsRange, IsGiven}
use Rattle.difference.specs.Answers.{IsSplit}
use Rattle.difference.specs.declared.constraint.Range64.{Range64}
use Rattle.difference.specs.declared.constraint.Constraint.{Constraint}
use Rattle.difference.specs.declared.constraint.Split.{Split}
use Rattle.path_inputs.specs.Least.{IsPlainlyRefuted, IsLeastInput}
use Rattle.path_inputs.specs.Bounding.{range_of, copies, constraints_of, splits_of, constraints_of_literal, splits_of_literal, IsJudged, AreJudged, IsAnswered}
use Rattle.path_inputs.proofs.Elements.{all-members, members-all, all-both, from-flat, from-map, flat-map_map}
use Rattle.path_inputs.proofs.Copies.{copies-given, ranges-ordered}
use Rattle.path_inputs.proofs.Given.{form-given, form-split}
use Rattle.path_inputs.proofs.Solutions.{unrefuted, answered}

abbrev pub AreBelow : ℕ → List LitForm → Type 0
AreBelow n ls = All (λ l. HasLiteralPlacesBelow n (literal_form_of l)) ls

abbrev pub AreKept : List LitForm → Type 0
AreKept ls = All (λ l. IsKept (literal_form_of l)) ls

module _ (places : List Place) (checked : AreCheckedPlaces places) (rs : List Range64) (ranges : rs ≡ map range_of places) where
  pub asked-ranges : All IsRange rs
  asked-ranges = subst (All IsRange) (sym ranges) (members-all IsRange (map range_of places) (ranges-ordered places checked))

  count : length places ≡ length rs
  count = sym (ap length ranges ∙ length-map places range_of)

  module _ (ls : List LitForm) (below : AreBelow (length places) ls) (kept : AreKept ls) where
    pub asked-given : (pc : ℕ) (cs : List Constraint) → cs ≡ copies places pc ++ flat_map constraints_of_literal ls → All (IsGiven (length rs)) cs
    asked-given pc cs e =
        subst (λ n. All (IsGiven n) cs) count (subst (All (IsGiven (length places))) (sym e)
        (all-both (IsGiven (length places)) (copies places pc) (flat_map constraints_of_literal ls)
        (members-all (IsGiven (length places)) (copies places pc) (copies-given places pc checked))
        (members-all (IsGiven (length places)) (flat_map constraints_of_literal ls) (λ c i.
        let l = from-flat constraints_of_literal ls c i in
        form-given (length places) (literal_form_of l.0) (all-members (λ x. IsKept (literal_form_of x)) ls kept l.0 l.1)
        (all-members (λ x. HasLiteralPlacesBelow (length places) (literal_form_of x)) ls below l.0 l.1) c l.2))))

    pub asked-splits : (ss : List Split) → ss ≡ flat_map splits_of_literal ls → All (IsSplit (length rs)) ss
    asked-splits ss e =
        subst (λ n. All (IsSplit n) ss) count (subst (All (IsSplit (length places))) (sym e)
        (members-all (IsSplit (length places)) (flat_map splits_of_literal ls) (λ s i.
        let l = from-flat splits_of_literal ls s i in
        form-split (length places) (literal_form_of l.0) (all-members (λ x. IsKept (literal_form_of x)) ls kept l.0 l.1)
        (all-members (λ x. HasLiteralPlacesBelow (length places) (literal_form_of x)) ls below l.0 l.1) s l.2)))

pub kept-forms : (ls : List LitForm) → AreKept ls → (f : LiteralForm) → IsIn (map literal_form_of ls) f → IsKept f
kept-forms ls kept f i = let l = from-map literal_form_of ls f i in subst IsKept l.2 (all-members (λ x. IsKept (literal_form_of x)) ls kept l.0 l.1)

literals-answered : (places : List Place) (pc : ℕ) (ls : List LitForm) → AreKept ls → (o : Option (List ℤ))
    → IsAnswered (map range_of places) (copies places pc ++ flat_map constraints_of_literal ls) (flat_map splits_of_literal ls) o
    → MatchOption o (IsPlainlyRefuted places pc (map literal_form_of ls)) (IsLeastInput places pc (map literal_form_of ls))
literals-answered places pc ls kept o h =
    answered places pc (map literal_form_of ls) (kept-forms ls kept) o
    (subst (λ ss. IsAnswered (map range_of places) (copies places pc ++ flat_map constraints_of (map literal_form_of ls)) ss o) (flat-map_map splits_of literal_form_of ls)
    (subst (λ cs. IsAnswered (map range_of places) (copies places pc ++ cs) (flat_map splits_of_literal ls) o) (flat-map_map constraints_of literal_form_of ls) h))

-- where the core and each other split beside it have a solution, the literals are not refuted
pub literals-unrefuted : (places : List Place) (pc : ℕ) (ls : List LitForm) → AreKept ls
    → IsJudged (map range_of places) (copies places pc ++ flat_map constraints_of_literal ls) (take 8 (flat_map splits_of_literal ls)) true
    → AreJudged (map range_of places) (copies places pc ++ flat_map constraints_of_literal ls) (take 8 (flat_map splits_of_literal ls)) (drop 8 (flat_map splits_of_literal ls)) true
    → IsPlainlyRefuted places pc (map literal_form_of ls) → ⊥
literals-unrefuted places pc ls kept h o =
    let cs = flat-map_map constraints_of literal_form_of ls in
    let ss = flat-map_map splits_of literal_form_of ls in
    unrefuted places pc (map literal_form_of ls) (kept-forms ls kept)
    (subst (λ x. IsJudged (map range_of places) (copies places pc ++ flat_map constraints_of (map literal_form_of ls)) (take 8 x) true) ss
    (subst (λ x. IsJudged (map range_of places) (copies places pc ++ x) (take 8 (flat_map splits_of_literal ls)) true) cs h))
    (subst (λ x. AreJudged (map range_of places) (copies places pc ++ flat_map constraints_of (map literal_form_of ls)) (take 8 x) (drop 8 x) true) ss
    (subst (λ x. AreJudged (map range_of places) (copies places pc ++ x) (take 8 (flat_map splits_of_literal ls)) (drop 8 (flat_map splits_of_literal ls)) true) cs o))

pub least-answered : {E : Type 0} (places : List Place) (pc : ℕ) (ls : List LitForm) (rs : List Range64) (cs : List Constraint) (ss : List Split) (r : Result (Option (List ℤ)) E)
    → AreKept ls → rs ≡ map range_of places → cs ≡ copies places pc ++ flat_map constraints_of_literal ls → ss ≡ flat_map splits_of_literal ls → IfOk r (IsAnswered rs cs ss)
    → IfOk r (λ o. MatchOption o (IsPlainlyRefuted places pc (map literal_form_of ls)) (IsLeastInput places pc (map literal_form_of ls)))
least-answered places pc ls rs cs ss (Err e) kept f g h a = tt
least-answered places pc ls rs cs ss (Ok o) kept f g h a =
    literals-answered places pc ls kept o
    (subst (λ x. IsAnswered (map range_of places) (copies places pc ++ flat_map constraints_of_literal ls) x o) h
    (subst (λ x. IsAnswered (map range_of places) x ss o) g (subst (λ x. IsAnswered x cs ss o) f a)))
