-- The first loose literal, looked for in order.
use Rattle.std.proofs.Common.{◌≡◌, ◌⊎◌, inl, inr, sym, ap, ◌∙◌, subst, ℕ, ◌+◌, ◌<◌, ◌≤◌, Bool, true, false, cond, Some, List, length, take, slice_get, arith}
use Rattle.std.specs.Prelude.{filter}
use Rattle.std.proofs.lemmas.Bool.{cases_lt}
use Rattle.std.proofs.lemmas.List.Filters.{length-filter_more}
use Rattle.std.proofs.lemmas.Option.{same_Some, slice_get_within, get_or_from_slice_get}
use Rattle.sym_simplify.specs.Literal.{LiteralForm}
use Rattle.sym_simplify.specs.Easy.{is_easy}
use Rattle.path_inputs.specs.Core.{is_disequality, IsLoose}

-- no literal before a place is loose, and so many there are easy `/=`
pub record NoneIsLoose (fs : List LiteralForm) (at count : ℕ) : Type 0 where
  pub counted : count ≡ length (filter is_disequality (take at fs))
  pub none : (j : ℕ) → j < at → IsLoose fs j → ⊥

-- an easy literal that is no `/=` behind the first eight is not loose
not_loose : (fs : List LiteralForm) (i : ℕ) (f : LiteralForm) → slice_get fs i ≡ Some f → is_easy f ≡ true
    → (is_disequality f ≡ true → length (filter is_disequality (take i fs)) < 8) → IsLoose fs i → ⊥
not_loose fs i f there easy few l = by_kind l.2
  where
    same : f ≡ l.0
    same = same_Some f l.0 (sym there ∙ l.1)

    by_kind : (is_easy l.0 ≡ false) ⊎ ((is_disequality l.0 ≡ true) × (8 ≤ length (filter is_disequality (take i fs)))) → ⊥
    by_kind (inl hard) = let x : true ≡ false = sym easy ∙ ap is_easy same ∙ hard in absurd cc
    by_kind (inr other) = let m = few (ap is_disequality same ∙ other.0) in let n = other.1 in omega (arith, m, n)

-- one literal more that is not loose
pub loose_more : (fs : List LiteralForm) (at count n : ℕ) (f : LiteralForm) (b : Bool) → NoneIsLoose fs at count → slice_get fs at ≡ Some f → is_easy f ≡ true → is_disequality f ≡ b
    → (b ≡ true → count < 8) → n ≡ count + cond b 1 0 → NoneIsLoose fs (at + 1) n
loose_more fs at count n f b k there easy kind few more = record { counted = counted; none = none }
  where
    counted : n ≡ length (filter is_disequality (take (at + 1) fs))
    counted =
        more ∙ ap (λ x. x + cond b 1 0) k.counted
        ∙ ap (λ (t : Bool). length (filter is_disequality (take at fs)) + cond t 1 0) (sym (ap is_disequality (get_or_from_slice_get fs at f f there) ∙ kind))
        ∙ sym (length-filter_more is_disequality fs at f (slice_get_within fs at f there))

    here : IsLoose fs at → ⊥
    here = not_loose fs at f there easy (λ d. subst (λ x. x < 8) k.counted (few (sym kind ∙ d)))

    none : (j : ℕ) → j < at + 1 → IsLoose fs j → ⊥
    none j l h = elim (cases_lt j at) [ inl low ↦ k.none j low h | inr high ↦ let e : j ≡ at = omega (arith, high, l) in here (subst (IsLoose fs) e h) ]

-- there is no loose literal past the last
pub never_past : (fs : List LiteralForm) (at count : ℕ) → NoneIsLoose fs at count → length fs ≤ at → (i : ℕ) × IsLoose fs i → ⊥
never_past fs at count k past t =
    let l = t.1 in
    let within = slice_get_within fs t.0 l.0 l.1 in
    k.none t.0 (omega (arith, within, past)) l
