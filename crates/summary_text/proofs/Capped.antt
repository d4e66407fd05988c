-- Sums that stop at the greatest number of 64 bits, one element after the other.
use Rattle.std.proofs.Common.{◌≡◌, ℕ, ◌+◌, ◌<◌, List, [], ◌∷◌, ◌++◌, length, get_or, take, refl, ◌∙◌, ap, arith}
use Rattle.std.specs.Prelude.{count_by, sum_by}
use Rattle.std.proofs.lemmas.List.{take_more}
use Rattle.std.proofs.lemmas.List.Sums.{sum_by-append}
use Rattle.report.specs.declared.report.ProcReport.{ProcReport}
use Rattle.report.specs.Status.{is_refuted}
use Rattle.summary_text.specs.Summary.{capped, counts_of, more, tables_of, threats_of, rows_in, past_in, is_shown, is_open}

sum_more : {X : Type 0} (f : X → ℕ) (xs : List X) (i : ℕ) (x : X) → i < length xs → get_or xs i x ≡ x → sum_by f (take (i + 1) xs) ≡ sum_by f (take i xs) + f x
sum_more f xs i x h e =
    let one : 0 + f x ≡ f x = omega arith in
    ap (sum_by f) (take_more xs i x h ∙ ap (λ y. take i xs ++ y ∷ []) e) ∙ sum_by-append f (take i xs) (x ∷ []) ∙ ap (λ k. sum_by f (take i xs) + k) one

cap_more : (a b : ℕ) → capped (a + b) ≡ capped (capped a + b)
cap_more a b = omega arith

cap_both : (a b : ℕ) → capped (a + b) ≡ capped (capped a + capped b)
cap_both a b = omega arith

pub capped_more : {X : Type 0} (f : X → ℕ) (xs : List X) (i : ℕ) (x : X) → i < length xs → get_or xs i x ≡ x
    → capped (sum_by f (take (i + 1) xs)) ≡ capped (capped (sum_by f (take i xs)) + f x)
capped_more f xs i x h e = ap capped (sum_more f xs i x h e) ∙ cap_more (sum_by f (take i xs)) (f x)

capped_both : {X : Type 0} (f : X → ℕ) (xs : List X) (i : ℕ) (x : X) → i < length xs → get_or xs i x ≡ x
    → capped (sum_by f (take (i + 1) xs)) ≡ capped (capped (sum_by f (take i xs)) + capped (f x))
capped_both f xs i x h e = ap capped (sum_more f xs i x h e) ∙ cap_both (sum_by f (take i xs)) (f x)

-- the numbers of the procedures up to one and with it
pub counted_more : (xs : List ProcReport) (i : ℕ) (x : ProcReport) → i < length xs → get_or xs i x ≡ x → counts_of (take (i + 1) xs) ≡ more (counts_of (take i xs)) x
counted_more xs i x h e =
    rw (
      capped_more (λ (p : ProcReport). p.lines) xs i x h e,
      capped_more (λ (p : ProcReport). length (tables_of p)) xs i x h e,
      capped_both (λ (p : ProcReport). sum_by (λ t. rows_in t.body) (tables_of p)) xs i x h e,
      capped_more (λ (p : ProcReport). length (threats_of p)) xs i x h e,
      capped_more (λ (p : ProcReport). count_by (λ t. is_refuted t.verdict) (threats_of p)) xs i x h e,
      capped_more (λ (p : ProcReport). count_by (λ t. is_shown t.verdict) (threats_of p)) xs i x h e,
      capped_more (λ (p : ProcReport). count_by (λ t. is_open t.verdict) (threats_of p)) xs i x h e,
      capped_both (λ (p : ProcReport). sum_by (λ t. past_in t.body) (tables_of p)) xs i x h e,
    )
    refl
