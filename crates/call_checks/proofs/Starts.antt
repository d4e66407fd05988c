-- At which lines of an expansion the written lines begin.
use Rattle.std.proofs.Common.{◌≡◌, ◌≢◌, refl, ap, subst, ℕ, zero, suc, ◌<◌, ◌≤◌, inl, inr, List, [], ◌∷◌, length, take, arith}
use Rattle.std.specs.Prelude.{sum_by}
use Rattle.std.proofs.Math.Seq.{take-length}
use Rattle.std.proofs.lemmas.Bool.{cases_order}
use Rattle.std.proofs.lemmas.List.Sums.{sum_by-cons}
use Rattle.il_core.specs.Checked.{IsTarget}
use Rattle.il_called.specs.Called.{WrittenLine}
use Rattle.il_called.specs.Expansion.{Callee, width_of, start_of}
use Rattle.il_inline.specs.Calls.{AllCall}
use Rattle.il_inline.proofs.Sizes.{wide}

pub start_zero : (callees : List Callee) (lines : List WrittenLine) → start_of callees lines 0 ≡ 0
start_zero callees [] = refl
start_zero callees (line ∷ lines) = refl

pub start_all : (callees : List Callee) (lines : List WrittenLine) → start_of callees lines (length lines) ≡ sum_by (width_of callees) lines
start_all callees lines = ap (sum_by (width_of callees)) (take-length lines)

-- later lines begin later
pub start_grows : (callees : List Callee) (lines : List WrittenLine) (q r : ℕ) → AllCall callees lines → q < r → r ≤ length lines → start_of callees lines q < start_of callees lines r
start_grows callees [] q r calls h g = absurd (omega arith)
start_grows callees (line ∷ lines) q zero calls h g = absurd (omega arith)
start_grows callees (line ∷ lines) zero (suc r) calls h g =
    let w = wide callees line calls.0 in
    let s = sum_by-cons (width_of callees) line (take r lines) in
    omega arith
start_grows callees (line ∷ lines) (suc q) (suc r) calls h g =
    let s = sum_by-cons (width_of callees) line (take q lines) in
    let t = sum_by-cons (width_of callees) line (take r lines) in
    let i = start_grows callees lines q r calls.1 (omega arith) (omega arith) in
    omega arith

-- each before the end
pub start_below : (callees : List Callee) (lines : List WrittenLine) (q : ℕ) → AllCall callees lines → q < length lines → start_of callees lines q < sum_by (width_of callees) lines
start_below callees lines q calls h =
    subst (λ n. start_of callees lines q < n) (start_all callees lines) (start_grows callees lines q (length lines) calls h (omega arith))

-- so targets stay targets
pub start_target : (callees : List Callee) (lines : List WrittenLine) (count total pc q : ℕ) → AllCall callees lines → count ≡ length lines → total ≡ sum_by (width_of callees) lines
    → pc < count → IsTarget count pc q → IsTarget total (start_of callees lines pc) (start_of callees lines q)
start_target callees lines count total pc q calls e f inside t =
    let i = t.inside in
    let l = t.later in
    record {
      inside = let b = start_below callees lines q calls (omega arith) in omega arith;
      later = let z = start_zero callees lines in let b = start_grows callees lines 0 q calls l (omega arith) in omega arith;
      other = apart;
    }
  where
    apart : start_of callees lines q ≢ start_of callees lines pc
    apart same =
        let i = t.inside in
        elim (cases_order q pc) [
          | inl here ↦ t.other here
          | inr (inl before) ↦ let b = start_grows callees lines q pc calls before (omega arith) in absurd (omega arith)
          | inr (inr behind) ↦ let b = start_grows callees lines pc q calls behind (omega arith) in absurd (omega arith)
        ]
