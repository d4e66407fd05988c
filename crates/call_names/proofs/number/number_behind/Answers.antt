use Rattle.std.proofs.Common.{◌≡◌, ◌∙◌, sym, ap, ℕ, List, ◌++◌, true, false, length, take, nat_eq}
use Rattle.std.specs.Cmp.Lexicographic.{pointwise}
use Rattle.call_names.specs.Search.{mark}
use Rattle.call_names.proofs.Numbered.{begun}
use Rattle.call_names.proofs.number.number_behind.Goals as goal

pub returns-in-None : goal.returns-in-None
returns-in-None c = λ old k rest small is.
    let stem = c.args.stem.now in
    let begins = ap (λ (l : List ℕ). pointwise nat_eq (take (length stem) l) stem) (c.as_bytes.ensures.value ∙ is) ∙ begun stem (mark old k ++ rest) in
    let none = c.in-None.ensures.cases in
    absurd (differ (sym begins ∙ none))
  where
    differ : true ≡ false → ⊥
    differ x = cc
