use Rattle.std.proofs.Common.{◌∙◌, sym, ap, ℕ, List, ◌&&◌, length, take, drop, nat_eq}
use Rattle.std.specs.Cmp.Lexicographic.{pointwise}
use Rattle.call_names.proofs.Joined.{joined}
use Rattle.call_names.proofs.stem.is_joined.Goals as goal

pub returns-in-None : goal.returns-in-None
returns-in-None c =
    let stem = c.args.stem.now in
    let last = c.args.last.now in
    let name = c.args.name.now in
    let e = ap (λ (l : List ℕ). pointwise nat_eq (take (length stem) l) stem) (sym c.as_bytes.ensures.value) ∙ c.in-None.ensures.cases in
    sym (joined stem last name ∙ ap (λ b. b && pointwise nat_eq last (drop (length stem) name)) e)

pub returns-in-Some : goal.returns-in-Some
returns-in-Some c =
    let stem = c.args.stem.now in
    let last = c.args.last.now in
    let name = c.args.name.now in
    let e = ap (λ (l : List ℕ). pointwise nat_eq (take (length stem) l) stem) (sym c.as_bytes.ensures.value) ∙ c.in-Some.ensures.cases.0 in
    let left = c.in-Some.ensures.cases.1 ∙ ap (λ (l : List ℕ). drop (length stem) l) c.as_bytes.ensures.value in
    c.eq.ensures ∙ ap (λ (l : List ℕ). pointwise nat_eq l c.in-Some.left.now) c.as_bytes-in-Some.ensures.value ∙ ap (λ (l : List ℕ). pointwise nat_eq last l) left
    ∙ sym (joined stem last name ∙ ap (λ b. b && pointwise nat_eq last (drop (length stem) name)) e)
