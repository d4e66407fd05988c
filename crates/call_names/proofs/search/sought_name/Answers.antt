use Rattle.std.proofs.Common.{◌≡◌, ◌∙◌, sym, ap, true, ℕ, List, ◌++◌, ◌+◌, ◌||◌, drop, nat_eq, if◌then◌else◌, Some, None, arith}
use Rattle.std.specs.Cmp.Lexicographic.{pointwise}
use Rattle.std.proofs.lemmas.List.{drop_all}
use Rattle.call_names.specs.Search.{is_among}
use Rattle.call_names.proofs.Joined.{same_bytes}
use Rattle.call_names.proofs.Passing.{left}
use Rattle.call_names.proofs.search.sought_name.Goals as goal

pub returns-then-is_joined : goal.returns-then-is_joined
returns-then-is_joined c =
    let q = c.args.stem.now ++ c.args.last.now in
    let e = left c.args.sought.now c.loop-name.name-index c.name-item.result c.loop-name-test.true c.name-item.is in
    let h : pointwise nat_eq q c.name-item.result ≡ true = sym c.is_joined.ensures ∙ c.if-is_joined.true in
    let t : is_among c.args.sought.now q ≡ true =
    sym c.loop-name.invariant ∙ ap (λ (xs : List (List ℕ)). is_among xs q) e ∙ ap (λ b. b || is_among (drop (c.loop-name.name-index + 1) c.args.sought.now) q) h in
    ap Some (sym (same_bytes q c.name-item.result h)) ∙ sym (ap (λ b. if b then Some q else None) t)

pub loop-name-preserved : goal.loop-name-preserved
loop-name-preserved c =
    let q = c.args.stem.now ++ c.args.last.now in
    let e = left c.args.sought.now c.loop-name.name-index c.name-item.result c.loop-name-test.true c.name-item.is in
    let h = sym c.is_joined.ensures ∙ c.if-is_joined.false in
    sym (ap (λ (xs : List (List ℕ)). is_among xs q) e ∙ ap (λ b. b || is_among (drop (c.loop-name.name-index + 1) c.args.sought.now) q) h) ∙ c.loop-name.invariant

pub returns : goal.returns
returns c =
    let q = c.args.stem.now ++ c.args.last.now in
    let none = ap (λ (xs : List (List ℕ)). is_among xs q) (drop_all c.loop-name.name-index c.args.sought.now (omega (arith, c.loop-name-test.false))) in
    sym (ap (λ b. if b then Some q else None) (sym c.loop-name.invariant ∙ none))
