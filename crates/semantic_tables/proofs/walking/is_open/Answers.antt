use Rattle.std.proofs.Common.{sym, ◌∙◌, subst, Bool}
use Rattle.std.specs.Prelude.{MatchBool}
use Rattle.semantic_tables.specs.Walk.{is_long, prefix_forms, LeftOut}
use Rattle.semantic_tables.proofs.Refuted.{none_left, left_told}
use Rattle.semantic_tables.proofs.walking.is_open.Goals as goal

pub returns-then-is_long-clause-kept : goal.returns-then-is_long-clause-kept
returns-then-is_long-clause-kept c =
    let g = c.args.exploration in
    none_left (is_long g.query) g.proc.now.places g.line (prefix_forms c.args.prefix.now) (sym c.is_long.ensures ∙ c.if-is_long.true)

pub returns-clause-kept : goal.returns-clause-kept
returns-clause-kept c =
    let g = c.args.exploration in
    let fs = prefix_forms c.args.prefix.now in
    subst (λ (b : Bool). MatchBool b (LeftOut g fs → ⊥) (LeftOut g fs)) (sym c.is_some.ensures)
    (left_told (is_long g.query) g.proc.now.places g.line fs c.in_ok-least.least (sym c.is_long.ensures ∙ c.if-is_long.false) c.in_ok-least.ensures.least)
