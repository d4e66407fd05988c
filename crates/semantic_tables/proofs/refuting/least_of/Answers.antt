use Rattle.std.proofs.Common.{sym, ◌∙◌, subst, List, map}
use Rattle.std.proofs.lemmas.Option.{same_Some}
use Rattle.sym_simplify.specs.Literal.{literal_form_of}
use Rattle.sym_simplify.specs.declared.normal.LitForm.{LitForm}
use Rattle.path_inputs.specs.Least.{IsPlainlyRefuted}
use Rattle.semantic_tables.specs.Walk.{prefix_forms, IsRefutedFirst}
use Rattle.semantic_tables.proofs.Refuted.{known_refuted}
use Rattle.semantic_tables.proofs.refuting.least_of.Goals as goal

pub returns-then-is_some-clause-least : goal.returns-then-is_some-clause-least
returns-then-is_some-clause-least c =
    known_refuted c.refuted_stays_refuted.ensures c.args.exploration c.args.prefix.now c.requires.known (sym c.is_some.ensures ∙ c.if-is_some.true)

pub returns-in_ok-count-in-None-clause-least : goal.returns-in_ok-count-in-None-clause-least
returns-in_ok-count-in-None-clause-least c =
    let g = c.args.exploration in
    let k : IsPlainlyRefuted g.proc.now.places g.line (map literal_form_of c.deref.result.now) = rw c.in-None.is at c.in_ok-input.ensures in
    subst (λ (ls : List LitForm). IsPlainlyRefuted g.proc.now.places g.line (map literal_form_of ls)) c.deref.ensures.value k

pub returns-in_ok-count-in-None-clause-known : goal.returns-in_ok-count-in-None-clause-known
returns-in_ok-count-in-None-clause-known c = λ count e.
    let g = c.args.exploration in
    let found = c.in_ok-count-in-None.count in
    let k = subst (λ (ls : List LitForm). IsRefutedFirst g.proc.now.places g.line (map literal_form_of ls) found) c.deref-in-None.ensures.value c.in_ok-count-in-None.ensures in
    subst (IsRefutedFirst g.proc.now.places g.line (prefix_forms c.args.prefix.now)) (same_Some found count e) k
