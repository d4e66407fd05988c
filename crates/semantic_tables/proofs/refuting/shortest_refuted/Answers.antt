use Rattle.std.proofs.Common.{refl, sym, ◌∙◌, ◌-◌, length, arith}
use Rattle.std.proofs.lemmas.List.Elements.{All-take}
use Rattle.sym_simplify.specs.Literal.{literal_form_of}
use Rattle.sym_simplify.specs.Easy.{IsKept}
use Rattle.sym_simplify.specs.Places.{HasLiteralPlacesBelow}
use Rattle.sym_simplify.specs.declared.normal.LitForm.{LitForm}
use Rattle.semantic_tables.proofs.Refuted.{all_refuted, fewer_refuted}
use Rattle.semantic_tables.proofs.refuting.shortest_refuted.Goals as goal

pub loop-count-init : goal.loop-count-init
loop-count-init c = all_refuted c.args.exploration.proc.now.places c.args.exploration.line c.args.literals.now (length c.args.literals.now) refl c.requires.refuted

pub solved-requires-clause-below : goal.solved-requires-clause-below
solved-requires-clause-below c = All-take (λ (l : LitForm). HasLiteralPlacesBelow (length c.args.exploration.proc.now.places) (literal_form_of l)) (c.loop-count.count - 1) c.args.literals.now c.requires.below

pub solved-requires-clause-kept : goal.solved-requires-clause-kept
solved-requires-clause-kept c = All-take (λ (l : LitForm). IsKept (literal_form_of l)) (c.loop-count.count - 1) c.args.literals.now c.requires.kept

pub loop-count-preserved : goal.loop-count-preserved
loop-count-preserved c =
    fewer_refuted c.args.exploration.proc.now.places c.args.exploration.line c.args.literals.now (c.loop-count.count - 1) c.in_ok-solved.field-0
    (omega (arith, c.loop-count-test.true, c.loop-count.auto.count)) (sym c.is_some.ensures ∙ c.if-is_some.false) c.in_ok-solved.ensures
