use Rattle.il_inline.specs.Expanded.{whole_of}
use Rattle.std.proofs.Common.{Some, ap, ◌∙◌}
use Rattle.il_core.specs.declared.refusal.Refusal.{Refusal}
use Rattle.made_text.proofs.Counted.{is_short}
use Rattle.malpas.proofs.Outcomes.{has_spans}
use Rattle.malpas.proofs.Summed.{made_reported, belongs, refused_belongs}
use Rattle.malpas.proofs.made.answer_made.Goals as goal

pub returns-in-Ok-clause-headline : goal.returns-in-Ok-clause-headline
returns-in-Ok-clause-headline g c =
    made_reported c.args.number _ _ _ _ _ _ (whole_of c.in-Ok.text) c.summarise.result.report c.summarise.result.status (has_spans c.in-Ok.text c.in-Ok.ensures.1) (is_short c.args.number c.requires.1) c.in-Ok.ensures.0
    c.summarise.ensures.told_of c.summarise.ensures.written

pub returns-in-Ok-clause-complete : goal.returns-in-Ok-clause-complete
returns-in-Ok-clause-complete g c = λ calm.
    belongs c.args.number _ _ _ _ _ _ (whole_of c.in-Ok.text) c.summarise.result.refusal c.summarise.result.report c.summarise.result.status c.summarise.ensures.refusal
    (is_short c.args.number c.requires.1) c.in-Ok.ensures.0 c.summarise.ensures.told_of c.summarise.ensures.written calm

pub returns-in-Err-Refused-clause-complete : goal.returns-in-Err-Refused-clause-complete
returns-in-Err-Refused-clause-complete g c = λ calm.
    refused_belongs c.args.number _ _ _ _ _ _ c.in-Err-Refused.refusal _ c.refuse.result.refusal c.refuse.result.report c.refuse.result.status
    (c.refuse.ensures.refusal ∙ ap (λ (r : Refusal). Some r) c.in-Err-Refused.refusal-is) c.refuse.ensures.report (is_short c.args.number c.requires.1) (rw c.in-Err-Refused.field-0-is at c.in-Err-Refused.ensures) c.refuse.ensures.sent calm
