use Rattle.std.proofs.Common.{sym, subst, List, map}
use Rattle.sym_simplify.specs.Literal.{literal_form_of}
use Rattle.sym_simplify.specs.declared.normal.LitForm.{LitForm}
use Rattle.semantic_tables.specs.Hazards.{IsLeastOf}
use Rattle.compliance.proofs.judging.judged.Goals as goal

pub verdict_of-requires-clause-least : goal.verdict_of-requires-clause-least
verdict_of-requires-clause-least c =
    subst (λ (ls : List LitForm). IsLeastOf c.args.proc.now.places c.args.pc (map literal_form_of ls) c.args.hazard.least) (sym c.as_slice-2.ensures) c.requires.least.least
