use Rattle.std.proofs.Common.{◌≡◌, ◌≤◌, ◌∙◌, sym, ap, subst, length, arith}
use Rattle.std.specs.Prelude.{Option, map}
use Rattle.std.proofs.lemmas.List.{length-map}
use Rattle.il_core.specs.Statement.{placed}
use Rattle.il_core.specs.Text.{text_procedure}
use Rattle.il_core.specs.declared.refusal.Refusal.{Refusal}
use Rattle.il_types.specs.Rules.{Answers}
use Rattle.il_built.specs.CheckedText.{procedure_names}
use Rattle.il_built.proofs.CheckedLinesWhole.{some_procedures, few_procedures}
use Rattle.il_built.proofs.Profile.{profile_is}
use Rattle.il_built.proofs.ProcedureNames.{procedures_counted}
use Rattle.il_built.proofs.checking.check.Goals as goal

pub new-requires : goal.new-requires
new-requires c =
    let stmts = map placed c.args.stmts.now in
    let many : length c.in_ok-procs.procs ≡ length (procedure_names stmts) =
    sym (length-map c.in_ok-procs.procs text_procedure) ∙ ap length c.in_ok-procs.ensures ∙ procedures_counted stmts c.args.links.now 1 (procedure_names stmts) in
    let some = some_procedures stmts c.requires.order in
    let few = few_procedures stmts (subst (λ (o : Option Refusal). Answers stmts o) c.in_default.is c.in_ok-refusal.ensures) in
    let profile = profile_is stmts in
    record {
      some_procedures = omega arith;
      few_procedures = omega arith;
      low_profile = subst (λ n. 1 ≤ n) (sym c.profile_of.ensures) profile.0;
      high_profile = subst (λ n. n ≤ 2) (sym c.profile_of.ensures) profile.1;
    }
