use Rattle.std.proofs.Common.{◌≡◌, ◌∙◌, sym, ap, subst, [], ◌∷◌, ◌++◌, append-nil, arith, ◌+◌, length, if◌then◌else◌}
use Rattle.std.specs.Prelude.{map}
use Rattle.std.proofs.lemmas.List.{length-map, length_push}
use Rattle.std.specs.Option.{option_to_list}
use Rattle.il_core.specs.Statement.{placed, statement_of}
use Rattle.il_types.specs.declared.counts.Counts.{Counts}
use Rattle.il_types.specs.Names.{Setting, counts_at}
use Rattle.il_types.proofs.Passing.{here}
use Rattle.call_rules.specs.Parameters.{declared_parameter, AreParameters}
use Rattle.call_rules.proofs.Gathering.{AreGathered, gathered_start, gathered_more, gathered_opening, gathered_again, gathered_end, procedures_more}
use Rattle.call_rules.proofs.Here.{setting_here}
use Rattle.call_rules.proofs.parameters.Parameters.new.Goals as goal
use Rattle.call_rules.proofs.parameters.Parameters.new.Goals.{in-Some+in_ok-push, in_default, then-is_procedure+in_ok-push-2, else-is_procedure}

pub loop-i-init : goal.loop-i-init
loop-i-init c =
    let none = c.new-lists.ensures.items in
    let empty = c.new-latest.ensures in
    record {
      size = ap length none;
      each = subst (AreGathered (map placed c.args.stmts.now) 0) (sym (ap (λ xs. xs ++ c.new-latest.result ∷ []) none ∙ ap (λ y. y ∷ []) empty)) (gathered_start (map placed c.args.stmts.now));
    }

pub loop-i-preserved : goal.loop-i-preserved
loop-i-preserved c =
    let all = map placed c.args.stmts.now in
    let i = c.loop-i.i in
    let x = c.index-stmts-i.result in
    let d = option_to_list c.declared_parameter.result in
    let there = here c.args.stmts.now i x c.loop-i-test.true c.index-stmts-i.is in
    let owner = ap (λ (n : Counts). n.procedures) c.counts_before-owner.ensures in
    let set = setting_here all c.args.names.now c.counts_before-owner.result.procedures i c.new-setting.result c.requires.names owner c.new-setting.ensures in
    let said = c.declared_parameter.ensures ∙ ap (λ (s : Setting). declared_parameter s (statement_of x.form)) set in
    let grown : c.match-declared_parameter.latest ≡ c.loop-i.latest ++ d = elim c.match-declared_parameter.branch [
      | in-Some+in_ok-push w ↦
          let is = w.latest-is in
          let more = w.in_ok-push.ensures.ok in
          let one = ap option_to_list w.in-Some.is in cc
      | in_default w ↦
          let is = w.latest-is in
          let same = append-nil c.loop-i.latest in
          let none = ap option_to_list w.in_default.is in cc
    ] in
    let more = gathered_more all i (placed x) c.loop-i.lists.items c.loop-i.latest d there c.loop-i.invariant.size said c.loop-i.invariant.each in
    let behind : (counts_at all (i + 1)).procedures ≡ (if c.is_procedure.result then length c.loop-i.lists.items + 1 else length c.loop-i.lists.items) =
    procedures_more c.args.stmts.now i x (length c.loop-i.lists.items) c.is_procedure.result c.loop-i-test.true c.index-stmts-i.is c.loop-i.invariant.size c.is_procedure.ensures in
    let all_of : AreGathered all (i + 1) (c.loop-i.lists.items ++ c.match-declared_parameter.latest ∷ []) =
    subst (λ y. AreGathered all (i + 1) (c.loop-i.lists.items ++ y ∷ [])) (sym grown) more in
    elim c.if-is_procedure.branch [
      | then-is_procedure+in_ok-push-2 w ↦
          let lists : c.if-is_procedure.lists.items ≡ c.loop-i.lists.items ++ c.match-declared_parameter.latest ∷ [] =
          ap (λ v. v.items) w.lists-is ∙ w.in_ok-push-2.ensures.items in
          let latest : c.if-is_procedure.latest ≡ [] = w.latest-is ∙ w.new-latest-then-is_procedure.ensures in
          let size : (counts_at all (i + 1)).procedures ≡ length c.loop-i.lists.items + 1 =
          behind ∙ ap (λ b. if b then length c.loop-i.lists.items + 1 else length c.loop-i.lists.items) w.if-is_procedure.true in
          record {
            size = ap length lists ∙ length_push c.loop-i.lists.items c.match-declared_parameter.latest ∙ sym size;
            each = gathered_again all (i + 1) (c.loop-i.lists.items ++ c.match-declared_parameter.latest ∷ []) c.if-is_procedure.lists.items [] c.if-is_procedure.latest lists latest
                (gathered_opening all (i + 1) (c.loop-i.lists.items ++ c.match-declared_parameter.latest ∷ []) all_of);
          }
      | else-is_procedure w ↦
          let lists : c.if-is_procedure.lists.items ≡ c.loop-i.lists.items = ap (λ v. v.items) w.lists-is in
          let size : (counts_at all (i + 1)).procedures ≡ length c.loop-i.lists.items =
          behind ∙ ap (λ b. if b then length c.loop-i.lists.items + 1 else length c.loop-i.lists.items) w.if-is_procedure.false in
          record {
            size = ap length lists ∙ sym size;
            each = gathered_again all (i + 1) c.loop-i.lists.items c.if-is_procedure.lists.items c.match-declared_parameter.latest c.if-is_procedure.latest lists w.latest-is all_of;
          }
    ]

pub returns : goal.returns
returns c =
    let size : c.loop-i.i ≡ length c.args.stmts.now = omega arith in
    let all = map placed c.args.stmts.now in
    subst (AreParameters all) (sym c.in_ok-push-3.ensures.items)
    (gathered_end all c.loop-i.i (c.loop-i.lists.items ++ c.loop-i.latest ∷ []) (size ∙ sym (length-map c.args.stmts.now placed)) c.loop-i.invariant.each)
