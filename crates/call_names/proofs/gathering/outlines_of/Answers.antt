use Rattle.std.proofs.Common.{◌≡◌, ◌∙◌, sym, ap, subst, List, [], ◌∷◌, ◌++◌, append-nil, arith, ◌+◌, length, if◌then◌else◌}
use Rattle.std.specs.Prelude.{map}
use Rattle.std.proofs.lemmas.List.{length-map, length_push, map-append, take_all}
use Rattle.std.specs.Option.{option_to_list}
use Rattle.il_core.specs.Statement.{Placed, placed, statement_of}
use Rattle.il_types.specs.declared.counts.Counts.{Counts}
use Rattle.il_types.specs.Names.{counts_at, front_of}
use Rattle.il_types.proofs.Passing.{here}
use Rattle.il_built.specs.Holding.{setting_at}
use Rattle.call_rules.proofs.Gathering.{procedures_more}
use Rattle.call_names.specs.Gathered.{declared_variable, called_in}
use Rattle.call_names.specs.declared.outline.Outline.{Outline}
use Rattle.call_names.proofs.AlikeTables.{called_alike}
use Rattle.call_names.proofs.Lists.{AreLists, lists_start, lists_more, lists_opening, lists_again, lists_end}
use Rattle.call_names.proofs.gathering.outlines_of.Goals as goal
use Rattle.call_names.proofs.gathering.outlines_of.Goals.{in-Some+in_ok-push, in_default, in-Some-called_in+in_ok-push-2, in_default-called_in, then-is_procedure+in_ok-push-3, else-is_procedure}

pub loop-i-init : goal.loop-i-init
loop-i-init c =
    let all = map placed c.args.stmts.now in
    let none = c.new-outlines.ensures.items in
    record {
      size = ap length none;
      variables = lists_again (λ i x. declared_variable x) all 0 [] (map (λ (o : Outline). o.variables) c.new-outlines.result.items) [] c.new-variables.result
          (ap (map (λ (o : Outline). o.variables)) none) c.new-variables.ensures (lists_start (λ i x. declared_variable x) all);
      calls = lists_again (λ i x. called_in (setting_at all i) x) all 0 [] (map (λ (o : Outline). o.calls) c.new-outlines.result.items) [] c.new-calls.result
          (ap (map (λ (o : Outline). o.calls)) none) c.new-calls.ensures (lists_start (λ i x. called_in (setting_at all i) x) all);
    }

pub loop-i-preserved : goal.loop-i-preserved
loop-i-preserved c =
    let all = map placed c.args.stmts.now in
    let i = c.loop-i.i in
    let x = c.index-stmts-i.result in
    let old = c.loop-i.outlines.items in
    let size = c.loop-i.invariant.size in
    let there = here c.args.stmts.now i x c.loop-i-test.true c.index-stmts-i.is in
    let owner = ap (λ (n : Counts). n.procedures) c.counts_before-owner.ensures in
    let vs = map (λ (o : Outline). o.variables) old in
    let cs = map (λ (o : Outline). o.calls) old in
    let variables = c.match-declared_variable.variables in
    let calls = c.match-called_in.calls in
    let declared = option_to_list c.declared_variable.result in
    let called = option_to_list c.called_in.result in
    let same = called_alike c.args.names.now all c.counts_before-owner.result.procedures i c.new-setting.result c.requires.names owner c.new-setting.ensures in
    let said = c.called_in.ensures ∙ same (statement_of x.form) in
    let grown_variables : variables ≡ c.loop-i.variables ++ declared = elim c.match-declared_variable.branch [
      | in-Some+in_ok-push w ↦
          let is = w.variables-is in
          let more = w.in_ok-push.ensures.ok in
          let one = ap option_to_list w.in-Some.is in cc
      | in_default w ↦
          let is = w.variables-is in
          let same = append-nil c.loop-i.variables in
          let none = ap option_to_list w.in_default.is in cc
    ] in
    let grown_calls : calls ≡ c.loop-i.calls ++ called = elim c.match-called_in.branch [
      | in-Some-called_in+in_ok-push-2 w ↦
          let is = w.calls-is in
          let more = w.in_ok-push-2.ensures.ok in
          let one = ap option_to_list w.in-Some-called_in.is in cc
      | in_default-called_in w ↦
          let is = w.calls-is in
          let same = append-nil c.loop-i.calls in
          let none = ap option_to_list w.in_default-called_in.is in cc
    ] in
    let more_variables : AreLists (λ k y. declared_variable y) all (i + 1) (vs ++ variables ∷ []) =
    subst (λ y. AreLists (λ k y. declared_variable y) all (i + 1) (vs ++ y ∷ [])) (sym grown_variables)
    (lists_more (λ k y. declared_variable y) all i (placed x) vs c.loop-i.variables declared there (length-map old (λ (o : Outline). o.variables) ∙ size) c.declared_variable.ensures
    c.loop-i.invariant.variables) in
    let more_calls : AreLists (λ k y. called_in (setting_at all k) y) all (i + 1) (cs ++ calls ∷ []) =
    subst (λ y. AreLists (λ k y. called_in (setting_at all k) y) all (i + 1) (cs ++ y ∷ [])) (sym grown_calls)
    (lists_more (λ k y. called_in (setting_at all k) y) all i (placed x) cs c.loop-i.calls called there (length-map old (λ (o : Outline). o.calls) ∙ size) said c.loop-i.invariant.calls) in
    let behind : (counts_at all (i + 1)).procedures ≡ (if c.is_procedure.result then length old + 1 else length old) =
    procedures_more c.args.stmts.now i x (length old) c.is_procedure.result c.loop-i-test.true c.index-stmts-i.is size c.is_procedure.ensures in
    elim c.if-is_procedure.branch [
      | then-is_procedure+in_ok-push-3 w ↦
          let one : Outline = record { variables = variables; calls = calls } in
          let outlines : c.if-is_procedure.outlines.items ≡ old ++ one ∷ [] = ap (λ v. v.items) w.outlines-is ∙ w.in_ok-push-3.ensures.items in
          let many : (counts_at all (i + 1)).procedures ≡ length old + 1 = behind ∙ ap (λ b. if b then length old + 1 else length old) w.if-is_procedure.true in
          record {
            size = ap length outlines ∙ length_push old one ∙ sym many;
            variables = lists_again (λ k y. declared_variable y) all (i + 1) (vs ++ variables ∷ []) (map (λ (o : Outline). o.variables) c.if-is_procedure.outlines.items) []
                c.if-is_procedure.variables (ap (map (λ (o : Outline). o.variables)) outlines ∙ map-append (λ (o : Outline). o.variables) old (one ∷ []))
                (w.variables-is ∙ w.new-variables-then-is_procedure.ensures) (lists_opening (λ k y. declared_variable y) all (i + 1) (vs ++ variables ∷ []) more_variables);
            calls = lists_again (λ k y. called_in (setting_at all k) y) all (i + 1) (cs ++ calls ∷ []) (map (λ (o : Outline). o.calls) c.if-is_procedure.outlines.items) []
                c.if-is_procedure.calls (ap (map (λ (o : Outline). o.calls)) outlines ∙ map-append (λ (o : Outline). o.calls) old (one ∷ []))
                (w.calls-is ∙ w.new-calls-then-is_procedure.ensures) (lists_opening (λ k y. called_in (setting_at all k) y) all (i + 1) (cs ++ calls ∷ []) more_calls);
          }
      | else-is_procedure w ↦
          let outlines : c.if-is_procedure.outlines.items ≡ old = ap (λ v. v.items) w.outlines-is in
          let many : (counts_at all (i + 1)).procedures ≡ length old = behind ∙ ap (λ b. if b then length old + 1 else length old) w.if-is_procedure.false in
          record {
            size = ap length outlines ∙ sym many;
            variables = lists_again (λ k y. declared_variable y) all (i + 1) vs (map (λ (o : Outline). o.variables) c.if-is_procedure.outlines.items) variables
                c.if-is_procedure.variables (ap (map (λ (o : Outline). o.variables)) outlines) w.variables-is more_variables;
            calls = lists_again (λ k y. called_in (setting_at all k) y) all (i + 1) cs (map (λ (o : Outline). o.calls) c.if-is_procedure.outlines.items) calls
                c.if-is_procedure.calls (ap (map (λ (o : Outline). o.calls)) outlines) w.calls-is more_calls;
          }
    ]

pub returns : goal.returns
returns c =
    let all = map placed c.args.stmts.now in
    let i = c.loop-i.i in
    let old = c.loop-i.outlines.items in
    let one : Outline = record { variables = c.loop-i.variables; calls = c.loop-i.calls } in
    let at : i ≡ length c.args.stmts.now = omega arith in
    let end : i ≡ length all = at ∙ sym (length-map c.args.stmts.now placed) in
    let outlines = c.in_ok-push-4.ensures.items in
    record {
      size = ap length outlines ∙ length_push old one ∙ ap (λ n. n + 1) (c.loop-i.invariant.size ∙ ap (λ n. (counts_at all n).procedures) end
          ∙ ap (λ (xs : List Placed). (front_of xs).counts.procedures) (take_all (length all) all (omega arith)));
      variables = lists_end (λ k y. declared_variable y) all i (map (λ (o : Outline). o.variables) c.push-2.new.self.items) _ end
          (ap (map (λ (o : Outline). o.variables)) outlines ∙ map-append (λ (o : Outline). o.variables) old (one ∷ [])) c.loop-i.invariant.variables;
      calls = lists_end (λ k y. called_in (setting_at all k) y) all i (map (λ (o : Outline). o.calls) c.push-2.new.self.items) _ end
          (ap (map (λ (o : Outline). o.calls)) outlines ∙ map-append (λ (o : Outline). o.calls) old (one ∷ [])) c.loop-i.invariant.calls;
    }
