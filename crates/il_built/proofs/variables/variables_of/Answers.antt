use Rattle.std.proofs.Common.{◌≡◌, ◌∙◌, sym, ap, append-nil, arith, ℕ}
use Rattle.std.specs.Prelude.{List}
use Rattle.std.specs.Option.{option_to_list}
use Rattle.il_core.specs.Statement.{Statement, placed}
use Rattle.il_core.specs.declared.line.Place.{Place}
use Rattle.il_types.specs.Names.{Setting}
use Rattle.il_built.specs.CheckedText.{declared_place}
use Rattle.il_built.specs.Holding.{setting_at}
use Rattle.il_built.proofs.Given.{given_by}
use Rattle.il_built.proofs.Gathered.{gathered_start, gathered_step, gathered_end}
use Rattle.il_built.proofs.variables.variables_of.Goals as goal
use Rattle.il_built.proofs.variables.variables_of.Goals.{in-Some+in_ok-push, in_default}

pub loop-i-init : goal.loop-i-init
loop-i-init c =
    let stmts = c.args.setting.now.stmts in
    let give : ℕ → Statement → List Place = λ i x. declared_place (setting_at stmts i) x in
    c.new-places.ensures.items ∙ sym (gathered_start give stmts c.args.span.owner c.args.span.from c.args.span.to c.requires.statements)

pub loop-i-preserved : goal.loop-i-preserved
loop-i-preserved c =
    let say : Setting → ℕ → Statement → List Place = λ s i x. declared_place s x in
    let s = c.args.setting.now in
    gathered_step say s.stmts s.table c.args.span.owner c.args.span.from c.args.span.to c.loop-i.i c.in_procedure-here.result (placed c.stmt.result.now)
    c.loop-i.places.items c.match-declared_place.places.items (option_to_list c.declared_place.result)
    c.in_procedure-here.ensures c.stmt.ensures c.requires.names c.requires.statements c.loop-i.auto.i c.loop-i-test.true c.loop-i.invariant c.declared_place.ensures
    (elim c.match-declared_place.branch [
      | in-Some+in_ok-push w ↦
          let is = w.places-is in
          let more = w.in_ok-push.ensures.items in
          let one = ap option_to_list w.in-Some.is in cc
      | in_default w ↦
          let is = w.places-is in
          let same = append-nil c.loop-i.places.items in
          let none = ap option_to_list w.in_default.is in cc
    ])

pub returns : goal.returns
returns c =
    let stmts = c.args.setting.now.stmts in
    let give : ℕ → Statement → List Place = λ i x. declared_place (setting_at stmts i) x in
    let s = c.requires.statements in
    let ordered = s.ordered in
    let e : c.loop-i.i ≡ c.args.span.to = omega arith in
    c.loop-i.invariant ∙ ap (given_by give stmts c.args.span.owner) e ∙ gathered_end give stmts c.args.span.owner c.args.span.from c.args.span.to s
