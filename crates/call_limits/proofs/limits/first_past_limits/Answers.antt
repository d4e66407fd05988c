use Rattle.std.proofs.Common.{◌∙◌, sym, ap, subst, refl, arith}
use Rattle.std.specs.Prelude.{map}
use Rattle.il_core.specs.Statement.{placed, statement_of}
use Rattle.il_types.specs.declared.counts.Counts.{Counts}
use Rattle.il_types.specs.CountsBelow.{IsBehind}
use Rattle.il_types.proofs.Passing.{here, refuses_here, before_more, nowhere}
use Rattle.call_rules.specs.Limits.{excess_at}
use Rattle.call_rules.proofs.Here.{setting_here}
use Rattle.call_limits.specs.Measures.{IsSmall}
use Rattle.std.specs.List.{All}
use Rattle.call_limits.proofs.States.{at_start, still_small, state_next, found_is, extent_read}
use Rattle.call_limits.proofs.limits.first_past_limits.Goals as goal

pub loop-i-init : goal.loop-i-init
loop-i-init c = record {
  behind = subst (λ (d : Counts). IsBehind d 0) (sym c.no_counts-counts.ensures)
      (record { statements = refl; procedures = omega arith; variables = omega arith; copies = omega arith; lines = omega arith });
  state = at_start (map placed c.args.stmts.now) c.no_counts-counts.result c.new-table.result.items c.no_extent-extent.result c.no_counts-counts.ensures c.new-table.ensures.items c.no_extent-extent.ensures;
  before = λ links k lt. absurd (omega arith);
}

pub end_procedure-requires : goal.end_procedure-requires
end_procedure-requires c = c.loop-i.invariant.state.within

pub extent_behind-extent-requires : goal.extent_behind-extent-requires
extent_behind-extent-requires c =
    let all = map placed c.args.stmts.now in
    let says = statement_of c.index-stmts-i.result.form in
    let w = c.loop-i.invariant.state.within in
    let places = w.places in
    record {
      small = subst (All IsSmall) (sym c.as_slice.ensures.value)
          (still_small all c.loop-i.i c.loop-i.counts c.loop-i.table.items c.end_procedure.new.table.items c.loop-i.extent says c.loop-i.invariant.state c.in_ok-end_procedure.ensures);
      lines = w.lines;
      returned = w.returned;
      brought = omega arith;
    }

pub returns-in-Some : goal.returns-in-Some
returns-in-Some c =
    let all = map placed c.args.stmts.now in
    let i = c.loop-i.i in
    let x = c.index-stmts-i.result in
    let says = statement_of x.form in
    let state = c.loop-i.invariant.state in
    let there = here c.args.stmts.now i x c.loop-i-test.true c.index-stmts-i.is in
    let set = setting_here all c.args.names.now c.loop-i.counts.procedures i c.new-setting.result c.requires.names (ap (λ (n : Counts). n.procedures) state.counts) c.new-setting.ensures in
    let more = c.end_procedure.new.table.items in
    let read = extent_read all i c.as_slice.result.now more c.new-setting.result c.loop-i.extent c.extent_behind-extent.result says c.as_slice.ensures.value set c.extent_behind-extent.ensures.extent in
    λ links. refuses_here (excess_at all links) c.args.stmts.now i x c.in-Some.found c.refusal_of.result c.loop-i-test.true c.index-stmts-i.is (c.loop-i.invariant.before links)
    (sym (c.in-Some.ensures ∙ found_is all links i (placed x) c.loop-i.counts c.counts_behind-counts.result c.loop-i.table.items more c.loop-i.extent c.extent_behind-extent.result
    there state c.in_ok-end_procedure.ensures read c.counts_behind-counts.ensures.counts))
    c.refusal_of.ensures

pub loop-i-preserved : goal.loop-i-preserved
loop-i-preserved c =
    let all = map placed c.args.stmts.now in
    let i = c.loop-i.i in
    let x = c.index-stmts-i.result in
    let says = statement_of x.form in
    let state = c.loop-i.invariant.state in
    let there = here c.args.stmts.now i x c.loop-i-test.true c.index-stmts-i.is in
    let set = setting_here all c.args.names.now c.loop-i.counts.procedures i c.new-setting.result c.requires.names (ap (λ (n : Counts). n.procedures) state.counts) c.new-setting.ensures in
    let more = c.end_procedure.new.table.items in
    let read = extent_read all i c.as_slice.result.now more c.new-setting.result c.loop-i.extent c.extent_behind-extent.result says c.as_slice.ensures.value set c.extent_behind-extent.ensures.extent in
    let none = sym c.in-None.ensures in
    record {
      behind = c.counts_behind-counts.ensures.behind;
      state = state_next all i (placed x) c.loop-i.counts c.counts_behind-counts.result c.loop-i.table.items more c.loop-i.extent c.extent_behind-extent.result
          there state c.in_ok-end_procedure.ensures read c.counts_behind-counts.ensures.counts none;
      before = λ links. before_more (excess_at all links) c.args.stmts.now i x c.loop-i-test.true c.index-stmts-i.is (c.loop-i.invariant.before links)
          (sym (found_is all links i (placed x) c.loop-i.counts c.counts_behind-counts.result c.loop-i.table.items more c.loop-i.extent c.extent_behind-extent.result
          there state c.in_ok-end_procedure.ensures read c.counts_behind-counts.ensures.counts) ∙ none);
    }

pub returns : goal.returns
returns c = λ links. nowhere (excess_at (map placed c.args.stmts.now) links) c.args.stmts.now c.loop-i.i c.loop-i-test.false (c.loop-i.invariant.before links)
