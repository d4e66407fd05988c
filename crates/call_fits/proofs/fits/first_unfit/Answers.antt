use Rattle.std.proofs.Common.{◌∙◌, sym, ap, subst, refl, arith}
use Rattle.std.specs.Prelude.{map}
use Rattle.il_core.specs.Statement.{placed, statement_of}
use Rattle.il_types.specs.declared.counts.Counts.{Counts}
use Rattle.il_types.specs.CountsBelow.{IsBehind}
use Rattle.il_types.proofs.Passing.{here, counts_more, refuses_here, before_more, nowhere}
use Rattle.call_rules.specs.Fits.{misfit_at}
use Rattle.call_rules.proofs.Here.{setting_here}
use Rattle.call_fits.specs.declared.longest.Latest.{Latest}
use Rattle.call_fits.proofs.States.{at_start, kept_next, latest_read}
use Rattle.call_fits.proofs.Misfit.{found_is}
use Rattle.call_fits.proofs.fits.first_unfit.Goals as goal

pub loop-i-init : goal.loop-i-init
loop-i-init c = record {
  behind = subst (λ (d : Counts). IsBehind d 0) (sym c.no_counts-counts.ensures)
      (record { statements = refl; procedures = omega arith; variables = omega arith; copies = omega arith; lines = omega arith });
  counts = c.no_counts-counts.ensures;
  calls = let e = ap (λ (x : Latest). x.calls) c.nothing_yet-latest.ensures in omega (arith, e);
  kept = at_start (map placed c.args.stmts.now) c.new-table.result.items c.nothing_yet-latest.result c.new-table.ensures.items c.nothing_yet-latest.ensures;
  before = λ links k lt. absurd (omega arith);
}

pub returns-in-Some : goal.returns-in-Some
returns-in-Some c =
    let all = map placed c.args.stmts.now in
    let i = c.loop-i.i in
    let x = c.index-stmts-i.result in
    let set = setting_here all c.args.names.now c.loop-i.counts.procedures i c.new-setting.result c.requires.names (ap (λ (n : Counts). n.procedures) c.loop-i.invariant.counts) c.new-setting.ensures in
    λ links. refuses_here (misfit_at all links) c.args.stmts.now i x c.in-Some.found c.refusal_of.result c.loop-i-test.true c.index-stmts-i.is (c.loop-i.invariant.before links)
    (sym (c.in-Some.ensures
    ∙ found_is all links i c.as_slice.result.now c.loop-i.table.items c.new-setting.result c.loop-i.latest (statement_of x.form) c.loop-i.invariant.kept c.as_slice.ensures.value set))
    c.refusal_of.ensures

pub loop-i-preserved : goal.loop-i-preserved
loop-i-preserved c =
    let all = map placed c.args.stmts.now in
    let i = c.loop-i.i in
    let x = c.index-stmts-i.result in
    let says = statement_of x.form in
    let procedures = ap (λ (n : Counts). n.procedures) c.loop-i.invariant.counts in
    let there = here c.args.stmts.now i x c.loop-i-test.true c.index-stmts-i.is in
    let set = setting_here all c.args.names.now c.loop-i.counts.procedures i c.new-setting.result c.requires.names procedures c.new-setting.ensures in
    let more = c.end_procedure.new.table.items in
    let read = latest_read all i c.as_slice-in-loop-i.result.now more c.new-setting.result c.loop-i.latest c.latest_behind-latest.result says c.as_slice-in-loop-i.ensures.value set
    c.latest_behind-latest.ensures.latest in
    let one = c.latest_behind-latest.ensures.one in
    let few = c.loop-i.invariant.calls in
    record {
      behind = c.counts_behind-counts.ensures.behind;
      counts = c.counts_behind-counts.ensures.counts ∙ counts_more c.args.stmts.now i x c.loop-i.counts c.loop-i-test.true c.index-stmts-i.is c.loop-i.invariant.counts;
      calls = omega (arith, one, few);
      kept = kept_next all i (placed x) c.loop-i.counts.procedures c.loop-i.table.items more c.loop-i.latest c.latest_behind-latest.result there procedures c.loop-i.invariant.kept
          c.in_ok-end_procedure.ensures read;
      before = λ links. before_more (misfit_at all links) c.args.stmts.now i x c.loop-i-test.true c.index-stmts-i.is (c.loop-i.invariant.before links)
          (sym (c.in-None.ensures
          ∙ found_is all links i c.as_slice.result.now c.loop-i.table.items c.new-setting.result c.loop-i.latest says c.loop-i.invariant.kept c.as_slice.ensures.value set));
    }

pub returns : goal.returns
returns c = λ links. nowhere (misfit_at (map placed c.args.stmts.now) links) c.args.stmts.now c.loop-i.i c.loop-i-test.false (c.loop-i.invariant.before links)
