use Rattle.std.proofs.Common.{◌≡◌, ℕ, ◌+◌, ◌∙◌, sym, ap, List, [], ◌∷◌, length, arith}
use Rattle.std.specs.Prelude.{map}
use Rattle.std.proofs.lemmas.List.{length-append, map-append}
use Rattle.il_core.specs.Statement.{Statement, placed}
use Rattle.il_types.specs.Names.{Setting, counts_at}
use Rattle.il_types.proofs.Passing.{here}
use Rattle.il_built.specs.CheckedText.{named}
use Rattle.il_built.proofs.ProcedureNames.{counted_next}
use Rattle.il_called.specs.Called.{procedure_of}
use Rattle.call_rules.specs.CalledText.{written_procedure}
use Rattle.call_built.proofs.Made.{one_made, none_made}
use Rattle.call_built.proofs.procedures.called_procedures.Goals as goal
use Rattle.call_built.proofs.procedures.called_procedures.Goals.{in-Some+in_ok-proc+in_ok-push, in_default}

pub span_of-span-requires-clause-opening : goal.span_of-span-requires-clause-opening
span_of-span-requires-clause-opening c = record {
  stmt = placed c.index-stmts-i.result;
  there = here c.args.stmts.now c.loop-i.i c.index-stmts-i.result c.loop-i-test.true c.index-stmts-i.is;
  name = c.in-Some.name;
  says = c.in-Some.ensures;
  number = ap (λ n. n + 1) (c.len.ensures ∙ c.loop-i.invariant.number);
}

pub loop-i-preserved : goal.loop-i-preserved
loop-i-preserved c =
    let stmts = map placed c.args.stmts.now in
    let x = c.index-stmts-i.result in
    let there = here c.args.stmts.now c.loop-i.i x c.loop-i-test.true c.index-stmts-i.is in
    let next = counted_next stmts c.loop-i.i (placed x) there in
    let was = c.loop-i.invariant.number in
    let few = c.loop-i.invariant.few in
    elim c.match-named.branch [
      | in-Some+in_ok-proc+in_ok-push w ↦
          let grown = w.procs-is ∙ w.in_ok-push.ensures.ok in
          let is : named (placed x) ≡ w.in-Some.name ∷ [] = ap (λ (s : Statement). named (record { place = x.place; says = s })) w.in-Some.ensures in
          let body = w.in_ok-proc.ensures
          ∙ ap (λ (z : Setting). written_procedure z.stmts c.args.links.now w.span_of-span.result.owner w.in-Some.name) w.new-setting.ensures in
          let longer : length c.match-named.procs ≡ length c.loop-i.procs + 1 = ap length grown ∙ length-append c.loop-i.procs (w.in_ok-proc.proc ∷ []) in
          record {
            made = ap (map procedure_of) grown ∙ map-append procedure_of c.loop-i.procs (w.in_ok-proc.proc ∷ [])
                ∙ one_made stmts c.args.links.now c.loop-i.i w.span_of-span.result.owner (placed x) w.in-Some.name (map procedure_of c.loop-i.procs) (procedure_of w.in_ok-proc.proc)
                there is (w.span_of-span.ensures.owner ∙ ap (λ n. n + 1) (w.len.ensures ∙ was)) c.loop-i.invariant.made body;
            number = longer ∙ ap (λ n. n + 1) was ∙ sym (next ∙ ap (λ (ns : List (List ℕ)). (counts_at stmts c.loop-i.i).procedures + length ns) is);
            few = omega arith;
          }
      | in_default w ↦
          let same = w.procs-is in
          let is : named (placed x) ≡ [] = w.in_default.ensures in
          let size : length c.match-named.procs ≡ length c.loop-i.procs = ap length same in
          let none : length (named (placed x)) ≡ 0 = ap length is in
          record {
            made = ap (map procedure_of) same ∙ c.loop-i.invariant.made ∙ none_made stmts c.args.links.now c.loop-i.i (placed x) there is;
            number = omega arith;
            few = omega arith;
          }
    ]
