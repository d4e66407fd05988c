use Rattle.std.proofs.Common.{◌≡◌, ◌<◌, inl, inr, sym, ap, ◌∙◌, subst, ℕ, Option, Some, All, List, ◌++◌, ◌∷◌, [], length, slice_get, arith}
use Rattle.std.proofs.lemmas.List.{length-map, length-append}
use Rattle.std.proofs.lemmas.List.Elements.{All-push}
use Rattle.il_core.specs.Checked.{procedure_of}
use Rattle.il_core.specs.Procedure.{instruction_of}
use Rattle.region_paths.specs.Count.{IsHeadCount, IsFewHead}
use Rattle.region_paths.proofs.Counts.{slice_get_last}
use Rattle.region_paths.proofs.LoopHeads.{loop_there, loop_inside}
use Rattle.region_paths.proofs.counting.head_counts.Goals as goal

pub head_count-count-requires-clause-at : goal.head_count-count-requires-clause-at
head_count-count-requires-clause-at c =
    let inside : c.loop-line.line < length (procedure_of c.args.proc.now).lines = omega (arith, c.loop-line-test.true, c.len-lines.ensures, ap length c.lines.ensures.value, length-map c.args.proc.now.lines instruction_of) in
    loop_inside c.args.loops.now c.loop-line.line c.loop_at.result
    (loop_there (procedure_of c.args.proc.now) c.args.loops.now c.loop-line.line c.args.heads.now c.loop_at.result c.requires.heads inside c.loop_at.ensures)

pub loop-line-preserved : goal.loop-line-preserved
loop-line-preserved c =
    let inside : c.loop-line.line < length (procedure_of c.args.proc.now).lines = omega (arith, c.loop-line-test.true, c.len-lines.ensures, ap length c.lines.ensures.value, length-map c.args.proc.now.lines instruction_of) in
    let told = loop_there (procedure_of c.args.proc.now) c.args.loops.now c.loop-line.line c.args.heads.now c.loop_at.result c.requires.heads inside c.loop_at.ensures in
    let e : c.push.new.self.items ≡ c.loop-line.counts.items ++ c.head_count-count.result ∷ [] = c.in_ok-push.ensures.items in
    record {
      size = ap length e ∙ length-append c.loop-line.counts.items (c.head_count-count.result ∷ []) ∙ omega (arith, c.loop-line.invariant.size);
      few = subst (All IsFewHead) (sym e) (All-push IsFewHead c.loop-line.counts.items c.head_count-count.result c.loop-line.invariant.few c.head_count-count.ensures.few);
      each = λ k o g. elim (slice_get_last c.loop-line.counts.items c.head_count-count.result k o (subst (λ (xs : List (Option ℕ)). slice_get xs k ≡ Some o) e g)) [
        | inl h ↦ c.loop-line.invariant.each k o h
        | inr h ↦
            subst (λ (n : ℕ). IsHeadCount (procedure_of c.args.proc.now) c.args.loops.now n o) (sym (h.0 ∙ c.loop-line.invariant.size))
            (subst (IsHeadCount (procedure_of c.args.proc.now) c.args.loops.now c.loop-line.line) (sym h.1) (c.head_count-count.ensures.exact c.loop-line.line told))
      ];
    }
