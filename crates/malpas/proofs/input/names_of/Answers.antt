use Rattle.std.proofs.Common.{ap, sym, ◌∙◌, map, take}
use Rattle.std.proofs.lemmas.List.{take_all}
use Rattle.il_core.specs.Checked.{NamedProcedure}
use Rattle.malpas.proofs.Inputs.{names_all}
use Rattle.malpas.proofs.input.names_of.Goals as goal

pub returns : goal.returns
returns c =
    let all = c.as_slice-proc-items.ensures ∙ c.procs.ensures.value in
    let whole = take_all c.loop-proc.proc-index c.as_slice-proc-items.result.now c.loop-proc-test.false in
    names_all c.args.text.now c.loop-proc.names.items
    (c.loop-proc.invariant ∙ ap (λ ps. map (λ (p : NamedProcedure). p.name) (take c.loop-proc.proc-index ps)) (sym all) ∙ ap (map (λ (p : NamedProcedure). p.name)) (whole ∙ all))
