use Rattle.std.proofs.Common.{◌≡◌, ◌∙◌, inl, inr, sym, ap, ℕ, zero, suc, ◌-◌, Some, List, [], ◌∷◌, slice_get}
use Rattle.std.proofs.lemmas.Option.{same_Some, none-some, slice_get-get_or}
use Rattle.il_core.specs.LineGraph.{IsIn}
use Rattle.control_flow.specs.Control.{heads_of}
use Rattle.control_flow.specs.declared.control.LoopInfo.{LoopInfo}
use Rattle.table_cases.proofs.regions.first_line.Goals as goal

head_there : (loops : List LoopInfo) (at : ℕ) (l : LoopInfo) → slice_get loops at ≡ Some l → IsIn (heads_of loops) l.head
head_there [] at l e = absurd (none-some l e)
head_there (x ∷ loops) zero l e = inl (ap (λ (y : LoopInfo). y.head) (same_Some x l e))
head_there (x ∷ loops) (suc at) l e = inr (head_there loops at l e)

pub returns-in-Some : goal.returns-in-Some
returns-in-Some c =
    let there : slice_get c.args.loops.now (c.args.region - 1) ≡ Some c.in-Some.info.now =
    slice_get-get_or c.args.loops.now (c.args.region - 1) c.in-Some.info.now c.in-Some.ensures.lookup.3.0 ∙ ap Some (sym c.in-Some.ensures.lookup.1) in
    inr (head_there c.args.loops.now (c.args.region - 1) c.in-Some.info.now there)
