use Rattle.std.proofs.Common.{◌≡◌, inl, inr, ap, ◌-◌, ℕ, zero, suc, Some, List, [], ◌∷◌, slice_get}
use Rattle.il_core.specs.LineGraph.{IsIn}
use Rattle.control_flow.specs.Control.{heads_of}
use Rattle.control_flow.specs.declared.control.LoopInfo.{LoopInfo}
use Rattle.size_cases.proofs.reading.first_line.Goals as goal

head_in : (loops : List LoopInfo) (k : ℕ) (l : LoopInfo) → slice_get loops k ≡ Some l → IsIn (heads_of loops) l.head
head_in [] k l e = absurd (cc)
head_in (x ∷ loops) zero l e = inl (let h : x ≡ l = cc in ap (λ (y : LoopInfo). y.head) h)
head_in (x ∷ loops) (suc k) l e = inr (head_in loops k l e)

pub returns-in-Some : goal.returns-in-Some
returns-in-Some c =
    let v = c.in-Some.ensures.value in
    let e : slice_get c.args.control.now.loops (c.args.region - 1) ≡ Some c.in-Some.info.now = cc in
    inr (head_in c.args.control.now.loops (c.args.region - 1) c.in-Some.info.now e)
