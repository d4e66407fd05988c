use Rattle.std.proofs.Common.{◌≡◌, ◌+◌, ◌++◌, drop, map}
use Rattle.il_core.specs.Procedure.{instruction_of}
use Rattle.il_called.specs.Expansion.{inlined}
use Rattle.il_inline.specs.Held.{place_under}
use Rattle.il_inline.specs.Within.{AreWithin}
use Rattle.il_inline.proofs.calls.push_body.Given as goal

-- the lines so far before those of the rest are all
abbrev pub invariant-loop-line : goal.invariant-loop-line
invariant-loop-line l =
    let left = map (inlined (place_under l.under) (λ q. l.middle + q)) (map instruction_of (drop l.line-index l.lines)) in
    record {
      made : map instruction_of l.out ++ left ≡ map instruction_of l.initial.out ++ map (inlined (place_under l.under) (λ q. l.middle + q)) (map instruction_of l.lines);
      within : AreWithin left;
    }
