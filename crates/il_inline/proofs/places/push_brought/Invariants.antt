use Rattle.std.proofs.Common.{◌≡◌, ◌++◌, drop, map}
use Rattle.il_called.specs.Expansion.{brought}
use Rattle.il_inline.specs.Fits.{AreShort}
use Rattle.il_inline.proofs.places.push_brought.Given as goal

-- the places so far before those of the rest are all
abbrev pub invariant-loop-place : goal.invariant-loop-place
invariant-loop-place l =
    let left = map (brought l.call) (drop l.place-index l.places) in
    record { made : l.out.items ++ left ≡ l.initial.out.items ++ map (brought l.call) l.places; short : AreShort left }
