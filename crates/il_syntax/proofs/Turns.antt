-- Of statements in order, PROC and ENDPROC take turns, the statements of bodies stand between them, and no procedure is
-- open at the end.
use Rattle.std.proofs.Common.{◌≡◌, not, Bool, true, false, List, [], ◌∷◌, refl, sym, ap, subst}
use Rattle.std.specs.Prelude.{Option, Some, None}
use Rattle.std.specs.Option.{option_and_then}
use Rattle.il_core.specs.Statement.{Statement, Placed}
use Rattle.il_syntax.specs.declared.order.Part.{Part}
use Rattle.il_syntax.specs.declared.order.Part.TheVariants as part
use Rattle.il_syntax.specs.declared.order.Stage.{Stage}
use Rattle.il_syntax.specs.declared.order.Stage.TheVariants as at
use Rattle.il_syntax.specs.Order.{part_of, next, run, IsInOrder}

not_some : {A : Type 0} (x : A) → ◌≡◌ {A = Option A} None (Some x) → ⊥
not_some x e = cc

-- whether a procedure is open at a stage
abbrev pub inside : Stage → Bool
inside at.Variables = true
inside at.Postcondition = true
inside at.Body = true
inside _ = false

abbrev pub part_may_stand : Part → Bool → Bool
part_may_stand part.Opening b = not b
part_may_stand part.Closing b = b
part_may_stand part.Body b = b
part_may_stand _ b = true

abbrev pub part_turns : Part → Bool → Bool
part_turns part.Opening b = true
part_turns part.Closing b = false
part_turns _ b = b

-- whether a statement may stand where a procedure is open or none is
abbrev pub may_stand : Statement → Bool → Bool
may_stand s b = part_may_stand (part_of s) b

-- whether a procedure is open behind it
abbrev pub turned : Statement → Bool → Bool
turned s b = part_turns (part_of s) b

abbrev pub TakeTurns : Bool → List Placed → Type 0
TakeTurns b [] = b ≡ false
TakeTurns b (s ∷ ss) = (may_stand s.says b ≡ true) × TakeTurns (turned s.says b) ss

one_turn : (stage : Stage) (p : Part) (after : Stage) → next stage p ≡ Some after → (part_may_stand p (inside stage) ≡ true) × (inside after ≡ part_turns p (inside stage))
one_turn at.Start part.Title after e = let f : at.Declarations ≡ after = cc in (refl, ap inside (sym f))
one_turn at.Declarations part.Declaration after e = let f : at.Declarations ≡ after = cc in (refl, ap inside (sym f))
one_turn at.Declarations part.Opening after e = let f : at.Variables ≡ after = cc in (refl, ap inside (sym f))
one_turn at.Variables part.Variable after e = let f : at.Variables ≡ after = cc in (refl, ap inside (sym f))
one_turn at.Variables part.Precondition after e = let f : at.Postcondition ≡ after = cc in (refl, ap inside (sym f))
one_turn at.Postcondition part.Postcondition after e = let f : at.Body ≡ after = cc in (refl, ap inside (sym f))
one_turn at.Body part.Body after e = let f : at.Body ≡ after = cc in (refl, ap inside (sym f))
one_turn at.Body part.Closing after e = let f : at.Procedures ≡ after = cc in (refl, ap inside (sym f))
one_turn at.Procedures part.Opening after e = let f : at.Variables ≡ after = cc in (refl, ap inside (sym f))
one_turn at.Procedures part.Finish after e = let f : at.Done ≡ after = cc in (refl, ap inside (sym f))
one_turn _ _ after e = absurd (not_some after e)

from_stage : (ss : List Placed) (stage : Stage) → run stage ss ≡ Some at.Done → TakeTurns (inside stage) ss
from_stage [] stage e = let f : stage ≡ at.Done = cc in ap inside f
from_stage (s ∷ ss) stage e = by (next stage (part_of s.says)) refl e (λ after. from_stage ss after)
  where
    by : (o : Option Stage) → next stage (part_of s.says) ≡ o → option_and_then (λ after. run after ss) o ≡ Some at.Done
        → ((after : Stage) → run after ss ≡ Some at.Done → TakeTurns (inside after) ss) → TakeTurns (inside stage) (s ∷ ss)
    by None f e claim = absurd (not_some at.Done e)
    by (Some after) f e claim =
        let t = one_turn stage (part_of s.says) after f in (t.0, subst (λ (b : Bool). TakeTurns b ss) t.1 (claim after e))

pub take_turns : (ss : List Placed) → IsInOrder ss → TakeTurns false ss
take_turns ss e = from_stage ss at.Start e
