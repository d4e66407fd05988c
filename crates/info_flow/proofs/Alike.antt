-- Evaluation depends on the places that an expression reads alone.
use Rattle.std.proofs.Common.{◌≡◌, inl, inr, refl}
use Rattle.il_core.specs.Expression.{Expression, number, variable, flag, truth, minus, opposite, two}
use Rattle.il_core.specs.Evaluation.{State, whole, holds}
use Rattle.flow_graph.specs.Reading.{Reads}
use Rattle.info_flow.specs.Agreement.{Agree}

pub whole_alike : (e : Expression) (s t : State) → Agree (Reads e) s t → whole e s ≡ whole e t
whole_alike (number n) s t h = refl
whole_alike (variable p) s t h = rw (h p refl) refl
whole_alike (flag p) s t h = refl
whole_alike (truth b) s t h = refl
whole_alike (minus e) s t h = rw (whole_alike e s t h) refl
whole_alike (opposite e) s t h = refl
whole_alike (two o a b) s t h = rw (whole_alike a s t (λ p r. h p (inl r)), whole_alike b s t (λ p r. h p (inr r))) refl

pub holds_alike : (e : Expression) (s t : State) → Agree (Reads e) s t → holds e s ≡ holds e t
holds_alike (number n) s t h = refl
holds_alike (variable p) s t h = refl
holds_alike (flag p) s t h = rw (h p refl) refl
holds_alike (truth b) s t h = refl
holds_alike (minus e) s t h = refl
holds_alike (opposite e) s t h = rw (holds_alike e s t h) refl
holds_alike (two o a b) s t h =
    let left : Agree (Reads a) s t = λ p r. h p (inl r) in
    let right : Agree (Reads b) s t = λ p r. h p (inr r) in
    rw (whole_alike a s t left, whole_alike b s t right, holds_alike a s t left, holds_alike b s t right) refl
