-- A relation gathers moves one after the other, and the effects on variables one after the other.
use Rattle.std.proofs.Common.{◌≡◌, ◌⊎◌, ◌↔◌, inl, inr, sym, ap, ◌∙◌, subst, ℕ, ◌+◌, ◌*◌, ◌<◌, ◌≤◌, Some, List, length, take, get_or, slice_get, arith}
use Rattle.std.proofs.lemmas.Option.{slice_get-get_or, same_Some}
use Rattle.std.proofs.lemmas.Bool.{cases_lt}
use Rattle.flow_graph.specs.declared.graph.Node.{Node}
use Rattle.flow_graph.proofs.Members.{IsIn-more_cases, IsIn-more_old, IsIn-more_new}
use Rattle.data_use.specs.Events.{Event, events_at}
use Rattle.data_use.specs.Points.{number, AddsMove, LeadsOn, Carries}
use Rattle.data_use.specs.declared.points.Move.{Move}

-- one move more is added
pub moves-more : (Old Was New : ℕ → ℕ → Type 0) (first : ℕ) (moves : List Move) (i : ℕ) (d : Move) (a b : ℕ) → i < length moves
    → ((x y : ℕ) → Was x y ↔ (Old x y ⊎ AddsMove first (take i moves) x y))
    → a ≡ number (get_or moves i d).from → b ≡ number (get_or moves i d).to
    → ((x y : ℕ) → New x y ↔ (Was x y ⊎ ((x ≡ first + a) × (y ≡ first + b))))
    → (x y : ℕ) → New x y ↔ (Old x y ⊎ AddsMove first (take (i + 1) moves) x y)
moves-more Old Was New first moves i d a b l was from to new x y = (
  λ h.
      elim ((new x y).0 h) [
        | inl w ↦ elim ((was x y).0 w) [ inl o ↦ inl o | inr m ↦ inr (m.0, m.1, IsIn-more_old moves i d _ l m.2, m.3, m.4) ]
        | inr s ↦
            let e = get_or moves i d in
            inr (e.from, e.to, IsIn-more_new moves i d l, s.0 ∙ ap (λ k. first + k) from, s.1 ∙ ap (λ k. first + k) to)
      ],
  λ h.
      (new x y).1
      (elim h [
        | inl o ↦ inl ((was x y).1 (inl o))
        | inr m ↦ elim (IsIn-more_cases moves i d _ l m.2) [
          | inl old ↦ inl ((was x y).1 (inr (m.0, m.1, old, m.3, m.4)))
          | inr same ↦
              inr (
                m.3 ∙ ap (λ k. first + k) (ap (λ (s : Move). number s.from) (sym same) ∙ sym from),
                m.4 ∙ ap (λ k. first + k) (ap (λ (s : Move). number s.to) (sym same) ∙ sym to),
              )
        ]
      ]),
)

-- the effect on one variable more is added
pub carries-more : (Was New : ℕ → ℕ → Type 0) (nodes : List Node) (group : List ℕ) (at slot d : ℕ) (node : Node) (es : List Event) → slot < length group
    → slice_get nodes at ≡ Some node → es ≡ events_at (Some node) (get_or group slot d)
    → ((x y : ℕ) → Was x y ↔ Carries nodes group slot at x y) → ((x y : ℕ) → New x y ↔ (Was x y ⊎ LeadsOn (slot * 7) es x y))
    → (x y : ℕ) → New x y ↔ Carries nodes group (slot + 1) at x y
carries-more Was New nodes group at slot d node es l there same was new x y = (
  λ h.
      elim ((new x y).0 h) [
        | inl w ↦ let r = (was x y).0 w in (r.0, r.1, more r.0 r.2, r.3, r.4)
        | inr m ↦ (slot, get_or group slot d, more_here, slice_get-get_or group slot d l, subst (λ e. LeadsOn (slot * 7) e x y) here m)
      ],
  λ r. (new x y).1 (by_slot r (cases_lt r.0 slot)),
)
  where
    here : es ≡ events_at (slice_get nodes at) (get_or group slot d)
    here = same ∙ ap (λ o. events_at o (get_or group slot d)) (sym there)

    more : (k : ℕ) → k < slot → k < slot + 1
    more k h = omega arith

    more_here : slot < slot + 1
    more_here = omega arith

    by_slot : (r : Carries nodes group (slot + 1) at x y) → (r.0 < slot) ⊎ (slot ≤ r.0) → Was x y ⊎ LeadsOn (slot * 7) es x y
    by_slot r (inl lower) = inl ((was x y).1 (r.0, r.1, lower, r.3, r.4))
    by_slot r (inr not_lower) =
        let last : r.0 ≡ slot = let u = r.2 in omega arith in
        let v : get_or group slot d ≡ r.1 = same_Some _ _ (sym (slice_get-get_or group slot d l) ∙ ap (slice_get group) (sym last) ∙ r.3) in
        let e : events_at (slice_get nodes at) r.1 ≡ es = ap (events_at (slice_get nodes at)) (sym v) ∙ sym here in
        inr (subst (λ k. LeadsOn (k * 7) es x y) last (subst (λ f. LeadsOn (r.0 * 7) f x y) e r.4))
