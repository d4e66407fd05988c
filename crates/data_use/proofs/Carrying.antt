-- What lines join one after the other, each by its relation on the points of several variables, is what the events of
-- each variable along them lead to.
use Rattle.std.proofs.Common.{◌≡◌, ◌↔◌, refl, sym, ap, ◌∙◌, subst, ℕ, zero, suc, ◌+◌, ◌*◌, ◌<◌, ◌≤◌, Some, List, [], ◌∷◌, length, slice_get, arith}
use Rattle.std.proofs.lemmas.Option.{same_Some, slice_get_within}
use Rattle.flow_graph.specs.declared.graph.Node.{Node}
use Rattle.data_use.specs.Events.{events_at, events_along}
use Rattle.data_use.specs.Points.{Leads, number, Carries}
use Rattle.data_use.specs.declared.points.Point.{Point}
use Rattle.data_use.specs.declared.points.Point.TheVariants.{Fresh, ReadFirst, Any, ReadOnce, WrittenOnce, JustWritten, Overwritten}
use Rattle.data_use.proofs.ArcWalks.{Through}
use Rattle.data_use.proofs.Patterns.{leads-join, leads-split}

number_low : (p : Point) → number p < 7
number_low Fresh = omega arith
number_low ReadFirst = omega arith
number_low Any = omega arith
number_low ReadOnce = omega arith
number_low WrittenOnce = omega arith
number_low JustWritten = omega arith
number_low Overwritten = omega arith

-- the point of a number
abbrev point_at : ℕ → Point
point_at zero = Fresh
point_at (suc zero) = ReadFirst
point_at (suc (suc zero)) = Any
point_at (suc (suc (suc zero))) = ReadOnce
point_at (suc (suc (suc (suc zero)))) = WrittenOnce
point_at (suc (suc (suc (suc (suc zero))))) = JustWritten
point_at (suc (suc (suc (suc (suc (suc k)))))) = Overwritten

point_at-number : (p : Point) → point_at (number p) ≡ p
point_at-number Fresh = refl
point_at-number ReadFirst = refl
point_at-number Any = refl
point_at-number ReadOnce = refl
point_at-number WrittenOnce = refl
point_at-number JustWritten = refl
point_at-number Overwritten = refl

-- points of one number are one
same_point : (p q : Point) → number p ≡ number q → p ≡ q
same_point p q e = sym (point_at-number p) ∙ ap point_at e ∙ point_at-number q

-- a place among all points is that of one variable and one of its points
same_place : (s t : ℕ) (p q : Point) → s * 7 + number p ≡ t * 7 + number q → (s ≡ t) × (p ≡ q)
same_place s t p q e =
    let a = number_low p in
    let b = number_low q in
    let same : s ≡ t = omega arith in
    (same, same_point p q (omega arith))

module _ (nodes : List Node) (group : List ℕ) (few : length group ≤ 9) (slot v : ℕ) (there : slice_get group slot ≡ Some v) where
  -- a line leads from a point of the variable to such a point alone
  carried : (k : ℕ) (p : Point) (y : ℕ) → Carries nodes group (length group) k (slot * 7 + number p) y
      → (q : Point) × (y ≡ slot * 7 + number q) × Leads (events_at (slice_get nodes k) v) p q
  carried k p y c =
      let m = c.4 in
      let same = same_place slot c.0 p m.0 m.3 in
      let variable : c.1 ≡ v = same_Some _ _ (sym c.3 ∙ ap (slice_get group) (sym same.0) ∙ there) in (
        m.1,
        m.4 ∙ ap (λ s. s * 7 + number m.1) (sym same.0),
        subst (λ i. Leads (events_at (slice_get nodes k) v) i m.1) (sym same.1) (subst (λ w. Leads (events_at (slice_get nodes k) w) m.0 m.1) variable m.2),
      )

  carries : (k : ℕ) (p q : Point) → Leads (events_at (slice_get nodes k) v) p q → Carries nodes group (length group) k (slot * 7 + number p) (slot * 7 + number q)
  carries k p q l = (slot, v, slice_get_within group slot v there, there, (p, q, l, refl, refl))

  carried_through : (lines : List ℕ) (p : Point) (y : ℕ) → Through (λ a. a < 66) (Carries nodes group (length group)) lines (slot * 7 + number p) y
      → (q : Point) × (y ≡ slot * 7 + number q) × Leads (events_along nodes v lines) p q
  carried_through [] p y h = (p, sym h.1, refl)
  carried_through (k ∷ lines) p y h =
      let first = carried k p h.0 h.1 in
      let rest = carried_through lines first.0 y (subst (λ c. Through (λ a. a < 66) (Carries nodes group (length group)) lines c y) first.1 h.2) in
      (rest.0, rest.1, leads-join (events_at (slice_get nodes k) v) (events_along nodes v lines) p first.0 rest.0 first.2 rest.2)

  carries_through : (lines : List ℕ) (p q : Point) → Leads (events_along nodes v lines) p q
      → Through (λ a. a < 66) (Carries nodes group (length group)) lines (slot * 7 + number p) (slot * 7 + number q)
  carries_through [] p q l = (let a = number_low p in let b = slice_get_within group slot v there in omega (arith, few), ap (λ i. slot * 7 + number i) l)
  carries_through (k ∷ lines) p q l =
      let m = leads-split (events_at (slice_get nodes k) v) (events_along nodes v lines) p q l in
      (slot * 7 + number m.0, carries k p m.0 m.1, carries_through lines m.0 q m.2)

  -- what lines join is what their events lead to
  pub through-leads : (lines : List ℕ) (p q : Point)
      → Through (λ a. a < 66) (Carries nodes group (length group)) lines (slot * 7 + number p) (slot * 7 + number q) ↔ Leads (events_along nodes v lines) p q
  through-leads lines p q = (
    λ h. let r = carried_through lines p (slot * 7 + number q) h in subst (Leads (events_along nodes v lines) p) (sym (same_place slot slot q r.0 r.1).1) r.2,
    carries_through lines p q,
  )
