-- Lifting by several constraints: what one raise keeps, several keep.
use Rattle.std.proofs.Common.{◌≡◌, ◌≢◌, ◌∙◌, inl, inr, ℕ, zero, suc, ◌+◌, ◌<◌, ◌≤◌, ℤ, pos, ◌-ℤ◌, ◌≤ℤ◌, Bool, true, false, List, [], ◌∷◌, length, set, Option, Some, None, slice_get, refl, sym, ap, subst, arith}
use Rattle.std.proofs.lemmas.Int.{ints}
use Rattle.std.proofs.lemmas.Bool.{cases_eq, false≢true}
use Rattle.std.proofs.lemmas.Option.{same_Some}
use Rattle.std.proofs.lemmas.List.{length-set, get_or-set_same, get_or-set_other}
use Rattle.std.specs.declared.vec.Vec.{Vec}
use Rattle.std.specs.declared.alloc.Global.{Global}
use Rattle.difference.specs.Constraints.{number, value_at, Meets, MeetsAt}
use Rattle.difference.specs.Chains.{Kept}
use Rattle.difference.specs.Solving.{IsRaised, IsLower, slot, IsArc, IsQuiet, Keeps, Asks, MetFrom, MetQuiet, MetIn}
use Rattle.difference.specs.declared.constraint.Range64.{Range64}
use Rattle.difference.specs.declared.constraint.Constraint.{Constraint}
use Rattle.difference.specs.declared.chain.Step.{Step}
use Rattle.difference.specs.declared.solving.Arc.{Arc}
use Rattle.difference.specs.declared.solving.Board.{Board}
use Rattle.difference.proofs.Lists.{get_set}
use Rattle.difference.proofs.Chained.{number-raised}
use Rattle.difference.proofs.Settling.{kept-put, raise-slack}

-- a raise leaves the value of each other side
side-other : (n : ℕ) (values : List ℤ) (node : ℕ) (value : ℤ) (side : Option ℕ) → slot n side ≢ node
    → value_at (set values node value) side ≡ value_at values side
side-other n values node value None ne = refl
side-other n values node value (Some k) ne = get_or-set_other values node k value (pos 0) ne

-- behind the values stands 0
number-past : (values : List ℤ) (k : ℕ) → length values ≤ k → pos 0 ≡ number values k
number-past [] k l = refl
number-past (v ∷ values) zero l = absurd (omega arith)
number-past (v ∷ values) (suc k) l = number-past values k (omega arith)

-- the value of a side is the one at its place
slot-value : (values : List ℤ) (n : ℕ) (side : Option ℕ) → length values ≡ n → value_at values side ≡ number values (slot n side)
slot-value values n None e = number-past values n (omega arith)
slot-value values n (Some k) e = refl

-- and lowers that of none
side-raised : (values after : List ℤ) (side : Option ℕ) → ((k : ℕ) → number values k ≤ℤ number after k)
    → value_at values side ≤ℤ value_at after side
side-raised values after None up = omega (arith, ints)
side-raised values after (Some k) up = up k

module _ (ranges : List Range64) (cs : List Constraint) where
  -- a board keeps itself
  pub keeps-same : (board : Board) → Kept ranges cs board.values.items board.chains.items → Keeps ranges cs board board
  keeps-same board kept = record { kept = kept; size = refl; quiet = λ c q. q; met = λ c q m. m }

  -- what two steps keep, both keep
  pub keeps-more : (before mid after : Board) → Keeps ranges cs before mid → Keeps ranges cs mid after → Keeps ranges cs before after
  keeps-more before mid after a b = record {
    kept = b.kept;
    size = b.size ∙ a.size;
    quiet = λ c q. a.quiet c (b.quiet c q);
    met = λ c q m. b.met c q (a.met c (b.quiet c q) m);
  }

  -- and they lower the slack where one does
  pub lower-more : (before mid after : Board) → IsLower ranges before mid → IsLower ranges mid after → IsLower ranges before after
  lower-more before mid after a b = record { lower = omega (arith, a.lower, b.lower) }

  -- a raise that wakes its unknown keeps the board
  pub keeps-put : (before after : Board) (i node : ℕ) (value : ℤ) (chain : Vec Step Global)
      → Kept ranges cs before.values.items before.chains.items → IsRaised ranges cs before.values.items node value chain.items × Asks cs before.values.items i node value
      → after.values.items ≡ set before.values.items node value → after.chains.items ≡ set before.chains.items node chain
      → after.pending.items ≡ set before.pending.items node true
      → Keeps ranges cs before after × IsLower ranges before after × MetQuiet (length ranges) cs i after
  keeps-put before after i node value chain kept asked values chains pending =
      let r = asked.0 in
      let asks = asked.1 in
      let known : node < length before.values.items = omega (arith, kept.within.size, r.known) in
      let up = number-raised before.values.items node value known r.higher in
      let apart : (c : Constraint) → IsQuiet (length ranges) after c.left
      → (slot (length ranges) c.left ≢ node) × IsQuiet (length ranges) before c.left
      = λ c q. elim (get_set before.pending.items node (slot (length ranges) c.left) true false (rw pending at q)) [
        | inl p ↦ absurd (false≢true p.1)
        | inr p ↦ p
      ] in (
        record {
          kept = rw (values, chains) (kept-put ranges cs before.values.items before.chains.items node value chain kept r);
          size = ap length pending ∙ length-set before.pending.items node true;
          quiet = λ c q. (apart c q).1;
          met = λ c q m.
              let other = side-other (length ranges) before.values.items node value c.left (apart c q).0 in
              let low = side-raised before.values.items (set before.values.items node value) c.right up in
              let old = m.kept in
              rw values (record { kept = omega (arith, ints) });
        },
        record { lower = rw values (raise-slack ranges cs before.values.items before.chains.items node value chain.items kept r) },
        λ c e q.
            let other = side-other (length ranges) before.values.items node value c.left (apart c q).0 in
            let now : value_at (set before.values.items node value) c.right ≡ value
            = ap (value_at (set before.values.items node value)) (asks.right c e) ∙ get_or-set_same before.values.items node value (pos 0) known in
            let is = asks.value_is c e in
            rw values (record { kept = omega (arith, ints) }),
      )

  -- what a pass so far says: nothing changed and the constraints are met, or the slack is lower
  abbrev pub IsPassed : Board → Board → Bool → ℕ → ℕ → Type 0
  IsPassed before after false first n = (after ≡ before) × MetFrom before.values.items cs first n
  IsPassed before after true first n = IsLower ranges before after

  -- one more constraint that is met
  pub passed-met : (before after : Board) (changed : Bool) (first i : ℕ) → IsPassed before after changed first i
      → MeetsAt after.values.items cs i → IsPassed before after changed first (i + 1)
  passed-met before after true first i p met = p
  passed-met before after false first i p met = (
    p.0,
    λ k l m. elim (cases_eq k i) [
      | inl e ↦ rw e (subst (λ (b : Board). MeetsAt b.values.items cs i) p.0 met)
      | inr ne ↦ p.1 k l (omega arith)
    ],
  )

  -- one more raise
  pub passed-raised : (before mid after : Board) (changed : Bool) (first i : ℕ) → IsPassed before mid changed first i
      → IsLower ranges mid after → IsLower ranges before after
  passed-raised before mid after true first i p l = lower-more before mid after p l
  passed-raised before mid after false first i p l = subst (λ (b : Board). IsLower ranges b after) p.0 l

  -- what a change so far says
  abbrev pub IsMoved : Board → Board → Bool → Type 0
  IsMoved before after false = after ≡ before
  IsMoved before after true = IsLower ranges before after

  -- one more raise
  pub moved-raised : (before mid after : Board) (changed : Bool) → IsMoved before mid changed
      → IsLower ranges mid after → IsLower ranges before after
  moved-raised before mid after true p l = lower-more before mid after p l
  moved-raised before mid after false p l = subst (λ (b : Board). IsLower ranges b after) p l

  -- one more constraint of a bucket, met or woken
  pub met-in-more : (bucket : List Arc) (m : ℕ) (arc : Arc) (board : Board) → MetIn (length ranges) cs bucket m board
      → slice_get bucket m ≡ Some arc → MetQuiet (length ranges) cs arc.index board → MetIn (length ranges) cs bucket (m + 1) board
  met-in-more bucket m arc board h at met j k l e = elim (cases_eq j m) [
    | inl p ↦ let same : k ≡ arc = same_Some k arc (sym e ∙ rw p at) in rw same met
    | inr ne ↦ h j k (omega arith) e
  ]

  -- the constraints of a bucket stay met through what keeps the board
  pub met-in-kept : (bucket : List Arc) (m : ℕ) (before after : Board) → MetIn (length ranges) cs bucket m before
      → Keeps ranges cs before after → MetIn (length ranges) cs bucket m after
  met-in-kept bucket m before after h k j i l e c f q = k.met c q (h j i l e c f (k.quiet c q))

  -- an arc that is met from the value that its left side had is met where that side is quiet, as it has not risen
  pub met-arc : (before board : Board) (place : ℕ) (arc : Arc) (start : ℤ) → Keeps ranges cs before board
      → length before.values.items ≡ length ranges → start ≡ number before.values.items place → IsArc (length ranges) cs place arc
      → (start -ℤ arc.bound) ≤ℤ value_at board.values.items arc.right → MetQuiet (length ranges) cs arc.index board
  met-arc before board place arc start keeps size is a met d e q =
      let side : Constraint = record { left = d.left; right = None; bound = start } in
      let old : value_at before.values.items d.left ≡ start
      = slot-value before.values.items (length ranges) d.left size ∙ (ap (number before.values.items) (a.left_is d e) ∙ sym is) in
      let was : Meets before.values.items side = record { kept = omega (arith, ints) } in
      let now = (keeps.met side q was).kept in
      let right : value_at board.values.items d.right ≡ value_at board.values.items arc.right = ap (value_at board.values.items) (a.right_is d e) in
      let bound = a.bound_is d e in
      record { kept = omega (arith, ints) }
