-- A step of a checked procedure from a state in range leads to a state in range, and to one of its lines along an arc where it does not halt.
use Rattle.std.proofs.Common.{◌≡◌, ◌≢◌, refl, sym, ap, ◌∙◌, ℕ, ◌+◌, ◌<◌, ◌≤◌, ℤ, pos, ◌+ℤ◌, ◌-ℤ◌, ◌≤ℤ◌, Bool, true, false, ◌&&◌, cond, Option, Some, None, List, [], ◌∷◌, length, slice_get, slice_set, arith, inl, inr}
use Rattle.std.specs.Prelude.{int_le}
use Rattle.std.proofs.lemmas.Int.{ints}
use Rattle.std.proofs.lemmas.List.{get_or-set_same, get_or-set_other, length-set}
use Rattle.std.proofs.lemmas.Option.{slice_get_within}
use Rattle.std.proofs.lemmas.Bool.Decides.{eqb_tells}
use Rattle.il_core.specs.Expression.{Expression}
use Rattle.il_core.specs.Evaluation.{State, value_at, holds}
use Rattle.il_core.specs.Machine.{Step, goes, stays, decided, given, lies_in, wrapped, kept, stored, assigned_to, assigned, stepped, stepped_at, step}
use Rattle.il_core.specs.Procedure.{Procedure, Instruction, pre, assign, if_true, otherwise, end_if, loop, end_loop, exit, exit_when, label, goto, skip, assert, return, end_procedure}
use Rattle.il_core.specs.LineGraph.{IsIn, heads_of, heads_at}
use Rattle.il_core.specs.Run.{IsInRange}
use Rattle.il_core.specs.Checked.{IsChecked, FitsAt, HasRange}
use Rattle.il_core.specs.declared.line.Place.{Place}
use Rattle.il_core.specs.declared.line.Halt.{Halt}
use Rattle.il_core.specs.declared.line.Next.TheVariants.{At}
use Rattle.il_core.proofs.Integers.{remainder-low, remainder-high}

-- what a step owes: a state in range and, where it does not halt, an arc to a line
pub record IsKept (places : List Place) (count : ℕ) (heads : List ℕ) (to : Step) : Type 0 where
  pub in_range : IsInRange places to.state
  pub along : (q : ℕ) → to.next ≡ At q → IsIn heads q
  pub inside : (q : ℕ) → to.next ≡ At q → q < count

-- a wrapped value lies in the range
pub wrapped-low : (p : Place) (v : ℤ) → p.least ≤ℤ p.greatest → p.least ≤ℤ wrapped p v
wrapped-low p v h =
    let n : ((p.greatest -ℤ p.least) +ℤ pos 1) ≢ pos 0 = λ e. absurd (omega (arith, ints)) in
    let k = remainder-low (v -ℤ p.least) ((p.greatest -ℤ p.least) +ℤ pos 1) n in omega (arith, ints)

pub wrapped-high : (p : Place) (v : ℤ) → p.least ≤ℤ p.greatest → wrapped p v ≤ℤ p.greatest
wrapped-high p v h =
    let n : ((p.greatest -ℤ p.least) +ℤ pos 1) ≢ pos 0 = λ e. absurd (omega (arith, ints)) in
    let k = remainder-high (v -ℤ p.least) ((p.greatest -ℤ p.least) +ℤ pos 1) n in omega (arith, ints)

lies-means : (p : Place) (v : ℤ) → lies_in p v ≡ true → (p.least ≤ℤ v) × (v ≤ℤ p.greatest)
lies-means p v h = by_test (int_le p.least v) refl h
  where
    by_test : (c : Bool) → int_le p.least v ≡ c → (c && int_le v p.greatest) ≡ true → (p.least ≤ℤ v) × (v ≤ℤ p.greatest)
    by_test true e k = (grind (arith, ints), grind (arith, ints))
    by_test false e k = absurd (cc)

-- what a place keeps of a value lies in its range
pub kept-within : (p : Place) (v w : ℤ) → p.least ≤ℤ p.greatest → kept p v ≡ Some w → (p.least ≤ℤ w) × (w ≤ℤ p.greatest)
kept-within p v w h = by_wrap p.wrap
  where
    by_range : (c : Bool) → lies_in p v ≡ c → cond c (Some v) None ≡ Some w → (p.least ≤ℤ w) × (w ≤ℤ p.greatest)
    by_range true e k = let f : v ≡ w = cc in rw (← f) (lies-means p v e)
    by_range false e k = absurd (cc)

    by_wrap : (c : Bool) → cond c (Some (wrapped p v)) (cond (lies_in p v) (Some v) None) ≡ Some w → (p.least ≤ℤ w) × (w ≤ℤ p.greatest)
    by_wrap true k = let f : wrapped p v ≡ w = cc in rw (← f) (wrapped-low p v h, wrapped-high p v h)
    by_wrap false k = by_range (lies_in p v) refl k

-- a state in range in which a place gets a value of its range is in range
pub set-in_range : (places : List Place) (s : State) (p : ℕ) (place : Place) (w : ℤ) → IsInRange places s → slice_get places p ≡ Some place
    → place.least ≤ℤ w → w ≤ℤ place.greatest → IsInRange places (slice_set s p w)
set-in_range places s p place w r e l g =
    record {
      size = length-set s p w ∙ r.size;
      least = λ k q there. (at_place k q there).0;
      greatest = λ k q there. (at_place k q there).1;
    }
  where
    inside : p < length s
    inside = let k = slice_get_within places p place e in rw r.size k

    at_place : (k : ℕ) (q : Place) → slice_get places k ≡ Some q → (q.least ≤ℤ value_at (slice_set s p w) k) × (value_at (slice_set s p w) k ≤ℤ q.greatest)
    at_place k q there = elim (eqb_tells k p) [
      | inl same ↦
          let f : Some q ≡ Some place = sym there ∙ ap (slice_get places) same.1 ∙ e in
          let here : q ≡ place = cc in
          rw (same.1, get_or-set_same s p w (pos 0) inside, here) (l, g)
      | inr other ↦ rw (get_or-set_other s p k w (pos 0) other.1) (r.least k q there, r.greatest k q there)
    ]

goes-kept : (places : List Place) (count : ℕ) (heads : List ℕ) (q : ℕ) (s : State) → IsInRange places s → IsIn heads q → q < count
    → IsKept places count heads (goes q s)
goes-kept places count heads q s r a b = record { in_range = r; along = λ t e. let k : q ≡ t = cc in rw (← k) a; inside = λ t e. let k : q ≡ t = cc in rw (← k) b }

stays-kept : (places : List Place) (count : ℕ) (heads : List ℕ) (h : Halt) (s : State) → IsInRange places s → IsKept places count heads (stays h s)
stays-kept places count heads h s r = record { in_range = r; along = λ t e. absurd (cc); inside = λ t e. absurd (cc) }

decided-kept : (places : List Place) (count : ℕ) (heads : List ℕ) (o : Option Bool) (a b c : Step) → IsKept places count heads a → IsKept places count heads b
    → IsKept places count heads c → IsKept places count heads (decided o a b c)
decided-kept places count heads None a b c x y z = x
decided-kept places count heads (Some true) a b c x y z = y
decided-kept places count heads (Some false) a b c x y z = z

-- what an assignment does to a place that exists
stored-kept : (places : List Place) (count pc p : ℕ) (place : Place) (s : State) (v : ℤ) (o : Option ℤ) → IsInRange places s → slice_get places p ≡ Some place
    → HasRange place → pc + 1 < count → kept place v ≡ o → IsKept places count ((pc + 1) ∷ []) (stored pc p s o)
stored-kept places count pc p place s v None r e h b k = stays-kept places count _ _ s r
stored-kept places count pc p place s v (Some w) r e h b k =
    let f = kept-within place v w h.ordered k in
    goes-kept places count ((pc + 1) ∷ []) (pc + 1) (slice_set s p w) (set-in_range places s p place w r e f.0 f.1) (inl refl) b

given-kept : (places : List Place) (count pc p : ℕ) (place : Place) (s : State) (o : Option ℤ) → IsInRange places s → slice_get places p ≡ Some place
    → HasRange place → pc + 1 < count → IsKept places count ((pc + 1) ∷ []) (assigned_to pc p place s o)
given-kept places count pc p place s None r e h b = stays-kept places count _ _ s r
given-kept places count pc p place s (Some v) r e h b = stored-kept places count pc p place s v (kept place v) r e h b refl

assigned-kept : (places : List Place) (count pc p : ℕ) (e : Expression) (s : State) (o : Option Place) → IsInRange places s → slice_get places p ≡ o
    → ((k : ℕ) (q : Place) → slice_get places k ≡ Some q → HasRange q) → pc + 1 < count → IsKept places count ((pc + 1) ∷ []) (assigned pc p e s o)
assigned-kept places count pc p e s None r t h b = stays-kept places count _ _ s r
assigned-kept places count pc p e s (Some place) r t h b = given-kept places count pc p place s (given place e s) r t (h p place t) b

-- the step of an instruction that fits its line
stepped-kept : (places : List Place) (count pc : ℕ) (s : State) (i : Instruction) → IsInRange places s → pc < count → 2 ≤ count
    → ((k : ℕ) (q : Place) → slice_get places k ≡ Some q → HasRange q) → FitsAt places count pc i → IsKept places count (heads_of pc i) (stepped places pc s i)
stepped-kept places count pc s (pre e) r b m h f =
    let next : pc + 1 < count = omega (arith, f.0) in
    decided-kept places count _ (holds e s) _ _ _ (stays-kept _ _ _ _ s r) (goes-kept _ _ _ _ s r (inl refl) next) (stays-kept _ _ _ _ s r)
stepped-kept places count pc s (assign p e) r b m h f = assigned-kept places count pc p e s (slice_get places p) r refl h f.0
stepped-kept places count pc s (if_true e q) r b m h f =
    decided-kept places count _ (holds e s) _ _ _ (stays-kept _ _ _ _ s r) (goes-kept _ _ _ _ s r (inl refl) f.0) (goes-kept _ _ _ _ s r (inr (inl refl)) f.1.inside)
stepped-kept places count pc s (otherwise q) r b m h f = goes-kept _ _ _ _ s r (inl refl) f.inside
stepped-kept places count pc s end_if r b m h f = goes-kept _ _ _ _ s r (inl refl) f
stepped-kept places count pc s loop r b m h f = goes-kept _ _ _ _ s r (inl refl) f
stepped-kept places count pc s (end_loop q) r b m h f = goes-kept _ _ _ _ s r (inl refl) f.inside
stepped-kept places count pc s (exit q) r b m h f = goes-kept _ _ _ _ s r (inl refl) f.inside
stepped-kept places count pc s (exit_when e q) r b m h f =
    decided-kept places count _ (holds e s) _ _ _ (stays-kept _ _ _ _ s r) (goes-kept _ _ _ _ s r (inl refl) f.1.inside) (goes-kept _ _ _ _ s r (inr (inl refl)) f.0)
stepped-kept places count pc s label r b m h f = goes-kept _ _ _ _ s r (inl refl) f
stepped-kept places count pc s (goto q) r b m h f = goes-kept _ _ _ _ s r (inl refl) f.inside
stepped-kept places count pc s skip r b m h f = goes-kept _ _ _ _ s r (inl refl) f
stepped-kept places count pc s (assert e) r b m h f =
    decided-kept places count _ (holds e s) _ _ _ (stays-kept _ _ _ _ s r) (goes-kept _ _ _ _ s r (inl refl) f.0) (stays-kept _ _ _ _ s r)
stepped-kept places count pc s (return q) r b m h f = goes-kept _ _ _ _ s r (inl refl) f.1.inside
stepped-kept places count pc s (end_procedure e) r b m h f =
    decided-kept places count _ (holds e s) _ _ _ (stays-kept _ _ _ _ s r) (stays-kept _ _ _ _ s r) (stays-kept _ _ _ _ s r)

at-kept : (p : Procedure) (pc : ℕ) (s : State) (o : Option Instruction) → IsChecked p → IsInRange p.places s → slice_get p.lines pc ≡ o
    → IsKept p.places (length p.lines) (heads_at pc o) (stepped_at p.places pc s o)
at-kept p pc s None c r e = stays-kept _ _ _ _ s r
at-kept p pc s (Some i) c r e =
    stepped-kept p.places (length p.lines) pc s i r (slice_get_within p.lines pc i e) c.some_lines c.ranges (c.fits pc i e)

-- a step of a checked procedure from a state in range
pub step-kept : (p : Procedure) (pc : ℕ) (s : State) → IsChecked p → IsInRange p.places s
    → IsKept p.places (length p.lines) (heads_at pc (slice_get p.lines pc)) (step p pc s)
unfolding step
step-kept p pc s c r = at-kept p pc s (slice_get p.lines pc) c r refl
