-- The buckets of constraints by left side, and what a sweep over them keeps.
use Rattle.std.proofs.Common.{◌≡◌, ◌≢◌, ⊎_elim, ◌∙◌, inl, inr, ℕ, zero, suc, ◌+◌, ◌<◌, ℤ, Bool, true, false, List, [], ◌∷◌, ◌++◌, length, set, replicate, Option, Some, None, slice_get, All, refl, sym, ap, subst, arith}
use Rattle.std.proofs.lemmas.Bool.{cases_eq, cases_lt, false≢true}
use Rattle.std.proofs.lemmas.Option.{same_Some, none-some, slice_get_within}
use Rattle.std.proofs.lemmas.List.{length-set, length_push, length-replicate}
use Rattle.std.proofs.lemmas.List.Elements.{All-push, All-nil}
use Rattle.std.specs.declared.vec.Vec.{Vec}
use Rattle.std.specs.declared.alloc.Global.{Global}
use Rattle.difference.specs.Constraints.{IsUnknown, IsGiven, Meets}
use Rattle.difference.specs.Chains.{Kept}
use Rattle.difference.specs.Solving.{slack, IsLower, slot, IsArc, Keeps, MetFrom, MetIn, IsSpread}
use Rattle.difference.specs.Rounds.{HasPushed, AreFiled, IsReady, IsSame, IsCalm, IsSweep, IsRound}
use Rattle.difference.specs.declared.constraint.Range64.{Range64}
use Rattle.difference.specs.declared.constraint.Constraint.{Constraint}
use Rattle.difference.specs.declared.solving.Arc.{Arc}
use Rattle.difference.specs.declared.solving.Board.{Board}
use Rattle.difference.specs.declared.solving.Outcome.{Outcome}
use Rattle.difference.specs.declared.solving.Outcome.TheVariants.{Quiet, Raised, Refuted}
use Rattle.difference.proofs.Lists.{get_push, get_set, get_within, get_append, all_by}
use Rattle.difference.proofs.Settling.{kept-least}
use Rattle.difference.proofs.Lifts.{keeps-same}

-- the element pushed stands at the end
get_pushed : {X : Type 0} (xs : List X) (y : X) → slice_get (xs ++ y ∷ []) (length xs) ≡ Some y
get_pushed [] y = refl
get_pushed (x ∷ xs) y = get_pushed xs y

-- what is written stands at its place
get_written : {X : Type 0} (xs : List X) (i : ℕ) (y : X) → i < length xs → slice_get (set xs i y) i ≡ Some y
get_written [] i y l = absurd (omega arith)
get_written (x ∷ xs) zero y l = refl
get_written (x ∷ xs) (suc i) y l = get_written xs i y (omega arith)

-- and changes no other place
get_unwritten : {X : Type 0} (xs : List X) (i k : ℕ) (y : X) → k ≢ i → slice_get (set xs i y) k ≡ slice_get xs k
get_unwritten [] i k y ne = refl
get_unwritten (x ∷ xs) zero zero y ne = absurd (ne refl)
get_unwritten (x ∷ xs) zero (suc k) y ne = refl
get_unwritten (x ∷ xs) (suc i) zero y ne = refl
get_unwritten (x ∷ xs) (suc i) (suc k) y ne = get_unwritten xs i k y (λ e. ne (ap suc e))

-- each element of a repeated one is it
get_replicate : {X : Type 0} (n i : ℕ) (y x : X) → slice_get (replicate n y) i ≡ Some x → x ≡ y
get_replicate zero i y x e = absurd (none-some x e)
get_replicate (suc n) zero y x e = sym (same_Some y x e)
get_replicate (suc n) (suc i) y x e = get_replicate n i y x e

-- a side of a constraint has a place
pub slot-within : (n : ℕ) (side : Option ℕ) → IsUnknown n side → slot n side < n + 1
slot-within n None h = omega arith
slot-within n (Some k) h = omega arith

-- n empty buckets
pub record AreEmpty (buckets : List (Vec Arc Global)) (n : ℕ) : Type 0 where
  pub size : length buckets ≡ n
  pub empty : (u : ℕ) (v : Vec Arc Global) → slice_get buckets u ≡ Some v → v.items ≡ []

-- one more
pub empty-push : (buckets : List (Vec Arc Global)) (v : Vec Arc Global) (n : ℕ) → AreEmpty buckets n → v.items ≡ []
    → AreEmpty (buckets ++ v ∷ []) (n + 1)
empty-push buckets v n h e = record {
  size = omega (arith, length_push buckets v, h.size);
  empty = λ u w f. elim (get_push buckets v u w f) [ inl p ↦ h.empty u w p | inr p ↦ rw p.1 e ];
}

-- empty buckets file no constraint
pub filed-none : (n : ℕ) (cs : List Constraint) (buckets : List (Vec Arc Global)) → AreEmpty buckets (n + 1) → AreFiled n cs 0 buckets
filed-none n cs buckets h = record {
  size = h.size;
  within = omega arith;
  known = λ u v e. rw (h.empty u v e) (All-nil (IsArc n cs u));
  filed = λ i c v l e f. absurd (omega arith);
}

-- the arc of a constraint
pub arc-of : (n : ℕ) (cs : List Constraint) (i : ℕ) (c : Constraint) (arc : Arc) → slice_get cs i ≡ Some c → IsGiven n c
    → arc.index ≡ i → arc.right ≡ c.right → arc.bound ≡ c.bound → IsArc n cs (slot n c.left) arc
arc-of n cs i c arc there given index right bound =
    let same : (d : Constraint) → slice_get cs arc.index ≡ Some d → d ≡ c = λ d e. same_Some d c (sym e ∙ rw index there) in
    record {
      known = rw index (slice_get_within cs i c there);
      right = rw right given.right;
      bound = rw bound given.bound;
      left_is = λ d e. ap (λ (x : Constraint). slot n x.left) (same d e);
      right_is = λ d e. ap (λ (x : Constraint). x.right) (same d e) ∙ sym right;
      bound_is = λ d e. ap (λ (x : Constraint). x.bound) (same d e) ∙ sym bound;
    }

-- one more constraint in the bucket of its left side
pub filed-more : (n : ℕ) (cs : List Constraint) (i : ℕ) (c : Constraint) (arc : Arc) (before after : List (Vec Arc Global))
    → AreFiled n cs i before → slice_get cs i ≡ Some c → IsGiven n c → IsArc n cs (slot n c.left) arc → arc.index ≡ i
    → HasPushed before after (slot n c.left) arc → AreFiled n cs (i + 1) after
filed-more n cs i c arc before after h there given a index p =
    let w = get_within before (slot n c.left) (omega (arith, slot-within n c.left given.left, h.size)) in
    let is = p.items w.0 w.1 in
    record {
      size = ap length p.after_is ∙ (length-set before (slot n c.left) p.bucket ∙ h.size);
      within = omega (arith, slice_get_within cs i c there);
      known = λ u v e. elim (get_set before (slot n c.left) u p.bucket v (rw p.after_is at e)) [
        | inl q ↦ rw (q.1, is, q.0) (All-push (IsArc n cs (slot n c.left)) w.0.items arc (h.known (slot n c.left) w.0 w.1) a)
        | inr q ↦ h.known u v q.1
      ];
      filed = λ k d v l e f. elim (get_set before (slot n c.left) (slot n d.left) p.bucket v (rw p.after_is at f)) [
        | inl q ↦ elim (cases_eq k i) [
          | inl same ↦ rw (q.1, is, same) (length w.0.items, arc, get_pushed w.0.items arc, index)
          | inr ne ↦ let old = h.filed k d w.0 (omega arith) e (rw (q.0) w.1) in
              rw (q.1, is) (old.0, old.1, get_append w.0.items (arc ∷ []) old.0 old.1 old.2, old.3)
        ]
        | inr q ↦ elim (cases_eq k i) [
          | inl same ↦ absurd (q.0 (ap (λ (x : Constraint). slot n x.left) (same_Some d c (sym e ∙ rw same there))))
          | inr ne ↦ h.filed k d v (omega arith) e q.1
        ]
      ];
    }

-- the values are as before, and the first m sides are quiet
pub record IsStill (before after : Board) (m : ℕ) : Type 0 where
  pub values : after.values.items ≡ before.values.items
  pub quiet : (u : ℕ) → u < m → slice_get after.pending.items u ≡ Some false

-- what a sweep so far says: nothing changed and the sides are quiet, or the slack is lower
abbrev pub IsSwept : List Range64 → Board → Board → Bool → ℕ → Type 0
IsSwept ranges before after false m = IsStill before after m
IsSwept ranges before after true m = IsLower ranges before after

-- one more side that is quiet
pub swept-quiet : (ranges : List Range64) (before mid after : Board) (changed : Bool) (m : ℕ) → IsSwept ranges before mid changed m
    → IsSame mid after → slice_get after.pending.items m ≡ Some false → IsSwept ranges before after changed (m + 1)
swept-quiet ranges before mid after true m h s q = record { lower = rw s.values h.lower }
swept-quiet ranges before mid after false m h s q = record {
  values = s.values ∙ h.values;
  quiet = λ u l. elim (cases_eq u m) [ inl e ↦ rw e q | inr ne ↦ s.quiet u (h.quiet u (omega arith)) ];
}

-- one more raise
pub swept-raised : (ranges : List Range64) (before mid after : Board) (changed : Bool) (m : ℕ) → IsSwept ranges before mid changed m
    → IsLower ranges mid after → IsLower ranges before after
swept-raised ranges before mid after true m h l = record { lower = omega (arith, h.lower, l.lower) }
swept-raised ranges before mid after false m h l =
    record { lower = let low = l.lower in subst (λ (vs : List ℤ). slack ranges after.values.items < slack ranges vs) h.values low }

module _ (ranges : List Range64) (cs : List Constraint) (count : ℕ) where
  -- the least values are ready, with all sides pending
  pub ready-start : (board : Board) → Kept ranges cs board.values.items board.chains.items
      → board.pending.items ≡ replicate (length ranges + 1) true → IsReady ranges cs count board
  ready-start board kept e = record {
    kept = kept;
    size = ap length e ∙ length-replicate (length ranges + 1) true;
    covered = λ i c l there q. absurd (false≢true (get_replicate (length ranges + 1) (slot (length ranges) c.left) true false (rw e at q)));
  }

  -- what keeps a board keeps it ready
  pub ready-keeps : (before after : Board) → IsReady ranges cs count before → Keeps ranges cs before after → IsReady ranges cs count after
  ready-keeps before after h k = record {
    kept = k.kept;
    size = k.size ∙ h.size;
    covered = λ i c l there q. k.met c q (h.covered i c l there (k.quiet c q));
  }

  -- a side whose bucket has lifted may be quiet
  pub ready-calm : (buckets : List (Vec Arc Global)) (before mid after : Board) (place : ℕ) (v : Vec Arc Global)
      → AreFiled (length ranges) cs count buckets → slice_get buckets place ≡ Some v → IsReady ranges cs count before
      → mid.values.items ≡ before.values.items → mid.pending.items ≡ set before.pending.items place false
      → Keeps ranges cs mid after → MetIn (length ranges) cs v.items (length v.items) after → IsReady ranges cs count after
  ready-calm buckets before mid after place v filed at h values pending k met = record {
    kept = k.kept;
    size = k.size ∙ (ap length pending ∙ (length-set before.pending.items place false ∙ h.size));
    covered = λ i c l there q. elim (get_set before.pending.items place (slot (length ranges) c.left) false false (rw pending at (k.quiet c q))) [
      | inl p ↦ let j = filed.filed i c v l there (rw p.0 at) in
          met j.0 j.1 (slice_get_within v.items j.0 j.1 j.2) j.2 c (rw j.3 there) q
      | inr p ↦ k.met c q (rw values (h.covered i c l there p.1))
    ];
  }

  -- where all sides are quiet each constraint is met
  pub met-still : (before after : Board) → IsReady ranges cs count after → IsStill before after (length ranges + 1)
      → ((i : ℕ) (c : Constraint) → slice_get cs i ≡ Some c → IsUnknown (length ranges) c.left)
      → MetFrom after.values.items cs 0 count
  met-still before after h s sides i z l c there =
      h.covered i c l there (s.quiet (slot (length ranges) c.left) (slot-within (length ranges) c.left (sides i c there)))

  -- what a bucket did, as the side at its place is quiet
  pub calm-spread : (buckets : List (Vec Arc Global)) (before mid after : Board) (place : ℕ) (v : Vec Arc Global)
      → AreFiled (length ranges) cs count buckets → slice_get buckets place ≡ Some v → place < length ranges + 1
      → IsReady ranges cs count before
      → mid.values.items ≡ before.values.items → mid.chains.items ≡ before.chains.items
      → mid.pending.items ≡ set before.pending.items place false
      → (o : Outcome) → IsSpread ranges cs v.items mid after o → IsCalm ranges cs count place before after o
  calm-spread buckets before mid after place v filed at l h values chains pending Quiet s =
      let kept : Kept ranges cs mid.values.items mid.chains.items = rw (values, chains) h.kept in
      let keeps : Keeps ranges cs mid after = rw s.0 (keeps-same ranges cs mid kept) in (
        ready-calm buckets before mid after place v filed at h values pending keeps s.1,
        record {
          values = rw s.0 values;
          quiet = λ u q. rw (s.0, pending) (elim (cases_eq u place) [
            | inl e ↦ rw e (get_written before.pending.items place false (omega (arith, h.size)))
            | inr ne ↦ get_unwritten before.pending.items place u false ne ∙ q
          ]);
        },
        rw (s.0, pending) (get_written before.pending.items place false (omega (arith, h.size))),
      )
  calm-spread buckets before mid after place v filed at l h values chains pending Raised s = (
    ready-calm buckets before mid after place v filed at h values pending s.0 s.2,
    record { lower = let low = s.1.lower in rw values at low },
  )
  calm-spread buckets before mid after place v filed at l h values chains pending (Refuted edges) s = s

  -- what all constraints did: those behind the table changed nothing, then those in it
  pub round-sweep : (before after : Board) → All (IsGiven (length ranges)) cs → IsReady ranges cs count before
      → MetFrom before.values.items cs count (length cs)
      → (o : Outcome) → IsSweep ranges cs count before after o → IsRound ranges cs count before after o
  round-sweep before after given h behind Quiet s = record {
    ready = s.0;
    least = kept-least ranges cs after.values.items after.chains.items s.0.kept
        (all_by (Meets after.values.items) cs (λ i c e. ⊎_elim
        (λ l. s.2 i (omega arith) l c e)
        (λ l. rw s.1 (behind i l (slice_get_within cs i c e) c e))
        (cases_lt i count)));
  }
  round-sweep before after given h behind Raised s = s
  round-sweep before after given h behind (Refuted edges) s = s
