-- The fan of an open line from the fan of the open line from which it came to be open.
use Rattle.std.proofs.Common.{◌≡◌, inl, inr, ap, ◌∙◌, ℕ, ◌+◌, ◌<◌, ◌≤◌, List, [], ◌∷◌, ◌++◌, length, take, arith}
use Rattle.std.proofs.lemmas.List.{length-take-le, get_or-take, take_more, take-map}
use Rattle.il_core.specs.LineGraph.{IsIn}
use Rattle.disjoint_paths.specs.declared.pair.Pair.{Pair}
use Rattle.disjoint_paths.specs.declared.widening.Origin.TheVariants.{Tail, Step, Jump}
use Rattle.disjoint_paths.specs.declared.widening.Opened.{Opened}
use Rattle.disjoint_paths.specs.FirstPath.{IsFirstPath}
use Rattle.disjoint_paths.specs.Fan.{HasFan}
use Rattle.disjoint_paths.specs.Widening.{IsStep, IsJump, AreOpened, opened_at, line_of, lines_of}
use Rattle.disjoint_paths.proofs.Lists.{IsIn-take, part}
use Rattle.disjoint_paths.proofs.Openings.{line_new, last_or_less}
use Rattle.disjoint_paths.proofs.Fans.{fan_start, fan_step, fan_jump}

-- the lines of fewer open lines are among those of more
pub lines_front : (opened : List Opened) (m n v : ℕ) → m ≤ n → IsIn (lines_of (take m opened)) v → IsIn (lines_of (take n opened)) v
lines_front opened m n v l h = rw (← take-map line_of n opened) (IsIn-take m n (lines_of opened) v l (rw (← take-map line_of m opened) at h))

lines_last : (opened : List Opened) (k : ℕ) → k < length opened → IsIn (lines_of (take (k + 1) opened)) (opened_at opened k).line
lines_last opened k l = rw (take_more opened k (record { line = 0; origin = Tail; from = 0 }) l) (line_new (take k opened) (opened_at opened k))

pub replay_tail : (E : ℕ → ℕ → Type 0) (P : ℕ → Type 0) (t : ℕ) (path : List ℕ) (opened : List Opened) (at : ℕ) (pair : Pair) → IsFirstPath E P t path → AreOpened E P t path opened → at < length opened
    → (opened_at opened at).origin ≡ Tail → pair.left ≡ t ∷ [] → pair.right ≡ t ∷ []
    → HasFan E P t path (lines_of (take (at + 1) opened)) (opened_at opened at).line (opened_at opened at).from pair
replay_tail E P t path opened at pair first all l o el er =
    let s : ((opened_at opened at).line ≡ t) × ((opened_at opened at).from ≡ 0) = rw o at (all at l) in
    ([], [], el, er, rw (s.0, s.1) (fan_start E P t path _ first))

pub replay_step : (E : ℕ → ℕ → Type 0) (P : ℕ → Type 0) (t : ℕ) (path : List ℕ) (opened : List Opened) (at before : ℕ) (was pair : Pair) → AreOpened E P t path opened → at < length opened
    → (opened_at opened at).origin ≡ Step before
    → HasFan E P t path (lines_of (take (before + 1) opened)) (opened_at opened before).line (opened_at opened before).from was
    → pair.left ≡ was.left ++ (opened_at opened at).line ∷ [] → pair.right ≡ was.right
    → HasFan E P t path (lines_of (take (at + 1) opened)) (opened_at opened at).line (opened_at opened at).from pair
replay_step E P t path opened at before was pair all l o fan el er =
    let s : IsStep E P t path (take at opened) (opened_at opened at).line (opened_at opened at).from before = rw o at (all at l) in
    let n = length-take-le at opened (omega arith) in
    let k = s.known in
    let h : before < at = omega arith in
    let g : opened_at (take at opened) before ≡ opened_at opened before = get_or-take at opened before (record { line = 0; origin = Tail; from = 0 }) h in
    let arc = rw g at s.arc in
    let same = rw g at s.same in (
      fan.0 ++ (opened_at opened at).line ∷ [],
      fan.1,
      el ∙ ap (λ xs. xs ++ (opened_at opened at).line ∷ []) fan.2,
      er ∙ fan.3,
      rw same (fan_step E P t path (lines_of (take (before + 1) opened)) (lines_of (take (at + 1) opened)) (opened_at opened before).line (opened_at opened before).from (opened_at opened at).line fan.0 fan.1 fan.4
          (λ v q. lines_front opened (before + 1) (at + 1) v (omega arith) q) (lines_last opened at l) arc s.off (λ q. s.fresh (lines_front opened (before + 1) at _ (omega arith) q)) s.inside),
    )

pub replay_jump : (E : ℕ → ℕ → Type 0) (P : ℕ → Type 0) (t : ℕ) (path : List ℕ) (opened : List Opened) (at before place : ℕ) (was pair : Pair) → IsFirstPath E P t path → AreOpened E P t path opened
    → at < length opened → (opened_at opened at).origin ≡ Jump before place
    → HasFan E P t path (lines_of (take (before + 1) opened)) (opened_at opened before).line (opened_at opened before).from was
    → pair.left ≡ was.right ++ part path (opened_at opened before).from (place + 1) → pair.right ≡ was.left
    → HasFan E P t path (lines_of (take (at + 1) opened)) (opened_at opened at).line (opened_at opened at).from pair
replay_jump E P t path opened at before place was pair first all l o fan el er =
    let s : IsJump E P t path (take at opened) (opened_at opened at).line (opened_at opened at).from before place = rw o at (all at l) in
    let n = length-take-le at opened (omega arith) in
    let k = s.known in
    let h : before < at = omega arith in
    let g : opened_at (take at opened) before ≡ opened_at opened before = get_or-take at opened before (record { line = 0; origin = Tail; from = 0 }) h in
    let arc = rw g at s.arc in
    let reached = rw g at s.reached in (
      fan.1 ++ part path (opened_at opened before).from (place + 1),
      fan.0,
      el ∙ ap (λ xs. xs ++ part path (opened_at opened before).from (place + 1)) fan.3,
      er ∙ fan.2,
      rw (← s.is) (fan_jump E P t path (lines_of (take (before + 1) opened)) (lines_of (take (at + 1) opened)) (opened_at opened before).line (opened_at opened before).from place (opened_at opened at).from fan.0 fan.1
          first fan.4 (λ v q. lines_front opened (before + 1) (at + 1) v (omega arith) q)
          (λ i q. elim (last_or_less i place q) [
            | inl less ↦ lines_front opened at (at + 1) _ (omega arith) (s.passed i less)
            | inr last ↦ rw (← last, s.is) (lines_last opened at l)
          ])
          reached s.ahead s.within arc),
    )
