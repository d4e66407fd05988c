-- Where a search starts, and what it has found where it ends.
use Rattle.std.proofs.Common.{◌≡◌, ◌≢◌, inl, inr, refl, sym, ap, ◌∙◌, ℕ, zero, suc, ◌+◌, ◌<◌, ◌≤◌, List, [], ◌∷◌, ◌++◌, length, drop, take, set, get_or, arith}
use Rattle.std.proofs.lemmas.Bool.Decides.{eqb_tells}
use Rattle.std.proofs.lemmas.List.{length-set, take_all, get_or-set_same, get_or-set_other, length_push}
use Rattle.il_core.specs.LineGraph.{IsIn}
use Rattle.flow_graph.specs.Search.{IsWalk}
use Rattle.flow_graph.proofs.Members.{IsIn-more_cases}
use Rattle.disjoint_paths.specs.declared.pair.Pair.{Pair}
use Rattle.disjoint_paths.specs.declared.widening.Role.{Role}
use Rattle.disjoint_paths.specs.declared.widening.Role.TheVariants.{Far, OnPath, Open}
use Rattle.disjoint_paths.specs.declared.widening.Origin.TheVariants.{Tail}
use Rattle.disjoint_paths.specs.declared.widening.Opened.{Opened}
use Rattle.disjoint_paths.specs.Pair.{HasPair}
use Rattle.disjoint_paths.specs.FirstPath.{IsFirstPath}
use Rattle.disjoint_paths.specs.Fan.{HasFan}
use Rattle.disjoint_paths.specs.Roles.{IsPlaced, ArePlaced}
use Rattle.disjoint_paths.specs.Widened.{HasWidened}
use Rattle.disjoint_paths.specs.Widening.{IsWidening, AreOpened, IsEnd, IsKept, Suits, role_at, opened_at, lines_of}
use Rattle.disjoint_paths.proofs.Replays.{lines_front}
use Rattle.disjoint_paths.proofs.Fans.{end_first, end_pair}
use Rattle.disjoint_paths.proofs.Cuts.{no_pair}

-- one line more of the first path has its place
pub placed_more : (path : List ℕ) (n k : ℕ) (roles : List Role) → ArePlaced path n k roles → k < length path → get_or path k 0 < n
    → ArePlaced path n (k + 1) (set roles (get_or path k 0) (OnPath k))
placed_more path n k roles p l h = record {
  size = length-set roles (get_or path k 0) (OnPath k) ∙ p.size;
  each = each;
}
  where
    placed_on : (v : ℕ) (r : Role) → v ≢ get_or path k 0 → IsPlaced path k v r → IsPlaced path (k + 1) v r
    placed_on v Far n s = λ i. elim (IsIn-more_cases path k 0 v l i) [ inl old ↦ s old | inr same ↦ n (sym same) ]
    placed_on v (OnPath i) n s = s
    placed_on v Open n s = s

    each : (v : ℕ) → v < n → IsPlaced path (k + 1) v (role_at (set roles (get_or path k 0) (OnPath k)) v)
    each v b = elim (eqb_tells v (get_or path k 0)) [
      | inl same ↦
          let s = p.size in
          let m : get_or path k 0 < length roles = omega arith in
          let r : role_at (set roles (get_or path k 0) (OnPath k)) v ≡ OnPath k = rw same.1 (get_or-set_same roles (get_or path k 0) (OnPath k) Far m) in
          rw r (l, sym same.1)
      | inr other ↦
          let r : role_at (set roles (get_or path k 0) (OnPath k)) v ≡ role_at roles v = get_or-set_other roles (get_or path k 0) v (OnPath k) Far other.1 in
          rw r (placed_on v (role_at roles v) other.1 (p.each v b))
    ]

-- a walk begins by an arc to its first line
first_arc : (E : ℕ → ℕ → Type 0) (t : ℕ) (path : List ℕ) (x : ℕ) → IsWalk E t path x → 0 < length path → E t (get_or path 0 0)
first_arc E t [] x w l = absurd (omega arith)
first_arc E t (b ∷ path) x w l = w.0

-- where line t alone is open
pub widening_start : (E : ℕ → ℕ → Type 0) (P : ℕ → Type 0) (t : ℕ) (path : List ℕ) (n : ℕ) (roles : List Role) → IsFirstPath E P t path → (E t t → ⊥) → t < n
    → ArePlaced path n (length path) roles → IsWidening E P t path n (set roles t Open) ((record { line = t; origin = Tail; from = 0 }) ∷ []) 0 0
widening_start E P t path n roles f loop l p = record {
  size = length-set roles t Open ∙ p.size;
  openings = openings;
  limits = limits;
  below = λ k h. elim h [ inl same ↦ rw (← same) l | inr none ↦ absurd none ];
  tail = inl refl;
  clear = λ v h. elim h [ inl same ↦ inl (sym same) | inr none ↦ absurd none ];
  suits = suits;
  first = λ h. (h, λ e. loop (rw e at (first_arc E t path f.stop f.walk h)));
  begun = omega arith;
  passed = λ i h. absurd (omega arith);
}
  where
    openings : AreOpened E P t path ((record { line = t; origin = Tail; from = 0 }) ∷ [])
    openings zero h = (refl, refl)
    openings (suc k) h = absurd (omega arith)

    limits : (k : ℕ) → k < 1 → (opened_at ((record { line = t; origin = Tail; from = 0 }) ∷ []) k).from ≤ 0
    limits zero h = omega arith
    limits (suc k) h = absurd (omega arith)

    suits_start : (v : ℕ) (r : Role) → v ≢ t → IsPlaced path (length path) v r → Suits path (t ∷ []) 0 v r
    suits_start v Far n s = ((λ i. s (rw (take_all (length path) path (omega arith)) i)), λ i. elim i [ inl same ↦ n (sym same) | inr none ↦ none ])
    suits_start v (OnPath i) n s = (s.0, s.1, omega arith)
    suits_start v Open n s = absurd s

    suits : (v : ℕ) → v < n → Suits path (t ∷ []) 0 v (role_at (set roles t Open) v)
    suits v b = elim (eqb_tells v t) [
      | inl same ↦
          let s = p.size in
          let m : t < length roles = omega arith in
          let r : role_at (set roles t Open) v ≡ Open = rw same.1 (get_or-set_same roles t Open Far m) in
          rw r (inl (sym same.1))
      | inr other ↦
          let r : role_at (set roles t Open) v ≡ role_at roles v = get_or-set_other roles t v Open Far other.1 in
          rw r (suits_start v (role_at roles v) other.1 (p.each v b))
    ]

-- the fan of an open line from which an arc leads to a target goes on to two paths
pub widened : (E : ℕ → ℕ → Type 0) (P : ℕ → Type 0) (t : ℕ) (path : List ℕ) (n : ℕ) (roles : List Role) (opened xs : List Opened) (start next x : ℕ) (was pair : Pair) → IsFirstPath E P t path
    → IsWidening E P t path n roles opened start start → next < length opened → xs ≡ opened
    → HasFan E P t path (lines_of (take (next + 1) xs)) (opened_at xs next).line (opened_at xs next).from was
    → E (opened_at opened next).line x → IsEnd P t path opened x → pair.left ≡ was.left ++ x ∷ [] → pair.right ≡ was.right ++ drop (opened_at opened next).from path
    → HasWidened E P t path pair
widened E P t path n roles opened xs start next x was pair first w l same fan arc end el er =
    let f = rw same at fan in (
      f.0 ++ x ∷ [],
      f.1 ++ drop (opened_at opened next).from path,
      el ∙ ap (λ ys. ys ++ x ∷ []) f.2,
      er ∙ ap (λ ys. ys ++ drop (opened_at opened next).from path) f.3,
      record {
        some = (let e = length_push f.0 x in omega arith);
        first = end_first E P t path _ (lines_of opened) (opened_at opened next).line (opened_at opened next).from x f.0 f.1 f.4 more arc end.0 end.1;
        pair = λ h. end_pair E P t path _ (lines_of opened) (opened_at opened next).line (opened_at opened next).from x f.0 f.1 first
            (let a = (w.first h).0 in let b = w.limits next l in omega arith) f.4 more arc end.0 end.1;
      },
    )
  where
    more : (v : ℕ) → IsIn (lines_of (take (next + 1) opened)) v → IsIn (lines_of opened) v
    more v h =
        let e = take_all (length opened) opened (omega arith) in
        rw e at (lines_front opened (next + 1) (length opened) v (omega arith) h)

-- an open line has a number
number_of : (opened : List Opened) (v : ℕ) → IsIn (lines_of opened) v → (k : ℕ) × (k < length opened) × ((opened_at opened k).line ≡ v)
number_of [] v h = absurd h
number_of (o ∷ opened) v (inl e) = (0, omega arith, e)
number_of (o ∷ opened) v (inr h) = let p = number_of opened v h in (suc p.0, (let l = p.1 in omega arith), p.2)

-- where all open lines have been visited there is no pair
pub no_more : (E : ℕ → ℕ → Type 0) (P : ℕ → Type 0) (t : ℕ) (path : List ℕ) (n : ℕ) (roles : List Role) (opened : List Opened) (start next : ℕ) → IsWidening E P t path n roles opened start start
    → length opened ≤ next → ((k : ℕ) → k < next → (v : ℕ) → E (opened_at opened k).line v → IsKept P path opened start v) → HasPair E P t → ⊥
no_more E P t path n roles opened start next w l closed =
    no_pair E P t (λ v. IsIn (lines_of opened) v) (λ v. (start < length path) × (get_or path start 0 ≡ v)) (record {
      start = w.tail;
      closed = λ u v h arc. (let p = number_of opened u h in let b = p.1 in closed p.0 (omega arith) v (rw p.2 arc));
      single = λ v u a b. sym a.1 ∙ b.1;
      away = λ c. (let b = c.0 in (w.first (omega arith)).1 c.1);
    })
