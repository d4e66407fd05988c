-- Lifting: it keeps the board, lowers the slack, and ends with the least solution or a refutation.
use Rattle.std.proofs.Common.{◌≡◌, ◌∙◌, inl, inr, ℕ, zero, suc, ◌+◌, ◌<◌, ℤ, pos, ◌-ℤ◌, ◌≤ℤ◌, ◌<ℤ◌, List, [], ◌∷◌, ◌++◌, length, set, Option, Some, None, slice_get, All, refl, sym, ap, arith}
use Rattle.std.proofs.lemmas.Int.{ints}
use Rattle.std.proofs.lemmas.Bool.{cases_eq}
use Rattle.std.proofs.lemmas.Option.{same_Some, none-some, slice_get_within}
use Rattle.std.proofs.lemmas.List.{length-set, length_push, get_or-set_same, get_or-set_other, get_or_append_left, get_or_push}
use Rattle.std.proofs.lemmas.List.Elements.{All-nil, All-cons, All-head, All-tail}
use Rattle.std.specs.declared.vec.Vec.{Vec}
use Rattle.std.specs.declared.alloc.Global.{Global}
use Rattle.difference.specs.Constraints.{number, IsRange, Meets, MeetsAt, IsWithin, IsSolution, IsLeast, HaveNone}
use Rattle.difference.specs.Chains.{above_least, below_greatest, room, total, Names, IsRefuted, givens, edges_of, IsChain, Kept}
use Rattle.difference.specs.Solving.{IsRaised, slack}
use Rattle.difference.specs.declared.constraint.Range64.{Range64}
use Rattle.difference.specs.declared.constraint.Constraint.{Constraint}
use Rattle.difference.specs.declared.constraint.Edge.{Edge}
use Rattle.difference.specs.declared.constraint.Edge.TheVariants.{Low, High, Given}
use Rattle.difference.specs.declared.chain.Step.{Step}
use Rattle.difference.proofs.Lists.{get_push, get_set, get_within, all_at, all_by}
use Rattle.difference.proofs.Chained.{number-raised, chain-higher, chain-more, chain-empty}

-- an unknown is at least the least of its range
least-low : (o : Option Range64) (v : ℤ) → ((r : Range64) → o ≡ Some r → r.least ≤ℤ v) → pos 0 ≤ℤ above_least o v
least-low None v h = omega (arith, ints)
least-low (Some r) v h = omega (arith, ints, h r refl)

-- and at most the greatest
least-high : (o : Option Range64) (v : ℤ) → ((r : Range64) → o ≡ Some r → v ≤ℤ r.greatest) → pos 0 ≤ℤ below_greatest o v
least-high None v h = omega (arith, ints)
least-high (Some r) v h = omega (arith, ints, h r refl)

-- a constraint that is met leaves room
least-room : (o : Option Constraint) (vals : List ℤ) → ((c : Constraint) → o ≡ Some c → Meets vals c) → pos 0 ≤ℤ room o vals
least-room None vals h = omega (arith, ints)
least-room (Some c) vals h = let m = (h c refl).kept in omega (arith, ints)

-- the slack falls where a value rises inside its range
pub slack-set : (ranges : List Range64) (values : List ℤ) (node : ℕ) (value : ℤ) (r : Range64)
    → slice_get ranges node ≡ Some r → node < length values → number values node <ℤ value → value ≤ℤ r.greatest
    → slack ranges (set values node value) < slack ranges values
slack-set [] values node value r e l higher fits = absurd (none-some r e)
slack-set (q ∷ ranges) [] node value r e l higher fits = absurd (omega arith)
slack-set (q ∷ ranges) (v ∷ values) zero value r e l higher fits =
    let same : q ≡ r = same_Some q r e in
    rw same (omega (arith, ints))
slack-set (q ∷ ranges) (v ∷ values) (suc node) value r e l higher fits =
    let rest = slack-set ranges values node value r e (omega arith) higher fits in omega arith

module _ (ranges : List Range64) (cs : List Constraint) where
  -- edges whose constraints are met have no negative sum
  pub total-least : (vals : List ℤ) (es : List Edge) → IsWithin ranges vals → All (MeetsAt vals cs) (givens es)
      → pos 0 ≤ℤ total ranges cs vals es
  total-least vals [] within met = omega (arith, ints)
  total-least vals (Low k ∷ es) within met =
      omega (arith, ints, least-low (slice_get ranges k) (number vals k) (within.least k), total-least vals es within met)
  total-least vals (High k ∷ es) within met =
      omega (arith, ints, least-high (slice_get ranges k) (number vals k) (within.greatest k), total-least vals es within met)
  total-least vals (Given i ∷ es) within met =
      omega (
        arith,
        ints,
        least-room (slice_get cs i) vals (All-head (MeetsAt vals cs) i (givens es) met),
        total-least vals es within (All-tail (MeetsAt vals cs) i (givens es) met),
      )

  -- the constraints among edges are constraints
  givens-named : (es : List Edge) → ((j : ℕ) (e : Edge) → slice_get es j ≡ Some e → Names (length ranges) (length cs) e)
      → All (λ i. i < length cs) (givens es)
  givens-named [] names = All-nil (λ (i : ℕ). i < length cs)
  givens-named (Low k ∷ es) names = givens-named es (λ j e p. names (suc j) e p)
  givens-named (High k ∷ es) names = givens-named es (λ j e p. names (suc j) e p)
  givens-named (Given i ∷ es) names =
      All-cons (λ (i : ℕ). i < length cs) i (givens es) (names zero (Given i) refl) (givens-named es (λ j e p. names (suc j) e p))

  -- the constraints of edges that refute have no solution together
  pub refuted-none : (edges : List Edge) → IsRefuted ranges cs edges → HaveNone ranges cs (givens edges)
  refuted-none edges h = record {
    given = givens-named edges h.named;
    none = λ vals within met. absurd (omega (arith, ints, total-least vals edges within met, h.sum vals, h.negative));
  }

  -- a solution meets the constraint with each index
  pub met-named : (vals : List ℤ) (named : List ℕ) → All (Meets vals) cs → All (MeetsAt vals cs) named
  met-named vals named met = all_by (MeetsAt vals cs) named (λ j i e c there. all_at (Meets vals) cs i c met there)

  -- where edges refute there is no solution
  pub refuted-unsolved : (edges : List Edge) → IsRefuted ranges cs edges → (vals : List ℤ) → IsSolution ranges cs vals → ⊥
  refuted-unsolved edges h vals s = (refuted-none edges h).none vals s.within (met-named vals (givens edges) s.met)

  -- values with chains that meet each constraint are the least solution
  pub kept-least : (values : List ℤ) (chains : List (Vec Step Global)) → Kept ranges cs values chains
      → All (Meets values) cs → IsLeast ranges cs values
  kept-least values chains kept met = record {
    solution = record { within = kept.within; met = met };
    least = λ other s k l.
        let c = get_within chains k (omega (arith, kept.counted)) in
        omega (
          arith,
          ints,
          (kept.proves k c.0 c.1).whole other,
          total-least other (edges_of c.0.items) s.within (met-named other (givens (edges_of c.0.items)) s.met),
        );
  }

  -- a raise keeps the board
  pub kept-put : (values : List ℤ) (chains : List (Vec Step Global)) (node : ℕ) (value : ℤ) (chain : Vec Step Global)
      → Kept ranges cs values chains → IsRaised ranges cs values node value chain.items
      → Kept ranges cs (set values node value) (set chains node chain)
  kept-put values chains node value chain kept r =
      let known : node < length values = omega (arith, kept.within.size, r.known) in
      let up = number-raised values node value known r.higher in
      let now : number (set values node value) node ≡ value = get_or-set_same values node value (pos 0) known in
      record {
        within = record {
          size = length-set values node value ∙ kept.within.size;
          least = λ k q e. omega (arith, ints, kept.within.least k q e, up k);
          greatest = λ k q e. elim (cases_eq k node) [
            | inl p ↦ rw (p, now) (r.fits q (rw p at e))
            | inr ne ↦ rw (get_or-set_other values node k value (pos 0) ne) (kept.within.greatest k q e)
          ];
        };
        counted = length-set chains node chain ∙ kept.counted;
        chained = λ k c e. elim (get_set chains node k chain c e) [
          | inl p ↦ rw p.1 (r.chain (set values node value) now up)
          | inr p ↦ chain-higher ranges cs values (set values node value) c.items (kept.chained k c p.1) up
        ];
        proves = λ k c e. elim (get_set chains node k chain c e) [
          | inl p ↦ rw (p.1, p.0, now) r.proves
          | inr p ↦ rw (get_or-set_other values node k value (pos 0) p.0) (kept.proves k c p.1)
        ];
      }

  -- a raise lowers the slack
  pub raise-slack : (values : List ℤ) (chains : List (Vec Step Global)) (node : ℕ) (value : ℤ) (steps : List Step)
      → Kept ranges cs values chains → IsRaised ranges cs values node value steps
      → slack ranges (set values node value) < slack ranges values
  raise-slack values chains node value steps kept r =
      let q = get_within ranges node r.known in
      slack-set ranges values node value q.0 q.1 (omega (arith, kept.within.size, r.known)) r.higher (r.fits q.0 q.1)

  -- the first n unknowns are at their least values, by chains of one step
  pub record IsBegun (values : List ℤ) (chains : List (Vec Step Global)) (n : ℕ) : Type 0 where
    pub size : length values ≡ n
    pub counted : length chains ≡ n
    pub least : (k : ℕ) (r : Range64) → slice_get ranges k ≡ Some r → k < n → number values k ≡ r.least
    pub first : (k : ℕ) (c : Vec Step Global) (r : Range64) → slice_get chains k ≡ Some c → slice_get ranges k ≡ Some r
        → c.items ≡ record { node = k; value = r.least; edge = Low k } ∷ []

  -- one unknown more
  pub begun-push : (values : List ℤ) (chains : List (Vec Step Global)) (n : ℕ) (r : Range64) (value : ℤ) (chain : Vec Step Global)
      → IsBegun values chains n → slice_get ranges n ≡ Some r → value ≡ r.least
      → chain.items ≡ record { node = n; value = value; edge = Low n } ∷ []
      → IsBegun (values ++ value ∷ []) (chains ++ chain ∷ []) (n + 1)
  begun-push values chains n r value chain b there v e = record {
    size = omega (arith, length_push values value, b.size);
    counted = omega (arith, length_push chains chain, b.counted);
    least = λ k q f l. elim (cases_eq k n) [
      | inl p ↦ rw p (get_or_push values value (pos 0) n b.size ∙ (v ∙ ap (λ (x : Range64). x.least) (same_Some r q (sym there ∙ rw p at f))))
      | inr ne ↦ get_or_append_left values (value ∷ []) (pos 0) k (omega (arith, b.size)) ∙ b.least k q f (omega arith)
    ];
    first = λ k c q f g. elim (get_push chains chain k c f) [
      | inl p ↦ b.first k c q p g
      | inr p ↦ let at : k ≡ n = p.0 ∙ b.counted in
          let same : r ≡ q = same_Some r q (sym there ∙ rw at at g) in
          rw (p.1, at, ← same, ← v) e
    ];
  }

  -- the quantity of the edge below an unknown
  total-first : (vals : List ℤ) (k : ℕ) (r : Range64) → slice_get ranges k ≡ Some r
      → total ranges cs vals (Low k ∷ []) ≡ number vals k -ℤ r.least
  total-first vals k r e =
      let q : above_least (slice_get ranges k) (number vals k) ≡ above_least (Some r) (number vals k)
      = ap (λ o. above_least o (number vals k)) e in
      omega (arith, ints)

  -- the chain of one step that a least value has
  chain-first : (values : List ℤ) (k : ℕ) (r : Range64) → slice_get ranges k ≡ Some r → r.least ≤ℤ number values k
      → IsChain ranges cs values (record { node = k; value = r.least; edge = Low k } ∷ [])
  chain-first values k r e low =
      chain-more ranges cs values [] (record { node = k; value = r.least; edge = Low k }) (chain-empty ranges cs values)
      (slice_get_within ranges k r e) refl (slice_get_within ranges k r e) low
      (λ vals. total-first vals k r e) (λ j t p n. none-some t p)

  -- the least values of all ranges make a board
  pub begun-kept : (values : List ℤ) (chains : List (Vec Step Global)) → All IsRange ranges
      → IsBegun values chains (length ranges) → Kept ranges cs values chains
  begun-kept values chains ok b = record {
    within = record {
      size = b.size;
      least = λ k r e. let v = b.least k r e (slice_get_within ranges k r e) in omega (arith, ints);
      greatest = λ k r e. let v = b.least k r e (slice_get_within ranges k r e) in
          let o = all_at IsRange ranges k r ok e in omega (arith, ints);
    };
    counted = b.counted;
    chained = λ k c e.
        let r = get_within ranges k (omega (arith, slice_get_within chains k c e, b.counted)) in
        let v = b.least k r.0 r.1 (slice_get_within ranges k r.0 r.1) in
        rw (b.first k c r.0 e r.1) (chain-first values k r.0 r.1 (omega (arith, ints)));
    proves = λ k c e.
        let r = get_within ranges k (omega (arith, slice_get_within chains k c e, b.counted)) in
        let v = b.least k r.0 r.1 (slice_get_within ranges k r.0 r.1) in
        rw (b.first k c r.0 e r.1, v) (record { whole = λ vals. total-first vals k r.0 r.1 });
  }
