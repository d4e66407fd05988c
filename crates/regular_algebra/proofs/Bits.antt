-- Rows of bits, and a relation that is closed point by point.
use Rattle.std.proofs.Common.{◌≡◌, ◌≢◌, ◌≤◌, ◌-◌, ◌/◌, refl, sym, ap, ◌∙◌, subst, ℕ, ◌+◌, ◌*◌, ◌^◌, ◌%◌, ◌<◌, ◌⊎◌, ◌↔◌, inl, inr, max, List, length, get_or, set, bit_or, arith, get_or-set_same, get_or-set_other, one-mul, mod-eq_of_lt}
use native.Mathlib.Nat.{div-div-eq-div-mul}
use Rattle.std.specs.Int.{bit_at, trailing_zeros, w128}
use Rattle.std.proofs.lemmas.Bool.{cases_order, cases_lt}
use Rattle.std.proofs.lemmas.Nat.Bits.{bit_at_or, bit_at-lt, bit_at-pow_same, bit_at-pow_other, bit_at-zero, bit_at-trailing_zeros}
use Rattle.std.proofs.lemmas.Nat.{pow-add, pow_below}
use Rattle.regular_algebra.specs.Relations.{Turns, no_turn, a_turn}
use Rattle.regular_algebra.specs.Relation.{HasBit}

-- a bit of either number
pub or-bit : (m n b : ℕ) → HasBit (bit_or m n) b ↔ (HasBit m b ⊎ HasBit n b)
or-bit m n b = (
  λ h.
      let e : max (bit_at m b) (bit_at n b) ≡ 1 = sym (bit_at_or m n b) ∙ h in
      let lm = bit_at-lt m b in
      let ln = bit_at-lt n b in
      either_one (bit_at m b) (bit_at n b) lm ln e,
  λ k. bit_at_or m n b ∙ elim k [ inl h ↦ one_left (bit_at m b) (bit_at n b) (bit_at-lt n b) h | inr h ↦ one_right (bit_at m b) (bit_at n b) (bit_at-lt m b) h ],
)
  where
    either_one : (x y : ℕ) → x < 2 → y < 2 → max x y ≡ 1 → (x ≡ 1) ⊎ (y ≡ 1)
    either_one x y lx ly e = elim (cases_lt x 1) [ inl l ↦ inr (omega arith) | inr l ↦ inl (omega arith) ]

    one_left : (x y : ℕ) → y < 2 → x ≡ 1 → max x y ≡ 1
    one_left x y l e = omega arith

    one_right : (x y : ℕ) → x < 2 → y ≡ 1 → max x y ≡ 1
    one_right x y l e = omega arith

-- 0 has no bit
pub no-bit : (b : ℕ) → HasBit 0 b → ⊥
no-bit b h = let e = bit_at-zero b in absurd (omega arith)

-- 2 ^ b has the bit b alone
pub pow-bit : (b y : ℕ) → HasBit (2 ^ b) y ↔ (y ≡ b)
pow-bit b y = (
  λ h.
      elim (cases_order y b) [
        | inl e ↦ e
        | inr other ↦
            let ne : y ≡ b → ⊥ = λ q. elim other [ inl a ↦ omega arith | inr a ↦ omega arith ] in
            let z = bit_at-pow_other b y ne in
            absurd (omega arith)
      ],
  λ e. subst (λ x. HasBit (2 ^ b) x) (sym e) (bit_at-pow_same b),
)

-- a row that grows
pub row-grown : (rows : List ℕ) (a row : ℕ) → a < length rows → (x y : ℕ)
    → HasBit (get_or (set rows a (bit_or (get_or rows a 0) row)) x 0) y ↔ (HasBit (get_or rows x 0) y ⊎ ((x ≡ a) × HasBit row y))
row-grown rows a row l x y =
    elim (cases_order x a) [
      | inl e ↦
          let here : get_or (set rows a (bit_or (get_or rows a 0) row)) x 0 ≡ bit_or (get_or rows x 0) row =
          ap (λ z. get_or (set rows a (bit_or (get_or rows a 0) row)) z 0) e ∙ get_or-set_same rows a (bit_or (get_or rows a 0) row) 0 l
          ∙ ap (λ z. bit_or (get_or rows z 0) row) (sym e) in
          subst (λ r. HasBit r y ↔ (HasBit (get_or rows x 0) y ⊎ ((x ≡ a) × HasBit row y))) (sym here) (
            λ h. elim ((or-bit (get_or rows x 0) row y).0 h) [ inl p ↦ inl p | inr p ↦ inr (e, p) ],
            λ k. (or-bit (get_or rows x 0) row y).1 (elim k [ inl p ↦ inl p | inr p ↦ inr p.1 ]),
          )
      | inr other ↦
          let ne : x ≡ a → ⊥ = λ q. elim other [ inl c ↦ omega arith | inr c ↦ omega arith ] in
          subst (λ r. HasBit r y ↔ (HasBit (get_or rows x 0) y ⊎ ((x ≡ a) × HasBit row y)))
          (sym (get_or-set_other rows a x (bit_or (get_or rows a 0) row) 0 ne))
          (λ h. inl h, λ k. elim k [ inl p ↦ p | inr p ↦ absurd (ne p.0) ])
    ]

-- turns one after the other
turns-join : {P : Type 0} (is_point : P → Type 0) (R : P → P → Type 0) {a b c : P} → Turns is_point R a b → Turns is_point R b c → Turns is_point R a c
turns-join is_point R (no_turn a p) u = u
turns-join is_point R {c} (a_turn a b d h t) u = a_turn a b c h (turns-join is_point R t u)

-- E has R and its points' own pairs, has only turns, and goes through each point below k
pub record ClosedTo (R : ℕ → ℕ → Type 0) (size k : ℕ) (E : ℕ → ℕ → Type 0) : Type 0 where
  pub sound : (x y : ℕ) → E x y → Turns (λ a. a < size) R x y
  pub grown : (x y : ℕ) → R x y → E x y
  pub own : (x : ℕ) → x < size → E x x
  pub through : (c x y : ℕ) → c < k → E x c → E c y → E x y

-- at first E has R and the points' own pairs
pub closed-none : (R : ℕ → ℕ → Type 0) (size : ℕ) → ((x y : ℕ) → R x y → (x < size) × (y < size)) → (E : ℕ → ℕ → Type 0)
    → ((x y : ℕ) → E x y ↔ (R x y ⊎ ((x ≡ y) × (x < size)))) → ClosedTo R size 0 E
closed-none R size points E f =
    record {
      sound = λ x y h.
          elim ((f x y).0 h) [
            | inl r ↦ a_turn x y y r (no_turn y (points x y r).1)
            | inr e ↦ subst (Turns (λ a. a < size) R x) e.0 (no_turn x e.1)
          ];
      grown = λ x y r. (f x y).1 (inl r);
      own = λ x l. (f x x).1 (inr (refl, l));
      through = λ c x y l p q. absurd (omega arith);
    }

-- what F joins through a point below k, E joins or joins through k
through_more : (R : ℕ → ℕ → Type 0) (size k : ℕ) (E F : ℕ → ℕ → Type 0) → ClosedTo R size k E → ((x y : ℕ) → F x y ↔ (E x y ⊎ (E x k × E k y)))
    → (c x y : ℕ) → c < k → F x c → F c y → E x y ⊎ (E x k × E k y)
through_more R size k E F h f c x y l p q =
    elim ((f x c).0 p) [
      | inl a ↦
          elim ((f c y).0 q) [
            | inl b ↦ inl (h.through c x y l a b)
            | inr b ↦ inr (h.through c x k l a b.0, b.1)
          ]
      | inr a ↦
          elim ((f c y).0 q) [
            | inl b ↦ inr (a.0, h.through c k y l a.1 b)
            | inr b ↦ inr (a.0, b.1)
          ]
    ]

-- F joins no more to k than E
into_here : (E F : ℕ → ℕ → Type 0) (k x : ℕ) → ((x y : ℕ) → F x y ↔ (E x y ⊎ (E x k × E k y))) → F x k → E x k
into_here E F k x f p = elim ((f x k).0 p) [ inl a ↦ a | inr a ↦ a.0 ]

-- F joins k to no more than E
out_here : (E F : ℕ → ℕ → Type 0) (k y : ℕ) → ((x y : ℕ) → F x y ↔ (E x y ⊎ (E x k × E k y))) → F k y → E k y
out_here E F k y f p = elim ((f k y).0 p) [ inl a ↦ a | inr a ↦ a.1 ]

-- one more point is passed through
pub closed-more : (R : ℕ → ℕ → Type 0) (size k : ℕ) (E F : ℕ → ℕ → Type 0) → ClosedTo R size k E → ((x y : ℕ) → F x y ↔ (E x y ⊎ (E x k × E k y)))
    → ClosedTo R size (k + 1) F
closed-more R size k E F h f =
    record {
      sound = λ x y p.
          elim ((f x y).0 p) [ inl a ↦ h.sound x y a | inr a ↦ turns-join (λ a. a < size) R (h.sound x k a.0) (h.sound k y a.1) ];
      grown = λ x y r. (f x y).1 (inl (h.grown x y r));
      own = λ x l. (f x x).1 (inl (h.own x l));
      through = λ c x y l p q.
          elim (cases_lt c k) [
            | inl m ↦ (f x y).1 (through_more R size k E F h f c x y m p q)
            | inr m ↦
                let e : c ≡ k = omega arith in
                (f x y).1 (inr (into_here E F k x f (subst (F x) e p), out_here E F k y f (subst (λ z. F z y) e q)))
          ];
    }

-- each turn is in a closed relation
turns_in : (R : ℕ → ℕ → Type 0) (size : ℕ) (E : ℕ → ℕ → Type 0) → ((x y : ℕ) → R x y → (x < size) × (y < size)) → ClosedTo R size size E
    → {x y : ℕ} → Turns (λ a. a < size) R x y → E x y
turns_in R size E points h (no_turn x l) = h.own x l
turns_in R size E points h (a_turn x b y r t) = h.through b x y (points x b r).1 (h.grown x b r) (turns_in R size E points h t)

-- closed through all points, E has exactly the turns
pub closed-all : (R : ℕ → ℕ → Type 0) (size : ℕ) (E : ℕ → ℕ → Type 0) → ((x y : ℕ) → R x y → (x < size) × (y < size)) → ClosedTo R size size E
    → (x y : ℕ) → E x y ↔ Turns (λ a. a < size) R x y
closed-all R size E points h x y = (λ e. h.sound x y e, λ t. turns_in R size E points h t)

-- one bit, shifted to place b
pub shifted-one : (b : ℕ) → b < 66 → 1 * 2 ^ b % 340282366920938463463374607431768211456 ≡ 2 ^ b
shifted-one b l = rw one-mul (mod-eq_of_lt (pow_below b 128 (omega arith)))

-- one more point of a row is gone through
pub through-more : (row : ℕ) (rows : List ℕ) (joined added c : ℕ)
    → ((y : ℕ) → HasBit joined y ↔ ((d : ℕ) × (d < c) × HasBit row d × HasBit (get_or rows d 0) y))
    → ((y : ℕ) → HasBit added y ↔ (HasBit row c × HasBit (get_or rows c 0) y))
    → (y : ℕ) → HasBit (bit_or joined added) y ↔ ((d : ℕ) × (d < c + 1) × HasBit row d × HasBit (get_or rows d 0) y)
through-more row rows joined added c f g y = (
  λ h.
      elim ((or-bit joined added y).0 h) [
        | inl p ↦ let r = (f y).0 p in let l = r.1 in (r.0, omega arith, r.2, r.3)
        | inr p ↦ let r = (g y).0 p in (c, omega arith, r.0, r.1)
      ],
  λ r.
      let l = r.1 in
      (or-bit joined added y).1 (
      elim (cases_lt r.0 c) [
        | inl m ↦ inl ((f y).1 (r.0, m, r.2, r.3))
        | inr m ↦
            let e : r.0 ≡ c = omega arith in
            inr ((g y).1 (subst (HasBit row) e r.2, subst (λ d. HasBit (get_or rows d 0) y) e r.3))
      ]
      ),
)

-- points that the row has not change nothing
pub through-passed : (row : ℕ) (rows : List ℕ) (joined from c : ℕ) → ((y : ℕ) → HasBit joined y ↔ ((d : ℕ) × (d < from) × HasBit row d × HasBit (get_or rows d 0) y))
    → ((d : ℕ) → from ≤ d → d < c → HasBit row d → ⊥) → from ≤ c → (y : ℕ) → HasBit joined y ↔ ((d : ℕ) × (d < c) × HasBit row d × HasBit (get_or rows d 0) y)
through-passed row rows joined from c f none low y = (
  λ h. let r = (f y).0 h in let l = r.1 in (r.0, omega arith, r.2, r.3),
  λ r. elim (cases_lt r.0 from) [ inl l ↦ (f y).1 (r.0, l, r.2, r.3) | inr l ↦ absurd (none r.0 (omega arith) r.1 r.2) ],
)

-- a row that is shifted has its later bits
pub shifted-bit : (row from i : ℕ) → bit_at (row / 2 ^ from) i ≡ bit_at row (from + i)
shifted-bit row from i = ap (λ q. q % 2) (div-div-eq-div-mul row (2 ^ from) (2 ^ i) ∙ ap (λ p. row / p) (sym (pow-add 2 from i)))

-- the points of a row from `from` on
abbrev pub IsFirst : ℕ → ℕ → ℕ → Type 0
IsFirst row from c = (from ≤ c) × HasBit row c × ((d : ℕ) → from ≤ d → d < c → HasBit row d → ⊥)

-- no bit is left
pub none-left : (row from : ℕ) → row / 2 ^ from ≡ 0 → (d : ℕ) → from ≤ d → HasBit row d → ⊥
none-left row from e d l h =
    no-bit (d - from) (subst (λ r. HasBit r (d - from)) e (shifted-bit row from (d - from) ∙ ap (bit_at row) (omega arith) ∙ h))

-- the lowest bit that is left is the first
pub first-left : (row from : ℕ) → row / 2 ^ from < 2 ^ 128 → row / 2 ^ from ≢ 0 → IsFirst row from (from + trailing_zeros w128 (row / 2 ^ from))
first-left row from small some =
    let t = bit_at-trailing_zeros w128 (row / 2 ^ from) (omega (arith, some)) small in (
      omega arith,
      sym (shifted-bit row from (trailing_zeros w128 (row / 2 ^ from))) ∙ t.1,
      λ d low below h.
          let z = t.2 (d - from) (omega arith) in
          let o : bit_at (row / 2 ^ from) (d - from) ≡ 1 = shifted-bit row from (d - from) ∙ ap (bit_at row) (omega arith) ∙ h in
          absurd (omega (arith, z, o)),
    )

-- points that the row has not are passed over, and one that it has is joined
pub through-first : (row : ℕ) (rows : List ℕ) (joined from c : ℕ) → ((y : ℕ) → HasBit joined y ↔ ((d : ℕ) × (d < from) × HasBit row d × HasBit (get_or rows d 0) y))
    → IsFirst row from c → (y : ℕ) → HasBit (bit_or joined (get_or rows c 0)) y ↔ ((d : ℕ) × (d < c + 1) × HasBit row d × HasBit (get_or rows d 0) y)
through-first row rows joined from c f first = through-more row rows joined (get_or rows c 0) c (through-passed row rows joined from c f (λ d l m. first.2 d l m) first.0) (λ y. (λ h. (first.1, h), λ h. h.1))

-- one more row of a product is made
pub composed-more : (S T U V : ℕ → ℕ → Type 0) (a made : ℕ) (rows others : List ℕ) → a < 66
    → ((x y : ℕ) → S x y ↔ ((x < 66) × (y < 66) × HasBit (get_or rows x 0) y)) → ((x y : ℕ) → T x y ↔ ((x < 66) × (y < 66) × HasBit (get_or others x 0) y))
    → ((x y : ℕ) → U x y ↔ ((x < a) × ((c : ℕ) × S x c × T c y)))
    → ((y : ℕ) → HasBit made y ↔ ((c : ℕ) × (c < 66) × HasBit (get_or rows a 0) c × HasBit (get_or others c 0) y))
    → ((x y : ℕ) → V x y ↔ (U x y ⊎ ((x ≡ a) × (y < 66) × HasBit made y)))
    → (x y : ℕ) → V x y ↔ ((x < a + 1) × ((c : ℕ) × S x c × T c y))
composed-more S T U V a made rows others la s t u m v x y = (
  λ h.
      elim ((v x y).0 h) [
        | inl p ↦ let r = (u x y).0 p in let l = r.0 in (omega arith, r.1)
        | inr p ↦
            let q = (m y).0 p.2 in
            let e = p.0 in
            (omega arith, (q.0, subst (λ z. S z q.0) (sym e) ((s a q.0).1 (la, q.1, q.2)), (t q.0 y).1 (q.1, p.1, q.3)))
      ],
  λ r.
      let l = r.0 in
      let k = r.1 in
      (v x y).1 (
      elim (cases_lt x a) [
        | inl n ↦ inl ((u x y).1 (n, k))
        | inr n ↦
            let e : x ≡ a = omega arith in
            let p = (s x k.0).0 k.1 in
            let q = (t k.0 y).0 k.2 in
            inr (e, q.1, (m y).1 (k.0, q.0, subst (λ z. HasBit (get_or rows z 0) k.0) e p.2, q.2))
      ]
      ),
)
