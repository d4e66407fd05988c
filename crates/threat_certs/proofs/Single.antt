-- An item has one quantity at most.
use Rattle.std.proofs.Common.{◌≡◌, ◌∙◌, ◌⊎◌, inl, inr, sym, ap, subst, ℕ, zero, suc, ◌≤◌, ℤ, pos, negsuc, neg_ℤ, ◌*ℤ◌, ◌≤ℤ◌, Bool, true, false, [], ◌∷◌, List, Option, None, slice_get, arith}
use Rattle.std.proofs.Math.IntN.{suc_ℤ, suc_ℤ-*ℤ}
use Rattle.std.proofs.lemmas.Int.{ints}
use Rattle.std.proofs.lemmas.Option.{same_Some}
use Rattle.std.specs.Int.{int_div_euclid}
use Rattle.il_core.specs.declared.line.Place.{Place}
use Rattle.il_core.proofs.Integers.{product-monotone, product-swap}
use Rattle.sym_simplify.specs.Form.{Form, constant, part, Factor, place}
use Rattle.sym_simplify.specs.Norm.{Summand, alone, often}
use Rattle.sym_simplify.specs.Normal.{constant_of}
use Rattle.sym_simplify.specs.Merge.{scale_parts}
use Rattle.sym_simplify.specs.Literal.{LiteralForm, always, never, keep}
use Rattle.il_core.specs.declared.certificate.Item.{Item}
use Rattle.il_core.specs.declared.certificate.Item.TheVariants.{Up, Down, Never, Low, High, OldUp, OldDown}
use Rattle.cert_rules.specs.Quantity.{highest, lowest, IsReduced, times_and, IsUp, IsDown, IsCopyOf, less, IsQuantity}
use Rattle.threat_certs.proofs.Quantities.{once}

side : (x y : ℤ) → (x ≤ℤ y) ⊎ (suc_ℤ y ≤ℤ x)
side x y = grind (arith, ints)

not-above : (n : ℕ) (x y : ℤ) → pos (suc n) *ℤ x ≡ pos (suc n) *ℤ y → x ≤ℤ y
not-above n x y e = elim (side x y) [
  | inl l ↦ l
  | inr l ↦
      let m = product-monotone (suc_ℤ y) x (suc n) l in
      let s = suc_ℤ-*ℤ y (pos (suc n)) in
      let t = product-swap x (pos (suc n)) in
      let u = product-swap y (pos (suc n)) in
      absurd (omega (arith, ints))
]

-- a factor above 0 cancels
cancelled : (n : ℕ) (x y : ℤ) → pos (suc n) *ℤ x ≡ pos (suc n) *ℤ y → x ≡ y
cancelled n x y e = let l = not-above n x y e in let g = not-above n y x (sym e) in omega (arith, ints)

abbrev is_part : Form → Bool
is_part (constant c) = false
is_part (part c a n) = true

abbrev pub first : Form → ℤ
first (constant c) = pos 0
first (part c a n) = c

abbrev atom : Form → Factor
atom (constant c) = place 0
atom (part c a n) = a

abbrev rest : Form → Form
rest (constant c) = constant c
rest (part c a n) = n

same-scaled : (n : ℕ) (m k : Form) → scale_parts (pos (suc n)) m ≡ scale_parts (pos (suc n)) k → m ≡ k
same-scaled n (constant c) (constant d) e = ap constant (cancelled n c d (ap constant_of e))
same-scaled n (constant c) (part d b k) e = let f : false ≡ true = ap is_part e in absurd cc
same-scaled n (part c a m) (constant d) e = let f : true ≡ false = ap is_part e in absurd cc
same-scaled n (part c a m) (part d b k) e =
    ap (λ x. part x a m) (cancelled n c d (ap first e)) ∙ (ap (λ x. part d x m) (ap atom e) ∙ ap (part d b) (same-scaled n m k (ap rest e)))

pub record AreSame (g h : ℕ) (m k : Form) : Type 0 where
  pub factor : g ≡ h
  pub term : m ≡ k

same-reduced : (n : Form) (g h : ℕ) (m k : Form) → IsReduced n g m → IsReduced n h k → AreSame g h m k
same-reduced n zero h m k a b = let l : 1 ≤ zero = a.greatest 1 n (once n) in absurd (omega arith)
same-reduced n (suc g) h m k a b =
    let e : suc g ≡ h = (let l = a.greatest h k b.multiple in let u = b.greatest (suc g) m a.multiple in omega arith) in
    record { factor = e; term = same-scaled g m k (a.multiple ∙ (sym b.multiple ∙ ap (λ x. scale_parts (pos x) k) (sym e))) }

abbrev pub highest_of : LiteralForm → Option ℤ
highest_of always = None
highest_of never = None
highest_of (keep n r b) = highest r b

abbrev pub lowest_of : LiteralForm → Option ℤ
lowest_of always = None
lowest_of never = None
lowest_of (keep n r b) = lowest r b

abbrev parts_of : LiteralForm → Form
parts_of always = constant (pos 0)
parts_of never = constant (pos 0)
parts_of (keep n r b) = n

same-up : (f g : LiteralForm) (q r : List Summand) → f ≡ g → IsUp f q → IsUp g r → q ≡ r
same-up f g q r e u v =
    let k = sym u.kept ∙ (e ∙ v.kept) in
    let most = same_Some u.most v.most (sym u.allowed ∙ (ap highest_of k ∙ v.allowed)) in
    let s = same-reduced u.parts u.factor v.factor u.reduced v.reduced u.divided (subst (λ n. IsReduced n v.factor v.reduced) (sym (ap parts_of k)) v.divided) in
    u.quantity ∙ (ap (λ m. times_and (negsuc 0) m (int_div_euclid u.most (pos u.factor))) s.term
    ∙ (ap (λ x. times_and (negsuc 0) v.reduced (int_div_euclid x (pos u.factor))) most
    ∙ (ap (λ x. times_and (negsuc 0) v.reduced (int_div_euclid v.most (pos x))) s.factor ∙ sym v.quantity)))

same-down : (f g : LiteralForm) (q r : List Summand) → f ≡ g → IsDown f q → IsDown g r → q ≡ r
same-down f g q r e u v =
    let k = sym u.kept ∙ (e ∙ v.kept) in
    let fewest = same_Some u.fewest v.fewest (sym u.allowed ∙ (ap lowest_of k ∙ v.allowed)) in
    let s = same-reduced u.parts u.factor v.factor u.reduced v.reduced u.divided (subst (λ n. IsReduced n v.factor v.reduced) (sym (ap parts_of k)) v.divided) in
    u.quantity ∙ (ap (λ m. times_and (pos 1) m (int_div_euclid (neg_ℤ u.fewest) (pos u.factor))) s.term
    ∙ (ap (λ x. times_and (pos 1) v.reduced (int_div_euclid (neg_ℤ x) (pos u.factor))) fewest
    ∙ (ap (λ x. times_and (pos 1) v.reduced (int_div_euclid (neg_ℤ v.fewest) (pos x))) s.factor ∙ sym v.quantity)))

same-copied : (places : List Place) (v w p : ℕ) → IsCopyOf places v p → IsCopyOf places w p → v ≡ w
same-copied places v w p a b =
    let l = a.behind in
    let r = b.behind in
    let e : a.number ≡ b.number = omega arith in
    same_Some v w (sym a.copied ∙ (ap (slice_get _) e ∙ b.copied))

pub one-quantity : (places : List Place) (pc : ℕ) (fs : List LiteralForm) (i : Item) (q r : List Summand) → IsQuantity places pc fs i q → IsQuantity places pc fs i r → q ≡ r
one-quantity places pc fs (Up i) q r h k = same-up h.0 k.0 q r (same_Some h.0 k.0 (sym h.1 ∙ k.1)) h.2 k.2
one-quantity places pc fs (Down i) q r h k = same-down h.0 k.0 q r (same_Some h.0 k.0 (sym h.1 ∙ k.1)) h.2 k.2
one-quantity places pc fs (Never i) q r h k = h.1 ∙ sym k.1
one-quantity places pc fs (Low p) q r h k =
    h.2 ∙ (ap (λ x. often (pos 1) (place p) ∷ alone (neg_ℤ x.least) ∷ []) (same_Some h.0 k.0 (sym h.1 ∙ k.1)) ∙ sym k.2)
one-quantity places pc fs (High p) q r h k =
    h.2 ∙ (ap (λ x. often (negsuc 0) (place p) ∷ alone x.greatest ∷ []) (same_Some h.0 k.0 (sym h.1 ∙ k.1)) ∙ sym k.2)
one-quantity places pc fs (OldUp p) q r h k = h.1.2 ∙ (ap (λ v. less v p) (same-copied places h.1.0 k.1.0 p h.1.1 k.1.1) ∙ sym k.1.2)
one-quantity places pc fs (OldDown p) q r h k = h.1.2 ∙ (ap (λ v. less p v) (same-copied places h.1.0 k.1.0 p h.1.1 k.1.1) ∙ sym k.1.2)
