-- A certificate for each side of a fork is one that splits it, and a solution of a side is a solution of a choice of sides.
use Rattle.std.proofs.Common.{◌≡◌, ◌≢◌, inl, inr, ◌∙◌, refl, sym, ap, subst, append_assoc, ℕ, zero, suc, ◌≤◌, ℤ, pos, ◌+ℤ◌, ◌-ℤ◌, true, false, Some, List, [], ◌∷◌, ◌++◌, length, slice_get, max, arith}
use Rattle.std.specs.Prelude.{slice_set}
use Rattle.std.proofs.Math.Nat.{max-le}
use Rattle.std.proofs.lemmas.Option.{same_Some, none-some}
use Rattle.il_core.specs.Certificate.{Certificate, split, nesting}
use Rattle.il_core.specs.declared.certificate.Item.{Item}
use Rattle.il_core.specs.declared.certificate.Item.TheVariants.{Up, Down, Never, Low, High, OldUp, OldDown}
use Rattle.il_core.specs.declared.line.Place.{Place}
use Rattle.il_core.specs.declared.operator.Relation.{Relation}
use Rattle.il_core.specs.declared.operator.Relation.TheVariants.{Eq, Ne, Lt, Gt}
use Rattle.sym_simplify.specs.Form.{Form}
use Rattle.sym_simplify.specs.Norm.{Summand}
use Rattle.sym_simplify.specs.Literal.{LiteralForm, always, never, keep}
use Rattle.difference.specs.Constraints.{IsSolution}
use Rattle.difference.specs.Answers.{sides}
use Rattle.difference.specs.declared.constraint.Constraint.{Constraint}
use Rattle.difference.specs.declared.constraint.Range64.{Range64}
use Rattle.path_inputs.specs.Bounding.{IsJudged}
use Rattle.cert_rules.specs.Quantity.{highest, lowest, IsUp, IsDown, IsQuantity}
use Rattle.threat_certs.specs.Counting.{IsCounted, AreCounted, splits_among, IsApart, AreForks}
use Rattle.threat_certs.specs.Making.{RefutesForks}
use Rattle.threat_certs.specs.declared.counting.Fork.{Fork}
use Rattle.threat_certs.proofs.Counts.{up-counted, down-counted, counted-append}

-- an element of a list in which one is replaced
get-replaced : {A : Type 0} (xs : List A) (i : ℕ) (x y : A) → slice_get xs i ≡ Some x → slice_get (slice_set xs i y) i ≡ Some y
get-replaced [] i x y e = absurd (none-some x e)
get-replaced (z ∷ xs) zero x y e = refl
get-replaced (z ∷ xs) (suc i) x y e = get-replaced xs i x y e

get-other : {A : Type 0} (xs : List A) (i j : ℕ) (y : A) → i ≢ j → slice_get (slice_set xs i y) j ≡ slice_get xs j
get-other [] i j y h = refl
get-other (z ∷ xs) zero zero y h = absurd (h refl)
get-other (z ∷ xs) zero (suc j) y h = refl
get-other (z ∷ xs) (suc i) zero y h = refl
get-other (z ∷ xs) (suc i) (suc j) y h = get-other xs i j y (λ e. h (ap suc e))

abbrev relation_in : LiteralForm → Relation
relation_in always = Eq
relation_in never = Eq
relation_in (keep n r b) = r

-- no item counts a `/=`
up-unequal : (n : Form) (b : ℤ) (f : LiteralForm) (q : List Summand) → f ≡ keep n Ne b → IsUp f q → ⊥
up-unequal n b f q e u =
    let r : u.relation ≡ Ne = ap relation_in (sym u.kept ∙ e) in
    none-some u.most (ap (λ x. highest x u.bound) (sym r) ∙ u.allowed)

down-unequal : (n : Form) (b : ℤ) (f : LiteralForm) (q : List Summand) → f ≡ keep n Ne b → IsDown f q → ⊥
down-unequal n b f q e u =
    let r : u.relation ≡ Ne = ap relation_in (sym u.kept ∙ e) in
    none-some u.fewest (ap (λ x. lowest x u.bound) (sym r) ∙ u.allowed)

never-unequal : (n : Form) (b : ℤ) → never ≡ keep n Ne b → ⊥
never-unequal n b e = let r : Eq ≡ Ne = ap relation_in e in absurd cc

module _ (places : List Place) (pc : ℕ) (fs : List LiteralForm) (i : ℕ) (n : Form) (b : ℤ) (there : slice_get fs i ≡ Some (keep n Ne b)) (g : LiteralForm) where
  -- the literal with number j, if that of a `/=` cannot be it
  at-other : (j : ℕ) (f : LiteralForm) → slice_get fs j ≡ Some f → (f ≡ keep n Ne b → ⊥) → slice_get (slice_set fs i g) j ≡ Some f
  at-other j f e unlike = get-other fs i j g (λ k. unlike (same_Some f (keep n Ne b) (sym e ∙ (ap (slice_get fs) (sym k) ∙ there)))) ∙ e

  quantity-replaced : (item : Item) (q : List Summand) → IsQuantity places pc fs item q → IsQuantity places pc (slice_set fs i g) item q
  quantity-replaced (Up j) q h = (h.0, at-other j h.0 h.1 (λ e. up-unequal n b h.0 q e h.2), h.2)
  quantity-replaced (Down j) q h = (h.0, at-other j h.0 h.1 (λ e. down-unequal n b h.0 q e h.2), h.2)
  quantity-replaced (Never j) q h = (at-other j never h.0 (never-unequal n b), h.1)
  quantity-replaced (Low p) q h = h
  quantity-replaced (High p) q h = h
  quantity-replaced (OldUp p) q h = h
  quantity-replaced (OldDown p) q h = h

  pub counted-replaced : (cs : List Constraint) (items : List Item) → AreCounted places pc fs cs items → AreCounted places pc (slice_set fs i g) cs items
  counted-replaced [] items h = h
  counted-replaced (c ∷ cs) [] h = absurd h
  counted-replaced (c ∷ cs) (item ∷ items) h =
      let k = h.0 in (
        record { quantity = k.quantity; is_quantity = quantity-replaced item k.quantity k.is_quantity; of_places = k.of_places; room_is = k.room_is },
        counted-replaced cs items h.1,
      )

forks-replaced : (fs : List LiteralForm) (i : ℕ) (g : LiteralForm) (forks : List Fork) → IsApart i forks → AreForks fs forks → AreForks (slice_set fs i g) forks
forks-replaced fs i g [] a h = tt
forks-replaced fs i g (f ∷ forks) a h =
    let k = h.0 in (
      record {
        parts = k.parts;
        bound = k.bound;
        there = get-other fs i f.literal g (a f (inl refl)) ∙ k.there;
        kept = k.kept;
        multiple = k.multiple;
        easy = k.easy;
        sides = k.sides;
      },
      h.1,
      forks-replaced fs i g forks (λ x m. a x (inr m)) h.2,
    )

both-below : (a b n : ℕ) → a ≤ n → b ≤ n → suc (max a b) ≤ suc n
both-below a b n h k = let m = max-le h k in omega arith

module _ (ranges : List Range64) (cs : List Constraint) (items : List Item) (f : Fork) (rest : List Fork) where
  abbrev below : List Constraint
  below = cs ++ f.split.low ∷ []

  abbrev above : List Constraint
  above = cs ++ f.split.high ∷ []

  -- certificates for both sides
  pub split-refutes : (low high : Certificate)
      → RefutesForks ranges below (items ++ Up f.literal ∷ []) rest low → RefutesForks ranges above (items ++ Down f.literal ∷ []) rest high
      → RefutesForks ranges cs items (f ∷ rest) (split f.literal low high)
  split-refutes low high l h places pc fs r few counted (fork, apart, others) =
      let lt = keep fork.parts Lt fork.bound in
      let gt = keep fork.parts Gt fork.bound in
      let fs_low = slice_set fs f.literal lt in
      let fs_high = slice_set fs f.literal gt in
      let up = up-counted places pc fs_low f.literal fork.parts Lt fork.bound fork.multiple (fork.bound -ℤ pos 1) (get-replaced fs f.literal (keep fork.parts Ne fork.bound) lt fork.there) fork.kept fork.easy refl in
      let down = down-counted places pc fs_high f.literal fork.parts Gt fork.bound fork.multiple (fork.bound +ℤ pos 1) (get-replaced fs f.literal (keep fork.parts Ne fork.bound) gt fork.there) fork.kept fork.easy refl in
      let a = l places pc fs_low r few
      (counted-append places pc fs_low cs items (f.split.low ∷ []) (Up f.literal ∷ []) (counted-replaced places pc fs f.literal fork.parts fork.bound fork.there lt cs items counted)
      (subst (λ s. IsCounted places pc fs_low s.low (Up f.literal)) (sym fork.sides) up, refl))
      (forks-replaced fs f.literal lt rest apart others) in
      let b = h places pc fs_high r few
      (counted-append places pc fs_high cs items (f.split.high ∷ []) (Down f.literal ∷ []) (counted-replaced places pc fs f.literal fork.parts fork.bound fork.there gt cs items counted)
      (subst (λ s. IsCounted places pc fs_high s.high (Down f.literal)) (sym fork.sides) down, refl))
      (forks-replaced fs f.literal gt rest apart others) in
      ((fork.parts, fork.bound, fork.there, a.0, b.0), both-below (nesting low) (nesting high) (length rest) a.1 b.1)

  -- a solution of a side
  pub below-solved : IsJudged ranges below (splits_among rest) true → IsJudged ranges cs (splits_among (f ∷ rest)) true
  below-solved (vals, choice, chosen, s) =
      (vals, true ∷ choice, ap suc chosen, subst (λ x. IsSolution ranges x vals) (append_assoc cs (f.split.low ∷ []) (sides choice (splits_among rest))) s)

  pub above-solved : IsJudged ranges above (splits_among rest) true → IsJudged ranges cs (splits_among (f ∷ rest)) true
  above-solved (vals, choice, chosen, s) =
      (vals, false ∷ choice, ap suc chosen, subst (λ x. IsSolution ranges x vals) (append_assoc cs (f.split.high ∷ []) (sides choice (splits_among rest))) s)
