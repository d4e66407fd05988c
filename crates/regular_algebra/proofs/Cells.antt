-- The table of a board: how it changes where a row is written, where a node is noted, and where a node goes.
use Rattle.std.proofs.Common.{◌≡◌, refl, sym, ap, ◌∙◌, subst, ℕ, zero, suc, ◌+◌, ◌<◌, ◌≤◌, ◌⊎◌, ◌&&◌, ◌||◌, inl, inr, eqb, cond, not, Bool, true, false, Option, Some, None, Result, Ok, Err, OnOk, OnErr, List, [], ◌∷◌, ◌++◌, length, get_or, set, replicate, arith, get_or-set_same, get_or-set_other}
use Rattle.std.proofs.lemmas.Bool.{cond-true, cond-false, cases_eq, or_left, or_right, or_from, eq-eqb}
use Rattle.std.proofs.lemmas.Bool.Decides.{eqb_tells, nat_tests}
use Rattle.std.proofs.lemmas.List.{get_or_past, get_or-replicate}
use Rattle.regular_algebra.specs.Rule.{Table, blank, put, cleared}
use Rattle.regular_algebra.specs.Rows.{value_to, SetsValue, has_node, IsNoted}
use Rattle.regular_algebra.specs.Cells.{cell, is_gone}
use Rattle.regular_algebra.specs.declared.row.Item.{Item}
use Rattle.regular_algebra.specs.declared.steps.Step.{Step}
use Rattle.regular_algebra.proofs.Tables.{both_tell}

-- a list of empty rows has empty rows alone
pub empty_row : {X : Type 0} (count k : ℕ) → ◌≡◌ {A = List X} (get_or (replicate count []) k []) []
empty_row zero k = refl
empty_row (suc count) zero = refl
empty_row (suc count) (suc k) = empty_row count k

-- in empty rows every node is noted
pub noted-empty : (count : ℕ) (rows : List (List Item)) (columns : List (List ℕ)) → rows ≡ replicate count [] → IsNoted rows columns
noted-empty count rows columns e i j v h =
    let none : value_to (get_or rows i []) j ≡ None = ap (λ (r : List (List Item)). value_to (get_or r i []) j) e ∙ ap (λ (r : List Item). value_to r j) (empty_row count i) in
    absurd (cc)

-- each node of a new board is live
pub live-new : (count : ℕ) (gone : List Bool) → gone ≡ replicate count false → (k : ℕ) → k < count → is_gone gone k ≡ false
live-new count gone e k l = ap (λ (g : List Bool). get_or g k true) e ∙ get_or-replicate count k false true l

-- a live node is on the board
pub live-below : (gone : List Bool) (k : ℕ) → is_gone gone k ≡ false → k < length gone
live-below [] k e = absurd (cc)
live-below (g ∷ gone) zero e = omega arith
live-below (g ∷ gone) (suc k) e = let l = live-below gone k e in omega arith

-- a node that is not below the number of marks is gone
pub gone-past : (gone : List Bool) (k : ℕ) → length gone ≤ k → is_gone gone k ≡ true
gone-past gone k l = get_or_past gone k true l

-- a mark that is read is the node's
pub mark-read : (gone : List Bool) (k : ℕ) (m : Bool) → k < length gone → m ≡ get_or gone k m → not m ≡ not (is_gone gone k)
mark-read [] k m l e = absurd (omega arith)
mark-read (g ∷ gone) zero m l e = ap not e
mark-read (g ∷ gone) (suc k) m l e = mark-read gone k m (omega arith) e

-- no mark is there for a node beside the board
pub mark-past : (gone : List Bool) (k : ℕ) → length gone ≤ k → false ≡ not (is_gone gone k)
mark-past gone k l = sym (ap not (gone-past gone k l))

-- an entry of live nodes
pub cell-live : (rows : List (List Item)) (gone : List Bool) (i j : ℕ) → is_gone gone i ≡ false → is_gone gone j ≡ false → cell rows gone i j ≡ value_to (get_or rows i []) j
unfolding cell
cell-live rows gone i j e f = cond-false (is_gone gone i || is_gone gone j) None (value_to (get_or rows i []) j) (or_from (is_gone gone i) (is_gone gone j) e f)

-- an entry of a gone node
pub cell-gone : (rows : List (List Item)) (gone : List Bool) (i j : ℕ) → (is_gone gone i ≡ true) ⊎ (is_gone gone j ≡ true) → cell rows gone i j ≡ None
unfolding cell
cell-gone rows gone i j (inl e) = cond-true (is_gone gone i || is_gone gone j) None (value_to (get_or rows i []) j) (or_left (is_gone gone i) (is_gone gone j) e)
cell-gone rows gone i j (inr e) = cond-true (is_gone gone i || is_gone gone j) None (value_to (get_or rows i []) j) (or_right (is_gone gone i) (is_gone gone j) e)

-- a mark or none
marked : (gone : List Bool) (k : ℕ) → (is_gone gone k ≡ true) ⊎ (is_gone gone k ≡ false)
marked gone k = go (is_gone gone k) refl
  where
    go : (b : Bool) → is_gone gone k ≡ b → (is_gone gone k ≡ true) ⊎ (is_gone gone k ≡ false)
    go true e = inl e
    go false e = inr e

-- the nodes of an entry that has a value are live, and the value stands in the row
pub record Stands (rows : List (List Item)) (gone : List Bool) (i j v : ℕ) : Type 0 where
  pub row : is_gone gone i ≡ false
  pub column : is_gone gone j ≡ false
  pub value : value_to (get_or rows i []) j ≡ Some v

pub cell-some : (rows : List (List Item)) (gone : List Bool) (i j v : ℕ) → cell rows gone i j ≡ Some v → Stands rows gone i j v
cell-some rows gone i j v e =
    elim (marked gone i) [
      | inl g ↦ let none = cell-gone rows gone i j (inl g) in absurd (cc)
      | inr g ↦
          elim (marked gone j) [
            | inl h ↦ let none = cell-gone rows gone i j (inr h) in absurd (cc)
            | inr h ↦ record { row = g; column = h; value = sym (cell-live rows gone i j g h) ∙ e }
          ]
    ]

-- a written row changes its own entry alone
put_cell : (rows : List (List Item)) (gone : List Bool) (i j v : ℕ) (r : List Item) → i < length rows → is_gone gone i ≡ false → is_gone gone j ≡ false
    → SetsValue (get_or rows i []) r j v → (a b : ℕ)
    → cell (set rows i r) gone a b ≡ cond (eqb a i && eqb b j) (Some v) (cell rows gone a b)
put_cell rows gone i j v r l li lj s a b =
    elim (marked gone a) [
      | inl g ↦
          elim (both_tell a b i j) [
            | inl q ↦ let same = ap (is_gone gone) q.1 in absurd (cc)
            | inr q ↦ cell-gone (set rows i r) gone a b (inl g) ∙ sym (cell-gone rows gone a b (inl g)) ∙ sym (cond-false (eqb a i && eqb b j) (Some v) (cell rows gone a b) q.0)
          ]
      | inr g ↦
          elim (marked gone b) [
            | inl h ↦
                elim (both_tell a b i j) [
                  | inl q ↦ let same = ap (is_gone gone) q.2 in absurd (cc)
                  | inr q ↦ cell-gone (set rows i r) gone a b (inr h) ∙ sym (cell-gone rows gone a b (inr h)) ∙ sym (cond-false (eqb a i && eqb b j) (Some v) (cell rows gone a b) q.0)
                ]
            | inr h ↦
                cell-live (set rows i r) gone a b g h ∙ elim (cases_eq a i) [
                  | inl e ↦
                      let here : value_to (get_or (set rows i r) a []) b ≡ value_to r b = ap (λ x. value_to (get_or (set rows i r) x []) b) e ∙ ap (λ (x : List Item). value_to x b) (get_or-set_same rows i r [] l) in
                      here ∙ s b ∙ elim (both_tell a b i j) [
                        | inl q ↦ cond-true (eqb j b) (Some v) (value_to (get_or rows i []) b) (eq-eqb j b (sym q.2)) ∙ sym (cond-true (eqb a i && eqb b j) (Some v) (cell rows gone a b) q.0)
                        | inr q ↦
                            elim (eqb_tells j b) [
                              | inl t ↦ absurd (q.1 e (sym t.1))
                              | inr t ↦
                                  cond-false (eqb j b) (Some v) (value_to (get_or rows i []) b) t.0 ∙ ap (λ x. value_to (get_or rows x []) b) (sym e)
                                  ∙ sym (cell-live rows gone a b g h) ∙ sym (cond-false (eqb a i && eqb b j) (Some v) (cell rows gone a b) q.0)
                            ]
                      ]
                  | inr n ↦
                      ap (λ (x : List Item). value_to x b) (get_or-set_other rows i a r [] n) ∙ sym (cell-live rows gone a b g h) ∙ elim (both_tell a b i j) [
                        | inl q ↦ absurd (n q.1)
                        | inr q ↦ sym (cond-false (eqb a i && eqb b j) (Some v) (cell rows gone a b) q.0)
                      ]
                ]
          ]
    ]

-- a written row is a put entry
pub put-cells : (rows : List (List Item)) (gone : List Bool) (steps : List Step) (i j v : ℕ) (r : List Item) → i < length rows → is_gone gone i ≡ false → is_gone gone j ≡ false
    → SetsValue (get_or rows i []) r j v
    → ◌≡◌ {A = Table} (record { entry = cell (set rows i r) gone; steps = steps }) (put i j (Some v) (record { entry = cell rows gone; steps = steps }))
unfolding put
put-cells rows gone steps i j v r l li lj s = λ x. record { entry = λ a b. put_cell rows gone i j v r l li lj s a b x; steps = steps }

-- empty rows are the blank table
blank_cell : (count : ℕ) (gone : List Bool) (a b : ℕ) → cell (replicate count []) gone a b ≡ None
blank_cell count gone a b =
    elim (marked gone a) [
      | inl g ↦ cell-gone (replicate count []) gone a b (inl g)
      | inr g ↦
          elim (marked gone b) [
            | inl h ↦ cell-gone (replicate count []) gone a b (inr h)
            | inr h ↦ cell-live (replicate count []) gone a b g h ∙ ap (λ (r : List Item). value_to r b) (empty_row count a)
          ]
    ]

pub blank-cells : (count : ℕ) (rows : List (List Item)) (gone : List Bool) (steps : List Step) → rows ≡ replicate count [] → steps ≡ []
    → ◌≡◌ {A = Table} (record { entry = cell rows gone; steps = steps }) blank
unfolding blank
blank-cells count rows gone steps e f =
    let none_here : (a b : ℕ) → cell rows gone a b ≡ None = λ a b. subst (λ (r : List (List Item)). cell r gone a b ≡ None) (sym e) (blank_cell count gone a b) in
    λ x. record { entry = λ a b. none_here a b x; steps = f x }

-- a node whose mark is set is gone, and the others as before
pub gone-set : (gone : List Bool) (p k : ℕ) → is_gone (set gone p true) k ≡ cond (eqb k p) true (is_gone gone k)
gone-set [] p k = grind (arith, nat_tests)
gone-set (g ∷ gone) zero zero = grind (arith, nat_tests)
gone-set (g ∷ gone) zero (suc k) = grind (arith, nat_tests)
gone-set (g ∷ gone) (suc p) zero = grind (arith, nat_tests)
gone-set (g ∷ gone) (suc p) (suc k) = grind (arith, nat_tests, gone-set gone p k)

-- once a node is gone, its entries have no value and the others are as before
clear_cell : (rows : List (List Item)) (gone : List Bool) (p a b : ℕ) → cell rows (set gone p true) a b ≡ cond (eqb a p || eqb b p) None (cell rows gone a b)
unfolding cell
clear_cell rows gone p a b = rw (gone-set gone p a, gone-set gone p b) (go (eqb a p) (eqb b p) (is_gone gone a) (is_gone gone b) (value_to (get_or rows a []) b))
  where
    go : (x y g h : Bool) (o : Option ℕ) → cond (cond x true g || cond y true h) None o ≡ cond (x || y) None (cond (g || h) None o)
    go true y g h o = refl
    go false true true h o = refl
    go false true false h o = refl
    go false false g h o = refl

-- a board on which a node is marked has the cleared table
pub clear-cells : (rows : List (List Item)) (gone : List Bool) (steps : List Step) (p : ℕ)
    → ◌≡◌ {A = Table} (record { entry = cell rows (set gone p true); steps = steps }) (cleared p (record { entry = cell rows gone; steps = steps }))
unfolding cleared
clear-cells rows gone steps p = λ x. record { entry = λ a b. clear_cell rows gone p a b x; steps = steps }

-- the entry that is put
pub put_here : (i j a b : ℕ) (v : Option ℕ) (t : Table) → a ≡ i → b ≡ j → (put i j v t).entry a b ≡ v
unfolding put
put_here i j a b v t e f =
    elim (both_tell a b i j) [ inl q ↦ cond-true (eqb a i && eqb b j) v (t.entry a b) q.0 | inr q ↦ absurd (q.1 e f) ]

-- any other entry
pub put_away : (i j a b : ℕ) (v : Option ℕ) (t : Table) → (a ≡ i → b ≡ j → ⊥) → (put i j v t).entry a b ≡ t.entry a b
unfolding put
put_away i j a b v t f =
    elim (both_tell a b i j) [ inl q ↦ absurd (f q.1 q.2) | inr q ↦ cond-false (eqb a i && eqb b j) v (t.entry a b) q.0 ]

-- a node that is added is among the nodes
has_pushed : (nodes : List ℕ) (i : ℕ) → has_node (nodes ++ i ∷ []) i ≡ true
has_pushed [] i = or_left (eqb i i) false (eq-eqb i i refl)
has_pushed (x ∷ nodes) i = or_right (eqb x i) (has_node (nodes ++ i ∷ []) i) (has_pushed nodes i)

or_kept : (a b c : Bool) → (b ≡ true → c ≡ true) → (a || b) ≡ true → (a || c) ≡ true
or_kept true b c f h = refl
or_kept false b c f h = f h

-- and the others stay
has_kept : (nodes : List ℕ) (y i : ℕ) → has_node nodes i ≡ true → has_node (nodes ++ y ∷ []) i ≡ true
has_kept [] y i h = absurd (cc)
has_kept (x ∷ nodes) y i h = or_kept (eqb x i) (has_node nodes i) (has_node (nodes ++ y ∷ []) i) (has_kept nodes y i) h

-- a node is added to a column
pub noted-pushed : (columns : List (List ℕ)) (j i : ℕ) (c : List ℕ) → j < length columns → c ≡ get_or columns j [] ++ i ∷ []
    → has_node (get_or (set columns j c) j []) i ≡ true
noted-pushed columns j i c l e = ap (λ (x : List ℕ). has_node x i) (get_or-set_same columns j c [] l ∙ e) ∙ has_pushed (get_or columns j []) i

-- what is noted stays noted as a column grows
pub noted-grown : (rows : List (List Item)) (columns : List (List ℕ)) (j i : ℕ) (c : List ℕ) → j < length columns → c ≡ get_or columns j [] ++ i ∷ []
    → IsNoted rows columns → IsNoted rows (set columns j c)
noted-grown rows columns j i c l e h a b v s =
    elim (cases_eq b j) [
      | inl q ↦
          ap (λ k. has_node (get_or (set columns j c) k []) a) q ∙ ap (λ (x : List ℕ). has_node x a) (get_or-set_same columns j c [] l ∙ e)
          ∙ has_kept (get_or columns j []) i a (ap (λ k. has_node (get_or columns k []) a) (sym q) ∙ h a b v s)
      | inr n ↦ ap (λ (x : List ℕ). has_node x a) (get_or-set_other columns j b c [] n) ∙ h a b v s
    ]

-- what is noted stays noted where a column stays
pub noted-same_column : (rows : List (List Item)) (columns : List (List ℕ)) (j : ℕ) (c : List ℕ) → j < length columns → c ≡ get_or columns j []
    → IsNoted rows columns → IsNoted rows (set columns j c)
noted-same_column rows columns j c l e h a b v s =
    elim (cases_eq b j) [
      | inl q ↦
          ap (λ k. has_node (get_or (set columns j c) k []) a) q ∙ ap (λ (x : List ℕ). has_node x a) (get_or-set_same columns j c [] l ∙ e)
          ∙ ap (λ k. has_node (get_or columns k []) a) (sym q) ∙ h a b v s
      | inr n ↦ ap (λ (x : List ℕ). has_node x a) (get_or-set_other columns j b c [] n) ∙ h a b v s
    ]

-- whether or not there was memory to add a node to a column
pub noted-either : {X E : Type 0} (rows : List (List Item)) (columns : List (List ℕ)) (j i : ℕ) (old new : List ℕ) (r : Result X E) → j < length columns → old ≡ get_or columns j []
    → OnOk r (new ≡ old ++ i ∷ []) → OnErr r (new ≡ old) → IsNoted rows columns → IsNoted rows (set columns j new)
noted-either rows columns j i old new (Ok x) l e ok err h = noted-grown rows columns j i new l (ok ∙ ap (λ (x : List ℕ). x ++ i ∷ []) e) h
noted-either rows columns j i old new (Err x) l e ok err h = noted-same_column rows columns j new l (err ∙ e) h

-- what is not gone is live, and the other way round
pub not-gone : (g : Bool) → not g ≡ true → g ≡ false
not-gone true e = absurd (cc)
not-gone false e = refl

pub not-live : (g : Bool) → not g ≡ false → g ≡ true
not-live true e = refl
not-live false e = absurd (cc)
