-- The rule's steps as equations, for the code that makes them one by one.
use Rattle.std.proofs.Common.{◌≡◌, refl, sym, ap, ◌∙◌, ℕ, zero, suc, ◌+◌, ◌<◌, ◌⊎◌, ◌||◌, inl, inr, eqb, false, Option, Some, None, List, [], ◌∷◌, length, slice_get, get_or, fold, is_some, arith, add-one}
use Rattle.std.proofs.lemmas.Bool.{cond-true, cond-false}
use Rattle.regular_algebra.specs.Answers.{IsAmong}
use Rattle.regular_algebra.specs.Rule.{Table, next, blank, made, put, joined, joined_to, multiplied, through, turned, turn, row, rows, cleared, passed, passed_by, eliminated, taken, entered, finished}
use Rattle.regular_algebra.specs.declared.steps.Ends.{Ends}
use Rattle.regular_algebra.specs.declared.steps.Step.TheVariants.{Plus, Times, Star}
use Rattle.regular_algebra.proofs.Tables.{either_tells}

-- a value comes alone
pub joined-none : (n i j v : ℕ) (t u : Table) → None ≡ t.entry i j → u ≡ put i j (Some v) t → u ≡ joined n i j v t
unfolding joined
joined-none n i j v t u e f = f ∙ ap (joined_to n i j v t) e

-- a value comes in a sum
pub joined-some : (n i j v o s : ℕ) (t m u : Table) → Some o ≡ t.entry i j → m ≡ made (Plus o v) t → s ≡ next n t → u ≡ put i j (Some s) m → u ≡ joined n i j v t
unfolding joined
joined-some n i j v o s t m u e f g h =
    h ∙ ap (λ x. put i j (Some x) m) g ∙ ap (put i j (Some (next n t))) f ∙ ap (joined_to n i j v t) e

-- a product is made and joined
pub multiplied-made : (n q i j a b s : ℕ) (t m u : Table) → q ≡ n → m ≡ made (Times a b) t → s ≡ next n t → u ≡ joined q i j s m → u ≡ multiplied n i j a b t
unfolding multiplied
multiplied-made n q i j a b s t m u e f g h = h ∙ ap (λ x. joined x i j s m) e ∙ ap (λ x. joined n i j x m) g ∙ ap (joined n i j (next n t)) f

-- a turn of p itself is none
pub turn-own : (n p : ℕ) (star : Option ℕ) (i j : ℕ) (t : Table) → (i ≡ p) ⊎ (j ≡ p) → t ≡ turn n p star i j t
unfolding turn
turn-own n p star i j t h =
    elim (either_tells i j p) [
      | inl q ↦ sym (cond-true (eqb i p || eqb j p) t (turned n star i j t (t.entry i p) (t.entry p j)) q.0)
      | inr q ↦ absurd (elim h [ inl e ↦ q.1 e | inr e ↦ q.2 e ])
    ]

-- a turn of other nodes
turn_other : (n p : ℕ) (star : Option ℕ) (i j : ℕ) (t u : Table) → ((i ≡ p) ⊎ (j ≡ p) → t ≡ u) → u ≡ turned n star i j t (t.entry i p) (t.entry p j)
    → u ≡ turn n p star i j t
unfolding turn
turn_other n p star i j t u h e =
    elim (either_tells i j p) [
      | inl q ↦ sym (h q.1) ∙ sym (cond-true (eqb i p || eqb j p) t (turned n star i j t (t.entry i p) (t.entry p j)) q.0)
      | inr q ↦ e ∙ sym (cond-false (eqb i p || eqb j p) t (turned n star i j t (t.entry i p) (t.entry p j)) q.0)
    ]

-- a turn from a node that does not enter p is none
pub turn-none : (n p : ℕ) (star : Option ℕ) (i j : ℕ) (t : Table) → None ≡ t.entry i p → t ≡ turn n p star i j t
turn-none n p star i j t e = turn_other n p star i j t t (λ q. refl) (ap (λ o. turned n star i j t o (t.entry p j)) e)

turned_none : (n : ℕ) (star : Option ℕ) (i j : ℕ) (t : Table) (o : Option ℕ) → t ≡ turned n star i j t o None
turned_none n star i j t None = refl
turned_none n star i j t (Some a) = refl

-- a turn to a node that p does not enter is none
pub turn-none_right : (n p : ℕ) (star : Option ℕ) (i j : ℕ) (t : Table) → None ≡ t.entry p j → t ≡ turn n p star i j t
turn-none_right n p star i j t e =
    turn_other n p star i j t t (λ q. refl) (turned_none n star i j t (t.entry i p) ∙ ap (turned n star i j t (t.entry i p)) e)

-- a turn
pub turn-some : (n p : ℕ) (star : Option ℕ) (i j a b : ℕ) (t u : Table) → (i ≡ p → ⊥) → (j ≡ p → ⊥) → Some a ≡ t.entry i p → Some b ≡ t.entry p j
    → u ≡ through n i j a star b t → u ≡ turn n p star i j t
turn-some n p star i j a b t u ni nj e f h =
    turn_other n p star i j t u (λ q. absurd (elim q [ inl x ↦ ni x | inr x ↦ nj x ]))
    (h ∙ ap (λ o. turned n star i j t o (Some b)) e ∙ ap (turned n star i j t (t.entry i p)) f)

-- no turn
pub row-none : (n p : ℕ) (star : Option ℕ) (i : ℕ) (t : Table) → t ≡ row n p star i 0 t
unfolding row
row-none n p star i t = refl

-- nothing is made from a node that does not enter p
pub row-skipped : (n p : ℕ) (star : Option ℕ) (i j : ℕ) (t : Table) → None ≡ t.entry i p → t ≡ row n p star i j t
unfolding row
row-skipped n p star i zero t e = refl
row-skipped n p star i (suc j) t e = turn-none n p star i j t e ∙ ap (turn n p star i j) (row-skipped n p star i j t e)

-- one more turn
pub row-more : (n q p : ℕ) (star : Option ℕ) (i j : ℕ) (t m u : Table) → q ≡ n → m ≡ row n p star i j t → u ≡ turn q p star i j m
    → u ≡ row n p star i (j + 1) t
unfolding row
row-more n q p star i j t m u d e f = rw add-one (f ∙ ap (λ x. turn x p star i j m) d ∙ ap (turn n p star i j) e)

-- no row
pub rows-none : (n p : ℕ) (star : Option ℕ) (count : ℕ) (t : Table) → t ≡ rows n p star count 0 t
unfolding rows
rows-none n p star count t = refl

-- one more row
pub rows-more : (n q p : ℕ) (star : Option ℕ) (count size i : ℕ) (t m u : Table) → q ≡ n → size ≡ count → m ≡ rows n p star count i t → u ≡ row q p star i size m
    → u ≡ rows n p star count (i + 1) t
unfolding rows
rows-more n q p star count size i t m u c d e f =
    rw add-one (f ∙ ap (λ x. row x p star i size m) c ∙ ap (λ x. row n p star i x m) d ∙ ap (row n p star i count) e)

-- a pass without a star
pub passed-none : (n count p : ℕ) (t u : Table) → None ≡ t.entry p p → u ≡ rows n p None count count t → u ≡ passed n count p t
unfolding passed
passed-none n count p t u e f = f ∙ ap (passed_by n count p t) e

-- a pass with a star
pub passed-some : (n q count size p v s : ℕ) (t m u : Table) → q ≡ n → size ≡ count → Some v ≡ t.entry p p → m ≡ made (Star v) t → s ≡ next n t
    → u ≡ rows q p (Some s) size size m → u ≡ passed n count p t
unfolding passed
passed-some n q count size p v s t m u c d e f g h =
    h ∙ ap (λ x. rows x p (Some s) size size m) c ∙ ap (λ x. rows n p (Some s) x x m) d ∙ ap (λ x. rows n p (Some x) count count m) g
    ∙ ap (rows n p (Some (next n t)) count count) f ∙ ap (passed_by n count p t) e

-- a pass and a clearing eliminate p
pub eliminated-cleared : (n count p : ℕ) (t m u : Table) → m ≡ passed n count p t → u ≡ cleared p m → u ≡ eliminated n count t p
unfolding eliminated
eliminated-cleared n count p t m u e f = f ∙ ap (cleared p) e

-- no arc
pub entered-none : (arcs : List Ends) (t : Table) → t ≡ blank → t ≡ entered arcs 0
unfolding entered
entered-none arcs t e = e

-- one more arc
pub entered-more : (arcs : List Ends) (q k : ℕ) (e : Ends) (m u : Table) → q ≡ length arcs → slice_get arcs k ≡ Some e → m ≡ entered arcs k
    → u ≡ joined q e.tail e.head k m → u ≡ entered arcs (k + 1)
unfolding entered
entered-more arcs q k e m u d h f g =
    rw add-one (g ∙ ap (λ x. joined x e.tail e.head k m) d ∙ ap (joined (length arcs) e.tail e.head k) f ∙ ap (taken (length arcs) k (entered arcs k)) (sym h))

-- what a slice has at an index is among its elements
pub among-at : (xs : List ℕ) (k : ℕ) → k < length xs → IsAmong xs (get_or xs k 0)
among-at [] k l = absurd (omega arith)
among-at (x ∷ xs) zero l = inl refl
among-at (x ∷ xs) (suc k) l = inr (among-at xs k (omega arith))

-- what is not there is None
pub none-told : (r o : Option ℕ) → is_some r ≡ false → r ≡ o → None ≡ o
none-told None o e f = f
none-told (Some v) o e f = absurd (cc)

-- all arcs entered, all nodes eliminated
pub all-finished : (count n size : ℕ) (arcs : List Ends) (order : List ℕ) (t u : Table) → n ≡ length arcs → size ≡ count → t ≡ entered arcs (length arcs)
    → u ≡ fold (eliminated n size) t order → u ≡ finished count arcs order
unfolding finished
all-finished count n size arcs order t u c d e f =
    f ∙ ap (λ x. fold (eliminated x size) t order) c ∙ ap (λ x. fold (eliminated (length arcs) x) t order) d
    ∙ ap (λ x. fold (eliminated (length arcs) count) x order) e
