-- Where the graph has no cycle, no step of the finished table is a star.
use Rattle.std.proofs.Common.{◌≡◌, refl, subst, ℕ, zero, suc, ◌<◌, ◌||◌, inl, inr, eqb, cond, Bool, true, false, Option, Some, None, List, [], ◌∷◌, length, slice_get, fold, arith}
use Rattle.std.proofs.lemmas.Bool.{cases_lt}
use Rattle.regular_algebra.specs.Paths.{IsArc, HasNoCycle}
use Rattle.regular_algebra.specs.Words.{IsNoStar, HasNoStar}
use Rattle.regular_algebra.specs.Answers.{IsAmong, Differ, FitsArcs}
use Rattle.regular_algebra.specs.Rule.{Table, next, blank, made, put, joined, joined_to, multiplied, through, turned, turn, row, rows, cleared, passed, passed_by, eliminated, taken, entered, finished}
use Rattle.regular_algebra.specs.declared.steps.Ends.{Ends}
use Rattle.regular_algebra.specs.declared.steps.Step.{Step}
use Rattle.regular_algebra.specs.declared.steps.Step.TheVariants.{Plus, Times}
use Rattle.regular_algebra.proofs.Ways.{Also, way-path, way-some}
use Rattle.regular_algebra.proofs.Values.{get-less, get-last_same, some-word}
use Rattle.regular_algebra.proofs.Tables.{Holds, has_some}
use Rattle.regular_algebra.proofs.Passes.{IsEmpty}
use Rattle.regular_algebra.proofs.Theorem.{Open, holds-one, holds-begun, rest_fresh, Nowhere}

-- no step is a star
abbrev pub IsFree : Table → Type 0
IsFree t = HasNoStar t.steps

-- a step that is no star
free_made : (s : Step) (t : Table) → IsNoStar s → IsFree t → IsFree (made s t)
unfolding made
free_made s t i f k u e =
    elim (cases_lt k (length t.steps)) [
      | inl l ↦ f k u (get-less t.steps (s ∷ []) k u l e)
      | inr g ↦ subst IsNoStar (get-last_same t.steps s k u g e).1 i
    ]

-- to join makes no star
free_joined_to : (n i j v : ℕ) (t : Table) (o : Option ℕ) → IsFree t → IsFree (joined_to n i j v t o)
unfolding put
free_joined_to n i j v t None f = f
free_joined_to n i j v t (Some u) f = free_made (Plus u v) t tt f

free_joined : (n i j v : ℕ) (t : Table) → IsFree t → IsFree (joined n i j v t)
unfolding joined
free_joined n i j v t f = free_joined_to n i j v t (t.entry i j) f

-- a product makes none
free_multiplied : (n i j a b : ℕ) (t : Table) → IsFree t → IsFree (multiplied n i j a b t)
unfolding multiplied
free_multiplied n i j a b t f = free_joined n i j (next n t) (made (Times a b) t) (free_made (Times a b) t tt f)

free_through : (n i j a : ℕ) (star : Option ℕ) (b : ℕ) (t : Table) → IsFree t → IsFree (through n i j a star b t)
free_through n i j a None b t f = free_multiplied n i j a b t f
free_through n i j a (Some s) b t f = free_multiplied n i j (next n t) b (made (Times a s) t) (free_made (Times a s) t tt f)

-- a turn makes none
free_turned : (n : ℕ) (star : Option ℕ) (i j : ℕ) (t : Table) (left right : Option ℕ) → IsFree t → IsFree (turned n star i j t left right)
free_turned n star i j t None right f = f
free_turned n star i j t (Some a) None f = f
free_turned n star i j t (Some a) (Some b) f = free_through n i j a star b t f

free_choice : (c : Bool) (t u : Table) → IsFree t → IsFree u → IsFree (cond c t u)
free_choice true t u f g = f
free_choice false t u f g = g

free_turn : (n p : ℕ) (star : Option ℕ) (i j : ℕ) (t : Table) → IsFree t → IsFree (turn n p star i j t)
unfolding turn
free_turn n p star i j t f =
    free_choice (eqb i p || eqb j p) t (turned n star i j t (t.entry i p) (t.entry p j)) f (free_turned n star i j t (t.entry i p) (t.entry p j) f)

free_row : (n p : ℕ) (star : Option ℕ) (i j : ℕ) (t : Table) → IsFree t → IsFree (row n p star i j t)
unfolding row
free_row n p star i zero t f = f
free_row n p star i (suc j) t f = free_turn n p star i j (row n p star i j t) (free_row n p star i j t f)

free_rows : (n p : ℕ) (star : Option ℕ) (count i : ℕ) (t : Table) → IsFree t → IsFree (rows n p star count i t)
unfolding rows
free_rows n p star count zero t f = f
free_rows n p star count (suc i) t f = free_row n p star i count (rows n p star count i t) (free_rows n p star count i t f)

-- a pass of a node without a loop makes none
free_passed_by : (n count p : ℕ) (t : Table) (o : Option ℕ) → ((v : ℕ) → o ≡ Some v → ⊥) → IsFree t → IsFree (passed_by n count p t o)
free_passed_by n count p t None l f = free_rows n p None count count t f
free_passed_by n count p t (Some v) l f = absurd (l v refl)

-- an entry (p, p) with a value has a word
no_loop : (n p : ℕ) (t : Table) (M : ℕ → List ℕ → ℕ → Type 0) → Holds n None IsEmpty t M → ((w : List ℕ) → M p w p → ⊥) → (v : ℕ) → t.entry p p ≡ Some v → ⊥
no_loop n p t M h f v e =
    let s = some-word n t.steps h.names_lower (suc v) v (omega arith) (h.low p p v e) in
    f s.0 ((h.words p p s.0).0 ((has_some n t.steps (t.entry p p) v s.0 e).1 s.1))

-- nor does its elimination
free_eliminated : (n count p : ℕ) (t : Table) (M : ℕ → List ℕ → ℕ → Type 0) → Holds n None IsEmpty t M → ((w : List ℕ) → M p w p → ⊥) → IsFree t
    → IsFree (eliminated n count t p)
unfolding eliminated cleared passed
free_eliminated n count p t M h l f = free_passed_by n count p t (t.entry p p) (no_loop n p t M h l) f

-- where no path comes back, no elimination makes a star
free_fold : (n count : ℕ) (arcs : List Ends) → HasNoCycle arcs → ((k i j : ℕ) → IsArc arcs k i j → (i < count) × (j < count)) → (order : List ℕ) (G : ℕ → Type 0)
    (t : Table) → Differ order → ((q : ℕ) → IsAmong order q → G q → ⊥) → Holds n None IsEmpty t (Open arcs G) → IsFree t
    → IsFree (fold (eliminated n count) t order)
free_fold n count arcs c f [] G t d fresh h free = free
free_fold n count arcs c f (p ∷ ps) G t d fresh h free =
    free_fold n count arcs c f ps (Also G p) (eliminated n count t p) d.1 (rest_fresh G p ps d fresh)
    (holds-one n count arcs G p t f (fresh p (inl refl)) h)
    (free_eliminated n count p t (Open arcs G) h (λ w m. way-some arcs G m.2 (c p w (way-path arcs G m.2))) free)

-- arcs make none
free_taken : (n k : ℕ) (t : Table) (o : Option Ends) → IsFree t → IsFree (taken n k t o)
free_taken n k t None f = f
free_taken n k t (Some e) f = free_joined n e.tail e.head k t f

free_blank : IsFree blank
unfolding blank
free_blank k s e = absurd (cc)

free_entered : (arcs : List Ends) (k : ℕ) → IsFree (entered arcs k)
unfolding entered
free_entered arcs zero = free_blank
free_entered arcs (suc k) = free_taken (length arcs) k (entered arcs k) (slice_get arcs k) (free_entered arcs k)

-- no step of the finished table is a star where the graph has no cycle
pub no-star : (count : ℕ) (arcs : List Ends) (order : List ℕ) (start : ℕ) (targets : List ℕ) → FitsArcs count arcs order start targets → HasNoCycle arcs
    → HasNoStar (finished count arcs order).steps
unfolding finished
no-star count arcs order start targets fits c =
    free_fold (length arcs) count arcs c fits.arcs_below order Nowhere (entered arcs (length arcs)) fits.order_differs (λ q i g. g) (holds-begun arcs)
    (free_entered arcs (length arcs))
