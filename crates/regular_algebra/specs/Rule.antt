-- The steps of an elimination: each entry (i, j) of a table has a value's number or none; arcs are entered in their
-- order, then each node of the order is passed through from every node that enters it to every node that it enters.
use Rattle.std.specs.Prelude.{ℕ, zero, suc, ◌+◌, ◌==◌, ◌&&◌, ◌||◌, if◌then◌else◌, Option, Some, None, List, [], ◌∷◌, ◌++◌, length, slice_get}
use Rattle.std.specs.List.{fold}
use Rattle.regular_algebra.specs.declared.steps.Ends.{Ends}
use Rattle.regular_algebra.specs.declared.steps.Step.{Step}
use Rattle.regular_algebra.specs.declared.steps.Step.TheVariants.{Plus, Times, Star}

pub record Table : Type 0 where
  pub entry : ℕ → ℕ → Option ℕ
  pub steps : List Step

unfoldable pub blank : Table
blank = record { entry = λ a b. None; steps = [] }

-- the number of the next value, where there are n arcs
abbrev pub next : ℕ → Table → ℕ
next n t = n + length t.steps

unfoldable pub made : Step → Table → Table
made s t = record { entry = t.entry; steps = t.steps ++ s ∷ [] }

unfoldable pub put : ℕ → ℕ → Option ℕ → Table → Table
put i j v t = record { entry = λ a b. if (a == i) && (b == j) then v else t.entry a b; steps = t.steps }

-- value v comes to entry (i, j): alone, or in a sum with the value that is there
abbrev pub joined_to : ℕ → ℕ → ℕ → ℕ → Table → Option ℕ → Table
joined_to n i j v t None = put i j (Some v) t
joined_to n i j v t (Some u) = put i j (Some (next n t)) (made (Plus u v) t)

unfoldable pub joined : ℕ → ℕ → ℕ → ℕ → Table → Table
joined n i j v t = joined_to n i j v t (t.entry i j)

-- the product of a and b comes to entry (i, j)
unfoldable pub multiplied : ℕ → ℕ → ℕ → ℕ → ℕ → Table → Table
multiplied n i j a b t = joined n i j (next n t) (made (Times a b) t)

-- with a star between a and b, a and the star are multiplied first
abbrev pub through : ℕ → ℕ → ℕ → ℕ → Option ℕ → ℕ → Table → Table
through n i j a None b t = multiplied n i j a b t
through n i j a (Some s) b t = multiplied n i j (next n t) b (made (Times a s) t)

abbrev pub turned : ℕ → Option ℕ → ℕ → ℕ → Table → Option ℕ → Option ℕ → Table
turned n star i j t None right = t
turned n star i j t (Some a) None = t
turned n star i j t (Some a) (Some b) = through n i j a star b t

unfoldable pub turn : ℕ → ℕ → Option ℕ → ℕ → ℕ → Table → Table
turn n p star i j t = if (i == p) || (j == p) then t else turned n star i j t (t.entry i p) (t.entry p j)

-- the turns from node i to each node below j
unfoldable pub row : ℕ → ℕ → Option ℕ → ℕ → ℕ → Table → Table
row n p star i zero t = t
row n p star i (suc j) t = turn n p star i j (row n p star i j t)

-- the turns from each node below i
unfoldable pub rows : ℕ → ℕ → Option ℕ → ℕ → ℕ → Table → Table
rows n p star count zero t = t
rows n p star count (suc i) t = row n p star i count (rows n p star count i t)

-- no entry of p has a value
unfoldable pub cleared : ℕ → Table → Table
cleared p t = record { entry = λ a b. if (a == p) || (b == p) then None else t.entry a b; steps = t.steps }

abbrev pub passed_by : ℕ → ℕ → ℕ → Table → Option ℕ → Table
passed_by n count p t None = rows n p None count count t
passed_by n count p t (Some v) = rows n p (Some (next n t)) count count (made (Star v) t)

unfoldable pub passed : ℕ → ℕ → ℕ → Table → Table
passed n count p t = passed_by n count p t (t.entry p p)

-- node p is eliminated
unfoldable pub eliminated : ℕ → ℕ → Table → ℕ → Table
eliminated n count t p = cleared p (passed n count p t)

abbrev pub taken : ℕ → ℕ → Table → Option Ends → Table
taken n k t None = t
taken n k t (Some e) = joined n e.tail e.head k t

-- the first k arcs are entered
unfoldable pub entered : List Ends → ℕ → Table
entered arcs zero = blank
entered arcs (suc k) = taken (length arcs) k (entered arcs k) (slice_get arcs k)

-- all arcs are entered, and each node of the order is eliminated
unfoldable pub finished : ℕ → List Ends → List ℕ → Table
finished count arcs order = fold (eliminated (length arcs) count) (entered arcs (length arcs)) order
