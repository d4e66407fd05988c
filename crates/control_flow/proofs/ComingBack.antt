-- A closed walk comes back to its least line over lines that are not less.
use Rattle.std.proofs.Common.{◌≡◌, inl, inr, refl, ℕ, ◌<◌, ◌≤◌, Bool, List, [], ◌∷◌, ◌++◌, length, arith}
use Rattle.std.specs.Prelude.{◌↔◌}
use Rattle.std.proofs.lemmas.Bool.{cases_lt}
use Rattle.il_core.specs.LineGraph.{IsIn}
use Rattle.flow_graph.specs.Search.{IsWalk, IsFound, IsMarked, row_of}
use Rattle.flow_graph.proofs.Members.{IsIn-push_cases}
use Rattle.flow_graph.proofs.Spreading.{walk_on}
use Rattle.control_flow.specs.Forward.{AreRows, InRow, ComesBack}
use Rattle.control_flow.proofs.Listing.{not_both, unmarked_from}
use Rattle.control_flow.proofs.Walks.{arc_into, around}
use Rattle.control_flow.proofs.Ways.{way_found}

-- the least of some lines
record Least (lines : List ℕ) : Type 0 where
  m : ℕ
  inside : IsIn lines m
  least : (j : ℕ) → IsIn lines j → m ≤ j

least_of : (x : ℕ) (xs : List ℕ) → Least (x ∷ xs)
least_of x [] = record { m = x; inside = inl refl; least = λ j i. elim i [ inl e ↦ omega (arith, e) | inr n ↦ absurd n ] }
least_of x (y ∷ xs) = by_case (least_of y xs)
  where
    by_case : Least (y ∷ xs) → Least (x ∷ y ∷ xs)
    by_case l = elim (cases_lt x l.m) [
      | inl low ↦ record { m = x; inside = inl refl; least = λ j i. elim i [ inl e ↦ omega (arith, e) | inr h ↦ let k = l.least j h in omega (arith, k, low) ] }
      | inr high ↦ record { m = l.m; inside = inr l.inside; least = λ j i. elim i [ inl e ↦ omega (arith, e, high) | inr h ↦ l.least j h ] }
    ]

-- a walk and an arc back to its start
closed_by : (E : ℕ → ℕ → Type 0) (m : ℕ) (way : List ℕ) (u : ℕ) → IsWalk E m way u → E u m
    → (s : ℕ) × (l : List ℕ) × IsWalk E m (s ∷ l) m × ((j : ℕ) → IsIn (s ∷ l) j → IsIn (m ∷ way) j)
closed_by E m [] u w e = (m, [], (rw (← w) at e, refl), λ j i. i)
closed_by E m (d ∷ rest) u w e = (d, rest ++ m ∷ [], (w.0, walk_on E d rest u m w.1 e), inside)
  where
    inside : (j : ℕ) → IsIn (d ∷ (rest ++ m ∷ [])) j → IsIn (m ∷ d ∷ rest) j
    inside j (inl s) = inr (inl s)
    inside j (inr h) = elim (IsIn-push_cases rest m j h) [ inl old ↦ inr (inr old) | inr new ↦ inl new ]

-- a closed walk comes back to its least line
pub comes_back : (rows : List (List ℕ)) (a b : ℕ) (lines : List ℕ) → IsWalk (InRow rows) a (b ∷ lines) a → (m : ℕ) × (u : ℕ) × InRow rows u m × ComesBack rows m
comes_back rows a b lines w =
    let l = least_of a (b ∷ lines) in
    let u = arc_into (InRow rows) a b lines l.m w l.inside in
    let v = around (InRow rows) a (b ∷ lines) l.m u.0 w l.inside u.2 in
    let t = closed_by (InRow rows) l.m v.0 u.0 v.1 u.1 in
    (l.m, u.0, u.1, (t.0, t.1, t.2, λ j i. l.least j (v.2 j (t.3 j i))))

-- where no line is come back to, there is no closed walk
pub none_closed : (n : ℕ) (E : ℕ → ℕ → Type 0) (rows : List (List ℕ)) → AreRows n E rows → ((a b : ℕ) → E a b → b < n) → ((m : ℕ) → m < n → ComesBack rows m → ⊥)
    → (a b : ℕ) (lines : List ℕ) → IsWalk (InRow rows) a (b ∷ lines) a → ⊥
none_closed n E rows r low none a b lines w = let t = comes_back rows a b lines w in none t.0 (low t.1 t.0 ((r.exact t.1 t.0).0 t.2)) t.3

-- what a search from the row of a line finds where the lines below it are blocked
pub back_found : (rows : List (List ℕ)) (seeds : List ℕ) (blocked marks : List Bool) (a : ℕ) → seeds ≡ row_of rows a → blocked ≡ marks
    → ((k : ℕ) → IsMarked marks k ↔ ((0 ≤ k) × (k < a))) → IsFound rows blocked seeds a ↔ ComesBack rows a
back_found rows seeds blocked marks a is e m = rw (e, is) (there, back)
  where
    same : AreRows (length rows) (InRow rows) rows
    same = record { size = refl; exact = λ a b. (λ i. i, λ i. i) }

    there : IsFound rows marks (row_of rows a) a → ComesBack rows a
    there f =
        let w = (way_found (length rows) (InRow rows) rows marks (row_of rows a) a same).0 f in
        (w.seed, w.lines, (w.given, w.walk), λ j i. elim (cases_lt j a) [ inl low ↦ absurd (not_both marks j ((m j).1 (omega arith, low)) (w.each j i)) | inr high ↦ high ])

    back : ComesBack rows a → IsFound rows marks (row_of rows a) a
    back c = (way_found (length rows) (InRow rows) rows marks (row_of rows a) a same).1 (record {
      seed = c.0;
      lines = c.1;
      given = c.2.0;
      walk = c.2.1;
      each = λ j i. unmarked_from marks j (λ h. let p = (m j).0 h in let q = c.3 j i in absurd (omega (arith, p, q)));
    })
