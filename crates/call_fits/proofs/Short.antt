-- The longest names of places, and of those that a call brings.
use Rattle.std.proofs.Common.{◌≡◌, ℕ, zero, suc, ◌+◌, ◌-◌, ◌∙◌, sym, ap, refl, Bool, true, false, ◌&&◌, List, [], ◌∷◌, ◌++◌, length, nat_le, arith, cond}
use Rattle.std.specs.Prelude.{Option, Some, None, map, codes, decimal, slice_get, filter}
use Rattle.std.specs.List.{list_all}
use Rattle.std.proofs.lemmas.List.{length-append}
use Rattle.std.proofs.lemmas.List.Folds.{list_all-append}
use Rattle.il_core.specs.Checked.{old_copy, is_copied}
use Rattle.il_core.specs.declared.line.Place.{Place}
use Rattle.il_called.specs.Expansion.{Callee, brought_name}
use Rattle.il_called.specs.Expansion as expansion
use Rattle.call_rules.specs.Fits.{is_short}
use Rattle.call_fits.specs.Longest.{are_short_behind, is_short_behind, IsLongest, AreLongest, front_length, with_front, longer, brought}

-- of two lengths the longer one tells
longer_two : (n a b : ℕ) → (nat_le (n + a) 40 && nat_le (n + b) 40) ≡ nat_le (n + cond (nat_le a b) b a) 40
longer_two n a b = by (nat_le a b) refl
  where
    by : (t : Bool) → nat_le a b ≡ t → (nat_le (n + a) 40 && nat_le (n + b) 40) ≡ nat_le (n + cond t b a) 40
    by true e = grind arith
    by false e = grind arith

and_true : (b : Bool) → (b && true) ≡ b
and_true true = refl
and_true false = refl

pub longer_is : (n : ℕ) (a b : Option ℕ) → is_short_behind n (longer a b) ≡ (is_short_behind n a && is_short_behind n b)
longer_is n None b = refl
longer_is n (Some a) None = sym (and_true (nat_le (n + a) 40))
longer_is n (Some a) (Some b) = sym (longer_two n a b)

-- bytes in front of the longest name
with_front_is : (n f a : ℕ) → nat_le (n + f + a) 40 ≡ nat_le (n + with_front f a) 40
with_front_is n f a = by (nat_le a 40) refl
  where
    by : (t : Bool) → nat_le a 40 ≡ t → nat_le (n + f + a) 40 ≡ nat_le (n + cond t (f + a) a) 40
    by true e = let s : n + f + a ≡ n + (f + a) = omega arith in ap (λ m. nat_le m 40) s
    by false e = grind arith

pub brought_is : (n f : ℕ) (o : Option ℕ) → is_short_behind (n + f) o ≡ is_short_behind n (brought f o)
brought_is n f None = refl
brought_is n f (Some a) = with_front_is n f a

-- the length of a new name
letter_length : (old : Bool) → length (cond old (codes "o") (codes "c")) ≡ 1
letter_length true = refl
letter_length false = refl

name_length : (k : ℕ) (p : Place) → length (brought_name k p) ≡ front_length k + length p.name
name_length k p =
    let letter = cond p.old (codes "o") (codes "c") in
    let a = length-append (letter ++ decimal k ++ codes "_") p.name in
    let b = length-append (letter ++ decimal k) (codes "_") in
    let d = length-append letter (decimal k) in
    let l = letter_length p.old in
    let u : length (codes "_") ≡ 1 = refl in
    omega (arith, a, b, d, l, u)

-- the places that a call brings, with bytes in front
pub behind_brought : (n k : ℕ) (ps : List Place) → are_short_behind n (map (expansion.brought k) ps) ≡ are_short_behind (n + front_length k) ps
behind_brought n k [] = refl
behind_brought n k (p ∷ ps) =
    let e = name_length k p in
    let s : n + length (brought_name k p) ≡ n + front_length k + length p.name = omega (arith, e) in
    ap (λ m. nat_le m 40 && are_short_behind n (map (expansion.brought k) ps)) s
    ∙ ap (λ b. nat_le (n + front_length k + length p.name) 40 && b) (behind_brought n k ps)

-- the new names themselves
pub names_brought : (k : ℕ) (ps : List Place) → list_all is_short (map (brought_name k) ps) ≡ are_short_behind (front_length k) ps
names_brought k [] = refl
names_brought k (p ∷ ps) =
    ap (λ m. nat_le m 40 && list_all is_short (map (brought_name k) ps)) (name_length k p)
    ∙ ap (λ b. nat_le (front_length k + length p.name) 40 && b) (names_brought k ps)

pub short_append : (n : ℕ) (ps qs : List Place) → are_short_behind n (ps ++ qs) ≡ (are_short_behind n ps && are_short_behind n qs)
short_append n ps qs = list_all-append (λ (p : Place). nat_le (n + length p.name) 40) ps qs

-- OLD copies have the names of their variables
pub copies_short : (n : ℕ) (vs : List Place) → are_short_behind n vs ≡ true → are_short_behind n (map old_copy (filter is_copied vs)) ≡ true
copies_short n [] h = refl
copies_short n (v ∷ vs) h = by (is_copied v) (nat_le (n + length v.name) 40) refl h (copies_short n vs)
  where
    none : {x : Bool} → false ≡ true → x ≡ true
    none e = cc

    by : (a b : Bool) → nat_le (n + length v.name) 40 ≡ b → (b && are_short_behind n vs) ≡ true
        → (are_short_behind n vs ≡ true → are_short_behind n (map old_copy (filter is_copied vs)) ≡ true)
        → are_short_behind n (map old_copy (cond a (v ∷ filter is_copied vs) (filter is_copied vs))) ≡ true
    by a false e h more = none h
    by true true e h more = ap (λ b. b && are_short_behind n (map old_copy (filter is_copied vs))) e ∙ more h
    by false true e h more = more h

-- one procedure more
pub longest_push : (cs : List Callee) (table : List (Option ℕ)) (it : Callee) (o : Option ℕ) → AreLongest cs table → IsLongest it.expanded.places o
    → AreLongest (cs ++ it ∷ []) (table ++ o ∷ [])
longest_push [] [] it o h g = (g, tt)
longest_push (c ∷ cs) (t ∷ ts) it o h g = (h.0, longest_push cs ts it o h.1 g)
longest_push [] (t ∷ ts) it o h g = absurd h
longest_push (c ∷ cs) [] it o h g = absurd h

-- what stands under a number
abbrev pub AgreesWith : Option Callee → Option (Option ℕ) → Type 0
AgreesWith None None = Unit {0}
AgreesWith None (Some o) = ⊥
AgreesWith (Some c) None = ⊥
AgreesWith (Some c) (Some o) = IsLongest c.expanded.places o

pub longest_at : (cs : List Callee) (table : List (Option ℕ)) (j : ℕ) → AreLongest cs table → AgreesWith (slice_get cs j) (slice_get table j)
longest_at [] [] zero h = tt
longest_at [] [] (suc j) h = tt
longest_at (c ∷ cs) (t ∷ ts) zero h = h.0
longest_at (c ∷ cs) (t ∷ ts) (suc j) h = longest_at cs ts j h.1
longest_at [] (t ∷ ts) j h = absurd h
longest_at (c ∷ cs) [] j h = absurd h

pub same_size : (cs : List Callee) (table : List (Option ℕ)) → AreLongest cs table → length table ≡ length cs
same_size [] [] h = refl
same_size (c ∷ cs) (t ∷ ts) h = ap suc (same_size cs ts h.1)
same_size [] (t ∷ ts) h = absurd h
same_size (c ∷ cs) [] h = absurd h
