-- First declarations: each name is found as among all declarations.
use Rattle.std.proofs.Common.{◌≡◌, ℕ, suc, ◌+◌, ◌<◌, ◌≤◌, ◌∙◌, sym, ap, subst, refl, Bool, true, false, ◌&&◌, cond, List, [], ◌∷◌, ◌++◌, length, take, get_or, arith, nat_eq, append_assoc}
use Rattle.std.specs.Prelude.{Option, Some, None, is_some}
use Rattle.std.specs.Cmp.Lexicographic.{same_text}
use Rattle.std.specs.Map.{lookup}
use Rattle.std.specs.Option.{option_or}
use Rattle.std.proofs.lemmas.List.{take_more, length-take-le}
use Rattle.indexmap.specs.IndexMap.{IndexMap, insert_entry}
use Rattle.indexmap.proofs.CallerLemmas.{insert_entry-new}
use Rattle.il_types.specs.Names.{Key, Spot, Table, same_key, entries_from, FindAlike, GoesOn}

both_true : (a b : Bool) → (a && b) ≡ true → (a ≡ true) × (b ≡ true)
both_true true b e = (refl, e)
both_true false b e = absurd (cc)

same_number : (a b : ℕ) → nat_eq a b ≡ true → a ≡ b
same_number a b e = grind arith

-- two keys that test alike are one
one_key : (a b : Key) → same_key a b ≡ true → a ≡ b
one_key a b e =
    let both = both_true _ _ e in
    ap (λ n. (n, a.1)) (same_number a.0 b.0 both.0) ∙ ap (λ l. (b.0, l)) (same_text a.1 b.1 (sym both.1))

-- what is found in one table or else in the other
lookup_either : (k : Key) (a b : Table) → lookup (same_key k) (a ++ b) ≡ option_or (lookup (same_key k) a) (lookup (same_key k) b)
lookup_either k [] b = refl
lookup_either k (x ∷ a) b = by (same_key k x.0) (lookup_either k a b)
  where
    by : (t : Bool) → lookup (same_key k) (a ++ b) ≡ option_or (lookup (same_key k) a) (lookup (same_key k) b)
        → cond t (Some x.1) (lookup (same_key k) (a ++ b)) ≡ option_or (cond t (Some x.1) (lookup (same_key k) a)) (lookup (same_key k) b)
    by true h = refl
    by false h = h

-- nothing is found, or something
pub absent : (o : Option Spot) → is_some o ≡ false → o ≡ None
absent None e = refl
absent (Some s) e = cc

pub present : (o : Option Spot) → is_some o ≡ true → (s : Spot) × (o ≡ Some s)
present None e = absurd (cc)
present (Some s) e = (s, refl)

-- a declaration goes last
pub pushed : (before table es : Table) → FindAlike before table → FindAlike (before ++ es) (table ++ es)
pushed before table es h k =
    lookup_either k before es ∙ ap (λ o. option_or o (lookup (same_key k) es)) (h k) ∙ sym (lookup_either k table es)

-- or there is one of that name
pub kept : (before table : Table) (e : Key × Spot) (s : Spot) → lookup (same_key e.0) before ≡ Some s → FindAlike before table → FindAlike before (table ++ e ∷ [])
kept before table e s found h k = by (lookup (same_key k) table) (same_key k e.0) refl refl ∙ sym (lookup_either k table (e ∷ []))
  where
    by : (o : Option Spot) (t : Bool) → lookup (same_key k) table ≡ o → same_key k e.0 ≡ t
        → lookup (same_key k) before ≡ option_or (lookup (same_key k) table) (cond (same_key k e.0) (Some e.1) None)
    by (Some r) t f g = h k ∙ f ∙ sym (ap (λ o. option_or o (cond (same_key k e.0) (Some e.1) None)) f)
    by None true f g =
        let is = one_key k e.0 g in
        let none : None ≡ Some s = sym f ∙ sym (h k) ∙ ap (λ (j : Key). lookup (same_key j) before) is ∙ found in
        absurd (cc)
    by None false f g = h k ∙ f ∙ sym (ap (λ o. option_or o (cond (same_key k e.0) (Some e.1) None)) f ∙ ap (λ b. cond b (Some e.1) None) g)

pub goes_kept : (before : Table) (e : Key × Spot) (s : Spot) → lookup (same_key e.0) before ≡ Some s → GoesOn before before (e ∷ [])
goes_kept before e s found table h = kept before table e s found h

pub goes_new : {S : Type 0} (m : IndexMap Key Spot S) (now after : Table) (k : Key) (v : Spot) → now ≡ m.entries → after ≡ insert_entry same_key m.entries k v
    → lookup (same_key k) now ≡ None → GoesOn now after ((k, v) ∷ [])
goes_new m now after k v e a none table h =
    let free : lookup (same_key k) m.entries ≡ None = ap (lookup (same_key k)) (sym e) ∙ none in
    let is : after ≡ now ++ (k, v) ∷ [] = a ∙ insert_entry-new same_key m k v free ∙ ap (λ x. x ++ (k, v) ∷ []) (sym e) in
    subst (λ t. FindAlike t (table ++ (k, v) ∷ [])) (sym is) (pushed now table ((k, v) ∷ []) h)

-- one after the other
pub goes_further : (before now after es fs : Table) → GoesOn before now es → GoesOn now after fs → GoesOn before after (es ++ fs)
goes_further before now after es fs f g table h =
    subst (λ t. FindAlike after t) (append_assoc table es fs) (g (table ++ es) (f table h))

-- the values of an enumeration, one more
entries_more : (at i : ℕ) (names : List (List ℕ)) (v : List ℕ) → entries_from 0 at i (names ++ v ∷ []) ≡ entries_from 0 at i names ++ ((0, v), (at, i + length names)) ∷ []
entries_more at i [] v = let e : i ≡ i + 0 = omega arith in ap (λ j. ((0, v), (at, j)) ∷ []) e
entries_more at i (n ∷ names) v =
    let e : suc i + length names ≡ i + suc (length names) = omega arith in
    ap (λ t. ((0, n), (at, i)) ∷ t) (entries_more at (suc i) names v ∙ ap (λ j. entries_from 0 at (suc i) names ++ ((0, v), (at, j)) ∷ []) e)

pub value_more : (at k : ℕ) (values : List (List ℕ)) (v : List ℕ) → k < length values → v ≡ get_or values k v
    → entries_from 0 at 1 (take (k + 1) values) ≡ entries_from 0 at 1 (take k values) ++ ((0, v), (at, k + 1)) ∷ []
value_more at k values v h e =
    let low : k ≤ length values = omega arith in
    let many : 1 + length (take k values) ≡ k + 1 = ap (λ n. 1 + n) (length-take-le k values low) ∙ omega arith in
    ap (entries_from 0 at 1) (take_more values k v h ∙ ap (λ n. take k values ++ n ∷ []) (sym e)) ∙ entries_more at 1 (take k values) v
    ∙ ap (λ j. entries_from 0 at 1 (take k values) ++ ((0, v), (at, j)) ∷ []) many
