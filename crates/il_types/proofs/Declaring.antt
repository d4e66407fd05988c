-- Declarations of one statement behind a table, one at a time.
use Rattle.std.proofs.Common.{◌≡◌, ℕ, suc, ◌+◌, ◌<◌, ◌≤◌, ◌∙◌, sym, ap, subst, refl, true, false, ◌||◌, List, [], ◌∷◌, ◌++◌, length, drop, get_or, arith, if◌then◌else◌, append_assoc, append-nil}
use Rattle.std.specs.Prelude.{Option, Some, None, is_some}
use Rattle.std.proofs.Math.Seq.{drop-cons}
use Rattle.std.proofs.lemmas.List.{drop_all}
use Rattle.std.specs.Map.{lookup}
use Rattle.indexmap.specs.IndexMap.{IndexMap, insert_entry}
use Rattle.indexmap.proofs.CallerLemmas.{insert_entry-new}
use Rattle.il_types.specs.Names.{Key, Spot, Table, same_key, is_taken, first_taken, entries_from, IsDeclared}

-- the second of two look-ups that find nothing
pub second_none : (a b : Option Spot) → (is_some a || is_some b) ≡ false → b ≡ None
second_none a None e = refl
second_none None (Some s) e = cc
second_none (Some t) (Some s) e = cc

-- a name that is not taken goes last
pub grown : {S : Type 0} (m : IndexMap Key Spot S) (now after : Table) (k : Key) (v : Spot) → now ≡ m.entries → after ≡ insert_entry same_key m.entries k v
    → is_taken now k ≡ false → after ≡ now ++ (k, v) ∷ []
grown m now after k v e a t =
    let none : lookup (same_key k) m.entries ≡ None = ap (lookup (same_key k)) (sym e) ∙ second_none (lookup (same_key (0, k.1)) now) (lookup (same_key k) now) t in
    a ∙ insert_entry-new same_key m k v none ∙ ap (λ x. x ++ (k, v) ∷ []) (sym e)

-- the declarations `rest` behind `table` answer as `es` behind `before`
pub record IsFar (before es table rest : Table) : Type 0 where
  pub same : first_taken table rest ≡ first_taken before es
  pub whole : table ++ rest ≡ before ++ es

pub far_start : (before es : Table) → IsFar before es before es
far_start before es = record { same = refl; whole = refl }

pub far_cut : (before es table rest other : Table) → rest ≡ other → IsFar before es table rest → IsFar before es table other
far_cut before es table rest other e f = subst (λ (r : Table). IsFar before es table r) e f

-- the next name is taken
pub far_found : (before es table now rest : Table) (e : Key × Spot) → IsFar before es table (e ∷ rest) → is_taken table e.0 ≡ true → IsDeclared before now es (Some e.0.1)
far_found before es table now rest e f taken = (
  sym (ap (λ b. if b then Some e.0.1 else first_taken (table ++ e ∷ []) rest) taken) ∙ f.same,
  λ none. let clash : Some e.0.1 ≡ None = none in cc,
)

-- the next name is not taken
pub far_next : (before es table next rest : Table) (e : Key × Spot) → IsFar before es table (e ∷ rest) → is_taken table e.0 ≡ false → next ≡ table ++ e ∷ []
    → IsFar before es next rest
far_next before es table next rest e f free n = record {
  same = ap (λ t. first_taken t rest) n ∙ sym (ap (λ b. if b then Some e.0.1 else first_taken (table ++ e ∷ []) rest) free) ∙ f.same;
  whole = ap (λ t. t ++ rest) n ∙ append_assoc table (e ∷ []) rest ∙ f.whole;
}

-- no name is left
pub far_end : (before es table : Table) → IsFar before es table [] → IsDeclared before table es None
far_end before es table f = (f.same, λ none. sym (append-nil table) ∙ f.whole)

-- the others are declared
pub far_declared : (before es table rest now : Table) (o : Option (List ℕ)) → IsFar before es table rest → IsDeclared table now rest o → IsDeclared before now es o
far_declared before es table rest now o f d = (d.0 ∙ f.same, λ none. d.1 none ∙ f.whole)

-- the values of an enumeration from one on
pub next_value : (at k : ℕ) (values : List (List ℕ)) (v : List ℕ) → k < length values → v ≡ get_or values k v
    → entries_from 0 at (k + 1) (drop k values) ≡ ((0, v), (at, k + 1)) ∷ entries_from 0 at (k + 1 + 1) (drop (k + 1) values)
next_value at k values v h e =
    let later : suc k ≡ k + 1 = omega arith in
    let index : suc (k + 1) ≡ k + 1 + 1 = omega arith in
    ap (entries_from 0 at (k + 1)) (drop-cons values k v h)
    ∙ ap (λ n. ((0, n), (at, k + 1)) ∷ entries_from 0 at (suc (k + 1)) (drop (suc k) values)) (sym e)
    ∙ ap (λ j. ((0, v), (at, k + 1)) ∷ entries_from 0 at (suc (k + 1)) (drop j values)) later
    ∙ ap (λ j. ((0, v), (at, k + 1)) ∷ entries_from 0 at j (drop (k + 1) values)) index

pub no_value : (at k : ℕ) (values : List (List ℕ)) → length values ≤ k → entries_from 0 at (k + 1) (drop k values) ≡ []
no_value at k values h = ap (entries_from 0 at (k + 1)) (drop_all k values h)
