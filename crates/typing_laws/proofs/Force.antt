-- The declaration that is found for a name is the one in force.
use Rattle.std.proofs.Common.{◌≡◌, ◌≢◌, ℕ, zero, suc, ◌<◌, ◌≤◌, ◌∙◌, sym, ap, subst, refl, inl, inr, Bool, true, false, List, length, arith, nat_eq, if◌then◌else◌}
use Rattle.std.specs.Prelude.{Option, Some, None, is_some, nat_lt}
use Rattle.std.specs.Option.{option_or}
use Rattle.std.specs.Map.{lookup}
use Rattle.std.proofs.lemmas.Bool.{cases_order}
use Rattle.std.proofs.lemmas.List.{take_all}
use Rattle.std.proofs.lemmas.Option.{slice_get_within}
use Rattle.il_core.specs.Statement.{Statement, Placed}
use Rattle.il_core.specs.Statement as st
use Rattle.il_types.specs.Names.{Key, Spot, Table, same_key, scope_of, front_of, earlier, of_procedure, in_force}
use Rattle.il_built.specs.Holding.{setting_at}
use Rattle.typing_laws.specs.Declared.{Says, IsShared, StandsIn, IsVariable, shared, beside_shared, beside_variable, DeclaredOnce, InForce, earlier_is, own_is, IsKnown}
use Rattle.typing_laws.specs.Laws.{ForceIsFound}
use Rattle.typing_laws.proofs.Standing.{count, placed_at, one_said, stands_in, stands_count, one_procedure, rises}
use Rattle.typing_laws.proofs.Entries.{table_to, found_made, made_found}
use Rattle.typing_laws.proofs.Declaring.{ArePlaced, names_are, shared_made, made_shared, variable_made, made_variable}

-- the table of the whole text
abbrev whole : List Placed → Table
whole stmts = (front_of stmts).table

whole_table : (stmts : List Placed) → table_to stmts (length stmts) ≡ whole stmts
whole_table stmts = ap (λ (xs : List Placed). (front_of xs).table) (take_all (length stmts) stmts (omega arith))

within : (stmts : List Placed) (j : ℕ) (x : Statement) → Says stmts j x → j < length stmts
within stmts j x h = let s = placed_at stmts j x h in slice_get_within stmts j s.0 s.1

found_shared : (stmts : List Placed) (name : List ℕ) (spot : Spot) → ArePlaced stmts → lookup (same_key (0, name)) (whole stmts) ≡ Some spot → IsShared stmts spot.0 spot.1 name
found_shared stmts name spot placed e =
    made_shared stmts (length stmts) name spot placed (found_made stmts (length stmts) (0, name) spot (ap (lookup (same_key (0, name))) (whole_table stmts) ∙ e))

-- a shared name is found, no later than where it is declared
record IsFound (stmts : List Placed) (key : Key) (j : ℕ) : Type 0 where
  spot : Spot
  found : lookup (same_key key) (whole stmts) ≡ Some spot
  early : spot.0 ≤ j

shared_found : (stmts : List Placed) (j k : ℕ) (name : List ℕ) → IsShared stmts j k name → IsFound stmts (0, name) j
shared_found stmts j k name s =
    let r = made_found stmts (length stmts) (0, name) (j, k) (shared_made stmts (length stmts) j k name s (within stmts j s.stmt s.says)) in
    record { spot = r.spot; found = sym (ap (lookup (same_key (0, name))) (whole_table stmts)) ∙ r.found; early = r.early }

variable_found : (stmts : List Placed) (p j : ℕ) (name : List ℕ) → IsVariable stmts p j name → IsFound stmts (count stmts j, name) j
variable_found stmts p j name v =
    let r = made_found stmts (length stmts) (count stmts j, name) (j, 0) (variable_made stmts (length stmts) p j name v (within stmts j (st.variable v.mode name v.type) v.says)) in
    record { spot = r.spot; found = sym (ap (lookup (same_key (count stmts j, name))) (whole_table stmts)) ∙ r.found; early = r.early }

-- the two ways of a look-up
in_procedure : (owner : ℕ) (name : List ℕ) (table : Table) (spot : Spot) → of_procedure table owner name ≡ Some spot → (owner ≢ 0) × (lookup (same_key (owner, name)) table ≡ Some spot)
in_procedure owner name table spot e = by (nat_eq owner 0) refl e
  where
    other : nat_eq owner 0 ≡ false → owner ≢ 0
    other h z = grind arith

    by : (t : Bool) → nat_eq owner 0 ≡ t → (if t then None else lookup (same_key (owner, name)) table) ≡ Some spot → (owner ≢ 0) × (lookup (same_key (owner, name)) table ≡ Some spot)
    by true h f = absurd (cc)
    by false h f = (other h, f)

of_its_procedure : (owner : ℕ) (name : List ℕ) (table : Table) → owner ≢ 0 → of_procedure table owner name ≡ lookup (same_key (owner, name)) table
of_its_procedure owner name table some = by (nat_eq owner 0) refl
  where
    is_zero : nat_eq owner 0 ≡ true → owner ≡ 0
    is_zero h = grind arith

    by : (t : Bool) → nat_eq owner 0 ≡ t → (if t then None else lookup (same_key (owner, name)) table) ≡ lookup (same_key (owner, name)) table
    by true h = absurd (some (is_zero h))
    by false h = refl

is_earlier : (at : ℕ) (o : Option Spot) (spot : Spot) → earlier at o ≡ Some spot → (o ≡ Some spot) × (spot.0 < at)
is_earlier at None spot e = absurd (cc)
is_earlier at (Some s) spot e = by (nat_lt s.0 at) refl e
  where
    below : nat_lt s.0 at ≡ true → s.0 < at
    below h = grind arith

    by : (t : Bool) → nat_lt s.0 at ≡ t → (if t then Some s else None) ≡ Some spot → (Some s ≡ Some spot) × (spot.0 < at)
    by true h f = let same : s ≡ spot = cc in (f, subst (λ (x : Spot). x.0 < at) same (below h))
    by false h f = absurd (cc)

found_earlier : (at : ℕ) (s : Spot) → s.0 < at → earlier at (Some s) ≡ Some s
found_earlier at s lt = by (nat_lt s.0 at) refl
  where
    above : nat_lt s.0 at ≡ false → ⊥
    above h = grind arith

    by : (t : Bool) → nat_lt s.0 at ≡ t → (if t then Some s else None) ≡ Some s
    by true h = refl
    by false h = absurd (above h)

-- what is found is in force
pub found_in_force : (stmts : List Placed) (i : ℕ) (name : List ℕ) (spot : Spot) → ArePlaced stmts → in_force (setting_at stmts i) name ≡ Some spot → InForce stmts i name spot.0 spot.1
found_in_force stmts i name spot placed e = by (of_procedure (whole stmts) (count stmts i) name) refl e
  where
    by : (o : Option Spot) → of_procedure (whole stmts) (count stmts i) name ≡ o → option_or o (earlier i (lookup (same_key (0, name)) (whole stmts))) ≡ Some spot
        → InForce stmts i name spot.0 spot.1
    by None h f = let r = is_earlier i (lookup (same_key (0, name)) (whole stmts)) spot f in earlier_is spot.0 spot.1 (found_shared stmts name spot placed r.0) r.1
    by (Some s) h f =
        let r = in_procedure (count stmts i) name (whole stmts) spot (h ∙ f) in
        let m = found_made stmts (length stmts) (count stmts i, name) spot (ap (lookup (same_key (count stmts i, name))) (whole_table stmts) ∙ r.1) in
        let v = made_variable stmts (length stmts) (count stmts i) name spot r.0 m in
        let here = stands_in stmts i r.0 in
        let same : v.procedure ≡ here.0 = one_procedure stmts v.procedure here.0 spot.0 i v.variable.stands here.1 v.owner_is in
        subst (λ k. InForce stmts i name spot.0 k) (sym v.alone) (own_is here.0 spot.0 here.1 (subst (λ q. IsVariable stmts q spot.0 name) same v.variable))

-- where one is in force, one is found
pub in_force_found : (stmts : List Placed) (i j k : ℕ) (name : List ℕ) → InForce stmts i name j k → (spot : Spot) × (in_force (setting_at stmts i) name ≡ Some spot)
in_force_found stmts i j k name (earlier_is a b s lt) =
    let f = shared_found stmts a b name s in
    let early = f.early in
    let e : earlier i (lookup (same_key (0, name)) (whole stmts)) ≡ Some f.spot = ap (earlier i) f.found ∙ found_earlier i f.spot (omega arith) in
    either (of_procedure (whole stmts) (count stmts i) name) (earlier i (lookup (same_key (0, name)) (whole stmts))) f.spot e
  where
    either : (o p : Option Spot) (spot : Spot) → p ≡ Some spot → (s : Spot) × (option_or o p ≡ Some s)
    either None p spot e = (spot, e)
    either (Some s) p spot e = (s, refl)
in_force_found stmts i j k name (own_is p a s v) =
    let c = stands_count stmts p i s in
    let some : count stmts i ≢ 0 = λ z. omega arith in
    let counts : count stmts a ≡ count stmts i = stands_count stmts p a v.stands ∙ sym c in
    let f = variable_found stmts p a name v in
    let found : lookup (same_key (count stmts i, name)) (whole stmts) ≡ Some f.spot = ap (λ n. lookup (same_key (n, name)) (whole stmts)) (sym counts) ∙ f.found in
    (f.spot, ap (λ o. option_or o (earlier i (lookup (same_key (0, name)) (whole stmts)))) (of_its_procedure (count stmts i) name (whole stmts) some ∙ found))

-- names that are declared once have one declaration in force
record IsOne (j k a b : ℕ) : Type 0 where
  statement : j ≡ a
  index : k ≡ b

one_shared : (stmts : List Placed) (j k a b : ℕ) (name : List ℕ) → DeclaredOnce stmts → IsShared stmts j k name → IsShared stmts a b name → IsOne j k a b
one_shared stmts j k a b name once s t = elim (cases_order j a) [
  | inl e ↦ elim (cases_order k b) [
    | inl f ↦ record { statement = e; index = f }
    | inr (inl lt) ↦ absurd (once a b name (shared j b k name t s (inr (e, lt))))
    | inr (inr gt) ↦ absurd (once j k name (shared a k b name s t (inr (sym e, gt))))
  ]
  | inr (inl lt) ↦ absurd (once a b name (shared j b k name t s (inl lt)))
  | inr (inr gt) ↦ absurd (once j k name (shared a k b name s t (inl gt)))
]

pub one_variable : (stmts : List Placed) (p j a : ℕ) (name : List ℕ) → DeclaredOnce stmts → IsVariable stmts p j name → IsVariable stmts p a name → j ≡ a
one_variable stmts p j a name once v w = elim (cases_order j a) [
  | inl e ↦ e
  | inr (inl lt) ↦ absurd (once a 0 name (beside_variable p j name w v lt))
  | inr (inr gt) ↦ absurd (once j 0 name (beside_variable p a name v w gt))
]

-- no name of a variable is a shared one of an earlier statement
never_both : (stmts : List Placed) (i j k p a : ℕ) (name : List ℕ) → ArePlaced stmts → DeclaredOnce stmts → IsShared stmts j k name → j < i → StandsIn stmts p i → IsVariable stmts p a name → ⊥
never_both stmts i j k p a name placed once s lt stands v = elim (cases_order a j) [
  | inl e ↦
      let there : Says stmts j (st.variable v.mode name v.type) = subst (λ n. Says stmts n (st.variable v.mode name v.type)) e v.says in
      let same = one_said stmts j s.stmt (st.variable v.mode name v.type) s.says there in
      let is = names_are s.stmt k name s.names in
      apart (sym (ap (λ x. scope_of 1 x) same) ∙ is.scope 1)
  | inr (inl less) ↦
      let begins = v.stands.before in
      elim (placed.first j k name s) [
        | inl b ↦ stands.latest j (omega arith) lt b
        | inr none ↦
            let c = stands_count stmts p a v.stands in
            let r = rises stmts a j (omega arith) in omega arith
      ]
  | inr (inr more) ↦ once a 0 name (beside_shared p j k name v s more)
]
  where
    apart : suc zero ≡ zero → ⊥
    apart h = omega arith

one_in_force : (stmts : List Placed) (i j k a b : ℕ) (name : List ℕ) → ArePlaced stmts → DeclaredOnce stmts → InForce stmts i name j k → InForce stmts i name a b → IsOne j k a b
one_in_force stmts i j k a b name placed once (earlier_is c d s lt) (earlier_is e f t le) = one_shared stmts c d e f name once s t
one_in_force stmts i j k a b name placed once (earlier_is c d s lt) (own_is p e stands v) = absurd (never_both stmts i c d p e name placed once s lt stands v)
one_in_force stmts i j k a b name placed once (own_is p e stands v) (earlier_is c d s lt) = absurd (never_both stmts i c d p e name placed once s lt stands v)
one_in_force stmts i j k a b name placed once (own_is p c stands v) (own_is q e standing w) =
    let same : q ≡ p = one_procedure stmts q p i i standing stands refl in
    record { statement = one_variable stmts p c e name once v (subst (λ r. IsVariable stmts r e name) same w); index = refl }

pub found_exactly : (stmts : List Placed) (i j k : ℕ) (name : List ℕ) → ArePlaced stmts → DeclaredOnce stmts → InForce stmts i name j k → in_force (setting_at stmts i) name ≡ Some (j, k)
found_exactly stmts i j k name placed once f =
    let r = in_force_found stmts i j k name f in
    let o = one_in_force stmts i r.0.0 r.0.1 j k name placed once (found_in_force stmts i name r.0 placed r.1) f in
    r.1 ∙ ap (λ n. Some (n, r.0.1)) o.statement ∙ ap (λ n. Some (j, n)) o.index

pub force_found : (stmts : List Placed) (i : ℕ) (name : List ℕ) → ArePlaced stmts → ForceIsFound stmts i name
force_found stmts i name placed = record {
  known = (
    λ e. by (in_force (setting_at stmts i) name) refl e,
    λ k. let r = in_force_found stmts i k.at k.index name k.force in ap is_some r.1,
  );
  found = λ once j k. (
    λ e. found_in_force stmts i name (j, k) placed e,
    λ f. found_exactly stmts i j k name placed once f,
  );
}
  where
    by : (o : Option Spot) → in_force (setting_at stmts i) name ≡ o → is_some o ≡ true → IsKnown stmts i name
    by None e h = absurd (cc)
    by (Some s) e h = record { at = s.0; index = s.1; force = found_in_force stmts i name s placed e }
