-- The places of a procedure of a text without a fault: there are at most 64, each has a range, and the OLD copies of the INOUT variables
-- stand behind the variables in their order.
use Rattle.std.proofs.Common.{◌≡◌, ℕ, zero, suc, ◌+◌, ◌≤◌, ◌∙◌, sym, ap, subst, refl, inl, inr, Bool, true, false, List, [], ◌∷◌, ◌++◌, length, arith, append-nil, cond}
use Rattle.std.specs.Prelude.{Some, None, slice_get, filter, map}
use Rattle.std.specs.List.{All}
use Rattle.std.proofs.lemmas.Bool.{cases_eq}
use Rattle.std.proofs.lemmas.List.{length-append, length-map}
use Rattle.std.proofs.lemmas.List.Elements.{filter-append, All-nil, All-cons, All-append, All-filter, All-map, All-weaker, All-same, All-get_or, All-tail, All-head}
use Rattle.std.proofs.lemmas.Option.{get_or_from_slice_get, slice_get_within}
use Rattle.il_core.specs.Checked.{is_copied, old_copy, HasRange, AreInOrder}
use Rattle.il_core.specs.Run.{is_variable}
use Rattle.il_core.specs.Statement.{Statement, Placed, variable}
use Rattle.il_core.specs.declared.line.Place.{Place}
use Rattle.il_core.specs.declared.statement.Mode.{Mode}
use Rattle.il_core.specs.declared.statement.TypeUse.{TypeUse}
use Rattle.il_types.specs.Built.{place_of}
use Rattle.il_types.specs.Names.{counts_at}
use Rattle.il_types.specs.Rules.{Answers}
use Rattle.il_built.specs.CheckedText.{of_procedure, declared_place, variables_of, with_copies, places_of}
use Rattle.il_built.specs.Holding.{setting_at, Declares}
use Rattle.il_built.proofs.BuiltRanges.{place_has_range}
use Rattle.il_built.proofs.WithoutFault.{KeepsRules, keeps_rules, limited_at}
use Rattle.il_built.proofs.Given.{stands, given_next, given_here, not_given}
use Rattle.il_built.proofs.VariablesCounted.{variables_to, variables_counted, none_here}

-- the variables among the first statements, with their copies, are few
few_to : (stmts : List Placed) (owner i : ℕ) → KeepsRules stmts → i ≤ length stmts
    → length (variables_to stmts owner i) + length (filter is_copied (variables_to stmts owner i)) ≤ 64
few_to stmts owner zero keeps h = omega arith
few_to stmts owner (suc i) keeps h =
    let x = stands stmts i (omega arith) in
    let behind = counts_at stmts (suc i) in
    let after = variables_to stmts owner (suc i) in
    elim (cases_eq behind.procedures owner) [
      | inl own ↦
          let are = variables_counted stmts owner (suc i) h in
          let same = ap (λ n. n + behind.copies) (sym (are.variables own)) ∙ ap (λ n. length after + n) (sym (are.copies own)) in
          subst (λ n. n ≤ 64) same (limited_at stmts (suc i) keeps h).places
      | inr other ↦
          let e = none_here stmts owner i x.0 x.1 (inl other) in
          subst (λ (ps : List Place). length ps + length (filter is_copied ps) ≤ 64) (sym e) (few_to stmts owner i keeps (omega arith))
    ]

-- there are at most 64 places
pub places_few : (stmts : List Placed) (owner : ℕ) → Answers stmts None → length (places_of stmts owner) ≤ 64
places_few stmts owner a =
    let vs = variables_of stmts owner in
    let few = few_to stmts owner (length stmts) (keeps_rules stmts a) (omega arith) in
    let long : length (with_copies vs) ≡ length vs + length (filter is_copied vs) =
    length-append vs (map old_copy (filter is_copied vs)) ∙ ap (λ n. length vs + n) (length-map (filter is_copied vs) old_copy) in
    omega (arith, few, long)

-- what holds of the place of each variable that a text declares holds of those of a procedure
each_to : (P : Place → Type 0) (stmts : List Placed) (owner n : ℕ) → n ≤ length stmts
    → ((i : ℕ) (m : Mode) (name : List ℕ) (used : TypeUse) → Declares stmts i m name used → P (place_of (setting_at stmts i) (variable m name used)))
    → All P (variables_to stmts owner n)
each_to P stmts owner zero h f = All-nil P
each_to P stmts owner (suc i) h f =
    let give = λ (k : ℕ) (y : Statement). declared_place (setting_at stmts k) y in
    let x = stands stmts i (omega arith) in
    let before = each_to P stmts owner i (omega arith) f in
    let here : All P (of_procedure give stmts owner i) = elim (cases_eq (counts_at stmts i).procedures owner) [
      | inl own ↦ All-same P _ _ (given_here give stmts owner i x.0 x.1 own) (declared x.0.says (λ m name used e. f i m name used (record { stmt = x.0; there = x.1; says = e })))
      | inr other ↦ All-same P _ _ (not_given give stmts owner i x.0 x.1 other) (All-nil P)
    ] in
    All-same P _ _ (given_next give stmts owner i) (All-append P _ _ before here)
  where
    declared : (x : Statement) → ((m : Mode) (name : List ℕ) (used : TypeUse) → x ≡ variable m name used → P (place_of (setting_at stmts i) (variable m name used)))
        → All P (declared_place (setting_at stmts i) x)
    declared (variable m name used) g = All-cons P (place_of (setting_at stmts i) (variable m name used)) [] (g m name used refl) (All-nil P)
    declared _ g = All-nil P

-- what holds of all places holds of the place of a number
at_number : (P : Place → Type 0) (ps : List Place) (k : ℕ) (p : Place) → All P ps → slice_get ps k ≡ Some p → P p
at_number P ps k p all there = subst P (get_or_from_slice_get ps k p p there) (All-get_or P ps k p (slice_get_within ps k p there) all)

-- each place has a range
pub places_ranges : (stmts : List Placed) (owner : ℕ) → Answers stmts None → (k : ℕ) (place : Place) → slice_get (places_of stmts owner) k ≡ Some place → HasRange place
places_ranges stmts owner a k place there =
    let keeps = keeps_rules stmts a in
    let vs = variables_of stmts owner in
    let ranges : All HasRange vs = each_to HasRange stmts owner (length stmts) (omega arith) (λ i m name used d. place_has_range stmts i m name used keeps.typed keeps.filled d) in
    let copied : All HasRange (map old_copy (filter is_copied vs)) =
    All-map HasRange old_copy (filter is_copied vs) (All-filter is_copied (λ p. HasRange (old_copy p)) vs (All-weaker HasRange (λ p. HasRange (old_copy p)) same vs ranges)) in
    at_number HasRange (places_of stmts owner) k place (All-append HasRange vs (map old_copy (filter is_copied vs)) ranges copied) there
  where
    same : (p : Place) → HasRange p → HasRange (old_copy p)
    same p r = record { ordered = r.ordered; bits = r.bits }

-- a filter keeps all
all_kept : {A : Type 0} (test : A → Bool) (xs : List A) → All (λ x. test x ≡ true) xs → filter test xs ≡ xs
all_kept test [] h = refl
all_kept test (x ∷ xs) h =
    ap (λ b. cond b (x ∷ filter test xs) (filter test xs)) (All-head (λ y. test y ≡ true) x xs h)
    ∙ ap (λ ys. x ∷ ys) (all_kept test xs (All-tail (λ y. test y ≡ true) x xs h))

-- a filter keeps nothing
none_kept : {A : Type 0} (test : A → Bool) (xs : List A) → All (λ x. test x ≡ false) xs → filter test xs ≡ []
none_kept test [] h = refl
none_kept test (x ∷ xs) h =
    ap (λ b. cond b (x ∷ filter test xs) (filter test xs)) (All-head (λ y. test y ≡ false) x xs h)
    ∙ none_kept test xs (All-tail (λ y. test y ≡ false) x xs h)

-- the variables are the places that are no OLD copies
variables_are : (stmts : List Placed) (owner : ℕ) → filter is_variable (places_of stmts owner) ≡ variables_of stmts owner
variables_are stmts owner =
    let vs = variables_of stmts owner in
    let copies = filter is_copied vs in
    let plain : All (λ p. is_variable p ≡ true) vs = each_to (λ p. is_variable p ≡ true) stmts owner (length stmts) (omega arith) (λ i m name used d. refl) in
    let old : All (λ p. is_variable p ≡ false) (map old_copy copies) =
    All-map (λ p. is_variable p ≡ false) old_copy copies (λ k p h. refl) in
    filter-append is_variable vs (map old_copy copies) ∙ ap (λ ps. ps ++ filter is_variable (map old_copy copies)) (all_kept is_variable vs plain)
    ∙ ap (λ ps. vs ++ ps) (none_kept is_variable (map old_copy copies) old) ∙ append-nil vs

-- the places are the variables, and then the OLD copies of the INOUT ones
pub places_in_order : (stmts : List Placed) (owner : ℕ) → AreInOrder (places_of stmts owner)
places_in_order stmts owner = ap with_copies (sym (variables_are stmts owner))
