-- The variables of a procedure in the table of all declarations are those that its statements declare.
use Rattle.std.proofs.Common.{◌≡◌, ◌≢◌, ℕ, zero, suc, ◌+◌, ◌<◌, ◌≤◌, ◌∙◌, sym, ap, refl, Bool, true, false, ◌&&◌, ◌||◌, List, [], ◌∷◌, ◌++◌, length, take, arith, nat_eq, if◌then◌else◌, cond}
use Rattle.std.specs.Prelude.{Option, Some, None, is_some, map}
use Rattle.std.specs.Map.{lookup}
use Rattle.std.specs.Cmp.Lexicographic.{pointwise}
use Rattle.std.proofs.lemmas.List.{map-append, take_all}
use Rattle.std.proofs.lemmas.List.Folds.{list_any-append}
use Rattle.std.proofs.lemmas.List.Sums.{fold_more}
use Rattle.std.proofs.lemmas.Option.{get_or_from_slice_get}
use Rattle.il_core.specs.Statement.{Statement, Placed, variable}
use Rattle.il_types.specs.Names.{Key, Spot, Table, Front, one_more, same_key, declared_names, entries, entries_from, front_of, counts_at}
use Rattle.il_types.specs.Names as names
use Rattle.il_built.specs.CheckedText.{of_procedure}
use Rattle.il_built.specs.Holding.{setting_at}
use Rattle.call_rules.specs.Clash.{is_own_variable}
use Rattle.il_built.proofs.Given.{stands, given_by, given_next}
use Rattle.call_names.specs.Search.{is_among}
use Rattle.call_names.specs.Gathered.{declared_variable, variables_to}
use Rattle.call_names.specs.declared.outline.Variable.{Variable}

-- a look-up finds something in either part
found_in_either : (key : Key) (t e : Table) → is_some (lookup (same_key key) (t ++ e)) ≡ (is_some (lookup (same_key key) t) || is_some (lookup (same_key key) e))
found_in_either key [] e = refl
found_in_either key (x ∷ t) e = by (same_key key x.0) (found_in_either key t e)
  where
    by : (b : Bool) → is_some (lookup (same_key key) (t ++ e)) ≡ (is_some (lookup (same_key key) t) || is_some (lookup (same_key key) e))
        → is_some (cond b (Some x.1) (lookup (same_key key) (t ++ e))) ≡ (is_some (cond b (Some x.1) (lookup (same_key key) t)) || is_some (lookup (same_key key) e))
    by true h = refl
    by false h = h

-- no name of the whole text is a variable's
not_whole : (owner : ℕ) (name : List ℕ) (at index : ℕ) (names : List (List ℕ)) → owner ≢ 0 → is_some (lookup (same_key (owner, name)) (entries_from 0 at index names)) ≡ false
not_whole owner name at index [] some = refl
not_whole owner name at index (n ∷ names) some =
    ap (λ b. is_some (cond (b && pointwise nat_eq name n) (Some (at, index)) (lookup (same_key (owner, name)) (entries_from 0 at (suc index) names)))) (differs owner some)
    ∙ not_whole owner name at (suc index) names some
  where
    differs : (n : ℕ) → n ≢ 0 → nat_eq n 0 ≡ false
    differs n h = grind arith

abbrev at_spot : ℕ → Option Spot
at_spot at = Some (at, 0)

no_names : (b : Bool) (name : List ℕ) → false ≡ is_among (map (λ (v : Variable). v.name) (if b then [] else [])) name
no_names true name = refl
no_names false name = refl

abbrev names_in : List Variable → List (List ℕ)
names_in vs = map (λ (v : Variable). v.name) vs

-- what one statement declares
declared_here : (owner here at : ℕ) (name : List ℕ) (x : Statement) → owner ≢ 0
    → is_some (lookup (same_key (owner, name)) (entries here at x)) ≡ is_among (map (λ (v : Variable). v.name) (if nat_eq here owner then declared_variable x else [])) name
declared_here owner here at name (variable m n used) some =
    by (nat_eq here owner) (pointwise nat_eq name n) (swapped owner here)
  where
    swapped : (a b : ℕ) → nat_eq a b ≡ nat_eq b a
    swapped a b = grind arith

    kept : (b c : Bool) → pointwise nat_eq name n ≡ c → is_some (cond (b && c) (at_spot at) None) ≡ is_among (map (λ (v : Variable). v.name) (if b then declared_variable (variable m n used) else [])) name
    kept true true e = ap (λ d. d || false) (sym e)
    kept true false e = ap (λ d. d || false) (sym e)
    kept false c e = refl

    by : (b c : Bool) → nat_eq owner here ≡ b
        → is_some (cond (nat_eq owner here && pointwise nat_eq name n) (at_spot at) None) ≡ is_among (map (λ (v : Variable). v.name) (if b then declared_variable (variable m n used) else [])) name
    by b c e = ap (λ d. is_some (cond (d && pointwise nat_eq name n) (at_spot at) None)) e ∙ kept b (pointwise nat_eq name n) refl
declared_here owner here at name x some = not_whole owner name at 0 (declared_names x) some ∙ no_names (nat_eq here owner) name

-- a variable of a procedure is one of the names that it declares
owned_to : (stmts : List Placed) (owner n : ℕ) (name : List ℕ) → owner ≢ 0 → n ≤ length stmts
    → is_some (lookup (same_key (owner, name)) (front_of (take n stmts)).table) ≡ is_among (map (λ (v : Variable). v.name) (given_by (λ i x. declared_variable x) stmts owner n)) name
owned_to stmts owner zero name some h = refl
owned_to stmts owner (suc i) name some h =
    let x = stands stmts i (omega arith) in
    let inside : i < length stmts = omega arith in
    let n : suc i ≡ i + 1 = omega arith in
    let key : Key = (owner, name) in
    let t = (front_of (take i stmts)).table in
    let c = counts_at stmts i in
    let more : (front_of (take (suc i) stmts)).table ≡ t ++ entries c.procedures c.statements x.0.says =
    ap (λ k. (front_of (take k stmts)).table) n ∙ ap (λ (f : Front). f.table) (fold_more one_more _ stmts i x.0 inside)
    ∙ ap (λ (y : Placed). t ++ entries c.procedures c.statements y.says) (get_or_from_slice_get stmts i x.0 x.0 x.1) in
    let old = given_by (λ i x. declared_variable x) stmts owner i in
    let here : of_procedure (λ i x. declared_variable x) stmts owner i ≡ (if nat_eq c.procedures owner then declared_variable x.0.says else []) =
    ap (λ (o : Option Placed). elim o [ None ↦ [] | Some y ↦ (if nat_eq c.procedures owner then declared_variable y.says else []) ]) x.1 in
    let given : given_by (λ i x. declared_variable x) stmts owner (suc i) ≡ old ++ (if nat_eq c.procedures owner then declared_variable x.0.says else []) =
    given_next (λ i x. declared_variable x) stmts owner i ∙ ap (λ vs. old ++ vs) here in
    ap (λ (l : Table). is_some (lookup (same_key key) l)) more ∙ found_in_either key t (entries c.procedures c.statements x.0.says)
    ∙ ap (λ b. b || is_some (lookup (same_key key) (entries c.procedures c.statements x.0.says))) (owned_to stmts owner i name some (omega arith))
    ∙ ap (λ b. is_among (names_in old) name || b) (declared_here owner c.procedures c.statements name x.0.says some)
    ∙ sym (list_any-append (pointwise nat_eq name) (names_in old) (names_in (if nat_eq c.procedures owner then declared_variable x.0.says else [])))
    ∙ ap (λ ns. is_among ns name) (sym (map-append (λ (v : Variable). v.name) old (if nat_eq c.procedures owner then declared_variable x.0.says else [])))
    ∙ ap (λ (vs : List Variable). is_among (names_in vs) name) (sym given)

-- before all procedures nothing is a variable
pub none_owned : (stmts : List Placed) (i owner : ℕ) (name : List ℕ) → owner ≡ (counts_at stmts i).procedures → owner ≡ 0 → is_own_variable (setting_at stmts i) name ≡ false
none_owned stmts i owner name own none = ap (λ o. is_some (names.of_procedure (front_of stmts).table o name)) (sym own ∙ none)

-- an own variable is one of those that the procedure declares
pub owned : (stmts : List Placed) (i owner : ℕ) (name : List ℕ) → owner ≡ (counts_at stmts i).procedures → owner ≢ 0
    → is_own_variable (setting_at stmts i) name ≡ is_among (map (λ (v : Variable). v.name) (variables_to stmts owner)) name
owned stmts i owner name own some =
    let table = (front_of stmts).table in
    ap (λ o. is_some (names.of_procedure table o name)) (sym own)
    ∙ ap (λ b. is_some (cond b None (lookup (same_key (owner, name)) table))) (differs owner some)
    ∙ ap (λ (xs : List Placed). is_some (lookup (same_key (owner, name)) (front_of xs).table)) (sym (take_all (length stmts) stmts (omega arith)))
    ∙ owned_to stmts owner (length stmts) name some (omega arith)
  where
    differs : (n : ℕ) → n ≢ 0 → nat_eq n 0 ≡ false
    differs n h = grind arith
