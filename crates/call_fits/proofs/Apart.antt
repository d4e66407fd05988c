-- The variables to which parameters are handed back, one argument at a time.
use Rattle.std.proofs.Common.{◌≡◌, ℕ, ◌+◌, ◌<◌, ◌≤◌, ◌∙◌, sym, ap, refl, Bool, true, false, ◌||◌, ◌&&◌, not, List, [], length, drop, get_or, nat_eq}
use Rattle.std.specs.Prelude.{Option, Some, None, map, slice_get, filter_map}
use Rattle.std.specs.Cmp.Lexicographic.{pointwise}
use Rattle.std.specs.List.{list_any, cons_option}
use Rattle.il_core.specs.Tree.{tree_of}
use Rattle.il_core.specs.declared.statement.RawExpr.{RawExpr}
use Rattle.call_rules.specs.declared.parameters.Parameter.{Parameter}
use Rattle.call_rules.specs.Callee.{paired, pairings}
use Rattle.call_rules.specs.Calls.{back_to}
use Rattle.call_rules.specs.Fits.{are_apart}
use Rattle.call_rules.proofs.Paired.{trees_next, trees_end, pairings_next}
use Rattle.call_fits.specs.Apart.{names_left, is_same, stands_in}

names_next : (ps : List Parameter) (es : List RawExpr) (k : ℕ) (e : RawExpr) → k < length es → e ≡ get_or es k e
    → names_left ps es k ≡ cons_option (back_to (paired (slice_get ps k) (tree_of e))) (names_left ps es (k + 1))
names_next ps es k e h is =
    ap (λ ts. filter_map back_to (pairings (drop k ps) ts)) (trees_next es k e h is)
    ∙ ap (filter_map back_to) (pairings_next ps k (tree_of e) (map tree_of (drop (k + 1) es)))

pub names_end : (ps : List Parameter) (es : List RawExpr) (k : ℕ) → length es ≤ k → names_left ps es k ≡ []
names_end ps es k h = ap (λ ts. filter_map back_to (pairings (drop k ps) ts)) (trees_end es k h)

given_next : (name : List ℕ) (ps : List Parameter) (es : List RawExpr) (k : ℕ) (e : RawExpr) → k < length es → e ≡ get_or es k e
    → list_any (pointwise nat_eq name) (names_left ps es k)
    ≡ (is_same name (back_to (paired (slice_get ps k) (tree_of e))) || list_any (pointwise nat_eq name) (names_left ps es (k + 1)))
given_next name ps es k e h is = ap (list_any (pointwise nat_eq name)) (names_next ps es k e h is) ∙ by (back_to (paired (slice_get ps k) (tree_of e)))
  where
    by : (o : Option (List ℕ)) → list_any (pointwise nat_eq name) (cons_option o (names_left ps es (k + 1)))
        ≡ (is_same name o || list_any (pointwise nat_eq name) (names_left ps es (k + 1)))
    by None = refl
    by (Some n) = refl

-- an argument is the variable of the name
pub given_here : (name : List ℕ) (ps : List Parameter) (es : List RawExpr) (k : ℕ) (e : RawExpr) (b : Bool) → k < length es → e ≡ get_or es k e
    → b ≡ is_same name (back_to (paired (slice_get ps k) (tree_of e))) → b ≡ true → list_any (pointwise nat_eq name) (names_left ps es k) ≡ true
given_here name ps es k e b h is same met =
    given_next name ps es k e h is ∙ ap (λ t. t || list_any (pointwise nat_eq name) (names_left ps es (k + 1))) (sym same ∙ met)

-- it is another
pub given_later : (name : List ℕ) (ps : List Parameter) (es : List RawExpr) (k : ℕ) (e : RawExpr) (b : Bool) → k < length es → e ≡ get_or es k e
    → b ≡ is_same name (back_to (paired (slice_get ps k) (tree_of e))) → b ≡ false
    → list_any (pointwise nat_eq name) (names_left ps es (k + 1)) ≡ list_any (pointwise nat_eq name) (names_left ps es k)
given_later name ps es k e b h is same other =
    sym (given_next name ps es k e h is ∙ ap (λ t. t || list_any (pointwise nat_eq name) (names_left ps es (k + 1))) (sym same ∙ other))

apart_next : (ps : List Parameter) (es : List RawExpr) (k : ℕ) (e : RawExpr) → k < length es → e ≡ get_or es k e
    → are_apart (names_left ps es k)
    ≡ (not (stands_in (back_to (paired (slice_get ps k) (tree_of e))) (names_left ps es (k + 1))) && are_apart (names_left ps es (k + 1)))
apart_next ps es k e h is = ap are_apart (names_next ps es k e h is) ∙ by (back_to (paired (slice_get ps k) (tree_of e)))
  where
    by : (o : Option (List ℕ)) → are_apart (cons_option o (names_left ps es (k + 1))) ≡ (not (stands_in o (names_left ps es (k + 1))) && are_apart (names_left ps es (k + 1)))
    by None = refl
    by (Some n) = refl

-- a variable is given twice
pub not_apart : (ps : List Parameter) (es : List RawExpr) (k : ℕ) (e : RawExpr) (b : Bool) → k < length es → e ≡ get_or es k e
    → b ≡ stands_in (back_to (paired (slice_get ps k) (tree_of e))) (names_left ps es (k + 1)) → b ≡ true → are_apart (names_left ps es k) ≡ false
not_apart ps es k e b h is same met =
    apart_next ps es k e h is ∙ ap (λ t. not t && are_apart (names_left ps es (k + 1))) (sym same ∙ met)

pub apart_later : (ps : List Parameter) (es : List RawExpr) (k : ℕ) (e : RawExpr) (b : Bool) → k < length es → e ≡ get_or es k e
    → b ≡ stands_in (back_to (paired (slice_get ps k) (tree_of e))) (names_left ps es (k + 1)) → b ≡ false
    → are_apart (names_left ps es (k + 1)) ≡ are_apart (names_left ps es k)
apart_later ps es k e b h is same other =
    sym (apart_next ps es k e h is ∙ ap (λ t. not t && are_apart (names_left ps es (k + 1))) (sym same ∙ other))
