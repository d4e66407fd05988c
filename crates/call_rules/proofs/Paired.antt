-- Arguments with their parameters, one at a time.
use Rattle.std.proofs.Common.{◌≡◌, ℕ, zero, suc, ◌+◌, ◌<◌, ◌≤◌, ◌∙◌, sym, ap, refl, Bool, true, false, ◌&&◌, List, [], ◌∷◌, length, drop, get_or, arith}
use Rattle.std.specs.Prelude.{Some, None, is_some, map, slice_get}
use Rattle.std.specs.List.{list_all}
use Rattle.std.specs.Option.{option_or}
use Rattle.std.proofs.Math.Seq.{drop-cons}
use Rattle.std.proofs.lemmas.List.{drop_all}
use Rattle.il_core.specs.Tree.{Tree, tree_of}
use Rattle.il_core.specs.declared.statement.RawExpr.{RawExpr}
use Rattle.il_types.specs.Names.{Setting}
use Rattle.il_types.specs.Narrow.{static_bounds}
use Rattle.il_types.specs.Unknown.{unknown_in}
use Rattle.call_rules.specs.declared.parameters.Parameter.{Parameter}
use Rattle.call_rules.specs.Callee.{Pairing, paired, pairings}
use Rattle.call_rules.specs.Calls.{first_unknown, is_narrow_call}

pub trees_next : (es : List RawExpr) (k : ℕ) (e : RawExpr) → k < length es → e ≡ get_or es k e → map tree_of (drop k es) ≡ tree_of e ∷ map tree_of (drop (k + 1) es)
trees_next es k e h is =
    let later : suc k ≡ k + 1 = omega arith in
    ap (map tree_of) (drop-cons es k e h) ∙ ap (λ x. tree_of x ∷ map tree_of (drop (suc k) es)) (sym is) ∙ ap (λ j. tree_of e ∷ map tree_of (drop j es)) later

pub trees_end : (es : List RawExpr) (k : ℕ) → length es ≤ k → map tree_of (drop k es) ≡ []
trees_end es k h = ap (map tree_of) (drop_all k es h)

-- the first parameter that is left
first_left : (ps : List Parameter) (k : ℕ) → slice_get (drop k ps) 0 ≡ slice_get ps k
first_left [] zero = refl
first_left [] (suc k) = refl
first_left (p ∷ ps) zero = refl
first_left (p ∷ ps) (suc k) = first_left ps k

one_less : (ps : List Parameter) (k : ℕ) → drop 1 (drop k ps) ≡ drop (suc k) ps
one_less [] zero = refl
one_less [] (suc k) = refl
one_less (p ∷ ps) zero = refl
one_less (p ∷ ps) (suc k) = one_less ps k

-- the first argument has the first parameter
first_paired : (ps : List Parameter) (t : Tree) (ts : List Tree) → pairings ps (t ∷ ts) ≡ paired (slice_get ps 0) t ∷ pairings (drop 1 ps) ts
first_paired [] t ts = refl
first_paired (p ∷ ps) t ts = refl

pub pairings_next : (ps : List Parameter) (k : ℕ) (t : Tree) (ts : List Tree) → pairings (drop k ps) (t ∷ ts) ≡ paired (slice_get ps k) t ∷ pairings (drop (k + 1) ps) ts
pairings_next ps k t ts =
    let later : suc k ≡ k + 1 = omega arith in
    first_paired (drop k ps) t ts
    ∙ ap (λ p. paired p t ∷ pairings (drop 1 (drop k ps)) ts) (first_left ps k)
    ∙ ap (λ qs. paired (slice_get ps k) t ∷ pairings qs ts) (one_less ps k ∙ ap (λ j. drop j ps) later)

-- a test of an argument and those behind it
pub all_next : (f : Pairing → Bool) (ps : List Parameter) (es : List RawExpr) (k : ℕ) (e : RawExpr) → k < length es → e ≡ get_or es k e
    → list_all f (pairings (drop k ps) (map tree_of (drop k es)))
    ≡ (f (paired (slice_get ps k) (tree_of e)) && list_all f (pairings (drop (k + 1) ps) (map tree_of (drop (k + 1) es))))
all_next f ps es k e h is =
    ap (λ ts. list_all f (pairings (drop k ps) ts)) (trees_next es k e h is)
    ∙ ap (list_all f) (pairings_next ps k (tree_of e) (map tree_of (drop (k + 1) es)))

pub all_end : (f : Pairing → Bool) (ps : List Parameter) (es : List RawExpr) (k : ℕ) → length es ≤ k
    → list_all f (pairings (drop k ps) (map tree_of (drop k es))) ≡ true
all_end f ps es k h = ap (λ ts. list_all f (pairings (drop k ps) ts)) (trees_end es k h)

-- an argument passes: what is left to be tested
pub all_kept : (f : Pairing → Bool) (ps : List Parameter) (es : List RawExpr) (k : ℕ) (e : RawExpr) (b : Bool) → k < length es → e ≡ get_or es k e
    → b ≡ f (paired (slice_get ps k) (tree_of e)) → b ≡ true
    → list_all f (pairings (drop (k + 1) ps) (map tree_of (drop (k + 1) es))) ≡ list_all f (pairings (drop k ps) (map tree_of (drop k es)))
all_kept f ps es k e b h is same kept =
    sym (all_next f ps es k e h is ∙ ap (λ t. t && list_all f (pairings (drop (k + 1) ps) (map tree_of (drop (k + 1) es)))) (sym same ∙ kept))

-- an argument fails
pub all_lost : (f : Pairing → Bool) (ps : List Parameter) (es : List RawExpr) (k : ℕ) (e : RawExpr) (b : Bool) → k < length es → e ≡ get_or es k e
    → b ≡ f (paired (slice_get ps k) (tree_of e)) → b ≡ false → list_all f (pairings (drop k ps) (map tree_of (drop k es))) ≡ false
all_lost f ps es k e b h is same lost =
    all_next f ps es k e h is ∙ ap (λ t. t && list_all f (pairings (drop (k + 1) ps) (map tree_of (drop (k + 1) es)))) (sym same ∙ lost)

-- the first unknown name
unknown_next : (s : Setting) (es : List RawExpr) (k : ℕ) (e : RawExpr) → k < length es → e ≡ get_or es k e
    → first_unknown s (map tree_of (drop k es)) ≡ option_or (unknown_in s (tree_of e)) (first_unknown s (map tree_of (drop (k + 1) es)))
unknown_next s es k e h is = ap (first_unknown s) (trees_next es k e h is)

pub unknown_here : (s : Setting) (es : List RawExpr) (k : ℕ) (e : RawExpr) (name : List ℕ) → k < length es → e ≡ get_or es k e → unknown_in s (tree_of e) ≡ Some name
    → first_unknown s (map tree_of (drop k es)) ≡ Some name
unknown_here s es k e name h is found = unknown_next s es k e h is ∙ ap (λ o. option_or o (first_unknown s (map tree_of (drop (k + 1) es)))) found

pub unknown_later : (s : Setting) (es : List RawExpr) (k : ℕ) (e : RawExpr) → k < length es → e ≡ get_or es k e → unknown_in s (tree_of e) ≡ None
    → first_unknown s (map tree_of (drop (k + 1) es)) ≡ first_unknown s (map tree_of (drop k es))
unknown_later s es k e h is none = sym (unknown_next s es k e h is ∙ ap (λ o. option_or o (first_unknown s (map tree_of (drop (k + 1) es)))) none)

pub unknown_end : (s : Setting) (es : List RawExpr) (k : ℕ) → length es ≤ k → first_unknown s (map tree_of (drop k es)) ≡ None
unknown_end s es k h = ap (first_unknown s) (trees_end es k h)

-- bounds of arguments
narrow_next : (s : Setting) (es : List RawExpr) (k : ℕ) (e : RawExpr) → k < length es → e ≡ get_or es k e
    → is_narrow_call s (map tree_of (drop k es)) ≡ (is_some (static_bounds s (tree_of e)) && is_narrow_call s (map tree_of (drop (k + 1) es)))
narrow_next s es k e h is = ap (is_narrow_call s) (trees_next es k e h is)

pub narrow_lost : (s : Setting) (es : List RawExpr) (k : ℕ) (e : RawExpr) → k < length es → e ≡ get_or es k e → is_some (static_bounds s (tree_of e)) ≡ false
    → is_narrow_call s (map tree_of (drop k es)) ≡ false
narrow_lost s es k e h is wide = narrow_next s es k e h is ∙ ap (λ b. b && is_narrow_call s (map tree_of (drop (k + 1) es))) wide

pub narrow_kept : (s : Setting) (es : List RawExpr) (k : ℕ) (e : RawExpr) → k < length es → e ≡ get_or es k e → is_some (static_bounds s (tree_of e)) ≡ true
    → is_narrow_call s (map tree_of (drop (k + 1) es)) ≡ is_narrow_call s (map tree_of (drop k es))
narrow_kept s es k e h is small = sym (narrow_next s es k e h is ∙ ap (λ b. b && is_narrow_call s (map tree_of (drop (k + 1) es))) small)

pub narrow_end : (s : Setting) (es : List RawExpr) (k : ℕ) → length es ≤ k → is_narrow_call s (map tree_of (drop k es)) ≡ true
narrow_end s es k h = ap (is_narrow_call s) (trees_end es k h)
