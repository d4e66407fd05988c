-- What the arguments of a call give, one at a time.
use Rattle.std.proofs.Common.{◌≡◌, ℕ, ◌+◌, ◌<◌, ◌≤◌, ◌∙◌, sym, ap, List, [], ◌∷◌, ◌++◌, length, drop, get_or, append-nil, append_assoc}
use Rattle.std.specs.Prelude.{map, slice_get}
use Rattle.std.proofs.lemmas.List.{map-append}
use Rattle.il_core.specs.Tree.{tree_of}
use Rattle.il_core.specs.declared.statement.RawExpr.{RawExpr}
use Rattle.il_types.specs.Names.{Setting}
use Rattle.il_called.specs.Called.{Passed, passed_of}
use Rattle.il_called.specs.declared.called.Argument.{Argument}
use Rattle.call_rules.specs.declared.parameters.Parameter.{Parameter}
use Rattle.call_rules.specs.Callee.{paired, pairings}
use Rattle.call_rules.specs.CalledText.{passed}
use Rattle.call_rules.proofs.Paired.{trees_next, trees_end, pairings_next}

-- what the arguments from number k on give
abbrev pub left : Setting → List Parameter → List RawExpr → ℕ → List Passed
left s ps es k = map (passed s) (pairings (drop k ps) (map tree_of (drop k es)))

left_next : (s : Setting) (ps : List Parameter) (es : List RawExpr) (k : ℕ) (e : RawExpr) → k < length es → e ≡ get_or es k e
    → left s ps es k ≡ passed s (paired (slice_get ps k) (tree_of e)) ∷ left s ps es (k + 1)
left_next s ps es k e h is =
    ap (λ ts. map (passed s) (pairings (drop k ps) ts)) (trees_next es k e h is)
    ∙ ap (map (passed s)) (pairings_next ps k (tree_of e) (map tree_of (drop (k + 1) es)))

-- one argument more
pub passed_next : (s : Setting) (ps : List Parameter) (es : List RawExpr) (k : ℕ) (e : RawExpr) (old new : List Argument) (a : Argument) (all : List Passed)
    → k < length es → e ≡ get_or es k e → passed_of a ≡ passed s (paired (slice_get ps k) (tree_of e)) → new ≡ old ++ a ∷ []
    → map passed_of old ++ left s ps es k ≡ all → map passed_of new ++ left s ps es (k + 1) ≡ all
passed_next s ps es k e old new a all h is gives grown so =
    let later = left s ps es (k + 1) in
    ap (λ gs. map passed_of gs ++ later) grown
    ∙ ap (λ gs. gs ++ later) (map-append passed_of old (a ∷ []))
    ∙ append_assoc (map passed_of old) (passed_of a ∷ []) later
    ∙ ap (λ g. map passed_of old ++ g ∷ later) gives
    ∙ sym (ap (λ gs. map passed_of old ++ gs) (left_next s ps es k e h is))
    ∙ so

-- behind the last argument
pub passed_all : (s : Setting) (ps : List Parameter) (es : List RawExpr) (k : ℕ) (given : List Argument) (all : List Passed) → length es ≤ k
    → map passed_of given ++ left s ps es k ≡ all → map passed_of given ≡ all
passed_all s ps es k given all h so =
    sym (append-nil (map passed_of given))
    ∙ sym (ap (λ ts. map passed_of given ++ map (passed s) (pairings (drop k ps) ts)) (trees_end es k h))
    ∙ so
