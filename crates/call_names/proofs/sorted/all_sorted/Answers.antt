use Rattle.std.proofs.Common.{ℕ, ◌∙◌, sym, ap, subst, List, ◌∷◌, [], ◌++◌, take}
use Rattle.std.specs.Prelude.{map}
use Rattle.std.specs.List.{AllZip}
use Rattle.std.proofs.lemmas.List.{map-append, take_more}
use Rattle.std.proofs.lemmas.List.Elements.{AllZip-push}
use Rattle.call_names.specs.Sorted.{names_of, AreSorted}
use Rattle.call_names.specs.declared.outline.Outline.{Outline}
use Rattle.call_names.specs.declared.outline.Variable.{Variable}
use Rattle.call_names.proofs.sorted.all_sorted.Goals as goal

pub loop-outline-preserved : goal.loop-outline-preserved
loop-outline-preserved c =
    let os = c.args.outlines.now in
    let i = c.loop-outline.outline-index in
    let o = c.outline-item.result in
    let own : Outline → List (List ℕ) = λ o. names_of o.variables in
    let more = ap (map own) (take_more os i o c.loop-outline-test.true ∙ ap (λ (x : Outline). take i os ++ x ∷ []) (sym c.outline-item.is)) ∙ map-append own (take i os) (o ∷ []) in
    let here : AreSorted (names_of o.variables) c.in_ok-names.names = subst (λ (vs : List Variable). AreSorted (names_of vs) c.in_ok-names.names) c.as_slice.ensures c.in_ok-names.ensures in
    subst (λ (ns : List (List (List ℕ))). AllZip AreSorted ns c.push.new.self.items) (sym more)
    (subst (λ (ns : List (List (List ℕ))). AllZip AreSorted (map own (take i os) ++ names_of o.variables ∷ []) ns) (sym c.in_ok-push.ensures.items)
    (AllZip-push AreSorted (map own (take i os)) c.loop-outline.all.items (names_of o.variables) c.in_ok-names.names c.loop-outline.invariant here))
