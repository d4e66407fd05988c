use Rattle.std.proofs.Common.{◌≡◌, refl, sym, ap, ◌∙◌, subst, ℕ, List, [], map, length, All, arith}
use Rattle.std.proofs.lemmas.Option.{none-some}
use Rattle.sym_terms.specs.Identity.{own_values}
use Rattle.sym_terms.specs.Nodes.{terms_of}
use Rattle.sym_simplify.specs.Literal.{literal_form_of}
use Rattle.sym_simplify.specs.Easy.{IsKept}
use Rattle.sym_simplify.specs.Places.{HasLiteralPlacesBelow}
use Rattle.sym_simplify.specs.declared.normal.LitForm.{LitForm}
use Rattle.sym_terms.specs.declared.node.TermNode.{TermNode}
use Rattle.test_graph.specs.Decision.{decision_at}
use Rattle.test_graph.proofs.Speaking.{decides-below}
use Rattle.region_paths.specs.PathTree.{paths_down}
use Rattle.semantic_tables.specs.Fit.{HasSoundLiterals}
use Rattle.semantic_tables.specs.Hazards.{HasLeast}
use Rattle.semantic_tables.specs.Walk.{explored_procedure, tree_from, StaysSmall, AreForms, IsPrefix, IsSamePrefix, prefix_forms, LeftOut, AreSound, Adds, nothing}
use Rattle.semantic_tables.specs.declared.row.Row.{Row}
use Rattle.semantic_tables.specs.declared.hazard.Hazard.{Hazard}
use Rattle.semantic_tables.specs.declared.walking.Found.{Found}
use Rattle.semantic_tables.specs.declared.prefix.Sides.{Sides}
use Rattle.semantic_tables.specs.declared.prefix.Prefix.{Prefix}
use Rattle.semantic_tables.specs.declared.segment.Segment.TheVariants.{Region}
use Rattle.semantic_tables.proofs.Kept.{adds_none}
use Rattle.semantic_tables.proofs.Refuted.{forms_of_same}
use Rattle.semantic_tables.proofs.Walks.{adds_as, out_stays, if_true, if_false}
use Rattle.semantic_tables.proofs.making.found_in.Goals.{then-branch+in_ok-walk, else-branch}
use Rattle.semantic_tables.proofs.making.found_in.Goals as goal

pub walk-requires-clause-stands : goal.walk-requires-clause-stands
walk-requires-clause-stands c =
    let g = c.args.exploration in
    let p = explored_procedure g in
    let count : c.len-places.result ≡ length g.proc.now.places = c.len-places.ensures ∙ ap length c.places.ensures.value in
    let own : terms_of c.own_terms.new.forms.terms c.deref_mut.result.now ≡ own_values (length g.proc.now.places) =
    ap (terms_of c.own_terms.new.forms.terms) c.deref_mut.ensures.value ∙ c.in_ok-env.ensures.own ∙ ap own_values count in
    record {
      decision = decision_at p g.line;
      unfolds = c.first_node-first.ensures.unfolds;
      places = decides-below p g.line c.requires.exploration.checked;
      small = subst (StaysSmall (tree_from g (Region c.args.room) (decision_at p g.line))) (sym own) c.requires.small;
    }

pub is_open-requires-clause-below : goal.is_open-requires-clause-below
is_open-requires-clause-below c =
    subst (All (λ (l : LitForm). HasLiteralPlacesBelow (length c.args.exploration.proc.now.places) (literal_form_of l))) (sym c.new-prefix.ensures.literals) (λ k d l. absurd (omega (arith, l)))

pub is_open-requires-clause-kept : goal.is_open-requires-clause-kept
is_open-requires-clause-kept c = subst (All (λ (l : LitForm). IsKept (literal_form_of l))) (sym c.new-prefix.ensures.literals) (λ k d l. absurd (omega (arith, l)))

pub is_open-requires-clause-known : goal.is_open-requires-clause-known
is_open-requires-clause-known c = λ count h. absurd (none-some count (sym c.new-prefix.ensures.refuted ∙ h))

no_forms : (n : ℕ) (nodes : List TermNode) (x y : Prefix) → x.sides.items ≡ [] → x.literals.items ≡ [] → IsSamePrefix x y → IsPrefix n nodes y
no_forms n nodes x y e f same =
    subst (λ (s : List Sides). AreForms n nodes s (prefix_forms y)) (sym (same.sides ∙ e)) (subst (λ (l : List LitForm). AreForms n nodes [] (map literal_form_of l)) (sym (same.literals ∙ f)) tt)

pub walk-requires-clause-prefix : goal.walk-requires-clause-prefix
walk-requires-clause-prefix c =
    no_forms (length c.args.exploration.proc.now.places) c.own_terms.new.forms.terms c.new-prefix.result c.is_open.new.prefix c.new-prefix.ensures.sides c.new-prefix.ensures.literals c.in_ok-is_open.ensures.same

pub walk-requires-clause-some : goal.walk-requires-clause-some
walk-requires-clause-some c =
    let g = c.args.exploration in
    let fs = prefix_forms c.new-prefix.result in
    λ o. if_true c.in_ok-is_open.field-0 (LeftOut g fs → ⊥) (LeftOut g fs) c.in_ok-is_open.ensures.kept c.if-branch.true
    (subst (LeftOut g) (forms_of_same c.new-prefix.result c.is_open.new.prefix c.in_ok-is_open.ensures.same) o)

pub walk-requires-clause-sound : goal.walk-requires-clause-sound
walk-requires-clause-sound c =
    let places = c.args.exploration.proc.now.places in
    record {
      rows = subst (All (HasSoundLiterals (length places))) (sym c.new-2.ensures) (λ k r l. absurd (omega (arith, l)));
      hazards = subst (All (HasLeast places c.args.exploration.line)) (sym c.new-3.ensures) (λ k r l. absurd (omega (arith, l)));
    }

nothing_found : (rows : List Row) (hazards : List Hazard) → rows ≡ [] → hazards ≡ [] → (let f : Found = record { rows = rows; hazards = hazards } in f) ≡ nothing
nothing_found rows hazards e f = rw (e, f) refl

pub returns-clause-adds : goal.returns-clause-adds
returns-clause-adds c =
    let g = c.args.exploration in
    let d = decision_at (explored_procedure g) g.line in
    let paths = paths_down (tree_from g (Region c.args.room) d) (own_values (length g.proc.now.places)) in
    let count : c.len-places.result ≡ length g.proc.now.places = c.len-places.ensures ∙ ap length c.places.ensures.value in
    let same = c.in_ok-is_open.ensures.same in
    let forms = forms_of_same c.new-prefix.result c.is_open.new.prefix same in
    let none : prefix_forms c.new-prefix.result ≡ [] = ap (map literal_form_of) c.new-prefix.ensures.literals in
    let empty = nothing_found c.new-2.result c.new-3.result c.new-2.ensures c.new-3.ensures in
    elim c.if-branch.branch [
      | then-branch+in_ok-walk w ↦
          let own : terms_of c.own_terms.new.forms.terms w.deref_mut.result.now ≡ own_values (length g.proc.now.places) =
          ap (terms_of c.own_terms.new.forms.terms) w.deref_mut.ensures.value ∙ c.in_ok-env.ensures.own ∙ ap own_values count in
          subst (Adds (LeftOut g) g.query [] [] paths nothing) (sym w.found-is)
          (subst (λ (f : Found). Adds (LeftOut g) g.query [] [] paths f w.walk.new.found) empty
          (adds_as (LeftOut g) g.query c.is_open.new.prefix.path.items [] (prefix_forms c.is_open.new.prefix) [] (paths_down (tree_from g (Region c.args.room) d) (terms_of c.own_terms.new.forms.terms w.deref_mut.result.now)) paths
          _ w.walk.new.found (same.path ∙ c.new-prefix.ensures.path) (forms ∙ none) (ap (paths_down (tree_from g (Region c.args.room) d)) own)
          (w.in_ok-walk.ensures.adds d w.first_node-first.ensures.unfolds)))
      | else-branch w ↦
          let out : LeftOut g (prefix_forms c.new-prefix.result) =
          if_false c.in_ok-is_open.field-0 (LeftOut g (prefix_forms c.new-prefix.result) → ⊥) (LeftOut g (prefix_forms c.new-prefix.result)) c.in_ok-is_open.ensures.kept w.if-branch.false in
          let left : LeftOut g [] = subst (LeftOut g) none out in
          subst (Adds (LeftOut g) g.query [] [] paths nothing) (sym (w.found-is ∙ empty)) (adds_none (LeftOut g) g.query [] [] paths nothing (λ x. out_stays c.refuted_stays_refuted.ensures g [] x left))
    ]

pub returns-clause-sound : goal.returns-clause-sound
returns-clause-sound c =
    let g = c.args.exploration in
    elim c.if-branch.branch [
      | then-branch+in_ok-walk w ↦ subst (AreSound g) (sym w.found-is) w.in_ok-walk.ensures.sound
      | else-branch w ↦
          let empty = nothing_found c.new-2.result c.new-3.result c.new-2.ensures c.new-3.ensures in
          subst (AreSound g) (sym (w.found-is ∙ empty)) (record { rows = λ k r l. absurd (omega (arith, l)); hazards = λ k r l. absurd (omega (arith, l)) })
    ]
