use Rattle.std.proofs.Common.{◌≡◌, sym, ap, ◌∙◌, subst, ℕ, ◌+◌, ◌<◌, Some, None, List, [], ◌∷◌, ◌++◌, map, length, slice_get, arith}
use Rattle.std.specs.Prelude.{slice_set}
use Rattle.std.proofs.lemmas.List.{length-set}
use Rattle.il_core.specs.declared.line.Next.TheVariants as next
use Rattle.sym_terms.specs.Tree.{Tree, tree_of}
use Rattle.sym_terms.specs.Substitution.{substituted, HasPlacesBelow}
use Rattle.sym_terms.specs.Comparison.{comparison_of, denied, ComparesPlacesBelow}
use Rattle.sym_terms.specs.Grown.{Keeps}
use Rattle.sym_terms.specs.Nodes.{terms_of}
use Rattle.sym_terms.specs.declared.node.TermId.{TermId}
use Rattle.sym_terms.specs.declared.node.TermNode.{TermNode}
use Rattle.sym_terms.proofs.Grown.{keeps_trans}
use Rattle.std.proofs.lemmas.Option.{none-some}
use Rattle.sym_terms.proofs.Composed.{places_substituted}
use Rattle.sym_terms.proofs.Terms.{terms_kept}
use Rattle.sym_simplify.specs.Literal.{literal_form_of}
use Rattle.test_graph.specs.declared.graph.TestNode.TheVariants.{Test, Assign, AtLine, Stop}
use Rattle.region_paths.specs.PathTree.{paths_down}
use Rattle.region_paths.proofs.Nodes.{node_there}
use Rattle.region_paths.proofs.Walking.{line_unfolds}
use Rattle.semantic_tables.specs.Row.{comparison_form}
use Rattle.semantic_tables.specs.Walk.{explored_procedure, is_long, behind, lines_left, tree_from, IsOnward, Stands, IsEnvironment, IsPrefix, IsSamePrefix, IsKnown, prefix_forms, comparison_at, LeftOut, AreSound, Adds}
use Rattle.semantic_tables.proofs.Kept.{adds_none}
use Rattle.semantic_tables.proofs.Environments.{env_kept, env_set, put_back, sides_kept, forms_kept, all_below, all_kept, ok_map}
use Rattle.semantic_tables.proofs.Walks.{fewer_less, adds_as, stands_met, stands_unmet, compared, stands_then, assigned, stands_on, node_within, fork_added, assign_added, line_added, line_stops, halt_stops, sides_new, sides_denied, prefix_added, prefix_same, out_stays, if_true, if_false, front}
use Rattle.semantic_tables.proofs.Refuted.{known_added, known_back, forms_of_same, same_then}
use Rattle.semantic_tables.proofs.walking.+walking.Goals.{walk_side-then-branch+in_ok-walk, walk_side-else-branch}
use Rattle.semantic_tables.proofs.walking.+walking.Goals as goal

pub walk-sides_under-requires-clause-places : goal.walk-sides_under-requires-clause-places
walk-sides_under-requires-clause-places t c =
    let g = c.args.exploration in
    let terms = terms_of c.args.forms.now.terms c.args.env.now in
    let node : slice_get g.graph.now.nodes c.args.id ≡ Some (Test c.in-Some-Test.literal c.in-Some-Test.met c.in-Some-Test.unmet) = sym c.in-Some-Test.ensures.value ∙ ap Some c.in-Some-Test.field-0-is in
    let k = compared g c.args.id c.args.segment terms c.requires.exploration c.in-Some-Test.literal c.in-Some-Test.met c.in-Some-Test.unmet node c.requires.stands in
    subst (λ (n : ℕ). ComparesPlacesBelow n (comparison_of c.in-Some-Test.literal)) (sym c.requires.env.size) k.1

pub walk-walk_side-requires : goal.walk-walk_side-requires
walk-walk_side-requires t c =
    let g = c.args.exploration in
    let n = length g.proc.now.places in
    let old = c.args.forms.now.terms in
    let new = c.sides_under.new.forms.terms in
    let terms = terms_of old c.args.env.now in
    let kept = c.in_ok-sides-in-Some-Test.ensures.kept in
    let node : slice_get g.graph.now.nodes c.args.id ≡ Some (Test c.in-Some-Test.literal c.in-Some-Test.met c.in-Some-Test.unmet) = sym c.in-Some-Test.ensures.value ∙ ap Some c.in-Some-Test.field-0-is in
    let less = (c.requires.exploration.lowered.falls c.args.id _ node).0 in
    let k = compared g c.args.id c.args.segment terms c.requires.exploration c.in-Some-Test.literal c.in-Some-Test.met c.in-Some-Test.unmet node c.requires.stands in
    let same = terms_kept old new c.args.env.now kept c.requires.env.within in
    let stands = subst (Stands g c.in-Some-Test.met c.args.segment) (sym same)
    (stands_met g c.args.id c.args.segment terms c.requires.exploration c.in-Some-Test.literal c.in-Some-Test.met c.in-Some-Test.unmet node c.requires.stands) in
    let sides = sides_new n old new c.args.env.now c.in_ok-sides-in-Some-Test.sides (comparison_of c.in-Some-Test.literal) c.requires.env c.in_ok-sides-in-Some-Test.ensures.left
    c.in_ok-sides-in-Some-Test.ensures.right c.in_ok-sides-in-Some-Test.ensures.sides k.0 in (
      omega (arith, less, c.decreases),
      (
        c.requires.exploration,
        (
          c.requires.segment,
          (
            stands,
            (
              env_kept n old new c.args.env.now kept c.requires.env,
              (
                sides,
                (forms_kept n old new c.args.prefix.now.sides.items (prefix_forms c.args.prefix.now) kept c.requires.prefix, (c.requires.known, c.requires.sound)),
              ),
            ),
          ),
        ),
      ),
    )

pub walk-walk_side-requires-in-Some-Test : goal.walk-walk_side-requires-in-Some-Test
walk-walk_side-requires-in-Some-Test t c =
    let g = c.args.exploration in
    let n = length g.proc.now.places in
    let old = c.args.forms.now.terms in
    let mid = c.sides_under.new.forms.terms in
    let new = c.walk_side.new.forms.terms in
    let env = c.args.env.now in
    let terms = terms_of old env in
    let first = c.in_ok-sides-in-Some-Test.ensures.kept in
    let second = c.in_ok-walk_side-in-Some-Test.ensures.kept in
    let kept : Keeps old new = keeps_trans old mid new first second in
    let node : slice_get g.graph.now.nodes c.args.id ≡ Some (Test c.in-Some-Test.literal c.in-Some-Test.met c.in-Some-Test.unmet) = sym c.in-Some-Test.ensures.value ∙ ap Some c.in-Some-Test.field-0-is in
    let less = (c.requires.exploration.lowered.falls c.args.id _ node).1 in
    let k = compared g c.args.id c.args.segment terms c.requires.exploration c.in-Some-Test.literal c.in-Some-Test.met c.in-Some-Test.unmet node c.requires.stands in
    let same_env : c.walk_side.new.env ≡ env = c.in_ok-walk_side-in-Some-Test.ensures.env in
    let same : terms_of new c.walk_side.new.env ≡ terms = ap (terms_of new) same_env ∙ terms_kept old new env kept c.requires.env.within in
    let stands = subst (Stands g c.in-Some-Test.unmet c.args.segment) (sym same)
    (stands_unmet g c.args.id c.args.segment terms c.requires.exploration c.in-Some-Test.literal c.in-Some-Test.met c.in-Some-Test.unmet node c.requires.stands) in
    let sides = sides_new n old mid env c.in_ok-sides-in-Some-Test.sides (comparison_of c.in-Some-Test.literal) c.requires.env c.in_ok-sides-in-Some-Test.ensures.left
    c.in_ok-sides-in-Some-Test.ensures.right c.in_ok-sides-in-Some-Test.ensures.sides k.0 in
    let others = sides_denied n new c.in_ok-sides-in-Some-Test.sides c.denied.result c.denied.ensures.left c.denied.ensures.right (sides_kept n mid new c.in_ok-sides-in-Some-Test.sides second sides).0 in
    let environment = subst (IsEnvironment n new) (sym same_env) (env_kept n old new env kept c.requires.env) in
    let prefix = prefix_same n new c.args.prefix.now c.walk_side.new.prefix c.in_ok-walk_side-in-Some-Test.ensures.same
    (forms_kept n old new c.args.prefix.now.sides.items (prefix_forms c.args.prefix.now) kept c.requires.prefix) in
    (omega (arith, less, c.decreases), (c.requires.exploration, (c.requires.segment, (stands, (environment, (others, (prefix, (c.in_ok-walk_side-in-Some-Test.ensures.known, c.in_ok-walk_side-in-Some-Test.ensures.sound))))))))

pub walk-put_under-requires-clause-places : goal.walk-put_under-requires-clause-places
walk-put_under-requires-clause-places t c =
    let g = c.args.exploration in
    let node : slice_get g.graph.now.nodes c.args.id ≡ Some (Assign c.in-Some-Assign.place c.in-Some-Assign.term c.in-Some-Assign.then) = sym c.in-Some-Assign.ensures.value ∙ ap Some c.in-Some-Assign.field-0-is in
    let k = assigned g c.args.id c.args.segment (terms_of c.args.forms.now.terms c.args.env.now) c.requires.exploration c.in-Some-Assign.place c.in-Some-Assign.term c.in-Some-Assign.then node c.requires.stands in
    subst (λ (n : ℕ). HasPlacesBelow n (tree_of c.in-Some-Assign.term)) (sym c.requires.env.size) k.1

pub walk-exchange-was-requires : goal.walk-exchange-was-requires
walk-exchange-was-requires t c =
    let g = c.args.exploration in
    let node : slice_get g.graph.now.nodes c.args.id ≡ Some (Assign c.in-Some-Assign.place c.in-Some-Assign.term c.in-Some-Assign.then) = sym c.in-Some-Assign.ensures.value ∙ ap Some c.in-Some-Assign.field-0-is in
    let k = assigned g c.args.id c.args.segment (terms_of c.args.forms.now.terms c.args.env.now) c.requires.exploration c.in-Some-Assign.place c.in-Some-Assign.term c.in-Some-Assign.then node c.requires.stands in
    subst (λ (n : ℕ). c.in-Some-Assign.place < n) (sym c.requires.env.size) k.0

pub walk-walk-requires : goal.walk-walk-requires
walk-walk-requires t c =
    let g = c.args.exploration in
    let n = length g.proc.now.places in
    let old = c.args.forms.now.terms in
    let new = c.put_under.new.forms.terms in
    let env = c.args.env.now in
    let terms = terms_of old env in
    let place = c.in-Some-Assign.place in
    let term = c.in-Some-Assign.term in
    let kept = c.in_ok-value-in-Some-Assign.ensures.kept in
    let node : slice_get g.graph.now.nodes c.args.id ≡ Some (Assign place term c.in-Some-Assign.then) = sym c.in-Some-Assign.ensures.value ∙ ap Some c.in-Some-Assign.field-0-is in
    let less = c.requires.exploration.lowered.falls c.args.id _ node in
    let k = assigned g c.args.id c.args.segment terms c.requires.exploration place term c.in-Some-Assign.then node c.requires.stands in
    let after : c.exchange-was.new.env ≡ slice_set env place c.in_ok-value-in-Some-Assign.value = c.exchange-was.ensures.after in
    let set = env_set n new env place c.in_ok-value-in-Some-Assign.value (substituted terms (tree_of term)) (env_kept n old new env kept c.requires.env) c.in_ok-value-in-Some-Assign.ensures.within
    c.in_ok-value-in-Some-Assign.ensures.term (places_substituted n terms (tree_of term) c.requires.env.places) k.2 in
    let same : terms_of new c.exchange-was.new.env ≡ slice_set terms place (substituted terms (tree_of term)) =
    ap (terms_of new) after ∙ set.1 ∙ ap (λ (ts : List Tree). slice_set ts place (substituted terms (tree_of term))) (terms_kept old new env kept c.requires.env.within) in
    let stands = subst (Stands g c.in-Some-Assign.then c.args.segment) (sym same)
    (stands_then g c.args.id c.args.segment terms c.requires.exploration place term c.in-Some-Assign.then node c.requires.stands) in (
      omega (arith, less, c.decreases),
      (
        c.requires.exploration,
        (
          c.requires.segment,
          (
            stands,
            (
              subst (IsEnvironment n new) (sym after) set.0,
              (forms_kept n old new c.args.prefix.now.sides.items (prefix_forms c.args.prefix.now) kept c.requires.prefix, (c.requires.known, (c.requires.some, c.requires.sound))),
            ),
          ),
        ),
      ),
    )

pub walk-exchange-requires : goal.walk-exchange-requires
walk-exchange-requires t c =
    let g = c.args.exploration in
    let node : slice_get g.graph.now.nodes c.args.id ≡ Some (Assign c.in-Some-Assign.place c.in-Some-Assign.term c.in-Some-Assign.then) = sym c.in-Some-Assign.ensures.value ∙ ap Some c.in-Some-Assign.field-0-is in
    let k = assigned g c.args.id c.args.segment (terms_of c.args.forms.now.terms c.args.env.now) c.requires.exploration c.in-Some-Assign.place c.in-Some-Assign.term c.in-Some-Assign.then node c.requires.stands in
    let size : length c.walk.new.env ≡ length g.proc.now.places =
    ap length c.in_ok-walk-in-Some-Assign.ensures.env ∙ ap length c.exchange-was.ensures.after ∙ length-set c.args.env.now c.in-Some-Assign.place c.in_ok-value-in-Some-Assign.value ∙ c.requires.env.size in
    subst (λ (n : ℕ). c.in-Some-Assign.place < n) (sym size) k.0

pub walk-go_on-requires-clause-first : goal.walk-go_on-requires-clause-first
walk-go_on-requires-clause-first t c =
    let g = c.args.exploration in
    let node : slice_get g.graph.now.nodes c.args.id ≡ Some (AtLine c.in-Some-AtLine.line c.in-Some-AtLine.first) = sym c.in-Some-AtLine.ensures.value ∙ ap Some c.in-Some-AtLine.field-0-is in
    line_unfolds (explored_procedure g) g.graph.now c.args.id c.in-Some-AtLine.line c.in-Some-AtLine.first c.requires.stands.decision c.requires.exploration.lowered node c.requires.stands.unfolds

pub walk-walk-requires-in-On : goal.walk-walk-requires-in-On
walk-walk-requires-in-On t c =
    let g = c.args.exploration in
    let terms = terms_of c.args.forms.now.terms c.args.env.now in
    let left = lines_left g.loops.now c.args.segment in
    let line = c.in-Some-AtLine.line in
    let node : slice_get g.graph.now.nodes c.args.id ≡ Some (AtLine line c.in-Some-AtLine.first) = sym c.in-Some-AtLine.ensures.value ∙ ap Some c.in-Some-AtLine.field-0-is in
    let o : IsOnward g left (behind (explored_procedure g) g.loops.now (is_long g.query) c.args.segment (next.At line)) c.in-On.to c.in-On.next = c.in-On.ensures in
    let low = node_within g c.args.id c.args.segment terms c.requires.exploration c.in-On.to left (behind (explored_procedure g) g.loops.now (is_long g.query) c.args.segment (next.At line)) c.in-On.next o in
    let less = fewer_less (lines_left g.loops.now c.in-On.next) left (length g.graph.now.nodes + 1) c.in-On.to c.args.id o.fewer low in
    let stands = stands_on g c.args.id c.args.segment terms c.requires.exploration line c.in-Some-AtLine.first c.in-On.to left c.in-On.next node o c.requires.stands in
    (omega (arith, less, c.decreases), (c.requires.exploration, (o.segment_there, (stands, (c.requires.env, (c.requires.prefix, (c.requires.known, (c.requires.some, c.requires.sound))))))))

pub walk-unreachable-requires : goal.walk-unreachable-requires
walk-unreachable-requires t c =
    let s = c.requires.stands in
    let k = node_there (explored_procedure c.args.exploration) c.args.exploration.graph.now c.args.id s.decision c.requires.exploration.lowered s.unfolds in
    let none : None ≡ Some k.0 = c.in-None.ensures.value ∙ k.1 in
    absurd (none-some k.0 none)

pub walk-returns-in_ok-walk_side-in-Some-Test-clause-adds :
    goal.walk-returns-in_ok-walk_side-in-Some-Test-clause-adds
walk-returns-in_ok-walk_side-in-Some-Test-clause-adds t c =
    let g = c.args.exploration in
    let old = c.args.forms.now.terms in
    let mid = c.sides_under.new.forms.terms in
    let new = c.walk_side.new.forms.terms in
    let env = c.args.env.now in
    let terms = terms_of old env in
    let literal = c.in-Some-Test.literal in
    let first = c.in_ok-sides-in-Some-Test.ensures.kept in
    let second = c.in_ok-walk_side-in-Some-Test.ensures.kept in
    let kept : Keeps old new = keeps_trans old mid new first second in
    let node : slice_get g.graph.now.nodes c.args.id ≡ Some (Test literal c.in-Some-Test.met c.in-Some-Test.unmet) = sym c.in-Some-Test.ensures.value ∙ ap Some c.in-Some-Test.field-0-is in
    let k = compared g c.args.id c.args.segment terms c.requires.exploration literal c.in-Some-Test.met c.in-Some-Test.unmet node c.requires.stands in
    let sides = sides_new (length g.proc.now.places) old mid env c.in_ok-sides-in-Some-Test.sides (comparison_of literal) c.requires.env c.in_ok-sides-in-Some-Test.ensures.left
    c.in_ok-sides-in-Some-Test.ensures.right c.in_ok-sides-in-Some-Test.ensures.sides k.0 in
    let stays = (sides_kept (length g.proc.now.places) mid new c.in_ok-sides-in-Some-Test.sides second sides).1 in
    let same_met : terms_of mid env ≡ terms = terms_kept old mid env first c.requires.env.within in
    let same_unmet : terms_of new c.walk_side.new.env ≡ terms = ap (terms_of new) c.in_ok-walk_side-in-Some-Test.ensures.env ∙ terms_kept old new env kept c.requires.env.within in
    let form = ap comparison_form c.in_ok-sides-in-Some-Test.ensures.sides in
    let other = ap comparison_form (c.denied.ensures.sides new ∙ ap denied (stays ∙ c.in_ok-sides-in-Some-Test.ensures.sides)) in
    ok_map c.walk_side-in-Some-Test.result _ _ c.walk_side-in-Some-Test.ensures.adds
    (λ x rows d u. fork_added g c.args.id c.args.segment terms c.requires.exploration c.args.prefix.now.path.items (prefix_forms c.args.prefix.now) c.args.found.now _ d u literal c.in-Some-Test.met c.in-Some-Test.unmet
    (terms_of mid env) (terms_of new c.walk_side.new.env) c.walk_side.new.prefix.path.items (prefix_forms c.walk_side.new.prefix)
    (comparison_form (comparison_at mid c.in_ok-sides-in-Some-Test.sides)) (comparison_form (comparison_at new c.denied.result)) c.walk_side.new.found node same_met same_unmet
    c.in_ok-walk_side-in-Some-Test.ensures.same.path (ap (map literal_form_of) c.in_ok-walk_side-in-Some-Test.ensures.same.literals) form other
    c.in_ok-walk_side-in-Some-Test.ensures.adds rows)

pub walk-returns-in_ok-walk-in-Some-Assign-clause-adds :
    goal.walk-returns-in_ok-walk-in-Some-Assign-clause-adds
walk-returns-in_ok-walk-in-Some-Assign-clause-adds t c = λ d u.
    let g = c.args.exploration in
    let n = length g.proc.now.places in
    let old = c.args.forms.now.terms in
    let new = c.put_under.new.forms.terms in
    let env = c.args.env.now in
    let terms = terms_of old env in
    let place = c.in-Some-Assign.place in
    let term = c.in-Some-Assign.term in
    let kept = c.in_ok-value-in-Some-Assign.ensures.kept in
    let node : slice_get g.graph.now.nodes c.args.id ≡ Some (Assign place term c.in-Some-Assign.then) = sym c.in-Some-Assign.ensures.value ∙ ap Some c.in-Some-Assign.field-0-is in
    let k = assigned g c.args.id c.args.segment terms c.requires.exploration place term c.in-Some-Assign.then node c.requires.stands in
    let set = env_set n new env place c.in_ok-value-in-Some-Assign.value (substituted terms (tree_of term)) (env_kept n old new env kept c.requires.env) c.in_ok-value-in-Some-Assign.ensures.within
    c.in_ok-value-in-Some-Assign.ensures.term (places_substituted n terms (tree_of term) c.requires.env.places) k.2 in
    let same : terms_of new c.exchange-was.new.env ≡ slice_set terms place (substituted terms (tree_of term)) =
    ap (terms_of new) c.exchange-was.ensures.after ∙ set.1 ∙ ap (λ (ts : List Tree). slice_set ts place (substituted terms (tree_of term))) (terms_kept old new env kept c.requires.env.within) in
    assign_added g c.args.id c.args.segment terms c.requires.exploration c.args.prefix.now.path.items (prefix_forms c.args.prefix.now) c.args.found.now c.walk.new.found d u place term c.in-Some-Assign.then
    (terms_of new c.exchange-was.new.env) node same c.in_ok-walk-in-Some-Assign.ensures.adds

pub walk-returns-in_ok-walk-in-Some-Assign-clause-env :
    goal.walk-returns-in_ok-walk-in-Some-Assign-clause-env
walk-returns-in_ok-walk-in-Some-Assign-clause-env t c =
    c.exchange.ensures.after
    ∙ ap (λ (x : List TermId). slice_set x c.in-Some-Assign.place c.exchange-was.result) (c.in_ok-walk-in-Some-Assign.ensures.env ∙ c.exchange-was.ensures.after)
    ∙ put_back c.args.env.now c.in-Some-Assign.place c.in_ok-value-in-Some-Assign.value c.exchange-was.result c.exchange-was.ensures.before

pub walk-returns-in-On-clause-adds : goal.walk-returns-in-On-clause-adds
walk-returns-in-On-clause-adds t c =
    let g = c.args.exploration in
    let line = c.in-Some-AtLine.line in
    let node : slice_get g.graph.now.nodes c.args.id ≡ Some (AtLine line c.in-Some-AtLine.first) = sym c.in-Some-AtLine.ensures.value ∙ ap Some c.in-Some-AtLine.field-0-is in
    ok_map c.walk-in-On.result _ _ c.walk-in-On.ensures.adds
    (λ x rows d u. line_added g c.args.id c.args.segment (terms_of c.args.forms.now.terms c.args.env.now) c.requires.exploration c.args.prefix.now.path.items (prefix_forms c.args.prefix.now) c.args.found.now _ d u
    line c.in-Some-AtLine.first c.in-On.to (lines_left g.loops.now c.args.segment) c.in-On.next node c.in-On.ensures rows)

pub walk-returns-in-Stops-clause-adds : goal.walk-returns-in-Stops-clause-adds
walk-returns-in-Stops-clause-adds t c =
    let g = c.args.exploration in
    let line = c.in-Some-AtLine.line in
    let node : slice_get g.graph.now.nodes c.args.id ≡ Some (AtLine line c.in-Some-AtLine.first) = sym c.in-Some-AtLine.ensures.value ∙ ap Some c.in-Some-AtLine.field-0-is in
    ok_map c.push_found.result _ _ c.push_found.ensures.adds
    (λ x rows d u. line_stops g c.args.id c.args.segment (terms_of c.args.forms.now.terms c.args.env.now) c.requires.exploration c.args.prefix.now.path.items (prefix_forms c.args.prefix.now) c.args.found.now _ d u
    line c.in-Some-AtLine.first c.in-Stops.stop node c.in-Stops.ensures rows)

pub walk-returns-in-Some-Stop-clause-adds : goal.walk-returns-in-Some-Stop-clause-adds
walk-returns-in-Some-Stop-clause-adds t c =
    let g = c.args.exploration in
    let node : slice_get g.graph.now.nodes c.args.id ≡ Some (Stop c.in-Some-Stop.halt) = sym c.in-Some-Stop.ensures.value ∙ ap Some c.in-Some-Stop.field-0-is in
    ok_map c.push_found-in-Some-Stop.result _ _ c.push_found-in-Some-Stop.ensures.adds
    (λ x rows d u. halt_stops g c.args.id c.args.segment (terms_of c.args.forms.now.terms c.args.env.now) c.requires.exploration c.args.prefix.now.path.items (prefix_forms c.args.prefix.now) c.args.found.now _ d u
    c.in-Some-Stop.halt node rows)

pub walk_side-is_open-requires-clause-below : goal.walk_side-is_open-requires-clause-below
walk_side-is_open-requires-clause-below t c =
    let n = length c.args.exploration.proc.now.places in
    let old = c.args.forms.now.terms in
    let more = prefix_added n old c.args.prefix.now c.add.new.self c.args.branch.sides c.requires.prefix c.requires.sides c.in_ok-add.ensures.sides c.in_ok-add.ensures.literals in
    all_below n old c.add.new.self.sides.items c.add.new.self.literals.items more.0

pub walk_side-is_open-requires-clause-kept : goal.walk_side-is_open-requires-clause-kept
walk_side-is_open-requires-clause-kept t c =
    let n = length c.args.exploration.proc.now.places in
    let old = c.args.forms.now.terms in
    let more = prefix_added n old c.args.prefix.now c.add.new.self c.args.branch.sides c.requires.prefix c.requires.sides c.in_ok-add.ensures.sides c.in_ok-add.ensures.literals in
    all_kept n old c.add.new.self.sides.items c.add.new.self.literals.items more.0

pub walk_side-is_open-requires-clause-known : goal.walk_side-is_open-requires-clause-known
walk_side-is_open-requires-clause-known t c =
    let n = length c.args.exploration.proc.now.places in
    let old = c.args.forms.now.terms in
    let more = prefix_added n old c.args.prefix.now c.add.new.self c.args.branch.sides c.requires.prefix c.requires.sides c.in_ok-add.ensures.sides c.in_ok-add.ensures.literals in
    known_added c.args.exploration c.args.prefix.now c.add.new.self (comparison_form (comparison_at old c.args.branch.sides)) more.1 c.in_ok-add.ensures.refuted c.requires.known

pub walk_side-walk-requires : goal.walk_side-walk-requires
walk_side-walk-requires t c =
    let g = c.args.exploration in
    let n = length g.proc.now.places in
    let old = c.args.forms.now.terms in
    let env = c.args.env.now in
    let same = sym c.in_ok-add.ensures.terms in
    let more = prefix_added n old c.args.prefix.now c.add.new.self c.args.branch.sides c.requires.prefix c.requires.sides c.in_ok-add.ensures.sides c.in_ok-add.ensures.literals in
    let prefix = prefix_same n old c.add.new.self c.is_open.new.prefix c.in_ok-is_open.ensures.same more.0 in
    let some : LeftOut g (prefix_forms c.is_open.new.prefix) → ⊥ = λ o.
    if_true c.in_ok-is_open.field-0 (LeftOut g (prefix_forms c.add.new.self) → ⊥) (LeftOut g (prefix_forms c.add.new.self)) c.in_ok-is_open.ensures.kept c.if-branch.true
    (subst (LeftOut g) (forms_of_same c.add.new.self c.is_open.new.prefix c.in_ok-is_open.ensures.same) o) in (
      omega (arith, c.decreases),
      (
        c.requires.exploration,
        (
          c.requires.segment,
          (
            subst (λ (ts : List TermNode). Stands g c.args.branch.to c.args.segment (terms_of ts env)) same c.requires.stands,
            (
              subst (λ (ts : List TermNode). IsEnvironment n ts env) same c.requires.env,
              (subst (λ (ts : List TermNode). IsPrefix n ts c.is_open.new.prefix) same prefix, (c.in_ok-is_open.ensures.known, (some, c.requires.sound))),
            ),
          ),
        ),
      ),
    )

pub walk_side-returns-clause-adds : goal.walk_side-returns-clause-adds
walk_side-returns-clause-adds t c = λ d u.
    let g = c.args.exploration in
    let n = length g.proc.now.places in
    let old = c.args.forms.now.terms in
    let env = c.args.env.now in
    let path = c.args.prefix.now.path.items ++ c.args.branch.met ∷ [] in
    let fs = prefix_forms c.args.prefix.now ++ comparison_form (comparison_at old c.args.branch.sides) ∷ [] in
    let paths = paths_down (tree_from g c.args.segment d) (terms_of old env) in
    let more = prefix_added n old c.args.prefix.now c.add.new.self c.args.branch.sides c.requires.prefix c.requires.sides c.in_ok-add.ensures.sides c.in_ok-add.ensures.literals in
    let same = c.in_ok-is_open.ensures.same in
    elim c.if-branch.branch [
      | walk_side-then-branch+in_ok-walk w ↦
          subst (Adds (LeftOut g) g.query path fs paths c.args.found.now) (sym w.found-is)
          (adds_as (LeftOut g) g.query c.is_open.new.prefix.path.items path (prefix_forms c.is_open.new.prefix) fs (paths_down (tree_from g c.args.segment d) (terms_of c.add.new.forms.terms env)) paths
          c.args.found.now w.walk.new.found (same.path ∙ c.in_ok-add.ensures.path) (forms_of_same c.add.new.self c.is_open.new.prefix same ∙ more.1)
          (ap (λ (ts : List TermNode). paths_down (tree_from g c.args.segment d) (terms_of ts env)) c.in_ok-add.ensures.terms)
          (w.in_ok-walk.ensures.adds d u))
      | walk_side-else-branch w ↦
          let out : LeftOut g (prefix_forms c.add.new.self) =
          if_false c.in_ok-is_open.field-0 (LeftOut g (prefix_forms c.add.new.self) → ⊥) (LeftOut g (prefix_forms c.add.new.self)) c.in_ok-is_open.ensures.kept w.if-branch.false in
          let left : LeftOut g fs = subst (LeftOut g) more.1 out in
          subst (Adds (LeftOut g) g.query path fs paths c.args.found.now) (sym w.found-is)
          (adds_none (LeftOut g) g.query path fs paths c.args.found.now (λ x. out_stays c.refuted_stays_refuted.ensures g fs x left))
    ]

pub walk_side-returns-clause-same : goal.walk_side-returns-clause-same
walk_side-returns-clause-same t c =
    let same = c.in_ok-is_open.ensures.same in
    let stays : IsSamePrefix c.add.new.self c.if-branch.prefix = elim c.if-branch.branch [
      | walk_side-then-branch+in_ok-walk w ↦
          subst (IsSamePrefix c.add.new.self) (sym w.prefix-is) (same_then c.add.new.self c.is_open.new.prefix w.walk.new.prefix same w.in_ok-walk.ensures.same)
      | walk_side-else-branch w ↦ subst (IsSamePrefix c.add.new.self) (sym w.prefix-is) same
    ] in
    record {
      path = c.turn_back.ensures.path ∙ front c.args.prefix.now.path.items c.if-branch.prefix.path.items c.args.branch.met (stays.path ∙ c.in_ok-add.ensures.path);
      sides = c.turn_back.ensures.sides ∙ front c.args.prefix.now.sides.items c.if-branch.prefix.sides.items c.args.branch.sides (stays.sides ∙ c.in_ok-add.ensures.sides);
      literals = c.turn_back.ensures.literals
          ∙ front c.args.prefix.now.literals.items c.if-branch.prefix.literals.items c.in_ok-add.ensures.literals.literal (stays.literals ∙ c.in_ok-add.ensures.literals.last);
    }

pub walk_side-returns-clause-known : goal.walk_side-returns-clause-known
walk_side-returns-clause-known t c =
    let g = c.args.exploration in
    let n = length g.proc.now.places in
    let old = c.args.forms.now.terms in
    let f = comparison_form (comparison_at old c.args.branch.sides) in
    let more = prefix_added n old c.args.prefix.now c.add.new.self c.args.branch.sides c.requires.prefix c.requires.sides c.in_ok-add.ensures.sides c.in_ok-add.ensures.literals in
    let same = c.in_ok-is_open.ensures.same in
    let stays : IsSamePrefix c.add.new.self c.if-branch.prefix = elim c.if-branch.branch [
      | walk_side-then-branch+in_ok-walk w ↦
          subst (IsSamePrefix c.add.new.self) (sym w.prefix-is) (same_then c.add.new.self c.is_open.new.prefix w.walk.new.prefix same w.in_ok-walk.ensures.same)
      | walk_side-else-branch w ↦ subst (IsSamePrefix c.add.new.self) (sym w.prefix-is) same
    ] in
    let known : IsKnown g c.if-branch.prefix = elim c.if-branch.branch [
      | walk_side-then-branch+in_ok-walk w ↦ subst (IsKnown g) (sym w.prefix-is) w.in_ok-walk.ensures.known
      | walk_side-else-branch w ↦ subst (IsKnown g) (sym w.prefix-is) c.in_ok-is_open.ensures.known
    ] in
    let back = c.turn_back.ensures.literals
    ∙ front c.args.prefix.now.literals.items c.if-branch.prefix.literals.items c.in_ok-add.ensures.literals.literal (stays.literals ∙ c.in_ok-add.ensures.literals.last) in
    known_back g c.args.prefix.now c.if-branch.prefix c.turn_back.new.self f (forms_of_same c.add.new.self c.if-branch.prefix stays ∙ more.1) (ap (map literal_form_of) back) c.turn_back.ensures.refuted known

pub walk_side-returns-clause-sound : goal.walk_side-returns-clause-sound
walk_side-returns-clause-sound t c =
    let g = c.args.exploration in
    elim c.if-branch.branch [
      | walk_side-then-branch+in_ok-walk w ↦ subst (AreSound g) (sym w.found-is) w.in_ok-walk.ensures.sound
      | walk_side-else-branch w ↦ subst (AreSound g) (sym w.found-is) c.requires.sound
    ]
