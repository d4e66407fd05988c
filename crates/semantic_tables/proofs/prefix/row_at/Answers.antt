use Rattle.std.proofs.Common.{◌≡◌, ◌∙◌, ap, sym, subst, List, map, length, All}
use Rattle.sym_terms.specs.Nodes.{terms_of}
use Rattle.sym_terms.specs.declared.node.TermNode.{TermNode}
use Rattle.sym_simplify.specs.Held.{form_of}
use Rattle.sym_simplify.specs.Norm.{norm}
use Rattle.sym_simplify.specs.Literal.{literal_form_of}
use Rattle.semantic_tables.specs.Walk.{IsCompared, prefix_forms}
use Rattle.semantic_tables.proofs.Environments.{all_compared, normal_same}
use Rattle.semantic_tables.proofs.Walks.{read_forms, read_sound}
use Rattle.semantic_tables.proofs.prefix.row_at.Goals as goal

pub literals_of-requires : goal.literals_of-requires
literals_of-requires c =
    subst (All (IsCompared c.args.forms.now.terms)) (sym c.deref-2.ensures.value)
    (all_compared (length c.args.env.now) c.args.forms.now.terms c.args.prefix.now.sides.items (prefix_forms c.args.prefix.now) c.requires.prefix)

pub returns-clause-row : goal.returns-clause-row
returns-clause-row c =
    let literals = read_forms (length c.args.env.now) c.args.forms.now.terms c.args.prefix.now c.deref-2.result.now c.in_ok-literals_of.field-0 c.requires.prefix c.deref-2.ensures.value c.in_ok-literals_of.ensures.forms in
    let values : map form_of c.in_ok-values_of.field-0 ≡ map norm (terms_of c.args.forms.now.terms c.args.env.now) =
    c.in_ok-values_of.ensures.values ∙ ap (λ (ts : List TermNode). map norm (terms_of ts c.args.env.now)) c.in_ok-literals_of.ensures.terms in
    normal_same c.in_ok-path_of.field-0 c.args.prefix.now.path.items (map literal_form_of c.in_ok-literals_of.field-0) (prefix_forms c.args.prefix.now) c.args.stop (map form_of c.in_ok-values_of.field-0)
    (map norm (terms_of c.args.forms.now.terms c.args.env.now)) (c.in_ok-path_of.ensures ∙ c.deref.ensures.value) literals values

pub returns-clause-sound : goal.returns-clause-sound
returns-clause-sound c =
    let literals = read_forms (length c.args.env.now) c.args.forms.now.terms c.args.prefix.now c.deref-2.result.now c.in_ok-literals_of.field-0 c.requires.prefix c.deref-2.ensures.value c.in_ok-literals_of.ensures.forms in
    let sound = read_sound (length c.args.env.now) c.args.forms.now.terms c.args.prefix.now c.in_ok-literals_of.field-0 c.requires.prefix literals in
    record { below = sound.0; kept = sound.1 }
