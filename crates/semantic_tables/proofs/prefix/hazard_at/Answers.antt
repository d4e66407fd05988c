use Rattle.std.proofs.Common.{◌≡◌, ◌∙◌, refl, sym, subst, List, Bool, map, length, All}
use Rattle.il_core.specs.declared.line.Halt.{Halt}
use Rattle.il_core.specs.declared.line.Stop.TheVariants as stop
use Rattle.sym_simplify.specs.Literal.{LiteralForm, literal_form_of}
use Rattle.semantic_tables.specs.Hazards.{NormalHazard, IsLeastOf}
use Rattle.semantic_tables.specs.Walk.{IsCompared, prefix_forms}
use Rattle.semantic_tables.proofs.Environments.{all_compared}
use Rattle.semantic_tables.proofs.Walks.{read_forms, read_sound}
use Rattle.semantic_tables.proofs.prefix.hazard_at.Goals as goal

pub literals_of-requires : goal.literals_of-requires
literals_of-requires c =
    subst (All (IsCompared c.args.forms.now.terms)) (sym c.deref-2.ensures.value)
    (all_compared (length c.args.exploration.proc.now.places) c.args.forms.now.terms c.args.prefix.now.sides.items (prefix_forms c.args.prefix.now) c.requires.prefix)

hazard_same : (p q : List Bool) (f g : List LiteralForm) (h : Halt) → p ≡ q → f ≡ g
    → (let n : NormalHazard = record { path = p; literals = f; stop = stop.Halted h } in n) ≡ (let n : NormalHazard = record { path = q; literals = g; stop = stop.Halted h } in n)
hazard_same p q f g h a b = rw (a, b) refl

pub returns-clause-hazard : goal.returns-clause-hazard
returns-clause-hazard c =
    let literals = read_forms (length c.args.exploration.proc.now.places) c.args.forms.now.terms c.args.prefix.now c.deref-2.result.now c.in_ok-literals_of.field-0 c.requires.prefix c.deref-2.ensures.value c.in_ok-literals_of.ensures.forms in
    hazard_same c.in_ok-path_of.field-0 c.args.prefix.now.path.items (map literal_form_of c.in_ok-literals_of.field-0) (prefix_forms c.args.prefix.now) c.args.halt
    (c.in_ok-path_of.ensures ∙ c.deref.ensures.value) literals

pub returns-clause-least : goal.returns-clause-least
returns-clause-least c =
    let literals = read_forms (length c.args.exploration.proc.now.places) c.args.forms.now.terms c.args.prefix.now c.deref-2.result.now c.in_ok-literals_of.field-0 c.requires.prefix c.deref-2.ensures.value c.in_ok-literals_of.ensures.forms in
    let sound = read_sound (length c.args.exploration.proc.now.places) c.args.forms.now.terms c.args.prefix.now c.in_ok-literals_of.field-0 c.requires.prefix literals in
    record {
      below = sound.0;
      kept = sound.1;
      least = subst (λ (fs : List LiteralForm). IsLeastOf c.args.exploration.proc.now.places c.args.exploration.line fs c.args.least) (sym literals) c.requires.least;
    }
