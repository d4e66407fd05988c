use Rattle.std.proofs.Common.{refl, sym, ◌∙◌}
use Rattle.sym_terms.specs.Nodes.{terms_of}
use Rattle.semantic_tables.specs.Walk.{LeftOut, prefix_forms}
use Rattle.semantic_tables.proofs.Environments.{ok_map}
use Rattle.semantic_tables.proofs.Kept.{hazard_adds, row_adds}
use Rattle.semantic_tables.proofs.walking.push_found.Goals as goal

pub returns-then-is_hazards-clause-adds : goal.returns-then-is_hazards-clause-adds
returns-then-is_hazards-clause-adds c =
    let g = c.args.exploration in
    ok_map c.push_hazard.result _ _ c.push_hazard.ensures.adds
    (λ x h. hazard_adds (LeftOut g) g.query c.args.prefix.now.path.items (prefix_forms c.args.prefix.now) c.args.stop (terms_of c.args.forms.now.terms c.args.env.now) c.args.found.now _
    (sym c.is_hazards.ensures ∙ c.if-is_hazards.true) c.requires.some refl h)

pub returns-then-is_hazards-clause-sound : goal.returns-then-is_hazards-clause-sound
returns-then-is_hazards-clause-sound c = ok_map c.push_hazard.result _ _ c.push_hazard.ensures.least (λ x h. record { rows = c.requires.sound.rows; hazards = h })

pub returns-else-is_hazards-clause-adds : goal.returns-else-is_hazards-clause-adds
returns-else-is_hazards-clause-adds c =
    let g = c.args.exploration in
    ok_map c.push_row.result _ _ c.push_row.ensures.adds
    (λ x h. row_adds (LeftOut g) g.query c.args.prefix.now.path.items (prefix_forms c.args.prefix.now) c.args.stop (terms_of c.args.forms.now.terms c.args.env.now) c.args.found.now _
    (sym c.is_hazards.ensures ∙ c.if-is_hazards.false) c.requires.some h refl)

pub returns-else-is_hazards-clause-sound : goal.returns-else-is_hazards-clause-sound
returns-else-is_hazards-clause-sound c = ok_map c.push_row.result _ _ c.push_row.ensures.sound (λ x h. record { rows = h; hazards = c.requires.sound.hazards })
