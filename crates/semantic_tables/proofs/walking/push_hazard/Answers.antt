use Rattle.std.proofs.Common.{◌≡◌, ◌∙◌, ap, sym, subst, inl, inr, true, false, Bool, List, [], ◌∷◌, ◌++◌, map, length, All}
use Rattle.std.specs.Prelude.{if◌then◌else◌}
use Rattle.std.proofs.lemmas.List.{append-nil, map-append}
use Rattle.path_inputs.proofs.Elements.{all-both, members-all}
use Rattle.il_core.specs.Run.{is_bad}
use Rattle.il_core.specs.declared.line.Halt.{Halt}
use Rattle.il_core.specs.declared.line.Stop.{Stop}
use Rattle.il_core.specs.declared.line.Stop.TheVariants as stop
use Rattle.sym_simplify.specs.Literal.{LiteralForm}
use Rattle.semantic_tables.specs.Hazards.{NormalHazard, stops_badly, hazard_of, bare, IsLeastOf, HasLeast}
use Rattle.semantic_tables.specs.Walk.{prefix_forms, ended, bad_hazards}
use Rattle.semantic_tables.proofs.Environments.{all_below, all_kept}
use Rattle.semantic_tables.proofs.Refuted.{forms_of_same}
use Rattle.semantic_tables.proofs.Walks.{ok_from, prefix_same}
use Rattle.semantic_tables.proofs.walking.push_hazard.Goals as goal

pub least_of-requires-clause-below : goal.least_of-requires-clause-below
least_of-requires-clause-below c = all_below (length c.args.exploration.proc.now.places) c.args.forms.now.terms c.args.prefix.now.sides.items c.args.prefix.now.literals.items c.requires.prefix

pub least_of-requires-clause-kept : goal.least_of-requires-clause-kept
least_of-requires-clause-kept c = all_kept (length c.args.exploration.proc.now.places) c.args.forms.now.terms c.args.prefix.now.sides.items c.args.prefix.now.literals.items c.requires.prefix

pub hazard_at-requires-clause-prefix : goal.hazard_at-requires-clause-prefix
hazard_at-requires-clause-prefix c = prefix_same (length c.args.exploration.proc.now.places) c.args.forms.now.terms c.args.prefix.now c.least_of.new.prefix c.in_ok-least.ensures.same c.requires.prefix

pub hazard_at-requires-clause-least : goal.hazard_at-requires-clause-least
hazard_at-requires-clause-least c =
    subst (λ (fs : List LiteralForm). IsLeastOf c.args.exploration.proc.now.places c.args.exploration.line fs c.in_ok-least.least)
    (sym (forms_of_same c.args.prefix.now c.least_of.new.prefix c.in_ok-least.ensures.same)) c.in_ok-least.ensures.least

none_bad : (path : List Bool) (fs : List LiteralForm) (end : Stop) → stops_badly end ≡ false → [] ≡ bad_hazards (ended path fs end [])
none_bad path fs end e = ap (λ (b : Bool). if b then bare (ended path fs end []) ∷ [] else []) (sym e)

one_bad : (path : List Bool) (fs : List LiteralForm) (end : Stop) (h : Halt) → end ≡ stop.Halted h → is_bad h ≡ true
    → (let n : NormalHazard = record { path = path; literals = fs; stop = stop.Halted h } in n ∷ []) ≡ bad_hazards (ended path fs end [])
one_bad path fs end h e b =
    ap (λ (x : Stop). bare (ended path fs x []) ∷ []) (sym e) ∙ ap (λ (x : Bool). if x then bare (ended path fs end []) ∷ [] else []) (sym (ap stops_badly e ∙ b))

pub returns-in-None-clause-adds : goal.returns-in-None-clause-adds
returns-in-None-clause-adds c =
    sym (append-nil (map hazard_of c.args.hazards.now))
    ∙ ap (λ (hs : List NormalHazard). map hazard_of c.args.hazards.now ++ hs) (none_bad c.args.prefix.now.path.items (prefix_forms c.args.prefix.now) c.args.stop c.in-None.ensures)

pub returns-clause-adds : goal.returns-clause-adds
returns-clause-adds c =
    let same = c.in_ok-least.ensures.same in
    ok_from c.push.result (c.push.new.self ≡ c.args.hazards.now ++ c.in_ok-hazard_at.field-0 ∷ []) _ c.push.ensures.ok
    (λ e x. ap (map hazard_of) e ∙ map-append hazard_of c.args.hazards.now (c.in_ok-hazard_at.field-0 ∷ [])
    ∙ ap (λ (h : NormalHazard). map hazard_of c.args.hazards.now ++ h ∷ []) c.in_ok-hazard_at.ensures.hazard
    ∙ ap (λ (hs : List NormalHazard). map hazard_of c.args.hazards.now ++ hs)
    (one_bad c.least_of.new.prefix.path.items (prefix_forms c.least_of.new.prefix) c.args.stop c.in-Some.halt c.in-Some.ensures.0 c.in-Some.ensures.1
    ∙ ap (λ (p : List Bool). bad_hazards (ended p (prefix_forms c.least_of.new.prefix) c.args.stop [])) same.path
    ∙ ap (λ (fs : List LiteralForm). bad_hazards (ended c.args.prefix.now.path.items fs c.args.stop [])) (forms_of_same c.args.prefix.now c.least_of.new.prefix same)))

pub returns-clause-least : goal.returns-clause-least
returns-clause-least c =
    let P = HasLeast c.args.exploration.proc.now.places c.args.exploration.line in
    let one : All P (c.in_ok-hazard_at.field-0 ∷ []) = members-all P (c.in_ok-hazard_at.field-0 ∷ []) (λ h i. elim i [ inl e ↦ subst P e c.in_ok-hazard_at.ensures.least | inr j ↦ absurd j ]) in
    ok_from c.push.result (c.push.new.self ≡ c.args.hazards.now ++ c.in_ok-hazard_at.field-0 ∷ []) _ c.push.ensures.ok
    (λ e x. subst (All P) (sym e) (all-both P c.args.hazards.now (c.in_ok-hazard_at.field-0 ∷ []) c.requires.least one))
