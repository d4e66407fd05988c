use Rattle.std.proofs.Common.{◌≡◌, ◌∙◌, ap, sym, subst, inl, inr, [], ◌∷◌, ◌++◌, map, length, All}
use Rattle.std.proofs.lemmas.List.{map-append}
use Rattle.path_inputs.proofs.Elements.{all-both, members-all}
use Rattle.semantic_tables.specs.Row.{NormalRow, row_of}
use Rattle.semantic_tables.specs.Fit.{HasSoundLiterals}
use Rattle.semantic_tables.proofs.Walks.{ok_from}
use Rattle.semantic_tables.proofs.walking.push_row.Goals as goal

pub returns-clause-adds : goal.returns-clause-adds
returns-clause-adds c =
    ok_from c.push.result (c.push.new.self ≡ c.args.rows.now ++ c.in_ok-row_at.field-0 ∷ []) _ c.push.ensures.ok
    (λ e x. ap (map row_of) e ∙ map-append row_of c.args.rows.now (c.in_ok-row_at.field-0 ∷ []) ∙ ap (λ (r : NormalRow). map row_of c.args.rows.now ++ r ∷ []) c.in_ok-row_at.ensures.row)

pub returns-clause-sound : goal.returns-clause-sound
returns-clause-sound c =
    let n = length c.args.exploration.proc.now.places in
    let row : HasSoundLiterals n c.in_ok-row_at.field-0 = subst (λ m. HasSoundLiterals m c.in_ok-row_at.field-0) c.requires.env.size c.in_ok-row_at.ensures.sound in
    let one : All (HasSoundLiterals n) (c.in_ok-row_at.field-0 ∷ []) =
    members-all (HasSoundLiterals n) (c.in_ok-row_at.field-0 ∷ []) (λ r i. elim i [ inl e ↦ subst (HasSoundLiterals n) e row | inr j ↦ absurd j ]) in
    ok_from c.push.result (c.push.new.self ≡ c.args.rows.now ++ c.in_ok-row_at.field-0 ∷ []) _ c.push.ensures.ok
    (λ e x. subst (All (HasSoundLiterals n)) (sym e) (all-both (HasSoundLiterals n) c.args.rows.now (c.in_ok-row_at.field-0 ∷ []) c.requires.sound one))
