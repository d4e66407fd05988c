use Rattle.std.proofs.Common.{◌≡◌, ◌∙◌, sym, ap, List, [], ◌∷◌, ◌++◌, ℕ, None, Some}
use Rattle.std.specs.Prelude.{codes, decimal, if◌then◌else◌}
use Rattle.std.proofs.lemmas.Option.{none-some}
use Rattle.il_core.specs.Name.{is_name}
use Rattle.il_called.specs.Expansion.{brought_name}
use Rattle.il_inline.proofs.BroughtName.{name_of, letter_is}
use Rattle.il_inline.proofs.naming.brought_name.Goals as goal

pub unreachable-requires : goal.unreachable-requires
unreachable-requires c =
    let place = c.args.place.now in
    let letter : c.letter_of.result ∷ [] ≡ (if place.old then codes "o" else codes "c") = ap (λ (n : ℕ). n ∷ []) c.letter_of.ensures ∙ letter_is place.old in
    let first : c.push.new.self.items ≡ (if place.old then codes "o" else codes "c") =
    c.in_ok-push.ensures.items ∙ ap (λ (l : List ℕ). l ++ c.letter_of.result ∷ []) c.new-bytes.ensures.items ∙ letter in
    let second : c.extend_from_slice.new.self.items ≡ (if place.old then codes "o" else codes "c") ++ decimal c.args.call =
    c.in_ok-extend_from_slice.ensures.items ∙ ap (λ (l : List ℕ). l ++ c.as_bytes.result.now) first
    ∙ ap (λ (l : List ℕ). (if place.old then codes "o" else codes "c") ++ l) (c.as_bytes.ensures.value ∙ c.format.ensures.text) in
    let third : c.extend_from_slice-2.new.self.items ≡ (if place.old then codes "o" else codes "c") ++ decimal c.args.call ++ codes "_" =
    c.in_ok-extend_from_slice-2.ensures.items ∙ ap (λ (l : List ℕ). l ++ codes "_") second in
    let whole : c.extend_from_slice-3.new.self.items ≡ brought_name c.args.call place =
    c.in_ok-extend_from_slice-3.ensures.items ∙ ap (λ (l : List ℕ). l ++ c.as_bytes-2.result.now) third
    ∙ ap (λ (l : List ℕ). (if place.old then codes "o" else codes "c") ++ decimal c.args.call ++ codes "_" ++ l) c.as_bytes-2.ensures.value in
    let is = name_of c.args.call place c.ranges.call.fits c.as_bytes-2.ensures.is_name c.requires in
    let text : c.as_slice.result.now ≡ brought_name c.args.call place = c.as_slice.ensures.value ∙ whole in
    none-some _ (sym c.in-None.is ∙ c.new.ensures ∙ ap (λ (l : List ℕ). if is_name l then Some l else None) text ∙ ap (λ b. if b then Some (brought_name c.args.call place) else None) is)
