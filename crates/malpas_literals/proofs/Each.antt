-- What is found of the first procedures of a text, and of one more.
use Rattle.std.proofs.Common.{◌≡◌, ℕ, ◌<◌, ◌≤◌, List, [], ◌∷◌, ◌++◌, length, take, get_or, map, sym, ap, subst, ◌∙◌, arith}
use Rattle.std.proofs.lemmas.List.{length-map, get_or-map, take_all}
use Rattle.il_core.specs.Checked.{NamedProcedure, NamedText}
use Rattle.il_core.specs.Text.{TextProcedure, text_procedure, text_of}
use Rattle.malpas_literals.specs.Threatened.{IsThreatened, AreThreatened}
use Rattle.malpas_literals.specs.declared.threats.Threatened.{Threatened}

-- What is found of the first procedures and of the next one is that of the first procedures, one more.
found_more : (ps : List TextProcedure) (rs : List Threatened) (p : TextProcedure) (r : Threatened) → length rs < length ps → get_or ps (length rs) p ≡ p
    → AreThreatened (take (length rs) ps) rs → IsThreatened p r → AreThreatened (take (length (rs ++ r ∷ [])) ps) (rs ++ r ∷ [])
found_more [] rs p r few at all next = absurd (omega arith)
found_more (q ∷ ps) [] p r few at all next = (subst (λ (x : TextProcedure). IsThreatened x r) (sym at) next, tt)
found_more (q ∷ ps) (x ∷ rs) p r few at all next = (all.0, found_more ps rs p r (omega arith) at all.1 next)

-- So it is where the next procedure is the one at `i` of the checked text's.
pub found_next : (text : NamedText) (items : List NamedProcedure) (i : ℕ) (p : NamedProcedure) (before now : List Threatened) (r : Threatened)
    → items ≡ text.procs → i < length items → p ≡ get_or items i p → length before ≡ i
    → AreThreatened (take (length before) (text_of text).procs) before → IsThreatened (text_procedure p) r → now ≡ before ++ r ∷ []
    → AreThreatened (take (length now) (text_of text).procs) now
found_next text items i p before now r all few item made found next more =
    let here : i < length text.procs = rw (← all) few in
    let at : get_or (map text_procedure text.procs) i (text_procedure p) ≡ text_procedure p =
    get_or-map text_procedure text.procs i p (text_procedure p) here ∙ ap text_procedure (ap (λ l. get_or l i p) (sym all) ∙ sym item) in
    subst (λ rs. AreThreatened (take (length rs) (text_of text).procs) rs) (sym more)
    (found_more (text_of text).procs before (text_procedure p) r (omega (arith, made, here, length-map text.procs text_procedure)) (rw made at) found next)

-- What is found of as many procedures as there are is found of all.
pub found_all : (ps : List TextProcedure) (rs : List Threatened) → length ps ≤ length rs → AreThreatened (take (length rs) ps) rs → AreThreatened ps rs
found_all ps rs many found = subst (λ qs. AreThreatened qs rs) (take_all (length rs) ps many) found
