-- The items of OLD copies, one after the other.
use Rattle.std.proofs.Common.{◌≡◌, ◌∙◌, sym, ap, append_assoc, ℕ, suc, ◌+◌, ◌-◌, ◌<◌, List, [], ◌∷◌, ◌++◌, length, arith}
use Rattle.std.specs.Prelude.{count_by}
use Rattle.std.proofs.lemmas.List.Sums.{length-filter}
use Rattle.il_core.specs.Run.{is_variable, variable_count}
use Rattle.il_core.specs.declared.certificate.Item.{Item}
use Rattle.il_core.specs.declared.certificate.Item.TheVariants.{OldUp, OldDown}
use Rattle.il_core.specs.declared.line.Place.{Place}
use Rattle.threat_certs.specs.Counting.{copied_items}

next : (k : ℕ) → suc k ≡ k + 1
next k = omega arith

pub copied-begin : (places : List Place) (items : List Item) (v : ℕ) → items ≡ [] → v ≡ count_by is_variable places
    → items ++ copied_items v (length places - v) ≡ copied_items (variable_count places) (length places - variable_count places)
copied-begin places items v e f =
    ap (λ ys. ys ++ copied_items v (length places - v)) e ∙ ap (λ k. copied_items k (length places - k)) (f ∙ sym (length-filter is_variable places))

copied-next : (n c : ℕ) → c < n → copied_items c (n - c) ≡ OldUp c ∷ OldDown c ∷ copied_items (c + 1) (n - (c + 1))
copied-next n c h =
    let e : n - c ≡ suc (n - (c + 1)) = omega arith in
    ap (copied_items c) e ∙ ap (λ k. OldUp c ∷ OldDown c ∷ copied_items k (n - (c + 1))) (next c)

copied-step : (n c : ℕ) (before all : List Item) → c < n → before ++ copied_items c (n - c) ≡ all
    → ((before ++ OldUp c ∷ []) ++ OldDown c ∷ []) ++ copied_items (c + 1) (n - (c + 1)) ≡ all
copied-step n c before all h e =
    append_assoc (before ++ OldUp c ∷ []) (OldDown c ∷ []) (copied_items (c + 1) (n - (c + 1)))
    ∙ (append_assoc before (OldUp c ∷ []) (OldDown c ∷ copied_items (c + 1) (n - (c + 1)))
    ∙ (ap (λ ys. before ++ ys) (sym (copied-next n c h)) ∙ e))

pub copied-pushed : (n c : ℕ) (before middle after all : List Item) → c < n → middle ≡ before ++ OldUp c ∷ [] → after ≡ middle ++ OldDown c ∷ [] → before ++ copied_items c (n - c) ≡ all
    → after ++ copied_items (c + 1) (n - (c + 1)) ≡ all
copied-pushed n c before middle after all h e f g =
    ap (λ ys. ys ++ copied_items (c + 1) (n - (c + 1))) (f ∙ ap (λ ys. ys ++ OldDown c ∷ []) e) ∙ copied-step n c before all h g
