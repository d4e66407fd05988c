-- The places of an expansion have ranges and stand in order.
use Rattle.std.proofs.Common.{◌≡◌, sym, ap, ◌∙◌, ℕ, ◌+◌, inl, inr, Some, List, [], ◌++◌, length, map, drop, slice_get, append-nil}
use Rattle.std.specs.Prelude.{filter, not}
use Rattle.std.proofs.lemmas.List.Elements.{filter-append}
use Rattle.il_core.specs.Checked.{HasRange, AreInOrder, old_copy, is_copied}
use Rattle.il_core.specs.Run.{is_variable, is_inout}
use Rattle.il_core.specs.declared.line.Place.{Place}
use Rattle.il_called.specs.Called.{WrittenProcedure}
use Rattle.il_called.specs.Expansion.{Callee, variables_in, each_from, places_of, expansion_of}
use Rattle.il_inline.proofs.Texts.{kept_left}
use Rattle.il_runs.proofs.Blocks.{dropped}
use Rattle.call_checks.specs.Laws.{AreCallable}
use Rattle.call_checks.specs.WellFormed.{IsWellFormed}
use Rattle.call_checks.proofs.Brought.{all_local}
use Rattle.call_checks.proofs.Filtered.{filter_all, filter_none, filter_passes, drop_front}
use Rattle.call_checks.proofs.Found.{mapped, parted}

-- LOCAL variables between the variables and the OLD copies leave the order as it is
order_kept : (variables middle copies : List Place) → filter is_variable variables ≡ variables → filter is_variable middle ≡ middle → filter is_variable copies ≡ []
    → filter is_copied middle ≡ [] → copies ≡ map old_copy (filter is_copied variables) → AreInOrder (variables ++ middle ++ copies)
order_kept variables middle copies v m c none are =
    let all : filter is_variable (variables ++ middle ++ copies) ≡ variables ++ middle =
    filter-append is_variable (variables ++ middle) copies
    ∙ ap (λ l. l ++ filter is_variable copies) (filter-append is_variable variables middle ∙ ap (λ l. l ++ filter is_variable middle) v ∙ ap (λ l. variables ++ l) m)
    ∙ ap (λ l. (variables ++ middle) ++ l) c ∙ append-nil (variables ++ middle) in
    let inouts : filter is_copied (variables ++ middle) ≡ filter is_copied variables =
    filter-append is_copied variables middle ∙ ap (λ l. filter is_copied variables ++ l) none ∙ append-nil (filter is_copied variables) in
    ap (λ l. (variables ++ middle) ++ l) (are ∙ ap (map old_copy) (sym inouts))
    ∙ ap (λ (l : List Place). l ++ map old_copy (filter is_copied l)) (sym all)

pub expansion_in_order : (callees : List Callee) (number : ℕ) (p : WrittenProcedure) → AreCallable callees → IsWellFormed callees p
    → AreInOrder (expansion_of callees number p).places
expansion_in_order callees number p callable formed = order_kept vs middle rest variables
    (filter_all is_variable middle (λ n x e. ap not (all_local callees p callable formed n x e).variable)) old
    (filter_none is_copied middle (λ n x e. ap is_inout (all_local callees p callable formed n x e).local)) copies
  where
    vs : List Place
    vs = variables_in p.places

    middle : List Place
    middle = each_from (places_of callees p) 0 p.lines

    rest : List Place
    rest = drop (length vs) p.places

    variables : filter is_variable vs ≡ vs
    variables = filter_all is_variable vs (λ n x e. filter_passes is_variable p.places n x e)

    copies : rest ≡ map old_copy (filter is_copied vs)
    copies = ap (drop (length vs)) formed.checked.in_order ∙ drop_front vs (map old_copy (filter is_copied vs))

    old : filter is_variable rest ≡ []
    old = ap (filter is_variable) copies
        ∙ filter_none is_variable (map old_copy (filter is_copied vs)) (λ n x e. let r = mapped old_copy (filter is_copied vs) n x e in sym (ap is_variable r.is))

pub expansion_ranges : (callees : List Callee) (number : ℕ) (p : WrittenProcedure) → AreCallable callees → IsWellFormed callees p → (k : ℕ) (place : Place)
    → slice_get (expansion_of callees number p).places k ≡ Some place → HasRange place
expansion_ranges callees number p callable formed k place e = elim (parted (vs ++ middle) rest k place e) [
  | inl h ↦ elim (parted vs middle k place h) [
    | inl v ↦ formed.checked.ranges k place (ap (λ (l : List Place). slice_get l k) formed.checked.in_order ∙ kept_left vs (map old_copy (filter is_copied vs)) k place v)
    | inr m ↦ (all_local callees p callable formed m.member place m.there).range
  ]
  | inr r ↦ formed.checked.ranges (length vs + r.member) place (sym (dropped (length vs) p.places r.member) ∙ r.there)
]
  where
    vs : List Place
    vs = variables_in p.places

    middle : List Place
    middle = each_from (places_of callees p) 0 p.lines

    rest : List Place
    rest = drop (length vs) p.places
