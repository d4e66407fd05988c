-- Each input of a region has one row of its table and one of its long rows; and the region has no two tables.
use Rattle.std.proofs.Common.{◌≡◌, sym, ap, ◌∙◌, ℕ, zero, suc, Option, Some, None, Ok, Err, List, map}
use Rattle.std.proofs.lemmas.Option.{same_Some}
use Rattle.il_core.specs.Evaluation.{State}
use Rattle.il_core.specs.Input.{IsInput}
use Rattle.il_core.specs.Procedure.{Procedure}
use Rattle.il_core.specs.Run.{IsInRange}
use Rattle.il_core.specs.declared.line.Place.{Place}
use Rattle.control_flow.specs.declared.control.LoopInfo.{LoopInfo}
use Rattle.sym_simplify.specs.Laws.{NormalTermsKeepValues}
use Rattle.region_paths.specs.Listing.{RegionPath, IsShortPath, IsLongPath}
use Rattle.region_paths.specs.Size.{IsPast, past_of}
use Rattle.region_paths.specs.Stepping.{StepsTo, LongStepsTo, TakesOne}
use Rattle.region_paths.specs.Laws.{BeginsRegion, InputsTakeOnePath, OneListing}
use Rattle.region_paths.specs.declared.limit.Limit.{Limit}
use Rattle.region_paths.proofs.Orders.{one_listing}
use Rattle.semantic_tables.specs.Row.{row_of, normal_row, forms_of}
use Rattle.semantic_tables.specs.Table.{IsOpenPath, AreRowsOf, IsTableOf, IsTable, IsLongTable}
use Rattle.semantic_tables.specs.OneRow.{OneRowEach, OneLongRowEach}
use Rattle.semantic_tables.specs.Laws.{told, HasOneTable}
use Rattle.semantic_tables.specs.declared.row.Row.{Row}
use Rattle.semantic_tables.specs.declared.row.TableOr.{TableOr}
use Rattle.semantic_tables.specs.declared.row.TableOr.TheVariants.{Table, Past}
use Rattle.semantic_tables.proofs.Holding.{forms_hold-same, met_not_refuted}
use Rattle.semantic_tables.proofs.Rows.{one_row}

input_in_range : (places : List Place) (pc : ℕ) (s : State) → IsInput places pc s → IsInRange places s
input_in_range places zero s i = i.in_range
input_in_range places (suc pc) s i = i

-- the path that an input takes is not plainly refuted
taken_open : (p : Procedure) (loops : List LoopInfo) (pc : ℕ) (s : State) → IsInput p.places pc s → (t : TakesOne (IsShortPath p loops pc) (StepsTo p loops pc s) s)
    → IsOpenPath p loops pc t.path
taken_open p loops pc s i t = (t.there, met_not_refuted p.places pc (forms_of t.path) s i (forms_hold-same t.path.row.literals s ∙ t.holds))

pub one_row_each : (p : Procedure) (loops : List LoopInfo) (pc : ℕ) (t : TableOr) → InputsTakeOnePath → NormalTermsKeepValues → BeginsRegion p loops pc → IsTable p loops pc t
    → OneRowEach p loops pc t
one_row_each p loops pc (Table rows) takes keep b k = λ s i.
    let one = (takes p loops pc s b (input_in_range p.places pc s i)).short in
    one_row (IsOpenPath p loops pc) (IsShortPath p loops pc) (StepsTo p loops pc s) rows s keep k.1 one (taken_open p loops pc s i one) (λ r o. o.0)
one_row_each p loops pc (Past limit) takes keep b k = tt

pub one_long_row_each : (p : Procedure) (loops : List LoopInfo) (pc : ℕ) (t : TableOr) → InputsTakeOnePath → NormalTermsKeepValues → BeginsRegion p loops pc → IsLongTable p loops pc t
    → OneLongRowEach p loops pc t
one_long_row_each p loops pc (Table rows) takes keep b k = λ s i.
    let one = (takes p loops pc s b (input_in_range p.places pc s i)).long in
    one_row (IsLongPath p loops pc) (IsLongPath p loops pc) (LongStepsTo p loops pc s) rows s keep k.1 one one.there (λ r o. o)
one_long_row_each p loops pc (Past limit) takes keep b k = tt

-- a region is past one limit alone, or none
one_limit : (p : Procedure) (loops : List LoopInfo) (pc : ℕ) (a b : Option Limit) → OneListing → IsPast p loops pc a → IsPast p loops pc b → a ≡ b
one_limit p loops pc a b one h k = sym h.2 ∙ ap past_of ((one p loops pc).long h.0 k.0 h.1 k.1) ∙ k.2

-- rows of the same paths are the same
same_rows : (P : RegionPath → Type 0) (a b : List Row) → AreRowsOf P a → AreRowsOf P b → map row_of a ≡ map row_of b
same_rows P a b h k = h.2 ∙ ap (λ l. map normal_row l) (one_listing P h.0 k.0 h.1 k.1) ∙ sym k.2

same_told : (P : RegionPath → Type 0) (p : Procedure) (loops : List LoopInfo) (pc : ℕ) (t u : TableOr) → OneListing → IsTableOf P p loops pc t → IsTableOf P p loops pc u → told t ≡ told u
same_told P p loops pc (Table a) (Table b) one h k = ap Ok (same_rows P a b h.1 k.1)
same_told P p loops pc (Table a) (Past m) one h k = let e : None ≡ Some m = one_limit p loops pc None (Some m) one h.0 k in absurd cc
same_told P p loops pc (Past l) (Table b) one h k = let e : Some l ≡ None = one_limit p loops pc (Some l) None one h k.0 in absurd cc
same_told P p loops pc (Past l) (Past m) one h k = ap Err (same_Some l m (one_limit p loops pc (Some l) (Some m) one h k))

pub one_table : (p : Procedure) (loops : List LoopInfo) (pc : ℕ) → OneListing → HasOneTable p loops pc
one_table p loops pc one = record {
  short = λ t u. same_told (IsOpenPath p loops pc) p loops pc t u one;
  long = λ t u. same_told (IsLongPath p loops pc) p loops pc t u one;
}
