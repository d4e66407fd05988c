-- Small measures, found by a name.
use Rattle.std.proofs.Common.{◌≡◌, ℕ, ◌-◌, subst, refl, List}
use Rattle.std.specs.Prelude.{Option, Some, None, IfSome, slice_get}
use Rattle.std.specs.List.{All}
use Rattle.std.specs.Option.{option_and_then}
use Rattle.std.proofs.lemmas.List.Elements.{All-get_or}
use Rattle.std.proofs.lemmas.Option.{get_or_from_slice_get, slice_get_within}
use Rattle.il_types.specs.Names.{Setting}
use Rattle.call_rules.specs.Callee.{procedure_named}
use Rattle.call_limits.specs.declared.measures.Measures.{Measures}
use Rattle.call_limits.specs.Measures.{IsSmall, called}

small_at : (table : List Measures) (j : ℕ) → All IsSmall table → IfSome (slice_get table j) IsSmall
small_at table j h = by (slice_get table j) refl
  where
    by : (o : Option Measures) → slice_get table j ≡ o → IfSome o IsSmall
    by None e = tt
    by (Some m) e = subst IsSmall (get_or_from_slice_get table j m m e) (All-get_or IsSmall table j m (slice_get_within table j m e) h)

pub small_called : (table : List Measures) (s : Setting) (name : List ℕ) → All IsSmall table → IfSome (called table s name) IsSmall
small_called table s name h = by (procedure_named s name)
  where
    by : (o : Option ℕ) → IfSome (option_and_then (λ c. slice_get table (c - 1)) o) IsSmall
    by None = tt
    by (Some c) = small_at table (c - 1) h
