-- The places of a procedure have small ranges, where the variables that are declared have.
use Rattle.std.proofs.Common.{◌≡◌, ℕ, zero, suc, ◌≤◌, sym, subst, refl, inl, inr, Bool, true, false, cond, List, [], ◌∷◌, ◌++◌, length, arith}
use Rattle.std.specs.Prelude.{Some, map, filter}
use Rattle.std.proofs.lemmas.Bool.{cases_eq}
use Rattle.std.proofs.lemmas.Option.{same_Some}
use Rattle.il_core.specs.Bounds.{AreSmall, place_bounds}
use Rattle.il_core.specs.Checked.{is_copied, old_copy}
use Rattle.il_core.specs.Statement.{Statement, Placed, variable}
use Rattle.il_core.specs.declared.line.Place.{Place}
use Rattle.il_core.specs.declared.statement.Mode.{Mode}
use Rattle.il_core.specs.declared.statement.TypeUse.{TypeUse}
use Rattle.il_types.specs.Built.{place_of}
use Rattle.il_types.specs.Names.{Setting, counts_at}
use Rattle.il_built.specs.CheckedText.{of_procedure, declared_place, places_of, variables_of}
use Rattle.il_built.specs.Holding.{setting_at}
use Rattle.il_built.proofs.Given.{given_by, given_next, given_here, not_given, stands}
use Rattle.call_checks.specs.WellFormed.{HaveSmallRanges}
use Rattle.call_sound.specs.Laws.{HaveSmallBounds}

abbrev IsSmall : Place → Type 0
IsSmall p = AreSmall (place_bounds (Some p))

abbrev AllSmall : List Place → Type 0
AllSmall [] = Unit {0}
AllSmall (p ∷ ps) = IsSmall p × AllSmall ps

small_there : (ps : List Place) → AllSmall ps → HaveSmallRanges ps
small_there [] h k place there = absurd (cc)
small_there (p ∷ ps) h zero place there = subst IsSmall (same_Some _ _ there) h.0
small_there (p ∷ ps) h (suc k) place there = small_there ps h.1 k place there

small_append : (ps qs : List Place) → AllSmall ps → AllSmall qs → AllSmall (ps ++ qs)
small_append [] qs h g = g
small_append (p ∷ ps) qs h g = (h.0, small_append ps qs h.1 g)

small_filter : (f : Place → Bool) (ps : List Place) → AllSmall ps → AllSmall (filter f ps)
small_filter f [] h = tt
small_filter f (p ∷ ps) h = by (f p) (small_filter f ps h.1)
  where
    by : (b : Bool) → AllSmall (filter f ps) → AllSmall (cond b (p ∷ filter f ps) (filter f ps))
    by true g = (h.0, g)
    by false g = g

small_copies : (ps : List Place) → AllSmall ps → AllSmall (map old_copy ps)
small_copies [] h = tt
small_copies (p ∷ ps) h = (h.0, small_copies ps h.1)

declared_small : (s : Setting) (x : Statement) → ((m : Mode) (name : List ℕ) (used : TypeUse) → x ≡ variable m name used → IsSmall (place_of s (variable m name used)))
    → AllSmall (declared_place s x)
declared_small s (variable m name used) h = (h m name used refl, tt)
declared_small s _ h = tt

variables_small : (stmts : List Placed) (owner n : ℕ) → HaveSmallBounds stmts → n ≤ length stmts
    → AllSmall (given_by (λ i x. declared_place (setting_at stmts i) x) stmts owner n)
variables_small stmts owner zero h within = tt
variables_small stmts owner (suc n) h within =
    let give = λ (k : ℕ) (y : Statement). declared_place (setting_at stmts k) y in
    let x = stands stmts n (omega arith) in
    let here : AllSmall (of_procedure give stmts owner n) = elim (cases_eq (counts_at stmts n).procedures owner) [
      | inl e ↦ subst AllSmall (sym (given_here give stmts owner n x.0 x.1 e))
          (declared_small (setting_at stmts n) x.0.says (λ m name used says. h n m name used (record { stmt = x.0; there = x.1; says = says })))
      | inr e ↦ subst AllSmall (sym (not_given give stmts owner n x.0 x.1 e)) tt
    ] in
    subst AllSmall (sym (given_next give stmts owner n)) (small_append _ _ (variables_small stmts owner n h (omega arith)) here)

pub places_small : (stmts : List Placed) (owner : ℕ) → HaveSmallBounds stmts → HaveSmallRanges (places_of stmts owner)
places_small stmts owner h =
    let vs = variables_small stmts owner (length stmts) h (omega arith) in
    let copies = small_copies (filter is_copied (variables_of stmts owner)) (small_filter is_copied (variables_of stmts owner) vs) in
    small_there (places_of stmts owner) (small_append (variables_of stmts owner) _ vs copies)
