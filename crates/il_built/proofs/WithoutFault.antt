-- A text without a fault keeps each rule, and the counts in front of each of its statements and at its end keep the limits.
use Rattle.std.proofs.Common.{◌≡◌, ℕ, zero, suc, ◌+◌, ◌≤◌, sym, subst, refl, Bool, true, false, List, length, arith, if◌then◌else◌}
use Rattle.std.specs.Prelude.{Some, None, nat_lt}
use Rattle.std.specs.Option.{option_map}
use Rattle.il_core.specs.Statement.{Placed}
use Rattle.il_core.specs.declared.refusal.Code.TheVariants as code
use Rattle.il_core.specs.declared.refusal.Many.TheVariants as many
use Rattle.il_types.specs.declared.counts.Counts.{Counts}
use Rattle.il_types.specs.declared.rules.Rule.TheVariants as rule
use Rattle.il_types.specs.Counts.{counts_behind, too_many}
use Rattle.il_types.specs.Names.{front_of, counts_at}
use Rattle.il_types.specs.Rules.{unnamed, broken, ComesNowhere, Answers}
use Rattle.il_built.proofs.BuiltRanges.{nowhere_at}
use Rattle.il_built.proofs.Given.{stands, counts_next}

-- no statement breaks one of these rules
pub record KeepsRules (stmts : List Placed) : Type 0 where
  pub typed : ComesNowhere (broken rule.Typed (front_of stmts).table stmts) stmts
  pub allowed : ComesNowhere (broken rule.Allowed (front_of stmts).table stmts) stmts
  pub filled : ComesNowhere (broken rule.Filled (front_of stmts).table stmts) stmts
  pub narrow : ComesNowhere (broken rule.Narrow (front_of stmts).table stmts) stmts
  pub limited : ComesNowhere (broken rule.Limited (front_of stmts).table stmts) stmts

-- the statements of a text without a fault break none
pub keeps_rules : (stmts : List Placed) → Answers stmts None → KeepsRules stmts
keeps_rules stmts a = record {
  typed = a.1.1.0;
  allowed = a.1.1.1.0;
  filled = a.1.1.1.1.0;
  narrow = a.1.1.1.1.1.0;
  limited = a.1.1.1.1.1.1.0;
}

-- counts within the limits
pub record AreWithinLimits (c : Counts) : Type 0 where
  pub procedures : c.procedures ≤ 64
  pub lines : c.lines ≤ 1000
  pub places : c.variables + c.copies ≤ 64

-- counts of which there is not too much
pub within_limits : (c : Counts) → option_map (λ m. unnamed (code.TooMany m)) (too_many c) ≡ None → AreWithinLimits c
within_limits c h = by (nat_lt 64 c.procedures) (nat_lt 1000 c.lines) (nat_lt 64 (c.variables + c.copies)) refl refl refl h
  where
    at_most : (n m : ℕ) → nat_lt n m ≡ false → m ≤ n
    at_most n m e = grind arith

    by : (p l q : Bool) → nat_lt 64 c.procedures ≡ p → nat_lt 1000 c.lines ≡ l → nat_lt 64 (c.variables + c.copies) ≡ q
        → option_map (λ m. unnamed (code.TooMany m)) (if p then Some many.Procedures else (if l then Some many.Lines else (if q then Some many.Places else None))) ≡ None
        → AreWithinLimits c
    by true l q e f g h = absurd (cc)
    by false true q e f g h = absurd (cc)
    by false false true e f g h = absurd (cc)
    by false false false e f g h = record { procedures = at_most 64 c.procedures e; lines = at_most 1000 c.lines f; places = at_most 64 (c.variables + c.copies) g }

-- the counts in front of each statement and at the end keep the limits
pub limited_at : (stmts : List Placed) (i : ℕ) → KeepsRules stmts → i ≤ length stmts → AreWithinLimits (counts_at stmts i)
limited_at stmts zero keeps h = record { procedures = omega arith; lines = omega arith; places = omega arith }
limited_at stmts (suc i) keeps h =
    let x = stands stmts i (omega arith) in
    subst AreWithinLimits (sym (counts_next stmts i x.0 x.1))
    (within_limits (counts_behind (counts_at stmts i) x.0.says) (nowhere_at (broken rule.Limited (front_of stmts).table stmts) stmts i x.0 keeps.limited x.1))
