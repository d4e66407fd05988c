-- What statements that keep all rules of texts with calls keep.
use Rattle.std.proofs.Common.{◌≡◌, ℕ, refl, Bool, true, false, List}
use Rattle.std.specs.Prelude.{Some, None, slice_get}
use Rattle.il_core.specs.Statement.{Placed}
use Rattle.il_core.specs.declared.refusal.Code.{Code}
use Rattle.il_core.specs.declared.statement.Link.{Link}
use Rattle.il_types.specs.declared.rules.Rule.TheVariants as rule
use Rattle.il_types.specs.Rules.{unless, ComesNowhere}
use Rattle.il_built.proofs.BuiltRanges.{nowhere_at}
use Rattle.il_built.proofs.WithoutFault.{AreWithinLimits, within_limits}
use Rattle.call_rules.specs.Calls.{fault_at}
use Rattle.call_rules.specs.Clash.{twice_at}
use Rattle.call_rules.specs.Fits.{misfit_at}
use Rattle.call_rules.specs.Limits.{counts_with_calls, excess_at}
use Rattle.call_rules.specs.Rules.{Answers}

-- no statement breaks one of these rules
pub record KeepsCalls (stmts : List Placed) (links : List Link) : Type 0 where
  pub once : ComesNowhere (twice_at stmts links) stmts
  pub known : ComesNowhere (fault_at rule.Known stmts) stmts
  pub typed : ComesNowhere (fault_at rule.Typed stmts) stmts
  pub allowed : ComesNowhere (fault_at rule.Allowed stmts) stmts
  pub filled : ComesNowhere (fault_at rule.Filled stmts) stmts
  pub narrow : ComesNowhere (fault_at rule.Narrow stmts) stmts
  pub limited : ComesNowhere (excess_at stmts links) stmts
  pub fitting : ComesNowhere (misfit_at stmts links) stmts

pub keeps_calls : (stmts : List Placed) (links : List Link) → Answers stmts links None → KeepsCalls stmts links
keeps_calls stmts links a = record {
  once = a.0;
  known = a.1.0;
  typed = a.1.1.0;
  allowed = a.1.1.1.0;
  filled = a.1.1.1.1.0;
  narrow = a.1.1.1.1.1.0;
  limited = a.1.1.1.1.1.1.0;
  fitting = a.1.1.1.1.1.1.1.0;
}

-- a test that finds nothing holds
pub holds : (b : Bool) (c : Code) → unless b c ≡ None → b ≡ true
holds true c e = refl
holds false c e = absurd (cc)

-- the counts behind each statement, with what its CALLs count as, keep the limits
pub limited_behind : (stmts : List Placed) (links : List Link) (i : ℕ) (x : Placed) → KeepsCalls stmts links → slice_get stmts i ≡ Some x
    → AreWithinLimits (counts_with_calls stmts links i x.says)
limited_behind stmts links i x keeps there = within_limits (counts_with_calls stmts links i x.says) (nowhere_at (excess_at stmts links) stmts i x keeps.limited there)
