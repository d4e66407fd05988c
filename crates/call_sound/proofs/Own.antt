-- Statements that keep all rules of texts with calls keep those of texts without calls, but for the limits, which are told apart.
use Rattle.std.proofs.Common.{◌≡◌, ℕ, refl, List}
use Rattle.std.specs.Prelude.{Option, Some, None, slice_get}
use Rattle.std.specs.Option.{option_and_then}
use Rattle.il_core.specs.Statement.{Statement, Placed}
use Rattle.il_core.specs.Statement as st
use Rattle.il_core.specs.declared.statement.Link.{Link}
use Rattle.il_types.specs.declared.counts.Counts.{Counts}
use Rattle.il_types.specs.declared.rules.Found.{Found}
use Rattle.il_types.specs.declared.rules.Rule.{Rule}
use Rattle.il_types.specs.declared.rules.Rule.TheVariants as rule
use Rattle.il_types.specs.Names.{Setting, front_of, counts_at}
use Rattle.il_types.specs.Rules.{ComesNowhere, fault, broken, twice, Answers}
use Rattle.il_core.specs.Tree.{Tree}
use Rattle.il_built.specs.Holding.{setting_at}
use Rattle.il_built.proofs.BuiltRanges.{nowhere_at}
use Rattle.call_rules.specs.Calls.{fault_in, fault_at}
use Rattle.call_rules.specs.Clash.{twice_at}
use Rattle.call_sound.proofs.Kept.{KeepsCalls}

-- what is found nowhere where each statement stands is found nowhere
pub nowhere : (pass : ℕ → Statement → Option Found) (stmts : List Placed) → ((i : ℕ) (x : Placed) → slice_get stmts i ≡ Some x → pass i x.says ≡ None) → ComesNowhere pass stmts
nowhere pass stmts none i = by (slice_get stmts i) refl
  where
    by : (o : Option Placed) → slice_get stmts i ≡ o → option_and_then (λ x. pass i x.says) o ≡ None
    by None there = refl
    by (Some x) there = none i x there

-- a statement that breaks a rule breaks it among calls too, but for a CALL
same_fault : (r : Rule) (s : Setting) (c : Counts) (x : Statement) → ((name : List ℕ) (arguments : List Tree) → fault r s c (st.call name arguments) ≡ None)
    → fault_in r s c x ≡ None → fault r s c x ≡ None
same_fault r s c (st.call name arguments) none h = none name arguments
same_fault r s c _ none h = h

own_rule : (r : Rule) (stmts : List Placed) → ((s : Setting) (c : Counts) (name : List ℕ) (arguments : List Tree) → fault r s c (st.call name arguments) ≡ None)
    → ComesNowhere (fault_at r stmts) stmts → ComesNowhere (broken r (front_of stmts).table stmts) stmts
own_rule r stmts none h = nowhere (broken r (front_of stmts).table stmts) stmts
    (λ i x there. same_fault r (setting_at stmts i) (counts_at stmts i) x.says (none (setting_at stmts i) (counts_at stmts i)) (nowhere_at (fault_at r stmts) stmts i x h there))

-- a CALL declares no name
same_twice : (stmts : List Placed) (links : List Link) (i : ℕ) (x : Statement) → twice_at stmts links i x ≡ None → twice stmts i x ≡ None
same_twice stmts links i (st.call name arguments) h = refl
same_twice stmts links i _ h = h

-- where the limits hold of what is written too, the text keeps all rules of texts without calls
pub own_answers : (stmts : List Placed) (links : List Link) → KeepsCalls stmts links → ComesNowhere (broken rule.Limited (front_of stmts).table stmts) stmts → Answers stmts None
own_answers stmts links keeps limited =
    let twice_none = nowhere (twice stmts) stmts (λ i x there. same_twice stmts links i x.says (nowhere_at (twice_at stmts links) stmts i x keeps.once there)) in
    let known = own_rule rule.Known stmts (λ s c name arguments. refl) keeps.known in
    let typed = own_rule rule.Typed stmts (λ s c name arguments. refl) keeps.typed in
    let allowed = own_rule rule.Allowed stmts (λ s c name arguments. refl) keeps.allowed in
    let filled = own_rule rule.Filled stmts (λ s c name arguments. refl) keeps.filled in
    let narrow = own_rule rule.Narrow stmts (λ s c name arguments. refl) keeps.narrow in
    (twice_none, (known, (typed, (allowed, (filled, (narrow, (limited, tt)))))))
