-- Where the names of a statement are looked up, told by the table of all declarations and the number of its procedure; and how many procedures
-- begin before it.
use Rattle.std.proofs.Common.{◌≡◌, ℕ, zero, suc, ◌<◌, ◌≤◌, ◌∙◌, sym, ap, subst, List, length, arith}
use Rattle.il_core.specs.Statement.{Statement, Placed, procedure}
use Rattle.il_types.specs.declared.counts.Counts.{Counts}
use Rattle.il_types.specs.declared.rules.Rule.{Rule}
use Rattle.il_types.specs.Counts.{counts_behind}
use Rattle.il_types.specs.Names.{Table, Setting, setting, front_of, counts_at}
use Rattle.il_built.specs.Holding.{setting_at}
use Rattle.il_built.proofs.Given.{stands, counts_next}
use Rattle.call_rules.specs.Calls.{fault_in, fault_at}

pub setting_here : (stmts : List Placed) (table : Table) (owner i : ℕ) (s : Setting) → table ≡ (front_of stmts).table → owner ≡ (counts_at stmts i).procedures
    → s ≡ setting table stmts owner i → s ≡ setting_at stmts i
setting_here stmts table owner i s t o e =
    e ∙ ap (λ (u : Table). setting u stmts owner i) t ∙ ap (λ n. setting (front_of stmts).table stmts n i) o

-- what a statement breaks, told by where it stands
pub fault_here : (r : Rule) (stmts : List Placed) (i : ℕ) (x : Statement) (s : Setting) (c : Counts) → s ≡ setting_at stmts i → c ≡ counts_at stmts i
    → fault_in r s c x ≡ fault_at r stmts i x
fault_here r stmts i x s c e h = ap (λ (t : Setting). fault_in r t c x) e ∙ ap (λ (d : Counts). fault_in r (setting_at stmts i) d x) h

one_more : (c : Counts) (x : Statement) (n : ℕ) → c.procedures ≤ n → (counts_behind c x).procedures ≤ suc n
one_more c (procedure name) n h = omega arith
one_more c x n h = omega arith

-- no more procedures than statements
pub procedures_at_most : (stmts : List Placed) (i : ℕ) → i < length stmts → (counts_at stmts i).procedures ≤ i
procedures_at_most stmts zero h = omega arith
procedures_at_most stmts (suc i) h =
    let x = stands stmts i (omega arith) in
    subst (λ (c : Counts). c.procedures ≤ suc i) (sym (counts_next stmts i x.0 x.1)) (one_more (counts_at stmts i) x.0.says i (procedures_at_most stmts i (omega arith)))
