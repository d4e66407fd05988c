-- The memo holds over the pool to which the node of a substituted term is added.
use Rattle.sym_terms.proofs.Memos.{on_ok}
use Rattle.sym_terms.proofs.Terms.{within_kept, memo_kept}
use Rattle.sym_terms.proofs.pool.Pool.+substitution.Goals as goal

pub fresh_in-returns-in_ok-left-in-Add-clause-memo : goal.fresh_in-returns-in_ok-left-in-Add-clause-memo
fresh_in-returns-in_ok-left-in-Add-clause-memo t c =
    on_ok c.put.result _
    (memo_kept c.sides_in.new.self c.put.new.self c.args.env.now c.sides_in.new.memo c.put.ensures.kept
    (within_kept c.args.self.now c.sides_in.new.self c.args.env.now c.in_ok-left-in-Add.ensures.kept c.requires.env)
    c.in_ok-left-in-Add.ensures.memo)

pub fresh_in-returns-in_ok-left-in-Mul-clause-memo : goal.fresh_in-returns-in_ok-left-in-Mul-clause-memo
fresh_in-returns-in_ok-left-in-Mul-clause-memo t c =
    on_ok c.put-in-Mul.result _
    (memo_kept c.sides_in-in-Mul.new.self c.put-in-Mul.new.self c.args.env.now c.sides_in-in-Mul.new.memo c.put-in-Mul.ensures.kept
    (within_kept c.args.self.now c.sides_in-in-Mul.new.self c.args.env.now c.in_ok-left-in-Mul.ensures.kept c.requires.env)
    c.in_ok-left-in-Mul.ensures.memo)

pub fresh_in-returns-in_ok-left-in-Div-clause-memo : goal.fresh_in-returns-in_ok-left-in-Div-clause-memo
fresh_in-returns-in_ok-left-in-Div-clause-memo t c =
    on_ok c.put-in-Div.result _
    (memo_kept c.sides_in-in-Div.new.self c.put-in-Div.new.self c.args.env.now c.sides_in-in-Div.new.memo c.put-in-Div.ensures.kept
    (within_kept c.args.self.now c.sides_in-in-Div.new.self c.args.env.now c.in_ok-left-in-Div.ensures.kept c.requires.env)
    c.in_ok-left-in-Div.ensures.memo)

pub fresh_in-returns-in_ok-left-in-Mod-clause-memo : goal.fresh_in-returns-in_ok-left-in-Mod-clause-memo
fresh_in-returns-in_ok-left-in-Mod-clause-memo t c =
    on_ok c.put-in-Mod.result _
    (memo_kept c.sides_in-in-Mod.new.self c.put-in-Mod.new.self c.args.env.now c.sides_in-in-Mod.new.memo c.put-in-Mod.ensures.kept
    (within_kept c.args.self.now c.sides_in-in-Mod.new.self c.args.env.now c.in_ok-left-in-Mod.ensures.kept c.requires.env)
    c.in_ok-left-in-Mod.ensures.memo)
