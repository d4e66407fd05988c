use Rattle.std.proofs.Common.{refl, sym, append-nil, [], ◌∷◌, map, Result, Ok, Err, IfOk}
use Rattle.std.specs.Prelude.{OnOk}
use Rattle.il_core.specs.Checked.{procedure_of}
use Rattle.semantic_tables.specs.Row.{row_of}
use Rattle.row_inputs.specs.Input.{TestInputsAre}
use Rattle.malpas_suite.proofs.inputs.add_inputs.Goals as goal

pub inputs-requires-clause-fits : goal.inputs-requires-clause-fits
inputs-requires-clause-fits c = rw c.as_slice.ensures (rw c.in-Table.is at c.requires.fits)

-- what is known once something succeeded
where_ok : {T E : Type 0} (P : Type 0) (Q : T → Type 0) (r : Result T E) → ((x : T) → P → Q x) → OnOk r P → IfOk r Q
where_ok P Q (Ok x) f h = f x h
where_ok P Q (Err e) f h = tt

pub returns-in_ok-rows-in-Table : goal.returns-in_ok-rows-in-Table
returns-in_ok-rows-in-Table c =
    let exact : TestInputsAre (procedure_of c.args.proc.now) c.args.control.now.loops c.args.table.now.pc (map row_of c.in-Table.rows) c.in_ok-rows-in-Table.rows =
    rw c.as_slice.ensures at c.in_ok-rows-in-Table.ensures.exact in
    where_ok _ _ c.push.result (λ x e. (record { pc = c.args.table.now.pc; rows = c.in_ok-rows-in-Table.rows } ∷ [], rw c.in-Table.is (refl, exact, tt), e)) c.push.ensures.ok

pub returns-in-Past : goal.returns-in-Past
returns-in-Past c = ([], rw c.in-Past.is tt, sym (append-nil c.args.all.now))
