use Rattle.std.proofs.Common.{◌∙◌, ◌++◌, ◌∷◌, [], List, ℕ, sym, ap, if◌then◌else◌}
use Rattle.std.specs.Prelude.{IfOk, Result, Ok, Err, Option}
use Rattle.il_core.specs.declared.memory.NoMemory.{NoMemory}
use Rattle.il_types.specs.Names.{Table, entries_from, IsDeclared}
use Rattle.il_types.proofs.Declaring.{IsFar, far_start, far_found, far_next, far_declared}
use Rattle.il_types.proofs.names.Names.declare_enumeration.Goals as goal

pub returns-then-is_taken : goal.returns-then-is_taken
returns-then-is_taken c =
    let before = c.args.self.now in
    let at = c.args.at in
    let rest = entries_from 0 at 1 c.args.values.now in
    far_found before (((0, c.args.name.now), (at, 0)) ∷ rest) before c.declare.new.self rest ((0, c.args.name.now), (at, 0)) (far_start before (((0, c.args.name.now), (at, 0)) ∷ rest))
    (sym c.in_ok-is_taken.ensures.taken ∙ c.if-is_taken.true)

-- the values behind the name
others : (before es table rest now : Table) (r : Result (Option (List ℕ)) NoMemory) → IsFar before es table rest
    → IfOk r (λ o. IsDeclared table now rest o) → IfOk r (λ o. IsDeclared before now es o)
others before es table rest now (Ok o) f d = far_declared before es table rest now o f d
others before es table rest now (Err e) f d = tt

pub returns-else-is_taken : goal.returns-else-is_taken
returns-else-is_taken c =
    let before = c.args.self.now in
    let at = c.args.at in
    let name = c.args.name.now in
    let rest = entries_from 0 at 1 c.args.values.now in
    let far = far_next before (((0, name), (at, 0)) ∷ rest) before c.declare.new.self rest ((0, name), (at, 0)) (far_start before (((0, name), (at, 0)) ∷ rest))
    (sym c.in_ok-is_taken.ensures.taken ∙ c.if-is_taken.false)
    (c.in_ok-is_taken.ensures.names ∙ ap (λ b. if b then before else before ++ ((0, name), (at, 0)) ∷ []) c.if-is_taken.false) in
    others before (((0, name), (at, 0)) ∷ rest) c.declare.new.self rest c.declare_values.new.self c.declare_values.result far c.declare_values.ensures
