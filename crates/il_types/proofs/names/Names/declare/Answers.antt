use Rattle.std.proofs.Common.{◌≡◌, ◌∙◌, sym, false}
use Rattle.il_types.specs.Names.{is_taken}
use Rattle.il_types.proofs.Declaring.{grown}
use Rattle.il_types.proofs.names.Names.declare.Goals as goal

pub returns-clause-names : goal.returns-clause-names
returns-clause-names c =
    let view = c.self.view_is in
    let same : c.args.self.now ≡ c.self.inside.table.entries = cc in
    let free : is_taken c.args.self.now (c.args.scope, c.args.name.now) ≡ false = sym c.is_taken.ensures ∙ c.if-is_taken.false in
    grown c.self.inside.table c.args.self.now c.insert.new.self.entries (c.args.scope, c.args.name.now) (c.args.at, c.args.index) same c.in_ok-insert.ensures.entries free
