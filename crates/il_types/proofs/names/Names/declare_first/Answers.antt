use Rattle.std.proofs.Common.{◌≡◌, ◌∙◌, sym, ap}
use Rattle.std.specs.Prelude.{None, is_some}
use Rattle.std.specs.Map.{lookup}
use Rattle.il_types.specs.Names.{same_key}
use Rattle.il_types.proofs.FirstNames.{goes_new, goes_kept, absent, present}
use Rattle.il_types.proofs.names.Names.declare_first.Goals as goal

pub returns-in_ok-insert : goal.returns-in_ok-insert
returns-in_ok-insert c =
    let view = c.self.view_is in
    let same : c.args.self.now ≡ c.self.inside.table.entries = cc in
    let none : lookup (same_key (c.args.scope, c.args.name.now)) c.args.self.now ≡ None = absent _ (sym (ap is_some c.get.ensures) ∙ c.if-is_none.ensures) in
    goes_new c.self.inside.table c.args.self.now c.insert.new.self.entries (c.args.scope, c.args.name.now) (c.args.at, c.args.index) same c.in_ok-insert.ensures.entries none

pub returns-else-is_none : goal.returns-else-is_none
returns-else-is_none c =
    let found = present _ (sym (ap is_some c.get.ensures) ∙ c.if-is_none.ensures) in
    goes_kept c.args.self.now ((c.args.scope, c.args.name.now), (c.args.at, c.args.index)) found.0 found.1
