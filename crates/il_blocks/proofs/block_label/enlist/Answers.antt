use Rattle.std.proofs.Common.{◌≡◌, ℕ, List, rules, ◌∙◌}
use Rattle.std.specs.Prelude.{Some, None}
use Rattle.indexmap.proofs.CallerLemmas.{insert_entry-new}
use Rattle.il_core.specs.Statement.{statement_of}
use Rattle.il_blocks.specs.BlockLabel.{found, label_of, same_key}
use Rattle.il_blocks.proofs.BlockLabels.{enlisted_new}
use Rattle.il_blocks.proofs.block_label.enlist.Goals as goal

pub returns-in_ok-insert-in-None : goal.returns-in_ok-insert-in-None
returns-in_ok-insert-in-None c =
    let none : found c.args.inside c.in-Some.name c.args.labels.now.entries ≡ None = (search (rules, c.in-None.ensures)) in
    let label : label_of (statement_of c.args.form.now) ≡ Some c.in-Some.name = (search (rules, c.in-Some.ensures)) in
    enlisted_new c.args.inside c.in-Some.name c.args.at c.args.labels.now.entries c.insert.new.self.entries (label_of (statement_of c.args.form.now))
    label none (c.in_ok-insert-in-None.ensures.entries ∙ insert_entry-new (λ (x y : ℕ × List ℕ). same_key x.0 x.1 y) c.args.labels.now (c.args.inside, c.in-Some.name) c.args.at none)
