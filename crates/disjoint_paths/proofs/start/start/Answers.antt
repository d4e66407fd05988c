use Rattle.std.proofs.Common.{◌∙◌, ◌≡◌, ap, List, [], ◌∷◌, ◌++◌}
use Rattle.disjoint_paths.specs.declared.widening.Opened.{Opened}
use Rattle.disjoint_paths.specs.declared.widening.Origin.TheVariants.{Tail}
use Rattle.disjoint_paths.specs.Asked.{arcs_of, targets_of}
use Rattle.disjoint_paths.proofs.Starts.{widening_start}
use Rattle.disjoint_paths.proofs.start.start.Goals as goal

pub returns : goal.returns
returns c =
    let e : c.push.new.self.items ≡ (record { line = c.args.asked.now.tail; origin = Tail; from = 0 }) ∷ [] =
    c.in_ok-push.ensures.items ∙ ap (λ (xs : List Opened). xs ++ (record { line = c.args.asked.now.tail; origin = Tail; from = 0 }) ∷ []) c.new-opened.ensures.items in
    rw e
    (widening_start (arcs_of c.args.asked.now) (targets_of c.args.asked.now) c.args.asked.now.tail c.args.asked.now.path.now _ c.in_ok-roles.roles.items c.requires.first c.requires.simple c.requires.tail
    c.in_ok-roles.ensures)
