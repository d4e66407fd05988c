use Rattle.std.proofs.Common.{sym, ◌∙◌}
use Rattle.std.proofs.lemmas.Bool.{false≢true}
use Rattle.info_flow.proofs.Growing.{grown_on, less_room}
use Rattle.info_flow.proofs.sets.Sets.settle.Goals as goal

pub returns-clause-grown : goal.returns-clause-grown
returns-clause-grown g c =
    grown_on c.args.graph.now g.place c.args.self.now.lines.items c.args.self.now.needs.items c.args.line c.wanted-wanted.result.relevant
    c.wanted-wanted.result.places c.requires.1.0 c.requires.1.1.1 c.wanted-wanted.ensures.wanted

pub returns-clause-less : goal.returns-clause-less
returns-clause-less g c =
    less_room c.args.graph.now g.place c.args.self.now.lines.items c.args.self.now.needs.items c.args.line c.wanted-wanted.result.relevant
    c.wanted-wanted.result.places c.requires.1.0 c.wanted-wanted.ensures.fits c.requires.1.1.1 c.wanted-wanted.ensures.wanted
    (λ e. false≢true (sym c.if-has.false ∙ c.has.ensures.1 e))
