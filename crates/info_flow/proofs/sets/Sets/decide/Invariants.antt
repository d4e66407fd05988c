use Rattle.info_flow.proofs.sets.Sets.decide.Given as goal

abbrev pub ghost-ask : goal.ghost-ask
ghost-ask g a = g.place
