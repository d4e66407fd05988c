use Rattle.info_flow.proofs.relevance.sets_of.Given as goal

abbrev pub ghost-least : goal.ghost-least
ghost-least a = a.place
