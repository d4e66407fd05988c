use Rattle.compliance.proofs.stepping.+takes.Given as goal

abbrev pub decreases-takes : goal.decreases-takes
decreases-takes l = l.room
