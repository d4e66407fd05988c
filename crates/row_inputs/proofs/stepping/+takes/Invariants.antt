use Rattle.row_inputs.proofs.stepping.+takes.Given as goal

abbrev pub decreases-takes : goal.decreases-takes
decreases-takes l = l.room
