use Rattle.table_cases.proofs.regions.inputs_of.Goals as goal

pub inputs-requires-clause-fits : goal.inputs-requires-clause-fits
inputs-requires-clause-fits c = rw c.as_slice.ensures (rw c.in-Table.is at c.requires.fits)
