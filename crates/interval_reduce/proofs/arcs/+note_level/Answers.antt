use Rattle.std.proofs.Common.{arith, rules}
use Rattle.std.proofs.lemmas.List.{length-take}
use Rattle.interval_reduce.proofs.Carrying.{first_below, others_below}
use Rattle.interval_reduce.proofs.arcs.+note_level.Goals as goal

pub note_level-requires : goal.note_level-requires
note_level-requires t c = (search (rules, length-take), (others_below _ c.args.level.now c.in-len1-up.len_at_least c.requires.below, c.requires.places))

pub note_members-requires : goal.note_members-requires
note_members-requires t c = λ k i.
    let b = first_below _ c.args.level.now c.first-item.result c.in-len1-up.len_at_least c.first-item.is c.requires.below k (rw c.as_slice.ensures at i) in
    let s = c.note_level.ensures.size in omega arith
