use Rattle.std.proofs.Common.{arith}
use Rattle.std.proofs.lemmas.Option.{slice_get_within}
use Rattle.call_rules.specs.CalledText.{written_procedures}
use Rattle.call_sound.proofs.Fits.{calls_fit}
use Rattle.call_sound.proofs.Widths.{expanded_length}
use Rattle.call_sound.proofs.laws.widths_are_lengths.Goals as goal

pub returns : goal.returns
returns c = λ stmts links o a k p there.
    let within = slice_get_within (written_procedures stmts links) k p there in
    expanded_length (written_procedures stmts links) k p (calls_fit stmts links o a) (omega (arith, within)) there
