use Rattle.call_checks.proofs.Earlier.{text_checked}
use Rattle.call_checks.proofs.laws.well_formed_are_checked.Goals as goal

pub returns : goal.returns
returns c t h = text_checked t h
