use Rattle.std.specs.Fmt.{digits}
use Rattle.std.proofs.Common.{sym, ap}
use Rattle.std.proofs.lemmas.Option.{same_Some}
use Rattle.il_called.specs.Expansion.{Callee, callees_of}
use Rattle.il_called.specs.WorkedExpansion.{WorkedExpansion}
use Rattle.il_called.proofs.laws.worked_expansion.Goals as goal

pub returns : goal.returns
unfolding callees_of digits
returns c = record { second = λ callee e. ap (λ (it : Callee). it.expanded) (sym (same_Some _ _ e)) }
