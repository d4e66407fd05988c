use Rattle.region_paths.specs.Region.{first_lines}
use Rattle.threat_certs.proofs.Sound.{listed_sound}
use Rattle.threat_certs.proofs.settled.listed_threats_are_sound.Goals as goal

pub returns : goal.returns
returns c = λ p loops ts k a t i. listed_sound p loops (first_lines loops) ts t a i
