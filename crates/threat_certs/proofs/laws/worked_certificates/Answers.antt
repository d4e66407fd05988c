use Rattle.threat_certs.proofs.Worked.{product-accepted, wrong-refused, odd-accepted, zero-refused, split-accepted, split-refused, no-share_refused, never-accepted}
use Rattle.threat_certs.proofs.laws.worked_certificates.Goals as goal

pub returns : goal.returns
returns c = record {
  product = product-accepted;
  wrong_side = wrong-refused;
  common_factor = odd-accepted;
  sum_of_zero = zero-refused;
  split_unequal = split-accepted;
  split_other = split-refused;
  no_share = no-share_refused;
  never_holds = never-accepted;
}
