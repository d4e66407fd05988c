use Rattle.std.proofs.Common.{inl, inr, map}
use Rattle.sym_simplify.specs.Literal.{literal_form_of}
use Rattle.region_paths.specs.Region.{first_lines}
use Rattle.compliance.proofs.SafeLists.{listed_refuted}
use Rattle.threat_certs.proofs.Accepted.{accepted-unmet}
use Rattle.threat_certs.proofs.settled.certified_threats_mean_no_bad_run.Goals as goal

-- no input meets a threat that is refuted, and none one whose certificate is accepted
pub returns : goal.returns
returns c = λ p loops ts k regions a size all.
    c.unmet_lists_mean_no_bad_run.ensures p loops ts k regions a size
    (λ t i. elim (all t i) [
      | inl e ↦ listed_refuted p loops (first_lines loops) ts a t i e
      | inr held ↦ accepted-unmet p.places t.region (map literal_form_of t.literals) held.0 held.1
    ])
