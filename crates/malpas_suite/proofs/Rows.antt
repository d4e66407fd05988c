-- The rows of certificates and the certificates made, one more at a time; and what the rows say of the runs.
use Rattle.std.proofs.Common.{◌≡◌, refl, sym, ap, subst, ◌∙◌, inl, inr, ℕ, suc, ◌+◌, ◌<◌, ◌≤◌, Bool, true, false, List, [], ◌∷◌, ◌++◌, length, take, get_or, map, slice_get, Some, Result, Ok, Err, IfOk, if◌then◌else◌, arith}
use Rattle.std.specs.Prelude.{◌↔◌, bytes_eq}
use Rattle.std.proofs.lemmas.List.{length-take-le, map-append}
use Rattle.std.proofs.lemmas.List.Elements.{filter-append}
use Rattle.std.proofs.lemmas.Bool.{false≢true}
use Rattle.std.proofs.lemmas.Option.{slice_get-get_or, slice_get_within}
use Rattle.cert_rules.specs.Acceptance.{IsAccepted}
use Rattle.compliance.specs.declared.threat.Threat.{Threat}
use Rattle.compliance.specs.declared.threat.Verdict.{Verdict}
use Rattle.compliance.specs.declared.threat.Verdict.TheVariants.{Refuted, Shown, Open}
use Rattle.flow_graph.proofs.Members.{IsIn-append_cases}
use Rattle.il_core.specs.Certificate.{certificate_of}
use Rattle.il_core.specs.LineGraph.{IsIn}
use Rattle.il_core.specs.declared.certificate.NamedCert.{NamedCert}
use Rattle.il_core.specs.declared.line.Place.{Place}
use Rattle.sym_simplify.specs.Literal.{literal_form_of}
use Rattle.report.specs.Certified.{certs_for, refuted_from, IsCertified, AreCertRows}
use Rattle.report.specs.Status.{is_refuted}
use Rattle.report.specs.declared.report.CertRow.{CertRow}
use Rattle.malpas_suite.proofs.Tried.{front_more}

-- what follows of what is known once something succeeded
pub then_ok : {T E : Type 0} (P Q : T → Type 0) (r : Result T E) → ((x : T) → P x → Q x) → IfOk r P → IfOk r Q
then_ok P Q (Ok x) f h = f x h
then_ok P Q (Err e) f h = tt

-- a certificate is accepted for the threat of its number, if it is for any
pub certified_at : (places : List Place) (ts : List Threat) (c : NamedCert) (at : ℕ) (t : Threat) → c.threat ≡ suc at → slice_get ts at ≡ Some t → (b : Bool)
    → ((b ≡ true) ↔ IsAccepted places t.region (map literal_form_of t.literals) (certificate_of c.body)) → (b ≡ true) ↔ IsCertified places ts c
certified_at places ts c at t number there b exact = (λ e. record { at = at; number = number; threat = t; there = there; accepted = exact.0 e }, back)
  where
    back : IsCertified places ts c → b ≡ true
    back is =
        let place : is.at ≡ at = omega (arith, is.number, number) in
        let same : is.threat ≡ t = cc in
        exact.1 (subst (λ (x : Threat). IsAccepted places x.region (map literal_form_of x.literals) (certificate_of c.body)) same is.accepted)

pub not_certified : (places : List Place) (ts : List Threat) (c : NamedCert) (at : ℕ) → c.threat ≡ suc at → length ts ≤ at → (false ≡ true) ↔ IsCertified places ts c
not_certified places ts c at number past =
    (λ e. absurd (false≢true e), λ is. absurd (omega (arith, slice_get_within ts is.at is.threat is.there, is.number, number, past)))

-- a verdict that is not that the threat is refuted
pub not_refuted : (v : Verdict) → (v ≡ Refuted → ⊥) → is_refuted v ≡ false
not_refuted Refuted other = absurd (other refl)
not_refuted (Shown s) other = refl
not_refuted (Open i) other = refl

-- rows of certificates, and of further ones
rows_more : (places : List Place) (ts : List Threat) (cs ds : List NamedCert) (rows more : List CertRow) → AreCertRows places ts cs rows → AreCertRows places ts ds more
    → AreCertRows places ts (cs ++ ds) (rows ++ more)
rows_more places ts [] ds rows more h k = subst (λ r. AreCertRows places ts ds (r ++ more)) (sym h) k
rows_more places ts (c ∷ cs) ds [] more h k = absurd h
rows_more places ts (c ∷ cs) ds (row ∷ rows) more h k = (h.0, rows_more places ts cs ds rows more h.1 k)

-- the next certificate
pub rows_next : (places : List Place) (ts : List Threat) (name : List ℕ) (certs : List NamedCert) (i : ℕ) (c : NamedCert) (rows after more : List CertRow) → i < length certs
    → c ≡ get_or certs i c → AreCertRows places ts (certs_for name (take i certs)) rows → AreCertRows places ts (certs_for name (c ∷ [])) more → after ≡ rows ++ more
    → AreCertRows places ts (certs_for name (take (i + 1) certs)) after
rows_next places ts name certs i c rows after more inside here h k e =
    let front : certs_for name (take (i + 1) certs) ≡ certs_for name (take i certs) ++ certs_for name (c ∷ []) =
    ap (certs_for name) (front_more certs i c inside here) ∙ filter-append (λ d. bytes_eq d.procedure name) (take i certs) (c ∷ []) in
    subst (λ l. AreCertRows places ts l after) (sym front)
    (subst (AreCertRows places ts (certs_for name (take i certs) ++ certs_for name (c ∷ []))) (sym e) (rows_more places ts (certs_for name (take i certs)) (certs_for name (c ∷ [])) rows more h k))

-- a certificate that names the procedure is one of its own, and any other is not
pub named_here : (name : List ℕ) (c : NamedCert) → bytes_eq c.procedure name ≡ true → certs_for name (c ∷ []) ≡ c ∷ []
named_here name c e = rw e refl

pub named_other : (name : List ℕ) (c : NamedCert) → bytes_eq c.procedure name ≡ false → certs_for name (c ∷ []) ≡ []
named_other name c e = rw e refl

-- the numbers of refuted threats, and of further ones
refuted_more : (n : ℕ) (xs ys : List Threat) → refuted_from n (xs ++ ys) ≡ refuted_from n xs ++ refuted_from (n + length xs) ys
refuted_more n [] ys = let same : n ≡ n + 0 = omega arith in ap (λ m. refuted_from m ys) same
refuted_more n (t ∷ ts) ys = by (is_refuted t.verdict) (let same : suc n + length ts ≡ n + length (t ∷ ts) = omega arith in
    refuted_more (suc n) ts ys ∙ ap (λ m. refuted_from (suc n) ts ++ refuted_from m ys) same)
  where
    by : (b : Bool) → refuted_from (suc n) (ts ++ ys) ≡ refuted_from (suc n) ts ++ refuted_from (n + length (t ∷ ts)) ys
        → (if b then n ∷ refuted_from (suc n) (ts ++ ys) else refuted_from (suc n) (ts ++ ys))
        ≡ (if b then n ∷ refuted_from (suc n) ts else refuted_from (suc n) ts) ++ refuted_from (n + length (t ∷ ts)) ys
    by true behind = ap (λ l. n ∷ l) behind
    by false behind = behind

-- certificates for the first threats
pub record AreMadeTo (name : List ℕ) (places : List Place) (ts : List Threat) (i : ℕ) (made : List NamedCert) : Type 0 where
  pub threat_numbers : map (λ c. c.threat) made ≡ refuted_from 1 (take i ts)
  pub named : (c : NamedCert) → IsIn made c → c.procedure ≡ name
  pub accepted : (c : NamedCert) → IsIn made c → IsCertified places ts c

pub none_made : (name : List ℕ) (places : List Place) (ts : List Threat) → AreMadeTo name places ts 0 []
none_made name places ts = record { threat_numbers = refl; named = λ c i. absurd i; accepted = λ c i. absurd i }

-- what is known of a certificate for one threat
abbrev pub IsMadeFor : List ℕ → List Place → ℕ → Threat → NamedCert → Type 0
IsMadeFor name places number t c = (c.procedure ≡ name) × (c.threat ≡ number) × IsAccepted places t.region (map literal_form_of t.literals) (certificate_of c.body)

-- the next threat
pub made_next : (name : List ℕ) (places : List Place) (ts : List Threat) (i : ℕ) (t : Threat) (made after more : List NamedCert) → i < length ts → t ≡ get_or ts i t
    → AreMadeTo name places ts i made → after ≡ made ++ more → map (λ c. c.threat) more ≡ refuted_from (i + 1) (t ∷ [])
    → ((c : NamedCert) → IsIn more c → IsMadeFor name places (i + 1) t c) → AreMadeTo name places ts (i + 1) after
made_next name places ts i t made after more inside here before e numbers each = subst (AreMadeTo name places ts (i + 1)) (sym e) (record {
  threat_numbers = map-append (λ (c : NamedCert). c.threat) made more ∙ ap (λ l. l ++ map (λ c. c.threat) more) before.threat_numbers ∙ ap (λ l. refuted_from 1 (take i ts) ++ l) numbers ∙ sym front;
  named = λ c j. elim (IsIn-append_cases made more c j) [ inl old ↦ before.named c old | inr new ↦ (each c new).0 ];
  accepted = λ c j. elim (IsIn-append_cases made more c j) [
    | inl old ↦ before.accepted c old
    | inr new ↦ record {
      at = i;
      number = (each c new).1 ∙ omega arith;
      threat = t;
      there = slice_get-get_or ts i t inside ∙ ap Some (sym here);
      accepted = (each c new).2;
    }
  ];
})
  where
    count : 1 + length (take i ts) ≡ i + 1
    count = omega (arith, length-take-le i ts (omega (arith, inside)))

    front : refuted_from 1 (take (i + 1) ts) ≡ refuted_from 1 (take i ts) ++ refuted_from (i + 1) (t ∷ [])
    front = ap (refuted_from 1) (front_more ts i t inside here) ∙ refuted_more 1 (take i ts) (t ∷ []) ∙ ap (λ m. refuted_from 1 (take i ts) ++ refuted_from m (t ∷ [])) count
