-- Accepted certificates are readable.
use Rattle.std.proofs.Common.{◌≡◌, refl, sym, subst, ℕ, suc, ◌+◌, ◌≤◌, Bool, true, false, ◌&&◌, Some, List, [], ◌∷◌, length, map, get_or, slice_get, inl, inr, arith, if◌then◌else◌}
use Rattle.std.specs.Prelude.{IsTrue, slice_set}
use Rattle.std.specs.List.{All, Contains, filter}
use Rattle.std.proofs.lemmas.List.{length-map, length-set}
use Rattle.std.proofs.lemmas.Option.{get_or_from_slice_get, slice_get_within}
use Rattle.cert_rules.specs.Acceptance.{IsSumOf, Refutes}
use Rattle.cert_rules.specs.Quantity.{IsQuantity}
use Rattle.cert_text.specs.Line.{IsReadableShare, item_index}
use Rattle.cert_text.specs.Text.{IsReadable, IsReadableBody, named_of}
use Rattle.cert_text.proofs.Texts.{all_cons, all_nil}
use Rattle.compliance.specs.declared.threat.Threat.{Threat}
use Rattle.il_core.specs.Certificate.{Certificate, certificate_of, split, sum}
use Rattle.il_core.specs.LineGraph.{IsIn}
use Rattle.il_core.specs.Name.{is_name}
use Rattle.il_core.specs.Run.{inout_from, is_inout, is_variable, variable_count}
use Rattle.il_core.specs.declared.certificate.Item.{Item}
use Rattle.il_core.specs.declared.certificate.Item.TheVariants.{Down, High, Low, Never, OldDown, OldUp, Up}
use Rattle.il_core.specs.declared.certificate.NamedCert.{NamedCert}
use Rattle.il_core.specs.declared.certificate.Share.{Share}
use Rattle.il_core.specs.declared.line.Place.{Place}
use Rattle.il_core.specs.declared.operator.Relation.TheVariants.{Gt, Lt, Ne}
use Rattle.certs_readable.specs.Laws.{MadeCertificatesAreRead}
use Rattle.sym_simplify.specs.Literal.{LiteralForm, keep, literal_form_of, never}
use Rattle.sym_simplify.specs.Norm.{Summand}

-- there are no more variables, and no more OLD copies, than places
few_variables : (places : List Place) → variable_count places ≤ length places
few_variables [] = omega arith
few_variables (p ∷ ps) = by (is_variable p) (few_variables ps)
  where
    by : (t : Bool) → variable_count ps ≤ length ps → length (if t then p ∷ filter is_variable ps else filter is_variable ps) ≤ suc (length ps)
    by true h = omega (arith, h)
    by false h = omega (arith, h)

few_copied : (k : ℕ) (places : List Place) → length (inout_from k places) ≤ length places
few_copied k [] = omega arith
few_copied k (p ∷ ps) = by (is_variable p && is_inout p.mode) (few_copied (suc k) ps)
  where
    by : (t : Bool) → length (inout_from (suc k) ps) ≤ length ps → length (if t then k ∷ inout_from (suc k) ps else inout_from (suc k) ps) ≤ suc (length ps)
    by true h = omega (arith, h)
    by false h = omega (arith, h)

-- an OLD copy has no number above twice that of the places
copy_within : (places : List Place) (number v p : ℕ) → length places ≤ 64 → slice_get (inout_from 0 places) number ≡ Some v → p ≡ variable_count places + number → p ≤ 16384000
copy_within places number v p few copied behind =
    omega (arith, few, behind, slice_get_within (inout_from 0 places) number v copied, few_copied 0 places, few_variables places)

-- an item that has a quantity is of a literal or a place
item_within : (places : List Place) (pc : ℕ) (fs : List LiteralForm) (item : Item) (q : List Summand) → length places ≤ 64 → length fs ≤ 16384000
    → IsQuantity places pc fs item q → item_index item ≤ 16384000
item_within places pc fs (Up i) q few most h = omega (arith, most, slice_get_within fs i h.0 h.1)
item_within places pc fs (Down i) q few most h = omega (arith, most, slice_get_within fs i h.0 h.1)
item_within places pc fs (Never i) q few most h = omega (arith, most, slice_get_within fs i never h.0)
item_within places pc fs (Low p) q few most h = omega (arith, few, slice_get_within places p h.0 h.1)
item_within places pc fs (High p) q few most h = omega (arith, few, slice_get_within places p h.0 h.1)
item_within places pc fs (OldUp p) q few most h = copy_within places h.1.1.number h.1.0 p few h.1.1.copied h.1.1.behind
item_within places pc fs (OldDown p) q few most h = copy_within places h.1.1.number h.1.0 p few h.1.1.copied h.1.1.behind

shares_readable : (places : List Place) (pc : ℕ) (fs : List LiteralForm) (shares : List Share) (q : List Summand) → length places ≤ 64 → length fs ≤ 16384000
    → IsSumOf places pc fs shares q → All IsReadableShare shares
shares_readable places pc fs [] q few most h = all_nil IsReadableShare
shares_readable places pc fs (s ∷ ss) q few most h =
    all_cons IsReadableShare s ss (item_within places pc fs s.item h.2.0 few most h.2.2, h.0, h.1) (shares_readable places pc fs ss h.2.1 few most h.2.3)

body_readable : (places : List Place) (pc : ℕ) (fs : List LiteralForm) (body : Certificate) → length places ≤ 64 → length fs ≤ 16384000
    → Refutes places pc fs body → IsReadableBody body
body_readable places pc fs (sum shares) few most h = (h.some, h.few, shares_readable places pc fs shares h.summed few most h.sum)
body_readable places pc fs (split i low high) few most h =
    let below = slice_set fs i (keep h.0 Lt h.1) in
    let above = slice_set fs i (keep h.0 Gt h.1) in (
      omega (arith, most, slice_get_within fs i (keep h.0 Ne h.1) h.2),
      body_readable places pc below low few (omega (arith, most, length-set fs i (keep h.0 Lt h.1))) h.3,
      body_readable places pc above high few (omega (arith, most, length-set fs i (keep h.0 Gt h.1))) h.4,
    )

each_readable : (names : List (List ℕ)) (certs : List NamedCert) → ((c : NamedCert) → IsIn certs c → IsReadable names (named_of c)) → All (IsReadable names) (map named_of certs)
each_readable names [] h = all_nil (IsReadable names)
each_readable names (c ∷ cs) h = all_cons (IsReadable names) (named_of c) (map named_of cs) (h c (inl refl)) (each_readable names cs (λ d in_. h d (inr in_)))

pub made_read : MadeCertificatesAreRead
made_read names name places threats made known spelt few h = record { text = refl; readable = each_readable names made one }
  where
    one : (c : NamedCert) → IsIn made c → IsReadable names (named_of c)
    one c there =
        let k = h.accepted c there in
        let within = slice_get_within threats k.at k.threat k.there in
        let same : get_or threats k.at k.threat ≡ k.threat = get_or_from_slice_get threats k.at k.threat k.threat k.there in
        let most : length k.threat.literals ≤ 16384000 = subst (λ (t : Threat). length t.literals ≤ 16384000) same (few.few_literals k.at k.threat within) in
        record {
          named = subst (Contains names) (sym (h.named c there)) known;
          name = subst (λ n. IsTrue (is_name n)) (sym (h.named c there)) spelt;
          threat = omega (arith, k.number, within, few.few_threats);
          body = body_readable places k.threat.region (map literal_form_of k.threat.literals) (certificate_of c.body) few.few_places
              (omega (arith, most, length-map k.threat.literals literal_form_of)) k.accepted.refutes;
          nested = k.accepted.nested;
        }
