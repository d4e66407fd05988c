-- The lines of certificates, part by part.
use Rattle.std.proofs.Common.{◌≡◌, ◌∙◌, refl, sym, ap, ℕ, List, [], ◌∷◌, ◌++◌, map, codes, append_assoc}
use Rattle.std.proofs.lemmas.List.Folds.{flat_map-map}
use Rattle.std.specs.List.{flat_map}
use Rattle.il_core.specs.Certificate.{Certificate, sum, split}
use Rattle.il_core.specs.declared.certificate.NamedCert.{NamedCert}
use Rattle.il_core.specs.declared.certificate.Share.{Share}
use Rattle.cert_text.specs.declared.line.Line.{Line}
use Rattle.cert_text.specs.declared.line.Line.TheVariants as lines
use Rattle.cert_text.specs.Line.{spelling, text_of}
use Rattle.cert_text.specs.Text.{Named, body_lines, cert_lines, certs_text, named_of}
use Rattle.cert_text.proofs.Texts.{text-append, text-cons, text-nil}

-- a line with its newline
abbrev pub ended : Line → List ℕ
ended line = spelling line ++ codes "\n"

-- the line of a share
abbrev pub share_line : Share → List ℕ
share_line share = ended (lines.Share share)

-- the text of lines is that of the first, and of the others behind it
first_line : (l : Line) (ls : List Line) → ended l ++ text_of ls ≡ text_of (l ∷ ls)
first_line l ls = append_assoc (spelling l) (codes "\n") (text_of ls) ∙ sym (text-cons l ls)

shares_text : (shares : List Share) → flat_map share_line shares ≡ text_of (map lines.Share shares)
unfolding text_of
shares_text shares = sym (flat_map-map ended lines.Share shares)

end_text : text_of (lines.End ∷ []) ≡ codes "END\n"
unfolding text_of
end_text = refl

pub sum_text : (shares : List Share) → codes "SUM\n" ++ flat_map share_line shares ++ codes "END\n" ≡ text_of (body_lines (sum shares))
sum_text shares =
    append_assoc (codes "SUM\n") (flat_map share_line shares) (codes "END\n")
    ∙ ap (λ t. codes "SUM\n" ++ t)
    (ap (λ t. t ++ codes "END\n") (shares_text shares) ∙ (ap (λ t. text_of (map lines.Share shares) ++ t) (sym end_text) ∙ sym (text-append (map lines.Share shares) (lines.End ∷ []))))
    ∙ first_line lines.Sum (map lines.Share shares ++ lines.End ∷ [])

pub split_text : (i : ℕ) (low high : Certificate)
    → ended (lines.Split i) ++ text_of (body_lines low) ++ text_of (body_lines high) ≡ text_of (body_lines (split i low high))
split_text i low high =
    append_assoc (ended (lines.Split i)) (text_of (body_lines low)) (text_of (body_lines high))
    ∙ ap (λ t. ended (lines.Split i) ++ t) (sym (text-append (body_lines low) (body_lines high)))
    ∙ first_line (lines.Split i) (body_lines low ++ body_lines high)

pub cert_text : (cert : Named) → ended (lines.Head cert.procedure cert.threat) ++ text_of (body_lines cert.body) ≡ text_of (cert_lines cert)
cert_text cert = first_line (lines.Head cert.procedure cert.threat) (body_lines cert.body)

-- certificates, one behind the other
pub each_text : (certs : List NamedCert) → flat_map (λ c. text_of (cert_lines (named_of c))) certs ≡ certs_text (map named_of certs)
each_text [] = sym text-nil
each_text (c ∷ cs) =
    ap (λ t. text_of (cert_lines (named_of c)) ++ t) (each_text cs) ∙ sym (text-append (cert_lines (named_of c)) (flat_map cert_lines (map named_of cs)))
