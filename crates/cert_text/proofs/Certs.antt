-- The certificates read so far, and where no further one is read.
use Rattle.std.proofs.Common.{◌≡◌, ℕ, List, [], ◌∷◌, ◌++◌, length, map, refl, sym, ◌∙◌, ap, subst, append_assoc, append-nil}
use Rattle.std.specs.List.{All, flat_map, Contains}
use Rattle.std.proofs.lemmas.Grind.{flat_map-append}
use Rattle.cert_text.specs.declared.line.Line.{Line}
use Rattle.cert_text.specs.declared.line.Line.TheVariants as lines
use Rattle.cert_text.specs.declared.reading.LinesEnd.{LinesEnd}
use Rattle.cert_text.specs.Line.{text_of, IsReadableLine}
use Rattle.cert_text.specs.LineReading.{StandsNext}
use Rattle.il_core.specs.Certificate.{certificate_of}
use Rattle.il_core.specs.declared.certificate.NamedCert.{NamedCert}
use Rattle.cert_text.specs.Text.{Named, named_of, body_lines, cert_lines, IsReadable}
use Rattle.cert_text.specs.Progress.{IsBody, BodyThen, CertsThen, IsStuck, Fails}
use Rattle.cert_text.proofs.Bodies.{not_cons, same_head, certs_follow}
use Rattle.cert_text.proofs.Texts.{text-nil, all_nil, all_behind, all_head, all_push, certs_readable}
use Rattle.cert_text.proofs.Stuck.{line_added, line_front, lines_joined, Up, Down, lift_end}
use Rattle.std.proofs.lemmas.List.{map-append}

abbrev pub lines_of : List Named → List Line
lines_of certs = flat_map cert_lines certs

-- the first line of a certificate that begins lines
starts : (names : List (List ℕ)) (line : Line) (others : List Line) (certs : List Named) → All (IsReadable names) certs → line ∷ others ≡ lines_of certs
    → (cert : Named) × IsReadable names cert × (line ≡ lines.Head cert.procedure cert.threat) × ((rest : List Line) × (others ≡ body_lines cert.body ++ rest))
starts names line others [] h e = absurd (not_cons line others (sym e))
starts names line others (c ∷ cs) h e =
    let top = same_head _ _ _ _ e in
    (c, all_head (IsReadable names) c cs h, top.0, (lines_of cs, top.1))

one_more : (certs : List Named) (cert : Named) → lines_of (certs ++ cert ∷ []) ≡ lines_of certs ++ cert_lines cert
one_more certs cert = flat_map-append cert_lines certs (cert ∷ []) ∙ ap (λ t. lines_of certs ++ t) (append-nil (cert_lines cert))

certs_up : (names : List (List ℕ)) (certs : List Named) (p : List ℕ) (t : ℕ) → All (IsReadable names) certs → Contains names p → IsReadableLine (lines.Head p t)
    → Up (BodyThen 16) (CertsThen names) (lines_of certs ++ lines.Head p t ∷ [])
certs_up names certs p t readable named line w h =
    let cert : Named = record { procedure = p; threat = t; body = h.body } in
    let fine : IsReadable names cert = record { named = named; name = line.0; threat = line.1; body = h.is.readable; nested = h.is.nested } in (
      [],
      record {
        certs = certs ++ cert ∷ [];
        are = all_push (IsReadable names) certs cert readable fine;
        lines = append_assoc (lines_of certs) (lines.Head p t ∷ []) (w ++ [])
            ∙ ap (λ x. lines_of certs ++ lines.Head p t ∷ x) (append-nil w ∙ h.lines ∙ append-nil (body_lines h.body)) ∙ sym (one_more certs cert);
        none = refl;
      },
    )

certs_down : (names : List (List ℕ)) (certs : List Named) (p : List ℕ) (t : ℕ) → Down (BodyThen 16) (CertsThen names) (lines_of certs ++ lines.Head p t ∷ [])
certs_down names certs p t w behind h =
    let follows = certs_follow certs h.certs (lines.Head p t ∷ w) (sym (append_assoc (lines_of certs) (lines.Head p t ∷ []) w) ∙ h.lines) in
    let s = starts names (lines.Head p t) w follows.others (all_behind (IsReadable names) certs follows.others (subst (All (IsReadable names)) follows.all_is h.are)) follows.behind_is in
    (s.3.0, record { body = s.0.body; is = record { readable = s.1.body; nested = s.1.nested }; lines = s.3.1 })

pub body_fails : (names : List (List ℕ)) (certs : List Named) (p : List ℕ) (t : ℕ) (text rest inner : List ℕ) (end : LinesEnd) → All (IsReadable names) certs → Contains names p
    → text ≡ text_of (lines_of certs) ++ rest → StandsNext rest (lines.Head p t) inner → Fails (BodyThen 16) inner end → Fails (CertsThen names) text end
body_fails names certs p t text rest inner end readable named e next =
    lift_end (BodyThen 16) (CertsThen names) (lines_of certs ++ lines.Head p t ∷ []) text inner end (line_added text rest inner (lines_of certs) (lines.Head p t) e next)
    (all_push IsReadableLine (lines_of certs) (lines.Head p t) (certs_readable names certs readable) next.readable)
    (certs_up names certs p t readable named next.readable) (certs_down names certs p t)

pub head_stuck : (names : List (List ℕ)) (certs : List Named) (text rest : List ℕ) → All (IsReadable names) certs → text ≡ text_of (lines_of certs) ++ rest → (rest ≡ [] → ⊥)
    → ((p : List ℕ) (t : ℕ) (after : List ℕ) → StandsNext rest (lines.Head p t) after → Contains names p → ⊥) → IsStuck (CertsThen names) text (length rest)
head_stuck names certs text rest readable e some none_begins = record {
  seen = lines_of certs;
  rest = rest;
  is = e;
  left_is = refl;
  readable = certs_readable names certs readable;
  more = [];
  begins = record { certs = certs; are = readable; lines = append-nil (lines_of certs); none = refl };
  unfinished = λ none behind h. some none;
  stuck = λ line after others behind next h.
      let follows = certs_follow certs h.certs (line ∷ others) h.lines in
      let s = starts names line others follows.others (all_behind (IsReadable names) certs follows.others (subst (All (IsReadable names)) follows.all_is h.are)) follows.behind_is in
      none_begins s.0.procedure s.0.threat after (subst (λ l. StandsNext rest l after) s.2 next) s.1.named;
}

-- one certificate more
pub cert_added : (names : List (List ℕ)) (certs : List Named) (p : List ℕ) (t : ℕ) (text rest inner after : List ℕ) (cert : Named) → cert.procedure ≡ p → cert.threat ≡ t → All (IsReadable names) certs → Contains names p
    → text ≡ text_of (lines_of certs) ++ rest → StandsNext rest (lines.Head p t) inner → IsBody 16 cert.body → inner ≡ text_of (body_lines cert.body) ++ after
    → (text ≡ text_of (lines_of (certs ++ cert ∷ [])) ++ after) × All (IsReadable names) (certs ++ cert ∷ [])
cert_added names certs p t text rest inner after cert f g readable named e next is h =
    let head : lines.Head p t ≡ lines.Head cert.procedure cert.threat = ap (λ q. lines.Head q t) (sym f) ∙ ap (λ u. lines.Head cert.procedure u) (sym g) in
    let front = subst (λ l. StandsNext rest l inner) head next in
    let body : rest ≡ text_of (cert_lines cert) ++ after = line_front rest inner after (lines.Head cert.procedure cert.threat) (body_lines cert.body) front h in
    let fine : IsReadable names cert = record { named = subst (Contains names) (sym f) named; name = front.readable.0; threat = front.readable.1; body = is.readable; nested = is.nested } in
    (lines_joined text rest after (lines_of certs) (cert_lines cert) e body ∙ ap (λ ls. text_of ls ++ after) (sym (one_more certs cert)), all_push (IsReadable names) certs cert readable fine)

-- the certificates so far, with what is left
pub record CertsSoFar (names : List (List ℕ)) (text rest : List ℕ) (certs : List NamedCert) : Type 0 where
  pub front : text ≡ text_of (lines_of (map named_of certs)) ++ rest
  pub readable : All (IsReadable names) (map named_of certs)

pub none_so_far : (names : List (List ℕ)) (text : List ℕ) (certs : List NamedCert) → certs ≡ [] → CertsSoFar names text text certs
none_so_far names text certs e = subst (CertsSoFar names text text) (sym e) (record { front = ap (λ t. t ++ text) (sym text-nil); readable = all_nil (IsReadable names) })

pub more_so_far : (names : List (List ℕ)) (text rest inner after : List ℕ) (certs all : List NamedCert) (cert : NamedCert) → CertsSoFar names text rest certs → all ≡ certs ++ cert ∷ [] → Contains names cert.procedure
    → StandsNext rest (lines.Head cert.procedure cert.threat) inner → IsBody 16 (certificate_of cert.body) → inner ≡ text_of (body_lines (certificate_of cert.body)) ++ after → CertsSoFar names text after all
more_so_far names text rest inner after certs all cert h e named next is f =
    let added = cert_added names (map named_of certs) cert.procedure cert.threat text rest inner after (named_of cert) refl refl h.readable named h.front next is f in
    let same : map named_of certs ++ named_of cert ∷ [] ≡ map named_of all = sym (map-append named_of certs (cert ∷ [])) ∙ ap (map named_of) (sym e) in
    record { front = added.0 ∙ ap (λ cs. text_of (lines_of cs) ++ after) same; readable = subst (All (IsReadable names)) same added.1 }
