-- Where reading is stuck, no longer front of whole lines begins certificates, and each text has one reading.
use Rattle.std.proofs.Common.{◌≡◌, ℕ, ◌+◌, ◌-◌, ◌<◌, nat_lt, Bool, true, false, List, [], ◌∷◌, ◌++◌, length, take, drop, map, refl, sym, ◌∙◌, ap, subst, arith, append_assoc, append-nil, length-append}
use Rattle.std.specs.Prelude.{Ok, Err}
use Rattle.std.proofs.Math.Seq.{take-append_seam, take-append-add}
use Rattle.std.proofs.lemmas.List.{take-append-drop, length-take-le}
use Rattle.std.proofs.lemmas.Bool.{ltb-true, ltb-false}
use Rattle.il_core.specs.declared.refusal.TextEnd.TheVariants as end
use Rattle.cert_text.specs.declared.line.Line.{Line}
use Rattle.cert_text.specs.Line.{spelling, text_of}
use Rattle.cert_text.specs.Text.{Named, named_of, certs_text}
use Rattle.cert_text.specs.Reading.{IsWhole, AreCertificates, AreBadAt, OneReading, WrittenAreRead}
use Rattle.cert_text.specs.Progress.{CertsThen, IsStuck}
use Rattle.cert_text.proofs.Bodies.{not_cons, certs_follow}
use Rattle.cert_text.proofs.Texts.{text-append, certs_readable, same_lines, goes_on, text-whole, whole-behind, first_newline}
use Rattle.cert_text.proofs.Certs.{lines_of}

-- no piece of what is left, to the end of a line, goes on
no_more : (names : List (List ℕ)) (bytes : List ℕ) (left : ℕ) (s : IsStuck (CertsThen names) bytes left) (piece after behind : List ℕ) → s.rest ≡ piece ++ after → 0 < length piece
    → IsWhole (text_of s.seen ++ piece) → (certs : List Named) → AreCertificates names ((text_of s.seen ++ piece) ++ behind) certs → ⊥
no_more names bytes left s piece after behind e some whole certs are =
    let tail = whole-behind (text_of s.seen) piece some whole in
    let cut = first_newline tail.0 [] in
    let piece_is : piece ≡ cut.word ++ 10 ∷ cut.rest = tail.1 ∙ cut.is in
    let with_behind : piece ++ behind ≡ cut.word ++ 10 ∷ (cut.rest ++ behind) = ap (λ t. t ++ behind) piece_is ∙ append_assoc cut.word (10 ∷ cut.rest) behind in
    let text : text_of s.seen ++ (cut.word ++ 10 ∷ (cut.rest ++ behind)) ≡ text_of (lines_of certs) =
    ap (λ t. text_of s.seen ++ t) (sym with_behind) ∙ sym (append_assoc (text_of s.seen) piece behind) ∙ sym are.text in
    let next = goes_on s.seen (lines_of certs) cut.word (cut.rest ++ behind) s.readable (certs_readable names certs are.readable) cut.without text in
    let rest_is : s.rest ≡ spelling next.line ++ 10 ∷ (cut.rest ++ after) =
    e ∙ ap (λ t. t ++ after) piece_is ∙ append_assoc cut.word (10 ∷ cut.rest) after ∙ ap (λ w. w ++ 10 ∷ (cut.rest ++ after)) (sym next.word_is) in
    s.stuck next.line (cut.rest ++ after) next.others [] (record { readable = next.readable; is = rest_is }) (record { certs = certs; are = are.readable; lines = sym next.all_is; none = refl })

unread : (names : List (List ℕ)) (bytes : List ℕ) (left : ℕ) → IsStuck (CertsThen names) bytes left → (certs : List Named) → AreCertificates names bytes certs → ⊥
unread names bytes left s certs are = by s.rest refl
  where
    by : (rest : List ℕ) → s.rest ≡ rest → ⊥
    by [] e =
        let same : lines_of certs ≡ s.seen = same_lines (lines_of certs) s.seen (certs_readable names certs are.readable) s.readable
        (are.text ∙ s.is ∙ ap (λ t. text_of s.seen ++ t) e ∙ append-nil (text_of s.seen)) in
        s.unfinished e [] (record { certs = certs; are = are.readable; lines = sym same; none = refl })
    by (b ∷ rest) e =
        let some : 0 < length s.rest = subst (λ t. 0 < length t) (sym e) (omega arith) in
        let whole : IsWhole (text_of s.seen ++ s.rest) = subst IsWhole (are.text ∙ s.is) (text-whole (lines_of certs)) in
        no_more names bytes left s s.rest [] [] (sym (append-nil s.rest)) some whole certs
        (record { text = are.text ∙ s.is ∙ sym (append-nil (text_of s.seen ++ s.rest)); readable = are.readable })

pub stuck_bad : (names : List (List ℕ)) (bytes : List ℕ) (left : ℕ) → IsStuck (CertsThen names) bytes left → AreBadAt names bytes (length bytes - left)
stuck_bad names bytes left s =
    let size : length bytes ≡ length (text_of s.seen) + length s.rest = ap length s.is ∙ length-append (text_of s.seen) s.rest in
    let place : length bytes - left ≡ length (text_of s.seen) = omega (arith, s.left_is) in
    let front : take (length bytes - left) bytes ≡ text_of s.seen = ap (λ n. take n bytes) place ∙ ap (λ t. take (length (text_of s.seen)) t) s.is ∙ take-append_seam (text_of s.seen) s.rest in
    record {
      within = omega arith;
      whole = subst IsWhole (sym front) (text-whole s.seen);
      begins = (
        s.begins.certs,
        text_of s.more,
        record {
          text = ap text_of (sym s.begins.lines) ∙ text-append s.seen s.more ∙ ap (λ t. t ++ text_of s.more) (sym front);
          readable = s.begins.are;
        },
      );
      longest = λ n above below whole begins.
          let k = n - length (text_of s.seen) in
          let longer : take n bytes ≡ text_of s.seen ++ take k s.rest =
          ap (take n) s.is ∙ ap (λ m. take m (text_of s.seen ++ s.rest)) (let sum : n ≡ length (text_of s.seen) + k = omega (arith, place, above) in sum) ∙ take-append-add (text_of s.seen) s.rest k in
          let some : 0 < length (take k s.rest) = (let cut : length (take k s.rest) ≡ k = length-take-le k s.rest (omega (arith, below, size)) in omega (arith, cut, place, above)) in
          no_more names bytes left s (take k s.rest) (drop k s.rest) begins.1 (sym (take-append-drop k s.rest)) some (subst IsWhole longer whole) begins.0
          (subst (λ t. AreCertificates names (t ++ begins.1) begins.0) longer begins.2);
      unread = unread names bytes left s;
    }

-- one reading
one_list : (names : List (List ℕ)) (bytes : List ℕ) (a b : List Named) → AreCertificates names bytes a → AreCertificates names bytes b → a ≡ b
one_list names bytes a b h i =
    let same : lines_of a ≡ lines_of b = same_lines (lines_of a) (lines_of b) (certs_readable names a h.readable) (certs_readable names b i.readable) (h.text ∙ sym i.text) in
    let follows = certs_follow a b [] (append-nil (lines_of a) ∙ same) in
    by a b follows.others follows.all_is follows.behind_is
  where
    by : (c d others : List Named) → d ≡ c ++ others → ◌≡◌ {A = List Line} [] (lines_of others) → c ≡ d
    by c d [] e f = sym (append-nil c) ∙ sym e
    by c d (o ∷ os) e f = absurd (not_cons _ _ f)

one_place : (names : List (List ℕ)) (bytes : List ℕ) (m n : ℕ) → AreBadAt names bytes m → AreBadAt names bytes n → m ≡ n
one_place names bytes m n h i =
    let not_less : m < n → ⊥ = λ l. h.longest n l i.within i.whole i.begins in
    let not_more : n < m → ⊥ = λ l. i.longest m l h.within h.whole h.begins in
    by (nat_lt m n) refl (nat_lt n m) refl not_less not_more
  where
    by : (s : Bool) → nat_lt m n ≡ s → (t : Bool) → nat_lt n m ≡ t → (m < n → ⊥) → (n < m → ⊥) → m ≡ n
    by true e t f a b = absurd (a (ltb-true m n e))
    by false e true f a b = absurd (b (ltb-true n m f))
    by false e false f a b = let p = ltb-false m n e in let q = ltb-false n m f in omega arith

pub one_reading : OneReading
one_reading = record { one_list = one_list; one_place = one_place }

pub written_read : WrittenAreRead
written_read names certs readable offset (Ok read) h = one_list names (certs_text certs) (map named_of read) certs h (record { text = refl; readable = readable })
written_read names certs readable offset (Err (end.Refused refusal)) h = h.bad.unread certs (record { text = refl; readable = readable })
written_read names certs readable offset (Err end.NoMemory) h = tt
