-- Where reading is stuck inside of something, it is stuck in what holds it.
use Rattle.std.proofs.Common.{◌≡◌, ℕ, ◌-◌, ◌<◌, ◌≤◌, List, [], ◌∷◌, ◌++◌, length, map, refl, sym, ◌∙◌, ap, subst, arith, append_assoc, append-nil, length-append, inl, inr, ◌⊎◌}
use Rattle.std.proofs.lemmas.List.{map-append}
use Rattle.std.specs.List.{All}
use Rattle.il_core.specs.Certificate.{Certificate, sum, split}
use Rattle.il_core.specs.declared.certificate.Item.TheVariants.{Never}
use Rattle.il_core.specs.declared.certificate.Share.{Share}
use Rattle.cert_text.specs.declared.line.Line.{Line}
use Rattle.cert_text.specs.declared.line.Line.TheVariants as lines
use Rattle.cert_text.specs.declared.reading.LinesEnd.{LinesEnd}
use Rattle.cert_text.specs.declared.reading.LinesEnd.TheVariants as ends
use Rattle.cert_text.specs.Line.{spelling, text_of, IsReadableShare, IsReadableLine}
use Rattle.cert_text.specs.LineReading.{StandsNext}
use Rattle.cert_text.specs.Text.{body_lines}
use Rattle.cert_text.specs.Progress.{share_lines, AreShares, IsBody, SharesThen, BodyThen, IsStuck, Fails}
use Rattle.cert_text.proofs.LinesRead.{same_next}
use Rattle.cert_text.proofs.Bodies.{not_cons, same_head, ended, same_body}
use Rattle.cert_text.proofs.Texts.{text-nil, text-cons, text-append, all_nil, all_cons, all_push, shares_lines, body_readable}
use Rattle.std.proofs.lemmas.List.Elements.{All-append}

-- one line more
pub line_added : (text rest after : List ℕ) (seen : List Line) (line : Line) → text ≡ text_of seen ++ rest → StandsNext rest line after → text ≡ text_of (seen ++ line ∷ []) ++ after
line_added text rest after seen line e h =
    let one : text_of (line ∷ []) ++ after ≡ rest =
    ap (λ t. t ++ after) (text-cons line []) ∙ append_assoc (spelling line) (10 ∷ text_of []) after ∙ ap (λ t. spelling line ++ 10 ∷ (t ++ after)) text-nil ∙ sym h.is in
    e ∙ ap (λ t. text_of seen ++ t) (sym one) ∙ sym (append_assoc (text_of seen) (text_of (line ∷ [])) after) ∙ ap (λ t. t ++ after) (sym (text-append seen (line ∷ [])))

-- a line with lines behind it
pub line_front : (text after rest : List ℕ) (line : Line) (ls : List Line) → StandsNext text line after → after ≡ text_of ls ++ rest → text ≡ text_of (line ∷ ls) ++ rest
line_front text after rest line ls h e =
    h.is ∙ ap (λ t. spelling line ++ 10 ∷ t) e ∙ sym (append_assoc (spelling line) (10 ∷ text_of ls) rest) ∙ ap (λ t. t ++ rest) (sym (text-cons line ls))

pub lines_joined : (text between rest : List ℕ) (a b : List Line) → text ≡ text_of a ++ between → between ≡ text_of b ++ rest → text ≡ text_of (a ++ b) ++ rest
lines_joined text between rest a b e f =
    e ∙ ap (λ t. text_of a ++ t) f ∙ sym (append_assoc (text_of a) (text_of b) rest) ∙ ap (λ t. t ++ rest) (sym (text-append a b))

-- what is stuck inside, behind these lines, is stuck outside
abbrev pub Up : (List Line → List Line → Type 0) → (List Line → List Line → Type 0) → List Line → Type 0
Up Inner Outer front = (w : List Line) → Inner w [] → (more : List Line) × Outer (front ++ (w ++ more)) []

abbrev pub Down : (List Line → List Line → Type 0) → (List Line → List Line → Type 0) → List Line → Type 0
Down Inner Outer front = (w behind : List Line) → Outer (front ++ w) behind → (b : List Line) × Inner w b

pub lift : (Inner Outer : List Line → List Line → Type 0) (front : List Line) (text inner : List ℕ) (left : ℕ) → text ≡ text_of front ++ inner → All IsReadableLine front
    → Up Inner Outer front → Down Inner Outer front → IsStuck Inner inner left → IsStuck Outer text left
lift Inner Outer front text inner left e readable up down s =
    let more = up (s.seen ++ s.more) s.begins in
    let regroup : front ++ ((s.seen ++ s.more) ++ more.0) ≡ (front ++ s.seen) ++ (s.more ++ more.0) =
    ap (λ t. front ++ t) (append_assoc s.seen s.more more.0) ∙ sym (append_assoc front s.seen (s.more ++ more.0)) in
    record {
      seen = front ++ s.seen;
      rest = s.rest;
      is = lines_joined text inner s.rest front s.seen e s.is;
      left_is = s.left_is;
      readable = All-append IsReadableLine front s.seen readable s.readable;
      more = s.more ++ more.0;
      begins = subst (λ w. Outer w []) regroup more.1;
      unfinished = λ none behind h.
          let d = down s.seen behind h in
          s.unfinished none d.0 d.1;
      stuck = λ line after others behind next h.
          let d = down (s.seen ++ line ∷ others) behind (subst (λ w. Outer w behind) (append_assoc front s.seen (line ∷ others)) h) in
          s.stuck line after others d.0 next d.1;
    }

pub lift_end : (Inner Outer : List Line → List Line → Type 0) (front : List Line) (text inner : List ℕ) (end : LinesEnd) → text ≡ text_of front ++ inner → All IsReadableLine front
    → Up Inner Outer front → Down Inner Outer front → Fails Inner inner end → Fails Outer text end
lift_end Inner Outer front text inner (ends.Bad left) e readable up down s = lift Inner Outer front text inner left e readable up down s
lift_end Inner Outer front text inner ends.NoMemory e readable up down s = tt

-- the shares of a sum
abbrev pub Fits : List Share → Line → Type 0
Fits shares (lines.Share s) = length shares < 128
Fits shares lines.End = 1 ≤ length shares
Fits shares _ = ⊥

abbrev pub filler : List Share
filler = record { item = Never 0; times = 1 } ∷ []

pub filler_fine : AreShares filler
filler_fine = record { some = omega arith; few = omega arith; readable = all_cons IsReadableShare (record { item = Never 0; times = 1 }) [] (omega arith, omega arith, omega arith) (all_nil IsReadableShare) }

no_end : (a b : List Share) (x : List Line) → map lines.Share a ≡ map lines.Share b ++ (lines.End ∷ x) → ⊥
no_end [] [] x e = not_cons _ _ e
no_end [] (t ∷ b) x e = not_cons _ _ e
no_end (s ∷ a) [] x e = let f : lines.Share s ≡ lines.End = (same_head _ _ _ _ e).0 in cc
no_end (s ∷ a) (t ∷ b) x e = no_end a b x (same_head _ _ _ _ e).1

fits_by : (a b : List Share) (line : Line) (others x : List Line) → map lines.Share a ++ (line ∷ others) ≡ map lines.Share b ++ (lines.End ∷ x)
    → ((s : Share) × (line ≡ lines.Share s) × (length a < length b)) ⊎ ((line ≡ lines.End) × (length a ≡ length b))
fits_by [] [] line others x e = inr ((same_head _ _ _ _ e).0, refl)
fits_by [] (t ∷ b) line others x e = inl (t, (same_head _ _ _ _ e).0, omega arith)
fits_by (s ∷ a) [] line others x e = absurd (let f : lines.Share s ≡ lines.End = (same_head _ _ _ _ e).0 in cc)
fits_by (s ∷ a) (t ∷ b) line others x e = by (fits_by a b line others x (same_head _ _ _ _ e).1)
  where
    by : ((r : Share) × (line ≡ lines.Share r) × (length a < length b)) ⊎ ((line ≡ lines.End) × (length a ≡ length b))
        → ((r : Share) × (line ≡ lines.Share r) × (length (s ∷ a) < length (t ∷ b))) ⊎ ((line ≡ lines.End) × (length (s ∷ a) ≡ length (t ∷ b)))
    by (inl (r, f, g)) = inl (r, f, omega arith)
    by (inr (f, g)) = inr (f, omega arith)

fits : (shares all : List Share) (line : Line) (others x : List Line) → AreShares all → map lines.Share shares ++ (line ∷ others) ≡ map lines.Share all ++ (lines.End ∷ x) → Fits shares line
fits shares all line others x are e = by (fits_by shares all line others x e)
  where
    by : ((r : Share) × (line ≡ lines.Share r) × (length shares < length all)) ⊎ ((line ≡ lines.End) × (length shares ≡ length all)) → Fits shares line
    by (inl (r, f, g)) = subst (Fits shares) (sym f) (omega (arith, are.few))
    by (inr (f, g)) = subst (Fits shares) (sym f) (omega (arith, are.some))

shares_begin : (shares : List Share) → length shares ≤ 128 → All IsReadableShare shares → (more : List Line) × SharesThen (map lines.Share shares ++ more) []
shares_begin [] h r = (share_lines filler, record { shares = filler; are = filler_fine; lines = sym (append-nil (share_lines filler)) })
shares_begin (s ∷ ss) h r = (lines.End ∷ [], record { shares = s ∷ ss; are = record { some = omega arith; few = h; readable = r }; lines = sym (append-nil (share_lines (s ∷ ss))) })

pub shares_stuck : (text rest : List ℕ) (shares : List Share) → text ≡ text_of (map lines.Share shares) ++ rest → length shares ≤ 128 → All IsReadableShare shares
    → ((line : Line) (after : List ℕ) → StandsNext rest line after → Fits shares line → ⊥) → IsStuck SharesThen text (length rest)
shares_stuck text rest shares e few readable none_fits =
    let begin = shares_begin shares few readable in
    record {
      seen = map lines.Share shares;
      rest = rest;
      is = e;
      left_is = refl;
      readable = shares_lines shares readable;
      more = begin.0;
      begins = begin.1;
      unfinished = λ none behind h. no_end shares h.shares behind (h.lines ∙ ended h.shares behind);
      stuck = λ line after others behind next h. none_fits line after next (fits shares h.shares line others behind h.are (h.lines ∙ ended h.shares behind));
    }

pub other_fits : (shares : List Share) (line : Line) → ((s : Share) → line ≡ lines.Share s → ⊥) → (line ≡ lines.End → ⊥) → Fits shares line → ⊥
other_fits shares (lines.Share s) f g h = f s refl
other_fits shares lines.End f g h = g refl
other_fits shares (lines.Head p t) f g h = h
other_fits shares (lines.Split i) f g h = h
other_fits shares lines.Sum f g h = h

-- the body of a certificate
abbrev pub Opens : ℕ → Line → Type 0
Opens room lines.Sum = Unit {0}
Opens room (lines.Split i) = 0 < room
Opens room _ = ⊥

pub other_opens : (room : ℕ) (line : Line) → (line ≡ lines.Sum → ⊥) → ((i : ℕ) → line ≡ lines.Split i → ⊥) → Opens room line → ⊥
other_opens room lines.Sum f g h = f refl
other_opens room (lines.Split i) f g h = g i refl
other_opens room (lines.Head p t) f g h = h
other_opens room (lines.Share s) f g h = h
other_opens room lines.End f g h = h

filler_body : (room : ℕ) → IsBody room (sum filler)
filler_body room = record { readable = (filler_fine.some, filler_fine.few, filler_fine.readable); nested = omega arith }

opens : (room : ℕ) (body : Certificate) (line : Line) (others x : List Line) → IsBody room body → line ∷ others ≡ body_lines body ++ x → Opens room line
opens room (sum shares) line others x h e = subst (Opens room) (sym (same_head _ _ _ _ e).0) tt
opens room (split i low high) line others x h e = subst (Opens room) (sym (same_head _ _ _ _ e).0) (omega (arith, h.nested))

body_some : (body : Certificate) (x : List Line) → ◌≡◌ {A = List Line} [] (body_lines body ++ x) → ⊥
body_some (sum shares) x e = not_cons _ _ e
body_some (split i low high) x e = not_cons _ _ e

pub body_stuck : (room : ℕ) (text : List ℕ) → ((line : Line) (after : List ℕ) → StandsNext text line after → Opens room line → ⊥) → IsStuck (BodyThen room) text (length text)
body_stuck room text none_opens = record {
  seen = [];
  rest = text;
  is = ap (λ t. t ++ text) (sym text-nil);
  left_is = refl;
  readable = all_nil IsReadableLine;
  more = body_lines (sum filler);
  begins = record { body = sum filler; is = filler_body room; lines = sym (append-nil (body_lines (sum filler))) };
  unfinished = λ none behind h. body_some h.body behind h.lines;
  stuck = λ line after others behind next h. none_opens line after next (opens room h.body line others behind h.is h.lines);
}

sum_up : (room : ℕ) → Up SharesThen (BodyThen room) (lines.Sum ∷ [])
sum_up room w h = (
  [],
  record {
    body = sum h.shares;
    is = record { readable = (h.are.some, h.are.few, h.are.readable); nested = omega arith };
    lines = ap (λ t. lines.Sum ∷ t) (append-nil w ∙ h.lines);
  },
)

sum_down : (room : ℕ) → Down SharesThen (BodyThen room) (lines.Sum ∷ [])
sum_down room w behind h = by h.body h.is h.lines
  where
    by : (body : Certificate) → IsBody room body → lines.Sum ∷ w ≡ body_lines body ++ behind → (b : List Line) × SharesThen w b
    by (sum shares) g e = (behind, record { shares = shares; are = record { some = g.readable.0; few = g.readable.1; readable = g.readable.2 }; lines = (same_head _ _ _ _ e).1 })
    by (split i low high) g e = absurd (let k : lines.Sum ≡ lines.Split i = (same_head _ _ _ _ e).0 in cc)

pub sum_fails : (room : ℕ) (text inner : List ℕ) (end : LinesEnd) → StandsNext text lines.Sum inner → Fails SharesThen inner end → Fails (BodyThen room) text end
sum_fails room text inner end next =
    lift_end SharesThen (BodyThen room) (lines.Sum ∷ []) text inner end (line_front text inner inner lines.Sum [] next (ap (λ t. t ++ inner) (sym text-nil)))
    (all_cons IsReadableLine lines.Sum [] tt (all_nil IsReadableLine)) (sum_up room) (sum_down room)

pub sum_read : (room : ℕ) (text inner rest : List ℕ) (shares : List Share) → StandsNext text lines.Sum inner → AreShares shares → inner ≡ text_of (share_lines shares) ++ rest
    → IsBody room (sum shares) × (text ≡ text_of (body_lines (sum shares)) ++ rest)
sum_read room text inner rest shares next are e =
    (record { readable = (are.some, are.few, are.readable); nested = omega arith }, line_front text inner rest lines.Sum (share_lines shares) next e)

-- a split
low_up : (room i : ℕ) → i ≤ 16384000 → 0 < room → Up (BodyThen (room - 1)) (BodyThen room) (lines.Split i ∷ [])
low_up room i small some w h = (
  body_lines (sum filler),
  record {
    body = split i h.body (sum filler);
    is = record { readable = (small, h.is.readable, (filler_body room).readable); nested = omega (arith, h.is.nested) };
    lines = ap (λ t. lines.Split i ∷ t) (ap (λ t. t ++ body_lines (sum filler)) (h.lines ∙ append-nil (body_lines h.body)) ∙ sym (append-nil (body_lines h.body ++ body_lines (sum filler))));
  },
)

low_down : (room i : ℕ) → Down (BodyThen (room - 1)) (BodyThen room) (lines.Split i ∷ [])
low_down room i w behind h = by h.body h.is h.lines
  where
    by : (body : Certificate) → IsBody room body → lines.Split i ∷ w ≡ body_lines body ++ behind → (b : List Line) × BodyThen (room - 1) w b
    by (sum shares) g e = absurd (let k : lines.Split i ≡ lines.Sum = (same_head _ _ _ _ e).0 in cc)
    by (split j low high) g e = (
      body_lines high ++ behind,
      record {
        body = low;
        is = record { readable = g.readable.1; nested = omega (arith, g.nested) };
        lines = (same_head _ _ _ _ e).1 ∙ append_assoc (body_lines low) (body_lines high) behind;
      },
    )

pub low_fails : (room i : ℕ) (text inner : List ℕ) (end : LinesEnd) → 0 < room → StandsNext text (lines.Split i) inner → Fails (BodyThen (room - 1)) inner end → Fails (BodyThen room) text end
low_fails room i text inner end some next =
    lift_end (BodyThen (room - 1)) (BodyThen room) (lines.Split i ∷ []) text inner end (line_front text inner inner (lines.Split i) [] next (ap (λ t. t ++ inner) (sym text-nil)))
    (all_cons IsReadableLine (lines.Split i) [] next.readable (all_nil IsReadableLine)) (low_up room i next.readable some) (low_down room i)

high_up : (room i : ℕ) (low : Certificate) → i ≤ 16384000 → 0 < room → IsBody (room - 1) low → Up (BodyThen (room - 1)) (BodyThen room) (lines.Split i ∷ body_lines low)
high_up room i low small some is w h = (
  [],
  record {
    body = split i low h.body;
    is = record { readable = (small, is.readable, h.is.readable); nested = omega (arith, is.nested, h.is.nested) };
    lines = ap (λ t. lines.Split i ∷ (body_lines low ++ t)) (append-nil w ∙ h.lines ∙ append-nil (body_lines h.body)) ∙ sym (append-nil (lines.Split i ∷ (body_lines low ++ body_lines h.body)));
  },
)

high_down : (room i : ℕ) (low : Certificate) → Down (BodyThen (room - 1)) (BodyThen room) (lines.Split i ∷ body_lines low)
high_down room i low w behind h = by h.body h.is h.lines
  where
    by : (body : Certificate) → IsBody room body → lines.Split i ∷ (body_lines low ++ w) ≡ body_lines body ++ behind → (b : List Line) × BodyThen (room - 1) w b
    by (sum shares) g e = absurd (let k : lines.Split i ≡ lines.Sum = (same_head _ _ _ _ e).0 in cc)
    by (split j l high) g e = (
      behind,
      record {
        body = high;
        is = record { readable = g.readable.2; nested = omega (arith, g.nested) };
        lines = (same_body low l w (body_lines high ++ behind) ((same_head _ _ _ _ e).1 ∙ append_assoc (body_lines l) (body_lines high) behind)).1;
      },
    )

pub high_fails : (room i : ℕ) (low : Certificate) (text between inner : List ℕ) (end : LinesEnd) → 0 < room → StandsNext text (lines.Split i) between → IsBody (room - 1) low → between ≡ text_of (body_lines low) ++ inner
    → Fails (BodyThen (room - 1)) inner end → Fails (BodyThen room) text end
high_fails room i low text between inner end some next is e =
    lift_end (BodyThen (room - 1)) (BodyThen room) (lines.Split i ∷ body_lines low) text inner end (line_front text between inner (lines.Split i) (body_lines low) next e)
    (all_cons IsReadableLine (lines.Split i) (body_lines low) next.readable (body_readable low is.readable)) (high_up room i low next.readable some is) (high_down room i low)

pub split_read : (room i : ℕ) (text behind between rest : List ℕ) (low high : Certificate) → 0 < room → StandsNext text (lines.Split i) behind → IsBody (room - 1) low → behind ≡ text_of (body_lines low) ++ between
    → IsBody (room - 1) high → between ≡ text_of (body_lines high) ++ rest → IsBody room (split i low high) × (text ≡ text_of (body_lines (split i low high)) ++ rest)
split_read room i text behind between rest low high some next l e h f = (
  record { readable = (next.readable, l.readable, h.readable); nested = omega (arith, l.nested, h.nested) },
  line_front text behind rest (lines.Split i) (body_lines low ++ body_lines high) next (lines_joined behind between rest (body_lines low) (body_lines high) e f),
)

-- the shares so far, with one more
pub record SoFar (text rest : List ℕ) (shares : List Share) : Type 0 where
  pub front : text ≡ text_of (map lines.Share shares) ++ rest
  pub few : length shares ≤ 128
  pub readable : All IsReadableShare shares

pub none_so_far : (text : List ℕ) (shares : List Share) → shares ≡ [] → SoFar text text shares
none_so_far text shares e = subst (SoFar text text) (sym e) (record { front = ap (λ t. t ++ text) (sym text-nil); few = omega arith; readable = all_nil IsReadableShare })

pub more_so_far : (text rest after : List ℕ) (shares all : List Share) (s : Share) → SoFar text rest shares → all ≡ shares ++ s ∷ [] → length shares < 128 → StandsNext rest (lines.Share s) after → SoFar text after all
more_so_far text rest after shares all s h e few next = subst (SoFar text after) (sym e) (record {
  front = line_added text rest after (map lines.Share shares) (lines.Share s) h.front next ∙ ap (λ ls. text_of ls ++ after) (sym (map-append lines.Share shares (s ∷ [])));
  few = omega (arith, few, length-append shares (s ∷ []));
  readable = all_push IsReadableShare shares s h.readable next.readable;
})

pub all_so_far : (text rest after : List ℕ) (shares : List Share) → SoFar text rest shares → 1 ≤ length shares → StandsNext rest lines.End after → AreShares shares × (text ≡ text_of (share_lines shares) ++ after)
all_so_far text rest after shares h some next =
    (record { some = some; few = h.few; readable = h.readable }, line_added text rest after (map lines.Share shares) lines.End h.front next)

-- what the line that stands next is not, no line is that stands next
pub fits_here : (rest behind : List ℕ) (shares : List Share) (here : Line) → StandsNext rest here behind → (Fits shares here → ⊥)
    → (line : Line) (after : List ℕ) → StandsNext rest line after → Fits shares line → ⊥
fits_here rest behind shares here next h line after other f = h (subst (Fits shares) (sym (same_next rest here line behind after next other).0) f)

pub opens_here : (text behind : List ℕ) (room : ℕ) (here : Line) → StandsNext text here behind → (Opens room here → ⊥)
    → (line : Line) (after : List ℕ) → StandsNext text line after → Opens room line → ⊥
opens_here text behind room here next h line after other f = h (subst (Opens room) (sym (same_next text here line behind after next other).0) f)

pub some_shares : (shares : List Share) → (shares ≡ [] → ⊥) → 1 ≤ length shares
some_shares [] h = absurd (h refl)
some_shares (s ∷ ss) h = omega arith
