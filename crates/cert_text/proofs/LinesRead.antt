-- A line that is read is spelt so, and a readable line that is spelt is read.
use Rattle.std.proofs.Common.{◌≡◌, ℕ, zero, suc, ◌≤◌, ◌<◌, ◌==◌, ◌&&◌, nat_le, IsTrue, Bool, true, false, List, [], ◌∷◌, ◌++◌, length, refl, sym, ◌∙◌, ap, subst, arith, if◌then◌else◌, not, lit<}
use Rattle.std.specs.Prelude.{Option, Some, None, codes, decimal, bytes_eq}
use Rattle.std.specs.List.{list_all}
use Rattle.std.specs.Option.{option_map, option_and_then}
use Rattle.std.proofs.lemmas.Slice.Eq.{bytes_eq-Decides}
use borrow.Author.Tests.{eqb-true}
use Rattle.il_core.specs.Name.{is_name, is_name_part, starts_with_letter}
use Rattle.il_core.specs.declared.certificate.Item.{Item}
use Rattle.il_core.specs.declared.certificate.Item.TheVariants.{Up, Down, Never, Low, High, OldUp, OldDown}
use Rattle.il_core.specs.declared.certificate.Share.{Share}
use Rattle.cert_text.specs.declared.line.Line.{Line}
use Rattle.cert_text.specs.declared.line.Line.TheVariants as lines
use Rattle.cert_text.specs.Line.{item_word, item_index, spelling, IsReadableShare, IsReadableLine}
use Rattle.cert_text.specs.LineReading.{parted, number_read, not_none, factor_read, item_read, name_read, head_number, head_parts, head_read, split_read, share_factor, share_item, share_parts, share_read, shared, bare_read, worded_read, line_at, line_read, StandsNext}
use Rattle.cert_text.proofs.Options.{not_some, then_some, map_some, choice_some}
use Rattle.cert_text.proofs.Parts.{Without, without-append, parted-front, parted-some, same_parts}
use Rattle.cert_text.proofs.Numbers.{number_found, number_is, digits_without}

-- a readable line with this spelling
abbrev pub Spells : List ℕ → Line → Type 0
Spells text line = IsReadableLine line × (spelling line ≡ text)

-- a choice by a word
by_word : (P : Line → Type 0) (word key : List ℕ) (made other : Option Line) (line : Line) → (word ≡ key → made ≡ Some line → P line) → (other ≡ Some line → P line)
    → (if bytes_eq word key then made else other) ≡ Some line → P line
by_word P word key made other line f g e = by (bytes_eq word key) refl e
  where
    by : (t : Bool) → bytes_eq word key ≡ t → (if t then made else other) ≡ Some line → P line
    by true h i = f ((bytes_eq-Decides word key).0 h) i
    by false h i = g i

abbrev IsItem : List ℕ → ℕ → Item → Type 0
IsItem word i item = (item_word item ≡ word) × (item_index item ≡ i)

item_choice : (word key : List ℕ) (i : ℕ) (made item : Item) (other : Option Item) → (key ≡ word → IsItem word i made) → (other ≡ Some item → IsItem word i item)
    → (if bytes_eq word key then Some made else other) ≡ Some item → IsItem word i item
item_choice word key i made item other f g e = by (bytes_eq word key) refl e
  where
    by : (t : Bool) → bytes_eq word key ≡ t → (if t then Some made else other) ≡ Some item → IsItem word i item
    by true h j =
        let same : made ≡ item = (let k : ◌≡◌ {A = Option Item} (Some made) (Some item) = j in cc) in
        subst (IsItem word i) same (f (sym ((bytes_eq-Decides word key).0 h)))
    by false h j = g j

-- an item that is read has the word and the index
item_is : (word : List ℕ) (i : ℕ) (item : Item) → item_read word i ≡ Some item → IsItem word i item
unfolding item_read
item_is word i item =
    item_choice word (codes "UP") i (Up i) item _ (λ e. (e, refl))
    (item_choice word (codes "DOWN") i (Down i) item _ (λ e. (e, refl))
    (item_choice word (codes "NEVER") i (Never i) item _ (λ e. (e, refl))
    (item_choice word (codes "LOW") i (Low i) item _ (λ e. (e, refl))
    (item_choice word (codes "HIGH") i (High i) item _ (λ e. (e, refl))
    (item_choice word (codes "OLDUP") i (OldUp i) item _ (λ e. (e, refl))
    (item_choice word (codes "OLDDOWN") i (OldDown i) item _ (λ e. (e, refl))
    (λ e. absurd (not_some item e))))))))

factor_is : (times : ℕ) (digits : List ℕ) → factor_read digits ≡ Some times → (1 ≤ times) × (times ≤ 65536) × (decimal times ≡ digits)
factor_is times digits e =
    let t = then_some not_none (number_read 65536 digits) times e in
    let n = number_is 65536 t.0 digits t.1 in
    by t.0 (t.0 == 0) refl t.2 n
  where
    by : (n : ℕ) (z : Bool) → (n == 0) ≡ z → (if z then None else Some n) ≡ Some times → (n ≤ 65536) × (decimal n ≡ digits) → (1 ≤ times) × (times ≤ 65536) × (decimal times ≡ digits)
    by n true f g h = absurd (not_some times g)
    by zero false f g h = absurd (let i : ◌≡◌ {A = Bool} true false = f in cc)
    by (suc n) false f g h =
        let same : suc n ≡ times = (let i : ◌≡◌ {A = Option ℕ} (Some (suc n)) (Some times) = g in cc) in
        subst (λ m. (1 ≤ m) × (m ≤ 65536) × (decimal m ≡ digits)) same (omega arith, h.0, h.1)

head_is : (rest : List ℕ) (line : Line) → head_read rest ≡ Some line → Spells (codes "CERT " ++ rest) line
head_is rest line e =
    let t = then_some _ (parted 32 rest) line e in
    let u = then_some _ (name_read t.0.0) line t.2 in
    let v = map_some (λ n. lines.Head u.0 n) (number_read 16384000 t.0.1) line u.2 in
    let parts = parted-some 32 rest t.0.0 t.0.1 t.1 in
    let name = choice_some (is_name t.0.0) t.0.0 u.0 u.1 in
    let number = number_is 16384000 v.0 t.0.1 v.1 in
    let text : u.0 ++ (codes " " ++ decimal v.0) ≡ rest = ap (λ p. p ++ (codes " " ++ decimal v.0)) (sym name.1) ∙ ap (λ ds. t.0.0 ++ 32 ∷ ds) number.1 ∙ sym parts.0 in
    subst (Spells (codes "CERT " ++ rest)) v.2 ((subst (λ p. IsTrue (is_name p)) name.1 name.0, number.0), ap (λ x. codes "CERT " ++ x) text)

split_is : (rest : List ℕ) (line : Line) → split_read rest ≡ Some line → Spells (codes "SPLIT " ++ rest) line
split_is rest line e =
    let v = map_some lines.Split (number_read 16384000 rest) line e in
    let number = number_is 16384000 v.0 rest v.1 in
    subst (Spells (codes "SPLIT " ++ rest)) v.2 (number.0, ap (λ ds. codes "SPLIT " ++ ds) number.1)

share_is : (word rest : List ℕ) (line : Line) → share_read word rest ≡ Some line → Spells (word ++ 32 ∷ rest) line
share_is word rest line e =
    let t = then_some _ (parted 32 rest) line e in
    let u = then_some _ (number_read 16384000 t.0.0) line t.2 in
    let v = then_some _ (item_read word u.0) line u.2 in
    let w = map_some (shared v.0) (factor_read t.0.1) line v.2 in
    let parts = parted-some 32 rest t.0.0 t.0.1 t.1 in
    let number = number_is 16384000 u.0 t.0.0 u.1 in
    let item = item_is word u.0 v.0 v.1 in
    let factor = factor_is w.0 t.0.1 w.1 in
    let index : decimal (item_index v.0) ≡ t.0.0 = ap decimal item.1 ∙ number.1 in
    let text : item_word v.0 ++ (32 ∷ (decimal (item_index v.0) ++ (32 ∷ decimal w.0))) ≡ word ++ 32 ∷ rest =
    ap (λ x. x ++ (32 ∷ (decimal (item_index v.0) ++ (32 ∷ decimal w.0)))) item.0
    ∙ ap (λ x. word ++ (32 ∷ (x ++ (32 ∷ decimal w.0)))) index
    ∙ ap (λ x. word ++ (32 ∷ (t.0.0 ++ (32 ∷ x)))) factor.2
    ∙ ap (λ x. word ++ 32 ∷ x) (sym parts.0) in
    subst (Spells (word ++ 32 ∷ rest)) w.2 ((subst (λ i. i ≤ 16384000) (sym item.1) number.0, factor.0, factor.1), text)

worded_is : (word rest : List ℕ) (line : Line) → worded_read word rest ≡ Some line → Spells (word ++ 32 ∷ rest) line
worded_is word rest line =
    by_word (Spells (word ++ 32 ∷ rest)) word (codes "CERT") _ _ line (λ e f. subst (λ w. Spells (w ++ 32 ∷ rest) line) (sym e) (head_is rest line f))
    (by_word (Spells (word ++ 32 ∷ rest)) word (codes "SPLIT") _ _ line (λ e f. subst (λ w. Spells (w ++ 32 ∷ rest) line) (sym e) (split_is rest line f))
    (share_is word rest line))

bare_is : (word : List ℕ) (line : Line) → bare_read word ≡ Some line → Spells word line
bare_is word line =
    by_word (Spells word) word (codes "SUM") _ _ line (λ e f.
    let same : lines.Sum ≡ line = (let g : ◌≡◌ {A = Option Line} (Some lines.Sum) (Some line) = f in cc) in subst (Spells word) same (tt, sym e))
    (by_word (Spells word) word (codes "END") _ _ line (λ e f.
    let same : lines.End ≡ line = (let g : ◌≡◌ {A = Option Line} (Some lines.End) (Some line) = f in cc) in subst (Spells word) same (tt, sym e))
    (λ e. absurd (not_some line e)))

-- a line that is read is readable and spelt so
pub read_spells : (text : List ℕ) (line : Line) → line_read text ≡ Some line → Spells text line
unfolding line_read
read_spells text line e = by (parted 32 text) refl e
  where
    by : (o : Option (List ℕ × List ℕ)) → parted 32 text ≡ o → line_at text o ≡ Some line → Spells text line
    by None f g = bare_is text line g
    by (Some x) f g = subst (λ t. Spells t line) (sym (parted-some 32 text x.0 x.1 f).0) (worded_is x.0 x.1 line g)

-- no byte of a name is one that stands in no name
parts_without : (end : ℕ) (bytes : List ℕ) → is_name_part end ≡ false → list_all is_name_part bytes ≡ true → Without end bytes
parts_without end [] h e = tt
parts_without end (b ∷ bs) h e = by (λ f. parts_without end bs h f) (is_name_part b) refl e (b == end) refl
  where
    by : (list_all is_name_part bs ≡ true → Without end bs) → (t : Bool) → is_name_part b ≡ t → (t && list_all is_name_part bs) ≡ true → (s : Bool) → (b == end) ≡ s → ((b == end) ≡ false) × Without end bs
    by claim false f g s i = absurd (let k : ◌≡◌ {A = Bool} false true = g in cc)
    by claim true f g true i = absurd (let k : true ≡ false = sym f ∙ ap is_name_part (eqb-true b end i) ∙ h in cc)
    by claim true f g false i = (i, claim g)

pub name_without : (end : ℕ) (name : List ℕ) → is_name_part end ≡ false → IsTrue (is_name name) → Without end name
name_without end name h e = by (nat_le (length name) 40) (starts_with_letter name) (list_all is_name_part name) refl e
  where
    by : (a b c : Bool) → list_all is_name_part name ≡ c → (a && (b && c)) ≡ true → Without end name
    by false b c f g = absurd (let k : ◌≡◌ {A = Bool} false true = g in cc)
    by true false c f g = absurd (let k : ◌≡◌ {A = Bool} false true = g in cc)
    by true true c f g = parts_without end name h (f ∙ g)

number_without : (end n : ℕ) → end < 48 → n ≤ 16384000 → Without end (decimal n)
number_without end n h small = digits_without end n h (omega arith)

without_test : (end : ℕ) (bytes : List ℕ) → list_all (λ b. not (b == end)) bytes ≡ true → Without end bytes
without_test end [] e = tt
without_test end (b ∷ bs) e = by (λ f. without_test end bs f) (b == end) refl e
  where
    by : (list_all (λ c. not (c == end)) bs ≡ true → Without end bs) → (t : Bool) → (b == end) ≡ t → (not t && list_all (λ c. not (c == end)) bs) ≡ true → ((b == end) ≡ false) × Without end bs
    by claim true f g = absurd (let k : ◌≡◌ {A = Bool} false true = g in cc)
    by claim false f g = (f, claim g)

item_space : (item : Item) → Without 32 (item_word item)
item_space (Up i) = without_test 32 (codes "UP") refl
item_space (Down i) = without_test 32 (codes "DOWN") refl
item_space (Never i) = without_test 32 (codes "NEVER") refl
item_space (Low p) = without_test 32 (codes "LOW") refl
item_space (High p) = without_test 32 (codes "HIGH") refl
item_space (OldUp p) = without_test 32 (codes "OLDUP") refl
item_space (OldDown p) = without_test 32 (codes "OLDDOWN") refl

item_newline : (item : Item) → Without 10 (item_word item)
item_newline (Up i) = without_test 10 (codes "UP") refl
item_newline (Down i) = without_test 10 (codes "DOWN") refl
item_newline (Never i) = without_test 10 (codes "NEVER") refl
item_newline (Low p) = without_test 10 (codes "LOW") refl
item_newline (High p) = without_test 10 (codes "HIGH") refl
item_newline (OldUp p) = without_test 10 (codes "OLDUP") refl
item_newline (OldDown p) = without_test 10 (codes "OLDDOWN") refl

item_found : (item : Item) → item_read (item_word item) (item_index item) ≡ Some item
unfolding item_read
item_found (Up i) = refl
item_found (Down i) = refl
item_found (Never i) = refl
item_found (Low p) = refl
item_found (High p) = refl
item_found (OldUp p) = refl
item_found (OldDown p) = refl

-- an item's word is not that of another line
item_worded : (item : Item) (rest : List ℕ) → worded_read (item_word item) rest ≡ share_read (item_word item) rest
item_worded (Up i) rest = refl
item_worded (Down i) rest = refl
item_worded (Never i) rest = refl
item_worded (Low p) rest = refl
item_worded (High p) rest = refl
item_worded (OldUp p) rest = refl
item_worded (OldDown p) rest = refl

factor_found : (times : ℕ) → 1 ≤ times → times ≤ 65536 → factor_read (decimal times) ≡ Some times
factor_found times h i = ap (option_and_then not_none) (number_found 65536 times (decimal times) (omega arith) i refl) ∙ by (times == 0) refl
  where
    by : (t : Bool) → (times == 0) ≡ t → not_none times ≡ Some times
    by true e = let f : times ≡ 0 = eqb-true times 0 e in absurd (omega arith)
    by false e = ap (λ t. if t then None else Some times) e

number_again : (n : ℕ) → n ≤ 16384000 → number_read 16384000 (decimal n) ≡ Some n
number_again n h = number_found 16384000 n (decimal n) (omega arith) h refl

head_again : (p : List ℕ) (t : ℕ) → IsTrue (is_name p) → t ≤ 16384000 → line_read (spelling (lines.Head p t)) ≡ Some (lines.Head p t)
unfolding line_read
head_again p t name h =
    ap (line_at (spelling (lines.Head p t))) (parted-front 32 (codes "CERT") (p ++ (32 ∷ decimal t)) (without_test 32 (codes "CERT") refl))
    ∙ ap (option_and_then head_parts) (parted-front 32 p (decimal t) (name_without 32 p refl name))
    ∙ ap (λ b. option_and_then (head_number (decimal t)) (if b then Some p else None)) name
    ∙ ap (option_map (λ n. lines.Head p n)) (number_again t h)

split_again : (i : ℕ) → i ≤ 16384000 → line_read (spelling (lines.Split i)) ≡ Some (lines.Split i)
unfolding line_read
split_again i h =
    ap (line_at (spelling (lines.Split i))) (parted-front 32 (codes "SPLIT") (decimal i) (without_test 32 (codes "SPLIT") refl))
    ∙ ap (option_map lines.Split) (number_again i h)

share_again : (s : Share) → IsReadableShare s → line_read (spelling (lines.Share s)) ≡ Some (lines.Share s)
unfolding line_read
share_again s h =
    let word = item_word s.item in
    let index = decimal (item_index s.item) in
    let times = decimal s.times in
    ap (line_at (spelling (lines.Share s))) (parted-front 32 word (index ++ (32 ∷ times)) (item_space s.item))
    ∙ item_worded s.item (index ++ (32 ∷ times))
    ∙ ap (option_and_then (share_parts word)) (parted-front 32 index times (number_without 32 (item_index s.item) (lit< tt) h.0))
    ∙ ap (option_and_then (share_item word times)) (number_again (item_index s.item) h.0)
    ∙ ap (option_and_then (share_factor times)) (item_found s.item)
    ∙ ap (option_map (shared s.item)) (factor_found s.times h.1 h.2)

-- a readable line that is spelt is read
pub spelt_reads : (line : Line) → IsReadableLine line → line_read (spelling line) ≡ Some line
unfolding line_read parted
spelt_reads (lines.Head p t) h = head_again p t h.0 h.1
spelt_reads (lines.Split i) h = split_again i h
spelt_reads lines.Sum h = refl
spelt_reads (lines.Share s) h = share_again s h
spelt_reads lines.End h = refl

-- no readable line has a newline in it
pub spelling_without : (line : Line) → IsReadableLine line → Without 10 (spelling line)
spelling_without (lines.Head p t) h =
    without-append 10 (codes "CERT ") (p ++ (32 ∷ decimal t)) (without_test 10 (codes "CERT ") refl)
    (without-append 10 p (32 ∷ decimal t) (name_without 10 p refl h.0) (refl, number_without 10 t (lit< tt) h.1))
spelling_without (lines.Split i) h = without-append 10 (codes "SPLIT ") (decimal i) (without_test 10 (codes "SPLIT ") refl) (number_without 10 i (lit< tt) h)
spelling_without lines.Sum h = without_test 10 (codes "SUM") refl
spelling_without (lines.Share s) h =
    without-append 10 (item_word s.item) (32 ∷ (decimal (item_index s.item) ++ (32 ∷ decimal s.times))) (item_newline s.item) (
      refl,
      without-append 10 (decimal (item_index s.item)) (32 ∷ decimal s.times) (number_without 10 (item_index s.item) (lit< tt) h.0)
          (refl, digits_without 10 s.times (lit< tt) (omega (arith, h.2))),
    )
spelling_without lines.End h = without_test 10 (codes "END") refl

-- two readable lines with one spelling are the same
pub same_line : (a b : Line) → IsReadableLine a → IsReadableLine b → spelling a ≡ spelling b → a ≡ b
same_line a b h i e =
    let f : ◌≡◌ {A = Option Line} (Some a) (Some b) = sym (spelt_reads a h) ∙ ap line_read e ∙ spelt_reads b i in cc

-- the line that stands next is what is read up to the newline
pub next_parted : (text : List ℕ) (line : Line) (rest : List ℕ) → StandsNext text line rest → parted 10 text ≡ Some (spelling line, rest)
next_parted text line rest h = ap (parted 10) h.is ∙ parted-front 10 (spelling line) rest (spelling_without line h.readable)

-- one line at most stands next
pub same_next : (text : List ℕ) (a b : Line) (x y : List ℕ) → StandsNext text a x → StandsNext text b y → (a ≡ b) × (x ≡ y)
same_next text a b x y h i =
    let p = same_parts 10 (spelling a) (spelling b) x y (spelling_without a h.readable) (spelling_without b i.readable) (sym h.is ∙ i.is) in
    (same_line a b h.readable i.readable p.0, p.1)
