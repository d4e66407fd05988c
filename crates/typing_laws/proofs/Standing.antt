-- The procedure in which a statement stands, by the count of those that begin in front of it.
use Rattle.std.proofs.Common.{◌≡◌, ◌≢◌, ℕ, zero, suc, ◌+◌, ◌<◌, ◌≤◌, ◌∙◌, sym, ap, subst, refl, inl, inr, ◌⊎◌, List, [], ◌∷◌, length, take, get_or, ◌-◌, arith}
use Rattle.std.specs.Prelude.{Option, Some, None, slice_get}
use Rattle.std.specs.Option.{option_map}
use Rattle.std.proofs.lemmas.Bool.{cases_lt, cases_order}
use Rattle.std.proofs.lemmas.List.{take_all}
use Rattle.std.proofs.lemmas.List.Sums.{fold_more}
use Rattle.std.proofs.lemmas.Option.{get_or_from_slice_get, slice_get-get_or, slice_get_within}
use Rattle.il_core.specs.Statement.{Statement, Placed, procedure}
use Rattle.il_types.specs.declared.counts.Counts.{Counts}
use Rattle.il_types.specs.Counts.{counts_behind}
use Rattle.il_types.specs.Names.{Front, front_of, one_more, counts_at}
use Rattle.typing_laws.specs.Declared.{Says, Begins, StandsIn}

-- the statement that is there
pub placed_at : (stmts : List Placed) (i : ℕ) (x : Statement) → Says stmts i x → (s : Placed) × (slice_get stmts i ≡ Some s) × (s.says ≡ x)
placed_at stmts i x h = by (slice_get stmts i) refl h
  where
    by : (o : Option Placed) → slice_get stmts i ≡ o → option_map (λ (s : Placed). s.says) o ≡ Some x → (s : Placed) × (slice_get stmts i ≡ Some s) × (s.says ≡ x)
    by None e k = absurd (cc)
    by (Some s) e k = (s, e, cc)

pub says_of : (stmts : List Placed) (i : ℕ) (s : Placed) → slice_get stmts i ≡ Some s → Says stmts i s.says
says_of stmts i s h = ap (option_map (λ (y : Placed). y.says)) h

-- one statement alone is there
pub one_said : (stmts : List Placed) (i : ℕ) (x y : Statement) → Says stmts i x → Says stmts i y → x ≡ y
one_said stmts i x y h k = let e : Some x ≡ Some y = sym h ∙ k in cc

-- a number at which no statement stands, or the statement that stands there
pub said_or_past : (stmts : List Placed) (i : ℕ) → ((x : Statement) × Says stmts i x) ⊎ (length stmts ≤ i)
said_or_past stmts i = by (slice_get stmts i) refl
  where
    inside : (xs : List Placed) (k : ℕ) → k < length xs → slice_get xs k ≡ None → ⊥
    inside [] k lt e = absurd (omega arith)
    inside (x ∷ xs) k lt e = let z : Some (get_or (x ∷ xs) k x) ≡ None = sym (slice_get-get_or (x ∷ xs) k x lt) ∙ e in cc

    by : (o : Option Placed) → slice_get stmts i ≡ o → ((x : Statement) × Says stmts i x) ⊎ (length stmts ≤ i)
    by (Some s) e = inl (s.says, says_of stmts i s e)
    by None e = elim (cases_lt i (length stmts)) [
      | inl lt ↦ absurd (inside stmts i lt e)
      | inr le ↦ inr le
    ]

-- the front with one statement more
pub front_next : (stmts : List Placed) (i : ℕ) (s : Placed) → slice_get stmts i ≡ Some s → front_of (take (suc i) stmts) ≡ one_more (front_of (take i stmts)) s
front_next stmts i s there =
    let later : suc i ≡ i + 1 = omega arith in
    ap (λ n. front_of (take n stmts)) later
    ∙ fold_more one_more _ stmts i s (slice_get_within stmts i s there)
    ∙ ap (one_more (front_of (take i stmts))) (get_or_from_slice_get stmts i s s there)

-- behind the last statement nothing is added
pub front_past : (stmts : List Placed) (i : ℕ) → length stmts ≤ i → front_of (take i stmts) ≡ front_of stmts
front_past stmts i h = ap front_of (take_all i stmts h)

abbrev pub count : List Placed → ℕ → ℕ
count stmts i = (counts_at stmts i).procedures

counted : (stmts : List Placed) (i : ℕ) (x : Statement) → Says stmts i x → count stmts (suc i) ≡ (counts_behind (counts_at stmts i) x).procedures
counted stmts i x h =
    let s = placed_at stmts i x h in
    ap (λ (f : Front). f.counts.procedures) (front_next stmts i s.0 s.1) ∙ ap (λ (y : Statement). (counts_behind (counts_at stmts i) y).procedures) s.2

-- a statement begins a procedure or leaves their count
begins_or_not : (c : Counts) (x : Statement) → ((name : List ℕ) × (x ≡ procedure name)) ⊎ ((counts_behind c x).procedures ≡ c.procedures)
begins_or_not c (procedure name) = inl (name, refl)
begins_or_not c _ = inr refl

-- the count behind a statement, by whether it begins a procedure
pub data Step (stmts : List Placed) (i : ℕ) : Type 0 where
  one : Begins stmts i → count stmts (suc i) ≡ suc (count stmts i) → Step stmts i
  none : (Begins stmts i → ⊥) → count stmts (suc i) ≡ count stmts i → Step stmts i

pub step : (stmts : List Placed) (i : ℕ) → Step stmts i
step stmts i = elim (said_or_past stmts i) [
  | inl x ↦ here x.0 x.1
  | inr past ↦ none (λ b. nothing past b) (ap (λ (f : Front). f.counts.procedures) (front_past stmts (suc i) (omega arith) ∙ sym (front_past stmts i past)))
]
  where
    nothing : length stmts ≤ i → Begins stmts i → ⊥
    nothing past b = let s = placed_at stmts i (procedure b.name) b.says in let inside = slice_get_within stmts i s.0 s.1 in omega arith

    more : (c : Counts) (name : List ℕ) → (counts_behind c (procedure name)).procedures ≡ suc c.procedures
    more c name = omega arith

    other : (c : Counts) (x : Statement) (name : List ℕ) → (counts_behind c x).procedures ≡ c.procedures → x ≡ procedure name → ⊥
    other c x name e f = let g : suc c.procedures ≡ c.procedures = sym (more c name) ∙ sym (ap (λ (y : Statement). (counts_behind c y).procedures) f) ∙ e in omega arith

    here : (x : Statement) → Says stmts i x → Step stmts i
    here x h = elim (begins_or_not (counts_at stmts i) x) [
      | inl b ↦
          one (record { name = b.0; says = h ∙ ap Some b.1 })
          (counted stmts i x h ∙ ap (λ (y : Statement). (counts_behind (counts_at stmts i) y).procedures) b.1 ∙ more (counts_at stmts i) b.0)
      | inr e ↦ none (λ b. other (counts_at stmts i) x b.name e (one_said stmts i x (procedure b.name) h b.says)) (counted stmts i x h ∙ e)
    ]

-- the count does not fall
pub rising : (stmts : List Placed) (i k : ℕ) → count stmts i ≤ count stmts (i + k)
rising stmts i zero = let e : i ≡ i + 0 = omega arith in subst (λ n. count stmts i ≤ count stmts n) e (omega arith)
rising stmts i (suc k) =
    let e : suc (i + k) ≡ i + suc k = omega arith in
    let h = rising stmts i k in
    subst (λ n. count stmts i ≤ count stmts n) e (elim (step stmts (i + k)) [ one b c ↦ omega arith | none b c ↦ omega arith ])

pub rises : (stmts : List Placed) (i j : ℕ) → i ≤ j → count stmts i ≤ count stmts j
rises stmts i j h = let e : (k : ℕ) × (i + k ≡ j) = (j - i, omega arith) in subst (λ n. count stmts i ≤ count stmts n) e.1 (rising stmts i e.0)

-- a statement stands in a procedure where one has begun
pub stands_in : (stmts : List Placed) (i : ℕ) → count stmts i ≢ 0 → (p : ℕ) × StandsIn stmts p i
stands_in stmts zero h = absurd (h refl)
stands_in stmts (suc i) h = elim (step stmts i) [
  | one b c ↦ (i, record { begins = b; before = omega arith; latest = λ q lt le begun. omega arith })
  | none b c ↦
      let s = stands_in stmts i (λ e. h (c ∙ e)) in
      let before = s.1.before in
      (s.0, record { begins = s.1.begins; before = omega arith; latest = λ q lt le begun. next s.0 s.1 b q lt le begun })
]
  where
    next : (p : ℕ) → StandsIn stmts p i → (Begins stmts i → ⊥) → (q : ℕ) → p < q → q < suc i → Begins stmts q → ⊥
    next p s b q lt le begun = elim (cases_lt q i) [
      | inl before ↦ s.latest q lt before begun
      | inr after ↦ let e : q ≡ i = omega arith in b (subst (Begins stmts) e begun)
    ]

-- its count is one above that of the procedure's first statement
pub stands_count : (stmts : List Placed) (p i : ℕ) → StandsIn stmts p i → count stmts i ≡ suc (count stmts p)
stands_count stmts p zero s = let h = s.before in absurd (omega arith)
stands_count stmts p (suc i) s = elim (cases_lt p i) [
  | inl lt ↦ elim (step stmts i) [
    | one b c ↦ absurd (s.latest i lt (omega arith) b)
    | none b c ↦ c ∙ stands_count stmts p i (record { begins = s.begins; before = lt; latest = λ q l h begun. s.latest q l (omega arith) begun })
  ]
  | inr ge ↦ let h = s.before in let e : i ≡ p = omega arith in elim (step stmts i) [
    | one b c ↦ c ∙ ap (λ n. suc (count stmts n)) e
    | none b c ↦ absurd (b (subst (Begins stmts) (sym e) s.begins))
  ]
]

-- a procedure that begins is counted
begun : (stmts : List Placed) (p q : ℕ) → Begins stmts p → p < q → count stmts p < count stmts q
begun stmts p q b lt = elim (step stmts p) [
  | one x c ↦ let r = rises stmts (suc p) q (omega arith) in omega arith
  | none x c ↦ absurd (x b)
]

-- statements of one count stand in one procedure
pub one_procedure : (stmts : List Placed) (p q i j : ℕ) → StandsIn stmts p i → StandsIn stmts q j → count stmts i ≡ count stmts j → p ≡ q
one_procedure stmts p q i j s t e =
    let c = stands_count stmts p i s in
    let d = stands_count stmts q j t in
    elim (cases_order p q) [
      | inl same ↦ same
      | inr (inl lt) ↦ let g = begun stmts p q s.begins lt in absurd (omega arith)
      | inr (inr gt) ↦ let g = begun stmts q p t.begins gt in absurd (omega arith)
    ]
