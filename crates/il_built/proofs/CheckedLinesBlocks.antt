-- In a text without a fault each closer fits the block that is open there.
use Rattle.std.proofs.Common.{◌≡◌, ◌<◌, ◌≤◌, ℕ, zero, suc, Bool, true, false, List, [], ◌∷◌, ◌++◌, length, take, drop, refl, sym, ◌∙◌, ap, subst, inl, inr, append_assoc, append-nil, arith, if◌then◌else◌}
use Rattle.std.specs.Prelude.{Option, Some, None, slice_get}
use Rattle.std.specs.Option.{option_and_then}
use Rattle.std.proofs.lemmas.Bool.{cases_lt}
use Rattle.std.proofs.lemmas.Option.{slice_get_within}
use Rattle.il_core.specs.Statement.{Placed}
use Rattle.il_blocks.specs.declared.block.Kind.{Kind}
use Rattle.il_blocks.specs.declared.block.Closer.{Closer}
use Rattle.il_blocks.specs.Block.{fits, Bracket, opening, closing, closings, openings, brackets, brackets_of, opened_by, closed_by, ClosesNothing}
use Rattle.il_blocks.specs.BlockFault.{HasNoFault}
use Rattle.il_blocks.specs.BlockLink.{between, Pairs}
use Rattle.il_blocks.proofs.BlockNest.{scan, scan_append, opens_scanned}
use Rattle.il_blocks.proofs.BlockChain.{front_next, between_next}
use Rattle.il_blocks.proofs.BlockOne.{scan_weaken}
use Rattle.il_built.proofs.BuiltSorts.{none_some}
use Rattle.il_built.proofs.Given.{stands}

-- the innermost open block, which a closer fits
record Top (c : Closer) (ks : List Kind) : Type 0 where
  kind : Kind
  others : List Kind
  is : ks ≡ kind ∷ others
  fit : fits c kind ≡ true

-- a closer that is not loose fits the innermost open block
top_of : (front : List Bracket) (c : Closer) (ks : List Kind) → scan front [] ≡ Some ks → (ClosesNothing front (Some c) → ⊥) → Top c ks
top_of front c [] e not_loose = absurd (not_loose (λ k ks o f.
    let z : ◌≡◌ {A = Option (List Kind)} (Some (k ∷ ks)) (Some []) = sym (opens_scanned front (k ∷ ks) o) ∙ e in cc))
top_of front c (k ∷ ks) e not_loose = by (fits c k) refl
  where
    by : (b : Bool) → fits c k ≡ b → Top c (k ∷ ks)
    by true f = record { kind = k; others = ks; is = refl; fit = f }
    by false f = absurd (not_loose (λ j js o g.
        let z : ◌≡◌ {A = Option (List Kind)} (Some (j ∷ js)) (Some (k ∷ ks)) = sym (opens_scanned front (j ∷ js) o) ∙ e in
        let same : j ≡ k = cc in
        let y : true ≡ false = sym g ∙ ap (fits c) same ∙ f in
        cc))

-- so does a closer of a text without a fault
top : (ss : List Placed) (i : ℕ) (s : Placed) (c : Closer) (ks : List Kind) → HasNoFault ss → slice_get ss i ≡ Some s → closed_by s.says ≡ Some c
    → scan (brackets (take i ss)) [] ≡ Some ks → Top c ks
top ss i s c ks n at closes e =
    top_of (brackets (take i ss)) c ks e
    (λ loose. n i (inl (record { stmt = s; at = at; loose = inl (subst (ClosesNothing (brackets (take i ss))) (sym closes) loose) })))

-- past brackets that fit
openings_scan : (b : Option Kind) (ks : List Kind) → (js : List Kind) × (scan (openings b) ks ≡ Some js)
openings_scan None ks = (ks, refl)
openings_scan (Some k) ks = (k ∷ ks, refl)

-- closers that fit, and what comes behind them
closings_scan : (a : Option Closer) (bs : List Bracket) (ks : List Kind) → ((c : Closer) → a ≡ Some c → Top c ks) → ((is : List Kind) → (js : List Kind) × (scan bs is ≡ Some js))
    → (js : List Kind) × (scan (closings a ++ bs) ks ≡ Some js)
closings_scan None bs ks t rest = rest ks
closings_scan (Some c) bs ks t rest =
    let u = t c refl in
    let r = rest u.others in (
      r.0,
      ap (scan (closing c ∷ bs)) u.is ∙ ap (λ (b : Bool). option_and_then (scan bs) (if b then Some u.others else None)) u.fit ∙ r.1,
    )

-- the blocks that are open before a statement
pub open_at : (ss : List Placed) → HasNoFault ss → (i : ℕ) → i ≤ length ss → (ks : List Kind) × (scan (brackets (take i ss)) [] ≡ Some ks)
open_at ss n zero h = ([], refl)
open_at ss n (suc i) h =
    let within : i < length ss = omega (arith, h) in
    let before : i ≤ length ss = omega (arith, h) in
    let s = stands ss i within in
    let ks = open_at ss n i before in
    let js = closings_scan (closed_by s.0.says) (openings (opened_by s.0.says)) ks.0 (λ c f. top ss i s.0 c ks.0 n s.1 f ks.1) (λ is. openings_scan (opened_by s.0.says) is) in (
      js.0,
      ap (λ (bs : List Bracket). scan bs []) (front_next ss i s.0 s.1) ∙ scan_append (brackets (take i ss)) (brackets_of s.0.says) []
          ∙ ap (option_and_then (scan (brackets_of s.0.says))) ks.1 ∙ js.1,
    )

-- nothing stands between a statement and the next
none_between : (n : ℕ) (ss : List Placed) → drop n (take n ss) ≡ []
none_between zero ss = refl
none_between (suc n) [] = refl
none_between (suc n) (x ∷ xs) = none_between n xs

-- the brackets before a statement, about one before it
front_split : (ss : List Placed) (i j : ℕ) (s : Placed) → i < j → j ≤ length ss → slice_get ss i ≡ Some s
    → brackets (take j ss) ≡ brackets (take i ss) ++ (brackets_of s.says ++ between ss i j)
front_split ss i zero s h l at = absurd (omega (arith, h))
front_split ss i (suc j) s h l at = elim (cases_lt i j) [
  | inl less ↦
      let within : j < length ss = omega (arith, l) in
      let low : j ≤ length ss = omega arith in
      let t = stands ss j within in
      front_next ss j t.0 t.1 ∙ ap (λ (bs : List Bracket). bs ++ brackets_of t.0.says) (front_split ss i j s less low at)
      ∙ append_assoc (brackets (take i ss)) (brackets_of s.says ++ between ss i j) (brackets_of t.0.says)
      ∙ ap (λ (bs : List Bracket). brackets (take i ss) ++ bs)
      (append_assoc (brackets_of s.says) (between ss i j) (brackets_of t.0.says) ∙ ap (λ (bs : List Bracket). brackets_of s.says ++ bs) (sym (between_next ss i j t.0 less t.1)))
  | inr more ↦
      let same : j ≡ i = omega arith in
      ap (λ (k : ℕ). brackets (take (suc k) ss)) same ∙ front_next ss i s at
      ∙ ap (λ (bs : List Bracket). brackets (take i ss) ++ bs)
      (sym (append-nil (brackets_of s.says)) ∙ ap (λ (xs : List Placed). brackets_of s.says ++ brackets xs) (sym (none_between (suc i) ss))
      ∙ ap (λ (k : ℕ). brackets_of s.says ++ between ss i (suc k)) (sym same))
]

-- a block that was opened is still open behind what is open inside it
still_open : (xs : List Bracket) (a : Option Closer) (k : Kind) (ys : List Bracket) (is js : List Kind) → scan ys [] ≡ Some is
    → scan (xs ++ ((closings a ++ openings (Some k)) ++ ys)) [] ≡ Some js → (ks : List Kind) × (js ≡ is ++ k ∷ ks)
still_open xs a k ys is js f e = by (scan (xs ++ closings a) []) parts
  where
    shape : xs ++ ((closings a ++ opening k ∷ []) ++ ys) ≡ (xs ++ closings a) ++ (opening k ∷ ys)
    shape = ap (λ (bs : List Bracket). xs ++ bs) (append_assoc (closings a) (opening k ∷ []) ys) ∙ sym (append_assoc xs (closings a) (opening k ∷ ys))

    parts : option_and_then (scan (opening k ∷ ys)) (scan (xs ++ closings a) []) ≡ Some js
    parts = sym (scan_append (xs ++ closings a) (opening k ∷ ys) []) ∙ ap (λ (bs : List Bracket). scan bs []) (sym shape) ∙ e

    by : (o : Option (List Kind)) → option_and_then (scan (opening k ∷ ys)) o ≡ Some js → (ks : List Kind) × (js ≡ is ++ k ∷ ks)
    by None g = none_some js g
    by (Some ks) g =
        let z : ◌≡◌ {A = Option (List Kind)} (Some js) (Some (is ++ k ∷ ks)) = sym g ∙ scan_weaken ys [] is (k ∷ ks) f in
        let same : js ≡ is ++ k ∷ ks = cc in
        (ks, same)

-- so is that which a statement opened
pub opened_still : (ss : List Placed) (i j : ℕ) (s : Placed) (k : Kind) (is js : List Kind) → i < j → j ≤ length ss → slice_get ss i ≡ Some s → opened_by s.says ≡ Some k
    → scan (between ss i j) [] ≡ Some is → scan (brackets (take j ss)) [] ≡ Some js → (ks : List Kind) × (js ≡ is ++ k ∷ ks)
opened_still ss i j s k is js h l at opens f e =
    still_open (brackets (take i ss)) (closed_by s.says) k (between ss i j) is js f
    (ap (λ (o : Option Kind). scan (brackets (take i ss) ++ ((closings (closed_by s.says) ++ openings o) ++ between ss i j)) []) (sym opens)
    ∙ ap (λ (bs : List Bracket). scan bs []) (sym (front_split ss i j s h l at)) ∙ e)

-- the two statements of a pair fit
pub pair_fits : (ss : List Placed) (i j : ℕ) → HasNoFault ss → (p : Pairs ss i j) → fits p.closer p.kind ≡ true
pair_fits ss i j n p =
    let within : j < length ss = slice_get_within ss j p.ender p.to in
    let low : j ≤ length ss = omega arith in
    let js = open_at ss n j low in
    let still = opened_still ss i j p.opener p.kind [] js.0 p.before low p.from p.opens (opens_scanned (between ss i j) [] p.inner) js.1 in
    let t = top ss j p.ender p.closer js.0 n p.to p.closes js.1 in
    let z : t.kind ∷ t.others ≡ p.kind ∷ still.0 = sym t.is ∙ still.1 in
    let same : t.kind ≡ p.kind = cc in
    ap (fits p.closer) (sym same) ∙ t.fit
