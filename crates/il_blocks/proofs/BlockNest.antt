-- Which blocks are open behind a front is found by one scan of its brackets.
use Rattle.std.proofs.Common.{◌≡◌, Bool, true, false, List, [], ◌∷◌, ◌++◌, refl, sym, ◌∙◌, ap, subst, append_assoc, append-nil, if◌then◌else◌}
use Rattle.std.specs.Prelude.{Option, Some, None}
use Rattle.std.specs.Option.{option_and_then}
use Rattle.il_blocks.specs.declared.block.Kind.{Kind}
use Rattle.il_blocks.specs.declared.block.Closer.{Closer}
use Rattle.il_blocks.specs.Block.{fits, Bracket, opening, closing, Nest, empty, block, written, IsFit, Whole, Opens}

-- what is open behind one more bracket
abbrev pub scan_one : Bracket → List Kind → Option (List Kind)
scan_one (opening k) ks = Some (k ∷ ks)
scan_one (closing c) [] = None
scan_one (closing c) (k ∷ ks) = if fits c k then Some ks else None

-- what is open behind brackets
abbrev pub scan : List Bracket → List Kind → Option (List Kind)
scan [] ks = Some ks
scan (b ∷ bs) ks = option_and_then (scan bs) (scan_one b ks)

behind_one : (xs ys : List Bracket) (o : Option (List Kind)) → ((ks : List Kind) → scan (xs ++ ys) ks ≡ option_and_then (scan ys) (scan xs ks))
    → option_and_then (scan (xs ++ ys)) o ≡ option_and_then (scan ys) (option_and_then (scan xs) o)
behind_one xs ys None claim = refl
behind_one xs ys (Some ks) claim = claim ks

-- a scan goes on behind a front
pub scan_append : (xs ys : List Bracket) (ks : List Kind) → scan (xs ++ ys) ks ≡ option_and_then (scan ys) (scan xs ks)
scan_append [] ys ks = refl
scan_append (x ∷ xs) ys ks = behind_one xs ys (scan_one x ks) (λ js. scan_append xs ys js)

fitting : (b : Bool) (bs : List Bracket) (ks : List Kind) → b ≡ true → option_and_then (scan bs) (if b then Some ks else None) ≡ scan bs ks
fitting true bs ks e = refl
fitting false bs ks e = cc

-- whole blocks leave what is open as it is
pub whole_scan : (n : Nest) (rest : List Bracket) (ks : List Kind) → IsFit n → scan (written n ++ rest) ks ≡ scan rest ks
whole_scan empty rest ks f = refl
whole_scan (block k inner c after) rest ks f =
    ap (λ (bs : List Bracket). scan bs (k ∷ ks)) (append_assoc (written inner) (closing c ∷ written after) rest)
    ∙ whole_scan inner (closing c ∷ (written after ++ rest)) (k ∷ ks) f.1
    ∙ fitting (fits c k) (written after ++ rest) ks f.0
    ∙ whole_scan after rest ks f.2

pub wholes_scan : (bs rest : List Bracket) (ks : List Kind) → Whole bs → scan (bs ++ rest) ks ≡ scan rest ks
wholes_scan bs rest ks w = ap (λ (xs : List Bracket). scan (xs ++ rest) ks) (sym w.is) ∙ whole_scan w.nest rest ks w.fit

-- what is open behind a front is below what a scan meets behind it
pub opens_scan : (open_blocks : List Kind) (front rest : List Bracket) (below : List Kind) → Opens front open_blocks → scan (front ++ rest) below ≡ scan rest (open_blocks ++ below)
opens_scan [] front rest below o = wholes_scan front rest below o
opens_scan (k ∷ ks) front rest below o =
    ap (λ (bs : List Bracket). scan (bs ++ rest) below) o.4
    ∙ ap (λ (bs : List Bracket). scan bs below) (append_assoc o.0 (opening k ∷ o.1) rest)
    ∙ opens_scan ks o.0 (opening k ∷ (o.1 ++ rest)) below o.2
    ∙ wholes_scan o.1 rest (k ∷ (ks ++ below)) o.3

-- what is open is what the scan finds
pub opens_scanned : (front : List Bracket) (ks : List Kind) → Opens front ks → scan front [] ≡ Some ks
opens_scanned front ks o =
    ap (λ (bs : List Bracket). scan bs []) (sym (append-nil front)) ∙ opens_scan ks front [] [] o ∙ ap (λ (js : List Kind). Some js) (append-nil ks)

-- one nest behind another
then_nest : Nest → Nest → Nest
then_nest empty m = m
then_nest (block k inner c after) m = block k inner c (then_nest after m)

then_written : (n m : Nest) → written (then_nest n m) ≡ written n ++ written m
unfolding then_nest
then_written empty m = refl
then_written (block k inner c after) m =
    ap (λ (bs : List Bracket). opening k ∷ (written inner ++ closing c ∷ bs)) (then_written after m)
    ∙ ap (λ (bs : List Bracket). opening k ∷ bs) (sym (append_assoc (written inner) (closing c ∷ written after) (written m)))

then_fit : (n m : Nest) → IsFit n → IsFit m → IsFit (then_nest n m)
unfolding then_nest
then_fit empty m f g = g
then_fit (block k inner c after) m f g = (f.0, f.1, then_fit after m f.2 g)

-- whole blocks one behind the other
pub both_whole : (xs ys : List Bracket) → Whole xs → Whole ys → Whole (xs ++ ys)
both_whole xs ys v w = record {
  nest = then_nest v.nest w.nest;
  fit = then_fit v.nest w.nest v.fit w.fit;
  is = then_written v.nest w.nest ∙ ap (λ (bs : List Bracket). bs ++ written w.nest) v.is ∙ ap (λ (bs : List Bracket). xs ++ bs) w.is;
}

pub none_whole : Whole []
none_whole = record { nest = empty; fit = tt; is = refl }

-- a block is whole once it is closed
pub closed_whole : (k : Kind) (c : Closer) (inner : List Bracket) → fits c k ≡ true → Whole inner → Whole (opening k ∷ (inner ++ closing c ∷ []))
closed_whole k c inner f w = record {
  nest = block k w.nest c empty;
  fit = (f, w.fit, tt);
  is = ap (λ (bs : List Bracket). opening k ∷ (bs ++ closing c ∷ [])) w.is;
}

-- whole blocks behind a front leave what is open as it is
pub opens_whole : (ks : List Kind) (front bs : List Bracket) → Opens front ks → Whole bs → Opens (front ++ bs) ks
opens_whole [] front bs o w = both_whole front bs o w
opens_whole (k ∷ ks) front bs o w =
    (o.0, o.1 ++ bs, o.2, both_whole o.1 bs o.3 w, ap (λ (xs : List Bracket). xs ++ bs) o.4 ∙ append_assoc o.0 (opening k ∷ o.1) bs)

-- a fitting closer closes the innermost open block
pub opens_closed : (k : Kind) (ks : List Kind) (c : Closer) (front : List Bracket) → fits c k ≡ true → Opens front (k ∷ ks) → Opens (front ++ closing c ∷ []) ks
opens_closed k ks c front f o =
    subst (λ (xs : List Bracket). Opens xs ks)
    (sym (ap (λ (xs : List Bracket). xs ++ closing c ∷ []) o.4 ∙ append_assoc o.0 (opening k ∷ o.1) (closing c ∷ [])))
    (opens_whole ks o.0 (opening k ∷ (o.1 ++ closing c ∷ [])) o.2 (closed_whole k c o.1 f o.3))

-- one more bracket keeps that what is open is what the scan finds
one_more : (b : Bracket) (front : List Bracket) (ks : List Kind) (js : List Kind) → Opens front ks → scan_one b ks ≡ Some js → Opens (front ++ b ∷ []) js
one_more (opening k) front ks js o e =
    let f : k ∷ ks ≡ js = cc in
    subst (λ (xs : List Kind). Opens (front ++ opening k ∷ []) xs) f (front, [], o, none_whole, refl)
one_more (closing c) front [] js o e = absurd (let z : ◌≡◌ {A = Option (List Kind)} None (Some js) = e in cc)
one_more (closing c) front (k ∷ ks) js o e = closing_more (fits c k) c k front ks js o refl e
  where
    closing_more : (b : Bool) (c : Closer) (k : Kind) (front : List Bracket) (ks js : List Kind) → Opens front (k ∷ ks) → fits c k ≡ b
        → (if b then Some ks else None) ≡ Some js → Opens (front ++ closing c ∷ []) js
    closing_more true c k front ks js o f e =
        let g : ks ≡ js = cc in subst (λ (xs : List Kind). Opens (front ++ closing c ∷ []) xs) g (opens_closed k ks c front f o)
    closing_more false c k front ks js o f e = absurd (let z : ◌≡◌ {A = Option (List Kind)} None (Some js) = e in cc)

-- what the scan finds behind brackets that come behind a front is open there
pub scan_opens : (rest front : List Bracket) (ks js : List Kind) → Opens front ks → scan rest ks ≡ Some js → Opens (front ++ rest) js
scan_opens [] front ks js o e =
    let f : ks ≡ js = cc in subst (λ (xs : List Bracket). Opens xs js) (sym (append-nil front)) (subst (λ (xs : List Kind). Opens front xs) f o)
scan_opens (b ∷ bs) front ks js o e = scan_rest (scan_one b ks) b bs front ks js o refl (λ is p. scan_opens bs (front ++ b ∷ []) is js p) e
  where
    scan_rest : (x : Option (List Kind)) (b : Bracket) (bs front : List Bracket) (ks js : List Kind) → Opens front ks → scan_one b ks ≡ x
        → ((is : List Kind) → Opens (front ++ b ∷ []) is → scan bs is ≡ Some js → Opens ((front ++ b ∷ []) ++ bs) js)
        → option_and_then (scan bs) x ≡ Some js → Opens (front ++ b ∷ bs) js
    scan_rest None b bs front ks js o f claim e = absurd (let z : ◌≡◌ {A = Option (List Kind)} None (Some js) = e in cc)
    scan_rest (Some is) b bs front ks js o f claim e =
        subst (λ (xs : List Bracket). Opens xs js) (append_assoc front (b ∷ []) bs) (claim is (one_more b front ks is o f) e)

pub scanned_opens : (front : List Bracket) (ks : List Kind) → scan front [] ≡ Some ks → Opens front ks
scanned_opens front ks e = scan_opens front [] [] ks none_whole e
