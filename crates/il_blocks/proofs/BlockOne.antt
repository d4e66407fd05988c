-- No list of statements has two lists of links.
use Rattle.std.proofs.Common.{◌≡◌, ◌||◌, ◌<◌, ℕ, zero, suc, Bool, true, false, List, [], ◌∷◌, ◌++◌, take, drop, slice_get, refl, sym, ◌∙◌, ap, append_assoc, arith, if◌then◌else◌}
use Rattle.std.specs.Prelude.{Option, Some, None}
use Rattle.std.specs.Option.{option_and_then}
use Rattle.std.specs.List.{list_any}
use Rattle.il_core.specs.Statement.{Placed}
use Rattle.il_blocks.specs.declared.block.Kind.{Kind}
use Rattle.il_blocks.specs.declared.block.Kind.TheVariants as kind
use Rattle.il_blocks.specs.declared.block.Closer.{Closer}
use Rattle.il_blocks.specs.Block.{fits, is_round, Bracket, opening, closing, closings, openings, brackets, brackets_of, opened_by, closed_by}
use Rattle.il_blocks.specs.BlockLink.{between, Pairs, Surrounds}
use Rattle.il_blocks.proofs.BlockNest.{scan, scan_one, scan_append, opens_scanned, wholes_scan}

not_some : {A : Type 0} (x : A) → ◌≡◌ {A = Option A} None (Some x) → ⊥
not_some x e = cc

-- brackets and what follows them, over more that is open
weaken_one : (b : Bracket) (ks js below : List Kind) → scan_one b ks ≡ Some js → scan_one b (ks ++ below) ≡ Some (js ++ below)
weaken_one (opening k) ks js below e = let f : k ∷ ks ≡ js = cc in ap (λ (xs : List Kind). Some (xs ++ below)) f
weaken_one (closing c) [] js below e = absurd (not_some js e)
weaken_one (closing c) (k ∷ ks) js below e = by (fits c k) e
  where
    by : (b : Bool) → (if b then Some ks else None) ≡ Some js → (if b then Some (ks ++ below) else None) ≡ Some (js ++ below)
    by true e = let f : ks ≡ js = cc in ap (λ (xs : List Kind). Some (xs ++ below)) f
    by false e = absurd (not_some js e)

pub scan_weaken : (bs : List Bracket) (ks js below : List Kind) → scan bs ks ≡ Some js → scan bs (ks ++ below) ≡ Some (js ++ below)
scan_weaken [] ks js below e = let f : ks ≡ js = cc in ap (λ (xs : List Kind). Some (xs ++ below)) f
scan_weaken (b ∷ bs) ks js below e = by (scan_one b ks) refl e (λ is f. scan_weaken bs is js below f)
  where
    by : (o : Option (List Kind)) → scan_one b ks ≡ o → option_and_then (scan bs) o ≡ Some js
        → ((is : List Kind) → scan bs is ≡ Some js → scan bs (is ++ below) ≡ Some (js ++ below))
        → option_and_then (scan bs) (scan_one b (ks ++ below)) ≡ Some (js ++ below)
    by None f g claim = absurd (not_some js g)
    by (Some is) f g claim = ap (option_and_then (scan bs)) (weaken_one b ks is below f) ∙ claim is g

-- a list about one of its elements
take_split : (ss : List Placed) (j k : ℕ) (s : Placed) → j < k → slice_get ss j ≡ Some s → take k ss ≡ take j ss ++ s ∷ drop (suc j) (take k ss)
take_split [] j k s h e = absurd (not_some s e)
take_split (x ∷ xs) j zero s h e = absurd (omega (arith, h))
take_split (x ∷ xs) zero (suc k) s h e = let f : x ≡ s = cc in ap (λ (y : Placed). y ∷ take k xs) f
take_split (x ∷ xs) (suc j) (suc k) s h e = let l : j < k = omega (arith, h) in ap (λ (ys : List Placed). x ∷ ys) (take_split xs j k s l e)

drop_split : (ss : List Placed) (i j k : ℕ) (s : Placed) → i < j → j < k → slice_get ss j ≡ Some s
    → drop (suc i) (take k ss) ≡ drop (suc i) (take j ss) ++ s ∷ drop (suc j) (take k ss)
drop_split [] i j k s h l e = absurd (not_some s e)
drop_split (x ∷ xs) i zero k s h l e = absurd (omega (arith, h))
drop_split (x ∷ xs) i (suc j) zero s h l e = absurd (omega (arith, l))
drop_split (x ∷ xs) zero (suc j) (suc k) s h l e = let m : j < k = omega (arith, l) in take_split xs j k s m e
drop_split (x ∷ xs) (suc i) (suc j) (suc k) s h l e = let m : i < j = omega (arith, h) in let n : j < k = omega (arith, l) in drop_split xs i j k s m n e

brackets_behind : (xs ys : List Placed) → brackets (xs ++ ys) ≡ brackets xs ++ brackets ys
brackets_behind [] ys = refl
brackets_behind (x ∷ xs) ys = ap (λ (bs : List Bracket). brackets_of x.says ++ bs) (brackets_behind xs ys) ∙ sym (append_assoc (brackets_of x.says) (brackets xs) (brackets ys))

pub between_split : (ss : List Placed) (i j k : ℕ) (s : Placed) → i < j → j < k → slice_get ss j ≡ Some s
    → between ss i k ≡ between ss i j ++ (brackets_of s.says ++ between ss j k)
between_split ss i j k s h l e = ap brackets (drop_split ss i j k s h l e) ∙ brackets_behind (drop (suc i) (take j ss)) (s ∷ drop (suc j) (take k ss))

-- whole blocks are not closed from inside
no_closer : (a : Option Closer) (c : Closer) (rest more : List Bracket) (ks : List Kind) → a ≡ Some c → scan ((closings a ++ rest) ++ more) [] ≡ Some ks → ⊥
no_closer None c rest more ks f e = not_some c f
no_closer (Some d) c rest more ks f e = not_some ks e

-- one statement closes what another opens
end_not_before : (ss : List Placed) (i j k : ℕ) → Pairs ss i j → Pairs ss i k → j < k → ⊥
end_not_before ss i j k p q h =
    let rest = brackets_of p.ender.says ++ between ss j k in
    let all : scan (between ss i k) [] ≡ Some [] = opens_scanned (between ss i k) [] q.inner in
    let inside : scan rest [] ≡ Some [] =
    sym (wholes_scan (between ss i j) rest [] p.inner) ∙ ap (λ (bs : List Bracket). scan bs []) (sym (between_split ss i j k p.ender p.before h p.to)) ∙ all in
    no_closer (closed_by p.ender.says) p.closer (openings (opened_by p.ender.says)) (between ss j k) [] p.closes inside

pub one_end : (ss : List Placed) (i j k : ℕ) → Pairs ss i j → Pairs ss i k → j ≡ k
one_end ss i j k p q =
    let not_less : j < k → ⊥ = λ h. end_not_before ss i j k p q h in
    let not_more : k < j → ⊥ = λ h. end_not_before ss i k j q p h in
    omega arith

-- what a statement opens is open over what was open before
opened_over : (xs : List Bracket) (a : Option Closer) (b : Option Kind) (k : Kind) (ys : List Bracket) (ks js : List Kind) → b ≡ Some k → scan ys [] ≡ Some ks
    → scan (xs ++ ((closings a ++ openings b) ++ ys)) [] ≡ Some js → (is : List Kind) × (js ≡ ks ++ k ∷ is)
opened_over xs a b k ys ks js opens f e = by (scan (xs ++ closings a) []) parts
  where
    shape : xs ++ ((closings a ++ openings b) ++ ys) ≡ (xs ++ closings a) ++ (opening k ∷ ys)
    shape = ap (λ (o : Option Kind). xs ++ ((closings a ++ openings o) ++ ys)) opens
        ∙ ap (λ (bs : List Bracket). xs ++ bs) (append_assoc (closings a) (opening k ∷ []) ys)
        ∙ sym (append_assoc xs (closings a) (opening k ∷ ys))

    parts : option_and_then (scan (opening k ∷ ys)) (scan (xs ++ closings a) []) ≡ Some js
    parts = sym (scan_append (xs ++ closings a) (opening k ∷ ys) []) ∙ ap (λ (bs : List Bracket). scan bs []) (sym shape) ∙ e

    by : (o : Option (List Kind)) → option_and_then (scan (opening k ∷ ys)) o ≡ Some js → (is : List Kind) × (js ≡ ks ++ k ∷ is)
    by None g = absurd (not_some js g)
    by (Some is) g =
        let z : ◌≡◌ {A = Option (List Kind)} (Some js) (Some (ks ++ k ∷ is)) = sym g ∙ scan_weaken ys [] ks (k ∷ is) f in
        let same : js ≡ ks ++ k ∷ is = cc in
        (is, same)

begin_not_before : (ss : List Placed) (i j k : ℕ) → Pairs ss i k → Pairs ss j k → i < j → ⊥
begin_not_before ss i j k p q h =
    let all : scan (between ss i j ++ (brackets_of q.opener.says ++ between ss j k)) [] ≡ Some [] =
    ap (λ (bs : List Bracket). scan bs []) (sym (between_split ss i j k q.opener h q.before q.from)) ∙ opens_scanned (between ss i k) [] p.inner in
    let found = opened_over (between ss i j) (closed_by q.opener.says) (opened_by q.opener.says) q.kind (between ss j k) [] [] q.opens (opens_scanned (between ss j k) [] q.inner) all in
    let z : [] ≡ q.kind ∷ found.0 = found.1 in
    cc

pub one_begin : (ss : List Placed) (i j k : ℕ) → Pairs ss i k → Pairs ss j k → i ≡ j
one_begin ss i j k p q =
    let not_less : i < j → ⊥ = λ h. begin_not_before ss i j k p q h in
    let not_more : j < i → ⊥ = λ h. begin_not_before ss j i k q p h in
    omega arith

round_among : (ks is : List Kind) → list_any is_round (ks ++ kind.Round ∷ is) ≡ true
round_among [] is = refl
round_among (k ∷ ks) is = second (is_round k) (list_any is_round (ks ++ kind.Round ∷ is)) (round_among ks is)
  where
    second : (a b : Bool) → b ≡ true → (a || b) ≡ true
    second true b f = refl
    second false b f = f

loop_not_before : (ss : List Placed) (i j x : ℕ) → Surrounds ss i x → Surrounds ss j x → i < j → ⊥
loop_not_before ss i j x p q h =
    let all : scan (between ss i j ++ (brackets_of q.opener.says ++ between ss j x)) [] ≡ Some p.kinds =
    ap (λ (bs : List Bracket). scan bs []) (sym (between_split ss i j x q.opener h q.before q.at)) ∙ opens_scanned (between ss i x) p.kinds p.inside in
    let found = opened_over (between ss i j) (closed_by q.opener.says) (opened_by q.opener.says) kind.Round (between ss j x) q.kinds p.kinds q.opens (opens_scanned (between ss j x) q.kinds q.inside) all in
    let z : true ≡ false = sym (round_among q.kinds found.0) ∙ ap (list_any is_round) (sym found.1) ∙ p.innermost in
    cc

pub one_loop : (ss : List Placed) (i j x : ℕ) → Surrounds ss i x → Surrounds ss j x → i ≡ j
one_loop ss i j x p q =
    let not_less : i < j → ⊥ = λ h. loop_not_before ss i j x p q h in
    let not_more : j < i → ⊥ = λ h. loop_not_before ss j i x q p h in
    omega arith
