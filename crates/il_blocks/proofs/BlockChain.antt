-- A stack of open blocks, of which each was opened by the statement that it numbers, and how it goes on past a statement.
use Rattle.std.proofs.Common.{◌≡◌, ◌<◌, ℕ, zero, suc, List, [], ◌∷◌, ◌++◌, take, drop, slice_get, refl, sym, ◌∙◌, ap, subst, append_assoc, append-nil, arith}
use Rattle.std.specs.Prelude.{Option, Some, None}
use Rattle.std.specs.Option.{option_and_then}
use Rattle.il_core.specs.Statement.{Placed}
use Rattle.il_blocks.specs.declared.block.Kind.{Kind}
use Rattle.il_blocks.specs.declared.block.Closer.{Closer}
use Rattle.il_blocks.specs.declared.block.OpenBlock.{OpenBlock}
use Rattle.il_blocks.specs.Block.{Bracket, brackets, brackets_of, opened_by, closed_by}
use Rattle.il_blocks.specs.BlockLink.{between, Pairs}
use Rattle.il_blocks.proofs.BlockNest.{scan, scan_append, scanned_opens}
use Rattle.il_blocks.proofs.BlockPlaces.{take_next}

not_some : {A : Type 0} (x : A) → ◌≡◌ {A = Option A} None (Some x) → ⊥
not_some x e = cc

-- the brackets of a list and one more
brackets_more : (xs : List Placed) (s : Placed) → brackets (xs ++ s ∷ []) ≡ brackets xs ++ brackets_of s.says
brackets_more [] s = append-nil (brackets_of s.says)
brackets_more (x ∷ xs) s = ap (λ (bs : List Bracket). brackets_of x.says ++ bs) (brackets_more xs s) ∙ sym (append_assoc (brackets_of x.says) (brackets xs) (brackets_of s.says))

-- what stands behind one number and before the next
drop_next : (ss : List Placed) (i j : ℕ) (s : Placed) → i < j → slice_get ss j ≡ Some s → drop (suc i) (take (suc j) ss) ≡ drop (suc i) (take j ss) ++ s ∷ []
drop_next [] i j s h e = absurd (not_some s e)
drop_next (x ∷ xs) i zero s h e = absurd (omega (arith, h))
drop_next (x ∷ xs) zero (suc j) s h e = take_next xs j s e
drop_next (x ∷ xs) (suc i) (suc j) s h e = let k : i < j = omega (arith, h) in drop_next xs i j s k e

pub between_next : (ss : List Placed) (i j : ℕ) (s : Placed) → i < j → slice_get ss j ≡ Some s → between ss i (suc j) ≡ between ss i j ++ brackets_of s.says
between_next ss i j s h e = ap brackets (drop_next ss i j s h e) ∙ brackets_more (drop (suc i) (take j ss)) s

none_between : (n : ℕ) (ss : List Placed) → drop n (take n ss) ≡ []
none_between zero ss = refl
none_between (suc n) [] = refl
none_between (suc n) (x ∷ xs) = none_between n xs

pub front_next : (ss : List Placed) (j : ℕ) (s : Placed) → slice_get ss j ≡ Some s → brackets (take (suc j) ss) ≡ brackets (take j ss) ++ brackets_of s.says
front_next ss j s e = ap brackets (take_next ss j s e) ∙ brackets_more (take j ss) s

abbrev pub kinds : List OpenBlock → List Kind
kinds [] = []
kinds (e ∷ es) = e.kind ∷ kinds es

-- before the statement numbered j the blocks are open, the innermost first, and above the first of them these kinds
abbrev pub Chain : List Placed → ℕ → List Kind → List OpenBlock → Type 0
Chain ss j above [] = scan (brackets (take j ss)) [] ≡ Some above
Chain ss j above (e ∷ es) = (s : Placed) × (slice_get ss e.at ≡ Some s) × (opened_by s.says ≡ Some e.kind) × (e.at < j) × (scan (between ss e.at j) [] ≡ Some above) × Chain ss j (above ++ e.kind ∷ []) es

-- all of the open blocks
pub chain_scan : (ss : List Placed) (j : ℕ) (above : List Kind) (es : List OpenBlock) → Chain ss j above es → scan (brackets (take j ss)) [] ≡ Some (above ++ kinds es)
chain_scan ss j above [] c = c ∙ ap (λ (ks : List Kind). Some ks) (sym (append-nil above))
chain_scan ss j above (e ∷ es) c = chain_scan ss j (above ++ e.kind ∷ []) es c.5 ∙ ap (λ (ks : List Kind). Some ks) (append_assoc above (e.kind ∷ []) (kinds es))

-- brackets that take some innermost blocks away and put others there
abbrev pub Moves : List Bracket → List Kind → List Kind → Type 0
Moves bs front back = (rest : List Kind) → scan bs (front ++ rest) ≡ Some (back ++ rest)

scan_moves : (xs bs : List Bracket) (front back rest : List Kind) → Moves bs front back → scan xs [] ≡ Some (front ++ rest) → scan (xs ++ bs) [] ≡ Some (back ++ rest)
scan_moves xs bs front back rest m e = scan_append xs bs [] ∙ ap (option_and_then (scan bs)) e ∙ m rest

-- past a statement whose brackets move the innermost blocks, the same entries are open below them
pub chain_moves : (ss : List Placed) (j : ℕ) (s : Placed) (front back : List Kind) → slice_get ss j ≡ Some s → Moves (brackets_of s.says) front back
    → (es : List OpenBlock) (rest : List Kind) → Chain ss j (front ++ rest) es → Chain ss (suc j) (back ++ rest) es
chain_moves ss j s front back at m [] rest c =
    ap (λ (bs : List Bracket). scan bs []) (front_next ss j s at) ∙ scan_moves (brackets (take j ss)) (brackets_of s.says) front back rest m c
chain_moves ss j s front back at m (e ∷ es) rest c =
    let further : e.at < suc j = omega (arith, c.3) in (
      c.0,
      c.1,
      c.2,
      further,
      ap (λ (bs : List Bracket). scan bs []) (between_next ss e.at j s c.3 at) ∙ scan_moves (between ss e.at j) (brackets_of s.says) front back rest m c.4,
      subst (λ (ks : List Kind). Chain ss (suc j) ks es) (sym (append_assoc back rest (e.kind ∷ [])))
          (chain_moves ss j s front back at m es (rest ++ e.kind ∷ []) (subst (λ (ks : List Kind). Chain ss j ks es) (append_assoc front rest (e.kind ∷ [])) c.5)),
    )

-- a statement that opens a block stands on the stack behind it
pub chain_opens : (ss : List Placed) (j : ℕ) (s : Placed) (k : Kind) (e : OpenBlock) (es : List OpenBlock) → slice_get ss j ≡ Some s → opened_by s.says ≡ Some k
    → e.at ≡ j → e.kind ≡ k → Chain ss (suc j) (k ∷ []) es → Chain ss (suc j) [] (e ∷ es)
chain_opens ss j s k e es at opens number kind c =
    let before : e.at < suc j = omega arith in (
      s,
      ap (slice_get ss) number ∙ at,
      opens ∙ ap (λ (x : Kind). Some x) (sym kind),
      before,
      ap (λ (i : ℕ). scan (between ss i (suc j)) []) number ∙ ap (λ (xs : List Placed). scan (brackets xs) []) (none_between (suc j) ss),
      subst (λ (x : Kind). Chain ss (suc j) (x ∷ []) es) (sym kind) c,
    )

-- the innermost entry and a statement that closes a block are a pair
pub pair_at : (ss : List Placed) (j : ℕ) (s : Placed) (c : Closer) (e : OpenBlock) (es : List OpenBlock) → slice_get ss j ≡ Some s → closed_by s.says ≡ Some c
    → Chain ss j [] (e ∷ es) → Pairs ss e.at j
pair_at ss j s c e es at closes chain = record {
  opener = chain.0;
  from = chain.1;
  kind = e.kind;
  opens = chain.2;
  ender = s;
  to = at;
  closer = c;
  closes = closes;
  before = chain.3;
  inner = scanned_opens (between ss e.at j) [] chain.4;
}
