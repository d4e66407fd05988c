-- The stack of open blocks holds what is open behind a front, and tells which statement is unmatched.
use Rattle.std.proofs.Common.{◌≡◌, ◌⊎◌, ◌||◌, ◌&&◌, ◌+◌, ◌<◌, not, is_some, ℕ, suc, Bool, true, false, List, [], ◌∷◌, ◌++◌, ◌≤◌, length, take, slice_get, refl, sym, ◌∙◌, ap, subst, inl, inr, arith, if◌then◌else◌}
use Rattle.std.specs.Prelude.{Option, Some, None}
use Rattle.std.specs.Option.{option_and_then, option_map}
use Rattle.std.specs.List.{list_any}
use Rattle.std.proofs.lemmas.Option.{slice_get_within}
use borrow.Author.Count.{below_more}
use Rattle.il_core.specs.Statement.{Statement, Placed}
use Rattle.il_blocks.specs.declared.block.Kind.{Kind}
use Rattle.il_blocks.specs.declared.block.Closer.{Closer}
use Rattle.il_blocks.specs.declared.block.OpenBlock.{OpenBlock}
use Rattle.il_blocks.specs.Block.{fits, is_round, leaves, opened_by, closed_by, closings, openings, brackets, Bracket, ClosesNothing, LeavesNothing, IsUnmatched}
use Rattle.il_blocks.specs.BlockFault.{HasNoFault}
use Rattle.il_blocks.specs.BlockStack.{innermost, in_loop, left, entered, moved}
use Rattle.il_blocks.proofs.BlockNest.{scan, scan_append, opens_scanned, scanned_opens}
use Rattle.il_blocks.proofs.BlockChain.{kinds, Chain, Moves, chain_scan, chain_moves, chain_opens}

-- each block on the stack knows the innermost LOOP that is it or around it
abbrev pub IsRounded : List OpenBlock → Type 0
IsRounded [] = Unit {0}
IsRounded (e ∷ es) = (e.round ≡ (if is_round e.kind then Some e.at else innermost es)) × IsRounded es

-- the stack before the statement numbered j
pub record IsStack (ss : List Placed) (j : ℕ) (es : List OpenBlock) : Type 0 where
  pub chain : Chain ss j [] es
  pub rounded : IsRounded es

-- the innermost block knows whether a LOOP is open
pub round_is : (es : List OpenBlock) → IsRounded es → in_loop es ≡ list_any is_round (kinds es)
round_is [] f = refl
round_is (e ∷ es) f = ap is_some f.0 ∙ by (is_round e.kind) (round_is es f.1)
  where
    by : (b : Bool) → in_loop es ≡ list_any is_round (kinds es) → is_some (if b then Some e.at else innermost es) ≡ (b || list_any is_round (kinds es))
    by true g = refl
    by false g = g

not_some : {A : Type 0} (x : A) → ◌≡◌ {A = Option A} None (Some x) → ⊥
not_some x e = cc

-- a closer that fits takes one block from the stack
pub record Closes (ss : List Placed) (j : ℕ) (a : Option Closer) (js : List OpenBlock) : Type 0 where
  pub front : List Kind
  pub below : Chain ss j (front ++ []) js
  pub rounded : IsRounded js
  pub moves : Moves (closings a) front []

left_closes : (ss : List Placed) (j : ℕ) (a : Option Closer) (es js : List OpenBlock) → IsStack ss j es → left a es ≡ Some js → Closes ss j a js
left_closes ss j None es js f e =
    let g : es ≡ js = cc in record {
      front = [];
      below = subst (λ (xs : List OpenBlock). Chain ss j [] xs) g f.chain;
      rounded = subst IsRounded g f.rounded;
      moves = λ rest. refl;
    }
left_closes ss j (Some c) [] js f e = absurd (not_some js e)
left_closes ss j (Some c) (x ∷ es) js f e = fitted (fits c x.kind) refl e
  where
    moving : (b : Bool) (rest : List Kind) → b ≡ true → option_and_then (scan []) (if b then Some rest else None) ≡ Some rest
    moving true rest h = refl
    moving false rest h = cc

    fitted : (b : Bool) → fits c x.kind ≡ b → (if b then Some es else None) ≡ Some js → Closes ss j (Some c) js
    fitted true h e =
        let g : es ≡ js = cc in record {
          front = x.kind ∷ [];
          below = subst (λ (xs : List OpenBlock). Chain ss j (x.kind ∷ []) xs) g f.chain.5;
          rounded = subst IsRounded g f.rounded.1;
          moves = λ rest. moving (fits c x.kind) rest h;
        }
    fitted false h e = absurd (not_some js e)

-- what an opener puts there
opened : Option Kind → List Kind
opened None = []
opened (Some k) = k ∷ []

opens_moves : (b : Option Kind) → Moves (openings b) [] (opened b)
unfolding opened
opens_moves None rest = refl
opens_moves (Some k) rest = refl

both_move : (xs ys : List Bracket) (front back : List Kind) → Moves xs front [] → Moves ys [] back → Moves (xs ++ ys) front back
both_move xs ys front back m n rest = scan_append xs ys (front ++ rest) ∙ ap (option_and_then (scan ys)) (m rest) ∙ n rest

-- an opener puts one block on the stack
entered_stack : (ss : List Placed) (j : ℕ) (s : Placed) (b : Option Kind) (es : List OpenBlock) → slice_get ss j ≡ Some s → opened_by s.says ≡ b
    → Chain ss (suc j) (opened b ++ []) es → IsRounded es → IsStack ss (suc j) (entered j b es)
unfolding opened
entered_stack ss j s None es at opens c r = record { chain = c; rounded = r }
entered_stack ss j s (Some k) es at opens c r = record {
  chain = chain_opens ss j s k (record { at = j; kind = k; round = if is_round k then Some j else innermost es }) es at opens refl refl c;
  rounded = (refl, r);
}

-- a test that stops
passed : {A : Type 0} (t : Bool) (o : Option A) (x : A) → (if t then None else o) ≡ Some x → (t ≡ false) × (o ≡ Some x)
passed true o x e = absurd (not_some x e)
passed false o x e = (refl, e)

mapped_none : (i : ℕ) (b : Option Kind) (o : Option (List OpenBlock)) → option_map (entered i b) o ≡ None → o ≡ None
mapped_none i b None e = refl
mapped_none i b (Some es) e = absurd (not_some (entered i b es) (sym e))

mapped_some : (i : ℕ) (b : Option Kind) (o : Option (List OpenBlock)) (js : List OpenBlock) → option_map (entered i b) o ≡ Some js
    → (is : List OpenBlock) × (o ≡ Some is) × (entered i b is ≡ js)
mapped_some i b None js e = absurd (not_some js e)
mapped_some i b (Some es) js e = let f : entered i b es ≡ js = cc in (es, refl, f)

-- what a statement that is matched does to the stack
pub record Matched (i : ℕ) (s : Statement) (es js : List OpenBlock) : Type 0 where
  pub inside : (leaves s && not (in_loop es)) ≡ false
  pub closed : List OpenBlock
  pub closes : left (closed_by s) es ≡ Some closed
  pub opens : entered i (opened_by s) closed ≡ js

pub moved_matched : (i : ℕ) (s : Statement) (es js : List OpenBlock) → moved i s es ≡ Some js → Matched i s es js
moved_matched i s es js e =
    let two = passed (leaves s && not (in_loop es)) (option_map (entered i (opened_by s)) (left (closed_by s) es)) js e in
    let there = mapped_some i (opened_by s) (left (closed_by s) es) js two.1 in
    record { inside = two.0; closed = there.0; closes = there.1; opens = there.2 }

-- the stack goes on past a statement that is matched
pub stack_next : (ss : List Placed) (j : ℕ) (s : Placed) (es js : List OpenBlock) → slice_get ss j ≡ Some s → IsStack ss j es → moved j s.says es ≡ Some js → IsStack ss (suc j) js
stack_next ss j s es js at f e =
    let m = moved_matched j s.says es js e in
    let c = left_closes ss j (closed_by s.says) es m.closed f m.closes in
    let moves = both_move (closings (closed_by s.says)) (openings (opened_by s.says)) c.front (opened (opened_by s.says)) c.moves (opens_moves (opened_by s.says)) in
    let below = chain_moves ss j s c.front (opened (opened_by s.says)) at moves m.closed [] c.below in
    subst (λ (xs : List OpenBlock). IsStack ss (suc j) xs) m.opens (entered_stack ss j s (opened_by s.says) m.closed at refl below c.rounded)

-- the innermost open block is the top of the stack
closes_nothing : (front : List Bracket) (a : Option Closer) (es : List OpenBlock) → scan front [] ≡ Some (kinds es) → left a es ≡ None → ClosesNothing front a
closes_nothing front None es e g = absurd (not_some es (sym g))
closes_nothing front (Some c) [] e g =
    λ k ks o f. let z : ◌≡◌ {A = Option (List Kind)} (Some (k ∷ ks)) (Some []) = sym (opens_scanned front (k ∷ ks) o) ∙ e in cc
closes_nothing front (Some c) (x ∷ es) e g =
    λ k ks o f. let z : ◌≡◌ {A = Option (List Kind)} (Some (k ∷ ks)) (Some (x.kind ∷ kinds es)) = sym (opens_scanned front (k ∷ ks) o) ∙ e in
    let same : k ≡ x.kind = cc in
    misfit (fits c x.kind) es g (ap (fits c) (sym same) ∙ f)
  where
    misfit : (b : Bool) (es : List OpenBlock) → (if b then Some es else None) ≡ None → b ≡ true → ⊥
    misfit true es g f = not_some es (sym g)
    misfit false es g f = cc

closes_some : (front : List Bracket) (a : Option Closer) (es is : List OpenBlock) → scan front [] ≡ Some (kinds es) → left a es ≡ Some is → ClosesNothing front a → ⊥
closes_some front None es is e g h = h
closes_some front (Some c) [] is e g h = not_some is g
closes_some front (Some c) (x ∷ es) is e g h = h x.kind (kinds es) (scanned_opens front (x.kind ∷ kinds es) e) (fit (fits c x.kind) es g)
  where
    fit : (b : Bool) (es : List OpenBlock) → (if b then Some es else None) ≡ Some is → b ≡ true
    fit true es g = refl
    fit false es g = absurd (not_some is g)

-- where the stack does not move on, the statement is loose
pub moved_none : (front : List Bracket) (i : ℕ) (s : Statement) (es : List OpenBlock) → scan front [] ≡ Some (kinds es) → IsRounded es → moved i s es ≡ None
    → ClosesNothing front (closed_by s) ⊎ LeavesNothing front s
moved_none front i s es e f g = split (leaves s) (in_loop es) refl refl g
  where
    split : (l b : Bool) → leaves s ≡ l → in_loop es ≡ b → (if l && not b then None else option_map (entered i (opened_by s)) (left (closed_by s) es)) ≡ None
        → ClosesNothing front (closed_by s) ⊎ LeavesNothing front s
    split true false p q g = inr (
      p,
      λ ks o any.
          let z : ◌≡◌ {A = Option (List Kind)} (Some ks) (Some (kinds es)) = sym (opens_scanned front ks o) ∙ e in
          let same : ks ≡ kinds es = cc in
          let w : false ≡ true = sym q ∙ round_is es f ∙ ap (list_any is_round) (sym same) ∙ any in cc,
    )
    split true true p q g = inl (closes_nothing front (closed_by s) es e (mapped_none i (opened_by s) (left (closed_by s) es) g))
    split false b p q g = inl (closes_nothing front (closed_by s) es e (mapped_none i (opened_by s) (left (closed_by s) es) g))

-- where it does, the statement is not loose
pub moved_some : (front : List Bracket) (i : ℕ) (s : Statement) (es js : List OpenBlock) → scan front [] ≡ Some (kinds es) → IsRounded es → moved i s es ≡ Some js
    → ClosesNothing front (closed_by s) ⊎ LeavesNothing front s → ⊥
moved_some front i s es js e f g (inl h) = let m = moved_matched i s es js g in closes_some front (closed_by s) es m.closed e m.closes h
moved_some front i s es js e f g (inr h) =
    let m = moved_matched i s es js g in
    h.1 (kinds es) (scanned_opens front (kinds es) e) (sym (round_is es f) ∙ inside (leaves s) (in_loop es) h.0 m.inside)
  where
    inside : (l b : Bool) → l ≡ true → (l && not b) ≡ false → b ≡ true
    inside true true p q = refl
    inside true false p q = sym q
    inside false b p q = cc

-- a statement past which the stack does not move is unmatched
pub unmatched_here : (ss : List Placed) (i : ℕ) (s : Placed) (es : List OpenBlock) → slice_get ss i ≡ Some s → IsStack ss i es → moved i s.says es ≡ None → IsUnmatched ss i
unmatched_here ss i s es at f g = record { stmt = s; at = at; loose = moved_none (brackets (take i ss)) i s.says es (chain_scan ss i [] es f.chain) f.rounded g }

-- and one past which it does is not
pub matched_here : (ss : List Placed) (i : ℕ) (s : Placed) (es js : List OpenBlock) → slice_get ss i ≡ Some s → IsStack ss i es → moved i s.says es ≡ Some js
    → IsUnmatched ss i → ⊥
matched_here ss i s es js at f g u =
    let z : ◌≡◌ {A = Option Placed} (Some u.stmt) (Some s) = sym u.at ∙ at in
    let same : u.stmt ≡ s = cc in
    moved_some (brackets (take i ss)) i s.says es js (chain_scan ss i [] es f.chain) f.rounded g
    (subst (λ (x : Placed). ClosesNothing (brackets (take i ss)) (closed_by x.says) ⊎ LeavesNothing (brackets (take i ss)) x.says) same u.loose)

-- no statement opens a block before the first one
pub no_stack : (ss : List Placed) → IsStack ss 0 []
no_stack ss = record { chain = refl; rounded = tt }

-- the stack goes on past a statement, and no statement up to it is unmatched
pub goes_past : (ss : List Placed) (i : ℕ) (s : Placed) (es js : List OpenBlock) → slice_get ss i ≡ Some s
    → IsStack ss i es × ((j : ℕ) → j < i → IsUnmatched ss j → ⊥) → moved i s.says es ≡ Some js
    → IsStack ss (i + 1) js × ((j : ℕ) → j < i + 1 → IsUnmatched ss j → ⊥)
goes_past ss i s es js at h g =
    let e : suc i ≡ i + 1 = omega arith in (
      subst (λ (n : ℕ). IsStack ss n js) e (stack_next ss i s es js at h.0 g),
      below_more (λ (j : ℕ). IsUnmatched ss j → ⊥) i h.1 (matched_here ss i s es js at h.0 g),
    )

-- what holds of each statement before the end holds of all
pub none_unmatched : (ss : List Placed) (i : ℕ) → length ss ≤ i → ((j : ℕ) → j < i → IsUnmatched ss j → ⊥) → (j : ℕ) → IsUnmatched ss j → ⊥
none_unmatched ss i h before j u = let k : j < length ss = slice_get_within ss j u.stmt u.at in before j (omega arith) u

-- where no statement is unmatched, the stack goes on
pub goes_on : (ss : List Placed) (i : ℕ) (s : Placed) (es js : List OpenBlock) (good : Bool) → slice_get ss i ≡ Some s → IsStack ss i es → HasNoFault ss
    → moved i s.says es ≡ (if good then Some js else None) → moved i s.says es ≡ Some js
goes_on ss i s es js true at f n e = e
goes_on ss i s es js false at f n e = absurd (n i (inl (unmatched_here ss i s es at f e)))
