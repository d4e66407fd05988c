-- No procedure begins inside a block of another.
use Rattle.std.proofs.Common.{◌≡◌, ◌⊎◌, ◌+◌, ◌<◌, ◌≤◌, ℕ, zero, suc, Bool, true, false, List, [], ◌∷◌, ◌++◌, length, take, drop, refl, sym, ◌∙◌, ap, subst, inl, inr, arith}
use Rattle.std.specs.Prelude.{Option, Some, None, slice_get}
use Rattle.std.specs.Option.{option_and_then}
use Rattle.std.proofs.lemmas.Bool.{cases_lt}
use Rattle.std.proofs.lemmas.Option.{slice_get_within}
use Rattle.il_core.specs.Statement.{Statement, Placed, procedure}
use Rattle.il_syntax.specs.Order.{IsInOrder}
use Rattle.il_syntax.proofs.Turns.{may_stand, turned, TakeTurns, take_turns}
use Rattle.il_blocks.specs.declared.block.Kind.{Kind}
use Rattle.il_blocks.specs.Block.{Bracket, brackets, brackets_of}
use Rattle.il_blocks.specs.BlockFault.{HasNoFault}
use Rattle.il_blocks.specs.BlockLabel.{begins, owner}
use Rattle.il_blocks.specs.BlockLink.{between, Pairs}
use Rattle.il_blocks.proofs.BlockNest.{scan, scan_append, opens_scanned}
use Rattle.il_blocks.proofs.BlockChain.{front_next}
use Rattle.il_blocks.proofs.BlockOne.{between_split}
use Rattle.il_blocks.proofs.BlockOrder.{Balanced, stays_balanced}
use Rattle.il_built.proofs.BuiltSorts.{none_some}
use Rattle.il_built.proofs.CheckedLinesBlocks.{open_at, opened_still}
use Rattle.il_built.proofs.CheckedLinesCounts.{owner_next}
use Rattle.il_built.proofs.CheckedLinesOrder.{drop_here}
use Rattle.il_built.proofs.Given.{stands}

-- what is open before the statement numbered i
pub record Nested (ss : List Placed) (i : ℕ) : Type 0 where
  pub within : Bool
  pub turns : TakeTurns within (drop i ss)
  pub blocks : List Kind
  pub open_blocks : scan (brackets (take i ss)) [] ≡ Some blocks
  pub balanced : Balanced within blocks

-- a statement takes its turn
turns_here : (ss : List Placed) (i : ℕ) (s : Placed) (b : Bool) → slice_get ss i ≡ Some s → TakeTurns b (drop i ss) → (may_stand s.says b ≡ true) × TakeTurns (turned s.says b) (drop (suc i) ss)
turns_here ss i s b at t = subst (TakeTurns b) (drop_here ss i s at) t

-- before each statement of a text in order without a fault the open blocks are balanced
nested_at : (ss : List Placed) → IsInOrder ss → HasNoFault ss → (i : ℕ) → i ≤ length ss → Nested ss i
nested_at ss o n zero h = record { within = false; turns = take_turns ss o; blocks = []; open_blocks = refl; balanced = refl }
nested_at ss o n (suc i) h =
    let within : i < length ss = omega (arith, h) in
    let before : i ≤ length ss = omega (arith, h) in
    let s = stands ss i within in
    let f = nested_at ss o n i before in
    let js = open_at ss n (suc i) h in
    let t = turns_here ss i s.0 f.within s.1 f.turns in
    let scanned : scan (brackets_of s.0.says) f.blocks ≡ Some js.0 =
    ap (option_and_then (scan (brackets_of s.0.says))) (sym f.open_blocks) ∙ sym (scan_append (brackets (take i ss)) (brackets_of s.0.says) [])
    ∙ ap (λ (bs : List Bracket). scan bs []) (sym (front_next ss i s.0 s.1)) ∙ js.1 in
    record {
      within = turned s.0.says f.within;
      turns = t.1;
      blocks = js.0;
      open_blocks = js.1;
      balanced = stays_balanced s.0.says f.within f.blocks js.0 t.0 f.balanced scanned;
    }

-- where a procedure begins, no block is open
none_open : (ss : List Placed) (i : ℕ) (s : Placed) → IsInOrder ss → HasNoFault ss → slice_get ss i ≡ Some s → begins s.says ≡ 1
    → scan (brackets (take i ss)) [] ≡ Some []
none_open ss i s o n at begin =
    let within : i < length ss = slice_get_within ss i s at in
    let low : i ≤ length ss = omega arith in
    let f = nested_at ss o n i low in
    let t = turns_here ss i s f.within at f.turns in
    f.open_blocks ∙ ap Some (by s.says f.within f.blocks begin t.0 f.balanced)
  where
    by : (x : Statement) (b : Bool) (ks : List Kind) → begins x ≡ 1 → may_stand x b ≡ true → Balanced b ks → ks ≡ []
    by (procedure _) true ks g m p = absurd (let z : false ≡ true = m in cc)
    by (procedure _) false ks g m p = p
    by _ b ks g m p = absurd (omega (arith, g))

-- brackets before others that can be passed
scan_front : (xs ys : List Bracket) (js : List Kind) → scan (xs ++ ys) [] ≡ Some js → (is : List Kind) × (scan xs [] ≡ Some is)
scan_front xs ys js e = by (scan xs []) refl (sym (scan_append xs ys []) ∙ e)
  where
    by : (o : Option (List Kind)) → scan xs [] ≡ o → option_and_then (scan ys) o ≡ Some js → (is : List Kind) × (scan xs [] ≡ Some is)
    by None f g = none_some js g
    by (Some is) f g = (is, f)

-- no procedure begins inside a block
begins_not : (ss : List Placed) (i m j : ℕ) (s : Placed) → IsInOrder ss → HasNoFault ss → Pairs ss i j → i < m → m < j → slice_get ss m ≡ Some s → begins s.says ≡ 1 → ⊥
begins_not ss i m j s o n p h l at begin =
    let within : m < length ss = slice_get_within ss m s at in
    let low : m ≤ length ss = omega arith in
    let front = scan_front (between ss i m) (brackets_of s.says ++ between ss m j) []
    (ap (λ (bs : List Bracket). scan bs []) (sym (between_split ss i m j s h l at)) ∙ opens_scanned (between ss i j) [] p.inner) in
    let still = opened_still ss i m p.opener p.kind front.0 [] h low p.from p.opens front.1 (none_open ss m s o n at begin) in
    not_empty front.0 still.0 p.kind still.1
  where
    not_empty : (is ks : List Kind) (k : Kind) → [] ≡ is ++ k ∷ ks → ⊥
    not_empty [] ks k e = cc
    not_empty (x ∷ is) ks k e = cc

-- a statement in a block is of the procedure of the statement that opens the block, if that is no PROC
pub same_owner : (ss : List Placed) (i m j : ℕ) → IsInOrder ss → HasNoFault ss → (p : Pairs ss i j) → begins p.opener.says ≡ 0 → i ≤ m → m ≤ j → owner ss m ≡ owner ss i
same_owner ss i zero j o n p b h l = let same : zero ≡ i = omega arith in ap (owner ss) same
same_owner ss i (suc m) j o n p b h l = elim (cases_lt m i) [
  | inl less ↦ let same : suc m ≡ i = omega arith in ap (owner ss) same
  | inr more ↦
      let low : m ≤ j = omega (arith, l) in
      let inside : m < j = omega (arith, l) in
      let far : j < length ss = slice_get_within ss j p.ender p.to in
      let within : m < length ss = omega arith in
      let s = stands ss m within in
      let before : owner ss m ≡ owner ss i = same_owner ss i m j o n p b more low in
      let next : owner ss (suc m) ≡ owner ss m + begins s.0.says = owner_next ss m s.0 s.1 in
      let none : begins s.0.says ≡ 0 = begins_nothing s.0 (cases_lt i m) s.1 inside more in
      omega (arith, before, next, none)
]
  where
    at_most : (x : Statement) → (begins x ≡ 1 → ⊥) → begins x ≡ 0
    at_most (procedure _) other = absurd (other refl)
    at_most _ other = refl

    begins_nothing : {m : ℕ} (s : Placed) → (i < m) ⊎ (m ≤ i) → slice_get ss m ≡ Some s → m < j → i ≤ m → begins s.says ≡ 0
    begins_nothing {m} s (inl less) at inside more = at_most s.says (begins_not ss i m j s o n p less inside at)
    begins_nothing {m} s (inr equal) at inside more =
        let same : m ≡ i = omega arith in
        let z : ◌≡◌ {A = Option Placed} (Some s) (Some p.opener) = sym at ∙ ap (slice_get ss) same ∙ p.from in
        let one : s ≡ p.opener = cc in
        ap (λ (x : Placed). begins x.says) one ∙ b
