-- The end of each block and the LOOP of each EXIT and ENDLOOP, as the stack tells them statement by statement.
use Rattle.std.proofs.Common.{◌≡◌, ◌⊎◌, ◌||◌, ◌&&◌, ◌+◌, ◌<◌, not, is_some, nat_eq, ℕ, suc, Bool, true, false, List, [], ◌∷◌, ◌++◌, length, slice_get, get_or, set, refl, sym, ◌∙◌, ap, subst, inl, inr, arith, if◌then◌else◌}
use Rattle.std.specs.Prelude.{Option, Some, None}
use Rattle.std.specs.List.{list_any}
use Rattle.std.proofs.lemmas.Bool.Decides.{Decides-eqb}
use Rattle.std.proofs.lemmas.List.{length-append, length-set, get_or_append_left, get_or_push, get_or-set_same, get_or-set_other}
use Rattle.std.proofs.lemmas.List.Folds.{list_any-append}
use borrow.Author.Count.{below_more}
use Rattle.il_core.specs.Statement.{Placed}
use Rattle.il_blocks.specs.declared.block.Kind.{Kind}
use Rattle.il_blocks.specs.declared.block.Kind.TheVariants as kind
use Rattle.il_blocks.specs.declared.block.Closer.{Closer}
use Rattle.il_blocks.specs.declared.block.Closer.TheVariants as closer
use Rattle.il_blocks.specs.declared.block.OpenBlock.{OpenBlock}
use Rattle.il_blocks.specs.Block.{fits, is_round, leaves, opened_by, closed_by}
use Rattle.il_blocks.specs.BlockStack.{innermost, in_loop, left, entered, moved}
use Rattle.il_blocks.specs.BlockLink.{between, Pairs, Surrounds}
use Rattle.il_blocks.specs.BlockTable.{IsHead, AreMates, IsListed, number, head, noted}
use Rattle.il_blocks.proofs.BlockNest.{scanned_opens}
use Rattle.il_blocks.proofs.BlockChain.{Chain, pair_at}
use Rattle.il_blocks.proofs.BlockStack.{IsRounded, IsStack, Matched, moved_matched, stack_next}

not_some : {A : Type 0} (x : A) → ◌≡◌ {A = Option A} None (Some x) → ⊥
not_some x e = cc

one_at : (ss : List Placed) (i : ℕ) (a b : Placed) → slice_get ss i ≡ Some a → slice_get ss i ≡ Some b → a ≡ b
one_at ss i a b f g = let z : ◌≡◌ {A = Option Placed} (Some a) (Some b) = sym f ∙ g in cc

round_kind : (k : Kind) → is_round k ≡ true → k ≡ kind.Round
round_kind kind.Round e = refl
round_kind _ e = absurd (let z : false ≡ true = e in cc)

ends_round : (k : Kind) → fits closer.ByEndLoop k ≡ true → k ≡ kind.Round
ends_round kind.Round e = refl
ends_round _ e = absurd (let z : false ≡ true = e in cc)

-- the innermost LOOP on the stack is the innermost around the next statement
pub surrounds_at : (ss : List Placed) (x : ℕ) (above : List Kind) (es : List OpenBlock) (i : ℕ) → Chain ss x above es → IsRounded es → list_any is_round above ≡ false
    → innermost es ≡ Some i → Surrounds ss i x
surrounds_at ss x above [] i c r n e = absurd (not_some i e)
surrounds_at ss x above (b ∷ es) i c r n e = by (is_round b.kind) refl (λ more f. surrounds_at ss x (above ++ b.kind ∷ []) es i c.5 r.1 more f)
  where
    by : (t : Bool) → is_round b.kind ≡ t → (list_any is_round (above ++ b.kind ∷ []) ≡ false → innermost es ≡ Some i → Surrounds ss i x) → Surrounds ss i x
    by true f claim =
        let z : ◌≡◌ {A = Option ℕ} (Some b.at) (Some i) = sym (ap (λ (t : Bool). if t then Some b.at else innermost es) f) ∙ sym r.0 ∙ e in
        let same : b.at ≡ i = cc in
        subst (λ (n : ℕ). Surrounds ss n x) same (record {
          opener = c.0;
          at = c.1;
          opens = c.2 ∙ ap (λ (k : Kind). Some k) (round_kind b.kind f);
          before = c.3;
          kinds = above;
          inside = scanned_opens (between ss b.at x) above c.4;
          innermost = n;
        })
    by false f claim =
        claim (list_any-append is_round above (b.kind ∷ []) ∙ ap (λ (t : Bool). t || (is_round b.kind || false)) n ∙ ap (λ (t : Bool). t || false) f)
        (sym (ap (λ (t : Bool). if t then Some b.at else innermost es) f) ∙ sym r.0 ∙ e)

-- the LOOP of a statement that is matched
inside_is : (l b : Bool) → l ≡ true → (l && not b) ≡ false → b ≡ true
inside_is true true p q = refl
inside_is true false p q = sym q
inside_is false b p q = cc

is_there : (o : Option ℕ) → is_some o ≡ true → o ≡ Some (number o)
is_there None e = absurd (let z : false ≡ true = e in cc)
is_there (Some i) e = refl

if_some : {A : Type 0} (b : Bool) (x y : A) → (if b then Some x else None) ≡ Some y → (b ≡ true) × (x ≡ y)
if_some true x y e = let f : x ≡ y = cc in (refl, f)
if_some false x y e = absurd (not_some y e)

closed_head : (ss : List Placed) (x : ℕ) (s : Placed) (es is : List OpenBlock) → slice_get ss x ≡ Some s → closed_by s.says ≡ Some closer.ByEndLoop → IsStack ss x es
    → left (Some closer.ByEndLoop) es ≡ Some is → Pairs ss (head es) x
closed_head ss x s [] is at c f e = absurd (not_some is e)
closed_head ss x s (b ∷ es) is at c f e =
    let k = ends_round b.kind (if_some (fits closer.ByEndLoop b.kind) es is e).0 in
    let here : b.round ≡ Some b.at = f.rounded.0 ∙ ap (λ (t : Kind). if is_round t then Some b.at else innermost es) k in
    subst (λ (n : ℕ). Pairs ss n x) (ap number (sym here)) (pair_at ss x s closer.ByEndLoop b es at c f.chain)

pub head_here : (ss : List Placed) (x : ℕ) (s : Placed) (es js : List OpenBlock) → slice_get ss x ≡ Some s → IsStack ss x es → Matched x s.says es js → IsHead ss x (head es)
head_here ss x s es js at f m = record {
  around = λ t there l.
      let same = one_at ss x s t at there in
      let leaving : leaves s.says ≡ true = ap (λ (y : Placed). leaves y.says) same ∙ l in
      surrounds_at ss x [] es (head es) f.chain f.rounded refl (is_there (innermost es) (inside_is (leaves s.says) (in_loop es) leaving m.inside));
  closed = λ t there c.
      let same = one_at ss x s t at there in
      let closing : closed_by s.says ≡ Some closer.ByEndLoop = ap (λ (y : Placed). closed_by y.says) same ∙ c in
      closed_head ss x s es m.closed at closing f (sym (ap (λ (a : Option Closer). left a es) closing) ∙ m.closes);
}

-- the statement numbered i has a block on the stack
abbrev IsOpen : List OpenBlock → ℕ → Type 0
IsOpen [] i = ⊥
IsOpen (e ∷ es) i = (e.at ≡ i) ⊎ IsOpen es i

-- a block is open, or its end is known
abbrev IsKnown : List Placed → List OpenBlock → List ℕ → ℕ → Type 0
IsKnown ss es ends i = IsOpen es i ⊎ Pairs ss i (get_or ends i 0)

-- the end of the innermost block is noted
known_noted : (ss : List Placed) (j : ℕ) (s : Placed) (a : Option Closer) (es is : List OpenBlock) (ends : List ℕ) → slice_get ss j ≡ Some s → closed_by s.says ≡ a
    → Chain ss j [] es → length ends ≡ j → left a es ≡ Some is → (i : ℕ) → IsKnown ss es ends i → IsKnown ss is (noted a es j ends) i
known_noted ss j s None es is ends at c chain long e i (inl o) = let f : es ≡ is = cc in inl (subst (λ (xs : List OpenBlock). IsOpen xs i) f o)
known_noted ss j s None es is ends at c chain long e i (inr p) = inr p
known_noted ss j s (Some c) [] is ends at d chain long e i k = absurd (not_some is e)
known_noted ss j s (Some c) (b ∷ es) is ends at d chain long e i k = by (nat_eq i b.at) refl k
  where
    same_rest : es ≡ is
    same_rest = (if_some (fits c b.kind) es is e).1

    by : (t : Bool) → nat_eq i b.at ≡ t → IsKnown ss (b ∷ es) ends i → IsKnown ss is (set ends b.at j) i
    by true f k =
        let same : i ≡ b.at = (Decides-eqb i b.at).0 f in
        let within : b.at < length ends = omega (arith, chain.3) in
        let value : get_or (set ends b.at j) i 0 ≡ j = ap (λ (n : ℕ). get_or (set ends b.at j) n 0) same ∙ get_or-set_same ends b.at j 0 within in
        inr (subst (Pairs ss i) (sym value) (subst (λ (n : ℕ). Pairs ss n j) (sym same) (pair_at ss j s c b es at d chain)))
    by false f (inl (inl same)) = absurd (let w : true ≡ false = sym ((Decides-eqb i b.at).1 (sym same)) ∙ f in cc)
    by false f (inl (inr o)) = inl (subst (λ (xs : List OpenBlock). IsOpen xs i) same_rest o)
    by false f (inr p) =
        let apart : i ≡ b.at → ⊥ = λ same. (let w : true ≡ false = sym ((Decides-eqb i b.at).1 same) ∙ f in cc) in
        inr (subst (Pairs ss i) (sym (get_or-set_other ends b.at i j 0 apart)) p)

noted_long : (a : Option Closer) (es : List OpenBlock) (j : ℕ) (ends : List ℕ) → length (noted a es j ends) ≡ length ends
noted_long None es j ends = refl
noted_long (Some c) [] j ends = refl
noted_long (Some c) (e ∷ es) j ends = length-set ends e.at j

-- what is open stays open where a block is opened
still_open : (j : ℕ) (b : Option Kind) (es : List OpenBlock) (i : ℕ) → IsOpen es i → IsOpen (entered j b es) i
still_open j None es i o = o
still_open j (Some k) es i o = inr o

open_here : (j : ℕ) (b : Option Kind) (k : Kind) (es : List OpenBlock) → b ≡ Some k → IsOpen (entered j b es) j
open_here j None k es e = absurd (not_some k e)
open_here j (Some b) k es e = inl refl

-- what is known before the statement numbered j
pub record SoFar (ss : List Placed) (j : ℕ) (es : List OpenBlock) (ends heads : List ℕ) : Type 0 where
  pub stack : IsStack ss j es
  pub ends_long : length ends ≡ j
  pub heads_long : length heads ≡ j
  pub ends_each : (i : ℕ) → i < j → (s : Placed) (k : Kind) → slice_get ss i ≡ Some s → opened_by s.says ≡ Some k → IsKnown ss es ends i
  pub heads_each : (i : ℕ) → i < j → IsHead ss i (get_or heads i 0)

pub none_so_far : (ss : List Placed) → IsStack ss 0 [] → SoFar ss 0 [] [] []
none_so_far ss f = record {
  stack = f;
  ends_long = refl;
  heads_long = refl;
  ends_each = λ i h. absurd (omega (arith, h));
  heads_each = λ i h. absurd (omega (arith, h));
}

pub so_far_next : (ss : List Placed) (j : ℕ) (s : Placed) (es js : List OpenBlock) (ends heads : List ℕ) → slice_get ss j ≡ Some s → SoFar ss j es ends heads → moved j s.says es ≡ Some js
    → SoFar ss (j + 1) js (noted (closed_by s.says) es j ends ++ 0 ∷ []) (heads ++ head es ∷ [])
so_far_next ss j s es js ends heads at f e = record {
  stack = subst (λ (n : ℕ). IsStack ss n js) one (stack_next ss j s es js at f.stack e);
  ends_long = length-append more (0 ∷ []) ∙ ap (λ (n : ℕ). n + 1) (noted_long (closed_by s.says) es j ends ∙ f.ends_long);
  heads_long = length-append heads (head es ∷ []) ∙ ap (λ (n : ℕ). n + 1) f.heads_long;
  ends_each = below_more (λ (i : ℕ). (t : Placed) (k : Kind) → slice_get ss i ≡ Some t → opened_by t.says ≡ Some k → IsKnown ss js (more ++ 0 ∷ []) i) j earlier here;
  heads_each = below_more (λ (i : ℕ). IsHead ss i (get_or (heads ++ head es ∷ []) i 0)) j
      (λ i h. let within : i < length heads = omega (arith, f.heads_long) in
      subst (IsHead ss i) (sym (get_or_append_left heads (head es ∷ []) 0 i within)) (f.heads_each i h))
      (subst (IsHead ss j) (sym (get_or_push heads (head es) 0 j f.heads_long)) (head_here ss j s es js at f.stack m));
}
  where
    m : Matched j s.says es js
    m = moved_matched j s.says es js e

    one : suc j ≡ j + 1
    one = omega arith

    more : List ℕ
    more = noted (closed_by s.says) es j ends

    onward : (i : ℕ) → i < length more → IsKnown ss m.closed more i → IsKnown ss js (more ++ 0 ∷ []) i
    onward i h (inl o) = inl (subst (λ (xs : List OpenBlock). IsOpen xs i) m.opens (still_open j (opened_by s.says) m.closed i o))
    onward i h (inr p) = inr (subst (Pairs ss i) (sym (get_or_append_left more (0 ∷ []) 0 i h)) p)

    earlier : (i : ℕ) → i < j → (t : Placed) (k : Kind) → slice_get ss i ≡ Some t → opened_by t.says ≡ Some k → IsKnown ss js (more ++ 0 ∷ []) i
    earlier i h t k there opens =
        let long : length more ≡ j = noted_long (closed_by s.says) es j ends ∙ f.ends_long in
        let within : i < length more = omega (arith, long) in
        onward i within (known_noted ss j s (closed_by s.says) es m.closed ends at refl f.stack.chain f.ends_long m.closes i (f.ends_each i h t k there opens))

    here : (t : Placed) (k : Kind) → slice_get ss j ≡ Some t → opened_by t.says ≡ Some k → IsKnown ss js (more ++ 0 ∷ []) j
    here t k there opens =
        let same = one_at ss j s t at there in
        let opening : opened_by s.says ≡ Some k = ap (λ (y : Placed). opened_by y.says) same ∙ opens in
        inl (subst (λ (xs : List OpenBlock). IsOpen xs j) m.opens (open_here j (opened_by s.says) k m.closed opening))

-- the innermost open block has its entry
pub listed : (ss : List Placed) (j : ℕ) (es : List OpenBlock) → Chain ss j [] es → IsListed es j
listed ss j [] c = tt
listed ss j (e ∷ es) c = c.3

-- where no block is open at the end, all ends are known
pub all_mates : (ss : List Placed) (ends heads : List ℕ) → SoFar ss (length ss) [] ends heads → AreMates ss ends heads
all_mates ss ends heads f = record {
  ends_long = f.ends_long;
  heads_long = f.heads_long;
  ends_each = λ i h s k at opens. known i (f.ends_each i h s k at opens);
  heads_each = f.heads_each;
}
  where
    known : (i : ℕ) → IsKnown ss [] ends i → Pairs ss i (get_or ends i 0)
    known i (inl o) = absurd o
    known i (inr p) = p
