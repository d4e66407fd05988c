-- Statements in order have their links, or are refused for a block or a label.
use Rattle.std.proofs.Common.{◌≡◌, ◌⊎◌, ◌||◌, ℕ, zero, suc, ◌+◌, ◌<◌, ◌≤◌, Bool, true, false, List, [], ◌∷◌, ◌++◌, length, get_or, slice_get, drop, refl, sym, subst, inl, inr, arith, if◌then◌else◌}
use Rattle.std.specs.Prelude.{Option, Some, None, Result, Ok, Err}
use Rattle.std.proofs.lemmas.Bool.{cases_order}
use Rattle.il_core.specs.Statement.{Statement, Placed, if_true, otherwise, end_loop, exit, exit_when, goto, return}
use Rattle.il_core.specs.declared.refusal.Code.TheVariants as code
use Rattle.il_core.specs.declared.refusal.Refusal.{Refusal}
use Rattle.il_core.specs.declared.statement.Link.{Link}
use Rattle.il_core.specs.declared.statement.Link.TheVariants as link
use Rattle.il_syntax.specs.Order.{IsInOrder}
use Rattle.il_blocks.specs.declared.block.Kind.TheVariants as kind
use Rattle.il_blocks.specs.Block.{IsUnmatched, IsFirst, leaves, closed_by}
use Rattle.il_blocks.specs.BlockFault.{IsFault, IsRefusedAt, HasNoFault, lesser}
use Rattle.il_blocks.specs.BlockLabel.{owner, label_of, target_of, Entries, IsTable, IsMislabelled, enlisted, found, is_repeat, is_lost}
use Rattle.il_blocks.specs.BlockLink.{Pairs, LeavesTo, HasTarget, IsLink, AreLinks, Links, has_line, names_line, is_else, line, end_line}
use Rattle.il_blocks.specs.BlockStack.{moved}
use Rattle.il_blocks.specs.BlockTable.{AreMates, SaysAt, noted, head}
use Rattle.il_blocks.proofs.BlockFirst.{first_of_either, fault_within}
use Rattle.il_blocks.proofs.BlockLabels.{table_start, table_next, mislabelled_here, labelled_here, none_mislabelled}
use Rattle.il_blocks.proofs.BlockLinks.{LinksSoFar, no_links, links_more, links_whole}
use Rattle.il_blocks.proofs.BlockMates.{SoFar, none_so_far, so_far_next, all_mates}
use Rattle.il_blocks.proofs.BlockOrder.{ends_closed}
use Rattle.il_blocks.proofs.BlockStack.{no_stack, unmatched_here, matched_here, none_unmatched}
use Rattle.il_blocks.proofs.BlockTargets.{end_read, opens_at, loop_read, head_read, surrounds_opens, label_read, label_there}
use Rattle.il_built.proofs.Given.{stands}

-- below n no number passes, or a first one does
abbrev FirstBelow : (ℕ → Type 0) → ℕ → Type 0
FirstBelow P n = ((j : ℕ) → j < n → P j → ⊥) ⊎ ((i : ℕ) × P i × ((j : ℕ) → j < i → P j → ⊥))

one_more : (P : ℕ → Type 0) (n : ℕ) → ((j : ℕ) → j < n → P j → ⊥) → P n ⊎ (P n → ⊥) → FirstBelow P (suc n)
one_more P n before (inl p) = inr (n, p, before)
one_more P n before (inr never) = inl (λ j h. elim (cases_order j n) [
  | inl same ↦ subst (λ k. P k → ⊥) (sym same) never
  | inr (inl l) ↦ before j l
  | inr (inr l) ↦ absurd (omega arith)
])

first_below : (P : ℕ → Type 0) (n : ℕ) → ((j : ℕ) → j < n → P j ⊎ (P j → ⊥)) → FirstBelow P n
first_below P zero test = inl (λ j h p. absurd (omega arith))
first_below P (suc n) test = by (first_below P n (λ j h. test j (omega arith)))
  where
    by : FirstBelow P n → FirstBelow P (suc n)
    by (inl before) = one_more P n before (test n (omega arith))
    by (inr x) = inr x

-- what is known behind n statements of which none is unmatched, with the blocks that are open there
record Passed (ss : List Placed) (n : ℕ) (es : _) : Type 0 where
  ends : List ℕ
  heads : List ℕ
  far : SoFar ss n es ends heads
  before : (j : ℕ) → j < n → IsUnmatched ss j → ⊥

abbrev HasPassed : List Placed → ℕ → Type 0
HasPassed ss n = (es : _) × Passed ss n es

-- a first unmatched statement
abbrev Unmatched : List Placed → Type 0
Unmatched ss = (i : ℕ) × IsUnmatched ss i × ((j : ℕ) → j < i → IsUnmatched ss j → ⊥)

passed_upto : (ss : List Placed) (n : ℕ) → n ≤ length ss → HasPassed ss n ⊎ Unmatched ss
passed_upto ss zero h = inl ([], record { ends = []; heads = []; far = none_so_far ss (no_stack ss); before = λ j l. absurd (omega arith) })
passed_upto ss (suc n) h = by (passed_upto ss n (omega arith))
  where
    next : n + 1 ≡ suc n
    next = omega arith

    step : (x : Placed) → slice_get ss n ≡ Some x → (es : _) → (p : Passed ss n es) → (o : Option _) → moved n x.says es ≡ o → HasPassed ss (suc n) ⊎ Unmatched ss
    step x at es p None e = inr (n, unmatched_here ss n x es at p.far.stack e, p.before)
    step x at es p (Some js) e = inl (
      js,
      record {
        ends = noted (closed_by x.says) es n p.ends ++ 0 ∷ [];
        heads = p.heads ++ head es ∷ [];
        far = subst (λ k. SoFar ss k js (noted (closed_by x.says) es n p.ends ++ 0 ∷ []) (p.heads ++ head es ∷ [])) next (so_far_next ss n x es js p.ends p.heads at p.far e);
        before = behind;
      },
    )
      where
        behind : (j : ℕ) → j < suc n → IsUnmatched ss j → ⊥
        behind j l = elim (cases_order j n) [
          | inl same ↦ subst (λ k. IsUnmatched ss k → ⊥) (sym same) (matched_here ss n x es js at p.far.stack e)
          | inr (inl m) ↦ p.before j m
          | inr (inr m) ↦ absurd (omega arith)
        ]

    by : HasPassed ss n ⊎ Unmatched ss → HasPassed ss (suc n) ⊎ Unmatched ss
    by (inl p) = let x = stands ss n (omega arith) in step x.0 x.1 p.0 p.1 (moved n x.0.says p.0) refl
    by (inr u) = inr u

-- the table of the labels of the first n statements
table_upto : (ss : List Placed) (n : ℕ) → n ≤ length ss → (es : Entries) × IsTable ss n es
table_upto ss zero h = ([], table_start ss)
table_upto ss (suc n) h =
    let x = stands ss n (omega arith) in
    let t = table_upto ss n (omega arith) in
    let next : n + 1 ≡ suc n = omega arith in
    (enlisted (label_of x.0.says) (owner ss n) n t.0, subst (λ k. IsTable ss k (enlisted (label_of x.0.says) (owner ss n) n t.0)) next (table_next ss n x.0 t.0 x.1 t.1))

mislabelled_decided : (ss : List Placed) (es : Entries) → IsTable ss (length ss) es → (i : ℕ) → i < length ss → IsMislabelled ss i ⊎ (IsMislabelled ss i → ⊥)
mislabelled_decided ss es t i h = let x = stands ss i h in by x.0 x.1 (is_repeat (label_of x.0.says) (owner ss i) i es || is_lost (target_of x.0.says) (owner ss i) es) refl
  where
    by : (x : Placed) → slice_get ss i ≡ Some x → (b : Bool) → (is_repeat (label_of x.says) (owner ss i) i es || is_lost (target_of x.says) (owner ss i) es) ≡ b
        → IsMislabelled ss i ⊎ (IsMislabelled ss i → ⊥)
    by x at true e = inl (mislabelled_here ss i x es at t e)
    by x at false e = inr (labelled_here ss i x es at t e)

-- the first statement at fault, if any
fault_first : (ss : List Placed) (a b : Option ℕ) → IsFirst (IsUnmatched ss) a → IsFirst (IsMislabelled ss) b → IsFirst (IsFault ss) (lesser a b)
fault_first ss a b f g = first_of_either (IsUnmatched ss) (IsMislabelled ss) a b f g

-- statements with a first fault are refused
refused : (ss : List Placed) (i : ℕ) → IsFirst (IsFault ss) (Some i) → (r : Refusal) × IsRefusedAt ss r
refused ss i f =
    let x = stands ss i (fault_within ss i f.0) in
    (record { code = code.Unmatched; place = x.0.place; name = None }, record { number = i; stmt = x.0; at = x.1; first = f; code = refl; place = refl; name = refl })

-- an EXIT leaves the innermost LOOP around it
leaving : (ss : List Placed) (ends heads : List ℕ) → AreMates ss ends heads → (x : ℕ) (s : Statement) → SaysAt ss x s → leaves s ≡ true → (t : ℕ) × LeavesTo ss x t
leaving ss ends heads m x s says l =
    let around = head_read ss ends heads x (get_or heads x 0) s m says l refl in
    let end = get_or ends (get_or heads x 0) 0 in (
      line ss end + 1,
      record {
        loop = get_or heads x 0;
        surrounds = around;
        end = end;
        pairs = end_read ss ends heads (get_or heads x 0) end m (surrounds_opens ss (get_or heads x 0) x around) refl;
        is = refl;
      },
    )

-- a statement that names a line has one
target_there : (ss : List Placed) (ends heads : List ℕ) (es : Entries) → AreMates ss ends heads → IsTable ss (length ss) es → HasNoFault ss → (x : ℕ) (s : Statement)
    → SaysAt ss x s → names_line s ≡ true → (t : ℕ) × HasTarget ss x s t
target_there ss ends heads es m table never x (if_true e) says named =
    let p : Pairs ss x (get_or ends x 0) = end_read ss ends heads x (get_or ends x 0) m (opens_at ss x (if_true e) kind.Then says refl) refl in
    ((if is_else p.ender.says then line ss (get_or ends x 0) + 1 else line ss (get_or ends x 0)), record { end = get_or ends x 0; pairs = p; is = refl })
target_there ss ends heads es m table never x otherwise says named =
    (line ss (get_or ends x 0), (get_or ends x 0, end_read ss ends heads x (get_or ends x 0) m (opens_at ss x otherwise kind.Otherwise says refl) refl, refl))
target_there ss ends heads es m table never x end_loop says named =
    (line ss (get_or heads x 0), (get_or heads x 0, loop_read ss ends heads x (get_or heads x 0) m says refl, refl))
target_there ss ends heads es m table never x exit says named = leaving ss ends heads m x exit says refl
target_there ss ends heads es m table never x (exit_when e) says named = leaving ss ends heads m x (exit_when e) says refl
target_there ss ends heads es m table never x (goto name) says named = by (found (owner ss x) name es) refl
  where
    by : (o : Option ℕ) → found (owner ss x) name es ≡ o → (t : ℕ) × HasTarget ss x (goto name) t
    by None e = absurd (label_there ss es x name table never says e)
    by (Some j) e = (line ss j, (j, (label_read ss es (owner ss x) name j table e).1, refl))
target_there ss ends heads es m table never x return says named = (end_line (line ss x) (drop x ss), refl)
target_there ss ends heads es m table never x _ says named = absurd (cc)

-- each statement has its link
link_there : (ss : List Placed) (ends heads : List ℕ) (es : Entries) → AreMates ss ends heads → IsTable ss (length ss) es → HasNoFault ss → (x : ℕ) (s : Placed)
    → slice_get ss x ≡ Some s → (l : Link) × IsLink ss x s.says l
link_there ss ends heads es m table never x s at = by (has_line s.says) (names_line s.says) refl refl
  where
    by : (h n : Bool) → has_line s.says ≡ h → names_line s.says ≡ n → (l : Link) × IsLink ss x s.says l
    by false n e f = (link.NoLine, e)
    by true false e f = (link.Plain (line ss x), (e, f, refl))
    by true true e f =
        let t = target_there ss ends heads es m table never x s.says (record { stmt = s; at = at; says = refl }) f in
        (link.Jump (line ss x) t.0, (refl, t.1))

links_upto : (ss : List Placed) (ends heads : List ℕ) (es : Entries) → AreMates ss ends heads → IsTable ss (length ss) es → HasNoFault ss → (n : ℕ) → n ≤ length ss
    → (links : List Link) × LinksSoFar ss n links
links_upto ss ends heads es m table never zero h = ([], no_links ss)
links_upto ss ends heads es m table never (suc n) h =
    let x = stands ss n (omega arith) in
    let before = links_upto ss ends heads es m table never n (omega arith) in
    let l = link_there ss ends heads es m table never n x.0 x.1 in
    let next : n + 1 ≡ suc n = omega arith in
    (before.0 ++ l.0 ∷ [], subst (λ k. LinksSoFar ss k (before.0 ++ l.0 ∷ [])) next (links_more ss n x.0 l.0 before.0 x.1 l.1 before.1))

-- statements in order that are all matched, with their labels
linked : (ss : List Placed) → IsInOrder ss → (es : _) (p : Passed ss (length ss) es) → (labels : Entries) → IsTable ss (length ss) labels → HasNoFault ss → (links : List Link) × AreLinks ss links
linked ss o es p labels table never =
    let closed : es ≡ [] = ends_closed ss es o p.far.stack in
    let m : AreMates ss p.ends p.heads = all_mates ss p.ends p.heads (subst (λ bs. SoFar ss (length ss) bs p.ends p.heads) closed p.far) in
    let links = links_upto ss p.ends p.heads labels m table never (length ss) (omega arith) in
    (links.0, links_whole ss (length ss) links.0 refl never links.1)

-- statements in order have links or a refusal
pub links_decided : (ss : List Placed) → IsInOrder ss → (r : Result (List Link) Refusal) × Links ss r
links_decided ss o = let t = table_upto ss (length ss) (omega arith) in by t.0 t.1 (passed_upto ss (length ss) (omega arith))
    (first_below (IsMislabelled ss) (length ss) (mislabelled_decided ss t.0 t.1))
  where
    refusing : (a b : Option ℕ) → IsFirst (IsUnmatched ss) a → IsFirst (IsMislabelled ss) b → (i : ℕ) → lesser a b ≡ Some i → (r : Result (List Link) Refusal) × Links ss r
    refusing a b f g i e = let r = refused ss i (subst (IsFirst (IsFault ss)) e (fault_first ss a b f g)) in (Err r.0, r.1)

    -- the lesser of two numbers of which one is there
    lesser_there : (i : ℕ) (b : Option ℕ) → (n : ℕ) × (lesser (Some i) b ≡ Some n)
    lesser_there i None = (i, refl)
    lesser_there i (Some j) = (_, refl)

    by : (es : Entries) → IsTable ss (length ss) es → HasPassed ss (length ss) ⊎ Unmatched ss → FirstBelow (IsMislabelled ss) (length ss) → (r : Result (List Link) Refusal) × Links ss r
    by es t (inl p) (inl never) =
        let none = fault_first ss None None (none_unmatched ss (length ss) (omega arith) p.1.before) (none_mislabelled ss (length ss) (omega arith) never) in
        let l = linked ss o p.0 p.1 es t none in
        (Ok l.0, l.1)
    by es t (inl p) (inr x) = refusing None (Some x.0) (none_unmatched ss (length ss) (omega arith) p.1.before) (x.1, x.2) x.0 refl
    by es t (inr u) (inl never) = refusing (Some u.0) None (u.1, u.2) (none_mislabelled ss (length ss) (omega arith) never) u.0 refl
    by es t (inr u) (inr x) = let l = lesser_there u.0 (Some x.0) in refusing (Some u.0) (Some x.0) (u.1, u.2) (x.1, x.2) l.0 l.1
