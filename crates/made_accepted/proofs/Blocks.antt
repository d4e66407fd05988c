-- The blocks of a made text are matched: its procedure stands open around its loops, of which each is closed before the next opens,
-- and there is no label. Nor is there a CALL.
use Rattle.std.proofs.Common.{◌≡◌, ℕ, zero, suc, ◌+◌, ◌<◌, ◌≤◌, List, [], ◌∷◌, ◌++◌, length, refl, sym, ap, ◌∙◌, subst, arith, drop, true, false, append_assoc, length-append, inl, inr, get_or}
use Rattle.std.specs.Prelude.{Option, Some, None, slice_get, codes}
use Rattle.std.specs.List.{flat_map, range_with_len}
use Rattle.std.proofs.lemmas.Option.{slice_get_within, slice_get-get_or}
use Rattle.il_core.specs.declared.statement.Link.{Link}
use Rattle.il_core.specs.declared.statement.Link.TheVariants as link
use Rattle.il_core.specs.Statement.{Statement, Placed, loop, exit_when, assign, end_loop, title, constant_is, range_type, wrap_type, enum_type, procedure, variable, pre, post, if_true, otherwise, end_if, exit, label, goto, call, skip, assert, return, end_procedure, finish}
use Rattle.il_blocks.specs.declared.block.Kind.TheVariants as kind
use Rattle.il_blocks.specs.Block.{IsUnmatched, closed_by, leaves}
use Rattle.il_blocks.specs.BlockFault.{HasNoFault}
use Rattle.il_blocks.specs.BlockLabel.{IsMislabelled, label_of, target_of}
use Rattle.il_blocks.specs.BlockLink.{IsLink, AreLinks, LeavesTo, line, end_line}
use Rattle.il_blocks.specs.BlockStack.{moved}
use Rattle.il_blocks.specs.BlockTable.{AreMates, noted, head}
use Rattle.il_blocks.proofs.BlockLinks.{LinksSoFar, no_links, links_more, links_whole}
use Rattle.il_blocks.proofs.BlockMates.{SoFar, none_so_far, so_far_next, all_mates}
use Rattle.il_blocks.proofs.BlockStack.{no_stack, goes_past, none_unmatched}
use Rattle.call_free.specs.Laws.{is_call, HasNoCall}
use Rattle.made_text.specs.Made as made
use Rattle.made_accepted.specs.Statements.{placed_from, round, closing, statements, at_least, raised}

-- a statement behind a front
get_at : (front rest : List Placed) (s : Placed) → slice_get (front ++ s ∷ rest) (length front) ≡ Some s
get_at [] rest s = refl
get_at (x ∷ front) rest s = get_at front rest s

-- the statements of the front are matched, and these blocks are open behind it
record ArePassed (ss front rest : List Placed) (es : _) : Type 0 where
  is : ss ≡ front ++ rest
  ends : List ℕ
  heads : List ℕ
  so_far : SoFar ss (length front) es ends heads
  none : (j : ℕ) → j < length front → IsUnmatched ss j → ⊥

pass_one : (ss front rest : List Placed) (s : Placed) (es js : _) → ArePassed ss front (s ∷ rest) es → moved (length front) s.says es ≡ Some js → ArePassed ss (front ++ s ∷ []) rest js
pass_one ss front rest s es js p e =
    let at : slice_get ss (length front) ≡ Some s = ap (λ xs. slice_get xs (length front)) p.is ∙ get_at front rest s in
    let more = goes_past ss (length front) s es js at (p.so_far.stack, p.none) e in
    let long : length (front ++ s ∷ []) ≡ length front + 1 = length-append front (s ∷ []) in
    record {
      is = p.is ∙ sym (append_assoc front (s ∷ []) rest);
      ends = noted (closed_by s.says) es (length front) p.ends ++ 0 ∷ [];
      heads = p.heads ++ head es ∷ [];
      so_far = subst (λ n. SoFar ss n js (noted (closed_by s.says) es (length front) p.ends ++ 0 ∷ []) (p.heads ++ head es ∷ [])) (sym long)
          (so_far_next ss (length front) s es js p.ends p.heads at p.so_far e);
      none = λ j h. more.1 j (omega (arith, long));
    }

abbrev with_round : ℕ → ℕ → ℕ → ℕ → ℕ → List Placed → List Placed
with_round a b c d k rest = record { place = a; says = loop } ∷ record { place = b; says = exit_when (at_least k) } ∷ record { place = c; says = assign (codes "x") raised }
    ∷ record { place = d; says = end_loop } ∷ rest

-- behind a round the blocks are open that were open before it
round_passed : (ss front rest : List Placed) (a b c d k : ℕ) (es : _) → ArePassed ss front (with_round a b c d k rest) es → (more : List Placed) × ArePassed ss more rest es
round_passed ss front rest a b c d k es p =
    let opened = pass_one ss front _ (record { place = a; says = loop }) es _ p refl in
    let tested = pass_one ss (front ++ record { place = a; says = loop } ∷ []) _ (record { place = b; says = exit_when (at_least k) }) _ _ opened refl in
    let assigned = pass_one ss ((front ++ record { place = a; says = loop } ∷ []) ++ record { place = b; says = exit_when (at_least k) } ∷ []) _ (record { place = c; says = assign (codes "x") raised }) _ _ tested refl in
    let closed = pass_one ss (((front ++ record { place = a; says = loop } ∷ []) ++ record { place = b; says = exit_when (at_least k) } ∷ []) ++ record { place = c; says = assign (codes "x") raised } ∷ []) rest
    (record { place = d; says = end_loop }) _ es assigned refl in
    (_, closed)

rounds_passed : (ss front : List Placed) (at : ℕ) (ks : List ℕ) (es : _) → ArePassed ss front (placed_from at (flat_map made.round ks ++ made.closing) (flat_map round ks ++ closing)) es
    → (last : ℕ) × (more : List Placed) × ArePassed ss more (placed_from last made.closing closing) es
rounds_passed ss front at [] es p = (at, front, p)
rounds_passed ss front at (k ∷ ks) es p =
    let r = round_passed ss front _ _ _ _ _ k es p in
    rounds_passed ss r.0 _ ks es r.1

whole_length : (ss front : List Placed) → ss ≡ front ++ [] → length front ≡ length ss
whole_length ss front e = let n : length ss ≡ length (front ++ []) = ap length e in omega (arith, n, length-append front [])

-- no statement is unmatched, and it is known which belong together
record AreMatched (ss : List Placed) : Type 0 where
  none : (i : ℕ) → IsUnmatched ss i → ⊥
  ends : List ℕ
  heads : List ℕ
  mates : AreMates ss ends heads

all_matched : (ss front : List Placed) → ArePassed ss front [] [] → AreMatched ss
all_matched ss front p =
    let long : length front ≡ length ss = whole_length ss front p.is in
    record {
      none = none_unmatched ss (length front) (omega arith) p.none;
      ends = p.ends;
      heads = p.heads;
      mates = all_mates ss p.ends p.heads (subst (λ n. SoFar ss n [] p.ends p.heads) long p.so_far);
    }

are_matched : (n : ℕ) → AreMatched (statements n)
are_matched n =
    let begun : ArePassed (statements n) [] (statements n) [] = record { is = refl; ends = []; heads = []; so_far = none_so_far (statements n) (no_stack (statements n)); none = λ j h. absurd (omega arith) } in
    let one = pass_one (statements n) _ _ _ _ _ begun refl in
    let two = pass_one (statements n) _ _ _ _ _ one refl in
    let three = pass_one (statements n) _ _ _ _ _ two refl in
    let four = pass_one (statements n) _ _ _ _ _ three refl in
    let five = pass_one (statements n) _ _ _ _ _ four refl in
    let rounds = rounds_passed (statements n) _ _ (range_with_len 1 n) _ five in
    let closed = pass_one (statements n) _ _ _ _ _ rounds.2 refl in
    let finished = pass_one (statements n) _ _ _ _ _ closed refl in
    all_matched (statements n) _ finished

-- no statement is a LABEL, a GOTO or a CALL
abbrev AreBare : List Placed → Type 0
AreBare [] = Unit {0}
AreBare (s ∷ ss) = (label_of s.says ≡ None) × (target_of s.says ≡ None) × (is_call s.says ≡ false) × AreBare ss

rounds_bare : (ks : List ℕ) (at : ℕ) → AreBare (placed_from at (flat_map made.round ks ++ made.closing) (flat_map round ks ++ closing))
rounds_bare [] at = (refl, refl, refl, (refl, refl, refl, tt))
rounds_bare (k ∷ ks) at = (refl, refl, refl, (refl, refl, refl, (refl, refl, refl, (refl, refl, refl, rounds_bare ks _))))

all_bare : (n : ℕ) → AreBare (statements n)
all_bare n = (refl, refl, refl, (refl, refl, refl, (refl, refl, refl, (refl, refl, refl, (refl, refl, refl, rounds_bare (range_with_len 1 n) _)))))

bare_at : (ss : List Placed) (i : ℕ) (s : Placed) → AreBare ss → slice_get ss i ≡ Some s → (label_of s.says ≡ None) × (target_of s.says ≡ None) × (is_call s.says ≡ false)
bare_at [] i s h e = absurd (let z : ◌≡◌ {A = Option Placed} None (Some s) = e in cc)
bare_at (x ∷ ss) zero s h e = let same : x ≡ s = cc in subst (λ (y : Placed). (label_of y.says ≡ None) × (target_of y.says ≡ None) × (is_call y.says ≡ false)) same (h.0, h.1, h.2)
bare_at (x ∷ ss) (suc i) s h e = bare_at ss i s h.3 e

pub no_call : (n : ℕ) → HasNoCall (statements n)
no_call n i s e = (bare_at (statements n) i s (all_bare n) e).2

not_both : (o : Option (List ℕ)) (name : List ℕ) → o ≡ None → o ≡ Some name → ⊥
not_both o name e f = let z : ◌≡◌ {A = Option (List ℕ)} None (Some name) = sym e ∙ f in cc

none_mislabelled : (n i : ℕ) → IsMislabelled (statements n) i → ⊥
none_mislabelled n i (inl r) = not_both (label_of r.stmt.says) r.name (bare_at (statements n) i r.stmt (all_bare n) r.at).0 r.says
none_mislabelled n i (inr l) = not_both (target_of l.stmt.says) l.name (bare_at (statements n) i l.stmt (all_bare n) l.at).1 l.says

pub none_at_fault : (n : ℕ) → HasNoFault (statements n)
none_at_fault n i (inl u) = (are_matched n).none i u
none_at_fault n i (inr m) = none_mislabelled n i m

-- a LOOP around an EXIT, and its end
leaving : (ss : List Placed) (ends heads : List ℕ) → AreMates ss ends heads → (x : ℕ) (s : Placed) → slice_get ss x ≡ Some s → leaves s.says ≡ true → (target : ℕ) × LeavesTo ss x target
leaving ss ends heads m x s at e =
    let around = (m.heads_each x (slice_get_within ss x s at)).around s at e in
    let pairs = m.ends_each (get_or heads x 0) (slice_get_within ss (get_or heads x 0) around.opener around.at) around.opener kind.Round around.at around.opens in
    (line ss (get_or ends (get_or heads x 0) 0) + 1, record { loop = get_or heads x 0; surrounds = around; end = get_or ends (get_or heads x 0) 0; pairs = pairs; is = refl })

-- each statement but a GOTO has its link
link_for : (ss : List Placed) (ends heads : List ℕ) → AreMates ss ends heads → (x place : ℕ) (s : Statement) → slice_get ss x ≡ Some (record { place = place; says = s }) → target_of s ≡ None
    → (l : Link) × IsLink ss x s l
link_for ss ends heads m x place (title _) at e = (link.NoLine, refl)
link_for ss ends heads m x place (constant_is _ _) at e = (link.NoLine, refl)
link_for ss ends heads m x place (range_type _ _ _) at e = (link.NoLine, refl)
link_for ss ends heads m x place (wrap_type _ _ _) at e = (link.NoLine, refl)
link_for ss ends heads m x place (enum_type _ _) at e = (link.NoLine, refl)
link_for ss ends heads m x place (procedure _) at e = (link.NoLine, refl)
link_for ss ends heads m x place (variable _ _ _) at e = (link.NoLine, refl)
link_for ss ends heads m x place (pre _) at e = (link.Plain (line ss x), (refl, refl, refl))
link_for ss ends heads m x place (post _) at e = (link.NoLine, refl)
link_for ss ends heads m x place (assign _ _) at e = (link.Plain (line ss x), (refl, refl, refl))
link_for ss ends heads m x place (if_true _) at e =
    let pairs = m.ends_each x (slice_get_within ss x _ at) _ _ at refl in
    (link.Jump (line ss x) _, (refl, record { end = get_or ends x 0; pairs = pairs; is = refl }))
link_for ss ends heads m x place otherwise at e =
    let pairs = m.ends_each x (slice_get_within ss x _ at) _ _ at refl in
    (link.Jump (line ss x) (line ss (get_or ends x 0)), (refl, (get_or ends x 0, pairs, refl)))
link_for ss ends heads m x place end_if at e = (link.Plain (line ss x), (refl, refl, refl))
link_for ss ends heads m x place loop at e = (link.Plain (line ss x), (refl, refl, refl))
link_for ss ends heads m x place end_loop at e =
    let pairs = (m.heads_each x (slice_get_within ss x _ at)).closed _ at refl in
    (link.Jump (line ss x) (line ss (get_or heads x 0)), (refl, (get_or heads x 0, pairs, refl)))
link_for ss ends heads m x place exit at e = let l = leaving ss ends heads m x _ at refl in (link.Jump (line ss x) l.0, (refl, l.1))
link_for ss ends heads m x place (exit_when _) at e = let l = leaving ss ends heads m x _ at refl in (link.Jump (line ss x) l.0, (refl, l.1))
link_for ss ends heads m x place (label _) at e = (link.Plain (line ss x), (refl, refl, refl))
link_for ss ends heads m x place (goto name) at e = absurd (let z : ◌≡◌ {A = Option (List ℕ)} (Some name) None = e in cc)
link_for ss ends heads m x place (call _ _) at e = (link.Plain (line ss x), (refl, refl, refl))
link_for ss ends heads m x place skip at e = (link.Plain (line ss x), (refl, refl, refl))
link_for ss ends heads m x place (assert _) at e = (link.Plain (line ss x), (refl, refl, refl))
link_for ss ends heads m x place return at e = (link.Jump (line ss x) (end_line (line ss x) (drop x ss)), (refl, refl))
link_for ss ends heads m x place end_procedure at e = (link.Plain (line ss x), (refl, refl, refl))
link_for ss ends heads m x place finish at e = (link.NoLine, refl)

links_upto : (ss : List Placed) → ((x : ℕ) (s : Placed) → slice_get ss x ≡ Some s → (l : Link) × IsLink ss x s.says l) → (n : ℕ) → n ≤ length ss → (links : List Link) × LinksSoFar ss n links
links_upto ss each zero h = ([], no_links ss)
links_upto ss each (suc n) h =
    let r = links_upto ss each n (omega arith) in
    let at : slice_get ss n ≡ Some (get_or ss n (record { place = 0; says = finish })) = slice_get-get_or ss n (record { place = 0; says = finish }) (omega arith) in
    let l = each n (get_or ss n (record { place = 0; says = finish })) at in
    let e : n + 1 ≡ suc n = omega arith in
    (r.0 ++ l.0 ∷ [], subst (λ m. LinksSoFar ss m (r.0 ++ l.0 ∷ [])) e (links_more ss n (get_or ss n (record { place = 0; says = finish })) l.0 r.0 at l.1 r.1))

pub are_linked : (n : ℕ) → (links : List Link) × AreLinks (statements n) links
are_linked n =
    let ss = statements n in
    let m = are_matched n in
    let r = links_upto ss (λ x s at. link_for ss m.ends m.heads m.mates x s.place s.says at (bare_at ss x s (all_bare n) at).1) (length ss) (omega arith) in
    (r.0, links_whole ss (length ss) r.0 refl (none_at_fault n) r.1)
