-- Each line of a procedure fits where it stands.
use Rattle.std.proofs.Common.{◌≡◌, ℕ, ◌+◌, ◌<◌, ◌≤◌, ◌∙◌, ap, subst, refl, inl, true, false, List, [], ◌∷◌, length, arith}
use Rattle.std.specs.Prelude.{Some, None, slice_get}
use Rattle.il_core.specs.Checked.{IsSoundCondition, FitsAt}
use Rattle.il_core.specs.Expression.{Expression}
use Rattle.il_core.specs.Procedure.{Instruction}
use Rattle.il_core.specs.Procedure as line
use Rattle.il_core.specs.Statement.{Statement, Placed, pre, post, assign, if_true, otherwise, end_if, loop, end_loop, exit, exit_when, label, goto, call, skip, assert, return, end_procedure}
use Rattle.il_core.specs.Tree.{Tree}
use Rattle.il_core.specs.declared.line.Place.{Place}
use Rattle.il_core.specs.declared.statement.Link.{Link}
use Rattle.il_syntax.specs.Order.{IsInOrder}
use Rattle.il_blocks.specs.Block.{closed_by}
use Rattle.il_blocks.specs.BlockLabel.{begins, label_of}
use Rattle.il_blocks.specs.BlockLink as blocks
use Rattle.il_blocks.specs.BlockLink.{HasTarget, AreLinks, is_end, names_line}
use Rattle.il_types.specs.Built.{assigned_place, built}
use Rattle.il_types.specs.Names.{Setting}
use Rattle.il_types.specs.Rules.{Answers}
use Rattle.il_built.specs.CheckedText.{given, places_of, posted, first_condition, post_of, instructions, target_at}
use Rattle.il_built.specs.Holding.{setting_at}
use Rattle.il_built.proofs.CheckedExpressions.{condition_in, condition_sound, assignment_sound}
use Rattle.il_built.proofs.CheckedLinesCounts.{owner_is}
use Rattle.il_built.proofs.CheckedLinesEnd.{IsLineOf, IsEndOf, before_end, line_before, end_last, line_first, target_line}
use Rattle.il_built.proofs.CheckedLinesGiven.{given_found}
use Rattle.il_built.proofs.CheckedLinesJumps.{goes_on, ends_block, begins_block, leaves_loop, goes_to}
use Rattle.il_built.proofs.CheckedLinesOrder.{is_pre}
use Rattle.il_built.proofs.CheckedLinesReturns.{returns_to, linked}

-- a statement that gives a condition is a POST
posted_is : (s : Setting) (x : Statement) (e : Expression) → posted s x ≡ e ∷ [] → (d : Tree) × (condition_in x ≡ Some d) × (built s d ≡ e)
posted_is s (post d) e h = let same : built s d ≡ e = cc in (d, refl, same)
posted_is s _ e h = absurd (cc)

posted_few : (s : Setting) (x : Statement) → length (posted s x) ≤ 1
posted_few s (post d) = omega arith
posted_few s _ = omega arith

-- the first of some sound conditions, or none, is sound
sound_first : (places : List Place) (es : List Expression) → ((e : Expression) → slice_get es 0 ≡ Some e → IsSoundCondition places e) → IsSoundCondition places (first_condition es)
sound_first places [] h = record { typed = tt; narrow = tt }
sound_first places (e ∷ es) h = h e refl

-- the condition of the POST of a procedure is sound
post_sound : (stmts : List Placed) (k : ℕ) → IsInOrder stmts → Answers stmts None → IsSoundCondition (places_of stmts k) (post_of stmts k)
post_sound stmts k o a = sound_first (places_of stmts k) (given (λ i x. posted (setting_at stmts i) x) stmts k) each
  where
    each : (e : Expression) → slice_get (given (λ i x. posted (setting_at stmts i) x) stmts k) 0 ≡ Some e → IsSoundCondition (places_of stmts k) e
    each e h =
        let g = given_found (λ i x. posted (setting_at stmts i) x) stmts k 0 e (λ i x. posted_few (setting_at stmts i) x) h in
        let p = posted_is (setting_at stmts g.at) g.stmt.says e g.gives in
        subst (IsSoundCondition (places_of stmts k)) p.2 (condition_sound stmts k g.at g.stmt p.0 o a g.there g.own p.1)

same_one : (a b : Instruction) → a ∷ [] ≡ b ∷ [] → a ≡ b
same_one a b e = cc

-- a line of a procedure fits where it stands
pub line_fits : (stmts : List Placed) (links : List Link) (k z x count : ℕ) (s : Placed) (i : Instruction) → IsInOrder stmts → AreLinks stmts links → Answers stmts None
    → IsEndOf stmts k z → count ≡ blocks.line stmts z + 1 → IsLineOf stmts k x s → instructions (setting_at stmts x) (post_of stmts k) (target_at links x) s.says ≡ i ∷ []
    → FitsAt (places_of stmts k) count (blocks.line stmts x) i
line_fits stmts links k z x count s i o ls a e long l g = by s.says refl g
  where
    put : (j : Instruction) → FitsAt (places_of stmts k) count (blocks.line stmts x) j → j ∷ [] ≡ i ∷ [] → FitsAt (places_of stmts k) count (blocks.line stmts x) i
    put j f h = subst (FitsAt (places_of stmts k) count (blocks.line stmts x)) (same_one j i h) f

    sound : (d : Tree) → condition_in s.says ≡ Some d → IsSoundCondition (places_of stmts k) (built (setting_at stmts x) d)
    sound d h = condition_sound stmts k x s d o a l.there (owner_is stmts x ∙ l.own) h

    more : (t : Statement) → s.says ≡ t → is_end t ≡ false → blocks.line stmts x + 1 < count
    more t says h = let before = line_before stmts k z x s o e l (ap is_end says ∙ h) in omega (arith, before, long)

    target : (t : Statement) → s.says ≡ t → names_line t ≡ true → HasTarget stmts x t (target_at links x)
    target t says h = subst (λ (y : Statement). HasTarget stmts x y (target_at links x)) says (linked stmts links x s ls l.there (ap names_line says ∙ h))

    last : s.says ≡ return → target_at links x ≡ blocks.line stmts z
    last says = target return says refl ∙ returns_to stmts k z x s o e l

    by : (t : Statement) → s.says ≡ t → instructions (setting_at stmts x) (post_of stmts k) (target_at links x) t ≡ i ∷ [] → FitsAt (places_of stmts k) count (blocks.line stmts x) i
    by (pre d) says h = put (line.pre (built (setting_at stmts x) d)) (line_first stmts k x s o l (ap is_pre says), sound d (ap condition_in says)) h
    by (assign name d) says h =
        put (line.assign (assigned_place (setting_at stmts x) name) (built (setting_at stmts x) d))
        (more (assign name d) says refl, assignment_sound stmts k x s name d o a l.there (owner_is stmts x ∙ l.own) says) h
    by (if_true d) says h =
        put (line.if_true (built (setting_at stmts x) d) (target_at links x)) (
          more (if_true d) says refl,
          goes_on stmts k z x count (target_at links x) s o ls.matched e long l (ap begins says) (target (if_true d) says refl),
          sound d (ap condition_in says),
        ) h
    by otherwise says h =
        let t = target otherwise says refl in
        put (line.otherwise (target_at links x)) (ends_block stmts k z x t.0 count (target_at links x) s o ls.matched e long l (ap begins says) t.1 t.2) h
    by end_if says h = put line.end_if (more end_if says refl) h
    by loop says h = put line.loop (more loop says refl) h
    by end_loop says h =
        let t = target end_loop says refl in
        put (line.end_loop (target_at links x)) (begins_block stmts k z x t.0 count (target_at links x) s o ls.matched e long l says t.1 t.2) h
    by exit says h =
        put (line.exit (target_at links x)) (leaves_loop stmts k z x count (target_at links x) s o ls.matched e long l (ap closed_by says) (target exit says refl)) h
    by (exit_when d) says h =
        put (line.exit_when (built (setting_at stmts x) d) (target_at links x)) (
          more (exit_when d) says refl,
          leaves_loop stmts k z x count (target_at links x) s o ls.matched e long l (ap closed_by says) (target (exit_when d) says refl),
          sound d (ap condition_in says),
        ) h
    by (label name) says h = put line.label (more (label name) says refl) h
    by (goto name) says h =
        let t = target (goto name) says refl in
        put (line.goto (target_at links x)) (goes_to stmts k z x t.0 count (target_at links x) s name o e long l (ap label_of says) t.1 t.2) h
    by (call name arguments) says h = put line.skip (more (call name arguments) says refl) h
    by skip says h = put line.skip (more skip says refl) h
    by (assert d) says h = put (line.assert (built (setting_at stmts x) d)) (more (assert d) says refl, sound d (ap condition_in says)) h
    by return says h =
        let there = last says in
        let before = before_end stmts k z x s o e l (ap is_end says) in
        let end : target_at links x + 1 ≡ count = omega (arith, there, long) in
        put (line.return (target_at links x)) (end, target_line stmts k z x z count (target_at links x) s e.stmt o e long l e.is_line (ap is_pre e.says) (inl before) there) h
    by end_procedure says h =
        let same = end_last stmts k z x s o e l says in
        let end : blocks.line stmts x + 1 ≡ count = omega (arith, same, long) in
        put (line.end_procedure (post_of stmts k)) (end, post_sound stmts k o a) h
    by _ says h = absurd (cc)
