-- A RETURN goes on at the last line of its procedure, and the link of each statement tells to which line it jumps.
use Rattle.std.proofs.Common.{◌≡◌, ℕ, zero, suc, ◌+◌, ◌-◌, ◌<◌, ◌≤◌, ◌∙◌, sym, ap, refl, Bool, true, false, List, length, drop, arith, if◌then◌else◌}
use Rattle.std.specs.Prelude.{Some, slice_get, slice_index_or}
use Rattle.std.proofs.lemmas.Option.{slice_get_within, slice_get-get_or}
use Rattle.il_core.specs.Statement.{Statement, Placed, if_true, otherwise, end_loop, exit, exit_when, goto, return, end_procedure}
use Rattle.il_core.specs.declared.statement.Link.{Link}
use Rattle.il_core.specs.declared.statement.Link.TheVariants as link
use Rattle.il_syntax.specs.Order.{IsInOrder}
use Rattle.il_blocks.specs.BlockLabel.{owner}
use Rattle.il_blocks.specs.BlockLink.{has_line, names_line, line, is_end, end_line, HasTarget, IsLink, AreLinks}
use Rattle.il_blocks.proofs.BlockLines.{end_next}
use Rattle.il_built.specs.CheckedText.{target_of, target_at}
use Rattle.il_built.proofs.CheckedLinesCounts.{ends, ended, ended_next, ended_rises}
use Rattle.il_built.proofs.CheckedLinesEnd.{IsLineOf, IsEndOf, differ, none_behind, line_inside}
use Rattle.il_built.proofs.Given.{stands}

-- a statement that ends no procedure is no ENDPROC
ends_nothing : (s : Statement) → ends s ≡ 0 → is_end s ≡ false
ends_nothing end_procedure e = absurd (omega (arith, e))
ends_nothing _ e = refl

-- the first ENDPROC from a statement on, where none ends before it
first_end : (stmts : List Placed) (k z d x : ℕ) → IsEndOf stmts k z → x + d ≡ z → ended stmts x ≡ ended stmts z → end_line (line stmts x) (drop x stmts) ≡ line stmts z
first_end stmts k z zero x e far same =
    let here : x ≡ z = omega (arith, far) in
    ap (λ (n : ℕ). end_line (line stmts n) (drop n stmts)) here ∙ end_next stmts z e.stmt e.is_line.there
    ∙ ap (λ (b : Bool). if b then line stmts z else end_line (line stmts (z + 1)) (drop (z + 1) stmts)) (ap is_end e.says)
first_end stmts k z (suc d) x e far same =
    let last : z < length stmts = slice_get_within stmts z e.stmt e.is_line.there in
    let within : x < length stmts = omega (arith, far, last) in
    let low : z ≤ length stmts = omega (arith, last) in
    let s = stands stmts x within in
    let next : ended stmts (suc x) ≡ ended stmts x + ends s.0.says = ended_next stmts x s.0 s.1 in
    let further : suc x ≤ z = omega (arith, far) in
    let rest : ended stmts (suc x) ≤ ended stmts z = ended_rises stmts (suc x) z further low in
    let nothing : ends s.0.says ≡ 0 = omega (arith, next, rest, same) in
    let one : suc x ≡ x + 1 = omega arith in
    let near : x + 1 + d ≡ z = omega (arith, far) in
    let still : ended stmts (suc x) ≡ ended stmts z = omega (arith, next, rest, same) in
    end_next stmts x s.0 s.1
    ∙ ap (λ (b : Bool). if b then line stmts x else end_line (line stmts (x + 1)) (drop (x + 1) stmts)) (ends_nothing s.0.says nothing)
    ∙ first_end stmts k z d (x + 1) e near (ap (ended stmts) (sym one) ∙ still)

-- behind a line of a procedure the first ENDPROC is that of the procedure
pub returns_to : (stmts : List Placed) (k z x : ℕ) (s : Placed) → IsInOrder stmts → IsEndOf stmts k z → IsLineOf stmts k x s → end_line (line stmts x) (drop x stmts) ≡ line stmts z
returns_to stmts k z x s o e l =
    let low : x ≤ z = none_behind stmts k z x s o e l in
    let far : x + (z - x) ≡ z = omega (arith, low) in
    let here : owner stmts x ≡ ended stmts x + 1 = (line_inside stmts k x s o l).unended in
    let there : owner stmts z ≡ ended stmts z + 1 = (line_inside stmts k z e.stmt o e.is_line).unended in
    let own : owner stmts x ≡ k = l.own in
    let ends_own : owner stmts z ≡ k = e.is_line.own in
    let same : ended stmts x ≡ ended stmts z = omega (arith, here, there, own, ends_own) in
    first_end stmts k z (z - x) x e far same

-- a statement that names a line is one
names_is_line : (s : Statement) → names_line s ≡ true → has_line s ≡ true
names_is_line (if_true _) e = refl
names_is_line otherwise e = refl
names_is_line end_loop e = refl
names_is_line exit e = refl
names_is_line (exit_when _) e = refl
names_is_line (goto _) e = refl
names_is_line return e = refl
names_is_line _ e = absurd (let z : false ≡ true = e in cc)

-- a link tells the target of such a statement
link_names : (stmts : List Placed) (x : ℕ) (s : Statement) (l : Link) → IsLink stmts x s l → names_line s ≡ true → HasTarget stmts x s (target_of l)
link_names stmts x s link.NoLine p e = absurd (differ (has_line s) (names_is_line s e) p)
link_names stmts x s (link.Plain own) p e = absurd (differ (names_line s) e p.1)
link_names stmts x s (link.Jump own target) p e = p.1

-- a line that names another has the target that its link tells
pub linked : (stmts : List Placed) (links : List Link) (x : ℕ) (s : Placed) → AreLinks stmts links → slice_get stmts x ≡ Some s → names_line s.says ≡ true
    → HasTarget stmts x s.says (target_at links x)
linked stmts links x s a at e =
    let within : x < length stmts = slice_get_within stmts x s at in
    let long : length links ≡ length stmts = a.long in
    let far : x < length links = omega (arith, within, long) in
    link_names stmts x s.says (slice_index_or links x link.NoLine) (a.each x s (slice_index_or links x link.NoLine) at (slice_get-get_or links x link.NoLine far)) e
