-- The lines of a procedure end with its ENDPROC, to which each other line goes on.
use Rattle.std.proofs.Common.{◌≡◌, ◌⊎◌, ℕ, suc, ◌+◌, ◌<◌, ◌≤◌, ◌∙◌, sym, ap, refl, inl, inr, Bool, true, false, List, length, arith}
use Rattle.std.specs.Prelude.{Option, Some, slice_get}
use Rattle.std.proofs.lemmas.Bool.{cases_lt}
use Rattle.std.proofs.lemmas.Option.{slice_get_within}
use Rattle.il_core.specs.Checked.{IsTarget}
use Rattle.il_core.specs.Statement.{Statement, Placed, end_procedure}
use Rattle.il_core.specs.declared.statement.Link.{Link}
use Rattle.il_syntax.specs.Order.{IsInOrder}
use Rattle.il_blocks.specs.BlockLabel.{owner}
use Rattle.il_blocks.specs.BlockLink.{has_line, is_end, line}
use Rattle.il_built.specs.CheckedText as text
use Rattle.il_built.proofs.CheckedLinesCounts.{ends, ended, ended_next, ended_step, ended_rises, line_above}
use Rattle.il_built.proofs.CheckedLinesNumbered.{lines_end}
use Rattle.il_built.proofs.CheckedLinesOrder.{is_pre, Inside, inside, all_ended}
use Rattle.il_built.proofs.CheckedLinesRising.{crossing}
use Rattle.il_built.proofs.Given.{stands}

-- the statement numbered x is a line of the procedure numbered k
pub record IsLineOf (stmts : List Placed) (k x : ℕ) (s : Placed) : Type 0 where
  pub there : slice_get stmts x ≡ Some s
  pub own : owner stmts x ≡ k
  pub has : has_line s.says ≡ true

-- the statement numbered z is the ENDPROC of the procedure numbered k
pub record IsEndOf (stmts : List Placed) (k z : ℕ) : Type 0 where
  pub stmt : Placed
  pub is_line : IsLineOf stmts k z stmt
  pub says : stmt.says ≡ end_procedure
  pub behind : ended stmts (suc z) ≡ k

-- a line of a text in order stands in its procedure
pub line_inside : (stmts : List Placed) (k x : ℕ) (s : Placed) → IsInOrder stmts → IsLineOf stmts k x s → Inside s.says (owner stmts x) (ended stmts x) (line stmts x)
line_inside stmts k x s o l = inside stmts o x s (slice_get_within stmts x s l.there) l.there l.has

-- ENDPROC alone ends a procedure
ends_one : (s : Statement) → ends s ≡ 1 → s ≡ end_procedure
ends_one end_procedure e = refl
ends_one _ e = absurd (omega (arith, e))

-- each procedure that begins has its ENDPROC
pub end_of : (stmts : List Placed) (k : ℕ) → IsInOrder stmts → k < owner stmts (length stmts) → (z : ℕ) × IsEndOf stmts (suc k) z
end_of stmts k o h =
    let all = all_ended stmts o in
    let begun : owner stmts (length stmts) ≡ ended stmts (length stmts) = all.0 in
    let high : k < ended stmts (length stmts) = omega (arith, h, begun) in
    let low : ended stmts 0 ≤ k = omega arith in
    let c = crossing (ended stmts) (length stmts) k (λ n m. (ended_step stmts n m).1) low high in
    let s = stands stmts c.at c.below in
    let one : ended stmts (suc c.at) ≡ ended stmts c.at + ends s.0.says = ended_next stmts c.at s.0 s.1 in
    let here : ended stmts c.at ≡ k = c.here in
    let next : ended stmts (suc c.at) ≡ k + 1 = c.next in
    let ending : ends s.0.says ≡ 1 = omega (arith, one, here, next) in
    let says : s.0.says ≡ end_procedure = ends_one s.0.says ending in
    let has : has_line s.0.says ≡ true = ap has_line says in
    let i = inside stmts o c.at s.0 c.below s.1 has in
    let unended : owner stmts c.at ≡ ended stmts c.at + 1 = i.unended in
    let own : owner stmts c.at ≡ suc k = omega (arith, here, unended) in
    let behind : ended stmts (suc c.at) ≡ suc k = omega (arith, next) in
    (c.at, record { stmt = s.0; is_line = record { there = s.1; own = own; has = has }; says = says; behind = behind })

-- no line of the procedure stands behind it
pub none_behind : (stmts : List Placed) (k z y : ℕ) (t : Placed) → IsInOrder stmts → IsEndOf stmts k z → IsLineOf stmts k y t → y ≤ z
none_behind stmts k z y t o e l = elim (cases_lt z y) [
  | inr at_most ↦ at_most
  | inl above ↦
      let within : y < length stmts = slice_get_within stmts y t l.there in
      let low : y ≤ length stmts = omega arith in
      let further : suc z ≤ y = omega (arith, above) in
      let more : ended stmts (suc z) ≤ ended stmts y = ended_rises stmts (suc z) y further low in
      let unended : owner stmts y ≡ ended stmts y + 1 = (line_inside stmts k y t o l).unended in
      let behind : ended stmts (suc z) ≡ k = e.behind in
      let own : owner stmts y ≡ k = l.own in
      absurd (omega (arith, more, unended, behind, own))
]

not_true : (b : Bool) → (b ≡ true → ⊥) → b ≡ false
not_true true h = absurd (h refl)
not_true false h = refl

-- so the procedure has one line more than the number of its ENDPROC
pub lines_counted : (stmts : List Placed) (links : List Link) (k z : ℕ) → IsInOrder stmts → IsEndOf stmts k z → length (text.lines_of stmts links k) ≡ line stmts z + 1
lines_counted stmts links k z o e = lines_end stmts links k z e.stmt e.is_line.there e.is_line.own e.is_line.has (λ y t h there own. not_true (has_line t.says) (λ has. by y t h there own has))
  where
    by : (y : ℕ) (t : Placed) → z < y → slice_get stmts y ≡ Some t → owner stmts y ≡ k → has_line t.says ≡ true → ⊥
    by y t h there own has = let low : y ≤ z = none_behind stmts k z y t o e (record { there = there; own = own; has = has }) in omega (arith, h, low)

-- a line is above those before it in its procedure
lines_rise : (stmts : List Placed) (k x y : ℕ) (s t : Placed) → IsLineOf stmts k x s → IsLineOf stmts k y t → x < y → line stmts x < line stmts y
lines_rise stmts k x y s t l m h =
    let within : y < length stmts = slice_get_within stmts y t m.there in
    let low : y ≤ length stmts = omega arith in
    let above : line stmts x + 1 ≤ line stmts y = line_above stmts x y s l.there l.has h low (l.own ∙ sym m.own) in
    omega (arith, above)

-- each line is one of as many as are counted
line_within : (stmts : List Placed) (k z x : ℕ) (s : Placed) → IsInOrder stmts → IsEndOf stmts k z → IsLineOf stmts k x s → line stmts x ≤ line stmts z
line_within stmts k z x s o e l =
    let low : x ≤ z = none_behind stmts k z x s o e l in
    elim (cases_lt x z) [
      | inl less ↦ let above : line stmts x < line stmts z = lines_rise stmts k x z s e.stmt l e.is_line less in omega (arith, above)
      | inr more ↦ let same : x ≡ z = omega arith in let one : line stmts x ≡ line stmts z = ap (line stmts) same in omega (arith, one)
    ]

-- no test both holds and fails
pub differ : (b : Bool) → b ≡ true → b ≡ false → ⊥
differ true e f = let z : true ≡ false = f in cc
differ false e f = let z : false ≡ true = e in cc

-- a line that is no ENDPROC stands before it
pub before_end : (stmts : List Placed) (k z x : ℕ) (s : Placed) → IsInOrder stmts → IsEndOf stmts k z → IsLineOf stmts k x s → is_end s.says ≡ false → x < z
before_end stmts k z x s o e l other =
    let low : x ≤ z = none_behind stmts k z x s o e l in
    elim (cases_lt x z) [
      | inl less ↦ less
      | inr more ↦
          let same : x ≡ z = omega arith in
          let y : ◌≡◌ {A = Option Placed} (Some s) (Some e.stmt) = sym l.there ∙ ap (slice_get stmts) same ∙ e.is_line.there in
          let one : s ≡ e.stmt = cc in
          absurd (differ (is_end s.says) (ap (λ (t : Placed). is_end t.says) one ∙ ap is_end e.says) other)
    ]

-- and another line follows it
pub line_before : (stmts : List Placed) (k z x : ℕ) (s : Placed) → IsInOrder stmts → IsEndOf stmts k z → IsLineOf stmts k x s → is_end s.says ≡ false
    → line stmts x + 1 ≤ line stmts z
line_before stmts k z x s o e l other =
    let above : line stmts x < line stmts z = lines_rise stmts k x z s e.stmt l e.is_line (before_end stmts k z x s o e l other) in omega (arith, above)

-- an ENDPROC of the procedure is the one
pub end_last : (stmts : List Placed) (k z x : ℕ) (s : Placed) → IsInOrder stmts → IsEndOf stmts k z → IsLineOf stmts k x s → s.says ≡ end_procedure → line stmts x ≡ line stmts z
end_last stmts k z x s o e l says =
    let low : x ≤ z = none_behind stmts k z x s o e l in
    let within : x < length stmts = slice_get_within stmts x s l.there in
    let more : ended stmts (suc x) ≡ ended stmts x + ends s.says = ended_next stmts x s l.there in
    let one : ends s.says ≡ 1 = ap ends says in
    let unended : owner stmts x ≡ ended stmts x + 1 = (line_inside stmts k x s o l).unended in
    let own : owner stmts x ≡ k = l.own in
    let behind : ended stmts (suc x) ≡ k = omega (arith, more, one, unended, own) in
    let high : z ≤ x = none_behind stmts k x z e.stmt o (record { stmt = s; is_line = l; says = says; behind = behind }) e.is_line in
    let same : x ≡ z = omega (arith, low, high) in
    ap (line stmts) same

-- PRE is line 0
pub line_first : (stmts : List Placed) (k x : ℕ) (s : Placed) → IsInOrder stmts → IsLineOf stmts k x s → is_pre s.says ≡ true → line stmts x ≡ 0
line_first stmts k x s o l e = (line_inside stmts k x s o l).first e

-- all other lines come behind it
pub line_later : (stmts : List Placed) (k x : ℕ) (s : Placed) → IsInOrder stmts → IsLineOf stmts k x s → is_pre s.says ≡ false → 1 ≤ line stmts x
line_later stmts k x s o l e = (line_inside stmts k x s o l).later e

-- the line of another statement of the procedure than PRE may be jumped to
pub target_line : (stmts : List Placed) (k z x y count target : ℕ) (s t : Placed) → IsInOrder stmts → IsEndOf stmts k z → count ≡ line stmts z + 1 → IsLineOf stmts k x s → IsLineOf stmts k y t
    → is_pre t.says ≡ false → (x < y) ⊎ (y < x) → target ≡ line stmts y → IsTarget count (line stmts x) target
target_line stmts k z x y count target s t o e long l m other apart is =
    let within : line stmts y ≤ line stmts z = line_within stmts k z y t o e m in
    let above : 1 ≤ line stmts y = line_later stmts k y t o m other in
    let inside : target < count = omega (arith, within, long, is) in
    let later : 0 < target = omega (arith, above, is) in
    record { inside = inside; later = later; other = λ same. by apart same }
  where
    by : (x < y) ⊎ (y < x) → target ≡ line stmts x → ⊥
    by (inl h) same = let above : line stmts x < line stmts y = lines_rise stmts k x y s t l m h in omega (arith, above, is, same)
    by (inr h) same = let above : line stmts y < line stmts x = lines_rise stmts k y x t s m l h in omega (arith, above, is, same)

-- so may the line behind a later statement than its ENDPROC
pub target_behind : (stmts : List Placed) (k z x y count target : ℕ) (s t : Placed) → IsInOrder stmts → IsEndOf stmts k z → count ≡ line stmts z + 1 → IsLineOf stmts k x s → IsLineOf stmts k y t
    → is_end t.says ≡ false → x < y → target ≡ line stmts y + 1 → IsTarget count (line stmts x) target
target_behind stmts k z x y count target s t o e long l m other h is =
    let within : line stmts y + 1 ≤ line stmts z = line_before stmts k z y t o e m other in
    let above : line stmts x < line stmts y = lines_rise stmts k x y s t l m h in
    let inside : target < count = omega (arith, within, long, is) in
    let later : 0 < target = omega (arith, is) in
    record { inside = inside; later = later; other = λ same. omega (arith, above, is, same) }
