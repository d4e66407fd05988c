-- The lines of a procedure: a statement that is a line stands among them at its line.
use Rattle.std.proofs.Common.{◌≡◌, ◌≢◌, ◌⊎◌, ℕ, zero, suc, ◌+◌, ◌<◌, ◌≤◌, ◌∙◌, sym, ap, refl, inl, inr, Bool, true, false, List, [], ◌∷◌, length, arith, if◌then◌else◌}
use Rattle.std.specs.Prelude.{Some, slice_get}
use Rattle.std.proofs.lemmas.Bool.{cases_eq}
use Rattle.std.proofs.lemmas.Option.{slice_get_within}
use Rattle.il_core.specs.Expression.{Expression}
use Rattle.il_core.specs.Procedure.{Instruction}
use Rattle.il_core.specs.Statement.{Statement, Placed, procedure}
use Rattle.il_core.specs.declared.statement.Link.{Link}
use Rattle.il_blocks.specs.BlockLabel.{begins, owner}
use Rattle.il_blocks.specs.BlockLink.{has_line, line_behind, line}
use Rattle.il_types.specs.Counts.{one_if}
use Rattle.il_types.specs.Names.{Setting}
use Rattle.il_built.specs.CheckedText.{of_procedure, given, instructions, post_of, target_at}
use Rattle.il_built.specs.CheckedText as text
use Rattle.il_built.specs.Holding.{setting_at}
use Rattle.il_built.proofs.CheckedLinesCounts.{owner_is, owner_next, next_line_is, behind_is, begins_cases}
use Rattle.il_built.proofs.CheckedLinesGiven.{given_is, given_found}
use Rattle.il_built.proofs.CheckedLinesUpto.{upto, stands_in, ends_at, length_more}
use Rattle.il_built.proofs.Given.{given_here, not_given, stands}

-- a line is one instruction
one_each : (s : Setting) (e : Expression) (target : ℕ) (x : Statement) → length (instructions s e target x) ≡ one_if (has_line x)
one_each s e target (procedure _) = refl
one_each s e target _ = refl

-- what a statement gives to the lines of a procedure
abbrev pub line_at : List Placed → List Link → ℕ → ℕ → Statement → List Instruction
line_at stmts links k i x = instructions (setting_at stmts i) (post_of stmts k) (target_at links i) x

-- where it stands in that procedure
abbrev pub gives_at : List Placed → List Link → ℕ → ℕ → List Instruction
gives_at stmts links k i = of_procedure (line_at stmts links k) stmts k i

-- the lines that the first n statements give
abbrev pub lines_to : List Placed → List Link → ℕ → ℕ → List Instruction
lines_to stmts links k n = upto (gives_at stmts links k) n

-- all statements give the lines of the procedure
lines_are : (stmts : List Placed) (links : List Link) (k : ℕ) → text.lines_of stmts links k ≡ lines_to stmts links k (length stmts)
lines_are stmts links k = given_is (line_at stmts links k) stmts k (length stmts)

-- in front of a procedure there are none of its lines, in it there are as many as the next line says
pub record AreNumbered (stmts : List Placed) (links : List Link) (k i : ℕ) : Type 0 where
  pub before : owner stmts i < k → length (lines_to stmts links k i) ≡ 0
  pub here : owner stmts i ≡ k → length (lines_to stmts links k i) ≡ line stmts i

one_more : (n : ℕ) (b : Bool) → n + one_if b ≡ (if b then n + 1 else n)
one_more n true = refl
one_more n false = omega arith

-- the lines up to the next statement are numbered if those before it are
next : (stmts : List Placed) (links : List Link) (k i : ℕ) (s : Placed) → slice_get stmts i ≡ Some s → AreNumbered stmts links k i → AreNumbered stmts links k (suc i)
next stmts links k i s at f = record {
  before = λ less.
      let apart : owner stmts i ≢ k = λ same. omega (arith, opens, same, less) in
      let front : owner stmts i < k = omega (arith, opens, less) in
      let none = nothing apart in
      let zero_before = f.before front in
      omega (arith, more, none, zero_before);
  here = λ same. by same (begins_cases s.says);
}
  where
    more : length (lines_to stmts links k (suc i)) ≡ length (lines_to stmts links k i) + length (gives_at stmts links k i)
    more = length_more (gives_at stmts links k) i

    opens : owner stmts (suc i) ≡ owner stmts i + begins s.says
    opens = owner_next stmts i s at

    nothing : owner stmts i ≢ k → length (gives_at stmts links k i) ≡ 0
    nothing apart = ap length (not_given (line_at stmts links k) stmts k i s at (λ e. apart (sym (owner_is stmts i) ∙ e)))

    by : owner stmts (suc i) ≡ k → (begins s.says ≡ 0) ⊎ ((begins s.says ≡ 1) × ((n : ℕ) → line_behind n s.says ≡ 0)) → length (lines_to stmts links k (suc i)) ≡ line stmts (suc i)
    by same (inl none) =
        let own : owner stmts i ≡ k = omega (arith, opens, none, same) in
        more ∙ ap (λ (n : ℕ). n + length (gives_at stmts links k i)) (f.here own)
        ∙ ap (λ (n : ℕ). line stmts i + n) (ap length (given_here (line_at stmts links k) stmts k i s at (owner_is stmts i ∙ own)) ∙ one_each (setting_at stmts i) (post_of stmts k) (target_at links i) s.says)
        ∙ one_more (line stmts i) (has_line s.says) ∙ sym (behind_is (line stmts i) s.says none) ∙ sym (next_line_is stmts i s at)
    by same (inr one) =
        let begin = one.0 in
        let front : owner stmts i < k = omega (arith, opens, begin, same) in
        let none = nothing (λ own. omega (arith, opens, begin, same, own)) in
        let zero_before = f.before front in
        let first : line stmts (suc i) ≡ 0 = next_line_is stmts i s at ∙ one.1 (line stmts i) in
        omega (arith, more, none, zero_before, first)

-- so they are before each statement
numbered : (stmts : List Placed) (links : List Link) (k i : ℕ) → i ≤ length stmts → AreNumbered stmts links k i
numbered stmts links k zero h = record { before = λ less. refl; here = λ same. refl }
numbered stmts links k (suc i) h =
    let within : i < length stmts = omega (arith, h) in
    let low : i ≤ length stmts = omega (arith, h) in
    let s = stands stmts i within in
    next stmts links k i s.0 s.1 (numbered stmts links k i low)

-- the statement of a line of a procedure
pub record IsLineAt (stmts : List Placed) (links : List Link) (k line_number : ℕ) (i : Instruction) : Type 0 where
  pub at : ℕ
  pub stmt : Placed
  pub there : slice_get stmts at ≡ Some stmt
  pub own : owner stmts at ≡ k
  pub gives : line_at stmts links k at stmt.says ≡ i ∷ []
  pub number : line stmts at ≡ line_number

-- an instruction that a statement of a procedure gives is its line
pub line_there : (stmts : List Placed) (links : List Link) (k line_number : ℕ) (i : Instruction) → IsLineAt stmts links k line_number i
    → slice_get (text.lines_of stmts links k) line_number ≡ Some i
line_there stmts links k line_number i l =
    let within : l.at < length stmts = slice_get_within stmts l.at l.stmt l.there in
    let low : l.at ≤ length stmts = omega arith in
    let f = gives_at stmts links k in
    let same : f l.at ≡ i ∷ [] = given_here (line_at stmts links k) stmts k l.at l.stmt l.there (owner_is stmts l.at ∙ l.own) ∙ l.gives in
    let here = (numbered stmts links k l.at low).here l.own in
    let long : length (upto f l.at) + 0 ≡ line_number = (let e : length (upto f l.at) + 0 ≡ length (upto f l.at) = omega arith in e) ∙ here ∙ l.number in
    ap (λ (xs : List Instruction). slice_get xs line_number) (lines_are stmts links k)
    ∙ ap (slice_get (upto f (length stmts))) (sym long) ∙ stands_in f (length stmts) l.at 0 i within (ap (λ (xs : List Instruction). slice_get xs 0) same)

few : (b : Bool) → one_if b ≤ 1
few true = omega arith
few false = omega arith

one_at_most : (s : Setting) (e : Expression) (target : ℕ) (x : Statement) → length (instructions s e target x) ≤ 1
one_at_most s e target x = let same = one_each s e target x in let one = few (has_line x) in omega (arith, same, one)

-- each line of a procedure is given by a statement of it
pub line_found : (stmts : List Placed) (links : List Link) (k line_number : ℕ) (i : Instruction) → slice_get (text.lines_of stmts links k) line_number ≡ Some i
    → IsLineAt stmts links k line_number i
line_found stmts links k line_number i e =
    let g = given_found (line_at stmts links k) stmts k line_number i (λ n x. one_at_most (setting_at stmts n) (post_of stmts k) (target_at links n) x) e in
    let within : g.at < length stmts = slice_get_within stmts g.at g.stmt g.there in
    let low : g.at ≤ length stmts = omega arith in
    let own : owner stmts g.at ≡ k = sym (owner_is stmts g.at) ∙ g.own in
    record { at = g.at; stmt = g.stmt; there = g.there; own = own; gives = g.gives; number = sym ((numbered stmts links k g.at low).here own) ∙ g.number }

is_one : (b : Bool) → 1 ≡ one_if b → b ≡ true
is_one true e = refl
is_one false e = absurd (omega (arith, e))

-- such a statement is a line
pub has_one : (stmts : List Placed) (links : List Link) (k n : ℕ) (i : Instruction) (l : IsLineAt stmts links k n i) → has_line l.stmt.says ≡ true
has_one stmts links k n i l =
    is_one (has_line l.stmt.says) (ap length (sym l.gives) ∙ one_each (setting_at stmts l.at) (post_of stmts k) (target_at links l.at) l.stmt.says)

none_at_all : (xs : List Instruction) → length xs ≡ 0 → xs ≡ []
none_at_all [] e = refl
none_at_all (x ∷ xs) e = absurd (omega (arith, e))

-- where no line of the procedure comes behind one, the lines end with it
pub lines_end : (stmts : List Placed) (links : List Link) (k x : ℕ) (s : Placed) → slice_get stmts x ≡ Some s → owner stmts x ≡ k → has_line s.says ≡ true
    → ((y : ℕ) (t : Placed) → x < y → slice_get stmts y ≡ Some t → owner stmts y ≡ k → has_line t.says ≡ false)
    → length (text.lines_of stmts links k) ≡ line stmts x + 1
lines_end stmts links k x s at own has last =
    let within : x < length stmts = slice_get_within stmts x s at in
    let low : x ≤ length stmts = omega arith in
    let further : suc x ≤ length stmts = omega (arith, within) in
    let whole : length (text.lines_of stmts links k) ≡ length (lines_to stmts links k (suc x)) =
    ap length (lines_are stmts links k ∙ ends_at (gives_at stmts links k) (suc x) (length stmts) further nothing) in
    let long : length (lines_to stmts links k x) ≡ line stmts x = (numbered stmts links k x low).here own in
    let more : length (lines_to stmts links k (suc x)) ≡ length (lines_to stmts links k x) + length (gives_at stmts links k x) = length_more (gives_at stmts links k) x in
    let one : length (gives_at stmts links k x) ≡ 1 =
    ap length (given_here (line_at stmts links k) stmts k x s at (owner_is stmts x ∙ own)) ∙ one_each (setting_at stmts x) (post_of stmts k) (target_at links x) s.says ∙ ap one_if has in
    omega (arith, whole, long, more, one)
  where
    by : (y : ℕ) (t : Placed) → x < y → slice_get stmts y ≡ Some t → (owner stmts y ≡ k) ⊎ (owner stmts y ≢ k) → gives_at stmts links k y ≡ []
    by y t h there (inl same) =
        given_here (line_at stmts links k) stmts k y t there (owner_is stmts y ∙ same)
        ∙ none_at_all (line_at stmts links k y t.says) (one_each (setting_at stmts y) (post_of stmts k) (target_at links y) t.says ∙ ap one_if (last y t h there same))
    by y t h there (inr other) = not_given (line_at stmts links k) stmts k y t there (λ e. other (sym (owner_is stmts y) ∙ e))

    nothing : (y : ℕ) → suc x ≤ y → y < length stmts → gives_at stmts links k y ≡ []
    nothing y h l = let t = stands stmts y l in let above : x < y = omega (arith, h) in by y t.0 above t.1 (cases_eq (owner stmts y) k)
