-- How many procedures have begun and ended before a statement, and its line, from one statement to the next.
use Rattle.std.proofs.Common.{◌≡◌, ◌⊎◌, ℕ, zero, suc, ◌+◌, ◌<◌, ◌≤◌, ◌∙◌, ap, refl, inl, inr, Bool, true, false, List, [], ◌∷◌, ◌++◌, length, take, arith, if◌then◌else◌}
use Rattle.std.specs.Prelude.{Some, slice_get, fold}
use Rattle.std.proofs.lemmas.Bool.{cases_lt}
use Rattle.il_core.specs.Statement.{Statement, Placed, variable, procedure, end_procedure}
use Rattle.il_blocks.specs.BlockLabel.{begins, procedures, owner}
use Rattle.il_blocks.specs.BlockLink.{has_line, line_behind, next_line, line}
use Rattle.il_blocks.proofs.BlockLines.{line_next}
use Rattle.il_blocks.proofs.BlockPlaces.{take_next}
use Rattle.il_types.specs.declared.counts.Counts.{Counts}
use Rattle.il_types.specs.Counts.{counts_behind}
use Rattle.il_types.specs.Names.{Front, one_more, counts_at}
use Rattle.il_built.proofs.CheckedLinesRising.{rising}
use Rattle.il_built.proofs.Given.{stands}

-- the counts behind a statement tell whether it begins a procedure, and the next line
procedures_behind : (c : Counts) (s : Statement) → (counts_behind c s).procedures ≡ c.procedures + begins s
procedures_behind c (procedure _) = refl
procedures_behind c _ = omega arith

lines_behind : (c : Counts) (s : Statement) → (counts_behind c s).lines ≡ line_behind c.lines s
lines_behind c (procedure _) = refl
lines_behind c (variable _ _ _) = refl
lines_behind c _ = omega arith

-- so do the counts behind statements
procedures_of : (f : Front) (xs : List Placed) → (fold one_more f xs).counts.procedures ≡ f.counts.procedures + procedures xs
procedures_of f [] = omega arith
procedures_of f (x ∷ xs) =
    let e = procedures_of (one_more f x) xs in
    let b = procedures_behind f.counts x.says in
    let a : (counts_behind f.counts x.says).procedures + procedures xs ≡ f.counts.procedures + (begins x.says + procedures xs) = omega (arith, b) in
    e ∙ a

lines_of : (f : Front) (xs : List Placed) → (fold one_more f xs).counts.lines ≡ next_line f.counts.lines xs
lines_of f [] = refl
lines_of f (x ∷ xs) = lines_of (one_more f x) xs ∙ ap (λ (n : ℕ). next_line n xs) (lines_behind f.counts x.says)

-- the counts before a statement tell its procedure and its line
pub owner_is : (stmts : List Placed) (i : ℕ) → (counts_at stmts i).procedures ≡ owner stmts i
owner_is stmts i = procedures_of _ (take i stmts) ∙ (let e : 0 + owner stmts i ≡ owner stmts i = omega arith in e)

pub line_is : (stmts : List Placed) (i : ℕ) → (counts_at stmts i).lines ≡ line stmts i
line_is stmts i = lines_of _ (take i stmts)

-- one statement more
procedures_more : (xs : List Placed) (s : Placed) → procedures (xs ++ s ∷ []) ≡ procedures xs + begins s.says
procedures_more [] s = omega arith
procedures_more (x ∷ xs) s = let e = procedures_more xs s in omega (arith, e)

-- the procedure of the next statement
pub owner_next : (stmts : List Placed) (i : ℕ) (s : Placed) → slice_get stmts i ≡ Some s → owner stmts (suc i) ≡ owner stmts i + begins s.says
owner_next stmts i s at = ap procedures (take_next stmts i s at) ∙ procedures_more (take i stmts) s

-- the number of procedures that end with a statement
abbrev pub ends : Statement → ℕ
ends end_procedure = 1
ends _ = 0

-- the number of procedures that end among statements
abbrev pub endings : List Placed → ℕ
endings [] = 0
endings (s ∷ ss) = ends s.says + endings ss

-- how many procedures end before the statement numbered i
abbrev pub ended : List Placed → ℕ → ℕ
ended stmts i = endings (take i stmts)

endings_more : (xs : List Placed) (s : Placed) → endings (xs ++ s ∷ []) ≡ endings xs + ends s.says
endings_more [] s = omega arith
endings_more (x ∷ xs) s = let e = endings_more xs s in omega (arith, e)

-- how many procedures end before the next statement
pub ended_next : (stmts : List Placed) (i : ℕ) (s : Placed) → slice_get stmts i ≡ Some s → ended stmts (suc i) ≡ ended stmts i + ends s.says
ended_next stmts i s at = ap endings (take_next stmts i s at) ∙ endings_more (take i stmts) s

-- the line of the next statement
pub next_line_is : (stmts : List Placed) (i : ℕ) (s : Placed) → slice_get stmts i ≡ Some s → line stmts (suc i) ≡ line_behind (line stmts i) s.says
next_line_is stmts i s at = let e : suc i ≡ i + 1 = omega arith in ap (line stmts) e ∙ line_next stmts i s at

-- a statement begins one procedure at most, and ends one at most
begins_few : (s : Statement) → begins s ≤ 1
begins_few (procedure _) = omega arith
begins_few _ = omega arith

ends_few : (s : Statement) → ends s ≤ 1
ends_few end_procedure = omega arith
ends_few _ = omega arith

-- from one statement to the next the procedures that begin rise by at most one
owner_step : (stmts : List Placed) (i : ℕ) → i < length stmts → (owner stmts i ≤ owner stmts (suc i)) × (owner stmts (suc i) ≤ owner stmts i + 1)
owner_step stmts i h =
    let s = stands stmts i h in
    let e = owner_next stmts i s.0 s.1 in
    let few = begins_few s.0.says in
    let low : owner stmts i ≤ owner stmts (suc i) = omega (arith, e) in
    let high : owner stmts (suc i) ≤ owner stmts i + 1 = omega (arith, e, few) in
    (low, high)

-- and so do those that end
pub ended_step : (stmts : List Placed) (i : ℕ) → i < length stmts → (ended stmts i ≤ ended stmts (suc i)) × (ended stmts (suc i) ≤ ended stmts i + 1)
ended_step stmts i h =
    let s = stands stmts i h in
    let e = ended_next stmts i s.0 s.1 in
    let few = ends_few s.0.says in
    let low : ended stmts i ≤ ended stmts (suc i) = omega (arith, e) in
    let high : ended stmts (suc i) ≤ ended stmts i + 1 = omega (arith, e, few) in
    (low, high)

-- neither falls from a statement to a later one
owner_rises : (stmts : List Placed) (i j : ℕ) → i ≤ j → j ≤ length stmts → owner stmts i ≤ owner stmts j
owner_rises stmts i j h l = rising (owner stmts) (length stmts) (λ k m. (owner_step stmts k m).0) i j h l

pub ended_rises : (stmts : List Placed) (i j : ℕ) → i ≤ j → j ≤ length stmts → ended stmts i ≤ ended stmts j
ended_rises stmts i j h l = rising (ended stmts) (length stmts) (λ k m. (ended_step stmts k m).0) i j h l

-- a line begins no procedure
begins_none : (s : Statement) → has_line s ≡ true → begins s ≡ 0
begins_none (procedure _) e = absurd (let z : false ≡ true = e in cc)
begins_none _ e = refl

-- the next line behind a statement that begins no procedure
pub behind_is : (n : ℕ) (s : Statement) → begins s ≡ 0 → line_behind n s ≡ (if has_line s then n + 1 else n)
behind_is n (procedure _) e = absurd (omega (arith, e))
behind_is n _ e = refl

-- it does not fall there
behind_low : (n : ℕ) (s : Statement) → begins s ≡ 0 → n ≤ line_behind n s
behind_low n (procedure _) e = absurd (omega (arith, e))
behind_low n _ e = omega arith

-- a statement begins no procedure or one, whose lines are counted from 0
pub begins_cases : (s : Statement) → (begins s ≡ 0) ⊎ ((begins s ≡ 1) × ((n : ℕ) → line_behind n s ≡ 0))
begins_cases (procedure _) = inr (refl, λ n. refl)
begins_cases _ = inl refl

-- inside one procedure lines do not fall
line_rises : (stmts : List Placed) (i j : ℕ) → i ≤ j → j ≤ length stmts → owner stmts i ≡ owner stmts j → line stmts i ≤ line stmts j
line_rises stmts i zero h l same = let e : i ≡ zero = omega arith in let f : line stmts i ≡ line stmts zero = ap (line stmts) e in omega (arith, f)
line_rises stmts i (suc j) h l same = elim (cases_lt j i) [
  | inl less ↦ let e : i ≡ suc j = omega arith in let f : line stmts i ≡ line stmts (suc j) = ap (line stmts) e in omega (arith, f)
  | inr more ↦
      let within : j < length stmts = omega (arith, l) in
      let before : j ≤ length stmts = omega arith in
      let low : owner stmts i ≤ owner stmts j = owner_rises stmts i j more before in
      let s = stands stmts j within in
      let e : owner stmts (suc j) ≡ owner stmts j + begins s.0.says = owner_next stmts j s.0 s.1 in
      let here : owner stmts i ≡ owner stmts j = omega (arith, same, low, e) in
      let none : begins s.0.says ≡ 0 = omega (arith, same, low, e) in
      let rest : line stmts i ≤ line stmts j = line_rises stmts i j more before here in
      let one : line stmts j ≤ line_behind (line stmts j) s.0.says = behind_low (line stmts j) s.0.says none in
      let next : line stmts (suc j) ≡ line_behind (line stmts j) s.0.says = next_line_is stmts j s.0 s.1 in
      omega (arith, rest, one, next)
]

-- the statement behind a line is of the same procedure and one line further
pub behind_line : (stmts : List Placed) (i : ℕ) (s : Placed) → slice_get stmts i ≡ Some s → has_line s.says ≡ true
    → (line stmts (suc i) ≡ line stmts i + 1) × (owner stmts (suc i) ≡ owner stmts i)
behind_line stmts i s at has =
    let o : owner stmts (suc i) ≡ owner stmts i + begins s.says = owner_next stmts i s at in
    let none : begins s.says ≡ 0 = begins_none s.says has in
    let same : owner stmts (suc i) ≡ owner stmts i = omega (arith, o, none) in (
      next_line_is stmts i s at ∙ behind_is (line stmts i) s.says none ∙ ap (λ (b : Bool). if b then line stmts i + 1 else line stmts i) has,
      same,
    )

-- a line is above those before it in its procedure
pub line_above : (stmts : List Placed) (i j : ℕ) (s : Placed) → slice_get stmts i ≡ Some s → has_line s.says ≡ true → i < j → j ≤ length stmts
    → owner stmts i ≡ owner stmts j → line stmts i + 1 ≤ line stmts j
line_above stmts i j s at has h l same =
    let b = behind_line stmts i s at has in
    let further : suc i ≤ j = omega (arith, h) in
    let rest : line stmts (suc i) ≤ line stmts j = line_rises stmts (suc i) j further l (b.1 ∙ same) in
    let next : line stmts (suc i) ≡ line stmts i + 1 = b.0 in
    omega (arith, rest, next)
