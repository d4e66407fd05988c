-- What the order of a text tells of the procedures and lines before a statement.
use Rattle.std.proofs.Common.{◌≡◌, ◌⊎◌, ℕ, zero, suc, ◌+◌, ◌<◌, ◌≤◌, ◌∙◌, sym, ap, subst, refl, inl, inr, Bool, true, false, List, [], ◌∷◌, length, drop, arith}
use Rattle.std.specs.Prelude.{Option, Some, None, slice_get}
use Rattle.std.specs.Option.{option_and_then}
use Rattle.std.proofs.Math.Seq.{drop-length}
use Rattle.il_core.specs.Statement.{Statement, Placed, title, constant_is, range_type, wrap_type, enum_type, procedure, variable, pre, post, end_procedure, finish}
use Rattle.il_syntax.specs.declared.order.Part.{Part}
use Rattle.il_syntax.specs.declared.order.Part.TheVariants as part
use Rattle.il_syntax.specs.declared.order.Stage.{Stage}
use Rattle.il_syntax.specs.declared.order.Stage.TheVariants as at
use Rattle.il_syntax.specs.Order.{part_of, next, run, IsInOrder}
use Rattle.il_blocks.specs.BlockLabel.{begins, owner}
use Rattle.il_blocks.specs.BlockLink.{has_line, line_behind, line}
use Rattle.il_built.proofs.BuiltSorts.{none_some}
use Rattle.il_built.proofs.CheckedLinesCounts.{ends, ended, owner_next, ended_next, next_line_is}
use Rattle.il_built.proofs.Given.{stands}

-- at a stage so many procedures have begun and ended, and this is the next line
abbrev Fits : Stage → ℕ → ℕ → ℕ → Type 0
Fits at.Start begun done line = (begun ≡ 0) × (done ≡ 0)
Fits at.Declarations begun done line = (begun ≡ 0) × (done ≡ 0)
Fits at.Variables begun done line = (begun ≡ done + 1) × (line ≡ 0)
Fits at.Postcondition begun done line = (begun ≡ done + 1) × (line ≡ 1)
Fits at.Body begun done line = (begun ≡ done + 1) × (1 ≤ line)
Fits at.Procedures begun done line = (begun ≡ done) × (1 ≤ begun)
Fits at.Done begun done line = (begun ≡ done) × (1 ≤ begun)

-- what a part begins and ends, and the next line behind it
abbrev part_begins : Part → ℕ
part_begins part.Opening = 1
part_begins _ = 0

abbrev part_ends : Part → ℕ
part_ends part.Closing = 1
part_ends _ = 0

abbrev part_line : ℕ → Part → ℕ
part_line n part.Opening = 0
part_line n part.Precondition = n + 1
part_line n part.Body = n + 1
part_line n part.Closing = n + 1
part_line n _ = n

-- they are those of its statement
begins_is : (s : Statement) → part_begins (part_of s) ≡ begins s
begins_is (procedure _) = refl
begins_is _ = refl

ends_is : (s : Statement) → part_ends (part_of s) ≡ ends s
ends_is end_procedure = refl
ends_is _ = refl

line_is : (n : ℕ) (s : Statement) → part_line n (part_of s) ≡ line_behind n s
line_is n (procedure _) = refl
line_is n _ = refl

reached : (stage after : Stage) (b d n : ℕ) → Some stage ≡ Some after → Fits stage b d n → Fits after b d n
reached stage after b d n e f = let same : stage ≡ after = cc in subst (λ (s : Stage). Fits s b d n) same f

-- the numbers before a part that may stand there fit the stage behind it
part_step : (stage : Stage) (p : Part) (after : Stage) (b d n : ℕ) → next stage p ≡ Some after → Fits stage b d n → Fits after (b + part_begins p) (d + part_ends p) (part_line n p)
part_step at.Start part.Title after b d n e f = reached at.Declarations after (b + 0) (d + 0) n e (omega (arith, f.0), omega (arith, f.1))
part_step at.Declarations part.Declaration after b d n e f = reached at.Declarations after (b + 0) (d + 0) n e (omega (arith, f.0), omega (arith, f.1))
part_step at.Declarations part.Opening after b d n e f = reached at.Variables after (b + 1) (d + 0) 0 e (omega (arith, f.0, f.1), refl)
part_step at.Variables part.Variable after b d n e f = reached at.Variables after (b + 0) (d + 0) n e (omega (arith, f.0), f.1)
part_step at.Variables part.Precondition after b d n e f = reached at.Postcondition after (b + 0) (d + 0) (n + 1) e (omega (arith, f.0), omega (arith, f.1))
part_step at.Postcondition part.Postcondition after b d n e f = reached at.Body after (b + 0) (d + 0) n e (omega (arith, f.0), omega (arith, f.1))
part_step at.Body part.Body after b d n e f = reached at.Body after (b + 0) (d + 0) (n + 1) e (omega (arith, f.0), omega (arith, f.1))
part_step at.Body part.Closing after b d n e f = reached at.Procedures after (b + 0) (d + 1) (n + 1) e (omega (arith, f.0), omega (arith, f.0))
part_step at.Procedures part.Opening after b d n e f = reached at.Variables after (b + 1) (d + 0) 0 e (omega (arith, f.0), refl)
part_step at.Procedures part.Finish after b d n e f = reached at.Done after (b + 0) (d + 0) n e (omega (arith, f.0), omega (arith, f.1))
part_step _ _ after b d n e f = none_some after e

-- the stage before the statement numbered i
record Stands (stmts : List Placed) (i : ℕ) : Type 0 where
  stage : Stage
  rest : run stage (drop i stmts) ≡ Some at.Done
  fits : Fits stage (owner stmts i) (ended stmts i) (line stmts i)

-- what stands at a number and behind it
pub drop_here : (ss : List Placed) (i : ℕ) (s : Placed) → slice_get ss i ≡ Some s → drop i ss ≡ s ∷ drop (suc i) ss
drop_here [] i s e = none_some s e
drop_here (x ∷ xs) zero s e = let f : x ≡ s = cc in ap (λ (y : Placed). y ∷ xs) f
drop_here (x ∷ xs) (suc i) s e = drop_here xs i s e

-- a statement may stand at the stage before it
record Goes (stage : Stage) (s : Statement) (ss : List Placed) : Type 0 where
  after : Stage
  step : next stage (part_of s) ≡ Some after
  rest : run after ss ≡ Some at.Done

goes_by : (stage : Stage) (s : Statement) (ss : List Placed) (o : Option Stage) → next stage (part_of s) ≡ o → option_and_then (λ after. run after ss) o ≡ Some at.Done → Goes stage s ss
goes_by stage s ss None f e = none_some at.Done e
goes_by stage s ss (Some after) f e = record { after = after; step = f; rest = e }

-- each statement of a text in order may
goes : (stmts : List Placed) (i : ℕ) (s : Placed) (f : Stands stmts i) → slice_get stmts i ≡ Some s → Goes f.stage s.says (drop (suc i) stmts)
goes stmts i s f at = goes_by f.stage s.says (drop (suc i) stmts) (next f.stage (part_of s.says)) refl (ap (run f.stage) (sym (drop_here stmts i s at)) ∙ f.rest)

-- the stage behind a statement
step : (stmts : List Placed) (i : ℕ) (s : Placed) → Stands stmts i → slice_get stmts i ≡ Some s → Stands stmts (suc i)
step stmts i s f at =
    let g = goes stmts i s f at in
    record {
      stage = g.after;
      rest = g.rest;
      fits =
          subst (λ (b : ℕ). Fits g.after b (ended stmts (suc i)) (line stmts (suc i))) (ap (λ (k : ℕ). owner stmts i + k) (begins_is s.says) ∙ sym (owner_next stmts i s at))
          (subst (λ (d : ℕ). Fits g.after (owner stmts i + part_begins (part_of s.says)) d (line stmts (suc i))) (ap (λ (k : ℕ). ended stmts i + k) (ends_is s.says) ∙ sym (ended_next stmts i s at))
          (subst (λ (n : ℕ). Fits g.after (owner stmts i + part_begins (part_of s.says)) (ended stmts i + part_ends (part_of s.says)) n) (line_is (line stmts i) s.says ∙ sym (next_line_is stmts i s at))
          (part_step f.stage (part_of s.says) g.after (owner stmts i) (ended stmts i) (line stmts i) g.step f.fits)));
    }

-- there is a stage before each statement and behind the last
stage_at : (stmts : List Placed) → IsInOrder stmts → (i : ℕ) → i ≤ length stmts → Stands stmts i
stage_at stmts o zero h = record { stage = at.Start; rest = o; fits = (refl, refl) }
stage_at stmts o (suc i) h =
    let within : i < length stmts = omega (arith, h) in
    let before : i ≤ length stmts = omega (arith, h) in
    let s = stands stmts i within in
    step stmts i s.0 (stage_at stmts o i before) s.1

abbrev pub is_pre : Statement → Bool
is_pre (pre _) = true
is_pre _ = false

-- a line stands in a procedure that is not ended: PRE is its line 0, all others come behind it
pub record Inside (s : Statement) (begun done line : ℕ) : Type 0 where
  pub unended : begun ≡ done + 1
  pub first : is_pre s ≡ true → line ≡ 0
  pub later : is_pre s ≡ false → 1 ≤ line

-- the part of a line is PRE or another one in the body
abbrev IsLinePart : Bool → Part → Type 0
IsLinePart true p = p ≡ part.Precondition
IsLinePart false p = (p ≡ part.Body) ⊎ (p ≡ part.Closing)

no_line : (b : Bool) (p : Part) → false ≡ true → IsLinePart b p
no_line b p e = absurd (cc)

line_part : (s : Statement) → has_line s ≡ true → IsLinePart (is_pre s) (part_of s)
line_part (title a) e = no_line (is_pre (title a)) (part_of (title a)) e
line_part (constant_is a b) e = no_line (is_pre (constant_is a b)) (part_of (constant_is a b)) e
line_part (range_type a b c) e = no_line (is_pre (range_type a b c)) (part_of (range_type a b c)) e
line_part (wrap_type a b c) e = no_line (is_pre (wrap_type a b c)) (part_of (wrap_type a b c)) e
line_part (enum_type a b) e = no_line (is_pre (enum_type a b)) (part_of (enum_type a b)) e
line_part (procedure a) e = no_line (is_pre (procedure a)) (part_of (procedure a)) e
line_part (variable a b c) e = no_line (is_pre (variable a b c)) (part_of (variable a b c)) e
line_part (post a) e = no_line (is_pre (post a)) (part_of (post a)) e
line_part finish e = no_line (is_pre finish) (part_of finish) e
line_part (pre _) e = refl
line_part end_procedure e = inr refl
line_part _ e = inl refl

-- PRE stands behind the variables, the lines of the body and ENDPROC behind POST
before_pre : (stage after : Stage) (b d n : ℕ) → next stage part.Precondition ≡ Some after → Fits stage b d n → (b ≡ d + 1) × (n ≡ 0)
before_pre at.Variables after b d n e f = f
before_pre _ after b d n e f = none_some after e

before_body : (stage after : Stage) (b d n : ℕ) → next stage part.Body ≡ Some after → Fits stage b d n → (b ≡ d + 1) × (1 ≤ n)
before_body at.Body after b d n e f = f
before_body _ after b d n e f = none_some after e

before_closing : (stage after : Stage) (b d n : ℕ) → next stage part.Closing ≡ Some after → Fits stage b d n → (b ≡ d + 1) × (1 ≤ n)
before_closing at.Body after b d n e f = f
before_closing _ after b d n e f = none_some after e

-- a part that is a line, at the stage before it
before_line : (is_first : Bool) (p : Part) (stage after : Stage) (b d n : ℕ) → IsLinePart is_first p → next stage p ≡ Some after → Fits stage b d n
    → (b ≡ d + 1) × (is_first ≡ true → n ≡ 0) × (is_first ≡ false → 1 ≤ n)
before_line true p stage after b d n l e f =
    let g = before_pre stage after b d n (ap (next stage) (sym l) ∙ e) f in (g.0, λ h. g.1, λ h. absurd (let z : true ≡ false = h in cc))
before_line false p stage after b d n (inl l) e f =
    let g = before_body stage after b d n (ap (next stage) (sym l) ∙ e) f in (g.0, λ h. absurd (let z : false ≡ true = h in cc), λ h. g.1)
before_line false p stage after b d n (inr l) e f =
    let g = before_closing stage after b d n (ap (next stage) (sym l) ∙ e) f in (g.0, λ h. absurd (let z : false ≡ true = h in cc), λ h. g.1)

-- a line of a text in order
pub inside : (stmts : List Placed) → IsInOrder stmts → (i : ℕ) (s : Placed) → i < length stmts → slice_get stmts i ≡ Some s → has_line s.says ≡ true
    → Inside s.says (owner stmts i) (ended stmts i) (line stmts i)
inside stmts o i s h at has =
    let low : i ≤ length stmts = omega arith in
    let f = stage_at stmts o i low in
    let g = goes stmts i s f at in
    let b = before_line (is_pre s.says) (part_of s.says) f.stage g.after (owner stmts i) (ended stmts i) (line stmts i) (line_part s.says has) g.step f.fits in
    record { unended = b.0; first = b.1; later = b.2 }

at_done : (stage : Stage) (b d n : ℕ) → run stage [] ≡ Some at.Done → Fits stage b d n → (b ≡ d) × (1 ≤ b)
at_done stage b d n e f = let same : stage ≡ at.Done = cc in subst (λ (s : Stage). Fits s b d n) same f

-- behind the last statement each procedure has ended, and there is one
pub all_ended : (stmts : List Placed) → IsInOrder stmts → (owner stmts (length stmts) ≡ ended stmts (length stmts)) × (1 ≤ owner stmts (length stmts))
all_ended stmts o =
    let low : length stmts ≤ length stmts = omega arith in
    let f = stage_at stmts o (length stmts) low in
    at_done f.stage (owner stmts (length stmts)) (ended stmts (length stmts)) (line stmts (length stmts)) (ap (run f.stage) (sym (drop-length stmts)) ∙ f.rest) f.fits
