-- In a text in order each variable stands in a procedure, and in front of its PRE.
use Rattle.std.proofs.Common.{◌≡◌, ◌≢◌, ℕ, zero, suc, ◌+◌, ◌<◌, ◌≤◌, ◌∙◌, sym, ap, subst, refl, inl, inr, ◌⊎◌, not, Bool, true, false, ◌&&◌, List, [], ◌∷◌, length, drop, arith}
use Rattle.std.specs.Prelude.{Some, slice_get}
use Rattle.std.proofs.Math.Seq.{drop-cons}
use Rattle.std.proofs.lemmas.Bool.{cases_lt}
use Rattle.std.proofs.lemmas.Option.{get_or_from_slice_get, slice_get_within}
use Rattle.il_core.specs.Statement.{Statement, Placed, procedure, variable}
use Rattle.il_syntax.specs.declared.order.Part.{Part}
use Rattle.il_syntax.specs.declared.order.Part.TheVariants as part
use Rattle.il_syntax.specs.declared.order.Stage.{Stage}
use Rattle.il_syntax.specs.declared.order.Stage.TheVariants as at
use Rattle.il_syntax.specs.Order.{part_of, next, run, IsInOrder}
use Rattle.il_types.specs.declared.counts.Counts.{Counts}
use Rattle.il_types.specs.Counts.{counts_behind}
use Rattle.il_types.specs.Names.{Setting, counts_at}
use Rattle.il_built.specs.CheckedText.{declared_place, variables_of}
use Rattle.il_built.specs.Holding.{setting_at, AreOwned}
use Rattle.il_built.proofs.BuiltSorts.{both_true, none_some}
use Rattle.il_built.proofs.Entered.{bound}
use Rattle.il_built.proofs.Given.{stands, counts_next}
use Rattle.il_built.proofs.VariablesCounted.{none_here, variables_to, variables_counted}

-- a procedure has begun
abbrev is_opened : Stage → Bool
is_opened at.Start = false
is_opened at.Declarations = false
is_opened _ = true

-- the variables of the latest procedure are behind
abbrev is_past : Stage → Bool
is_past at.Start = false
is_past at.Declarations = false
is_past at.Variables = false
is_past _ = true

-- whether a procedure has begun behind a part, by whether one has in front of it
abbrev opens : Part → Bool → Bool
opens part.Opening b = true
opens _ b = b

-- whether the variables of the latest procedure are behind after a part, by whether they are in front of it
abbrev passes : Part → Bool → Bool
passes part.Opening b = false
passes part.Precondition b = true
passes _ b = b

-- whether a part may stand where the variables of the latest procedure are behind, and where a procedure has begun
abbrev may_stand : Part → Bool → Bool → Bool
may_stand part.Variable past opened = not past && opened
may_stand part.Postcondition past opened = past
may_stand part.Body past opened = past
may_stand part.Closing past opened = past
may_stand _ past opened = true

-- what a part makes of a stage
record IsStep (stage after : Stage) (p : Part) : Type 0 where
  opened : is_opened after ≡ opens p (is_opened stage)
  past : is_past after ≡ passes p (is_past stage)
  stands : may_stand p (is_past stage) (is_opened stage) ≡ true

-- the stage that a part leads to is one alone
arrives : (stage t after : Stage) (p : Part) → Some t ≡ Some after → IsStep stage t p → IsStep stage after p
arrives stage t after p e s = let f : t ≡ after = cc in subst (λ u. IsStep stage u p) f s

-- each part that may stand at a stage makes this of it
step : (stage : Stage) (p : Part) (after : Stage) → next stage p ≡ Some after → IsStep stage after p
step at.Start part.Title after e = arrives at.Start at.Declarations after part.Title e (record { opened = refl; past = refl; stands = refl })
step at.Declarations part.Declaration after e = arrives at.Declarations at.Declarations after part.Declaration e (record { opened = refl; past = refl; stands = refl })
step at.Declarations part.Opening after e = arrives at.Declarations at.Variables after part.Opening e (record { opened = refl; past = refl; stands = refl })
step at.Variables part.Variable after e = arrives at.Variables at.Variables after part.Variable e (record { opened = refl; past = refl; stands = refl })
step at.Variables part.Precondition after e = arrives at.Variables at.Postcondition after part.Precondition e (record { opened = refl; past = refl; stands = refl })
step at.Postcondition part.Postcondition after e = arrives at.Postcondition at.Body after part.Postcondition e (record { opened = refl; past = refl; stands = refl })
step at.Body part.Body after e = arrives at.Body at.Body after part.Body e (record { opened = refl; past = refl; stands = refl })
step at.Body part.Closing after e = arrives at.Body at.Procedures after part.Closing e (record { opened = refl; past = refl; stands = refl })
step at.Procedures part.Opening after e = arrives at.Procedures at.Variables after part.Opening e (record { opened = refl; past = refl; stands = refl })
step at.Procedures part.Finish after e = arrives at.Procedures at.Done after part.Finish e (record { opened = refl; past = refl; stands = refl })
step _ _ after e = none_some after e

-- the parts that stand behind the variables of their procedure
abbrev pub is_behind : Part → Bool
is_behind part.Precondition = true
is_behind part.Postcondition = true
is_behind part.Body = true
is_behind part.Closing = true
is_behind _ = false

-- behind such a part the variables are behind
now_past : (p : Part) (past opened : Bool) → is_behind p ≡ true → may_stand p past opened ≡ true → passes p past ≡ true
now_past part.Precondition past opened h m = refl
now_past part.Postcondition past opened h m = m
now_past part.Body past opened h m = m
now_past part.Closing past opened h m = m
now_past _ past opened h m = absurd (cc)

-- a statement that begins no procedure
record IsInside (c behind : Counts) (p : Part) : Type 0 where
  opened : (b : Bool) → opens p b ≡ b
  past : passes p true ≡ true
  procedures : behind.procedures ≡ c.procedures

-- a statement begins a procedure, or it leaves the number of procedures as it is
first_or_inside : (c : Counts) (x : Statement) → ((counts_behind c x).procedures ≡ c.procedures + 1) ⊎ IsInside c (counts_behind c x) (part_of x)
first_or_inside c (procedure name) = inl refl
first_or_inside c _ = inr (record { opened = λ b. refl; past = refl; procedures = refl })

-- a statement that may stand behind all variables of a procedure declares none
declares_none : (s : Setting) (x : Statement) (opened : Bool) → may_stand (part_of x) true opened ≡ true → declared_place s x ≡ []
declares_none s (variable m name used) opened h = absurd (cc)
declares_none s _ opened h = refl

-- nor does one that stands behind them by its part
behind_declares_none : (s : Setting) (x : Statement) → is_behind (part_of x) ≡ true → declared_place s x ≡ []
behind_declares_none s (variable m name used) h = absurd (cc)
behind_declares_none s _ h = refl

-- and it begins no procedure
same_procedure : (c : Counts) (x : Statement) → is_behind (part_of x) ≡ true → (counts_behind c x).procedures ≡ c.procedures
same_procedure c (procedure name) h = absurd (cc)
same_procedure c _ h = refl

-- the stage in front of statement i
record IsAt (stmts : List Placed) (i : ℕ) (stage : Stage) : Type 0 where
  rest : run stage (drop i stmts) ≡ Some at.Done
  opened : is_opened stage ≡ true → (counts_at stmts i).procedures ≢ 0

-- the stage behind it
record GoesOn (stmts : List Placed) (i : ℕ) (stage : Stage) (p : Part) : Type 0 where
  after : Stage
  step : IsStep stage after p
  is : IsAt stmts (suc i) after

-- each statement of a text in order goes on
goes_on : (stmts : List Placed) (i : ℕ) (stage : Stage) (x : Placed) → slice_get stmts i ≡ Some x → IsAt stmts i stage → GoesOn stmts i stage (part_of x.says)
goes_on stmts i stage x there a =
    let c = counts_at stmts i in
    let p = part_of x.says in
    let cut : drop i stmts ≡ x ∷ drop (suc i) stmts =
    drop-cons stmts i x (slice_get_within stmts i x there) ∙ ap (λ (y : Placed). y ∷ drop (suc i) stmts) (get_or_from_slice_get stmts i x x there) in
    let found = bound (λ t. run t (drop (suc i) stmts)) (next stage p) at.Done (sym (ap (run stage) cut) ∙ a.rest) in
    let s = step stage p found.0 found.1 in
    let counts = ap (λ (d : Counts). d.procedures) (counts_next stmts i x there) in
    record {
      after = found.0;
      step = s;
      is = record {
        rest = found.2;
        opened = λ h. elim (first_or_inside c x.says) [
          | inl first ↦ omega arith
          | inr k ↦ let before = a.opened (sym (k.opened (is_opened stage)) ∙ sym s.opened ∙ h) in omega arith
        ];
      };
    }

-- there is a stage in front of each statement
stage_at : (stmts : List Placed) (i : ℕ) → IsInOrder stmts → i ≤ length stmts → (stage : Stage) × IsAt stmts i stage
stage_at stmts zero o h = (at.Start, record { rest = o; opened = λ e. absurd (cc) })
stage_at stmts (suc i) o h =
    let x = stands stmts i (omega arith) in
    let before = stage_at stmts i o (omega arith) in
    let g = goes_on stmts i before.0 x.0 x.1 before.1 in
    (g.after, g.is)

-- each variable stands in a procedure
pub owned : (stmts : List Placed) → IsInOrder stmts → AreOwned stmts
owned stmts o i m name used d =
    let inside = slice_get_within stmts i d.stmt d.there in
    let at_i = stage_at stmts i o (omega arith) in
    let g = goes_on stmts i at_i.0 d.stmt d.there at_i.1 in
    let stands : may_stand part.Variable (is_past at_i.0) (is_opened at_i.0) ≡ true =
    ap (λ (x : Statement). may_stand (part_of x) (is_past at_i.0) (is_opened at_i.0)) (sym d.says) ∙ g.step.stands in
    at_i.1.opened (both_true _ _ stands).1

-- the statements from i on are behind the variables of a procedure
record IsPassed (stmts : List Placed) (owner i : ℕ) : Type 0 where
  stage : Stage
  is : IsAt stmts i stage
  passed : (owner < (counts_at stmts i).procedures) ⊎ (((counts_at stmts i).procedures ≡ owner) × (is_past stage ≡ true))

-- one statement more has no variable of the procedure
passed_next : (stmts : List Placed) (owner i : ℕ) (x : Placed) → slice_get stmts i ≡ Some x → IsPassed stmts owner i
    → IsPassed stmts owner (suc i) × (variables_to stmts owner (suc i) ≡ variables_to stmts owner i)
passed_next stmts owner i x there q =
    let c = counts_at stmts i in
    let behind = counts_at stmts (suc i) in
    let g = goes_on stmts i q.stage x there q.is in
    let counts : behind.procedures ≡ (counts_behind c x.says).procedures = ap (λ (d : Counts). d.procedures) (counts_next stmts i x there) in
    let later : owner < behind.procedures → IsPassed stmts owner (suc i) × (variables_to stmts owner (suc i) ≡ variables_to stmts owner i) =
    λ lt. (record { stage = g.after; is = g.is; passed = inl lt }, none_here stmts owner i x there (inl (λ e. omega arith))) in
    elim (first_or_inside c x.says) [
      | inl first ↦
          let at_least : owner ≤ c.procedures = elim q.passed [ inl lt ↦ omega arith | inr own ↦ omega arith ] in
          later (omega arith)
      | inr k ↦
          elim q.passed [
            | inl lt ↦ later (omega arith)
            | inr own ↦
                let past = g.step.past ∙ ap (passes (part_of x.says)) own.1 ∙ k.past in
                let stands = ap (λ b. may_stand (part_of x.says) b (is_opened q.stage)) (sym own.1) ∙ g.step.stands in (
                  record { stage = g.after; is = g.is; passed = inr (omega arith, past) },
                  none_here stmts owner i x there (inr (declares_none (setting_at stmts i) x.says (is_opened q.stage) stands)),
                )
          ]
    ]

-- no statement behind them has
all_passed : (stmts : List Placed) (owner i n : ℕ) → i ≤ n → n ≤ length stmts → IsPassed stmts owner i
    → IsPassed stmts owner n × (variables_to stmts owner n ≡ variables_to stmts owner i)
all_passed stmts owner i zero h k q = let e : i ≡ 0 = omega arith in (subst (IsPassed stmts owner) e q, sym (ap (variables_to stmts owner) e))
all_passed stmts owner i (suc n) h k q = elim (cases_lt n i) [
  | inl lt ↦ let e : i ≡ suc n = omega arith in (subst (IsPassed stmts owner) e q, sym (ap (variables_to stmts owner) e))
  | inr le ↦
      let x = stands stmts n (omega arith) in
      let before = all_passed stmts owner i n le (omega arith) q in
      let more = passed_next stmts owner n x.0 x.1 before.0 in
      (more.0, more.1 ∙ before.1)
]

-- in front of a statement behind the variables of its procedure stand all variables of that procedure
pub all_before : (stmts : List Placed) (i : ℕ) (x : Placed) → IsInOrder stmts → slice_get stmts i ≡ Some x → is_behind (part_of x.says) ≡ true
    → length (variables_of stmts (counts_at stmts i).procedures) ≡ (counts_at stmts i).variables
all_before stmts i x o there h =
    let c = counts_at stmts i in
    let owner = c.procedures in
    let inside = slice_get_within stmts i x there in
    let at_i = stage_at stmts i o (omega arith) in
    let g = goes_on stmts i at_i.0 x there at_i.1 in
    let past = g.step.past ∙ now_past (part_of x.says) (is_past at_i.0) (is_opened at_i.0) h g.step.stands in
    let same : (counts_at stmts (suc i)).procedures ≡ owner = ap (λ (d : Counts). d.procedures) (counts_next stmts i x there) ∙ same_procedure c x.says h in
    let passed = all_passed stmts owner (suc i) (length stmts) (omega arith) (omega arith) (record { stage = g.after; is = g.is; passed = inr (same, past) }) in
    ap length (passed.1 ∙ none_here stmts owner i x there (inr (behind_declares_none (setting_at stmts i) x.says h)))
    ∙ (variables_counted stmts owner i (omega arith)).variables refl
