-- What a line of a checked expansion tells of the written line: the places that it names, and the lines to which it leads.
use Rattle.std.proofs.Common.{◌≡◌, inl, inr, ℕ, zero, suc, ◌+◌, ◌<◌, ◌≤◌, Bool, true, false, List, [], ◌∷◌, length, take, refl, subst, arith}
use Rattle.std.specs.Prelude.{sum_by, slice_get, Option, Some, None}
use Rattle.std.proofs.lemmas.Option.{slice_get_within}
use Rattle.std.proofs.lemmas.List.Sums.{sum_by-cons}
use Rattle.il_core.specs.Checked.{FitsAt, Suits}
use Rattle.il_core.specs.Expression.{Expression, number, variable, flag, truth, minus, opposite, two}
use Rattle.il_core.specs.Kind.{HasFlag, IsWhole, IsCondition}
use Rattle.il_core.specs.LineGraph.{IsIn, heads_of}
use Rattle.il_core.specs.Procedure.{Instruction, pre, assign, if_true, otherwise, end_if, loop, end_loop, exit, exit_when, label, goto, skip, assert, return, end_procedure}
use Rattle.il_core.specs.declared.line.Place.{Place}
use Rattle.il_core.specs.declared.operator.BinOp.TheVariants.{Add, Sub, Mul, Div, Mod, Compare, And, Or}
use Rattle.il_called.specs.Called.{WrittenLine}
use Rattle.il_called.specs.Expansion.{Callee, renumbered, moved, width_of, start_of}
use Rattle.il_inline.specs.Within.{NamesBelow, IsWithin}

flag_named : (places : List Place) (p : ℕ) (b : Bool) → HasFlag (slice_get places p) b → p < length places
flag_named places p b h = by (slice_get places p) refl h
  where
    by : (o : Option Place) → slice_get places p ≡ o → HasFlag o b → p < length places
    by None e g = absurd g
    by (Some x) e g = slice_get_within places p x e

pub whole_named : (places : List Place) (e : Expression) → IsWhole places e → NamesBelow (length places) e
whole_named places (number n) h = tt
whole_named places (variable p) h = flag_named places p false h
whole_named places (flag p) h = absurd h
whole_named places (truth b) h = absurd h
whole_named places (minus e) h = whole_named places e h
whole_named places (opposite e) h = absurd h
whole_named places (two Add a b) h = (whole_named places a h.0, whole_named places b h.1)
whole_named places (two Sub a b) h = (whole_named places a h.0, whole_named places b h.1)
whole_named places (two Mul a b) h = (whole_named places a h.0, whole_named places b h.1)
whole_named places (two Div a b) h = (whole_named places a h.0, whole_named places b h.1)
whole_named places (two Mod a b) h = (whole_named places a h.0, whole_named places b h.1)
whole_named places (two (Compare r) a b) h = absurd h
whole_named places (two And a b) h = absurd h
whole_named places (two Or a b) h = absurd h

pub condition_named : (places : List Place) (e : Expression) → IsCondition places e → NamesBelow (length places) e
condition_named places (number n) h = absurd h
condition_named places (variable p) h = absurd h
condition_named places (flag p) h = flag_named places p true h
condition_named places (truth b) h = tt
condition_named places (minus e) h = absurd h
condition_named places (opposite e) h = condition_named places e h
condition_named places (two Add a b) h = absurd h
condition_named places (two Sub a b) h = absurd h
condition_named places (two Mul a b) h = absurd h
condition_named places (two Div a b) h = absurd h
condition_named places (two Mod a b) h = absurd h
condition_named places (two (Compare r) a b) h = (whole_named places a h.0, whole_named places b h.1)
condition_named places (two And a b) h = (condition_named places a h.0, condition_named places b h.1)
condition_named places (two Or a b) h = (condition_named places a h.0, condition_named places b h.1)

pub suits_named : (b : Bool) (places : List Place) (e : Expression) → Suits b places e → NamesBelow (length places) e
suits_named true places e h = condition_named places e h
suits_named false places e h = whole_named places e h

-- the places of an expression whose places are renumbered
pub names_back : (f : ℕ → ℕ) (n m : ℕ) → ((k : ℕ) → f k < m → k < n) → (e : Expression) → NamesBelow m (renumbered f e) → NamesBelow n e
names_back f n m back (number v) h = tt
names_back f n m back (variable p) h = back p h
names_back f n m back (flag p) h = back p h
names_back f n m back (truth b) h = tt
names_back f n m back (minus e) h = names_back f n m back e h
names_back f n m back (opposite e) h = names_back f n m back e h
names_back f n m back (two o a b) h = (names_back f n m back a h.0, names_back f n m back b h.1)

-- past the line to which an instruction may lead
abbrev pub limit_of : Instruction → ℕ
limit_of (pre e) = 0
limit_of (assign p e) = 0
limit_of (if_true e q) = suc q
limit_of (otherwise q) = suc q
limit_of end_if = 0
limit_of loop = 0
limit_of (end_loop q) = suc q
limit_of (exit q) = suc q
limit_of (exit_when e q) = suc q
limit_of label = 0
limit_of (goto q) = suc q
limit_of skip = 0
limit_of (assert e) = 0
limit_of (return q) = suc q
limit_of (end_procedure e) = 0

-- what a line names that fits where it is moved
pub moved_within : (places : List Place) (count pc n : ℕ) (f g : ℕ → ℕ) → ((k : ℕ) → f k < length places → k < n) → (i : Instruction)
    → FitsAt places count pc (moved f g i) → IsWithin n (limit_of i) i
moved_within places count pc n f g back (pre e) h = names_back f n (length places) back e (condition_named places (renumbered f e) h.1.typed)
moved_within places count pc n f g back (assign p e) h =
    let t = h.1 in
    (back p (slice_get_within places (f p) t.target t.there), names_back f n (length places) back e (suits_named t.target.flag places (renumbered f e) t.typed))
moved_within places count pc n f g back (if_true e q) h = (names_back f n (length places) back e (condition_named places (renumbered f e) h.2.typed), omega arith)
moved_within places count pc n f g back (otherwise q) h = omega arith
moved_within places count pc n f g back end_if h = tt
moved_within places count pc n f g back loop h = tt
moved_within places count pc n f g back (end_loop q) h = omega arith
moved_within places count pc n f g back (exit q) h = omega arith
moved_within places count pc n f g back (exit_when e q) h = (names_back f n (length places) back e (condition_named places (renumbered f e) h.2.typed), omega arith)
moved_within places count pc n f g back label h = tt
moved_within places count pc n f g back (goto q) h = omega arith
moved_within places count pc n f g back skip h = tt
moved_within places count pc n f g back (assert e) h = names_back f n (length places) back e (condition_named places (renumbered f e) h.1.typed)
moved_within places count pc n f g back (return q) h = omega arith
moved_within places count pc n f g back (end_procedure e) h = names_back f n (length places) back e (condition_named places (renumbered f e) h.1.typed)

next_inside : (count n q : ℕ) (g : ℕ → ℕ) → g (n + 1) ≡ g n + 1 → g n + 1 < count → IsIn ((n + 1) ∷ []) q → g q < count
next_inside count n q g next h (inl e) = subst (λ k. g k < count) e (omega arith)
next_inside count n q g next h (inr i) = absurd i

target_inside : (count r q : ℕ) (g : ℕ → ℕ) → g r < count → IsIn (r ∷ []) q → g q < count
target_inside count r q g h (inl e) = subst (λ k. g k < count) e h
target_inside count r q g h (inr i) = absurd i

either_inside : (count a b q : ℕ) (g : ℕ → ℕ) → g a < count → g b < count → IsIn (a ∷ b ∷ []) q → g q < count
either_inside count a b q g h k (inl e) = subst (λ k. g k < count) e h
either_inside count a b q g h k (inr i) = target_inside count b q g k i

-- the lines to which a line leads that fits where it is moved
pub heads_inside : (places : List Place) (count n q : ℕ) (f g : ℕ → ℕ) → 2 ≤ count → g (n + 1) ≡ g n + 1 → (i : Instruction)
    → FitsAt places count (g n) (moved f g i) → IsIn (heads_of n i) q → g q < count
heads_inside places count n q f g some next (pre e) h along = let z = h.0 in next_inside count n q g next (omega arith) along
heads_inside places count n q f g some next (assign p e) h along = next_inside count n q g next h.0 along
heads_inside places count n q f g some next (if_true e r) h along = let s = h.0 in either_inside count (n + 1) r q g (omega arith) h.1.inside along
heads_inside places count n q f g some next (otherwise r) h along = target_inside count r q g h.inside along
heads_inside places count n q f g some next end_if h along = next_inside count n q g next h along
heads_inside places count n q f g some next loop h along = next_inside count n q g next h along
heads_inside places count n q f g some next (end_loop r) h along = target_inside count r q g h.inside along
heads_inside places count n q f g some next (exit r) h along = target_inside count r q g h.inside along
heads_inside places count n q f g some next (exit_when e r) h along = let s = h.0 in either_inside count r (n + 1) q g h.1.inside (omega arith) along
heads_inside places count n q f g some next label h along = next_inside count n q g next h along
heads_inside places count n q f g some next (goto r) h along = target_inside count r q g h.inside along
heads_inside places count n q f g some next skip h along = next_inside count n q g next h along
heads_inside places count n q f g some next (assert e) h along = next_inside count n q g next h.0 along
heads_inside places count n q f g some next (return r) h along = target_inside count r q g h.1.inside along
heads_inside places count n q f g some next (end_procedure e) h along = absurd along

-- a line that begins before the end is one of the lines
pub begins_before : (before : List Callee) (lines : List WrittenLine) (n : ℕ) → start_of before lines n < sum_by (width_of before) lines → n < length lines
begins_before before [] zero h = absurd (omega arith)
begins_before before [] (suc n) h = absurd (omega arith)
begins_before before (line ∷ lines) zero h = omega arith
begins_before before (line ∷ lines) (suc n) h =
    let a = sum_by-cons (width_of before) line (take n lines) in
    let b = sum_by-cons (width_of before) line lines in
    let r = begins_before before lines n (omega arith) in
    omega arith
