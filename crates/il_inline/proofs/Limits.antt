-- The instructions of a checked procedure name places and lines below its limits.
use Rattle.std.proofs.Common.{◌≡◌, inl, inr, ℕ, suc, ◌<◌, ◌≤◌, Bool, true, false, List, [], ◌∷◌, ◌++◌, length, refl, arith}
use Rattle.std.specs.Prelude.{slice_get, Some, None, Option}
use Rattle.std.proofs.lemmas.Option.{slice_get_within}
use Rattle.il_core.specs.Expression.{Expression, number, variable, flag, truth, minus, opposite, two}
use Rattle.il_core.specs.Kind.{HasFlag, IsWhole, IsCondition}
use Rattle.il_core.specs.Checked.{IsChecked, FitsAt, Suits}
use Rattle.il_core.specs.LineGraph.{IsIn}
use Rattle.il_core.specs.Procedure.{Procedure, Instruction, pre, assign, if_true, otherwise, end_if, loop, end_loop, exit, exit_when, label, goto, skip, assert, return, end_procedure}
use Rattle.il_core.specs.declared.line.Place.{Place}
use Rattle.il_core.specs.declared.operator.BinOp.TheVariants.{Add, Sub, Mul, Div, Mod, Compare, And, Or}
use Rattle.il_inline.specs.Within.{NamesBelow, IsWithin, AreWithin}
use Rattle.il_inline.specs.Fits.{AreShort}

there_below : (places : List Place) (p : ℕ) (b : Bool) → length places ≤ 64 → HasFlag (slice_get places p) b → p < 64
there_below places p b few h = by (slice_get places p) refl h
  where
    by : (o : Option Place) → slice_get places p ≡ o → HasFlag o b → p < 64
    by None e g = absurd g
    by (Some x) e g = let w = slice_get_within places p x e in omega arith

whole_below : (places : List Place) (e : Expression) → length places ≤ 64 → IsWhole places e → NamesBelow 64 e
whole_below places (number n) few h = tt
whole_below places (variable p) few h = there_below places p false few h
whole_below places (flag p) few h = absurd h
whole_below places (truth b) few h = absurd h
whole_below places (minus e) few h = whole_below places e few h
whole_below places (opposite e) few h = absurd h
whole_below places (two Add a b) few h = (whole_below places a few h.0, whole_below places b few h.1)
whole_below places (two Sub a b) few h = (whole_below places a few h.0, whole_below places b few h.1)
whole_below places (two Mul a b) few h = (whole_below places a few h.0, whole_below places b few h.1)
whole_below places (two Div a b) few h = (whole_below places a few h.0, whole_below places b few h.1)
whole_below places (two Mod a b) few h = (whole_below places a few h.0, whole_below places b few h.1)
whole_below places (two (Compare r) a b) few h = absurd h
whole_below places (two And a b) few h = absurd h
whole_below places (two Or a b) few h = absurd h

condition_below : (places : List Place) (e : Expression) → length places ≤ 64 → IsCondition places e → NamesBelow 64 e
condition_below places (number n) few h = absurd h
condition_below places (variable p) few h = absurd h
condition_below places (flag p) few h = there_below places p true few h
condition_below places (truth b) few h = tt
condition_below places (minus e) few h = absurd h
condition_below places (opposite e) few h = condition_below places e few h
condition_below places (two Add a b) few h = absurd h
condition_below places (two Sub a b) few h = absurd h
condition_below places (two Mul a b) few h = absurd h
condition_below places (two Div a b) few h = absurd h
condition_below places (two Mod a b) few h = absurd h
condition_below places (two (Compare r) a b) few h = (whole_below places a few h.0, whole_below places b few h.1)
condition_below places (two And a b) few h = (condition_below places a few h.0, condition_below places b few h.1)
condition_below places (two Or a b) few h = (condition_below places a few h.0, condition_below places b few h.1)

suits_below : (b : Bool) (places : List Place) (e : Expression) → length places ≤ 64 → Suits b places e → NamesBelow 64 e
suits_below true places e few h = condition_below places e few h
suits_below false places e few h = whole_below places e few h

fits_within : (places : List Place) (count pc : ℕ) (i : Instruction) → length places ≤ 64 → count ≤ 1000 → FitsAt places count pc i → IsWithin 64 1000 i
fits_within places count pc (pre e) few short h = condition_below places e few h.1.typed
fits_within places count pc (assign p e) few short h =
    let t = h.1 in
    let w = slice_get_within places p t.target t.there in
    (omega arith, suits_below t.target.flag places e few t.typed)
fits_within places count pc (if_true e q) few short h = let t = h.1.inside in (condition_below places e few h.2.typed, omega arith)
fits_within places count pc (otherwise q) few short h = let t = h.inside in omega arith
fits_within places count pc end_if few short h = tt
fits_within places count pc loop few short h = tt
fits_within places count pc (end_loop q) few short h = let t = h.inside in omega arith
fits_within places count pc (exit q) few short h = let t = h.inside in omega arith
fits_within places count pc (exit_when e q) few short h = let t = h.1.inside in (condition_below places e few h.2.typed, omega arith)
fits_within places count pc label few short h = tt
fits_within places count pc (goto q) few short h = let t = h.inside in omega arith
fits_within places count pc skip few short h = tt
fits_within places count pc (assert e) few short h = condition_below places e few h.1.typed
fits_within places count pc (return q) few short h = let t = h.1.inside in omega arith
fits_within places count pc (end_procedure e) few short h = condition_below places e few h.1.typed

all_within : (is : List Instruction) → ((pc : ℕ) (i : Instruction) → slice_get is pc ≡ Some i → IsWithin 64 1000 i) → AreWithin is
all_within [] h = tt
all_within (i ∷ is) h = (h 0 i refl, all_within is (λ pc j e. h (suc pc) j e))

pub checked_within : (p : Procedure) → IsChecked p → AreWithin p.lines
checked_within p h = all_within p.lines (λ pc i e. fits_within p.places (length p.lines) pc i h.few_places h.few_lines (h.fits pc i e))

pub within_left : (xs ys : List Instruction) → AreWithin (xs ++ ys) → AreWithin xs
within_left [] ys h = tt
within_left (x ∷ xs) ys h = (h.0, within_left xs ys h.1)

pub within_right : (xs ys : List Instruction) → AreWithin (xs ++ ys) → AreWithin ys
within_right [] ys h = h
within_right (x ∷ xs) ys h = within_right xs ys h.1

pub all_short : (places : List Place) → ((place : Place) → IsIn places place → length place.name ≤ 40) → AreShort places
all_short [] h = tt
all_short (p ∷ ps) h = (h p (inl refl), all_short ps (λ place i. h place (inr i)))

pub short_left : (xs ys : List Place) → AreShort (xs ++ ys) → AreShort xs
short_left [] ys h = tt
short_left (x ∷ xs) ys h = (h.0, short_left xs ys h.1)

pub short_right : (xs ys : List Place) → AreShort (xs ++ ys) → AreShort ys
short_right [] ys h = h
short_right (x ∷ xs) ys h = short_right xs ys h.1
