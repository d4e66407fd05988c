-- An expression that is renumbered over places of the same kinds and ranges is as well typed and as narrow as before.
use Rattle.std.proofs.Common.{◌≡◌, refl, sym, ap, ◌∙◌, subst, ℕ, ◌<◌, Bool, true, false, Some, None, List, length, slice_get}
use Rattle.std.specs.Prelude.{ℤ, neg_ℤ, Option}
use Rattle.il_core.specs.Bounds.{Bounds, AreSmall, IsNarrow, bounds_of, operator_bounds, place_bounds}
use Rattle.il_core.specs.Checked.{IsSoundCondition, Suits}
use Rattle.il_core.specs.Expression.{Expression, number, variable, flag, truth, minus, opposite, two}
use Rattle.il_core.specs.Kind.{HasFlag, IsWhole, IsCondition}
use Rattle.il_core.specs.declared.line.Place.{Place}
use Rattle.il_core.specs.declared.operator.BinOp.TheVariants.{Add, Sub, Mul, Div, Mod, Compare, And, Or}
use Rattle.il_called.specs.Expansion.{renumbered}
use Rattle.il_inline.specs.Within.{NamesBelow}
use Rattle.il_inline.proofs.Texts.{there}
use Rattle.il_runs.specs.Moved.{IsAmong}
use Rattle.il_runs.proofs.Fit.{condition_named, suits_named}

-- each place stands among the wide ones under its new number
pub record Among (f : ℕ → ℕ) (places wide : List Place) : Type 0 where
  pub each : (k : ℕ) (place : Place) → slice_get places k ≡ Some place → IsAmong wide (f k) place

pub flag_among : (wide : List Place) (k : ℕ) (place : Place) → IsAmong wide k place → HasFlag (slice_get wide k) place.flag
flag_among wide k place a = subst (λ o. HasFlag o place.flag) (sym a.there) a.alike.flag

abbrev between : ℤ → ℤ → Bounds
between low high = record { low = low; high = high }

pub bounds_among : (wide : List Place) (k : ℕ) (place : Place) → IsAmong wide k place → place_bounds (slice_get wide k) ≡ place_bounds (Some place)
bounds_among wide k place a = ap place_bounds a.there ∙ ap (λ l. between l a.other.greatest) a.alike.least ∙ ap (between place.least) a.alike.greatest

flag_kept : (f : ℕ → ℕ) (places wide : List Place) → Among f places wide → (p : ℕ) (b : Bool) → HasFlag (slice_get places p) b → HasFlag (slice_get wide (f p)) b
flag_kept f places wide among p b h = by (slice_get places p) refl h
  where
    by : (o : Option Place) → slice_get places p ≡ o → HasFlag o b → HasFlag (slice_get wide (f p)) b
    by None e g = absurd g
    by (Some x) e g = subst (HasFlag (slice_get wide (f p))) g (flag_among wide (f p) x (among.each p x e))

pub whole_kept : (f : ℕ → ℕ) (places wide : List Place) → Among f places wide → (e : Expression) → IsWhole places e → IsWhole wide (renumbered f e)
whole_kept f places wide among (number n) h = tt
whole_kept f places wide among (variable p) h = flag_kept f places wide among p false h
whole_kept f places wide among (flag p) h = absurd h
whole_kept f places wide among (truth b) h = absurd h
whole_kept f places wide among (minus e) h = whole_kept f places wide among e h
whole_kept f places wide among (opposite e) h = absurd h
whole_kept f places wide among (two Add a b) h = (whole_kept f places wide among a h.0, whole_kept f places wide among b h.1)
whole_kept f places wide among (two Sub a b) h = (whole_kept f places wide among a h.0, whole_kept f places wide among b h.1)
whole_kept f places wide among (two Mul a b) h = (whole_kept f places wide among a h.0, whole_kept f places wide among b h.1)
whole_kept f places wide among (two Div a b) h = (whole_kept f places wide among a h.0, whole_kept f places wide among b h.1)
whole_kept f places wide among (two Mod a b) h = (whole_kept f places wide among a h.0, whole_kept f places wide among b h.1)
whole_kept f places wide among (two (Compare r) a b) h = absurd h
whole_kept f places wide among (two And a b) h = absurd h
whole_kept f places wide among (two Or a b) h = absurd h

pub condition_kept : (f : ℕ → ℕ) (places wide : List Place) → Among f places wide → (e : Expression) → IsCondition places e → IsCondition wide (renumbered f e)
condition_kept f places wide among (number n) h = absurd h
condition_kept f places wide among (variable p) h = absurd h
condition_kept f places wide among (flag p) h = flag_kept f places wide among p true h
condition_kept f places wide among (truth b) h = tt
condition_kept f places wide among (minus e) h = absurd h
condition_kept f places wide among (opposite e) h = condition_kept f places wide among e h
condition_kept f places wide among (two Add a b) h = absurd h
condition_kept f places wide among (two Sub a b) h = absurd h
condition_kept f places wide among (two Mul a b) h = absurd h
condition_kept f places wide among (two Div a b) h = absurd h
condition_kept f places wide among (two Mod a b) h = absurd h
condition_kept f places wide among (two (Compare r) a b) h = (whole_kept f places wide among a h.0, whole_kept f places wide among b h.1)
condition_kept f places wide among (two And a b) h = (condition_kept f places wide among a h.0, condition_kept f places wide among b h.1)
condition_kept f places wide among (two Or a b) h = (condition_kept f places wide among a h.0, condition_kept f places wide among b h.1)

pub suits_kept : (f : ℕ → ℕ) (places wide : List Place) → Among f places wide → (b : Bool) (e : Expression) → Suits b places e → Suits b wide (renumbered f e)
suits_kept f places wide among true e h = condition_kept f places wide among e h
suits_kept f places wide among false e h = whole_kept f places wide among e h

named_bounds : (f : ℕ → ℕ) (places wide : List Place) → Among f places wide → (p : ℕ) → p < length places → place_bounds (slice_get wide (f p)) ≡ place_bounds (slice_get places p)
named_bounds f places wide among p h =
    let x = there places p h in
    bounds_among wide (f p) x.0 (among.each p x.0 x.1) ∙ sym (ap place_bounds x.1)

bounds_kept : (f : ℕ → ℕ) (places wide : List Place) → Among f places wide → (e : Expression) → NamesBelow (length places) e
    → bounds_of wide (renumbered f e) ≡ bounds_of places e
bounds_kept f places wide among (number n) h = refl
bounds_kept f places wide among (variable p) h = named_bounds f places wide among p h
bounds_kept f places wide among (flag p) h = refl
bounds_kept f places wide among (truth b) h = refl
bounds_kept f places wide among (minus e) h = ap (λ (a : Bounds). between (neg_ℤ a.high) (neg_ℤ a.low)) (bounds_kept f places wide among e h)
bounds_kept f places wide among (opposite e) h = refl
bounds_kept f places wide among (two o a b) h =
    ap (λ x. operator_bounds o x (bounds_of wide (renumbered f b))) (bounds_kept f places wide among a h.0)
    ∙ ap (operator_bounds o (bounds_of places a)) (bounds_kept f places wide among b h.1)

pub narrow_kept : (f : ℕ → ℕ) (places wide : List Place) → Among f places wide → (e : Expression) → NamesBelow (length places) e → IsNarrow places e
    → IsNarrow wide (renumbered f e)
narrow_kept f places wide among (number n) h g = g
narrow_kept f places wide among (variable p) h g = subst AreSmall (sym (named_bounds f places wide among p h)) g
narrow_kept f places wide among (flag p) h g = tt
narrow_kept f places wide among (truth b) h g = tt
narrow_kept f places wide among (minus e) h g = (narrow_kept f places wide among e h g.0, subst AreSmall (sym (bounds_kept f places wide among (minus e) h)) g.1)
narrow_kept f places wide among (opposite e) h g = narrow_kept f places wide among e h g
narrow_kept f places wide among (two o a b) h g = (
  narrow_kept f places wide among a h.0 g.0,
  narrow_kept f places wide among b h.1 g.1,
  subst AreSmall (sym (bounds_kept f places wide among (two o a b) h)) g.2,
)

pub sound_kept : (f : ℕ → ℕ) (places wide : List Place) → Among f places wide → (e : Expression) → IsSoundCondition places e → IsSoundCondition wide (renumbered f e)
sound_kept f places wide among e h = record {
  typed = condition_kept f places wide among e h.typed;
  narrow = narrow_kept f places wide among e (condition_named places e h.typed) h.narrow;
}

-- a value that a place may be given
pub record Gives (places : List Place) (b : Bool) (e : Expression) : Type 0 where
  pub typed : Suits b places e
  pub narrow : IsNarrow places e

pub gives_kept : (f : ℕ → ℕ) (places wide : List Place) → Among f places wide → (b : Bool) (e : Expression) → Gives places b e → Gives wide b (renumbered f e)
gives_kept f places wide among b e h = record {
  typed = suits_kept f places wide among b e h.typed;
  narrow = narrow_kept f places wide among e (suits_named b places e h.typed) h.narrow;
}
