-- Steps that go on past unmarked lines never come to a line twice, so they are at most as many as there are lines.
use Rattle.std.proofs.Common.{◌≡◌, refl, sym, ap, ◌∙◌, subst, ℕ, suc, ◌+◌, ◌<◌, ◌≤◌, eqb, Bool, true, false, ◌||◌, Option, Some, List, [], ◌∷◌, ◌++◌, length, slice_get, get_or, arith, inl, inr}
use Rattle.std.specs.List.{IsDistinct, AllByRecursion, list_any}
use Rattle.std.proofs.lemmas.Bool.Decides.{eqb_tells}
use Rattle.std.proofs.lemmas.Map.Steps.{length-le_from_distinct_below}
use Rattle.std.proofs.lemmas.Option.{slice_get_within, slice_get-get_or}
use Rattle.il_core.specs.Procedure.{Procedure}
use Rattle.il_core.specs.LineGraph.{IsIn, HasArc, IsPath}
use Rattle.line_machine.specs.Cut.{CyclesAreCut, EndsAt, GoesOnAt, Reaches}
use Rattle.std.proofs.lemmas.List.{length-append}
use Rattle.il_core.specs.Evaluation.{State}
use Rattle.il_core.specs.Machine.{step}
use Rattle.il_core.specs.Run.{IsInRange}
use Rattle.il_core.specs.Checked.{IsChecked}
use Rattle.il_core.specs.declared.line.Next.TheVariants.{At}
use Rattle.il_core.specs.declared.line.Next.{Next}
use Rattle.il_core.specs.declared.line.Next.TheVariants as next
use Rattle.il_core.specs.declared.line.Halt.{Halt}
use Rattle.il_core.specs.declared.line.Stop.{Stop}
use Rattle.il_core.specs.declared.line.Stop.TheVariants as stop
use Rattle.il_core.proofs.StepKeeps.{step-kept}

-- lines none of which is marked
abbrev pub AreUnmarked : List Bool → List ℕ → Type 0
AreUnmarked cuts [] = Unit {0}
AreUnmarked cuts (q ∷ qs) = (slice_get cuts q ≡ Some false) × AreUnmarked cuts qs

-- each of unmarked lines is unmarked
unmarked_in : (cuts : List Bool) (qs : List ℕ) (q : ℕ) → AreUnmarked cuts qs → IsIn qs q → slice_get cuts q ≡ Some false
unmarked_in cuts [] q u i = absurd i
unmarked_in cuts (r ∷ rs) q u (inl e) = ap (slice_get cuts) (sym e) ∙ u.0
unmarked_in cuts (r ∷ rs) q u (inr i) = unmarked_in cuts rs q u.1 i

-- what holds of a line that a cut cycle passes holds from each later line on
cut-later : (p : Procedure) (cuts : List Bool) (pc q : ℕ) → HasArc p pc q → CyclesAreCut p cuts pc → CyclesAreCut p cuts q
cut-later p cuts pc q a c = λ before round r h k n. c (q ∷ before) round r (a, h) k n

-- the part of a path up to a line on it
pub record Front (p : Procedure) (from : ℕ) (cuts : List Bool) (q : ℕ) : Type 0 where
  pub part : List ℕ
  pub path : IsPath p from part q
  pub some : 0 < length part
  pub unmarked : AreUnmarked cuts part

-- a path without a marked line has a part up to each line on it
front : (p : Procedure) (cuts : List Bool) (from : ℕ) (qs : List ℕ) (to q : ℕ) → IsPath p from qs to → AreUnmarked cuts qs → IsIn qs q → Front p from cuts q
front p cuts from [] to q h u i = absurd i
front p cuts from (r ∷ rs) to q h u (inl e) = record { part = r ∷ []; path = (h.0, e); some = omega arith; unmarked = (u.0, tt) }
front p cuts from (r ∷ rs) to q h u (inr i) =
    let f = front p cuts r rs to q h.1 u.1 i in
    record { part = r ∷ f.part; path = (h.0, f.path); some = omega arith; unmarked = (u.0, f.unmarked) }

-- a line that comes up again closes a cycle without a marked line
never_again : (p : Procedure) (cuts : List Bool) (q : ℕ) (qs : List ℕ) (to : ℕ) → CyclesAreCut p cuts q → IsPath p q qs to → AreUnmarked cuts qs → IsIn qs q → ⊥
never_again p cuts q qs to c h u i =
    let f = front p cuts q qs to q h u i in
    let m = c [] f.part q refl f.path f.some in
    let clash : ◌≡◌ {A = Option Bool} (Some true) (Some false) = sym m.2 ∙ unmarked_in cuts f.part m.0 f.unmarked m.1 in
    absurd (cc)

-- a number that is not in a list differs from each in it
apart-all : (q : ℕ) (qs : List ℕ) → (IsIn qs q → ⊥) → AllByRecursion (λ r. eqb q r ≡ false) qs
apart-all q [] h = tt
apart-all q (r ∷ rs) h = (elim (eqb_tells q r) [ inl same ↦ absurd (h (inl (sym same.1))) | inr other ↦ other.0 ], apart-all q rs (λ i. h (inr i)))

-- the lines of such a path differ
distinct : (p : Procedure) (cuts : List Bool) (pc : ℕ) (qs : List ℕ) (to : ℕ) → CyclesAreCut p cuts pc → IsPath p pc qs to → AreUnmarked cuts qs → IsDistinct eqb qs
unfolding IsDistinct
distinct p cuts pc [] to c h u = tt
distinct p cuts pc (q ∷ qs) to c h u =
    let later = cut-later p cuts pc q h.0 c in
    (apart-all q qs (never_again p cuts q qs to later h.1 u.1), distinct p cuts q qs to later h.1 u.1)

-- a test for a number that passes on a list finds it at the front or behind
any_by : (q r : ℕ) (rs : List ℕ) (c : Bool) → (list_any (eqb q) rs ≡ true → IsIn rs q) → eqb q r ≡ c → (c || list_any (eqb q) rs) ≡ true → IsIn (r ∷ rs) q
any_by q r rs true later e k = elim (eqb_tells q r) [ inl same ↦ inl (sym same.1) | inr other ↦ absurd (let n = other.0 in cc) ]
any_by q r rs false later e k = inr (later k)

-- a number that the test finds is in the list
in_from_any : (qs : List ℕ) (q : ℕ) → list_any (eqb q) qs ≡ true → IsIn qs q
in_from_any [] q h = absurd (cc)
in_from_any (r ∷ rs) q h = any_by q r rs (eqb q r) (in_from_any rs q) refl h

-- so there are at most as many as there are lines
pub few_unmarked : (p : Procedure) (cuts : List Bool) (pc : ℕ) (qs : List ℕ) (to : ℕ) → CyclesAreCut p cuts pc → IsPath p pc qs to → AreUnmarked cuts qs
    → length qs ≤ length cuts
few_unmarked p cuts pc qs to c h u =
    length-le_from_distinct_below qs (length cuts) (distinct p cuts pc qs to c h u)
    (λ q k. slice_get_within cuts q false (unmarked_in cuts qs q u (in_from_any qs q k)))

-- lines that steps have gone on along, none of them marked
pub record IsOnWay (p : Procedure) (cuts : List Bool) (pc : ℕ) (s : State) (count line : ℕ) (now : State) : Type 0 where
  pub trail : List ℕ
  pub counted : length trail ≡ count
  pub path : IsPath p pc trail line
  pub unmarked : AreUnmarked cuts trail
  pub went : (n : ℕ) (end : Stop) (to_s : State) → Reaches p cuts n line now end to_s → Reaches p cuts (count + n) pc s end to_s
  pub here : line < length p.lines
  pub in_range : IsInRange p.places now

-- a path and an arc from its end are a path
path-more : (p : Procedure) (pc q r : ℕ) (qs : List ℕ) → IsPath p pc qs q → HasArc p q r → IsPath p pc (qs ++ r ∷ []) r
path-more p pc q r [] h a = (subst (λ x. HasArc p x r) (sym h) a, refl)
path-more p pc q r (x ∷ xs) h a = (h.0, path-more p x q r xs h.1 a)

-- unmarked lines and one more are unmarked
unmarked-more : (cuts : List Bool) (qs : List ℕ) (r : ℕ) → AreUnmarked cuts qs → slice_get cuts r ≡ Some false → AreUnmarked cuts (qs ++ r ∷ [])
unmarked-more cuts [] r u h = (h, tt)
unmarked-more cuts (q ∷ qs) r u h = (u.0, unmarked-more cuts qs r u.1 h)

-- no step so far
pub starts : (p : Procedure) (cuts : List Bool) (pc : ℕ) (s : State) → pc < length p.lines → IsInRange p.places s → IsOnWay p cuts pc s 0 pc s
starts p cuts pc s h r = record { trail = []; counted = refl; path = refl; unmarked = tt; went = λ n end to_s k. subst (λ m. Reaches p cuts m pc s end to_s) (omega arith) k; here = h; in_range = r }

-- one step more, to an unmarked line
pub goes_on : (p : Procedure) (cuts : List Bool) (pc : ℕ) (s : State) (count line : ℕ) (now : State) (q : ℕ) → IsChecked p → IsOnWay p cuts pc s count line now
    → (step p line now).next ≡ At q → slice_get cuts q ≡ Some false → IsOnWay p cuts pc s (count + 1) q (step p line now).state
goes_on p cuts pc s count line now q c w h f =
    let k = step-kept p line now c w.in_range in
    record {
      trail = w.trail ++ q ∷ [];
      counted = omega (arith, length-append w.trail (q ∷ []), w.counted);
      path = path-more p pc line q w.trail w.path (k.along q h);
      unmarked = unmarked-more cuts w.trail q w.unmarked f;
      went = λ n end to_s r.
          subst (λ m. Reaches p cuts m pc s end to_s) (omega arith)
          (w.went (suc n) end to_s (q, subst (λ x. GoesOnAt cuts x q) (sym h) (refl, f), r));
      here = k.inside q h;
      in_range = k.in_range;
    }

-- the last step
pub ends_at : (p : Procedure) (cuts : List Bool) (pc : ℕ) (s : State) (count line : ℕ) (now : State) (end : Stop) → IsOnWay p cuts pc s count line now
    → EndsAt cuts (step p line now).next end → Reaches p cuts count pc s end (step p line now).state
ends_at p cuts pc s count line now end w h = subst (λ m. Reaches p cuts m pc s end (step p line now).state) (omega arith) (w.went 0 end _ (h, refl))

-- the steps so far are at most as many as there are lines
pub few_steps : (p : Procedure) (cuts : List Bool) (pc : ℕ) (s : State) (count line : ℕ) (now : State) → CyclesAreCut p cuts pc → IsOnWay p cuts pc s count line now
    → count ≤ length cuts
few_steps p cuts pc s count line now c w = omega (arith, w.counted, few_unmarked p cuts pc w.trail line c w.path w.unmarked)

-- the last step halts
pub halts_here : (p : Procedure) (cuts : List Bool) (pc : ℕ) (s : State) (count line : ℕ) (now : State) (h : Halt) (to_s : State) → IsOnWay p cuts pc s count line now
    → next.Halted h ≡ (step p line now).next → to_s ≡ (step p line now).state → Reaches p cuts count pc s (stop.Halted h) to_s
halts_here p cuts pc s count line now h to_s w e f =
    subst (λ (t : State). Reaches p cuts count pc s (stop.Halted h) t) (sym f)
    (ends_at p cuts pc s count line now (stop.Halted h) w (subst (λ (x : Next). EndsAt cuts x (stop.Halted h)) e refl))

-- the last step comes to a marked line
pub marked_here : (p : Procedure) (cuts : List Bool) (pc : ℕ) (s : State) (count line : ℕ) (now : State) (q : ℕ) (to_s : State) → IsOnWay p cuts pc s count line now
    → next.At q ≡ (step p line now).next → to_s ≡ (step p line now).state → slice_get cuts q ≡ Some true → Reaches p cuts count pc s (stop.Head q) to_s
marked_here p cuts pc s count line now q to_s w e f m =
    subst (λ (t : State). Reaches p cuts count pc s (stop.Head q) t) (sym f)
    (ends_at p cuts pc s count line now (stop.Head q) w (subst (λ (x : Next). EndsAt cuts x (stop.Head q)) e (m, refl)))

-- one step more, as the code sees it
pub more_here : (p : Procedure) (cuts : List Bool) (pc : ℕ) (s : State) (count line : ℕ) (now : State) (q : ℕ) (to_s : State) → IsChecked p
    → IsOnWay p cuts pc s count line now → next.At q ≡ (step p line now).next → to_s ≡ (step p line now).state → slice_get cuts q ≡ Some false
    → IsOnWay p cuts pc s (count + 1) q to_s
more_here p cuts pc s count line now q to_s c w e f m =
    subst (λ (t : State). IsOnWay p cuts pc s (count + 1) q t) (sym f) (goes_on p cuts pc s count line now q c w (sym e) m)

-- what is read at an index within a list
pub read : (cuts : List Bool) (q : ℕ) (b : Bool) → q < length cuts → get_or cuts q false ≡ b → slice_get cuts q ≡ Some b
read cuts q b h e = slice_get-get_or cuts q false h ∙ ap Some e
