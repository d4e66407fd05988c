-- The lines that give a callee's OLD copies the values of their variables run to their end.
use Rattle.std.proofs.Common.{◌≡◌, refl, ap, ◌∙◌, subst, ℕ, zero, suc, ◌+◌, ◌<◌, inl, pos, Option, Some, None, List, [], ◌∷◌, length, slice_get, slice_set, arith}
use Rattle.std.proofs.lemmas.List.{get_or-set_same, get_or-set_other}
use Rattle.std.proofs.lemmas.Option.{same_Some, slice_get_within}
use Rattle.il_core.specs.Checked.{HasRange}
use Rattle.il_core.specs.Evaluation.{State, value_at}
use Rattle.il_core.specs.Expression.{Expression, variable}
use Rattle.il_core.specs.Machine.{goes, step}
use Rattle.il_core.specs.Procedure.{assign}
use Rattle.il_core.specs.Run.{Steps, IsInRange}
use Rattle.il_core.specs.declared.line.Place.{Place}
use Rattle.il_called.specs.Expansion.{procedure_in, renumbered, read_as, read_at, copied}
use Rattle.il_runs.specs.Moved.{IsAmong}
use Rattle.il_runs.proofs.Blocks.{Sit, sit_first, sit_rest}
use Rattle.il_runs.proofs.Chain.{World, wide_of}
use Rattle.il_runs.proofs.Effects.{SameOutside, same_itself, same_then, same_wider, same_set}
use Rattle.il_runs.proofs.Enter.{assign_stands}
use Rattle.il_runs.proofs.Gifts.{copy_step}
use Rattle.il_runs.proofs.Seat.{Seat, expansion_at, place_in, line_in, IsSeat}
use Rattle.il_runs.proofs.Walk.{step_is, no_steps, step_more, step_in_range}

-- a variable of the callee and its copy
pub record IsCopied (w : World) (seat : Seat) (places : List Place) (base k n : ℕ) : Type 0 where
  pub place : Place
  pub there : slice_get places n ≡ Some place
  pub range : HasRange place
  pub from : IsAmong (wide_of w).places (place_in seat (base + n)) place
  pub to : IsAmong (wide_of w).places (place_in seat k) place

pub record Copying (w : World) (seat : Seat) (base k l : ℕ) (ns : List ℕ) (t : State) : Type 0 where
  pub state : State
  pub steps : Steps (procedure_in (wide_of w)) (length ns) l t (l + length ns) state
  pub same : SameOutside (place_in seat k) (place_in seat (k + length ns)) t state
  pub given : (j n q : ℕ) → slice_get ns j ≡ Some n → q ≡ place_in seat (k + j) → value_at state q ≡ value_at t (place_in seat (base + n))

pub copied_run : (w : World) (seat : Seat) (places : List Place) (base : ℕ) → IsSeat w.text.procs (wide_of w) seat → (ns : List ℕ) (lx k : ℕ) (t : State)
    → Sit (expansion_at seat).lines lx (copied places base k ns) → ((j n : ℕ) → slice_get ns j ≡ Some n → IsCopied w seat places base (k + j) n)
    → ((j n : ℕ) → slice_get ns j ≡ Some n → base + n < k) → IsInRange (wide_of w).places t → Copying w seat base k (line_in seat lx) ns t
copied_run w seat places base is [] lx k t sits each below in_range = record {
  state = t;
  steps = no_steps (procedure_in (wide_of w)) (line_in seat lx) (line_in seat lx + 0) t (omega arith);
  same = same_itself _ _ t;
  given = λ j n q e f. grind arith;
}
copied_run w seat places base is (n ∷ ns) lx k t sits each below in_range = made
    (copied_run w seat places base is ns (lx + 1) (suc k) next (sit_rest _ _ _ _ sits)
    (λ j m e. subst (λ x. IsCopied w seat places base x m) (let f : k + suc j ≡ suc k + j = omega arith in f) (each (suc j) m e))
    (λ j m e. let b = below (suc j) m e in omega arith)
    (step_in_range (procedure_in (wide_of w)) line (line + 1) t next w.known.checked goes_on in_range))
  where
    line : ℕ
    line = line_in seat lx

    from : ℕ
    from = place_in seat (base + n)

    next : State
    next = slice_set t (place_in seat k) (value_at t from)

    here : IsCopied w seat places base k n
    here = subst (λ x. IsCopied w seat places base x n) (let f : k + 0 ≡ k = omega arith in f) (each 0 n refl)

    reads : read_at places n (base + n) ≡ read_as here.place (base + n)
    reads = ap (λ (o : Option Place). elim o [ None ↦ variable (base + n) | Some x ↦ read_as x (base + n) ]) here.there

    goes_on : step (procedure_in (wide_of w)) line t ≡ goes (line + 1) next
    goes_on =
        step_is (wide_of w) line t _ (assign_stands w seat lx k (read_at places n (base + n)) is (sit_first _ _ _ _ sits)
        ∙ ap (λ (e : Expression). Some (assign (place_in seat k) (renumbered (place_in seat) e))) reads)
        ∙ copy_step (wide_of w).places t (place_in seat) line (place_in seat k) (base + n) here.place here.from here.to here.range in_range

    given : (u : State) → SameOutside (place_in seat (suc k)) (place_in seat (suc k + length ns)) next u
        → ((j m q : ℕ) → slice_get ns j ≡ Some m → q ≡ place_in seat (suc k + j) → value_at u q ≡ value_at next (place_in seat (base + m)))
        → (j m q : ℕ) → slice_get (n ∷ ns) j ≡ Some m → q ≡ place_in seat (k + j) → value_at u q ≡ value_at t (place_in seat (base + m))
    given u same rest zero m q e f =
        let at : n ≡ m = same_Some _ _ e in
        let to : q ≡ place_in seat k = omega arith in
        let among = slice_get_within (wide_of w).places (place_in seat k) here.to.other here.to.there in
        let size = in_range.size in
        ap (value_at u) to ∙ same.same (place_in seat k) (inl (omega arith)) ∙ get_or-set_same t (place_in seat k) (value_at t from) (pos 0) (omega arith)
        ∙ ap (λ x. value_at t (place_in seat (base + x))) at
    given u same rest (suc j) m q e f =
        let b = below (suc j) m e in
        rest j m q e (omega arith) ∙ get_or-set_other t (place_in seat k) (place_in seat (base + m)) (value_at t from) (pos 0) (λ h. absurd (omega arith))

    made : Copying w seat base (suc k) (line_in seat (lx + 1)) ns next → Copying w seat base k line (n ∷ ns) t
    made r = record {
      state = r.state;
      steps = step_more (procedure_in (wide_of w)) (length ns) line t next r.state goes_on
          (subst (λ m. Steps (procedure_in (wide_of w)) (length ns) m next (m + length ns) r.state) (let f : line_in seat (lx + 1) ≡ line + 1 = omega arith in f) r.steps);
      same = same_then _ _ _ _ _ (same_set (place_in seat k) (place_in seat (k + suc (length ns))) t (place_in seat k) (value_at t from) (omega arith) (omega arith))
          (same_wider _ _ _ _ _ _ (omega arith) (omega arith) r.same);
      given = λ j m q e f. given r.state r.same r.given j m q e f;
    }
