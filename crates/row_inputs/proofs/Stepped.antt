-- A step along a path, and what is left of the path behind it.
use Rattle.std.proofs.Common.{◌≡◌, refl, sym, ap, ◌∙◌, subst, ℕ, zero, suc, ◌+◌, ◌-◌, ◌<◌, Bool, true, false, Option, Some, None, List, [], ◌∷◌, ◌++◌, append-nil, length, take, drop, take_all, arith}
use Rattle.std.specs.Prelude.{◌↔◌}
use Rattle.std.proofs.Math.Seq.{drop-append_seam}
use Rattle.std.proofs.lemmas.List.{length-append}
use Rattle.std.proofs.lemmas.Option.{same_Some}
use Rattle.il_core.specs.Evaluation.{State}
use Rattle.il_core.specs.Machine.{step}
use Rattle.il_core.specs.Procedure.{Procedure}
use Rattle.il_core.specs.declared.line.Next.{Next}
use Rattle.il_core.specs.declared.line.Next.TheVariants as next
use Rattle.il_core.specs.declared.line.Stop.{Stop}
use Rattle.il_core.specs.declared.line.Stop.TheVariants as stop
use Rattle.control_flow.specs.declared.control.LoopInfo.{LoopInfo}
use Rattle.test_graph.specs.Way.{decisions}
use Rattle.test_graph.specs.Along.{IsTaken}
use Rattle.test_graph.specs.declared.taken.Taken.{Taken}
use Rattle.region_paths.specs.Region.{is_head}
use Rattle.row_inputs.specs.Input.{stop_at, TakesDecisions}

tail_same : (a : Bool) (xs ys : List Bool) → (a ∷ xs) ≡ (a ∷ ys) → xs ≡ ys
tail_same a xs ys e = cc

pub cancel : (a x y : List Bool) → a ++ x ≡ a ++ y → x ≡ y
cancel [] x y e = e
cancel (b ∷ a) x y e = cancel a x y (tail_same b (a ++ x) (a ++ y) e)

-- fewer steps than there is room for take these decisions
abbrev pub TakesWithin : Procedure → List LoopInfo → ℕ → ℕ → State → List Bool → Stop → Type 0
TakesWithin p loops room pc s path end = (n : ℕ) × (n < room) × TakesDecisions p loops n pc s path end

-- a line that is no head is no stop
pub no_stop : (loops : List LoopInfo) (q : ℕ) → is_head loops q ≡ false → stop_at loops (next.At q) ≡ None
no_stop loops q e = rw e refl

-- a head is a stop
pub head_stop : (loops : List LoopInfo) (q : ℕ) → is_head loops q ≡ true → stop_at loops (next.At q) ≡ Some (stop.Head q)
head_stop loops q e = rw e refl

-- what is behind the front of a list
rest_is : (path front rest : List Bool) (used : ℕ) → path ≡ front ++ rest → used ≡ length front → take (length path - used) (drop used path) ≡ rest
rest_is path front rest used e k = ap (take (length path - used)) dropped ∙ take_all (length path - used) rest (omega (arith, size, k))
  where
    dropped : drop used path ≡ rest
    dropped = ap (λ n. drop n path) k ∙ ap (drop (length front)) e ∙ drop-append_seam front rest

    size : length path ≡ length front + length rest
    size = ap length e ∙ length-append front rest

-- a step that is taken to a line which is no head leaves the rest of the path to the steps from there
pub takes_on : (p : Procedure) (loops : List LoopInfo) (room pc : ℕ) (s : State) (path : List Bool) (taken : Taken) (line : ℕ) (to_s : State) (end : Stop) → (room ≡ 0 → ⊥)
    → IsTaken p pc s path taken to_s → taken.next ≡ next.At line → is_head loops line ≡ false
    → TakesWithin p loops (room - 1) line to_s (take (length path - taken.used) (drop taken.used path)) end ↔ TakesWithin p loops room pc s path end
takes_on p loops room pc s path taken line to_s end some k at plain = (there, back)
  where
    left : take (length path - taken.used) (drop taken.used path) ≡ k.begins.0
    left = rest_is path (decisions p pc s) k.begins.0 taken.used k.begins.1 k.used

    to : (step p pc s).next ≡ next.At line
    to = sym k.next ∙ at

    there : TakesWithin p loops (room - 1) line to_s (take (length path - taken.used) (drop taken.used path)) end → TakesWithin p loops room pc s path end
    there t =
        let low = t.1 in (
          suc t.0,
          omega (arith, low, some),
          (
            line,
            k.begins.0,
            to,
            plain,
            k.begins.1,
            subst (λ x. TakesDecisions p loops t.0 line (step p pc s).state x end) left
                (subst (λ x. TakesDecisions p loops t.0 line x (take (length path - taken.used) (drop taken.used path)) end) k.state t.2),
          ),
        )

    back_by : (n : ℕ) → n < room → TakesDecisions p loops n pc s path end
        → TakesWithin p loops (room - 1) line to_s (take (length path - taken.used) (drop taken.used path)) end
    back_by zero l t = let x : None ≡ Some end = sym (no_stop loops line plain) ∙ ap (stop_at loops) (sym to) ∙ t.1 in absurd cc
    back_by (suc n) l t =
        let x : next.At t.0 ≡ next.At line = sym t.2 ∙ to in
        let same : t.0 ≡ line = cc in
        let rest : t.1 ≡ take (length path - taken.used) (drop taken.used path) = cancel (decisions p pc s) t.1 k.begins.0 (sym t.4 ∙ k.begins.1) ∙ sym left in (
          n,
          omega (arith, l),
          subst (λ x. TakesDecisions p loops n x to_s (take (length path - taken.used) (drop taken.used path)) end) same
              (subst (λ x. TakesDecisions p loops n t.0 x (take (length path - taken.used) (drop taken.used path)) end) (sym k.state)
              (subst (λ x. TakesDecisions p loops n t.0 (step p pc s).state x end) rest t.5)),
        )

    back : TakesWithin p loops room pc s path end → TakesWithin p loops (room - 1) line to_s (take (length path - taken.used) (drop taken.used path)) end
    back t = back_by t.0 t.1 t.2

-- steps whose first stops take its decisions alone
ended : (p : Procedure) (loops : List LoopInfo) (n pc : ℕ) (s : State) (path : List Bool) (met end : Stop) → stop_at loops (step p pc s).next ≡ Some met
    → TakesDecisions p loops n pc s path end → (path ≡ decisions p pc s) × (met ≡ end)
ended p loops zero pc s path met end e t = (t.0, same_Some met end (sym e ∙ t.1))
ended p loops (suc n) pc s path met end e t =
    let x : None ≡ Some met = sym (no_stop loops t.0 t.3) ∙ ap (stop_at loops) (sym t.2) ∙ e in absurd cc

-- a step that stops where nothing is left of the path takes it, where it stops as the path does
pub takes_end : (p : Procedure) (loops : List LoopInfo) (room pc : ℕ) (s : State) (path : List Bool) (taken : Taken) (met end : Stop) (to_s : State) → (room ≡ 0 → ⊥)
    → IsTaken p pc s path taken to_s → stop_at loops taken.next ≡ Some met → take (length path - taken.used) (drop taken.used path) ≡ []
    → (met ≡ end) ↔ TakesWithin p loops room pc s path end
takes_end p loops room pc s path taken met end to_s some k at none = (there, λ t. (ended p loops t.0 pc s path met end to t.2).1)
  where
    whole : path ≡ decisions p pc s
    whole =
        k.begins.1 ∙ ap (λ x. decisions p pc s ++ x) (sym (rest_is path (decisions p pc s) k.begins.0 taken.used k.begins.1 k.used) ∙ none)
        ∙ append-nil (decisions p pc s)

    to : stop_at loops (step p pc s).next ≡ Some met
    to = ap (stop_at loops) (sym k.next) ∙ at

    there : met ≡ end → TakesWithin p loops room pc s path end
    there e = (0, omega (arith, some), (whole, to ∙ ap Some e))

-- and where something is left of the path it does not
pub takes_too_little : (p : Procedure) (loops : List LoopInfo) (room pc : ℕ) (s : State) (path : List Bool) (taken : Taken) (met end : Stop) (to_s : State)
    → IsTaken p pc s path taken to_s → stop_at loops taken.next ≡ Some met → TakesWithin p loops room pc s path end
    → take (length path - taken.used) (drop taken.used path) ≡ []
takes_too_little p loops room pc s path taken met end to_s k at t =
    let e = ended p loops t.0 pc s path met end (ap (stop_at loops) (sym k.next) ∙ at) t.2 in
    rest_is path (decisions p pc s) [] taken.used (e.0 ∙ sym (append-nil (decisions p pc s))) k.used

-- decisions that do not begin the path do not take it
pub takes_not : (p : Procedure) (loops : List LoopInfo) (n pc : ℕ) (s : State) (path : List Bool) (end : Stop) → TakesDecisions p loops n pc s path end
    → (rest : List Bool) × (path ≡ decisions p pc s ++ rest)
takes_not p loops zero pc s path end t = ([], t.0 ∙ sym (append-nil (decisions p pc s)))
takes_not p loops (suc n) pc s path end t = (t.1, t.4)
