-- A step along a path, and what is left of the path behind it.
use Rattle.std.proofs.Common.{◌≡◌, sym, ap, ◌∙◌, subst, ℕ, zero, suc, ◌+◌, ◌-◌, ◌<◌, Bool, List, [], ◌++◌, append-nil, length, take, drop, take_all, arith}
use Rattle.std.specs.Prelude.{◌↔◌}
use Rattle.std.proofs.Math.Seq.{drop-append_seam}
use Rattle.std.proofs.lemmas.List.{length-append}
use Rattle.il_core.specs.Evaluation.{State}
use Rattle.il_core.specs.Machine.{step}
use Rattle.il_core.specs.Procedure.{Procedure}
use Rattle.il_core.specs.declared.line.Halt.{Halt}
use Rattle.il_core.specs.declared.line.Next.TheVariants as next
use Rattle.test_graph.specs.Way.{decisions}
use Rattle.test_graph.specs.Along.{IsTaken}
use Rattle.test_graph.specs.declared.taken.Taken.{Taken}
use Rattle.compliance.specs.Verdict.{TakesDecisions}
use Rattle.compliance.proofs.TakenBack.{cancel}

-- fewer steps than there is room for take these decisions
abbrev pub TakesWithin : Procedure → ℕ → ℕ → State → List Bool → Halt → Type 0
TakesWithin p room pc s path h = (n : ℕ) × (n < room) × TakesDecisions p n pc s path h

-- what is behind the front of a list
rest_is : (path front rest : List Bool) (used : ℕ) → path ≡ front ++ rest → used ≡ length front → take (length path - used) (drop used path) ≡ rest
rest_is path front rest used e k = ap (take (length path - used)) dropped ∙ take_all (length path - used) rest (omega (arith, size, k))
  where
    dropped : drop used path ≡ rest
    dropped = ap (λ n. drop n path) k ∙ ap (drop (length front)) e ∙ drop-append_seam front rest

    size : length path ≡ length front + length rest
    size = ap length e ∙ length-append front rest

-- a step that is taken to a line leaves the rest of the path to the steps from there
pub takes_on : (p : Procedure) (room pc : ℕ) (s : State) (path : List Bool) (taken : Taken) (line : ℕ) (to_s : State) (h : Halt) → (room ≡ 0 → ⊥) → IsTaken p pc s path taken to_s
    → taken.next ≡ next.At line → TakesWithin p (room - 1) line to_s (take (length path - taken.used) (drop taken.used path)) h ↔ TakesWithin p room pc s path h
takes_on p room pc s path taken line to_s h some k at = (there, back)
  where
    left : take (length path - taken.used) (drop taken.used path) ≡ k.begins.0
    left = rest_is path (decisions p pc s) k.begins.0 taken.used k.begins.1 k.used

    to : (step p pc s).next ≡ next.At line
    to = sym k.next ∙ at

    there : TakesWithin p (room - 1) line to_s (take (length path - taken.used) (drop taken.used path)) h → TakesWithin p room pc s path h
    there t =
        let low = t.1 in (
          suc t.0,
          omega (arith, low, some),
          (
            line,
            k.begins.0,
            to,
            k.begins.1,
            subst (λ x. TakesDecisions p t.0 line (step p pc s).state x h) left
                (subst (λ x. TakesDecisions p t.0 line x (take (length path - taken.used) (drop taken.used path)) h) k.state t.2),
          ),
        )

    back_by : (n : ℕ) → n < room → TakesDecisions p n pc s path h → TakesWithin p (room - 1) line to_s (take (length path - taken.used) (drop taken.used path)) h
    back_by zero l t = let x : next.At line ≡ next.Halted h = sym to ∙ t.1 in absurd cc
    back_by (suc n) l t =
        let x : next.At t.0 ≡ next.At line = sym t.2 ∙ to in
        let same : t.0 ≡ line = cc in
        let rest : t.1 ≡ take (length path - taken.used) (drop taken.used path) = cancel (decisions p pc s) t.1 k.begins.0 (sym t.3 ∙ k.begins.1) ∙ sym left in (
          n,
          omega (arith, l),
          subst (λ x. TakesDecisions p n x to_s (take (length path - taken.used) (drop taken.used path)) h) same
              (subst (λ x. TakesDecisions p n t.0 x (take (length path - taken.used) (drop taken.used path)) h) (sym k.state)
              (subst (λ x. TakesDecisions p n t.0 (step p pc s).state x h) rest t.4)),
        )

    back : TakesWithin p room pc s path h → TakesWithin p (room - 1) line to_s (take (length path - taken.used) (drop taken.used path)) h
    back t = back_by t.0 t.1 t.2

-- a step that halts where nothing is left of the path takes it, where it halts as the path does
pub takes_end : (p : Procedure) (room pc : ℕ) (s : State) (path : List Bool) (taken : Taken) (end h : Halt) (to_s : State) → (room ≡ 0 → ⊥) → IsTaken p pc s path taken to_s
    → taken.next ≡ next.Halted end → take (length path - taken.used) (drop taken.used path) ≡ [] → (end ≡ h) ↔ TakesWithin p room pc s path h
takes_end p room pc s path taken end h to_s some k at none = (there, back)
  where
    whole : path ≡ decisions p pc s
    whole =
        k.begins.1 ∙ ap (λ x. decisions p pc s ++ x) (sym (rest_is path (decisions p pc s) k.begins.0 taken.used k.begins.1 k.used) ∙ none)
        ∙ append-nil (decisions p pc s)

    to : (step p pc s).next ≡ next.Halted end
    to = sym k.next ∙ at

    there : end ≡ h → TakesWithin p room pc s path h
    there e = (0, omega (arith, some), (whole, to ∙ ap (λ x. next.Halted x) e))

    back_by : (n : ℕ) → TakesDecisions p n pc s path h → end ≡ h
    back_by zero t = let x : next.Halted end ≡ next.Halted h = sym to ∙ t.1 in cc
    back_by (suc n) t = let x : next.Halted end ≡ next.At t.0 = sym to ∙ t.2 in absurd cc

    back : TakesWithin p room pc s path h → end ≡ h
    back t = back_by t.0 t.2
