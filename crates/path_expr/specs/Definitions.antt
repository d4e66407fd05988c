-- The definitions of an answer: the steps of a plan that the answer uses, directly or through others, numbered from 1 in the
-- order of the steps; an arc counts from 1 too.
use Rattle.std.specs.Prelude.{◌≡◌, ◌↔◌, ℕ, ◌+◌, ◌-◌, ◌<◌, Bool, if◌then◌else◌, nat_lt, Option, Some, None, List, take, length, slice_get, slice_index}
use Rattle.std.specs.List.{count_by}
use Rattle.flow_graph.specs.Search.{IsMarked}
use Rattle.regular_algebra.specs.Words.{IsStep}
use Rattle.regular_algebra.specs.Run.{Names}
use Rattle.regular_algebra.specs.declared.steps.Step.{Step}
use Rattle.regular_algebra.specs.declared.steps.Step.TheVariants as step
use Rattle.path_expr.specs.declared.report.Ref.{Ref}
use Rattle.path_expr.specs.declared.report.Ref.TheVariants as ref
use Rattle.path_expr.specs.declared.report.Def.{Def}
use Rattle.path_expr.specs.declared.report.Def.TheVariants.{Sum, Product, Star}

-- value u is the answer, or a step of a value that the answer uses names it
pub data IsUsed (n : ℕ) (steps : List Step) (answer : Option ℕ) : ℕ → Type 0 where
  itself : (v : ℕ) → answer ≡ Some v → IsUsed n steps answer v
  a_side : (v u : ℕ) (s : Step) → IsUsed n steps answer v → IsStep n steps v s → Names s u → IsUsed n steps answer u

-- how many of the first k steps are marked
abbrev pub rank : List Bool → ℕ → ℕ
rank used k = count_by (λ b. b) (take k used)

-- for each step how many marked steps stand before it
pub record AreRanks (used : List Bool) (ranks : List ℕ) : Type 0 where
  pub size : length ranks ≡ length used
  pub each : (k : ℕ) → k < length used → slice_index ranks k ≡ rank used k

-- a value as a reference: an arc by its number, a step as the definition behind those of the marked steps before it
abbrev pub ref_of : List ℕ → List ℕ → ℕ → Ref
ref_of live ranks v = if nat_lt v (length live) then ref.Arc (slice_index live v + 1) else ref.Def (slice_index ranks (v - length live) + 1)

-- a step as a definition
abbrev pub def_of : (ℕ → Ref) → Step → Def
def_of r (step.Plus a b) = Sum (r a) (r b)
def_of r (step.Times a b) = Product (r a) (r b)
def_of r (step.Star a) = Star (r a)

abbrev pub whole_of : (ℕ → Ref) → Option ℕ → Ref
whole_of r None = ref.Zero
whole_of r (Some v) = r v

-- the marks are on exactly the steps that the answer uses
pub record MarksUsed (n : ℕ) (steps : List Step) (answer : Option ℕ) (used : List Bool) : Type 0 where
  pub size : length used ≡ length steps
  pub exact : (k : ℕ) → IsMarked used k ↔ ((k < length steps) × IsUsed n steps answer (n + k))

-- the definitions of an answer, where the first values are the arcs with these numbers, counted from 0
pub record AreDefinitions (live : List ℕ) (steps : List Step) (answer : Option ℕ) (defs : List Def) (whole : Ref) : Type 0 where
  pub used : List Bool
  pub marks : MarksUsed (length live) steps answer used
  pub ranks : List ℕ
  pub are_ranks : AreRanks used ranks
  pub size : length defs ≡ rank used (length steps)
  pub each : (k : ℕ) (s : Step) → IsMarked used k → slice_get steps k ≡ Some s → slice_get defs (rank used k) ≡ Some (def_of (ref_of live ranks) s)
  pub whole_is : whole ≡ whole_of (ref_of live ranks) answer
