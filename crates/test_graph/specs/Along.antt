-- One step along given decisions: they begin with those that the line takes.
use Rattle.std.specs.Prelude.{◌≡◌, ℕ, Bool, List, ◌++◌, length}
use Rattle.il_core.specs.Evaluation.{State}
use Rattle.il_core.specs.Machine.{step}
use Rattle.il_core.specs.Procedure.{Procedure}
use Rattle.test_graph.specs.Way.{decisions}
use Rattle.test_graph.specs.declared.taken.Taken.{Taken}

abbrev pub BeginsWith : List Bool → List Bool → Type 0
BeginsWith path front = (rest : List Bool) × (path ≡ front ++ rest)

-- the step of line pc, whose decisions begin the path; their number is told
pub record IsTaken (p : Procedure) (pc : ℕ) (s : State) (path : List Bool) (taken : Taken) (to_s : State) : Type 0 where
  pub begins : BeginsWith path (decisions p pc s)
  pub used : taken.used ≡ length (decisions p pc s)
  pub next : taken.next ≡ (step p pc s).next
  pub state : to_s ≡ (step p pc s).state

-- the decisions of line pc do not begin the path, and the state is as before
pub record IsNotTaken (p : Procedure) (pc : ℕ) (s : State) (path : List Bool) (to_s : State) : Type 0 where
  pub begins_not : BeginsWith path (decisions p pc s) → ⊥
  pub same : to_s ≡ s
