-- The line graph: the arcs of a line are fixed by its form, whatever its expressions are; a path is a list of lines along arcs.
use Rattle.std.specs.Prelude.{◌≡◌, ◌⊎◌, ℕ, ◌+◌, Option, Some, None, List, [], ◌∷◌, slice_get}
use Rattle.il_core.specs.Procedure.{Procedure, Instruction, pre, assign, if_true, otherwise, end_if, loop, end_loop, exit, exit_when, label, goto, skip, assert, return, end_procedure}

-- the lines that the arcs of line pc enter, the true arc of a test first
abbrev pub heads_of : ℕ → Instruction → List ℕ
heads_of pc (pre e) = (pc + 1) ∷ []
heads_of pc (assign p e) = (pc + 1) ∷ []
heads_of pc (if_true e q) = (pc + 1) ∷ q ∷ []
heads_of pc (otherwise q) = q ∷ []
heads_of pc end_if = (pc + 1) ∷ []
heads_of pc loop = (pc + 1) ∷ []
heads_of pc (end_loop q) = q ∷ []
heads_of pc (exit q) = q ∷ []
heads_of pc (exit_when e q) = q ∷ (pc + 1) ∷ []
heads_of pc label = (pc + 1) ∷ []
heads_of pc (goto q) = q ∷ []
heads_of pc skip = (pc + 1) ∷ []
heads_of pc (assert e) = (pc + 1) ∷ []
heads_of pc (return q) = q ∷ []
heads_of pc (end_procedure e) = []

abbrev pub heads_at : ℕ → Option Instruction → List ℕ
heads_at pc None = []
heads_at pc (Some i) = heads_of pc i

abbrev pub IsIn : {A : Type 0} → List A → A → Type 0
IsIn [] x = ⊥
IsIn (y ∷ ys) x = (y ≡ x) ⊎ IsIn ys x

-- an arc goes from line pc to line q
abbrev pub HasArc : Procedure → ℕ → ℕ → Type 0
HasArc p pc q = IsIn (heads_at pc (slice_get p.lines pc)) q

-- the lines that a path from line pc comes to one after the other, the last of which is line q
abbrev pub IsPath : Procedure → ℕ → List ℕ → ℕ → Type 0
IsPath p pc [] q = pc ≡ q
IsPath p pc (r ∷ rs) q = HasArc p pc r × IsPath p r rs q
