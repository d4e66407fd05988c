-- A path of a region is a chain of ways: from the first line to a halt, or to the first loop head met after at least one way. A long path
-- goes on through the leading assertions of the head that it meets.
use Rattle.std.specs.Prelude.{◌≡◌, ℕ, MatchBool, List, [], ◌∷◌}
use Rattle.il_core.specs.Procedure.{Procedure}
use Rattle.il_core.specs.LineGraph.{IsIn}
use Rattle.il_core.specs.declared.line.Next.{Next}
use Rattle.il_core.specs.declared.line.Next.TheVariants as next
use Rattle.il_core.specs.declared.line.Stop.{Stop}
use Rattle.il_core.specs.declared.line.Stop.TheVariants as stop
use Rattle.control_flow.specs.declared.control.LoopInfo.{LoopInfo}
use Rattle.test_graph.specs.Way.{Way, line_paths}
use Rattle.region_paths.specs.Region.{is_head, leading_of}

-- nothing is left of a chain that stops here
abbrev pub StopsAt : Stop → List Way → Stop → Type 0
StopsAt here ws end = (ws ≡ []) × (end ≡ here)

-- a halt ends a chain; at a head and at any other line these hold of what is left
abbrev pub Onward : List LoopInfo → Next → List Way → Stop → (ℕ → Type 0) → (ℕ → Type 0) → Type 0
Onward loops (next.Halted h) ws end at_head at_line = StopsAt (stop.Halted h) ws end
Onward loops (next.At q) ws end at_head at_line = MatchBool (is_head loops q) (at_head q) (at_line q)

-- the ways of line pc and of the lines behind it, one after the other, up to a halt or to the first head, of which `beyond` tells how it goes on there
abbrev pub IsChainTo : Procedure → List LoopInfo → (ℕ → List Way → Stop → Type 0) → ℕ → List Way → Stop → Type 0
IsChainTo p loops beyond pc [] end = ⊥
IsChainTo p loops beyond pc (w ∷ ws) end =
    IsIn (line_paths p pc) w × Onward loops w.next ws end (λ q. beyond q ws end) (λ q. IsChainTo p loops beyond q ws end)

-- a halt ends a chain, and at any line this holds of what is left
abbrev pub Passes : Next → List Way → Stop → Type 0 → Type 0
Passes (next.Halted h) ws end rest = StopsAt (stop.Halted h) ws end
Passes (next.At q) ws end rest = rest

-- the ways of these lines, one after the other, to a halt or past the last of them, where the chain stops at the head
abbrev pub Leads : Procedure → ℕ → List ℕ → List Way → Stop → Type 0
Leads p head [] ws end = StopsAt (stop.Head head) ws end
Leads p head (a ∷ lines) [] end = ⊥
Leads p head (a ∷ lines) (w ∷ ws) end = IsIn (line_paths p a) w × Passes w.next ws end (Leads p head lines ws end)

-- the chain of a path stops at the head that it meets
abbrev pub IsChain : Procedure → List LoopInfo → ℕ → List Way → Stop → Type 0
IsChain p loops pc ws end = IsChainTo p loops (λ q. StopsAt (stop.Head q)) pc ws end

-- the chain of a long path goes on through the head's leading assertions
abbrev pub IsLongChain : Procedure → List LoopInfo → ℕ → List Way → Stop → Type 0
IsLongChain p loops pc ws end = IsChainTo p loops (λ q. Leads p q (leading_of loops q)) pc ws end
