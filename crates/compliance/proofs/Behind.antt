-- What is left of a path behind the way that it takes through a line, told from the nodes of the line's decisions.
use Rattle.std.proofs.Common.{◌≡◌, refl, sym, ap, ◌∙◌, ℕ, ◌-◌, Bool, true, false, Option, Some, None, List, [], ◌∷◌, length, slice_get, take, drop, arith, take_all}
use Rattle.std.specs.Prelude.{if◌then◌else◌}
use Rattle.il_core.specs.Procedure.{Procedure}
use Rattle.il_core.specs.declared.line.Halt.{Halt}
use Rattle.il_core.specs.declared.line.Next.{Next}
use Rattle.il_core.specs.declared.line.Next.TheVariants as next
use Rattle.sym_terms.specs.declared.term.Term.{Term}
use Rattle.sym_terms.specs.declared.term.Literal.{Literal}
use Rattle.test_graph.specs.Decision.{Change, Decision, done}
use Rattle.test_graph.specs.Lowered.{Unfolds, IsLowered}
use Rattle.test_graph.specs.declared.graph.TestNode.TheVariants.{Test, Assign, AtLine, Stop}
use Rattle.test_graph.specs.declared.graph.TestGraph.{TestGraph}
use Rattle.region_paths.proofs.Nodes.{at_test, at_assign, at_line, at_stop, node_there}
use Rattle.compliance.specs.Behind.{left_behind}

-- a list behind its first element
pub first_of : {X : Type 0} (xs : List X) (x : X) → Some x ≡ slice_get xs 0 → xs ≡ x ∷ take (length xs - 1) (drop 1 xs)
first_of [] x e = absurd (cc)
first_of (y ∷ ys) x e =
    let n : length (y ∷ ys) - 1 ≡ length ys = omega arith in
    let same : y ≡ x = cc in
    rw n (ap (λ k. k ∷ ys) same ∙ ap (λ k. x ∷ k) (sym (take_all (length ys) ys (omega arith))))

-- other decisions, which stand from a node on, leave the same
pub record LeavesAs (g : TestGraph) (id : ℕ) (d : Decision) (path left : List Bool) : Type 0 where
  pub decision : Decision
  pub unfolds : Unfolds g.nodes g.entries id decision
  pub same : left_behind d path ≡ left_behind decision left

pub left_at_test : (p : Procedure) (g : TestGraph) (id : ℕ) (literal : Literal) (met unmet : ℕ) (d : Decision) (b : Bool) (path left : List Bool) → IsLowered p g
    → slice_get g.nodes id ≡ Some (Test literal met unmet) → Unfolds g.nodes g.entries id d → path ≡ b ∷ left → LeavesAs g (if b then met else unmet) d path left
left_at_test p g id literal met unmet d true path left l e u same =
    let t = at_test p g id literal met unmet d l e u in
    record { decision = t.on; unfolds = t.met_unfolds; same = ap (left_behind d) same ∙ ap (λ x. left_behind x (true ∷ left)) t.same }
left_at_test p g id literal met unmet d false path left l e u same =
    let t = at_test p g id literal met unmet d l e u in
    record { decision = t.off; unfolds = t.unmet_unfolds; same = ap (left_behind d) same ∙ ap (λ x. left_behind x (false ∷ left)) t.same }

none_left : (p : Procedure) (g : TestGraph) (id : ℕ) (literal : Literal) (met unmet : ℕ) (d : Decision) (path : List Bool) → IsLowered p g
    → slice_get g.nodes id ≡ Some (Test literal met unmet) → Unfolds g.nodes g.entries id d → path ≡ [] → left_behind d path ≡ None
none_left p g id literal met unmet d path l e u same =
    let t = at_test p g id literal met unmet d l e u in
    ap (left_behind d) same ∙ ap (λ x. left_behind x []) t.same

pub none_at_test : (p : Procedure) (g : TestGraph) (id : ℕ) (literal : Literal) (met unmet : ℕ) (d : Decision) (path : List Bool) → IsLowered p g
    → slice_get g.nodes id ≡ Some (Test literal met unmet) → Unfolds g.nodes g.entries id d → None ≡ slice_get path 0 → left_behind d path ≡ None
none_at_test p g id literal met unmet d [] l e u h = none_left p g id literal met unmet d [] l e u refl
none_at_test p g id literal met unmet d (b ∷ path) l e u h = absurd (cc)

same_end : (change : Option Change) (d : Decision) (to : Next) (path : List Bool) → d ≡ done change to → left_behind d path ≡ left_behind (done None to) path
same_end change d (next.At q) path e = ap (λ x. left_behind x path) e
same_end change d (next.Halted h) path e = ap (λ x. left_behind x path) e

pub left_at_assign : (p : Procedure) (g : TestGraph) (id place : ℕ) (term : Term) (behind : ℕ) (d : Decision) (path : List Bool) → IsLowered p g
    → slice_get g.nodes id ≡ Some (Assign place term behind) → Unfolds g.nodes g.entries id d → LeavesAs g behind d path path
left_at_assign p g id place term behind d path l e u =
    let t = at_assign p g id place term behind d l e u in
    record { decision = done None t.to; unfolds = t.unfolds; same = same_end _ d t.to path t.same }

pub left_at_line : (p : Procedure) (g : TestGraph) (id q first : ℕ) (d : Decision) (path : List Bool) → IsLowered p g → slice_get g.nodes id ≡ Some (AtLine q first)
    → Unfolds g.nodes g.entries id d → left_behind d path ≡ Some path
left_at_line p g id q first d path l e u = ap (λ x. left_behind x path) (at_line p g id q first d l e u)

pub none_at_stop : (p : Procedure) (g : TestGraph) (id : ℕ) (h : Halt) (d : Decision) (path : List Bool) → IsLowered p g → slice_get g.nodes id ≡ Some (Stop h)
    → Unfolds g.nodes g.entries id d → left_behind d path ≡ None
none_at_stop p g id h d path l e u = ap (λ x. left_behind x path) (at_stop p g id h d l e u)

-- no decisions stand from a node that is not there
pub none_nowhere : (p : Procedure) (g : TestGraph) (id : ℕ) (d : Decision) (path : List Bool) → IsLowered p g → None ≡ slice_get g.nodes id
    → Unfolds g.nodes g.entries id d → left_behind d path ≡ None
none_nowhere p g id d path l e u = let t = node_there p g id d l u in let k = t.1 in absurd cc
