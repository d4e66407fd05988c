-- What a node of the lowered graph tells of the decisions that stand from it on.
use Rattle.std.proofs.Common.{◌≡◌, sym, ap, ◌∙◌, subst, ℕ, ◌<◌, Some, None, length, slice_get}
use Rattle.std.proofs.lemmas.Option.{slice_get_within}
use Rattle.il_core.specs.Procedure.{Procedure}
use Rattle.il_core.specs.declared.line.Next.{Next}
use Rattle.il_core.specs.declared.line.Next.TheVariants as next
use Rattle.il_core.specs.declared.line.Halt.{Halt}
use Rattle.sym_terms.specs.Tree.{Tree, tree_of}
use Rattle.sym_terms.specs.Comparison.{Comparison, comparison_of}
use Rattle.sym_terms.specs.declared.term.Term.{Term}
use Rattle.sym_terms.specs.declared.term.Literal.{Literal}
use Rattle.test_graph.specs.Decision.{Change, Decision, ask, done, decision_at}
use Rattle.test_graph.specs.Lowered.{LeadsTo, Unfolds, IsLowered}
use Rattle.test_graph.specs.declared.graph.TestNode.{TestNode}
use Rattle.test_graph.specs.declared.graph.TestNode.TheVariants.{Test, Assign, AtLine, Stop}
use Rattle.test_graph.specs.declared.graph.TestGraph.{TestGraph}

-- the first node of a line's decisions, as its entry names it
pub first_unfolds : (p : Procedure) (g : TestGraph) (line entry at first : ℕ) → IsLowered p g → line < length p.lines → slice_get g.entries line ≡ Some entry
    → slice_get g.nodes entry ≡ Some (AtLine at first) → Unfolds g.nodes g.entries first (decision_at p line)
first_unfolds p g line entry at first l h e n =
    let k = l.each line h in
    let same_entry : entry ≡ k.entry = (let t = k.there in cc) in
    let there : slice_get g.nodes entry ≡ Some (AtLine line k.first) = ap (slice_get g.nodes) same_entry ∙ k.line in
    let same : first ≡ k.first = cc in
    subst (λ (x : ℕ). Unfolds g.nodes g.entries x (decision_at p line)) (sym same) k.unfolds

-- the entry of a line is there
pub entry_there : (p : Procedure) (g : TestGraph) (line : ℕ) → IsLowered p g → line < length p.lines → (e : ℕ) × (first : ℕ) × (slice_get g.entries line ≡ Some e) × (slice_get g.nodes e ≡ Some (AtLine line first))
entry_there p g line l h = let k = l.each line h in (k.entry, k.first, k.there, k.line)

-- what stands where a node leads to a line
pub leads_line : (p : Procedure) (g : TestGraph) (id q : ℕ) → IsLowered p g → slice_get g.entries q ≡ Some id → (first : ℕ) × (slice_get g.nodes id ≡ Some (AtLine q first))
leads_line p g id q l e =
    let within = slice_get_within g.entries q id e in
    let k = l.each q (subst (λ (n : ℕ). q < n) l.lines within) in
    let same : id ≡ k.entry = (let t = k.there in cc) in
    (k.first, ap (slice_get g.nodes) same ∙ k.line)

-- a test's node stands for a decision
pub record AtTest (g : TestGraph) (literal : Literal) (met unmet : ℕ) (d : Decision) : Type 0 where
  pub on : Decision
  pub off : Decision
  pub same : d ≡ ask (comparison_of literal) on off
  pub met_unfolds : Unfolds g.nodes g.entries met on
  pub unmet_unfolds : Unfolds g.nodes g.entries unmet off

-- no node of a test or an assignment leads to a line or a halt
pub not_led : (p : Procedure) (g : TestGraph) (id : ℕ) (to : Next) (n : TestNode) → IsLowered p g → slice_get g.nodes id ≡ Some n
    → ((q first : ℕ) → n ≡ AtLine q first → ⊥) → ((h : Halt) → n ≡ Stop h → ⊥) → LeadsTo g.nodes g.entries id to → ⊥
not_led p g id (next.At q) n l e a s k = let t = leads_line p g id q l k in a q t.0 (let u = t.1 in cc)
not_led p g id (next.Halted h) n l e a s k = s h (cc)

pub at_test : (p : Procedure) (g : TestGraph) (id : ℕ) (literal : Literal) (met unmet : ℕ) (d : Decision) → IsLowered p g
    → slice_get g.nodes id ≡ Some (Test literal met unmet) → Unfolds g.nodes g.entries id d → AtTest g literal met unmet d
at_test p g id literal met unmet (ask c on off) l e u =
    let n : Some (Test u.0 u.1 u.2) ≡ Some (Test literal met unmet) = sym u.3 ∙ e in
    let same_literal : u.0 ≡ literal = cc in
    let same_met : u.1 ≡ met = cc in
    let same_unmet : u.2 ≡ unmet = cc in
    record {
      on = on;
      off = off;
      same = ap (λ (x : Comparison). ask x on off) (sym u.4 ∙ ap comparison_of same_literal);
      met_unfolds = subst (λ (x : ℕ). Unfolds g.nodes g.entries x on) same_met u.5;
      unmet_unfolds = subst (λ (x : ℕ). Unfolds g.nodes g.entries x off) same_unmet u.6;
    }
at_test p g id literal met unmet (done None to) l e u = absurd (not_led p g id to (Test literal met unmet) l e (λ q first f. absurd (cc)) (λ h f. absurd (cc)) u)
at_test p g id literal met unmet (done (Some c) to) l e u = absurd (let n : Some (Assign c.place u.0 u.1) ≡ Some (Test literal met unmet) = sym u.2 ∙ e in cc)

-- an assignment's node stands for a change, and the node behind it for where that leads
pub record AtAssign (g : TestGraph) (place : ℕ) (term : Term) (then : ℕ) (d : Decision) : Type 0 where
  pub to : Next
  pub same : d ≡ done (Some (record { place = place; term = tree_of term })) to
  pub unfolds : Unfolds g.nodes g.entries then (done None to)

same_change : (c : Change) (place : ℕ) (term : Tree) → c.place ≡ place → c.term ≡ term → c ≡ (let x : Change = record { place = place; term = term } in x)
same_change c place term e f = ap (λ (k : ℕ). let x : Change = record { place = k; term = c.term } in x) e ∙ ap (λ (t : Tree). let x : Change = record { place = place; term = t } in x) f

pub at_assign : (p : Procedure) (g : TestGraph) (id place : ℕ) (term : Term) (then : ℕ) (d : Decision) → IsLowered p g
    → slice_get g.nodes id ≡ Some (Assign place term then) → Unfolds g.nodes g.entries id d → AtAssign g place term then d
at_assign p g id place term then (ask c on off) l e u = absurd (let n : Some (Test u.0 u.1 u.2) ≡ Some (Assign place term then) = sym u.3 ∙ e in cc)
at_assign p g id place term then (done None to) l e u = absurd (not_led p g id to (Assign place term then) l e (λ q first f. absurd (cc)) (λ h f. absurd (cc)) u)
at_assign p g id place term then (done (Some c) to) l e u =
    let n : Some (Assign c.place u.0 u.1) ≡ Some (Assign place term then) = sym u.2 ∙ e in
    let same_place : c.place ≡ place = cc in
    let same_term : u.0 ≡ term = cc in
    let same_then : u.1 ≡ then = cc in
    let tree : c.term ≡ tree_of term = sym u.3 ∙ ap tree_of same_term in
    record {
      to = to;
      same = ap (λ (x : Change). done (Some x) to) (same_change c place (tree_of term) same_place tree);
      unfolds = subst (λ (x : ℕ). LeadsTo g.nodes g.entries x to) same_then u.4;
    }

-- a line's node stands for going to that line
pub at_line : (p : Procedure) (g : TestGraph) (id q first : ℕ) (d : Decision) → IsLowered p g → slice_get g.nodes id ≡ Some (AtLine q first) → Unfolds g.nodes g.entries id d
    → d ≡ done None (next.At q)
at_line p g id q first (ask c on off) l e u = absurd (let n : Some (Test u.0 u.1 u.2) ≡ Some (AtLine q first) = sym u.3 ∙ e in cc)
at_line p g id q first (done None (next.At r)) l e u =
    let t = leads_line p g id r l u in
    let same : r ≡ q = (let k = t.1 in cc) in
    ap (λ (x : ℕ). done None (next.At x)) same
at_line p g id q first (done None (next.Halted h)) l e u = absurd (cc)
at_line p g id q first (done (Some c) to) l e u = absurd (let n : Some (Assign c.place u.0 u.1) ≡ Some (AtLine q first) = sym u.2 ∙ e in cc)

-- a halt's node stands for the halt
pub at_stop : (p : Procedure) (g : TestGraph) (id : ℕ) (h : Halt) (d : Decision) → IsLowered p g → slice_get g.nodes id ≡ Some (Stop h) → Unfolds g.nodes g.entries id d
    → d ≡ done None (next.Halted h)
at_stop p g id h (ask c on off) l e u = absurd (let n : Some (Test u.0 u.1 u.2) ≡ Some (Stop h) = sym u.3 ∙ e in cc)
at_stop p g id h (done None (next.At r)) l e u = absurd (let t = leads_line p g id r l u in let k = t.1 in cc)
at_stop p g id h (done None (next.Halted k)) l e u = let same : k ≡ h = cc in ap (λ (x : Halt). done None (next.Halted x)) same
at_stop p g id h (done (Some c) to) l e u = absurd (let n : Some (Assign c.place u.0 u.1) ≡ Some (Stop h) = sym u.2 ∙ e in cc)

-- a node from which decisions stand is there
pub node_there : (p : Procedure) (g : TestGraph) (id : ℕ) (d : Decision) → IsLowered p g → Unfolds g.nodes g.entries id d → (n : TestNode) × (slice_get g.nodes id ≡ Some n)
node_there p g id (ask c on off) l u = (_, u.3)
node_there p g id (done None (next.At r)) l u = let t = leads_line p g id r l u in (_, t.1)
node_there p g id (done None (next.Halted h)) l u = (_, u)
node_there p g id (done (Some c) to) l u = (_, u.2)
