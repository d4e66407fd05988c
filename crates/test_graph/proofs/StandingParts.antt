-- The decisions of the parts of an expression stand where the nodes of the parts do.
use Rattle.std.proofs.Common.{◌≡◌, sym, subst, ℕ, pos, true, false, List, Result, Ok, Err, IfOk}
use Rattle.il_core.specs.Expression.{Expression, two}
use Rattle.il_core.specs.declared.operator.BinOp.{BinOp}
use Rattle.il_core.specs.declared.memory.NoMemory.{NoMemory}
use Rattle.il_core.specs.Bounds.{bounds_of}
use Rattle.il_core.specs.declared.line.Place.{Place}
use Rattle.il_core.specs.declared.operator.Relation.{Relation}
use Rattle.il_core.specs.declared.operator.Relation.TheVariants.{Ne}
use Rattle.sym_terms.specs.Tree.{Tree, number}
use Rattle.test_graph.specs.Term.{term_of}
use Rattle.test_graph.specs.Decision.{Decision, ask, holds_zero, not_zero, guarded, divided}
use Rattle.test_graph.specs.Standing.{Grows, Stands}
use Rattle.test_graph.specs.declared.graph.TestNode.{TestNode}
use Rattle.test_graph.proofs.Standing.{grows_same, grows_on, stands_kept}

-- a divisor that is tested
pub divisor_asked : (entries : List ℕ) (nodes : List TestNode) (id : ℕ) (places : List Place) (b : Expression) (t : Tree) (x z : Decision)
    → holds_zero (bounds_of places b) ≡ true → t ≡ term_of b → Stands entries nodes id (ask (record { left = t; relation = Ne; right = number (pos 0) }) x z)
    → Stands entries nodes id (not_zero places b x z)
divisor_asked entries nodes id places b t x z h e s = rw h (rw e at s)

-- a divisor that is not
pub divisor_skipped : (entries : List ℕ) (nodes : List TestNode) (id : ℕ) (places : List Place) (b : Expression) (x z : Decision)
    → holds_zero (bounds_of places b) ≡ false → Stands entries nodes id x → Stands entries nodes id (not_zero places b x z)
divisor_skipped entries nodes id places b x z h s = rw h s

-- from node `id` of the new nodes on stand the decisions that f makes of those from `rest` and `fault` on of the old ones
abbrev pub StandsBehind : List TestNode → List TestNode → ℕ → ℕ → (Decision → Decision → Decision) → ℕ → Type 0
StandsBehind old new rest fault f id = (entries : List ℕ) (x z : Decision) → Stands entries old rest x → Stands entries old fault z → Stands entries new id (f x z)

-- the left side's divisors, then the right side's, then the operator
pub two_stand : (places : List Place) (o : BinOp) (e a b c : Expression) (n0 n1 n2 n3 : List TestNode) (rest fault guard second : ℕ) (r : Result ℕ NoMemory)
    → e ≡ two o a b → c ≡ b → Grows n0 n1 → Grows n1 n2 → StandsBehind n0 n1 rest fault (guarded places o c) guard
    → StandsBehind n1 n2 guard fault (divided places b) second → IfOk r (StandsBehind n2 n3 second fault (divided places a))
    → IfOk r (StandsBehind n0 n3 rest fault (divided places e))
two_stand places o e a b c n0 n1 n2 n3 rest fault guard second (Ok id) same here g h u v w =
    λ entries x z s t.
    let t1 = stands_kept entries n0 n1 fault z g t in
    let t2 = stands_kept entries n1 n2 fault z h t1 in
    let first : Stands entries n1 guard (guarded places o b x z) = subst (λ (y : Expression). Stands entries n1 guard (guarded places o y x z)) here (u entries x z s t) in
    let last : Stands entries n3 id (divided places (two o a b) x z) =
    w entries (divided places b (guarded places o b x z) z) z (v entries (guarded places o b x z) z first t1) t2 in
    subst (λ (y : Expression). Stands entries n3 id (divided places y x z)) (sym same) last
two_stand places o e a b c n0 n1 n2 n3 rest fault guard second (Err x) same here g h u v w = tt

-- the left side's divisors, then the right side's, then the comparison
pub comparison_stands : (places : List Place) (r : Relation) (a b : Expression) (ta tb : Tree) (n0 n1 n2 n3 : List TestNode) (on off fault test behind : ℕ)
    (o : Result ℕ NoMemory) → ta ≡ term_of a → tb ≡ term_of b → Grows n0 n1 → Grows n1 n2
    → ((entries : List ℕ) (x y : Decision) → Stands entries n0 on x → Stands entries n0 off y → Stands entries n1 test (ask (record { left = ta; relation = r; right = tb }) x y))
    → StandsBehind n1 n2 test fault (divided places b) behind → IfOk o (StandsBehind n2 n3 behind fault (divided places a))
    → IfOk o (λ id. (entries : List ℕ) (x y z : Decision) → Stands entries n0 on x → Stands entries n0 off y → Stands entries n0 fault z
    → Stands entries n3 id (divided places a (divided places b (ask (record { left = term_of a; relation = r; right = term_of b }) x y) z) z))
comparison_stands places r a b ta tb n0 n1 n2 n3 on off fault test behind (Ok id) e f g h u v w =
    λ entries x y z s t k.
    let k1 = stands_kept entries n0 n1 fault z g k in
    let k2 = stands_kept entries n1 n2 fault z h k1 in
    let asked : Stands entries n1 test (ask (record { left = term_of a; relation = r; right = term_of b }) x y) = rw (e, f) at (u entries x y s t) in
    let second = v entries (ask (record { left = term_of a; relation = r; right = term_of b }) x y) z asked k1 in
    w entries (divided places b (ask (record { left = term_of a; relation = r; right = term_of b }) x y) z) z second k2
comparison_stands places r a b ta tb n0 n1 n2 n3 on off fault test behind (Err x) e f g h u v w = tt

pub ruleset lowering = (divisor_asked, divisor_skipped, grows_same, grows_on, stands_kept)
