-- The decisions of a line stand where its nodes do.
use Rattle.std.proofs.Common.{◌≡◌, subst, ℕ, ◌+◌, ◌<◌, pos, true, false, Option, Some, None, List, slice_get, Result, Ok, Err, IfOk}
use Rattle.std.specs.Prelude.{int_lt}
use Rattle.il_core.specs.Expression.{Expression}
use Rattle.il_core.specs.declared.memory.NoMemory.{NoMemory}
use Rattle.il_core.specs.declared.line.Next.{Next}
use Rattle.il_core.specs.Bounds.{Bounds, bounds_of}
use Rattle.il_core.specs.declared.line.Place.{Place}
use Rattle.il_core.specs.declared.line.Next.TheVariants.{At, Halted}
use Rattle.il_core.specs.declared.line.Halt.{Halt}
use Rattle.il_core.specs.declared.line.Halt.TheVariants.{DivZero, Range}
use Rattle.il_core.specs.declared.operator.Relation.TheVariants.{Le, Ge}
use Rattle.sym_terms.specs.Tree.{Tree, number}
use Rattle.test_graph.specs.Decision.{Decision, ask, done, halts, sets, at_least, at_most, ranged, whole_given, bit_given, flag_given, given_to, divided, decided_on}
use Rattle.test_graph.specs.Term.{term_of}
use Rattle.test_graph.specs.Standing.{Grows, Stands, AreOwn}
use Rattle.test_graph.specs.declared.graph.TestNode.{TestNode}
use Rattle.test_graph.proofs.Standing.{grows_same, grows_on, stands_kept}

-- at the node of its own number stands a line
pub line_stands : (entries : List ℕ) (nodes : List TestNode) (q : ℕ) → slice_get entries q ≡ Some q → Stands entries nodes q (done None (At q))
line_stands entries nodes q h = record { unfolds = h }

pub least_asked : (entries : List ℕ) (nodes : List TestNode) (id : ℕ) (place : Place) (b : Bounds) (t u : Tree) (x z : Decision)
    → int_lt b.low place.least ≡ true → t ≡ u → Stands entries nodes id (ask (record { left = t; relation = Ge; right = number place.least }) x z)
    → Stands entries nodes id (at_least place b u x z)
least_asked entries nodes id place b t u x z h e s = rw h (rw e at s)

pub least_skipped : (entries : List ℕ) (nodes : List TestNode) (id : ℕ) (place : Place) (b : Bounds) (u : Tree) (x z : Decision)
    → int_lt b.low place.least ≡ false → Stands entries nodes id x → Stands entries nodes id (at_least place b u x z)
least_skipped entries nodes id place b u x z h s = rw h s

pub greatest_asked : (entries : List ℕ) (nodes : List TestNode) (id : ℕ) (place : Place) (b : Bounds) (t u : Tree) (x z : Decision)
    → int_lt place.greatest b.high ≡ true → t ≡ u → Stands entries nodes id (ask (record { left = t; relation = Le; right = number place.greatest }) x z)
    → Stands entries nodes id (at_most place b u x z)
greatest_asked entries nodes id place b t u x z h e s = rw h (rw e at s)

pub greatest_skipped : (entries : List ℕ) (nodes : List TestNode) (id : ℕ) (place : Place) (b : Bounds) (u : Tree) (x z : Decision)
    → int_lt place.greatest b.high ≡ false → Stands entries nodes id x → Stands entries nodes id (at_most place b u x z)
greatest_skipped entries nodes id place b u x z h s = rw h s

-- where the node of each line has the line's number, these decisions stand from a node on
abbrev pub StandsAlone : ℕ → List TestNode → Decision → ℕ → Type 0
StandsAlone next nodes d id = (entries : List ℕ) → slice_get entries next ≡ Some next → Stands entries nodes id d

pub set_stands : (old new : List TestNode) (pc p : ℕ) (t : Tree) (o : Result ℕ NoMemory)
    → IfOk o (λ id. (entries : List ℕ) (next : Next) → Stands entries old (pc + 1) (done None next)
    → Stands entries new id (done (Some (record { place = p; term = t })) next))
    → IfOk o (StandsAlone (pc + 1) new (sets pc p t))
set_stands old new pc p t (Ok id) h = λ entries own. h entries (At (pc + 1)) (line_stands entries old (pc + 1) own)
set_stands old new pc p t (Err e) h = tt

-- what two nodes make of the decisions that stand from them on
abbrev pub Behind : List TestNode → List TestNode → ℕ → ℕ → (Decision → Decision → Decision) → ℕ → Type 0
Behind old new a b f id = (entries : List ℕ) (x z : Decision) → Stands entries old a x → Stands entries old b z → Stands entries new id (f x z)

pub ranged_stands : (pc p : ℕ) (place : Place) (b : Bounds) (t u : Tree) (n1 n2 n3 n4 : List TestNode) (fault set high : ℕ) (o : Result ℕ NoMemory)
    → place.wrap ≡ false → t ≡ u → Grows n1 n2 → Grows n2 n3 → ((entries : List ℕ) → Stands entries n1 fault (halts (Range pc)))
    → StandsAlone (pc + 1) n2 (sets pc p t) set → Behind n2 n3 set fault (at_most place b u) high → IfOk o (Behind n3 n4 high fault (at_least place b u))
    → IfOk o (StandsAlone (pc + 1) n4 (ranged pc p place b u))
ranged_stands pc p place b t u n1 n2 n3 n4 fault set high (Ok id) w e g h stop s m l =
    λ entries own.
    let f2 = stands_kept entries n1 n2 fault (halts (Range pc)) g (stop entries) in
    let f3 = stands_kept entries n2 n3 fault (halts (Range pc)) h f2 in
    let a : Stands entries n2 set (sets pc p u) = rw e at (s entries own) in
    let top : Stands entries n3 high (at_most place b u (sets pc p u) (halts (Range pc))) = m entries (sets pc p u) (halts (Range pc)) a f2 in
    rw w (l entries (at_most place b u (sets pc p u) (halts (Range pc))) (halts (Range pc)) top f3)
ranged_stands pc p place b t u n1 n2 n3 n4 fault set high (Err x) w e g h stop s m l = tt

pub whole_stands : (places : List Place) (pc p : ℕ) (place : Place) (b : Bounds) (x : Expression) (n1 n2 n3 : List TestNode) (rest fault : ℕ) (o : Result ℕ NoMemory)
    → b ≡ bounds_of places x → Grows n1 n2 → StandsAlone (pc + 1) n1 (ranged pc p place b (term_of x)) rest
    → ((entries : List ℕ) → Stands entries n2 fault (halts (DivZero pc))) → IfOk o (Behind n2 n3 rest fault (divided places x))
    → IfOk o (StandsAlone (pc + 1) n3 (whole_given places pc p place x))
whole_stands places pc p place b x n1 n2 n3 rest fault (Ok id) e g r stop d =
    λ entries own.
    let a = stands_kept entries n1 n2 rest (ranged pc p place b (term_of x)) g (r entries own) in
    subst (λ (c : Bounds). Stands entries n3 id (divided places x (ranged pc p place c (term_of x)) (halts (DivZero pc)))) e
    (d entries (ranged pc p place b (term_of x)) (halts (DivZero pc)) a (stop entries))
whole_stands places pc p place b x n1 n2 n3 rest fault (Err y) e g r stop d = tt

-- what three nodes make of the decisions that stand from them on
abbrev pub BehindThree : List TestNode → List TestNode → ℕ → ℕ → ℕ → (Decision → Decision → Decision → Decision) → ℕ → Type 0
BehindThree old new a b c f id = (entries : List ℕ) (x y z : Decision) → Stands entries old a x → Stands entries old b y → Stands entries old c z → Stands entries new id (f x y z)

pub bit_stands : (places : List Place) (pc p : ℕ) (x : Expression) (n1 n2 n3 n4 : List TestNode) (on off fault : ℕ) (o : Result ℕ NoMemory) → Grows n1 n2 → Grows n2 n3
    → StandsAlone (pc + 1) n1 (sets pc p (number (pos 1))) on → StandsAlone (pc + 1) n2 (sets pc p (number (pos 0))) off
    → ((entries : List ℕ) → Stands entries n3 fault (halts (DivZero pc))) → IfOk o (BehindThree n3 n4 on off fault (decided_on places x))
    → IfOk o (StandsAlone (pc + 1) n4 (bit_given places pc p x))
bit_stands places pc p x n1 n2 n3 n4 on off fault (Ok id) g h a b stop d =
    λ entries own.
    let one = stands_kept entries n2 n3 on _ h (stands_kept entries n1 n2 on (sets pc p (number (pos 1))) g (a entries own)) in
    let none = stands_kept entries n2 n3 off (sets pc p (number (pos 0))) h (b entries own) in
    d entries (sets pc p (number (pos 1))) (sets pc p (number (pos 0))) (halts (DivZero pc)) one none (stop entries)
bit_stands places pc p x n1 n2 n3 n4 on off fault (Err y) g h a b stop d = tt

pub given_flag : (entries : List ℕ) (nodes : List TestNode) (id : ℕ) (places : List Place) (pc p : ℕ) (x : Expression) (o : Option Place) (place : Place)
    → o ≡ Some place → place.flag ≡ true → Stands entries nodes id (flag_given places pc p x) → Stands entries nodes id (given_to places pc p x o)
given_flag entries nodes id places pc p x o place e f s = rw e (rw f s)

pub given_whole : (entries : List ℕ) (nodes : List TestNode) (id : ℕ) (places : List Place) (pc p : ℕ) (x : Expression) (o : Option Place) (place : Place)
    → o ≡ Some place → place.flag ≡ false → Stands entries nodes id (whole_given places pc p place x) → Stands entries nodes id (given_to places pc p x o)
given_whole entries nodes id places pc p x o place e f s = rw e (rw f s)

-- an assignment to a place that is not there
pub missing_stands : (nodes : List TestNode) (places : List Place) (pc p : ℕ) (x : Expression) (m : Option Place) (o : Result ℕ NoMemory) → m ≡ None
    → IfOk o (λ id. (entries : List ℕ) → Stands entries nodes id (halts (Range pc))) → IfOk o (StandsAlone (pc + 1) nodes (given_to places pc p x m))
missing_stands nodes places pc p x m (Ok id) e h = λ entries own. rw e (h entries)
missing_stands nodes places pc p x m (Err y) e h = tt

-- a halt as the next
pub halt_stands : (nodes : List TestNode) (count : ℕ) (next : Next) (halt : Halt) (o : Result ℕ NoMemory) → next ≡ Halted halt
    → IfOk o (λ id. (entries : List ℕ) → Stands entries nodes id (halts halt))
    → IfOk o (λ id. (entries : List ℕ) → AreOwn count entries → Stands entries nodes id (done None next))
halt_stands nodes count next halt (Ok id) e h = λ entries own. rw e (h entries)
halt_stands nodes count next halt (Err y) e h = tt

-- the decisions of a condition between two ends
pub ends_stand : (places : List Place) (count pc : ℕ) (x : Expression) (met unmet : Next) (n1 n2 n3 n4 : List TestNode) (on off fault : ℕ) (o : Result ℕ NoMemory)
    → Grows n1 n2 → Grows n2 n3 → ((entries : List ℕ) → AreOwn count entries → Stands entries n1 on (done None met))
    → ((entries : List ℕ) → AreOwn count entries → Stands entries n2 off (done None unmet)) → ((entries : List ℕ) → Stands entries n3 fault (halts (DivZero pc)))
    → IfOk o (BehindThree n3 n4 on off fault (decided_on places x))
    → IfOk o (λ id. (entries : List ℕ) → AreOwn count entries → Stands entries n4 id (decided_on places x (done None met) (done None unmet) (halts (DivZero pc))))
ends_stand places count pc x met unmet n1 n2 n3 n4 on off fault (Ok id) g h a b stop d =
    λ entries own.
    let one = stands_kept entries n2 n3 on (done None met) h (stands_kept entries n1 n2 on (done None met) g (a entries own)) in
    let none = stands_kept entries n2 n3 off (done None unmet) h (b entries own) in
    d entries (done None met) (done None unmet) (halts (DivZero pc)) one none (stop entries)
ends_stand places count pc x met unmet n1 n2 n3 n4 on off fault (Err y) g h a b stop d = tt

-- an assignment at a line of a procedure of which it is not the last
pub own_stands : (count pc : ℕ) (nodes : List TestNode) (d : Decision) (o : Result ℕ NoMemory) → pc + 1 < count → IfOk o (StandsAlone (pc + 1) nodes d)
    → IfOk o (λ id. (entries : List ℕ) → AreOwn count entries → Stands entries nodes id d)
own_stands count pc nodes d (Ok id) h k = λ entries own. k entries (own.each (pc + 1) h)
own_stands count pc nodes d (Err e) h k = tt

pub ruleset assigning = (line_stands, least_asked, least_skipped, greatest_asked, greatest_skipped, given_flag, given_whole, grows_same, grows_on, stands_kept)
