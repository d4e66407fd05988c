-- What holds at the end of each way: a fact of all ends of a line's decisions.
use Rattle.std.proofs.Common.{◌≡◌, refl, ap, subst, ◌∙◌, ℕ, ◌+◌, Bool, true, false, cond, Option, Some, None, List, [], ◌∷◌, ◌++◌, map, slice_get, ◌⊎◌, inl, inr}
use Rattle.std.specs.Prelude.{int_lt}
use Rattle.il_core.specs.Expression as e
use Rattle.il_core.specs.Expression.{Expression}
use Rattle.il_core.specs.Bounds.{Bounds, bounds_of}
use Rattle.il_core.specs.Procedure.{Procedure, Instruction, pre, assign, if_true, otherwise, end_if, loop, end_loop, exit, exit_when, label, goto, skip, assert, return, end_procedure}
use Rattle.il_core.specs.LineGraph.{IsIn, heads_of, heads_at, HasArc}
use Rattle.il_core.specs.declared.line.Place.{Place}
use Rattle.il_core.specs.declared.line.Next.TheVariants.{At, Halted}
use Rattle.il_core.specs.declared.line.Halt.TheVariants.{End, Outside, FailedAssert, FailedPost, DivZero, Range}
use Rattle.il_core.specs.declared.operator.BinOp.{BinOp}
use Rattle.il_core.specs.declared.operator.BinOp.TheVariants.{Add, Sub, Mul, Div, Mod, Compare, And, Or}
use Rattle.std.specs.Prelude.{pos}
use Rattle.il_core.specs.declared.operator.Relation.TheVariants.{Le, Ge}
use Rattle.sym_terms.specs.Tree.{Tree, number}
use Rattle.test_graph.specs.Term.{term_of}
use Rattle.test_graph.specs.Decision.{Decision, ask, done, sets, halts, goes_to, holds_zero, guarded, divided, decided_on, at_least, at_most, ranged, whole_given, bit_given, flag_given, given_to, decision_of, decision_there, decision_at}
use Rattle.test_graph.specs.Way.{Way, decided_true, decided_false, ways_of, line_paths}

-- each end leads to one of these lines, or halts
abbrev pub LeadTo : List ℕ → Decision → Type 0
LeadTo heads (ask c met unmet) = LeadTo heads met × LeadTo heads unmet
LeadTo heads (done change (At q)) = IsIn heads q
LeadTo heads (done change (Halted h)) = Unit {0}

by_either : (heads : List ℕ) (b : Bool) (c d : Decision) → LeadTo heads c → LeadTo heads d → LeadTo heads (cond b c d)
by_either heads true c d x y = x
by_either heads false c d x y = y

guarded-leads : (heads : List ℕ) (places : List Place) (o : BinOp) (b : Expression) (rest fault : Decision) → LeadTo heads rest → LeadTo heads fault
    → LeadTo heads (guarded places o b rest fault)
guarded-leads heads places Div b rest fault x y = by_either heads (holds_zero (bounds_of places b)) (ask _ rest fault) rest (x, y) x
guarded-leads heads places Mod b rest fault x y = by_either heads (holds_zero (bounds_of places b)) (ask _ rest fault) rest (x, y) x
guarded-leads heads places Add b rest fault x y = x
guarded-leads heads places Sub b rest fault x y = x
guarded-leads heads places Mul b rest fault x y = x
guarded-leads heads places (Compare r) b rest fault x y = x
guarded-leads heads places And b rest fault x y = x
guarded-leads heads places Or b rest fault x y = x

divided-leads : (heads : List ℕ) (places : List Place) (x : Expression) (rest fault : Decision) → LeadTo heads rest → LeadTo heads fault
    → LeadTo heads (divided places x rest fault)
divided-leads heads places (e.number n) rest fault x y = x
divided-leads heads places (e.variable p) rest fault x y = x
divided-leads heads places (e.flag p) rest fault x y = x
divided-leads heads places (e.truth b) rest fault x y = x
divided-leads heads places (e.minus a) rest fault x y = divided-leads heads places a rest fault x y
divided-leads heads places (e.opposite a) rest fault x y = x
divided-leads heads places (e.two o a b) rest fault x y =
    divided-leads heads places a (divided places b (guarded places o b rest fault) fault) fault
    (divided-leads heads places b (guarded places o b rest fault) fault (guarded-leads heads places o b rest fault x y) y) y

decided-leads : (heads : List ℕ) (places : List Place) (x : Expression) (on off fault : Decision) → LeadTo heads on → LeadTo heads off → LeadTo heads fault
    → LeadTo heads (decided_on places x on off fault)
decided-leads heads places (e.number n) on off fault x y z = z
decided-leads heads places (e.variable p) on off fault x y z = z
decided-leads heads places (e.flag p) on off fault x y z = (x, y)
decided-leads heads places (e.truth true) on off fault x y z = x
decided-leads heads places (e.truth false) on off fault x y z = y
decided-leads heads places (e.minus a) on off fault x y z = z
decided-leads heads places (e.opposite a) on off fault x y z = decided-leads heads places a off on fault y x z
decided-leads heads places (e.two (Compare r) a b) on off fault x y z =
    let asked = ask (record { left = term_of a; relation = r; right = term_of b }) on off in
    divided-leads heads places a (divided places b asked fault) fault (divided-leads heads places b asked fault (x, y) z) z
decided-leads heads places (e.two And a b) on off fault x y z =
    decided-leads heads places a (decided_on places b on off fault) off fault (decided-leads heads places b on off fault x y z) y z
decided-leads heads places (e.two Or a b) on off fault x y z =
    decided-leads heads places a on (decided_on places b on off fault) fault x (decided-leads heads places b on off fault x y z) z
decided-leads heads places (e.two Add a b) on off fault x y z = z
decided-leads heads places (e.two Sub a b) on off fault x y z = z
decided-leads heads places (e.two Mul a b) on off fault x y z = z
decided-leads heads places (e.two Div a b) on off fault x y z = z
decided-leads heads places (e.two Mod a b) on off fault x y z = z

ranged-leads : (heads : List ℕ) (pc p : ℕ) (place : Place) (b : Bounds) (t : Tree) → IsIn heads (pc + 1) → LeadTo heads (ranged pc p place b t)
ranged-leads heads pc p place b t i =
    let high = by_either heads (int_lt place.greatest b.high) (ask (record { left = t; relation = Le; right = number place.greatest }) (sets pc p t) (halts (Range pc))) (sets pc p t) (i, tt) i in
    by_either heads place.wrap (sets pc p _) (at_least place b t (at_most place b t (sets pc p t) (halts (Range pc))) (halts (Range pc))) i
    (by_either heads (int_lt b.low place.least) (ask (record { left = t; relation = Ge; right = number place.least }) (at_most place b t (sets pc p t) (halts (Range pc))) (halts (Range pc))) (at_most place b t (sets pc p t) (halts (Range pc))) (high, tt) high)

bit-leads : (heads : List ℕ) (places : List Place) (pc p : ℕ) (x : Expression) → IsIn heads (pc + 1) → LeadTo heads (bit_given places pc p x)
bit-leads heads places pc p x i = decided-leads heads places x (sets pc p (number (pos 1))) (sets pc p (number (pos 0))) (halts (DivZero pc)) i i tt

flag-leads : (heads : List ℕ) (places : List Place) (pc p : ℕ) (x : Expression) → IsIn heads (pc + 1) → LeadTo heads (flag_given places pc p x)
flag-leads heads places pc p (e.flag q) i = i
flag-leads heads places pc p (e.number n) i = bit-leads heads places pc p (e.number n) i
flag-leads heads places pc p (e.variable q) i = bit-leads heads places pc p (e.variable q) i
flag-leads heads places pc p (e.truth b) i = bit-leads heads places pc p (e.truth b) i
flag-leads heads places pc p (e.minus a) i = bit-leads heads places pc p (e.minus a) i
flag-leads heads places pc p (e.opposite a) i = bit-leads heads places pc p (e.opposite a) i
flag-leads heads places pc p (e.two o a b) i = bit-leads heads places pc p (e.two o a b) i

given-leads : (heads : List ℕ) (places : List Place) (pc p : ℕ) (x : Expression) (o : Option Place) → IsIn heads (pc + 1) → LeadTo heads (given_to places pc p x o)
given-leads heads places pc p x None i = tt
given-leads heads places pc p x (Some place) i =
    by_either heads place.flag (flag_given places pc p x) (whole_given places pc p place x) (flag-leads heads places pc p x i)
    (divided-leads heads places x (ranged pc p place (bounds_of places x) (term_of x)) (halts (DivZero pc)) (ranged-leads heads pc p place (bounds_of places x) (term_of x) i) tt)

line-leads : (places : List Place) (pc : ℕ) (i : Instruction) → LeadTo (heads_of pc i) (decision_of places pc i)
line-leads places pc (pre x) = decided-leads ((pc + 1) ∷ []) places x (goes_to (pc + 1)) (halts Outside) (halts (DivZero pc)) (inl refl) tt tt
line-leads places pc (assign p x) = given-leads ((pc + 1) ∷ []) places pc p x (slice_get places p) (inl refl)
line-leads places pc (if_true x q) = decided-leads ((pc + 1) ∷ q ∷ []) places x (goes_to (pc + 1)) (goes_to q) (halts (DivZero pc)) (inl refl) (inr (inl refl)) tt
line-leads places pc (otherwise q) = inl refl
line-leads places pc end_if = inl refl
line-leads places pc loop = inl refl
line-leads places pc (end_loop q) = inl refl
line-leads places pc (exit q) = inl refl
line-leads places pc (exit_when x q) = decided-leads (q ∷ (pc + 1) ∷ []) places x (goes_to q) (goes_to (pc + 1)) (halts (DivZero pc)) (inl refl) (inr (inl refl)) tt
line-leads places pc label = inl refl
line-leads places pc (goto q) = inl refl
line-leads places pc skip = inl refl
line-leads places pc (assert x) = decided-leads ((pc + 1) ∷ []) places x (goes_to (pc + 1)) (halts (FailedAssert pc)) (halts (DivZero pc)) (inl refl) tt tt
line-leads places pc (return q) = inl refl
line-leads places pc (end_procedure x) = decided-leads [] places x (halts End) (halts FailedPost) (halts (DivZero pc)) tt tt tt

there-leads : (places : List Place) (pc : ℕ) (o : Option Instruction) → LeadTo (heads_at pc o) (decision_there places pc o)
there-leads places pc None = tt
there-leads places pc (Some i) = line-leads places pc i

-- a line's decisions lead along its arcs
pub leads : (p : Procedure) (pc : ℕ) → LeadTo (heads_at pc (slice_get p.lines pc)) (decision_at p pc)
unfolding decision_at
leads p pc = there-leads p.places pc (slice_get p.lines pc)

-- what is among joined lists is among one of them
pub in-joined : (xs ys : List Way) (w : Way) → IsIn (xs ++ ys) w → IsIn xs w ⊎ IsIn ys w
in-joined [] ys w i = inr i
in-joined (x ∷ xs) ys w (inl same) = inl (inl same)
in-joined (x ∷ xs) ys w (inr i) = elim (in-joined xs ys w i) [ inl there ↦ inl (inr there) | inr there ↦ inr there ]

pub in-mapped : (f : Way → Way) (xs : List Way) (w : Way) → IsIn (map f xs) w → (v : Way) × IsIn xs v × (f v ≡ w)
in-mapped f [] w i = absurd i
in-mapped f (x ∷ xs) w (inl same) = (x, inl refl, same)
in-mapped f (x ∷ xs) w (inr i) = let r = in-mapped f xs w i in (r.0, inr r.1, r.2)

-- a way that leads to a line leads to one of those that the ends lead to
pub way-leads : (heads : List ℕ) (d : Decision) (w : Way) (q : ℕ) → LeadTo heads d → IsIn (ways_of d) w → w.next ≡ At q → IsIn heads q
way-leads heads (done change (At r)) w q h (inl same) k =
    let t : r ≡ q = at-same r q (ap (λ (v : Way). v.next) same ∙ k) in subst (λ x. IsIn heads x) t h
  where
    at-same : (a b : ℕ) → At a ≡ At b → a ≡ b
    at-same a b e = cc
way-leads heads (done change (At r)) w q h (inr i) k = absurd i
way-leads heads (done change (Halted r)) w q h (inl same) k = absurd (let t : Halted r ≡ At q = ap (λ (v : Way). v.next) same ∙ k in cc)
way-leads heads (done change (Halted r)) w q h (inr i) k = absurd i
way-leads heads (ask c met unmet) w q h i k = elim (in-joined (map (decided_true c) (ways_of met)) (map (decided_false c) (ways_of unmet)) w i) [
  | inl there ↦
      let v = in-mapped (decided_true c) (ways_of met) w there in
      way-leads heads met v.0 q h.0 v.1 (ap (λ (x : Way). x.next) v.2 ∙ k)
  | inr there ↦
      let v = in-mapped (decided_false c) (ways_of unmet) w there in
      way-leads heads unmet v.0 q h.1 v.1 (ap (λ (x : Way). x.next) v.2 ∙ k)
]

pub way-along : (p : Procedure) (pc q : ℕ) (w : Way) → IsIn (line_paths p pc) w → w.next ≡ At q → HasArc p pc q
unfolding line_paths
way-along p pc q w i k = way-leads (heads_at pc (slice_get p.lines pc)) (decision_at p pc) w q (leads p pc) i k
