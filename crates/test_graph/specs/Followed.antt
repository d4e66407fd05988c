-- The decisions that a line takes from a state, in order, and how far given decisions follow them.
use Rattle.std.specs.Prelude.{◌≡◌, ℕ, ◌+◌, ℤ, pos, Bool, true, false, not, Option, Some, None, List, [], ◌∷◌, ◌++◌, if◌then◌else◌, int_lt, int_le, slice_get}
use Rattle.std.specs.Ordering.{int_eq}
use Rattle.il_core.specs.Expression as e
use Rattle.il_core.specs.Expression.{Expression}
use Rattle.il_core.specs.Evaluation.{State, value_at, compares, whole, holds}
use Rattle.il_core.specs.Bounds.{Bounds, bounds_of, IsNarrow}
use Rattle.il_core.specs.Procedure.{Instruction, pre, assign, if_true, otherwise, end_if, loop, end_loop, exit, exit_when, label, goto, skip, assert, return, end_procedure}
use Rattle.il_core.specs.declared.line.Place.{Place}
use Rattle.il_core.specs.declared.operator.BinOp.{BinOp}
use Rattle.il_core.specs.declared.operator.BinOp.TheVariants.{Add, Sub, Mul, Div, Mod, Compare, And, Or}
use Rattle.il_core.specs.Machine.{Step}
use Rattle.test_graph.specs.Decision.{holds_zero}
use Rattle.test_graph.specs.declared.taken.Taken.{Taken}

abbrev pub same_bit : Bool → Bool → Bool
same_bit true b = b
same_bit false b = not b

-- one more position where the decision there is this one, none where it is another or the path has ended
abbrev pub next_position : ℕ → Option Bool → Bool → Option ℕ
next_position n None b = None
next_position n (Some c) b = if same_bit c b then Some (n + 1) else None

-- the position behind one more decision; none where the path has left the decisions
abbrev pub followed_one : List Bool → Option ℕ → Bool → Option ℕ
followed_one path None b = None
followed_one path (Some n) b = next_position n (slice_get path n) b

abbrev pub followed : List Bool → Option ℕ → List Bool → Option ℕ
followed path at [] = at
followed path at (b ∷ bs) = followed path (followed_one path at b) bs

-- what follows where there is a value
abbrev pub behind : Option ℤ → List Bool → List Bool
behind None bs = []
behind (Some v) bs = bs

-- what follows of a condition that is true, or false
abbrev pub behind_truth : Option Bool → List Bool → List Bool → List Bool
behind_truth None met unmet = []
behind_truth (Some true) met unmet = met
behind_truth (Some false) met unmet = unmet

-- the decision that a divisor is not 0
abbrev pub zero_path : List Place → Expression → Option ℤ → List Bool
zero_path places b None = []
zero_path places b (Some y) = if holds_zero (bounds_of places b) then not (int_eq y (pos 0)) ∷ [] else []

abbrev pub guard_path : List Place → BinOp → Expression → Option ℤ → List Bool
guard_path places Div b y = zero_path places b y
guard_path places Mod b y = zero_path places b y
guard_path places Add b y = []
guard_path places Sub b y = []
guard_path places Mul b y = []
guard_path places (Compare r) b y = []
guard_path places And b y = []
guard_path places Or b y = []

-- the decisions of an expression for whole numbers
abbrev pub whole_path : List Place → Expression → State → List Bool
whole_path places (e.number n) s = []
whole_path places (e.variable p) s = []
whole_path places (e.flag p) s = []
whole_path places (e.truth b) s = []
whole_path places (e.minus a) s = whole_path places a s
whole_path places (e.opposite a) s = []
whole_path places (e.two o a b) s = whole_path places a s ++ behind (whole a s) (whole_path places b s ++ guard_path places o b (whole b s))

-- the decision of a comparison whose sides have values
abbrev pub compared : BinOp → Option ℤ → Option ℤ → List Bool
compared (Compare r) (Some x) (Some y) = compares r x y ∷ []
compared (Compare r) (Some x) None = []
compared (Compare r) None y = []
compared Add x y = []
compared Sub x y = []
compared Mul x y = []
compared Div x y = []
compared Mod x y = []
compared And x y = []
compared Or x y = []

-- the decisions of a condition
abbrev pub truth_path : List Place → Expression → State → List Bool
truth_path places (e.number n) s = []
truth_path places (e.variable p) s = []
truth_path places (e.flag p) s = int_le (pos 1) (value_at s p) ∷ []
truth_path places (e.truth b) s = []
truth_path places (e.minus a) s = []
truth_path places (e.opposite a) s = truth_path places a s
truth_path places (e.two (Compare r) a b) s = whole_path places a s ++ behind (whole a s) (whole_path places b s ++ compared (Compare r) (whole a s) (whole b s))
truth_path places (e.two And a b) s = truth_path places a s ++ behind_truth (holds a s) (truth_path places b s) []
truth_path places (e.two Or a b) s = truth_path places a s ++ behind_truth (holds a s) [] (truth_path places b s)
truth_path places (e.two Add a b) s = []
truth_path places (e.two Sub a b) s = []
truth_path places (e.two Mul a b) s = []
truth_path places (e.two Div a b) s = []
truth_path places (e.two Mod a b) s = []

-- the decisions on the range of a value
abbrev pub greatest_path : Place → Bounds → ℤ → List Bool
greatest_path place b v = if int_lt place.greatest b.high then int_le v place.greatest ∷ [] else []

abbrev pub range_path : Place → Bounds → ℤ → List Bool
range_path place b v = if int_lt b.low place.least
    then int_le place.least v ∷ (if int_le place.least v then greatest_path place b v else []) else greatest_path place b v

abbrev pub kept_path : Place → Bounds → Option ℤ → List Bool
kept_path place b None = []
kept_path place b (Some v) = if place.wrap then [] else range_path place b v

-- the decisions of an assignment of a truth value: none for a copy
abbrev pub flag_path : List Place → Expression → State → List Bool
flag_path places (e.flag q) s = []
flag_path places (e.number n) s = truth_path places (e.number n) s
flag_path places (e.variable q) s = truth_path places (e.variable q) s
flag_path places (e.truth b) s = truth_path places (e.truth b) s
flag_path places (e.minus a) s = truth_path places (e.minus a) s
flag_path places (e.opposite a) s = truth_path places (e.opposite a) s
flag_path places (e.two o a b) s = truth_path places (e.two o a b) s

abbrev pub given_path : List Place → Expression → Option Place → State → List Bool
given_path places x None s = []
given_path places x (Some place) s = if place.flag then flag_path places x s else whole_path places x s ++ kept_path place (bounds_of places x) (whole x s)

-- the decisions of an instruction
abbrev pub line_path : List Place → Instruction → State → List Bool
line_path places (pre x) s = truth_path places x s
line_path places (assign p x) s = given_path places x (slice_get places p) s
line_path places (if_true x q) s = truth_path places x s
line_path places (otherwise q) s = []
line_path places end_if s = []
line_path places loop s = []
line_path places (end_loop q) s = []
line_path places (exit q) s = []
line_path places (exit_when x q) s = truth_path places x s
line_path places label s = []
line_path places (goto q) s = []
line_path places skip s = []
line_path places (assert x) s = truth_path places x s
line_path places (return q) s = []
line_path places (end_procedure x) s = truth_path places x s

-- a step that is taken where its decisions were followed to the end, and else leaves the state as it is
abbrev pub AlongAt : Option ℕ → Step → State → Option Taken → State → Type 0
AlongAt None to s result to_s = (result ≡ None) × (to_s ≡ s)
AlongAt (Some used) to s result to_s = (result ≡ Some (record { next = to.next; used = used })) × (to_s ≡ to.state)

-- the parts of a line's expression have small static bounds
abbrev pub LineIsNarrow : List Place → Instruction → Type 0
LineIsNarrow places (pre x) = IsNarrow places x
LineIsNarrow places (assign p x) = IsNarrow places x
LineIsNarrow places (if_true x q) = IsNarrow places x
LineIsNarrow places (otherwise q) = Unit {0}
LineIsNarrow places end_if = Unit {0}
LineIsNarrow places loop = Unit {0}
LineIsNarrow places (end_loop q) = Unit {0}
LineIsNarrow places (exit q) = Unit {0}
LineIsNarrow places (exit_when x q) = IsNarrow places x
LineIsNarrow places label = Unit {0}
LineIsNarrow places (goto q) = Unit {0}
LineIsNarrow places skip = Unit {0}
LineIsNarrow places (assert x) = IsNarrow places x
LineIsNarrow places (return q) = Unit {0}
LineIsNarrow places (end_procedure x) = IsNarrow places x
