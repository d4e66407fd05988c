-- A variable has seven points, each of which stands for what its events so far may be; an event leads from points to points.
use Rattle.std.specs.Prelude.{◌≡◌, ℕ, ◌+◌, ◌*◌, ◌<◌, Some, List, [], ◌∷◌, slice_get}
use Rattle.il_core.specs.LineGraph.{IsIn}
use Rattle.flow_graph.specs.declared.graph.Node.{Node}
use Rattle.data_use.specs.Events.{Event, read, write, events_at}
use Rattle.data_use.specs.declared.points.Point.{Point}
use Rattle.data_use.specs.declared.points.Point.TheVariants.{Fresh, ReadFirst, Any, ReadOnce, WrittenOnce, JustWritten, Overwritten}
use Rattle.data_use.specs.declared.points.Move.{Move}
use Rattle.data_use.specs.declared.points.Effect.{Effect}
use Rattle.data_use.specs.declared.points.Effect.TheVariants as effect

-- the points to which an event leads from each: `Fresh` up to the first write, and `Any` always
abbrev pub after : Event → Point → List Point
after read Fresh = Fresh ∷ ReadFirst ∷ []
after write Fresh = []
after read ReadFirst = ReadFirst ∷ []
after write ReadFirst = ReadFirst ∷ []
after read Any = Any ∷ ReadOnce ∷ []
after write Any = Any ∷ WrittenOnce ∷ JustWritten ∷ []
after read ReadOnce = ReadOnce ∷ []
after write ReadOnce = ReadOnce ∷ []
after read WrittenOnce = WrittenOnce ∷ []
after write WrittenOnce = WrittenOnce ∷ []
after read JustWritten = []
after write JustWritten = Overwritten ∷ []
after read Overwritten = Overwritten ∷ []
after write Overwritten = Overwritten ∷ []

-- events lead from one point to another
abbrev pub Leads : List Event → Point → Point → Type 0
Leads [] p q = p ≡ q
Leads (e ∷ es) p q = (m : Point) × IsIn (after e p) m × Leads es m q

-- the place of a point among the seven
abbrev pub number : Point → ℕ
number Fresh = 0
number ReadFirst = 1
number Any = 2
number ReadOnce = 3
number WrittenOnce = 4
number JustWritten = 5
number Overwritten = 6

-- the events of an effect on a variable
abbrev pub events_in : Effect → List Event
events_in effect.Nothing = []
events_in effect.Read = read ∷ []
events_in effect.Write = write ∷ []
events_in effect.ReadThenWrite = read ∷ write ∷ []

-- one of the moves goes from x to y, where the points are numbered from first on
abbrev pub AddsMove : ℕ → List Move → ℕ → ℕ → Type 0
AddsMove first moves x y = (p q : Point) × IsIn moves (record { from = p; to = q }) × (x ≡ first + number p) × (y ≡ first + number q)

-- events lead from x to y, where the points are numbered from first on
abbrev pub LeadsOn : ℕ → List Event → ℕ → ℕ → Type 0
LeadsOn first es x y = (p q : Point) × Leads es p q × (x ≡ first + number p) × (y ≡ first + number q)

-- a line's events of one of the first variables of a group lead from x to y, where each variable has seven points
abbrev pub Carries : List Node → List ℕ → ℕ → ℕ → ℕ → ℕ → Type 0
Carries nodes group bound k x y = (slot v : ℕ) × (slot < bound) × (slice_get group slot ≡ Some v) × LeadsOn (slot * 7) (events_at (slice_get nodes k) v) x y
