-- A walk down the tree of a region: which tree stands behind a way, what the terms and the literals so far stand for, and what it adds.
use Rattle.std.specs.Prelude.{◌≡◌, ◌⊎◌, ◌<◌, ◌≤◌, ◌^◌, ◌+◌, ◌-◌, ℕ, suc, Bool, true, false, Option, Some, None, List, [], ◌∷◌, ◌++◌, map, length, drop, slice_get, take, All, if◌then◌else◌}
use Rattle.il_core.specs.Checked.{procedure_of, IsChecked}
use Rattle.il_core.specs.Procedure.{Procedure}
use Rattle.il_core.specs.declared.line.Next.{Next}
use Rattle.il_core.specs.declared.line.Place.{Place}
use Rattle.il_core.specs.declared.line.Stop.{Stop}
use Rattle.il_core.specs.declared.line.Stop.TheVariants as stop
use Rattle.control_flow.specs.declared.control.LoopInfo.{LoopInfo}
use Rattle.sym_terms.specs.Tree.{Tree}
use Rattle.sym_terms.specs.Measure.{weight, depth}
use Rattle.sym_terms.specs.Substitution.{substituted}
use Rattle.sym_terms.specs.Comparison.{Comparison, comparison_under, comparison_weight, ComparesPlacesBelow}
use Rattle.sym_terms.specs.Nodes.{tree_at, terms_of, AreWithin}
use Rattle.sym_terms.specs.Places.{HavePlacesBelow}
use Rattle.sym_terms.specs.declared.node.TermId.{TermId}
use Rattle.sym_terms.specs.declared.node.TermNode.{TermNode}
use Rattle.sym_simplify.specs.Norm.{norm}
use Rattle.sym_simplify.specs.Literal.{LiteralForm, literal_form_of}
use Rattle.sym_simplify.specs.Easy.{IsKept}
use Rattle.sym_simplify.specs.declared.normal.LitForm.{LitForm}
use Rattle.path_inputs.specs.Least.{IsPlainlyRefuted}
use Rattle.test_graph.specs.Decision.{Change, Decision}
use Rattle.test_graph.specs.Way.{changed}
use Rattle.test_graph.specs.Places.{DecidesPlacesBelow}
use Rattle.test_graph.specs.Lowered.{Unfolds, IsLowered}
use Rattle.region_paths.specs.Region.{leading_of}
use Rattle.region_paths.specs.Listing.{RegionPath, IsLongPath, ListsPaths}
use Rattle.region_paths.specs.Size.{IsPast}
use Rattle.region_paths.specs.PathTree.{PathTree, fork, change, stops, grafted, below, passed, tree_to, leading_tree}
use Rattle.region_paths.specs.Walk.{LeadInside}
use Rattle.semantic_tables.specs.Row.{NormalRow, row_of, normal_row, comparison_form, forms_of}
use Rattle.semantic_tables.specs.Table.{IsOpenPath}
use Rattle.semantic_tables.specs.Fit.{HasSoundLiterals}
use Rattle.semantic_tables.specs.Hazards.{NormalHazard, hazard_of, bare, stops_badly, HasLeast}
use Rattle.semantic_tables.specs.declared.row.TableOr.{TableOr}
use Rattle.semantic_tables.specs.declared.row.TableOr.TheVariants as table
use Rattle.semantic_tables.specs.declared.prefix.Sides.{Sides}
use Rattle.semantic_tables.specs.declared.prefix.Prefix.{Prefix}
use Rattle.semantic_tables.specs.declared.exploration.Exploration.{Exploration}
use Rattle.semantic_tables.specs.declared.exploration.Query.{Query}
use Rattle.semantic_tables.specs.declared.exploration.Query.TheVariants.{Table, LongRows, Hazards}
use Rattle.semantic_tables.specs.declared.segment.Segment.{Segment}
use Rattle.semantic_tables.specs.declared.segment.Segment.TheVariants.{Region, Leading}
use Rattle.semantic_tables.specs.declared.walking.Found.{Found}
use Rattle.semantic_tables.specs.declared.making.Explored.{Explored}
use Rattle.semantic_tables.specs.declared.making.Explored.TheVariants.{Within, Past}
use Rattle.semantic_tables.specs.declared.segment.Onward.{Onward}
use Rattle.semantic_tables.specs.declared.segment.Onward.TheVariants.{Stops, On}

abbrev pub explored_procedure : Exploration → Procedure
explored_procedure g = procedure_of g.proc.now

-- hazards and long rows are those of long paths
abbrev pub is_long : Query → Bool
is_long Table = false
is_long LongRows = true
is_long Hazards = true

-- hazards are asked for, and no rows
abbrev pub is_hazards : Query → Bool
is_hazards Table = false
is_hazards LongRows = false
is_hazards Hazards = true

-- a lowered graph and the loops of a checked procedure
pub record IsExploration (g : Exploration) : Type 0 where
  pub checked : IsChecked (explored_procedure g)
  pub lowered : IsLowered (explored_procedure g) g.graph.now
  pub leading : LeadInside (explored_procedure g) g.loops.now

-- the tree at a head: long paths go on through its leading assertions
abbrev pub head_tree : Procedure → List LoopInfo → Bool → ℕ → PathTree
head_tree p loops true = λ q. leading_tree p q (leading_of loops q)
head_tree p loops false = λ q. stops (stop.Head q)

abbrev pub head_in : Option LoopInfo → ℕ
head_in None = 0
head_in (Some l) = l.head

abbrev pub leading_in : Option LoopInfo → List ℕ
leading_in None = []
leading_in (Some l) = l.leading

-- the tree behind a way of a line of the region, or of a leading assertion
abbrev pub behind : Procedure → List LoopInfo → Bool → Segment → Next → PathTree
behind p loops long (Region room) = below loops (head_tree p loops long) (λ q. tree_to p loops (head_tree p loops long) room q)
behind p loops long (Leading at from) = passed (leading_tree p (head_in (slice_get loops at)) (drop from (leading_in (slice_get loops at))))

-- these decisions, with the tree behind each of their ways
abbrev pub tree_from : Exploration → Segment → Decision → PathTree
tree_from g segment d = grafted (behind (explored_procedure g) g.loops.now (is_long g.query) segment) d

abbrev pub IsSegment : List LoopInfo → Segment → Type 0
IsSegment loops (Region room) = Unit {0}
IsSegment loops (Leading at from) = at < length loops

abbrev pub leading_lines : List LoopInfo → ℕ
leading_lines [] = 0
leading_lines (l ∷ loops) = length l.leading + leading_lines loops

-- as many lines as are left at most
abbrev pub lines_left : List LoopInfo → Segment → ℕ
lines_left loops (Region room) = suc room + leading_lines loops
lines_left loops (Leading at from) = length (leading_in (slice_get loops at)) - from

-- decisions at a node below which this tree stands, with fewer lines left
pub record IsOnward (g : Exploration) (left : ℕ) (tree : PathTree) (id : ℕ) (segment : Segment) : Type 0 where
  pub segment_there : IsSegment g.loops.now segment
  pub fewer : lines_left g.loops.now segment < left
  pub decision : Decision
  pub unfolds : Unfolds g.graph.now.nodes g.graph.now.entries id decision
  pub places : DecidesPlacesBelow (length (explored_procedure g).places) decision
  pub same : tree ≡ tree_from g segment decision

-- the tree is a stop, or the decisions at a node with what stands behind them
abbrev pub GoesOn : Exploration → ℕ → PathTree → Onward → Type 0
GoesOn g left tree (Stops end) = tree ≡ stops end
GoesOn g left tree (On id segment) = IsOnward g left tree id segment

abbrev pub IsSmall : Tree → Type 0
IsSmall t = (weight t < 2 ^ 100) × (depth t ≤ 1000)

abbrev pub AreSmall : List Tree → Type 0
AreSmall [] = Unit {0}
AreSmall (t ∷ ts) = IsSmall t × AreSmall ts

abbrev pub ComparesSmall : Comparison → Type 0
ComparesSmall c = (comparison_weight c < 2 ^ 100) × (depth c.left ≤ 1000) × (depth c.right ≤ 1000)

abbrev pub AssignsSmall : List Tree → Option Change → Type 0
AssignsSmall terms None = Unit {0}
AssignsSmall terms (Some c) = IsSmall (substituted terms c.term)

-- each comparison and each assigned term down a tree is below the limits of a region
abbrev pub StaysSmall : PathTree → List Tree → Type 0
StaysSmall (fork c met unmet) terms = ComparesSmall (comparison_under terms c) × StaysSmall met terms × StaysSmall unmet terms
StaysSmall (change c rest) terms = AssignsSmall terms c × StaysSmall rest (changed c terms)
StaysSmall (stops end) terms = Unit {0}

-- small decisions over the places stand from a node on
pub record Stands (g : Exploration) (id : ℕ) (segment : Segment) (terms : List Tree) : Type 0 where
  pub decision : Decision
  pub unfolds : Unfolds g.graph.now.nodes g.graph.now.entries id decision
  pub places : DecidesPlacesBelow (length (explored_procedure g).places) decision
  pub small : StaysSmall (tree_from g segment decision) terms

-- numbers of small terms over n places, one for each place
pub record IsEnvironment (n : ℕ) (nodes : List TermNode) (env : List TermId) : Type 0 where
  pub within : AreWithin nodes env
  pub size : length env ≡ n
  pub places : HavePlacesBelow n (terms_of nodes env)
  pub small : AreSmall (terms_of nodes env)

-- a small term over n places
pub record IsTerm (n : ℕ) (nodes : List TermNode) (id : TermId) : Type 0 where
  pub within : id.index < length nodes
  pub places : HavePlacesBelow n (tree_at nodes id ∷ [])
  pub small : IsSmall (tree_at nodes id)

abbrev pub comparison_at : List TermNode → Sides → Comparison
comparison_at nodes s = record { left = tree_at nodes s.left; relation = s.relation; right = tree_at nodes s.right }

-- the numbers of the sides of a small comparison
pub record IsCompared (nodes : List TermNode) (s : Sides) : Type 0 where
  pub left : s.left.index < length nodes
  pub right : s.right.index < length nodes
  pub small : ComparesSmall (comparison_at nodes s)

-- one literal more, with this form
pub record IsOneMore (f : LiteralForm) (old new : List LitForm) : Type 0 where
  pub literal : LitForm
  pub last : new ≡ old ++ literal ∷ []
  pub form : literal_form_of literal ≡ f
  pub kept : IsKept f

-- the numbers of the sides of a small comparison over n places
pub record AreSides (n : ℕ) (nodes : List TermNode) (s : Sides) : Type 0 where
  pub compared : IsCompared nodes s
  pub places : ComparesPlacesBelow n (comparison_at nodes s)

-- numbered sides and the form of their comparison
pub record StandsFor (n : ℕ) (nodes : List TermNode) (s : Sides) (f : LiteralForm) : Type 0 where
  pub sides : AreSides n nodes s
  pub form : f ≡ comparison_form (comparison_at nodes s)
  pub kept : IsKept f

abbrev pub AreForms : ℕ → List TermNode → List Sides → List LiteralForm → Type 0
AreForms n nodes [] [] = Unit {0}
AreForms n nodes [] (f ∷ fs) = ⊥
AreForms n nodes (s ∷ sides) [] = ⊥
AreForms n nodes (s ∷ sides) (f ∷ fs) = StandsFor n nodes s f × AreForms n nodes sides fs

abbrev pub prefix_forms : Prefix → List LiteralForm
prefix_forms x = map literal_form_of x.literals.items

-- the literals of a prefix have the forms of their sides
abbrev pub IsPrefix : ℕ → List TermNode → Prefix → Type 0
IsPrefix n nodes x = AreForms n nodes x.sides.items (prefix_forms x)

pub record IsSamePrefix (old new : Prefix) : Type 0 where
  pub path : new.path.items ≡ old.path.items
  pub sides : new.sides.items ≡ old.sides.items
  pub literals : new.literals.items ≡ old.literals.items

-- these forms have so many first ones that are plainly refuted
abbrev pub IsRefutedFirst : List Place → ℕ → List LiteralForm → ℕ → Type 0
IsRefutedFirst places pc fs count = (count ≤ length fs) × IsPlainlyRefuted places pc (take count fs)

-- what a prefix has as refuted is
abbrev pub IsKnown : Exploration → Prefix → Type 0
IsKnown g x = (count : ℕ) → x.refuted ≡ Some count → IsRefutedFirst g.proc.now.places g.line (prefix_forms x) count

-- which literals have no row: those plainly refuted, but none among the long rows
abbrev pub IsLeftOut : Bool → List Place → ℕ → List LiteralForm → Type 0
IsLeftOut true places pc fs = ⊥
IsLeftOut false places pc fs = IsPlainlyRefuted places pc fs

abbrev pub LeftOut : Exploration → List LiteralForm → Type 0
LeftOut g fs = IsLeftOut (is_long g.query) g.proc.now.places g.line fs

-- the paths that are not left out, in order
abbrev pub AreKept : (RegionPath → Type 0) → List RegionPath → List RegionPath → Type 0
AreKept Out [] kept = kept ≡ []
AreKept Out (r ∷ all) kept = (Out r × AreKept Out all kept) ⊎ ((Out r → ⊥) × (more : List RegionPath) × (kept ≡ r ∷ more) × AreKept Out all more)

-- the row of a path that ends here
abbrev pub ended : List Bool → List LiteralForm → Stop → List Tree → NormalRow
ended path fs end terms = record { path = path; literals = fs; stop = end; values = map norm terms }

-- the row of a path behind these decisions and literals
abbrev pub normal_behind : List Bool → List LiteralForm → RegionPath → NormalRow
normal_behind path fs r = record { path = path ++ r.row.path; literals = fs ++ forms_of r; stop = r.stop; values = map norm r.row.values }

-- what is told of each row, one after the other
abbrev pub all_told : {A : Type 0} → (NormalRow → List A) → List NormalRow → List A
all_told told [] = []
all_told told (n ∷ ns) = told n ++ all_told told ns

-- the row itself, where rows are asked for
abbrev pub rows_told : Query → NormalRow → List NormalRow
rows_told query n = if is_hazards query then [] else n ∷ []

-- and where hazards are, the hazard of a row that stops badly
abbrev pub bad_hazards : NormalRow → List NormalHazard
bad_hazards n = if stops_badly n.stop then bare n ∷ [] else []

abbrev pub hazards_told : Query → NormalRow → List NormalHazard
hazards_told query n = if is_hazards query then bad_hazards n else []

-- the rows or hazards of these paths behind a prefix, but for those left out, are added
pub record Adds (Out : List LiteralForm → Type 0) (query : Query) (path : List Bool) (fs : List LiteralForm) (all : List RegionPath) (old new : Found) : Type 0 where
  pub kept : List RegionPath
  pub each : AreKept (λ r. Out (fs ++ forms_of r)) all kept
  pub rows : map row_of new.rows ≡ map row_of old.rows ++ all_told (rows_told query) (map (normal_behind path fs) kept)
  pub hazards : map hazard_of new.hazards ≡ map hazard_of old.hazards ++ all_told (hazards_told query) (map (normal_behind path fs) kept)

abbrev pub nothing : Found
nothing = record { rows = []; hazards = [] }

-- the literals are such as a least input is looked for, and each hazard has its least input
pub record IsSound (places : List Place) (pc : ℕ) (found : Found) : Type 0 where
  pub rows : All (HasSoundLiterals (length places)) found.rows
  pub hazards : All (HasLeast places pc) found.hazards

abbrev pub AreSound : Exploration → Found → Type 0
AreSound g found = IsSound g.proc.now.places g.line found

-- what is told of the paths with a property, in order
pub record IsTold (query : Query) (P : RegionPath → Type 0) (found : Found) : Type 0 where
  pub paths : List RegionPath
  pub listed : ListsPaths P paths
  pub rows : map row_of found.rows ≡ all_told (rows_told query) (map normal_row paths)
  pub hazards : map hazard_of found.hazards ≡ all_told (hazards_told query) (map normal_row paths)

-- the long paths, or those of the table
abbrev pub IsPathFor : Bool → Procedure → List LoopInfo → ℕ → RegionPath → Type 0
IsPathFor true p loops pc r = IsLongPath p loops pc r
IsPathFor false p loops pc r = IsOpenPath p loops pc r

-- what is asked for, exactly where the region is within its size
abbrev pub IsExploredFor : Query → Procedure → List LoopInfo → ℕ → Explored → Type 0
IsExploredFor query p loops pc (Within found) = IsPast p loops pc None × IsTold query (IsPathFor (is_long query) p loops pc) found
IsExploredFor query p loops pc (Past limit) = IsPast p loops pc (Some limit)

abbrev pub IsSoundWithin : List Place → ℕ → Explored → Type 0
IsSoundWithin places pc (Within found) = IsSound places pc found
IsSoundWithin places pc (Past limit) = Unit {0}

-- the same of the rows alone
abbrev pub IsTableFor : Query → Procedure → List LoopInfo → ℕ → TableOr → Type 0
IsTableFor query p loops pc (table.Table rows) = IsPast p loops pc None × (paths : List RegionPath) × ListsPaths (IsPathFor (is_long query) p loops pc) paths
    × (map row_of rows ≡ all_told (rows_told query) (map normal_row paths))
IsTableFor query p loops pc (table.Past limit) = IsPast p loops pc (Some limit)
