-- What the walk adds is the region's table, its long rows or its hazards.
use Rattle.std.proofs.Common.{◌≡◌, refl, sym, ap, ◌∙◌, subst, ℕ, Bool, true, false, None, List, [], ◌∷◌, ◌++◌, map, length, inl, inr}
use Rattle.std.specs.Prelude.{Result, Ok, Err, IfOk, filter, cond, if◌then◌else◌}
use Rattle.il_core.specs.Procedure.{Procedure}
use Rattle.control_flow.specs.declared.control.LoopInfo.{LoopInfo}
use Rattle.sym_terms.specs.Identity.{own_values}
use Rattle.test_graph.specs.Decision.{decision_at}
use Rattle.path_inputs.specs.Least.{IsPlainlyRefuted}
use Rattle.region_paths.specs.Listing.{RegionPath, IsShortPath, IsLongPath, ListsPaths}
use Rattle.region_paths.specs.Laws.{BeginsRegion, PathsAreListed, OneListing}
use Rattle.region_paths.specs.PathTree.{grafted, paths_down, short_tree, short_paths, long_tree, long_paths}
use Rattle.region_paths.specs.Size.{IsPast}
use Rattle.semantic_tables.specs.Row.{NormalRow, forms_of, normal_row}
use Rattle.semantic_tables.specs.Table.{IsTable, IsLongTable}
use Rattle.semantic_tables.specs.Hazards.{NormalHazard, normal_hazard, bare, stops_badly, IsHazard, AreHazardsOf}
use Rattle.semantic_tables.specs.Walk.{behind, StaysSmall, is_long, IsLeftOut, AreKept, Adds, nothing, IsTold, IsPathFor, IsExploredFor, IsTableFor, normal_behind, all_told, rows_told, hazards_told}
use Rattle.semantic_tables.specs.declared.row.TableOr.{TableOr}
use Rattle.semantic_tables.specs.declared.row.TableOr.TheVariants as table
use Rattle.semantic_tables.specs.declared.walking.Found.{Found}
use Rattle.semantic_tables.specs.declared.making.Explored.TheVariants.{Within}
use Rattle.semantic_tables.specs.declared.exploration.Query.{Query}
use Rattle.semantic_tables.specs.declared.exploration.Query.TheVariants.{Table, LongRows, Hazards}
use Rattle.semantic_tables.specs.declared.segment.Segment.TheVariants.{Region}
use Rattle.semantic_tables.proofs.Kept.{kept_all, kept_listed}
use Rattle.semantic_tables.proofs.Limits.{small_region}

-- a row behind no decision is the path's own
own_rows : (rows : List RegionPath) → map (normal_behind [] []) rows ≡ map normal_row rows
own_rows [] = refl
own_rows (r ∷ rows) = ap (λ ns. normal_row r ∷ ns) (own_rows rows)

-- the paths that are kept are those that are asked for
kept_paths : (p : Procedure) (loops : List LoopInfo) (pc : ℕ) (long : Bool) (kept : List RegionPath) → PathsAreListed → BeginsRegion p loops pc
    → AreKept (λ r. IsLeftOut long p.places pc (forms_of r)) (paths_down (grafted (behind p loops long (Region (length p.lines))) (decision_at p pc)) (own_values (length p.places))) kept
    → ListsPaths (IsPathFor long p loops pc) kept
unfolding short_tree short_paths long_tree long_paths
kept_paths p loops pc true kept listed b k = subst (ListsPaths (IsLongPath p loops pc)) (sym (kept_all (long_paths p loops pc) kept k)) (listed p loops pc b).long
kept_paths p loops pc false kept listed b k =
    kept_listed (IsShortPath p loops pc) (λ r. IsPlainlyRefuted p.places pc (forms_of r)) (short_paths p loops pc) kept (listed p loops pc b).short k

made_rows : (p : Procedure) (loops : List LoopInfo) (pc : ℕ) (query : Query) (found : Found) → PathsAreListed → BeginsRegion p loops pc
    → Adds (IsLeftOut (is_long query) p.places pc) query [] [] (paths_down (grafted (behind p loops (is_long query) (Region (length p.lines))) (decision_at p pc)) (own_values (length p.places))) nothing found
    → IsTold query (IsPathFor (is_long query) p loops pc) found
made_rows p loops pc query found listed b a = record {
  paths = a.kept;
  listed = kept_paths p loops pc (is_long query) a.kept listed b a.each;
  rows = a.rows ∙ ap (all_told (rows_told query)) (own_rows a.kept);
  hazards = a.hazards ∙ ap (all_told (hazards_told query)) (own_rows a.kept);
}

-- the same, as the code's values say it
pub made_found : (p : Procedure) (loops ls : List LoopInfo) (pc room : ℕ) (query : Query) (found : Found) → PathsAreListed → BeginsRegion p loops pc → IsPast p loops pc None
    → ls ≡ loops → room ≡ length p.lines
    → Adds (IsLeftOut (is_long query) p.places pc) query [] [] (paths_down (grafted (behind p ls (is_long query) (Region room)) (decision_at p pc)) (own_values (length p.places))) nothing found
    → IsExploredFor query p loops pc (Within found)
made_found p loops ls pc room query found listed b past e f a = (
  past,
  made_rows p loops pc query found listed b
      (subst (λ (n : ℕ). Adds (IsLeftOut (is_long query) p.places pc) query [] [] (paths_down (grafted (behind p loops (is_long query) (Region n)) (decision_at p pc)) (own_values (length p.places))) nothing found) f
      (subst (λ (x : List LoopInfo). Adds (IsLeftOut (is_long query) p.places pc) query [] [] (paths_down (grafted (behind p x (is_long query) (Region room)) (decision_at p pc)) (own_values (length p.places))) nothing found) e a)),
)

pub small_exploration : (p : Procedure) (loops ls : List LoopInfo) (pc room : ℕ) (long : Bool) → PathsAreListed → OneListing → BeginsRegion p loops pc → IsPast p loops pc None
    → ls ≡ loops → room ≡ length p.lines → StaysSmall (grafted (behind p ls long (Region room)) (decision_at p pc)) (own_values (length p.places))
small_exploration p loops ls pc room long listed one b past e f =
    subst (λ (x : List LoopInfo). StaysSmall (grafted (behind p x long (Region room)) (decision_at p pc)) (own_values (length p.places))) (sym e)
    (subst (λ (n : ℕ). StaysSmall (grafted (behind p loops long (Region n)) (decision_at p pc)) (own_values (length p.places))) (sym f) (small_region p loops pc long listed one b past))

-- what an answer is, where there is one, by two things that it is
pub ok_both : {A E : Type 0} (r : Result A E) (P Q R : A → Type 0) → IfOk r P → IfOk r Q → ((x : A) → P x → Q x → R x) → IfOk r R
ok_both (Ok x) P Q R h k f = f x h k
ok_both (Err e) P Q R h k f = tt

-- the rows are told as they are
all_whole : (ns : List NormalRow) → all_told (rows_told Table) ns ≡ ns
all_whole [] = refl
all_whole (n ∷ ns) = ap (λ (ms : List NormalRow). n ∷ ms) (all_whole ns)

all_long : (ns : List NormalRow) → all_told (rows_told LongRows) ns ≡ ns
all_long [] = refl
all_long (n ∷ ns) = ap (λ (ms : List NormalRow). n ∷ ms) (all_long ns)

pub table_told : (p : Procedure) (loops : List LoopInfo) (pc : ℕ) (t : TableOr) → IsTableFor Table p loops pc t → IsTable p loops pc t
table_told p loops pc (table.Table rows) k = (k.0, (k.1, k.2, k.3 ∙ all_whole (map normal_row k.1)))
table_told p loops pc (table.Past limit) k = k

pub long_told : (p : Procedure) (loops : List LoopInfo) (pc : ℕ) (t : TableOr) → IsTableFor LongRows p loops pc t → IsLongTable p loops pc t
long_told p loops pc (table.Table rows) k = (k.0, (k.1, k.2, k.3 ∙ all_long (map normal_row k.1)))
long_told p loops pc (table.Past limit) k = k

-- the paths that stop badly
abbrev bad_paths : List RegionPath → List RegionPath
bad_paths rs = filter (λ r. stops_badly r.stop) rs

abbrev IsGood : RegionPath → Type 0
IsGood r = stops_badly r.stop ≡ false

good_not : (b : Bool) → b ≡ true → b ≡ false → ⊥
good_not b e f = let x : true ≡ false = sym e ∙ f in absurd cc

kept_bad : (rs : List RegionPath) → AreKept IsGood rs (bad_paths rs)
kept_bad [] = refl
kept_bad (r ∷ rs) = by_stop (kept_bad rs) (stops_badly r.stop) refl
  where
    by_stop : AreKept IsGood rs (bad_paths rs) → (b : Bool) → stops_badly r.stop ≡ b → AreKept IsGood (r ∷ rs) (cond b (r ∷ bad_paths rs) (bad_paths rs))
    by_stop k true e = inr (good_not (stops_badly r.stop) e, bad_paths rs, refl, k)
    by_stop k false e = inl (e, k)

all_bare : (rs : List RegionPath) → all_told (hazards_told Hazards) (map normal_row rs) ≡ map normal_hazard (bad_paths rs)
all_bare [] = refl
all_bare (r ∷ rs) = by_stop (all_bare rs) (stops_badly r.stop)
  where
    by_stop : all_told (hazards_told Hazards) (map normal_row rs) ≡ map normal_hazard (bad_paths rs) → (b : Bool)
        → (if b then bare (normal_row r) ∷ [] else []) ++ all_told (hazards_told Hazards) (map normal_row rs) ≡ map normal_hazard (cond b (r ∷ bad_paths rs) (bad_paths rs))
    by_stop k true = ap (λ (ms : List NormalHazard). normal_hazard r ∷ ms) k
    by_stop k false = k

not_good : (b : Bool) → (b ≡ false → ⊥) → b ≡ true
not_good true f = refl
not_good false f = absurd (f refl)

pub told_hazards : (p : Procedure) (loops : List LoopInfo) (pc : ℕ) (found : Found) → IsTold Hazards (IsLongPath p loops pc) found → AreHazardsOf (IsHazard p loops pc) found.hazards
told_hazards p loops pc found k = (bad_paths k.paths, listed, k.hazards ∙ all_bare k.paths)
  where
    part : ListsPaths (λ r. IsLongPath p loops pc r × (IsGood r → ⊥)) (bad_paths k.paths)
    part = kept_listed (IsLongPath p loops pc) IsGood k.paths (bad_paths k.paths) k.listed (kept_bad k.paths)

    listed : ListsPaths (IsHazard p loops pc) (bad_paths k.paths)
    listed = record {
      ordered = part.ordered;
      each = λ r. ((λ i. let t = (part.each r).0 i in (t.0, not_good (stops_badly r.stop) t.1)), (λ h. (part.each r).1 (h.0, good_not (stops_badly r.stop) h.1)));
    }

pub ok_one : {A E : Type 0} (r : Result A E) (P Q : A → Type 0) → IfOk r P → ((x : A) → P x → Q x) → IfOk r Q
ok_one (Ok x) P Q h f = f x h
ok_one (Err e) P Q h f = tt
