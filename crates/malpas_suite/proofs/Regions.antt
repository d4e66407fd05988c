-- The tables of the first regions of a procedure, and that of the next one.
use Rattle.std.proofs.Common.{◌≡◌, inl, inr, ℕ, ◌+◌, ◌<◌, ◌≤◌, List, [], ◌∷◌, ◌++◌, length, take, get_or, map, refl, sym, ap, subst, ◌∙◌, add-one}
use Rattle.std.proofs.Math.Seq.{take-suc}
use Rattle.std.proofs.lemmas.List.{length-map, get_or-map, take_all, map-append}
use Rattle.control_flow.specs.Control.{heads_of}
use Rattle.control_flow.specs.declared.control.LoopInfo.{LoopInfo}
use Rattle.flow_graph.proofs.Members.{IsIn-push_cases, IsIn-map, IsIn-get_or}
use Rattle.il_core.specs.LineGraph.{IsIn}
use Rattle.il_core.specs.Procedure.{Procedure}
use Rattle.region_paths.specs.Region.{first_lines}
use Rattle.semantic_tables.specs.Table.{IsTable}
use Rattle.semantic_tables.specs.Fit.{HaveSoundLiterals}
use Rattle.semantic_tables.specs.OneRow.{OneRowEach}
use Rattle.report.specs.Headline.{HaveOneRow}
use Rattle.report.specs.Reported.{AreTables}
use Rattle.report.specs.declared.report.RegionTable.{RegionTable}

-- the first line of the region of a table
abbrev pub first_of : RegionTable → ℕ
first_of t = t.pc

-- these are the tables of the regions with these first lines
pub record AreTablesOf (p : Procedure) (loops : List LoopInfo) (lines : List ℕ) (tables : List RegionTable) : Type 0 where
  pub regions : map first_of tables ≡ lines
  pub each : (t : RegionTable) → IsIn tables t → IsTable p loops t.pc t.body
  pub one : (t : RegionTable) → IsIn tables t → OneRowEach p loops t.pc t.body
  pub fits : (t : RegionTable) → IsIn tables t → HaveSoundLiterals (length p.places) t.body

-- no table yet
pub none_yet : (p : Procedure) (loops : List LoopInfo) → AreTablesOf p loops [] []
none_yet p loops = record { regions = refl; each = λ t i. absurd i; one = λ t i. absurd i; fits = λ t i. absurd i }

-- a property of each member and of one more is one of each member of the list with that at its end
each_pushed : (P : RegionTable → Type 0) (tables : List RegionTable) (t : RegionTable) → ((u : RegionTable) → IsIn tables u → P u) → P t
    → (u : RegionTable) → IsIn (tables ++ t ∷ []) u → P u
each_pushed P tables t all here = λ u i. elim (IsIn-push_cases tables t u i) [ inl old ↦ all u old | inr new ↦ subst P new here ]

-- and the next one
one_more : (p : Procedure) (loops : List LoopInfo) (lines : List ℕ) (tables now : List RegionTable) (pc : ℕ) (t : RegionTable) → AreTablesOf p loops lines tables
    → now ≡ tables ++ t ∷ [] → t.pc ≡ pc → IsTable p loops t.pc t.body → OneRowEach p loops t.pc t.body → HaveSoundLiterals (length p.places) t.body → AreTablesOf p loops (lines ++ pc ∷ []) now
one_more p loops lines tables now pc t before is first table one fit = subst (AreTablesOf p loops (lines ++ pc ∷ [])) (sym is) (record {
  regions = map-append first_of tables (t ∷ []) ∙ ap (λ l. l ++ t.pc ∷ []) before.regions ∙ ap (λ q. lines ++ q ∷ []) first;
  each = each_pushed (λ u. IsTable p loops u.pc u.body) tables t before.each table;
  one = each_pushed (λ u. OneRowEach p loops u.pc u.body) tables t before.one one;
  fits = each_pushed (λ u. HaveSoundLiterals (length p.places) u.body) tables t before.fits fit;
})

-- the first lines up to the head of the next loop
next_head : (loops : List LoopInfo) (i : ℕ) (d : LoopInfo) → i < length loops
    → 0 ∷ take (i + 1) (heads_of loops) ≡ (0 ∷ take i (heads_of loops)) ++ (get_or loops i d).head ∷ []
next_head loops i d few =
    let inside : i < length (heads_of loops) = rw (length-map loops (λ (l : LoopInfo). l.head)) few in
    ap (λ l. 0 ∷ l) (rw (add-one, take-suc (heads_of loops) i d.head inside)
    (ap (λ h. take i (heads_of loops) ++ h ∷ []) (get_or-map (λ (l : LoopInfo). l.head) loops i d d.head few)))

-- a region begins at the head of each loop
pub begins_region : (loops items : List LoopInfo) (i : ℕ) (x d : LoopInfo) → items ≡ loops → i < length items → x ≡ get_or items i d → IsIn (first_lines loops) x.head
begins_region loops items i x d all few item =
    inr (IsIn-map (λ (l : LoopInfo). l.head) loops x (subst (λ xs. IsIn xs x) all (subst (IsIn items) (sym item) (IsIn-get_or items i d few))))

-- the tables of the regions before the next loop, and that of its head
pub next_table : (p : Procedure) (loops items : List LoopInfo) (i : ℕ) (x d : LoopInfo) (tables now : List RegionTable) (t : RegionTable)
    → items ≡ loops → i < length items → x ≡ get_or items i d → AreTablesOf p loops (0 ∷ take i (heads_of loops)) tables
    → now ≡ tables ++ t ∷ [] → t.pc ≡ x.head → IsTable p loops t.pc t.body → OneRowEach p loops t.pc t.body → HaveSoundLiterals (length p.places) t.body
    → AreTablesOf p loops (0 ∷ take (i + 1) (heads_of loops)) now
next_table p loops items i x d tables now t all few item before is first table one fit =
    let inside : i < length loops = rw (← all) few in
    let here : t.pc ≡ (get_or loops i d).head = first ∙ ap (λ (l : LoopInfo). l.head) item ∙ ap (λ (xs : List LoopInfo). (get_or xs i d).head) all in
    subst (λ lines. AreTablesOf p loops lines now) (sym (next_head loops i d inside)) (one_more p loops (0 ∷ take i (heads_of loops)) tables now (get_or loops i d).head t before is here table one fit)

-- with the heads of all loops they are the tables of the procedure,
pub are_all : (p : Procedure) (loops : List LoopInfo) (i : ℕ) (tables : List RegionTable) → length loops ≤ i
    → AreTablesOf p loops (0 ∷ take i (heads_of loops)) tables → AreTables p loops tables
are_all p loops i tables many told =
    let all : length (heads_of loops) ≤ i = rw (length-map loops (λ (l : LoopInfo). l.head)) many in
    record { regions = told.regions ∙ ap (λ l. 0 ∷ l) (take_all i (heads_of loops) all); each = told.each }

-- and each input has one row
pub have_one_row : (p : Procedure) (loops : List LoopInfo) (lines : List ℕ) (tables : List RegionTable) → AreTablesOf p loops lines tables → HaveOneRow p loops tables
have_one_row p loops lines tables told = λ t i within. told.one t i
