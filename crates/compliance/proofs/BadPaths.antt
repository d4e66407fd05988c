-- A long path is a threat exactly where it halts badly behind the leading assertions of its region, told from its decisions.
use Rattle.std.proofs.Common.{◌≡◌, inl, inr, refl, sym, ap, ◌∙◌, subst, ℕ, ◌+◌, ◌≤◌, Bool, true, false, cond, not, ◌&&◌, Option, Some, None, List, [], ◌∷◌, ◌++◌, map, length, slice_get, filter, arith}
use Rattle.std.specs.Prelude.{◌↔◌, is_some, if◌then◌else◌}
use Rattle.std.proofs.lemmas.Bool.Decides.{eqb_tells}
use Rattle.il_core.specs.LineGraph.{IsIn}
use Rattle.il_core.specs.Procedure.{Procedure, Instruction, end_if, loop, label, skip}
use Rattle.il_core.specs.Run.{is_bad}
use Rattle.il_core.specs.declared.line.Halt.{Halt}
use Rattle.il_core.specs.declared.line.Next.{Next}
use Rattle.il_core.specs.declared.line.Next.TheVariants as next
use Rattle.il_core.specs.declared.line.Place.{Place}
use Rattle.il_core.specs.declared.line.Stop.{Stop}
use Rattle.il_core.specs.declared.line.Stop.TheVariants as stop
use Rattle.flow_graph.specs.Graph.{graph_of, kind_of}
use Rattle.flow_graph.specs.declared.graph.NodeKind.TheVariants.{Plain}
use Rattle.flow_graph.proofs.Members.{IsIn-append_cases, IsIn-from_map}
use Rattle.control_flow.specs.Loop.{kind_at, BeginsAt}
use Rattle.control_flow.specs.declared.control.LoopInfo.{LoopInfo}
use Rattle.sym_terms.specs.Identity.{own_values}
use Rattle.test_graph.specs.Decision.{Decision, ask, done, decision_of, decision_there, decision_at}
use Rattle.test_graph.specs.Way.{Way, ways_of, line_paths, decided_true, decided_false}
use Rattle.test_graph.specs.Laws.{WaysGoAlongArcs}
use Rattle.region_paths.specs.Region.{AreRegions, is_head, leading_of}
use Rattle.region_paths.specs.Chain.{IsLongChain, Onward, Leads, Passes}
use Rattle.region_paths.specs.PlainRow.{PlainRow}
use Rattle.region_paths.specs.Listing.{RegionPath, IsLongPath, Ascend, ListsPaths}
use Rattle.semantic_tables.specs.Hazards.{stops_badly, IsHazard}
use Rattle.compliance.specs.Opening.{opened_by, opening, StayWithin}
use Rattle.compliance.specs.Threat.{IsThreat, AreThreats}
use Rattle.compliance.specs.Behind.{left_behind, none_or, ends_within, bad_halt, is_bad_behind}
use Rattle.compliance.proofs.Members.{from_filter}
use Rattle.compliance.proofs.QuietLines.{kind_there}
use Rattle.compliance.proofs.Openings.{leading_lists}
use Rattle.compliance.proofs.Following.{FollowOn, leads_from}
use Rattle.compliance.proofs.ShortPaths.{GoAlong, within_few, along_within, opening_along}
use Rattle.compliance.proofs.Taking.{path_of, along-path}

-- what the next line or halt of a way leaves of the decisions behind it
abbrev left_of : Next → List Bool → Option (List Bool)
left_of (next.Halted h) rest = None
left_of (next.At q) rest = Some rest

-- behind a way is left what follows its decisions
left_way : (d : Decision) (w : Way) (rest : List Bool) → IsIn (ways_of d) w → left_behind d (w.path ++ rest) ≡ left_of w.next rest
left_way (done change (next.Halted h)) w rest (inl e) = ap (λ (x : Way). left_of x.next rest) e
left_way (done change (next.At q)) w rest (inl e) =
    ap (λ (x : Way). left_behind (done change (next.At q)) (x.path ++ rest)) (sym e) ∙ ap (λ (x : Way). left_of x.next rest) e
left_way (done change to) w rest (inr i) = absurd i
left_way (ask c met unmet) w rest i = elim (IsIn-append_cases (map (decided_true c) (ways_of met)) (map (decided_false c) (ways_of unmet)) w i) [
  | inl j ↦
      let t = IsIn-from_map (decided_true c) (ways_of met) w j in
      subst (λ (x : Way). left_behind (ask c met unmet) (x.path ++ rest) ≡ left_of x.next rest) t.2 (left_way met t.0 rest t.1)
  | inr j ↦
      let t = IsIn-from_map (decided_false c) (ways_of unmet) w j in
      subst (λ (x : Way). left_behind (ask c met unmet) (x.path ++ rest) ≡ left_of x.next rest) t.2 (left_way unmet t.0 rest t.1)
]

-- nothing follows a halt, and at a line this holds
abbrev NoneOr : Next → List Way → Type 0 → Type 0
NoneOr (next.Halted h) ws rest = ws ≡ []
NoneOr (next.At q) ws rest = rest

-- the last of these ways alone halts
abbrev EndHalted : List Way → Type 0
EndHalted [] = ⊥
EndHalted (w ∷ ws) = NoneOr w.next ws (EndHalted ws)

leads_end : (p : Procedure) (head : ℕ) (lines : List ℕ) (ws : List Way) (h : Halt) → Leads p head lines ws (stop.Halted h) → EndHalted ws
leads_end p head [] ws h l = absurd (let e = l.1 in cc)
leads_end p head (a ∷ lines) [] h l = absurd l
leads_end p head (a ∷ lines) (w ∷ ws) h l = by_next w.next l.1 (λ m. leads_end p head lines ws h m)
  where
    by_next : (n : Next) → Passes n ws (stop.Halted h) (Leads p head lines ws (stop.Halted h)) → (Leads p head lines ws (stop.Halted h) → EndHalted ws) → NoneOr n ws (EndHalted ws)
    by_next (next.Halted x) m later = m.0
    by_next (next.At q) m later = later m

chain_end : (p : Procedure) (loops : List LoopInfo) (pc : ℕ) (ws : List Way) (h : Halt) → IsLongChain p loops pc ws (stop.Halted h) → EndHalted ws
chain_end p loops pc [] h k = absurd k
chain_end p loops pc (w ∷ ws) h k = by_next w.next k.1 (λ q m. chain_end p loops q ws h m)
  where
    by_head : (t : Bool) (q : ℕ) → is_head loops q ≡ t
        → Onward loops (next.At q) ws (stop.Halted h) (λ x. Leads p x (leading_of loops x) ws (stop.Halted h)) (λ x. IsLongChain p loops x ws (stop.Halted h))
        → (IsLongChain p loops q ws (stop.Halted h) → EndHalted ws) → EndHalted ws
    by_head true q e m later = leads_end p q (leading_of loops q) ws h (rw e at m)
    by_head false q e m later = later (rw e at m)

    by_next : (n : Next) → Onward loops n ws (stop.Halted h) (λ x. Leads p x (leading_of loops x) ws (stop.Halted h)) (λ x. IsLongChain p loops x ws (stop.Halted h))
        → ((q : ℕ) → IsLongChain p loops q ws (stop.Halted h) → EndHalted ws) → NoneOr n ws (EndHalted ws)
    by_next (next.Halted x) m later = m.0
    by_next (next.At q) m later = by_head (is_head loops q) q refl m (later q)

-- whether the decisions of ways end within some lines, of which the first is theirs
ends_step : (p : Procedure) (q : ℕ) (lines : List ℕ) (w : Way) (ws : List Way) → IsIn (line_paths p q) w
    → ends_within p (q ∷ lines) (path_of (w ∷ ws)) ≡ none_or (left_of w.next (path_of ws)) (λ left. ends_within p lines left)
unfolding line_paths
ends_step p q lines w ws i = ap (λ o. none_or o (λ left. ends_within p lines left)) (left_way (decision_at p q) w (path_of ws) i)

-- ways along some lines end within these exactly where they are no more
along_ends : (p : Procedure) (lines : List ℕ) (ws : List Way) → GoAlong p lines ws → EndHalted ws → (ends_within p lines (path_of ws) ≡ true) ↔ (length ws ≤ length lines)
along_ends p lines [] k e = absurd e
along_ends p [] (w ∷ ws) k e = (λ x. absurd (cc), λ few. absurd (omega (arith, few)))
along_ends p (q ∷ lines) (w ∷ ws) k e = by_next w.next refl e (λ m. along_ends p lines ws k.1 m)
  where
    by_next : (n : Next) → w.next ≡ n → NoneOr n ws (EndHalted ws) → (EndHalted ws → (ends_within p lines (path_of ws) ≡ true) ↔ (length ws ≤ length lines))
        → (ends_within p (q ∷ lines) (path_of (w ∷ ws)) ≡ true) ↔ (length (w ∷ ws) ≤ length (q ∷ lines))
    by_next (next.Halted h) to none later = (
      λ x. let size : length ws ≡ 0 = ap length none in omega (arith, size),
      λ few. ends_step p q lines w ws k.0 ∙ ap (λ n. none_or (left_of n (path_of ws)) (λ left. ends_within p lines left)) to,
    )
    by_next (next.At r) to rest later =
        let same = ends_step p q lines w ws k.0 ∙ ap (λ n. none_or (left_of n (path_of ws)) (λ left. ends_within p lines left)) to in
        let m = later rest in
        (λ x. let few = m.0 (sym same ∙ x) in omega (arith, few), λ few. same ∙ m.1 (omega (arith, few)))

plain_decision : (places : List Place) (q : ℕ) (i : Instruction) → kind_of i ≡ Plain → decision_of places q i ≡ done None (next.At (q + 1))
plain_decision places q end_if h = refl
plain_decision places q loop h = refl
plain_decision places q label h = refl
plain_decision places q skip h = refl
plain_decision places q i h = absurd cc

-- a path passes a line that does nothing
plain_ends : (p : Procedure) (q : ℕ) (lines : List ℕ) (path : List Bool) → kind_at (graph_of p).nodes q ≡ Some Plain → ends_within p (q ∷ lines) path ≡ ends_within p lines path
unfolding decision_at
plain_ends p q lines path h =
    let t = kind_there p q Plain h in
    let d : decision_there p.places q (slice_get p.lines q) ≡ done None (next.At (q + 1)) = ap (decision_there p.places q) t.1 ∙ plain_decision p.places q t.0 t.2 in
    ap (λ x. none_or (left_behind x path) (λ left. ends_within p lines left)) d

-- the opening of a region is passed as its leading assertions are
opening_ends : (p : Procedure) (loops : List LoopInfo) (pc : ℕ) (path : List Bool) → AreRegions p loops → ends_within p (opening loops pc) path ≡ ends_within p (leading_of loops pc) path
opening_ends p loops pc path regions = by_lines (leading_of loops pc) refl
  where
    at_start : (a : ℕ) (lines : List ℕ) (start : ℕ) → a ≡ start → BeginsAt (graph_of p).nodes pc start → ends_within p (opened_by pc (a ∷ lines)) path ≡ ends_within p (a ∷ lines) path
    at_start a lines start f b = elim (eqb_tells a pc) [
      | inl same ↦ ap (λ t. ends_within p (cond t (a ∷ lines) (pc ∷ a ∷ lines)) path) same.0
      | inr other ↦ ap (λ t. ends_within p (cond t (a ∷ lines) (pc ∷ a ∷ lines)) path) other.0 ∙ plain_ends p pc (a ∷ lines) path (elim b [ inl own ↦ absurd (other.1 (f ∙ own.1)) | inr plain ↦ plain.0 ])
    ]

    by_lines : (lines : List ℕ) → leading_of loops pc ≡ lines → ends_within p (opened_by pc lines) path ≡ ends_within p lines path
    by_lines [] e = refl
    by_lines (a ∷ lines) e =
        let i : IsIn (leading_of loops pc) a = subst (λ x. IsIn x a) (sym e) (inl refl) in
        let t = leads_from (graph_of p).nodes pc a (leading_of loops pc) (leading_lists p loops pc a regions i) i in
        let follow = subst (FollowOn t.start) e t.follow in
        at_start a lines t.start follow.0 t.begins

-- a long path that halts ends within the leading assertions exactly where its ways stay within the opening
ends_opening : (p : Procedure) (loops : List LoopInfo) (pc : ℕ) (r : RegionPath) (h : Halt) → WaysGoAlongArcs → AreRegions p loops → (k : IsLongPath p loops pc r) → r.stop ≡ stop.Halted h
    → (ends_within p (leading_of loops pc) r.row.path ≡ true) ↔ StayWithin p (opening loops pc) k.ways
ends_opening p loops pc r h arcs regions k e = (
  λ x. along_within p (opening loops pc) k.ways along (exact.0 (sym same ∙ x)),
  λ w. same ∙ exact.1 (within_few p (opening loops pc) k.ways w),
)
  where
    chain : IsLongChain p loops pc k.ways (stop.Halted h)
    chain = subst (λ x. IsLongChain p loops pc k.ways x) e k.chain

    along : GoAlong p (opening loops pc) k.ways
    along = opening_along p loops pc k.ways h arcs regions chain

    exact : (ends_within p (opening loops pc) (path_of k.ways) ≡ true) ↔ (length k.ways ≤ length (opening loops pc))
    exact = along_ends p (opening loops pc) k.ways along (chain_end p loops pc k.ways h chain)

    same : ends_within p (leading_of loops pc) r.row.path ≡ ends_within p (opening loops pc) (path_of k.ways)
    same =
        sym (opening_ends p loops pc r.row.path regions)
        ∙ ap (ends_within p (opening loops pc)) (ap (λ (x : PlainRow). x.path) k.row ∙ along-path k.ways (own_values (length p.places)))

-- whether a halt is told
pub some_told : (h : Halt) (bad ends : Bool) → is_some (if bad && not ends then Some h else None) ≡ bad && not ends
some_told h true true = refl
some_told h true false = refl
some_told h false ends = refl

both_told : (bad ends : Bool) → (bad && not ends) ≡ true → (bad ≡ true) × (ends ≡ false)
both_told true true e = absurd (cc)
both_told true false e = (refl, refl)
both_told false ends e = absurd (cc)

pub bad_is_threat : (p : Procedure) (loops : List LoopInfo) (pc : ℕ) (r : RegionPath) → WaysGoAlongArcs → AreRegions p loops → IsLongPath p loops pc r
    → is_bad_behind p (leading_of loops pc) r ≡ true → IsThreat p loops pc r
bad_is_threat p loops pc r arcs regions k bad = by_stop r.stop refl
  where
    by_stop : (end : Stop) → r.stop ≡ end → IsThreat p loops pc r
    by_stop (stop.Head q) e = let x : true ≡ false = sym bad ∙ ap (λ s. is_some (bad_halt p (leading_of loops pc) s r.row.path)) e in absurd cc
    by_stop (stop.Halted h) e =
        let told = sym (ap (λ s. is_some (bad_halt p (leading_of loops pc) s r.row.path)) e ∙ some_told h (is_bad h) (ends_within p (leading_of loops pc) r.row.path)) ∙ bad in
        let both = both_told (is_bad h) (ends_within p (leading_of loops pc) r.row.path) told in
        record {
          path = k;
          bad = ap stops_badly e ∙ both.0;
          behind = λ w. let x : true ≡ false = sym ((ends_opening p loops pc r h arcs regions k e).1 w) ∙ both.1 in absurd cc;
        }

pub threat_is_bad : (p : Procedure) (loops : List LoopInfo) (pc : ℕ) (r : RegionPath) → WaysGoAlongArcs → AreRegions p loops → IsThreat p loops pc r
    → is_bad_behind p (leading_of loops pc) r ≡ true
threat_is_bad p loops pc r arcs regions t = by_stop r.stop refl
  where
    not_ends : (b : Bool) → (b ≡ true → ⊥) → b ≡ false
    not_ends true n = absurd (n refl)
    not_ends false n = refl

    by_stop : (end : Stop) → r.stop ≡ end → is_bad_behind p (leading_of loops pc) r ≡ true
    by_stop (stop.Head q) e = let x : true ≡ false = sym t.bad ∙ ap stops_badly e in absurd cc
    by_stop (stop.Halted h) e =
        let own : is_bad h ≡ true = sym (ap stops_badly e) ∙ t.bad in
        let past = not_ends (ends_within p (leading_of loops pc) r.row.path) (λ x. t.behind ((ends_opening p loops pc r h arcs regions t.path e).0 x)) in
        ap (λ s. is_some (bad_halt p (leading_of loops pc) s r.row.path)) e ∙ some_told h (is_bad h) (ends_within p (leading_of loops pc) r.row.path)
        ∙ ap (λ b. b && not (ends_within p (leading_of loops pc) r.row.path)) own ∙ ap not past

to_filter : (test : RegionPath → Bool) (xs : List RegionPath) (x : RegionPath) → IsIn xs x → test x ≡ true → IsIn (filter test xs) x
to_filter test [] x i e = absurd i
to_filter test (y ∷ xs) x (inl same) e = subst (λ b. IsIn (cond b (y ∷ filter test xs) (filter test xs)) x) (sym (ap test same ∙ e)) (inl same)
to_filter test (y ∷ xs) x (inr i) e = by_test (test y) (to_filter test xs x i e)
  where
    by_test : (b : Bool) → IsIn (filter test xs) x → IsIn (cond b (y ∷ filter test xs) (filter test xs)) x
    by_test true j = inr j
    by_test false j = j

ascend-filter : (test : RegionPath → Bool) (xs : List RegionPath) → Ascend xs → Ascend (filter test xs)
ascend-filter test [] a = tt
ascend-filter test (y ∷ xs) a = by_test (test y) (ascend-filter test xs a.1)
  where
    by_test : (b : Bool) → Ascend (filter test xs) → Ascend (cond b (y ∷ filter test xs) (filter test xs))
    by_test true k = (λ q i. a.0 q (from_filter test xs q i).0, k)
    by_test false k = k

-- the threats of a region are its hazards that halt badly behind its leading assertions
pub threats_filtered : (p : Procedure) (loops : List LoopInfo) (pc : ℕ) (rows : List RegionPath) → WaysGoAlongArcs → AreRegions p loops → ListsPaths (IsHazard p loops pc) rows
    → AreThreats p loops pc (filter (is_bad_behind p (leading_of loops pc)) rows)
threats_filtered p loops pc rows arcs regions l = record {
  ordered = ascend-filter (is_bad_behind p (leading_of loops pc)) rows l.ordered;
  each = λ r. (
    λ i.
        let t = from_filter (is_bad_behind p (leading_of loops pc)) rows r i in
        bad_is_threat p loops pc r arcs regions ((l.each r).0 t.0).0 t.1,
    λ t. to_filter (is_bad_behind p (leading_of loops pc)) rows r ((l.each r).1 (t.path, t.bad)) (threat_is_bad p loops pc r arcs regions t),
  );
}
