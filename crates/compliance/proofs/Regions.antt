-- The threats of the regions, one region after the other.
use Rattle.std.proofs.Common.{◌≡◌, inl, inr, refl, sym, ap, ◌∙◌, subst, ℕ, zero, suc, ◌+◌, Bool, true, false, cond, eqb, Some, None, List, [], ◌∷◌, ◌++◌, map, take, slice_get, get_or, filter, append-nil, append_assoc, arith}
use Rattle.std.specs.Prelude.{All}
use Rattle.std.proofs.lemmas.Bool.Decides.{eqb_tells}
use Rattle.std.proofs.lemmas.List.{take_more, map-append}
use Rattle.std.proofs.lemmas.List.Kept.{AllPairs-from_increasing}
use Rattle.std.proofs.lemmas.Option.{slice_get-get_or, slice_get_within, get_or_from_slice_get}
use Rattle.il_core.specs.LineGraph.{IsIn}
use Rattle.il_core.specs.Procedure.{Procedure}
use Rattle.il_core.specs.Checked.{IsChecked}
use Rattle.il_core.specs.Run.{is_bad}
use Rattle.control_flow.specs.Control.{heads_of}
use Rattle.control_flow.specs.declared.control.LoopInfo.{LoopInfo}
use Rattle.test_graph.specs.Laws.{WaysGoAlongArcs}
use Rattle.region_paths.specs.Region.{AreRegions, first_lines, leading_of}
use Rattle.region_paths.specs.Listing.{RegionPath}
use Rattle.region_paths.specs.Laws.{BeginsRegion}
use Rattle.region_paths.specs.Size.{IsPast}
use Rattle.region_paths.specs.declared.limit.Limit.{Limit}
use Rattle.region_paths.proofs.Walking.{in_at}
use Rattle.semantic_tables.specs.Hazards.{NormalHazard, hazard_of, normal_hazard, stops_badly, IsHazard, AreHazardsOf, HasLeast}
use Rattle.semantic_tables.specs.declared.hazard.Hazard.{Hazard}
use Rattle.compliance.specs.Behind.{is_bad_behind, IsHazardBehind, IsRegionTold, AddsRegion, AddsTold}
use Rattle.compliance.specs.Opening.{opened_by}
use Rattle.compliance.specs.Safe.{AreThreatsOf}
use Rattle.compliance.specs.declared.threat.Threat.{Threat}
use Rattle.compliance.proofs.Openings.{start_not_opened}
use Rattle.compliance.proofs.Following.{Rise, rises}
use Rattle.compliance.proofs.Told.{path_at, tested}
use Rattle.compliance.proofs.BadPaths.{threats_filtered, bad_is_threat}

-- a hazard halts badly
halts_badly : (p : Procedure) (loops : List LoopInfo) (pc : ℕ) (hazard : Hazard) (r : RegionPath) → hazard_of hazard ≡ normal_hazard r → IsHazard p loops pc r → is_bad hazard.halt ≡ true
halts_badly p loops pc hazard r e h = ap (λ (x : NormalHazard). stops_badly x.stop) e ∙ h.1

-- each hazard is a threat unless it comes to its end in the leading assertions
pub hazards_behind : (p : Procedure) (loops : List LoopInfo) (pc : ℕ) (lines : List ℕ) (hazards : List Hazard) → WaysGoAlongArcs → BeginsRegion p loops pc → lines ≡ leading_of loops pc
    → AreHazardsOf (IsHazard p loops pc) hazards → All (HasLeast p.places pc) hazards → All (IsHazardBehind p pc lines) hazards
hazards_behind p loops pc lines hazards arcs b same k least = λ j d low.
    let u = path_at hazards k.0 j (get_or hazards j d) k.2 (slice_get-get_or hazards j d low) in
    let hazard = (k.1.each u.path).0 (in_at k.0 j u.path u.there) in
    let bad = halts_badly p loops pc (get_or hazards j d) u.path u.told hazard in
    record {
      bad = bad;
      threat = λ behind.
          let told = ap (λ xs. is_bad_behind p xs u.path) (sym same) ∙ tested p lines (get_or hazards j d) u.path false u.told bad behind in
          record { loops = loops; begins = b; path = u.path; threat = bad_is_threat p loops pc u.path arcs b.regions hazard.0 told; told = u.told };
      least = least j d low;
    }

-- a region past its size adds none
pub adds_none : (p : Procedure) (loops : List LoopInfo) (pc : ℕ) (limit : Limit) (found : List Threat) → IsPast p loops pc (Some limit) → AddsRegion p loops pc found found
adds_none p loops pc limit found k = ([], sym (append-nil found), record { past = Some limit; size = k; listed = refl })

-- a region within its size adds its threats
pub adds_threats : (p : Procedure) (loops : List LoopInfo) (pc : ℕ) (lines : List ℕ) (hazards : List Hazard) (before after : List Threat) → WaysGoAlongArcs → AreRegions p loops
    → lines ≡ leading_of loops pc → IsPast p loops pc None → AreHazardsOf (IsHazard p loops pc) hazards
    → ((paths : List RegionPath) → map hazard_of hazards ≡ map normal_hazard paths → AddsTold p pc (filter (is_bad_behind p lines) paths) before after) → AddsRegion p loops pc before after
adds_threats p loops pc lines hazards before after arcs regions same size k told =
    let a = told k.0 k.2 in
    let all = subst (λ xs. AddsTold p pc (filter (is_bad_behind p xs) k.0) before after) same a in
    (all.0, all.1, record { past = None; size = size; listed = (filter (is_bad_behind p (leading_of loops pc)) k.0, threats_filtered p loops pc k.0 arcs regions k.1, all.2) })

-- the threats of one region more
threats_push : (p : Procedure) (loops : List LoopInfo) (lines : List ℕ) (ts : List Threat) (pc : ℕ) (here : List Threat) → AreThreatsOf p loops lines ts → IsRegionTold p loops pc here
    → AreThreatsOf p loops (lines ++ pc ∷ []) (ts ++ here)
threats_push p loops [] ts pc here k h = (here, [], ap (λ xs. xs ++ here) k ∙ sym (append-nil here), h.past, h.size, h.listed, refl)
threats_push p loops (q ∷ lines) ts pc here k h = (
  k.0,
  k.1 ++ here,
  ap (λ xs. xs ++ here) k.2 ∙ append_assoc k.0 k.1 here,
  k.3,
  k.4,
  k.5,
  threats_push p loops lines k.1 pc here k.6 h,
)

pub first_region : (p : Procedure) (loops : List LoopInfo) (before after : List Threat) → before ≡ [] → AddsRegion p loops 0 before after → AreThreatsOf p loops (first_lines []) after
first_region p loops before after none a = (a.0, [], a.1 ∙ ap (λ xs. xs ++ a.0) none ∙ sym (append-nil a.0), a.2.past, a.2.size, a.2.listed, refl)

-- the first lines of one loop more
lines_more : (loops : List LoopInfo) (k : ℕ) (l : LoopInfo) → slice_get loops k ≡ Some l → first_lines (take (k + 1) loops) ≡ first_lines (take k loops) ++ l.head ∷ []
lines_more loops k l at =
    let more : take (k + 1) loops ≡ take k loops ++ l ∷ [] =
    take_more loops k l (slice_get_within loops k l at) ∙ ap (λ y. take k loops ++ y ∷ []) (get_or_from_slice_get loops k l l at) in
    ap (λ xs. 0 ∷ heads_of xs) more ∙ ap (λ xs. 0 ∷ xs) (map-append (λ (x : LoopInfo). x.head) (take k loops) (l ∷ []))

pub region_more : (p : Procedure) (loops : List LoopInfo) (k : ℕ) (l : LoopInfo) (before after : List Threat) → slice_get loops k ≡ Some l
    → AreThreatsOf p loops (first_lines (take k loops)) before → AddsRegion p loops l.head before after → AreThreatsOf p loops (first_lines (take (k + 1) loops)) after
region_more p loops k l before after at b a =
    subst (λ xs. AreThreatsOf p loops xs after) (sym (lines_more loops k l at))
    (subst (AreThreatsOf p loops (first_lines (take k loops) ++ l.head ∷ [])) (sym a.1) (threats_push p loops (first_lines (take k loops)) before l.head a.0 b a.2))

-- line 0 is no head, so that it leads nowhere
pub start_leads_none : (p : Procedure) (loops : List LoopInfo) → IsChecked p → AreRegions p loops → [] ≡ leading_of loops 0
start_leads_none p loops c regions = by_lines (leading_of loops 0) refl
  where
    either : (t : Bool) (a : ℕ) (lines : List ℕ) → IsIn (cond t (a ∷ lines) (0 ∷ a ∷ lines)) a
    either true a lines = inl refl
    either false a lines = inr (inl refl)

    by_lines : (lines : List ℕ) → leading_of loops 0 ≡ lines → [] ≡ lines
    by_lines [] e = refl
    by_lines (a ∷ lines) e =
        let i : IsIn (opened_by 0 (a ∷ lines)) a = either (eqb a 0) a lines in
        absurd (start_not_opened p loops a c regions (subst (λ xs. IsIn (opened_by 0 xs) a) (sym e) i))

head_in : (loops : List LoopInfo) (k : ℕ) (l : LoopInfo) → slice_get loops k ≡ Some l → IsIn (heads_of loops) l.head
head_in [] k l e = absurd (cc)
head_in (m ∷ loops) zero l e = inl (let same : m ≡ l = cc in ap (λ (x : LoopInfo). x.head) same)
head_in (m ∷ loops) (suc k) l e = inr (head_in loops k l e)

pub head_first : (loops : List LoopInfo) (k : ℕ) (l : LoopInfo) → slice_get loops k ≡ Some l → IsIn (first_lines loops) l.head
head_first loops k l e = inr (head_in loops k l e)

lead_at : (loops : List LoopInfo) (k : ℕ) (l : LoopInfo) → Rise (heads_of loops) → slice_get loops k ≡ Some l → l.leading ≡ leading_of loops l.head
lead_at [] k l r e = absurd (cc)
lead_at (m ∷ loops) zero l r e =
    let same : m ≡ l = cc in
    elim (eqb_tells m.head l.head) [
      | inl own ↦ sym (ap (λ t. cond t m.leading (leading_of loops l.head)) own.0 ∙ ap (λ (x : LoopInfo). x.leading) same)
      | inr other ↦ absurd (other.1 (ap (λ (x : LoopInfo). x.head) same))
    ]
lead_at (m ∷ loops) (suc k) l r e =
    let above = r.0 l.head (head_in loops k l e) in
    elim (eqb_tells m.head l.head) [
      | inl own ↦ let same = own.1 in absurd (omega (arith, above, same))
      | inr other ↦ lead_at loops k l r.1 e ∙ sym (ap (λ t. cond t m.leading (leading_of loops l.head)) other.0)
    ]

-- the leading assertions of a loop are those of its head
pub loop_leads : (p : Procedure) (loops : List LoopInfo) (k : ℕ) (l : LoopInfo) → AreRegions p loops → slice_get loops k ≡ Some l → l.leading ≡ leading_of loops l.head
loop_leads p loops k l regions e = lead_at loops k l (rises (heads_of loops) (AllPairs-from_increasing (heads_of loops) regions.loops_of.heads.ascending)) e
