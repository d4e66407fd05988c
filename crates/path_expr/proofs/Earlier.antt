-- The definitions of a path report name earlier ones, since a step names lower values and the definitions stand in the order of the
-- steps.
use Rattle.std.proofs.Common.{◌≡◌, refl, sym, ◌∙◌, inl, inr, subst, ℕ, zero, suc, ◌+◌, ◌-◌, ◌<◌, ◌≤◌, Bool, true, false, Option, Some, None, List, [], ◌∷◌, length, map, slice_get, get_or, arith}
use Rattle.std.proofs.lemmas.Bool.{cases_lt}
use Rattle.std.proofs.lemmas.List.{length-map}
use Rattle.std.proofs.lemmas.Option.{slice_get_within, same_Some}
use Rattle.flow_graph.specs.Graph.{IsWellFormed}
use Rattle.flow_graph.specs.Reached.{IsInnerOrder}
use Rattle.flow_graph.specs.Search.{IsMarked}
use Rattle.flow_graph.specs.declared.graph.FlowGraph.{FlowGraph}
use Rattle.regular_algebra.specs.Words.{EachNamesLower}
use Rattle.regular_algebra.specs.Answers.{IsNumberBelow}
use Rattle.regular_algebra.specs.Rule.{finished}
use Rattle.regular_algebra.specs.Run.{Names}
use Rattle.regular_algebra.specs.declared.steps.Step.{Step}
use Rattle.regular_algebra.specs.declared.steps.Step.TheVariants.{Plus, Times, Star}
use Rattle.regular_algebra.proofs.Planned.{planned-lower, planned-below}
use Rattle.regular_algebra.proofs.Uses.{named-lower}
use Rattle.regular_algebra.proofs.Values.{get-some}
use Rattle.path_expr.specs.declared.report.PathReport.{PathReport}
use Rattle.path_expr.specs.declared.report.Ref.{Ref}
use Rattle.path_expr.specs.declared.report.Def.{Def}
use Rattle.path_expr.specs.Word.{IsDef}
use Rattle.path_expr.specs.Definitions.{IsUsed, itself, a_side, rank, def_of, whole_of, AreDefinitions}
use Rattle.path_expr.specs.Report.{IsPathReportOf, end_at}
use Rattle.path_expr.specs.Laws.{IsAmongFirst, NamesAmongFirst, NamesEarlier}
use Rattle.path_expr.proofs.Ranks.{rank_yes, rank_no}
use Rattle.path_expr.proofs.Words.{reference, ref_arc, ref_def}
use Rattle.path_expr.proofs.LiveArcs.{fits}

-- one step more has as many marked ones before it, or one more
rank_up : (used : List Bool) (i : ℕ) → i < length used → rank used i ≤ rank used (i + 1)
rank_up used i l = by (get_or used i false) refl
  where
    by : (b : Bool) → get_or used i false ≡ b → rank used i ≤ rank used (i + 1)
    by true e = let h = rank_yes used i l e in omega arith
    by false e = let h = rank_no used i l e in omega arith

-- and so have more steps
rank_rises : (used : List Bool) (i n : ℕ) → i + n ≤ length used → rank used i ≤ rank used (i + n)
rank_rises used i zero l = let e : i ≡ i + 0 = omega arith in subst (λ (x : ℕ). rank used i ≤ rank used x) e (omega arith)
rank_rises used i (suc n) l =
    let h = rank_rises used i n (omega arith) in
    let t = rank_up used (i + n) (omega arith) in
    let e : i + n + 1 ≡ i + suc n = omega arith in
    subst (λ (x : ℕ). rank used i ≤ rank used x) e (omega (arith, h, t))

-- a marked step has fewer marked ones before it than each later step
rank_before : (used : List Bool) (i j : ℕ) → IsMarked used i → i < j → j ≤ length used → rank used i + 1 ≤ rank used j
rank_before used i j m l h =
    let y = rank_yes used i (omega arith) m in
    let e : i + 1 + (j - (i + 1)) ≡ j = omega arith in
    let r = subst (λ (x : ℕ). rank used (i + 1) ≤ rank used x) e (rank_rises used (i + 1) (j - (i + 1)) (omega arith)) in
    omega (arith, y, r)

-- a marked step below n with k marked ones before it
abbrev Marked : List Bool → ℕ → ℕ → Type 0
Marked used n k = (j : ℕ) × (j < n) × IsMarked used j × (rank used j ≡ k)

marked_next : (used : List Bool) (n k : ℕ) → n < length used → k < rank used (n + 1) → (k < rank used n → Marked used n k) → Marked used (suc n) k
marked_next used n k l h before = by (get_or used n false) refl
  where
    lower : k < rank used n → Marked used (suc n) k
    lower m = let t = before m in (t.0, omega (arith, t.1), t.2, t.3)

    by : (b : Bool) → get_or used n false ≡ b → Marked used (suc n) k
    by true e = elim (cases_lt k (rank used n)) [ inl m ↦ lower m | inr m ↦ let y = rank_yes used n l e in (n, omega arith, e, omega arith) ]
    by false e = let y = rank_no used n l e in lower (omega arith)

-- each definition is that of a marked step
marked_at : (used : List Bool) (n k : ℕ) → n ≤ length used → k < rank used n → Marked used n k
marked_at used zero k l h = absurd (omega arith)
marked_at used (suc n) k l h =
    let e : suc n ≡ n + 1 = omega arith in
    marked_next used n k (omega arith) (subst (λ (x : ℕ). k < rank used x) e h) (λ m. marked_at used n k (omega arith) m)

module _ (live : List ℕ) (steps : List Step) (answer : Option ℕ) (defs : List Def) (whole : Ref) (d : AreDefinitions live steps answer defs whole)
    (low : EachNamesLower (length live) steps) where
  -- a value that is used is an arc, or the definition of a step with fewer marked ones before it
  among : (v j : ℕ) → IsUsed (length live) steps answer v → v < length live + j → j ≤ length steps
      → IsAmongFirst (rank d.used j) (reference live steps answer defs whole d low v)
  among v j u l h = elim (cases_lt v (length live)) [
    | inl arc ↦ subst (IsAmongFirst (rank d.used j)) (sym (ref_arc live steps answer defs whole d low v arc)) tt
    | inr made ↦
        let s = d.marks.size in
        let e : v ≡ length live + (v - length live) = omega arith in
        let m = (d.marks.exact (v - length live)).1 (omega arith, subst (IsUsed (length live) steps answer) e u) in
        let r = rank_before d.used (v - length live) j m (omega arith) (omega arith) in
        subst (IsAmongFirst (rank d.used j)) (sym (ref_def live steps answer defs whole d low v made (omega arith))) (omega arith, omega (arith, r))
  ]

  -- a step's definition names those of marked steps before it
  sides : (j : ℕ) (s : Step) → slice_get steps j ≡ Some s → ((v : ℕ) → Names s v → IsAmongFirst (rank d.used j) (reference live steps answer defs whole d low v))
      → NamesAmongFirst (rank d.used j) (def_of (reference live steps answer defs whole d low) s)
  sides j (Plus a b) g f = (f a (inl refl), f b (inr refl))
  sides j (Times a b) g f = (f a (inl refl), f b (inr refl))
  sides j (Star a) g f = f a refl

  each : (k : ℕ) (q : Def) → IsDef defs k q → NamesAmongFirst k q
  each k q i =
      let s = d.marks.size in
      let w = slice_get_within defs k q i in
      let z = d.size in
      let t = marked_at d.used (length steps) k (omega arith) (omega arith) in
      let g = get-some steps t.0 t.1 in
      let e = d.each t.0 g.0 t.2 g.1 in
      let same : q ≡ def_of (reference live steps answer defs whole d low) g.0 =
      same_Some q (def_of (reference live steps answer defs whole d low) g.0) (sym i ∙ subst (λ (x : ℕ). slice_get defs x ≡ Some (def_of (reference live steps answer defs whole d low) g.0)) t.3 e) in
      subst (NamesAmongFirst k) (sym same)
      (subst (λ (x : ℕ). NamesAmongFirst x (def_of (reference live steps answer defs whole d low) g.0)) t.3
      (sides t.0 g.0 g.1
      (λ v n. among v t.0 (used_by t.0 g.0 v t.2 g.1 n) (named-lower (length live) steps low t.0 g.0 g.1 v n) (omega (arith, t.1)))))
    where
      used_by : (j : ℕ) (s : Step) (v : ℕ) → IsMarked d.used j → slice_get steps j ≡ Some s → Names s v → IsUsed (length live) steps answer v
      used_by j s v m g n =
          let e : length live + j - length live ≡ j = omega arith in
          a_side (length live + j) v s ((d.marks.exact j).0 m).1
          (record { after = omega arith; stands = subst (λ (x : ℕ). slice_get steps x ≡ Some s) (sym e) g }) n

  whole_among : IsNumberBelow (length live + length steps) answer → IsAmongFirst (length defs) whole
  whole_among b = subst (λ (x : ℕ). IsAmongFirst x whole) (sym d.size) (subst (IsAmongFirst (rank d.used (length steps))) (sym d.whole_is) (by answer refl b))
    where
      by : (o : Option ℕ) → answer ≡ o → IsNumberBelow (length live + length steps) o
          → IsAmongFirst (rank d.used (length steps)) (whole_of (reference live steps answer defs whole d low) o)
      by None e l = tt
      by (Some v) e l = among v (length steps) (itself v e) l (omega arith)

pub earlier_ones : (g : FlowGraph) (order : List ℕ) (p : PathReport) → IsWellFormed g → IsInnerOrder g order → IsPathReportOf g order p → NamesEarlier p
earlier_ones g order p formed inner r =
    let f = fits g formed r.live r.all_live order inner in
    let n = length-map r.live (end_at g.arcs) in
    let made = finished (length g.nodes) (map (end_at g.arcs) r.live) order in
    let low = subst (λ (x : ℕ). EachNamesLower x made.steps) n
    (planned-lower (length g.nodes) (map (end_at g.arcs) r.live) order 0 ((length g.nodes - 1) ∷ []) f made.steps refl) in
    let below = planned-below (length g.nodes) (map (end_at g.arcs) r.live) order 0 ((length g.nodes - 1) ∷ []) f made.steps refl
    (map (λ t. made.entry 0 t) ((length g.nodes - 1) ∷ [])) refl 0 (made.entry 0 (length g.nodes - 1)) refl in
    record {
      each = each r.live made.steps (made.entry 0 (length g.nodes - 1)) p.defs p.whole r.definitions low;
      whole = whole_among r.live made.steps (made.entry 0 (length g.nodes - 1)) p.defs p.whole r.definitions low
          (subst (λ (x : ℕ). IsNumberBelow (x + length made.steps) (made.entry 0 (length g.nodes - 1))) n below);
    }
