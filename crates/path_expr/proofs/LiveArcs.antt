-- The arcs that leave reachable lines, and the paths along them.
use Rattle.std.proofs.Common.{◌≡◌, ◌≢◌, ◌⊎◌, inl, inr, refl, sym, ap, ◌∙◌, subst, ℕ, zero, suc, ◌+◌, ◌-◌, ◌<◌, ◌≤◌, Bool, true, false, Option, Some, List, [], ◌∷◌, ◌++◌, length, map, slice_get, get_or, arith}
use Rattle.std.specs.Prelude.{Result, Ok, Err, IfOk}
use Rattle.std.specs.List.Sorted.{IsStrictlyIncreasing}
use Rattle.std.proofs.lemmas.Bool.{cases_lt}
use Rattle.std.proofs.lemmas.List.{length_push, length-map}
use Rattle.std.proofs.lemmas.Option.{slice_get_within, same_Some, slice_get-get_or, get_or_from_slice_get}
use Rattle.std.proofs.Math.ListN.{get_or-append}
use Rattle.std.proofs.Math.Seq.{get_or-append_seam}
use Rattle.il_core.specs.LineGraph.{IsIn}
use Rattle.il_core.specs.declared.memory.NoMemory.{NoMemory}
use Rattle.flow_graph.specs.declared.graph.Arc.{Arc}
use Rattle.flow_graph.specs.declared.graph.FlowGraph.{FlowGraph}
use Rattle.flow_graph.specs.Graph.{arc_to, arc_count, heads_from, Joins, IsWellFormed}
use Rattle.flow_graph.specs.Search.{IsMarked}
use Rattle.flow_graph.specs.Reached as reached
use Rattle.flow_graph.specs.Reached.{Lists, IsReached, IsInner, IsInnerOrder}
use Rattle.flow_graph.proofs.Spreading.{walk_on, walk_keeps}
use Rattle.flow_graph.proofs.LineArcs.{heads_from-Joins}
use Rattle.regular_algebra.specs.declared.steps.Ends.{Ends}
use Rattle.regular_algebra.specs.declared.steps.Step.{Step}
use Rattle.regular_algebra.specs.Paths.{IsArc, Path}
use Rattle.regular_algebra.specs.Words.{HasWord, EachNamesLower}
use Rattle.regular_algebra.specs.Answers.{IsAmong, Differ, FitsArcs, IsAnswer, AreAnswers, IsNumberBelow, AnswersBelow}
use Rattle.regular_algebra.proofs.Values.{get-some}
use Rattle.flow_graph.proofs.Members.{IsIn-push_cases, IsIn-push, IsIn-append_left, IsIn-get_or}
use Rattle.path_expr.specs.declared.report.PathReport.{PathReport}
use Rattle.path_expr.specs.Live.{LeavesMarked}
use Rattle.path_expr.specs.ArcPath.{IsArcOf, IsArcPath}
use Rattle.path_expr.specs.Definitions.{AreDefinitions}
use Rattle.path_expr.specs.Report.{IsLive, end_at, WordsArePaths}
use Rattle.path_expr.proofs.Words.{whole_words}

-- the numbers of the first k arcs that leave a marked line, ascending
pub record LiveBelow (arcs : List Arc) (marks : List Bool) (bound : ℕ) (live : List ℕ) : Type 0 where
  pub ascending : IsStrictlyIncreasing live
  pub low : (k : ℕ) → IsIn live k → k < bound
  pub sound : (k : ℕ) → IsIn live k → LeavesMarked arcs marks k
  pub whole : (k : ℕ) → k < bound → LeavesMarked arcs marks k → IsIn live k

pub live_start : (arcs : List Arc) (marks : List Bool) → LiveBelow arcs marks 0 []
live_start arcs marks = record { ascending = λ k l. absurd (omega arith); low = λ k h. absurd h; sound = λ k h. absurd h; whole = λ k l h. absurd (omega arith) }

-- the mark of an arc that leaves a marked line
leaves_at : (arcs : List Arc) (marks : List Bool) (i : ℕ) (d : Arc) → LeavesMarked arcs marks i → IsMarked marks (get_or arcs i d).tail
leaves_at arcs marks i d h = let e = get_or_from_slice_get arcs i h.0 d h.1 in subst (λ (a : Arc). IsMarked marks a.tail) (sym e) h.2

pub live_skip : (arcs : List Arc) (marks : List Bool) (i : ℕ) (d : Arc) (live : List ℕ) → i < length arcs → LiveBelow arcs marks i live
    → get_or marks (get_or arcs i d).tail false ≡ false → LiveBelow arcs marks (i + 1) live
live_skip arcs marks i d live l b f = record {
  ascending = b.ascending;
  low = λ k h. let m = b.low k h in omega arith;
  sound = b.sound;
  whole = λ k m h. elim (cases_lt k i) [
    | inl low ↦ b.whole k low h
    | inr high ↦
        let same : k ≡ i = omega arith in
        let t : get_or marks (get_or arcs i d).tail false ≡ true = leaves_at arcs marks i d (subst (LeavesMarked arcs marks) same h) in
        absurd (cc)
  ];
}

-- an ascending list goes on with a greater number
pub ascends_on : (xs : List ℕ) (y : ℕ) → IsStrictlyIncreasing xs → ((k : ℕ) → IsIn xs k → k < y) → IsStrictlyIncreasing (xs ++ y ∷ [])
ascends_on xs y a low k l =
    let e = length_push xs y in
    elim (cases_lt (k + 1) (length xs)) [
      | inl inside ↦
          let g = get_or-append xs (y ∷ []) 0 k (omega arith) in
          let h = get_or-append xs (y ∷ []) 0 (k + 1) inside in
          let s = a k inside in
          omega (arith, g, h, s)
      | inr last ↦
          let at : k + 1 ≡ length xs = omega arith in
          let g = get_or-append xs (y ∷ []) 0 k (omega arith) in
          let h : get_or (xs ++ y ∷ []) (k + 1) 0 ≡ y = subst (λ (x : ℕ). get_or (xs ++ y ∷ []) x 0 ≡ y) (sym at) (get_or-append_seam xs y [] 0) in
          let s = low (get_or xs k 0) (IsIn-get_or xs k 0 (omega arith)) in
          omega (arith, g, h, s)
    ]

pub live_more : (arcs : List Arc) (marks : List Bool) (i : ℕ) (d : Arc) (live now : List ℕ) → i < length arcs → LiveBelow arcs marks i live
    → get_or marks (get_or arcs i d).tail false ≡ true → now ≡ live ++ i ∷ [] → LiveBelow arcs marks (i + 1) now
live_more arcs marks i d live now l b f is = subst (LiveBelow arcs marks (i + 1)) (sym is) (record {
  ascending = ascends_on live i b.ascending b.low;
  low = λ k h. elim (IsIn-push_cases live i k h) [ inl old ↦ (let m = b.low k old in omega arith) | inr same ↦ omega arith ];
  sound = λ k h. elim (IsIn-push_cases live i k h) [
    | inl old ↦ b.sound k old
    | inr same ↦ subst (LeavesMarked arcs marks) same (get_or arcs i d, slice_get-get_or arcs i d l, f)
  ];
  whole = λ k m h. elim (cases_lt k i) [
    | inl low ↦ IsIn-append_left live (i ∷ []) k (b.whole k low h)
    | inr high ↦ let same : i ≡ k = omega arith in subst (IsIn (live ++ i ∷ [])) same (IsIn-push live i)
  ];
})

pub live_end : (arcs : List Arc) (marks : List Bool) (bound : ℕ) (live : List ℕ) → length arcs ≤ bound → LiveBelow arcs marks bound live
    → Lists (LeavesMarked arcs marks) live
live_end arcs marks bound live l b = record {
  ascending = b.ascending;
  exact = λ k. (b.sound k, λ h. b.whole k (let w = slice_get_within arcs k h.0 h.1 in omega arith) h);
}

-- an element of a mapped list is what one of the list is mapped to
mapped : {X Y : Type 0} (f : X → Y) (xs : List X) (k : ℕ) (y : Y) → slice_get (map f xs) k ≡ Some y → (x : X) × (slice_get xs k ≡ Some x) × (f x ≡ y)
mapped f [] k y e = absurd (cc)
mapped f (x ∷ xs) zero y e = (x, refl, same_Some (f x) y e)
mapped f (x ∷ xs) (suc k) y e = mapped f xs k y e

-- the element of a mapped list at an element's place
mapped_at : {X Y : Type 0} (f : X → Y) (xs : List X) (k : ℕ) (x : X) → slice_get xs k ≡ Some x → slice_get (map f xs) k ≡ Some (f x)
mapped_at f [] k x e = absurd (cc)
mapped_at f (y ∷ xs) zero x e = ap (λ z. Some (f z)) (same_Some y x e)
mapped_at f (y ∷ xs) (suc k) x e = mapped_at f xs k x e

-- the place of a member
place_of : {X : Type 0} (xs : List X) (x : X) → IsIn xs x → (k : ℕ) × (slice_get xs k ≡ Some x)
place_of [] x h = absurd h
place_of (y ∷ xs) x (inl e) = (0, ap Some e)
place_of (y ∷ xs) x (inr h) = let t = place_of xs x h in (suc t.0, t.1)

member_of : {X : Type 0} (xs : List X) (k : ℕ) (x : X) → slice_get xs k ≡ Some x → IsIn xs x
member_of [] k x e = absurd (cc)
member_of (y ∷ xs) zero x e = inl (same_Some y x e)
member_of (y ∷ xs) (suc k) x e = inr (member_of xs k x e)

some_member : {X : Type 0} (xs : List X) (x : X) → IsIn xs x → 0 < length xs
some_member [] x h = absurd h
some_member (y ∷ xs) x h = omega arith

-- the two ways to say that a number is in a list
among : (xs : List ℕ) (x : ℕ) → IsIn xs x → IsAmong xs x
among [] x h = h
among (y ∷ xs) x (inl e) = inl e
among (y ∷ xs) x (inr h) = inr (among xs x h)

is_in : (xs : List ℕ) (x : ℕ) → IsAmong xs x → IsIn xs x
is_in [] x h = h
is_in (y ∷ xs) x (inl e) = inl e
is_in (y ∷ xs) x (inr h) = inr (is_in xs x h)

differ : (xs : List ℕ) → reached.Differ xs → Differ xs
differ [] d = d
differ (x ∷ xs) d = ((λ h. d.0 (is_in xs x h)), differ xs d.1)

module _ (g : FlowGraph) (formed : IsWellFormed g) where
  pub reached_inside : (k : ℕ) → IsReached g.arcs k → k < length g.nodes
  reached_inside k w =
      let s = formed.some_nodes in
      walk_keeps (Joins g.arcs) (λ j. j < length g.nodes) (λ a b l j. (formed.arcs (arc_to a b) j).head_inside) 0 w.0 k w.1 (omega arith)

  -- no arc leaves the last line
  last_stays : (i m : ℕ) → Joins g.arcs i m → i + 1 ≡ length g.nodes → ⊥
  last_stays i m j e =
      let s = get-some g.nodes i (omega arith) in
      let n = formed.nodes i s.0 s.1 in
      let k : length (heads_from g.arcs i) ≡ 0 = n.arcs_leave ∙ ap arc_count (n.last.1 e) in
      let l = some_member (heads_from g.arcs i) m (heads_from-Joins g.arcs i m j) in
      omega (arith, k, l)

  next_reached : (i m : ℕ) → IsReached g.arcs i → Joins g.arcs i m → IsReached g.arcs m
  next_reached i m w j = (w.0 ++ m ∷ [], walk_on (Joins g.arcs) 0 w.0 i m w.1 j)

  module _ (live : List ℕ) (all : Lists (IsLive g.arcs) live) where
    -- an arc of the plan is an arc of the graph that leaves a reachable line
    live_arc : (k i m : ℕ) → IsArc (map (end_at g.arcs) live) k i m
        → (c : ℕ) × (slice_get live k ≡ Some c) × (slice_get g.arcs c ≡ Some (arc_to i m)) × IsReached g.arcs i
    live_arc k i m e =
        let t = mapped (end_at g.arcs) live k (record { tail = i; head = m }) e in
        let l = (all.exact t.0).0 (member_of live k t.0 t.1) in
        let d = get_or_from_slice_get g.arcs t.0 l.0 (arc_to 0 0) l.1 in
        let tail_is : l.0.tail ≡ i = ap (λ (a : Arc). a.tail) (sym d) ∙ ap (λ (x : Ends). x.tail) t.2 in
        let head_is : l.0.head ≡ m = ap (λ (a : Arc). a.head) (sym d) ∙ ap (λ (x : Ends). x.head) t.2 in
        (t.0, t.1, l.1 ∙ ap Some (same_arc l.0 i m tail_is head_is), subst (IsReached g.arcs) tail_is l.2)
      where
        same_arc : (a : Arc) (i m : ℕ) → a.tail ≡ i → a.head ≡ m → a ≡ arc_to i m
        same_arc a i m e f = rw (← e, ← f) refl

    -- and the other way round
    arc_live : (c i m : ℕ) → slice_get g.arcs c ≡ Some (arc_to i m) → IsReached g.arcs i
        → (k : ℕ) × (slice_get live k ≡ Some c) × IsArc (map (end_at g.arcs) live) k i m
    arc_live c i m e w =
        let t = place_of live c ((all.exact c).1 (arc_to i m, e, w)) in
        let d = get_or_from_slice_get g.arcs c (arc_to i m) (arc_to 0 0) e in
        let s : end_at g.arcs c ≡ record { tail = i; head = m } = ap (λ (a : Arc). record { tail = a.tail; head = a.head }) d in
        (t.0, t.1, mapped_at (end_at g.arcs) live t.0 c t.1 ∙ ap Some s)

    number_is : (k c : ℕ) → slice_get live k ≡ Some c → get_or live k 0 + 1 ≡ suc c
    number_is k c e = let f = get_or_from_slice_get live k c 0 e in omega arith

    -- a path of the plan's arcs is one of the graph's
    arcs_from_path : (i : ℕ) (x : List ℕ) (j : ℕ) → Path (map (end_at g.arcs) live) i x j → IsArcPath g.arcs i (map (λ k. get_or live k 0 + 1) x) j
    arcs_from_path i [] j p = p
    arcs_from_path i (k ∷ x) j p =
        let t = live_arc k i p.0 p.1 in
        (p.0, subst (λ (y : ℕ). IsArcOf g.arcs y i p.0) (sym (number_is k t.0 t.1)) t.2, arcs_from_path p.0 x j p.2)

    path_from_arcs : (i : ℕ) (w : List ℕ) (j : ℕ) → IsReached g.arcs i → IsArcPath g.arcs i w j
        → (x : List ℕ) × Path (map (end_at g.arcs) live) i x j × (w ≡ map (λ k. get_or live k 0 + 1) x)
    path_from_arcs i [] j r p = ([], p, refl)
    path_from_arcs i (zero ∷ w) j r p = absurd p.1
    path_from_arcs i (suc c ∷ w) j r p =
        let t = arc_live c i p.0 p.1 r in
        let n = path_from_arcs p.0 w j (next_reached i p.0 r (member_of g.arcs c (arc_to i p.0) p.1)) p.2 in
        (t.0 ∷ n.0, (p.0, t.2, n.1), both_same (suc c) (get_or live t.0 0 + 1) w (map (λ k. get_or live k 0 + 1) n.0) (sym (number_is t.0 c t.1)) n.2)
      where
        both_same : (a b : ℕ) (x y : List ℕ) → a ≡ b → x ≡ y → a ∷ x ≡ b ∷ y
        both_same a b x y e f = rw (e, f) refl

    -- the question that the plan is asked fits the graph
    pub fits : (order : List ℕ) → IsInnerOrder g order → FitsArcs (length g.nodes) (map (end_at g.arcs) live) order 0 ((length g.nodes - 1) ∷ [])
    fits order inner = record {
      arcs_below = λ k i j e. let t = live_arc k i j e in let s = formed.arcs (arc_to i j) (member_of g.arcs t.0 (arc_to i j) t.2) in (s.tail_inside, s.head_inside);
      order_below = λ x h. reached_inside x (in_order x h).0;
      start_below = some;
      targets_below = λ x h. let e = only_last x h in omega (arith, some);
      targets_differ = ((λ h. h), tt);
      order_differs = differ order inner.once;
      start_no_target = λ h. let e = only_last 0 h in let s = formed.some_nodes in omega arith;
      start_not_in_order = λ h. (in_order 0 h).1 refl;
      targets_not_in_order = λ t h o. let e = only_last t h in (in_order t o).2 (omega (arith, some));
      heads = λ k i j e. let t = live_arc k i j e in enters j (next_reached i j t.3 (joins t.0 i j t.2)) (formed.arcs (arc_to i j) (joins t.0 i j t.2)).enters_no_start;
      tails = λ k i j e. let t = live_arc k i j e in leaves i j t.3 (joins t.0 i j t.2);
    }
      where
        some : 0 < length g.nodes
        some = let s = formed.some_nodes in omega arith

        only_last : (x : ℕ) → IsAmong ((length g.nodes - 1) ∷ []) x → x ≡ length g.nodes - 1
        only_last x (inl e) = sym e
        only_last x (inr h) = absurd h

        in_order : (x : ℕ) → IsAmong order x → IsInner g x
        in_order x h = (inner.exact x).0 (is_in order x h)

        joins : (c i j : ℕ) → slice_get g.arcs c ≡ Some (arc_to i j) → Joins g.arcs i j
        joins c i j e = member_of g.arcs c (arc_to i j) e

        enters : (j : ℕ) → IsReached g.arcs j → j ≢ 0 → IsAmong ((length g.nodes - 1) ∷ []) j ⊎ IsAmong order j
        enters j w n = elim (cases_lt (j + 1) (length g.nodes)) [
          | inl more ↦ inr (among order j ((inner.exact j).1 (w, n, λ e. omega arith)))
          | inr end ↦ let l = reached_inside j w in inl (inl (omega arith))
        ]

        leaves : (i j : ℕ) → IsReached g.arcs i → Joins g.arcs i j → (i ≡ 0) ⊎ IsAmong order i
        leaves zero j w a = inl refl
        leaves (suc i) j w a = inr (among order (suc i) ((inner.exact (suc i)).1 (w, (λ e. omega arith), λ e. last_stays (suc i) j a e)))

    -- the words of the whole are the paths
    pub words_are_paths : (steps : List Step) (answer : Option ℕ) (p : PathReport)
        → IsAnswer (map (end_at g.arcs) live) steps 0 (length g.nodes - 1) answer → EachNamesLower (length live) steps
        → IsNumberBelow (length live + length steps) answer → AreDefinitions live steps answer p.defs p.whole → WordsArePaths g p
    words_are_paths steps answer p a low below d w =
        let h = whole_words live steps answer p.defs p.whole d low below w in
        let n : length (map (end_at g.arcs) live) ≡ length live = length-map live (end_at g.arcs) in (
          (λ x.
              let r = h.0 x in
              let e = (a.words r.x).0 (subst (λ (m : ℕ). HasWord m steps answer r.x) (sym n) r.word) in
              subst (λ (z : List ℕ). IsArcPath g.arcs 0 z (length g.nodes - 1)) (sym r.is) (arcs_from_path 0 r.x (length g.nodes - 1) e)),
          λ x.
              let t = path_from_arcs 0 w (length g.nodes - 1) ([], refl) x in
              let e = (a.words t.0).1 t.1 in
              h.1 (record { x = t.0; word = subst (λ (m : ℕ). HasWord m steps answer t.0) n e; is = t.2 }),
        )

-- the same of lists that equal those of the graph
pub fits_for : (g : FlowGraph) → IsWellFormed g → (live : List ℕ) → Lists (IsLive g.arcs) live → (order : List ℕ) → IsInnerOrder g order
    → (arcs : List Arc) (made ends : List Ends) (count : ℕ) → arcs ≡ g.arcs → made ≡ map (end_at arcs) live → ends ≡ made → count ≡ length g.nodes
    → FitsArcs count ends order 0 ((count - 1) ∷ [])
fits_for g formed live all order inner arcs made ends count a m e c = rw (e, m, a, c) (fits g formed live all order inner)

ends_long : (g : FlowGraph) (live : List ℕ) (arcs : List Arc) (made ends : List Ends) → made ≡ map (end_at arcs) live → ends ≡ made → length ends ≡ length live
ends_long g live arcs made ends m e = rw (e, m) (length-map live (end_at arcs))

-- the one answer of a plan is the number of one of its values
pub one_below : (g : FlowGraph) (live : List ℕ) (arcs : List Arc) (made ends : List Ends) (steps shown : List Step) (answers seen : List (Option ℕ)) (answer : Option ℕ)
    → made ≡ map (end_at arcs) live → ends ≡ made → shown ≡ steps → seen ≡ answers → seen ≡ answer ∷ []
    → AnswersBelow (length ends + length steps) answers → IsNumberBelow (length live + length shown) answer
one_below g live arcs made ends steps shown answers seen answer m e s a o below =
    let n : length ends + length steps ≡ length live + length shown = omega (arith, ends_long g live arcs made ends m e, ap length s) in
    subst (λ (k : ℕ). IsNumberBelow k answer) n (below 0 answer (ap (λ (xs : List (Option ℕ)). slice_get xs 0) (sym a ∙ o)))

-- the words of a report are the paths
pub words_for : (g : FlowGraph) → IsWellFormed g → (live : List ℕ) → Lists (IsLive g.arcs) live → (arcs : List Arc) (made ends : List Ends) (count : ℕ)
    (steps shown : List Step) (answers seen : List (Option ℕ)) (answer : Option ℕ)
    → arcs ≡ g.arcs → made ≡ map (end_at arcs) live → ends ≡ made → count ≡ length g.nodes → shown ≡ steps → seen ≡ answers → seen ≡ answer ∷ []
    → AreAnswers ends steps 0 ((count - 1) ∷ []) answers → EachNamesLower (length ends) steps → AnswersBelow (length ends + length steps) answers
    → (result : Result PathReport NoMemory) → IfOk result (λ p. AreDefinitions live shown answer p.defs p.whole) → IfOk result (λ p. WordsArePaths g p)
words_for g formed live all arcs made ends count steps shown answers seen answer a m e c s x o are low below (Err z) h = h
words_for g formed live all arcs made ends count steps shown answers seen answer a m e c s x o are low below (Ok p) h =
    words_are_paths g formed live all steps answer p is (subst (λ (k : ℕ). EachNamesLower k steps) (ends_long g live arcs made ends m e) low)
    (subst (λ (t : List Step). IsNumberBelow (length live + length t) answer) s (one_below g live arcs made ends steps shown answers seen answer m e s x o below))
    (subst (λ (t : List Step). AreDefinitions live t answer p.defs p.whole) s h)
  where
    ends_are : ends ≡ map (end_at g.arcs) live
    ends_are = rw (← a) (e ∙ m)

    is : IsAnswer (map (end_at g.arcs) live) steps 0 (length g.nodes - 1) answer
    is =
        subst (λ (es : List Ends). IsAnswer es steps 0 (length g.nodes - 1) answer) ends_are
        (subst (λ (k : ℕ). IsAnswer ends steps 0 (k - 1) answer) c
        (subst (λ (xs : List (Option ℕ)). AreAnswers ends steps 0 ((count - 1) ∷ []) xs) (sym x ∙ o) are).0)
