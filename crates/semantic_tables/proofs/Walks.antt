-- What a walk does at each kind of node.
use Rattle.std.proofs.Common.{◌≡◌, inl, inr, refl, sym, ap, ◌∙◌, subst, ℕ, zero, suc, ◌+◌, ◌*◌, ◌<◌, ◌≤◌, ◌^◌, Bool, true, false, Some, None, List, [], ◌∷◌, ◌++◌, map, length, slice_get, arith}
use Rattle.std.specs.Prelude.{slice_set, ◌-◌, take, MatchBool, Result, Ok, Err, IfOk, OnOk, All}
use Rattle.std.proofs.lemmas.Bool.{cases_lt}
use Rattle.std.proofs.lemmas.List.{map-append, length-append}
use Rattle.std.proofs.Math.Seq.{take-append_seam}
use Rattle.std.proofs.lemmas.Option.{slice_get_within}
use Rattle.il_core.specs.Procedure.{Procedure}
use Rattle.il_core.specs.declared.line.Next.TheVariants as next
use Rattle.il_core.specs.declared.line.Place.{Place}
use Rattle.il_core.specs.declared.line.Halt.{Halt}
use Rattle.il_core.specs.declared.line.Stop.{Stop}
use Rattle.il_core.specs.declared.line.Stop.TheVariants as stop
use Rattle.control_flow.specs.declared.control.LoopInfo.{LoopInfo}
use Rattle.sym_terms.specs.Tree.{Tree, tree_of}
use Rattle.sym_terms.specs.Measure.{weight, depth}
use Rattle.sym_terms.specs.Substitution.{substituted, HasPlacesBelow}
use Rattle.sym_terms.specs.Comparison.{Comparison, comparison_of, comparison_under, denied, ComparesPlacesBelow}
use Rattle.sym_terms.specs.Nodes.{tree_at, terms_of}
use Rattle.sym_terms.specs.declared.node.TermId.{TermId}
use Rattle.sym_terms.specs.declared.node.TermNode.{TermNode}
use Rattle.sym_terms.specs.declared.term.Term.{Term}
use Rattle.sym_terms.specs.declared.term.Literal.{Literal}
use Rattle.sym_terms.proofs.Composed.{places_substituted}
use Rattle.sym_simplify.specs.Literal.{LiteralForm, literal_form_of}
use Rattle.sym_simplify.specs.Easy.{IsKept}
use Rattle.sym_simplify.specs.Places.{HasLiteralPlacesBelow}
use Rattle.sym_simplify.specs.declared.normal.LitForm.{LitForm}
use Rattle.path_inputs.specs.Laws.{RefutedStaysRefuted}
use Rattle.test_graph.specs.Decision.{Change, Decision, done}
use Rattle.test_graph.specs.Way.{changed}
use Rattle.test_graph.specs.Places.{DecidesPlacesBelow}
use Rattle.test_graph.specs.Lowered.{Unfolds}
use Rattle.test_graph.specs.declared.graph.TestNode.TheVariants.{Test, Assign, AtLine, Stop as Halts}
use Rattle.region_paths.specs.Listing.{RegionPath}
use Rattle.region_paths.specs.PathTree.{PathTree, change, stops, begun, paths_down}
use Rattle.region_paths.proofs.Nodes.{at_test, at_assign, at_line, at_stop, node_there}
use Rattle.region_paths.proofs.Walking.{line_less}
use Rattle.semantic_tables.specs.Row.{comparison_form}
use Rattle.semantic_tables.specs.Walk.{explored_procedure, IsExploration, behind, tree_from, IsSmall, ComparesSmall, StaysSmall, Stands, IsOnward, IsEnvironment, AreSides, IsOneMore, AreForms, IsPrefix, IsSamePrefix, prefix_forms, comparison_at, is_long, IsLeftOut, LeftOut, Adds}
use Rattle.semantic_tables.specs.declared.exploration.Query.{Query}
use Rattle.semantic_tables.specs.declared.walking.Found.{Found}
use Rattle.semantic_tables.specs.declared.prefix.Sides.{Sides}
use Rattle.semantic_tables.specs.declared.prefix.Prefix.{Prefix}
use Rattle.semantic_tables.specs.declared.exploration.Exploration.{Exploration}
use Rattle.semantic_tables.specs.declared.segment.Segment.{Segment}
use Rattle.semantic_tables.specs.declared.segment.Segment.TheVariants.{Region, Leading}
use Rattle.semantic_tables.proofs.Kept.{adds_fork, adds_change}
use Rattle.semantic_tables.proofs.Environments.{forms_more, forms_same, all_below, all_kept}

-- fewer lines to go is less to do
pub fewer_less : (n k m a b : ℕ) → n < k → a < m → n * m + a < k * m + b
fewer_less n zero m a b h l = absurd (omega (arith, h))
fewer_less n (suc k) m a b h l = elim (cases_lt n k) [
  | inl low ↦ let e : suc k * m ≡ m + k * m = grind arith in omega (arith, e, fewer_less n k m a b low l)
  | inr high ↦ let same : n ≡ k = omega (arith, h, high) in subst (λ (x : ℕ). n * m + a < suc x * m + b) same (line_less n m a b l)
]

pub adds_as : (Out : List LiteralForm → Type 0) (query : Query) (p q : List Bool) (fs gs : List LiteralForm) (all every : List RegionPath) (old new : Found) → p ≡ q → fs ≡ gs → all ≡ every
    → Adds Out query p fs all old new → Adds Out query q gs every old new
adds_as Out query p q fs gs all every old new e f h a =
    subst (λ (x : List RegionPath). Adds Out query q gs x old new) h (subst (λ (x : List LiteralForm). Adds Out query q x all old new) f (subst (λ (x : List Bool). Adds Out query x fs all old new) e a))

begun_same : (rows : List RegionPath) → map (begun [] [] []) rows ≡ rows
begun_same [] = refl
begun_same (r ∷ rows) = ap (λ (x : List RegionPath). r ∷ x) (begun_same rows)

module _ (g : Exploration) (id : ℕ) (segment : Segment) (terms : List Tree) (k : IsExploration g) where
  -- what stands at the nodes that a test names
  pub stands_met : (literal : Literal) (met unmet : ℕ) → slice_get g.graph.now.nodes id ≡ Some (Test literal met unmet) → Stands g id segment terms → Stands g met segment terms
  stands_met literal met unmet e s =
      let t = at_test (explored_procedure g) g.graph.now id literal met unmet s.decision k.lowered e s.unfolds in
      let p = subst (DecidesPlacesBelow (length (explored_procedure g).places)) t.same s.places in
      let m = subst (λ (d : Decision). StaysSmall (tree_from g segment d) terms) t.same s.small in
      record { decision = t.on; unfolds = t.met_unfolds; places = p.1; small = m.1 }

  pub stands_unmet : (literal : Literal) (met unmet : ℕ) → slice_get g.graph.now.nodes id ≡ Some (Test literal met unmet) → Stands g id segment terms → Stands g unmet segment terms
  stands_unmet literal met unmet e s =
      let t = at_test (explored_procedure g) g.graph.now id literal met unmet s.decision k.lowered e s.unfolds in
      let p = subst (DecidesPlacesBelow (length (explored_procedure g).places)) t.same s.places in
      let m = subst (λ (d : Decision). StaysSmall (tree_from g segment d) terms) t.same s.small in
      record { decision = t.off; unfolds = t.unmet_unfolds; places = p.2; small = m.2 }

  pub compared : (literal : Literal) (met unmet : ℕ) → slice_get g.graph.now.nodes id ≡ Some (Test literal met unmet) → Stands g id segment terms
      → ComparesSmall (comparison_under terms (comparison_of literal)) × ComparesPlacesBelow (length (explored_procedure g).places) (comparison_of literal)
  compared literal met unmet e s =
      let t = at_test (explored_procedure g) g.graph.now id literal met unmet s.decision k.lowered e s.unfolds in
      let p = subst (DecidesPlacesBelow (length (explored_procedure g).places)) t.same s.places in
      let m = subst (λ (d : Decision). StaysSmall (tree_from g segment d) terms) t.same s.small in
      (m.0, p.0)

  -- what stands behind an assignment
  pub stands_then : (place : ℕ) (term : Term) (then : ℕ) → slice_get g.graph.now.nodes id ≡ Some (Assign place term then) → Stands g id segment terms
      → Stands g then segment (slice_set terms place (substituted terms (tree_of term)))
  stands_then place term then e s =
      let t = at_assign (explored_procedure g) g.graph.now id place term then s.decision k.lowered e s.unfolds in
      let m = subst (λ (d : Decision). StaysSmall (tree_from g segment d) terms) t.same s.small in
      record { decision = done None t.to; unfolds = t.unfolds; places = tt; small = (tt, m.1) }

  pub assigned : (place : ℕ) (term : Term) (then : ℕ) → slice_get g.graph.now.nodes id ≡ Some (Assign place term then) → Stands g id segment terms
      → (place < length (explored_procedure g).places) × HasPlacesBelow (length (explored_procedure g).places) (tree_of term) × IsSmall (substituted terms (tree_of term))
  assigned place term then e s =
      let t = at_assign (explored_procedure g) g.graph.now id place term then s.decision k.lowered e s.unfolds in
      let p = subst (DecidesPlacesBelow (length (explored_procedure g).places)) t.same s.places in
      let m = subst (λ (d : Decision). StaysSmall (tree_from g segment d) terms) t.same s.small in
      (p.0, p.1, m.0)

  -- what stands where a walk goes on behind a line
  pub stands_on : (q first to : ℕ) (left : ℕ) (segment_on : Segment) → slice_get g.graph.now.nodes id ≡ Some (AtLine q first)
      → IsOnward g left (behind (explored_procedure g) g.loops.now (is_long g.query) segment (next.At q)) to segment_on → Stands g id segment terms → Stands g to segment_on terms
  stands_on q first to left segment_on e o s =
      let d = at_line (explored_procedure g) g.graph.now id q first s.decision k.lowered e s.unfolds in
      let m = subst (λ (x : Decision). StaysSmall (tree_from g segment x) terms) d s.small in
      record { decision = o.decision; unfolds = o.unfolds; places = o.places; small = subst (λ (t : PathTree). StaysSmall t terms) o.same m.1 }

  pub node_within : (to left : ℕ) (tree : PathTree) (segment_on : Segment) → IsOnward g left tree to segment_on → to < length g.graph.now.nodes + 1
  node_within to left tree segment_on o =
      let there = node_there (explored_procedure g) g.graph.now to o.decision k.lowered o.unfolds in
      let low = slice_get_within g.graph.now.nodes to there.0 there.1 in
      omega (arith, low)

  module _ (path : List Bool) (fs : List LiteralForm) (old new : Found) (d : Decision) (u : Unfolds g.graph.now.nodes g.graph.now.entries id d) where
    -- the rows on both sides of a test
    pub fork_added : (literal : Literal) (met unmet : ℕ) (terms_met terms_unmet : List Tree) (path_unmet : List Bool) (fs_unmet : List LiteralForm) (f h : LiteralForm) (mid : Found)
        → slice_get g.graph.now.nodes id ≡ Some (Test literal met unmet) → terms_met ≡ terms → terms_unmet ≡ terms → path_unmet ≡ path → fs_unmet ≡ fs
        → f ≡ comparison_form (comparison_under terms (comparison_of literal)) → h ≡ comparison_form (comparison_under terms (denied (comparison_of literal)))
        → ((x : Decision) → Unfolds g.graph.now.nodes g.graph.now.entries met x → Adds (LeftOut g) g.query (path ++ true ∷ []) (fs ++ f ∷ []) (paths_down (tree_from g segment x) terms_met) old mid)
        → ((x : Decision) → Unfolds g.graph.now.nodes g.graph.now.entries unmet x → Adds (LeftOut g) g.query (path_unmet ++ false ∷ []) (fs_unmet ++ h ∷ []) (paths_down (tree_from g segment x) terms_unmet) mid new)
        → Adds (LeftOut g) g.query path fs (paths_down (tree_from g segment d) terms) old new
    fork_added literal met unmet terms_met terms_unmet path_unmet fs_unmet f h mid e a b p q i j on off =
        let t = at_test (explored_procedure g) g.graph.now id literal met unmet d k.lowered e u in
        let c = comparison_of literal in
        subst (λ (x : Decision). Adds (LeftOut g) g.query path fs (paths_down (tree_from g segment x) terms) old new) (sym t.same)
        (adds_fork (LeftOut g) g.query path fs c (tree_from g segment t.on) (tree_from g segment t.off) terms old mid new
        (adds_as (LeftOut g) g.query (path ++ true ∷ []) (path ++ true ∷ []) (fs ++ f ∷ []) (fs ++ comparison_form (comparison_under terms c) ∷ [])
        (paths_down (tree_from g segment t.on) terms_met) (paths_down (tree_from g segment t.on) terms) old mid refl (ap (λ (x : LiteralForm). fs ++ x ∷ []) i)
        (ap (paths_down (tree_from g segment t.on)) a) (on t.on t.met_unfolds))
        (adds_as (LeftOut g) g.query (path_unmet ++ false ∷ []) (path ++ false ∷ []) (fs_unmet ++ h ∷ []) (fs ++ comparison_form (comparison_under terms (denied c)) ∷ [])
        (paths_down (tree_from g segment t.off) terms_unmet) (paths_down (tree_from g segment t.off) terms) mid new (ap (λ (x : List Bool). x ++ false ∷ []) p)
        (ap (λ (x : List LiteralForm). x ++ h ∷ []) q ∙ ap (λ (x : LiteralForm). fs ++ x ∷ []) j)
        (ap (paths_down (tree_from g segment t.off)) b) (off t.off t.unmet_unfolds)))

    -- the rows behind an assignment
    pub assign_added : (place : ℕ) (term : Term) (then : ℕ) (terms_then : List Tree) → slice_get g.graph.now.nodes id ≡ Some (Assign place term then)
        → terms_then ≡ slice_set terms place (substituted terms (tree_of term))
        → ((x : Decision) → Unfolds g.graph.now.nodes g.graph.now.entries then x → Adds (LeftOut g) g.query path fs (paths_down (tree_from g segment x) terms_then) old new)
        → Adds (LeftOut g) g.query path fs (paths_down (tree_from g segment d) terms) old new
    assign_added place term then terms_then e a h =
        let t = at_assign (explored_procedure g) g.graph.now id place term then d k.lowered e u in
        let c : Change = record { place = place; term = tree_of term } in
        let rest = behind (explored_procedure g) g.loops.now (is_long g.query) segment t.to in
        subst (λ (x : Decision). Adds (LeftOut g) g.query path fs (paths_down (tree_from g segment x) terms) old new) (sym t.same)
        (adds_change (LeftOut g) g.query path fs (Some c) rest terms old new
        (adds_as (LeftOut g) g.query path path fs fs (paths_down (change None rest) terms_then) (paths_down rest (changed (Some c) terms)) old new refl refl
        (begun_same (paths_down rest terms_then) ∙ ap (paths_down rest) a) (h (done None t.to) t.unfolds)))

    -- the rows behind a line
    pub line_added : (q first to left : ℕ) (segment_on : Segment) → slice_get g.graph.now.nodes id ≡ Some (AtLine q first)
        → IsOnward g left (behind (explored_procedure g) g.loops.now (is_long g.query) segment (next.At q)) to segment_on
        → ((x : Decision) → Unfolds g.graph.now.nodes g.graph.now.entries to x → Adds (LeftOut g) g.query path fs (paths_down (tree_from g segment_on x) terms) old new)
        → Adds (LeftOut g) g.query path fs (paths_down (tree_from g segment d) terms) old new
    line_added q first to left segment_on e o h =
        let same = at_line (explored_procedure g) g.graph.now id q first d k.lowered e u in
        let rest = behind (explored_procedure g) g.loops.now (is_long g.query) segment (next.At q) in
        subst (λ (x : Decision). Adds (LeftOut g) g.query path fs (paths_down (tree_from g segment x) terms) old new) (sym same)
        (adds_change (LeftOut g) g.query path fs None rest terms old new
        (subst (λ (t : PathTree). Adds (LeftOut g) g.query path fs (paths_down t terms) old new) (sym o.same) (h o.decision o.unfolds)))

    pub line_stops : (q first : ℕ) (end : Stop) → slice_get g.graph.now.nodes id ≡ Some (AtLine q first)
        → behind (explored_procedure g) g.loops.now (is_long g.query) segment (next.At q) ≡ stops end
        → Adds (LeftOut g) g.query path fs (paths_down (stops end) terms) old new → Adds (LeftOut g) g.query path fs (paths_down (tree_from g segment d) terms) old new
    line_stops q first end e o h =
        let same = at_line (explored_procedure g) g.graph.now id q first d k.lowered e u in
        let rest = behind (explored_procedure g) g.loops.now (is_long g.query) segment (next.At q) in
        subst (λ (x : Decision). Adds (LeftOut g) g.query path fs (paths_down (tree_from g segment x) terms) old new) (sym same)
        (adds_change (LeftOut g) g.query path fs None rest terms old new
        (subst (λ (t : PathTree). Adds (LeftOut g) g.query path fs (paths_down t terms) old new) (sym o) h))

    pub halt_stops : (h : Halt) → slice_get g.graph.now.nodes id ≡ Some (Halts h)
        → Adds (LeftOut g) g.query path fs (paths_down (stops (stop.Halted h)) terms) old new → Adds (LeftOut g) g.query path fs (paths_down (tree_from g segment d) terms) old new
    halt_stops h e a =
        let same = at_stop (explored_procedure g) g.graph.now id h d k.lowered e u in
        let rest = behind (explored_procedure g) g.loops.now (is_long g.query) segment (next.Halted h) in
        subst (λ (x : Decision). Adds (LeftOut g) g.query path fs (paths_down (tree_from g segment x) terms) old new) (sym same)
        (adds_change (LeftOut g) g.query path fs None rest terms old new
        (subst (λ (t : PathTree). Adds (LeftOut g) g.query path fs (paths_down t terms) old new) (sym (halted (explored_procedure g) g.loops.now (is_long g.query) segment)) a))
      where
        halted : (p : Procedure) (loops : List LoopInfo) (long : Bool) (way : Segment) → behind p loops long way (next.Halted h) ≡ stops (stop.Halted h)
        halted p loops long (Region room) = refl
        halted p loops long (Leading at from) = refl

-- the sides of a comparison under an environment
pub sides_new : (n : ℕ) (old new : List TermNode) (env : List TermId) (s : Sides) (c : Comparison) → IsEnvironment n old env → s.left.index < length new → s.right.index < length new
    → comparison_at new s ≡ comparison_under (terms_of old env) c → ComparesSmall (comparison_under (terms_of old env) c) → AreSides n new s
sides_new n old new env s c e l r same small = record {
  compared = record { left = l; right = r; small = subst ComparesSmall (sym same) small };
  places = subst (ComparesPlacesBelow n) (sym same) (places_substituted n (terms_of old env) c.left e.places, places_substituted n (terms_of old env) c.right e.places);
}

-- the same sides with another relation
pub sides_denied : (n : ℕ) (nodes : List TermNode) (s o : Sides) → o.left ≡ s.left → o.right ≡ s.right → AreSides n nodes s → AreSides n nodes o
sides_denied n nodes s o e f a = record {
  compared = record {
    left = subst (λ (i : TermId). i.index < length nodes) (sym e) a.compared.left;
    right = subst (λ (i : TermId). i.index < length nodes) (sym f) a.compared.right;
    small = subst (λ (i : TermId). (weight (tree_at nodes i) + weight (tree_at nodes o.right) < 2 ^ 100) × (depth (tree_at nodes i) ≤ 1000) × (depth (tree_at nodes o.right) ≤ 1000)) (sym e)
        (subst (λ (i : TermId). (weight (tree_at nodes s.left) + weight (tree_at nodes i) < 2 ^ 100) × (depth (tree_at nodes s.left) ≤ 1000) × (depth (tree_at nodes i) ≤ 1000)) (sym f) a.compared.small);
  };
  places = (subst (λ (i : TermId). HasPlacesBelow n (tree_at nodes i)) (sym e) a.places.0, subst (λ (i : TermId). HasPlacesBelow n (tree_at nodes i)) (sym f) a.places.1);
}

-- a prefix with one literal more
pub prefix_added : (n : ℕ) (nodes : List TermNode) (old new : Prefix) (s : Sides) → IsPrefix n nodes old → AreSides n nodes s → new.sides.items ≡ old.sides.items ++ s ∷ []
    → IsOneMore (comparison_form (comparison_at nodes s)) old.literals.items new.literals.items
    → IsPrefix n nodes new × (prefix_forms new ≡ prefix_forms old ++ comparison_form (comparison_at nodes s) ∷ [])
prefix_added n nodes old new s h a e m =
    let f = comparison_form (comparison_at nodes s) in
    let forms : prefix_forms new ≡ prefix_forms old ++ f ∷ [] =
    ap (map literal_form_of) m.last ∙ map-append literal_form_of old.literals.items (m.literal ∷ []) ∙ ap (λ (x : LiteralForm). prefix_forms old ++ x ∷ []) m.form in (
      subst (AreForms n nodes new.sides.items) (sym forms)
          (subst (λ (x : List Sides). AreForms n nodes x (prefix_forms old ++ f ∷ [])) (sym e)
          (forms_more n nodes old.sides.items (prefix_forms old) s f h (record { sides = a; form = refl; kept = m.kept }))),
      forms,
    )

-- the literals of a prefix, read from their sides
pub read_forms : (n : ℕ) (nodes : List TermNode) (x : Prefix) (sides : List Sides) (ls : List LitForm) → IsPrefix n nodes x → sides ≡ x.sides.items
    → map literal_form_of ls ≡ map (λ (s : Sides). comparison_form (comparison_at nodes s)) sides → map literal_form_of ls ≡ prefix_forms x
read_forms n nodes x sides ls k e f = f ∙ ap (map (λ (s : Sides). comparison_form (comparison_at nodes s))) e ∙ forms_same n nodes x.sides.items (prefix_forms x) k

pub read_sound : (n : ℕ) (nodes : List TermNode) (x : Prefix) (ls : List LitForm) → IsPrefix n nodes x → map literal_form_of ls ≡ prefix_forms x
    → All (λ (l : LitForm). HasLiteralPlacesBelow n (literal_form_of l)) ls × All (λ (l : LitForm). IsKept (literal_form_of l)) ls
read_sound n nodes x ls k e =
    let forms = subst (AreForms n nodes x.sides.items) (sym e) k in
    (all_below n nodes x.sides.items ls forms, all_kept n nodes x.sides.items ls forms)

pub prefix_same : (n : ℕ) (nodes : List TermNode) (old new : Prefix) → IsSamePrefix old new → IsPrefix n nodes old → IsPrefix n nodes new
prefix_same n nodes old new same h =
    subst (λ (x : List Sides). AreForms n nodes x (prefix_forms new)) (sym same.sides)
    (subst (AreForms n nodes old.sides.items) (sym (ap (map literal_form_of) same.literals)) h)

stays_out : RefutedStaysRefuted → (long : Bool) (places : List Place) (pc : ℕ) (fs more : List LiteralForm) → IsLeftOut long places pc fs → IsLeftOut long places pc (fs ++ more)
stays_out law true places pc fs more h = h
stays_out law false places pc fs more h = law places pc fs more h

-- what is left out stays so, whatever literals follow
pub out_stays : RefutedStaysRefuted → (g : Exploration) (fs more : List LiteralForm) → LeftOut g fs → LeftOut g (fs ++ more)
out_stays law g fs more h = stays_out law (is_long g.query) g.proc.now.places g.line fs more h

pub if_true : (b : Bool) (P Q : Type 0) → MatchBool b P Q → b ≡ true → P
if_true true P Q h e = h
if_true false P Q h e = absurd (cc)

pub if_false : (b : Bool) (P Q : Type 0) → MatchBool b P Q → b ≡ false → Q
if_false true P Q h e = absurd (cc)
if_false false P Q h e = h

-- a list without its last element
pub front : {A : Type 0} (xs ys : List A) (x : A) → ys ≡ xs ++ x ∷ [] → take (length ys - 1) ys ≡ xs
front xs ys x e =
    let size : length ys - 1 ≡ length xs = omega (arith, ap length e, length-append xs (x ∷ [])) in
    ap (λ (n : ℕ). take n ys) size ∙ ap (take (length xs)) e ∙ take-append_seam xs (x ∷ [])

pub same_prefix : (x : Prefix) → IsSamePrefix x x
same_prefix x = record { path = refl; sides = refl; literals = refl }

pub ok_from : {A E : Type 0} (r : Result A E) (P : Type 0) (Q : A → Type 0) → OnOk r P → (P → (x : A) → Q x) → IfOk r Q
ok_from (Ok x) P Q h f = f h x
ok_from (Err e) P Q h f = tt
