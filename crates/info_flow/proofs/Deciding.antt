-- A round of questions about tests, from the last line to the first: what stays true after each line.
use Rattle.std.proofs.Common.{◌≡◌, inl, inr, refl, sym, ◌∙◌, ℕ, ◌+◌, ◌-◌, ◌<◌, ◌≤◌, Bool, true, false, cond, List, [], ◌∷◌, length, set, arith}
use Rattle.std.specs.Prelude.{not}
use Rattle.std.proofs.lemmas.Bool.{cases_lt, false≢true}
use Rattle.std.proofs.lemmas.List.{length-set}
use Rattle.std.proofs.lemmas.List.Sums.{sum_by-set}
use Rattle.flow_graph.specs.declared.graph.FlowGraph.{FlowGraph}
use Rattle.flow_graph.specs.Search.{IsMarked, IsUnmarked}
use Rattle.disjoint_paths.specs.Pair.{LeadsTo, HasPair}
use Rattle.info_flow.specs.declared.sets.Sets.{Sets}
use Rattle.info_flow.specs.Growth.{IsDeciding, IsDecided, IsGrown, room_of}
use Rattle.info_flow.proofs.Growing.{at_set}

-- a pair of paths into a set is one into each set that holds it
leads_more : (E : ℕ → ℕ → Type 0) (P Q : ℕ → Type 0) → ((x : ℕ) → P x → Q x) → (t : ℕ) (lines : List ℕ) → LeadsTo E P t lines → LeadsTo E Q t lines
leads_more E P Q f t [] h = h
leads_more E P Q f t (b ∷ lines) h = (h.0, h.1, f h.0 h.2)

pair_more : (E : ℕ → ℕ → Type 0) (P Q : ℕ → Type 0) → ((x : ℕ) → P x → Q x) → (t : ℕ) → HasPair E P t → HasPair E Q t
pair_more E P Q f t h = (
  h.0,
  h.1,
  record {
    left_leads = leads_more E P Q f t h.0 h.2.left_leads;
    right_leads = leads_more E P Q f t h.1 h.2.right_leads;
    apart = h.2.apart;
  },
)

-- a test that has a pair gets its mark
pub grown_line : (g : FlowGraph) (v : ℕ) (lines : List Bool) (masks : List ℕ) (k : ℕ) → k < length g.nodes → IsGrown g v lines masks → IsDeciding g lines k
    → IsGrown g v (set lines k true) masks
grown_line g v lines masks k l w d = record {
  lines_size = length-set lines k true ∙ w.lines_size;
  masks_size = w.masks_size;
  last = λ j e. (at_set (λ i b. i + 1 ≡ length g.nodes → b ≡ true) lines k true false inside (λ h. refl) (λ i h. (w.last i h).0) j e, (w.last j e).1);
  low_lines = λ relevant needs c.
      at_set (λ i b. b ≡ true → relevant i ≡ true) lines k true false inside
      (λ h. c.tested k d.0 (pair_more _ (IsMarked lines) (λ x. relevant x ≡ true) (w.low_lines relevant needs c) k d.1)) (w.low_lines relevant needs c);
  low_places = w.low_places;
}
  where
    inside : k < length lines
    inside = rw w.lines_size l

pub less_marks : (lines : List Bool) (masks : List ℕ) (k : ℕ) → k < length lines → IsUnmarked lines k → room_of (set lines k true) masks < room_of lines masks
less_marks lines masks k l u =
    let s = sum_by-set (λ b. cond (not b) 1 0) lines k true false l in
    let t = rw u at s in
    omega (arith, t)

pub record Choosing (g : FlowGraph) (v : ℕ) (asked : List Bool) (start : Sets) (changed : Bool) (now : Sets) (line : ℕ) : Type 0 where
  pub grown : IsGrown g v now.lines.items now.needs.items
  pub same : changed ≡ false → now ≡ start
  pub decided : changed ≡ false → (k : ℕ) → line ≤ k → k < length g.nodes → IsMarked asked k → IsDecided g now.lines.items k
  pub less : changed ≡ true → room_of now.lines.items now.needs.items < room_of start.lines.items start.needs.items
  pub no_more : room_of now.lines.items now.needs.items ≤ room_of start.lines.items start.needs.items

pub choosing_start : (g : FlowGraph) (v : ℕ) (asked : List Bool) (s : Sets) → IsGrown g v s.lines.items s.needs.items → Choosing g v asked s false s (length g.nodes)
choosing_start g v asked s w = record {
  grown = w;
  same = λ f. refl;
  decided = λ f k l m a. absurd (omega arith);
  less = λ f. absurd (false≢true f);
  no_more = omega arith;
}

-- a line that is decided
pub choosing_same : (g : FlowGraph) (v : ℕ) (asked : List Bool) (start : Sets) (changed : Bool) (now : Sets) (line : ℕ) → 0 < line
    → (IsMarked asked (line - 1) → IsDecided g now.lines.items (line - 1)) → Choosing g v asked start changed now line → Choosing g v asked start changed now (line - 1)
choosing_same g v asked start changed now line l d w = record {
  grown = w.grown;
  same = w.same;
  decided = λ c k m n a. elim (cases_lt k line) [
    | inl here ↦ let same : line - 1 ≡ k = omega arith in rw same at (d (rw same a))
    | inr later ↦ w.decided c k later n a
  ];
  less = w.less;
  no_more = w.no_more;
}

-- a line that gets its mark
pub choosing_more : (g : FlowGraph) (v : ℕ) (asked : List Bool) (start : Sets) (changed : Bool) (now more : Sets) (line : ℕ) → 0 < line → line ≤ length g.nodes
    → IsDeciding g now.lines.items (line - 1) → IsUnmarked now.lines.items (line - 1) → more.lines.items ≡ set now.lines.items (line - 1) true → more.needs.items ≡ now.needs.items
    → Choosing g v asked start changed now line → Choosing g v asked start true more (line - 1)
choosing_more g v asked start changed now more line l m d u e f w =
    let size = w.grown.lines_size in
    let n : line - 1 < length now.lines.items = omega arith in
    let r = less_marks now.lines.items now.needs.items (line - 1) n u in
    let o = w.no_more in
    let fall : room_of more.lines.items more.needs.items < room_of start.lines.items start.needs.items = rw (e, f) (omega (arith, r, o)) in
    record {
      grown = rw (e, f) (grown_line g v now.lines.items now.needs.items (line - 1) (omega arith) w.grown d);
      same = λ c. absurd (false≢true (sym c));
      decided = λ c. absurd (false≢true (sym c));
      less = λ c. fall;
      no_more = omega (arith, fall);
    }
