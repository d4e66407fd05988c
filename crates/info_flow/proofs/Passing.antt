-- A pass over the lines from the last to the first: what stays true after each line.
use Rattle.std.proofs.Common.{◌≡◌, inl, inr, sym, ℕ, ◌-◌, ◌<◌, ◌≤◌, Bool, true, false, List, length, arith}
use Rattle.std.proofs.lemmas.Bool.{cases_lt, false≢true}
use Rattle.flow_graph.specs.declared.graph.FlowGraph.{FlowGraph}
use Rattle.info_flow.specs.Growth.{IsSettled, IsGrown, room_of}

pub record Passing (g : FlowGraph) (v room : ℕ) (changed : Bool) (lines : List Bool) (masks : List ℕ) (line : ℕ) : Type 0 where
  pub grown : IsGrown g v lines masks
  pub settled : changed ≡ false → (k : ℕ) → line ≤ k → k < length g.nodes → IsSettled g lines masks k
  pub less : changed ≡ true → room_of lines masks < room
  pub no_more : room_of lines masks ≤ room

pub passing_start : (g : FlowGraph) (v n : ℕ) (lines : List Bool) (masks : List ℕ) → n ≡ length g.nodes → IsGrown g v lines masks
    → Passing g v (room_of lines masks) false lines masks n
passing_start g v n lines masks e w = record {
  grown = w;
  settled = λ f k l m. absurd (omega arith);
  less = λ f. absurd (false≢true f);
  no_more = omega arith;
}

-- a line that changed nothing
pub passing_same : (g : FlowGraph) (v room : ℕ) (changed : Bool) (lines now : List Bool) (masks made : List ℕ) (line : ℕ) → 0 < line → now ≡ lines → made ≡ masks
    → IsSettled g now made (line - 1) → Passing g v room changed lines masks line → Passing g v room changed now made (line - 1)
passing_same g v room changed lines now masks made line l e f s w = record {
  grown = rw (e, f) w.grown;
  settled = λ c k m n. elim (cases_lt k line) [
    | inl here ↦ let same : line - 1 ≡ k = omega arith in rw same at s
    | inr later ↦ rw (e, f) (w.settled c k later n)
  ];
  less = λ c. rw (e, f) (w.less c);
  no_more = rw (e, f) w.no_more;
}

-- a line that changed something
pub passing_less : (g : FlowGraph) (v room : ℕ) (changed : Bool) (lines now : List Bool) (masks made : List ℕ) (line : ℕ) → IsGrown g v now made
    → room_of now made < room_of lines masks → Passing g v room changed lines masks line → Passing g v room true now made (line - 1)
passing_less g v room changed lines now masks made line w l p = let m = p.no_more in record {
  grown = w;
  settled = λ c. absurd (false≢true (sym c));
  less = λ c. omega arith;
  no_more = omega arith;
}
