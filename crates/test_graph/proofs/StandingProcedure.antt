-- The graph of a procedure grows line by line.
use Rattle.std.proofs.Common.{◌≡◌, ◌≢◌, refl, sym, ap, subst, ◌∙◌, ℕ, zero, suc, ◌+◌, ◌<◌, ◌≤◌, Option, Some, None, List, [], ◌∷◌, ◌++◌, map, length, slice_get, slice_set, length-set, length-append, inl, inr, arith}
use Rattle.std.proofs.lemmas.List.{length-map}
use Rattle.std.proofs.lemmas.Bool.Decides.{eqb_tells}
use Rattle.std.proofs.lemmas.Option.{slice_get-map, slice_get_within}
use Rattle.std.specs.Option.{option_map}
use Rattle.il_core.specs.Procedure.{Procedure, instruction_of}
use Rattle.il_core.specs.Checked.{NamedProcedure, IsChecked, FitsAt, procedure_of}
use Rattle.il_core.specs.declared.line.Place.{Place}
use Rattle.il_core.specs.declared.line.Line.{Line}
use Rattle.il_core.specs.declared.line.Next.{Next}
use Rattle.il_core.specs.declared.line.Next.TheVariants.{At, Halted}
use Rattle.test_graph.specs.Decision.{Change, Decision, ask, done, decision_of, decision_there, decision_at}
use Rattle.test_graph.specs.Lowered.{LeadsTo, Changes, Unfolds, NamesLower, IsLowered}
use Rattle.test_graph.specs.Standing.{Grows, Fall, Stands, AreOwn, AreLowered, begun, numbers}
use Rattle.test_graph.specs.declared.graph.TestNode.{TestNode}
use Rattle.test_graph.specs.declared.graph.TestNode.TheVariants.{Test, Assign, AtLine, Stop}
use Rattle.test_graph.specs.declared.graph.TestGraph.{TestGraph}
use Rattle.test_graph.proofs.Standing.{stands_kept}

set-same : (xs : List TestNode) (k : ℕ) (x : TestNode) → k < length xs → slice_get (slice_set xs k x) k ≡ Some x
set-same [] k x h = absurd (omega arith)
set-same (y ∷ ys) zero x h = refl
set-same (y ∷ ys) (suc k) x h = set-same ys k x (omega arith)

set-other : (xs : List TestNode) (k j : ℕ) (x : TestNode) → j ≢ k → slice_get (slice_set xs k x) j ≡ slice_get xs j
set-other [] k j x n = refl
set-other (y ∷ ys) zero zero x n = absurd (n refl)
set-other (y ∷ ys) zero (suc j) x n = refl
set-other (y ∷ ys) (suc k) zero x n = refl
set-other (y ∷ ys) (suc k) (suc j) x n = set-other ys k j x (λ e. n (ap suc e))

-- a node that is not a line's is not replaced
abbrev pub KeepsOthers : List TestNode → List TestNode → Type 0
KeepsOthers old new = (id : ℕ) (node : TestNode) → ((pc first : ℕ) → node ≡ AtLine pc first → ⊥) → slice_get old id ≡ Some node → slice_get new id ≡ Some node

leads-others : (entries : List ℕ) (old new : List TestNode) (id : ℕ) (next : Next) → KeepsOthers old new → LeadsTo old entries id next → LeadsTo new entries id next
leads-others entries old new id (At q) k h = h
leads-others entries old new id (Halted x) k h = k id (Stop x) (λ pc first e. absurd (cc)) h

changes-others : (entries : List ℕ) (old new : List TestNode) (id : ℕ) (c : Option Change) (next : Next) → KeepsOthers old new → Changes old entries id c next
    → Changes new entries id c next
changes-others entries old new id None next k h = leads-others entries old new id next k h
changes-others entries old new id (Some c) next k h =
    (h.0, h.1, k id (Assign c.place h.0 h.1) (λ pc first e. absurd (cc)) h.2, h.3, leads-others entries old new h.1 next k h.4)

unfolds-others : (entries : List ℕ) (old new : List TestNode) (id : ℕ) (d : Decision) → KeepsOthers old new → Unfolds old entries id d → Unfolds new entries id d
unfolds-others entries old new id (ask c met unmet) k h =
    (h.0, h.1, h.2, k id (Test h.0 h.1 h.2) (λ pc first e. absurd (cc)) h.3, h.4, unfolds-others entries old new h.1 met k h.5, unfolds-others entries old new h.2 unmet k h.6)
unfolds-others entries old new id (done c next) k h = changes-others entries old new id c next k h

-- the line's node replaced by one that names the line's first node
keeps-others : (nodes : List TestNode) (k first other : ℕ) → slice_get nodes k ≡ Some (AtLine k other) → KeepsOthers nodes (slice_set nodes k (AtLine k first))
keeps-others nodes k first other there id node n h = elim (eqb_tells id k) [
  | inl same ↦
      let e : Some node ≡ Some (AtLine k other) = sym h ∙ ap (slice_get nodes) same.1 ∙ there in
      absurd (n k other (some-same node (AtLine k other) e))
  | inr differ ↦ set-other nodes k id (AtLine k first) differ.1 ∙ h
]
  where
    some-same : (x y : TestNode) → Some x ≡ Some y → x ≡ y
    some-same x y e = cc

-- one line more
pub one_line_more : (p : Procedure) (count pc first : ℕ) (n0 n1 : List TestNode) → pc < count → AreLowered p count pc n0 → Grows n0 n1 → Fall n1
    → ((entries : List ℕ) → AreOwn count entries → Stands entries n1 first (decision_at p pc)) → AreLowered p count (pc + 1) (slice_set n1 pc (AtLine pc first))
one_line_more p count pc first n0 n1 below l g f s =
    record {
      lines = record { long = omega (arith, length-set n1 pc (AtLine pc first), l.lines.long, g.longer); each = each_line };
      falls = record { each = falls };
      each = each_lowered;
    }
  where
    there : (k : ℕ) → k < count → (other : ℕ) × (slice_get n1 k ≡ Some (AtLine k other))
    there k h = let t = l.lines.each k h in (t.0, g.kept k (AtLine k t.0) t.1)

    inside : pc < length n1
    inside = omega (arith, l.lines.long, g.longer)

    others : KeepsOthers n1 (slice_set n1 pc (AtLine pc first))
    others = let t = there pc below in keeps-others n1 pc first t.0 t.1

    each_line : (k : ℕ) → k < count → (other : ℕ) × (slice_get (slice_set n1 pc (AtLine pc first)) k ≡ Some (AtLine k other))
    each_line k h = elim (eqb_tells k pc) [
      | inl same ↦ (first, rw (same.1) (set-same n1 pc (AtLine pc first) inside))
      | inr differ ↦ let t = there k h in (t.0, set-other n1 pc k (AtLine pc first) differ.1 ∙ t.1)
    ]

    falls : (id : ℕ) (node : TestNode) → slice_get (slice_set n1 pc (AtLine pc first)) id ≡ Some node → NamesLower id node
    falls id node h = elim (eqb_tells id pc) [
      | inl same ↦
          let e : Some (AtLine pc first) ≡ Some node = sym (set-same n1 pc (AtLine pc first) inside) ∙ ap (slice_get (slice_set n1 pc (AtLine pc first))) (sym same.1) ∙ h in
          subst (λ (x : TestNode). NamesLower id x) (some-same (AtLine pc first) node e) tt
      | inr differ ↦ f.each id node (sym (set-other n1 pc id (AtLine pc first) differ.1) ∙ h)
    ]
      where
        some-same : (x y : TestNode) → Some x ≡ Some y → x ≡ y
        some-same x y e = cc

    patched : (entries : List ℕ) (id : ℕ) (d : Decision) → Stands entries n1 id d → Stands entries (slice_set n1 pc (AtLine pc first)) id d
    patched entries id d k = record { unfolds = unfolds-others entries n1 (slice_set n1 pc (AtLine pc first)) id d others k.unfolds }

    each_lowered : (k : ℕ) → k < pc + 1
        → (fst : ℕ) × (slice_get (slice_set n1 pc (AtLine pc first)) k ≡ Some (AtLine k fst))
        × ((entries : List ℕ) → AreOwn count entries → Stands entries (slice_set n1 pc (AtLine pc first)) fst (decision_at p k))
    each_lowered k h = elim (eqb_tells k pc) [
      | inl same ↦
          rw (same.1) (first, set-same n1 pc (AtLine pc first) inside, λ entries own. patched entries first (decision_at p pc) (s entries own))
      | inr differ ↦
          let t = l.each k (omega (arith, h, differ.1)) in (
            t.0,
            set-other n1 pc k (AtLine pc first) differ.1 ∙ g.kept k (AtLine k t.0) t.1,
            λ entries own. patched entries t.0 (decision_at p k) (stands_kept entries n0 n1 t.0 (decision_at p k) g (t.2 entries own)),
          )
    ]

-- a graph in which each line is lowered
pub all_lowered : (p : Procedure) (count : ℕ) (g : TestGraph) → count ≡ length p.lines → length g.entries ≡ count → AreOwn count g.entries
    → AreLowered p count count g.nodes → IsLowered p g
all_lowered p count g e long own l =
    record {
      lines = long ∙ e;
      each = λ pc h.
          let below : pc < count = omega (arith, e, h) in
          let t = l.each pc below in
          record { entry = pc; first = t.0; there = own.each pc below; line = t.1; unfolds = (t.2 g.entries own).unfolds };
      falls = l.falls.each;
    }

-- the decisions of the line that stands at pc
pub line_decision : (p : NamedProcedure) (pc : ℕ) (line : Line) → slice_get p.lines pc ≡ Some line
    → decision_of p.places pc (instruction_of line) ≡ decision_at (procedure_of p) pc
unfolding decision_at
line_decision p pc line h = sym (ap (decision_there p.places pc) (slice_get-map instruction_of p.lines pc ∙ ap (option_map instruction_of) h))

length-begun : (n : ℕ) → length (begun n) ≡ n
length-begun zero = refl
length-begun (suc n) = omega (arith, length-append (begun n) (AtLine n n ∷ []), length-begun n)

at-end : {A : Type 0} (xs : List A) (x : A) → slice_get (xs ++ x ∷ []) (length xs) ≡ Some x
at-end [] x = refl
at-end (y ∷ ys) x = at-end ys x

before-end : {A : Type 0} (xs : List A) (x y : A) (k : ℕ) → slice_get xs k ≡ Some y → slice_get (xs ++ x ∷ []) k ≡ Some y
before-end [] x y k h = absurd (cc)
before-end (z ∷ zs) x y zero h = h
before-end (z ∷ zs) x y (suc k) h = before-end zs x y k h

begun-at : (n k : ℕ) → k < n → slice_get (begun n) k ≡ Some (AtLine k k)
begun-at zero k h = absurd (omega arith)
begun-at (suc n) k h = elim (eqb_tells k n) [
  | inl same ↦
      let seam : slice_get (begun n ++ AtLine n n ∷ []) (length (begun n)) ≡ Some (AtLine n n) = at-end (begun n) (AtLine n n) in
      rw (same.1) (rw (length-begun n) at seam)
  | inr differ ↦ before-end (begun n) (AtLine n n) (AtLine k k) k (begun-at n k (omega (arith, h, differ.1)))
]

-- before the first line is lowered
pub none_lowered : (p : Procedure) (n : ℕ) → AreLowered p n 0 (begun n)
none_lowered p n =
    record {
      lines = record { long = omega (arith, length-begun n); each = λ pc h. (pc, begun-at n pc h) };
      falls = record { each = falls };
      each = λ k h. absurd (omega arith);
    }
  where
    some-same : (x y : TestNode) → Some x ≡ Some y → x ≡ y
    some-same x y e = cc

    falls : (id : ℕ) (node : TestNode) → slice_get (begun n) id ≡ Some node → NamesLower id node
    falls id node h =
        let below : id < n = omega (arith, slice_get_within (begun n) id node h, length-begun n) in
        subst (λ (x : TestNode). NamesLower id x) (some-same (AtLine id id) node (sym (begun-at n id below) ∙ h)) tt

pub length-numbers : (n : ℕ) → length (numbers n) ≡ n
length-numbers zero = refl
length-numbers (suc n) = omega (arith, length-append (numbers n) (n ∷ []), length-numbers n)

numbers-at : (n k : ℕ) → k < n → slice_get (numbers n) k ≡ Some k
numbers-at zero k h = absurd (omega arith)
numbers-at (suc n) k h = elim (eqb_tells k n) [
  | inl same ↦
      let seam : slice_get (numbers n ++ n ∷ []) (length (numbers n)) ≡ Some n = at-end (numbers n) n in
      rw (same.1) (rw (length-numbers n) at seam)
  | inr differ ↦ before-end (numbers n) n k k (numbers-at n k (omega (arith, h, differ.1)))
]

pub own_numbers : (n : ℕ) → AreOwn n (numbers n)
own_numbers n = record { each = numbers-at n }

-- each line fits where it stands
pub fits_there : (p : NamedProcedure) (places : List Place) (lines : List Line) (pc : ℕ) (line : Line) → IsChecked (procedure_of p) → places ≡ p.places
    → lines ≡ p.lines → slice_get lines pc ≡ Some line → FitsAt places (length lines) pc (instruction_of line)
fits_there p places lines pc line c e f there =
    let here : slice_get p.lines pc ≡ Some line = ap (λ (ls : List Line). slice_get ls pc) (sym f) ∙ there in
    let long : length (map instruction_of p.lines) ≡ length lines = length-map p.lines instruction_of ∙ ap (λ (ls : List Line). length ls) (sym f) in
    subst (λ (ps : List Place). FitsAt ps (length lines) pc (instruction_of line)) (sym e)
    (subst (λ n. FitsAt p.places n pc (instruction_of line)) long
    (c.fits pc (instruction_of line) (slice_get-map instruction_of p.lines pc ∙ ap (option_map instruction_of) here)))

-- one line more of a procedure
pub line_more : (p : NamedProcedure) (places : List Place) (lines : List Line) (line : Line) (pc first : ℕ) (n0 n1 n2 : List TestNode) → places ≡ p.places
    → lines ≡ p.lines → slice_get lines pc ≡ Some line → pc < length lines → AreLowered (procedure_of p) (length lines) pc n0 → Grows n0 n1 → Fall n1
    → ((entries : List ℕ) → AreOwn (length lines) entries → Stands entries n1 first (decision_of places pc (instruction_of line)))
    → n2 ≡ slice_set n1 pc (AtLine pc first) → AreLowered (procedure_of p) (length lines) (pc + 1) n2
line_more p places lines line pc first n0 n1 n2 e f there below l g h s k =
    let here : slice_get p.lines pc ≡ Some line = ap (λ (ls : List Line). slice_get ls pc) (sym f) ∙ there in
    let same : decision_of places pc (instruction_of line) ≡ decision_at (procedure_of p) pc =
    ap (λ (ps : List Place). decision_of ps pc (instruction_of line)) e ∙ line_decision p pc line here in
    subst (λ (ns : List TestNode). AreLowered (procedure_of p) (length lines) (pc + 1) ns) (sym k)
    (one_line_more (procedure_of p) (length lines) pc first n0 n1 below l g h
    (λ entries own. subst (λ (d : Decision). Stands entries n1 first d) same (s entries own)))

-- all lines of a procedure
pub graph_lowered : (p : NamedProcedure) (lines : List Line) (pc : ℕ) (nodes ns : List TestNode) (entries es : List ℕ) → lines ≡ p.lines → length lines ≤ pc
    → pc ≤ length lines → AreLowered (procedure_of p) (length lines) pc nodes → ns ≡ nodes → es ≡ entries → entries ≡ numbers (length lines)
    → IsLowered (procedure_of p) (record { nodes = ns; entries = es })
graph_lowered p lines pc nodes ns entries es f low high l g h k =
    let long : length lines ≡ length (map instruction_of p.lines) = ap (λ (ls : List Line). length ls) f ∙ sym (length-map p.lines instruction_of) in
    let all : pc ≡ length lines = omega arith in
    let own : es ≡ numbers (length lines) = h ∙ k in
    all_lowered (procedure_of p) (length lines) (record { nodes = ns; entries = es }) long
    (ap (λ (xs : List ℕ). length xs) own ∙ length-numbers (length lines))
    (subst (λ (xs : List ℕ). AreOwn (length lines) xs) (sym own) (own_numbers (length lines)))
    (subst (λ (xs : List TestNode). AreLowered (procedure_of p) (length lines) (length lines) xs) (sym g)
    (subst (λ n. AreLowered (procedure_of p) (length lines) n nodes) all l))
