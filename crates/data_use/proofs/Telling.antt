-- The rows say what the sums tell, one row for each variable.
use Rattle.std.proofs.Common.{◌≡◌, ◌↔◌, inl, inr, sym, ap, ◌∙◌, subst, ℕ, suc, ◌+◌, ◌*◌, ◌<◌, ◌≤◌, Bool, true, false, Some, List, [], ◌∷◌, ◌++◌, length, map, take, get_or, slice_get, arith, append_assoc, append-nil}
use Rattle.std.specs.Prelude.{if◌then◌else◌}
use Rattle.std.proofs.lemmas.List.{map-append, take_more}
use Rattle.il_core.specs.LineGraph.{IsIn}
use Rattle.il_core.specs.Run.{is_variable}
use Rattle.il_core.specs.declared.line.Place.{Place}
use Rattle.flow_graph.specs.Reached.{Differ, IsInnerOrder}
use Rattle.flow_graph.specs.declared.graph.FlowGraph.{FlowGraph}
use Rattle.flow_graph.proofs.Members.{IsIn-push_cases, IsIn-push, IsIn-append_left, IsIn-append_right}
use Rattle.regular_algebra.specs.declared.relation.BitRelation.{BitRelation}
use Rattle.data_use.specs.Events.{Event}
use Rattle.data_use.specs.Facts.{Happens, HappensToLast, IsUseRow, variables_from, place_of}
use Rattle.data_use.specs.Sums.{AreSums, IsFullOrder, TellsRow, AddsRows}
use Rattle.data_use.specs.declared.points.Point.TheVariants.{Fresh, ReadFirst, Any, ReadOnce, WrittenOnce, JustWritten, Overwritten}
use Rattle.data_use.specs.declared.row.UseRow.{UseRow}
use Rattle.data_use.proofs.Patterns.{leads-read_first, leads-overwritten, leads-written_last, leads-read, leads-written, leads-unwritten}

-- equal facts about events happen alike
happens : (g : FlowGraph) (v : ℕ) (P Q : List Event → Type 0) → ((es : List Event) → P es ↔ Q es) → Happens g v P ↔ Happens g v Q
happens g v P Q e = (λ h. (h.0, (h.1.0, h.1.1, (e _).0 h.1.2)), λ h. (h.0, (h.1.0, h.1.1, (e _).1 h.1.2)))

happens_to_last : (g : FlowGraph) (v : ℕ) (P Q : List Event → Type 0) → ((es : List Event) → P es ↔ Q es) → HappensToLast g v P ↔ HappensToLast g v Q
happens_to_last g v P Q e = (λ h. (h.0, h.1, (h.2.0, h.2.1, (e _).0 h.2.2)), λ h. (h.0, h.1, (h.2.0, h.2.1, (e _).1 h.2.2)))

-- facts that are told one by the other
told : (A B C D : Type 0) → A ↔ B → B ↔ C → C ↔ D → A ↔ D
told A B C D f g h = (λ a. h.0 (g.0 (f.0 a)), λ d. f.1 (g.1 (h.1 d)))

told_not : (A B C D : Type 0) → A ↔ (B → ⊥) → B ↔ C → C ↔ D → A ↔ (D → ⊥)
told_not A B C D f g h = (λ a d. f.0 a (g.1 (h.1 d)), λ n. f.1 (λ b. n (h.0 (g.0 b))))

-- a row that tells what the sums tell is right
pub use-row : (g : FlowGraph) (group : List ℕ) (all ended : BitRelation) (slot : ℕ) (row : UseRow) → AreSums g group all ended → slice_get group slot ≡ Some row.place
    → TellsRow all ended (slot * 7) row → IsUseRow g row
use-row g group all ended slot row sums there tells = record {
  read_first = told _ _ _ _ tells.read_first (sums.anywhere slot row.place there Fresh ReadFirst) (happens g row.place _ _ leads-read_first);
  overwritten = told _ _ _ _ tells.overwritten (sums.anywhere slot row.place there Any Overwritten) (happens g row.place _ _ leads-overwritten);
  last_write = told _ _ _ _ tells.last_write (sums.at_end slot row.place there Any JustWritten) (happens_to_last g row.place _ _ leads-written_last);
  never_read = told_not _ _ _ _ tells.never_read (sums.anywhere slot row.place there Any ReadOnce) (happens g row.place _ _ leads-read);
  never_written = told_not _ _ _ _ tells.never_written (sums.anywhere slot row.place there Any WrittenOnce) (happens g row.place _ _ leads-written);
  end_unwritten = told _ _ _ _ tells.end_unwritten (sums.at_end slot row.place there Fresh Fresh) (happens_to_last g row.place _ _ leads-unwritten);
}

-- one row more is added
pub rows-more : (g : FlowGraph) (group : List ℕ) (slot d : ℕ) (old was new : List UseRow) (row : UseRow) → slot < length group → AddsRows g (take slot group) old was
    → new ≡ was ++ row ∷ [] → row.place ≡ get_or group slot d → IsUseRow g row → AddsRows g (take (slot + 1) group) old new
rows-more g group slot d old was new row l before grown place right = record {
  places = ap (map place_of) grown ∙ map-append place_of was (row ∷ []) ∙ ap (λ s. s ++ row.place ∷ []) before.places ∙ append_assoc (map place_of old) (take slot group) (row.place ∷ [])
      ∙ ap (λ p. map place_of old ++ (take slot group ++ p ∷ [])) place ∙ ap (λ s. map place_of old ++ s) (sym (take_more group slot d l));
  facts = λ r h. elim (IsIn-push_cases was row r (subst (λ s. IsIn s r) grown h)) [ inl w ↦ before.facts r w | inr same ↦ inr (subst (IsUseRow g) same right) ];
}

-- a list whose elements differ, with another one behind it
differ-push : (xs : List ℕ) (x : ℕ) → Differ xs → (IsIn xs x → ⊥) → Differ (xs ++ x ∷ [])
differ-push [] x d n = (λ h. h, tt)
differ-push (y ∷ xs) x d n = (
  λ h. elim (IsIn-push_cases xs x y h) [ inl i ↦ d.0 i | inr same ↦ n (inl (sym same)) ],
  differ-push xs x d.1 (λ i. n (inr i)),
)

-- the order of the inner lines with the last behind it
pub full-order : (g : FlowGraph) (order full slice : List ℕ) (last : ℕ) → IsInnerOrder g order → last + 1 ≡ length g.nodes → full ≡ order ++ last ∷ [] → slice ≡ full → IsFullOrder g slice
full-order g order full slice last o size e f = subst (IsFullOrder g) (sym (f ∙ e)) (record {
  once = differ-push order last o.once (λ i. ((o.exact last).0 i).2 size);
  exact = λ k. (
    λ h. elim (IsIn-push_cases order last k h) [ inl i ↦ inl ((o.exact k).0 i) | inr same ↦ inr (ap (λ t. t + 1) (sym same) ∙ size) ],
    λ h. elim h [
      | inl i ↦ IsIn-append_left order (last ∷ []) k ((o.exact k).1 i)
      | inr s ↦ let same : last ≡ k = omega arith in subst (IsIn (order ++ last ∷ [])) same (IsIn-push order last)
    ],
  );
})

-- a variable is one of the places
variables-low : (k : ℕ) (places : List Place) (v : ℕ) → IsIn (variables_from k places) v → v < k + length places
variables-low k [] v h = absurd h
variables-low k (p ∷ ps) v h = by_test (is_variable p) h (λ i. variables-low (suc k) ps v i)
  where
    by_test : (b : Bool) → IsIn (if b then k ∷ variables_from (suc k) ps else variables_from (suc k) ps) v
        → (IsIn (variables_from (suc k) ps) v → v < suc k + length ps) → v < k + length (p ∷ ps)
    by_test true i next = elim i [ inl same ↦ omega arith | inr j ↦ let l = next j in omega arith ]
    by_test false i next = let l = next i in omega arith

-- what is left of the variables is low
pub rest-low : (places : List Place) (done rest group later : List ℕ) → length places ≤ 64 → done ++ rest ≡ variables_from 0 places → rest ≡ group ++ later → (v : ℕ) → IsIn group v → v < 64
rest-low places done rest group later few e f v i =
    let l = variables-low 0 places v (subst (λ s. IsIn s v) e (IsIn-append_right done rest v (subst (λ s. IsIn s v) (sym f) (IsIn-append_left group later v i)))) in
    omega arith

-- where no variable is left the rows are those of all
pub places-all : (made rest all : List ℕ) → length rest ≡ 0 → made ++ rest ≡ all → made ≡ all
places-all made [] all none same = sym (append-nil made) ∙ same
places-all made (v ∷ rest) all none same = absurd (omega (arith, none))

-- the rows of the variables that are not left grow by those of a group
pub places-more : (g : FlowGraph) (group later rest variables : List ℕ) (old new : List UseRow) → AddsRows g group old new → rest ≡ group ++ later → map place_of old ++ rest ≡ variables
    → map place_of new ++ later ≡ variables
places-more g group later rest variables old new adds parts before =
    ap (λ s. s ++ later) adds.places ∙ append_assoc (map place_of old) group later ∙ ap (λ s. map place_of old ++ s) (sym parts) ∙ before

pub facts-more : (g : FlowGraph) (group : List ℕ) (old new : List UseRow) → AddsRows g group old new → ((row : UseRow) → IsIn old row → IsUseRow g row)
    → (row : UseRow) → IsIn new row → IsUseRow g row
facts-more g group old new adds before row h = elim (adds.facts row h) [ inl o ↦ before row o | inr r ↦ r ]
