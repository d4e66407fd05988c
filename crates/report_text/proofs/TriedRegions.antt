-- Regions written one by one, each with its test inputs.
use Rattle.std.proofs.Common.{◌≡◌, ◌∙◌, refl, sym, ap, ℕ, suc, ◌+◌, ◌<◌, ◌≤◌, List, [], ◌++◌, length, drop, get_or, Option, Ok, Err, append_assoc, append-nil, add-one, drop-cons}
use Rattle.std.proofs.lemmas.List.{drop_all}
use Rattle.il_core.specs.declared.line.Place.{Place}
use Rattle.il_edge.specs.declared.device.Failed.{Failed}
use Rattle.report.specs.declared.report.RegionInputs.{RegionInputs}
use Rattle.report.specs.declared.report.RegionTable.{RegionTable}
use Rattle.form_text.specs.Pieces.{Puts}
use Rattle.form_text.proofs.Putting.{puts_none, puts_then, puts_short, puts_as}
use Rattle.report_text.specs.Inputs.{rows_next, behind_next, region_inputs_text, tried_regions_text}

-- a region with the inputs that stand next, where they are its own
abbrev pub tried_part : List Place → RegionTable → List RegionInputs → List ℕ
tried_part places t left = region_inputs_text places t (rows_next t.pc left)

-- After i regions, with these inputs left: what is written and what is left are the whole.
pub record AreTried {K : Type 0} (held : K → Option (List ℕ)) (settled_length : K → Option ℕ) (faults : K → ℕ) (old new : K) (places : List Place) (ts : List RegionTable)
    (is : List RegionInputs) (i : ℕ) (left : List RegionInputs) : Type 0 where
  pub done : List ℕ
  pub put : Puts {E = Failed} held settled_length faults old new (Ok (tt {0})) done
  pub whole : done ++ tried_regions_text places (drop i ts) left ≡ tried_regions_text places ts is

pub none_tried : {K : Type 0} {held : K → Option (List ℕ)} {settled : K → Option ℕ} {faults : K → ℕ} (k : K) (places : List Place) (ts : List RegionTable)
    (is : List RegionInputs) → AreTried held settled faults k k places ts is 0 is
none_tried k places ts is = record { done = []; put = puts_none (tt {0}) k; whole = refl }

-- the next region in front of the rest
next_region : (places : List Place) (ts : List RegionTable) (left : List RegionInputs) (i : ℕ) (t : RegionTable) → i < length ts → t ≡ get_or ts i t
    → tried_regions_text places (drop i ts) left ≡ tried_part places t left ++ tried_regions_text places (drop (i + 1) ts) (behind_next t.pc left)
next_region places ts left i t h is =
    rw (drop-cons ts i t h, add-one i)
    (ap (λ u. tried_part places u left ++ tried_regions_text places (drop (suc i) ts) (behind_next u.pc left)) (sym is))

pub next_tried : {K : Type 0} {held : K → Option (List ℕ)} {settled : K → Option ℕ} {faults : K → ℕ} {a b c : K} (places : List Place) (ts : List RegionTable)
    (is left behind : List RegionInputs) (i : ℕ) (t : RegionTable) → i < length ts → t ≡ get_or ts i t → behind ≡ behind_next t.pc left
    → AreTried held settled faults a b places ts is i left → Puts {E = Failed} held settled faults b c (Ok (tt {0})) (tried_part places t left)
    → AreTried held settled faults a c places ts is (i + 1) behind
next_tried places ts is left behind i t h item e so next = record {
  done = so.done ++ tried_part places t left;
  put = puts_then so.put next;
  whole = append_assoc so.done (tried_part places t left) (tried_regions_text places (drop (i + 1) ts) behind)
      ∙ ap (λ l. so.done ++ l) (ap (λ l. tried_part places t left ++ tried_regions_text places (drop (i + 1) ts) l) e ∙ sym (next_region places ts left i t h item))
      ∙ so.whole;
}

-- A failure within the next region leaves a prefix of all.
pub stopped_tried : {K : Type 0} {held : K → Option (List ℕ)} {settled : K → Option ℕ} {faults : K → ℕ} {a b c : K} (places : List Place) (ts : List RegionTable)
    (is left : List RegionInputs) (i : ℕ) (t : RegionTable) (f : Failed) → i < length ts → t ≡ get_or ts i t
    → AreTried held settled faults a b places ts is i left → Puts {T = Unit {0}} held settled faults b c (Err f) (tried_part places t left)
    → Puts {T = Unit {0}} held settled faults a c (Err f) (tried_regions_text places ts is)
stopped_tried places ts is left i t f h item so next =
    let rest = tried_regions_text places (drop (i + 1) ts) (behind_next t.pc left) in
    puts_as (ap (λ l. so.done ++ l) (sym (next_region places ts left i t h item)) ∙ so.whole) (puts_then so.put (puts_short rest next))

-- All regions are written.
pub all_tried : {K : Type 0} {held : K → Option (List ℕ)} {settled : K → Option ℕ} {faults : K → ℕ} {a b : K} (places : List Place) (ts : List RegionTable)
    (is left : List RegionInputs) (i : ℕ) → length ts ≤ i → AreTried held settled faults a b places ts is i left
    → Puts {E = Failed} held settled faults a b (Ok (tt {0})) (tried_regions_text places ts is)
all_tried places ts is left i h so =
    let none : drop i ts ≡ [] = drop_all i ts h in
    puts_as (sym (append-nil so.done) ∙ ap (λ l. so.done ++ tried_regions_text places l left) (sym none) ∙ so.whole) so.put
