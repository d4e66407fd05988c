-- Regions written one by one, each with its threats.
use Rattle.std.proofs.Common.{Result, ◌≡◌, ◌∙◌, refl, sym, ap, ℕ, ◌+◌, ◌-◌, ◌<◌, ◌≤◌, List, [], ◌++◌, length, take, drop, get_or, Option, Ok, Err, append_assoc, add-one, length-drop, drop-cons, ◌==◌, arith}
use Rattle.std.proofs.lemmas.List.{drop_all, drop-drop, take_all}
use Rattle.std.proofs.lemmas.List.Sums.{prefix_len-le-length}
use Rattle.il_core.specs.declared.line.Place.{Place}
use Rattle.il_edge.specs.declared.device.Failed.{Failed}
use Rattle.compliance.specs.declared.threat.Threat.{Threat}
use Rattle.report.specs.declared.report.RegionTable.{RegionTable}
use Rattle.form_text.specs.Lists.{numbered}
use Rattle.form_text.specs.Pieces.{Puts}
use Rattle.form_text.proofs.Putting.{puts_none, puts_then, puts_short, puts_as}
use Rattle.report_text.specs.Tables.{region_text}
use Rattle.report_text.specs.Threats.{threat_text, count_here, regions_text}

-- a region with its threats, which stand next behind so many other ones
abbrev pub part_of : List Place → RegionTable → ℕ → List Threat → List ℕ
part_of places r before ts = region_text r ++ numbered (threat_text places) (before + 1) (take (count_here r.pc (drop before ts)) (drop before ts))

-- After i regions, and so many threats: what is written and what is left are the whole.
pub record AreWritten {K : Type 0} (held : K → Option (List ℕ)) (settled_length : K → Option ℕ) (faults : K → ℕ) (old new : K) (places : List Place) (rs : List RegionTable)
    (ts : List Threat) (i before : ℕ) : Type 0 where
  pub within : before ≤ length ts
  pub done : List ℕ
  pub put : Puts {E = Failed} held settled_length faults old new (Ok (tt {0})) done
  pub whole : done ++ regions_text places before (drop i rs) (drop before ts) ≡ regions_text places 0 rs ts

pub none_written : {K : Type 0} {held : K → Option (List ℕ)} {settled : K → Option ℕ} {faults : K → ℕ} (k : K) (places : List Place) (rs : List RegionTable)
    (ts : List Threat) → AreWritten held settled faults k k places rs ts 0 0
none_written k places rs ts = record { within = omega arith; done = []; put = puts_none (tt {0}) k; whole = refl }

-- the next region in front of the rest
next_region : (places : List Place) (rs : List RegionTable) (ts : List Threat) (i before end : ℕ) (d : RegionTable) → i < length rs
    → end ≡ before + count_here (get_or rs i d).pc (drop before ts)
    → regions_text places before (drop i rs) (drop before ts) ≡ part_of places (get_or rs i d) before ts ++ regions_text places end (drop (i + 1) rs) (drop end ts)
next_region places rs ts i before end d h e = rw (drop-cons rs i d h, e, add-one i, drop-drop) refl

-- the next region is within the threats
pub region_within : (ts : List Threat) (pc before end : ℕ) → before ≤ length ts → end ≡ before + count_here pc (drop before ts) → end ≤ length ts
region_within ts pc before end h e = omega (arith, prefix_len-le-length (λ (t : Threat). t.region == pc) (drop before ts), length-drop before ts)

-- the threats from a place on, and those of them that stand next
pub tail_of : (ts : List Threat) (before : ℕ) → take (length ts - before) (drop before ts) ≡ drop before ts
tail_of ts before = take_all (length ts - before) (drop before ts) (omega (arith, length-drop before ts))

pub front_of : (ts : List Threat) (before here : ℕ) → take (before + here - before) (drop before ts) ≡ take here (drop before ts)
front_of ts before here = let e : before + here - before ≡ here = omega arith in rw e

pub next_written : {K : Type 0} {held : K → Option (List ℕ)} {settled : K → Option ℕ} {faults : K → ℕ} {a b c : K} (places : List Place) (rs : List RegionTable)
    (ts : List Threat) (i before end : ℕ) (d : RegionTable) → i < length rs → end ≡ before + count_here (get_or rs i d).pc (drop before ts)
    → AreWritten held settled faults a b places rs ts i before → Puts {E = Failed} held settled faults b c (Ok (tt {0})) (part_of places (get_or rs i d) before ts)
    → AreWritten held settled faults a c places rs ts (i + 1) end
next_written places rs ts i before end d h e so next = record {
  within = region_within ts (get_or rs i d).pc before end so.within e;
  done = so.done ++ part_of places (get_or rs i d) before ts;
  put = puts_then so.put next;
  whole = append_assoc so.done (part_of places (get_or rs i d) before ts) (regions_text places end (drop (i + 1) rs) (drop end ts))
      ∙ (ap (λ l. so.done ++ l) (sym (next_region places rs ts i before end d h e)) ∙ so.whole);
}

-- A failure within the next region leaves a prefix of all.
pub stopped_within : {K : Type 0} {held : K → Option (List ℕ)} {settled : K → Option ℕ} {faults : K → ℕ} {a b c : K} (places : List Place) (rs : List RegionTable)
    (ts : List Threat) (i before end : ℕ) (d : RegionTable) (f : Failed) → i < length rs → end ≡ before + count_here (get_or rs i d).pc (drop before ts)
    → AreWritten held settled faults a b places rs ts i before → Puts {T = Unit {0}} held settled faults b c (Err f) (part_of places (get_or rs i d) before ts)
    → Puts {T = Unit {0}} held settled faults a c (Err f) (regions_text places 0 rs ts)
stopped_within places rs ts i before end d f h e so next =
    let rest = regions_text places end (drop (i + 1) rs) (drop end ts) in
    puts_as (ap (λ l. so.done ++ l) (sym (next_region places rs ts i before end d h e)) ∙ so.whole) (puts_then so.put (puts_short rest next))

-- All regions are written, and what is left behind them.
pub all_written : {K T E : Type 0} {held : K → Option (List ℕ)} {settled : K → Option ℕ} {faults : K → ℕ} {a b c : K} {r : Result T E} (places : List Place) (rs : List RegionTable)
    (ts : List Threat) (i before : ℕ) → length rs ≤ i → AreWritten held settled faults a b places rs ts i before
    → Puts held settled faults b c r (numbered (threat_text places) (before + 1) (drop before ts)) → Puts held settled faults a c r (regions_text places 0 rs ts)
all_written places rs ts i before h so rest =
    let none : drop i rs ≡ [] = drop_all i rs h in
    puts_as (ap (λ l. so.done ++ regions_text places before l (drop before ts)) (sym none) ∙ so.whole) (puts_then so.put rest)
