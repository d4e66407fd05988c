-- The threats among the hazards of a region, told one after the other.
use Rattle.std.proofs.Common.{◌≡◌, refl, sym, ap, ◌∙◌, subst, ℕ, zero, suc, ◌+◌, Bool, true, false, cond, Some, List, [], ◌∷◌, ◌++◌, map, take, slice_get, filter, append-nil, append_assoc}
use Rattle.std.specs.Prelude.{is_some, not, ◌&&◌}
use Rattle.std.proofs.lemmas.List.{take_more}
use Rattle.std.proofs.lemmas.List.Elements.{filter-append}
use Rattle.std.proofs.lemmas.Option.{slice_get_within, get_or_from_slice_get}
use Rattle.il_core.specs.Procedure.{Procedure}
use Rattle.il_core.specs.Run.{is_bad}
use Rattle.il_core.specs.declared.line.Stop.TheVariants as stop
use Rattle.region_paths.specs.Listing.{RegionPath}
use Rattle.semantic_tables.specs.Hazards.{hazard_of, normal_hazard}
use Rattle.semantic_tables.specs.declared.hazard.Hazard.{Hazard}
use Rattle.compliance.specs.Behind.{ends_within, bad_halt, is_bad_behind, AddsTold}
use Rattle.compliance.specs.Safe.{IsTold, AreTold}
use Rattle.compliance.specs.declared.threat.Threat.{Threat}
use Rattle.compliance.proofs.Judged.{tells}
use Rattle.compliance.proofs.BadPaths.{some_told}

-- the path of a hazard
pub record HasPath (paths : List RegionPath) (k : ℕ) (hazard : Hazard) : Type 0 where
  pub path : RegionPath
  pub there : slice_get paths k ≡ Some path
  pub told : hazard_of hazard ≡ normal_hazard path

pub path_at : (hazards : List Hazard) (paths : List RegionPath) (k : ℕ) (hazard : Hazard) → map hazard_of hazards ≡ map normal_hazard paths → slice_get hazards k ≡ Some hazard
    → HasPath paths k hazard
path_at [] paths k hazard e at = absurd (cc)
path_at (x ∷ hazards) [] k hazard e at = absurd (cc)
path_at (x ∷ hazards) (r ∷ paths) zero hazard e at =
    let first : hazard_of x ≡ normal_hazard r = cc in
    let same : x ≡ hazard = cc in
    record { path = r; there = refl; told = ap hazard_of (sym same) ∙ first }
path_at (x ∷ hazards) (r ∷ paths) (suc k) hazard e at =
    let rest : map hazard_of hazards ≡ map normal_hazard paths = cc in
    let t = path_at hazards paths k hazard rest at in
    record { path = t.path; there = t.there; told = t.told }

-- one more of those that pass a test
filter_more : {X : Type 0} (test : X → Bool) (xs : List X) (k : ℕ) (x : X) → slice_get xs k ≡ Some x → filter test (take (k + 1) xs) ≡ filter test (take k xs) ++ filter test (x ∷ [])
filter_more test xs k x at =
    ap (filter test) (take_more xs k x (slice_get_within xs k x at) ∙ ap (λ y. take k xs ++ y ∷ []) (get_or_from_slice_get xs k x x at))
    ∙ filter-append test (take k xs) (x ∷ [])

told_both : (p : Procedure) (pc : ℕ) (paths others : List RegionPath) (ts us : List Threat) → AreTold p pc paths ts → AreTold p pc others us → AreTold p pc (paths ++ others) (ts ++ us)
told_both p pc [] others ts us k h = subst (λ xs. AreTold p pc others (xs ++ us)) (sym k) h
told_both p pc (q ∷ paths) others [] us k h = absurd k
told_both p pc (q ∷ paths) others (t ∷ ts) us k h = (k.0, told_both p pc paths others ts us k.1 h)

-- a hazard halts badly behind these lines exactly where it does not come to its end in them
pub tested : (p : Procedure) (lines : List ℕ) (hazard : Hazard) (r : RegionPath) (b : Bool) → hazard_of hazard ≡ normal_hazard r → is_bad hazard.halt ≡ true
    → ends_within p lines hazard.path ≡ b → is_bad_behind p lines r ≡ not b
tested p lines hazard r b e bad within =
    let t = tells (hazard_of hazard) r e in
    ap (λ x. is_some (bad_halt p lines x r.row.path)) t.stop ∙ ap (λ x. is_some (bad_halt p lines (stop.Halted hazard.halt) x)) t.path
    ∙ some_told hazard.halt (is_bad hazard.halt) (ends_within p lines hazard.path)
    ∙ ap (λ x. x && not (ends_within p lines hazard.path)) bad ∙ ap not within

-- a hazard that is a threat
pub threat_told : (p : Procedure) (pc : ℕ) (lines : List ℕ) (hazard : Hazard) (r : RegionPath) (t : Threat) (found after : List Threat) → hazard_of hazard ≡ normal_hazard r → is_bad hazard.halt ≡ true
    → ends_within p lines hazard.path ≡ false → IsTold p pc r t → after ≡ found ++ t ∷ [] → AddsTold p pc (filter (is_bad_behind p lines) (r ∷ [])) found after
threat_told p pc lines hazard r t found after e bad behind told more =
    let only : filter (is_bad_behind p lines) (r ∷ []) ≡ r ∷ [] = ap (λ b. cond b (r ∷ []) []) (tested p lines hazard r false e bad behind) in
    (t ∷ [], more, subst (λ xs. AreTold p pc xs (t ∷ [])) (sym only) (told, refl))

-- and one that is none
pub none_told : (p : Procedure) (pc : ℕ) (lines : List ℕ) (hazard : Hazard) (r : RegionPath) (found : List Threat) → hazard_of hazard ≡ normal_hazard r → is_bad hazard.halt ≡ true
    → ends_within p lines hazard.path ≡ true → AddsTold p pc (filter (is_bad_behind p lines) (r ∷ [])) found found
none_told p pc lines hazard r found e bad within =
    let none : filter (is_bad_behind p lines) (r ∷ []) ≡ [] = ap (λ b. cond b (r ∷ []) []) (tested p lines hazard r true e bad within) in
    ([], sym (append-nil found), subst (λ xs. AreTold p pc xs []) (sym none) refl)

-- one hazard more
pub told_more : (p : Procedure) (pc : ℕ) (lines : List ℕ) (hazards : List Hazard) (paths : List RegionPath) (k : ℕ) (hazard : Hazard) (before found after : List Threat)
    → map hazard_of hazards ≡ map normal_hazard paths → slice_get hazards k ≡ Some hazard
    → ((r : RegionPath) → hazard_of hazard ≡ normal_hazard r → AddsTold p pc (filter (is_bad_behind p lines) (r ∷ [])) found after)
    → AddsTold p pc (filter (is_bad_behind p lines) (take k paths)) before found → AddsTold p pc (filter (is_bad_behind p lines) (take (k + 1) paths)) before after
told_more p pc lines hazards paths k hazard before found after e at adds a =
    let u = path_at hazards paths k hazard e at in
    let one = adds u.path u.told in (
      a.0 ++ one.0,
      one.1 ∙ ap (λ xs. xs ++ one.0) a.1 ∙ append_assoc before a.0 one.0,
      subst (λ xs. AreTold p pc xs (a.0 ++ one.0)) (sym (filter_more (is_bad_behind p lines) paths k u.path u.there))
          (told_both p pc (filter (is_bad_behind p lines) (take k paths)) (filter (is_bad_behind p lines) (u.path ∷ [])) a.0 one.0 a.2 one.2),
    )
