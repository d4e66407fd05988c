-- The verdict of a threat, told from its normal hazard.
use Rattle.std.proofs.Common.{◌≡◌, sym, ap, ◌∙◌, subst, ℕ, ◌+◌, ◌*◌, Bool, true, false, length}
use Rattle.std.specs.Prelude.{IsTrue, ◌↔◌}
use Rattle.il_core.specs.Evaluation.{State}
use Rattle.il_core.specs.Procedure.{Procedure}
use Rattle.il_core.specs.declared.line.Halt.{Halt}
use Rattle.il_core.specs.declared.line.Stop.TheVariants as stop
use Rattle.region_paths.specs.Listing.{RegionPath}
use Rattle.path_inputs.specs.Core.{IsLoose}
use Rattle.path_inputs.specs.Least.{IsPlainlyRefuted, IsLeastInput}
use Rattle.semantic_tables.specs.Row.{forms_of}
use Rattle.semantic_tables.specs.Hazards.{NormalHazard, normal_hazard}
use Rattle.compliance.specs.Laws.{ThreatsAreTakenSoon, OpenThreatsAreLoose}
use Rattle.compliance.specs.Behind.{IsThreatOf}
use Rattle.compliance.specs.Verdict.{TakesDecisions, TakesPath, IsFirstLoose, HasVerdict}
use Rattle.compliance.specs.declared.threat.Verdict.TheVariants.{Refuted, Shown, Open}
use Rattle.compliance.proofs.Stepped.{TakesWithin}

-- what a hazard tells of a path
pub record Tells (hazard : NormalHazard) (r : RegionPath) : Type 0 where
  pub path : r.row.path ≡ hazard.path
  pub forms : forms_of r ≡ hazard.literals
  pub stop : r.stop ≡ hazard.stop

pub tells : (hazard : NormalHazard) (r : RegionPath) → hazard ≡ normal_hazard r → Tells hazard r
tells hazard r e = record {
  path = sym (ap (λ (x : NormalHazard). x.path) e);
  forms = sym (ap (λ (x : NormalHazard). x.literals) e);
  stop = sym (ap (λ (x : NormalHazard). x.stop) e);
}

takes_same : (p : Procedure) (pc : ℕ) (s : State) (hazard : NormalHazard) (h : Halt) (r : RegionPath) → Tells hazard r → hazard.stop ≡ stop.Halted h → TakesPath p pc s r
    → (n : ℕ) × TakesDecisions p n pc s hazard.path h
takes_same p pc s hazard h r k e t =
    let x : stop.Halted t.1 ≡ stop.Halted h = sym t.2 ∙ k.stop ∙ e in
    let same : t.1 ≡ h = cc in
    (t.0, subst (TakesDecisions p t.0 pc s hazard.path) same (subst (λ y. TakesDecisions p t.0 pc s y t.1) k.path t.3))

taken_so : (p : Procedure) (pc : ℕ) (s : State) (hazard : NormalHazard) (h : Halt) (r : RegionPath) → Tells hazard r → hazard.stop ≡ stop.Halted h → (n : ℕ) → TakesDecisions p n pc s hazard.path h
    → TakesPath p pc s r
taken_so p pc s hazard h r k e n t = (n, h, k.stop ∙ e, subst (λ y. TakesDecisions p n pc s y h) (sym k.path) t)

pub refuted : (p : Procedure) (pc : ℕ) (hazard : NormalHazard) (r : RegionPath) → IsPlainlyRefuted p.places pc hazard.literals → hazard ≡ normal_hazard r
    → HasVerdict p pc r Refuted
refuted p pc hazard r k e = subst (IsPlainlyRefuted p.places pc) (sym (tells hazard r e).forms) k

pub shown : (p : Procedure) (pc room : ℕ) (hazard : NormalHazard) (h : Halt) (s : State) (r : RegionPath) → IsLeastInput p.places pc hazard.literals s → hazard.stop ≡ stop.Halted h
    → TakesWithin p room pc s hazard.path h → hazard ≡ normal_hazard r → HasVerdict p pc r (Shown s)
shown p pc room hazard h s r k e t same =
    let m = tells hazard r same in
    (subst (λ x. IsLeastInput p.places pc x s) (sym m.forms) k, taken_so p pc s hazard h r m e t.0 t.2)

-- a threat's least input that does not take it in few steps does not take it, so that it has a loose literal
pub record StaysOpen (p : Procedure) (pc : ℕ) (hazard : NormalHazard) (s : State) : Type 0 where
  pub untaken : (r : RegionPath) → hazard ≡ normal_hazard r → TakesPath p pc s r → ⊥
  pub loose : (i : ℕ) × IsLoose hazard.literals i

pub stays_open : (p : Procedure) (pc : ℕ) (hazard : NormalHazard) (h : Halt) (s : State) → ThreatsAreTakenSoon → OpenThreatsAreLoose → IsThreatOf p pc hazard
    → IsLeastInput p.places pc hazard.literals s → hazard.stop ≡ stop.Halted h
    → (TakesWithin p (2 * length p.lines + 2) pc s hazard.path h → ⊥) → StaysOpen p pc hazard s
stays_open p pc hazard h s soon loose k least e not = record { untaken = untaken; loose = (first.0, subst (λ x. IsLoose x first.0) own.forms first.1.0) }
  where
    own : Tells hazard k.path
    own = tells hazard k.path k.told

    own_least : IsLeastInput p.places pc (forms_of k.path) s
    own_least = subst (λ x. IsLeastInput p.places pc x s) (sym own.forms) least

    never : (n : ℕ) → TakesDecisions p n pc s hazard.path h → ⊥
    never n t = not (
      n,
      soon p k.loops pc k.path s n h k.begins k.threat least.met.input (own.stop ∙ e) (subst (λ y. TakesDecisions p n pc s y h) (sym own.path) t),
      t,
    )

    untaken : (r : RegionPath) → hazard ≡ normal_hazard r → TakesPath p pc s r → ⊥
    untaken r same t = let u = takes_same p pc s hazard h r (tells hazard r same) e t in never u.0 u.1

    first : (i : ℕ) × IsFirstLoose (forms_of k.path) i
    first = loose p k.loops pc k.path s k.begins k.threat own_least (untaken k.path k.told)

pub open_at : (p : Procedure) (pc : ℕ) (hazard : NormalHazard) (s : State) (i : ℕ) (r : RegionPath) → StaysOpen p pc hazard s → IsLeastInput p.places pc hazard.literals s
    → IsFirstLoose hazard.literals i → hazard ≡ normal_hazard r → HasVerdict p pc r (Open i)
open_at p pc hazard s i r k least first same =
    let m = tells hazard r same in
    (s, subst (λ x. IsLeastInput p.places pc x s) (sym m.forms) least, k.untaken r same, subst (λ x. IsFirstLoose x i) (sym m.forms) first)

-- the same, as the code's values say it
pub record IsOpenThreat (p : Procedure) (pc : ℕ) (hazard : NormalHazard) (s : State) : Type 0 where
  pub least : IsLeastInput p.places pc hazard.literals s
  pub stays : StaysOpen p pc hazard s

not_true : (b : Bool) → b ≡ false → IsTrue b → ⊥
not_true b e t = let x : false ≡ true = subst IsTrue e t in absurd cc

pub open_threat : (p : Procedure) (pc : ℕ) (hazard : NormalHazard) (h : Halt) (s : State) (vals : State) (room : ℕ) (b : Bool)
    → ThreatsAreTakenSoon → OpenThreatsAreLoose → IsThreatOf p pc hazard → hazard.stop ≡ stop.Halted h → vals ≡ s
    → room ≡ 2 * length p.lines + 2 → IsLeastInput p.places pc hazard.literals s → IsTrue b ↔ TakesWithin p room pc vals hazard.path h → b ≡ false → IsOpenThreat p pc hazard s
open_threat p pc hazard h s vals room b soon loose k e same_vals same_room least taken untaken = record {
  least = least;
  stays = stays_open p pc hazard h s soon loose k least e not;
}
  where
    not : TakesWithin p (2 * length p.lines + 2) pc s hazard.path h → ⊥
    not t =
        not_true b untaken
        (taken.1 (subst (λ x. TakesWithin p x pc vals hazard.path h) (sym same_room) (subst (λ x. TakesWithin p (2 * length p.lines + 2) pc x hazard.path h) (sym same_vals) t)))
