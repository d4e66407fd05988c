-- The worked text is well formed, and two procedures are not.
use Rattle.std.specs.Fmt.{digits}
use Rattle.std.proofs.Common.{◌≡◌, ◌≢◌, refl, sym, ap, subst, ℕ, zero, suc, ◌≤◌, Some, List, [], ◌∷◌, slice_get, arith}
use Rattle.std.specs.Prelude.{pos}
use Rattle.std.proofs.lemmas.Option.{same_Some}
use Rattle.std.proofs.lemmas.Int.{ints}
use Rattle.il_core.specs.Bounds.{AreSmall, only, place_bounds}
use Rattle.il_core.specs.Checked.{FitsAt, HasRange}
use Rattle.il_core.specs.Procedure.{Instruction}
use Rattle.il_core.specs.declared.line.Place.{Place}
use Rattle.il_core.specs.declared.statement.Mode.TheVariants.{Input, InOut}
use Rattle.il_called.specs.Called.{Passed, variable_of, call}
use Rattle.il_called.specs.CalledText.{parameters_of}
use Rattle.il_called.specs.Expansion.{Callee, callees_of}
use Rattle.il_called.specs.WorkedExpansion.{inc, caller}
use Rattle.call_checks.specs.WellFormed.{IsWellFormed, IsSoundCall, AreArguments, HaveSmallRanges, AreWellFormed, without_calls}
use Rattle.call_checks.specs.WorkedText.{WorkedText, reader}

small : (n : ℕ) → n ≤ 9 → AreSmall (only (pos n))
small n h = (omega arith, omega arith)

inout_is_not_input : InOut ≢ Input
inout_is_not_input h = cc

inc_ranges : (k : ℕ) (place : Place) → slice_get inc.places k ≡ Some place → HasRange place
inc_ranges zero place e = subst HasRange (same_Some _ _ e) (record { ordered = omega (arith, ints); bits = λ h. absurd (cc) })
inc_ranges (suc zero) place e = subst HasRange (same_Some _ _ e) (record { ordered = omega (arith, ints); bits = λ h. absurd (cc) })
inc_ranges (suc (suc k)) place e = grind arith

inc_small : HaveSmallRanges inc.places
inc_small zero place e = subst (λ x. AreSmall (place_bounds (Some x))) (same_Some _ _ e) (omega arith, omega arith)
inc_small (suc zero) place e = subst (λ x. AreSmall (place_bounds (Some x))) (same_Some _ _ e) (omega arith, omega arith)
inc_small (suc (suc k)) place e = grind arith

inc_fits : (pc : ℕ) (i : Instruction) → slice_get (without_calls inc).lines pc ≡ Some i → FitsAt inc.places 3 pc i
inc_fits zero i e = subst (FitsAt inc.places 3 0) (same_Some _ _ e)
    (refl, record { typed = (refl, tt); narrow = ((omega arith, omega arith), small 8 (omega arith), small 0 (omega arith)) })
inc_fits (suc zero) i e = subst (FitsAt inc.places 3 1) (same_Some _ _ e) (
  omega arith,
  record {
    target = _;
    there = refl;
    variable = refl;
    writable = inout_is_not_input;
    typed = (refl, tt);
    narrow = ((omega arith, omega arith), small 1 (omega arith), (omega arith, omega arith));
  },
)
inc_fits (suc (suc zero)) i e = subst (FitsAt inc.places 3 2) (same_Some _ _ e) (
  refl,
  record {
    typed = (refl, (refl, tt));
    narrow = ((omega arith, omega arith), ((omega arith, omega arith), small 1 (omega arith), (omega arith, omega arith)), small 0 (omega arith));
  },
)
inc_fits (suc (suc (suc pc))) i e = grind arith

inc_calls : (callees : List Callee) (n c : ℕ) (arguments : List Passed) → slice_get inc.lines n ≡ Some (call c arguments) → IsSoundCall callees inc.places c arguments
inc_calls callees zero c arguments e = absurd (cc)
inc_calls callees (suc zero) c arguments e = absurd (cc)
inc_calls callees (suc (suc zero)) c arguments e = absurd (cc)
inc_calls callees (suc (suc (suc n))) c arguments e = grind arith

inc_formed : (callees : List Callee) → IsWellFormed callees inc
inc_formed callees = record {
  checked = record {
    some_lines = omega arith;
    few_lines = omega arith;
    few_places = omega arith;
    begins = (_, refl);
    ends = (_, 2, refl, refl);
    fits = inc_fits;
    ranges = inc_ranges;
    in_order = refl;
  };
  small = inc_small;
  calls = inc_calls callees;
}

caller_ranges : (k : ℕ) (place : Place) → slice_get caller.places k ≡ Some place → HasRange place
caller_ranges zero place e = subst HasRange (same_Some _ _ e) (record { ordered = omega (arith, ints); bits = λ h. absurd (cc) })
caller_ranges (suc zero) place e = subst HasRange (same_Some _ _ e) (record { ordered = omega (arith, ints); bits = λ h. absurd (cc) })
caller_ranges (suc (suc k)) place e = grind arith

caller_small : HaveSmallRanges caller.places
caller_small zero place e = subst (λ x. AreSmall (place_bounds (Some x))) (same_Some _ _ e) (omega arith, omega arith)
caller_small (suc zero) place e = subst (λ x. AreSmall (place_bounds (Some x))) (same_Some _ _ e) (omega arith, omega arith)
caller_small (suc (suc k)) place e = grind arith

caller_fits : (pc : ℕ) (i : Instruction) → slice_get (without_calls caller).lines pc ≡ Some i → FitsAt caller.places 3 pc i
caller_fits zero i e = subst (FitsAt caller.places 3 0) (same_Some _ _ e) (refl, record { typed = tt; narrow = tt })
caller_fits (suc zero) i e = subst (FitsAt caller.places 3 1) (same_Some _ _ e) (omega arith)
caller_fits (suc (suc zero)) i e = subst (FitsAt caller.places 3 2) (same_Some _ _ e) (refl, record { typed = tt; narrow = tt })
caller_fits (suc (suc (suc pc))) i e = grind arith

same_call : (c d : ℕ) (arguments given : List Passed) → Some (call c arguments) ≡ Some (call d given) → (c ≡ d) × (arguments ≡ given)
same_call c d arguments given e = let f : call c arguments ≡ call d given = same_Some _ _ e in (cc, cc)

-- the call of `inc` with a variable of the caller
call_sound : IsSoundCall (callees_of (inc ∷ [])) caller.places 0 (variable_of 0 ∷ [])
unfolding callees_of digits
call_sound = record {
  callee = _;
  there = refl;
  suits = (tt, tt);
  sound = (record { target = _; there = refl; variable = refl; writable = inout_is_not_input; same = refl }, tt);
}

caller_calls : (n c : ℕ) (arguments : List Passed) → slice_get caller.lines n ≡ Some (call c arguments) → IsSoundCall (callees_of (inc ∷ [])) caller.places c arguments
caller_calls zero c arguments e = absurd (cc)
caller_calls (suc zero) c arguments e =
    let s = same_call 0 c (variable_of 0 ∷ []) arguments e in
    subst (λ d. IsSoundCall (callees_of (inc ∷ [])) caller.places d arguments) s.0 (subst (IsSoundCall (callees_of (inc ∷ [])) caller.places 0) s.1 call_sound)
caller_calls (suc (suc zero)) c arguments e = absurd (cc)
caller_calls (suc (suc (suc n))) c arguments e = grind arith

caller_formed : IsWellFormed (callees_of (inc ∷ [])) caller
caller_formed = record {
  checked = record {
    some_lines = omega arith;
    few_lines = omega arith;
    few_places = omega arith;
    begins = (_, refl);
    ends = (_, 2, refl, refl);
    fits = caller_fits;
    ranges = caller_ranges;
    in_order = refl;
  };
  small = caller_small;
  calls = caller_calls;
}

text_formed : AreWellFormed (inc ∷ caller ∷ [])
text_formed zero p e = subst (IsWellFormed (callees_of [])) (same_Some _ _ e) (inc_formed (callees_of []))
text_formed (suc zero) p e = subst (IsWellFormed (callees_of (inc ∷ []))) (same_Some _ _ e) caller_formed
text_formed (suc (suc k)) p e = grind arith

-- an IN variable is handed nothing
no_input : IsSoundCall (callees_of (inc ∷ [])) (reader 0).places 0 (variable_of 0 ∷ []) → ⊥
unfolding callees_of digits
no_input s =
    let written : inc ≡ s.callee.written = ap (λ (y : Callee). y.written) (same_Some _ _ s.there) in
    let given : AreArguments (reader 0).places (parameters_of inc) (variable_of 0 ∷ []) =
    subst (λ w. AreArguments (reader 0).places (parameters_of w) (variable_of 0 ∷ [])) (sym written) s.sound in
    given.0.writable (sym (ap (λ (p : Place). p.mode) (same_Some _ _ given.0.there)))

missing : IsSoundCall (callees_of (inc ∷ [])) (reader 1).places 1 (variable_of 0 ∷ []) → ⊥
unfolding callees_of digits
missing s = let there = s.there in grind arith

pub worked : WorkedText
worked = record {
  formed = text_formed;
  reads_only = λ h. no_input (h.calls 1 0 (variable_of 0 ∷ []) refl);
  no_such = λ h. missing (h.calls 1 1 (variable_of 0 ∷ []) refl);
}
