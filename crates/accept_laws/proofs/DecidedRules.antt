-- The rules of a text find a first fault or none.
use Rattle.std.proofs.Common.{◌≡◌, ◌⊎◌, ℕ, zero, suc, ◌<◌, refl, ◌∙◌, ap, List, [], ◌∷◌, length, slice_get, inl, inr, arith}
use Rattle.std.specs.Prelude.{Option, Some, None}
use Rattle.std.specs.Option.{option_and_then}
use Rattle.std.proofs.lemmas.Bool.{cases_order}
use Rattle.std.proofs.lemmas.Option.{slice_get_past}
use Rattle.il_core.specs.Statement.{Statement, Placed}
use Rattle.il_core.specs.declared.refusal.Refusal.{Refusal}
use Rattle.il_types.specs.declared.rules.Found.{Found}
use Rattle.il_core.specs.declared.statement.Link.{Link}
use Rattle.il_types.specs.Rules.{at_stmt, ComesFirst, ComesNowhere, Refuses}
use Rattle.il_built.proofs.Entered.{bound}
use Rattle.call_rules.specs.Rules.{passes, Answers}

-- among the first n statements a pass finds none, or a first one
abbrev Search : (ℕ → Statement → Option Found) → List Placed → ℕ → Type 0
Search pass stmts n = ((j : ℕ) → j < n → at_stmt pass stmts j ≡ None) ⊎ ((r : Refusal) × ComesFirst pass stmts r)

search_before : (pass : ℕ → Statement → Option Found) (stmts : List Placed) (n : ℕ) → Search pass stmts n
search_before pass stmts zero = inl (λ j h. absurd (omega arith))
search_before pass stmts (suc n) = by (search_before pass stmts n)
  where
    here : ((j : ℕ) → j < n → at_stmt pass stmts j ≡ None) → (o : Option Found) → at_stmt pass stmts n ≡ o → Search pass stmts (suc n)
    here before None e = inl (λ j h. elim (cases_order j n) [
      | inl same ↦ ap (at_stmt pass stmts) same ∙ e
      | inr (inl l) ↦ before j l
      | inr (inr l) ↦ absurd (omega arith)
    ])
    here before (Some found) e =
        let x = bound (λ (y : Placed). pass n y.says) (slice_get stmts n) found e in
        inr (
          record { code = found.code; place = x.0.place; name = found.name },
          record {
            i = n;
            stmt = x.0;
            at = x.1;
            faulty = x.2;
            place = refl;
            before = before;
          },
        )

    by : Search pass stmts n → Search pass stmts (suc n)
    by (inl before) = here before (at_stmt pass stmts n) refl
    by (inr r) = inr r

pass_decided : (pass : ℕ → Statement → Option Found) (stmts : List Placed) → ComesNowhere pass stmts ⊎ ((r : Refusal) × ComesFirst pass stmts r)
pass_decided pass stmts = by (search_before pass stmts (length stmts))
  where
    by : Search pass stmts (length stmts) → ComesNowhere pass stmts ⊎ ((r : Refusal) × ComesFirst pass stmts r)
    by (inl before) = inl (λ i. elim (cases_order i (length stmts)) [
      | inl same ↦ ap (option_and_then (λ (y : Placed). pass i y.says)) (slice_get_past stmts i (omega arith))
      | inr (inl l) ↦ before i l
      | inr (inr l) ↦ ap (option_and_then (λ (y : Placed). pass i y.says)) (slice_get_past stmts i (omega arith))
    ])
    by (inr r) = inr r

refuses_decided : (ps : List (ℕ → Statement → Option Found)) (stmts : List Placed) → (answer : Option Refusal) × Refuses ps stmts answer
refuses_decided [] stmts = (None, tt)
refuses_decided (p ∷ ps) stmts = by (pass_decided p stmts) (refuses_decided ps stmts)
  where
    later : ComesNowhere p stmts → (answer : Option Refusal) → Refuses ps stmts answer → (answer : Option Refusal) × Refuses (p ∷ ps) stmts answer
    later never None h = (None, (never, h))
    later never (Some r) h = (Some r, inr (never, h))

    by : ComesNowhere p stmts ⊎ ((r : Refusal) × ComesFirst p stmts r) → ((answer : Option Refusal) × Refuses ps stmts answer) → (answer : Option Refusal) × Refuses (p ∷ ps) stmts answer
    by (inl never) x = later never x.0 x.1
    by (inr r) x = (Some r.0, inl r.1)

-- each text has a first fault of the rules or none
pub rules_decided : (stmts : List Placed) (links : List Link) → (answer : Option Refusal) × Answers stmts links answer
rules_decided stmts links = refuses_decided (passes stmts links) stmts
