-- No text has two answers.
use Rattle.std.proofs.Common.{◌≡◌, ℕ, ◌<◌, ◌∙◌, sym, ap, refl, inl, inr, List, [], ◌∷◌}
use Rattle.std.specs.Prelude.{Option, Some, None, slice_get}
use Rattle.std.specs.Option.{option_and_then}
use Rattle.std.proofs.lemmas.Bool.{cases_order}
use Rattle.il_core.specs.Statement.{Statement, Placed}
use Rattle.il_core.specs.declared.refusal.Refusal.{Refusal}
use Rattle.il_types.specs.declared.rules.Found.{Found}
use Rattle.il_types.specs.Rules.{at_stmt, ComesFirst, ComesNowhere, Refuses}

-- at its first fault a pass finds it
faulty_at : (pass : ℕ → Statement → Option Found) (stmts : List Placed) (r : Refusal) (f : ComesFirst pass stmts r)
    → at_stmt pass stmts f.i ≡ Some (record { code = r.code; name = r.name })
faulty_at pass stmts r f = ap (option_and_then (λ (x : Placed). pass f.i x.says)) f.at ∙ f.faulty

-- a pass that finds a fault does not come nowhere
clash : (pass : ℕ → Statement → Option Found) (stmts : List Placed) (r : Refusal) → ComesFirst pass stmts r → ComesNowhere pass stmts → ⊥
clash pass stmts r f n =
    let e : ◌≡◌ {A = Option Found} (Some (record { code = r.code; name = r.name })) None = sym (faulty_at pass stmts r f) ∙ n f.i in cc

made : Found → ℕ → Refusal
made f p = record { code = f.code; place = p; name = f.name }

some_same : (a b : Found) → Some a ≡ Some b → a ≡ b
some_same a b e = cc

some_placed : (a b : Placed) → Some a ≡ Some b → a ≡ b
some_placed a b e = cc

same_first : (pass : ℕ → Statement → Option Found) (stmts : List Placed) (a b : Refusal) (f : ComesFirst pass stmts a) (g : ComesFirst pass stmts b) → f.i ≡ g.i → a ≡ b
unfolding made
same_first pass stmts a b f g e =
    let found : record { code = a.code; name = a.name } ≡ record { code = b.code; name = b.name } =
    some_same _ _ (sym (faulty_at pass stmts a f) ∙ ap (at_stmt pass stmts) e ∙ faulty_at pass stmts b g) in
    let stmt : f.stmt ≡ g.stmt = some_placed _ _ (sym f.at ∙ ap (slice_get stmts) e ∙ g.at) in
    let place : a.place ≡ b.place = f.place ∙ ap (λ (x : Placed). x.place) stmt ∙ sym g.place in
    ap (λ h. made h a.place) found ∙ ap (made (record { code = b.code; name = b.name })) place

-- a fault before the first one
too_early : (pass : ℕ → Statement → Option Found) (stmts : List Placed) (a b : Refusal) (f : ComesFirst pass stmts a) (g : ComesFirst pass stmts b) → f.i < g.i → ⊥
too_early pass stmts a b f g lt =
    let e : ◌≡◌ {A = Option Found} (Some (record { code = a.code; name = a.name })) None = sym (faulty_at pass stmts a f) ∙ g.before f.i lt in cc

-- one pass has one first fault
one_first : (pass : ℕ → Statement → Option Found) (stmts : List Placed) (a b : Refusal) → ComesFirst pass stmts a → ComesFirst pass stmts b → a ≡ b
one_first pass stmts a b f g = elim (cases_order f.i g.i) [
  | inl e ↦ same_first pass stmts a b f g e
  | inr (inl lt) ↦ absurd (too_early pass stmts a b f g lt)
  | inr (inr gt) ↦ absurd (too_early pass stmts b a g f gt)
]

pub one_refusal : (passes : List (ℕ → Statement → Option Found)) (stmts : List Placed) (a b : Option Refusal) → Refuses passes stmts a → Refuses passes stmts b → a ≡ b
one_refusal [] stmts None None f g = refl
one_refusal [] stmts None (Some b) f g = absurd g
one_refusal [] stmts (Some a) b f g = absurd f
one_refusal (pass ∷ others) stmts None None f g = refl
one_refusal (pass ∷ others) stmts None (Some b) f (inl g) = absurd (clash pass stmts b g f.0)
one_refusal (pass ∷ others) stmts None (Some b) f (inr g) = one_refusal others stmts None (Some b) f.1 g.1
one_refusal (pass ∷ others) stmts (Some a) None (inl f) g = absurd (clash pass stmts a f g.0)
one_refusal (pass ∷ others) stmts (Some a) None (inr f) g = one_refusal others stmts (Some a) None f.1 g.1
one_refusal (pass ∷ others) stmts (Some a) (Some b) (inl f) (inl g) = ap Some (one_first pass stmts a b f g)
one_refusal (pass ∷ others) stmts (Some a) (Some b) (inl f) (inr g) = absurd (clash pass stmts a f g.0)
one_refusal (pass ∷ others) stmts (Some a) (Some b) (inr f) (inl g) = absurd (clash pass stmts b g f.0)
one_refusal (pass ∷ others) stmts (Some a) (Some b) (inr f) (inr g) = one_refusal others stmts (Some a) (Some b) f.1 g.1
