-- What a normal term is a multiple of, by the parts that hold it.
use Rattle.std.proofs.Common.{◌≡◌, ◌∙◌, refl, sym, ap, ◌<◌, ◌≤◌, ℤ, List, [], ◌∷◌, length, get_or, Option, None, arith}
use Rattle.std.specs.Option.{option_map}
use Rattle.sym_simplify.specs.declared.normal.Normal.{Normal, out-Normal}
use Rattle.sym_simplify.specs.declared.normal.Part.{Part}
use Rattle.sym_simplify.specs.declared.easy.Multiple.{Multiple}
use Rattle.sym_simplify.specs.Form.{constant}
use Rattle.sym_simplify.specs.Held.{factor_of, form_of, parts_before}
use Rattle.sym_simplify.specs.Easy.{place_in, single, double_of, multiple_of}
use Rattle.sym_simplify.proofs.HeldParts.{held}

no-parts : (ps : List Part) (c : ℤ) → length ps < 1 → None ≡ multiple_of (parts_before ps (constant c))
no-parts [] c h = refl
no-parts (p ∷ ps) c h = absurd (omega arith)

one-part : (ps : List Part) (c : ℤ) (p : Part) → p ≡ get_or ps 0 p → 1 ≤ length ps → length ps < 2
    → option_map (single p.coefficient) (place_in (factor_of p.atom)) ≡ multiple_of (parts_before ps (constant c))
one-part [] c p i l m = absurd (omega arith)
one-part (q ∷ []) c p i l m = ap (λ (r : Part). option_map (single r.coefficient) (place_in (factor_of r.atom))) i
one-part (q ∷ r ∷ ps) c p i l m = absurd (omega arith)

two-parts : (ps : List Part) (c : ℤ) (p q : Part) → p ≡ get_or ps 0 p → q ≡ get_or ps 1 q → 2 ≤ length ps → length ps < 3
    → double_of p.coefficient (factor_of p.atom) q.coefficient (factor_of q.atom) ≡ multiple_of (parts_before ps (constant c))
two-parts [] c p q i j l m = absurd (omega arith)
two-parts (r ∷ []) c p q i j l m = absurd (omega arith)
two-parts (r ∷ s ∷ []) c p q i j l m =
    ap (λ (x : Part). double_of x.coefficient (factor_of x.atom) q.coefficient (factor_of q.atom)) i
    ∙ ap (λ (x : Part). double_of r.coefficient (factor_of r.atom) x.coefficient (factor_of x.atom)) j
two-parts (r ∷ s ∷ t ∷ ps) c p q i j l m = absurd (omega arith)

more-parts : (ps : List Part) (c : ℤ) → 3 ≤ length ps → None ≡ multiple_of (parts_before ps (constant c))
more-parts [] c h = absurd (omega arith)
more-parts (p ∷ []) c h = absurd (omega arith)
more-parts (p ∷ q ∷ []) c h = absurd (omega arith)
more-parts (p ∷ q ∷ r ∷ ps) c h = refl

-- what the parts say is what the normal term says
by-parts : (o : Option Multiple) (n : Normal) → o ≡ multiple_of (parts_before (out-Normal n).parts (constant (out-Normal n).constant)) → o ≡ multiple_of (form_of n)
by-parts o n e = e ∙ sym (ap multiple_of (held n))

pub no-multiple : (n : Normal) (ps : List Part) → ps ≡ (out-Normal n).parts → length ps < 1 → None ≡ multiple_of (form_of n)
no-multiple n ps e h = by-parts None n (no-parts (out-Normal n).parts _ (rw (← e) h))

pub one-multiple : (n : Normal) (ps : List Part) (p : Part) → ps ≡ (out-Normal n).parts → p ≡ get_or ps 0 p → 1 ≤ length ps → length ps < 2
    → option_map (single p.coefficient) (place_in (factor_of p.atom)) ≡ multiple_of (form_of n)
one-multiple n ps p e i l m = by-parts _ n (one-part (out-Normal n).parts _ p (rw (← e) i) (rw (← e) l) (rw (← e) m))

pub two-multiple : (n : Normal) (ps : List Part) (p q : Part) → ps ≡ (out-Normal n).parts → p ≡ get_or ps 0 p → q ≡ get_or ps 1 q → 2 ≤ length ps → length ps < 3
    → double_of p.coefficient (factor_of p.atom) q.coefficient (factor_of q.atom) ≡ multiple_of (form_of n)
two-multiple n ps p q e i j l m = by-parts _ n (two-parts (out-Normal n).parts _ p q (rw (← e) i) (rw (← e) j) (rw (← e) l) (rw (← e) m))

pub more-multiple : (n : Normal) (ps : List Part) → ps ≡ (out-Normal n).parts → 3 ≤ length ps → None ≡ multiple_of (form_of n)
more-multiple n ps e h = by-parts None n (more-parts (out-Normal n).parts _ (rw (← e) h))
