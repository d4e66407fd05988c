-- The text of a normal term by the list of its parts, and which sides stand bare.
use Rattle.std.proofs.lemmas.Bool.Decides.{nat_tests}
use Rattle.std.proofs.Common.{◌≡◌, ◌∙◌, refl, sym, ap, ℕ, zero, suc, ◌<◌, ◌≤◌, ℤ, pos, true, false, ◌==◌, List, [], ◌∷◌, ◌++◌, length, get_or, append_assoc, arith, int_le}
use Rattle.sym_simplify.specs.declared.normal.Normal.{Normal, out-Normal}
use Rattle.sym_simplify.specs.declared.normal.Part.{Part}
use Rattle.sym_simplify.specs.Form.{Form, Factor, constant, part, place, pair}
use Rattle.sym_simplify.specs.FormText.{is_bare, form_text, later_text}
use Rattle.sym_simplify.specs.Held.{factor_of, form_of, parts_before}
use Rattle.sym_simplify.proofs.HeldParts.{held}
use Rattle.form_text.specs.Lists.{numbered}
use Rattle.form_text.specs.Parts.{part_text, end_text, is_place}

suc-no_zero : (k : ℕ) → (suc k == 0) ≡ false
suc-no_zero k = grind (arith, nat_tests)

no-parts : (ps : List Part) (c : ℤ) → length ps < 1 → int_le (pos 0) c ≡ is_bare (parts_before ps (constant c))
no-parts [] c h = refl
no-parts (p ∷ ps) c h = absurd (omega arith)

one-part : (ps : List Part) (c : ℤ) (p : Part) → p ≡ get_or ps 0 p → 1 ≤ length ps → length ps < 2
    → is_bare (part p.coefficient (factor_of p.atom) (constant c)) ≡ is_bare (parts_before ps (constant c))
one-part [] c p i l m = absurd (omega arith)
one-part (q ∷ []) c p i l m = ap (λ (r : Part). is_bare (part r.coefficient (factor_of r.atom) (constant c))) i
one-part (q ∷ r ∷ ps) c p i l m = absurd (omega arith)

wide : (c : ℤ) (a : Factor) (d : ℤ) (b : Factor) (n : Form) → false ≡ is_bare (part c a (part d b n))
wide c (place p) d b n = refl
wide c (pair k l m) d b n = refl

more-parts : (ps : List Part) (c : ℤ) → 2 ≤ length ps → false ≡ is_bare (parts_before ps (constant c))
more-parts [] c h = absurd (omega arith)
more-parts (p ∷ []) c h = absurd (omega arith)
more-parts (p ∷ q ∷ ps) c h = wide p.coefficient (factor_of p.atom) q.coefficient (factor_of q.atom) (parts_before ps (constant c))

pub no-bare : (n : Normal) (ps : List Part) → ps ≡ (out-Normal n).parts → length ps < 1 → int_le (pos 0) (out-Normal n).constant ≡ is_bare (form_of n)
no-bare n ps e h = no-parts (out-Normal n).parts _ (rw (← e) h) ∙ sym (ap is_bare (held n))

pub one-bare : (n : Normal) (ps : List Part) (p : Part) → ps ≡ (out-Normal n).parts → p ≡ get_or ps 0 p → 1 ≤ length ps → length ps < 2
    → is_bare (part p.coefficient (factor_of p.atom) (constant (out-Normal n).constant)) ≡ is_bare (form_of n)
one-bare n ps p e i l m = one-part (out-Normal n).parts _ p (rw (← e) i) (rw (← e) l) (rw (← e) m) ∙ sym (ap is_bare (held n))

pub more-bare : (n : Normal) (ps : List Part) → ps ≡ (out-Normal n).parts → 2 ≤ length ps → false ≡ is_bare (form_of n)
more-bare n ps e h = more-parts (out-Normal n).parts _ (rw (← e) h) ∙ sym (ap is_bare (held n))

no-place : (at : ℕ) (ps : List Part) (c : ℤ) → length ps < 1 → false ≡ is_place at (parts_before ps (constant c))
no-place at [] c h = refl
no-place at (p ∷ ps) c h = absurd (omega arith)

one-place : (at : ℕ) (ps : List Part) (c : ℤ) (p : Part) → p ≡ get_or ps 0 p → 1 ≤ length ps → length ps < 2
    → is_place at (part p.coefficient (factor_of p.atom) (constant c)) ≡ is_place at (parts_before ps (constant c))
one-place at [] c p i l m = absurd (omega arith)
one-place at (q ∷ []) c p i l m = ap (λ (r : Part). is_place at (part r.coefficient (factor_of r.atom) (constant c))) i
one-place at (q ∷ r ∷ ps) c p i l m = absurd (omega arith)

wide-place : (at : ℕ) (c : ℤ) (a : Factor) (d : ℤ) (b : Factor) (n : Form) → false ≡ is_place at (part c a (part d b n))
wide-place at c (place p) d b n = refl
wide-place at c (pair k l m) d b n = refl

more-place : (at : ℕ) (ps : List Part) (c : ℤ) → 2 ≤ length ps → false ≡ is_place at (parts_before ps (constant c))
more-place at [] c h = absurd (omega arith)
more-place at (p ∷ []) c h = absurd (omega arith)
more-place at (p ∷ q ∷ ps) c h = wide-place at p.coefficient (factor_of p.atom) q.coefficient (factor_of q.atom) (parts_before ps (constant c))

pub none-place : (at : ℕ) (n : Normal) (ps : List Part) → ps ≡ (out-Normal n).parts → length ps < 1 → false ≡ is_place at (form_of n)
none-place at n ps e h = no-place at (out-Normal n).parts (out-Normal n).constant (rw (← e) h) ∙ sym (ap (is_place at) (held n))

pub just-place : (at : ℕ) (n : Normal) (ps : List Part) (p : Part) → ps ≡ (out-Normal n).parts → p ≡ get_or ps 0 p → 1 ≤ length ps → length ps < 2
    → is_place at (part p.coefficient (factor_of p.atom) (constant (out-Normal n).constant)) ≡ is_place at (form_of n)
just-place at n ps p e i l m = one-place at (out-Normal n).parts _ p (rw (← e) i) (rw (← e) l) (rw (← e) m) ∙ sym (ap (is_place at) (held n))

pub many-place : (at : ℕ) (n : Normal) (ps : List Part) → ps ≡ (out-Normal n).parts → 2 ≤ length ps → false ≡ is_place at (form_of n)
many-place at n ps e h = more-place at (out-Normal n).parts (out-Normal n).constant (rw (← e) h) ∙ sym (ap (is_place at) (held n))

-- the part of number k
abbrev pub parts_text : (ℕ → List ℕ) → ℕ → Part → List ℕ
parts_text name zero p = part_text name true p
parts_text name (suc k) p = part_text name false p

pub first-part : (name : ℕ → List ℕ) (k : ℕ) (p : Part) → part_text name (k == 0) p ≡ parts_text name k p
first-part name zero p = refl
first-part name (suc k) p = rw suc-no_zero

behind-parts : (name : ℕ → List ℕ) (k : ℕ) (ps : List Part) (c : ℤ) → numbered (parts_text name) (suc k) ps ++ end_text false c ≡ later_text name (parts_before ps (constant c))
behind-parts name k [] c = refl
behind-parts name k (p ∷ ps) c =
    append_assoc (part_text name false p) (numbered (parts_text name) (suc (suc k)) ps) (end_text false c)
    ∙ ap (λ l. part_text name false p ++ l) (behind-parts name (suc k) ps c)

-- the text of the parts and of the constant
all-parts : (name : ℕ → List ℕ) (ps : List Part) (c : ℤ) → numbered (parts_text name) 0 ps ++ end_text (length ps == 0) c ≡ form_text name (parts_before ps (constant c))
all-parts name [] c = refl
all-parts name (p ∷ ps) c =
    let rest : numbered (parts_text name) 0 (p ∷ ps) ++ end_text false c ≡ form_text name (parts_before (p ∷ ps) (constant c)) =
    append_assoc (part_text name true p) (numbered (parts_text name) 1 ps) (end_text false c) ∙ ap (λ l. part_text name true p ++ l) (behind-parts name 0 ps c) in
    rw (suc-no_zero (length ps)) rest

pub normal-text : (name : ℕ → List ℕ) (n : Normal) (ps : List Part) → ps ≡ (out-Normal n).parts
    → numbered (parts_text name) 0 ps ++ end_text (length ps == 0) (out-Normal n).constant ≡ form_text name (form_of n)
normal-text name n ps e = rw e (all-parts name (out-Normal n).parts _) ∙ sym (ap (form_text name) (held n))
