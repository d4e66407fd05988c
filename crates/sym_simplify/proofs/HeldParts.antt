-- The normal term that a `Normal` holds, by its fields.
use Rattle.std.proofs.Common.{◌≡◌, ◌∙◌, refl, sym, ap, ℕ, ◌+◌, ◌<◌, ◌≤◌, ℤ, List, [], ◌∷◌, ◌++◌, length, drop, get_or}
use Rattle.std.proofs.lemmas.List.{drop_all}
use Rattle.sym_simplify.specs.declared.node.FormPart.{FormPart}
use Rattle.sym_simplify.specs.declared.node.FormNode.{FormNode}
use Rattle.sym_simplify.specs.Table.{factor_at, on_top}
use Rattle.sym_simplify.proofs.OpenParts.{drop_part}
use Rattle.sym_simplify.specs.declared.normal.Normal.{Normal, Normal', Row_of-Part, end_of-Part, more_of-Part, items-the_row-Part, items_shown-the_row-Part-0, out-Normal, roll-Normal, out-roll-Normal}
use Rattle.sym_simplify.specs.declared.normal.Part.{Part}
use Rattle.sym_simplify.specs.Form.{Form, constant, part}
use Rattle.sym_simplify.specs.Held.{factor_of, form_of, parts_in, parts_before}

row_parts : {m : _} (c : ℤ) (row : Row_of-Part m) → parts_in c row ≡ parts_before (items-the_row-Part _ row) (constant c)
row_parts c end_of-Part = refl
row_parts c (more_of-Part k a more) = ap (part k (factor_of a)) (row_parts c more)

pub held : (n : Normal) → form_of n ≡ parts_before (out-Normal n).parts (constant (out-Normal n).constant)
unfolding out-Normal denote.Hole.Carrier.out
held (Normal' c shape row) = row_parts c row ∙ ap (λ ps. parts_before ps (constant c)) (sym (items_shown-the_row-Part-0 shape row))

pub rolled : (c : ℤ) (ps : List Part) → form_of (roll-Normal record { constant = c; parts = ps }) ≡ parts_before ps (constant c)
rolled c ps = held _ ∙ ap (λ r. parts_before r.parts (constant r.constant)) (out-roll-Normal _)

pub before_push : (ps : List Part) (p : Part) (n : Form) → parts_before (ps ++ p ∷ []) n ≡ parts_before ps (part p.coefficient (factor_of p.atom) n)
before_push [] p n = refl
before_push (q ∷ ps) p n = ap (part q.coefficient (factor_of q.atom)) (before_push ps p n)

pub before_step : (nodes : List FormNode) (read : List Part) (ps : List FormPart) (i : ℕ) (d : FormPart) (p : Part) (n m : Form) → i < length ps
    → p.coefficient ≡ (get_or ps i d).coefficient → factor_of p.atom ≡ factor_at nodes (get_or ps i d).atom
    → parts_before read (on_top nodes (drop i ps) n) ≡ m → parts_before (read ++ p ∷ []) (on_top nodes (drop (i + 1) ps) n) ≡ m
before_step nodes read ps i d p n m l e f h =
    before_push read p (on_top nodes (drop (i + 1) ps) n)
    ∙ (ap (parts_before read) (rw (e, f) (sym (drop_part nodes ps i d n l))) ∙ h)

pub before_end : (nodes : List FormNode) (read : List Part) (ps : List FormPart) (i : ℕ) (n m : Form) → length ps ≤ i
    → parts_before read (on_top nodes (drop i ps) n) ≡ m → parts_before read n ≡ m
before_end nodes read ps i n m l h = ap (λ qs. parts_before read (on_top nodes qs n)) (sym (drop_all i ps l)) ∙ h
