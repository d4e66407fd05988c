-- The normal terms of a table: each is made from its cell, and stands wherever the table is kept.
use Rattle.std.proofs.Common.{◌≡◌, ◌∙◌, refl, sym, ap, ℕ, pos, ◌<◌, ◌≤◌, Bool, true, false, cond, Some, List, [], ◌∷◌, ◌++◌, length, slice_get, inl, inr, zero-add, arith, ◌+◌, max}
use Rattle.std.specs.List.{IsDistinct, list_any}
use Rattle.indexmap.specs.IndexSet.{insert_key}
use Rattle.sym_simplify.specs.declared.node.FormId.{FormId}
use Rattle.sym_simplify.specs.declared.node.FormAtom.{FormAtom}
use Rattle.sym_simplify.specs.declared.node.FormAtom.TheVariants.{Var, Mul, Div, Mod}
use Rattle.sym_simplify.specs.declared.node.FormNode.{FormNode}
use Rattle.sym_simplify.specs.declared.node.FormNode.TheVariants.{Constant, More}
use Rattle.sym_simplify.specs.contracts.node.FormNodePartialEq.TheImpl as same
use Rattle.sym_simplify.specs.contracts.node.FormNodeEq.TheImpl.Laws.{laws-law}
use Rattle.sym_simplify.specs.Form.{Form, constant, part}
use Rattle.sym_simplify.specs.Table.{HasSidesBelow, NamesBelow, IsTable, form_in, factor_over, form_over, forms_of, form_at, factor_at, node_form}
use Rattle.sym_terms.specs.Grown.{Keeps}
use Rattle.sym_terms.proofs.Grown.{keeps_le, keeps_self, keeps_trans, kept-grown, grown-node}
use Rattle.sym_terms.proofs.Numbered.{get_push, one_place}

-- an atom rests on the normal terms of the positions that it names
atoms-agree : (xs ys : List Form) (k : ℕ) (a : FormAtom) → HasSidesBelow k a → ((j : ℕ) → j < k → form_in xs j ≡ form_in ys j) → factor_over xs a ≡ factor_over ys a
atoms-agree xs ys k (Var p) b h = refl
atoms-agree xs ys k (Mul l r) b h = rw (h l.index b.0, h r.index b.1) refl
atoms-agree xs ys k (Div l r) b h = rw (h l.index b.0, h r.index b.1) refl
atoms-agree xs ys k (Mod l r) b h = rw (h l.index b.0, h r.index b.1) refl

cells-agree : (xs ys : List Form) (k : ℕ) (n : FormNode) → NamesBelow k n → ((j : ℕ) → j < k → form_in xs j ≡ form_in ys j) → form_over xs n ≡ form_over ys n
cells-agree xs ys k (Constant c) b h = refl
cells-agree xs ys k (More p next) b h = rw (atoms-agree xs ys k p.atom b.0 h, h next.index b.1) refl

over-atom : (nodes : List FormNode) (a : FormAtom) → factor_over (forms_of nodes) a ≡ factor_at nodes a
unfolding form_at
over-atom nodes (Var p) = refl
over-atom nodes (Mul l r) = refl
over-atom nodes (Div l r) = refl
over-atom nodes (Mod l r) = refl

over-node : (nodes : List FormNode) (n : FormNode) → form_over (forms_of nodes) n ≡ node_form nodes n
unfolding form_at
over-node nodes (Constant c) = refl
over-node nodes (More p next) = ap (λ a. part p.coefficient a (form_in (forms_of nodes) next.index)) (over-atom nodes p.atom)

-- the normal term of a position is that of its cell
pub form_of_node : (nodes : List FormNode) (id : FormId) (n : FormNode) → IsTable nodes → slice_get nodes id.index ≡ Some n → form_at nodes id ≡ node_form nodes n
unfolding form_at forms_of
form_of_node nodes id n table e =
    grown-node form_over NamesBelow (constant (pos 0)) cells-agree [] nodes id.index id.index n e (sym (zero-add id.index)) (table.lower id.index n e)
    ∙ over-node nodes n

-- a normal term stands where the table is kept
pub form_kept : (old new : List FormNode) (id : FormId) → Keeps old new → id.index < length old → form_at new id ≡ form_at old id
unfolding form_at forms_of
form_kept old new id k l = kept-grown form_over old new id.index (constant (pos 0)) k l

-- and so does an atom
pub atom_kept : (old new : List FormNode) (a : FormAtom) → Keeps old new → HasSidesBelow (length old) a → factor_at new a ≡ factor_at old a
atom_kept old new (Var p) k b = refl
atom_kept old new (Mul l r) k b = rw (form_kept old new l k b.0, form_kept old new r k b.1) refl
atom_kept old new (Div l r) k b = rw (form_kept old new l k b.0, form_kept old new r k b.1) refl
atom_kept old new (Mod l r) k b = rw (form_kept old new l k b.0, form_kept old new r k b.1) refl

-- and the normal term of a cell
pub node_kept : (old new : List FormNode) (n : FormNode) → Keeps old new → NamesBelow (length old) n → node_form new n ≡ node_form old n
node_kept old new (Constant c) k b = refl
node_kept old new (More p next) k b = rw (atom_kept old new p.atom k b.0, form_kept old new next k b.1) refl

-- a cell that now stands has its normal term over the old table
pub made_form : (old new : List FormNode) (id : FormId) (n : FormNode) → Keeps old new → IsTable new → NamesBelow (length old) n
    → slice_get new id.index ≡ Some n → form_at new id ≡ node_form old n
made_form old new id n k table b e = form_of_node new id n table e ∙ node_kept old new n k b

-- sides below a lesser number are below a greater one
pub sides_further : (j k : ℕ) (a : FormAtom) → j ≤ k → HasSidesBelow j a → HasSidesBelow k a
sides_further j k (Var p) l b = tt
sides_further j k (Mul x y) l b = (omega (arith, b.0), omega (arith, b.1))
sides_further j k (Div x y) l b = (omega (arith, b.0), omega (arith, b.1))
sides_further j k (Mod x y) l b = (omega (arith, b.0), omega (arith, b.1))

-- each cell of a list to which one is added names lower numbers
lower-push : (ns : List FormNode) (n : FormNode) → IsTable ns → NamesBelow (length ns) n → (b : Bool) (k : ℕ) (m : FormNode)
    → slice_get (cond b ns (ns ++ n ∷ [])) k ≡ Some m → NamesBelow k m
lower-push ns n table h true k m e = table.lower k m e
lower-push ns n table h false k m e =
    elim (get_push ns n k m e) [ inl p ↦ table.lower k m p | inr p ↦ rw (p.0, p.1) h ]

-- a table to which a cell is added is a table
pub table_more : (ns new : List FormNode) (n : FormNode) → IsTable ns → NamesBelow (length ns) n → new ≡ insert_key (same.eq-value).it ns n
    → IsDistinct (same.eq-value).it new → IsTable new
table_more ns new n table h e d = record {
  lower = λ k m f. lower-push ns n table h (list_any ((same.eq-value).it n) ns) k m (rw e at f);
  differ = one_place (same.eq-value).it (laws-law.refl) new d;
}

-- what a call on a table that grows asks for
pub ruleset keeping = (form_kept, keeps_trans, keeps_self, keeps_le)

-- how far up an atom's sides are
abbrev pub reach : FormAtom → ℕ
reach (Var p) = 0
reach (Mul a b) = max a.index b.index + 1
reach (Div a b) = max a.index b.index + 1
reach (Mod a b) = max a.index b.index + 1

-- an atom with sides below a position reaches no further than that
pub reach_below : (k : ℕ) (a : FormAtom) → HasSidesBelow k a → reach a ≤ k
reach_below k (Var p) h = omega arith
reach_below k (Mul a b) h = omega (arith, h.0, h.1)
reach_below k (Div a b) h = omega (arith, h.0, h.1)
reach_below k (Mod a b) h = omega (arith, h.0, h.1)
