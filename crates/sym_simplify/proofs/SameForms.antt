-- Equal normal terms of a table stand at one position.
use Rattle.std.proofs.Common.{◌≡◌, ◌∙◌, refl, sym, ap, ℕ, ℤ, pos, ◌<◌, ◌↔◌, IsTrue, Bool, Some, List, length, get_or, slice_get, arith}
use Rattle.std.proofs.lemmas.Option.{slice_get-get_or}
use Rattle.sym_simplify.specs.declared.node.FormId.{FormId}
use Rattle.sym_simplify.specs.declared.node.FormAtom.{FormAtom}
use Rattle.sym_simplify.specs.declared.node.FormAtom.TheVariants.{Var, Mul, Div, Mod}
use Rattle.sym_simplify.specs.declared.node.FormPart.{FormPart}
use Rattle.sym_simplify.specs.declared.node.FormNode.{FormNode}
use Rattle.sym_simplify.specs.declared.node.FormNode.TheVariants.{Constant, More}
use Rattle.sym_simplify.specs.Form.{Kind, times, over, rest, Form, constant, part, Factor, place, pair}
use Rattle.sym_simplify.specs.Table.{HasSidesBelow, NamesBelow, IsTable, form_at, factor_at, node_form}
use Rattle.sym_simplify.proofs.Cells.{form_of_node}

-- the atom of a kind over two positions
abbrev atom_of : Kind → FormId → FormId → FormAtom
atom_of times a b = Mul a b
atom_of over a b = Div a b
atom_of rest a b = Mod a b

-- an atom of two sides that have these normal terms
record Sides (nodes : List FormNode) (k : Kind) (a : FormAtom) (u v : Form) : Type 0 where
  left : FormId
  right : FormId
  atom : a ≡ atom_of k left right
  left_form : form_at nodes left ≡ u
  right_form : form_at nodes right ≡ v

-- a cell with this first part and this rest
record Cell (nodes : List FormNode) (n : FormNode) (c : ℤ) (a : Factor) (m : Form) : Type 0 where
  first : FormPart
  next : FormId
  node : n ≡ More first next
  coefficient : first.coefficient ≡ c
  factor : factor_at nodes first.atom ≡ a
  form : form_at nodes next ≡ m

of-place : (nodes : List FormNode) (a : FormAtom) (p : ℕ) → factor_at nodes a ≡ place p → a ≡ Var p
of-place nodes (Var q) p e = cc e
of-place nodes (Mul x y) p e = cc e
of-place nodes (Div x y) p e = cc e
of-place nodes (Mod x y) p e = cc e

of-pair : (nodes : List FormNode) (a : FormAtom) (k : Kind) (u v : Form) → factor_at nodes a ≡ pair k u v → Sides nodes k a u v
of-pair nodes (Var p) k u v e = let h : ⊥ = cc e in absurd h
of-pair nodes (Mul x y) k u v e = let h : times ≡ k = cc e in record { left = x; right = y; atom = ap (λ j. atom_of j x y) h; left_form = cc e; right_form = cc e }
of-pair nodes (Div x y) k u v e = let h : over ≡ k = cc e in record { left = x; right = y; atom = ap (λ j. atom_of j x y) h; left_form = cc e; right_form = cc e }
of-pair nodes (Mod x y) k u v e = let h : rest ≡ k = cc e in record { left = x; right = y; atom = ap (λ j. atom_of j x y) h; left_form = cc e; right_form = cc e }

of-constant : (nodes : List FormNode) (n : FormNode) (c : ℤ) → node_form nodes n ≡ constant c → n ≡ Constant c
of-constant nodes (Constant d) c e = cc e
of-constant nodes (More p next) c e = cc e

of-part : (nodes : List FormNode) (n : FormNode) (c : ℤ) (a : Factor) (m : Form) → node_form nodes n ≡ part c a m → Cell nodes n c a m
of-part nodes (Constant d) c a m e = let h : ⊥ = cc e in absurd h
of-part nodes (More p next) c a m e = record { first = p; next = next; node = refl; coefficient = cc e; factor = cc e; form = cc e }

-- the cell of a position
node-at : (nodes : List FormNode) (a : FormId) → a.index < length nodes → (n : FormNode) × (slice_get nodes a.index ≡ Some n)
node-at nodes a l = (get_or nodes a.index (Constant (pos 0)), slice_get-get_or nodes a.index (Constant (pos 0)) l)

one-id : (nodes : List FormNode) (a b : FormId) (n : FormNode) → IsTable nodes → slice_get nodes a.index ≡ Some n → slice_get nodes b.index ≡ Some n → a ≡ b
one-id nodes a b n table e f = let at : ℕ → FormId = λ i. record { index = i } in ap at (table.differ a.index b.index n e f)

sides-below : (k : ℕ) (j : Kind) (a b : FormId) → HasSidesBelow k (atom_of j a b) → (a.index < k) × (b.index < k)
sides-below k times a b h = h
sides-below k over a b h = h
sides-below k rest a b h = h

same-part : (p q : FormPart) → p.coefficient ≡ q.coefficient → p.atom ≡ q.atom → p ≡ q
same-part p q e f =
    let at : ℤ → FormAtom → FormPart = λ c a. record { coefficient = c; atom = a } in
    ap (λ c. at c p.atom) e ∙ ap (at q.coefficient) f

mutual
  -- positions of equal normal terms are equal, by induction on the normal term
  same-ids : (nodes : List FormNode) → IsTable nodes → (t : Form) (a b : FormId) → a.index < length nodes → b.index < length nodes
      → form_at nodes a ≡ t → form_at nodes b ≡ t → a ≡ b
  same-ids nodes table (constant c) a b k l g h =
      let p = node-at nodes a k in
      let q = node-at nodes b l in
      let x : p.0 ≡ Constant c = of-constant nodes p.0 c (sym (form_of_node nodes a p.0 table p.1) ∙ g) in
      let y : q.0 ≡ Constant c = of-constant nodes q.0 c (sym (form_of_node nodes b q.0 table q.1) ∙ h) in
      one-id nodes a b q.0 table (p.1 ∙ ap Some (x ∙ sym y)) q.1
  same-ids nodes table (part c f n) a b k l g h =
      let p = node-at nodes a k in
      let q = node-at nodes b l in
      let x = of-part nodes p.0 c f n (sym (form_of_node nodes a p.0 table p.1) ∙ g) in
      let y = of-part nodes q.0 c f n (sym (form_of_node nodes b q.0 table q.1) ∙ h) in
      let i : NamesBelow a.index (More x.first x.next) = rw x.node at (table.lower a.index p.0 p.1) in
      let j : NamesBelow b.index (More y.first y.next) = rw y.node at (table.lower b.index q.0 q.1) in
      let u : x.next ≡ y.next = same-ids nodes table n x.next y.next (omega (arith, i.1)) (omega (arith, j.1)) x.form y.form in
      let v : x.first.atom ≡ y.first.atom = same-atoms nodes table f x.first.atom y.first.atom a.index b.index (omega arith) (omega arith) i.0 j.0 x.factor y.factor in
      let w : x.first.coefficient ≡ y.first.coefficient = x.coefficient ∙ sym y.coefficient in
      let z : x.first ≡ y.first = same-part x.first y.first w v in
      let s : More x.first x.next ≡ More y.first y.next = cc in
      one-id nodes a b q.0 table (p.1 ∙ ap Some (x.node ∙ (s ∙ sym y.node))) q.1

  same-atoms : (nodes : List FormNode) → IsTable nodes → (t : Factor) (a b : FormAtom) (k l : ℕ) → k < length nodes → l < length nodes
      → HasSidesBelow k a → HasSidesBelow l b → factor_at nodes a ≡ t → factor_at nodes b ≡ t → a ≡ b
  same-atoms nodes table (place p) a b k l i j m n g h = of-place nodes a p g ∙ sym (of-place nodes b p h)
  same-atoms nodes table (pair s u v) a b k l i j m n g h =
      let x = of-pair nodes a s u v g in
      let y = of-pair nodes b s u v h in
      let o : (x.left.index < k) × (x.right.index < k) = sides-below k s x.left x.right (rw x.atom at m) in
      let r : (y.left.index < l) × (y.right.index < l) = sides-below l s y.left y.right (rw y.atom at n) in
      let d : x.left ≡ y.left = same-ids nodes table u x.left y.left (omega (arith, o.0)) (omega (arith, r.0)) x.left_form y.left_form in
      let e : x.right ≡ y.right = same-ids nodes table v x.right y.right (omega (arith, o.1)) (omega (arith, r.1)) x.right_form y.right_form in
      let w : atom_of s x.left x.right ≡ atom_of s y.left y.right = cc in
      x.atom ∙ (w ∙ sym y.atom)

-- so a test of the positions is one of the normal terms
pub shared : (nodes : List FormNode) (a b : FormId) (r : Bool) → IsTable nodes → a.index < length nodes → b.index < length nodes
    → (IsTrue r → a ≡ b) → (a ≡ b → IsTrue r) → IsTrue r ↔ (form_at nodes a ≡ form_at nodes b)
shared nodes a b r table k l f g = (λ h. ap (form_at nodes) (f h), λ e. g (same-ids nodes table (form_at nodes b) a b k l e refl))
