-- What is known of normal terms from call to call.
use Rattle.std.proofs.Common.{◌≡◌, ◌∙◌, refl, sym, ap, ℕ, suc, ◌+◌, ◌<◌, ◌⊎◌, inl, inr, Bool, true, false, cond, Option, Some, List, [], ◌∷◌, length, slice_get, negsuc, arith, nat_eq}
use Rattle.std.proofs.lemmas.Bool.Decides.{nat_tests}
use Rattle.std.proofs.lemmas.Option.{none-some, same_Some}
use Rattle.std.specs.HashMap.{get}
use Rattle.sym_terms.specs.declared.node.TermId.{TermId}
use Rattle.sym_terms.specs.declared.node.TermNode.{TermNode}
use Rattle.sym_terms.specs.Grown.{Keeps}
use Rattle.sym_terms.specs.Nodes.{tree_at}
use Rattle.sym_terms.proofs.Grown.{keeps_le, keeps_self, keeps_trans}
use Rattle.sym_terms.proofs.Terms.{tree_kept}
use Rattle.sym_simplify.specs.declared.node.FormId.{FormId}
use Rattle.sym_simplify.specs.declared.node.FormPart.{FormPart}
use Rattle.sym_simplify.specs.declared.node.FormNode.{FormNode}
use Rattle.sym_simplify.specs.Form.{Form}
use Rattle.sym_terms.specs.Tree.{Tree}
use Rattle.sym_terms.specs.Measure.{weight}
use Rattle.sym_simplify.specs.Norm.{norm, heft}
use Rattle.sym_simplify.specs.Merge.{merge, scale}
use Rattle.sym_simplify.specs.Literal.{difference}
use Rattle.sym_simplify.specs.Table.{HasSidesBelow, form_at, on_top, ArePartsWithin}
use Rattle.sym_simplify.specs.Known.{Known, IsKnown}
use Rattle.sym_simplify.proofs.Cells.{form_kept, atom_kept, sides_further}
use Rattle.sym_simplify.proofs.LiteralForms.{difference_merged, difference_heft}
use Rattle.sym_simplify.proofs.Norms.{norm_number, norm_variable, norm_sum, norm_product, norm_quotient, norm_remainder, sum_small, product_small, product_left, product_right}

-- nothing known is known rightly
pub known_none : (terms : List TermNode) (forms : List FormNode) (known : Known) → known.entries ≡ [] → IsKnown terms forms known
known_none terms forms known h =
    let P : (id : TermId) (f : FormId) → get nat_eq known id.index ≡ Some f → ⊥ = λ id f e. none-some f (rw h at e) in
    record { source = λ id f e. absurd (P id f e); within = λ id f e. absurd (P id f e); form = λ id f e. absurd (P id f e) }

-- what is known stays so where the table is kept
pub known_kept : (terms : List TermNode) (old new : List FormNode) (known : Known) → Keeps old new → IsKnown terms old known → IsKnown terms new known
known_kept terms old new known k m = record {
  source = m.source;
  within = λ id f e. omega (arith, keeps_le old new k, m.within id f e);
  form = λ id f e. form_kept old new f k (m.within id f e) ∙ m.form id f e;
}

-- and where the pool is kept
pub known_later : (old new : List TermNode) (forms : List FormNode) (known : Known) → Keeps old new → IsKnown old forms known → IsKnown new forms known
known_later old new forms known k m = record {
  source = λ id f e. omega (arith, keeps_le old new k, m.source id f e);
  within = m.within;
  form = λ id f e. m.form id f e ∙ ap norm (sym (tree_kept old new id k (m.source id f e)));
}

-- and where the entries stay
pub known_same : (terms : List TermNode) (forms : List FormNode) (old new : Known) → new.entries ≡ old.entries → IsKnown terms forms old → IsKnown terms forms new
known_same terms forms old new h m =
    let P : (id : TermId) (f : FormId) → get nat_eq new id.index ≡ Some f → get nat_eq old id.index ≡ Some f = λ id f e. rw h at e in
    record { source = λ id f e. m.source id f (P id f e); within = λ id f e. m.within id f (P id f e); form = λ id f e. m.form id f (P id f e) }

same-index : (i j : ℕ) → nat_eq i j ≡ true → i ≡ j
same-index i j h = grind (arith, nat_tests)

same-id : (a b : TermId) → a.index ≡ b.index → a ≡ b
same-id a b e = let at : ℕ → TermId = λ i. record { index = i } in ap at e

more : (b : Bool) (old : Option FormId) (r v : FormId) → cond b (Some r) old ≡ Some v → ((b ≡ true) × (r ≡ v)) ⊎ (old ≡ Some v)
more true old r v e = inl (refl, same_Some r v e)
more false old r v e = inr e

-- one more is known
pub known_put : (terms : List TermNode) (forms : List FormNode) (old new : Known) (id : TermId) (r : FormId) → IsKnown terms forms old
    → ((q : ℕ) → get nat_eq new q ≡ cond (nat_eq id.index q) (Some r) (get nat_eq old q))
    → id.index < length terms → r.index < length forms → form_at forms r ≡ norm (tree_at terms id) → IsKnown terms forms new
known_put terms forms old new id r m h k l t =
    let P : (x : TermId) (v : FormId) → get nat_eq new x.index ≡ Some v → ((id ≡ x) × (r ≡ v)) ⊎ (get nat_eq old x.index ≡ Some v)
    = λ x v e. elim (more (nat_eq id.index x.index) (get nat_eq old x.index) r v (sym (h x.index) ∙ e))
    [ inl p ↦ inl (same-id id x (same-index id.index x.index p.0), p.1) | inr p ↦ inr p ] in
    record {
      source = λ x v e. elim (P x v e) [ inl p ↦ rw (← p.0) k | inr p ↦ m.source x v p ];
      within = λ x v e. elim (P x v e) [ inl p ↦ rw (← p.1) l | inr p ↦ m.within x v p ];
      form = λ x v e. elim (P x v e) [ inl p ↦ rw (← p.0, ← p.1) t | inr p ↦ m.form x v p ];
    }

-- parts at hand stay within where the table is kept
pub parts_kept : (old new : List FormNode) (ps : List FormPart) → Keeps old new → ArePartsWithin old ps → ArePartsWithin new ps
parts_kept old new ps k w = record { each = λ i p e. sides_further (length old) (length new) p.atom (keeps_le old new k) (w.each i p e) }

-- and so does their normal term
pub open_kept : (old new : List FormNode) (ps : List FormPart) (n : Form) → Keeps old new → ArePartsWithin old ps → on_top new ps n ≡ on_top old ps n
open_kept old new ps n k w = go ps (λ i p e. w.each i p e)
  where
    go : (qs : List FormPart) → ((i : ℕ) (p : FormPart) → slice_get qs i ≡ Some p → HasSidesBelow (length old) p.atom) → on_top new qs n ≡ on_top old qs n
    go [] g = refl
    go (q ∷ qs) g = rw (atom_kept old new q.atom k (g 0 q refl), go qs (λ i p e. g (suc i) p e)) refl

pub ruleset norming = (keeps_trans, keeps_self, keeps_le, form_kept, known_kept, parts_kept, open_kept, norm_number, norm_variable, norm_sum, norm_product, norm_quotient, norm_remainder, sum_small, product_small, product_left, product_right)

-- the sides of a comparison together stay below what bounds their weights
pub sides_bound : (x y : Tree) (m n : Form) (k : ℕ) → weight x + weight y < k → m ≡ norm x → n ≡ norm y → heft m + heft n < k
sides_bound x y m n k h f g = rw (f, g) (sum_small x y k h)

pub difference_form : (x y : Tree) (m n v : Form) → v ≡ merge m (scale (negsuc 0) n) → m ≡ norm x → n ≡ norm y → v ≡ difference x y
difference_form x y m n v e f g = e ∙ (rw (f, g) refl ∙ sym (difference_merged x y))

pub difference_small : (x y : Tree) (v : Form) (k : ℕ) → weight x + weight y < k → v ≡ difference x y → heft v < k
difference_small x y v k h e = rw e (omega (arith, difference_heft x y))

pub ruleset comparing_sides = (keeps_trans, keeps_le, form_kept)
