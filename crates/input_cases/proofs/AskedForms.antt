-- The literals and places of the cases are those that may be asked.
use Rattle.std.proofs.Common.{◌≡◌, ◌≢◌, ◌∙◌, refl, sym, ap, subst, inl, inr, ℕ, suc, ◌<◌, ◌≤◌, ◌^◌, ℤ, pos, neg_ℤ, ◌≤ℤ◌, ◌<ℤ◌, Bool, true, false, not, cond, List, [], ◌∷◌, ◌++◌, length, map, Option, Some, slice_get, unsigned_abs, All, arith}
use Rattle.std.specs.Prelude.{filter}
use Rattle.std.specs.Ordering.{nat_cmp}
use Rattle.std.specs.declared.cmp.Ordering.TheVariants.{Less}
use Rattle.std.proofs.lemmas.Int.{ints}
use Rattle.std.proofs.lemmas.List.{append-nil}
use Rattle.std.proofs.lemmas.List.Elements.{filter-append, All-head, All-tail}
use Rattle.std.proofs.lemmas.Option.{same_Some, none-some}
use Rattle.il_core.specs.Run.{is_variable}
use Rattle.il_core.specs.Checked.{is_copied, old_copy, HasRange, AreInOrder}
use Rattle.il_core.specs.Places.{AreCheckedPlaces}
use Rattle.il_core.specs.LineGraph.{IsIn}
use Rattle.il_core.specs.declared.line.Place.{Place}
use Rattle.il_core.specs.declared.operator.Relation.{Relation}
use Rattle.sym_simplify.specs.declared.normal.LitForm.{LitForm}
use Rattle.sym_simplify.specs.Form.{Form, constant, part, place}
use Rattle.sym_simplify.specs.Literal.{keep, literal_form_of}
use Rattle.sym_simplify.specs.Easy.{IsKept}
use Rattle.sym_simplify.specs.Places.{HasLiteralPlacesBelow}
use Rattle.path_inputs.proofs.Members.{in-either, from-filter, in-place}
use Rattle.path_inputs.proofs.Elements.{all-members, from-map}
use Rattle.input_cases.specs.Asked.{IsVariable, IsAsked}

above-not_zero : (c : ℤ) → pos 0 <ℤ c → c ≢ pos 0
above-not_zero c h e = omega (arith, ints)

pub one_asked : (n : ℕ) (c : ℤ) (p : ℕ) (r : Relation) (b : ℤ) → pos 0 <ℤ c → unsigned_abs c ≤ 2 ^ 100 → p < n → unsigned_abs b ≤ 2 ^ 100
    → IsAsked n (keep (part c (place p) (constant (pos 0))) r b)
one_asked n c p r b h k l m = record {
  kept = ((above-not_zero c h, tt, tt, tt), refl, h, (k, tt), m);
  below = (l, tt);
}

ascending : (p q : ℕ) → p < q → nat_cmp p q ≡ Less
ascending p q h = grind arith

pub two_asked : (n : ℕ) (c : ℤ) (p : ℕ) (e : ℤ) (q : ℕ) (r : Relation) (b : ℤ) → pos 0 <ℤ c → unsigned_abs c ≤ 2 ^ 100 → e ≢ pos 0 → unsigned_abs e ≤ 2 ^ 100 → p < q → q < n
    → unsigned_abs b ≤ 2 ^ 100 → IsAsked n (keep (part c (place p) (part e (place q) (constant (pos 0)))) r b)
two_asked n c p e q r b h k i j l m o = record {
  kept = ((above-not_zero c h, ascending p q l, tt, (i, tt, tt, tt)), refl, h, (k, (j, tt)), o);
  below = (omega arith, (m, tt));
}

pub all_kept : (n : ℕ) (ls : List LitForm) → All (λ l. IsAsked n (literal_form_of l)) ls → All (λ l. IsKept (literal_form_of l)) ls
all_kept n ls h = λ k d l. (h k d l).kept

pub all_below : (n : ℕ) (ls : List LitForm) → All (λ l. IsAsked n (literal_form_of l)) ls → All (λ l. HasLiteralPlacesBelow n (literal_form_of l)) ls
all_below n ls h = λ k d l. (h k d l).below

-- variables and then the copies of those that are INOUT are in order
all-variables : (vs : List Place) → All IsVariable vs → filter is_variable vs ≡ vs
all-variables [] h = refl
all-variables (v ∷ vs) h =
    let c = (All-head IsVariable v vs h).current in
    ap (λ b. cond b (v ∷ filter is_variable vs) (filter is_variable vs)) (ap not c) ∙ ap (λ ws. v ∷ ws) (all-variables vs (All-tail IsVariable v vs h))

no-variables : (vs : List Place) → filter is_variable (map old_copy vs) ≡ []
no-variables [] = refl
no-variables (v ∷ vs) = no-variables vs

variables-of : (vs ps : List Place) → All IsVariable vs → ps ≡ vs ++ map old_copy (filter is_copied vs) → filter is_variable ps ≡ vs
variables-of vs ps h e =
    ap (filter is_variable) e
    ∙ (filter-append is_variable vs (map old_copy (filter is_copied vs))
    ∙ (ap (λ ws. filter is_variable vs ++ ws) (no-variables (filter is_copied vs)) ∙ (append-nil (filter is_variable vs) ∙ all-variables vs h)))

variable-range : (p : Place) → IsVariable p → HasRange p
variable-range p h = record {
  ordered = h.ordered;
  bits = λ e. let z : true ≡ false = sym e ∙ h.number in absurd cc;
}

copy-range : (p : Place) → IsVariable p → HasRange (old_copy p)
copy-range p h = record {
  ordered = h.ordered;
  bits = λ e. let z : true ≡ false = sym e ∙ h.number in absurd cc;
}

range-of : (vs : List Place) → All IsVariable vs → (p : Place) → IsIn (vs ++ map old_copy (filter is_copied vs)) p → HasRange p
range-of vs h p i = elim (in-either vs (map old_copy (filter is_copied vs)) p i) [
  | inl j ↦ variable-range p (all-members IsVariable vs h p j)
  | inr j ↦
      let m = from-map old_copy (filter is_copied vs) p j in
      let k = (from-filter is_copied vs m.0 m.1).0 in
      subst HasRange m.2 (copy-range m.0 (all-members IsVariable vs h m.0 k))
]

pub places_checked : (vs ps : List Place) → All IsVariable vs → ps ≡ vs ++ map old_copy (filter is_copied vs) → length ps ≤ 64 → AreCheckedPlaces ps
places_checked vs ps h e l = record {
  few = l;
  ranges = λ k p there. range-of vs h p (subst (λ qs. IsIn qs p) e (in-place ps k p there));
  in_order = e ∙ ap (λ ws. ws ++ map old_copy (filter is_copied ws)) (sym (variables-of vs ps h e));
}
