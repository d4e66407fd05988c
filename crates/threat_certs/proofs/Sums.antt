-- Edges that refute are a negative sum of the items that count them.
use Rattle.std.proofs.Common.{◌≡◌, ◌∙◌, refl, sym, ap, subst, ℕ, suc, ◌+◌, ◌≤◌, ℤ, pos, negsuc, neg_ℤ, ◌+ℤ◌, ◌-ℤ◌, ◌*ℤ◌, ◌<ℤ◌, Some, List, [], ◌∷◌, ◌++◌, map, length, slice_get, arith, All}
use Rattle.std.proofs.lemmas.Int.{ints}
use Rattle.std.proofs.lemmas.List.{length-map}
use Rattle.il_core.specs.Evaluation.{State, value_at}
use Rattle.il_core.specs.declared.certificate.Item.{Item}
use Rattle.il_core.specs.declared.line.Place.{Place}
use Rattle.sym_simplify.specs.Form.{place}
use Rattle.sym_simplify.specs.Norm.{Summand, alone, often, scaled}
use Rattle.sym_simplify.specs.Literal.{LiteralForm}
use Rattle.sym_simplify.proofs.NormValues.{total, normal-value, total-append, total-scaled}
use Rattle.difference.specs.Chains as chains
use Rattle.difference.specs.Chains.{Names, IsRefuted, above_least, below_greatest, room}
use Rattle.difference.specs.declared.constraint.Constraint.{Constraint}
use Rattle.difference.specs.declared.constraint.Range64.{Range64}
use Rattle.difference.specs.declared.constraint.Edge.{Edge}
use Rattle.difference.specs.declared.constraint.Edge.TheVariants.{Low, High, Given}
use Rattle.difference.proofs.Lists.{get_within, all_by}
use Rattle.path_inputs.specs.Bounding.{range_of}
use Rattle.path_inputs.proofs.Elements.{get-map}
use Rattle.cert_rules.specs.Quantity.{IsQuantity}
use Rattle.cert_rules.specs.Acceptance.{IsSumOf, IsNegativeSum}
use Rattle.threat_certs.specs.Counting.{IsOfPlaces, AreCounted}
use Rattle.threat_certs.specs.Making.{given_item, item_of, share_of, IsCountable}
use Rattle.threat_certs.proofs.Quantities.{one, minus-one}
use Rattle.threat_certs.proofs.Left.{places-append, places-scaled, nothing-left}
use Rattle.threat_certs.proofs.Counts.{counted-at}

low-room : (v l : ℤ) → (pos 1 *ℤ v) +ℤ (neg_ℤ l +ℤ pos 0) ≡ v -ℤ l
low-room v l = let e = one v in omega (arith, ints)

high-room : (v g : ℤ) → (negsuc 0 *ℤ v) +ℤ (g +ℤ pos 0) ≡ g -ℤ v
high-room v g = let e = minus-one v in omega (arith, ints)

-- the edges of constraints that are counted can be
pub countable : (n m : ℕ) (edges : List Edge) (items : List Item) → length items ≡ m → ((j : ℕ) (e : Edge) → slice_get edges j ≡ Some e → Names n m e) → All (IsCountable (length items)) edges
countable n m edges items l h = all_by (IsCountable (length items)) edges (λ j e there. by_edge e (h j e there))
  where
    by_edge : (e : Edge) → Names n m e → IsCountable (length items) e
    by_edge (Low k) g = tt
    by_edge (High k) g = tt
    by_edge (Given i) g = omega arith

-- the quantity of an edge's item is the edge's
record IsEdgeCounted (places : List Place) (pc : ℕ) (fs : List LiteralForm) (cs : List Constraint) (items : List Item) (e : Edge) : Type 0 where
  pub quantity : List Summand
  pub is_quantity : IsQuantity places pc fs (item_of items e) quantity
  pub of_places : IsOfPlaces quantity
  pub same : (s : State) → total quantity s ≡ chains.quantity (map range_of places) cs s e

-- and so are the sums
record AreEdgesCounted (places : List Place) (pc : ℕ) (fs : List LiteralForm) (cs : List Constraint) (items : List Item) (edges : List Edge) : Type 0 where
  pub summed : List Summand
  pub sum : IsSumOf places pc fs (map (share_of items) edges) summed
  pub of_places : IsOfPlaces summed
  pub same : (s : State) → total summed s ≡ chains.total (map range_of places) cs s edges

module _ (places : List Place) (pc : ℕ) (fs : List LiteralForm) (cs : List Constraint) (items : List Item) (counted : AreCounted places pc fs cs items) where
  abbrev ranges : List Range64
  ranges = map range_of places

  edge-counted : (e : Edge) → Names (length places) (length cs) e → IsEdgeCounted places pc fs cs items e
  edge-counted (Low k) h =
      let p = get_within places k h in
      record {
        quantity = often (pos 1) (place k) ∷ alone (neg_ℤ p.0.least) ∷ [];
        is_quantity = (p.0, p.1, refl);
        of_places = tt;
        same = λ s. low-room (value_at s k) p.0.least ∙ ap (λ o. above_least o (value_at s k)) (sym (get-map range_of places k p.0 p.1));
      }
  edge-counted (High k) h =
      let p = get_within places k h in
      record {
        quantity = often (negsuc 0) (place k) ∷ alone p.0.greatest ∷ [];
        is_quantity = (p.0, p.1, refl);
        of_places = tt;
        same = λ s. high-room (value_at s k) p.0.greatest ∙ ap (λ o. below_greatest o (value_at s k)) (sym (get-map range_of places k p.0 p.1));
      }
  edge-counted (Given i) h =
      let c = get_within cs i h in
      let t = counted-at places pc fs cs items i c.0 counted c.1 in
      let k = t.2 in
      record {
        quantity = k.quantity;
        is_quantity = subst (λ x. IsQuantity places pc fs x k.quantity) (ap (λ o. given_item o i) (sym t.1)) k.is_quantity;
        of_places = k.of_places;
        same = λ s. sym (normal-value k.quantity s) ∙ (k.room_is s ∙ ap (λ o. room o s) (sym c.1));
      }

  edges-counted : (edges : List Edge) → ((j : ℕ) (e : Edge) → slice_get edges j ≡ Some e → Names (length places) (length cs) e) → AreEdgesCounted places pc fs cs items edges
  edges-counted [] h = record { summed = []; sum = refl; of_places = tt; same = λ s. refl }
  edges-counted (e ∷ edges) h =
      let here = edge-counted e (h 0 e refl) in
      let more = edges-counted edges (λ j f k. h (suc j) f k) in
      let once = map (scaled (pos 1)) here.quantity in
      record {
        summed = once ++ more.summed;
        sum = (omega arith, omega arith, (here.quantity, more.summed, here.is_quantity, more.sum, refl));
        of_places = places-append once more.summed (places-scaled (pos 1) here.quantity here.of_places) more.of_places;
        same = λ s.
            total-append once more.summed s
            ∙ (ap (λ v. v +ℤ total more.summed s) (total-scaled (pos 1) here.quantity s ∙ (one (total here.quantity s) ∙ here.same s))
            ∙ ap (λ v. chains.quantity ranges cs s e +ℤ v) (more.same s));
      }

  some-edge : (edges : List Edge) (d : ℤ) → ((s : State) → chains.total ranges cs s edges ≡ d) → d <ℤ pos 0 → 1 ≤ length edges
  some-edge [] d h l = let e : pos 0 ≡ d = h [] in absurd (omega (arith, ints))
  some-edge (e ∷ edges) d h l = omega arith

  pub refuted-sum : length places ≤ 64 → (edges : List Edge) → IsRefuted ranges cs edges → IsNegativeSum places pc fs (map (share_of items) edges)
  refuted-sum few edges r =
      let size = length-map places range_of in
      let shares = length-map edges (share_of items) in
      let short : length edges ≤ length (map range_of places) + 1 = r.few in
      let some = some-edge edges r.constant r.sum r.negative in
      let h = edges-counted edges (λ j e there. subst (λ n. Names n (length cs) e) size (r.named j e there)) in
      record {
        some = omega arith;
        few = omega arith;
        summed = h.summed;
        sum = h.sum;
        left = r.constant;
        alone = nothing-left h.summed r.constant h.of_places (λ s. h.same s ∙ r.sum s);
        negative = r.negative;
      }
