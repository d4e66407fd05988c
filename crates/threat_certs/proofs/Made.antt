-- What is made of bounds is an answer for bounds and forks.
use Rattle.std.proofs.Common.{◌≡◌, ◌∙◌, ◌∷◌, ◌+◌, sym, ap, subst, List, [], ◌++◌, map, length, arith}
use Rattle.std.proofs.lemmas.List.{length-append}
use Rattle.il_core.specs.Certificate.{sum}
use Rattle.il_core.specs.declared.certificate.Item.{Item}
use Rattle.difference.specs.Chains.{IsRefuted}
use Rattle.difference.specs.declared.constraint.Constraint.{Constraint}
use Rattle.difference.specs.declared.constraint.Edge.{Edge}
use Rattle.difference.specs.declared.constraint.Range64.{Range64}
use Rattle.threat_certs.specs.Making.{share_of, RefutesForks}
use Rattle.threat_certs.proofs.Sums.{refuted-sum}

-- lists of one length have one length with one more each
pub pushed-length : {A B : Type 0} (xs : List A) (ys : List B) (x : A) (y : B) → length xs ≡ length ys → length (xs ++ x ∷ []) ≡ length (ys ++ y ∷ [])
pushed-length xs ys x y e = length-append xs (x ∷ []) ∙ (ap (λ n. n + 1) e ∙ sym (length-append ys (y ∷ [])))

module _ (ranges : List Range64) (cs : List Constraint) (items : List Item) where
  pub sum-refutes : (edges : List Edge) → IsRefuted ranges cs edges → RefutesForks ranges cs items [] (sum (map (share_of items) edges))
  sum-refutes edges h places pc fs r few counted forks = (refuted-sum places pc fs cs items counted few edges (subst (λ (x : List Range64). IsRefuted x cs edges) r h), omega arith)
