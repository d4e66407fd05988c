-- Nodes numbered by a set that keeps their order make a pool.
use Rattle.std.proofs.Common.{◌≡◌, refl, sym, ap, ℕ, zero, suc, ◌<◌, ◌⊎◌, inl, inr, Bool, true, false, cond, Some, List, [], ◌∷◌, ◌++◌, length, get_or, slice_get}
use Rattle.std.specs.List.{IsDistinct, list_any}
use Rattle.std.proofs.lemmas.Bool.{cases_order}
use Rattle.std.proofs.lemmas.Option.{none-some, same_Some, slice_get_within, get_or_from_slice_get}
use Rattle.std.proofs.lemmas.Map.Keys.{apart_from_distinct}
use Rattle.indexmap.specs.IndexSet.{insert_key}
use Rattle.sym_terms.specs.declared.node.TermNode.{TermNode}
use Rattle.sym_terms.specs.contracts.node.TermNodePartialEq.TheImpl as same
use Rattle.sym_terms.specs.contracts.node.TermNodeEq.TheImpl.Laws.{laws-law}
use Rattle.sym_terms.specs.Nodes.{NamesBelow, IsPool}

-- an element after a push is one from before, or the one pushed
pub get_push : {X : Type 0} (xs : List X) (y : X) (i : ℕ) (x : X) → slice_get (xs ++ y ∷ []) i ≡ Some x
    → (slice_get xs i ≡ Some x) ⊎ ((i ≡ length xs) × (x ≡ y))
get_push [] y zero x e = inr (refl, sym (same_Some y x e))
get_push [] y (suc i) x e = absurd (none-some x e)
get_push (z ∷ xs) y zero x e = inl e
get_push (z ∷ xs) y (suc i) x e = elim (get_push xs y i x e) [ inl p ↦ inl p | inr p ↦ inr (ap suc p.0, p.1) ]

module _ {N : Type 0} (eq : N → N → Bool) (equal-self : (n : N) → eq n n ≡ true) where
  apart : (ns : List N) (i j : ℕ) (n : N) → IsDistinct eq ns → i < j → slice_get ns i ≡ Some n → slice_get ns j ≡ Some n → ⊥
  apart ns i j n h l e f =
      let p : eq (get_or ns i n) (get_or ns j n) ≡ false = apart_from_distinct eq ns i j n h l (slice_get_within ns j n f) in
      let q : eq n n ≡ false = rw (get_or_from_slice_get ns i n n e, get_or_from_slice_get ns j n n f) at p in
      cc (equal-self n)

  -- in a list without repetition an element stands at one place
  pub one_place : (ns : List N) → IsDistinct eq ns → (i j : ℕ) (n : N) → slice_get ns i ≡ Some n → slice_get ns j ≡ Some n → i ≡ j
  one_place ns h i j n e f = elim (cases_order i j) [ inl l ↦ l | inr (inl l) ↦ absurd (apart ns i j n h l e f) | inr (inr l) ↦ absurd (apart ns j i n h l f e) ]

-- each node of a list to which one is added names lower numbers
lower-push : (ns : List TermNode) (n : TermNode) → IsPool ns → NamesBelow (length ns) n → (b : Bool) (k : ℕ) (m : TermNode)
    → slice_get (cond b ns (ns ++ n ∷ [])) k ≡ Some m → NamesBelow k m
lower-push ns n pool h true k m e = pool.lower k m e
lower-push ns n pool h false k m e =
    elim (get_push ns n k m e) [ inl p ↦ pool.lower k m p | inr p ↦ rw (p.0, p.1) h ]

-- a pool to which a node is added is a pool
pub pool_more : (ns new : List TermNode) (n : TermNode) → IsPool ns → NamesBelow (length ns) n → new ≡ insert_key (same.eq-value).it ns n
    → IsDistinct (same.eq-value).it new → IsPool new
pool_more ns new n pool h e d = record {
  lower = λ k m f. lower-push ns n pool h (list_any ((same.eq-value).it n) ns) k m (rw e at f);
  differ = one_place (same.eq-value).it (laws-law.refl) new d;
}
