-- What a substitution with a memo keeps from call to call.
use Rattle.std.proofs.Common.{◌≡◌, ◌∙◌, refl, sym, ap, ℕ, zero, suc, ◌<◌, ◌⊎◌, inl, inr, Bool, true, false, cond, Option, Some, List, [], ◌∷◌, length, slice_get, arith, nat_eq, Result, Ok, Err, OnOk}
use Rattle.std.proofs.lemmas.Bool.Decides.{nat_tests}
use Rattle.std.proofs.lemmas.Option.{none-some, same_Some}
use Rattle.std.specs.HashMap.{get}
use Rattle.sym_terms.specs.declared.node.TermId.{TermId}
use Rattle.sym_terms.specs.declared.node.TermNode.{TermNode}
use Rattle.sym_terms.specs.Substitution.{substituted, HasPlacesBelow}
use Rattle.sym_terms.specs.Grown.{Keeps}
use Rattle.sym_terms.specs.Nodes.{tree_at, terms_of, AreWithin, Memo, IsMemo}
use Rattle.sym_terms.proofs.Grown.{keeps_le, keeps_self, keeps_trans}
use Rattle.sym_terms.proofs.Terms.{tree_kept, within_kept, terms_kept, env_term, env_within, memo_kept}

-- an empty memo has answered nothing wrong
pub memo_none : (nodes : List TermNode) (env : List TermId) (memo : Memo) → memo.entries ≡ [] → IsMemo nodes env memo
memo_none nodes env memo h =
    let P : (id v : TermId) → get nat_eq memo id.index ≡ Some v → ⊥ = λ id v e. none-some v (rw h at e) in
    record { source = λ id v e. absurd (P id v e); within = λ id v e. absurd (P id v e); term = λ id v e. absurd (P id v e) }

same-index : (i j : ℕ) → nat_eq i j ≡ true → i ≡ j
same-index i j h = grind (arith, nat_tests)

same-id : (a b : TermId) → a.index ≡ b.index → a ≡ b
same-id a b e = let at : ℕ → TermId = λ i. record { index = i } in ap at e

-- what a memo with one more answer gives is that answer, or one from before
more : (b : Bool) (old : Option TermId) (r v : TermId) → cond b (Some r) old ≡ Some v → ((b ≡ true) × (r ≡ v)) ⊎ (old ≡ Some v)
more true old r v e = inl (refl, same_Some r v e)
more false old r v e = inr e

-- a memo keeps one more answer
pub memo_put : (nodes : List TermNode) (env : List TermId) (old new : Memo) (id r : TermId) → IsMemo nodes env old
    → ((q : ℕ) → get nat_eq new q ≡ cond (nat_eq id.index q) (Some r) (get nat_eq old q))
    → id.index < length nodes → r.index < length nodes → tree_at nodes r ≡ substituted (terms_of nodes env) (tree_at nodes id) → IsMemo nodes env new
memo_put nodes env old new id r m h k l t =
    let P : (x v : TermId) → get nat_eq new x.index ≡ Some v → ((id ≡ x) × (r ≡ v)) ⊎ (get nat_eq old x.index ≡ Some v)
    = λ x v e. elim (more (nat_eq id.index x.index) (get nat_eq old x.index) r v (sym (h x.index) ∙ e))
    [ inl p ↦ inl (same-id id x (same-index id.index x.index p.0), p.1) | inr p ↦ inr p ] in
    record {
      source = λ x v e. elim (P x v e) [ inl p ↦ rw (← p.0) k | inr p ↦ m.source x v p ];
      within = λ x v e. elim (P x v e) [ inl p ↦ rw (← p.1) l | inr p ↦ m.within x v p ];
      term = λ x v e. elim (P x v e) [ inl p ↦ rw (← p.0, ← p.1) t | inr p ↦ m.term x v p ];
    }

-- an answer over the pool of before is one over the pool of now
pub term_now : (old new : List TermNode) (env : List TermId) (id r : TermId) → Keeps old new → AreWithin old env → id.index < length old
    → tree_at new r ≡ substituted (terms_of old env) (tree_at old id) → tree_at new r ≡ substituted (terms_of new env) (tree_at new id)
term_now old new env id r k w l t = rw (terms_kept old new env k w, tree_kept old new id k l) t

-- and the other way round
pub term_before : (old new : List TermNode) (env : List TermId) (id : TermId) → Keeps old new → AreWithin old env → id.index < length old
    → substituted (terms_of new env) (tree_at new id) ≡ substituted (terms_of old env) (tree_at old id)
term_before old new env id k w l = rw (terms_kept old new env k w, tree_kept old new id k l) refl

-- places stay places
pub places_kept : (old new : List TermNode) (n : ℕ) (id : TermId) → Keeps old new → id.index < length old → HasPlacesBelow n (tree_at old id) → HasPlacesBelow n (tree_at new id)
places_kept old new n id k l h = rw (tree_kept old new id k l) h

pub ruleset substituting = (tree_kept, keeps_trans, keeps_self, keeps_le, within_kept, terms_kept, env_term, env_within, term_before, places_kept)

-- what holds at all holds after an answer
pub on_ok : {T E : Type 0} (r : Result T E) (P : Type 0) → P → OnOk r P
on_ok (Ok x) P p = p
on_ok (Err e) P p = tt

-- one position of a pool is a list of positions within
pub within_one : (nodes : List TermNode) (id : TermId) → id.index < length nodes → AreWithin nodes (id ∷ [])
within_one nodes id l = record { each = go }
  where
    go : (k : ℕ) (x : TermId) → slice_get (id ∷ []) k ≡ Some x → x.index < length nodes
    go zero x e = rw (← same_Some id x e) l
    go (suc k) x e = absurd (none-some x e)

pub ruleset substituting_one = (within_one, tree_kept, keeps_le, places_kept)
