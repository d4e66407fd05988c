-- The nodes of a row that are not gone, and the nodes of a column in their order.
use Rattle.std.proofs.Common.{◌≡◌, refl, sym, ap, ◌∙◌, subst, ℕ, zero, suc, ◌+◌, ◌<◌, ◌≤◌, ◌||◌, inl, inr, eqb, cond, not, Bool, true, false, Some, List, [], ◌∷◌, ◌++◌, length, take, arith, add-one, append-nil}
use Rattle.std.proofs.lemmas.Bool.{cond-false}
use Rattle.std.proofs.lemmas.Bool.Decides.{eqb_tells}
use Rattle.std.specs.List.{Contains}
use Rattle.regular_algebra.specs.Answers.{IsAmong}
use Rattle.regular_algebra.specs.Rows.{value_to, node_at, IsRising, has_node}
use Rattle.regular_algebra.specs.Cells.{is_gone, RiseFrom}
use Rattle.regular_algebra.specs.declared.row.Item.{Item}
use Rattle.regular_algebra.proofs.Cells.{not-live, not-gone}

-- the nodes of the items that are not gone
abbrev pub live_nodes : List Bool → List Item → List ℕ
live_nodes gone [] = []
live_nodes gone (x ∷ row) = cond (is_gone gone x.node) (live_nodes gone row) (x.node ∷ live_nodes gone row)

push_in : (b : Bool) (n : ℕ) (xs ys zs : List ℕ) → xs ≡ ys ++ zs → cond b xs (n ∷ xs) ≡ cond b ys (n ∷ ys) ++ zs
push_in true n xs ys zs e = e
push_in false n xs ys zs e = ap (λ (l : List ℕ). n ∷ l) e

-- an item more
live_more : (gone : List Bool) (row : List Item) (k : ℕ) → k < length row
    → live_nodes gone (take (suc k) row) ≡ live_nodes gone (take k row) ++ cond (is_gone gone (node_at row k)) [] (node_at row k ∷ [])
live_more gone [] k l = absurd (omega arith)
live_more gone (x ∷ row) zero l = refl
live_more gone (x ∷ row) (suc k) l =
    push_in (is_gone gone x.node) x.node (live_nodes gone (take (suc k) row)) (live_nodes gone (take k row)) (cond (is_gone gone (node_at row k)) [] (node_at row k ∷ []))
    (live_more gone row k (omega arith))

-- a live item more
pub live-more : (gone : List Bool) (row : List Item) (k : ℕ) (nodes : List ℕ) → k < length row → not (is_gone gone (node_at row k)) ≡ true
    → nodes ≡ live_nodes gone (take k row) ++ node_at row k ∷ [] → nodes ≡ live_nodes gone (take (k + 1) row)
live-more gone row k nodes l g e =
    rw add-one (e ∙ ap (λ b. live_nodes gone (take k row) ++ cond b [] (node_at row k ∷ [])) (sym (not-gone (is_gone gone (node_at row k)) g)) ∙ sym (live_more gone row k l))

-- a gone item more
pub live-passed : (gone : List Bool) (row : List Item) (k : ℕ) (nodes : List ℕ) → k < length row → not (is_gone gone (node_at row k)) ≡ false
    → nodes ≡ live_nodes gone (take k row) → nodes ≡ live_nodes gone (take (k + 1) row)
live-passed gone row k nodes l g e =
    rw add-one (e ∙ sym (append-nil (live_nodes gone (take k row))) ∙ ap (λ b. live_nodes gone (take k row) ++ cond b [] (node_at row k ∷ [])) (sym (not-live (is_gone gone (node_at row k)) g)) ∙ sym (live_more gone row k l))

rise_lower : (a b : ℕ) (nodes : List ℕ) → a ≤ b → RiseFrom b nodes → RiseFrom a nodes
rise_lower a b [] l r = tt
rise_lower a b (x ∷ nodes) l r = let m = r.0 in (omega arith, r.1)

rising_tail : (x : Item) (row : List Item) → IsRising (x ∷ row) → IsRising row
rising_tail x row h i j l m = h (suc i) (suc j) (omega arith) (omega arith)

live_rise : (gone : List Bool) (row : List Item) (a : ℕ) → IsRising row → ((k : ℕ) → k < length row → a ≤ node_at row k) → RiseFrom a (live_nodes gone row)
live_rise gone [] a h least = tt
live_rise gone (x ∷ row) a h least =
    let first : a ≤ x.node = least 0 (omega arith) in
    let rest = live_rise gone row (suc x.node) (rising_tail x row h) (λ k l. let b = h 0 (suc k) (omega arith) (omega arith) in omega (arith, b)) in
    elim (is_gone gone x.node) as (λ b. RiseFrom a (cond b (live_nodes gone row) (x.node ∷ live_nodes gone row))) [
      | true ↦ rise_lower a (suc x.node) (live_nodes gone row) (omega arith) rest
      | false ↦ (first, rest)
    ]

-- the live nodes of a row rise
pub live-rise : (gone : List Bool) (row : List Item) → IsRising row → RiseFrom 0 (live_nodes gone row)
live-rise gone row h = live_rise gone row 0 h (λ k l. omega arith)

-- each live node to which a value leads is among them
pub live-all : (gone : List Bool) (row : List Item) (k v : ℕ) → is_gone gone k ≡ false → value_to row k ≡ Some v → IsAmong (live_nodes gone row) k
live-all gone [] k v g e = absurd (cc)
live-all gone (x ∷ row) k v g e =
    elim (eqb_tells x.node k) [
      | inl q ↦
          let mark : is_gone gone x.node ≡ false = ap (is_gone gone) q.1 ∙ g in
          subst (λ b. IsAmong (cond b (live_nodes gone row) (x.node ∷ live_nodes gone row)) k) (sym mark) (inl q.1)
      | inr q ↦
          let rest = live-all gone row k v g (sym (cond-false (eqb x.node k) (Some x.value) (value_to row k) q.0) ∙ e) in
          elim (is_gone gone x.node) as (λ b. IsAmong (cond b (live_nodes gone row) (x.node ∷ live_nodes gone row)) k) [ true ↦ rest | false ↦ inr rest ]
    ]

contains_cons : (x : ℕ) (nodes : List ℕ) (k : ℕ) → Contains nodes k → Contains (x ∷ nodes) k
contains_cons x nodes k h = let l = h.1 in (suc h.0, omega arith, h.2)

-- a node that a column has is contained in it
pub contains-node : (nodes : List ℕ) (k : ℕ) → has_node nodes k ≡ true → Contains nodes k
contains-node [] k e = absurd (cc)
contains-node (x ∷ nodes) k e =
    elim (eqb_tells x k) [
      | inl q ↦ (0, omega arith, q.1)
      | inr q ↦ contains_cons x nodes k (contains-node nodes k (subst (λ b. (b || has_node nodes k) ≡ true) q.0 e))
    ]
