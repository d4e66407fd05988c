-- What is found in a row, and what an edit of a row does.
use Rattle.std.proofs.Common.{◌≡◌, ℕ, zero, suc, ◌+◌, ◌-◌, ◌<◌, ◌≤◌, ◌≢◌, List, [], ◌∷◌, length, get_or, set, Some, None, Result, Ok, Err, IfOk, IfErr, refl, sym, ap, subst, arith}
use Rattle.std.specs.List.{insert}
use Rattle.std.specs.List.Sorted.{IsSearchInRange, IsBinarySearchResult, IsNonDecreasingBy}
use Rattle.std.specs.Ordering.{nat_cmp, ordering_index}
use Rattle.std.proofs.lemmas.Cmp.{ranked}
use Rattle.std.proofs.lemmas.List.Sorted.{IsNonDecreasingBy-from_default}
use Rattle.std.proofs.lemmas.List.Edits.{length-insert, get_or-insert_below, get_or-insert_at, get_or-insert_above}
use Rattle.std.proofs.lemmas.Bool.Decides.{nat_tests}
use Rattle.std.proofs.lemmas.Grind.{common_steps}
use Rattle.regular_algebra.specs.Rows.{value_to, node_at, IsRising, StandsAt, GoesAt, SetsValue}
use Rattle.regular_algebra.specs.declared.row.Item.{Item}

-- no item before place k leads to the node
abbrev pub NoneBefore : List Item → ℕ → ℕ → Type 0
NoneBefore l node k = (j : ℕ) → j < k → node_at l j ≢ node

abbrev pub nothing : Item
nothing = record { node = 0; value = 0 }

none_before_tail : (x : Item) (l : List Item) (node k : ℕ) → NoneBefore (x ∷ l) node (suc k) → NoneBefore l node k
none_before_tail x l node k none j lt = none (suc j) (omega arith)

stands_tail : (x : Item) (l : List Item) (node k : ℕ) → StandsAt (x ∷ l) node (suc k) → StandsAt l node k
stands_tail x l node k h = record { within = omega (arith, h.within); leads = h.leads }

-- a node to which no item leads is not found
value_absent : (l : List Item) (node : ℕ) → NoneBefore l node (length l) → value_to l node ≡ None
value_absent [] node none = refl
value_absent (x ∷ l) node none = grind (arith, nat_tests, none 0 (omega arith), value_absent l node (none_before_tail x l node _ none))

-- the first item that leads to the node has the value
value_present : (l : List Item) (node k : ℕ) → StandsAt l node k → NoneBefore l node k → value_to l node ≡ Some (get_or l k nothing).value
value_present [] node k h none = absurd (omega (arith, h.within))
value_present (x ∷ l) node zero h none = grind (arith, nat_tests, h.leads)
value_present (x ∷ l) node (suc k) h none = grind (arith, nat_tests, none 0 (omega arith), value_present l node k (stands_tail x l node k h) (none_before_tail x l node k none))

-- an item that is written over the first that leads to the node sets its value
value_set : (l : List Item) (node v k : ℕ) → StandsAt l node k → NoneBefore l node k → SetsValue l (set l k (record { node = node; value = v })) node v
value_set [] node v k h none q = absurd (omega (arith, h.within))
value_set (x ∷ l) node v zero h none q = grind (arith, nat_tests, h.leads)
value_set (x ∷ l) node v (suc k) h none q = grind (arith, nat_tests, none 0 (omega arith), value_set l node v k (stands_tail x l node k h) (none_before_tail x l node k none) q)

-- so does a new item before any that leads to the node
value_insert : (l : List Item) (node v k : ℕ) → NoneBefore l node k → SetsValue l (insert l k (record { node = node; value = v })) node v
value_insert l node v zero none q = refl
value_insert [] node v (suc k) none q = refl
value_insert (x ∷ l) node v (suc k) none q = grind (arith, nat_tests, none 0 (omega arith), value_insert l node v k (none_before_tail x l node k none) q)

module _ (l : List Item) (rising : IsRising l) (node : ℕ) where
  -- the comparisons with the node rise along the row, as a binary search asks
  comparisons_rise : IsNonDecreasingBy (λ (x : Item). ordering_index (nat_cmp x.node node)) l
  comparisons_rise = IsNonDecreasingBy-from_default (λ (x : Item). ordering_index (nat_cmp x.node node)) l nothing (λ i j le within.
      let nodes_rise : node_at l i ≤ node_at l j = grind (arith, rising i j, λ (same : i ≡ j). ap (node_at l) same) in
      grind (arith, nat_tests))

  -- a binary search ends at the item of the node, or where it would go
  pub searched : (r : Result ℕ ℕ) → IsSearchInRange r (length l) → IsBinarySearchResult (λ (x : Item). nat_cmp x.node node) l r
      → record { stands : IfOk r (StandsAt l node); goes : IfErr r (GoesAt l node) }
  searched (Ok at) within equal = record { stands = record { within = within; leads = ranked _ node _ (sym (equal nothing)) }; goes = tt }
  searched (Err at) within parted =
      record {
        stands = tt;
        goes = record {
          within = within;
          lower = λ j lt. ranked _ node _ (sym ((parted comparisons_rise).0 j nothing (omega arith) lt));
          higher = λ j le lt. ranked _ node _ (sym ((parted comparisons_rise).1 j nothing le lt));
        };
      }

module _ (l : List Item) (rising : IsRising l) (node k : ℕ) (h : StandsAt l node k) where
  none_before_it : NoneBefore l node k
  none_before_it j lt same = omega (arith, rising j k lt h.within, h.leads)

  -- the value is found where its item stands
  pub value_there : value_to l node ≡ Some (get_or l k nothing).value
  value_there = value_present l node k h none_before_it

  -- an item that is written over it changes that node's value alone
  pub sets_there : (v : ℕ) → SetsValue l (set l k (record { node = node; value = v })) node v
  sets_there v = value_set l node v k h none_before_it

  -- and the nodes rise as before
  pub rising_set : (v : ℕ) → IsRising (set l k (record { node = node; value = v }))
  rising_set v i j lt within = grind (arith, common_steps, rising i j, rising i k, rising k j, h.within, h.leads)

module _ (l : List Item) (node k : ℕ) (h : GoesAt l node k) where
  -- no value leads to the node
  pub none_there : value_to l node ≡ None
  none_there = value_absent l node (λ j lt same. grind (arith, h.lower j, h.higher j))

  -- a new item changes that node's value alone
  pub sets_between : (v : ℕ) → SetsValue l (insert l k (record { node = node; value = v })) node v
  sets_between v = value_insert l node v k (λ j lt same. omega (arith, h.lower j lt))

  -- the nodes rise: each is an old one below the place, the new one at it, or an old one moved up by one
  pub rising_insert : (v : ℕ) → IsRising l → IsRising (insert l k (record { node = node; value = v }))
  rising_insert v rising i j lt within =
      let item : Item = record { node = node; value = v } in
      let new = insert l k item in
      let node_of = λ (x : Item). x.node in
      let length_new = length-insert l k item h.within in
      let below : (i : ℕ) → i < k → node_at new i ≡ node_at l i = λ i b. ap node_of (get_or-insert_below l k item nothing i b h.within) in
      let here : (i : ℕ) → i ≡ k → node_at new i ≡ node = λ i e. rw e (ap node_of (get_or-insert_at l k item nothing h.within)) in
      let above : (i : ℕ) → k < i → node_at new i ≡ node_at l (i - 1) = λ i a. subst (λ q. node_at new q ≡ node_at l (i - 1)) {x = i - 1 + 1} (omega arith) (ap node_of (get_or-insert_above l k item nothing (i - 1) (omega arith) h.within)) in
      grind (arith, below i, here i, above i, below j, here j, above j, rising i j, rising i (j - 1), rising (i - 1) (j - 1), h.lower i, h.higher (j - 1))
