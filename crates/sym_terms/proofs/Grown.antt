-- What is done in a growing table stays, and each entry is made from its node over the whole table.
use Rattle.std.proofs.Common.{◌≡◌, ◌∙◌, refl, sym, ap, subst, ℕ, zero, suc, ◌+◌, ◌<◌, ◌≤◌, Some, List, [], ◌∷◌, ◌++◌, length, drop, get_or, slice_get, zero-add, append_assoc, arith}
use Rattle.std.proofs.lemmas.List.{length_push, get_or_append_left, get_or_push, get_or-take, take-append-drop, take_all, take_at, length-take}
use Rattle.std.proofs.lemmas.Option.{none-some, same_Some, slice_get_within, slice_get-get_or, get_or_from_slice_get}
use Rattle.sym_terms.specs.Grown.{grown, Keeps}

-- a list keeps itself
pub keeps_self : {X : Type 0} (xs : List X) → Keeps xs xs
keeps_self xs = record { front = take_all (length xs) xs (omega arith) }

-- a list that is added to is kept
pub keeps_push : {X : Type 0} (xs ys : List X) → Keeps xs (xs ++ ys)
keeps_push xs ys = record { front = take_at xs ys (length xs) refl }

-- what is kept is no longer than what keeps it
pub keeps_le : {X : Type 0} (old new : List X) → Keeps old new → length old ≤ length new
keeps_le old new k = omega (arith, ap length k.front, length-take (length old) new)

-- what is kept is a front
pub keeps_front : {X : Type 0} (old new : List X) → Keeps old new → new ≡ old ++ drop (length old) new
keeps_front old new k = sym (take-append-drop (length old) new) ∙ ap (λ xs. xs ++ drop (length old) new) k.front

-- keeping goes on
pub keeps_trans : {X : Type 0} (a b c : List X) → Keeps a b → Keeps b c → Keeps a c
keeps_trans a b c k l =
    let P : _ → Type 0 = λ xs. Keeps a xs in
    let e : b ≡ a ++ drop (length a) b = keeps_front a b k in
    let f : c ≡ (a ++ drop (length a) b) ++ drop (length b) c = keeps_front b c l ∙ ap (λ xs. xs ++ drop (length b) c) e in
    subst P (sym (f ∙ append_assoc a (drop (length a) b) (drop (length b) c))) (keeps_push a _)

-- an element that was there is there
pub keeps_get : {X : Type 0} (old new : List X) (k : ℕ) (x : X) → Keeps old new → slice_get old k ≡ Some x → slice_get new k ≡ Some x
keeps_get old new k x h e =
    let l : k < length old = slice_get_within old k x e in
    let m : length old ≤ length new = keeps_le old new h in
    let v : get_or new k x ≡ get_or old k x = sym (get_or-take (length old) new k x l) ∙ ap (λ xs. get_or xs k x) h.front in
    slice_get-get_or new k x (omega arith) ∙ ap Some (v ∙ get_or_from_slice_get old k x x e)

module _ {N V : Type 0} (make : List V → N → V) where
  -- the table has an entry for each node
  pub length-grown : (done : List V) (ns : List N) → length (grown make done ns) ≡ length done + length ns
  length-grown done [] = omega arith
  length-grown done (n ∷ ns) = omega (arith, length-grown (done ++ make done n ∷ []) ns, length_push done (make done n))

  -- a table grows on from where it is
  pub grown-append : (done : List V) (ns ms : List N) → grown make done (ns ++ ms) ≡ grown make (grown make done ns) ms
  grown-append done [] ms = refl
  grown-append done (n ∷ ns) ms = grown-append (done ++ make done n ∷ []) ns ms

  -- what is done stays
  pub grown-keeps : (done : List V) (ns : List N) (j : ℕ) (d : V) → j < length done → get_or (grown make done ns) j d ≡ get_or done j d
  grown-keeps done [] j d l = refl
  grown-keeps done (n ∷ ns) j d l =
      grown-keeps (done ++ make done n ∷ []) ns j d (omega (arith, length_push done (make done n)))
      ∙ get_or_append_left done (make done n ∷ []) d j l

  -- the entry of an earlier node stays
  pub kept-grown : (old new : List N) (j : ℕ) (d : V) → Keeps old new → j < length old → get_or (grown make [] new) j d ≡ get_or (grown make [] old) j d
  kept-grown old new j d k l =
      let e : grown make [] new ≡ grown make (grown make [] old) (drop (length old) new)
      = ap (grown make []) (keeps_front old new k) ∙ grown-append [] old (drop (length old) new) in
      let m : length (grown make [] old) ≡ length old = length-grown [] old ∙ zero-add (length old) in
      ap (λ t. get_or t j d) e ∙ grown-keeps (grown make [] old) (drop (length old) new) j d (omega arith)

  module _ (Below : ℕ → N → Type 0) (d : V)
      (agrees : (xs ys : List V) (k : ℕ) (n : N) → Below k n → ((j : ℕ) → j < k → get_or xs j d ≡ get_or ys j d) → make xs n ≡ make ys n) where
    -- an entry is made from its node over the whole table
    pub grown-node : (done : List V) (ns : List N) (k j : ℕ) (n : N) → slice_get ns k ≡ Some n → j ≡ length done + k → Below j n
        → get_or (grown make done ns) j d ≡ make (grown make done ns) n
    grown-node done [] k j n e l b = absurd (none-some n e)
    grown-node done (m ∷ ns) zero j n e l b =
        let more = done ++ make done m ∷ [] in
        let h : length done ≡ j = omega arith in
        grown-keeps more ns j d (omega (arith, length_push done (make done m)))
        ∙ (get_or_push done (make done m) d j h
        ∙ (ap (make done) (same_Some m n e)
        ∙ agrees done (grown make more ns) j n b (λ i p.
        sym (grown-keeps more ns i d (omega (arith, length_push done (make done m))) ∙ get_or_append_left done (make done m ∷ []) d i (omega arith)))))
    grown-node done (m ∷ ns) (suc k) j n e l b =
        grown-node (done ++ make done m ∷ []) ns k j n e (omega (arith, length_push done (make done m))) b
