-- Lists whose members differ, members and their places, and parts of lists.
use Rattle.std.proofs.Common.{◌≡◌, inl, inr, refl, sym, ap, ◌∙◌, ℕ, zero, suc, ◌+◌, ◌-◌, ◌<◌, ◌≤◌, List, [], ◌∷◌, ◌++◌, length, take, drop, get_or, arith}
use Rattle.std.proofs.lemmas.List.{take-append-drop, drop-drop, length-take, length-drop, get_or-take, get_or-drop, take_more, append_assoc}
use Rattle.il_core.specs.LineGraph.{IsIn}
use Rattle.flow_graph.specs.Reached.{Differ}
use Rattle.flow_graph.proofs.Members.{IsIn-append_left, IsIn-append_right, IsIn-append_cases}

-- joined lists differ where each does and no member is in both
pub Differ-append : (xs ys : List ℕ) → Differ xs → Differ ys → ((v : ℕ) → IsIn xs v → IsIn ys v → ⊥) → Differ (xs ++ ys)
Differ-append [] ys d e f = e
Differ-append (x ∷ xs) ys d e f =
    ((λ i. elim (IsIn-append_cases xs ys x i) [ inl p ↦ d.0 p | inr q ↦ f x (inl refl) q ]), Differ-append xs ys d.1 e (λ v p q. f v (inr p) q))

pub Differ-left : (xs ys : List ℕ) → Differ (xs ++ ys) → Differ xs
Differ-left [] ys d = tt
Differ-left (x ∷ xs) ys d = ((λ i. d.0 (IsIn-append_left xs ys x i)), Differ-left xs ys d.1)

pub Differ-right : (xs ys : List ℕ) → Differ (xs ++ ys) → Differ ys
Differ-right [] ys d = d
Differ-right (x ∷ xs) ys d = Differ-right xs ys d.1

pub Differ-apart : (xs ys : List ℕ) → Differ (xs ++ ys) → (v : ℕ) → IsIn xs v → IsIn ys v → ⊥
Differ-apart [] ys d v p q = absurd p
Differ-apart (x ∷ xs) ys d v (inl e) q = d.0 (rw e (IsIn-append_right xs ys v q))
Differ-apart (x ∷ xs) ys d v (inr p) q = Differ-apart xs ys d.1 v p q

-- one more member between two lists
pub Differ-between : (xs ys : List ℕ) (v : ℕ) → Differ (xs ++ ys) → (IsIn xs v → ⊥) → (IsIn ys v → ⊥) → Differ ((xs ++ v ∷ []) ++ ys)
Differ-between xs ys v d f g =
    let e = append_assoc xs (v ∷ []) ys in
    rw e (Differ-append xs (v ∷ ys) (Differ-left xs ys d) (g, Differ-right xs ys d) apart)
  where
    apart : (w : ℕ) → IsIn xs w → IsIn (v ∷ ys) w → ⊥
    apart w p (inl same) = f (rw same p)
    apart w p (inr q) = Differ-apart xs ys d w p q

-- the second list goes on by a part of the fourth, the first by the rest
pub Differ-swap : (a b f k r : List ℕ) → Differ (a ++ (b ++ (f ++ (k ++ r)))) → Differ ((b ++ f) ++ (a ++ r))
Differ-swap a b f k r d =
    Differ-append (b ++ f) (a ++ r)
    (Differ-append b f (Differ-left b (f ++ (k ++ r)) db) (Differ-left f (k ++ r) df) (λ v p q. Differ-apart b (f ++ (k ++ r)) db v p (IsIn-append_left f (k ++ r) v q)))
    (Differ-append a r (Differ-left a (b ++ (f ++ (k ++ r))) d) (Differ-right k r (Differ-right f (k ++ r) df)) (λ v p q. apart_a v p (in_bf_rest v (in_f_rest v q))))
    apart
  where
    db : Differ (b ++ (f ++ (k ++ r)))
    db = Differ-right a (b ++ (f ++ (k ++ r))) d

    df : Differ (f ++ (k ++ r))
    df = Differ-right b (f ++ (k ++ r)) db

    in_f_rest : (v : ℕ) → IsIn r v → IsIn (f ++ (k ++ r)) v
    in_f_rest v q = IsIn-append_right f (k ++ r) v (IsIn-append_right k r v q)

    in_bf_rest : (v : ℕ) → IsIn (f ++ (k ++ r)) v → IsIn (b ++ (f ++ (k ++ r))) v
    in_bf_rest v q = IsIn-append_right b (f ++ (k ++ r)) v q

    apart_a : (v : ℕ) → IsIn a v → IsIn (b ++ (f ++ (k ++ r))) v → ⊥
    apart_a v p q = Differ-apart a (b ++ (f ++ (k ++ r))) d v p q

    apart_b : (v : ℕ) → IsIn b v → IsIn r v → ⊥
    apart_b v p q = Differ-apart b (f ++ (k ++ r)) db v p (in_f_rest v q)

    apart_f : (v : ℕ) → IsIn f v → IsIn r v → ⊥
    apart_f v p q = Differ-apart f (k ++ r) df v p (IsIn-append_right k r v q)

    apart : (v : ℕ) → IsIn (b ++ f) v → IsIn (a ++ r) v → ⊥
    apart v p q = elim (IsIn-append_cases b f v p) [
      | inl pb ↦ elim (IsIn-append_cases a r v q) [ inl qa ↦ apart_a v qa (IsIn-append_left b (f ++ (k ++ r)) v pb) | inr qr ↦ apart_b v pb qr ]
      | inr pf ↦ elim (IsIn-append_cases a r v q) [ inl qa ↦ apart_a v qa (in_bf_rest v (IsIn-append_left f (k ++ r) v pf)) | inr qr ↦ apart_f v pf qr ]
    ]

-- a member has a place
pub place_of : (xs : List ℕ) (v : ℕ) → IsIn xs v → (i : ℕ) × (i < length xs) × (get_or xs i 0 ≡ v)
place_of [] v h = absurd h
place_of (x ∷ xs) v (inl e) = (0, omega arith, e)
place_of (x ∷ xs) v (inr h) = let p = place_of xs v h in (suc p.0, (let l = p.1 in omega arith), p.2)

-- a member of a list behind some others is one of the list
pub IsIn-drop : (n : ℕ) (xs : List ℕ) (v : ℕ) → IsIn (drop n xs) v → IsIn xs v
IsIn-drop zero xs v h = h
IsIn-drop (suc n) [] v h = h
IsIn-drop (suc n) (x ∷ xs) v h = inr (IsIn-drop n xs v h)

-- a member of a front is one of a longer front
pub IsIn-take : {X : Type 0} (m n : ℕ) (xs : List X) (v : X) → m ≤ n → IsIn (take m xs) v → IsIn (take n xs) v
IsIn-take zero n xs v l h = absurd h
IsIn-take (suc m) zero xs v l h = absurd (omega arith)
IsIn-take (suc m) (suc n) [] v l h = h
IsIn-take (suc m) (suc n) (x ∷ xs) v l (inl e) = inl e
IsIn-take (suc m) (suc n) (x ∷ xs) v l (inr h) = inr (IsIn-take m n xs v (omega arith) h)

pub IsIn-from_take : {X : Type 0} (m : ℕ) (xs : List X) (v : X) → IsIn (take m xs) v → IsIn xs v
IsIn-from_take zero xs v h = absurd h
IsIn-from_take (suc m) [] v h = h
IsIn-from_take (suc m) (x ∷ xs) v (inl e) = inl e
IsIn-from_take (suc m) (x ∷ xs) v (inr h) = inr (IsIn-from_take m xs v h)

-- the part of a list from one index on before another
abbrev pub part : List ℕ → ℕ → ℕ → List ℕ
part xs a b = take (b - a) (drop a xs)

pub drop_part : (xs : List ℕ) (a b : ℕ) → a ≤ b → drop a xs ≡ part xs a b ++ drop b xs
drop_part xs a b l =
    let e : a + (b - a) ≡ b = omega arith in
    sym (take-append-drop (b - a) (drop a xs)) ∙ ap (λ ys. part xs a b ++ ys) (drop-drop (b - a) a xs ∙ ap (λ n. drop n xs) e)

-- a member of a part has a place there
pub place_in_part : (xs : List ℕ) (a b v : ℕ) → b ≤ length xs → IsIn (part xs a b) v → (i : ℕ) × (a ≤ i) × (i < b) × (get_or xs i 0 ≡ v)
place_in_part xs a b v l h =
    let p = place_of (part xs a b) v h in
    let i = p.0 in
    let low : p.0 < length (part xs a b) = p.1 in
    let m = length-take (b - a) (drop a xs) in
    let d = length-drop a xs in
    let small : p.0 < b - a = omega arith in
    let e = get_or-take (b - a) (drop a xs) p.0 0 small in
    let f = get_or-drop a xs p.0 0 in
    (a + p.0, omega arith, omega arith, sym f ∙ (sym e ∙ p.2))

-- a part with one line more
pub part_more : (xs : List ℕ) (a b : ℕ) → a ≤ b → b < length xs → part xs a (b + 1) ≡ part xs a b ++ get_or xs b 0 ∷ []
part_more xs a b l h =
    let n : (b + 1) - a ≡ (b - a) + 1 = omega arith in
    let d = length-drop a xs in
    let s : b - a < length (drop a xs) = omega arith in
    let e = take_more (drop a xs) (b - a) 0 s in
    let f = get_or-drop a xs (b - a) 0 in
    let g : a + (b - a) ≡ b = omega arith in
    ap (λ k. take k (drop a xs)) n ∙ (e ∙ ap (λ x. part xs a b ++ x ∷ []) (f ∙ ap (λ k. get_or xs k 0) g))
