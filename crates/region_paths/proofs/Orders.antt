-- The order of decisions is strict, and a list in this order is fixed by its members.
use Rattle.std.proofs.Common.{◌≡◌, inl, inr, refl, sym, ◌∙◌, subst, Bool, true, false, List, [], ◌∷◌}
use Rattle.il_core.specs.LineGraph.{IsIn}
use Rattle.region_paths.specs.Listing.{RegionPath, is_before, Ascend, ListsPaths}

pub is_before-itself : (a : List Bool) → is_before a a ≡ true → ⊥
is_before-itself [] h = absurd (cc)
is_before-itself (true ∷ a) h = is_before-itself a h
is_before-itself (false ∷ a) h = is_before-itself a h

pub is_before-turned : (a b : List Bool) → is_before a b ≡ true → is_before b a ≡ true → ⊥
is_before-turned a [] h k = absurd (cc)
is_before-turned [] (y ∷ b) h k = absurd (cc)
is_before-turned (true ∷ a) (true ∷ b) h k = is_before-turned a b h k
is_before-turned (true ∷ a) (false ∷ b) h k = absurd (cc)
is_before-turned (false ∷ a) (true ∷ b) h k = absurd (cc)
is_before-turned (false ∷ a) (false ∷ b) h k = is_before-turned a b h k

-- no path stands before itself
not_itself : (x r : RegionPath) → x ≡ r → is_before x.row.path r.row.path ≡ true → ⊥
not_itself x r e h = is_before-itself r.row.path (subst (λ (y : RegionPath). is_before y.row.path r.row.path ≡ true) e h)

-- the first members of two lists with the same members are the same
first_same : (x : RegionPath) (xs : List RegionPath) (y : RegionPath) (ys : List RegionPath) → Ascend (x ∷ xs) → Ascend (y ∷ ys)
    → IsIn (y ∷ ys) x → IsIn (x ∷ xs) y → x ≡ y
first_same x xs y ys a b (inl e) j = sym e
first_same x xs y ys a b (inr i) (inl e) = e
first_same x xs y ys a b (inr i) (inr j) = absurd (is_before-turned x.row.path y.row.path (a.0 y j) (b.0 x i))

-- a member of the rest of one list is one of the rest of the other
rest_in : (x : RegionPath) (xs : List RegionPath) (y : RegionPath) (ys : List RegionPath) (r : RegionPath) → x ≡ y → Ascend (x ∷ xs) → IsIn xs r → IsIn (y ∷ ys) r → IsIn ys r
rest_in x xs y ys r e a i (inl f) = absurd (not_itself x r (e ∙ f) (a.0 r i))
rest_in x xs y ys r e a i (inr j) = j

-- two lists in order with the same members are the same
pub one_order : (a b : List RegionPath) → Ascend a → Ascend b → ((r : RegionPath) → IsIn a r → IsIn b r) → ((r : RegionPath) → IsIn b r → IsIn a r) → a ≡ b
one_order [] [] a b there back = refl
one_order [] (y ∷ ys) a b there back = absurd (back y (inl refl))
one_order (x ∷ xs) [] a b there back = absurd (there x (inl refl))
one_order (x ∷ xs) (y ∷ ys) a b there back =
    let e = first_same x xs y ys a b (there x (inl refl)) (back y (inl refl)) in
    let rest = one_order xs ys a.1 b.1 (λ r i. rest_in x xs y ys r e a i (there r (inr i))) (λ r i. rest_in y ys x xs r (sym e) b i (back r (inr i))) in
    cc

pub one_listing : (P : RegionPath → Type 0) (a b : List RegionPath) → ListsPaths P a → ListsPaths P b → a ≡ b
one_listing P a b l m = one_order a b l.ordered m.ordered (λ r i. (m.each r).1 ((l.each r).0 i)) (λ r i. (l.each r).1 ((m.each r).0 i))

-- of two members with the same decisions each is the other
pub one_by_decisions : (rows : List RegionPath) (r q : RegionPath) → Ascend rows → IsIn rows r → IsIn rows q → r.row.path ≡ q.row.path → r ≡ q
one_by_decisions [] r q a i j e = absurd i
one_by_decisions (x ∷ rows) r q a (inl f) (inl g) e = sym f ∙ g
one_by_decisions (x ∷ rows) r q a (inl f) (inr j) e = absurd (is_before-itself q.row.path (subst (λ (k : List Bool). is_before k q.row.path ≡ true) e (subst (λ (y : RegionPath). is_before y.row.path q.row.path ≡ true) f (a.0 q j))))
one_by_decisions (x ∷ rows) r q a (inr i) (inl g) e = absurd (is_before-itself q.row.path (subst (λ (k : List Bool). is_before q.row.path k ≡ true) e (subst (λ (y : RegionPath). is_before y.row.path r.row.path ≡ true) g (a.0 r i))))
one_by_decisions (x ∷ rows) r q a (inr i) (inr j) e = one_by_decisions rows r q a.1 i j e
