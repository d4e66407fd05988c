-- Given decisions follow joined ones part by part, and to the end exactly where they begin with them.
use Rattle.std.proofs.Common.{◌≡◌, refl, sym, ap, ◌∙◌, ℕ, ◌+◌, Bool, true, false, not, cond, Option, Some, None, List, [], ◌∷◌, ◌++◌, length, slice_get, length-append, append_assoc, arith}
use Rattle.std.proofs.Common.{ℤ, pos}
use Rattle.std.proofs.lemmas.List.{append-nil}
use Rattle.std.specs.Ordering.{int_eq}
use Rattle.il_core.specs.Expression.{Expression, two}
use Rattle.il_core.specs.Evaluation.{State, compares, whole, holds}
use Rattle.il_core.specs.declared.operator.BinOp.{BinOp}
use Rattle.il_core.specs.declared.operator.BinOp.TheVariants.{Add, Sub, Mul, Div, Mod, Compare, And, Or}
use Rattle.il_core.specs.declared.operator.Relation.{Relation}
use Rattle.il_core.specs.Bounds.{bounds_of}
use Rattle.il_core.specs.declared.line.Place.{Place}
use Rattle.test_graph.specs.Along.{BeginsWith}
use Rattle.test_graph.specs.Decision.{holds_zero}
use Rattle.test_graph.specs.Followed.{same_bit, next_position, followed_one, followed, zero_path, guard_path, whole_path, compared, truth_path, behind, behind_truth}

pub followed_joined : (path : List Bool) (at : Option ℕ) (xs ys : List Bool) → followed path at (xs ++ ys) ≡ followed path (followed path at xs) ys
followed_joined path at [] ys = refl
followed_joined path at (x ∷ xs) ys = followed_joined path (followed_one path at x) xs ys

left : (path : List Bool) (ds : List Bool) → followed path None ds ≡ None
left path [] = refl
left path (d ∷ ds) = left path ds

same-means : (c b : Bool) → same_bit c b ≡ true → c ≡ b
same-means true true h = refl
same-means true false h = absurd (cc)
same-means false true h = absurd (cc)
same-means false false h = refl

same-self : (b : Bool) → same_bit b b ≡ true
same-self true = refl
same-self false = refl

seam : (front rest : List Bool) (c : Bool) → slice_get (front ++ c ∷ rest) (length front) ≡ Some c
seam [] rest c = refl
seam (x ∷ xs) rest c = seam xs rest c

seam-end : (front : List Bool) → slice_get (front ++ []) (length front) ≡ None
seam-end [] = refl
seam-end (x ∷ xs) = seam-end xs

-- decisions that were followed to the end begin what was left of the path
pub followed_begins : (ds path front rest : List Bool) (n m : ℕ) → path ≡ front ++ rest → n ≡ length front → followed path (Some n) ds ≡ Some m
    → (m ≡ n + length ds) × BeginsWith rest ds
followed_begins [] path front rest n m e l h = let k : n ≡ m = cc in (omega arith, (rest, refl))
followed_begins (d ∷ ds) path front [] n m e l h =
    let none : slice_get path n ≡ None = ap (λ xs. slice_get xs n) e ∙ ap (slice_get (front ++ [])) l ∙ seam-end front in
    let k : followed path None ds ≡ Some m = ap (λ o. followed path (next_position n o d) ds) (sym none) ∙ h in
    absurd (let o = sym (left path ds) ∙ k in cc)
followed_begins (d ∷ ds) path front (c ∷ cs) n m e l h =
    by_test (same_bit c d) refl
    (λ k. followed_begins ds path (front ++ c ∷ []) cs (n + 1) m (e ∙ sym (append_assoc front (c ∷ []) cs)) (omega (arith, l, length-append front (c ∷ []))) k)
  where
    some : slice_get path n ≡ Some c
    some = ap (λ xs. slice_get xs n) e ∙ ap (slice_get (front ++ c ∷ cs)) l ∙ seam front cs c

    at : followed path (cond (same_bit c d) (Some (n + 1)) None) ds ≡ Some m
    at = ap (λ o. followed path (next_position n o d) ds) (sym some) ∙ h

    by_test : (b : Bool) → same_bit c d ≡ b → (followed path (Some (n + 1)) ds ≡ Some m → (m ≡ (n + 1) + length ds) × BeginsWith cs ds)
        → (m ≡ n + length (d ∷ ds)) × BeginsWith (c ∷ cs) (d ∷ ds)
    by_test true t ih =
        let k : followed path (Some (n + 1)) ds ≡ Some m = ap (λ b. followed path (cond b (Some (n + 1)) None) ds) (sym t) ∙ at in
        let r = ih k in
        let same : c ≡ d = same-means c d t in
        (omega (arith, r.0), (r.1.0, ap (λ b. b ∷ cs) same ∙ ap (λ xs. d ∷ xs) r.1.1))
    by_test false t ih =
        let k : followed path None ds ≡ Some m = ap (λ b. followed path (cond b (Some (n + 1)) None) ds) (sym t) ∙ at in
        absurd (let o = sym (left path ds) ∙ k in cc)

-- what was left of the path does not begin with decisions that it has left
pub followed_not : (ds path front rest : List Bool) (n : ℕ) → path ≡ front ++ rest → n ≡ length front → followed path (Some n) ds ≡ None → BeginsWith rest ds → ⊥
followed_not [] path front rest n e l h b = absurd (cc)
followed_not (d ∷ ds) path front [] n e l h b = let k : [] ≡ d ∷ (ds ++ b.0) = b.1 in absurd (cc)
followed_not (d ∷ ds) path front (c ∷ cs) n e l h b =
    followed_not ds path (front ++ c ∷ []) cs (n + 1) (e ∙ sym (append_assoc front (c ∷ []) cs)) (omega (arith, l, length-append front (c ∷ []))) on (b.0, rests)
  where
    heads : (x y : Bool) (xs ys : List Bool) → x ∷ xs ≡ y ∷ ys → x ≡ y
    heads x y xs ys p = cc

    tails : (x y : Bool) (xs ys : List Bool) → x ∷ xs ≡ y ∷ ys → xs ≡ ys
    tails x y xs ys p = cc

    rests : cs ≡ ds ++ b.0
    rests = tails c d cs (ds ++ b.0) b.1

    some : slice_get path n ≡ Some c
    some = ap (λ xs. slice_get xs n) e ∙ ap (slice_get (front ++ c ∷ cs)) l ∙ seam front cs c

    same : same_bit c d ≡ true
    same = ap (λ x. same_bit x d) (heads c d cs (ds ++ b.0) b.1) ∙ same-self d

    on : followed path (Some (n + 1)) ds ≡ None
    on = ap (λ t. followed path (cond t (Some (n + 1)) None) ds) (sym same) ∙ ap (λ o. followed path (next_position n o d) ds) (sym some) ∙ h

no-guard : (places : List Place) (o : BinOp) (b : Expression) → guard_path places o b None ≡ []
no-guard places Add b = refl
no-guard places Sub b = refl
no-guard places Mul b = refl
no-guard places Div b = refl
no-guard places Mod b = refl
no-guard places (Compare r) b = refl
no-guard places And b = refl
no-guard places Or b = refl

-- the left side does not decide what the operator makes of both
abbrev pub IsLeftOpen : BinOp → Bool → Type 0
IsLeftOpen And true = Unit {0}
IsLeftOpen And false = ⊥
IsLeftOpen Or true = ⊥
IsLeftOpen Or false = Unit {0}
IsLeftOpen Add p = ⊥
IsLeftOpen Sub p = ⊥
IsLeftOpen Mul p = ⊥
IsLeftOpen Div p = ⊥
IsLeftOpen Mod p = ⊥
IsLeftOpen (Compare r) p = ⊥

-- a divisor that is tested, and one that is not
pub zero_asked : (places : List Place) (b : Expression) (y : ℤ) (path : List Bool) (at f : Option ℕ) → holds_zero (bounds_of places b) ≡ true
    → f ≡ followed_one path at (not (int_eq y (pos 0))) → f ≡ followed path at (zero_path places b (Some y))
zero_asked places b y path at f h e = e ∙ ap (λ t. followed path at (cond t (not (int_eq y (pos 0)) ∷ []) [])) (sym h)

pub zero_skipped : (places : List Place) (b : Expression) (y : ℤ) (path : List Bool) (at : Option ℕ) → holds_zero (bounds_of places b) ≡ false
    → at ≡ followed path at (zero_path places b (Some y))
zero_skipped places b y path at h = ap (λ t. followed path at (cond t (not (int_eq y (pos 0)) ∷ []) [])) (sym h)

-- two sides, of which the left has no value, the right has none, or both have one
pub two_none : (u : Option ℤ) (xs ys : List Bool) (path : List Bool) (at f : Option ℕ) → u ≡ None → f ≡ followed path at xs → f ≡ followed path at (xs ++ behind u ys)
two_none u xs ys path at f h e = e ∙ ap (followed path at) (sym (append-nil xs)) ∙ ap (λ (o : Option ℤ). followed path at (xs ++ behind o ys)) (sym h)

pub two_half : (u : Option ℤ) (x : ℤ) (xs ys zs : List Bool) (path : List Bool) (at f g : Option ℕ) → u ≡ Some x → zs ≡ [] → f ≡ followed path at xs → g ≡ followed path f ys
    → g ≡ followed path at (xs ++ behind u (ys ++ zs))
two_half u x xs ys zs path at f g h n e k =
    k ∙ ap (λ (o : Option ℕ). followed path o ys) e ∙ sym (followed_joined path at xs ys) ∙ ap (λ vs. followed path at (xs ++ vs)) (sym (append-nil ys))
    ∙ ap (λ vs. followed path at (xs ++ (ys ++ vs))) (sym n) ∙ ap (λ (o : Option ℤ). followed path at (xs ++ behind o (ys ++ zs))) (sym h)

pub two_full : (u : Option ℤ) (x : ℤ) (xs ys zs : List Bool) (path : List Bool) (at f g k : Option ℕ) → u ≡ Some x → f ≡ followed path at xs → g ≡ followed path f ys
    → k ≡ followed path g zs → k ≡ followed path at (xs ++ behind u (ys ++ zs))
two_full u x xs ys zs path at f g k h e l m =
    m ∙ ap (λ (o : Option ℕ). followed path o zs) (l ∙ ap (λ (o : Option ℕ). followed path o ys) e) ∙ sym (followed_joined path (followed path at xs) ys zs)
    ∙ sym (followed_joined path at xs (ys ++ zs)) ∙ ap (λ (o : Option ℤ). followed path at (xs ++ behind o (ys ++ zs))) (sym h)

-- a condition whose left side decides it, or does not
pub truth_ends : (o : Option Bool) (xs ys zs : List Bool) (path : List Bool) (at f : Option ℕ) → behind_truth o ys zs ≡ [] → f ≡ followed path at xs
    → f ≡ followed path at (xs ++ behind_truth o ys zs)
truth_ends o xs ys zs path at f h e = e ∙ ap (followed path at) (sym (append-nil xs)) ∙ ap (λ vs. followed path at (xs ++ vs)) (sym h)

pub truth_goes_on : (o : Option Bool) (xs ys zs vs : List Bool) (path : List Bool) (at f g : Option ℕ) → behind_truth o ys zs ≡ vs → f ≡ followed path at xs
    → g ≡ followed path f vs → g ≡ followed path at (xs ++ behind_truth o ys zs)
truth_goes_on o xs ys zs vs path at f g h e k =
    k ∙ ap (λ (p : Option ℕ). followed path p vs) e ∙ sym (followed_joined path at xs vs) ∙ ap (λ ws. followed path at (xs ++ ws)) (sym h)

-- the decisions of two sides whose values are known, and of the operator
pub whole_two : (places : List Place) (o : BinOp) (e a b c : Expression) (s : State) (x y z : ℤ) (path : List Bool) (at f g k : Option ℕ) → e ≡ two o a b → c ≡ b
    → z ≡ y → whole a s ≡ Some x → whole b s ≡ Some y → f ≡ followed path at (whole_path places a s) → g ≡ followed path f (whole_path places b s)
    → k ≡ followed path g (guard_path places o c (Some z)) → k ≡ followed path at (whole_path places e s)
whole_two places o e a b c s x y z path at f g k same here kept u v l m n =
    let last : k ≡ followed path g (guard_path places o b (whole b s)) =
    n ∙ ap (λ (w : Expression). followed path g (guard_path places o w (Some z))) here ∙ ap (λ w. followed path g (guard_path places o b (Some w))) kept
    ∙ ap (λ (w : Option ℤ). followed path g (guard_path places o b w)) (sym v) in
    two_full (whole a s) x (whole_path places a s) (whole_path places b s) (guard_path places o b (whole b s)) path at f g k u l m last
    ∙ ap (λ (z : Expression). followed path at (whole_path places z s)) (sym same)

-- of two sides whose right one has no value
pub whole_half : (places : List Place) (o : BinOp) (e a b : Expression) (s : State) (x : ℤ) (path : List Bool) (at f g : Option ℕ) → e ≡ two o a b
    → whole a s ≡ Some x → whole b s ≡ None → f ≡ followed path at (whole_path places a s) → g ≡ followed path f (whole_path places b s)
    → g ≡ followed path at (whole_path places e s)
whole_half places o e a b s x path at f g same u v l m =
    two_half (whole a s) x (whole_path places a s) (whole_path places b s) (guard_path places o b (whole b s)) path at f g u
    (ap (guard_path places o b) v ∙ no-guard places o b) l m
    ∙ ap (λ (z : Expression). followed path at (whole_path places z s)) (sym same)

-- of a condition whose left side does not decide it
pub truth_two : (places : List Place) (o : BinOp) (e a b : Expression) (s : State) (p : Bool) (path : List Bool) (at f g : Option ℕ) → e ≡ two o a b
    → IsLeftOpen o p → holds a s ≡ Some p → f ≡ followed path at (truth_path places a s) → g ≡ followed path f (truth_path places b s)
    → g ≡ followed path at (truth_path places e s)
truth_two places And e a b s true path at f g same i h l m =
    truth_goes_on (holds a s) (truth_path places a s) (truth_path places b s) [] (truth_path places b s) path at f g
    (ap (λ (z : Option Bool). behind_truth z (truth_path places b s) []) h) l m
    ∙ ap (λ (z : Expression). followed path at (truth_path places z s)) (sym same)
truth_two places And e a b s false path at f g same i h l m = absurd i
truth_two places Or e a b s false path at f g same i h l m =
    truth_goes_on (holds a s) (truth_path places a s) [] (truth_path places b s) (truth_path places b s) path at f g
    (ap (λ (z : Option Bool). behind_truth z [] (truth_path places b s)) h) l m
    ∙ ap (λ (z : Expression). followed path at (truth_path places z s)) (sym same)
truth_two places Or e a b s true path at f g same i h l m = absurd i
truth_two places Add e a b s p path at f g same i h l m = absurd i
truth_two places Sub e a b s p path at f g same i h l m = absurd i
truth_two places Mul e a b s p path at f g same i h l m = absurd i
truth_two places Div e a b s p path at f g same i h l m = absurd i
truth_two places Mod e a b s p path at f g same i h l m = absurd i
truth_two places (Compare r) e a b s p path at f g same i h l m = absurd i

-- of a comparison whose sides have values
pub compared_two : (r : Relation) (u v : Option ℤ) (x y : ℤ) (xs ys : List Bool) (path : List Bool) (at f g k : Option ℕ) → u ≡ Some x → v ≡ Some y
    → f ≡ followed path at xs → g ≡ followed path f ys → k ≡ followed_one path g (compares r x y)
    → k ≡ followed path at (xs ++ behind u (ys ++ compared (Compare r) u v))
compared_two r u v x y xs ys path at f g k h i l m n =
    let here : compares r x y ∷ [] ≡ compared (Compare r) u v =
    ap (λ (z : Option ℤ). compared (Compare r) z (Some y)) (sym h) ∙ ap (λ (z : Option ℤ). compared (Compare r) u z) (sym i) in
    two_full u x xs ys (compared (Compare r) u v) path at f g k h l m (n ∙ ap (followed path g) here)

pub compared_half : (r : Relation) (u v : Option ℤ) (x : ℤ) (xs ys : List Bool) (path : List Bool) (at f g : Option ℕ) → u ≡ Some x → v ≡ None
    → f ≡ followed path at xs → g ≡ followed path f ys → g ≡ followed path at (xs ++ behind u (ys ++ compared (Compare r) u v))
compared_half r u v x xs ys path at f g h i l m =
    let here : compared (Compare r) u v ≡ [] = ap (λ (z : Option ℤ). compared (Compare r) z v) h ∙ ap (λ (z : Option ℤ). compared (Compare r) (Some x) z) i in
    two_half u x xs ys (compared (Compare r) u v) path at f g h here l m

pub ruleset following = (zero_asked, zero_skipped, two_none)
