-- No list of statements has two answers: no two lists of links, no list and a refusal, no two refusals.
use Rattle.std.proofs.Common.{◌≡◌, ◌+◌, ◌<◌, ℕ, zero, suc, Bool, true, false, List, [], ◌∷◌, length, slice_get, refl, sym, ◌∙◌, ap, subst, inl, inr, arith, if◌then◌else◌}
use Rattle.std.specs.Prelude.{Option, Some, None, Ok, Err}
use Rattle.std.proofs.lemmas.Option.{slice_get_within}
use Rattle.il_core.specs.Statement.{Statement, Placed, if_true, otherwise, end_loop, exit, exit_when, goto, return}
use Rattle.il_core.specs.declared.statement.Link.{Link}
use Rattle.il_core.specs.declared.statement.Link.TheVariants as link
use Rattle.il_blocks.specs.BlockLabel.{owner, IsLabel}
use Rattle.il_blocks.specs.BlockFault.{HasNoFault}
use Rattle.il_blocks.specs.BlockLink.{Pairs, GoesOnAt, LeavesTo, HasTarget, has_line, names_line, is_else, line, IsLink, AreLinks, OneLinks}
use Rattle.il_blocks.proofs.BlockFirst.{one_refusal}
use Rattle.il_blocks.proofs.BlockOne.{one_end, one_begin, one_loop}

not_some : {A : Type 0} (x : A) → ◌≡◌ {A = Option A} None (Some x) → ⊥
not_some x e = cc

-- a statement with a target is a line that names another
names : (ss : List Placed) (x : ℕ) (s : Statement) (t : ℕ) → HasTarget ss x s t → (has_line s ≡ true) × (names_line s ≡ true)
names ss x (if_true _) t h = (refl, refl)
names ss x otherwise t h = (refl, refl)
names ss x end_loop t h = (refl, refl)
names ss x exit t h = (refl, refl)
names ss x (exit_when _) t h = (refl, refl)
names ss x (goto _) t h = (refl, refl)
names ss x return t h = (refl, refl)
names ss x _ t h = absurd h

goes_on_once : (ss : List Placed) (x t u : ℕ) → GoesOnAt ss x t → GoesOnAt ss x u → t ≡ u
goes_on_once ss x t u p q =
    let end : p.end ≡ q.end = one_end ss x p.end q.end p.pairs q.pairs in
    let z : ◌≡◌ {A = Option Placed} (Some p.pairs.ender) (Some q.pairs.ender) = sym p.pairs.to ∙ ap (slice_get ss) end ∙ q.pairs.to in
    let ender : p.pairs.ender ≡ q.pairs.ender = cc in
    p.is ∙ ap (λ (s : Placed). if is_else s.says then line ss p.end + 1 else line ss p.end) ender
    ∙ ap (λ (n : ℕ). if is_else q.pairs.ender.says then line ss n + 1 else line ss n) end ∙ sym q.is

leaves_once : (ss : List Placed) (x t u : ℕ) → LeavesTo ss x t → LeavesTo ss x u → t ≡ u
leaves_once ss x t u p q =
    let loop : p.loop ≡ q.loop = one_loop ss p.loop q.loop x p.surrounds q.surrounds in
    let end : p.end ≡ q.end = one_end ss q.loop p.end q.end (subst (λ (n : ℕ). Pairs ss n p.end) loop p.pairs) q.pairs in
    p.is ∙ ap (λ (n : ℕ). line ss n + 1) end ∙ sym q.is

-- where no LABEL is repeated, one has the name
label_not_before : (ss : List Placed) (inside : ℕ) (name : List ℕ) (j k : ℕ) → HasNoFault ss → IsLabel ss inside name j → IsLabel ss inside name k → j < k → ⊥
label_not_before ss inside name j k no_fault p q h = no_fault k (inr (inl (record {
  stmt = q.stmt;
  at = q.at;
  name = name;
  says = q.says;
  first = j;
  before = h;
  earlier = record { stmt = p.stmt; at = p.at; says = p.says; same = p.same ∙ sym q.same };
})))

one_label : (ss : List Placed) (inside : ℕ) (name : List ℕ) (j k : ℕ) → HasNoFault ss → IsLabel ss inside name j → IsLabel ss inside name k → j ≡ k
one_label ss inside name j k no_fault p q =
    let not_less : j < k → ⊥ = λ h. label_not_before ss inside name j k no_fault p q h in
    let not_more : k < j → ⊥ = λ h. label_not_before ss inside name k j no_fault q p h in
    omega arith

one_target : (ss : List Placed) (x : ℕ) (s : Statement) (t u : ℕ) → HasNoFault ss → HasTarget ss x s t → HasTarget ss x s u → t ≡ u
one_target ss x (if_true _) t u no_fault p q = goes_on_once ss x t u p q
one_target ss x otherwise t u no_fault p q = p.2 ∙ ap (line ss) (one_end ss x p.0 q.0 p.1 q.1) ∙ sym q.2
one_target ss x end_loop t u no_fault p q = p.2 ∙ ap (line ss) (one_begin ss p.0 q.0 x p.1 q.1) ∙ sym q.2
one_target ss x exit t u no_fault p q = leaves_once ss x t u p q
one_target ss x (exit_when _) t u no_fault p q = leaves_once ss x t u p q
one_target ss x (goto name) t u no_fault p q = p.2 ∙ ap (line ss) (one_label ss (owner ss x) name p.0 q.0 no_fault p.1 q.1) ∙ sym q.2
one_target ss x return t u no_fault p q = p ∙ sym q
one_target ss x _ t u no_fault p q = absurd p

differ : (b : Bool) → b ≡ false → b ≡ true → ⊥
differ b e f = let z : false ≡ true = sym e ∙ f in cc

one_link : (ss : List Placed) (x : ℕ) (s : Statement) (l m : Link) → HasNoFault ss → IsLink ss x s l → IsLink ss x s m → l ≡ m
one_link ss x s link.NoLine link.NoLine no_fault p q = refl
one_link ss x s link.NoLine (link.Plain n) no_fault p q = absurd (differ (has_line s) p q.0)
one_link ss x s link.NoLine (link.Jump n u) no_fault p q = absurd (differ (has_line s) p (names ss x s u q.1).0)
one_link ss x s (link.Plain n) link.NoLine no_fault p q = absurd (differ (has_line s) q p.0)
one_link ss x s (link.Plain n) (link.Plain m) no_fault p q = ap (λ (k : ℕ). link.Plain k) (p.2 ∙ sym q.2)
one_link ss x s (link.Plain n) (link.Jump m u) no_fault p q = absurd (differ (names_line s) p.1 (names ss x s u q.1).1)
one_link ss x s (link.Jump n t) link.NoLine no_fault p q = absurd (differ (has_line s) q (names ss x s t p.1).0)
one_link ss x s (link.Jump n t) (link.Plain m) no_fault p q = absurd (differ (names_line s) q.1 (names ss x s t p.1).1)
one_link ss x s (link.Jump n t) (link.Jump m u) no_fault p q =
    ap (λ (k : ℕ). link.Jump k t) (p.0 ∙ sym q.0) ∙ ap (λ (k : ℕ). link.Jump m k) (one_target ss x s t u no_fault p.1 q.1)

-- lists of one length with the same elements are one
same_list : (xs ys : List Link) → length xs ≡ length ys → ((x : ℕ) (l m : Link) → slice_get xs x ≡ Some l → slice_get ys x ≡ Some m → l ≡ m) → xs ≡ ys
same_list [] [] e f = refl
same_list [] (y ∷ ys) e f = absurd (omega (arith, e))
same_list (x ∷ xs) [] e f = absurd (omega (arith, e))
same_list (x ∷ xs) (y ∷ ys) e f =
    let long : length xs ≡ length ys = omega (arith, e) in
    ap (λ (l : Link). l ∷ xs) (f zero x y refl refl) ∙ ap (λ (ls : List Link). y ∷ ls) (same_list xs ys long (λ i l m p q. f (suc i) l m p q))

stmt_at : (ss : List Placed) (x : ℕ) → x < length ss → (s : Placed) × (slice_get ss x ≡ Some s)
stmt_at [] x h = absurd (omega (arith, h))
stmt_at (s ∷ ss) zero h = (s, refl)
stmt_at (s ∷ ss) (suc x) h = let k : x < length ss = omega (arith, h) in stmt_at ss x k

one_list : (ss : List Placed) (xs ys : List Link) → AreLinks ss xs → AreLinks ss ys → xs ≡ ys
one_list ss xs ys p q = same_list xs ys (p.long ∙ sym q.long) same
  where
    same : (x : ℕ) (l m : Link) → slice_get xs x ≡ Some l → slice_get ys x ≡ Some m → l ≡ m
    same x l m f g =
        let far : x < length xs = slice_get_within xs x l f in
        let within : x < length ss = omega (arith, p.long) in
        let here = stmt_at ss x within in
        one_link ss x here.0.says l m p.matched (p.each x here.0 l here.1 f) (q.each x here.0 m here.1 g)

pub one_links : OneLinks
one_links ss (Ok x) (Ok y) p q = ap Ok (one_list ss x y p q)
one_links ss (Ok x) (Err b) p q = absurd (p.matched q.number q.first.0)
one_links ss (Err a) (Ok y) p q = absurd (q.matched p.number p.first.0)
one_links ss (Err a) (Err b) p q = ap Err (one_refusal ss a b p q)
