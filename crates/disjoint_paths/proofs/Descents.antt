-- Numbers of open lines, each from the next: one more at the end, one less, and that each is less than the one from which it follows.
use Rattle.std.proofs.Common.{refl, ℕ, ◌<◌, List, [], ◌∷◌, ◌++◌, length, take, arith}
use Rattle.std.proofs.lemmas.List.{length-take-le}
use Rattle.disjoint_paths.specs.declared.widening.Origin.{Origin}
use Rattle.disjoint_paths.specs.declared.widening.Origin.TheVariants.{Tail, Step, Jump}
use Rattle.disjoint_paths.specs.declared.widening.Opened.{Opened}
use Rattle.disjoint_paths.specs.Widening.{IsOpening, AreOpened, opened_at}
use Rattle.disjoint_paths.specs.Descent.{CameFrom, AreLinked, IsDescent}

-- each open line came from an earlier one
pub linked : (E : ℕ → ℕ → Type 0) (P : ℕ → Type 0) (t : ℕ) (path : List ℕ) (opened : List Opened) → AreOpened E P t path opened → AreLinked opened
linked E P t path opened all k l b h = let e = length-take-le k opened (omega arith) in let s = by_origin (opened_at opened k).origin (all k l) h in omega arith
  where
    by_origin : (o : Origin) → IsOpening E P t path (take k opened) (opened_at opened k).line (opened_at opened k).from o → CameFrom o b → b < length (take k opened)
    by_origin Tail s h = absurd h
    by_origin (Step before) s h = rw (← h) s.known
    by_origin (Jump before place) s h = rw (← h) s.known

-- one number more at the end
pub descent_more : (opened : List Opened) (xs : List ℕ) (last x b : ℕ) → IsDescent opened xs last x → x < length opened → CameFrom (opened_at opened x).origin b → IsDescent opened (xs ++ x ∷ []) last b
descent_more opened [] last x b d l c = (d, l, (b, c, refl))
descent_more opened (k ∷ xs) last x b d l c = (d.0, d.1, (d.2.0, d.2.1, descent_more opened xs d.2.0 x b d.2.2 l c))

-- one number less at the end
pub descent_less : (opened : List Opened) (xs : List ℕ) (last x first : ℕ) → IsDescent opened (xs ++ x ∷ []) last first
    → IsDescent opened xs last x × (x < length opened) × CameFrom (opened_at opened x).origin first
descent_less opened [] last x first d = (d.0, d.1, rw (← d.2.2) d.2.1)
descent_less opened (k ∷ xs) last x first d = let t = descent_less opened xs d.2.0 x first d.2.2 in ((d.0, d.1, (d.2.0, d.2.1, t.0)), t.1, t.2)
