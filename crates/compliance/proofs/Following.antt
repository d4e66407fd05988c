-- The leading assertions of a head follow one another: the first is the head, or stands behind it, and each other one behind the one before.
use Rattle.std.proofs.Common.{◌≡◌, inl, inr, refl, sym, ◌∙◌, subst, ℕ, suc, ◌+◌, ◌<◌, ◌≤◌, Some, List, [], ◌∷◌, arith}
use Rattle.std.specs.List.{AllPairs}
use Rattle.std.proofs.lemmas.List.Kept.{AllPairs-from_increasing}
use Rattle.il_core.specs.LineGraph.{IsIn}
use Rattle.flow_graph.specs.Reached.{Lists}
use Rattle.flow_graph.specs.declared.graph.Node.{Node}
use Rattle.flow_graph.specs.declared.graph.NodeKind.TheVariants.{Assertion, Plain}
use Rattle.control_flow.specs.Loop.{BeginsAt, IsLeading}
use Rattle.compliance.proofs.Members.{place_of}

-- lines that follow one another, the first of which is line a
abbrev pub FollowOn : ℕ → List ℕ → Type 0
FollowOn a [] = Unit {0}
FollowOn a (b ∷ lines) = (b ≡ a) × FollowOn (a + 1) lines

-- each number is below all behind it
abbrev pub Rise : List ℕ → Type 0
Rise [] = Unit {0}
Rise (b ∷ rest) = ((k : ℕ) → IsIn rest k → b < k) × Rise rest

pub rises : (xs : List ℕ) → AllPairs (λ x y. x < y) xs → Rise xs
rises [] h = tt
rises (b ∷ rest) h = (
  λ k i. let t = place_of rest k i in let m = t.1 in subst (λ x. b < x) t.2 (h 0 (suc t.0) 0 (omega arith) (omega (arith, m))),
  rises rest (λ i j d l m. h (suc i) (suc j) d (omega (arith, l)) (omega (arith, m))),
)

-- rising numbers from a on, of which each between is one, follow one another
follows : (a : ℕ) (xs : List ℕ) → Rise xs → ((k : ℕ) → IsIn xs k → a ≤ k) → ((k j : ℕ) → IsIn xs k → a ≤ j → j ≤ k → IsIn xs j) → FollowOn a xs
follows a [] r low down = tt
follows a (b ∷ rest) r low down =
    (first, follows (a + 1) rest r.1 (λ k i. let l = r.0 k i in omega (arith, l, first)) later)
  where
    at_first : IsIn (b ∷ rest) a → b ≡ a
    at_first (inl e) = e
    at_first (inr i) = let l = r.0 a i in let m = low b (inl refl) in absurd (omega (arith, l, m))

    first : b ≡ a
    first = at_first (down b a (inl refl) (omega arith) (low b (inl refl)))

    later : (k j : ℕ) → IsIn rest k → a + 1 ≤ j → j ≤ k → IsIn rest j
    later k j i l m = by_place (down k j (inr i) (omega (arith, l)) m)
      where
        by_place : IsIn (b ∷ rest) j → IsIn rest j
        by_place (inl e) = absurd (omega (arith, e, first, l))
        by_place (inr n) = n

-- a loop's assertions begin at one line
one_start : (nodes : List Node) (h s t : ℕ) → BeginsAt nodes h s → BeginsAt nodes h t → s ≡ t
one_start nodes h s t (inl a) (inl b) = a.1 ∙ sym b.1
one_start nodes h s t (inr a) (inr b) = a.1 ∙ sym b.1
one_start nodes h s t (inl a) (inr b) = let e : Some Assertion ≡ Some Plain = sym a.0 ∙ b.0 in absurd cc
one_start nodes h s t (inr a) (inl b) = let e : Some Plain ≡ Some Assertion = sym a.0 ∙ b.0 in absurd cc

-- where the leading assertions of a head begin, and that they follow on
pub record LeadsFrom (nodes : List Node) (h : ℕ) (xs : List ℕ) : Type 0 where
  pub start : ℕ
  pub begins : BeginsAt nodes h start
  pub follow : FollowOn start xs

pub leads_from : (nodes : List Node) (h a : ℕ) (xs : List ℕ) → Lists (IsLeading nodes h) xs → IsIn xs a → LeadsFrom nodes h xs
leads_from nodes h a xs l i = record {
  start = t.0;
  begins = t.1;
  follow = follows t.0 xs (rises xs (AllPairs-from_increasing xs l.ascending)) low down;
}
  where
    t : IsLeading nodes h a
    t = (l.exact a).0 i

    low : (k : ℕ) → IsIn xs k → t.0 ≤ k
    low k j = let u = (l.exact k).0 j in let e = one_start nodes h t.0 u.0 t.1 u.1 in let m = u.2 in omega (arith, e, m)

    down : (k j : ℕ) → IsIn xs k → t.0 ≤ j → j ≤ k → IsIn xs j
    down k j i b c =
        let u = (l.exact k).0 i in
        let e = one_start nodes h t.0 u.0 t.1 u.1 in
        (l.exact j).1 (t.0, t.1, b, λ x p q. u.3 x (omega (arith, e, p)) (omega (arith, q, c)))
