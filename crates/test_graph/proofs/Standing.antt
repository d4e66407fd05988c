-- Decisions that stand still stand when nodes are added.
use Rattle.std.proofs.Common.{◌≡◌, refl, sym, ap, subst, ℕ, zero, suc, ◌+◌, ◌<◌, Option, Some, None, List, [], ◌∷◌, ◌++◌, length, slice_get, length-append, ◌⊎◌, inl, inr, arith}
use Rattle.il_core.specs.declared.line.Next.{Next}
use Rattle.il_core.specs.declared.line.Next.TheVariants.{At, Halted}
use Rattle.il_core.specs.declared.line.Halt.{Halt}
use Rattle.sym_terms.specs.Tree.{tree_of}
use Rattle.sym_terms.specs.Comparison.{comparison_of}
use Rattle.sym_terms.specs.declared.term.Term.{Term}
use Rattle.sym_terms.specs.declared.term.Literal.{Literal}
use Rattle.test_graph.specs.Decision.{Change, Decision, ask, done, halts}
use Rattle.test_graph.specs.Lowered.{LeadsTo, Changes, Unfolds, NamesLower}
use Rattle.test_graph.specs.Standing.{Grows, Fall, Stands}
use Rattle.test_graph.specs.declared.graph.TestNode.{TestNode}
use Rattle.test_graph.specs.declared.graph.TestNode.TheVariants.{Test, Assign, Stop}

pub grows_same : (nodes : List TestNode) → Grows nodes nodes
grows_same nodes = record { longer = omega arith; kept = λ id node h. h }

pub grows_on : (a b c : List TestNode) → Grows a b → Grows b c → Grows a c
grows_on a b c g h = record { longer = omega (arith, g.longer, h.longer); kept = λ id node k. h.kept id node (g.kept id node k) }

leads-kept : (entries : List ℕ) (old new : List TestNode) (id : ℕ) (next : Next) → Grows old new → LeadsTo old entries id next → LeadsTo new entries id next
leads-kept entries old new id (At q) g h = h
leads-kept entries old new id (Halted x) g h = g.kept id (Stop x) h

changes-kept : (entries : List ℕ) (old new : List TestNode) (id : ℕ) (c : Option Change) (next : Next) → Grows old new → Changes old entries id c next
    → Changes new entries id c next
changes-kept entries old new id None next g h = leads-kept entries old new id next g h
changes-kept entries old new id (Some c) next g h =
    (h.0, h.1, g.kept id (Assign c.place h.0 h.1) h.2, h.3, leads-kept entries old new h.1 next g h.4)

unfolds-kept : (entries : List ℕ) (old new : List TestNode) (id : ℕ) (d : Decision) → Grows old new → Unfolds old entries id d → Unfolds new entries id d
unfolds-kept entries old new id (ask c met unmet) g h =
    (h.0, h.1, h.2, g.kept id (Test h.0 h.1 h.2) h.3, h.4, unfolds-kept entries old new h.1 met g h.5, unfolds-kept entries old new h.2 unmet g h.6)
unfolds-kept entries old new id (done c next) g h = changes-kept entries old new id c next g h

pub stands_kept : (entries : List ℕ) (old new : List TestNode) (id : ℕ) (d : Decision) → Grows old new → Stands entries old id d → Stands entries new id d
stands_kept entries old new id d g h = record { unfolds = unfolds-kept entries old new id d g h.unfolds }

at-end : (xs : List TestNode) (x : TestNode) → slice_get (xs ++ x ∷ []) (length xs) ≡ Some x
at-end [] x = refl
at-end (y ∷ ys) x = at-end ys x

before-end : (xs : List TestNode) (x y : TestNode) (k : ℕ) → slice_get xs k ≡ Some y → slice_get (xs ++ x ∷ []) k ≡ Some y
before-end [] x y k h = absurd (cc)
before-end (z ∷ zs) x y zero h = h
before-end (z ∷ zs) x y (suc k) h = before-end zs x y k h

-- an element of a list with one more is one of the list, or the one more
either : (xs : List TestNode) (x y : TestNode) (k : ℕ) → slice_get (xs ++ x ∷ []) k ≡ Some y → (slice_get xs k ≡ Some y) ⊎ ((k ≡ length xs) × (x ≡ y))
either [] x y zero h = inr (refl, cc)
either [] x y (suc k) h = absurd (cc)
either (z ∷ zs) x y zero h = inl h
either (z ∷ zs) x y (suc k) h = elim (either zs x y k h) [
  | inl there ↦ inl there
  | inr there ↦ inr (ap suc there.0, there.1)
]

-- what one node more brings
pub record IsOneMore (old : List TestNode) (node : TestNode) (new : List TestNode) : Type 0 where
  pub there : slice_get new (length old) ≡ Some node
  pub within : length old < length new
  pub grows : Grows old new
  pub falls : Fall new

pub one_more : (old : List TestNode) (node : TestNode) → Fall old → NamesLower (length old) node → IsOneMore old node (old ++ node ∷ [])
one_more old node f l =
    let long : length (old ++ node ∷ []) ≡ length old + 1 = omega (arith, length-append old (node ∷ [])) in
    record {
      there = at-end old node;
      within = omega (arith, long);
      grows = record { longer = omega (arith, long); kept = λ id x h. before-end old node x id h };
      falls = record { each = λ id x h. falls id x (either old node x id h) };
    }
  where
    falls : (id : ℕ) (x : TestNode) → (slice_get old id ≡ Some x) ⊎ ((id ≡ length old) × (node ≡ x)) → NamesLower id x
    falls id x (inl h) = f.each id x h
    falls id x (inr h) = subst (λ k. NamesLower k x) (sym h.0) (subst (λ (y : TestNode). NamesLower (length old) y) h.1 l)

-- a halt, an assignment and a test stand where their nodes do
pub stop_stands : (entries : List ℕ) (nodes : List TestNode) (id : ℕ) (h : Halt) → slice_get nodes id ≡ Some (Stop h) → Stands entries nodes id (halts h)
stop_stands entries nodes id h there = record { unfolds = there }

pub assign_stands : (entries : List ℕ) (old new : List TestNode) (id place : ℕ) (term : Term) (then : ℕ) (next : Next) → Grows old new
    → slice_get new id ≡ Some (Assign place term then) → Stands entries old then (done None next)
    → Stands entries new id (done (Some (record { place = place; term = tree_of term })) next)
assign_stands entries old new id place term then next g there s =
    record { unfolds = (term, then, there, refl, (stands_kept entries old new then (done None next) g s).unfolds) }

pub test_stands : (entries : List ℕ) (old new : List TestNode) (id : ℕ) (l : Literal) (met unmet : ℕ) (x y : Decision) → Grows old new
    → slice_get new id ≡ Some (Test l met unmet) → Stands entries old met x → Stands entries old unmet y → Stands entries new id (ask (comparison_of l) x y)
test_stands entries old new id l met unmet x y g there s t =
    record {
      unfolds = (
        l,
        met,
        unmet,
        there,
        refl,
        (stands_kept entries old new met x g s).unfolds,
        (stands_kept entries old new unmet y g t).unfolds,
      );
    }

pub ruleset standing = (stop_stands, assign_stands, test_stands)
