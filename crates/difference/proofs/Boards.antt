-- A board of some constraints is one of more constraints, and a copy of a board is a board.
use Rattle.std.proofs.Common.{◌≡◌, ◌∙◌, ℕ, zero, suc, ◌+◌, ◌<◌, ◌≤◌, ℤ, ◌+ℤ◌, List, [], ◌∷◌, ◌++◌, length, take, map, Option, Some, slice_get, refl, sym, ap, subst, arith}
use Rattle.std.specs.Option.{option_map}
use Rattle.std.specs.declared.vec.Vec.{Vec}
use Rattle.std.specs.declared.alloc.Global.{Global}
use Rattle.std.proofs.lemmas.List.{length-append, length-map}
use Rattle.std.proofs.lemmas.Option.{slice_get-map}
use Rattle.std.proofs.lemmas.List.Elements.{All-weaker}
use Rattle.difference.specs.Constraints.{number}
use Rattle.difference.specs.Chains.{room, quantity, total, Names, enters, right_of, edges_of, IsChain, Proves, Kept}
use Rattle.difference.specs.Solving.{IsArc}
use Rattle.difference.specs.Rounds.{AreFiled, IsReady}
use Rattle.difference.specs.declared.solving.Arc.{Arc}
use Rattle.difference.specs.declared.solving.Board.{Board}
use Rattle.difference.specs.declared.constraint.Range64.{Range64}
use Rattle.difference.specs.declared.constraint.Constraint.{Constraint}
use Rattle.difference.specs.declared.constraint.Edge.{Edge}
use Rattle.difference.specs.declared.constraint.Edge.TheVariants.{Low, High, Given}
use Rattle.difference.specs.declared.chain.Step.{Step}
use Rattle.difference.proofs.Lists.{get_mapped, get_within, get_append, get_take}

module _ (ranges : List Range64) (cs more : List Constraint) where
  -- a constraint keeps its place
  same-place : (i : ℕ) → i < length cs → slice_get (cs ++ more) i ≡ slice_get cs i
  same-place i l = let c = get_within cs i l in get_append cs more i c.0 c.1 ∙ sym c.1

  -- an edge names no less
  names-further : (e : Edge) → Names (length ranges) (length cs) e → Names (length ranges) (length (cs ++ more)) e
  names-further (Low k) n = n
  names-further (High k) n = n
  names-further (Given i) n = omega (arith, length-append cs more)

  -- and has its quantity
  quantity-further : (vals : List ℤ) (e : Edge) → Names (length ranges) (length cs) e
      → quantity ranges (cs ++ more) vals e ≡ quantity ranges cs vals e
  quantity-further vals (Low k) n = refl
  quantity-further vals (High k) n = refl
  quantity-further vals (Given i) n = ap (λ o. room o vals) (same-place i n)

  -- and its end
  enters-further : (e : Edge) → Names (length ranges) (length cs) e → enters (cs ++ more) e ≡ enters cs e
  enters-further (Low k) n = refl
  enters-further (High k) n = refl
  enters-further (Given i) n = ap right_of (same-place i n)

  -- so a list of edges has its total
  total-further : (vals : List ℤ) (es : List Edge)
      → ((j : ℕ) (e : Edge) → slice_get es j ≡ Some e → Names (length ranges) (length cs) e)
      → total ranges (cs ++ more) vals es ≡ total ranges cs vals es
  total-further vals [] names = refl
  total-further vals (e ∷ es) names =
      ap (λ q. q +ℤ total ranges (cs ++ more) vals es) (quantity-further vals e (names zero e refl))
      ∙ ap (λ t. quantity ranges cs vals e +ℤ t) (total-further vals es (λ j x p. names (suc j) x p))

  -- the edges of a front of a chain are named
  names-front : (values : List ℤ) (steps : List Step) (n : ℕ) → IsChain ranges cs values steps
      → (j : ℕ) (e : Edge) → slice_get (edges_of (take n steps)) j ≡ Some e → Names (length ranges) (length cs) e
  names-front values steps n h j e p =
      let a = get_mapped (λ (s : Step). s.edge) (take n steps) j e p in
      subst (λ (x : Edge). Names (length ranges) (length cs) x) a.2 (h.names j a.0 (get_take n steps j a.0 a.1))

  -- a chain stays one
  chain-further : (values : List ℤ) (steps : List Step) → IsChain ranges cs values steps → IsChain ranges (cs ++ more) values steps
  chain-further values steps h = record {
    sums = λ j s e vals. total-further vals (edges_of (take (j + 1) steps)) (names-front values steps (j + 1) h) ∙ h.sums j s e vals;
    names = λ j s e. names-further s.edge (h.names j s e);
    entered = λ j s e. enters-further s.edge (h.names j s e) ∙ h.entered j s e;
    known = h.known;
    below = h.below;
    apart = h.apart;
  }

  -- and proves what it proved
  proves-further : (values : List ℤ) (steps : List Step) (side : Option ℕ) (value : ℤ) → IsChain ranges cs values steps
      → Proves ranges cs steps side value → Proves ranges (cs ++ more) steps side value
  proves-further values steps side value h p = record {
    whole = λ vals. total-further vals (edges_of steps) (λ j e q.
        let a = get_mapped (λ (s : Step). s.edge) steps j e q in
        subst (λ (x : Edge). Names (length ranges) (length cs) x) a.2 (h.names j a.0 a.1)) ∙ p.whole vals;
  }

  -- a board stays one
  pub kept-further : (values : List ℤ) (chains : List (Vec Step Global)) → Kept ranges cs values chains → Kept ranges (cs ++ more) values chains
  kept-further values chains kept = record {
    within = kept.within;
    counted = kept.counted;
    chained = λ k c e. chain-further values c.items (kept.chained k c e);
    proves = λ k c e. proves-further values c.items (Some k) (number values k) (kept.chained k c e) (kept.proves k c e);
  }

  -- an arc stays one
  arc-further : (n place : ℕ) (arc : Arc) → IsArc n cs place arc → IsArc n (cs ++ more) place arc
  arc-further n place arc a =
      let back : (c : Constraint) → slice_get (cs ++ more) arc.index ≡ Some c → slice_get cs arc.index ≡ Some c
      = λ c e. sym (same-place arc.index a.known) ∙ e in
      record {
        known = omega (arith, a.known, length-append cs more);
        right = a.right;
        bound = a.bound;
        left_is = λ c e. a.left_is c (back c e);
        right_is = λ c e. a.right_is c (back c e);
        bound_is = λ c e. a.bound_is c (back c e);
      }

  -- the table stays one
  pub filed-further : (n count : ℕ) (buckets : List (Vec Arc Global)) → AreFiled n cs count buckets → AreFiled n (cs ++ more) count buckets
  filed-further n count buckets h = record {
    size = h.size;
    within = omega (arith, h.within, length-append cs more);
    known = λ u v e. All-weaker (IsArc n cs u) (IsArc n (cs ++ more) u) (λ a w. arc-further n u a w) v.items (h.known u v e);
    filed = λ i c v l e. h.filed i c v l (sym (same-place i (omega (arith, h.within))) ∙ e);
  }

  -- and a board that is ready stays so
  pub ready-further : (count : ℕ) (board : Board) → count ≤ length cs → IsReady ranges cs count board → IsReady ranges (cs ++ more) count board
  ready-further count board within h = record {
    kept = kept-further board.values.items board.chains.items h.kept;
    size = h.size;
    covered = λ i c l e. h.covered i c l (sym (same-place i (omega arith)) ∙ e);
  }

module _ (ranges : List Range64) (cs : List Constraint) where
  -- the chain in a copy is the one in the board
  chain-copied : (chains copy : List (Vec Step Global)) → map (λ c. c.items) copy ≡ map (λ c. c.items) chains
      → (k : ℕ) (c : Vec Step Global) → slice_get copy k ≡ Some c
      → (b : Vec Step Global) × (slice_get chains k ≡ Some b) × (b.items ≡ c.items)
  chain-copied chains copy same k c e = get_mapped (λ (v : Vec Step Global). v.items) chains k c.items
      (ap (λ (l : List (List Step)). slice_get l k) (sym same)
      ∙ (slice_get-map (λ (v : Vec Step Global). v.items) copy k ∙ ap (option_map (λ (v : Vec Step Global). v.items)) e))

  -- a copy of a board is a board
  pub kept-copied : (values : List ℤ) (chains copy : List (Vec Step Global)) → Kept ranges cs values chains
      → map (λ c. c.items) copy ≡ map (λ c. c.items) chains → Kept ranges cs values copy
  kept-copied values chains copy kept same = record {
    within = kept.within;
    counted = sym (length-map copy (λ (v : Vec Step Global). v.items))
        ∙ (ap length same ∙ (length-map chains (λ (v : Vec Step Global). v.items) ∙ kept.counted));
    chained = λ k c e. let b = chain-copied chains copy same k c e in
        subst (λ (l : List Step). IsChain ranges cs values l) b.2 (kept.chained k b.0 b.1);
    proves = λ k c e. let b = chain-copied chains copy same k c e in
        subst (λ (l : List Step). Proves ranges cs l (Some k) (number values k)) b.2 (kept.proves k b.0 b.1);
  }

  -- and is ready where that is
  pub ready-copied : (count : ℕ) (board copy : Board) → IsReady ranges cs count board → copy.values.items ≡ board.values.items
      → copy.pending.items ≡ board.pending.items → map (λ c. c.items) copy.chains.items ≡ map (λ c. c.items) board.chains.items
      → IsReady ranges cs count copy
  ready-copied count board copy h values pending chains = record {
    kept = rw values (kept-copied board.values.items board.chains.items copy.chains.items h.kept chains);
    size = rw pending h.size;
    covered = λ i c l e q. rw values (h.covered i c l e (rw pending at q));
  }
