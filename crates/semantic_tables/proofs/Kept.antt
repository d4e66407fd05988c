-- The paths that are kept of a list, and what they add.
use Rattle.std.proofs.Common.{◌≡◌, inl, inr, refl, sym, ap, ◌∙◌, subst, Bool, true, false, List, [], ◌∷◌, ◌++◌, map, Option, append_assoc}
use Rattle.std.specs.Prelude.{if◌then◌else◌}
use Rattle.std.proofs.lemmas.List.{append-nil, map-append}
use Rattle.il_core.specs.LineGraph.{IsIn}
use Rattle.il_core.specs.declared.line.Stop.{Stop}
use Rattle.sym_terms.specs.Tree.{Tree}
use Rattle.sym_terms.specs.Comparison.{Comparison, comparison_under, denied}
use Rattle.sym_simplify.specs.Norm.{norm}
use Rattle.sym_simplify.specs.Literal.{LiteralForm}
use Rattle.test_graph.specs.Decision.{Change}
use Rattle.test_graph.specs.Way.{changed}
use Rattle.region_paths.specs.PlainRow.{assigned_under}
use Rattle.region_paths.specs.Listing.{RegionPath, Ascend, ListsPaths}
use Rattle.region_paths.specs.PathTree.{PathTree, fork, change, stops, begun, paths_down}
use Rattle.semantic_tables.specs.Row.{NormalRow, row_of, comparison_form, forms_of}
use Rattle.semantic_tables.specs.Hazards.{hazard_of}
use Rattle.semantic_tables.specs.Walk.{AreKept, Adds, ended, normal_behind, all_told, is_hazards, rows_told, bad_hazards, hazards_told}
use Rattle.semantic_tables.specs.declared.exploration.Query.{Query}
use Rattle.semantic_tables.specs.declared.walking.Found.{Found}

kept_none : (Out : RegionPath → Type 0) (all : List RegionPath) → ((r : RegionPath) → Out r) → AreKept Out all []
kept_none Out [] h = refl
kept_none Out (r ∷ all) h = inl (h r, kept_none Out all h)

kept_both : (Out : RegionPath → Type 0) (a b k l : List RegionPath) → AreKept Out a k → AreKept Out b l → AreKept Out (a ++ b) (k ++ l)
kept_both Out [] b k l h g = subst (λ m. AreKept Out b (m ++ l)) (sym h) g
kept_both Out (r ∷ a) b k l (inl h) g = inl (h.0, kept_both Out a b k l h.1 g)
kept_both Out (r ∷ a) b k l (inr h) g = inr (h.0, h.1 ++ l, ap (λ m. m ++ l) h.2, kept_both Out a b h.1 l h.3 g)

-- the same paths behind a beginning
kept_map : (In Out : RegionPath → Type 0) (f : RegionPath → RegionPath) (all k : List RegionPath) → ((r : RegionPath) → In r → Out (f r)) → ((r : RegionPath) → Out (f r) → In r)
    → AreKept In all k → AreKept Out (map f all) (map f k)
kept_map In Out f [] k to from h = ap (map f) h
kept_map In Out f (r ∷ all) k to from (inl h) = inl (to r h.0, kept_map In Out f all k to from h.1)
kept_map In Out f (r ∷ all) k to from (inr h) = inr ((λ o. h.0 (from r o)), map f h.1, ap (map f) h.2, kept_map In Out f all h.1 to from h.3)

-- a kept path is one of the list, and not left out
kept_in : (Out : RegionPath → Type 0) (all k : List RegionPath) → AreKept Out all k → (r : RegionPath) → IsIn k r → IsIn all r × (Out r → ⊥)
kept_in Out [] k h r i = absurd (subst (λ m. IsIn m r) h i)
kept_in Out (q ∷ all) k (inl h) r i = let t = kept_in Out all k h.1 r i in (inr t.0, t.1)
kept_in Out (q ∷ all) k (inr h) r i = by_place (λ j. kept_in Out all h.1 h.3 r j) (subst (λ m. IsIn m r) h.2 i)
  where
    by_place : (IsIn h.1 r → IsIn all r × (Out r → ⊥)) → IsIn (q ∷ h.1) r → IsIn (q ∷ all) r × (Out r → ⊥)
    by_place later (inl e) = (inl e, λ o. h.0 (subst Out (sym e) o))
    by_place later (inr j) = let t = later j in (inr t.0, t.1)

kept_has : (Out : RegionPath → Type 0) (all k : List RegionPath) → AreKept Out all k → (r : RegionPath) → IsIn all r → (Out r → ⊥) → IsIn k r
kept_has Out [] k h r i o = absurd i
kept_has Out (q ∷ all) k (inl h) r (inl e) o = absurd (o (subst Out e h.0))
kept_has Out (q ∷ all) k (inl h) r (inr i) o = kept_has Out all k h.1 r i o
kept_has Out (q ∷ all) k (inr h) r (inl e) o = subst (λ m. IsIn m r) (sym h.2) (inl e)
kept_has Out (q ∷ all) k (inr h) r (inr i) o = subst (λ m. IsIn m r) (sym h.2) (inr (kept_has Out all h.1 h.3 r i o))

kept_ascend : (Out : RegionPath → Type 0) (all k : List RegionPath) → AreKept Out all k → Ascend all → Ascend k
kept_ascend Out [] k h a = subst Ascend (sym h) tt
kept_ascend Out (q ∷ all) k (inl h) a = kept_ascend Out all k h.1 a.1
kept_ascend Out (q ∷ all) k (inr h) a = subst Ascend (sym h.2) ((λ r i. a.0 r (kept_in Out all h.1 h.3 r i).0), kept_ascend Out all h.1 h.3 a.1)

-- what is kept of listed paths is listed
pub kept_listed : (P Out : RegionPath → Type 0) (all k : List RegionPath) → ListsPaths P all → AreKept Out all k → ListsPaths (λ r. P r × (Out r → ⊥)) k
kept_listed P Out all k l h = record {
  ordered = kept_ascend Out all k h l.ordered;
  each = λ r. ((λ i. let t = kept_in Out all k h r i in ((l.each r).0 t.0, t.1)), (λ p. kept_has Out all k h r ((l.each r).1 p.0) p.1));
}

-- where nothing is left out all paths are kept
pub kept_all : (all k : List RegionPath) → AreKept (λ r. ⊥) all k → k ≡ all
kept_all [] k h = h
kept_all (r ∷ all) k (inl h) = absurd h.0
kept_all (r ∷ all) k (inr h) = h.2 ∙ ap (λ m. r ∷ m) (kept_all all h.1 h.3)

-- the same rows of paths behind a beginning
rows_same : (f : RegionPath → RegionPath) (g h : RegionPath → NormalRow) (k : List RegionPath) → ((r : RegionPath) → g (f r) ≡ h r) → map g (map f k) ≡ map h k
rows_same f g h [] e = refl
rows_same f g h (r ∷ k) e = ap (λ n. n ∷ map g (map f k)) (e r) ∙ ap (λ m. h r ∷ m) (rows_same f g h k e)

told_both : {A : Type 0} (told : NormalRow → List A) (a b : List NormalRow) → all_told told (a ++ b) ≡ all_told told a ++ all_told told b
told_both told [] b = refl
told_both told (n ∷ a) b = ap (λ ns. told n ++ ns) (told_both told a b) ∙ sym (append_assoc (told n) (all_told told a) (all_told told b))

-- what is told of one path after what is told of others
then_told : {A : Type 0} (told : NormalRow → List A) (f : RegionPath → NormalRow) (k l : List RegionPath) (old mid new : List A) → mid ≡ old ++ all_told told (map f k)
    → new ≡ mid ++ all_told told (map f l) → new ≡ old ++ all_told told (map f (k ++ l))
then_told told f k l old mid new g h =
    h ∙ ap (λ m. m ++ all_told told (map f l)) g ∙ append_assoc old (all_told told (map f k)) (all_told told (map f l))
    ∙ ap (λ m. old ++ m) (sym (told_both told (map f k) (map f l))) ∙ ap (λ m. old ++ all_told told m) (sym (map-append f k l))

module _ (Out : List LiteralForm → Type 0) (query : Query) (path : List Bool) (fs : List LiteralForm) where
  -- nothing is added behind literals that are left out whatever follows
  pub adds_none : (all : List RegionPath) (found : Found) → ((more : List LiteralForm) → Out (fs ++ more)) → Adds Out query path fs all found found
  adds_none all found h = record {
    kept = [];
    each = kept_none (λ r. Out (fs ++ forms_of r)) all (λ r. h (forms_of r));
    rows = sym (append-nil (map row_of found.rows));
    hazards = sym (append-nil (map hazard_of found.hazards));
  }

  -- a path that ends here
  pub adds_stop : (end : Stop) (terms : List Tree) (old new : Found) → (Out fs → ⊥) → map row_of new.rows ≡ map row_of old.rows ++ rows_told query (ended path fs end terms)
      → map hazard_of new.hazards ≡ map hazard_of old.hazards ++ hazards_told query (ended path fs end terms) → Adds Out query path fs (paths_down (stops end) terms) old new
  adds_stop end terms old new some h k = record {
    kept = paths_down (stops end) terms;
    each = inr ((λ o. some (subst Out (append-nil fs) o)), [], refl, refl);
    rows = h ∙ ap (λ ns. map row_of old.rows ++ ns) (one_told (rows_told query));
    hazards = k ∙ ap (λ ns. map hazard_of old.hazards ++ ns) (one_told (hazards_told query));
  }
    where
      last : NormalRow
      last = record { path = path ++ []; literals = fs ++ []; stop = end; values = map norm terms }

      same : last ≡ ended path fs end terms
      same = rw (append-nil path, append-nil fs) refl

      one_told : {A : Type 0} (told : NormalRow → List A) → told (ended path fs end terms) ≡ told last ++ []
      one_told told = ap told (sym same) ∙ sym (append-nil (told last))

  pub adds_both : (a b : List RegionPath) (old mid new : Found) → Adds Out query path fs a old mid → Adds Out query path fs b mid new → Adds Out query path fs (a ++ b) old new
  adds_both a b old mid new g h = record {
    kept = g.kept ++ h.kept;
    each = kept_both (λ r. Out (fs ++ forms_of r)) a b g.kept h.kept g.each h.each;
    rows = then_told (rows_told query) (normal_behind path fs) g.kept h.kept (map row_of old.rows) (map row_of mid.rows) (map row_of new.rows) g.rows h.rows;
    hazards = then_told (hazards_told query) (normal_behind path fs) g.kept h.kept (map hazard_of old.hazards) (map hazard_of mid.hazards) (map hazard_of new.hazards) g.hazards h.hazards;
  }

  -- the paths on one side of a decision
  pub adds_side : (b : Bool) (c : Comparison) (all : List RegionPath) (old new : Found) → Adds Out query (path ++ b ∷ []) (fs ++ comparison_form c ∷ []) all old new
      → Adds Out query path fs (map (begun (b ∷ []) (c ∷ []) []) all) old new
  adds_side b c all old new h = record {
    kept = map (begun (b ∷ []) (c ∷ []) []) h.kept;
    each = kept_map (λ r. Out ((fs ++ comparison_form c ∷ []) ++ forms_of r)) (λ r. Out (fs ++ forms_of r)) (begun (b ∷ []) (c ∷ []) []) all h.kept
        (λ r o. subst Out (longer r) o) (λ r o. subst Out (sym (longer r)) o) h.each;
    rows = h.rows ∙ ap (λ m. map row_of old.rows ++ all_told (rows_told query) m) rows;
    hazards = h.hazards ∙ ap (λ m. map hazard_of old.hazards ++ all_told (hazards_told query) m) rows;
  }
    where
      longer : (r : RegionPath) → (fs ++ comparison_form c ∷ []) ++ forms_of r ≡ fs ++ comparison_form c ∷ forms_of r
      longer r = append_assoc fs (comparison_form c ∷ []) (forms_of r)

      same : (r : RegionPath) → normal_behind path fs (begun (b ∷ []) (c ∷ []) [] r) ≡ normal_behind (path ++ b ∷ []) (fs ++ comparison_form c ∷ []) r
      same r = rw (append_assoc path (b ∷ []) r.row.path, append_assoc fs (comparison_form c ∷ []) (forms_of r)) refl

      rows : map (normal_behind (path ++ b ∷ []) (fs ++ comparison_form c ∷ [])) h.kept ≡ map (normal_behind path fs) (map (begun (b ∷ []) (c ∷ []) []) h.kept)
      rows = sym (rows_same (begun (b ∷ []) (c ∷ []) []) (normal_behind path fs) (normal_behind (path ++ b ∷ []) (fs ++ comparison_form c ∷ [])) h.kept same)

  -- behind an assignment
  pub adds_behind : (assigned : List Tree) (all : List RegionPath) (old new : Found) → Adds Out query path fs all old new → Adds Out query path fs (map (begun [] [] assigned) all) old new
  adds_behind assigned all old new h = record {
    kept = map (begun [] [] assigned) h.kept;
    each = kept_map (λ r. Out (fs ++ forms_of r)) (λ r. Out (fs ++ forms_of r)) (begun [] [] assigned) all h.kept (λ r o. o) (λ r o. o) h.each;
    rows = h.rows ∙ ap (λ m. map row_of old.rows ++ all_told (rows_told query) m) rows;
    hazards = h.hazards ∙ ap (λ m. map hazard_of old.hazards ++ all_told (hazards_told query) m) rows;
  }
    where
      rows : map (normal_behind path fs) h.kept ≡ map (normal_behind path fs) (map (begun [] [] assigned) h.kept)
      rows = sym (rows_same (begun [] [] assigned) (normal_behind path fs) (normal_behind path fs) h.kept (λ r. refl))

-- a path that ends here, where hazards are asked for
pub hazard_adds : (Out : List LiteralForm → Type 0) (query : Query) (path : List Bool) (fs : List LiteralForm) (end : Stop) (terms : List Tree) (old new : Found) → is_hazards query ≡ true → (Out fs → ⊥)
    → new.rows ≡ old.rows → map hazard_of new.hazards ≡ map hazard_of old.hazards ++ bad_hazards (ended path fs end []) → Adds Out query path fs (paths_down (stops end) terms) old new
hazard_adds Out query path fs end terms old new q some r h =
    adds_stop Out query path fs end terms old new some
    (ap (map row_of) r ∙ sym (append-nil (map row_of old.rows)) ∙ ap (λ (b : Bool). map row_of old.rows ++ (if b then [] else ended path fs end terms ∷ [])) (sym q))
    (h ∙ ap (λ (b : Bool). map hazard_of old.hazards ++ (if b then bad_hazards (ended path fs end terms) else [])) (sym q))

-- and where rows are
pub row_adds : (Out : List LiteralForm → Type 0) (query : Query) (path : List Bool) (fs : List LiteralForm) (end : Stop) (terms : List Tree) (old new : Found) → is_hazards query ≡ false → (Out fs → ⊥)
    → map row_of new.rows ≡ map row_of old.rows ++ ended path fs end terms ∷ [] → new.hazards ≡ old.hazards → Adds Out query path fs (paths_down (stops end) terms) old new
row_adds Out query path fs end terms old new q some r h =
    adds_stop Out query path fs end terms old new some
    (r ∙ ap (λ (b : Bool). map row_of old.rows ++ (if b then [] else ended path fs end terms ∷ [])) (sym q))
    (ap (map hazard_of) h ∙ sym (append-nil (map hazard_of old.hazards)) ∙ ap (λ (b : Bool). map hazard_of old.hazards ++ (if b then bad_hazards (ended path fs end terms) else [])) (sym q))

-- both sides of a decision
pub adds_fork : (Out : List LiteralForm → Type 0) (query : Query) (path : List Bool) (fs : List LiteralForm) (c : Comparison) (met unmet : PathTree) (terms : List Tree) (old mid new : Found)
    → Adds Out query (path ++ true ∷ []) (fs ++ comparison_form (comparison_under terms c) ∷ []) (paths_down met terms) old mid
    → Adds Out query (path ++ false ∷ []) (fs ++ comparison_form (comparison_under terms (denied c)) ∷ []) (paths_down unmet terms) mid new
    → Adds Out query path fs (paths_down (fork c met unmet) terms) old new
adds_fork Out query path fs c met unmet terms old mid new g h =
    adds_both Out query path fs (map (begun (true ∷ []) (comparison_under terms c ∷ []) []) (paths_down met terms))
    (map (begun (false ∷ []) (comparison_under terms (denied c) ∷ []) []) (paths_down unmet terms)) old mid new
    (adds_side Out query path fs true (comparison_under terms c) (paths_down met terms) old mid g)
    (adds_side Out query path fs false (comparison_under terms (denied c)) (paths_down unmet terms) mid new h)

pub adds_change : (Out : List LiteralForm → Type 0) (query : Query) (path : List Bool) (fs : List LiteralForm) (c : Option Change) (rest : PathTree) (terms : List Tree) (old new : Found)
    → Adds Out query path fs (paths_down rest (changed c terms)) old new → Adds Out query path fs (paths_down (change c rest) terms) old new
adds_change Out query path fs c rest terms old new h = adds_behind Out query path fs (assigned_under terms c) (paths_down rest (changed c terms)) old new h
