-- The terms of the places and the sides of literals stand while the store grows.
use Rattle.std.proofs.Common.{◌≡◌, inl, inr, refl, sym, ap, ◌∙◌, subst, ℕ, zero, suc, ◌+◌, ◌<◌, Some, List, [], ◌∷◌, ◌++◌, map, length, slice_get, arith}
use Rattle.std.specs.Prelude.{Bool, slice_set, All, IfOk, Result, Ok, Err}
use Rattle.std.proofs.lemmas.List.{map-set, length-map, length-set, set-set, set-get_or, map-append}
use Rattle.std.proofs.lemmas.Option.{get_or_from_slice_get, none-some}
use Rattle.sym_terms.specs.Tree.{Tree, variable}
use Rattle.sym_terms.specs.Substitution.{HasPlacesBelow, substituted}
use Rattle.sym_terms.specs.Comparison.{Comparison, comparison_under, ComparesPlacesBelow}
use Rattle.sym_terms.specs.Grown.{Keeps}
use Rattle.sym_terms.specs.Identity.{own_values}
use Rattle.sym_terms.specs.Nodes.{tree_at, terms_of, AreWithin}
use Rattle.sym_terms.specs.Places.{HavePlacesBelow}
use Rattle.sym_terms.specs.declared.node.TermId.{TermId}
use Rattle.sym_terms.specs.declared.node.TermNode.{TermNode}
use Rattle.sym_terms.proofs.Grown.{keeps_le}
use Rattle.sym_terms.proofs.Terms.{tree_kept, within_kept, terms_kept}
use Rattle.sym_terms.proofs.Composed.{own_below, length-own_values}
use Rattle.sym_simplify.specs.Form.{Form}
use Rattle.sym_simplify.specs.Norm.{norm}
use Rattle.sym_simplify.specs.Literal.{LiteralForm, literal_form_of}
use Rattle.sym_simplify.specs.Easy.{IsKept}
use Rattle.sym_simplify.specs.Places.{HasLiteralPlacesBelow}
use Rattle.sym_simplify.specs.declared.normal.LitForm.{LitForm}
use Rattle.sym_simplify.proofs.KeptPlaces.{literal-places}
use Rattle.path_inputs.proofs.Elements.{members-all}
use Rattle.path_inputs.proofs.Members.{in-place}
use Rattle.il_core.specs.LineGraph.{IsIn}
use Rattle.il_core.specs.declared.line.Stop.{Stop}
use Rattle.semantic_tables.specs.Row.{NormalRow, comparison_form}
use Rattle.semantic_tables.specs.Walk.{IsSmall, AreSmall, ComparesSmall, IsEnvironment, IsCompared, AreSides, StandsFor, AreForms, comparison_at}
use Rattle.semantic_tables.specs.declared.prefix.Sides.{Sides}

pub env_kept : (n : ℕ) (old new : List TermNode) (env : List TermId) → Keeps old new → IsEnvironment n old env → IsEnvironment n new env
env_kept n old new env k e =
    let same = terms_kept old new env k e.within in
    record { within = within_kept old new env k e.within; size = e.size; places = subst (HavePlacesBelow n) (sym same) e.places; small = subst AreSmall (sym same) e.small }

places_set : (n : ℕ) (ts : List Tree) (k : ℕ) (t : Tree) → HavePlacesBelow n ts → HasPlacesBelow n t → HavePlacesBelow n (slice_set ts k t)
places_set n [] k t h p = tt
places_set n (u ∷ ts) zero t h p = (p, h.1)
places_set n (u ∷ ts) (suc k) t h p = (h.0, places_set n ts k t h.1 p)

small_set : (ts : List Tree) (k : ℕ) (t : Tree) → AreSmall ts → IsSmall t → AreSmall (slice_set ts k t)
small_set [] k t h p = tt
small_set (u ∷ ts) zero t h p = (p, h.1)
small_set (u ∷ ts) (suc k) t h p = (h.0, small_set ts k t h.1 p)

within_set : (nodes : List TermNode) (env : List TermId) (k : ℕ) (id : TermId) → AreWithin nodes env → id.index < length nodes → AreWithin nodes (slice_set env k id)
within_set nodes env k id w l = record { each = by_place env k w.each }
  where
    by_place : (xs : List TermId) (k : ℕ) → ((i : ℕ) (x : TermId) → slice_get xs i ≡ Some x → x.index < length nodes) → (i : ℕ) (x : TermId) → slice_get (slice_set xs k id) i ≡ Some x
        → x.index < length nodes
    by_place [] k h i x e = h i x e
    by_place (y ∷ xs) zero h zero x e = let same : id ≡ x = cc in subst (λ (z : TermId). z.index < length nodes) same l
    by_place (y ∷ xs) zero h (suc i) x e = h (suc i) x e
    by_place (y ∷ xs) (suc k) h zero x e = h zero x e
    by_place (y ∷ xs) (suc k) h (suc i) x e = by_place xs k (λ j z f. h (suc j) z f) i x e

-- the terms behind an assignment
pub env_set : (n : ℕ) (nodes : List TermNode) (env : List TermId) (k : ℕ) (id : TermId) (t : Tree) → IsEnvironment n nodes env → id.index < length nodes → tree_at nodes id ≡ t
    → HasPlacesBelow n t → IsSmall t → IsEnvironment n nodes (slice_set env k id) × (terms_of nodes (slice_set env k id) ≡ slice_set (terms_of nodes env) k t)
env_set n nodes env k id t e l same p s =
    let terms : terms_of nodes (slice_set env k id) ≡ slice_set (terms_of nodes env) k t = map-set (tree_at nodes) env k id ∙ ap (slice_set (terms_of nodes env) k) same in (
      record {
        within = within_set nodes env k id e.within l;
        size = length-set env k id ∙ e.size;
        places = subst (HavePlacesBelow n) (sym terms) (places_set n (terms_of nodes env) k t e.places p);
        small = subst AreSmall (sym terms) (small_set (terms_of nodes env) k t e.small s);
      },
      terms,
    )

-- a number that is put back
pub put_back : (env : List TermId) (place : ℕ) (id was : TermId) → slice_get env place ≡ Some was → slice_set (slice_set env place id) place was ≡ env
put_back env place id was e =
    set-set env place id was ∙ ap (slice_set env place) (sym (get_or_from_slice_get env place was was e)) ∙ set-get_or env place was

comparison_kept : (old new : List TermNode) (s : Sides) → Keeps old new → IsCompared old s → comparison_at new s ≡ comparison_at old s
comparison_kept old new s k c = rw (tree_kept old new s.left k c.left, tree_kept old new s.right k c.right) refl

pub sides_kept : (n : ℕ) (old new : List TermNode) (s : Sides) → Keeps old new → AreSides n old s → AreSides n new s × (comparison_at new s ≡ comparison_at old s)
sides_kept n old new s k a =
    let same = comparison_kept old new s k a.compared in
    let far = keeps_le old new k in (
      record {
        compared = record { left = omega (arith, a.compared.left, far); right = omega (arith, a.compared.right, far); small = subst ComparesSmall (sym same) a.compared.small };
        places = subst (ComparesPlacesBelow n) (sym same) a.places;
      },
      same,
    )

pub forms_kept : (n : ℕ) (old new : List TermNode) (sides : List Sides) (fs : List LiteralForm) → Keeps old new → AreForms n old sides fs → AreForms n new sides fs
forms_kept n old new [] [] k h = tt
forms_kept n old new [] (f ∷ fs) k h = absurd h
forms_kept n old new (s ∷ sides) [] k h = absurd h
forms_kept n old new (s ∷ sides) (f ∷ fs) k h =
    let t = sides_kept n old new s k h.0.sides in
    (record { sides = t.0; form = h.0.form ∙ ap comparison_form (sym t.1); kept = h.0.kept }, forms_kept n old new sides fs k h.1)

pub forms_more : (n : ℕ) (nodes : List TermNode) (sides : List Sides) (fs : List LiteralForm) (s : Sides) (f : LiteralForm) → AreForms n nodes sides fs → StandsFor n nodes s f
    → AreForms n nodes (sides ++ s ∷ []) (fs ++ f ∷ [])
forms_more n nodes [] [] s f h k = (k, tt)
forms_more n nodes [] (g ∷ fs) s f h k = absurd h
forms_more n nodes (r ∷ sides) [] s f h k = absurd h
forms_more n nodes (r ∷ sides) (g ∷ fs) s f h k = (h.0, forms_more n nodes sides fs s f h.1 k)

-- the numbered sides have the forms of the literals
pub forms_same : (n : ℕ) (nodes : List TermNode) (sides : List Sides) (fs : List LiteralForm) → AreForms n nodes sides fs → map (λ s. comparison_form (comparison_at nodes s)) sides ≡ fs
forms_same n nodes [] [] h = refl
forms_same n nodes [] (f ∷ fs) h = absurd h
forms_same n nodes (s ∷ sides) [] h = absurd h
forms_same n nodes (s ∷ sides) (f ∷ fs) h = rw (sym h.0.form, forms_same n nodes sides fs h.1) refl

pub sides_compared : (n : ℕ) (nodes : List TermNode) (sides : List Sides) (fs : List LiteralForm) → AreForms n nodes sides fs → (s : Sides) → IsIn sides s → IsCompared nodes s
sides_compared n nodes [] fs h s i = absurd i
sides_compared n nodes (r ∷ sides) [] h s i = absurd h
sides_compared n nodes (r ∷ sides) (f ∷ fs) h s (inl e) = subst (IsCompared nodes) e h.0.sides.compared
sides_compared n nodes (r ∷ sides) (f ∷ fs) h s (inr i) = sides_compared n nodes sides fs h.1 s i

pub all_compared : (n : ℕ) (nodes : List TermNode) (sides : List Sides) (fs : List LiteralForm) → AreForms n nodes sides fs → All (IsCompared nodes) sides
all_compared n nodes sides fs h = members-all (IsCompared nodes) sides (sides_compared n nodes sides fs h)

form_below : (n : ℕ) (nodes : List TermNode) (s : Sides) (f : LiteralForm) → StandsFor n nodes s f → HasLiteralPlacesBelow n f
form_below n nodes s f h =
    subst (HasLiteralPlacesBelow n) (sym h.form) (literal-places n s.relation (tree_at nodes s.left) (tree_at nodes s.right) h.sides.places.0 h.sides.places.1)

member_sound : (n : ℕ) (nodes : List TermNode) (sides : List Sides) (ls : List LitForm) → AreForms n nodes sides (map literal_form_of ls) → (l : LitForm) → IsIn ls l
    → HasLiteralPlacesBelow n (literal_form_of l) × IsKept (literal_form_of l)
member_sound n nodes sides [] h l i = absurd i
member_sound n nodes [] (m ∷ ls) h l i = absurd h
member_sound n nodes (s ∷ sides) (m ∷ ls) h l (inl e) =
    subst (λ (x : LitForm). HasLiteralPlacesBelow n (literal_form_of x) × IsKept (literal_form_of x)) e (form_below n nodes s (literal_form_of m) h.0, h.0.kept)
member_sound n nodes (s ∷ sides) (m ∷ ls) h l (inr i) = member_sound n nodes sides ls h.1 l i

-- the literals are such as a least input is looked for
pub all_below : (n : ℕ) (nodes : List TermNode) (sides : List Sides) (ls : List LitForm) → AreForms n nodes sides (map literal_form_of ls)
    → All (λ (l : LitForm). HasLiteralPlacesBelow n (literal_form_of l)) ls
all_below n nodes sides ls h = members-all (λ (l : LitForm). HasLiteralPlacesBelow n (literal_form_of l)) ls (λ l i. (member_sound n nodes sides ls h l i).0)

pub all_kept : (n : ℕ) (nodes : List TermNode) (sides : List Sides) (ls : List LitForm) → AreForms n nodes sides (map literal_form_of ls) → All (λ (l : LitForm). IsKept (literal_form_of l)) ls
all_kept n nodes sides ls h = members-all (λ (l : LitForm). IsKept (literal_form_of l)) ls (λ l i. (member_sound n nodes sides ls h l i).1)

-- what an answer is, where there is one
pub ok_map : {A E : Type 0} (r : Result A E) (P Q : A → Type 0) → IfOk r P → ((x : A) → P x → Q x) → IfOk r Q
ok_map (Ok x) P Q h f = f x h
ok_map (Err e) P Q h f = tt

-- the term of a number put under an environment, over the store before
pub under_term : (old mid new : List TermNode) (env : List TermId) (id r : TermId) (t : Tree) → Keeps old mid → AreWithin old env → tree_at mid id ≡ t
    → tree_at new r ≡ substituted (terms_of mid env) (tree_at mid id) → tree_at new r ≡ substituted (terms_of old env) t
under_term old mid new env id r t k w e f = f ∙ ap (λ (ts : List Tree). substituted ts (tree_at mid id)) (terms_kept old mid env k w) ∙ ap (substituted (terms_of old env)) e

-- the sides of a comparison, put one after the other
pub under_sides : (old mid new : List TermNode) (env : List TermId) (l r : TermId) (c : Comparison) → Keeps old mid → Keeps mid new → AreWithin old env → l.index < length mid
    → tree_at mid l ≡ substituted (terms_of old env) c.left → tree_at new r ≡ substituted (terms_of mid env) c.right
    → comparison_at new (let s : Sides = record { left = l; relation = c.relation; right = r } in s) ≡ comparison_under (terms_of old env) c
under_sides old mid new env l r c k m w i e f =
    let left : tree_at new l ≡ substituted (terms_of old env) c.left = tree_kept mid new l m i ∙ e in
    let right : tree_at new r ≡ substituted (terms_of old env) c.right = f ∙ ap (λ (ts : List Tree). substituted ts c.right) (terms_kept old mid env k w) in
    rw (left, right) refl

-- one more place by itself
pub own_more : (old new : List TermNode) (env : List TermId) (n : ℕ) (id : TermId) → Keeps old new → AreWithin old env → terms_of old env ≡ own_values n → tree_at new id ≡ variable n
    → terms_of new (env ++ id ∷ []) ≡ own_values (n + 1)
own_more old new env n id k w e f =
    let next : n + 1 ≡ suc n = omega arith in
    map-append (tree_at new) env (id ∷ []) ∙ ap (λ (ts : List Tree). ts ++ tree_at new id ∷ []) (terms_kept old new env k w ∙ e)
    ∙ ap (λ (t : Tree). own_values n ++ t ∷ []) f ∙ ap own_values (sym next)

pub within_more : (old new : List TermNode) (env : List TermId) (id : TermId) → Keeps old new → AreWithin old env → id.index < length new → AreWithin new (env ++ id ∷ [])
within_more old new env id k w l = record { each = by_place env (within_kept old new env k w).each }
  where
    by_place : (xs : List TermId) → ((i : ℕ) (x : TermId) → slice_get xs i ≡ Some x → x.index < length new) → (i : ℕ) (x : TermId) → slice_get (xs ++ id ∷ []) i ≡ Some x → x.index < length new
    by_place [] h zero x e = let same : id ≡ x = cc in subst (λ (z : TermId). z.index < length new) same l
    by_place [] h (suc i) x e = absurd (none-some x e)
    by_place (y ∷ xs) h zero x e = h zero x e
    by_place (y ∷ xs) h (suc i) x e = by_place xs (λ j z f. h (suc j) z f) i x e

small_own : (n : ℕ) → AreSmall (own_values n)
small_own zero = tt
small_own (suc n) = small_push (own_values n) (variable n) (small_own n) (omega arith, omega arith)
  where
    small_push : (ts : List Tree) (t : Tree) → AreSmall ts → IsSmall t → AreSmall (ts ++ t ∷ [])
    small_push [] t h k = (k, tt)
    small_push (u ∷ ts) t h k = (h.0, small_push ts t h.1 k)

-- the places by themselves
pub own_env : (n : ℕ) (nodes : List TermNode) (env : List TermId) → AreWithin nodes env → terms_of nodes env ≡ own_values n → IsEnvironment n nodes env
own_env n nodes env w e = record {
  within = w;
  size = sym (length-map env (tree_at nodes)) ∙ ap length e ∙ length-own_values n;
  places = subst (HavePlacesBelow n) (sym e) (own_below n);
  small = subst AreSmall (sym e) (small_own n);
}

small_term : (ts : List Tree) (t : Tree) → AreSmall ts → IsIn ts t → IsSmall t
small_term [] t h i = absurd i
small_term (u ∷ ts) t h (inl e) = subst IsSmall e h.0
small_term (u ∷ ts) t h (inr i) = small_term ts t h.1 i

in-map : {A B : Type 0} (f : A → B) (xs : List A) (x : A) → IsIn xs x → IsIn (map f xs) (f x)
in-map f [] x h = absurd h
in-map f (y ∷ xs) x (inl e) = inl (ap f e)
in-map f (y ∷ xs) x (inr i) = inr (in-map f xs x i)

-- the number of a place's term
pub env_at : (n : ℕ) (nodes : List TermNode) (env : List TermId) (i : ℕ) (id : TermId) → IsEnvironment n nodes env → slice_get env i ≡ Some id → (id.index < length nodes) × IsSmall (tree_at nodes id)
env_at n nodes env i id e h = (e.within.each i id h, small_term (terms_of nodes env) (tree_at nodes id) e.small (in-map (tree_at nodes) env id (in-place env i id h)))

-- the normal terms of numbered terms
pub normal_terms : (nodes : List TermNode) (env : List TermId) → map (λ id. norm (tree_at nodes id)) env ≡ map norm (terms_of nodes env)
normal_terms nodes [] = refl
normal_terms nodes (id ∷ env) = ap (λ (ns : List Form). norm (tree_at nodes id) ∷ ns) (normal_terms nodes env)

pub normal_same : (p q : List Bool) (f g : List LiteralForm) (s : Stop) (v w : List Form) → p ≡ q → f ≡ g → v ≡ w
    → (let n : NormalRow = record { path = p; literals = f; stop = s; values = v } in n) ≡ (let n : NormalRow = record { path = q; literals = g; stop = s; values = w } in n)
normal_same p q f g s v w a b c = rw (a, b, c) refl
