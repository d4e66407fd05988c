-- The first unknown name of a statement is the first that it uses without a declaration in force.
use Rattle.std.proofs.Common.{◌≡◌, ℕ, zero, suc, ◌<◌, ◌∙◌, sym, ap, subst, refl, inl, inr, Bool, true, false, List, [], ◌∷◌, ◌++◌, arith, if◌then◌else◌}
use Rattle.std.specs.Prelude.{Option, Some, None, is_some, slice_get}
use Rattle.std.specs.Option.{option_or}
use Rattle.std.proofs.lemmas.Bool.{cases_order}
use Rattle.il_core.specs.Statement.{Statement, Placed}
use Rattle.il_core.specs.Statement as st
use Rattle.il_core.specs.Tree.{Tree}
use Rattle.il_core.specs.Tree as tree
use Rattle.il_core.specs.declared.statement.Bound.{Bound}
use Rattle.il_core.specs.declared.statement.Bound.TheVariants as bound
use Rattle.il_core.specs.declared.statement.TypeUse.{TypeUse}
use Rattle.il_core.specs.declared.statement.TypeUse.TheVariants as use_
use Rattle.il_types.specs.Names.{Setting, in_force}
use Rattle.il_types.specs.Unknown.{unknown_name, unknown_bound, unknown_use, unknown_in, unknown}
use Rattle.il_built.specs.Holding.{setting_at}
use Rattle.typing_laws.specs.Declared.{IsKnown}
use Rattle.typing_laws.specs.Used.{names_in, names_in_end, names_in_type, used_names, IsFirstUnknown, AreKnown}
use Rattle.typing_laws.specs.Laws.{UnknownIsRefused}
use Rattle.typing_laws.proofs.Declaring.{ArePlaced}
use Rattle.typing_laws.proofs.Force.{force_found}

-- the first unknown one of some names
abbrev first_unknown : Setting → List (List ℕ) → Option (List ℕ)
first_unknown s [] = None
first_unknown s (name ∷ names) = option_or (unknown_name s name) (first_unknown s names)

-- first in one list, else in the other
in_either : (s : Setting) (a b : List (List ℕ)) → first_unknown s (a ++ b) ≡ option_or (first_unknown s a) (first_unknown s b)
in_either s [] b = refl
in_either s (name ∷ a) b = by (unknown_name s name) (in_either s a b)
  where
    by : (o : Option (List ℕ)) → first_unknown s (a ++ b) ≡ option_or (first_unknown s a) (first_unknown s b)
        → option_or o (first_unknown s (a ++ b)) ≡ option_or (option_or o (first_unknown s a)) (first_unknown s b)
    by None e = e
    by (Some w) e = refl

in_one : (s : Setting) (name : List ℕ) → first_unknown s (name ∷ []) ≡ unknown_name s name
in_one s name = by (unknown_name s name)
  where
    by : (o : Option (List ℕ)) → option_or o None ≡ o
    by None = refl
    by (Some w) = refl

of_both : (s : Setting) (a b : List (List ℕ)) (o p : Option (List ℕ)) → o ≡ first_unknown s a → p ≡ first_unknown s b → option_or o p ≡ first_unknown s (a ++ b)
of_both s a b o p e f = ap (λ x. option_or x p) e ∙ ap (option_or (first_unknown s a)) f ∙ sym (in_either s a b)

in_expression : (s : Setting) (e : Tree) → unknown_in s e ≡ first_unknown s (names_in e)
in_expression s (tree.number n) = refl
in_expression s (tree.word name) = sym (in_one s name)
in_expression s (tree.former name) = sym (in_one s name)
in_expression s (tree.constant b) = refl
in_expression s (tree.minus e) = in_expression s e
in_expression s (tree.opposite e) = in_expression s e
in_expression s (tree.two o a b) = of_both s (names_in a) (names_in b) (unknown_in s a) (unknown_in s b) (in_expression s a) (in_expression s b)

in_end : (s : Setting) (b : Bound) → unknown_bound s b ≡ first_unknown s (names_in_end b)
in_end s (bound.Number n) = refl
in_end s (bound.Constant name) = sym (in_one s name)

in_ends : (s : Setting) (a b : Bound) → option_or (unknown_bound s a) (unknown_bound s b) ≡ first_unknown s (names_in_end a ++ names_in_end b)
in_ends s a b = of_both s (names_in_end a) (names_in_end b) (unknown_bound s a) (unknown_bound s b) (in_end s a) (in_end s b)

in_type : (s : Setting) (type : TypeUse) → unknown_use s type ≡ first_unknown s (names_in_type type)
in_type s use_.Bool = refl
in_type s (use_.Named name) = sym (in_one s name)
in_type s (use_.Range least greatest) = in_ends s least greatest
in_type s (use_.Wrap least greatest) = in_ends s least greatest

in_statement : (s : Setting) (x : Statement) → unknown s x ≡ first_unknown s (used_names x)
in_statement s (st.range_type name least greatest) = in_ends s least greatest
in_statement s (st.wrap_type name least greatest) = in_ends s least greatest
in_statement s (st.variable mode name type) = in_type s type
in_statement s (st.pre e) = in_expression s e
in_statement s (st.post e) = in_expression s e
in_statement s (st.assign name e) = ap (option_or (unknown_name s name)) (in_expression s e)
in_statement s (st.if_true e) = in_expression s e
in_statement s (st.exit_when e) = in_expression s e
in_statement s (st.assert e) = in_expression s e
in_statement s _ = refl

-- what the first unknown name of some is
abbrev Answers : List Placed → ℕ → List (List ℕ) → Option (List ℕ) → Type 0
Answers stmts i names None = AreKnown stmts i names
Answers stmts i names (Some name) = IsFirstUnknown stmts i names name

answers : (stmts : List Placed) (i : ℕ) (names : List (List ℕ)) → ArePlaced stmts → Answers stmts i names (first_unknown (setting_at stmts i) names)
answers stmts i [] placed = λ k name h. absurd (cc)
answers stmts i (name ∷ names) placed = by (is_some (in_force (setting_at stmts i) name)) refl (first_unknown (setting_at stmts i) names) (answers stmts i names placed)
  where
    heads : (other : List ℕ) → Some name ≡ Some other → IsKnown stmts i name → IsKnown stmts i other
    heads other e k = let same : name ≡ other = cc in subst (IsKnown stmts i) same k

    all : IsKnown stmts i name → AreKnown stmts i names → (k : ℕ) (other : List ℕ) → slice_get (name ∷ names) k ≡ Some other → IsKnown stmts i other
    all known a zero other h = heads other h known
    all known a (suc k) other h = a k other h

    before_it : (w : List ℕ) → IsKnown stmts i name → (f : IsFirstUnknown stmts i names w) → (k : ℕ) (other : List ℕ) → k < suc f.index → slice_get (name ∷ names) k ≡ Some other
        → IsKnown stmts i other
    before_it w known f zero other lt h = heads other h known
    before_it w known f (suc k) other lt h = f.first k other (omega arith) h

    by : (t : Bool) → is_some (in_force (setting_at stmts i) name) ≡ t → (o : Option (List ℕ)) → Answers stmts i names o
        → Answers stmts i (name ∷ names) (option_or (if t then None else Some name) o)
    by true e None a = all ((force_found stmts i name placed).known.0 e) a
    by true e (Some w) a =
        record { index = suc a.index; there = a.there; unknown = a.unknown; first = before_it w ((force_found stmts i name placed).known.0 e) a }
    by false e o a = record {
      index = 0;
      there = refl;
      unknown = λ k. let z : true ≡ false = sym ((force_found stmts i name placed).known.1 k) ∙ e in cc;
      first = λ k other lt h. absurd (omega arith);
    }

-- one name is the first
one_first : (stmts : List Placed) (i : ℕ) (names : List (List ℕ)) (name word : List ℕ) → IsFirstUnknown stmts i names word → IsFirstUnknown stmts i names name → word ≡ name
one_first stmts i names name word a b = elim (cases_order a.index b.index) [
  | inl e ↦ let z : Some word ≡ Some name = sym a.there ∙ ap (slice_get names) e ∙ b.there in cc
  | inr (inl lt) ↦ absurd (a.unknown (b.first a.index word lt a.there))
  | inr (inr gt) ↦ absurd (b.unknown (a.first b.index name gt b.there))
]

pub unknown_refused : (stmts : List Placed) (i : ℕ) (x : Statement) → ArePlaced stmts → UnknownIsRefused stmts i x
unknown_refused stmts i x placed = record {
  refused = λ name. (
    λ e. subst (Answers stmts i (used_names x)) (sym (in_statement (setting_at stmts i) x) ∙ e) (answers stmts i (used_names x) placed),
    λ f. tells name f (first_unknown (setting_at stmts i) (used_names x)) (in_statement (setting_at stmts i) x) (answers stmts i (used_names x) placed),
  );
  accepted = (
    λ e. subst (Answers stmts i (used_names x)) (sym (in_statement (setting_at stmts i) x) ∙ e) (answers stmts i (used_names x) placed),
    λ known. none known (first_unknown (setting_at stmts i) (used_names x)) (in_statement (setting_at stmts i) x) (answers stmts i (used_names x) placed),
  );
}
  where
    tells : (name : List ℕ) → IsFirstUnknown stmts i (used_names x) name → (o : Option (List ℕ)) → unknown (setting_at stmts i) x ≡ o → Answers stmts i (used_names x) o
        → unknown (setting_at stmts i) x ≡ Some name
    tells name f None e a = absurd (f.unknown (a f.index name f.there))
    tells name f (Some word) e a = e ∙ ap Some (one_first stmts i (used_names x) name word a f)

    none : AreKnown stmts i (used_names x) → (o : Option (List ℕ)) → unknown (setting_at stmts i) x ≡ o → Answers stmts i (used_names x) o → unknown (setting_at stmts i) x ≡ None
    none known None e a = e
    none known (Some word) e a = absurd (a.unknown (known a.index word a.there))
