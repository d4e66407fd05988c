-- In a text in order without a fault, what is built of the conditions and assignments of a procedure is sound over its places.
use Rattle.std.proofs.Common.{◌≡◌, ℕ, ap, subst, refl, true, List}
use Rattle.std.specs.Prelude.{Option, Some, None, slice_get}
use Rattle.il_core.specs.Checked.{IsSoundCondition, IsSoundAssignment}
use Rattle.il_core.specs.Statement.{Statement, Placed, pre, post, assign, if_true, exit_when, assert}
use Rattle.il_core.specs.Tree.{Tree}
use Rattle.il_core.specs.declared.line.Place.{Place}
use Rattle.il_syntax.specs.Order.{part_of, IsInOrder}
use Rattle.il_types.specs.declared.rules.Rule.TheVariants as rule
use Rattle.il_types.specs.Built.{assigned_place, built}
use Rattle.il_types.specs.Names.{Setting, front_of, counts_at}
use Rattle.il_types.specs.Rules.{broken, Answers}
use Rattle.il_built.specs.CheckedText.{places_of}
use Rattle.il_built.specs.Holding.{setting_at, Holds}
use Rattle.il_built.proofs.BuiltFits.{IsKept, keeps, reads_of, pre_fits, post_fits, if_true_fits, exit_when_fits, assert_fits, assign_fits}
use Rattle.il_built.proofs.BuiltRanges.{nowhere_at}
use Rattle.il_built.proofs.BuiltSorts.{Reads, none_some}
use Rattle.il_built.proofs.PlacesHold.{places_hold}
use Rattle.il_built.proofs.VariablesFirst.{is_behind, owned, all_before}
use Rattle.il_built.proofs.WithoutFault.{keeps_rules}

-- the condition of a statement that has one
abbrev pub condition_in : Statement → Option Tree
condition_in (pre e) = Some e
condition_in (post e) = Some e
condition_in (if_true e) = Some e
condition_in (exit_when e) = Some e
condition_in (assert e) = Some e
condition_in _ = None

some_is : (e d : Tree) → Some e ≡ Some d → e ≡ d
some_is e d h = cc

-- a statement with a condition stands behind the variables
condition_behind : (x : Statement) (e : Tree) → condition_in x ≡ Some e → is_behind (part_of x) ≡ true
condition_behind (pre d) e h = refl
condition_behind (post d) e h = refl
condition_behind (if_true d) e h = refl
condition_behind (exit_when d) e h = refl
condition_behind (assert d) e h = refl
condition_behind _ e h = none_some e h

-- the condition of a statement that keeps the rules is sound
condition_fits : (s : Setting) (places : List Place) (x : Statement) (e : Tree) → Reads s places → IsKept s x → condition_in x ≡ Some e → IsSoundCondition places (built s e)
condition_fits s places (pre d) e r k h = subst (λ t. IsSoundCondition places (built s t)) (some_is d e h) (pre_fits s places r d k)
condition_fits s places (post d) e r k h = subst (λ t. IsSoundCondition places (built s t)) (some_is d e h) (post_fits s places r d k)
condition_fits s places (if_true d) e r k h = subst (λ t. IsSoundCondition places (built s t)) (some_is d e h) (if_true_fits s places r d k)
condition_fits s places (exit_when d) e r k h = subst (λ t. IsSoundCondition places (built s t)) (some_is d e h) (exit_when_fits s places r d k)
condition_fits s places (assert d) e r k h = subst (λ t. IsSoundCondition places (built s t)) (some_is d e h) (assert_fits s places r d k)
condition_fits s places _ e r k h = none_some e h

-- the places of a procedure are read at a statement behind its variables
reads_places : (stmts : List Placed) (owner i : ℕ) (x : Placed) → IsInOrder stmts → slice_get stmts i ≡ Some x → (counts_at stmts i).procedures ≡ owner
    → is_behind (part_of x.says) ≡ true → Reads (setting_at stmts i) (places_of stmts owner)
reads_places stmts owner i x o there own h =
    let c = counts_at stmts i in
    let holds : Holds (places_of stmts c.procedures) stmts c.procedures c.variables =
    subst (Holds (places_of stmts c.procedures) stmts c.procedures) (all_before stmts i x o there h) (places_hold stmts c.procedures) in
    subst (λ k. Reads (setting_at stmts i) (places_of stmts k)) own (reads_of stmts (places_of stmts c.procedures) i (owned stmts o) holds)

-- a statement of a text without a fault keeps the rules of its expression
kept_at : (stmts : List Placed) (i : ℕ) (x : Placed) → Answers stmts None → slice_get stmts i ≡ Some x → IsKept (setting_at stmts i) x.says
kept_at stmts i x a there =
    let k = keeps_rules stmts a in
    let table = (front_of stmts).table in
    keeps stmts i x.says (nowhere_at (broken rule.Typed table stmts) stmts i x k.typed there) (nowhere_at (broken rule.Allowed table stmts) stmts i x k.allowed there)
    (nowhere_at (broken rule.Narrow table stmts) stmts i x k.narrow there)

-- each condition of a procedure is sound over its places
pub condition_sound : (stmts : List Placed) (owner i : ℕ) (x : Placed) (e : Tree) → IsInOrder stmts → Answers stmts None → slice_get stmts i ≡ Some x
    → (counts_at stmts i).procedures ≡ owner → condition_in x.says ≡ Some e → IsSoundCondition (places_of stmts owner) (built (setting_at stmts i) e)
condition_sound stmts owner i x e o a there own h =
    let r = reads_places stmts owner i x o there own (condition_behind x.says e h) in
    condition_fits (setting_at stmts i) (places_of stmts owner) x.says e r (kept_at stmts i x a there) h

-- each assignment of a procedure is sound over its places
pub assignment_sound : (stmts : List Placed) (owner i : ℕ) (x : Placed) (name : List ℕ) (e : Tree) → IsInOrder stmts → Answers stmts None → slice_get stmts i ≡ Some x
    → (counts_at stmts i).procedures ≡ owner → x.says ≡ assign name e
    → IsSoundAssignment (places_of stmts owner) (assigned_place (setting_at stmts i) name) (built (setting_at stmts i) e)
assignment_sound stmts owner i x name e o a there own says =
    let s = setting_at stmts i in
    let behind : is_behind (part_of x.says) ≡ true = ap (λ (y : Statement). is_behind (part_of y)) says in
    let kept : IsKept s (assign name e) = subst (IsKept s) says (kept_at stmts i x a there) in
    assign_fits s (places_of stmts owner) (reads_places stmts owner i x o there own behind) name e kept
