-- The bounds of an expression without the limit of 2 ^ 126: the static bounds are these where each part has small ones.
use Rattle.std.proofs.Common.{◌≡◌, ℕ, ◌≤◌, ◌∙◌, sym, ap, subst, refl, Bool, true, false, ◌&&◌, pos, nat_le, arith, if◌then◌else◌}
use Rattle.std.specs.Prelude.{Option, Some, None}
use Rattle.std.specs.Option.{option_and_then, option_map}
use Rattle.il_core.specs.Bounds.{Bounds, AreSmall, only, operator_bounds}
use Rattle.il_core.specs.Tree.{Tree}
use Rattle.il_core.specs.Tree as tree
use Rattle.il_core.specs.declared.operator.BinOp.{BinOp}
use Rattle.il_types.specs.Names.{Setting}
use Rattle.il_types.specs.Narrow.{is_small, if_small, named_bounds, recalled_bounds, opposite_bounds, bounds_of_two, static_bounds}
use Rattle.typing_laws.specs.Parts.{IsPart, whole, of_minus, of_opposite, of_left, of_right}
use Rattle.typing_laws.proofs.Bounding.{small_is}
use Rattle.typing_laws.proofs.ExpressionKinds.{found, both_true}

abbrev pub raw : Setting → Tree → Bounds
raw s (tree.number n) = only (pos n)
raw s (tree.word name) = named_bounds s name
raw s (tree.former name) = recalled_bounds s name
raw s (tree.constant b) = only (pos 0)
raw s (tree.minus e) = opposite_bounds (raw s e)
raw s (tree.opposite e) = only (pos 0)
raw s (tree.two o a b) = operator_bounds o (raw s a) (raw s b)

-- each part has small ones
abbrev pub SmallParts : Setting → Tree → Type 0
SmallParts s (tree.number n) = AreSmall (raw s (tree.number n))
SmallParts s (tree.word name) = AreSmall (raw s (tree.word name))
SmallParts s (tree.former name) = AreSmall (raw s (tree.former name))
SmallParts s (tree.constant b) = AreSmall (only (pos 0))
SmallParts s (tree.minus e) = SmallParts s e × AreSmall (opposite_bounds (raw s e))
SmallParts s (tree.opposite e) = SmallParts s e × AreSmall (only (pos 0))
SmallParts s (tree.two o a b) = SmallParts s a × SmallParts s b × AreSmall (operator_bounds o (raw s a) (raw s b))

at_most : (a b : ℕ) → nat_le a b ≡ true → a ≤ b
at_most a b h = grind arith

some_is : (a b : Bounds) → Some a ≡ Some b → a ≡ b
some_is a b h = cc

is_small_bounds : (b d : Bounds) → if_small b ≡ Some d → (b ≡ d) × AreSmall b
is_small_bounds b d = by (is_small b.low && is_small b.high) refl
  where
    by : (t : Bool) → (is_small b.low && is_small b.high) ≡ t → (if t then Some b else None) ≡ Some d → (b ≡ d) × AreSmall b
    by true h k = let both = both_true _ _ h in (some_is b d k, (at_most _ _ both.0, at_most _ _ both.1))
    by false h k = absurd (cc)

pub zero_small : AreSmall (only (pos 0))
zero_small = (is_small_bounds (only (pos 0)) (only (pos 0)) refl).1

-- the whole is a part
whole_small : (s : Setting) (e : Tree) → SmallParts s e → AreSmall (raw s e)
whole_small s (tree.number n) h = h
whole_small s (tree.word name) h = h
whole_small s (tree.former name) h = h
whole_small s (tree.constant b) h = h
whole_small s (tree.minus e) h = h.1
whole_small s (tree.opposite e) h = h.1
whole_small s (tree.two o a b) h = h.2

pub part_small : (s : Setting) (part e : Tree) → IsPart part e → SmallParts s e → AreSmall (raw s part)
part_small s part e whole h = whole_small s e h
part_small s part e (of_minus a p) h = part_small s part a p h.0
part_small s part e (of_opposite a p) h = part_small s part a p h.0
part_small s part e (of_left o a b p) h = part_small s part a p h.0
part_small s part e (of_right o a b p) h = part_small s part b p h.1

-- static bounds that are there
pub record Agrees (s : Setting) (e : Tree) (b : Bounds) : Type 0 where
  pub same : raw s e ≡ b
  pub small : SmallParts s e

sides : (o : BinOp) (a b : Option Bounds) (d : Bounds) → bounds_of_two o a b ≡ Some d
    → (u : Bounds) × (v : Bounds) × (a ≡ Some u) × (b ≡ Some v) × (if_small (operator_bounds o u v) ≡ Some d)
sides o None b d h = absurd (cc)
sides o (Some u) None d h = absurd (cc)
sides o (Some u) (Some v) d h = (u, v, refl, refl, h)

mapped : (o : Option Bounds) (d : Bounds) → option_map (λ b. only (pos 0)) o ≡ Some d → (u : Bounds) × (o ≡ Some u) × (only (pos 0) ≡ d)
mapped None d h = absurd (cc)
mapped (Some u) d h = (u, refl, some_is (only (pos 0)) d h)

pub static_agrees : (s : Setting) (e : Tree) (b : Bounds) → static_bounds s e ≡ Some b → Agrees s e b
static_agrees s (tree.number n) b h = let r = is_small_bounds (only (pos n)) b h in record { same = r.0; small = r.1 }
static_agrees s (tree.word name) b h = let r = is_small_bounds (named_bounds s name) b h in record { same = r.0; small = r.1 }
static_agrees s (tree.former name) b h = let r = is_small_bounds (recalled_bounds s name) b h in record { same = r.0; small = r.1 }
static_agrees s (tree.constant t) b h = record { same = some_is (only (pos 0)) b h; small = zero_small }
static_agrees s (tree.minus e) b h =
    let f = found (λ d. if_small (opposite_bounds d)) (static_bounds s e) b h in
    let inner = static_agrees s e f.0 f.1 in
    let r = is_small_bounds (opposite_bounds f.0) b f.2 in
    let same : opposite_bounds (raw s e) ≡ opposite_bounds f.0 = ap opposite_bounds inner.same in
    record { same = same ∙ r.0; small = (inner.small, subst AreSmall (sym same) r.1) }
static_agrees s (tree.opposite e) b h =
    let m = mapped (static_bounds s e) b h in
    record { same = m.2; small = ((static_agrees s e m.0 m.1).small, zero_small) }
static_agrees s (tree.two o x y) b h =
    let m = sides o (static_bounds s x) (static_bounds s y) b h in
    let left = static_agrees s x m.0 m.2 in
    let right = static_agrees s y m.1 m.3 in
    let r = is_small_bounds (operator_bounds o m.0 m.1) b m.4 in
    let same : operator_bounds o (raw s x) (raw s y) ≡ operator_bounds o m.0 m.1 = ap (λ a. operator_bounds o a (raw s y)) left.same ∙ ap (operator_bounds o m.0) right.same in
    record { same = same ∙ r.0; small = (left.small, right.small, subst AreSmall (sym same) r.1) }

pub agrees_static : (s : Setting) (e : Tree) → SmallParts s e → static_bounds s e ≡ Some (raw s e)
agrees_static s (tree.number n) h = small_is (only (pos n)) h
agrees_static s (tree.word name) h = small_is (named_bounds s name) h
agrees_static s (tree.former name) h = small_is (recalled_bounds s name) h
agrees_static s (tree.constant b) h = refl
agrees_static s (tree.minus e) h = ap (option_and_then (λ b. if_small (opposite_bounds b))) (agrees_static s e h.0) ∙ small_is (opposite_bounds (raw s e)) h.1
agrees_static s (tree.opposite e) h = ap (option_map (λ b. only (pos 0))) (agrees_static s e h.0)
agrees_static s (tree.two o x y) h =
    ap (λ a. bounds_of_two o a (static_bounds s y)) (agrees_static s x h.0) ∙ ap (bounds_of_two o (Some (raw s x))) (agrees_static s y h.1)
    ∙ small_is (operator_bounds o (raw s x) (raw s y)) h.2
