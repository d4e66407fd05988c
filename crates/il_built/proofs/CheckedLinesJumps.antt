-- Each line that names another jumps to a line of its procedure.
use Rattle.std.proofs.Common.{◌≡◌, ◌⊎◌, ℕ, ◌+◌, ◌<◌, ◌≤◌, ◌∙◌, sym, ap, subst, refl, inl, inr, Bool, true, false, List, [], ◌++◌, arith, if◌then◌else◌}
use Rattle.std.specs.Prelude.{Option, Some, None, slice_get}
use Rattle.std.proofs.lemmas.Bool.{cases_order}
use Rattle.il_core.specs.Checked.{IsTarget}
use Rattle.il_core.specs.Statement.{Statement, Placed, procedure, if_true, otherwise, end_if, loop, end_loop, label, end_procedure}
use Rattle.il_syntax.specs.Order.{IsInOrder}
use Rattle.il_blocks.specs.declared.block.Kind.{Kind}
use Rattle.il_blocks.specs.declared.block.Kind.TheVariants as kind
use Rattle.il_blocks.specs.declared.block.Closer.{Closer}
use Rattle.il_blocks.specs.declared.block.Closer.TheVariants as closer
use Rattle.il_blocks.specs.Block.{fits, Bracket, closings, openings, brackets_of, opened_by, closed_by}
use Rattle.il_blocks.specs.BlockFault.{HasNoFault}
use Rattle.il_blocks.specs.BlockLabel.{begins, owner, label_of, IsLabel}
use Rattle.il_blocks.specs.BlockLink.{between, Pairs, Surrounds, has_line, line, is_end, is_else, GoesOnAt, LeavesTo}
use Rattle.il_blocks.proofs.BlockNest.{scan, opens_scanned, wholes_scan}
use Rattle.il_blocks.proofs.BlockOne.{between_split}
use Rattle.il_built.proofs.BuiltSorts.{none_some}
use Rattle.il_built.proofs.CheckedLinesBlocks.{pair_fits}
use Rattle.il_built.proofs.CheckedLinesEnd.{IsLineOf, IsEndOf, target_line, target_behind}
use Rattle.il_built.proofs.CheckedLinesNested.{same_owner}
use Rattle.il_built.proofs.CheckedLinesOrder.{is_pre}

-- a statement that closes a block is a line
closer_line : (s : Statement) (c : Closer) → closed_by s ≡ Some c → (has_line s ≡ true) × (is_pre s ≡ false)
closer_line otherwise c e = (refl, refl)
closer_line end_if c e = (refl, refl)
closer_line end_loop c e = (refl, refl)
closer_line end_procedure c e = (refl, refl)
closer_line _ c e = none_some c e

-- so is one other than PROC that opens a block
opener_line : (s : Statement) (k : Kind) → opened_by s ≡ Some k → begins s ≡ 0 → (has_line s ≡ true) × (is_pre s ≡ false)
opener_line (procedure _) k e b = absurd (omega (arith, b))
opener_line (if_true _) k e b = (refl, refl)
opener_line otherwise k e b = (refl, refl)
opener_line loop k e b = (refl, refl)
opener_line _ k e b = none_some k e

-- ENDPROC does not fit it
not_end : (s t : Statement) (k : Kind) (c : Closer) → opened_by s ≡ Some k → begins s ≡ 0 → closed_by t ≡ Some c → fits c k ≡ true → is_end t ≡ false
not_end s end_procedure k c opens b closes f =
    let z : ◌≡◌ {A = Option Closer} (Some closer.ByEndProc) (Some c) = closes in
    let same : closer.ByEndProc ≡ c = cc in
    absurd (by s k opens b (ap (λ (d : Closer). fits d k) same ∙ f))
  where
    misfit : (k j : Kind) → Some j ≡ Some k → fits closer.ByEndProc j ≡ false → fits closer.ByEndProc k ≡ true → ⊥
    misfit k j e f g = let same : j ≡ k = cc in let z : false ≡ true = sym f ∙ ap (fits closer.ByEndProc) same ∙ g in cc

    by : (s : Statement) (k : Kind) → opened_by s ≡ Some k → begins s ≡ 0 → fits closer.ByEndProc k ≡ true → ⊥
    by (procedure _) k e b f = omega (arith, b)
    by (if_true _) k e b f = misfit k kind.Then e refl f
    by otherwise k e b f = misfit k kind.Otherwise e refl f
    by loop k e b f = misfit k kind.Round e refl f
    by _ k e b f = none_some k e
not_end s _ k c opens b closes f = refl

-- a LOOP begins no procedure, nor does what ENDLOOP closes
round_begins : (s : Statement) → opened_by s ≡ Some kind.Round → begins s ≡ 0
round_begins (procedure _) e = absurd (let z : kind.Procedure ≡ kind.Round = cc in cc)
round_begins _ e = refl

round_fits : (s : Statement) (k : Kind) → opened_by s ≡ Some k → fits closer.ByEndLoop k ≡ true → begins s ≡ 0
round_fits (procedure _) k e f =
    let z : ◌≡◌ {A = Option Kind} (Some kind.Procedure) (Some k) = e in
    let same : kind.Procedure ≡ k = cc in
    absurd (let y : false ≡ true = ap (fits closer.ByEndLoop) same ∙ f in cc)
round_fits _ k e f = refl

-- the statements of a pair are lines of one procedure
pub record IsInner (stmts : List Placed) (k i j : ℕ) (s t : Placed) : Type 0 where
  pub first : IsLineOf stmts k i s
  pub later : is_pre s.says ≡ false
  pub last : IsLineOf stmts k j t
  pub ender : is_pre t.says ≡ false
  pub unended : is_end t.says ≡ false
  pub before : i < j

-- so are those of a pair whose first one is no PROC
inner_pair : (stmts : List Placed) (i j : ℕ) → IsInOrder stmts → HasNoFault stmts → (p : Pairs stmts i j) → begins p.opener.says ≡ 0 → IsInner stmts (owner stmts i) i j p.opener p.ender
inner_pair stmts i j o n p b =
    let from = opener_line p.opener.says p.kind p.opens b in
    let to = closer_line p.ender.says p.closer p.closes in
    let low : i ≤ j = omega (arith, p.before) in
    let end : j ≤ j = omega arith in
    record {
      first = record { there = p.from; own = refl; has = from.0 };
      later = from.1;
      last = record { there = p.to; own = same_owner stmts i j j o n p b low end; has = to.0 };
      ender = to.1;
      unended = not_end p.opener.says p.ender.says p.kind p.closer p.opens b p.closes (pair_fits stmts i j n p);
      before = p.before;
    }

-- one statement stands at a number
same_stmt : (stmts : List Placed) (x : ℕ) (s t : Placed) → slice_get stmts x ≡ Some s → slice_get stmts x ≡ Some t → s ≡ t
same_stmt stmts x s t e f = let z : ◌≡◌ {A = Option Placed} (Some s) (Some t) = sym e ∙ f in cc

-- the pair of a line that opens a block
opener_pair : (stmts : List Placed) (k x j : ℕ) (s : Placed) → IsInOrder stmts → HasNoFault stmts → IsLineOf stmts k x s → begins s.says ≡ 0 → (p : Pairs stmts x j) → IsInner stmts k x j s p.ender
opener_pair stmts k x j s o n l b p =
    let one : p.opener ≡ s = same_stmt stmts x p.opener s p.from l.there in
    subst (λ (m : ℕ). IsInner stmts m x j s p.ender) l.own
    (subst (λ (t : Placed). IsInner stmts (owner stmts x) x j t p.ender) one (inner_pair stmts x j o n p (ap (λ (t : Placed). begins t.says) one ∙ b)))

-- where the text goes on if an IF is false
pub goes_on : (stmts : List Placed) (k z x count target : ℕ) (s : Placed) → IsInOrder stmts → HasNoFault stmts → IsEndOf stmts k z → count ≡ line stmts z + 1 → IsLineOf stmts k x s
    → begins s.says ≡ 0 → GoesOnAt stmts x target → IsTarget count (line stmts x) target
goes_on stmts k z x count target s o n e long l b g =
    let i = opener_pair stmts k x g.end s o n l b g.pairs in
    by i (is_else g.pairs.ender.says) g.is
  where
    by : IsInner stmts k x g.end s g.pairs.ender → (t : Bool) → target ≡ (if t then line stmts g.end + 1 else line stmts g.end) → IsTarget count (line stmts x) target
    by i true is = target_behind stmts k z x g.end count target s g.pairs.ender o e long l i.last i.unended i.before is
    by i false is = target_line stmts k z x g.end count target s g.pairs.ender o e long l i.last i.ender (inl i.before) is

-- an ELSE goes on at the end of its block
pub ends_block : (stmts : List Placed) (k z x j count target : ℕ) (s : Placed) → IsInOrder stmts → HasNoFault stmts → IsEndOf stmts k z → count ≡ line stmts z + 1 → IsLineOf stmts k x s
    → begins s.says ≡ 0 → Pairs stmts x j → target ≡ line stmts j → IsTarget count (line stmts x) target
ends_block stmts k z x j count target s o n e long l b p is =
    let i = opener_pair stmts k x j s o n l b p in
    target_line stmts k z x j count target s p.ender o e long l i.last i.ender (inl i.before) is

-- an ENDLOOP goes on at its LOOP
pub begins_block : (stmts : List Placed) (k z x j count target : ℕ) (s : Placed) → IsInOrder stmts → HasNoFault stmts → IsEndOf stmts k z → count ≡ line stmts z + 1 → IsLineOf stmts k x s
    → s.says ≡ end_loop → Pairs stmts j x → target ≡ line stmts j → IsTarget count (line stmts x) target
begins_block stmts k z x j count target s o n e long l says p is =
    let one : p.ender ≡ s = same_stmt stmts x p.ender s p.to l.there in
    let y : ◌≡◌ {A = Option Closer} (Some p.closer) (Some closer.ByEndLoop) = sym p.closes ∙ ap (λ (t : Placed). closed_by t.says) one ∙ ap closed_by says in
    let same : p.closer ≡ closer.ByEndLoop = cc in
    let b : begins p.opener.says ≡ 0 = round_fits p.opener.says p.kind p.opens (ap (λ (c : Closer). fits c p.kind) (sym same) ∙ pair_fits stmts j x n p) in
    let i = inner_pair stmts j x o n p b in
    let own : owner stmts j ≡ k = sym i.last.own ∙ l.own in
    let first : IsLineOf stmts k j p.opener = subst (λ (m : ℕ). IsLineOf stmts m j p.opener) own i.first in
    target_line stmts k z x j count target s p.opener o e long l first i.later (inr i.before) is

-- nothing closes a block before it is opened
no_closer : (a : Option Closer) (c : Closer) (rest more : List Bracket) (ks : List Kind) → a ≡ Some c → scan ((closings a ++ rest) ++ more) [] ≡ Some ks → ⊥
no_closer None c rest more ks f e = none_some c f
no_closer (Some d) c rest more ks f e = none_some ks e

-- the LOOP around a statement ends behind it
loop_behind : (stmts : List Placed) (i x j : ℕ) (s : Placed) → slice_get stmts x ≡ Some s → closed_by s.says ≡ None → Surrounds stmts i x → Pairs stmts i j → x < j
loop_behind stmts i x j s at none u p = elim (cases_order x j) [
  | inr (inl less) ↦ less
  | inl same ↦
      let one : s ≡ p.ender = same_stmt stmts x s p.ender at (ap (slice_get stmts) same ∙ p.to) in
      none_some p.closer (sym none ∙ ap (λ (t : Placed). closed_by t.says) one ∙ p.closes)
  | inr (inr more) ↦ absurd (by more)
]
  where
    by : j < x → ⊥
    by h =
        let rest = brackets_of p.ender.says ++ between stmts j x in
        let all : scan (between stmts i j ++ rest) [] ≡ Some u.kinds =
        ap (λ (bs : List Bracket). scan bs []) (sym (between_split stmts i j x p.ender p.before h p.to)) ∙ opens_scanned (between stmts i x) u.kinds u.inside in
        no_closer (closed_by p.ender.says) p.closer (openings (opened_by p.ender.says)) (between stmts j x) u.kinds p.closes (sym (wholes_scan (between stmts i j) rest [] p.inner) ∙ all)

-- an EXIT goes on behind the end of its LOOP
pub leaves_loop : (stmts : List Placed) (k z x count target : ℕ) (s : Placed) → IsInOrder stmts → HasNoFault stmts → IsEndOf stmts k z → count ≡ line stmts z + 1 → IsLineOf stmts k x s
    → closed_by s.says ≡ None → LeavesTo stmts x target → IsTarget count (line stmts x) target
leaves_loop stmts k z x count target s o n e long l none t =
    let u = t.surrounds in
    let p = t.pairs in
    let one : u.opener ≡ p.opener = same_stmt stmts t.loop u.opener p.opener u.at p.from in
    let b : begins p.opener.says ≡ 0 = round_begins p.opener.says (ap (λ (y : Placed). opened_by y.says) (sym one) ∙ u.opens) in
    let after : x < t.end = loop_behind stmts t.loop x t.end s l.there none u p in
    let i = inner_pair stmts t.loop t.end o n p b in
    let low : t.loop ≤ x = omega (arith, u.before) in
    let high : x ≤ t.end = omega (arith, after) in
    let own : owner stmts t.loop ≡ k = sym (same_owner stmts t.loop x t.end o n p b low high) ∙ l.own in
    let last : IsLineOf stmts k t.end p.ender = subst (λ (m : ℕ). IsLineOf stmts m t.end p.ender) own i.last in
    target_behind stmts k z x t.end count target s p.ender o e long l last i.unended after t.is

-- a LABEL is a line
label_line : (s : Statement) (name : List ℕ) → label_of s ≡ Some name → (has_line s ≡ true) × (is_pre s ≡ false)
label_line (label _) name e = (refl, refl)
label_line _ name e = none_some name e

-- a GOTO goes on at its LABEL
pub goes_to : (stmts : List Placed) (k z x j count target : ℕ) (s : Placed) (name : List ℕ) → IsInOrder stmts → IsEndOf stmts k z → count ≡ line stmts z + 1 → IsLineOf stmts k x s
    → label_of s.says ≡ None → IsLabel stmts (owner stmts x) name j → target ≡ line stmts j → IsTarget count (line stmts x) target
goes_to stmts k z x j count target s name o e long l none b is =
    let has = label_line b.stmt.says name b.says in
    target_line stmts k z x j count target s b.stmt o e long l (record { there = b.at; own = b.same ∙ l.own; has = has.0 }) has.1 apart is
  where
    apart : (x < j) ⊎ (j < x)
    apart = elim (cases_order x j) [
      | inr other ↦ other
      | inl same ↦
          let one : s ≡ b.stmt = same_stmt stmts x s b.stmt l.there (ap (slice_get stmts) same ∙ b.at) in
          none_some name (sym none ∙ ap (λ (t : Placed). label_of t.says) one ∙ b.says)
    ]
