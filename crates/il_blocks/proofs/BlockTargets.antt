-- What the tables tell of the target of a statement.
use Rattle.std.proofs.Common.{◌≡◌, ◌⊎◌, ◌+◌, ◌<◌, ◌≤◌, ℕ, Bool, true, false, List, [], ◌∷◌, length, take, get_or, sym, ◌∙◌, ap, subst, arith, inl, inr, if◌then◌else◌}
use Rattle.std.specs.Prelude.{Option, Some, None, MatchOption}
use Rattle.std.proofs.lemmas.Option.{slice_get_within}
use Rattle.std.proofs.lemmas.List.{length-take-le}
use Rattle.il_core.specs.Statement.{Statement, Placed, statement_of, procedure, end_loop, exit, exit_when, goto}
use Rattle.il_core.specs.declared.statement.RawExpr.{RawExpr}
use Rattle.il_core.specs.declared.statement.Form.{Form}
use Rattle.il_core.specs.declared.statement.Form.TheVariants as form
use Rattle.il_blocks.specs.declared.block.Kind.{Kind}
use Rattle.il_blocks.specs.declared.block.Kind.TheVariants as kind
use Rattle.il_blocks.specs.Block.{leaves, opened_by, closed_by}
use Rattle.il_blocks.specs.BlockLabel.{owner, target_of, found, IsTable, IsLabel}
use Rattle.il_blocks.specs.BlockFault.{HasNoFault}
use Rattle.il_blocks.specs.BlockLink.{line_behind, next_line, line, is_else, Pairs, Surrounds, GoesOnAt, LeavesTo, HasTarget}
use Rattle.il_blocks.specs.BlockTable.{AreLines, AreMates}
use Rattle.il_blocks.specs.BlockTable.{SaysAt, OpensAt}

-- a line is not above the number of its statement
behind_low : (n : ℕ) (s : Statement) → line_behind n s ≤ n + 1
behind_low n (procedure _) = omega arith
behind_low n _ = omega arith

next_low : (n : ℕ) (xs : List Placed) → next_line n xs ≤ n + length xs
next_low n [] = omega arith
next_low n (x ∷ xs) = let h = behind_low n x.says in let k = next_low (line_behind n x.says) xs in omega arith

pub line_low : (ss : List Placed) (i : ℕ) → i ≤ length ss → line ss i ≤ i
line_low ss i h = let k = next_low 0 (take i ss) in let l : length (take i ss) ≡ i = length-take-le i ss h in omega arith

pub says_within : (ss : List Placed) (x : ℕ) (s : Statement) → SaysAt ss x s → x < length ss
says_within ss x s f = slice_get_within ss x f.stmt f.at

pub pair_within : (ss : List Placed) (i j : ℕ) → Pairs ss i j → j < length ss
pair_within ss i j p = slice_get_within ss j p.ender p.to

pub pair_below : (ss : List Placed) (i j : ℕ) → Pairs ss i j → i < length ss
pair_below ss i j p = slice_get_within ss i p.opener p.from

-- the line of a statement, as it is read
pub line_read : (ss : List Placed) (lines : List ℕ) (i v : ℕ) → AreLines ss lines → i < length ss → v ≡ get_or lines i 0 → v ≡ line ss i
line_read ss lines i v f h e = let k : i ≤ length ss = omega arith in e ∙ f.each i k

-- the end of a block
pub end_read : (ss : List Placed) (ends heads : List ℕ) (i v : ℕ) → AreMates ss ends heads → OpensAt ss i → v ≡ get_or ends i 0 → Pairs ss i v
end_read ss ends heads i v f o e = subst (Pairs ss i) (sym e) (f.ends_each i (slice_get_within ss i o.stmt o.at) o.stmt o.kind o.at o.opens)

pub opens_at : (ss : List Placed) (i : ℕ) (s : Statement) (k : Kind) → SaysAt ss i s → opened_by s ≡ Some k → OpensAt ss i
opens_at ss i s k f e = record { stmt = f.stmt; at = f.at; kind = k; opens = ap opened_by f.says ∙ e }

-- the LOOP of an ENDLOOP
pub loop_read : (ss : List Placed) (ends heads : List ℕ) (x v : ℕ) → AreMates ss ends heads → SaysAt ss x end_loop → v ≡ get_or heads x 0 → Pairs ss v x
loop_read ss ends heads x v f s e =
    subst (λ (n : ℕ). Pairs ss n x) (sym e) ((f.heads_each x (says_within ss x end_loop s)).closed s.stmt s.at (ap closed_by s.says))

-- the LOOP of an EXIT
pub head_read : (ss : List Placed) (ends heads : List ℕ) (x v : ℕ) (s : Statement) → AreMates ss ends heads → SaysAt ss x s → leaves s ≡ true → v ≡ get_or heads x 0 → Surrounds ss v x
head_read ss ends heads x v s f t l e =
    subst (λ (n : ℕ). Surrounds ss n x) (sym e) ((f.heads_each x (says_within ss x s t)).around t.stmt t.at (ap leaves t.says ∙ l))

pub surrounds_opens : (ss : List Placed) (i x : ℕ) → Surrounds ss i x → OpensAt ss i
surrounds_opens ss i x f = record { stmt = f.opener; at = f.at; kind = kind.Round; opens = f.opens }

pub goes_on_at : (ss : List Placed) (x end target : ℕ) (b : Bool) → (p : Pairs ss x end) → is_else p.ender.says ≡ b → target ≡ (if b then line ss end + 1 else line ss end) → GoesOnAt ss x target
goes_on_at ss x end target b p e f = record { end = end; pairs = p; is = f ∙ ap (λ (t : Bool). if t then line ss end + 1 else line ss end) (sym e) }

pub leaves_to : (ss : List Placed) (x loop end target : ℕ) → Surrounds ss loop x → Pairs ss loop end → target ≡ line ss end + 1 → LeavesTo ss x target
leaves_to ss x loop end target s p e = record { loop = loop; surrounds = s; end = end; pairs = p; is = e }

-- the label that a table holds
pub label_read : (ss : List Placed) (entries : List ((ℕ × List ℕ) × ℕ)) (inside : ℕ) (name : List ℕ) (j : ℕ) → IsTable ss (length ss) entries → found inside name entries ≡ Some j
    → (j < length ss) × IsLabel ss inside name j
label_read ss entries inside name j t e = by (found inside name entries) e (t inside name)
  where
    by : (o : Option ℕ) → o ≡ Some j
        → MatchOption o ((k : ℕ) → k < length ss → IsLabel ss inside name k → ⊥) (λ k. (k < length ss) × IsLabel ss inside name k × ((i : ℕ) → i < k → IsLabel ss inside name i → ⊥))
        → (j < length ss) × IsLabel ss inside name j
    by None f m = absurd (let z : ◌≡◌ {A = Option ℕ} None (Some j) = f in cc)
    by (Some k) f m =
        let same : k ≡ j = cc in
        (subst (λ (n : ℕ). n < length ss) same m.0, subst (IsLabel ss inside name) same m.1)

-- a GOTO has its label
pub label_there : (ss : List Placed) (entries : List ((ℕ × List ℕ) × ℕ)) (x : ℕ) (name : List ℕ) → IsTable ss (length ss) entries → HasNoFault ss → SaysAt ss x (goto name)
    → found (owner ss x) name entries ≡ None → ⊥
label_there ss entries x name t n s e = n x (inr (inr (record {
  stmt = s.stmt;
  at = s.at;
  name = name;
  says = ap target_of s.says;
  nowhere = λ j l. by (found (owner ss x) name entries) e (t (owner ss x) name) j (slice_get_within ss j l.stmt l.at) l;
})))
  where
    by : (o : Option ℕ) → o ≡ None
        → MatchOption o ((k : ℕ) → k < length ss → IsLabel ss (owner ss x) name k → ⊥) (λ k. (k < length ss) × IsLabel ss (owner ss x) name k × ((i : ℕ) → i < k → IsLabel ss (owner ss x) name i → ⊥))
        → (k : ℕ) → k < length ss → IsLabel ss (owner ss x) name k → ⊥
    by None f m = m
    by (Some k) f m = absurd (let z : ◌≡◌ {A = Option ℕ} None (Some k) = sym f in cc)

-- an EXIT goes where it leaves to
pub exit_target : (ss : List Placed) (x : ℕ) (s : Statement) (target : ℕ) → leaves s ≡ true → LeavesTo ss x target → HasTarget ss x s target
exit_target ss x exit target e l = l
exit_target ss x (exit_when _) target e l = l
exit_target ss x _ target e l = absurd (let z : false ≡ true = e in cc)

pub exit_leaves : (f : Form) → ((f ≡ form.Exit) ⊎ ((e : RawExpr) × (f ≡ form.ExitWhen e))) → leaves (statement_of f) ≡ true
exit_leaves f (inl e) = ap (λ (g : Form). leaves (statement_of g)) e
exit_leaves f (inr p) = ap (λ (g : Form). leaves (statement_of g)) p.1
