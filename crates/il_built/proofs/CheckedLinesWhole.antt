-- Each procedure of a text in order, with its links and without a fault, is a checked procedure.
use Rattle.std.proofs.Common.{◌≡◌, ℕ, suc, ◌+◌, ◌<◌, ◌≤◌, ◌∙◌, sym, ap, subst, refl, Bool, true, false, List, [], ◌∷◌, length, arith}
use Rattle.std.specs.Prelude.{Some, None, slice_get}
use Rattle.std.proofs.Math.Seq.{take-length}
use Rattle.std.proofs.lemmas.List.{length-append}
use Rattle.std.proofs.lemmas.Option.{slice_get_within}
use Rattle.il_core.specs.Checked.{IsChecked, FitsAt}
use Rattle.il_core.specs.Expression.{Expression}
use Rattle.il_core.specs.Procedure.{Instruction}
use Rattle.il_core.specs.Procedure as line
use Rattle.il_core.specs.Statement.{Statement, Placed, procedure, pre}
use Rattle.il_core.specs.declared.statement.Link.{Link}
use Rattle.il_syntax.specs.Order.{IsInOrder}
use Rattle.il_blocks.specs.BlockLabel.{begins, procedures, owner}
use Rattle.il_blocks.specs.BlockLink as blocks
use Rattle.il_blocks.specs.BlockLink.{AreLinks}
use Rattle.il_types.specs.Built.{built}
use Rattle.il_types.specs.Names.{Setting}
use Rattle.il_types.specs.Rules.{Answers}
use Rattle.il_built.specs.CheckedText.{named, procedure_names, places_of, post_of, instructions, target_at, procedure_of}
use Rattle.il_built.specs.CheckedText as text
use Rattle.il_built.specs.Holding.{setting_at}
use Rattle.il_built.specs.Laws.{ProceduresAreChecked}
use Rattle.il_built.proofs.CheckedLinesCounts.{owner_is, line_is, behind_line}
use Rattle.il_built.proofs.CheckedLinesEnd.{IsLineOf, end_of, lines_counted, line_later}
use Rattle.il_built.proofs.CheckedLinesFit.{line_fits}
use Rattle.il_built.proofs.CheckedLinesNumbered.{IsLineAt, line_found, line_there, has_one}
use Rattle.il_built.proofs.CheckedLinesOrder.{is_pre, all_ended}
use Rattle.il_built.proofs.CheckedPlaces.{places_few, places_ranges, places_in_order}
use Rattle.il_built.proofs.WithoutFault.{keeps_rules, limited_at}

one_name : (s : Placed) → length (named s) ≡ begins s.says
one_name s = by s.says
  where
    by : (x : Statement) → length (named (record { place = s.place; says = x })) ≡ begins x
    by (procedure _) = refl
    by _ = refl

-- there are as many names of procedures as procedures begin
names_are : (stmts : List Placed) → length (procedure_names stmts) ≡ procedures stmts
names_are [] = refl
names_are (s ∷ ss) = length-append (named s) (procedure_names ss) ∙ ap (λ (n : ℕ). n + length (procedure_names ss)) (one_name s) ∙ ap (λ (n : ℕ). begins s.says + n) (names_are ss)

-- and as begin before the end
pub names_owned : (stmts : List Placed) → length (procedure_names stmts) ≡ owner stmts (length stmts)
names_owned stmts = names_are stmts ∙ ap procedures (sym (take-length stmts))

-- a text in order has a procedure
pub some_procedures : (stmts : List Placed) → IsInOrder stmts → 1 ≤ length (procedure_names stmts)
some_procedures stmts o =
    let all = (all_ended stmts o).1 in
    let e = names_owned stmts in
    omega (arith, all, e)

-- a text without a fault has at most 64
pub few_procedures : (stmts : List Placed) → Answers stmts None → length (procedure_names stmts) ≤ 64
few_procedures stmts a =
    let end : length stmts ≤ length stmts = omega arith in
    let limit = (limited_at stmts (length stmts) (keeps_rules stmts a) end).procedures in
    let e = names_owned stmts in
    let o = owner_is stmts (length stmts) in
    omega (arith, limit, e, o)

-- a line is given by a statement that is one
line_of : (stmts : List Placed) (links : List Link) (k n : ℕ) (i : Instruction) (l : IsLineAt stmts links k n i) → IsLineOf stmts k l.at l.stmt
line_of stmts links k n i l = record { there = l.there; own = l.own; has = has_one stmts links k n i l }

-- a line that is no PRE is not line 0
first_is_pre : (b : Bool) (n : ℕ) → n ≡ 0 → (b ≡ false → 1 ≤ n) → b ≡ true
first_is_pre true n e later = refl
first_is_pre false n e later = let above = later refl in absurd (omega (arith, e, above))

-- PRE gives line 0
pre_is : (s : Setting) (condition : Expression) (target : ℕ) (x : Statement) (i : Instruction) → is_pre x ≡ true → instructions s condition target x ≡ i ∷ []
    → (e : Expression) × (i ≡ line.pre e)
pre_is s condition target (pre d) i e g = let same : i ≡ line.pre (built s d) = cc in (built s d, same)
pre_is s condition target _ i e g = absurd (let z : false ≡ true = e in cc)

-- the lines of a procedure begin with its PRE
begins_with : (stmts : List Placed) (links : List Link) (k : ℕ) → IsInOrder stmts → (xs : List Instruction) → text.lines_of stmts links k ≡ xs → 2 ≤ length xs
    → (e : Expression) × (slice_get (text.lines_of stmts links k) 0 ≡ Some (line.pre e))
begins_with stmts links k o [] same h = absurd (omega (arith, h))
begins_with stmts links k o (i ∷ xs) same h =
    let first : slice_get (text.lines_of stmts links k) 0 ≡ Some i = ap (λ (ys : List Instruction). slice_get ys 0) same in
    let l = line_found stmts links k 0 i first in
    let is_line = line_of stmts links k 0 i l in
    let has = first_is_pre (is_pre l.stmt.says) (blocks.line stmts l.at) l.number (line_later stmts k l.at l.stmt o is_line) in
    let p = pre_is (setting_at stmts l.at) (post_of stmts k) (target_at links l.at) l.stmt.says i has l.gives in
    (p.0, first ∙ ap (λ (j : Instruction). Some j) p.1)

-- a procedure of such a text is checked
checked : (stmts : List Placed) (links : List Link) (k : ℕ) → IsInOrder stmts → AreLinks stmts links → Answers stmts None → k < owner stmts (length stmts)
    → IsChecked (procedure_of stmts links (suc k))
checked stmts links k o ls a h =
    let end = end_of stmts k o h in
    let z = end.0 in
    let e = end.1 in
    let count : length (text.lines_of stmts links (suc k)) ≡ blocks.line stmts z + 1 = lines_counted stmts links (suc k) z o e in
    let later : 1 ≤ blocks.line stmts z = line_later stmts (suc k) z e.stmt o e.is_line (ap is_pre e.says) in
    let some : 2 ≤ length (text.lines_of stmts links (suc k)) = omega (arith, count, later) in
    let within : z < length stmts = slice_get_within stmts z e.stmt e.is_line.there in
    let behind : suc z ≤ length stmts = omega (arith, within) in
    let limit = (limited_at stmts (suc z) (keeps_rules stmts a) behind).lines in
    let counted = line_is stmts (suc z) in
    let next : blocks.line stmts (suc z) ≡ blocks.line stmts z + 1 = (behind_line stmts z e.stmt e.is_line.there e.is_line.has).0 in
    let few : length (text.lines_of stmts links (suc k)) ≤ 1000 = omega (arith, count, next, limit, counted) in
    let last : IsLineAt stmts links (suc k) (blocks.line stmts z) (line.end_procedure (post_of stmts (suc k))) = record {
      at = z;
      stmt = e.stmt;
      there = e.is_line.there;
      own = e.is_line.own;
      gives = ap (instructions (setting_at stmts z) (post_of stmts (suc k)) (target_at links z)) e.says;
      number = refl;
    } in
    record {
      some_lines = some;
      few_lines = few;
      few_places = places_few stmts (suc k) a;
      begins = begins_with stmts links (suc k) o (text.lines_of stmts links (suc k)) refl some;
      ends = (post_of stmts (suc k), blocks.line stmts z, sym count, line_there stmts links (suc k) (blocks.line stmts z) (line.end_procedure (post_of stmts (suc k))) last);
      fits = λ pc i there.
          let l = line_found stmts links (suc k) pc i there in
          subst (λ (n : ℕ). FitsAt (places_of stmts (suc k)) (length (text.lines_of stmts links (suc k))) n i) l.number
          (line_fits stmts links (suc k) z l.at (length (text.lines_of stmts links (suc k))) l.stmt i o ls a e count (line_of stmts links (suc k) pc i l) l.gives);
      ranges = places_ranges stmts (suc k) a;
      in_order = places_in_order stmts (suc k);
    }

-- all of them are
pub procedures_are_checked : ProceduresAreChecked
procedures_are_checked stmts links o ls a = record {
  each = λ k name there.
      let within = slice_get_within (procedure_names stmts) k name there in
      let e = names_owned stmts in
      let begun : k < owner stmts (length stmts) = omega (arith, within, e) in
      checked stmts links k o ls a begun;
}
