-- The extent of a procedure with one statement more.
use Rattle.std.proofs.Common.{◌≡◌, ℕ, ◌+◌, ◌-◌, ◌<◌, ◌≤◌, ◌∙◌, sym, ap, subst, refl, cond, false, List, [], ◌∷◌, ◌++◌, length, add-zero}
use Rattle.std.specs.Prelude.{Option, Some, None, map, count_by, sum_by, slice_get, unwrap_or}
use Rattle.std.specs.Option.{option_and_then, option_map}
use Rattle.std.proofs.lemmas.Bool.{false≢true}
use Rattle.std.proofs.lemmas.Option.{slice_get-map, slice_get_past}
use Rattle.std.proofs.lemmas.List.{length-map}
use Rattle.std.proofs.lemmas.List.Sums.{sum_by-append, sum_by-cons}
use Rattle.il_core.specs.Procedure.{Instruction}
use Rattle.il_core.specs.Statement.{Statement, Placed, procedure, variable, call}
use Rattle.il_core.specs.declared.line.Place.{Place}
use Rattle.il_core.specs.declared.statement.Link.{Link}
use Rattle.il_types.specs.Built.{place_of}
use Rattle.il_types.specs.Counts.{is_line, one_if}
use Rattle.il_types.specs.Names.{counts_at}
use Rattle.il_built.specs.CheckedText.{declared_place, instructions, post_of, target_at}
use Rattle.il_built.specs.Holding.{setting_at}
use Rattle.il_built.proofs.VariablesCounted.{variables_to}
use Rattle.il_called.specs.Called.{Passed, WrittenLine, own}
use Rattle.il_called.specs.Called as called_line
use Rattle.il_called.specs.Expansion.{Callee, is_returned, brings}
use Rattle.call_rules.specs.Callee.{procedure_named, parameters_named, pairings}
use Rattle.call_rules.specs.CalledText.{passed, written_lines, lines_before, callees_before}
use Rattle.call_rules.specs.Limits.{lines_in, widths_of}
use Rattle.call_rules.specs.Parameters.{is_procedure}
use Rattle.call_limits.specs.declared.extent.Extent.{Extent}
use Rattle.call_limits.specs.declared.measures.Measures.{Measures}
use Rattle.call_limits.specs.Measures.{AreMeasures, called, no_extent, with_call, extent_behind}
use Rattle.call_limits.proofs.Callees.{few_before}
use Rattle.call_limits.proofs.Measured.{IsExtent}
use Rattle.call_limits.proofs.Passed.{none_yet, given_more}
use Rattle.call_limits.proofs.Widths.{own_widths, own_brings}

-- the number under which a CALL stands in the text
abbrev number : List Placed → ℕ → List ℕ → ℕ
number stmts i name = unwrap_or (procedure_named (setting_at stmts i) name) (counts_at stmts i).procedures - 1

-- the measures that the name of a CALL stands for are those under its number
called_is : (stmts : List Placed) (links : List Link) (i : ℕ) (name : List ℕ) (table : List Measures) → length table ≤ (counts_at stmts i).procedures - 1
    → called table (setting_at stmts i) name ≡ slice_get table (number stmts i name)
called_is stmts links i name table few = by (procedure_named (setting_at stmts i) name)
  where
    by : (o : Option ℕ) → option_and_then (λ c. slice_get table (c - 1)) o ≡ slice_get table (unwrap_or o (counts_at stmts i).procedures - 1)
    by None = sym (slice_get_past table ((counts_at stmts i).procedures - 1) few)
    by (Some c) = refl

-- an extent with the lines ls and the variables vs more
record IsAdded (cs : List Callee) (x new : Extent) (ls : List WrittenLine) (vs : List Place) : Type 0 where
  lines : new.lines ≡ x.lines + sum_by (lines_in (widths_of cs)) ls
  returned : new.returned ≡ x.returned + count_by (λ v. is_returned v.mode) vs
  brought : new.brought ≡ x.brought + sum_by (brings cs) ls

call_width : (cs : List Callee) (table : List Measures) (n : ℕ) (given : List Passed) → AreMeasures cs table
    → lines_in (widths_of cs) (called_line.call n given) ≡ unwrap_or (option_map (λ (m : Measures). m.width) (slice_get table n)) 1
call_width cs table n given t =
    ap (λ ws. unwrap_or (slice_get ws n) 1) (sym t.widths) ∙ ap (λ o. unwrap_or o 1) (slice_get-map (λ (m : Measures). m.width) table n)

call_brings : (cs : List Callee) (table : List Measures) (n : ℕ) (given : List Passed) → AreMeasures cs table
    → brings cs (called_line.call n given) ≡ unwrap_or (option_map (λ (m : Measures). m.places) (slice_get table n)) 0
call_brings cs table n given t =
    by (slice_get cs n) ∙ ap (λ o. unwrap_or o 0) (sym (slice_get-map (λ (c : Callee). length c.expanded.places) cs n))
    ∙ ap (λ ws. unwrap_or (slice_get ws n) 0) (sym t.places) ∙ ap (λ o. unwrap_or o 0) (slice_get-map (λ (m : Measures). m.places) table n)
  where
    by : (o : Option Callee) → elim o [ None ↦ 0 | Some it ↦ length it.expanded.places ] ≡ unwrap_or (option_map (λ (c : Callee). length c.expanded.places) o) 0
    by None = refl
    by (Some it) = refl

call_added : (cs : List Callee) (x : Extent) (n : ℕ) (given : List Passed) (o : Option Measures)
    → lines_in (widths_of cs) (called_line.call n given) ≡ unwrap_or (option_map (λ (m : Measures). m.width) o) 1
    → brings cs (called_line.call n given) ≡ unwrap_or (option_map (λ (m : Measures). m.places) o) 0
    → IsAdded cs x (with_call x o) (called_line.call n given ∷ []) []
call_added cs x n given None w b =
    let line : WrittenLine = called_line.call n given in
    let a : sum_by (lines_in (widths_of cs)) (line ∷ []) ≡ 1 = sum_by-cons (lines_in (widths_of cs)) line [] ∙ add-zero (lines_in (widths_of cs) line) ∙ w in
    let d : sum_by (brings cs) (line ∷ []) ≡ 0 = sum_by-cons (brings cs) line [] ∙ add-zero (brings cs line) ∙ b in
    record {
      lines = sym (ap (λ n. x.lines + n) a);
      returned = sym (add-zero x.returned);
      brought = sym (ap (λ n. x.brought + n) d ∙ add-zero x.brought);
    }
call_added cs x n given (Some m) w b =
    let line : WrittenLine = called_line.call n given in
    let a : sum_by (lines_in (widths_of cs)) (line ∷ []) ≡ m.width = sum_by-cons (lines_in (widths_of cs)) line [] ∙ add-zero (lines_in (widths_of cs) line) ∙ w in
    let d : sum_by (brings cs) (line ∷ []) ≡ m.places = sum_by-cons (brings cs) line [] ∙ add-zero (brings cs line) ∙ b in
    record {
      lines = sym (ap (λ n. x.lines + n) a);
      returned = sym (add-zero x.returned);
      brought = sym (ap (λ n. x.brought + n) d);
    }

-- a statement that is no CALL adds the lines that it is
line_added : (cs : List Callee) (x : Extent) (k : ℕ) (is : List Instruction) → length is ≡ k
    → IsAdded cs x (record x { lines = x.lines + k }) (map own is) []
line_added cs x k is e = record {
  lines = sym (ap (λ n. x.lines + n) (own_widths (widths_of cs) is ∙ e));
  returned = sym (add-zero x.returned);
  brought = sym (ap (λ n. x.brought + n) (own_brings cs is) ∙ add-zero x.brought);
}

added : (stmts : List Placed) (links : List Link) (i : ℕ) (table : List Measures) (x : Extent) (says : Statement)
    → AreMeasures (callees_before stmts links (counts_at stmts i).procedures) table → is_procedure says ≡ false
    → IsAdded (callees_before stmts links (counts_at stmts i).procedures) x (extent_behind table (setting_at stmts i) x says)
    (written_lines stmts links (counts_at stmts i).procedures i says) (declared_place (setting_at stmts i) says)
added stmts links i table x (procedure name) t h = absurd (false≢true (sym h))
added stmts links i table x (variable m name used) t h = record {
  lines = sym (add-zero x.lines);
  returned = sym (ap (λ n. x.returned + n)
      (sum_by-cons (λ (v : Place). cond (is_returned v.mode) 1 0) (place_of (setting_at stmts i) (variable m name used)) [] ∙ add-zero (cond (is_returned m) 1 0)));
  brought = sym (add-zero x.brought);
}
added stmts links i table x (call name arguments) t h =
    let cs = callees_before stmts links (counts_at stmts i).procedures in
    let s = setting_at stmts i in
    let n = number stmts i name in
    let given = map (passed s) (pairings (parameters_named s name) arguments) in
    let size : length table ≡ length cs =
    sym (length-map table (λ (m : Measures). m.places)) ∙ ap length t.places ∙ length-map cs (λ (c : Callee). length c.expanded.places) in
    let few = few_before stmts links (counts_at stmts i).procedures in
    subst (λ o. IsAdded cs x (with_call x o) (called_line.call n given ∷ []) [])
    (sym (called_is stmts links i name table (subst (λ k. k ≤ (counts_at stmts i).procedures - 1) (sym size) few)))
    (call_added cs x n given (slice_get table n) (call_width cs table n given t) (call_brings cs table n given t))
added stmts links i table x says t h = line_added (callees_before stmts links (counts_at stmts i).procedures) x (one_if (is_line says))
    (instructions (setting_at stmts i) (post_of stmts (counts_at stmts i).procedures) (target_at links i) says) refl

-- a statement that begins no procedure
pub extent_next : (stmts : List Placed) (links : List Link) (i : ℕ) (table : List Measures) (x : Extent) (stmt : Placed) → slice_get stmts i ≡ Some stmt
    → AreMeasures (callees_before stmts links (counts_at stmts i).procedures) table → is_procedure stmt.says ≡ false
    → IsExtent stmts links (counts_at stmts i).procedures i x
    → IsExtent stmts links (counts_at stmts i).procedures (i + 1) (extent_behind table (setting_at stmts i) x stmt.says)
extent_next stmts links i table x stmt there t h e =
    let owner = (counts_at stmts i).procedures in
    let cs = callees_before stmts links owner in
    let ls = written_lines stmts links owner i stmt.says in
    let a = added stmts links i table x stmt.says t h in
    let more : lines_before stmts links owner (i + 1) ≡ lines_before stmts links owner i ++ ls = given_more (written_lines stmts links owner) stmts owner i stmt there refl in
    let vars : variables_to stmts owner (i + 1) ≡ variables_to stmts owner i ++ declared_place (setting_at stmts i) stmt.says =
    given_more (λ k y. declared_place (setting_at stmts k) y) stmts owner i stmt there refl in
    record {
      lines = a.lines ∙ ap (λ n. n + sum_by (lines_in (widths_of cs)) ls) e.lines ∙ sym (ap (sum_by (lines_in (widths_of cs))) more ∙ sum_by-append (lines_in (widths_of cs)) (lines_before stmts links owner i) ls);
      returned = a.returned ∙ ap (λ n. n + count_by (λ v. is_returned v.mode) (declared_place (setting_at stmts i) stmt.says)) e.returned
          ∙ sym (ap (count_by (λ v. is_returned v.mode)) vars
          ∙ sum_by-append (λ (v : Place). cond (is_returned v.mode) 1 0) (variables_to stmts owner i) (declared_place (setting_at stmts i) stmt.says));
      brought = a.brought ∙ ap (λ n. n + sum_by (brings cs) ls) e.brought ∙ sym (ap (sum_by (brings cs)) more ∙ sum_by-append (brings cs) (lines_before stmts links owner i) ls);
    }

-- where a procedure begins
pub extent_begins : (stmts : List Placed) (links : List Link) (owner i : ℕ) → i < length stmts → (counts_at stmts i).procedures < owner → IsExtent stmts links owner (i + 1) no_extent
extent_begins stmts links owner i h less =
    let cs = callees_before stmts links owner in
    let ls : lines_before stmts links owner (i + 1) ≡ [] = none_yet (written_lines stmts links owner) stmts owner i h less in
    let vs : variables_to stmts owner (i + 1) ≡ [] = none_yet (λ k y. declared_place (setting_at stmts k) y) stmts owner i h less in
    record {
      lines = sym (ap (sum_by (lines_in (widths_of cs))) ls);
      returned = sym (ap (count_by (λ v. is_returned v.mode)) vs);
      brought = sym (ap (sum_by (brings cs)) ls);
    }
