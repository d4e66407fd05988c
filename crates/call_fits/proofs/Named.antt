-- What is kept of a procedure with one statement more.
use Rattle.std.proofs.Common.{◌≡◌, ℕ, ◌+◌, ◌-◌, ◌<◌, ◌≤◌, ◌∙◌, sym, ap, subst, refl, Bool, true, false, ◌&&◌, List, [], ◌∷◌, ◌++◌, length, arith, append-nil, nat_le}
use Rattle.std.specs.Prelude.{Option, Some, None, map, count_by, slice_get, unwrap_or}
use Rattle.std.specs.Option.{option_and_then}
use Rattle.std.proofs.lemmas.Bool.{false≢true}
use Rattle.std.proofs.lemmas.Option.{slice_get_past}
use Rattle.il_core.specs.Procedure.{Instruction}
use Rattle.il_core.specs.Statement.{Statement, Placed, procedure, variable, call}
use Rattle.il_core.specs.declared.line.Place.{Place}
use Rattle.il_core.specs.declared.statement.Link.{Link}
use Rattle.il_types.specs.Names.{counts_at}
use Rattle.il_built.specs.CheckedText.{declared_place, instructions, post_of, target_at}
use Rattle.il_built.specs.Holding.{setting_at}
use Rattle.il_built.proofs.VariablesCounted.{variables_to}
use Rattle.il_called.specs.Called.{Passed, WrittenLine, own}
use Rattle.il_called.specs.Called as called_line
use Rattle.il_called.specs.Expansion.{Callee, is_call}
use Rattle.il_called.specs.Expansion as expansion
use Rattle.call_rules.specs.Callee.{procedure_named, parameters_named, pairings}
use Rattle.call_rules.specs.CalledText.{passed, written_lines, lines_before, callees_before}
use Rattle.call_rules.specs.Parameters.{is_procedure}
use Rattle.call_limits.proofs.Callees.{few_before}
use Rattle.call_limits.proofs.Passed.{none_yet, given_more}
use Rattle.call_fits.specs.declared.longest.Latest.{Latest}
use Rattle.call_fits.specs.Longest.{are_short_behind, is_short_behind, AreLongest, front_length, brought, called, nothing_yet, with_call, latest_behind}
use Rattle.call_fits.proofs.Short.{longer_is, brought_is, behind_brought, short_append, AgreesWith, longest_at, same_size}
use Rattle.call_fits.proofs.Brought.{brought_by, brought_from, calls_append, brought_append, own_calls, own_brought}

-- what is kept of a procedure whose first statements have been gone through
pub record IsNamed (stmts : List Placed) (links : List Link) (owner n : ℕ) (x : Latest) : Type 0 where
  pub calls : x.calls ≡ count_by is_call (lines_before stmts links owner n)
  pub longest : (front : ℕ) → is_short_behind front x.longest
      ≡ (are_short_behind front (variables_to stmts owner n) && are_short_behind front (brought_from (callees_before stmts links owner) 0 (lines_before stmts links owner n)))

-- with the lines ls and the variables vs more
record IsOneMore (cs : List Callee) (x new : Latest) (ls : List WrittenLine) (vs : List Place) : Type 0 where
  calls : new.calls ≡ x.calls + count_by is_call ls
  longest : (front : ℕ) → is_short_behind front new.longest
      ≡ (is_short_behind front x.longest && (are_short_behind front vs && are_short_behind front (brought_from cs x.calls ls)))

-- the number under which a CALL stands in the text
abbrev number : List Placed → ℕ → List ℕ → ℕ
number stmts i name = unwrap_or (procedure_named (setting_at stmts i) name) (counts_at stmts i).procedures - 1

called_is : (stmts : List Placed) (i : ℕ) (name : List ℕ) (table : List (Option ℕ)) → length table ≤ (counts_at stmts i).procedures - 1
    → called table (setting_at stmts i) name ≡ slice_get table (number stmts i name)
called_is stmts i name table few = by (procedure_named (setting_at stmts i) name)
  where
    by : (o : Option ℕ) → option_and_then (λ c. slice_get table (c - 1)) o ≡ slice_get table (unwrap_or o (counts_at stmts i).procedures - 1)
    by None = sym (slice_get_past table ((counts_at stmts i).procedures - 1) few)
    by (Some c) = refl

and_true : (b : Bool) → b ≡ (b && true)
and_true true = refl
and_true false = refl

call_added : (cs : List Callee) (x : Latest) (n : ℕ) (given : List Passed) (p : Option Callee) (o : Option (Option ℕ)) → slice_get cs n ≡ p → AgreesWith p o
    → IsOneMore cs x (with_call x o) (called_line.call n given ∷ []) []
call_added cs x n given None None e h = record {
  calls = refl;
  longest = λ front. and_true (is_short_behind front x.longest)
      ∙ ap (λ ps. is_short_behind front x.longest && are_short_behind front ps)
      (sym (append-nil (brought_by cs (x.calls + 1) (called_line.call n given))
      ∙ ap (λ q. elim q [ None ↦ [] | Some it ↦ map (expansion.brought (x.calls + 1)) it.expanded.places ]) e));
}
call_added cs x n given None (Some o) e h = absurd h
call_added cs x n given (Some it) None e h = absurd h
call_added cs x n given (Some it) (Some o) e h = record {
  calls = refl;
  longest = λ front. longer_is front x.longest (brought (front_length (x.calls + 1)) o)
      ∙ ap (λ b. is_short_behind front x.longest && b)
      (sym (brought_is front (front_length (x.calls + 1)) o)
      ∙ sym (h.each (front + front_length (x.calls + 1)))
      ∙ sym (behind_brought front (x.calls + 1) it.expanded.places)
      ∙ sym (ap (are_short_behind front) (append-nil (brought_by cs (x.calls + 1) (called_line.call n given))
      ∙ ap (λ q. elim q [ None ↦ [] | Some c ↦ map (expansion.brought (x.calls + 1)) c.expanded.places ]) e)));
}

-- a statement that is no CALL and no variable
line_added : (cs : List Callee) (x : Latest) (is : List Instruction) → IsOneMore cs x x (map own is) []
line_added cs x is =
    let a = own_calls is in
    record {
      calls = omega (arith, a);
      longest = λ front. and_true (is_short_behind front x.longest)
          ∙ ap (λ ps. is_short_behind front x.longest && are_short_behind front ps) (sym (own_brought cs x.calls is));
    }

added : (stmts : List Placed) (links : List Link) (i : ℕ) (table : List (Option ℕ)) (x : Latest) (says : Statement)
    → AreLongest (callees_before stmts links (counts_at stmts i).procedures) table → is_procedure says ≡ false
    → IsOneMore (callees_before stmts links (counts_at stmts i).procedures) x (latest_behind table (setting_at stmts i) x says)
    (written_lines stmts links (counts_at stmts i).procedures i says) (declared_place (setting_at stmts i) says)
added stmts links i table x (procedure name) t h = absurd (false≢true (sym h))
added stmts links i table x (variable m name used) t h = record {
  calls = omega arith;
  longest = λ front. longer_is front x.longest (Some (length name))
      ∙ ap (λ b. is_short_behind front x.longest && b) (and_true (nat_le (front + length name) 40) ∙ and_true (nat_le (front + length name) 40 && true));
}
added stmts links i table x (call name arguments) t h =
    let cs = callees_before stmts links (counts_at stmts i).procedures in
    let s = setting_at stmts i in
    let n = number stmts i name in
    let given = map (passed s) (pairings (parameters_named s name) arguments) in
    let few = few_before stmts links (counts_at stmts i).procedures in
    subst (λ o. IsOneMore cs x (with_call x o) (called_line.call n given ∷ []) [])
    (sym (called_is stmts i name table (subst (λ k. k ≤ (counts_at stmts i).procedures - 1) (sym (same_size cs table t)) few)))
    (call_added cs x n given (slice_get cs n) (slice_get table n) refl (longest_at cs table n t))
added stmts links i table x says t h = line_added (callees_before stmts links (counts_at stmts i).procedures) x
    (instructions (setting_at stmts i) (post_of stmts (counts_at stmts i).procedures) (target_at links i) says)

swapped : (a b v w : Bool) → ((a && b) && (v && w)) ≡ ((a && v) && (b && w))
swapped true true v w = refl
swapped true false true w = refl
swapped true false false w = refl
swapped false b v w = refl

-- a statement that begins no procedure
pub named_next : (stmts : List Placed) (links : List Link) (i : ℕ) (table : List (Option ℕ)) (x : Latest) (stmt : Placed) → slice_get stmts i ≡ Some stmt
    → AreLongest (callees_before stmts links (counts_at stmts i).procedures) table → is_procedure stmt.says ≡ false
    → IsNamed stmts links (counts_at stmts i).procedures i x
    → IsNamed stmts links (counts_at stmts i).procedures (i + 1) (latest_behind table (setting_at stmts i) x stmt.says)
named_next stmts links i table x stmt there t h e =
    let owner = (counts_at stmts i).procedures in
    let cs = callees_before stmts links owner in
    let ls = written_lines stmts links owner i stmt.says in
    let vs = declared_place (setting_at stmts i) stmt.says in
    let before = lines_before stmts links owner i in
    let a = added stmts links i table x stmt.says t h in
    let more : lines_before stmts links owner (i + 1) ≡ before ++ ls = given_more (written_lines stmts links owner) stmts owner i stmt there refl in
    let vars : variables_to stmts owner (i + 1) ≡ variables_to stmts owner i ++ vs =
    given_more (λ k y. declared_place (setting_at stmts k) y) stmts owner i stmt there refl in
    let k : x.calls ≡ 0 + count_by is_call before = let z : 0 + count_by is_call before ≡ count_by is_call before = omega arith in e.calls ∙ sym z in
    record {
      calls = a.calls ∙ ap (λ n. n + count_by is_call ls) e.calls ∙ sym (ap (count_by is_call) more ∙ calls_append before ls);
      longest = λ front. a.longest front
          ∙ ap (λ b. b && (are_short_behind front vs && are_short_behind front (brought_from cs x.calls ls))) (e.longest front)
          ∙ ap (λ n. (are_short_behind front (variables_to stmts owner i) && are_short_behind front (brought_from cs 0 before)) && (are_short_behind front vs && are_short_behind front (brought_from cs n ls))) k
          ∙ swapped (are_short_behind front (variables_to stmts owner i)) (are_short_behind front (brought_from cs 0 before)) (are_short_behind front vs)
          (are_short_behind front (brought_from cs (0 + count_by is_call before) ls))
          ∙ ap (λ b. b && (are_short_behind front (brought_from cs 0 before) && are_short_behind front (brought_from cs (0 + count_by is_call before) ls)))
          (sym (ap (are_short_behind front) vars ∙ short_append front (variables_to stmts owner i) vs))
          ∙ ap (λ b. are_short_behind front (variables_to stmts owner (i + 1)) && b)
          (sym (ap (λ xs. are_short_behind front (brought_from cs 0 xs)) more ∙ ap (are_short_behind front) (brought_append cs 0 before ls)
          ∙ short_append front (brought_from cs 0 before) (brought_from cs (0 + count_by is_call before) ls)));
    }

-- where a procedure begins
pub named_begins : (stmts : List Placed) (links : List Link) (owner i : ℕ) → i < length stmts → (counts_at stmts i).procedures < owner → IsNamed stmts links owner (i + 1) nothing_yet
named_begins stmts links owner i h less =
    let cs = callees_before stmts links owner in
    let ls : lines_before stmts links owner (i + 1) ≡ [] = none_yet (written_lines stmts links owner) stmts owner i h less in
    let vs : variables_to stmts owner (i + 1) ≡ [] = none_yet (λ k y. declared_place (setting_at stmts k) y) stmts owner i h less in
    record {
      calls = sym (ap (count_by is_call) ls);
      longest = λ front. sym (ap (λ qs. are_short_behind front qs && are_short_behind front (brought_from cs 0 (lines_before stmts links owner (i + 1)))) vs
          ∙ ap (λ xs. are_short_behind front (brought_from cs 0 xs)) ls);
    }
