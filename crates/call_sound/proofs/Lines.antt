-- Which statement gives a line of a procedure of a text with calls.
use Rattle.std.proofs.Common.{◌≡◌, ℕ, ◌-◌, ◌≤◌, ◌∙◌, sym, ap, refl, List, [], ◌∷◌, length, take, arith}
use Rattle.std.specs.Prelude.{Some, map, slice_get, unwrap_or}
use Rattle.std.proofs.Math.Seq.{take-append_seam}
use Rattle.std.proofs.lemmas.Option.{slice_get_within}
use Rattle.il_core.specs.Statement.{Statement, Placed}
use Rattle.il_core.specs.Statement as st
use Rattle.il_core.specs.Tree.{Tree}
use Rattle.il_core.specs.declared.statement.Link.{Link}
use Rattle.il_types.specs.Names.{counts_at}
use Rattle.il_built.specs.Holding.{setting_at}
use Rattle.il_built.proofs.CheckedLinesGiven.{given_is, given_found}
use Rattle.il_built.proofs.Given.{given_by, given_front}
use Rattle.il_called.specs.Called.{Passed, WrittenLine, call}
use Rattle.call_rules.specs.Callee.{procedure_named, parameters_named, pairings}
use Rattle.call_rules.specs.CalledText.{passed, written_lines, lines_before}

-- a statement gives one line at most
few : (stmts : List Placed) (links : List Link) (owner i : ℕ) (x : Statement) → length (written_lines stmts links owner i x) ≤ 1
few stmts links owner i (st.call name arguments) = omega arith
few stmts links owner i _ = omega arith

-- line n of a procedure is that of a statement, behind the lines that the statements before it give
pub record IsWrittenAt (stmts : List Placed) (links : List Link) (owner n : ℕ) (line : WrittenLine) : Type 0 where
  pub at : ℕ
  pub stmt : Placed
  pub there : slice_get stmts at ≡ Some stmt
  pub own : (counts_at stmts at).procedures ≡ owner
  pub gives : written_lines stmts links owner at stmt.says ≡ line ∷ []
  pub before : take n (lines_before stmts links owner (length stmts)) ≡ lines_before stmts links owner at

pub line_written : (stmts : List Placed) (links : List Link) (owner n : ℕ) (line : WrittenLine) → slice_get (lines_before stmts links owner (length stmts)) n ≡ Some line
    → IsWrittenAt stmts links owner n line
line_written stmts links owner n line e =
    let give = written_lines stmts links owner in
    let g = given_found give stmts owner n line (few stmts links owner) e in
    let within = slice_get_within stmts g.at g.stmt g.there in
    let front = given_front give stmts owner g.at (length stmts) (omega arith) in
    let count : length (given_by give stmts owner g.at) ≡ n = ap length (given_is give stmts owner g.at) ∙ g.number in
    record {
      at = g.at;
      stmt = g.stmt;
      there = g.there;
      own = g.own;
      gives = g.gives;
      before = ap (λ m. take m (given_by give stmts owner (length stmts))) (sym count) ∙ ap (take (length (given_by give stmts owner g.at))) front.1
          ∙ take-append_seam (given_by give stmts owner g.at) front.0;
    }

-- a CALL with what it gives
record IsCallLine (stmts : List Placed) (i c : ℕ) (arguments : List Passed) (x : Statement) : Type 0 where
  name : List ℕ
  given : List Tree
  says : x ≡ st.call name given
  number : unwrap_or (procedure_named (setting_at stmts i) name) (counts_at stmts i).procedures - 1 ≡ c
  passed : map (passed (setting_at stmts i)) (pairings (parameters_named (setting_at stmts i) name) given) ≡ arguments

call_is : (stmts : List Placed) (links : List Link) (owner i c : ℕ) (arguments : List Passed) (x : Statement) → written_lines stmts links owner i x ≡ call c arguments ∷ []
    → IsCallLine stmts i c arguments x
call_is stmts links owner i c arguments (st.call name given) e = record { name = name; given = given; says = refl; number = cc; passed = cc }
call_is stmts links owner i c arguments _ e = absurd (cc)

-- a call of a procedure is that of a CALL
pub record IsCallAt (stmts : List Placed) (links : List Link) (owner n c : ℕ) (arguments : List Passed) : Type 0 where
  pub at : ℕ
  pub stmt : Placed
  pub there : slice_get stmts at ≡ Some stmt
  pub own : (counts_at stmts at).procedures ≡ owner
  pub name : List ℕ
  pub given : List Tree
  pub says : stmt.says ≡ st.call name given
  pub number : unwrap_or (procedure_named (setting_at stmts at) name) (counts_at stmts at).procedures - 1 ≡ c
  pub passed : map (passed (setting_at stmts at)) (pairings (parameters_named (setting_at stmts at) name) given) ≡ arguments
  pub before : take n (lines_before stmts links owner (length stmts)) ≡ lines_before stmts links owner at

pub call_written : (stmts : List Placed) (links : List Link) (owner n c : ℕ) (arguments : List Passed)
    → slice_get (lines_before stmts links owner (length stmts)) n ≡ Some (call c arguments) → IsCallAt stmts links owner n c arguments
call_written stmts links owner n c arguments e =
    let w = line_written stmts links owner n (call c arguments) e in
    let l = call_is stmts links owner w.at c arguments w.stmt.says w.gives in
    record {
      at = w.at;
      stmt = w.stmt;
      there = w.there;
      own = w.own;
      name = l.name;
      given = l.given;
      says = l.says;
      number = l.number;
      passed = l.passed;
      before = w.before;
    }
