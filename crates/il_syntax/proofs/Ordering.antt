-- How the stage of a text goes on from one statement to the next, and where it breaks.
use Rattle.std.proofs.Common.{◌≡◌, ℕ, suc, ◌+◌, ◌<◌, List, [], ◌∷◌, ◌++◌, length, get_or, take, drop, refl, sym, ◌∙◌, ap, append-nil}
use Rattle.std.specs.Prelude.{map, Option, Some, None}
use Rattle.std.specs.Option.{option_and_then}
use Rattle.std.proofs.Math.Seq.{drop-cons}
use Rattle.std.proofs.lemmas.List.{take-append-drop, map-append, take_more}
use Rattle.il_core.specs.Statement.{Placed, placed, statement_of}
use Rattle.il_core.specs.declared.statement.Stmt.{Stmt}
use Rattle.il_syntax.specs.declared.order.Stage.{Stage}
use Rattle.il_syntax.specs.declared.order.Stage.TheVariants as at
use Rattle.il_syntax.specs.Order.{run, next, part_of, BreaksAt}

-- an answer that is left as it is
same_option : (o : Option Stage) → option_and_then (λ after. Some after) o ≡ o
same_option None = refl
same_option (Some stage) = refl

-- what holds behind each stage holds behind the stage that is there, if any
behind_stage : (xs : List Placed) (s : Placed) (reached : Stage) (o : Option Stage)
    → ((after : Stage) → run after xs ≡ Some reached → run after (xs ++ s ∷ []) ≡ next reached (part_of s.says))
    → option_and_then (λ after. run after xs) o ≡ Some reached → option_and_then (λ after. run after (xs ++ s ∷ [])) o ≡ next reached (part_of s.says)
behind_stage xs s reached None claim e = cc
behind_stage xs s reached (Some after) claim e = claim after e

-- one more statement is one more step
pub run_behind : (stage : Stage) (front : List Placed) (s : Placed) (reached : Stage) → run stage front ≡ Some reached
    → run stage (front ++ s ∷ []) ≡ next reached (part_of s.says)
run_behind stage [] s reached e = let f : stage ≡ reached = cc in rw f (same_option (next reached (part_of s.says)))
run_behind stage (x ∷ xs) s reached e = behind_stage xs s reached (next stage (part_of x.says)) (λ after f. run_behind after xs s reached f) e

-- the statements up to one and with it
pub placed_more : (stmts : List Stmt) (i : ℕ) (stmt : Stmt) → i < length stmts → get_or stmts i stmt ≡ stmt
    → map placed (take (i + 1) stmts) ≡ map placed (take i stmts) ++ placed stmt ∷ []
placed_more stmts i stmt h e = ap (map placed) (take_more stmts i stmt h) ∙ map-append placed (take i stmts) (get_or stmts i stmt ∷ []) ∙ ap (λ x. map placed (take i stmts) ++ placed x ∷ []) e

-- the order goes on
pub goes_on : (stmts : List Stmt) (i : ℕ) (stmt : Stmt) (stage after : Stage) → i < length stmts → get_or stmts i stmt ≡ stmt
    → run at.Start (map placed (take i stmts)) ≡ Some stage → next stage (part_of (statement_of stmt.form)) ≡ Some after
    → run at.Start (map placed (take (i + 1) stmts)) ≡ Some after
goes_on stmts i stmt stage after h e before f = ap (run at.Start) (placed_more stmts i stmt h e) ∙ run_behind at.Start (map placed (take i stmts)) (placed stmt) stage before ∙ f

-- the statements before one, and the others
split_here : (stmts : List Stmt) (i : ℕ) (stmt : Stmt) → i < length stmts → get_or stmts i stmt ≡ stmt
    → map placed stmts ≡ map placed (take i stmts) ++ placed stmt ∷ map placed (drop (suc i) stmts)
split_here stmts i stmt h e =
    ap (map placed) (sym (take-append-drop i stmts)) ∙ map-append placed (take i stmts) (drop i stmts)
    ∙ ap (λ x. map placed (take i stmts) ++ map placed x) (drop-cons stmts i stmt h) ∙ ap (λ x. map placed (take i stmts) ++ placed x ∷ map placed (drop (suc i) stmts)) e

-- the order breaks at a statement
pub breaks_here : (text_len : ℕ) (stmts : List Stmt) (i : ℕ) (stmt : Stmt) (stage : Stage) → i < length stmts → get_or stmts i stmt ≡ stmt
    → run at.Start (map placed (take i stmts)) ≡ Some stage → next stage (part_of (statement_of stmt.form)) ≡ None
    → BreaksAt text_len (map placed stmts) stmt.place
breaks_here text_len stmts i stmt stage h e before f = record {
  front = map placed (take i stmts);
  rest = placed stmt ∷ map placed (drop (suc i) stmts);
  parts = split_here stmts i stmt h e;
  stage = stage;
  before = before;
  stops = (f, refl);
}

-- the order breaks at the end of the text
pub breaks_behind : (text_len : ℕ) (stmts : List Placed) (stage : Stage) → run at.Start stmts ≡ Some stage → (stage ≡ at.Done → ⊥) → BreaksAt text_len stmts text_len
breaks_behind text_len stmts stage before other = record {
  front = stmts;
  rest = [];
  parts = sym (append-nil stmts);
  stage = stage;
  before = before;
  stops = (other, refl);
}
