-- What is given to a procedure by the statements before it begins and behind its end: nothing.
use Rattle.std.proofs.Common.{◌≡◌, ◌≢◌, ℕ, zero, suc, ◌+◌, ◌-◌, ◌<◌, ◌≤◌, ◌∙◌, sym, ap, subst, List, [], ◌++◌, length, arith, append-nil}
use Rattle.std.specs.Prelude.{Some, slice_get}
use Rattle.il_core.specs.Statement.{Statement, Placed, procedure, variable}
use Rattle.il_types.specs.declared.counts.Counts.{Counts}
use Rattle.il_types.specs.Counts.{counts_behind}
use Rattle.il_types.specs.Names.{counts_at}
use Rattle.il_built.specs.CheckedText.{given}
use Rattle.il_built.proofs.Given.{stands, counts_next, given_by, given_next, given_here, not_given}

no_fewer : (c : Counts) (x : Statement) → c.procedures ≤ (counts_behind c x).procedures
no_fewer c (procedure name) = omega arith
no_fewer c (variable m name used) = omega arith
no_fewer c x = omega arith

-- a later statement has no fewer procedures in front of it
pub later : (stmts : List Placed) (i k : ℕ) → i + k ≤ length stmts → (counts_at stmts i).procedures ≤ (counts_at stmts (i + k)).procedures
later stmts i zero h = let e : i ≡ i + 0 = omega arith in subst (λ n. (counts_at stmts i).procedures ≤ (counts_at stmts n).procedures) e (omega arith)
later stmts i (suc k) h =
    let e : suc (i + k) ≡ i + suc k = omega arith in
    let x = stands stmts (i + k) (omega arith) in
    let next = counts_next stmts (i + k) x.0 x.1 in
    let more : (counts_at stmts (i + k)).procedures ≤ (counts_at stmts (suc (i + k))).procedures =
    subst (λ (c : Counts). (counts_at stmts (i + k)).procedures ≤ c.procedures) (sym next) (no_fewer (counts_at stmts (i + k)) x.0.says) in
    let before : (counts_at stmts i).procedures ≤ (counts_at stmts (i + k)).procedures = later stmts i k (omega arith) in
    subst (λ n. (counts_at stmts i).procedures ≤ (counts_at stmts n).procedures) e (omega arith)

-- statements of other procedures add nothing
skipped : {A : Type 0} (give : ℕ → Statement → List A) (stmts : List Placed) (owner m k : ℕ) → m + k ≤ length stmts
    → ((i : ℕ) → m ≤ i → i < m + k → (counts_at stmts i).procedures ≢ owner) → given_by give stmts owner (m + k) ≡ given_by give stmts owner m
skipped give stmts owner m zero h other = let e : m + 0 ≡ m = omega arith in ap (given_by give stmts owner) e
skipped give stmts owner m (suc k) h other =
    let e : m + suc k ≡ suc (m + k) = omega arith in
    let x = stands stmts (m + k) (omega arith) in
    ap (given_by give stmts owner) e ∙ given_next give stmts owner (m + k)
    ∙ ap (λ xs. given_by give stmts owner (m + k) ++ xs) (not_given give stmts owner (m + k) x.0 x.1 (other (m + k) (omega arith) (omega arith)))
    ∙ append-nil (given_by give stmts owner (m + k))
    ∙ skipped give stmts owner m k (omega arith) (λ i le lt. other i le (omega arith))

-- where a procedure begins nothing is given to it yet
pub none_yet : {A : Type 0} (give : ℕ → Statement → List A) (stmts : List Placed) (owner i : ℕ) → i < length stmts
    → (counts_at stmts i).procedures < owner → given_by give stmts owner (i + 1) ≡ []
none_yet give stmts owner i h less = let e : i + 1 ≡ 0 + (i + 1) = omega arith in ap (given_by give stmts owner) e ∙ skipped give stmts owner 0 (i + 1) (omega arith) other
  where
    other : (j : ℕ) → 0 ≤ j → j < 0 + (i + 1) → (counts_at stmts j).procedures ≢ owner
    other j le lt e =
        let n : j + (i - j) ≡ i = omega arith in
        let l : (counts_at stmts j).procedures ≤ (counts_at stmts i).procedures =
        subst (λ m. (counts_at stmts j).procedures ≤ (counts_at stmts m).procedures) n (later stmts j (i - j) (omega arith)) in
        absurd (omega arith)

-- where the next procedure has begun all is given to it
pub all_given : {A : Type 0} (give : ℕ → Statement → List A) (stmts : List Placed) (owner n : ℕ) → n ≤ length stmts
    → owner < (counts_at stmts n).procedures → given give stmts owner ≡ given_by give stmts owner n
all_given give stmts owner n h more =
    let e : length stmts ≡ n + (length stmts - n) = omega arith in
    ap (given_by give stmts owner) e ∙ skipped give stmts owner n (length stmts - n) (omega arith) other
  where
    other : (j : ℕ) → n ≤ j → j < n + (length stmts - n) → (counts_at stmts j).procedures ≢ owner
    other j le lt e =
        let m : n + (j - n) ≡ j = omega arith in
        let l : (counts_at stmts n).procedures ≤ (counts_at stmts j).procedures =
        subst (λ k. (counts_at stmts n).procedures ≤ (counts_at stmts k).procedures) m (later stmts n (j - n) (omega arith)) in
        absurd (omega arith)

-- one statement of the procedure more
pub given_more : {A : Type 0} (give : ℕ → Statement → List A) (stmts : List Placed) (owner i : ℕ) (x : Placed) → slice_get stmts i ≡ Some x
    → (counts_at stmts i).procedures ≡ owner → given_by give stmts owner (i + 1) ≡ given_by give stmts owner i ++ give i x.says
given_more give stmts owner i x there own =
    let n : i + 1 ≡ suc i = omega arith in
    ap (given_by give stmts owner) n ∙ given_next give stmts owner i
    ∙ ap (λ xs. given_by give stmts owner i ++ xs) (given_here give stmts owner i x there own)
