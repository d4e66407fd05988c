-- The procedures of a text with calls, one behind the other as their PROCs stand.
use Rattle.std.proofs.Common.{◌≡◌, ℕ, suc, ◌+◌, ◌∙◌, sym, ap, List, [], ◌∷◌, ◌++◌, length, take, arith, append-nil}
use Rattle.std.specs.Prelude.{Some, slice_get}
use Rattle.std.proofs.lemmas.Option.{slice_get_within}
use Rattle.il_core.specs.Statement.{Placed}
use Rattle.il_core.specs.declared.statement.Link.{Link}
use Rattle.il_types.specs.Names.{counts_at}
use Rattle.il_built.specs.CheckedText.{named, procedure_names}
use Rattle.il_built.proofs.ProcedureNames.{names_next, names_counted}
use Rattle.il_called.specs.Called.{WrittenProcedure}
use Rattle.call_rules.specs.CalledText.{written_procedure, procedures_from}

-- procedures that stand behind others are numbered behind them
procedures_append : (stmts : List Placed) (links : List Link) (owner : ℕ) (a b : List (List ℕ))
    → procedures_from stmts links owner (a ++ b) ≡ procedures_from stmts links owner a ++ procedures_from stmts links (owner + length a) b
procedures_append stmts links owner [] b = let e : owner ≡ owner + 0 = omega arith in ap (λ n. procedures_from stmts links n b) e
procedures_append stmts links owner (name ∷ a) b =
    let e : suc owner + length a ≡ owner + suc (length a) = omega arith in
    ap (λ ps. written_procedure stmts links owner name ∷ ps)
    (procedures_append stmts links (suc owner) a b ∙ ap (λ n. procedures_from stmts links (suc owner) a ++ procedures_from stmts links n b) e)

-- the procedures with one statement more
procedures_next : (stmts : List Placed) (links : List Link) (i : ℕ) (x : Placed) → slice_get stmts i ≡ Some x
    → procedures_from stmts links 1 (procedure_names (take (i + 1) stmts))
    ≡ procedures_from stmts links 1 (procedure_names (take i stmts)) ++ procedures_from stmts links (1 + (counts_at stmts i).procedures) (named x)
procedures_next stmts links i x e =
    let h = slice_get_within stmts i x e in
    let front = procedure_names (take i stmts) in
    ap (procedures_from stmts links 1) (names_next stmts i x e) ∙ procedures_append stmts links 1 front (named x)
    ∙ ap (λ n. procedures_from stmts links 1 front ++ procedures_from stmts links (1 + n) (named x)) (names_counted stmts x i (omega arith))

-- a PROC adds its procedure
pub one_made : (stmts : List Placed) (links : List Link) (i owner : ℕ) (x : Placed) (name : List ℕ) (made : List WrittenProcedure) (p : WrittenProcedure)
    → slice_get stmts i ≡ Some x → named x ≡ name ∷ [] → owner ≡ (counts_at stmts i).procedures + 1
    → made ≡ procedures_from stmts links 1 (procedure_names (take i stmts)) → p ≡ written_procedure stmts links owner name
    → made ++ p ∷ [] ≡ procedures_from stmts links 1 (procedure_names (take (i + 1) stmts))
one_made stmts links i owner x name made p e is o m made_of =
    let front = procedures_from stmts links 1 (procedure_names (take i stmts)) in
    let number : owner ≡ 1 + (counts_at stmts i).procedures = omega arith in
    ap (λ ps. ps ++ p ∷ []) m ∙ ap (λ q. front ++ q ∷ []) made_of
    ∙ ap (λ n. front ++ procedures_from stmts links n (name ∷ [])) number
    ∙ sym (ap (λ ns. front ++ procedures_from stmts links (1 + (counts_at stmts i).procedures) ns) is) ∙ sym (procedures_next stmts links i x e)

-- another statement adds none
pub none_made : (stmts : List Placed) (links : List Link) (i : ℕ) (x : Placed) → slice_get stmts i ≡ Some x → named x ≡ []
    → procedures_from stmts links 1 (procedure_names (take i stmts)) ≡ procedures_from stmts links 1 (procedure_names (take (i + 1) stmts))
none_made stmts links i x e is =
    let front = procedures_from stmts links 1 (procedure_names (take i stmts)) in
    sym (append-nil front) ∙ sym (ap (λ ns. front ++ procedures_from stmts links (1 + (counts_at stmts i).procedures) ns) is) ∙ sym (procedures_next stmts links i x e)
