-- The procedures of a text are numbered from 1 in the order of their PROCs.
use Rattle.std.proofs.Common.{◌≡◌, ℕ, zero, suc, ◌+◌, ◌<◌, ◌≤◌, ◌∙◌, sym, ap, refl, List, [], ◌∷◌, ◌++◌, length, take, drop, get_or, arith, append-nil, add-zero}
use Rattle.std.specs.Prelude.{Some, slice_get}
use Rattle.std.proofs.lemmas.List.{take-append-drop, take_more, length-append}
use Rattle.std.proofs.lemmas.List.Concat.{flat_map-append}
use Rattle.std.proofs.lemmas.Option.{get_or_from_slice_get, slice_get-get_or, slice_get_within}
use Rattle.std.proofs.Math.Seq.{drop-cons}
use Rattle.il_core.specs.Statement.{Statement, Placed, procedure, variable}
use Rattle.il_core.specs.Text.{TextProcedure}
use Rattle.il_core.specs.declared.statement.Link.{Link}
use Rattle.il_types.specs.declared.counts.Counts.{Counts}
use Rattle.il_types.specs.Counts.{counts_behind}
use Rattle.il_types.specs.Names.{counts_at}
use Rattle.il_built.specs.CheckedText.{named, procedure_of, procedure_names, procedures_from}
use Rattle.il_built.proofs.Given.{counts_next}

-- the names of one statement more
pub names_next : (stmts : List Placed) (i : ℕ) (x : Placed) → slice_get stmts i ≡ Some x → procedure_names (take (i + 1) stmts) ≡ procedure_names (take i stmts) ++ named x
names_next stmts i x e =
    let h = slice_get_within stmts i x e in
    ap procedure_names (take_more stmts i x h) ∙ flat_map-append named (take i stmts) (get_or stmts i x ∷ [])
    ∙ ap (λ (y : Placed). procedure_names (take i stmts) ++ (named y ++ [])) (get_or_from_slice_get stmts i x x e)
    ∙ ap (λ ns. procedure_names (take i stmts) ++ ns) (append-nil (named x))

-- a statement has one procedure more behind it than in front of it for each name
one_for_each : (c : Counts) (place : ℕ) (x : Statement) → (counts_behind c x).procedures ≡ c.procedures + length (named (record { place = place; says = x }))
one_for_each c place (procedure name) = refl
one_for_each c place (variable m name used) = sym (add-zero c.procedures)
one_for_each c place x = sym (add-zero c.procedures)

-- as many names stand in front of a statement as procedures
pub names_counted : (stmts : List Placed) (d : Placed) (i : ℕ) → i ≤ length stmts → length (procedure_names (take i stmts)) ≡ (counts_at stmts i).procedures
names_counted stmts d zero h = refl
names_counted stmts d (suc i) h =
    let inside : i < length stmts = omega arith in
    let x = get_or stmts i d in
    let e = slice_get-get_or stmts i d inside in
    let n : suc i ≡ i + 1 = omega arith in
    ap (λ k. length (procedure_names (take k stmts))) n ∙ ap length (names_next stmts i x e) ∙ length-append (procedure_names (take i stmts)) (named x)
    ∙ ap (λ k. k + length (named x)) (names_counted stmts d i (omega arith))
    ∙ sym (one_for_each (counts_at stmts i) x.place x.says)
    ∙ sym (ap (λ (c : Counts). c.procedures) (counts_next stmts i x e))

-- an element between two lists
between : {A : Type 0} (front rest : List A) (a : A) → slice_get (front ++ a ∷ rest) (length front) ≡ Some a
between [] rest a = refl
between (b ∷ front) rest a = between front rest a

-- the name that a PROC declares is that of its procedure
pub name_there : (stmts : List Placed) (i : ℕ) (x : Placed) (name : List ℕ) → slice_get stmts i ≡ Some x → x.says ≡ procedure name
    → slice_get (procedure_names stmts) (counts_at stmts i).procedures ≡ Some name
name_there stmts i x name e says =
    let h = slice_get_within stmts i x e in
    let front = procedure_names (take i stmts) in
    let rest = procedure_names (drop (suc i) stmts) in
    let here : named (get_or stmts i x) ≡ name ∷ [] =
    ap named (get_or_from_slice_get stmts i x x e) ∙ ap (λ s. named (record { place = x.place; says = s })) says in
    let parts : procedure_names stmts ≡ front ++ name ∷ rest =
    sym (ap procedure_names (take-append-drop i stmts)) ∙ flat_map-append named (take i stmts) (drop i stmts)
    ∙ ap (λ (xs : List Placed). front ++ procedure_names xs) (drop-cons stmts i x h) ∙ ap (λ ns. front ++ (ns ++ rest)) here in
    ap (λ ns. slice_get ns (counts_at stmts i).procedures) parts
    ∙ sym (ap (λ n. slice_get (front ++ name ∷ rest) n) (names_counted stmts x i (omega arith))) ∙ between front rest name

-- procedures that stand behind others are numbered behind them
procedures_append : (stmts : List Placed) (links : List Link) (owner : ℕ) (a b : List (List ℕ))
    → procedures_from stmts links owner (a ++ b) ≡ procedures_from stmts links owner a ++ procedures_from stmts links (owner + length a) b
procedures_append stmts links owner [] b = let e : owner ≡ owner + 0 = omega arith in ap (λ n. procedures_from stmts links n b) e
procedures_append stmts links owner (name ∷ a) b =
    let e : suc owner + length a ≡ owner + suc (length a) = omega arith in
    let first : TextProcedure = record { name = name; body = procedure_of stmts links owner } in
    ap (λ ps. first ∷ ps) (procedures_append stmts links (suc owner) a b ∙ ap (λ n. procedures_from stmts links (suc owner) a ++ procedures_from stmts links n b) e)

-- the procedures with one statement more
procedures_next : (stmts : List Placed) (links : List Link) (i : ℕ) (x : Placed) → slice_get stmts i ≡ Some x
    → procedures_from stmts links 1 (procedure_names (take (i + 1) stmts))
    ≡ procedures_from stmts links 1 (procedure_names (take i stmts)) ++ procedures_from stmts links (1 + (counts_at stmts i).procedures) (named x)
procedures_next stmts links i x e =
    let h = slice_get_within stmts i x e in
    let front = procedure_names (take i stmts) in
    ap (procedures_from stmts links 1) (names_next stmts i x e) ∙ procedures_append stmts links 1 front (named x)
    ∙ ap (λ n. procedures_from stmts links 1 front ++ procedures_from stmts links (1 + n) (named x)) (names_counted stmts x i (omega arith))

-- the procedures in front of the next statement
pub counted_next : (stmts : List Placed) (i : ℕ) (x : Placed) → slice_get stmts i ≡ Some x → (counts_at stmts (i + 1)).procedures ≡ (counts_at stmts i).procedures + length (named x)
counted_next stmts i x e =
    let n : i + 1 ≡ suc i = omega arith in
    ap (λ k. (counts_at stmts k).procedures) n ∙ ap (λ (c : Counts). c.procedures) (counts_next stmts i x e) ∙ one_for_each (counts_at stmts i) x.place x.says

-- a PROC adds its procedure
pub one_made : (stmts : List Placed) (links : List Link) (i owner : ℕ) (x : Placed) (name : List ℕ) (made : List TextProcedure) (p : TextProcedure)
    → slice_get stmts i ≡ Some x → named x ≡ name ∷ [] → owner ≡ (counts_at stmts i).procedures + 1
    → made ≡ procedures_from stmts links 1 (procedure_names (take i stmts)) → p ≡ record { name = name; body = procedure_of stmts links owner }
    → made ++ p ∷ [] ≡ procedures_from stmts links 1 (procedure_names (take (i + 1) stmts))
one_made stmts links i owner x name made p e is o m made_of =
    let front = procedures_from stmts links 1 (procedure_names (take i stmts)) in
    let number : owner ≡ 1 + (counts_at stmts i).procedures = omega arith in
    ap (λ ps. ps ++ p ∷ []) m ∙ ap (λ q. front ++ q ∷ []) made_of
    ∙ ap (λ n. front ++ procedures_from stmts links n (name ∷ [])) number
    ∙ sym (ap (λ ns. front ++ procedures_from stmts links (1 + (counts_at stmts i).procedures) ns) is) ∙ sym (procedures_next stmts links i x e)

-- another statement adds none
pub none_made : (stmts : List Placed) (links : List Link) (i : ℕ) (x : Placed) → slice_get stmts i ≡ Some x → named x ≡ []
    → procedures_from stmts links 1 (procedure_names (take i stmts)) ≡ procedures_from stmts links 1 (procedure_names (take (i + 1) stmts))
none_made stmts links i x e is =
    let front = procedures_from stmts links 1 (procedure_names (take i stmts)) in
    sym (append-nil front) ∙ sym (ap (λ ns. front ++ procedures_from stmts links (1 + (counts_at stmts i).procedures) ns) is) ∙ sym (procedures_next stmts links i x e)

-- as many procedures as names
pub procedures_counted : (stmts : List Placed) (links : List Link) (owner : ℕ) (names : List (List ℕ)) → length (procedures_from stmts links owner names) ≡ length names
procedures_counted stmts links owner [] = refl
procedures_counted stmts links owner (name ∷ names) = ap suc (procedures_counted stmts links (suc owner) names)
