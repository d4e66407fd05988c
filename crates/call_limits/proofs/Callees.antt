-- The procedures before the one of a number, as the procedures begin one behind the other.
use Rattle.std.proofs.Common.{◌≡◌, ℕ, zero, suc, ◌+◌, ◌-◌, ◌<◌, ◌≤◌, ◌∙◌, sym, ap, subst, refl, List, [], ◌∷◌, ◌++◌, length, take, get_or, arith}
use Rattle.std.specs.Prelude.{Some, None, slice_get}
use Rattle.std.proofs.lemmas.List.{length-append}
use Rattle.std.proofs.lemmas.Option.{slice_get_within, slice_get-get_or}
use Rattle.il_core.specs.Statement.{Placed, procedure}
use Rattle.il_core.specs.declared.statement.Link.{Link}
use Rattle.il_types.specs.Names.{counts_at}
use Rattle.il_built.specs.CheckedText.{procedure_names}
use Rattle.il_built.proofs.ProcedureNames.{name_there}
use Rattle.il_called.specs.Called.{WrittenProcedure}
use Rattle.il_called.specs.Expansion.{Callee, expansion_of, callees_behind, callees_of}
use Rattle.call_rules.specs.CalledText.{written_procedure, procedures_from, written_procedures, callees_before}

abbrev pub made : List Callee → WrittenProcedure → Callee
made before p = record { written = p; expanded = expansion_of before (length before) p }

pub pushed : (before : List Callee) (ps : List WrittenProcedure) (p : WrittenProcedure)
    → callees_behind before (ps ++ p ∷ []) ≡ callees_behind before ps ++ made (callees_behind before ps) p ∷ []
pushed before [] p = refl
pushed before (q ∷ ps) p = pushed (before ++ made before q ∷ []) ps p

pub callees_push : (ps : List WrittenProcedure) (p : WrittenProcedure) → callees_of (ps ++ p ∷ []) ≡ callees_of ps ++ made (callees_of ps) p ∷ []
unfolding callees_of
callees_push ps p = pushed [] ps p

pub length_behind : (before : List Callee) (ps : List WrittenProcedure) → length (callees_behind before ps) ≡ length before + length ps
length_behind before [] = omega arith
length_behind before (p ∷ ps) =
    let l = length-append before (made before p ∷ []) in
    let r = length_behind (before ++ made before p ∷ []) ps in
    r ∙ ap (λ n. n + length ps) l ∙ omega arith

pub length_callees : (ps : List WrittenProcedure) → length (callees_of ps) ≡ length ps
unfolding callees_of
length_callees ps = let e : 0 + length ps ≡ length ps = omega arith in length_behind [] ps ∙ e

-- before all procedures there is none
pub none_before : (stmts : List Placed) (links : List Link) → callees_before stmts links 0 ≡ []
unfolding callees_of
none_before stmts links = refl

pub length_take : (ps : List WrittenProcedure) (n : ℕ) → length (take n ps) ≤ n
length_take ps zero = omega arith
length_take [] (suc n) = omega arith
length_take (p ∷ ps) (suc n) = let l = length_take ps n in omega arith

-- fewer procedures stand before one than its number
pub few_before : (stmts : List Placed) (links : List Link) (owner : ℕ) → length (callees_before stmts links owner) ≤ owner - 1
few_before stmts links owner =
    let ps = take (owner - 1) (written_procedures stmts links) in
    let l = length_take (written_procedures stmts links) (owner - 1) in
    subst (λ n. n ≤ owner - 1) (sym (length_callees ps)) l

pub take_next : {A : Type 0} (xs : List A) (n : ℕ) (x : A) → slice_get xs n ≡ Some x → take (suc n) xs ≡ take n xs ++ x ∷ []
take_next [] zero x e = absurd (none e)
  where
    none : {A : Type 0} {x : A} → None ≡ Some x → ⊥
    none e = cc
take_next [] (suc n) x e = absurd (none e)
  where
    none : {A : Type 0} {x : A} → None ≡ Some x → ⊥
    none e = cc
take_next (y ∷ xs) zero x e = let s : y ≡ x = cc in ap (λ z. z ∷ []) s
take_next (y ∷ xs) (suc n) x e = ap (λ zs. y ∷ zs) (take_next xs n x e)

pub procedure_there : (stmts : List Placed) (links : List Link) (owner : ℕ) (names : List (List ℕ)) (j : ℕ) (name : List ℕ) → slice_get names j ≡ Some name
    → slice_get (procedures_from stmts links owner names) j ≡ Some (written_procedure stmts links (owner + j) name)
procedure_there stmts links owner (n ∷ names) zero name e =
    let s : n ≡ name = cc in
    let o : owner ≡ owner + 0 = omega arith in
    ap (λ m. Some (written_procedure stmts links owner m)) s ∙ ap (λ k. Some (written_procedure stmts links k name)) o
procedure_there stmts links owner (n ∷ names) (suc j) name e =
    let o : suc owner + j ≡ owner + suc j = omega arith in
    procedure_there stmts links (suc owner) names j name e ∙ ap (λ k. Some (written_procedure stmts links k name)) o
procedure_there stmts links owner [] zero name e = cc
procedure_there stmts links owner [] (suc j) name e = cc

-- where a procedure begins, the one that ends stands behind those before it
pub record IsEnded (stmts : List Placed) (links : List Link) (owner : ℕ) : Type 0 where
  pub name : List ℕ
  pub before : callees_before stmts links (owner + 1) ≡ callees_before stmts links owner ++ made (callees_before stmts links owner) (written_procedure stmts links owner name) ∷ []

pub ended : (stmts : List Placed) (links : List Link) (i owner : ℕ) (x : Placed) (opened : List ℕ) → slice_get stmts i ≡ Some x → x.says ≡ procedure opened
    → owner ≡ (counts_at stmts i).procedures → 0 < owner → IsEnded stmts links owner
ended stmts links i owner x opened there says is some =
    let names = procedure_names stmts in
    let ps = written_procedures stmts links in
    let next : slice_get names owner ≡ Some opened = ap (slice_get names) is ∙ name_there stmts i x opened there says in
    let within = slice_get_within names owner opened next in
    let inside : owner - 1 < length names = omega arith in
    let own = slice_get-get_or names (owner - 1) opened inside in
    let number : 1 + (owner - 1) ≡ owner = omega arith in
    let count : owner + 1 - 1 ≡ suc (owner - 1) = omega arith in
    let p = written_procedure stmts links owner (get_or names (owner - 1) opened) in
    let at : slice_get ps (owner - 1) ≡ Some p =
    procedure_there stmts links 1 names (owner - 1) (get_or names (owner - 1) opened) own
    ∙ ap (λ k. Some (written_procedure stmts links k (get_or names (owner - 1) opened))) number in
    record {
      name = get_or names (owner - 1) opened;
      before = ap (λ n. callees_of (take n ps)) count ∙ ap callees_of (take_next ps (owner - 1) p at) ∙ callees_push (take (owner - 1) ps) p;
    }
