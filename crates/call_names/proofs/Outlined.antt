-- The outlines that are gathered are those of the procedures of the text with calls.
use Rattle.std.proofs.Common.{◌≡◌, ℕ, zero, suc, ◌+◌, ◌-◌, ◌<◌, ◌≤◌, ◌∙◌, sym, ap, subst, refl, Bool, true, false, List, [], ◌∷◌, ◌++◌, length, take, drop, get_or, arith, nat_eq, if◌then◌else◌, cond, append-nil}
use Rattle.std.specs.Prelude.{Option, Some, None, map, filter, slice_get, unwrap_or}
use Rattle.std.specs.List.{flat_map}
use Rattle.std.specs.Option.{option_map}
use Rattle.std.proofs.lemmas.List.{map-append, length-append, length-drop, take_more, take_all}
use Rattle.std.proofs.lemmas.Option.{slice_get-map, get_or_from_slice_get, same_Some}
use Rattle.std.proofs.lemmas.List.Concat.{flat_map-append}
use Rattle.il_core.specs.Checked.{old_copy, is_copied}
use Rattle.il_core.specs.Statement.{Statement, Placed, variable, call}
use Rattle.il_core.specs.declared.statement.Link.{Link}
use Rattle.il_types.specs.Names.{Setting, counts_at, front_of}
use Rattle.il_built.specs.CheckedText.{of_procedure, declared_place, places_of, named, procedure_names}
use Rattle.il_built.specs.Holding.{setting_at}
use Rattle.il_built.proofs.Given.{stands, given_by, given_next}
use Rattle.il_built.proofs.ProcedureNames.{counted_next}
use Rattle.il_called.specs.Called.{WrittenProcedure}
use Rattle.il_called.specs.Expansion.{variables_in}
use Rattle.call_rules.specs.CalledText.{written_lines, lines_before, written_procedure, procedures_from, written_procedures}
use Rattle.call_limits.proofs.Variables.{variables_are, copies_behind}
use Rattle.call_names.specs.Outlines.{summary, callee_in, IsOutlined, AreOutlined}
use Rattle.call_names.specs.Gathered.{declared_variable, called_in, variables_to, calls_to, AreGathered}
use Rattle.call_names.specs.declared.outline.Outline.{Outline}

-- what becomes of all that is given is what becomes of what each statement gives
given_each : {A B : Type 0} (F : List A → List B) (give : ℕ → Statement → List A) (other : ℕ → Statement → List B) (stmts : List Placed) (owner n : ℕ) → F [] ≡ []
    → ((xs ys : List A) → F (xs ++ ys) ≡ F xs ++ F ys) → ((i : ℕ) (x : Statement) → F (give i x) ≡ other i x) → F (given_by give stmts owner n) ≡ given_by other stmts owner n
given_each F give other stmts owner zero none join one = none
given_each F give other stmts owner (suc i) none join one =
    ap F (given_next give stmts owner i) ∙ join (given_by give stmts owner i) (of_procedure give stmts owner i)
    ∙ ap (λ a. a ++ F (of_procedure give stmts owner i)) (given_each F give other stmts owner i none join one)
    ∙ ap (λ a. given_by other stmts owner i ++ a) (by (slice_get stmts i) (nat_eq (counts_at stmts i).procedures owner))
    ∙ sym (given_next other stmts owner i)
  where
    kept : (b : Bool) (x : Placed) → F (cond b (give i x.says) []) ≡ cond b (other i x.says) []
    kept true x = one i x.says
    kept false x = none

    by : (o : Option Placed) (b : Bool) → F (elim o [ None ↦ [] | Some x ↦ (if b then give i x.says else []) ]) ≡ elim o [ None ↦ [] | Some x ↦ (if b then other i x.says else []) ]
    by None b = none
    by (Some x) b = kept b x

summarized : (s : Setting) (x : Statement) → map summary (declared_place s x) ≡ declared_variable x
summarized s (variable m name used) = refl
summarized s _ = refl

-- the variables that are gathered are those that the procedure has
pub variables_gathered : (stmts : List Placed) (owner n : ℕ)
    → map summary (given_by (λ i x. declared_place (setting_at stmts i) x) stmts owner n) ≡ given_by (λ i x. declared_variable x) stmts owner n
variables_gathered stmts owner n = given_each (map summary) (λ i x. declared_place (setting_at stmts i) x) (λ i x. declared_variable x) stmts owner n refl
    (map-append summary) (λ i x. summarized (setting_at stmts i) x)

called : (stmts : List Placed) (links : List Link) (owner i : ℕ) (x : Statement) → flat_map callee_in (written_lines stmts links owner i x) ≡ called_in (setting_at stmts i) x
called stmts links owner i (call name arguments) = refl
called stmts links owner i x = refl

-- the calls that are gathered are those of the lines
pub calls_gathered : (stmts : List Placed) (links : List Link) (owner n : ℕ)
    → flat_map callee_in (lines_before stmts links owner n) ≡ given_by (λ i x. called_in (setting_at stmts i) x) stmts owner n
calls_gathered stmts links owner n = given_each (flat_map callee_in) (written_lines stmts links owner) (λ i x. called_in (setting_at stmts i) x) stmts owner n refl
    (flat_map-append callee_in) (called stmts links owner)

-- a procedure of the text is the one of its number
written_there : (stmts : List Placed) (links : List Link) (owner : ℕ) (names : List (List ℕ)) (j : ℕ) (p : WrittenProcedure) → slice_get (procedures_from stmts links owner names) j ≡ Some p
    → (name : List ℕ) × (p ≡ written_procedure stmts links (owner + j) name)
written_there stmts links owner [] zero p e = absurd (cc)
written_there stmts links owner [] (suc j) p e = absurd (cc)
written_there stmts links owner (name ∷ names) zero p e =
    let n : owner ≡ owner + 0 = omega arith in
    (name, sym (same_Some _ _ e) ∙ ap (λ k. written_procedure stmts links k name) n)
written_there stmts links owner (name ∷ names) (suc j) p e =
    let r = written_there stmts links (suc owner) names j p e in
    let n : suc owner + j ≡ owner + suc j = omega arith in
    (r.0, r.1 ∙ ap (λ k. written_procedure stmts links k r.0) n)

length_written : (stmts : List Placed) (links : List Link) (owner : ℕ) (names : List (List ℕ)) → length (procedures_from stmts links owner names) ≡ length names
length_written stmts links owner [] = refl
length_written stmts links owner (name ∷ names) = ap suc (length_written stmts links (suc owner) names)

-- as many names stand in front of a statement as procedures
named_to : (stmts : List Placed) (i : ℕ) → i ≤ length stmts → length (procedure_names (take i stmts)) ≡ (counts_at stmts i).procedures
named_to stmts zero h = refl
named_to stmts (suc i) h =
    let x = stands stmts i (omega arith) in
    let inside : i < length stmts = omega arith in
    let n : suc i ≡ i + 1 = omega arith in
    let more : procedure_names (take (i + 1) stmts) ≡ procedure_names (take i stmts) ++ named x.0 =
    ap procedure_names (take_more stmts i x.0 inside) ∙ flat_map-append named (take i stmts) (get_or stmts i x.0 ∷ [])
    ∙ ap (λ (y : Placed). procedure_names (take i stmts) ++ (named y ++ [])) (get_or_from_slice_get stmts i x.0 x.0 x.1)
    ∙ ap (λ ns. procedure_names (take i stmts) ++ ns) (append-nil (named x.0)) in
    ap (λ k. length (procedure_names (take k stmts))) n ∙ ap length more ∙ length-append (procedure_names (take i stmts)) (named x.0)
    ∙ ap (λ k. k + length (named x.0)) (named_to stmts i (omega arith))
    ∙ sym (counted_next stmts i x.0 x.1) ∙ sym (ap (λ k. (counts_at stmts k).procedures) n)

got_behind : {A : Type 0} (xs : List A) (n : ℕ) (x : A) → slice_get (drop 1 xs) n ≡ Some x → slice_get xs (suc n) ≡ Some x
got_behind [] zero x e = e
got_behind [] (suc n) x e = e
got_behind (y ∷ xs) n x e = e

read_at : {A : Type 0} (f : Outline → List A) (outlines : List Outline) (n : ℕ) (o : Outline) → slice_get (drop 1 outlines) n ≡ Some o
    → unwrap_or (slice_get (map f outlines) (suc n)) [] ≡ f o
read_at {A = A} f outlines n o e = ap (λ (x : Option (List A)). unwrap_or x []) (slice_get-map f outlines (suc n) ∙ ap (option_map f) (got_behind outlines n o e))

-- the outlines that are gathered are those of the procedures
pub outlined_text : (stmts : List Placed) (links : List Link) (outlines : List Outline) → AreGathered stmts outlines → AreOutlined (written_procedures stmts links) (drop 1 outlines)
outlined_text stmts links outlines g = record {
  size = length-drop 1 outlines ∙ ap (λ n. n - 1) g.size ∙ one ∙ sym (named_to stmts (length stmts) (omega arith) ∙ whole)
      ∙ ap (λ (xs : List Placed). length (procedure_names xs)) (take_all (length stmts) stmts (omega arith)) ∙ sym (length_written stmts links 1 (procedure_names stmts));
  each = each;
}
  where
    whole : (counts_at stmts (length stmts)).procedures ≡ (front_of stmts).counts.procedures
    whole = ap (λ (xs : List Placed). (front_of xs).counts.procedures) (take_all (length stmts) stmts (omega arith))

    one : (front_of stmts).counts.procedures + 1 - 1 ≡ (front_of stmts).counts.procedures
    one = omega arith

    each : (n : ℕ) (p : WrittenProcedure) (o : Outline) → slice_get (written_procedures stmts links) n ≡ Some p → slice_get (drop 1 outlines) n ≡ Some o → IsOutlined p o
    each n p o e f =
        let w = written_there stmts links 1 (procedure_names stmts) n p e in
        let owner : suc n ≡ 1 + n = omega arith in
        let variables : o.variables ≡ map summary (variables_in (places_of stmts (1 + n))) =
        sym (read_at (λ (o : Outline). o.variables) outlines n o f) ∙ g.variables (suc n) ∙ ap (variables_to stmts) owner ∙ sym (variables_gathered stmts (1 + n) (length stmts))
        ∙ ap (map summary) (sym (variables_are stmts (1 + n))) in
        let copies = copies_behind stmts (1 + n) ∙ ap (λ vs. map old_copy (filter is_copied vs)) (sym (variables_are stmts (1 + n))) in
        let calls = sym (read_at (λ (o : Outline). o.calls) outlines n o f) ∙ g.calls (suc n) ∙ ap (calls_to stmts) owner ∙ sym (calls_gathered stmts links (1 + n) (length stmts)) in
        subst (λ q. IsOutlined q o) (sym w.1) (record { variables = variables; copies = copies; calls = calls })
