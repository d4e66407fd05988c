-- Statements in order without a CALL that have their links and keep all rules stand for the checked text as before.
use Rattle.std.proofs.Common.{◌≡◌, ◌⊎◌, ℕ, zero, suc, ◌+◌, ◌∙◌, sym, ap, subst, refl, inl, inr, List, [], ◌∷◌, ◌++◌, length, drop, arith, append-nil, append_assoc}
use Rattle.std.specs.Prelude.{Some, map, slice_get}
use Rattle.std.proofs.lemmas.List.{map-append}
use Rattle.std.proofs.lemmas.Option.{none-some, same_Some, slice_get-map}
use Rattle.il_core.specs.Checked.{IsChecked}
use Rattle.il_core.specs.Procedure.{Procedure}
use Rattle.il_core.specs.Statement.{Placed}
use Rattle.il_core.specs.Text.{Text, TextProcedure}
use Rattle.il_core.specs.declared.statement.Link.{Link}
use Rattle.il_built.specs.CheckedText.{procedure_of, procedure_names, places_of, profile_of, title_of}
use Rattle.il_built.specs.CheckedText as text
use Rattle.il_built.proofs.CheckedLinesWhole.{procedures_are_checked}
use Rattle.il_built.proofs.Entered.{mapped}
use Rattle.il_called.specs.Called.{WrittenProcedure}
use Rattle.il_called.specs.Expansion.{Callee, variables_in, callees_behind, callees_of}
use Rattle.il_inline.specs.Expanded.{expanded_procedure}
use Rattle.call_rules.specs.CalledText.{procedures_from, written_procedure, written_procedures}
use Rattle.call_limits.proofs.Callees.{made}
use Rattle.call_limits.proofs.Variables.{variables_are, copies_behind}
use Rattle.call_free.specs.Laws.{HasNoCall, StandsForItself}
use Rattle.call_free.proofs.Lines.{lines_own}
use Rattle.call_free.proofs.Moved.{IsPlain, with_lines, of_own, expanded_own, plain_own}

-- all lines of each procedure are its own
procedure_own : (stmts : List Placed) (links : List Link) (owner : ℕ) (name : List ℕ) → HasNoCall stmts
    → written_procedure stmts links owner name ≡ of_own name (places_of stmts owner) (text.lines_of stmts links owner)
procedure_own stmts links owner name free = ap (with_lines name (places_of stmts owner)) (lines_own stmts links owner (length stmts) free (omega arith))

-- its places are its variables and those behind them
parts : (stmts : List Placed) (owner : ℕ)
    → variables_in (places_of stmts owner) ++ drop (length (variables_in (places_of stmts owner))) (places_of stmts owner) ≡ places_of stmts owner
parts stmts owner =
    let rest = drop (length (variables_in (places_of stmts owner))) (places_of stmts owner) in
    ap (λ vs. vs ++ rest) (variables_are stmts owner) ∙ ap (λ ps. text.variables_of stmts owner ++ ps) (copies_behind stmts owner)

abbrev titled : List ℕ → Procedure → TextProcedure
titled name body = record { name = name; body = body }

procedure_itself : (stmts : List Placed) (links : List Link) (before : List Callee) (owner : ℕ) (name : List ℕ) → HasNoCall stmts → IsChecked (procedure_of stmts links owner)
    → expanded_procedure (made before (written_procedure stmts links owner name)) ≡ titled name (procedure_of stmts links owner)
procedure_itself stmts links before owner name free c =
    ap (λ (p : WrittenProcedure). expanded_procedure (made before p)) (procedure_own stmts links owner name free)
    ∙ ap (titled name) (expanded_own before (length before) name (places_of stmts owner) (text.lines_of stmts links owner) (parts stmts owner) c.fits)

-- the procedures of these names, behind others
procedures_itself : (stmts : List Placed) (links : List Link) (before : List Callee) (owner : ℕ) (names : List (List ℕ)) → HasNoCall stmts
    → ((j : ℕ) (name : List ℕ) → slice_get names j ≡ Some name → IsChecked (procedure_of stmts links (owner + j)))
    → map expanded_procedure (callees_behind before (procedures_from stmts links owner names)) ≡ map expanded_procedure before ++ text.procedures_from stmts links owner names
procedures_itself stmts links before owner [] free each = sym (append-nil (map expanded_procedure before))
procedures_itself stmts links before owner (name ∷ names) free each =
    let it = made before (written_procedure stmts links owner name) in
    let rest = text.procedures_from stmts links (suc owner) names in
    let first : owner + 0 ≡ owner = omega arith in
    let checked = subst (λ n. IsChecked (procedure_of stmts links n)) first (each 0 name refl) in
    procedures_itself stmts links (before ++ it ∷ []) (suc owner) names free
    (λ j n e. let next : owner + suc j ≡ suc owner + j = omega arith in subst (λ m. IsChecked (procedure_of stmts links m)) next (each (suc j) n e))
    ∙ ap (λ ps. ps ++ rest) (map-append expanded_procedure before (it ∷ [])) ∙ append_assoc (map expanded_procedure before) (expanded_procedure it ∷ []) rest
    ∙ ap (λ p. map expanded_procedure before ++ p ∷ rest) (procedure_itself stmts links before owner name free checked)

plain_made : (stmts : List Placed) (links : List Link) (before : List Callee) (owner : ℕ) (name : List ℕ) → HasNoCall stmts
    → IsPlain (length before) (made before (written_procedure stmts links owner name))
plain_made stmts links before owner name free = subst (λ (p : WrittenProcedure). IsPlain (length before) (made before p)) (sym (procedure_own stmts links owner name free))
    (plain_own before (length before) name (places_of stmts owner) (text.lines_of stmts links owner))

-- a member of a list with one more is one of the list, or the last
one_of : {A : Type 0} (xs : List A) (x : A) (k : ℕ) (y : A) → slice_get (xs ++ x ∷ []) k ≡ Some y → (slice_get xs k ≡ Some y) ⊎ ((length xs ≡ k) × (x ≡ y))
one_of [] x zero y e = inr (refl, same_Some _ _ e)
one_of [] x (suc k) y e = absurd (none-some _ e)
one_of (w ∷ xs) x zero y e = inl e
one_of (w ∷ xs) x (suc k) y e = elim (one_of xs x k y e) [ inl there ↦ inl there | inr last ↦ inr (ap suc last.0, last.1) ]

all_plain : (stmts : List Placed) (links : List Link) (before : List Callee) (owner : ℕ) (names : List (List ℕ)) → HasNoCall stmts
    → ((k : ℕ) (c : Callee) → slice_get before k ≡ Some c → IsPlain k c) → (k : ℕ) (c : Callee)
    → slice_get (callees_behind before (procedures_from stmts links owner names)) k ≡ Some c → IsPlain k c
all_plain stmts links before owner [] free plain k c e = plain k c e
all_plain stmts links before owner (name ∷ names) free plain k c e =
    let it = made before (written_procedure stmts links owner name) in
    all_plain stmts links (before ++ it ∷ []) (suc owner) names free
    (λ n d h. elim (one_of before it n d h) [
      | inl there ↦ plain n d there
      | inr last ↦ subst (λ m. IsPlain m d) last.0 (subst (IsPlain (length before)) last.1 (plain_made stmts links before owner name free))
    ]) k c e

callees_plain : (stmts : List Placed) (links : List Link) → HasNoCall stmts → (k : ℕ) (c : Callee) → slice_get (callees_of (written_procedures stmts links)) k ≡ Some c → IsPlain k c
unfolding callees_of
callees_plain stmts links free k c e = all_plain stmts links [] 1 (procedure_names stmts) free (λ n d h. absurd (none-some _ h)) k c e

callees_itself : (stmts : List Placed) (links : List Link) → HasNoCall stmts → ((j : ℕ) (name : List ℕ) → slice_get (procedure_names stmts) j ≡ Some name
    → IsChecked (procedure_of stmts links (1 + j)))
    → map expanded_procedure (callees_of (written_procedures stmts links)) ≡ text.procedures_from stmts links 1 (procedure_names stmts)
unfolding callees_of
callees_itself stmts links free each = procedures_itself stmts links [] 1 (procedure_names stmts) free each

abbrev text_with : List Placed → List TextProcedure → Text
text_with stmts procs = record { title = title_of stmts; profile = profile_of stmts; procs = procs }

pub stands_for_itself : StandsForItself
stands_for_itself stmts links o ls a free =
    let cs = callees_of (written_procedures stmts links) in
    let checked = (procedures_are_checked stmts links o ls a).each in
    record {
      text = ap (text_with stmts) (callees_itself stmts links free
          (λ j name e. let one : suc j ≡ 1 + j = omega arith in subst (λ m. IsChecked (procedure_of stmts links m)) one (checked j name e)));
      spans = λ k spans e.
          let m = mapped (λ (c : Callee). c.expanded.spans) (slice_get cs k) spans (sym (slice_get-map (λ (c : Callee). c.expanded.spans) cs k) ∙ e) in
          sym m.2 ∙ (callees_plain stmts links free k m.0 m.1).spans;
      origins = λ k n from origin e h.
          let m = mapped (λ (c : Callee). c.expanded.origins) (slice_get cs k) from (sym (slice_get-map (λ (c : Callee). c.expanded.origins) cs k) ∙ e) in
          (callees_plain stmts links free k m.0 m.1).origins n origin (ap (λ os. slice_get os n) m.2 ∙ h);
    }
