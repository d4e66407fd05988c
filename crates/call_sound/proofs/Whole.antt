-- What stands for statements that keep all rules is a checked text with calls where its procedures are well formed.
use Rattle.std.proofs.Common.{◌≡◌, ℕ, zero, suc, ◌+◌, ◌≤◌, ◌∙◌, sym, ap, subst, refl, List, [], ◌∷◌, ◌++◌, length, take, drop, arith}
use Rattle.std.specs.Prelude.{Some, None, filter, sum_by, slice_get}
use Rattle.std.proofs.lemmas.List.{length-append, length-map, take-append-drop}
use Rattle.std.proofs.lemmas.Option.{same_Some, slice_get_within}
use Rattle.il_core.specs.Checked.{is_copied, old_copy}
use Rattle.il_core.specs.Statement.{Placed}
use Rattle.il_core.specs.declared.statement.Link.{Link}
use Rattle.il_syntax.specs.Order.{IsInOrder}
use Rattle.il_built.specs.CheckedText.{variables_of}
use Rattle.il_called.specs.Called.{WrittenProcedure}
use Rattle.il_called.specs.Expansion.{Callee, brings, callees_behind, callees_of, each_from, expansion_of, variables_in}
use Rattle.il_called.specs.Expansion as expansion
use Rattle.il_inline.proofs.Texts.{at_last, behind_keeps}
use Rattle.call_checks.specs.WellFormed.{KeepsLimits}
use Rattle.call_checks.proofs.Earlier.{text_checked}
use Rattle.call_rules.specs.CalledText.{written_procedures, called_text, lines_before}
use Rattle.call_rules.specs.Limits.{lines_in, widths_of}
use Rattle.call_rules.specs.Rules.{Answers}
use Rattle.call_limits.proofs.Callees.{made, callees_push, length_callees, take_next}
use Rattle.call_limits.proofs.Variables.{variables_are, copies_behind}
use Rattle.call_limits.proofs.Widths.{length_places}
use Rattle.call_sound.specs.Laws.{FormedAreChecked}
use Rattle.call_sound.proofs.Fits.{calls_fit}
use Rattle.call_sound.proofs.Frame.{found, procedure_at, texts_are_framed}
use Rattle.call_sound.proofs.Kept.{keeps_calls}
use Rattle.call_sound.proofs.Limits.{keeps_size}
use Rattle.call_sound.proofs.Short.{AreShort, expanded_short, short_in}
use Rattle.call_sound.proofs.Widths.{expanded_length}

behind_both : (before : List Callee) (a b : List WrittenProcedure) → callees_behind before (a ++ b) ≡ callees_behind (callees_behind before a) b
behind_both before [] b = refl
behind_both before (p ∷ a) b = behind_both (before ++ made before p ∷ []) a b

-- the procedure of a number with its expansion
record IsMade (procs : List WrittenProcedure) (k : ℕ) (callee : Callee) : Type 0 where
  written : WrittenProcedure
  there : slice_get procs k ≡ Some written
  is : callee ≡ made (callees_of (take k procs)) written

taken : {A : Type 0} (xs : List A) (k : ℕ) → k ≤ length xs → length (take k xs) ≡ k
taken xs zero h = refl
taken [] (suc k) h = absurd (omega arith)
taken (x ∷ xs) (suc k) h = ap suc (taken xs k (omega arith))

callee_made : (procs : List WrittenProcedure) (k : ℕ) (callee : Callee) → slice_get (callees_of procs) k ≡ Some callee → IsMade procs k callee
unfolding callees_of
callee_made procs k callee e =
    let within = slice_get_within (callees_of procs) k callee e in
    let count = length_callees procs in
    let p = found procs k (omega (arith, within, count)) in
    let cs = callees_of (take k procs) in
    let it = made cs p.0 in
    let below = slice_get_within procs k p.0 p.1 in
    let size : length cs ≡ k = length_callees (take k procs) ∙ taken procs k (omega arith) in
    let front : callees_of (take (suc k) procs) ≡ cs ++ it ∷ [] = ap callees_of (take_next procs k p.0 p.1) ∙ callees_push (take k procs) p.0 in
    let at : slice_get (cs ++ it ∷ []) k ≡ Some it = ap (slice_get (cs ++ it ∷ [])) (sym size) ∙ at_last cs it in
    let all : callees_of procs ≡ callees_behind (cs ++ it ∷ []) (drop (suc k) procs) =
    ap callees_of (sym (take-append-drop (suc k) procs)) ∙ behind_both [] (take (suc k) procs) (drop (suc k) procs) ∙ ap (λ l. callees_behind l (drop (suc k) procs)) front in
    record {
      written = p.0;
      there = p.1;
      is = same_Some _ _ (sym e ∙ ap (λ l. slice_get l k) all ∙ behind_keeps (cs ++ it ∷ []) (drop (suc k) procs) k it at);
    }

-- the expansions keep within the limits
keeps_limits : (stmts : List Placed) (links : List Link) (k : ℕ) (p : WrittenProcedure) → IsInOrder stmts → Answers stmts links None → slice_get (written_procedures stmts links) k ≡ Some p
    → KeepsLimits (made (callees_of (take k (written_procedures stmts links))) p)
keeps_limits stmts links k p o a there =
    let ps = written_procedures stmts links in
    let cs = callees_of (take k ps) in
    let q = procedure_at stmts links k p there in
    let size = keeps_size stmts links k (keeps_calls stmts links a) o q.below in
    let within = slice_get_within ps k p there in
    let lines = expanded_length ps k p (calls_fit stmts links o a) (omega (arith, within)) there ∙ ap (λ (r : WrittenProcedure). sum_by (lines_in (widths_of cs)) r.lines) q.is in
    let vs = variables_in p.places in
    let between = each_from (expansion.places_of cs p) 0 p.lines in
    let rest = drop (length (variables_in p.places)) p.places in
    let front : length vs ≡ length (variables_of stmts (1 + k)) = ap (λ (r : WrittenProcedure). length (variables_in r.places)) q.is ∙ ap length (variables_are stmts (1 + k)) in
    let middle : length between ≡ sum_by (brings cs) (lines_before stmts links (1 + k) (length stmts)) =
    length_places cs p ∙ ap (λ (r : WrittenProcedure). sum_by (brings cs) r.lines) q.is in
    let behind : length rest ≡ length (filter is_copied (variables_of stmts (1 + k))) =
    ap (λ (r : WrittenProcedure). length (drop (length (variables_in r.places)) r.places)) q.is ∙ ap length (copies_behind stmts (1 + k))
    ∙ length-map (filter is_copied (variables_of stmts (1 + k))) old_copy in
    let all = length-append (vs ++ between) rest in
    let both = length-append vs between in
    let few = size.lines in
    let small = size.places in
    record { few_lines = omega (arith, lines, few); few_places = omega (arith, all, both, front, middle, behind, small) }

pub formed_are_checked : FormedAreChecked
formed_are_checked stmts links o a names formed =
    let f = texts_are_framed stmts links o a in
    let ps = written_procedures stmts links in
    text_checked (called_text stmts links) (record {
      some_procedures = f.some_procedures;
      few_procedures = f.few_procedures;
      low_profile = f.low_profile;
      high_profile = f.high_profile;
      formed = formed;
      limits = λ k callee there. let m = callee_made ps k callee there in
          subst KeepsLimits (sym m.is) (keeps_limits stmts links k m.written o a m.there);
      apart = λ k n c p arguments there line. (calls_fit stmts links o a k p there n c arguments line).1.3;
      names = λ k callee place there is. let m = callee_made ps k callee there in
          short_in callee.expanded.places place (subst (λ (it : Callee). AreShort it.expanded.places) (sym m.is) (expanded_short stmts links k (length (callees_of (take k ps))) m.written (keeps_calls stmts links a) names m.there)) is;
    })
