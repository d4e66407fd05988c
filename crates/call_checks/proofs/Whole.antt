-- The expansion of a well-formed procedure is checked, and so are those of a whole text.
use Rattle.std.proofs.Common.{◌≡◌, refl, sym, ap, ◌∙◌, subst, ℕ, zero, suc, ◌+◌, inl, inr, Some, List, [], ◌∷◌, ◌++◌, length, take, slice_get, arith}
use Rattle.std.proofs.lemmas.Option.{same_Some}
use Rattle.il_core.specs.Checked.{IsChecked}
use Rattle.il_core.specs.Expression.{Expression}
use Rattle.il_core.specs.Procedure.{pre, end_procedure}
use Rattle.il_called.specs.Called.{WrittenProcedure}
use Rattle.il_called.specs.Expansion.{Callee, procedure_in, renumbered, start_of, own_place, each_from, places_of, expansion_of, callees_behind, callees_of}
use Rattle.il_inline.proofs.Known.{made}
use Rattle.il_inline.proofs.Sizes.{lines_within}
use Rattle.il_inline.proofs.Texts.{at_last, behind_keeps}
use Rattle.il_runs.proofs.Blocks.{own_sits}
use Rattle.call_checks.specs.Laws.{IsCallable, AreCallable}
use Rattle.call_checks.specs.WellFormed.{IsWellFormed, KeepsLimits, without_calls}
use Rattle.call_checks.proofs.Found.{parted}
use Rattle.call_checks.proofs.Lines.{Expands, expands, expansion_fits, written_own, pre_is_no_skip, end_is_no_skip}
use Rattle.call_checks.proofs.Ordered.{expansion_in_order, expansion_ranges}
use Rattle.call_checks.proofs.Starts.{start_zero}

pub expansion_checked : (callees : List Callee) (number : ℕ) (p : WrittenProcedure) → AreCallable callees → IsWellFormed callees p
    → KeepsLimits (made callees number p) → IsChecked (procedure_in (expansion_of callees number p))
expansion_checked callees number p callable formed limits = record {
  some_lines =
      let some = formed.checked.some_lines in
      let all = lines_within callees p.lines it.calls in
      let count = it.count in
      let size = it.size in
      omega arith;
  few_lines = limits.few_lines;
  few_places = limits.few_places;
  begins = (
    renumbered (own_place callees p) begins.0,
    ap (slice_get (expansion_of callees number p).lines) (sym (start_zero callees p.lines))
        ∙ own_sits callees p 0 (pre begins.0) it.calls (written_own p 0 (pre begins.0) begins.1 (pre_is_no_skip begins.0)),
  );
  ends = (
    renumbered (own_place callees p) ends.0,
    start_of callees p.lines ends.1,
    it.last ends.1 (ends.2 ∙ it.count),
    own_sits callees p ends.1 (end_procedure ends.0) it.calls (written_own p ends.1 (end_procedure ends.0) ends.3 (end_is_no_skip ends.0)),
  );
  fits = expansion_fits callees number p callable formed;
  ranges = expansion_ranges callees number p callable formed;
  in_order = expansion_in_order callees number p callable formed;
}
  where
    it : Expands callees number p (length (expansion_of callees number p).lines)
    it = expands callees number p callable formed

    begins : (e : Expression) × (slice_get (without_calls p).lines 0 ≡ Some (pre e))
    begins = formed.checked.begins

    ends : (e : Expression) × (pc : ℕ) × (pc + 1 ≡ length (without_calls p).lines) × (slice_get (without_calls p).lines pc ≡ Some (end_procedure e))
    ends = formed.checked.ends

pub expansion_callable : (callees : List Callee) (number : ℕ) (p : WrittenProcedure) → AreCallable callees → IsWellFormed callees p
    → KeepsLimits (made callees number p) → IsCallable (made callees number p)
expansion_callable callees number p callable formed limits = record {
  checked = expansion_checked callees number p callable formed limits;
  in_order = formed.checked.in_order;
  small = formed.small;
  brought = each_from (places_of callees p) 0 p.lines;
  places = refl;
}

-- one more procedure may be called
one_more : (before : List Callee) (it : Callee) → AreCallable before → IsCallable it → AreCallable (before ++ it ∷ [])
one_more before it callable one c y e = elim (parted before (it ∷ []) c y e) [
  | inl earlier ↦ callable c y earlier
  | inr last ↦ only last.member last.there
]
  where
    only : (m : ℕ) → slice_get (it ∷ []) m ≡ Some y → IsCallable y
    only zero h = subst IsCallable (same_Some _ _ h) one
    only (suc m) h = grind arith

callable_behind : (before : List Callee) (ps : List WrittenProcedure) → AreCallable before
    → ((k : ℕ) (p : WrittenProcedure) → slice_get ps k ≡ Some p → IsWellFormed (callees_behind before (take k ps)) p)
    → ((c : ℕ) (y : Callee) → slice_get (callees_behind before ps) c ≡ Some y → KeepsLimits y) → AreCallable (callees_behind before ps)
callable_behind before [] callable formed limits = callable
callable_behind before (p ∷ ps) callable formed limits =
    let it = made before (length before) p in
    callable_behind (before ++ it ∷ []) ps
    (one_more before it callable (expansion_callable before (length before) p callable (formed 0 p refl)
    (limits (length before) it (behind_keeps (before ++ it ∷ []) ps (length before) it (at_last before it)))))
    (λ k q e. formed (suc k) q e) limits

pub text_callable : (procs : List WrittenProcedure) → ((k : ℕ) (p : WrittenProcedure) → slice_get procs k ≡ Some p → IsWellFormed (callees_of (take k procs)) p)
    → ((c : ℕ) (y : Callee) → slice_get (callees_of procs) c ≡ Some y → KeepsLimits y) → AreCallable (callees_of procs)
unfolding callees_of
text_callable procs formed limits = callable_behind [] procs (λ c y e. grind arith) formed limits
