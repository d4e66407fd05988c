-- The calls of a text of well-formed procedures name earlier procedures.
use Rattle.std.proofs.Common.{◌≡◌, sym, ap, ◌∙◌, ℕ, zero, suc, Some, List, [], ◌∷◌, ◌++◌, length, map, take, slice_get, append-nil, append_assoc, arith}
use Rattle.std.specs.Option.{option_map}
use Rattle.std.proofs.lemmas.List.{length-take-le, map-append}
use Rattle.std.proofs.lemmas.Option.{slice_get-map, slice_get_within}
use Rattle.il_called.specs.Called.{WrittenProcedure, WrittenText}
use Rattle.il_called.specs.CalledText.{CallsFit, IsCalledText}
use Rattle.il_called.specs.Expansion.{Callee, callees_behind, callees_of}
use Rattle.il_inline.proofs.Known.{made, count_callees}
use Rattle.call_checks.specs.Laws.{IsWellFormedText}
use Rattle.call_checks.proofs.Whole.{text_callable}

abbrev written_in : Callee → WrittenProcedure
written_in y = y.written

-- the callees of a text are its procedures
written_behind : (before : List Callee) (ps : List WrittenProcedure) → map written_in (callees_behind before ps) ≡ map written_in before ++ ps
written_behind before [] = sym (append-nil (map written_in before))
written_behind before (p ∷ ps) =
    let it = made before (length before) p in
    written_behind (before ++ it ∷ []) ps ∙ ap (λ l. l ++ ps) (map-append written_in before (it ∷ [])) ∙ append_assoc (map written_in before) (p ∷ []) ps

pub written_there : (procs : List WrittenProcedure) (c : ℕ) (y : Callee) → slice_get (callees_of procs) c ≡ Some y → slice_get procs c ≡ Some y.written
unfolding callees_of
written_there procs c y e =
    ap (λ (l : List WrittenProcedure). slice_get l c) (sym (written_behind [] procs)) ∙ slice_get-map written_in (callees_behind [] procs) c ∙ ap (option_map written_in) e

pub taken : {X : Type 0} (k : ℕ) (xs : List X) (c : ℕ) (x : X) → slice_get (take k xs) c ≡ Some x → slice_get xs c ≡ Some x
taken zero xs c x e = grind arith
taken (suc k) [] c x e = grind arith
taken (suc k) (y ∷ xs) zero x e = e
taken (suc k) (y ∷ xs) (suc c) x e = taken k xs c x e

text_fits : (t : WrittenText) → IsWellFormedText t → (k : ℕ) (p : WrittenProcedure) → slice_get t.procs k ≡ Some p → CallsFit t.procs k p
text_fits t h k p e n c arguments at =
    let s = (h.formed k p e).calls n c arguments at in
    let inside = slice_get_within (callees_of (take k t.procs)) c s.callee s.there in
    let count = count_callees (take k t.procs) in
    let below = slice_get_within t.procs k p e in
    let size = length-take-le k t.procs (omega arith) in (
      omega arith,
      (
        s.callee.written,
        taken k t.procs c s.callee.written (written_there (take k t.procs) c s.callee s.there),
        s.suits,
        h.apart k n c p arguments e at,
      ),
    )

pub text_checked : (t : WrittenText) → IsWellFormedText t → IsCalledText t
text_checked t h = record {
  some_procedures = h.some_procedures;
  few_procedures = h.few_procedures;
  low_profile = h.low_profile;
  high_profile = h.high_profile;
  in_order = λ k p e. (h.formed k p e).checked.in_order;
  fit = text_fits t h;
  checked = λ k y e. (text_callable t.procs h.formed h.limits k y e).checked;
  names = h.names;
}
