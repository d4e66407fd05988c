-- Each procedure of a checked text with calls, with the procedures that stand before it.
use Rattle.std.proofs.Common.{◌≡◌, ℕ, zero, suc, ◌+◌, List, [], ◌∷◌, ◌++◌, length, sym, ap, ◌∙◌, subst, arith}
use Rattle.std.specs.Prelude.{slice_get, Some}
use Rattle.std.proofs.lemmas.List.{length-append}
use Rattle.std.proofs.lemmas.Option.{same_Some, slice_get_within}
use Rattle.il_core.specs.Checked.{IsChecked, AreInOrder}
use Rattle.il_called.specs.Called.{Passed, call, WrittenProcedure, WrittenText}
use Rattle.il_called.specs.CalledText.{IsCalledText, Suit, parameters_of}
use Rattle.il_called.specs.Expansion.{Callee, procedure_in, expansion_of, callees_behind, callees_of}
use Rattle.il_inline.specs.Calls.{CallFits, AllCall}
use Rattle.il_inline.proofs.Texts.{kept_left, at_last, there, behind_keeps, all_call}

-- a procedure with its expansion over those before it
abbrev pub made : List Callee → ℕ → WrittenProcedure → Callee
made before k p = record { written = p; expanded = expansion_of before k p }

record Found (acc : List Callee) (ps : List WrittenProcedure) (k : ℕ) (p : WrittenProcedure) (before : List Callee) : Type 0 where
  size : length before ≡ length acc + k
  is : slice_get (callees_behind acc ps) (length acc + k) ≡ Some (made before (length acc + k) p)
  earlier : (c : ℕ) (y : Callee) → slice_get before c ≡ Some y → slice_get (callees_behind acc ps) c ≡ Some y

find : (acc : List Callee) (ps : List WrittenProcedure) (k : ℕ) (p : WrittenProcedure) → slice_get ps k ≡ Some p → (before : List Callee) × Found acc ps k p before
find acc [] k p e = grind arith
find acc (q ∷ ps) zero p e =
    let it = made acc (length acc) q in
    let n : length acc ≡ length acc + 0 = omega arith in
    let at : slice_get (callees_behind acc (q ∷ ps)) (length acc) ≡ Some (made acc (length acc) p) =
    behind_keeps (acc ++ it ∷ []) ps (length acc) it (at_last acc it) ∙ ap (λ (r : WrittenProcedure). Some (made acc (length acc) r)) (same_Some _ _ e) in (
      acc,
      record {
        size = n;
        is = subst (λ m. slice_get (callees_behind acc (q ∷ ps)) m ≡ Some (made acc m p)) n at;
        earlier = λ c y h. behind_keeps (acc ++ it ∷ []) ps c y (kept_left acc (it ∷ []) c y h);
      },
    )
find acc (q ∷ ps) (suc k) p e =
    let it = made acc (length acc) q in
    let r = find (acc ++ it ∷ []) ps k p e in
    let l = length-append acc (it ∷ []) in
    let n : length (acc ++ it ∷ []) + k ≡ length acc + suc k = omega arith in (
      r.0,
      record {
        size = r.1.size ∙ n;
        is = subst (λ m. slice_get (callees_behind (acc ++ it ∷ []) ps) m ≡ Some (made r.0 m p)) n r.1.is;
        earlier = r.1.earlier;
      },
    )

count_behind : (acc : List Callee) (ps : List WrittenProcedure) → length (callees_behind acc ps) ≡ length acc + length ps
count_behind acc [] = omega arith
count_behind acc (p ∷ ps) =
    let it = made acc (length acc) p in
    let r = count_behind (acc ++ it ∷ []) ps in
    let l = length-append acc (it ∷ []) in
    omega arith

pub count_callees : (procs : List WrittenProcedure) → length (callees_of procs) ≡ length procs
unfolding callees_of
count_callees procs = let n : 0 + length procs ≡ length procs = omega arith in count_behind [] procs ∙ n

-- the procedure of a number, with those before it
pub record Known (procs : List WrittenProcedure) (k : ℕ) (p : WrittenProcedure) (before : List Callee) : Type 0 where
  pub size : length before ≡ k
  pub written : slice_get procs k ≡ Some p
  pub is : slice_get (callees_of procs) k ≡ Some (made before k p)
  pub earlier : (c : ℕ) (y : Callee) → slice_get before c ≡ Some y → slice_get (callees_of procs) c ≡ Some y
  pub calls : AllCall before p.lines
  pub checked : IsChecked (procedure_in (expansion_of before k p))
  pub in_order : AreInOrder p.places

found_at : (procs : List WrittenProcedure) (k : ℕ) (p : WrittenProcedure) → slice_get procs k ≡ Some p
    → (before : List Callee) × (length before ≡ k) × (slice_get (callees_of procs) k ≡ Some (made before k p))
    × ((c : ℕ) (y : Callee) → slice_get before c ≡ Some y → slice_get (callees_of procs) c ≡ Some y)
unfolding callees_of
found_at procs k p e =
    let f = find [] procs k p e in
    let n : 0 + k ≡ k = omega arith in
    (f.0, f.1.size ∙ n, subst (λ m. slice_get (callees_behind [] procs) m ≡ Some (made f.0 m p)) n f.1.is, f.1.earlier)

pub known_at : (t : WrittenText) (k : ℕ) (p : WrittenProcedure) → IsCalledText t → slice_get t.procs k ≡ Some p → (before : List Callee) × Known t.procs k p before
known_at t k p h e =
    let f = found_at t.procs k p e in (
      f.0,
      record {
        size = f.1;
        written = e;
        is = f.2;
        earlier = f.3;
        calls = all_call f.0 p.lines at;
        checked = h.checked k (made f.0 k p) f.2;
        in_order = h.in_order k p e;
      },
    )
  where
    at : (n c : ℕ) (arguments : List Passed) → slice_get p.lines n ≡ Some (call c arguments) → CallFits (found_at t.procs k p e).0 c arguments
    at n c arguments is =
        let f = found_at t.procs k p e in
        let fit = h.fit k p e n c arguments is in
        let size = f.1 in
        let below = fit.0 in
        let y = there f.0 c (omega arith) in
        let whole = f.3 c y.0 y.1 in
        let g = found_at t.procs c fit.1.0 fit.1.1 in
        let same : made g.0 c fit.1.0 ≡ y.0 = same_Some _ _ (sym g.2 ∙ whole) in
        let some = (h.checked c y.0 whole).some_lines in
        record { callee = y.0; there = y.1; suits = subst (λ (it : Callee). Suit (parameters_of it.written) arguments) same fit.1.2; lines = omega arith }

-- what stands before a known procedure is known
pub record KnownBefore (procs : List WrittenProcedure) (c : ℕ) (y : Callee) : Type 0 where
  pub before : List Callee
  pub known : Known procs c y.written before
  pub same : made before c y.written ≡ y

pub known_before : (t : WrittenText) (k : ℕ) (p : WrittenProcedure) (before : List Callee) (c : ℕ) (y : Callee) → IsCalledText t → Known t.procs k p before
    → slice_get before c ≡ Some y → KnownBefore t.procs c y
known_before t k p before c y h known e =
    let size = known.size in
    let small = slice_get_within before c y e in
    let large = slice_get_within t.procs k p known.written in
    let q = there t.procs c (omega arith) in
    let f = known_at t c q.0 h q.1 in
    let same : made f.0 c q.0 ≡ y = same_Some _ _ (sym f.1.is ∙ known.earlier c y e) in
    let written : q.0 ≡ y.written = ap (λ (it : Callee). it.written) same in
    record {
      before = f.0;
      known = subst (λ (r : WrittenProcedure). Known t.procs c r f.0) written f.1;
      same = subst (λ (r : WrittenProcedure). made f.0 c r ≡ y) written same;
    }
