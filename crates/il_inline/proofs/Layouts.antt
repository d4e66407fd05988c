-- A layout has the line and the place at which each line begins.
use Rattle.std.proofs.Common.{◌≡◌, ℕ, zero, suc, ◌+◌, ◌≤◌, Bool, true, false, cond, List, [], ◌∷◌, length, take, get_or, refl, ap, ◌∙◌, subst, arith}
use Rattle.std.specs.Prelude.{sum_by, count_by, if◌then◌else◌, slice_get, Option, None, Some}
use Rattle.std.proofs.Math.Path.{fun_ext}
use Rattle.std.proofs.lemmas.List.{length-take}
use Rattle.std.proofs.lemmas.List.Sums.{sum_by-cons, count_by-le-length}
use Rattle.il_core.specs.Procedure.{Instruction}
use Rattle.il_called.specs.Called.{Passed, WrittenLine, own, call, WrittenProcedure}
use Rattle.il_called.specs.Expansion.{Callee, width_of, brings, is_call, start_of, base_of, own_place, variables_in, lines_of, call_lines, moved}
use Rattle.il_inline.specs.declared.layout.Slot.{Slot}
use Rattle.il_inline.specs.declared.layout.Layout.{Layout}
use Rattle.il_inline.specs.declared.renumbering.Renumbering.{Renumbering}
use Rattle.il_inline.specs.Fits.{AllFit}
use Rattle.il_inline.specs.Held.{place_under, AllCallBelow}
use Rattle.il_inline.specs.Slots.{slot_behind, slots_from, end_from, slot_in, start_in, lines_by}

start_at : (callees : List Callee) (s : Slot) (lines : List WrittenLine) (k : ℕ)
    → (get_or (slots_from callees s lines) k (end_from callees s lines)).start ≡ s.start + sum_by (width_of callees) (take k lines)
start_at callees s [] zero = omega arith
start_at callees s [] (suc k) = omega arith
start_at callees s (line ∷ lines) zero = omega arith
start_at callees s (line ∷ lines) (suc k) =
    let r = start_at callees (slot_behind callees s line) lines k in
    let e = sum_by-cons (width_of callees) line (take k lines) in
    omega arith

base_at : (callees : List Callee) (s : Slot) (lines : List WrittenLine) (k : ℕ)
    → (get_or (slots_from callees s lines) k (end_from callees s lines)).base ≡ s.base + sum_by (brings callees) (take k lines)
base_at callees s [] zero = omega arith
base_at callees s [] (suc k) = omega arith
base_at callees s (line ∷ lines) zero = omega arith
base_at callees s (line ∷ lines) (suc k) =
    let r = base_at callees (slot_behind callees s line) lines k in
    let e = sum_by-cons (brings callees) line (take k lines) in
    omega arith

one_more : (b : Bool) (n : ℕ) → (if b then n + 1 else n) ≡ n + cond b 1 0
one_more true n = refl
one_more false n = omega arith

calls_at : (callees : List Callee) (s : Slot) (lines : List WrittenLine) (k : ℕ)
    → (get_or (slots_from callees s lines) k (end_from callees s lines)).calls ≡ s.calls + count_by is_call (take k lines)
calls_at callees s [] zero = omega arith
calls_at callees s [] (suc k) = omega arith
calls_at callees s (line ∷ lines) zero = omega arith
calls_at callees s (line ∷ lines) (suc k) =
    let r = calls_at callees (slot_behind callees s line) lines k in
    let o = one_more (is_call line) s.calls in
    let e = sum_by-cons (λ (x : WrittenLine). cond (is_call x) 1 0) line (take k lines) in
    omega arith

end_base : (callees : List Callee) (s : Slot) (lines : List WrittenLine) → (end_from callees s lines).base ≡ s.base + sum_by (brings callees) lines
end_base callees s [] = omega arith
end_base callees s (line ∷ lines) =
    let r = end_base callees (slot_behind callees s line) lines in
    let e = sum_by-cons (brings callees) line lines in
    omega arith

-- a layout of a procedure with so many variables and these lines
pub record IsLayout (callees : List Callee) (variables : ℕ) (lines : List WrittenLine) (layout : Layout) : Type 0 where
  pub start : (k : ℕ) → (slot_in layout k).start ≡ start_of callees lines k
  pub base : (k : ℕ) → (slot_in layout k).base ≡ variables + sum_by (brings callees) (take k lines)
  pub calls : (k : ℕ) → (slot_in layout k).calls ≡ count_by is_call (take k lines)
  pub last : layout.end.base ≡ variables + sum_by (brings callees) lines

pub layout_is : (callees : List Callee) (variables : ℕ) (lines : List WrittenLine) (layout : Layout)
    → layout.slots ≡ slots_from callees (record { start = 0; base = variables; calls = 0 }) lines → layout.end ≡ end_from callees (record { start = 0; base = variables; calls = 0 }) lines
    → IsLayout callees variables lines layout
layout_is callees variables lines layout e f =
    let s : Slot = record { start = 0; base = variables; calls = 0 } in
    let at : (k : ℕ) → slot_in layout k ≡ get_or (slots_from callees s lines) k (end_from callees s lines) =
    λ k. ap (λ (l : List Slot). get_or l k layout.end) e ∙ ap (λ (d : Slot). get_or (slots_from callees s lines) k d) f in
    let zeros : (n : ℕ) → 0 + n ≡ n = λ n. omega arith in
    record {
      start = λ k. ap (λ (it : Slot). it.start) (at k) ∙ start_at callees s lines k ∙ zeros (start_of callees lines k);
      base = λ k. ap (λ (it : Slot). it.base) (at k) ∙ base_at callees s lines k;
      calls = λ k. ap (λ (it : Slot). it.calls) (at k) ∙ calls_at callees s lines k ∙ zeros (count_by is_call (take k lines));
      last = ap (λ (it : Slot). it.base) f ∙ end_base callees s lines;
    }

-- each line fits where the whole procedure does
all_fit : (callees : List Callee) (count : ℕ) (layout : Layout) (n a b c : ℕ) (rest : List WrittenLine)
    → ((k : ℕ) → (slot_in layout (n + k)).start ≡ a + sum_by (width_of callees) (take k rest))
    → ((k : ℕ) → (slot_in layout (n + k)).base ≡ b + sum_by (brings callees) (take k rest))
    → ((k : ℕ) → (slot_in layout (n + k)).calls ≡ c + count_by is_call (take k rest))
    → a + sum_by (width_of callees) rest ≤ 1000 → b + sum_by (brings callees) rest ≤ 64 → c + length rest ≤ 1000 → AllCallBelow count rest
    → AllFit callees count layout n rest
all_fit callees count layout n a b c [] f g h p q r s = tt
all_fit callees count layout n a b c (line ∷ rest) f g h p q r s =
    let w = sum_by-cons (width_of callees) line in
    let v = sum_by-cons (brings callees) line in
    let u = sum_by-cons (λ (x : WrittenLine). cond (is_call x) 1 0) line in
    let wr = w rest in
    let vr = v rest in
    let same : n + 0 ≡ n = omega arith in
    let f0 : (slot_in layout n).start ≡ a + 0 = subst (λ m. (slot_in layout m).start ≡ a + 0) same (f 0) in
    let g0 : (slot_in layout n).base ≡ b + 0 = subst (λ m. (slot_in layout m).base ≡ b + 0) same (g 0) in
    let h0 : (slot_in layout n).calls ≡ c + 0 = subst (λ m. (slot_in layout m).calls ≡ c + 0) same (h 0) in
    let next : (k : ℕ) → n + suc k ≡ suc n + k = λ k. omega arith in (
      record { below = s.0; start = omega arith; base = omega arith; calls = omega arith },
      all_fit callees count layout (suc n) (a + width_of callees line) (b + brings callees line) (c + cond (is_call line) 1 0) rest
          (λ k. let t = subst (λ m. (slot_in layout m).start ≡ a + sum_by (width_of callees) (take (suc k) (line ∷ rest))) (next k) (f (suc k)) in let wk = w (take k rest) in omega arith)
          (λ k. let t = subst (λ m. (slot_in layout m).base ≡ b + sum_by (brings callees) (take (suc k) (line ∷ rest))) (next k) (g (suc k)) in let vk = v (take k rest) in omega arith)
          (λ k. let t = subst (λ m. (slot_in layout m).calls ≡ c + count_by is_call (take (suc k) (line ∷ rest))) (next k) (h (suc k)) in let uk = u (take k rest) in omega arith)
          (omega arith) (omega arith) (more (is_call line) c (length rest) r) s.1,
    )
  where
    more : (d : Bool) (m l : ℕ) → m + suc l ≤ 1000 → (m + cond d 1 0) + l ≤ 1000
    more true m l t = omega arith
    more false m l t = omega arith

pub lines_fit : (callees : List Callee) (count variables : ℕ) (lines : List WrittenLine) (layout : Layout) → IsLayout callees variables lines layout
    → sum_by (width_of callees) lines ≤ 1000 → variables + sum_by (brings callees) lines ≤ 64 → length lines ≤ 1000 → AllCallBelow count lines
    → AllFit callees count layout 0 lines
lines_fit callees count variables lines layout is p q r s =
    let zeros : (k : ℕ) → k ≡ 0 + k = λ k. omega arith in
    all_fit callees count layout 0 0 variables 0 lines
    (λ k. subst (λ m. (slot_in layout m).start ≡ 0 + sum_by (width_of callees) (take k lines)) (zeros k) (is.start k ∙ zeros (start_of callees lines k)))
    (λ k. subst (λ m. (slot_in layout m).base ≡ variables + sum_by (brings callees) (take k lines)) (zeros k) (is.base k))
    (λ k. subst (λ m. (slot_in layout m).calls ≡ 0 + count_by is_call (take k lines)) (zeros k) (is.calls k ∙ zeros (count_by is_call (take k lines))))
    (omega arith) q (omega arith) s

call_same : (callees : List Callee) (p : WrittenProcedure) (under : Renumbering) (layout : Layout) (n : ℕ) (arguments : List Passed)
    → IsLayout callees (length (variables_in p.places)) p.lines layout → place_under under ≡ own_place callees p → (o : Option Callee)
    → ◌≡◌ {A = List Instruction}
    (elim o [ None ↦ [] | Some it ↦ call_lines p.places (place_under under) (slot_in layout n).base (slot_in layout n).start it arguments ])
    (elim o [ None ↦ [] | Some it ↦ call_lines p.places (own_place callees p) (base_of callees p n) (start_of callees p.lines n) it arguments ])
call_same callees p under layout n arguments is moves None = refl
call_same callees p under layout n arguments is moves (Some it) =
    ap (λ (f : ℕ → ℕ). call_lines p.places f (slot_in layout n).base (slot_in layout n).start it arguments) moves
    ∙ ap (λ (b : ℕ). call_lines p.places (own_place callees p) b (slot_in layout n).start it arguments) (is.base n)
    ∙ ap (λ (s : ℕ). call_lines p.places (own_place callees p) (base_of callees p n) s it arguments) (is.start n)

-- the lines by a layout are those of the expansion
pub lines_are : (callees : List Callee) (p : WrittenProcedure) (under : Renumbering) (layout : Layout) → IsLayout callees (length (variables_in p.places)) p.lines layout
    → under ≡ record { kept = length (variables_in p.places); shift = sum_by (brings callees) p.lines }
    → lines_by callees p.places under layout ≡ lines_of callees p
lines_are callees p under layout is e = fun_ext (λ n. fun_ext (λ line. at n line))
  where
    starts : start_in layout ≡ start_of callees p.lines
    starts = fun_ext is.start

    moves : place_under under ≡ own_place callees p
    moves = ap place_under e

    at : (n : ℕ) (line : WrittenLine) → lines_by callees p.places under layout n line ≡ lines_of callees p n line
    at n (own i) = ap (λ (f : ℕ → ℕ). moved f (start_in layout) i ∷ []) moves ∙ ap (λ (f : ℕ → ℕ). moved (own_place callees p) f i ∷ []) starts
    at n (call c arguments) = call_same callees p under layout n arguments is moves (slice_get callees c)

pub few_calls : (callees : List Callee) (variables : ℕ) (lines : List WrittenLine) (layout : Layout) → IsLayout callees variables lines layout → length lines ≤ 1000
    → (n : ℕ) → (slot_in layout n).calls ≤ 1000
few_calls callees variables lines layout is few n =
    let e = is.calls n in
    let c = count_by-le-length is_call (take n lines) in
    let l = length-take n lines in
    omega arith
