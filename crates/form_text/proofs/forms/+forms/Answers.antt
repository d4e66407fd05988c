use Rattle.std.proofs.Common.{◌≡◌, ◌+◌, ◌++◌, List, [], ℕ, append_assoc, append-nil, arith}
use Rattle.sym_simplify.specs.FormText.{form_text}
use Rattle.sym_simplify.specs.Held.{form_of}
use Rattle.form_text.specs.Lists.{place_at}
use Rattle.form_text.proofs.PartTexts.{parts_text, first-part, normal-text}
use Rattle.form_text.proofs.Putting.{puts_then, puts_along, puts_as, puts_all, puts_failed, puts_short, puts_next, puts_stopped}
use Rattle.form_text.proofs.forms.+forms.Goals as goal

pub put_atom-returns-in_err-put_side-in-Mul : goal.put_atom-returns-in_err-put_side-in-Mul
put_atom-returns-in_err-put_side-in-Mul g t c = rw c.in-Mul.is (puts_failed _ c.from_residual.ensures.0 (rw c.deref.ensures at c.in_err-put_side-in-Mul.ensures))

pub put_atom-returns-in_ok-put_side-in-Mul : goal.put_atom-returns-in_ok-put_side-in-Mul
put_atom-returns-in_ok-put_side-in-Mul g t c = rw c.in-Mul.is (puts_then (rw c.deref.ensures at c.in_ok-put_side-in-Mul.ensures) (rw append-nil at (rw c.deref-in-Mul.ensures at c.put_side-in-Mul.ensures)))

pub put_atom-returns-in_err-put_side-in-Div : goal.put_atom-returns-in_err-put_side-in-Div
put_atom-returns-in_err-put_side-in-Div g t c =
    rw c.in-Div.is (puts_failed _ c.from_residual-in_err-put_side-in-Div.ensures.0 (puts_short _ (rw c.deref-in-Div.ensures at c.in_err-put_side-in-Div.ensures)))

pub put_atom-returns-in_ok-put_side-in-Div : goal.put_atom-returns-in_ok-put_side-in-Div
put_atom-returns-in_ok-put_side-in-Div g t c = rw c.in-Div.is (puts_along _ _ (rw c.deref-in-Div.ensures at c.in_ok-put_side-in-Div.ensures) (rw c.deref-in-Div-2.ensures at c.put_side-in-Div-2.ensures))

pub put_atom-returns-in_err-put_side-in-Mod : goal.put_atom-returns-in_err-put_side-in-Mod
put_atom-returns-in_err-put_side-in-Mod g t c =
    rw c.in-Mod.is (puts_failed _ c.from_residual-in_err-put_side-in-Mod.ensures.0 (puts_short _ (rw c.deref-in-Mod.ensures at c.in_err-put_side-in-Mod.ensures)))

pub put_atom-returns-in_ok-put_side-in-Mod : goal.put_atom-returns-in_ok-put_side-in-Mod
put_atom-returns-in_ok-put_side-in-Mod g t c = rw c.in-Mod.is (puts_along _ _ (rw c.deref-in-Mod.ensures at c.in_ok-put_side-in-Mod.ensures) (rw c.deref-in-Mod-2.ensures at c.put_side-in-Mod-2.ensures))

pub put_part-returns-in_err-put_coefficient : goal.put_part-returns-in_err-put_coefficient
put_part-returns-in_err-put_coefficient g t c = puts_failed _ c.from_residual.ensures.0 c.in_err-put_coefficient.ensures

pub put_part-returns : goal.put_part-returns
put_part-returns g t c = puts_then c.in_ok-put_coefficient.ensures c.put_atom.ensures

-- a side between other bytes, in the pieces that are written
in_pieces : (before left text right behind side : List ℕ) → side ≡ left ++ text ++ right
    → (before ++ (left ++ [])) ++ (text ++ (right ++ (behind ++ []))) ≡ before ++ side ++ behind
in_pieces before left text right behind side e = rw e (simp (append_assoc, append-nil))

pub put_side-returns-in_err-put : goal.put_side-returns-in_err-put
put_side-returns-in_err-put g t c =
    let text : List ℕ = form_text (place_at c.args.places.now) (form_of c.args.side.now) in
    puts_as (in_pieces c.args.before.now c.brackets.result.0.now text c.brackets.result.1.now c.args.behind.now _ (rw c.is_bare-bare.ensures at (c.brackets.ensures text)))
    (puts_failed _ c.from_residual.ensures.0 c.in_err-put.ensures)

pub put_side-returns-in_err-put_normal : goal.put_side-returns-in_err-put_normal
put_side-returns-in_err-put_normal g t c =
    let text : List ℕ = form_text (place_at c.args.places.now) (form_of c.args.side.now) in
    puts_as (in_pieces c.args.before.now c.brackets.result.0.now text c.brackets.result.1.now c.args.behind.now _ (rw c.is_bare-bare.ensures at (c.brackets.ensures text)))
    (puts_then c.in_ok-put.ensures (puts_failed _ c.from_residual-in_err-put_normal.ensures.0 c.in_err-put_normal.ensures))

pub put_side-returns : goal.put_side-returns
put_side-returns g t c =
    let text : List ℕ = form_text (place_at c.args.places.now) (form_of c.args.side.now) in
    puts_as (in_pieces c.args.before.now c.brackets.result.0.now text c.brackets.result.1.now c.args.behind.now _ (rw c.is_bare-bare.ensures at (c.brackets.ensures text)))
    (puts_then c.in_ok-put.ensures (puts_then c.in_ok-put_normal.ensures c.put-2.ensures))

pub put_normal-returns-in-Err : goal.put_normal-returns-in-Err
put_normal-returns-in-Err g t c =
    let n : c.loop-at.at ≡ 0 + c.loop-at.at = omega arith in
    rw (← normal-text (place_at c.args.places.now) c.args.normal.now c.as_slice-parts.result.now c.as_slice-parts.ensures)
    (puts_short _ (puts_stopped (parts_text (place_at c.args.places.now)) 0 c.as_slice-parts.result.now c.loop-at.at c.index-parts-at.result c.loop-at.at n c.loop-at-test.true
    c.loop-at.invariant (rw (← first-part (place_at c.args.places.now) c.loop-at.at _) (rw c.index-parts-at.is at c.in-Err.ensures))))

pub put_normal-loop-at-preserved : goal.put_normal-loop-at-preserved
put_normal-loop-at-preserved g t c =
    let n : c.loop-at.at ≡ 0 + c.loop-at.at = omega arith in
    puts_next (parts_text (place_at c.args.places.now)) 0 c.as_slice-parts.result.now c.loop-at.at c.index-parts-at.result c.loop-at.at n c.loop-at-test.true c.loop-at.invariant
    (rw (← first-part (place_at c.args.places.now) c.loop-at.at _) (rw c.index-parts-at.is at c.in-Ok.ensures))

pub put_normal-returns : goal.put_normal-returns
put_normal-returns g t c =
    rw (← normal-text (place_at c.args.places.now) c.args.normal.now c.as_slice-parts.result.now c.as_slice-parts.ensures)
    (puts_then (puts_all (parts_text (place_at c.args.places.now)) 0 c.as_slice-parts.result.now c.loop-at.at c.loop-at-test.false c.loop-at.invariant)
    (rw c.is_empty.ensures at c.put_constant.ensures))
