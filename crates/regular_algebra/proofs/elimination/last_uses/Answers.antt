use Rattle.std.proofs.Common.{◌≡◌, ◌∙◌, ◌++◌, ◌⊎◌, ℕ, arith, length, take, drop, get_or, ap, sym, subst}
use Rattle.std.proofs.lemmas.List.{take_at}
use Rattle.regular_algebra.specs.Run.{AreLastUses}
use Rattle.regular_algebra.proofs.Uses.{last-uses}
use Rattle.regular_algebra.proofs.elimination.last_uses.Goals as goal

pub returns : goal.returns
returns c =
    let own = c.in_ok-last.last in
    let mid = c.mark_steps.new.last in
    let end = c.mark_answers.new.last in
    let mid_size : length mid ≡ own.len = omega (arith, c.mark_steps.ensures.size, c.in_ok-last.ensures) in
    let mid_is : take own.len (mid ++ drop (length mid) own.items) ≡ mid = take_at mid (drop (length mid) own.items) own.len mid_size in
    let end_size : length end ≡ own.len = omega (arith, c.mark_answers.ensures.size, ap length mid_is, mid_size) in
    let end_is : take own.len (end ++ drop (length end) (take own.len (mid ++ drop (length mid) own.items))) ≡ end = take_at end _ own.len end_size in
    subst (AreLastUses c.args.first c.args.steps.now c.args.answers.now) (sym end_is)
    (last-uses c.args.first c.args.steps.now c.args.answers.now mid end (omega (arith, end_size, mid_size, c.mark_steps.ensures.size)) c.mark_steps.ensures.used
    (subst (λ s. (k : ℕ) → (get_or end k 0 ≡ get_or s k 0) ⊎ (get_or end k 0 ≡ length c.args.steps.now)) (c.as_mut_slice-2.ensures.value ∙ mid_is) c.mark_answers.ensures.kept)
    c.mark_answers.ensures.answered)
