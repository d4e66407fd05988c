use Rattle.std.proofs.Common.{sym, ◌∙◌}
use Rattle.std.proofs.lemmas.Bool.{false≢true, OnTrue_at, OnTrue_from}
use Rattle.info_flow.proofs.labels.is_consistent.Goals as goal

pub returns-then-marks-line : goal.returns-then-marks-line
returns-then-marks-line c =
    OnTrue_from c.is_own.result _ (λ e. record { own = λ m. c.is_own.ensures.0 e; kept = λ u. absurd (false≢true (sym u ∙ c.if-marks-line.true)) })

pub returns : goal.returns
returns c =
    OnTrue_from c.agree.result _
    (λ e. record { own = λ m. absurd (false≢true (sym c.if-marks-line.false ∙ m)); kept = λ u. rw c.label_at.ensures at (OnTrue_at e c.agree.ensures) })
