-- A made text is accepted: it is read as its statements, whose blocks are matched, and which break no rule and have no CALL.
use Rattle.std.proofs.Common.{◌≡◌, ℕ, ◌≤◌, refl}
use Rattle.std.specs.Prelude.{Result, Ok, Err, None}
use Rattle.il_core.specs.declared.refusal.Refusal.{Refusal}
use Rattle.il_inline.specs.Expanded.{WholeExpansion, whole_expansion}
use Rattle.call_rules.specs.CalledText.{called_text}
use Rattle.call_free.specs.Laws.{AnswersAlike}
use Rattle.acceptance.specs.Acceptance.{Accepts, HasRefusal, OneAnswer}
use Rattle.made_text.specs.Made.{made_text}
use Rattle.made_accepted.specs.Statements.{statements}
use Rattle.made_accepted.proofs.Reading.{is_said}
use Rattle.made_accepted.proofs.Blocks.{are_linked, no_call}
use Rattle.made_accepted.proofs.Rules.{none_broken}

pub is_accepted : (n : ℕ) → n ≤ 200 → AnswersAlike → (x : WholeExpansion) × Accepts (made_text n) x
unfolding Accepts
is_accepted n h alike =
    let said = is_said n h in
    let linked = are_linked n in (
      whole_expansion (called_text (statements n) linked.0),
      record {
        tokens = said.tokens;
        read = said.read;
        say = record {
          stmts = statements n;
          parsed = said.parsed;
          accepted = record { links = linked.0; linked = linked.1; kept = (alike (statements n) linked.0 None (no_call n)).1 (none_broken n h); text_is = refl };
        };
      },
    )

-- and so it is not refused, since no text has two answers
pub not_refused : (n : ℕ) → n ≤ 200 → AnswersAlike → OneAnswer → (refusal : Refusal) → HasRefusal (made_text n) refusal → ⊥
not_refused n h alike once refusal r =
    let accepted = is_accepted n h alike in
    let z : ◌≡◌ {A = Result WholeExpansion Refusal} (Ok accepted.0) (Err refusal) = once (made_text n) (Ok accepted.0) (Err refusal) accepted.1 r in
    cc
