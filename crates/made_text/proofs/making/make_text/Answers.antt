use Rattle.std.proofs.Common.{◌≡◌, ℕ, ◌+◌, ◌-◌, ◌≤◌, List, ◌++◌, length, sym, ◌∙◌, ap, subst, arith}
use Rattle.std.specs.Prelude.{codes}
use Rattle.made_text.specs.Made.{made_text, opening_text}
use Rattle.made_text.proofs.Pieces.{rounds, one_more, made_is}
use Rattle.made_text.proofs.Counted.{is_short}
use Rattle.made_text.proofs.making.make_text.Goals as goal
use Rattle.made_text.proofs.making.make_text.Goals.{else-loop-least-test, then-loop-least-test+in_ok-add_round+else-least-number}

-- a round is added behind those before it
pub loop-least-preserved : goal.loop-least-preserved
loop-least-preserved c =
    let same : c.loop-least.least ≡ c.loop-least.least + 1 - 1 = omega arith in
    record {
      first = omega arith;
      last = omega arith;
      before = one_more (opening_text c.args.number) c.loop-least.text.items _ c.loop-least.least c.loop-least.invariant.first c.loop-least.invariant.before c.in_ok-add_round.ensures
          ∙ ap (λ n. opening_text c.args.number ++ rounds n) same;
    }

all_rounds : (number : ℕ) (text : List ℕ) (k : ℕ) → k ≡ number → text ≡ opening_text number ++ rounds k → text ≡ opening_text number ++ rounds number
all_rounds number text k e f = f ∙ ap (λ n. opening_text number ++ rounds n) e

-- the last two lines behind the rounds
written : (number : ℕ) (text all : List ℕ) → text ≡ opening_text number ++ rounds number → all ≡ text ++ codes "ENDPROC;\nFINISH;\n" → all ≡ made_text number
written number text all e f = f ∙ ap (λ t. t ++ codes "ENDPROC;\nFINISH;\n") e ∙ sym (made_is number)

pub returns-clause-text : goal.returns-clause-text
returns-clause-text c = written c.args.number c.loop-least-test.text.items c.extend_from_slice.new.self.items (elim c.loop-least-test.branch [
  | else-loop-least-test w ↦ absurd (omega arith)
  | then-loop-least-test+in_ok-add_round+else-least-number w ↦
      let last : c.loop-least.least ≡ c.args.number = omega arith in
      all_rounds c.args.number c.loop-least-test.text.items c.loop-least.least last
      (ap (λ t. t.items) w.text-is ∙ one_more (opening_text c.args.number) c.loop-least.text.items _ c.loop-least.least c.loop-least.invariant.first c.loop-least.invariant.before w.in_ok-add_round.ensures)
]) c.in_ok-extend_from_slice.ensures.items

pub returns-clause-short : goal.returns-clause-short
returns-clause-short c = let P : List ℕ → Type 0 = λ t. length t ≤ 1048576 in subst P (sym (returns-clause-text c)) (is_short c.args.number c.requires.1)
