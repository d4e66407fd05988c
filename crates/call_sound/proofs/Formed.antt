-- The procedures of a text with calls that keeps all rules are well formed.
use Rattle.std.proofs.Common.{◌≡◌, ℕ, ◌+◌, ◌∙◌, sym, subst, List}
use Rattle.std.specs.Prelude.{Some, None, take, slice_get}
use Rattle.il_core.specs.Statement.{Placed}
use Rattle.il_core.specs.declared.statement.Link.{Link}
use Rattle.il_syntax.specs.Order.{IsInOrder}
use Rattle.il_blocks.specs.BlockLink.{AreLinks}
use Rattle.il_built.specs.CheckedText.{places_of}
use Rattle.il_built.specs.Holding.{setting_at}
use Rattle.il_called.specs.Called.{Passed, call, WrittenProcedure}
use Rattle.il_called.specs.CalledText.{Suit, parameters_of}
use Rattle.il_called.specs.Expansion.{callees_of}
use Rattle.call_checks.specs.WellFormed.{HaveSmallRanges, AreArguments, IsSoundCall, AreWellFormed}
use Rattle.call_rules.specs.Callee.{parameters_named}
use Rattle.call_rules.specs.CalledText.{called_text, written_procedure, written_procedures}
use Rattle.call_rules.specs.Rules.{Answers}
use Rattle.call_sound.specs.Laws.{AcceptedAreChecked, HaveSmallBounds, UncalledAreChecked}
use Rattle.call_sound.proofs.Fits.{calls_fit, known, named_sorts}
use Rattle.call_sound.proofs.Frame.{procedure_at}
use Rattle.call_sound.proofs.Given.{all_given, reads_at}
use Rattle.call_sound.proofs.Kept.{keeps_calls}
use Rattle.call_sound.proofs.Limited.{own_limited}
use Rattle.call_sound.proofs.Own.{own_answers}
use Rattle.call_sound.proofs.Small.{places_small}
use Rattle.call_sound.proofs.Uncalled.{uncalled_checked}
use Rattle.call_sound.proofs.Whole.{formed_are_checked}
use Rattle.call_sound.proofs.Widths.{earlier}

-- with a SKIP for each call they are checked procedures
pub uncalled_are_checked : UncalledAreChecked
uncalled_are_checked stmts links o ls a k p there =
    let keeps = keeps_calls stmts links a in
    uncalled_checked stmts links k p o ls (own_answers stmts links keeps (own_limited stmts links keeps o)) there

-- each call is sound
sound_call : (stmts : List Placed) (links : List Link) (k n c : ℕ) (p : WrittenProcedure) (arguments : List Passed) → IsInOrder stmts → Answers stmts links None
    → slice_get (written_procedures stmts links) k ≡ Some p → slice_get p.lines n ≡ Some (call c arguments)
    → IsSoundCall (callees_of (take k (written_procedures stmts links))) p.places c arguments
sound_call stmts links k n c p arguments o a there line =
    let ps = written_procedures stmts links in
    let x = known stmts links k n c arguments p (keeps_calls stmts links a) there line in
    let w = x.line in
    let f = x.fit in
    let fit = calls_fit stmts links o a k p there n c arguments line in
    let q = fit.1.0 in
    let named = procedure_at stmts links c q fit.1.1 in
    let b = earlier ps k c q fit.0 fit.1.1 in
    let own = procedure_at stmts links k p there in
    let r = reads_at stmts (1 + k) w.at w.stmt w.name w.given o w.there w.own w.says in
    let sorts = named_sorts stmts links k n c arguments x named.name in
    let sound = all_given stmts (1 + k) w.at (places_of stmts (1 + k)) (parameters_of (written_procedure stmts links (1 + c) named.name))
    (parameters_named (setting_at stmts w.at) w.name) w.given o w.own r sorts f.typed f.allowed f.narrow in
    let over : AreArguments (places_of stmts (1 + k)) (parameters_of b.callee.written) arguments =
    subst (λ (it : WrittenProcedure). AreArguments (places_of stmts (1 + k)) (parameters_of it) arguments) (sym (b.written ∙ named.is))
    (subst (AreArguments (places_of stmts (1 + k)) (parameters_of (written_procedure stmts links (1 + c) named.name))) w.passed sound) in
    record {
      callee = b.callee;
      there = b.there;
      suits = subst (λ (it : WrittenProcedure). Suit (parameters_of it) arguments) (sym b.written) fit.1.2;
      sound = subst (λ (it : WrittenProcedure). AreArguments it.places (parameters_of b.callee.written) arguments) (sym own.is) over;
    }

well_formed : (stmts : List Placed) (links : List Link) → IsInOrder stmts → AreLinks stmts links → Answers stmts links None → HaveSmallBounds stmts
    → AreWellFormed (called_text stmts links).procs
well_formed stmts links o ls a bounds k p there =
    let q = procedure_at stmts links k p there in
    record {
      checked = uncalled_are_checked stmts links o ls a k p there;
      small = subst (λ (it : WrittenProcedure). HaveSmallRanges it.places) (sym q.is) (places_small stmts (1 + k) bounds);
      calls = λ n c arguments line. sound_call stmts links k n c p arguments o a there line;
    }

-- so statements that keep all rules stand for a checked text with calls
pub accepted_are_checked : AcceptedAreChecked
accepted_are_checked stmts links o ls a names bounds = formed_are_checked stmts links o a names (well_formed stmts links o ls a bounds)
