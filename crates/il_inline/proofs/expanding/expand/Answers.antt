use Rattle.std.proofs.Common.{◌∙◌, sym, map}
use Rattle.std.proofs.lemmas.List.{map-id}
use Rattle.std.proofs.lemmas.Iterator.Adapters.{YieldsList-from_vec}
use Rattle.std.proofs.lemmas.Iterator.Consumers.{YieldsList-end}
use Rattle.il_called.specs.Called.{called_of}
use Rattle.il_inline.proofs.Texts.{whole_expanded, named_text}
use Rattle.il_inline.proofs.Together.{together}
use Rattle.il_inline.proofs.expanding.expand.Goals as goal

pub returns-clause-expansion : goal.returns-clause-expansion
returns-clause-expansion c =
    let gives = c.into_iter-proc-iterator.ensures.into_iter_gives in
    let t = YieldsList-end (YieldsList-from_vec {s = c.into_iter-proc-iterator.result} c.in_ok-inlined.inlined.items gives.0 (gives.1 ∙ c.in_ok-inlined.inlined.ok.0))
    c.loop-proc.yielded c.loop-proc.proc-iterator c.loop-proc.yielded_by c.next.result c.next.new.self c.in-None.is c.next.ensures.steps in
    whole_expanded c.args.text.now c.in_ok-inlined.inlined.items c.loop-proc.yielded c.new.result c.loop-proc.origins c.loop-proc.spans c.in_ok-inlined.ensures.names
    c.in_ok-inlined.ensures.callees (sym (map-id c.loop-proc.yielded) ∙ t.0)
    (c.new.ensures ∙ named_text c.title.result c.args.text.now.title c.profile.result c.args.text.now.profile c.loop-proc.procs (map (λ x. x.proc) c.loop-proc.yielded) c.title.ensures c.profile.ensures.value c.loop-proc.invariant.procs)
    c.loop-proc.invariant.origins c.loop-proc.invariant.spans

pub returns-clause-fits : goal.returns-clause-fits
returns-clause-fits c = together (called_of c.args.text.now) _ c.profile.ensures.checked (returns-clause-expansion c)
