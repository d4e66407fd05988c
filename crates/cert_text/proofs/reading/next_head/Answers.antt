use Rattle.std.proofs.Common.{◌≡◌, ◌∙◌, sym, subst}
use Rattle.std.specs.List.{Contains}
use Rattle.cert_text.specs.declared.line.Line.TheVariants as lines
use Rattle.cert_text.proofs.LinesRead.{same_next}
use Rattle.cert_text.proofs.reading.next_head.Goals as goal

pub returns-in-None-known : goal.returns-in-None-known
returns-in-None-known c = λ p t after h k.
    let same : lines.Head c.in-Head.procedure c.in-Head.threat ≡ lines.Head p t = sym c.in-Head.is ∙ (same_next c.args.text.now c.in-Some.line (lines.Head p t) c.in-Some.behind.now after c.in-Some.ensures h).0 in
    let name : p ≡ c.in-Head.procedure = cc in
    c.in-None-known.ensures (subst (Contains c.args.names.now) name k)
