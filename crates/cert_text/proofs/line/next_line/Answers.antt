use Rattle.std.proofs.Common.{◌≡◌, List, ◌∷◌, ◌++◌, ℕ, sym, ◌∙◌, ap}
use Rattle.std.specs.Prelude.{Option, Some}
use Rattle.cert_text.specs.Line.{spelling}
use Rattle.cert_text.specs.LineReading.{line_read}
use Rattle.cert_text.proofs.Options.{not_some}
use Rattle.cert_text.proofs.Parts.{parted-some}
use Rattle.cert_text.proofs.LinesRead.{read_spells, spelt_reads, next_parted}
use Rattle.cert_text.proofs.line.next_line.Goals as goal

pub returns-in-Some-spelt_line : goal.returns-in-Some-spelt_line
returns-in-Some-spelt_line c =
    let spells = read_spells c.in-Some.front.now c.in-Some-spelt_line.line (sym c.in-Some-spelt_line.ensures) in
    let parts = parted-some 10 c.args.text.now c.in-Some.front.now c.in-Some.rest.now c.in-Some.ensures in
    record { readable = spells.0; is = parts.0 ∙ ap (λ t. t ++ 10 ∷ c.in-Some.rest.now) (sym spells.1) }

pub returns-in-None-spelt_line : goal.returns-in-None-spelt_line
returns-in-None-spelt_line c = λ line rest h.
    let same : ◌≡◌ {A = Option (List ℕ × List ℕ)} (Some (c.in-Some.front.now, c.in-Some.rest.now)) (Some (spelling line, rest)) = sym c.in-Some.ensures ∙ next_parted c.args.text.now line rest h in
    let pair : ◌≡◌ {A = List ℕ × List ℕ} (c.in-Some.front.now, c.in-Some.rest.now) (spelling line, rest) = cc in
    not_some line (c.in-None-spelt_line.ensures ∙ ap (λ (x : List ℕ × List ℕ). line_read x.0) pair ∙ spelt_reads line h.readable)

pub returns-in-None : goal.returns-in-None
returns-in-None c = λ line rest h. not_some (spelling line, rest) (sym c.in-None.ensures ∙ next_parted c.args.text.now line rest h)
