use Rattle.std.proofs.Common.{◌∙◌, ◌≤◌, refl, length, arith}
use Rattle.std.proofs.lemmas.Option.{slice_get_read}
use Rattle.std.specs.declared.cmp.Ordering.TheVariants.{Less, Greater}
use Rattle.sym_simplify.specs.declared.normal.Normal.{out-Normal}
use Rattle.threat_certs.proofs.Compared.{compare_less, compare_greater, compare_longer, compare_shorter, compare_ends, by_parts}
use Rattle.threat_certs.proofs.comparing.+comparing.Goals as goal
use Rattle.threat_certs.proofs.comparing.+comparing.Goals.{compare-then-loop-at-test+else-at-others, compare-else-loop-at-test}

pub compare-returns-in-Less : goal.compare-returns-in-Less
compare-returns-in-Less t c =
    let ps = c.as_slice-parts.result.now in
    let qs = c.as_slice-others.result.now in
    by_parts Less c.args.left.now c.args.right.now ps qs c.as_slice-parts.ensures c.as_slice-others.ensures
    (compare_less ps qs c.loop-at.at c.index-parts-at.result c.index-others-at.result
    (slice_get_read ps (length ps) c.loop-at.at c.index-parts-at.result refl c.loop-at-test.true c.index-parts-at.is)
    (slice_get_read qs (length qs) c.loop-at.at c.index-others-at.result refl c.if-at-others.true c.index-others-at.is)
    (out-Normal c.args.left.now).constant (out-Normal c.args.right.now).constant c.in-Less.ensures c.loop-at.invariant)

pub compare-returns-in-Greater : goal.compare-returns-in-Greater
compare-returns-in-Greater t c =
    let ps = c.as_slice-parts.result.now in
    let qs = c.as_slice-others.result.now in
    by_parts Greater c.args.left.now c.args.right.now ps qs c.as_slice-parts.ensures c.as_slice-others.ensures
    (compare_greater ps qs c.loop-at.at c.index-parts-at.result c.index-others-at.result
    (slice_get_read ps (length ps) c.loop-at.at c.index-parts-at.result refl c.loop-at-test.true c.index-parts-at.is)
    (slice_get_read qs (length qs) c.loop-at.at c.index-others-at.result refl c.if-at-others.true c.index-others-at.is)
    (out-Normal c.args.left.now).constant (out-Normal c.args.right.now).constant c.in-Greater.ensures c.loop-at.invariant)

pub compare-returns-then-at-parts : goal.compare-returns-then-at-parts
compare-returns-then-at-parts t c =
    let ps = c.as_slice-parts.result.now in
    let qs = c.as_slice-others.result.now in
    let past : length qs ≤ c.loop-at.at = elim c.loop-at-test.branch [ compare-then-loop-at-test+else-at-others w ↦ omega arith | compare-else-loop-at-test w ↦ omega arith ] in
    by_parts Greater c.args.left.now c.args.right.now ps qs c.as_slice-parts.ensures c.as_slice-others.ensures
    (compare_longer ps qs c.loop-at.at (out-Normal c.args.left.now).constant (out-Normal c.args.right.now).constant c.if-at-parts.true past c.loop-at.invariant)

pub compare-returns-then-at-others-2 : goal.compare-returns-then-at-others-2
compare-returns-then-at-others-2 t c =
    let ps = c.as_slice-parts.result.now in
    let qs = c.as_slice-others.result.now in
    by_parts Less c.args.left.now c.args.right.now ps qs c.as_slice-parts.ensures c.as_slice-others.ensures
    (compare_shorter ps qs c.loop-at.at (out-Normal c.args.left.now).constant (out-Normal c.args.right.now).constant c.if-at-parts.false c.if-at-others-2.true c.loop-at.invariant)

pub compare-returns : goal.compare-returns
compare-returns t c =
    let ps = c.as_slice-parts.result.now in
    let qs = c.as_slice-others.result.now in
    by_parts c.cmp.result c.args.left.now c.args.right.now ps qs c.as_slice-parts.ensures c.as_slice-others.ensures
    (c.cmp.ensures ∙ compare_ends ps qs c.loop-at.at (out-Normal c.args.left.now).constant (out-Normal c.args.right.now).constant c.if-at-parts.false c.if-at-others-2.false c.loop-at.invariant)
