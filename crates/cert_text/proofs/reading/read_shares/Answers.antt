use Rattle.std.proofs.Common.{◌≡◌, ◌∙◌, length, sym, ap, subst, arith}
use Rattle.cert_text.specs.LineReading.{StandsNext}
use Rattle.cert_text.proofs.Stuck.{Fits, none_so_far, more_so_far, all_so_far, shares_stuck, fits_here, other_fits, some_shares}
use Rattle.cert_text.proofs.reading.read_shares.Goals as goal

pub lines-init : goal.lines-init
lines-init c = none_so_far c.args.text.now c.new-shares.result c.new-shares.ensures

pub lines-preserved : goal.lines-preserved
lines-preserved c =
    let next = subst (λ l. StandsNext c.lines.rest.now l c.in-Some.behind.now) c.in-Share.is c.in-Some.ensures in
    more_so_far c.args.text.now c.lines.rest.now c.in-Some.behind.now c.lines.shares c.push.new.self c.in-Share.share c.lines.invariant c.in_ok-push-in-Share.ensures.ok
    (omega (arith, c.if-len-ge-SHARE_LIMIT.false, c.len.ensures)) next

pub returns-in_default : goal.returns-in_default
returns-in_default c =
    shares_stuck c.args.text.now c.lines.rest.now c.lines.shares c.lines.invariant.front c.lines.invariant.few c.lines.invariant.readable (λ line after next f. c.in_default.ensures line after next)

pub returns-then-len-ge-SHARE_LIMIT : goal.returns-then-len-ge-SHARE_LIMIT
returns-then-len-ge-SHARE_LIMIT c =
    shares_stuck c.args.text.now c.lines.rest.now c.lines.shares c.lines.invariant.front c.lines.invariant.few c.lines.invariant.readable
    (fits_here c.lines.rest.now c.in-Some.behind.now c.lines.shares c.in-Some.line c.in-Some.ensures
    (subst (λ l. Fits c.lines.shares l → ⊥) (sym c.in-Share.is) (λ f. omega (arith, f, c.if-len-ge-SHARE_LIMIT.true, c.len.ensures))))

pub returns-then-is_empty : goal.returns-then-is_empty
returns-then-is_empty c =
    let empty = c.is_empty.ensures.0 c.if-is_empty.true in
    let size : length c.lines.shares ≡ 0 = ap length empty in
    shares_stuck c.args.text.now c.lines.rest.now c.lines.shares c.lines.invariant.front c.lines.invariant.few c.lines.invariant.readable
    (fits_here c.lines.rest.now c.in-Some.behind.now c.lines.shares c.in-Some.line c.in-Some.ensures
    (subst (λ l. Fits c.lines.shares l → ⊥) (sym c.in-End.is) (λ f. omega (arith, f, size))))

pub returns-in-End : goal.returns-in-End
returns-in-End c =
    let next = subst (λ l. StandsNext c.lines.rest.now l c.in-Some.behind.now) c.in-End.is c.in-Some.ensures in
    all_so_far c.args.text.now c.lines.rest.now c.in-Some.behind.now c.lines.shares c.lines.invariant
    (some_shares c.lines.shares (λ e. let t = c.is_empty.ensures.1 e in let u = sym t ∙ c.if-is_empty.false in cc)) next

pub returns-in_default-line : goal.returns-in_default-line
returns-in_default-line c =
    shares_stuck c.args.text.now c.lines.rest.now c.lines.shares c.lines.invariant.front c.lines.invariant.few c.lines.invariant.readable
    (fits_here c.lines.rest.now c.in-Some.behind.now c.lines.shares c.in-Some.line c.in-Some.ensures
    (other_fits c.lines.shares c.in-Some.line c.in_default-line.not-Share c.in_default-line.not-End))
