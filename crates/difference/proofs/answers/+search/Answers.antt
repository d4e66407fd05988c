-- What the two sides of the first split answer is the answer for all splits.
use Rattle.std.proofs.Common.{arith, rules, ◌≡◌, ◌∙◌, ◌∷◌, [], ◌++◌, length, sym, All}
use Rattle.std.proofs.lemmas.Grind.{common_steps}
use Rattle.std.proofs.lemmas.List.Elements.{All-head, All-tail, All-push}
use Rattle.difference.specs.Constraints.{IsGiven}
use Rattle.difference.specs.Answers.{IsSplit}
use Rattle.difference.proofs.Settling.{refuted-unsolved}
use Rattle.difference.proofs.Boards.{filed-further, ready-further, ready-copied}
use Rattle.difference.proofs.Choices.{none-unmet, first-none, found-low, none-searched, found-high}
use Rattle.difference.proofs.answers.+search.Goals as goal

pub returns-in-Refuted-clause-found : goal.returns-in-Refuted-clause-found
returns-in-Refuted-clause-found t c =
    let refuted = rw (c.in-Refuted.is, c.deref.ensures.value) at c.in_ok-board.ensures in
    none-unmet c.args.ranges.now c.args.given.now.items c.args.splits.now
    (refuted-unsolved c.args.ranges.now c.args.given.now.items c.in-Refuted.field-0.items refuted)

pub returns-in_default-clause-found : goal.returns-in_default-clause-found
returns-in_default-clause-found t c =
    let settled = rw (c.in-Least.is, c.deref.ensures.value) at c.in_ok-board.ensures in
    rw c.in_default.ensures (first-none c.args.ranges.now c.args.given.now.items c.in-Least.board.values.items settled.least)

pub search-requires : goal.search-requires
search-requires t c =
    let settled = rw (c.in-Least.is, c.deref.ensures.value) at c.in_ok-board.ensures in
    let splits : All (IsSplit (length c.args.ranges.now)) (c.in-Some.first ∷ c.in-Some.rest.now)
    = rw c.in-Some.ensures at c.requires.splits in (
      search rules,
      (
        c.requires.ranges,
        (
          rw c.in_ok-push.ensures.items
              (All-push (IsGiven (length c.args.ranges.now)) c.args.given.now.items c.in-Some.first.low c.requires.given
              (All-head (IsSplit (length c.args.ranges.now)) c.in-Some.first c.in-Some.rest.now splits).low),
          (
            All-tail (IsSplit (length c.args.ranges.now)) c.in-Some.first c.in-Some.rest.now splits,
            (
              rw c.in_ok-push.ensures.items (filed-further c.args.ranges.now c.args.given.now.items (c.in-Some.first.low ∷ []) (length c.args.ranges.now) c.args.table.now.count c.args.table.now.buckets.items c.requires.filed),
              rw c.in_ok-push.ensures.items
                  (ready-copied c.args.ranges.now (c.args.given.now.items ++ c.in-Some.first.low ∷ []) c.args.table.now.count c.in-Least.board c.in_ok-copied.field-0
                  (ready-further c.args.ranges.now c.args.given.now.items (c.in-Some.first.low ∷ []) c.args.table.now.count c.in-Least.board c.requires.filed.within settled.ready)
                  c.in_ok-copied.ensures.values c.in_ok-copied.ensures.pending c.in_ok-copied.ensures.chains),
            ),
          ),
        ),
      ),
    )

pub returns-then-is_some-clause-found : goal.returns-then-is_some-clause-found
returns-then-is_some-clause-found t c =
    let found = rw c.in_ok-push.ensures.items at c.in_ok-low.ensures.found in
    rw c.in-Some.ensures (found-low c.args.ranges.now c.args.given.now.items c.in-Some.first c.in-Some.rest.now c.in_ok-low.low (sym c.is_some.ensures ∙ c.if-is_some.true) found)

pub search-requires-2 : goal.search-requires-2
search-requires-2 t c =
    let settled = rw (c.in-Least.is, c.deref.ensures.value) at c.in_ok-board.ensures in
    let splits : All (IsSplit (length c.args.ranges.now)) (c.in-Some.first ∷ c.in-Some.rest.now)
    = rw c.in-Some.ensures at c.requires.splits in
    let back : c.truncate.new.self.items ≡ c.args.given.now.items = grind (arith, common_steps) in (
      search rules,
      (
        c.requires.ranges,
        (
          rw (c.in_ok-push-2.ensures.items, back)
              (All-push (IsGiven (length c.args.ranges.now)) c.args.given.now.items c.in-Some.first.high c.requires.given
              (All-head (IsSplit (length c.args.ranges.now)) c.in-Some.first c.in-Some.rest.now splits).high),
          (
            All-tail (IsSplit (length c.args.ranges.now)) c.in-Some.first c.in-Some.rest.now splits,
            (
              rw (c.in_ok-push-2.ensures.items, back) (filed-further c.args.ranges.now c.args.given.now.items (c.in-Some.first.high ∷ []) (length c.args.ranges.now) c.args.table.now.count c.args.table.now.buckets.items c.requires.filed),
              rw (c.in_ok-push-2.ensures.items, back)
                  (ready-further c.args.ranges.now c.args.given.now.items (c.in-Some.first.high ∷ []) c.args.table.now.count c.in-Least.board c.requires.filed.within settled.ready),
            ),
          ),
        ),
      ),
    )

pub returns-clause-found : goal.returns-clause-found
returns-clause-found t c =
    let back : c.truncate.new.self.items ≡ c.args.given.now.items = grind (arith, common_steps) in
    let low = rw c.in_ok-push.ensures.items at c.in_ok-low.ensures.found in
    let high = rw (c.in_ok-push-2.ensures.items, back) at c.in_ok-high.ensures.found in
    let unmet = none-searched c.args.ranges.now (c.args.given.now.items ++ c.in-Some.first.low ∷ []) c.in-Some.rest.now c.in_ok-low.low (sym c.is_some.ensures ∙ c.if-is_some.false) low in
    rw c.in-Some.ensures (found-high c.args.ranges.now c.args.given.now.items c.in-Some.first c.in-Some.rest.now c.in_ok-high.high unmet high)
