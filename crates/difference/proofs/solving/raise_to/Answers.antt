-- The three ends of a raise, each by its lemma over the chain of the constraint's left side.
use Rattle.std.proofs.Common.{arith, rules, SFits, w64, to_z, of_z, ◌≡◌, ◌∙◌, ◌<◌, ◌<ℤ◌, ◌-ℤ◌, ℤ, pos, length, Some, sym, ap}
use Rattle.std.proofs.lemmas.Int.{ints}
use Rattle.std.proofs.lemmas.List.{take_rest, get_or_read}
use Rattle.std.proofs.lemmas.Option.{same_Some, slice_get_within}
use Rattle.difference.specs.Constraints.{number, value_at}
use Rattle.difference.proofs.Chained.{chain-at, refuted-cycle, refuted-high, raised-by}
use Rattle.difference.proofs.solving.raise_to.Goals as goal

pub returns-in-Some : goal.returns-in-Some
returns-in-Some c =
    let there = c.constraint_at-constraint.ensures in
    let step = c.in-Some.ensures in
    let holds = chain-at c.args.ranges.now c.args.constraints.now c.args.board.now.values.items c.args.board.now.chains.items
    c.constraint_at-constraint.result.left c.chain_at-before.result.now c.requires.kept
    (rw c.deref-2.ensures.value at c.chain_at-before.ensures) in
    let above : number c.args.board.now.values.items step.0.node
    <ℤ (value_at c.args.board.now.values.items c.constraint_at-constraint.result.left -ℤ c.constraint_at-constraint.result.bound)
    = rw step.2 (c.requires.pulled.above c.constraint_at-constraint.result there) in
    rw (rw take_rest at c.in_ok-evidence.ensures)
    (refuted-cycle c.args.ranges.now c.args.constraints.now c.args.board.now.values.items c.chain_at-before.result.now c.args.index
    c.constraint_at-constraint.result (value_at c.args.board.now.values.items c.constraint_at-constraint.result.left) c.in-Some.place step.0 holds.chain holds.proves there step.1
    (c.requires.pulled.right c.constraint_at-constraint.result there ∙ ap Some (sym step.2)) above)

pub returns-then-reach-from : goal.returns-then-reach-from
returns-then-reach-from c =
    let there = c.constraint_at-constraint.ensures in
    let holds = chain-at c.args.ranges.now c.args.constraints.now c.args.board.now.values.items c.args.board.now.chains.items
    c.constraint_at-constraint.result.left c.chain_at-before.result.now c.requires.kept
    (rw c.deref-2.ensures.value at c.chain_at-before.ensures) in
    let reach = rw c.deref.ensures.value at c.reach_of-reach.ensures in
    let above : c.range_at-greatest.result.greatest
    <ℤ (value_at c.args.board.now.values.items c.constraint_at-constraint.result.left -ℤ c.constraint_at-constraint.result.bound)
    = omega (arith, ints, reach, c.if-reach-from.true, c.from.ensures) in
    rw (c.in_ok-push.ensures.items, c.in_ok-edges.ensures)
    (refuted-high c.args.ranges.now c.args.constraints.now c.args.board.now.values.items c.chain_at-before.result.now c.args.index
    c.constraint_at-constraint.result (value_at c.args.board.now.values.items c.constraint_at-constraint.result.left) c.args.node c.range_at-greatest.result
    c.requires.kept.within.size holds.chain holds.proves there (c.requires.pulled.right c.constraint_at-constraint.result there)
    c.range_at-greatest.ensures c.in_default.ensures (c.requires.pulled.above c.constraint_at-constraint.result there) above)

pub index-requires : goal.index-requires
index-requires c = omega (arith, c.requires.kept.within.size, slice_get_within c.args.ranges.now c.args.node c.range_at-greatest.result c.range_at-greatest.ensures)

pub narrowed-value-requires-clause-low : goal.narrowed-value-requires-clause-low
narrowed-value-requires-clause-low c =
    let reach = rw c.deref.ensures.value at c.reach_of-reach.ensures in
    let above = c.requires.pulled.above c.constraint_at-constraint.result c.constraint_at-constraint.ensures in
    let known : c.args.node < length c.args.board.now.values.items
    = omega (arith, c.requires.kept.within.size, slice_get_within c.args.ranges.now c.args.node c.range_at-greatest.result c.range_at-greatest.ensures) in
    let low : c.index.result.now ≡ number c.args.board.now.values.items c.args.node
    = get_or_read c.args.board.now.values.items c.args.node c.index.result.now known c.index.ensures (pos 0) in
    let fits : SFits w64 c.index.result.now = search rules in
    omega (arith, ints)

pub returns : goal.returns
returns c =
    let there = c.constraint_at-constraint.ensures in
    let holds = chain-at c.args.ranges.now c.args.constraints.now c.args.board.now.values.items c.args.board.now.chains.items
    c.constraint_at-constraint.result.left c.chain_at-before.result.now c.requires.kept
    (rw c.deref-2.ensures.value at c.chain_at-before.ensures) in
    let reach = rw c.deref.ensures.value at c.reach_of-reach.ensures in
    let above = c.requires.pulled.above c.constraint_at-constraint.result there in
    let start : ℤ = value_at c.args.board.now.values.items c.constraint_at-constraint.result.left in
    let value : ℤ = to_z w64 (of_z w64 c.narrowed-value.result) in
    let is : value ≡ start -ℤ c.constraint_at-constraint.result.bound = omega (arith, ints, c.narrowed-value.ensures) in (
      raised-by c.args.ranges.now c.args.constraints.now c.args.board.now.values.items c.chain_at-before.result.now c.in_ok-chain.chain.items c.args.index
          c.constraint_at-constraint.result start value c.args.node holds.chain holds.proves there (c.requires.pulled.right c.constraint_at-constraint.result there)
          (slice_get_within c.args.ranges.now c.args.node c.range_at-greatest.result c.range_at-greatest.ensures) is c.in_default.ensures
          (omega (arith, ints))
          (λ r e. let same : r ≡ c.range_at-greatest.result = same_Some r c.range_at-greatest.result (sym e ∙ c.range_at-greatest.ensures) in
          rw same (omega (arith, ints, c.if-reach-from.false, c.from.ensures)))
          c.in_ok-chain.ensures,
      record {
        right = c.requires.pulled.right;
        value_is = λ d e. let same : d ≡ c.constraint_at-constraint.result = same_Some d c.constraint_at-constraint.result (sym e ∙ there) in rw same is;
      },
    )
