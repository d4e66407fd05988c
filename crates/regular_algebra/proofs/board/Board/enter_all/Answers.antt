use Rattle.std.proofs.Common.{refl, ap, ◌∙◌, get_or}
use Rattle.std.proofs.lemmas.Option.{slice_get-get_or}
use Rattle.regular_algebra.specs.Cells.{is_gone}
use Rattle.regular_algebra.proofs.Sizes.{size-same, size-then}
use Rattle.regular_algebra.proofs.Turns.{entered-none, entered-more}
use Rattle.regular_algebra.proofs.board.Board.enter_all.Goals as goal
use Rattle.regular_algebra.specs.declared.steps.Ends.{Ends}

abbrev nothing : Ends
nothing = record { tail = 0; head = 0 }

pub loop-k-init : goal.loop-k-init
loop-k-init c = record { sized = size-same _; marks = refl; so_far = entered-none _ _ c.requires.blank }

pub join-requires-clause-row : goal.join-requires-clause-row
join-requires-clause-row c =
    let arc = slice_get-get_or c.args.arcs.now c.loop-k.k nothing c.loop-k-test.true in
    let e = get_or c.args.arcs.now c.loop-k.k nothing in
    ap (λ g. is_gone g e.tail) c.loop-k.invariant.marks ∙ c.requires.live e.tail (c.requires.below c.loop-k.k e.tail e.head arc).0

pub join-requires-clause-column : goal.join-requires-clause-column
join-requires-clause-column c =
    let arc = slice_get-get_or c.args.arcs.now c.loop-k.k nothing c.loop-k-test.true in
    let e = get_or c.args.arcs.now c.loop-k.k nothing in
    ap (λ g. is_gone g e.head) c.loop-k.invariant.marks ∙ c.requires.live e.head (c.requires.below c.loop-k.k e.tail e.head arc).1

pub loop-k-preserved : goal.loop-k-preserved
loop-k-preserved c =
    record {
      sized = size-then _ _ _ c.loop-k.invariant.sized c.in_ok-join.ensures.sized;
      marks = c.in_ok-join.ensures.gone ∙ c.loop-k.invariant.marks;
      so_far = entered-more _ _ _ _ _ _ (c.loop-k.invariant.sized.first ∙ c.requires.first) (slice_get-get_or c.args.arcs.now c.loop-k.k nothing c.loop-k-test.true)
          c.loop-k.invariant.so_far c.in_ok-join.ensures.table;
    }
