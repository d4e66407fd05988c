use Rattle.std.proofs.Common.{◌∙◌, refl, ap, ℕ, ◌<◌, Some, None, List, [], ◌∷◌, ◌++◌, length, arith}
use Rattle.std.specs.Prelude.{not}
use Rattle.std.specs.List.{count_by}
use Rattle.std.proofs.lemmas.List.{length-set}
use Rattle.interval_reduce.specs.Choice.{IsFitting, IsLeastOf}
use Rattle.interval_reduce.proofs.Growing.{growing_start, growing_on, growing_end, within_push, none_left, members_within, fewer_after, AreFree-after}
use Rattle.interval_reduce.proofs.growth.interval.Goals as goal

pub loop-node-init : goal.loop-node-init
loop-node-init c =
    let was = c.args.taken.now.items in
    let t = c.requires.taken in
    let s = c.requires.succs in
    let b = c.requires.below in
    let n = c.requires.inside in
    let l : c.args.head < length was = omega arith in
    let k : c.args.head < length c.args.inside.now.items = omega arith in
    let f = fewer_after was c.args.head l c.requires.head in
    let d = ap (count_by not) c.in_ok-take.ensures.taken in
    record {
      taken_size = ap length c.in_ok-take.ensures.taken ∙ length-set _ _ _ ∙ c.requires.taken;
      inside_size = length-set _ _ _ ∙ c.requires.inside;
      within = within_push c.args.inside.now.items _ [] _ c.args.head k refl (c.in_ok-push.ensures.ok ∙ ap (λ (xs : List ℕ). xs ++ c.args.head ∷ []) c.new-members.ensures) c.requires.none_inside;
      free = AreFree-after was c.args.border.now.items c.args.head _ _ _ l (λ v i. let k = c.requires.next_rows c.args.head v i in omega (arith, k, t, s))
          c.in_ok-take.ensures.taken c.in_ok-take.ensures.border c.requires.border;
      fewer = omega (arith, f, d);
      grown = λ earlier m e z.
          growing_start c.args.preds.now c.args.succs.now earlier c.args.head was _ c.args.border.now.items _ _ c.requires.same_arcs c.requires.reached l
          c.in_ok-take.ensures.taken (c.in_ok-push.ensures.ok ∙ ap (λ (xs : List ℕ). xs ++ c.args.head ∷ []) c.new-members.ensures) c.in_ok-take.ensures.border m e z;
    }

pub loop-node-smaller : goal.loop-node-smaller
loop-node-smaller c =
    let was = c.loop-node.taken.items in
    let v = c.in-Some.node in
    let least : IsLeastOf (IsFitting c.loop-node.border.items c.args.preds.now c.loop-node.inside.items) (Some v)
    = rw (c.as_slice.ensures.value, c.as_slice-in-loop-node.ensures.value) at c.in-Some.ensures in
    let o = c.loop-node.invariant.free v least.0.0 in
    let f = fewer_after was v o.0 o.1 in
    let d = ap (count_by not) c.in_ok-take-2.ensures.taken in
    omega (arith, f, d)

pub loop-node-preserved : goal.loop-node-preserved
loop-node-preserved c =
    let was = c.loop-node.taken.items in
    let held = c.loop-node.inside.items in
    let v = c.in-Some.node in
    let least : IsLeastOf (IsFitting c.loop-node.border.items c.args.preds.now held) (Some v)
    = rw (c.as_slice.ensures.value, c.as_slice-in-loop-node.ensures.value) at c.in-Some.ensures in
    let o = c.loop-node.invariant.free v least.0.0 in
    let l = o.0 in
    let t = c.loop-node.invariant.taken_size in
    let i = c.loop-node.invariant.inside_size in
    let s = c.requires.succs in
    let k : v < length held = omega arith in
    let f = fewer_after was v l o.1 in
    let d = ap (count_by not) c.in_ok-take-2.ensures.taken in
    let g = c.loop-node.invariant.fewer in
    record {
      taken_size = ap length c.in_ok-take-2.ensures.taken ∙ length-set _ _ _ ∙ t;
      inside_size = length-set _ _ _ ∙ i;
      within = within_push held _ c.loop-node.members _ v k refl c.in_ok-push-2.ensures.ok c.loop-node.invariant.within;
      free = AreFree-after was c.loop-node.border.items v _ _ _ l (λ w j. let n = c.requires.next_rows v w j in omega (arith, n, t, s))
          c.in_ok-take-2.ensures.taken c.in_ok-take-2.ensures.border c.loop-node.invariant.free;
      fewer = omega (arith, f, d, g);
      grown = λ earlier m e z.
          growing_on c.args.preds.now c.args.succs.now earlier c.args.head v was held _ c.loop-node.border.items _ c.loop-node.members _ c.requires.same_arcs least l
          c.in_ok-take-2.ensures.taken c.in_ok-push-2.ensures.ok c.in_ok-take-2.ensures.border c.loop-node.invariant.within (c.loop-node.invariant.grown earlier m e z);
    }

pub returns-clause-next : goal.returns-clause-next
returns-clause-next c = λ earlier m e z.
    let none : IsLeastOf (IsFitting c.loop-node.border.items c.args.preds.now c.loop-node.inside.items) None
    = rw (c.as_slice.ensures.value, c.as_slice-in-loop-node.ensures.value) at c.in_default.ensures in
    growing_end c.args.preds.now earlier c.args.head c.loop-node.taken.items c.loop-node.inside.items c.loop-node.border.items c.loop-node.members none
    c.loop-node.invariant.within (c.loop-node.invariant.grown earlier m e z)

pub unmark-requires : goal.unmark-requires
unmark-requires c = λ v i. members_within c.loop-node.inside.items c.loop-node.members c.loop-node.invariant.within v (rw c.as_slice-2.ensures at i)

pub returns-clause-none_inside : goal.returns-clause-none_inside
returns-clause-none_inside c = none_left c.loop-node.inside.items _ c.loop-node.members _ c.as_slice-2.ensures c.loop-node.invariant.within c.unmark.ensures.unmarked
