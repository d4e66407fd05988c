use Rattle.std.proofs.Common.{◌∙◌, inl, ap, Some, None, List, [], ◌∷◌, ◌++◌, length}
use Rattle.std.proofs.lemmas.List.{length-replicate}
use Rattle.il_core.specs.LineGraph.{IsIn}
use Rattle.flow_graph.specs.Search.{Reaches}
use Rattle.interval_reduce.specs.declared.interval.Interval.{Interval}
use Rattle.interval_reduce.specs.Choice.{Precedes, IsLeastOf}
use Rattle.interval_reduce.specs.Growth.{AreMarked, IsBorder, members_of}
use Rattle.interval_reduce.proofs.Growing.{leveling_start, leveling_on, leveling_end, AreMarked-none, no_border, start_push}
use Rattle.interval_reduce.proofs.growth.level.Goals as goal

pub loop-head-init : goal.loop-head-init
loop-head-init c =
    let none : AreMarked c.in_ok-taken.taken.items [] = rw c.in_ok-taken.ensures (AreMarked-none (length c.args.preds.now)) in
    let open_border : IsBorder (Reaches (Precedes c.args.preds.now) 0) (Precedes c.args.preds.now) [] c.new-border.result.items
    = rw c.new-border.ensures.items (no_border (Reaches (Precedes c.args.preds.now) 0) (Precedes c.args.preds.now)) in
    record {
      size = c.in_ok-interval.ensures.size ∙ ap length c.in_ok-taken.ensures ∙ length-replicate _ _;
      inside_size = c.in_ok-interval.ensures.inside ∙ ap length c.in_ok-inside.ensures ∙ length-replicate _ _;
      none_inside = c.in_ok-interval.ensures.none_inside;
      free = c.in_ok-interval.ensures.border;
      going = leveling_start c.args.preds.now c.in_ok-interval.field-0 _ _ _ c.in_ok-interval.ensures.head
          (c.in_ok-interval.ensures.next [] none open_border (inl c.in_ok-interval.ensures.head))
          (c.in_ok-push.ensures.ok ∙ ap (λ (xs : List Interval). xs ++ c.in_ok-interval.field-0 ∷ []) c.new-level.ensures);
    }

pub loop-head-preserved : goal.loop-head-preserved
loop-head-preserved c =
    let i = c.in_ok-interval-2.field-0 in
    let g = c.loop-head.invariant.going in
    let least : IsLeastOf (IsIn c.loop-head.border.items) (Some c.in-Some.head) = rw c.as_slice.ensures.value at c.in-Some.ensures in
    record {
      size = c.in_ok-interval-2.ensures.size ∙ c.loop-head.invariant.size;
      inside_size = c.in_ok-interval-2.ensures.inside ∙ c.loop-head.invariant.inside_size;
      none_inside = c.in_ok-interval-2.ensures.none_inside;
      free = c.in_ok-interval-2.ensures.border;
      going = leveling_on c.args.preds.now c.loop-head.level i _ _ c.loop-head.border.items _ (rw c.in_ok-interval-2.ensures.head least)
          (c.in_ok-interval-2.ensures.next (members_of c.loop-head.level) g.marked g.at_border (start_push (members_of c.loop-head.level) i.head g.start))
          c.in_ok-push-2.ensures.ok g.at_border g.start g.goes;
    }

pub returns : goal.returns
returns c =
    let none : IsLeastOf (IsIn c.loop-head.border.items) None = rw c.as_slice.ensures.value at c.in_default.ensures in
    leveling_end c.args.preds.now c.loop-head.level c.loop-head.taken.items c.loop-head.border.items none c.loop-head.invariant.going
