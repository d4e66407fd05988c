use Rattle.std.proofs.Common.{◌≡◌, ◌-◌, length, take, drop, arith, rules}
use Rattle.std.specs.Cmp.Lexicographic.{slice_cmp}
use Rattle.std.specs.Ordering.{is_lt, nat_cmp}
use Rattle.std.proofs.lemmas.List.{take_all, length-drop}
use Rattle.std.proofs.lemmas.List.Sorted.{IsPartitionPoint-from_clause}
use Rattle.call_names.specs.Search.{begins_with}
use Rattle.call_names.proofs.InOrder.{before_first, begins_first, side_by_side}
use Rattle.call_names.proofs.sorted.all_beginning_with.Goals as goal

pub returns : goal.returns
returns c =
    let stem = c.args.stem.now in
    let names = c.args.names.now in
    let start = c.partition_point-start.result in
    let end = c.partition_point-end.result in
    let rest = take (length names - start) (drop start names) in
    let inside = c.partition_point-start.ensures.bound in
    let first = IsPartitionPoint-from_clause (λ name. is_lt (slice_cmp nat_cmp name stem)) names start c.partition_point-start.ensures.partitioned
    (before_first stem names c.requires) (λ a r q k. search rules) in
    let whole : rest ≡ drop start names = take_all (length names - start) (drop start names) (omega (arith, length-drop start names)) in
    let last = IsPartitionPoint-from_clause (begins_with stem) rest end c.partition_point-end.ensures.partitioned
    (begins_first stem names c.requires start rest whole inside first.1) (λ a r q k. search rules) in
    side_by_side stem names c.requires start end inside c.partition_point-end.ensures.bound first last
