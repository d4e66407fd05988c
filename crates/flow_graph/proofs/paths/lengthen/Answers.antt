use Rattle.std.proofs.Common.{◌∙◌, ap, [], ◌∷◌, ◌++◌, List, ℕ, get_or, arith}
use Rattle.flow_graph.specs.Search.{row_of}
use Rattle.flow_graph.proofs.Members.{IsIn-get_or}
use Rattle.flow_graph.proofs.Tracks.{lengthened_skip, lengthened_set}
use Rattle.flow_graph.proofs.paths.lengthen.Goals as goal
use Rattle.flow_graph.proofs.paths.lengthen.Goals.{then-lacks_path+in_ok-path, else-lacks_path}

pub lacks_path-requires : goal.lacks_path-requires
lacks_path-requires c =
    let l = c.requires.below (get_or c.args.row.now c.loop-line.line-index 0) (IsIn-get_or c.args.row.now c.loop-line.line-index 0 c.loop-line-test.true) in
    let s = c.loop-line.invariant.size in
    let t = c.requires.size in
    (l, omega (arith, l, s, t))

pub loop-line-preserved : goal.loop-line-preserved
loop-line-preserved c = elim c.if-lacks_path.branch [
  | then-lacks_path+in_ok-path w ↦
      let o = c.lacks_path.ensures.0 w.if-lacks_path.true in
      let l = c.requires.below (get_or c.args.row.now c.loop-line.line-index 0) (IsIn-get_or c.args.row.now c.loop-line.line-index 0 c.loop-line-test.true) in
      let s = c.loop-line.invariant.size in
      let t = c.requires.size in
      rw (w.paths-is, w.set_path.ensures)
      (lengthened_set c.args.row.now c.loop-line.line-index c.args.marked.now c.args.at c.args.paths.now.items c.loop-line.paths.items w.in_ok-path.path
      c.loop-line-test.true c.loop-line.invariant (omega (arith, l, s, t)) o.0 o.1 c.requires.at.1
      (w.in_ok-path.ensures
      ∙ ap (λ (xs : List ℕ). xs ++ get_or c.args.row.now c.loop-line.line-index 0 ∷ [])
      (w.row_at.ensures ∙ ap (λ (ps : List (List ℕ)). row_of ps c.args.at) w.as_slice.ensures.value)))
  | else-lacks_path w ↦
      rw w.paths-is
      (lengthened_skip c.args.row.now c.loop-line.line-index c.args.marked.now c.args.at c.args.paths.now.items c.loop-line.paths.items c.loop-line-test.true
      c.loop-line.invariant (λ m z. let t = c.lacks_path.ensures.1 (m, z) in let f = w.if-lacks_path.false in absurd (cc)))
]
