use Rattle.control_flow.proofs.Showing.{cycle_from_path, some_closes}
use Rattle.control_flow.proofs.evidence.cycle_at.Goals as goal

pub unreachable-requires : goal.unreachable-requires
unreachable-requires c =
    some_closes c.args.rows.now c.as_slice.result.now c.in_ok-blocked.blocked.items c.args.line c.as_slice-found.result.now c.as_slice.ensures.value
    c.in_ok-blocked.ensures.exact (rw (← c.as_slice-found.ensures) at c.in_ok-paths.ensures) c.requires.back c.in_default.ensures

pub returns : goal.returns
returns c =
    let p = rw (← c.as_slice-found.ensures) at c.in_ok-paths.ensures in
    let e = c.in-Some.ensures in
    rw (c.from_vec.ensures, c.in_ok-cycle.ensures.items, c.row_at.ensures)
    (cycle_from_path c.args.rows.now c.as_slice.result.now c.in_ok-blocked.blocked.items c.args.line _ c.in-Some.end c.as_slice.ensures.value
    c.in_ok-blocked.ensures.exact (p.path c.in-Some.end e.1) e.2)
