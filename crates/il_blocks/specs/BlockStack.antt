-- The blocks that are open behind a front, kept as a stack, the innermost first.
use Rattle.std.specs.Prelude.{◌&&◌, not, is_some, ℕ, Bool, List, [], ◌∷◌, Option, Some, None, if◌then◌else◌}
use Rattle.std.specs.Option.{option_map}
use Rattle.il_core.specs.Statement.{Statement}
use Rattle.il_blocks.specs.declared.block.Kind.{Kind}
use Rattle.il_blocks.specs.declared.block.Closer.{Closer}
use Rattle.il_blocks.specs.declared.block.OpenBlock.{OpenBlock}
use Rattle.il_blocks.specs.Block.{fits, is_round, leaves, opened_by, closed_by}

-- the innermost LOOP that is open
abbrev pub innermost : List OpenBlock → Option ℕ
innermost [] = None
innermost (e ∷ _) = e.round

abbrev pub in_loop : List OpenBlock → Bool
in_loop es = is_some (innermost es)

-- the stack behind a closer, if it fits
abbrev pub left : Option Closer → List OpenBlock → Option (List OpenBlock)
left None es = Some es
left (Some c) [] = None
left (Some c) (e ∷ es) = if fits c e.kind then Some es else None

-- the stack behind an opener that is the statement numbered i
abbrev pub entered : ℕ → Option Kind → List OpenBlock → List OpenBlock
entered i None es = es
entered i (Some k) es = record { at = i; kind = k; round = if is_round k then Some i else innermost es } ∷ es

-- the stack behind the statement numbered i, if it is matched
abbrev pub moved : ℕ → Statement → List OpenBlock → Option (List OpenBlock)
moved i s es = if leaves s && not (in_loop es) then None else option_map (entered i (opened_by s)) (left (closed_by s) es)
