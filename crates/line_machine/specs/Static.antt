-- The static bounds that the code holds.
use Rattle.il_core.specs.Bounds.{Bounds}
use Rattle.line_machine.specs.declared.bounding.StaticBounds.{StaticBounds}

abbrev pub bounds_in : StaticBounds → Bounds
bounds_in b = record { low = b.low; high = b.high }
