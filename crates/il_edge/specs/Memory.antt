-- A device in memory is seen as what it holds and counts, and it fails by the numbers of its calls or where it is full.
use Rattle.std.specs.Prelude.{ℕ, ◌+◌, ◌-◌, ◌^◌, ◌<◌, min, List}
use Rattle.std.specs.List.{Contains}

-- A source in memory: the bytes left, the most that a read gives, the numbers of the reads that fail, how many reads
-- there were, up to a u64's last value, and how many of them failed.
pub record MemoryInput : Type 0 where
  pub left : List ℕ
  pub piece : ℕ
  pub fails : List ℕ
  pub calls : ℕ
  pub faults : ℕ

-- A sink in memory: the bytes held and how many of them are settled, the most that a write takes, how many bytes fit in
-- all, the numbers of the calls that fail, and how many calls there were and how many failed, up to a u64's last value.
pub record MemoryOutput : Type 0 where
  pub held : List ℕ
  pub settled : ℕ
  pub piece : ℕ
  pub room : ℕ
  pub fails : List ℕ
  pub calls : ℕ
  pub faults : ℕ

-- A sink that fails only where it is full: the bytes held and how many of them are settled, how many more fit, and how
-- many writes failed, up to a u64's last value.
pub record SureOutput : Type 0 where
  pub held : List ℕ
  pub settled : ℕ
  pub room : ℕ
  pub faults : ℕ

-- One more, up to a u64's last value, where a count stops.
abbrev pub counted : ℕ → ℕ
counted n = min (n + 1) (2 ^ 64 - 1)

-- The number of the next call, from 1, is among those that fail; past a u64's last value there is no such number.
abbrev pub FailsNext : List ℕ → ℕ → Type 0
FailsNext fails calls = (calls + 1 < 2 ^ 64) × Contains fails (calls + 1)
