-- A procedure is its places and its lines; each line is an instruction, whose last number is the line to which it may jump.
use Rattle.std.specs.Prelude.{ℕ, List}
use Rattle.il_core.specs.Expression.{Expression, expression_of}
use Rattle.il_core.specs.declared.line.Place.{Place}
use Rattle.il_core.specs.declared.line.Line.{Line}
use Rattle.il_core.specs.declared.line.Line.TheVariants as l

pub data Instruction : Type 0 where
  pre : Expression → Instruction
  assign : ℕ → Expression → Instruction
  if_true : Expression → ℕ → Instruction
  otherwise : ℕ → Instruction
  end_if : Instruction
  loop : Instruction
  end_loop : ℕ → Instruction
  exit : ℕ → Instruction
  exit_when : Expression → ℕ → Instruction
  label : Instruction
  goto : ℕ → Instruction
  skip : Instruction
  assert : Expression → Instruction
  return : ℕ → Instruction
  end_procedure : Expression → Instruction

-- the instruction that a `Line` holds
abbrev pub instruction_of : Line → Instruction
instruction_of (l.Pre e) = pre (expression_of e)
instruction_of (l.Assign p e) = assign p (expression_of e)
instruction_of (l.If e q) = if_true (expression_of e) q
instruction_of (l.Else q) = otherwise q
instruction_of l.EndIf = end_if
instruction_of l.Loop = loop
instruction_of (l.EndLoop q) = end_loop q
instruction_of (l.Exit q) = exit q
instruction_of (l.ExitWhen e q) = exit_when (expression_of e) q
instruction_of l.Label = label
instruction_of (l.Goto q) = goto q
instruction_of l.Skip = skip
instruction_of (l.Assert e) = assert (expression_of e)
instruction_of (l.Return q) = return q
instruction_of (l.EndProc e) = end_procedure (expression_of e)

pub record Procedure : Type 0 where
  pub places : List Place
  pub lines : List Instruction
