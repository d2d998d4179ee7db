-- The exit status of the process for each end of a run.
use Rattle.std.specs.Prelude.{ℕ}
use Rattle.lapin_inputs.specs.declared.status.Status.{Status}
use Rattle.lapin_inputs.specs.declared.status.Status.TheVariants.{Fine, BadWords, BadLine, NoMemory, ReadFault, WriteFault, InputTooLong}

-- 0 where the whole text was written, and a number of its own for each other end
abbrev pub code_of : Status → ℕ
code_of Fine = 0
code_of BadWords = 1
code_of BadLine = 2
code_of NoMemory = 3
code_of ReadFault = 4
code_of WriteFault = 5
code_of InputTooLong = 6
