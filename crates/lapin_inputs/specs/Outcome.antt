-- What the end of a run says of the bytes read and the bytes written.
use Rattle.std.specs.Prelude.{◌≤◌, ℕ, List, length, Option, Some, None}
use Rattle.std.specs.Io.KnownBytes.{Appends}
use Rattle.lapin_io.specs.Numbers.{RoseBy}
use Rattle.lapin_inputs.specs.Reading.{longest_input, ReadsAll}
use Rattle.lapin_inputs.specs.Writing.{WritesPrefix}
use Rattle.lapin_inputs.specs.declared.status.Status.{Status}
use Rattle.lapin_inputs.specs.declared.status.Status.TheVariants.{Fine, BadWords, BadLine, NoMemory, ReadFault, WriteFault, InputTooLong}

-- The input was read to its end and was short enough, and P holds of its bytes.
pub record HasRead (left_before left_after : Option (List ℕ)) (given_before given_after : ℕ) (P : List ℕ → Type 0) : Type 0 where
  pub bytes : List ℕ
  pub all : ReadsAll left_before left_after bytes
  pub counted : RoseBy (length bytes) given_before given_after
  pub short : length bytes ≤ longest_input
  pub says : P bytes

-- what is printed: the text, where this line of the input is the first bad one, if there is any
abbrev pub Print : Type 1
Print = Option ℕ → List ℕ → Type 0

-- the whole text was written, and every line of the input is in the format
abbrev pub WroteAll : Option (List ℕ) → Option (List ℕ) → Print → Type 0
WroteAll before after prints = (text : List ℕ) × prints None text × Appends before after text

-- the text up to the first bad line was written, and the line that names it
abbrev pub WroteToBadLine : Option (List ℕ) → Option (List ℕ) → Print → Type 0
WroteToBadLine before after prints =
    (line : ℕ) × (text : List ℕ) × prints (Some line) text × Appends before after text

-- a prefix of the text was written
abbrev pub WroteSome : Option (List ℕ) → Option (List ℕ) → Print → Type 0
WroteSome before after prints =
    (bad : Option ℕ) × (text : List ℕ) × prints bad text × WritesPrefix before after text

-- one of the ends of a run whose input was read
abbrev pub IsAnswer : Status → Type 0
IsAnswer Fine = Unit {0}
IsAnswer BadWords = ⊥
IsAnswer BadLine = Unit {0}
IsAnswer NoMemory = Unit {0}
IsAnswer ReadFault = ⊥
IsAnswer WriteFault = Unit {0}
IsAnswer InputTooLong = ⊥

-- one of the ends of a run that reads nothing
abbrev pub IsUnread : Status → Type 0
IsUnread BadLine = ⊥
IsUnread status = IsAnswer status

-- all that was to be written was written
abbrev pub IsWhole : Status → Type 0
IsWhole Fine = Unit {0}
IsWhole BadLine = Unit {0}
IsWhole _ = ⊥

-- nothing was amiss but want of memory
abbrev pub IsComplete : Status → Type 0
IsComplete Fine = Unit {0}
IsComplete NoMemory = Unit {0}
IsComplete _ = ⊥
