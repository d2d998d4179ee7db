-- The numbers by which C is told what became of a call.
use Rattle.std.specs.Prelude.{ℕ}
use Rattle.lapin_client.specs.declared.status.Status.{Status}
use Rattle.lapin_client.specs.declared.status.Status.TheVariants as status

abbrev pub code_of : Status → ℕ
code_of status.Done = 0
code_of status.Refused = 1
code_of status.NotInGrammar = 2
code_of status.NoMemory = 3
code_of status.Ended = 4
code_of status.Malformed = 5
code_of status.TooLong = 6
code_of status.Closed = 7
code_of status.Pending = 8
code_of status.Gone = 9
code_of status.Kept = 10
