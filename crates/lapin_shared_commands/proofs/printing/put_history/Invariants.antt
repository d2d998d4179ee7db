use Rattle.std.proofs.Common.{◌≡◌, ◌++◌, take}
use Rattle.lapin_shared_commands.specs.Printed.{history_text}
use Rattle.lapin_shared_commands.proofs.printing.put_history.Given as goal

-- the first k entries are written
abbrev pub invariant-loop-k : goal.invariant-loop-k
invariant-loop-k l = l.text.items ≡ l.fn.text.items ++ history_text (take l.k l.history)
