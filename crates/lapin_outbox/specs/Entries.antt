-- How the outbox's own entries are seen.
use Rattle.std.specs.Prelude.{List, [], Option, Some, None}
use Rattle.lapin_rules.specs.Frames.{MethodEntry, RestEntry}
use Rattle.lapin_outbox.specs.declared.queues.Waiting.{Waiting}

-- a method that waits, with its ticket, if it has one
abbrev pub entry_of : Waiting → MethodEntry
entry_of w = record { channel = w.channel; method = w.method; ticket = w.ticket }

-- what follows the begun publish; nothing where there is none
abbrev pub rest_in : Option (List RestEntry) → List RestEntry
rest_in None = []
rest_in (Some entries) = entries
