-- Poison: an outbox or a channel that is poisoned takes no method and no publish, and a push answers the error.
use Rattle.std.specs.Prelude.{ℕ, List, Option, Some, None}
use Rattle.std.specs.Option.{option_or, option_flatten}
use Rattle.lapin_tables.specs.ByChannel.{at_channel, on_channel}
use Rattle.lapin_types.specs.Types.{Error}
use Rattle.lapin_types.specs.declared.leaving.Publish.{Publish}
use Rattle.lapin_rules.specs.Frames.{MethodEntry}
use Rattle.lapin_rules.specs.Words.{with_channel}
use Rattle.lapin_outbox.specs.declared.outbox.Pushed.{Pushed}
use Rattle.lapin_outbox.specs.declared.outbox.Pushed.TheVariants as pushed
use Rattle.lapin_outbox.specs.Outgoing.{OutboxState, with_lists, with_method, with_publish}

-- the poison of a channel alone, if it has one
abbrev pub error_at : ℕ → List (ℕ × Option Error) → Option Error
error_at c errors = option_flatten (at_channel c errors)

-- the error that a push on a channel meets: the channel's, else the outbox's
abbrev pub poison_on : ℕ → OutboxState → Option Error
poison_on c o = option_or (error_at c o.errors) o.poison

-- ---- a push

-- what a push tells, by the poison that it meets
abbrev pub push_told : Option Error → Pushed
push_told None = pushed.Queued
push_told (Some e) = pushed.Poisoned e

-- what it leaves: the outbox with the entry, where it meets no poison
abbrev pub unless_poisoned : Option Error → OutboxState → OutboxState → OutboxState
unless_poisoned None queued old = queued
unless_poisoned (Some e) queued old = old

-- what the push of a method leaves: it is queued behind the other methods, unless it meets poison
abbrev pub method_pushed : MethodEntry → OutboxState → OutboxState
method_pushed m o = unless_poisoned (poison_on m.channel o) (with_lists (with_method m o.lists) o) o

-- what the push of a publish leaves: it is queued behind the other publishes, unless it meets poison
abbrev pub publish_pushed : Publish → OutboxState → OutboxState
publish_pushed p o = unless_poisoned (poison_on p.channel o) (with_lists (with_publish p o.lists) o) o

-- ---- poison is set and cleared

-- the outbox with this as its own poison, which holds for every channel, or with none of its own
abbrev pub with_poison : Option Error → OutboxState → OutboxState
with_poison e o = record { frame_max = o.frame_max; lists = o.lists; returned = o.returned; poison = e; errors = o.errors }

-- the outbox with these as the poisons of its channels
abbrev pub with_errors : List (ℕ × Option Error) → OutboxState → OutboxState
with_errors errors o = record { frame_max = o.frame_max; lists = o.lists; returned = o.returned; poison = o.poison; errors = errors }

-- a channel is poisoned
abbrev pub channel_poisoned : ℕ → Error → OutboxState → OutboxState
channel_poisoned c e o = with_errors (with_channel c (Some e) o.errors) o

-- a channel is poisoned no more
abbrev pub channel_cleared : ℕ → OutboxState → OutboxState
channel_cleared c o = with_errors (on_channel c (λ _. None) o.errors) o
