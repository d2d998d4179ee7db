-- A consumer has something exactly where its poll is not pending.
use Rattle.std.proofs.Common.{◌≡◌, not, Option, Some, None, Ok, refl}
use Rattle.lapin_consumer.specs.Subscriptions.{Consumer, Handed, answered, is_ready, is_some, poll_of}
use Rattle.lapin_rules.specs.Consumers.{item_record}
use Rattle.lapin_machine.specs.Told.{is_pending_record}

something : (o : Option Handed) → is_some o ≡ not (is_pending_record (item_record (Ok o)))
something None = refl
something (Some item) = refl

pub ready_as_told : (x : Option Consumer) → is_ready x ≡ not (is_pending_record (item_record (answered x)))
ready_as_told None = refl
ready_as_told (Some x) = something (poll_of x)
