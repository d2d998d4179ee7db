-- Where numbers are not used up, and where there is no room for a whole content.
use Rattle.std.proofs.Common.{Option, Result, Err}
use Rattle.lapin_types.specs.Types.{Error}
use Rattle.lapin_types.specs.Types.error
use Rattle.lapin_content.specs.declared.start.Start.{Start}
use Rattle.lapin_delivery.specs.Deliveries.{Deliveries}
use Rattle.lapin_rules.specs.declared.broker_frames.Incoming.{Incoming}
use Rattle.lapin_rules.specs.Wire.{Wire}
use Rattle.lapin_machine.specs.Numbers.{HasNumbers, ReceiveCause}
use Rattle.lapin_machine.specs.Told.{WasHeard}
use Rattle.lapin_machine.specs.Whole.{MakesRoom}

-- numbers that are not used up are used up only where one lacks
pub numbers_so : {T : Type 0} (r : Result T Error) (i : Incoming) (b : Wire) → HasNumbers r → ReceiveCause r i b
numbers_so (Err error.NumbersUsedUp) i b h = absurd h
numbers_so r i b h = tt

-- where there is no room for a whole content, nothing is heard
pub room_heard : (e : Error) (s : Option Start) (i : Deliveries) (P Q : Type 0) → MakesRoom (Err e) s i → Q → WasHeard (Err e) P Q
room_heard error.NoMemory s i P Q h q = q
room_heard error.NumbersUsedUp s i P Q h q = q
room_heard e s i P Q h q = absurd h
