-- The counters: tickets, confirms, consumers and ackers are numbered by u64 from 1.
use Rattle.std.specs.Prelude.{◌≡◌, ℕ, ◌+◌, ◌<◌, ◌^◌, ◌⊎◌, true, false, Option, Some, None, Result, Ok, Err, length}
use Rattle.lapin_types.specs.declared.call.Call.{Call}
use Rattle.lapin_types.specs.declared.acker_call.AckerCall.{AckerCall}
use Rattle.lapin_rules.specs.declared.calls.Asked.{Asked}
use Rattle.lapin_rules.specs.declared.calls.Asked.TheVariants as ask
use Rattle.lapin_rules.specs.Calls.{asked}
use Rattle.lapin_types.specs.declared.event.Event.{Event}
use Rattle.lapin_types.specs.declared.event.Event.TheVariants as event
use Rattle.lapin_types.specs.Types.{Error}
use Rattle.lapin_types.specs.Types.error
use Rattle.lapin_rules.specs.declared.broker_frames.Incoming.{Incoming}
use Rattle.lapin_rules.specs.declared.broker_frames.Incoming.TheVariants as incoming
use Rattle.lapin_rules.specs.Incoming.{incoming_of}
use Rattle.lapin_rules.specs.declared.broker_frames.ConsumerPart.{ConsumerPart}
use Rattle.lapin_rules.specs.declared.broker_frames.ConsumerPart.TheVariants as part
use Rattle.lapin_rules.specs.Content.{receives_part, whole_on, takes_acker, next_acker}
use Rattle.lapin_rules.specs.Consumers.{receives_consumer, next_consumer}
use Rattle.lapin_rules.specs.Ackers.{usable_at, acker_asked}
use Rattle.lapin_rules.specs.Wire.{Wire, state_of}
use Rattle.lapin_rules.specs.Asking.{is_allowed, is_held}
use Rattle.lapin_confirm.specs.PublishStates.{limit_on}
use Rattle.lapin_machine.specs.World.{World, readings_of}

-- each counter has n further numbers
pub record HasNumbersFor (n : ℕ) (w : World) : Type 0 where
  pub tickets : w.wire.tickets + n < 2 ^ 64
  pub confirms : w.wire.published + n < 2 ^ 64
  pub consumers : length w.wire.deliveries.subscriptions.consumers + n < 2 ^ 64
  pub ackers : length w.wire.deliveries.switches + n < 2 ^ 64

-- the next ticket would pass the greatest u64
abbrev pub NoTicket : Wire → Type 0
NoTicket b = b.tickets + 1 ≡ 2 ^ 64

-- the next confirm would pass the greatest u64
abbrev pub NoConfirm : Wire → Type 0
NoConfirm b = b.published + 1 ≡ 2 ^ 64

-- the next consumer would pass the greatest u64
abbrev pub NoConsumer : Wire → Type 0
NoConsumer b = next_consumer b.deliveries ≡ 2 ^ 64

-- the next acker would pass the greatest u64
abbrev pub NoAcker : Wire → Type 0
NoAcker b = next_acker b.deliveries ≡ 2 ^ 64

-- a number that the call needs would pass the greatest u64
abbrev pub LacksNumber : Asked → Wire → Type 0
LacksNumber (ask.Publish exchange key o payload properties) b = NoTicket b ⊎ NoConfirm b
LacksNumber (ask.Consume m tag queue o) b = NoTicket b ⊎ NoConsumer b
LacksNumber _ b = NoTicket b

-- numbers are used up exactly where an allowed call lacks one
abbrev pub UsedUp : ℕ → Asked → Wire → Type 0
UsedUp c k b = (is_allowed k (state_of c b) ≡ true) × LacksNumber k b

-- a usable acker's call lacks its ticket
abbrev pub AckUsedUp : Option (ℕ × ℕ) → AckerCall → Wire → Type 0
AckUsedUp None k b = ⊥
AckUsedUp (Some x) k b = UsedUp x.0 (acker_asked k x.1) b

-- a consumer's reply that is heard lacks the number of its consumer
abbrev pub LacksConsumer : ℕ → ConsumerPart → Wire → Type 0
LacksConsumer c (part.ConsumeOk tag) b = (receives_consumer c (part.ConsumeOk tag) b ≡ true) × NoConsumer b
LacksConsumer c _ b = ⊥

-- numbers are used up at a frame of the broker: it makes a message whole that lacks its acker, or a consumer lacks its number
abbrev pub FrameUsedUp : Incoming → Wire → Type 0
FrameUsedUp (incoming.Content c p) b = (receives_part c p b ≡ true) × (takes_acker b.deliveries (whole_on c p b) ≡ true) × NoAcker b
FrameUsedUp (incoming.Consumer c p) b = LacksConsumer c p b
FrameUsedUp _ b = ⊥

-- numbers are used up at an event: a call, a frame of the broker or an acker's call lacks one
abbrev pub EventUsedUp : Event → Wire → Type 0
EventUsedUp (event.Call c k) b = UsedUp c (asked k) b
EventUsedUp (event.Receive f) b = FrameUsedUp (incoming_of f) b
EventUsedUp (event.Acker n k) b = AckUsedUp (usable_at n b) k b
EventUsedUp _ b = ⊥

-- an error of a call: want of memory is free, numbers are used up only where the call lacks one, and it is refused by its state
-- only where it isn't allowed
abbrev pub AskCause : {T : Type 0} → Result T Error → ℕ → Asked → Wire → Type 0
AskCause (Ok x) c k b = Unit {0}
AskCause (Err error.NoMemory) c k b = Unit {0}
AskCause (Err error.NumbersUsedUp) c k b = UsedUp c k b
AskCause (Err (error.InvalidChannelState s)) c k b = (is_allowed k (state_of c b) ≡ false) × (s ≡ state_of c b)
AskCause (Err _) c k b = ⊥

-- an error of a public call: the same of what the call asks
abbrev pub CallCause : {T : Type 0} → Result T Error → ℕ → Call → Wire → Type 0
CallCause r c k b = AskCause r c (asked k) b

-- a try publish: it is refused by the limit only where the limit holds it back, and then for nothing else
abbrev pub TryCause : {T : Type 0} → Result T Error → ℕ → Call → World → Type 0
TryCause (Err (error.ConfirmsOutstanding limit)) c k w = (is_held c k w.wire (readings_of w.confirm_state w.slots) ≡ true) × (limit ≡ limit_on c w.confirm_state.publish_states)
TryCause (Err error.NoMemory) c k w = Unit {0}
TryCause r c k w = (is_held c k w.wire (readings_of w.confirm_state w.slots) ≡ false) × CallCause r c k w.wire

-- want of memory is the only error
abbrev pub OnlyMemory : {T : Type 0} → Result T Error → Type 0
OnlyMemory (Ok x) = Unit {0}
OnlyMemory (Err error.NoMemory) = Unit {0}
OnlyMemory (Err _) = ⊥

-- an acker's call: the same of the call that a usable acker makes
abbrev pub AckCause : {T : Type 0} → Result T Error → Option (ℕ × ℕ) → AckerCall → Wire → Type 0
AckCause r None k b = OnlyMemory r
AckCause r (Some x) k b = AskCause r x.0 (acker_asked k x.1) b

-- numbers are not used up
abbrev pub HasNumbers : {T : Type 0} → Result T Error → Type 0
HasNumbers (Err error.NumbersUsedUp) = ⊥
HasNumbers _ = Unit {0}

-- they are used up only where a frame lacks the acker of its message or the number of its consumer
abbrev pub ReceiveCause : {T : Type 0} → Result T Error → Incoming → Wire → Type 0
ReceiveCause (Err error.NumbersUsedUp) i b = FrameUsedUp i b
ReceiveCause _ i b = Unit {0}

-- an error of a step: want of memory is free, and numbers are used up only where a call or a frame lacks one
abbrev pub HasCause : {T : Type 0} → Result T Error → Event → Wire → Type 0
HasCause (Ok x) e b = Unit {0}
HasCause (Err error.NoMemory) e b = Unit {0}
HasCause (Err error.NumbersUsedUp) e b = EventUsedUp e b
HasCause (Err _) e b = ⊥
