-- What each event but a frame request does to what a channel asks for.
use Rattle.std.proofs.Common.{◌≡◌, ℕ, false, Option, Some, None, refl}
use Rattle.lapin_types.specs.declared.event.Event.{Event}
use Rattle.lapin_types.specs.declared.event.Event.TheVariants as event
use Rattle.lapin_rules.specs.declared.broker_frames.Incoming.{Incoming}
use Rattle.lapin_rules.specs.Ackers.{usable_at}
use Rattle.lapin_rules.specs.Incoming.{incoming_of, frame_class, frame_method}
use Rattle.lapin_rules.specs.Readings.{Readings}
use Rattle.lapin_rules.specs.Wire.{Wire}
use Rattle.lapin_rules.specs.Events.{record_of, after_event}
use Rattle.lapin_consumer.specs.Subscriptions.{consumer_at}
use Rattle.lapin_effects.specs.Effects.{is_next}
use Rattle.lapin_answers.proofs.Turns.{Turns, Stays, call_turn, acker_turn, let_go_turn}
use Rattle.lapin_answers.proofs.Heard.{incoming_turn, lost_turn}

-- the broker's frame that an event brings
abbrev pub income_in : Event → Option Incoming
income_in (event.Receive f) = Some (incoming_of f)
income_in _ = None

pub event_turn : (c : ℕ) (b : Wire) (readings : Readings) (e : Event) → is_next e ≡ false → Turns c e (record_of b readings e) (income_in e) b (after_event b e (record_of b readings e))
event_turn c b readings (event.Call d k) h = call_turn c d k b readings
event_turn c b readings (event.Next flow) h = absurd cc
event_turn c b readings (event.Receive f) h = incoming_turn c (event.Receive f) (record_of b readings (event.Receive f)) (frame_class f) (frame_method f) b.link b readings (incoming_of f) refl
event_turn c b readings (event.PollTicket n) h = Stays tt refl refl refl
event_turn c b readings (event.PollConfirm n) h = Stays tt refl refl refl
event_turn c b readings (event.PollConsumer n) h = Stays tt refl refl refl
event_turn c b readings (event.PollWait d) h = Stays tt refl refl refl
event_turn c b readings (event.AsideTicket n) h = Stays tt refl refl refl
event_turn c b readings (event.AsideConfirm n) h = Stays tt refl refl refl
event_turn c b readings (event.Acker n k) h = acker_turn c (event.Acker n k) _ (usable_at n b) k b
event_turn c b readings (event.Delegate n) h = Stays tt refl refl refl
event_turn c b readings (event.DropConsumer n) h = let_go_turn c (event.DropConsumer n) _ (consumer_at n b.deliveries.subscriptions) b
event_turn c b readings event.NextJob h = Stays tt refl refl refl
event_turn c b readings (event.State d) h = Stays tt refl refl refl
event_turn c b readings event.Lost h = lost_turn c event.Lost _ b
