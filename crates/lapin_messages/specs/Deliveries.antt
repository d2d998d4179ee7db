-- What the log of a consumer says of an honest broker: its messages are those that the broker sent to its tag, and nothing of them is
-- kept back.
use Rattle.std.specs.Prelude.{◌≡◌, ℕ, suc, false, List, Some, slice_get}
use Rattle.std.specs.List.{list_any}
use Rattle.lapin_consumer.specs.Readings.{Story, stories, arrivals}
use Rattle.lapin_delivery.specs.Marks.{DeliveryMark}
use Rattle.lapin_joint.specs.declared.step.Step.{Step}
use Rattle.lapin_joint.specs.Joint.{joined_to}
use Rattle.lapin_laws.specs.Consumers.{deliveries_history, consumer_history}
use Rattle.lapin_verdicts.specs.Deeds.{deeds, opening}
use Rattle.lapin_verdicts.specs.Messages.{ArePrefix}
use Rattle.lapin_messages.specs.Openings.{discards, registered_in, in_opening, registrations}
use Rattle.lapin_messages.specs.Carried.{is_void, carried}

-- all that happened to consumers in a joined run
abbrev pub marks_of : ℕ → List Step → List DeliveryMark
marks_of frame_max steps = deliveries_history frame_max (joined_to frame_max steps).session

-- the consumers of a joined run, in the order of their numbers; a consumer's number is one more than its place
abbrev pub consumers_of : ℕ → List Step → List Story
consumers_of frame_max steps = stories (consumer_history frame_max (joined_to frame_max steps).session)

-- Of a consumer whose tag was registered once in its opening: the messages of its log, the discarded ones among them, are a prefix of the
-- whole messages that the broker sent to that tag in that opening, in order and one for one.
abbrev pub LogsAreSent : ℕ → List Step → Type 0
LogsAreSent frame_max steps = (place : ℕ) (consumer : Story) → slice_get (consumers_of frame_max steps) place ≡ Some consumer →
    registrations consumer.channel (registered_in consumer.channel (suc place) (marks_of frame_max steps)) consumer.tag (marks_of frame_max steps) ≡ 1 →
    ArePrefix consumer.log consumer.tag (opening consumer.channel (registered_in consumer.channel (suc place) (marks_of frame_max steps)) (deeds frame_max steps))

-- Of a consumer on whose channel nothing was discarded in its opening: nothing in its log is marked as discarded, so its items and jobs
-- carry all of it.
abbrev pub LogsAreCarried : ℕ → List Step → Type 0
LogsAreCarried frame_max steps = (place : ℕ) (consumer : Story) → slice_get (consumers_of frame_max steps) place ≡ Some consumer →
    list_any (discards consumer.channel) (in_opening consumer.channel (registered_in consumer.channel (suc place) (marks_of frame_max steps)) (marks_of frame_max steps)) ≡ false →
    (list_any is_void consumer.log ≡ false) × (carried consumer.log ≡ arrivals consumer.log)
