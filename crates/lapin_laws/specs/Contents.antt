-- What a history does to contents, in the words of `lapin_content`: the methods that begin one, the headers and bodies that are
-- received, and what the end of an opening drops.
use Rattle.std.specs.Prelude.{ℕ, List, [], ◌∷◌, ◌++◌, map}
use Rattle.lapin_types.specs.declared.event.Event.{Event}
use Rattle.lapin_types.specs.declared.event.Event.TheVariants as event
use Rattle.lapin_types.specs.declared.record.Record.{Record}
use Rattle.lapin_types.specs.declared.record.Record.TheVariants as record_
use Rattle.lapin_content.specs.Contents.{for_ticket, for_consumer}
use Rattle.lapin_content.specs.Marks.{ContentMark}
use Rattle.lapin_content.specs.Marks as content
use Rattle.lapin_consumer.specs.Subscriptions.{found}
use Rattle.lapin_rules.specs.declared.broker_frames.ContentPart.{ContentPart}
use Rattle.lapin_rules.specs.declared.broker_frames.ContentPart.TheVariants as part
use Rattle.lapin_rules.specs.declared.broker_frames.Incoming.{Incoming}
use Rattle.lapin_rules.specs.declared.broker_frames.Incoming.TheVariants as incoming
use Rattle.lapin_rules.specs.Incoming.{incoming_of}
use Rattle.lapin_rules.specs.Content.{content_class, get_ticket}
use Rattle.lapin_rules.specs.Events.{confirm_marks}
use Rattle.lapin_rules.specs.History.{History, Past, longer, past}
use Rattle.lapin_rules.specs.Wire.{Wire}
use Rattle.lapin_laws.specs.Outgoing.{ended_in}

-- a part that is received; the answer to a get names the get that it answers, a delivery the consumer that is registered under its tag
abbrev pub part_contents : ℕ → ContentPart → Wire → List ContentMark
part_contents c (part.GetOk s) b = content.Awaited c content_class (for_ticket (get_ticket c b) s) ∷ []
part_contents c (part.Return s) b = content.Awaited c content_class s ∷ []
part_contents c (part.Deliver tag s) b = content.Awaited c content_class (for_consumer (found c tag b.deliveries.subscriptions) s) ∷ []
part_contents c (part.Header h) b = content.Header c h ∷ []
part_contents c (part.Body bytes) b = content.Body c bytes ∷ []

-- what a received frame of the broker does to contents: only a part of a content does something
abbrev pub received_contents : Incoming → Wire → List ContentMark
received_contents (incoming.Content c p) b = part_contents c p b
received_contents i b = []

-- what a frame of the broker does to contents, by its record: nothing where it was not received
abbrev pub heard_contents : Record → Incoming → Wire → List ContentMark
heard_contents record_.Received i b = received_contents i b
heard_contents r i b = []

-- what an event does to contents, but for ends of openings: only a frame of the broker does something
abbrev pub begun_contents : Event → Record → Wire → List ContentMark
begun_contents (event.Receive f) r b = heard_contents r (incoming_of f) b
begun_contents e r b = []

-- an opening that ends drops the contents of its channel
abbrev pub content_marks : Wire → Event → Record → List ContentMark
content_marks b e r = map content.Dropped (ended_in (confirm_marks b e r)) ++ begun_contents e r b

-- what happens to contents in a history that goes on from this past
abbrev pub contents_on : Past → History → List ContentMark
contents_on p [] = []
contents_on p (x ∷ h) = content_marks p.wire x.0 x.1 ++ contents_on (longer p x.0 x.1) h

-- all that happened to contents
abbrev pub content_history : ℕ → History → List ContentMark
content_history frame_max h = contents_on (past frame_max []) h
