-- The answer: octets, or what was handed out and is told from where it lies.
use Rattle.std.specs.Prelude.{◌≡◌, ℕ, false, List, [], Option, Some, None, Result, Ok, Err}
use Rattle.lapin_client.specs.declared.answers.Handed.{Handed}
use Rattle.lapin_client.specs.declared.answers.Handed.TheVariants as handed
use Rattle.lapin_client.specs.declared.client.Client.{Client}
use Rattle.lapin_client.specs.declared.message.Message.{Message}
use Rattle.lapin_client.specs.declared.status.Status.{Status}
use Rattle.lapin_client.specs.declared.status.Status.TheVariants as status
use Rattle.lapin_client.specs.Clients.{SameBytes}
use Rattle.lapin_client.specs.Parcels.{is_whole, message_bytes, message_of}
use Rattle.lapin_consumer.specs.Subscriptions.{Consumer, consumer_at}
use Rattle.lapin_machine.specs.World.{World}
use Rattle.lapin_types.specs.declared.message.Delivery.{Delivery}

-- the tag of a consumer; nothing where there is none
abbrev pub tag_or_none : Option Consumer → List ℕ
tag_or_none None = []
tag_or_none (Some c) = c.tag

abbrev pub tag_of : ℕ → World → List ℕ
tag_of consumer w = tag_or_none (consumer_at consumer w.wire.deliveries.subscriptions)

-- the octets of what was handed out: of a message, of a queue its name, of a consumer its tag; else those that were written
abbrev pub octets_of : Handed → List ℕ → World → List ℕ
octets_of handed.Nothing written w = written
octets_of (handed.Message p) written w = message_bytes p.delivery
octets_of (handed.Queue q) written w = q.name
octets_of (handed.Consumer n) written w = tag_of n w
octets_of (handed.CameBack m) written w = written
octets_of (handed.AllCameBack ms) written w = written

-- the octets of the answer
abbrev pub answer_of : Client → List ℕ
answer_of c = octets_of c.handed c.answer.items c.session

-- A message is the answer. Where its properties were given by values and there was no memory for their octets, it is lost, and so is the
-- client.
abbrev pub Shown : Result Message Status → Delivery → Client → Client → Type 0
Shown (Ok m) x c d = (m ≡ message_of x) × (answer_of d ≡ message_bytes x) × (d.refused ≡ c.refused) × (d.session ≡ c.session) × SameBytes c d
Shown (Err status.NoMemory) x c d = (is_whole x ≡ false) × (d.left ≡ 0) × (d.refused ≡ c.refused) × (d.session ≡ c.session) × SameBytes c d
Shown (Err _) x c d = ⊥
