-- What holds of every state that a new broker comes to.
use Rattle.std.specs.Prelude.{◌≡◌, ℕ, ⊤, List, Option, Some, None}
use Rattle.lapin_tables.specs.ByChannel.{at_channel}
use Rattle.lapin_broker.specs.declared.content.Content.{Content}
use Rattle.lapin_broker.specs.declared.peer.Peer.TheVariants as peer
use Rattle.lapin_broker.specs.States.{Channel, Broker, channel_in}

-- the one of these channels whose content is being read, if there is one, is open
abbrev pub IsReadOpen : List (ℕ × Channel) → Option (ℕ × Content) → Type 0
IsReadOpen all None = ⊤
IsReadOpen all (Some r) = (channel_in (at_channel r.0 all)).peer ≡ peer.Open

-- the channel whose content is being read is open
abbrev pub IsSound : Broker → Type 0
IsSound b = IsReadOpen b.channels b.reading
