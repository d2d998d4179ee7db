-- What holds of a client at all times.
use Rattle.std.specs.Prelude.{◌≡◌, ◌<◌, ◌≤◌, ◌+◌, ◌-◌, ◌^◌, ℕ, false, [], length, None}
use Rattle.lapin_client.specs.declared.answers.Handed.TheVariants as handed
use Rattle.lapin_client.specs.declared.client.Client.{Client}
use Rattle.lapin_machine.specs.World.{World, new_world}

-- each counter has n further numbers
unfoldable pub HasRoomFor : ℕ → World → Type 0
HasRoomFor n w = (w.wire.tickets + n < 2 ^ 64) × ((w.wire.published + n < 2 ^ 64) × ((length w.wire.deliveries.subscriptions.consumers + n < 2 ^ 64) × (length w.wire.deliveries.switches + n < 2 ^ 64)))

-- a client that takes further steps has numbers for them; and no frame is shorter than the standard lets it be
abbrev pub IsSound : Client → Type 0
IsSound c = (0 < c.left → HasRoomFor c.left c.session) × (4096 ≤ c.frame_max)

-- a client of a new session, in which nothing came and nothing is to be sent, of which the broker has closed nothing, and which takes as many
-- steps as there are
abbrev pub IsNew : ℕ → Client → Type 0
IsNew frame_max c = (c.session ≡ new_world frame_max) × (c.frame_max ≡ frame_max) × (c.leaving.items ≡ []) × (c.came ≡ []) × (c.blocked ≡ false) × (c.left ≡ 2 ^ 63 - 1)
    × (c.answer.items ≡ []) × (c.unsent ≡ None) × (c.closes.entries ≡ []) × (c.handed ≡ handed.Nothing) × (c.refused ≡ None)

-- of two clients all is the same but the session, what is told and the steps that are left
abbrev pub SameBytes : Client → Client → Type 0
SameBytes c d = (d.leaving.items ≡ c.leaving.items) × (d.came ≡ c.came) × (d.frame_max ≡ c.frame_max) × (d.blocked ≡ c.blocked) × (d.closes ≡ c.closes) × (d.unsent ≡ c.unsent)

-- the answer is the same
abbrev pub SameAnswer : Client → Client → Type 0
SameAnswer c d = (d.answer.items ≡ c.answer.items) × (d.handed ≡ c.handed)

-- the answer and the last error that was told are the same
abbrev pub SameTold : Client → Client → Type 0
SameTold c d = (d.answer.items ≡ c.answer.items) × (d.handed ≡ c.handed) × (d.refused ≡ c.refused)

-- the octets that were to be sent are the caller's
abbrev pub IsSent : Client → Client → Type 0
IsSent c d = (d.leaving.items ≡ []) × (d.session ≡ c.session) × SameTold c d × (d.came ≡ c.came) × (d.frame_max ≡ c.frame_max) × (d.blocked ≡ c.blocked)
    × (d.left ≡ c.left) × (d.unsent ≡ c.unsent) × (d.closes.entries ≡ c.closes.entries)
