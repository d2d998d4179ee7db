-- A message as octets, and octets that are written into a room.
use Rattle.std.specs.Prelude.{◌≡◌, ◌<◌, ◌++◌, ◌+◌, ◌⊎◌, ◌^◌, ℕ, Bool, nat_lt, true, false, List, [], ◌∷◌, length, take, drop, Option, Some, None}
use Rattle.lapin_client.specs.declared.message.Message.{Message}
use Rattle.lapin_frames.specs.Headers.{carried_list, properties_bytes}
use Rattle.lapin_types.specs.declared.message.Delivery.{Delivery}
use Rattle.lapin_values.specs.Properties.{Properties, no_properties, properties_code}
use Rattle.lapin_values.specs.Same.{same_by}

-- the octets of a message: its exchange, its routing key, its list of properties, and its body
abbrev pub message_bytes : Delivery → List ℕ
message_bytes x = x.exchange ++ x.routing_key ++ properties_bytes x.properties ++ x.payload

-- the numbers of a message, and how many octets each part has
abbrev pub message_of : Delivery → Message
message_of x = record {
  delivery_tag = x.delivery_tag;
  acker = x.acker.number;
  exchange = length x.exchange;
  routing_key = length x.routing_key;
  properties = length (properties_bytes x.properties);
  body = length x.payload;
  redelivered = x.redelivered;
}

-- the list of properties that lies as octets: the one that they carry, or that of no property
abbrev pub list_or : Option (List ℕ) → Bool → Option (List ℕ)
list_or (Some list) bare = Some list
list_or None true = Some (0 ∷ 0 ∷ [])
list_or None false = None

abbrev pub list_in : Properties → Option (List ℕ)
list_in p = list_or (carried_list p) (same_by properties_code p no_properties)

-- fewer octets than a frame may have at most, whatever the two sides agreed on
abbrev pub is_short : Option (List ℕ) → Bool
is_short None = false
is_short (Some list) = nat_lt (length list) (2 ^ 32)

-- the octets of a message lie as they are told: its list of properties is octets, and no longer than a frame may be
abbrev pub is_whole : Delivery → Bool
is_whole x = is_short (list_in x.properties)

-- the octets of a room once others were written from a place on
abbrev pub copied : ℕ → List ℕ → List ℕ → List ℕ
copied at bytes room = take at room ++ bytes ++ drop (at + length bytes) room

-- the octets stand at the beginning of the room, where they fit into it
abbrev pub Read : ℕ → List ℕ → List ℕ → List ℕ → Type 0
Read written bytes old new = ((written ≡ length bytes) × (new ≡ bytes ++ drop (length bytes) old)) ⊎ ((written ≡ 0) × (new ≡ old) × (length old < length bytes))
