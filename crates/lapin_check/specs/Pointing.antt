-- Where the publishes of a channel's present opening stand in the account, by their numbers, each until it is settled. So a settlement
-- finds what it covers, and walks over nothing else.
use Rattle.std.specs.Prelude.{◌≡◌, ◌≢◌, ◌≤◌, ℕ, Bool, true, false, nat_lt, if◌then◌else◌, List, [], ◌∷◌, ◌++◌, length, map, Option, Some, None, slice_get}
use Rattle.lapin_types.specs.Types.{Frame}
use Rattle.lapin_tables.specs.ByChannel.{at_channel}
use Rattle.lapin_tables.specs.Numbered.{Slots, under}
use Rattle.lapin_broker.specs.States.{channel_at, free_channel, state_of_peer}
use Rattle.lapin_broker.specs.Frames.{channel_of}
use Rattle.lapin_broker.specs.Reads.{read}
use Rattle.lapin_check.specs.declared.seen.Settlement.{Settlement}
use Rattle.lapin_check.specs.declared.account.Counted.{Counted}
use Rattle.lapin_check.specs.Openings.{opens, is_free}
use Rattle.lapin_check.specs.Marks.{Watch, count_at, mark}
use Rattle.lapin_check.specs.Account.{numbered}

-- the slots that were found, and none where a channel has none
abbrev pub slots_in : Option (Slots ℕ) → List (Option ℕ)
slots_in None = []
slots_in (Some s) = s.slots

-- the places of a channel's publishes, one a number; `None` where it was settled
abbrev pub places_of : ℕ → List (ℕ × Slots ℕ) → List (Option ℕ)
places_of c all = slots_in (at_channel c all)

-- the entry is that of publish n of this opening of the channel, and isn't settled
pub record IsUnsettled (c o n : ℕ) (k : Counted) : Type 0 where
  pub channel : k.channel ≡ c
  pub opening : k.opening ≡ o
  pub number : k.number ≡ n
  pub settled : k.settled ≡ None

-- slot n is the place of entry (c, o, n), where that isn't settled
pub record Points (c o : ℕ) (places : List (Option ℕ)) (account : List Counted) : Type 0 where
  pub there : (n i : ℕ) → under n places ≡ Some i → (k : Counted) × (slice_get account i ≡ Some k) × IsUnsettled c o n k
  pub all : (i n : ℕ) (k : Counted) → slice_get account i ≡ Some k → IsUnsettled c o n k → under n places ≡ Some i

-- ---- Of every channel.

-- A free channel keeps nothing in the broker. One that isn't has a slot for each number that the broker gave.
pub record Stands (c : ℕ) (w : Watch) (account : List Counted) : Type 0 where
  pub free : is_free (state_of_peer (channel_at w.broker c).peer) ≡ true → channel_at w.broker c ≡ free_channel
  pub long : is_free (state_of_peer (channel_at w.broker c).peer) ≡ false → length (places_of c w.unsettled) ≡ numbered c w.broker
  pub points : is_free (state_of_peer (channel_at w.broker c).peer) ≡ false → Points c (count_at c w.opens) (places_of c w.unsettled) account

-- so it is of each, after so many frames; no entry is of an opening that is still to come
pub record IsKept (place : ℕ) (w : Watch) (account : List Counted) : Type 0 where
  pub stands : (c : ℕ) → Stands c w account
  pub past : (i : ℕ) (k : Counted) → slice_get account i ≡ Some k → k.opening ≤ count_at k.channel w.opens
  pub opened : (c : ℕ) → count_at c w.opens ≤ place
  pub given : (c : ℕ) → length (places_of c w.unsettled) ≤ place

-- ---- A frame up.

-- nothing is kept of an opening before
abbrev pub emptied : Bool → List (Option ℕ) → List (Option ℕ)
emptied opened places = if opened then [] else places

-- the place of a publish joins them, where it took a number
abbrev pub joined_by : Bool → ℕ → List (Option ℕ) → List (Option ℕ)
joined_by numbers place places = if numbers then places ++ Some place ∷ [] else places

-- the places of a channel after its frame was read, where the account has so many entries
abbrev pub places_read : Frame → Watch → ℕ → List (Option ℕ) → List (Option ℕ)
places_read f w long places =
    joined_by (nat_lt (numbered (channel_of f) w.broker) (numbered (channel_of f) (read w.broker f))) long (emptied (opens w.broker f) places)

-- the places after that; those of other channels stay
pub record AreRead (f : Frame) (long : ℕ) (old new : Watch) : Type 0 where
  pub here : places_of (channel_of f) new.unsettled ≡ places_read f old long (places_of (channel_of f) old.unsettled)
  pub others : (d : ℕ) → d ≢ channel_of f → places_of d new.unsettled ≡ places_of d old.unsettled

-- ---- A frame down.

-- What a settlement covers is settled in the account, and its place is kept no more. The places of other channels stay.
pub record AreSettled (s : Settlement) (opening place : ℕ) (old new : List (ℕ × Slots ℕ)) (account after : List Counted) : Type 0 where
  pub marked : after ≡ map (mark place opening s) account
  pub long : length (places_of s.channel new) ≡ length (places_of s.channel old)
  pub points : Points s.channel opening (places_of s.channel new) after
  pub others : (d : ℕ) → d ≢ s.channel → places_of d new ≡ places_of d old

-- so it is after a frame that is this settlement; any other changes nothing
abbrev pub AreSettledBy : Option Settlement → ℕ → Watch → Watch → List Counted → List Counted → Type 0
AreSettledBy None place old new account after = (new.unsettled ≡ old.unsettled) × (after ≡ account)
AreSettledBy (Some s) place old new account after = AreSettled s (count_at s.channel old.opens) place old.unsettled new.unsettled account after

-- the publishes that a settlement may cover are found by their places
abbrev pub AreFound : Option Settlement → Watch → List Counted → Type 0
AreFound None w account = Unit {0}
AreFound (Some s) w account = Points s.channel (count_at s.channel w.opens) (places_of s.channel w.unsettled) account
