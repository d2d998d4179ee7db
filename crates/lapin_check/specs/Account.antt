-- The account of a transcript: each whole publish that the broker numbered, in order of completion, with the first settlement that
-- covers it. Each definition is a reading of the frames that came before a place, the past, and of those that come after it.
use Rattle.std.specs.Prelude.{ℕ, suc, Bool, false, nat_lt, if◌then◌else◌, List, [], ◌∷◌, ◌++◌, length, Option, Some, None}
use Rattle.lapin_types.specs.Types.{Frame}
use Rattle.lapin_broker.specs.States.{Broker, new_broker, channel_at}
use Rattle.lapin_broker.specs.Frames.{channel_of}
use Rattle.lapin_broker.specs.Reads.{read}
use Rattle.lapin_check.specs.declared.seen.Seen.{Seen}
use Rattle.lapin_check.specs.declared.seen.Seen.TheVariants as seen
use Rattle.lapin_check.specs.declared.seen.Settlement.{Settlement}
use Rattle.lapin_check.specs.declared.account.Settled.{Settled}
use Rattle.lapin_check.specs.declared.account.Counted.{Counted}
use Rattle.lapin_check.specs.Finding.{fitting}
use Rattle.lapin_check.specs.Openings.{broker_after, opened}
use Rattle.lapin_check.specs.Settlements.{settlement_seen, covers}

-- the place of the frame that comes after these
abbrev pub place_after : List Seen → ℕ
place_after past = suc (length past)

-- ---- The first settlement that covers a publish.

-- the settlement, if the frame is one, covers the publish, in the opening that its channel has by then
abbrev pub covered_by : Option Settlement → ℕ → List Seen → Counted → Bool
covered_by None frame_max past k = false
covered_by (Some s) frame_max past k = covers s (opened frame_max past s.channel) k

-- what the account tells of a settlement at a place: its kind and that place
abbrev pub told_of : ℕ → Settlement → Settled
told_of place s = record { ack = s.ack; place = place }

-- the same of a frame that may be one
abbrev pub told_at : ℕ → Option Settlement → Option Settled
told_at place None = None
told_at place (Some s) = Some (told_of place s)

-- the first of the frames behind this past that is a settlement which covers the publish
abbrev pub first_covering : ℕ → List Seen → List Seen → Counted → Option Settled
first_covering frame_max past [] k = None
first_covering frame_max past (x ∷ xs) k =
    if covered_by (settlement_seen x) frame_max past k then told_at (place_after past) (settlement_seen x)
    else first_covering frame_max (past ++ x ∷ []) xs k

-- ---- The publishes.

-- how many whole publishes of the channel the broker numbered
abbrev pub numbered : ℕ → Broker → ℕ
numbered c b = length (channel_at b c).numbers

-- reading the frame makes a publish whole, and the broker numbers it: it has numbered more on that channel than before
abbrev pub numbers_by : Broker → Frame → Bool
numbers_by b f = nat_lt (numbered (channel_of f) b) (numbered (channel_of f) (read b f))

-- the same of what is seen; what the broker sends is no publish
abbrev pub numbers_at : Broker → Seen → Bool
numbers_at b (seen.Up f) = numbers_by b f
numbers_at b (seen.Down f) = false

-- the channel of what is seen
abbrev pub channel_seen : Seen → ℕ
channel_seen (seen.Up f) = channel_of f
channel_seen (seen.Down f) = channel_of f

-- The publish that a frame behind this past completes: its channel, how many opens of that channel were read so far, the number
-- that the broker gave it, and the frame's place.
abbrev pub counted_at : ℕ → List Seen → Seen → Counted
counted_at frame_max past x = record {
  channel = channel_seen x;
  opening = opened frame_max (past ++ x ∷ []) (channel_seen x);
  number = numbered (channel_seen x) (broker_after frame_max (past ++ x ∷ []));
  place = place_after past;
  settled = None;
}

-- with the first settlement behind this past that covers it
abbrev pub with_settlement : ℕ → List Seen → List Seen → Counted → Counted
with_settlement frame_max past xs k = record k { settled = first_covering frame_max past xs k }

-- the account of the frames behind a past
abbrev pub account_from : ℕ → List Seen → List Seen → List Counted
account_from frame_max past [] = []
account_from frame_max past (x ∷ xs) =
    if numbers_at (broker_after frame_max past) x then
    with_settlement frame_max (past ++ x ∷ []) xs (counted_at frame_max past x) ∷ account_from frame_max (past ++ x ∷ []) xs
    else account_from frame_max (past ++ x ∷ []) xs

-- the account of a transcript, over its frames before the first that the broker doesn't read or may not send
abbrev pub account_of : ℕ → List Seen → List Counted
account_of frame_max transcript = account_from frame_max [] (fitting (new_broker frame_max) transcript)
