-- What a frame does to the broker that follows a transcript, to its count of opens, and to the account so far. The account is read
-- off the frames alone in Account; here it goes on frame by frame.
use Rattle.std.specs.Prelude.{◌≡◌, ℕ, suc, ◌&&◌, not, nat_lt, if◌then◌else◌, List, [], ◌∷◌, ◌++◌, map, Option, Some, None}
use Rattle.std.specs.Option.{is_some}
use Rattle.lapin_tables.specs.ByChannel.{at_channel, on_channel}
use Rattle.lapin_tables.specs.Numbered.{Slots}
use Rattle.lapin_broker.specs.States.{Broker, new_broker}
use Rattle.lapin_broker.specs.Frames.{channel_of}
use Rattle.lapin_broker.specs.Reads.{read}
use Rattle.lapin_check.specs.declared.seen.Seen.{Seen}
use Rattle.lapin_check.specs.declared.seen.Seen.TheVariants as seen
use Rattle.lapin_check.specs.declared.seen.Settlement.{Settlement}
use Rattle.lapin_check.specs.declared.account.Counted.{Counted}
use Rattle.lapin_check.specs.Finding.{after_seen}
use Rattle.lapin_check.specs.Openings.{opens}
use Rattle.lapin_check.specs.Settlements.{settlement_in, covers}
use Rattle.lapin_check.specs.Account.{numbered, told_of}

-- a broker, how many opens of each channel it read, and where the publishes of each channel's present opening stand in the account
pub record Watch : Type 0 where
  pub broker : Broker
  pub opens : List (ℕ × ℕ)
  pub unsettled : List (ℕ × Slots ℕ)

-- a new broker, which read nothing
abbrev pub new_watch : ℕ → Watch
new_watch frame_max = record { broker = new_broker frame_max; opens = []; unsettled = [] }

-- a count that was found, and 0 where none was
abbrev pub count_in : Option ℕ → ℕ
count_in None = 0
count_in (Some n) = n

-- how many opens of the channel were read
abbrev pub count_at : ℕ → List (ℕ × ℕ) → ℕ
count_at c opens = count_in (at_channel c opens)

-- one more was
abbrev pub with_count : ℕ → List (ℕ × ℕ) → List (ℕ × ℕ)
with_count c opens = if is_some (at_channel c opens) then on_channel c suc opens else opens ++ (c, 1) ∷ []

-- the counts after what is seen
abbrev pub opens_after : Seen → Watch → List (ℕ × ℕ)
opens_after (seen.Up f) w = if opens w.broker f then with_count (channel_of f) w.opens else w.opens
opens_after (seen.Down f) w = w.opens

-- the broker and its counts are those after what is seen
pub record IsAfter (x : Seen) (old new : Watch) : Type 0 where
  pub broker : new.broker ≡ after_seen x old.broker
  pub opens : new.opens ≡ opens_after x old

-- a settlement that was sent at this place, in this opening of its channel, settles a publish that it covers and that wasn't settled
abbrev pub mark : ℕ → ℕ → Settlement → Counted → Counted
mark place o s k = if not (is_some k.settled) && covers s o k then record k { settled = Some (told_of place s) } else k

-- the account after a settlement, if one was sent
abbrev pub marked : ℕ → Option Settlement → List (ℕ × ℕ) → List Counted → List Counted
marked place None opens account = account
marked place (Some s) opens account = map (mark place (count_at s.channel opens) s) account

-- the publish that a frame on the channel completes
abbrev pub counted_by : ℕ → ℕ → Broker → List (ℕ × ℕ) → Counted
counted_by place c b opens = record { channel = c; opening = count_at c opens; number = numbered c b; place = place; settled = None }

-- the account after a frame on the channel was read: a publish that the broker numbered joins it at the back
abbrev pub with_publish : ℕ → ℕ → Broker → Broker → List (ℕ × ℕ) → List Counted → List Counted
with_publish place c old new opens account = if nat_lt (numbered c old) (numbered c new) then account ++ counted_by place c new opens ∷ [] else account

-- the account after what is seen at a place
abbrev pub account_after : ℕ → Seen → Watch → List Counted → List Counted
account_after place (seen.Up f) w account = with_publish place (channel_of f) w.broker (read w.broker f) (opens_after (seen.Up f) w) account
account_after place (seen.Down f) w account = marked place (settlement_in f) w.opens account
