-- The free broker's count of publishes, as the pair of machines keeps it: with the publishes that took numbers and the settlements
-- that were sent, which the broker itself doesn't keep.
use Rattle.std.specs.Prelude.{◌≡◌, ℕ, ◌<◌, false, [], Some, length}
use Rattle.std.specs.List.{list_any}
use Rattle.lapin_tables.specs.Numbered.{under}
use Rattle.lapin_broker.specs.declared.peer.Peer.{Peer}
use Rattle.lapin_broker.specs.declared.peer.Peer.TheVariants as peer
use Rattle.lapin_broker.specs.States.{Channel, Broker, channel_at}
use Rattle.lapin_pairs.specs.Tags.{covers, TagCount}

-- The count is the channel's: both read a select or neither did, as many publishes took numbers, and a number that isn't settled is
-- one that no settlement covers. None covers a number that wasn't taken.
pub record IsCount (x : Channel) (k : TagCount) : Type 0 where
  pub chosen : k.chosen ≡ x.selected
  pub count : length k.numbered ≡ length x.numbers
  pub open_ : (n : ℕ) (u : Unit {0}) → under n x.numbers ≡ Some u → list_any (covers n) k.log ≡ false
  pub low : (n : ℕ) → length k.numbered < n → list_any (covers n) k.log ≡ false
  pub none : x.selected ≡ false → x.numbers ≡ []

-- a free channel counts nothing; on any other the count is the channel's
abbrev pub IsCountIn : Peer → Channel → TagCount → Type 0
IsCountIn peer.Free x k = (x.selected ≡ false) × (x.numbers ≡ [])
IsCountIn _ x k = IsCount x k

-- so on every channel
abbrev pub AreCounts : Broker → (ℕ → TagCount) → Type 0
AreCounts b k = (c : ℕ) → IsCountIn (channel_at b c).peer (channel_at b c) (k c)
