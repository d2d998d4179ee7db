-- A turn of a publisher with its session.
use Rattle.std.specs.Prelude.{◌≡◌, ◌⊎◌, Bool, ◌&&◌, if◌then◌else◌, List, map}
use Rattle.lapin_rules.specs.Wire.{state_of, is_open}
use Rattle.lapin_machine.specs.World.{World}
use Rattle.lapin_keeping.specs.declared.kept.Kept.{Kept}
use Rattle.lapin_keeping.specs.declared.keeping.Keeping.{Keeping}
use Rattle.lapin_keeping.specs.Fates.{begun_anew}
use Rattle.lapin_publisher.specs.declared.turn.Turn.{Turn}
use Rattle.lapin_publisher.specs.Opening.{Opening, opened, selected}
use Rattle.lapin_publisher.specs.Polls.{IsPolled, IsPolledInPart}
use Rattle.lapin_publisher.specs.Publishes.{all_placed, Stopped}

-- the messages and the session: what waits is published where the channel is open and was asked for confirms
abbrev pub published_all : Turn → Opening → List Kept → List Kept × World
published_all t o ks =
    if o.0 && is_open (state_of t.channel o.1.wire) then ((all_placed t o.1 ks).0, (all_placed t o.1 ks).1.0) else (ks, o.1)

-- what the turn opens and selects, behind its polls
abbrev pub opening_of : Turn → Bool → World → Opening
opening_of t s w = selected t.channel (opened t.channel (s, w))

-- only the messages that are kept differ, and their session
pub record OnlyMessages (old new : Keeping) : Type 0 where
  pub settled : new.settled.items ≡ old.settled.items
  pub back : new.back.items ≡ old.back.items
  pub handed : new.handed ≡ old.handed

-- the publishes are asked for; then the channel is opened and asked for confirms, if need be; then what waits is published
pub record IsTurn (t : Turn) (w v : World) (old new : Keeping) (selects selects_now : Bool) : Type 0 where
  pub polled : Keeping
  pub session : World
  pub is_polled : IsPolled w session old polled
  pub selects_is : selects_now ≡ (opening_of t selects session).0
  pub kept : (new.kept.items, v) ≡ published_all t (opening_of t selects session) polled.kept.items
  pub others : OnlyMessages polled new

-- the session and whether the opening was asked for confirms, where the turn ended at the open or at the select
abbrev pub EndedEarly : Turn → World → World → Bool → Bool → Type 0
EndedEarly t x v selects selects_now =
    ((selects_now ≡ selects) × (v ≡ x)) ⊎ ((selects_now ≡ (opened t.channel (selects, x)).0) × (v ≡ (opened t.channel (selects, x)).1))

-- the same with the messages, where it ended there or at a publish
abbrev pub EndedAt : Turn → World → World → Bool → Bool → List Kept → List Kept → Type 0
EndedAt t x v selects selects_now old new =
    ((new ≡ old) × EndedEarly t x v selects selects_now) ⊎ ((selects_now ≡ (opening_of t selects x).0) × Stopped t (opening_of t selects x).1 v old new)

-- it ended behind all polls
pub record EndedBehind (t : Turn) (w v : World) (old new : Keeping) (selects selects_now : Bool) : Type 0 where
  pub polled : Keeping
  pub session : World
  pub is_polled : IsPolled w session old polled
  pub ended : EndedAt t session v selects selects_now polled.kept.items new.kept.items
  pub others : OnlyMessages polled new

-- The turn ended early: at a poll; or behind all polls.
pub record IsTurnInPart (t : Turn) (w v : World) (old new : Keeping) (selects selects_now : Bool) : Type 0 where
  pub ended : (IsPolledInPart w v old new × (selects_now ≡ selects)) ⊎ EndedBehind t w v old new selects selects_now

-- how what is kept was asked for, whole or in part
abbrev pub IsAsked : World → World → Keeping → Keeping → Type 0
IsAsked w v old new = IsPolled w v old new ⊎ IsPolledInPart w v old new

-- The publisher has left its session: all was asked for once more, as far as there was memory, and what isn't settled waits.
pub record IsLeft (w v : World) (old new : Keeping) : Type 0 where
  pub asked : Keeping
  pub is_asked : IsAsked w v old asked
  pub kept : new.kept.items ≡ map begun_anew asked.kept.items
  pub others : OnlyMessages asked new
