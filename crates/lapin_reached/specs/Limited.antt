-- A caller that sets a channel's limit before it selects, and then no other: what is asked of its events, and what so holds of each state.
use Rattle.std.specs.Prelude.{◌≡◌, ◌≤◌, ◌<◌, ℕ, ◌==◌, ◌&&◌, ◌||◌, Bool, true, false}
use Rattle.std.specs.List.{list_any}
use Rattle.lapin_types.specs.declared.event.Event.{Event}
use Rattle.lapin_types.specs.declared.event.Event.TheVariants as event
use Rattle.lapin_tables.specs.ByChannel.{at_channel}
use Rattle.lapin_rules.specs.declared.calls.Asked.{Asked}
use Rattle.lapin_rules.specs.declared.calls.Asked.TheVariants as ask
use Rattle.lapin_rules.specs.Calls.{asked}
use Rattle.lapin_rules.specs.Frames.{MethodEntry}
use Rattle.lapin_rules.specs.Select.{is_select}
use Rattle.lapin_rules.specs.Wire.{state_of, is_open}
use Rattle.lapin_rules.specs.Words.{is_some}
use Rattle.lapin_confirm.specs.PublishStates.{selected_on}
use Rattle.lapin_machine.specs.Tied.{is_live_on}
use Rattle.lapin_machine.specs.World.{World}
use Rattle.lapin_reached.specs.Reached.{HasLimit, WasLimited}

-- ---- what is asked of events

-- wherever channel c is open, a limit is set of at least 1 and at most this: `confirm.select` may be called
abbrev pub MaySelect : ℕ → ℕ → World → Type 0
MaySelect most c w = is_open (state_of c w.wire) ≡ true → HasLimit most c w

-- what a call asks of channel c: a limit is one of 1 to `most`, and confirms are asked for only where a limit is set
abbrev pub AsksCarefully : ℕ → ℕ → World → Asked → Type 0
AsksCarefully most c w (ask.Limit limit) = (0 < limit) × (limit ≤ most)
AsksCarefully most c w (ask.Method row) = is_select row.method ≡ true → MaySelect most c w
AsksCarefully most c w _ = Unit {0}

-- so is each call on channel c; every other event may come
abbrev pub IsCareful : ℕ → ℕ → World → Event → Type 0
IsCareful most c w (event.Call d call) = d ≡ c → AsksCarefully most c w (asked call)
IsCareful most c w _ = Unit {0}

-- ---- what so holds

-- channel c has a live opening
abbrev pub lives_on : ℕ → World → Bool
lives_on c w = is_live_on w.wire.link (at_channel c w.wire.phases)

-- the method is a `confirm.select` of channel c
abbrev pub is_select_on : ℕ → MethodEntry → Bool
is_select_on c m = m.channel == c && is_select m.method

-- a `confirm.select` of channel c waits to leave
abbrev pub select_waits : ℕ → World → Bool
select_waits c w = list_any (is_select_on c) w.wire.methods

-- Where the live opening of channel c is selected, or a `confirm.select` of it waits, a limit is set. Without a live opening none waits, and
-- with one the channel has a confirm mode.
pub record IsPrepared (most c : ℕ) (w : World) : Type 0 where
  pub limited : lives_on c w ≡ true → (selected_on c w.confirm_state.publish_states || select_waits c w) ≡ true → HasLimit most c w
  pub quiet : lives_on c w ≡ false → select_waits c w ≡ false
  pub known : lives_on c w ≡ true → is_some (at_channel c w.confirm_state.publish_states.confirm_modes) ≡ true

-- careful events led here, so the channel was limited in each state on the way, and is prepared
pub record WasCareful (most c : ℕ) (w : World) : Type 0 where
  pub was : WasLimited most c w
  pub prepared : IsPrepared most c w

-- the same as a fact, for the ghost field of a caller
abbrev pub IsGuarded : ℕ → ℕ → World → Type 0
IsGuarded most c w = ∥ WasCareful most c w ∥₁
