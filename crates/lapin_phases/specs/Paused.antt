-- How many channels are open and paused.
use Rattle.std.specs.Prelude.{ℕ, suc, if◌then◌else◌, List, [], ◌∷◌}
use Rattle.lapin_rules.specs.declared.phases.ChannelPhase.{ChannelPhase}
use Rattle.lapin_rules.specs.Flow.{is_paused_on}

-- how many of these channels are open and paused by the broker's `channel.flow` (AMQP 0-9-1, channel class)
abbrev pub paused_among : List (ℕ × ChannelPhase) → ℕ
paused_among [] = 0
paused_among (e ∷ es) = if is_paused_on e then suc (paused_among es) else paused_among es
