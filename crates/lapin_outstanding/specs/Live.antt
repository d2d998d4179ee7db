-- The channel of a number, if it has a live opening.
use Rattle.std.specs.Prelude.{ℕ, if◌then◌else◌, List, [], ◌∷◌}
use Rattle.lapin_tables.specs.ByChannel.{at_channel}
use Rattle.lapin_rules.specs.declared.phases.ChannelPhase.{ChannelPhase}
use Rattle.lapin_rules.specs.Phases.{is_live, phase_in}

-- channel c alone where it has a live opening, and else no channel
abbrev pub live_at : ℕ → List (ℕ × ChannelPhase) → List ℕ
live_at c all = if is_live (phase_in (at_channel c all)) then c ∷ [] else []
