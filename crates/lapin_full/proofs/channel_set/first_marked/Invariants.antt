use Rattle.std.proofs.Common.{◌≡◌, ℕ, ◌+◌, ◌-◌, ◌*◌, ◌<◌, ◌≤◌, true}
use Rattle.lapin_full.specs.ChannelSet.{is_in}
use Rattle.lapin_full.proofs.channel_set.first_marked.Given as goal

abbrev pub invariant-loop-marked : goal.invariant-loop-marked
invariant-loop-marked l = record {
  from : l.from < 64 * l.start + 64;
  done : (c : ℕ) → l.from ≤ c → c < 64 * l.start → is_in c l.words ≡ true → is_in c l.others ≡ true;
}

abbrev pub decreases-loop-marked : goal.decreases-loop-marked
decreases-loop-marked l = 65536 - l.start
