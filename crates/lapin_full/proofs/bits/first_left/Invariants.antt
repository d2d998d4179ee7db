use Rattle.std.proofs.Common.{length, ◌-◌, ◌≡◌, ℕ, ◌+◌, ◌*◌, ◌<◌, ◌≤◌, true}
use Rattle.lapin_full.specs.ChannelSet.{is_in}
use Rattle.lapin_full.proofs.bits.first_left.Given as goal

abbrev pub invariant-loop-place : goal.invariant-loop-place
invariant-loop-place l = record {
  from : l.from < 64 * l.place + 64;
  done : (c : ℕ) → l.from ≤ c → c < 64 * l.place → is_in c l.words ≡ true → is_in c l.others ≡ true;
}

abbrev pub decreases-loop-place : goal.decreases-loop-place
decreases-loop-place l = length l.words - l.place
