use Rattle.std.proofs.Common.{◌≡◌, ℕ, ◌-◌, ◌<◌, ◌≤◌, true}
use Rattle.lapin_full.specs.ChannelSet.{is_in}
use Rattle.lapin_outbox.specs.Returned.{is_named}
use Rattle.lapin_outbox.proofs.named.first_unnamed.Given as goal

abbrev pub invariant-loop-channel : goal.invariant-loop-channel
invariant-loop-channel l = record {
  on : l.from ≤ l.number;
  done : (c : ℕ) → l.from ≤ c → c < l.number → is_in c l.channels ≡ true → is_named l.named c ≡ true;
}

abbrev pub decreases-loop-channel : goal.decreases-loop-channel
decreases-loop-channel l = 65536 - l.number
