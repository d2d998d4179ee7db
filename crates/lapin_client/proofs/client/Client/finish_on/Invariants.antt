use Rattle.std.proofs.Common.{◌≡◌, ℕ, false, None}
use Rattle.lapin_client.specs.Clients.{IsSound}
use Rattle.lapin_client.specs.Sending.{HandsOut, SameElse}
use Rattle.lapin_client.proofs.client.Client.finish_on.Given as goal

-- frames were asked for so many times
abbrev pub invariant-loop-self : goal.invariant-loop-self
invariant-loop-self l = record {
  sound : IsSound l.self;
  told : (n : ℕ) × HandsOut n false l.initial.self l.self;
  none : l.self.unsent ≡ None;
  same : SameElse l.initial.self l.self;
}

abbrev pub decreases-loop-self : goal.decreases-loop-self
decreases-loop-self l = l.self.left
