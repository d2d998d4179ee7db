use Rattle.std.proofs.Common.{◌≡◌, ℕ, None}
use Rattle.lapin_client.specs.Clients.{IsSound}
use Rattle.lapin_client.specs.Sending.{HandsOut, AllWanted, SameElse}
use Rattle.lapin_client.proofs.client.Client.pull_on.Given as goal

-- frames were asked for so many times
abbrev pub invariant-loop-alloc : goal.invariant-loop-alloc
invariant-loop-alloc l = record {
  sound : IsSound l.self;
  told : (n : ℕ) × HandsOut n l.flow l.initial.self l.self × AllWanted l.enough n l.flow l.initial.self;
  none : l.self.unsent ≡ None;
  same : SameElse l.initial.self l.self;
}

abbrev pub decreases-loop-alloc : goal.decreases-loop-alloc
decreases-loop-alloc l = l.self.left
