use Rattle.std.proofs.Common.{ℕ}
use Rattle.lapin_client.specs.Clients.{IsSound}
use Rattle.lapin_client.specs.Receiving.{Comes}
use Rattle.lapin_client.proofs.client.Client.run.Given as goal

-- so many frames were taken
abbrev pub invariant-loop-turn : goal.invariant-loop-turn
invariant-loop-turn l = record {
  sound : IsSound l.self;
  told : (n : ℕ) × Comes n l.initial.self l.self;
}
