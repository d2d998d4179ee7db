use Rattle.std.proofs.Common.{◌-◌, ◌≤◌, ℕ, length}
use Rattle.lapin_types.specs.declared.event.Event.TheVariants as event
use Rattle.lapin_client.specs.Ready.{AllPending}
use Rattle.lapin_client.proofs.client.Client.ready_reply.Given as goal

-- those that were passed have nothing
abbrev pub invariant-loop-place : goal.invariant-loop-place
invariant-loop-place l = record {
  passed : AllPending (λ (n : ℕ). event.PollTicket n) l.fn.from l.place l.tickets l.self.session;
  behind : l.fn.from ≤ l.place;
}

abbrev pub decreases-loop-place : goal.decreases-loop-place
decreases-loop-place l = length l.tickets - l.place
