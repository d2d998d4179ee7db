-- What an end leaves of the outbox, and of the requests.
use Rattle.std.specs.Prelude.{◌≡◌, ◌≢◌, ℕ, List, None}
use Rattle.lapin_types.specs.declared.request.Request.{Request}
use Rattle.lapin_rules.specs.Drops.{no_lists, without_channel}
use Rattle.lapin_outbox.specs.Open.{requests_at}
use Rattle.lapin_outbox.specs.Outgoing.{OutboxState, with_lists}
use Rattle.lapin_outbox.specs.Returned.{with_returned, returned_off}

-- the opening of a channel ends: none of the channel's entries waits, and a frame of the channel that was given back is gone
abbrev pub ended_outbox : ℕ → OutboxState → OutboxState
ended_outbox c o = with_lists (without_channel c o.lists) (with_returned (returned_off c o.returned) o)

-- the connection leaves the open state, or is lost: nothing waits, and a frame that was given back is gone
abbrev pub emptied_outbox : OutboxState → OutboxState
emptied_outbox o = with_lists no_lists (with_returned None o)

-- all but the lists
abbrev pub same_but_lists : OutboxState → OutboxState
same_but_lists o = with_lists no_lists o

-- the requests of every other channel stay
abbrev pub KeepsOtherRequests : ℕ → List (ℕ × List Request) → List (ℕ × List Request) → Type 0
KeepsOtherRequests c old new = (d : ℕ) → c ≢ d → requests_at d new ≡ requests_at d old
