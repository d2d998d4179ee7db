-- What a server makes of a session's history: which requests its consumer handed out there, and what became of them.
use Rattle.std.specs.Prelude.{◌≡◌, ℕ, ◌==◌, if◌then◌else◌, List, [], ◌∷◌, ◌++◌, None, Result}
use Rattle.lapin_types.specs.Types.{Error}
use Rattle.lapin_types.specs.declared.event.Event.{Event}
use Rattle.lapin_types.specs.declared.event.Event.TheVariants as event
use Rattle.lapin_types.specs.declared.record.Record.{Record}
use Rattle.lapin_rules.specs.History.{History}
use Rattle.lapin_machine.specs.World.{World}
use Rattle.lapin_machine.specs.Stands.{Stands}
use Rattle.lapin_call.specs.declared.server.Served.{Served}
use Rattle.lapin_call.specs.declared.server.Server.{Server}
use Rattle.lapin_call.specs.Serving.{item_polled}
use Rattle.lapin_call.specs.Turns.{kept_tags, given_tags, done_tags}

-- the request that an event and its record say consumer c handed out, by its delivery tag, where the event is a poll of it that gave one
abbrev pub handed_at : ℕ → Event → Record → List ℕ
handed_at c (event.PollConsumer n) r = if n == c then given_tags (item_polled r) else []
handed_at c _ r = []

-- the requests that consumer c handed out in a history, oldest first
abbrev pub handed_in : ℕ → History → List ℕ
handed_in c [] = []
handed_in c (x ∷ h) = handed_at c x.0 x.1 ++ handed_in c h

-- The history h of a session grew by so much, for which the session stands then. The request that the server kept and those that its
-- consumer handed out in that are the one that the call was done with and the one that the server keeps then.
pub record IsLogged (frame_max : ℕ) (h : History) (s : Server) (r : Result Served Error) (t : Server) (w : World) : Type 0 where
  pub more : History
  pub stands : Stands frame_max (h ++ more) w
  pub unreturned : w.returned ≡ None
  pub once : kept_tags s.held ++ handed_in s.consumer more ≡ done_tags r ++ kept_tags t.held
