-- Calls of a server in a row: which requests it was handed, and which it was done with, by their delivery tags.
use Rattle.std.specs.Prelude.{◌≡◌, ℕ, List, [], ◌∷◌, ◌++◌, Option, Some, None, Result, Ok}
use Rattle.lapin_types.specs.Types.{Error}
use Rattle.lapin_types.specs.declared.event.Event.TheVariants as event
use Rattle.lapin_machine.specs.World.{World, told_by}
use Rattle.lapin_call.specs.declared.server.Served.{Served}
use Rattle.lapin_call.specs.declared.server.Served.TheVariants as served
use Rattle.lapin_call.specs.declared.server.Held.{Held}
use Rattle.lapin_call.specs.declared.server.Polled.{Polled}
use Rattle.lapin_call.specs.declared.server.Polled.TheVariants as polled
use Rattle.lapin_call.specs.declared.server.Server.{Server}
use Rattle.lapin_call.specs.Serving.{item_polled, IsServed}

-- a call of a server: the server and the session before it and after it, and what it came to
pub record Turn : Type 0 where
  pub before : Server
  pub session : World
  pub result : Result Served Error
  pub after : Server
  pub left : World

-- The calls were made of server s one after the other, which is t then. Between two of them the session may meet anything.
abbrev pub AreTurns : (List ℕ → List ℕ → Type 0) → Server → List Turn → Server → Type 0
AreTurns may s [] t = s ≡ t
AreTurns may s (x ∷ xs) t = (s ≡ x.before) × IsServed may x.before x.result x.after x.session x.left × AreTurns may x.after xs t

-- the request that a server keeps
abbrev pub kept_tags : Option Held → List ℕ
kept_tags None = []
kept_tags (Some h) = h.delivery.delivery_tag ∷ []

-- a request that a poll gave
abbrev pub given_tags : Polled → List ℕ
given_tags (polled.Request d) = d.delivery_tag ∷ []
given_tags _ = []

-- the request that a server was handed, which polls where it keeps none
abbrev pub handed_tags : Option Held → Polled → List ℕ
handed_tags None p = given_tags p
handed_tags (Some h) p = []

-- the request that a call was done with: it was answered, rejected, or found void
abbrev pub done_tags : Result Served Error → List ℕ
done_tags (Ok (served.Stale tag)) = tag ∷ []
done_tags (Ok (served.NoAddress tag)) = tag ∷ []
done_tags (Ok (served.Answered tag ticket confirm)) = tag ∷ []
done_tags _ = []

-- the requests that the consumer handed to the server in these calls, in order
abbrev pub all_handed : List Turn → List ℕ
all_handed [] = []
all_handed (x ∷ xs) = handed_tags x.before.held (item_polled (told_by x.session (event.PollConsumer x.before.consumer))) ++ all_handed xs

-- the requests that these calls were done with, in order
abbrev pub all_done : List Turn → List ℕ
all_done [] = []
all_done (x ∷ xs) = done_tags x.result ++ all_done xs
