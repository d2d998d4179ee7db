-- What is kept as a close of the broker comes.
use Rattle.std.specs.Prelude.{ℕ, Bool, false, if◌then◌else◌, List, Option, Some, None}
use Rattle.lapin_types.specs.declared.request.Request.{Request}
use Rattle.lapin_types.specs.declared.request.ReplyKind.TheVariants as reply_kind
use Rattle.lapin_rules.specs.declared.phases.ConnectionPhase.{ConnectionPhase}
use Rattle.lapin_rules.specs.declared.phases.ConnectionPhase.TheVariants as link
use Rattle.lapin_rules.specs.Phases.{close_has_left}
use Rattle.lapin_rules.specs.Requests.{first_request, with_request}

-- where closes of a channel crossed, the request of this side's close
abbrev pub kept_request : Bool → List Request → Option Request
kept_request crossed rs = if crossed then first_request reply_kind.ChannelCloseOk rs else None

-- it is open again
abbrev pub with_kept : ℕ → Option Request → List (ℕ × List Request) → List (ℕ × List Request)
with_kept c None all = all
with_kept c (Some r) all = with_request c r all

-- whether this side is closing the connection and its close has left
abbrev pub is_close_sent : ConnectionPhase → Bool
is_close_sent (link.Closing s) = close_has_left s
is_close_sent _ = false
