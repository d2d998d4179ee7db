-- While this side closes the connection and its `connection.close` has not left, that close is all that waits: to drop it is to
-- drop all that waits.
use Rattle.std.specs.Prelude.{◌≡◌, Bool, true, false, not, List, [], ◌∷◌}
use Rattle.std.specs.List.{filter}
use Rattle.lapin_types.specs.Types.{Method}
use Rattle.lapin_types.specs.Types.method
use Rattle.lapin_types.specs.Types.connection
use Rattle.lapin_rules.specs.declared.phases.ConnectionPhase.{ConnectionPhase}
use Rattle.lapin_rules.specs.declared.phases.ConnectionPhase.TheVariants as link
use Rattle.lapin_rules.specs.declared.phases.CloseStage.TheVariants as stage
use Rattle.lapin_rules.specs.Frames.{MethodEntry}
use Rattle.lapin_rules.specs.Leaving.{Lists}

-- the method is a `connection.close` (AMQP 0-9-1, connection class, `close`)
abbrev pub is_connection_close : Method → Bool
is_connection_close (method.Connection (connection.Close code text class number)) = true
is_connection_close _ = false

-- the method that waits is a `connection.close`
abbrev pub entry_closes : MethodEntry → Bool
entry_closes m = is_connection_close m.method

-- one method waits, and it is a `connection.close`
abbrev pub IsOneClose : List MethodEntry → Type 0
IsOneClose (m ∷ []) = entry_closes m ≡ true
IsOneClose _ = ⊥

-- all that waits is one `connection.close`: no frame of a begun publish, no other method, no publish
pub record IsCloseAlone (l : Lists) : Type 0 where
  pub close : IsOneClose l.methods
  pub rest : l.rest ≡ []
  pub publishes : l.publishes ≡ []

-- where this side's close has not left, it waits alone
abbrev pub WaitsAlone : ConnectionPhase → Lists → Type 0
WaitsAlone (link.Closing stage.Queued) l = IsCloseAlone l
WaitsAlone _ l = Unit {0}

-- what waits without this side's `connection.close`
abbrev pub without_own_close : Lists → Lists
without_own_close l = record { rest = l.rest; methods = filter (λ m. not (entry_closes m)) l.methods; publishes = l.publishes }
