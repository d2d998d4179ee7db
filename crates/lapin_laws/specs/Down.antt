-- What is said of a connection that is not open any more.
use Rattle.std.specs.Prelude.{◌==◌, ◌&&◌, Bool, false, not, List, [], ◌∷◌}
use Rattle.lapin_types.specs.declared.record.Record.{Record}
use Rattle.lapin_types.specs.declared.record.Record.TheVariants as record_
use Rattle.lapin_types.specs.Types.{Frame}
use Rattle.lapin_types.specs.Types.frame
use Rattle.lapin_types.specs.Types.method
use Rattle.lapin_types.specs.Types.connection
use Rattle.lapin_rules.specs.declared.phases.ConnectionPhase.{ConnectionPhase}
use Rattle.lapin_rules.specs.declared.phases.ConnectionPhase.TheVariants as link
use Rattle.lapin_rules.specs.Phases.{is_crossed}
use Rattle.lapin_rules.specs.Frames.{MethodEntry}

-- The two frames that are not passed over, both on channel 0 and while this side closes the connection: `connection.close-ok`,
-- and the first `connection.close`.
abbrev pub is_still_incoming : ConnectionPhase → Frame → Bool
is_still_incoming (link.Closing s) (frame.Method c (method.Connection connection.CloseOk)) = c == 0
is_still_incoming (link.Closing s) (frame.Method c (method.Connection (connection.Close code text class number))) = (c == 0) && not (is_crossed s)
is_still_incoming _ _ = false

-- the record of a frame request that gives the first method that waits
abbrev pub first_method : List MethodEntry → Record
first_method [] = record_.NoFrame
first_method (m ∷ ms) = record_.Frame (frame.Method m.channel m.method)
