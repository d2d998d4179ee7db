use denote.Param.Send.{sendable}
use Rattle.std.proofs.Crossing.{crosses}
use Rattle.lapin_send.proofs.Callers.{caller_send}
use Rattle.lapin_shared_tests.proofs.callers.one_acker.Goals as goal

pub each_mut-requires-send-T : goal.each_mut-requires-send-T
each_mut-requires-send-T g c = λ κs b. search (caller_send, crosses, sendable) depth 60 fits 20000
