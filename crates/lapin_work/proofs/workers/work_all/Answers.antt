use denote.Param.Send.{sendable}
use Rattle.std.proofs.Crossing.{crosses}
use Rattle.lapin_send.proofs.Callers.{caller_send}
use Rattle.lapin_threads.proofs.Sums.{tallied_map, tallied_length}
use Rattle.lapin_work.proofs.workers.work_all.Goals as goal

pub returns-clause-each : goal.returns-clause-each
returns-clause-each g c = tallied_map (λ x r y p. rw (← p.argument_is, ← p.left) p.call) c.tally_mut.ensures

pub returns-clause-count : goal.returns-clause-count
returns-clause-count g c = tallied_length _ c.args.callers.now c.tally_mut.new.s c.tally_mut.ensures.total c.tally_mut.result.short c.tally_mut.ensures.each

pub tally_mut-requires-send-T : goal.tally_mut-requires-send-T
tally_mut-requires-send-T g c = λ κs b. search (caller_send, crosses, sendable) depth 60 fits 20000
