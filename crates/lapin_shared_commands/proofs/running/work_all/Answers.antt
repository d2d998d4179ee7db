use denote.Exit.{no}
use denote.Param.Send.{param_sync, arg_sync, sendable}
use Rattle.std.proofs.Crossing.{crosses}
use Rattle.lapin_threads.proofs.Sides.{left_map}
use Rattle.lapin_shared_commands.proofs.Captured.{captured_sync, shift_send}
use Rattle.lapin_shared_commands.proofs.running.work_all.Goals as goal

pub returns : goal.returns
returns g c = λ is. left_map (λ x y p. rw (← p.argument_is, ← p.left) p.call) c.args.shifts.now c.each_mut.new.s (c.each_mut.ensures is)

pub each_mut-requires-send-T : goal.each_mut-requires-send-T
each_mut-requires-send-T g c = λ κs b. search (shift_send, crosses, sendable) depth 60 fits 20000

pub each_mut-requires-sync-F : goal.each_mut-requires-sync-F
each_mut-requires-sync-F g c = λ κs b. param_sync 2 _ (arg_sync _ no _ (captured_sync _ _ _ _ _ _ _ _ _ _ _ c.type_bounds.sync-R c.type_bounds.sync-G))
