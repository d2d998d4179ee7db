use Rattle.std.proofs.Common.{rules, arith}
use Rattle.lapin_shared_commands.proofs.Finishing.{all_dealt}
use Rattle.lapin_shared_commands.proofs.running.shared_history.Goals as goal

pub returns-in-Ok-finish : goal.returns-in-Ok-finish
returns-in-Ok-finish g c =
    all_dealt c.args.frame_max c.args.callers c.args.events.items c.in-Ok-finish.history c.in_ok-back.back.items (omega (arith, c.requires.some)) (search rules) (search rules)
    (search rules) c.in-Ok-finish.ensures.count c.in-Ok-finish.ensures.stand c.in-Ok-finish.ensures.rise
