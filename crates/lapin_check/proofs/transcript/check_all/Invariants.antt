use Rattle.std.proofs.Common.{take, drop}
use Rattle.lapin_check.proofs.Filling.{AtPlace}
use Rattle.lapin_check.proofs.transcript.check_all.Given as goal

abbrev pub invariant-loop-seen : goal.invariant-loop-seen
invariant-loop-seen l = AtPlace l.frame_max l.transcript (take l.seen-index l.transcript) (drop l.seen-index l.transcript) l.place l.watch l.account.items
