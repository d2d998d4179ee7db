use Rattle.std.proofs.Common.{None}
use Rattle.lapin_generate.proofs.summary.with_confirmed.Goals as goal

pub returns-in-Ack-clause-sum : goal.returns-in-Ack-clause-sum
returns-in-Ack-clause-sum c = rw (c.in-Ok.is, c.in-Ack.is) (c.with_ack.ensures.sum None)
