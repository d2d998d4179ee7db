use Rattle.std.proofs.Common.{◌+◌, refl}
use Rattle.lapin_check.proofs.Counts.{counted_known}
use Rattle.lapin_check.proofs.watch.Watch.count.Goals as goal

pub returns-in-Some-clause-opens : goal.returns-in-Some-clause-opens
returns-in-Some-clause-opens c =
    rw (← c.self.view_is) (counted_known c.args.channel c.in-Some.count.now (c.in-Some.count.now + 1) c.self.inside.opens.entries c.in-Some.ensures.value refl)
