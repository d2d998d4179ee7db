use Rattle.std.proofs.Common.{◌+◌, ◌-◌, ◌*◌, length}
use Rattle.lapin_threads.proofs.tally.+tally_halves.Given as goal

abbrev pub decreases-tally_mut : goal.decreases-tally_mut
decreases-tally_mut g l = 4 * length l.s.now

abbrev pub decreases-both : goal.decreases-both
decreases-both g l = 4 * (length l.a.now + length l.b.now) - 1

abbrev pub decreases-both-front : goal.decreases-both-front
decreases-both-front g l = 4 * length l.a.now + 1

abbrev pub decreases-both-back : goal.decreases-both-back
decreases-both-back g l = 4 * length l.b.now + 1
