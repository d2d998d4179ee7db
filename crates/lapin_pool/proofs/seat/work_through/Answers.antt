use Rattle.std.proofs.Common.{◌≡◌, arith, refl, inl}
use Rattle.lapin_pool.proofs.seat.work_through.Goals as goal

pub returns : goal.returns
returns g c = let e : c.args.turns ≡ c.loop-jobs.jobs = omega arith in inl (rw e c.loop-jobs.invariant, refl)
