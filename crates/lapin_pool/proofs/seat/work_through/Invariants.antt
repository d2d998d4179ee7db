use Rattle.lapin_pool.specs.Turns.{standing}
use Rattle.lapin_pool.specs.Ran.{Ran}
use Rattle.lapin_pool.proofs.seat.work_through.Given as goal

-- each turn so far took a job
abbrev pub invariant-loop-jobs : goal.invariant-loop-jobs
invariant-loop-jobs g l =
    Ran (g.D.Duty.may l.duty) l.jobs (standing l.fn.seat.caller l.fn.seat.cards.items l.fn.seat.unread) (standing l.seat.caller l.seat.cards.items l.seat.unread)
