use Rattle.std.proofs.Common.{◌≡◌, None, IfSome}
use Rattle.std.specs.BTreeMap as tree
use Rattle.std.specs.Ordering.{nat_cmp}
use Rattle.lapin_work.specs.Ran.{Ran}
use Rattle.lapin_work.proofs.turns.work_through.Given as goal

-- each turn so far took a job
abbrev pub invariant-loop-jobs : goal.invariant-loop-jobs
invariant-loop-jobs g l =
    Ran (λ n. tree.get nat_cmp l.delegates.by_consumer n ≡ None) (λ n y v. IfSome (tree.get nat_cmp l.delegates.by_consumer n) (λ b. (goal.ConsumerDelegate-dyn g (b.vtable, b.value)).may b.value y v)) l.jobs l.fn.caller l.caller
