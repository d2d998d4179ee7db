use Rattle.std.proofs.Common.{rules, ◌≡◌, None, IfSome}
use Rattle.std.specs.BTreeMap as tree
use Rattle.std.specs.Ordering.{nat_cmp}
use Rattle.lapin_work.proofs.Stages.{turn_made}
use Rattle.lapin_work.proofs.turn.work_between.Goals as goal

pub returns : goal.returns
returns g c =
    let kept = c.args.delegates.now.by_consumer in
    turn_made (λ n. tree.get nat_cmp kept n ≡ None) (λ n y v. IfSome (tree.get nat_cmp kept n) (λ b. (goal.ConsumerDelegate-dyn g (b.vtable, b.value)).may b.value y v)) c.args.caller.now
    c.take_job.new.caller c.carry_out-done.new.caller c.in-Ok-Some.field-0 c.in-Ok-Some.place c.newest.result.now c.ask-consumer.result.0 c.ask-consumer.result.1 c.carry_out-done.result
    (search rules) c.in-Ok-Some.ensures.ok c.newest.ensures c.ask-consumer.ensures c.carry_out-done.ensures
