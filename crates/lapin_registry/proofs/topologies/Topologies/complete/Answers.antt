use Rattle.lapin_registry.proofs.Openings.{on-ok, on-err, recorded, stayed, nowhere}
use Rattle.lapin_registry.proofs.topologies.Topologies.complete.Goals as goal

pub returns-in-Some-clause-ok : goal.returns-in-Some-clause-ok
returns-in-Some-clause-ok c =
    rw (← c.self.view_is) (on-ok c.complete.result _ _ (recorded c.args.channel c.self.inside.by_channel.entries c.args.reply.now c.args.answer.now c.in-Some.registry.now c.complete.new.self c.in-Some.ensures.value) c.complete.ensures.ok)

pub returns-in-Some-clause-err : goal.returns-in-Some-clause-err
returns-in-Some-clause-err c =
    rw (← c.self.view_is) (on-err c.complete.result _ _ (stayed c.args.channel c.self.inside.by_channel.entries c.in-Some.registry.now c.complete.new.self c.in-Some.ensures.value) c.complete.ensures.err)

pub returns-clause-ok : goal.returns-clause-ok
returns-clause-ok c = rw (← c.self.view_is) (nowhere c.args.channel c.self.inside.by_channel.entries c.args.reply.now c.args.answer.now c.in_default.ensures.value)
