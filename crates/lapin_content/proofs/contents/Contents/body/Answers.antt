use Rattle.std.proofs.Common.{refl}
use Rattle.lapin_content.specs.Contents.{after_body}
use Rattle.lapin_content.proofs.Tables.{absent, changed, unchanged, after-body}
use Rattle.lapin_content.proofs.contents.Contents.body.Goals as goal

pub returns-clause-after : goal.returns-clause-after
returns-clause-after c =
    rw (← c.self.view_is)
    (after-body c.body.result _ _ _ _
    (changed c.args.channel (after_body c.args.payload) c.in-Some.queue.now c.body.new.self c.self.inside.channels.entries c.in-Some.ensures.value)
    (unchanged c.args.channel c.in-Some.queue.now c.body.new.self c.self.inside.channels.entries c.in-Some.ensures.value)
    c.body.ensures.queue)

pub returns-in_default-clause-after : goal.returns-in_default-clause-after
returns-in_default-clause-after c = rw (← c.self.view_is) (absent c.args.channel (after_body c.args.payload) c.self.inside.channels.entries c.in_default.ensures.value refl)
