use Rattle.std.proofs.Common.{refl, drop}
use Rattle.lapin_content.proofs.Tables.{absent, changed}
use Rattle.lapin_content.proofs.contents.Contents.reset.Goals as goal

pub returns-clause-after : goal.returns-clause-after
returns-clause-after c = rw (← c.self.view_is) (changed c.args.channel (drop 1) c.in-Some.queue.now c.reset.new.self c.self.inside.channels.entries c.in-Some.ensures.value c.reset.ensures.rest)

pub returns-in_default-clause-after : goal.returns-in_default-clause-after
returns-in_default-clause-after c = rw (← c.self.view_is) (absent c.args.channel (drop 1) c.self.inside.channels.entries c.in_default.ensures.value refl)
