use Rattle.std.proofs.Common.{refl, []}
use Rattle.lapin_content.proofs.Tables.{absent, changed}
use Rattle.lapin_content.proofs.contents.Contents.drop_channel.Goals as goal

pub returns : goal.returns
returns c = rw (← c.self.view_is) (changed c.args.channel (λ _. []) c.in-Some.queue.now c.clear.new.self c.self.inside.channels.entries c.in-Some.ensures.value c.clear.ensures)

pub returns-in_default : goal.returns-in_default
returns-in_default c = rw (← c.self.view_is) (absent c.args.channel (λ _. []) c.self.inside.channels.entries c.in_default.ensures.value refl)
