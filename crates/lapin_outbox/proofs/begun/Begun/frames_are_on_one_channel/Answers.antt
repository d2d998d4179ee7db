use Rattle.std.proofs.Common.{subst}
use Rattle.lapin_outbox.specs.Drops.{AreOn}
use Rattle.lapin_outbox.proofs.Dropping.{all-on, on-whole}
use Rattle.lapin_outbox.proofs.begun.Begun.frames_are_on_one_channel.Goals as goal

pub returns : goal.returns
returns c = λ d first. on-whole c.self.inside.channel d c.args.self.now (subst (AreOn c.self.inside.channel) c.self.view_is (all-on c.self.inside.ticket c.self.inside.confirm c.self.inside.channel c.self.inside.header c.self.inside.bodies)) first
