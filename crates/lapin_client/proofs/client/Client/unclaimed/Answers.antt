use Rattle.lapin_types.specs.declared.event.Event.TheVariants as event
use Rattle.lapin_client.proofs.Room.{sound_next}
use Rattle.lapin_client.proofs.client.Client.unclaimed.Goals as goal

pub returns-in-Ok-Pending-clause-sound : goal.returns-in-Ok-Pending-clause-sound
returns-in-Ok-Pending-clause-sound c = sound_next c.args.self.now.left c.args.self.now.frame_max c.args.self.now.session c.wait_for_confirms.new.self (event.PollWait c.args.channel) c.requires c.in-Ok-Pending.ensures.ok

pub returns-in-Ok-Ready-clause-sound : goal.returns-in-Ok-Ready-clause-sound
returns-in-Ok-Ready-clause-sound c = sound_next c.args.self.now.left c.args.self.now.frame_max c.args.self.now.session c.wait_for_confirms.new.self (event.PollWait c.args.channel) c.requires c.in-Ok-Ready.ensures.ok
