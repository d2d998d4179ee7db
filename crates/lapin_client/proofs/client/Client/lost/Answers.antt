use Rattle.lapin_types.specs.declared.event.Event.TheVariants as event
use Rattle.lapin_client.proofs.Room.{sound_next}
use Rattle.lapin_client.proofs.client.Client.lost.Goals as goal

pub returns-in-Ok-clause-sound : goal.returns-in-Ok-clause-sound
returns-in-Ok-clause-sound c = sound_next c.args.self.now.left c.args.self.now.frame_max c.args.self.now.session c.lost.new.self event.Lost c.requires c.in-Ok.ensures.ok
