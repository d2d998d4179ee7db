use Rattle.lapin_types.specs.declared.event.Event.TheVariants as event
use Rattle.lapin_client.proofs.Room.{sound_next}
use Rattle.lapin_client.proofs.client.Client.confirmed.Goals as goal

pub show_outcome-requires : goal.show_outcome-requires
show_outcome-requires c = sound_next c.args.self.now.left c.args.self.now.frame_max c.args.self.now.session c.poll_confirm.new.self (event.PollConfirm c.args.confirm) c.requires c.poll_confirm.ensures.ok

pub returns-in-Ok-Pending-clause-sound : goal.returns-in-Ok-Pending-clause-sound
returns-in-Ok-Pending-clause-sound c = sound_next c.args.self.now.left c.args.self.now.frame_max c.args.self.now.session c.poll_confirm.new.self (event.PollConfirm c.args.confirm) c.requires c.poll_confirm.ensures.ok

pub keep-requires : goal.keep-requires
keep-requires c = sound_next c.args.self.now.left c.args.self.now.frame_max c.args.self.now.session c.poll_confirm.new.self (event.PollConfirm c.args.confirm) c.requires c.poll_confirm.ensures.ok
