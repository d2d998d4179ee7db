use Rattle.lapin_types.specs.declared.event.Event.TheVariants as event
use Rattle.lapin_client.proofs.Room.{sound_next}
use Rattle.lapin_client.proofs.client.Client.aside_ticket.Goals as goal

pub returns-clause-sound : goal.returns-clause-sound
returns-clause-sound c = sound_next c.args.self.now.left c.args.self.now.frame_max c.args.self.now.session c.set_aside_ticket.new.self (event.AsideTicket c.args.number) c.requires.sound c.set_aside_ticket.ensures.ok
