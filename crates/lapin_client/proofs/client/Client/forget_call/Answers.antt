use Rattle.std.proofs.Common.{refl, sym}
use Rattle.lapin_types.specs.declared.event.Event.TheVariants as event
use Rattle.lapin_client.proofs.Room.{sound_next}
use Rattle.lapin_client.proofs.client.Client.forget_call.Goals as goal

pub returns-in-Ok-clause-sound : goal.returns-in-Ok-clause-sound
returns-in-Ok-clause-sound c =
    sound_next c.args.self.now.left c.args.self.now.frame_max c.args.self.now.session c.set_aside_ticket.new.self (event.AsideTicket c.args.ticket) c.requires c.set_aside_ticket.ensures.ok

pub returns-in-Err-clause-told : goal.returns-in-Err-clause-told
returns-in-Err-clause-told c = ((c.in-Err.error, sym c.in-Err.ensures.told), (c.in-Err.ensures.err, (refl, refl, refl), (refl, refl, refl, refl, refl, refl)))
