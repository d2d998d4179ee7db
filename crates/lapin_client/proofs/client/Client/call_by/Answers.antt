use Rattle.std.proofs.Common.{◌∙◌, refl}
use Rattle.lapin_client.proofs.Refused.{not_met, told_from}
use Rattle.lapin_client.proofs.Room.{sound_next, sound_same}
use Rattle.lapin_machine.specs.declared.channel.Ticket.{Ticket}
use Rattle.lapin_types.specs.declared.event.Event.TheVariants as event
use Rattle.lapin_client.proofs.client.Client.call_by.Goals as goal

pub returns-in-Ok-clause-sound : goal.returns-in-Ok-clause-sound
returns-in-Ok-clause-sound c = sound_next c.args.self.now.left c.args.self.now.frame_max c.args.self.now.session c.call.new.self (event.Call c.args.channel c.args.call) c.requires.sound c.in-Ok.ensures.ok

pub refuse-requires : goal.refuse-requires
refuse-requires c =
    sound_same c.args.self.now.left c.args.self.now.left c.args.self.now.frame_max c.args.self.now.frame_max c.args.self.now.session c.call.new.self refl refl c.in-Err.ensures.err c.requires.sound

pub returns-in-Err-clause-told : goal.returns-in-Err-clause-told
returns-in-Err-clause-told c = (
  not_met Ticket c.refuse.result c.in-Err.error c.args.channel c.args.call c.args.self.now c.refuse.new.self c.in-Err.ensures.told c.in-Err.ensures.cause (told_from c.refuse.result c.in-Err.error c.args.self.now (record c.args.self.now { session = c.call.new.self }) c.refuse.new.self (refl, refl, refl) c.refuse.ensures.told),
  c.refuse.ensures.session ∙ c.in-Err.ensures.err,
  c.refuse.ensures.same,
)
