use Rattle.std.proofs.Common.{refl, sym, subst}
use Rattle.lapin_client.specs.declared.status.Status.{Status}
use Rattle.lapin_client.specs.Calls.{Forgotten}
use Rattle.lapin_types.specs.declared.event.Event.TheVariants as event
use Rattle.lapin_client.proofs.Refused.{forgotten_not}
use Rattle.lapin_client.proofs.Room.{sound_next}
use Rattle.lapin_client.proofs.client.Client.forget.Goals as goal

pub returns-in-Ok-clause-sound : goal.returns-in-Ok-clause-sound
returns-in-Ok-clause-sound c =
    sound_next c.args.self.now.left c.args.self.now.frame_max c.args.self.now.session c.set_aside.new.self (event.AsideConfirm c.args.confirm) c.requires c.in-Ok.ensures.ok

pub returns-in-Err-clause-told : goal.returns-in-Err-clause-told
returns-in-Err-clause-told c =
    subst (λ (s : Status). Forgotten s c.args.confirm c.args.self.now (record c.args.self.now { session = c.set_aside.new.self })) (sym c.forget_fault.ensures)
    (forgotten_not c.in-Err.error c.args.confirm c.args.self.now (record c.args.self.now { session = c.set_aside.new.self }) c.in-Err.ensures.numbers c.in-Err.ensures.told (c.in-Err.ensures.err, (refl, refl, refl), (refl, refl, refl, refl, refl, refl)))
