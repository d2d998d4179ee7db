use Rattle.std.proofs.Common.{◌≡◌, ◌+◌, ◌-◌, Some, refl, sym, ◌∙◌, arith}
use Rattle.lapin_types.specs.declared.event.Event.TheVariants as event
use Rattle.lapin_client.proofs.Requests.{steps_left, steps_lost, told_handed}
use Rattle.lapin_client.proofs.Room.{sound_next}
use Rattle.lapin_client.proofs.client.Client.step.Goals as goal

pub write-requires-clause-sound : goal.write-requires-clause-sound
write-requires-clause-sound c =
    sound_next c.args.self.now.left c.args.self.now.frame_max c.args.self.now.session c.next_frame.new.self (event.Next c.args.flow) c.requires.sound c.in-Ok-Some.ensures.ok

pub returns-in-Ok-None-clause-sound : goal.returns-in-Ok-None-clause-sound
returns-in-Ok-None-clause-sound c =
    sound_next c.args.self.now.left c.args.self.now.frame_max c.args.self.now.session c.next_frame.new.self (event.Next c.args.flow) c.requires.sound c.in-Ok-None.ensures.ok

-- it was written
pub returns-in-Done-clause-told : goal.returns-in-Done-clause-told
returns-in-Done-clause-told c =
    let one : c.args.self.now.left - 1 + 1 ≡ c.args.self.now.left = omega (c.requires.some, arith) in
    let is : c.in-Ok-Some.field-0 ≡ Some c.in-Ok-Some.left = cc in
    steps_left c.in-Ok-Some.left c.args.flow c.args.self.now (record c.args.self.now { session = c.next_frame.new.self; left = c.args.self.now.left - 1 }) c.write.new.self
    (told_handed c.args.self.now.session c.args.flow c.in-Ok-Some.left (sym is ∙ c.in-Ok-Some.ensures.told)) c.in-Ok-Some.ensures.ok refl one refl (refl, refl, refl, refl, refl, refl, refl) c.in-Done.ensures.told

-- or not
pub returns-in_default-clause-told : goal.returns-in_default-clause-told
returns-in_default-clause-told c =
    let one : c.args.self.now.left - 1 + 1 ≡ c.args.self.now.left = omega (c.requires.some, arith) in
    let is : c.in-Ok-Some.field-0 ≡ Some c.in-Ok-Some.left = cc in
    steps_lost c.write.result c.in-Ok-Some.left c.args.flow c.args.self.now (record c.args.self.now { session = c.next_frame.new.self; left = c.args.self.now.left - 1 }) c.write.new.self
    (told_handed c.args.self.now.session c.args.flow c.in-Ok-Some.left (sym is ∙ c.in-Ok-Some.ensures.told)) c.in-Ok-Some.ensures.ok refl one refl (refl, refl, refl, refl, refl, refl, refl) c.in_default.not-Done c.write.ensures.told
