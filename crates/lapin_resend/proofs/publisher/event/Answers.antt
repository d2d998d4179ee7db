use Rattle.lapin_resend.proofs.Meeting.{tells}
use Rattle.lapin_resend.proofs.publisher.event.Goals as goal

pub returns-in-Ok-clause-told : goal.returns-in-Ok-clause-told
returns-in-Ok-clause-told c = tells c.args.event c.args.joined.now c.step.new.self c.in-Ok.report c.requires.lawful c.in-Ok.ensures.stands
