use Rattle.std.proofs.Common.{◌+◌, false, length, None, refl}
use Rattle.lapin_resend.specs.declared.step.ResendReport.TheVariants as told
use Rattle.lapin_resend.proofs.StepLaws.{submit_tells, submit_goes}
use Rattle.lapin_resend.proofs.publisher.Publisher.submit.Goals as goal

pub returns-clause-goes : goal.returns-clause-goes
returns-clause-goes c =
    submit_goes c.args.message c.args.known.now c.args.self.now (record { joined = c.args.self.now.joined; messages = c.push.new.self; selects = c.args.self.now.selects })
    (record { place = length c.args.known.now; message = c.args.message; stored = false; outstanding = None }) refl refl refl refl c.in_ok-push.ensures.items

pub returns-clause-told : goal.returns-clause-told
returns-clause-told c = submit_tells c.args.message c.args.known.now c.args.self.now (told.Message (length c.args.known.now + 1)) refl
