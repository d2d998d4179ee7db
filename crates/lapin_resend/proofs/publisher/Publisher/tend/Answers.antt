use Rattle.std.proofs.lemmas.Result.{on_ok_weaker}
use Rattle.lapin_resend.proofs.StepLaws.{tend_goes}
use Rattle.lapin_resend.proofs.publisher.Publisher.tend.Goals as goal

pub returns-clause-goes : goal.returns-clause-goes
returns-clause-goes c =
    on_ok_weaker c.publish.result
    (λ goes. tend_goes c.args.self.now c.poll.new.self c.open.new.self c.select.new.self c.publish.new.self c.in_ok-poll.ensures.goes c.in_ok-open.ensures.goes c.in_ok-select.ensures.goes goes)
    c.publish.ensures.goes
