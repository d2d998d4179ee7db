use Rattle.std.proofs.Common.{ap}
use Rattle.lapin_machine.specs.World.{World}
use Rattle.lapin_call.specs.Calls.{Requester}
use Rattle.lapin_call.proofs.Steps.{numbers_after}
use Rattle.lapin_call.proofs.requester.Requester.meet.Goals as goal

pub begin-requires : goal.begin-requires
begin-requires c = numbers_after c.args.self.now c.self.inside.session c.step.new.self c.args.event (cc (ap (λ (d : Requester World). d.session) c.self.view_is)) c.in-Ok.ensures.ok c.requires
