use Rattle.std.proofs.Common.{refl, sym}
use Rattle.lapin_types.specs.declared.event.Event.TheVariants as event
use Rattle.lapin_generate.proofs.Growing.{event_made}
use Rattle.lapin_generate.proofs.calls.poll.Goals as goal

pub returns-in-Some : goal.returns-in-Some
returns-in-Some c = event_made (event.PollConfirm c.args.number) _ c.args.run.now c.poll_bare_confirm.new.self c.args.summary.now c.with_outcome.result _ refl refl c.run.view_is c.in-Some.ensures.ok (sym c.in-Some.ensures.told) c.with_outcome.ensures.sum c.with_outcome.ensures.room
