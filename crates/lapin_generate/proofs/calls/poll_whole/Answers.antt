use Rattle.std.proofs.Common.{refl}
use Rattle.lapin_types.specs.declared.event.Event.TheVariants as event
use Rattle.lapin_generate.proofs.Growing.{event_made}
use Rattle.lapin_generate.proofs.calls.poll_whole.Goals as goal

pub returns : goal.returns
returns c = event_made (event.PollConfirm c.args.number) _ c.args.run.now c.poll_confirm-polled.new.self c.args.summary.now c.with_poll.result _ refl refl c.run.view_is c.poll_confirm-polled.ensures.ok c.poll_confirm-polled.ensures.told c.with_poll.ensures.sum c.with_poll.ensures.room
