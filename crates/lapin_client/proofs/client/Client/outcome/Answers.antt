use Rattle.std.proofs.Common.{◌-◌, ◌∙◌, inr, refl}
use Rattle.lapin_types.specs.declared.event.Event.TheVariants as event
use Rattle.lapin_client.proofs.Refused.{outcome_from}
use Rattle.lapin_client.proofs.Room.{sound_next}
use Rattle.lapin_client.proofs.client.Client.outcome.Goals as goal

pub tell-requires : goal.tell-requires
tell-requires c =
    sound_next c.args.self.now.left c.args.self.now.frame_max c.args.self.now.session c.poll_bare_confirm.new.self (event.PollConfirm c.args.confirm) c.requires c.in-Some.ensures.ok

pub returns-in-Some-clause-told : goal.returns-in-Some-clause-told
returns-in-Some-clause-told c = (
  inr (
    c.in-Some.outcome,
    c.in-Some.ensures.told,
    c.tell.ensures.session ∙ c.in-Some.ensures.ok,
    outcome_from c.in-Some.outcome c.tell.result c.args.self.now (record c.args.self.now { session = c.poll_bare_confirm.new.self; left = c.args.self.now.left - 1 }) c.tell.new.self (refl, refl, refl) c.tell.ensures.told,
  ),
  c.tell.ensures.same,
)
