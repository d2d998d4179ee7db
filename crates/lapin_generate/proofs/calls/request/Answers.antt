use Rattle.std.proofs.Common.{◌∙◌, ap, sym, true}
use Rattle.lapin_types.specs.declared.event.Event.TheVariants as event
use Rattle.lapin_types.specs.declared.record.Record.{Record}
use Rattle.lapin_joint.specs.Joint.{handed_record}
use Rattle.lapin_joint.specs.declared.step.Step.TheVariants as step
use Rattle.lapin_joint.specs.declared.step.Reported.TheVariants as reported
use Rattle.lapin_generate.specs.Summed.{with_report}
use Rattle.lapin_generate.proofs.Growing.{made_one}
use Rattle.lapin_generate.proofs.calls.request.Goals as goal

pub returns : goal.returns
returns c =
    made_one (step.Client (event.Next true)) c.args.run.now c.hand.new.self c.args.summary.now c.with_request.result c.in_ok-some.ensures.ok
    (c.with_request.ensures.sum ∙ ap (λ (r : Record). with_report c.args.summary.now (reported.Client r)) (ap handed_record c.newest.ensures ∙ sym c.in_ok-some.ensures.told)) c.with_request.ensures.room
