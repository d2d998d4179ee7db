use Rattle.std.proofs.Common.{◌∙◌, sym, ap}
use Rattle.std.specs.Option.{option_copied}
use Rattle.lapin_joint.specs.Joint.{handed_record}
use Rattle.lapin_commands.proofs.JoinedRuns.{made_handed}
use Rattle.lapin_commands.proofs.joined.print_request.Goals as goal

pub returns : goal.returns
returns c =
    made_handed c.put_request.result c.args.flow c.args.run.now c.hand.new.self (option_copied c.newest.result) c.args.text.now.items c.put_request.new.text.items c.in_ok-some.ensures.ok
    (c.in_ok-some.ensures.told ∙ ap handed_record (sym c.newest.ensures)) c.put_request.ensures
