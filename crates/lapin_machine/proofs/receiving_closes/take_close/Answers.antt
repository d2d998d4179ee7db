use Rattle.std.proofs.Common.{◌∙◌, ap}
use Rattle.lapin_rules.specs.Ends.{cancels_at}
use Rattle.lapin_outstanding.proofs.Cancels.{cancels-beside_close}
use Rattle.lapin_machine.proofs.receiving_closes.take_close.Goals as goal

pub returns-clause-cancels : goal.returns-clause-cancels
returns-clause-cancels c = ap (cancels_at c.args.channel) c.take_request.ensures.waiting ∙ cancels-beside_close c.args.channel c.args.replies.now.what
