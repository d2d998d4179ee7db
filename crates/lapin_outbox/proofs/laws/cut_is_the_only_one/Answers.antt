use Rattle.lapin_outbox.proofs.Cuts.{cut-only}
use Rattle.lapin_outbox.proofs.laws.cut_is_the_only_one.Goals as goal

pub returns : goal.returns
returns c = λ pieces is. cut-only c.args.most c.args.payload.now pieces c.requires is
