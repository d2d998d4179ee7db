use Rattle.std.proofs.Common.{subst}
use Rattle.lapin_client.specs.Answers.{Shown}
use Rattle.lapin_types.specs.declared.message.Delivery.{Delivery}
use Rattle.lapin_client.proofs.client.Client.show.Goals as goal

pub returns-in-Err-clause-told : goal.returns-in-Err-clause-told
returns-in-Err-clause-told c = subst (λ (x : Delivery). Shown c.write_out.result x c.args.self.now c.write_out.new.self) c.in-Err.ensures.0 c.write_out.ensures.told
