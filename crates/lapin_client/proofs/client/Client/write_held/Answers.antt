use Rattle.std.proofs.Common.{refl, sym, ◌∙◌}
use Rattle.lapin_client.proofs.Requests.{held_written, none_held}
use Rattle.lapin_client.proofs.client.Client.write_held.Goals as goal

pub returns-in-Some-clause-told : goal.returns-in-Some-clause-told
returns-in-Some-clause-told c =
    held_written c.write.result c.in-Some.left c.args.self.now (record c.args.self.now { unsent = c.take.new.self }) c.write.new.self (sym c.take.ensures.value ∙ c.in-Some.is) refl refl refl refl (refl, refl, refl, refl, refl, refl, refl) c.write.ensures.told

pub returns-in-None-clause-told : goal.returns-in-None-clause-told
returns-in-None-clause-told c =
    none_held c.args.self.now (record c.args.self.now { unsent = c.take.new.self }) (sym c.take.ensures.value ∙ c.in-None.is) refl refl refl c.take.ensures.after (refl, refl, refl, refl, refl, refl, refl)
