use Rattle.std.proofs.Common.{Option, Err, refl, sym, subst}
use Rattle.lapin_client.specs.Asking.{CalledOf}
use Rattle.lapin_client.specs.declared.status.Status.TheVariants as status
use Rattle.lapin_client.proofs.Plain.{plain_made}
use Rattle.lapin_types.specs.declared.call.Call.{Call}
use Rattle.lapin_client.proofs.client.Client.call_method.Goals as goal

pub call_by-requires-clause-plain : goal.call_by-requires-clause-plain
call_by-requires-clause-plain c = plain_made c.args.method c.in-Some.call (sym c.in-Some.ensures)

pub returns-in-Some-clause-told : goal.returns-in-Some-clause-told
returns-in-Some-clause-told c = subst (λ (o : Option Call). CalledOf c.call_by.result c.args.channel o c.args.self.now c.call_by.new.self) c.in-Some.ensures c.call_by.ensures.told

pub returns-in-None-clause-told : goal.returns-in-None-clause-told
returns-in-None-clause-told c =
    subst (λ (o : Option Call). CalledOf (Err status.NotInGrammar) c.args.channel o c.args.self.now c.args.self.now) c.in-None.ensures (refl, (refl, refl, refl), (refl, refl, refl, refl, refl, refl))
