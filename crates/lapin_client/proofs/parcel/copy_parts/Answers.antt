use Rattle.lapin_client.proofs.Copying.{filled_four}
use Rattle.lapin_client.proofs.parcel.copy_parts.Goals as goal

pub returns-clause-copied : goal.returns-clause-copied
returns-clause-copied c =
    let a = c.args in let x = c.copy_at-at_key in let y = c.copy_at-at_list in let z = c.copy_at-at_body in
    filled_four a.exchange.now a.key.now a.list.now a.body.now a.out.now x.new.out y.new.out z.new.out c.copy_at.new.out x.result y.result z.result
    x.ensures.copied x.ensures.place y.ensures.copied y.ensures.place z.ensures.copied z.ensures.place c.copy_at.ensures.copied
