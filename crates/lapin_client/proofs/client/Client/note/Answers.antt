use Rattle.std.proofs.Common.{◌≡◌, None, sym, ◌∙◌}
use Rattle.lapin_client.proofs.Closing.{noted_none}
use Rattle.lapin_client.proofs.client.Client.note.Goals as goal

pub returns-in-Ok-None-clause-told : goal.returns-in-Ok-None-clause-told
returns-in-Ok-None-clause-told c =
    let is : c.in-Ok-None.field-0 ≡ None = cc in
    noted_none c.hear.result c.args.frame c.args.self.now c.hear.new.self (sym c.in-Ok-None.ensures ∙ is) c.hear.ensures.told
