use Rattle.std.proofs.Common.{sym, subst}
use Rattle.lapin_client.specs.declared.closes.Close.{Close}
use Rattle.lapin_tables.specs.ByChannel.{HasRoom, Table}
use Rattle.lapin_client.proofs.Closing.{noted_some, same_table}
use Rattle.lapin_client.proofs.client.Client.note_reserved.Goals as goal

pub put_close-requires : goal.put_close-requires
put_close-requires c = λ none. subst (λ (t : Table Close). HasRoom c.args.channel t) (sym (same_table c.hear.result c.args.frame c.args.self.now c.hear.new.self c.in_default.not-Kept c.in_default.not-Ended c.hear.ensures.told)) c.requires.room

pub returns-in_default-clause-told : goal.returns-in_default-clause-told
returns-in_default-clause-told c =
    noted_some c.hear.result c.args.frame c.args.channel c.args.close c.args.self.now c.hear.new.self c.put_close.new.closes c.in_default.not-Kept c.in_default.not-Ended c.requires.said c.hear.ensures.told c.put_close.ensures
