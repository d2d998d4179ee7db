use Rattle.std.proofs.Common.{sym, ◌∙◌}
use Rattle.lapin_client.proofs.Taking.{idle_heard, idle_counted, stray_counted, stray_taken}
use Rattle.lapin_client.proofs.client.Client.take_idle.Goals as goal

pub returns-then-is_stray-clause-told : goal.returns-then-is_stray-clause-told
returns-then-is_stray-clause-told c = stray_taken c.args.frame c.args.self.now (sym c.is_stray.ensures ∙ c.if-is_stray.true)

pub returns-then-is_stray-clause-count : goal.returns-then-is_stray-clause-count
returns-then-is_stray-clause-count c = stray_counted c.args.frame c.args.self.now (sym c.is_stray.ensures ∙ c.if-is_stray.true)

pub returns-clause-told : goal.returns-clause-told
returns-clause-told c = idle_heard c.note.result c.args.frame c.args.self.now c.note.new.self (sym c.is_stray.ensures ∙ c.if-is_stray.false) c.note.ensures.told

pub returns-clause-count : goal.returns-clause-count
returns-clause-count c = idle_counted c.note.result c.args.frame c.args.self.now c.note.new.self (sym c.is_stray.ensures ∙ c.if-is_stray.false) c.note.ensures.count
