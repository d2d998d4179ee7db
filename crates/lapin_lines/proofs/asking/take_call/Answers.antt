use Rattle.std.proofs.Common.{rules}
use Rattle.lapin_text.proofs.CallLaws.{publish_said}
use Rattle.lapin_lines.proofs.asking.take_call.Goals as goal

pub returns-in-Ok-take_publish : goal.returns-in-Ok-take_publish
returns-in-Ok-take_publish c = rw (c.in-Ok.ensures, publish_said c.u16_at.new.tokens c.word.new.self (c.word.ensures.read (search rules))) c.in-Ok-take_publish.ensures.taken

pub returns-in-Err-Bad-take_publish : goal.returns-in-Err-Bad-take_publish
returns-in-Err-Bad-take_publish c = rw (c.in-Ok.ensures, publish_said c.u16_at.new.tokens c.word.new.self (c.word.ensures.read (search rules))) (c.in-Err-Bad-take_publish.ensures.bad (search rules))
