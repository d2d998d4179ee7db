use Rattle.std.proofs.Common.{arith}
use Rattle.lapin_keeping.proofs.Returning.{noted_before}
use Rattle.lapin_keeping.proofs.keeping.note_all.Goals as goal

pub loop-message-preserved : goal.loop-message-preserved
loop-message-preserved c = λ to rest.
    c.loop-message.invariant to
    (noted_before c.args.back.now c.loop-message.message-index c.message-item.result c.loop-message.messages.items c.note_back.new.messages.items to (omega (arith, c.loop-message-test.true)) c.message-item.is c.note_back.ensures rest)
