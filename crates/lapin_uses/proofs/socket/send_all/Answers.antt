use Rattle.std.proofs.Common.{suc, subst, rules, Ok, ◌≡◌}
use Rattle.lapin_uses.specs.Sending.{OneSent}
use Rattle.lapin_uses.specs.declared.socket.Sent.TheVariants as sent
use Rattle.lapin_uses.proofs.socket.send_all.Goals as goal

pub loop-preserved : goal.loop-preserved
loop-preserved g c =
    let taken : c.in-Ok-Taken.field-0 ≡ sent.Taken = search rules in
    let one = subst (λ x. OneSent g.S.Socket.takes (Ok x) c.loop.caller c.send_one.new.caller c.loop.socket c.send_one.new.socket) taken c.in-Ok-Taken.ensures in
    (suc c.loop.invariant.0, (c.loop.caller, c.loop.socket, c.loop.invariant.1, one))
