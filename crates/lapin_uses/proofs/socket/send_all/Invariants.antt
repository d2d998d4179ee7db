use Rattle.std.proofs.Common.{ℕ}
use Rattle.lapin_uses.specs.Sending.{AllTaken}
use Rattle.lapin_uses.proofs.socket.send_all.Given as goal

-- the socket took each frame that left so far
abbrev pub invariant-loop : goal.invariant-loop
invariant-loop g l = (n : ℕ) × AllTaken g.S.Socket.takes n l.initial.caller l.caller l.initial.socket l.socket
