-- A seat may move to another thread.
use denote.RattleType.{RattleType}
use denote.Param.Send.{IsSend, sendable}
use denote.Param.SendFields.{declared_send}
use Rattle.std.proofs.Crossing.{crosses}
use Rattle.std.specs.declared.sync.ledger.Ledger.{Ghosts}
use Rattle.lapin_send.proofs.Callers.{caller_send}
use Rattle.lapin_pool.proofs.card.Card.TheSendSync as card
use Rattle.lapin_pool.specs.contracts.seat.Seat as seat_

module _ (L : RattleType) (g : Ghosts L.Denot) where
  pub seat_send : IsSend (seat_.the_row L g)
  seat_send = declared_send (seat_.the_type L g) (search (caller_send, sendable) depth 60, (search (card.the_send, crosses, sendable) depth 60, (search sendable depth 60, tt)))
