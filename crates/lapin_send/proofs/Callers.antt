-- What a caller holds, for any crew: it may move to another thread, since its end of the session lies under a lock.
use denote.RattleType.{RattleType}
use denote.Param.Send.{IsSend, IsSync, recorded_send, recorded_sync, view_send, sendable}
use denote.Param.SendFields.{declared_send, declared_sync}
use Rattle.std.specs.declared.sync.ledger.Ledger.{Ghosts}
use Rattle.std.proofs.sync.ledger.Book.TheSendSync as book
use Rattle.std.proofs.sync.ledger.Share.TheSendSync as share
use Rattle.std.proofs.Crossing.{crosses}
use Rattle.lapin_send.proofs.Types.{event_field_send, event_field_sync, record_field_send, record_field_sync}
use Rattle.lapin_send.proofs.Parts.{session_send}
use Rattle.lapin_locked.specs.contracts.entry.Entry as entry_
use Rattle.lapin_locked.specs.contracts.entry.Told as told_
use Rattle.lapin_locked.specs.contracts.stored.Stored as stored_
use Rattle.lapin_locked.specs.contracts.stored.Logged as logged_
use Rattle.lapin_locked.specs.contracts.locked.Locked as locked_
use Rattle.lapin_locked.specs.contracts.locked.Locked.TheInside as in_locked
use Rattle.lapin_shared.specs.contracts.caller.Shared as shared_
use Rattle.lapin_shared.specs.contracts.hand.Hand as hand_
use Rattle.lapin_shared.specs.contracts.hand.Hand.TheInside as in_hand
use Rattle.lapin_shared.specs.contracts.caller.Caller as caller_
use Rattle.lapin_shared.specs.contracts.caller.Caller.TheInside as in_caller

pub entry_field_send : IsSend (entry_.the_field).row
entry_field_send = search (event_field_send, record_field_send, crosses, sendable) depth 400 fits 200000

pub entry_send : IsSend entry_.the_row
entry_send = recorded_send (entry_.the_field).row _ _ (entry_.the_type).to_one entry_field_send

pub entry_field_sync : IsSync (entry_.the_field).row
entry_field_sync = search (event_field_sync, record_field_sync, crosses, sendable) depth 400 fits 200000

pub entry_sync : IsSync entry_.the_row
entry_sync = recorded_sync (entry_.the_field).row _ _ (entry_.the_type).to_one entry_field_sync

pub stored_send : IsSend stored_.the_row
stored_send = search (entry_send, entry_sync, crosses, sendable) depth 400 fits 200000

pub logged_send : IsSend logged_.the_row
logged_send = search (stored_send, crosses, sendable) depth 400 fits 200000

pub told_field_send : IsSend (told_.the_field).row
told_field_send = search (event_field_send, record_field_send, crosses, sendable) depth 400 fits 200000

pub told_send : IsSend told_.the_row
told_send = recorded_send (told_.the_field).row _ _ (told_.the_type).to_one told_field_send

module _ (L : RattleType) (g : Ghosts L.Denot) where
  in_locked_send : IsSend (in_locked.the_row L g)
  in_locked_send = declared_send (in_locked.the_type L g) (search (session_send, sendable) depth 60, (search sendable depth 60, (search (stored_send, crosses, sendable) depth 60, (book.the_send L g, tt))))

  pub locked_send : IsSend (locked_.the_row L g)
  locked_send = view_send (in_locked.the_row L g) _ _ _ _ in_locked_send

  pub shared_send : IsSend (shared_.the_row L g)
  shared_send = declared_send (shared_.the_type L g) (search (locked_send, crosses, sendable) depth 60, (search (crosses, sendable) depth 60, tt))

  pub shared_sync : IsSync (shared_.the_row L g)
  shared_sync = declared_sync (shared_.the_type L g) (search (locked_send, crosses, sendable) depth 60, (search (crosses, sendable) depth 60, tt))

  in_hand_send : IsSend (in_hand.the_row L g)
  in_hand_send = declared_send (in_hand.the_type L g) (search sendable depth 60, (search sendable depth 60, (search (logged_send, crosses, sendable) depth 60, (share.the_send L g, tt))))

  pub hand_send : IsSend (hand_.the_row L g)
  hand_send = view_send (in_hand.the_row L g) _ _ _ _ in_hand_send

  in_caller_send : IsSend (in_caller.the_row L g)
  in_caller_send = declared_send (in_caller.the_type L g) (search (shared_send, shared_sync, crosses, sendable) depth 60, (search (hand_send, sendable) depth 60, (search (told_send, crosses, sendable) depth 60, tt)))

  pub caller_send : IsSend (caller_.the_row L g)
  caller_send = view_send (in_caller.the_row L g) _ _ _ _ in_caller_send
