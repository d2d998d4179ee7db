-- One channel: the session, the broker and two links, over kinds of frames.
use Rattle.std.specs.Prelude.{Bool, true, false, List, [], ◌∷◌, ◌++◌, if◌then◌else◌}

-- kinds of frames up and down
pub data Up : Type 0 where
  UOpen UClose UCloseOk UOther : Up

-- kinds of frames down: the channel's open-ok, close and close-ok, and any other
pub data Down : Type 0 where
  DOpenOk DClose DCloseOk DOther : Down

-- the session's state; Crossed where the two closes crossed, Refused once a frame came that the state doesn't hear
pub data Sess : Type 0 where
  Closed Opening Opened Closing Crossed Refused : Sess

-- Stopping with its marks: nothing, owes, owes and has read. Has read and owes nothing is Free.
pub data Peer : Type 0 where
  Free Asked Open Leaving Stopping StoppingOwes StoppingAnswered Broken : Peer

-- the session's state and unsent frames, the link up, the broker's state and the link down; each list oldest first
pub record World : Type 0 where
  pub sess : Sess
  pub unsent : List Up
  pub up : List Up
  pub peer : Peer
  pub down : List Down

-- the frame is a close
abbrev pub is_close : Up → Bool
is_close UClose = true
is_close _ = false

-- a close is among the frames
abbrev pub has_close : List Up → Bool
has_close [] = false
has_close (UClose ∷ us) = true
has_close (_ ∷ us) = has_close us

-- what the broker does with a frame that it reads
abbrev pub read : Peer → Up → Peer
read Free UOpen = Asked
read Open UClose = Leaving
read Open UOther = Open
read Stopping UClose = StoppingOwes
read Stopping UCloseOk = Free
read Stopping UOpen = Stopping
read Stopping UOther = Stopping
read StoppingOwes UCloseOk = StoppingAnswered
read StoppingOwes UClose = StoppingOwes
read StoppingOwes UOpen = StoppingOwes
read StoppingOwes UOther = StoppingOwes
read StoppingAnswered _ = StoppingAnswered
read _ _ = Broken

-- the broker may send a frame of the kind in this state
abbrev pub may_send : Peer → Down → Bool
may_send Asked DOpenOk = true
may_send Asked DClose = true
may_send Open DClose = true
may_send Open DOther = true
may_send Leaving DOther = true
may_send Leaving DCloseOk = true
may_send StoppingOwes DCloseOk = true
may_send StoppingAnswered DCloseOk = true
may_send _ _ = false

-- the broker's state after a frame that it sent
abbrev pub sent : Peer → Down → Peer
sent Asked DOpenOk = Open
sent Asked DClose = Stopping
sent Open DClose = Stopping
sent Leaving DCloseOk = Free
sent StoppingOwes DCloseOk = Stopping
sent StoppingAnswered DCloseOk = Free
sent p _ = p

-- the session's state after a frame, and what it has unsent
abbrev pub state_after : Sess → List Up → Down → Sess
state_after Opening us DOpenOk = Opened
state_after Opening us DClose = Closed
state_after Opened us DOther = Opened
state_after Opened us DClose = Closed
state_after Closing us DOther = Closing
state_after Closing us DCloseOk = Closed
state_after Closing us DClose = if has_close us then Closed else Crossed
state_after Crossed us DCloseOk = Closed
state_after _ _ _ = Refused

-- what a frame leaves unsent: the broker's close drops all for a close-ok, which goes behind the rest where the own close
-- has left; close-ok for the own close drops all
abbrev pub unsent_after : Sess → List Up → Down → List Up
unsent_after Opening us DClose = UCloseOk ∷ []
unsent_after Opened us DClose = UCloseOk ∷ []
unsent_after Closing us DClose = if has_close us then UCloseOk ∷ [] else us ++ UCloseOk ∷ []
unsent_after Closing us DCloseOk = []
unsent_after _ us _ = us

-- what can happen: a call, a frame leaves (Next), the broker reads or sends a frame, and the session receives one (Deliver)
pub data Step : Type 0 where
  CallOpen CallClose CallOther Next Read Deliver : Step
  Send : (frame : Down) → Step

-- the call of open: a closed channel is opening, and open is queued; in any other state nothing happens
abbrev pub calls_open : World → Sess → World
calls_open w Closed = record w { sess = Opening; unsent = w.unsent ++ UOpen ∷ [] }
calls_open w _ = w

-- the call of close: an open channel is closing, and close is queued; in any other state nothing happens
abbrev pub calls_close : World → Sess → World
calls_close w Opened = record w { sess = Closing; unsent = w.unsent ++ UClose ∷ [] }
calls_close w _ = w

-- any other call: on an open channel its frame is queued; in any other state nothing happens
abbrev pub calls_other : World → Sess → World
calls_other w Opened = record w { unsent = w.unsent ++ UOther ∷ [] }
calls_other w _ = w

-- the oldest unsent frame, where there is one, leaves to the back of the link up
abbrev pub hands_out : World → List Up → World
hands_out w [] = w
hands_out w (u ∷ us) = record w { unsent = us; up = w.up ++ u ∷ [] }

-- the broker reads the front of the link up, where there is one
abbrev pub reads_one : World → List Up → World
reads_one w [] = w
reads_one w (u ∷ us) = record w { up = us; peer = read w.peer u }

-- the session receives the front of the link down, where there is one
abbrev pub delivers : World → List Down → World
delivers w [] = w
delivers w (d ∷ ds) = record w { sess = state_after w.sess w.unsent d; unsent = unsent_after w.sess w.unsent d; down = ds }

-- the world after a step; a frame that the broker may not send is not sent
abbrev pub happens : World → Step → World
happens w CallOpen = calls_open w w.sess
happens w CallClose = calls_close w w.sess
happens w CallOther = calls_other w w.sess
happens w Next = hands_out w w.unsent
happens w Read = reads_one w w.up
happens w (Send d) = if may_send w.peer d then record w { peer = sent w.peer d; down = w.down ++ d ∷ [] } else w
happens w Deliver = delivers w w.down

-- the world after the steps, the first one first
abbrev pub run : List Step → World → World
run [] w = w
run (s ∷ ss) w = run ss (happens w s)

-- the world at the start: the channel is closed, the broker has it free, and nothing is under way
abbrev pub start : World
start = record { sess = Closed; unsent = []; up = []; peer = Free; down = [] }

-- the session has refused a frame
abbrev pub is_refused : Sess → Bool
is_refused Refused = true
is_refused _ = false

-- the broker has read a frame that it doesn't allow
abbrev pub is_broken : Peer → Bool
is_broken Broken = true
is_broken _ = false
