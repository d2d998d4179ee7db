-- All channels of one connection, over any machine of one channel.
use Rattle.std.specs.Prelude.{ℕ, ◌==◌, Bool, true, false, ◌&&◌, List, [], ◌∷◌, ◌++◌, map, if◌then◌else◌, Option, Some, None}
use Rattle.lapin_pairs.specs.Machine.{Up, UClose, UCloseOk, UOther, Down, DClose, DCloseOk, DOther, Sess, Closed, Opening, Opened, Closing, Peer, Free, Open, World, has_close, read, may_send, sent, state_after}

-- the function with this at the channel
abbrev pub put : {A : Type 0} → ℕ → A → (ℕ → A) → ℕ → A
put c x f d = if c == d then x else f d

-- what a frame leaves unsent of its channel: nothing but these, or these behind the rest
pub data Left (U : Type 0) : Type 0 where
  Drop : (frames : List U) → Left U
  Push : (frames : List U) → Left U

-- a machine of one channel: the session's side, the broker's side, calls and frames
pub record Channel : Type 1 where
  pub S : Type 0
  pub B : Type 0
  pub K : Type 0
  pub U : Type 0
  pub D : Type 0
  -- a call, where it is allowed: the session's side after it, and what it queues; one that needs it only where nothing is unsent
  pub call : K → S → Option (S × List U)
  pub needs : K → Bool
  -- a frame of the broker comes
  pub take : S → List U → D → S
  pub left : S → List U → D → Left U
  -- the broker reads, may send and sends
  pub reads : B → U → B
  pub may : B → D → Bool
  pub gives : B → D → B
  pub begun : S
  pub made : B

-- ---- one channel

-- one channel: the session's side and its unsent frames, the link up, the broker's side and the link down; each list oldest first
pub record One (m : Channel) : Type 0 where
  pub sess : m.S
  pub unsent : List m.U
  pub up : List m.U
  pub broker : m.B
  pub down : List m.D

-- what can happen: a call, the broker sends a frame, a frame leaves (Next1), the broker reads one, and the session receives one
pub data Step1 (m : Channel) : Type 0 where
  Call1 : (call : m.K) → Step1 m
  Send1 : (frame : m.D) → Step1 m
  Next1 Read1 Deliver1 : Step1 m

-- the list is not empty
abbrev pub has_any : {A : Type 0} → List A → Bool
has_any [] = false
has_any (x ∷ xs) = true

-- a channel's unsent frames after that: none but the given ones, or those behind the rest
abbrev pub left_one : {U : Type 0} → Left U → List U → List U
left_one (Drop us) vs = us
left_one (Push us) vs = vs ++ us

module _ (m : Channel) where
  abbrev pub called1 : One m → Option (m.S × List m.U) → One m
  called1 w None = w
  called1 w (Some x) = record w { sess = x.0; unsent = w.unsent ++ x.1 }

  abbrev pub calls1 : One m → m.K → Bool → One m
  calls1 w k true = w
  calls1 w k false = called1 w (m.call k w.sess)

  abbrev pub hands1 : One m → List m.U → One m
  hands1 w [] = w
  hands1 w (u ∷ us) = record w { unsent = us; up = w.up ++ u ∷ [] }

  abbrev pub reads1 : One m → List m.U → One m
  reads1 w [] = w
  reads1 w (u ∷ us) = record w { up = us; broker = m.reads w.broker u }

  abbrev pub delivers1 : One m → List m.D → One m
  delivers1 w [] = w
  delivers1 w (d ∷ ds) = record w { sess = m.take w.sess w.unsent d; unsent = left_one (m.left w.sess w.unsent d) w.unsent; down = ds }

  abbrev pub happens1 : One m → Step1 m → One m
  happens1 w (Call1 k) = calls1 w k (m.needs k && has_any w.unsent)
  happens1 w (Send1 d) = if m.may w.broker d then record w { broker = m.gives w.broker d; down = w.down ++ d ∷ [] } else w
  happens1 w Next1 = hands1 w w.unsent
  happens1 w Read1 = reads1 w w.up
  happens1 w Deliver1 = delivers1 w w.down

  abbrev pub start1 : One m
  start1 = record { sess = m.begun; unsent = []; up = []; broker = m.made; down = [] }

-- ---- all channels

-- frames up of a connection: one on a channel, and the connection's own close and close-ok
pub data UpOn (U : Type 0) : Type 0 where
  OnU : (channel : ℕ) (frame : U) → UpOn U
  CloseU CloseOkU : UpOn U

-- frames down of a connection: one to a channel, and the connection's own close and close-ok
pub data DownOn (D : Type 0) : Type 0 where
  ToD : (channel : ℕ) (frame : D) → DownOn D
  CloseD CloseOkD : DownOn D

-- the kind of a frame up to the connection: one on a channel is none of its own
abbrev pub conn_u : {U : Type 0} → UpOn U → Up
conn_u (OnU c u) = UOther
conn_u CloseU = UClose
conn_u CloseOkU = UCloseOk

-- the kind of a frame down to the connection: one to a channel is none of its own
abbrev pub conn_d : {D : Type 0} → DownOn D → Down
conn_d (ToD c d) = DOther
conn_d CloseD = DClose
conn_d CloseOkD = DCloseOk

-- the frames of one channel, and those of the others
abbrev pub of_u : {U : Type 0} → ℕ → List (UpOn U) → List U
of_u c [] = []
of_u c (OnU d u ∷ fs) = if d == c then u ∷ of_u c fs else of_u c fs
of_u c (_ ∷ fs) = of_u c fs

-- the frames down to the channel
abbrev pub of_d : {D : Type 0} → ℕ → List (DownOn D) → List D
of_d c [] = []
of_d c (ToD d u ∷ fs) = if d == c then u ∷ of_d c fs else of_d c fs
of_d c (_ ∷ fs) = of_d c fs

-- the frames up that aren't on the channel: the other channels' and the connection's
abbrev pub off_u : {U : Type 0} → ℕ → List (UpOn U) → List (UpOn U)
off_u c [] = []
off_u c (OnU d u ∷ fs) = if d == c then off_u c fs else OnU d u ∷ off_u c fs
off_u c (f ∷ fs) = f ∷ off_u c fs

-- the frames, each on the channel
abbrev pub on_all : {U : Type 0} → ℕ → List U → List (UpOn U)
on_all c [] = []
on_all c (u ∷ us) = OnU c u ∷ on_all c us

-- the unsent frames of all channels after that: of this channel none but the given ones, or those behind the rest
abbrev pub left_all : {U : Type 0} → ℕ → Left U → List (UpOn U) → List (UpOn U)
left_all c (Drop us) fs = off_u c fs ++ on_all c us
left_all c (Push us) fs = fs ++ on_all c us

-- what a frame leaves unsent of a connection: the broker's close drops all for a close-ok, which goes behind the rest
-- where the own close has left; close-ok for the own close drops all
abbrev pub conn_left : {U D : Type 0} → Sess → List (UpOn U) → DownOn D → List (UpOn U)
conn_left Opening fs CloseD = CloseOkU ∷ []
conn_left Opened fs CloseD = CloseOkU ∷ []
conn_left Closing fs CloseD = if has_close (map conn_u fs) then CloseOkU ∷ [] else fs ++ CloseOkU ∷ []
conn_left Closing fs CloseOkD = []
conn_left _ fs d = fs

-- all channels: the connection's state and the session's side of each channel, the broker's state and its side of each, the unsent
-- frames and the two links that the channels share; each list oldest first
pub record All (m : Channel) : Type 0 where
  pub conn : Sess
  pub chans : ℕ → m.S
  pub unsent : List (UpOn m.U)
  pub up : List (UpOn m.U)
  pub broker : Peer
  pub sides : ℕ → m.B
  pub down : List (DownOn m.D)

-- what can happen: a call on a channel, the broker sends a frame, the session closes the connection (HangUpA), a frame leaves (NextA),
-- the broker reads one, the session receives one, and the connection is lost
pub data StepA (m : Channel) : Type 0 where
  CallA : (channel : ℕ) (call : m.K) → StepA m
  SendA : (frame : DownOn m.D) → StepA m
  HangUpA NextA ReadA DeliverA LoseA : StepA m

module _ (m : Channel) where
  abbrev pub called_a : All m → ℕ → Option (m.S × List m.U) → All m
  called_a w c None = w
  called_a w c (Some x) = record w { chans = put c x.0 w.chans; unsent = w.unsent ++ on_all c x.1 }

  abbrev pub calls_a : All m → Sess → ℕ → m.K → Bool → All m
  calls_a w Opened c k false = called_a w c (m.call k (w.chans c))
  calls_a w _ c k b = w

  abbrev pub hangs_a : All m → Sess → All m
  hangs_a w Opened = record w { conn = Closing; chans = λ c. m.begun; unsent = CloseU ∷ [] }
  hangs_a w _ = w

  abbrev pub hands_a : All m → List (UpOn m.U) → All m
  hands_a w [] = w
  hands_a w (f ∷ fs) = record w { unsent = fs; up = w.up ++ f ∷ [] }

  abbrev pub sides_after : Peer → (ℕ → m.B) → UpOn m.U → ℕ → m.B
  sides_after Open ss (OnU c u) = put c (m.reads (ss c) u) ss
  sides_after _ ss f = ss

  abbrev pub reads_a : All m → List (UpOn m.U) → All m
  reads_a w [] = w
  reads_a w (f ∷ fs) = record w { up = fs; broker = read w.broker (conn_u f); sides = sides_after w.broker w.sides f }

  abbrev pub received_a : All m → Sess → DownOn m.D → List (DownOn m.D) → All m
  received_a w Opened (ToD c d) fs = record w { chans = put c (m.take (w.chans c) (of_u c w.unsent) d) w.chans; unsent = left_all c (m.left (w.chans c) (of_u c w.unsent) d) w.unsent; down = fs }
  received_a w Opened CloseD fs = record w { conn = Closed; chans = λ c. m.begun; unsent = CloseOkU ∷ []; down = fs }
  received_a w s f fs = record w { conn = state_after s (map conn_u w.unsent) (conn_d f); unsent = conn_left s w.unsent f; down = fs }

  abbrev pub delivers_a : All m → List (DownOn m.D) → All m
  delivers_a w [] = w
  delivers_a w (f ∷ fs) = received_a w w.conn f fs

  abbrev pub may_a : Peer → (ℕ → m.B) → DownOn m.D → Bool
  may_a Open ss (ToD c d) = m.may (ss c) d
  may_a Open ss CloseD = true
  may_a b ss CloseOkD = may_send b DCloseOk
  may_a _ ss f = false

  abbrev pub sides_sent : (ℕ → m.B) → DownOn m.D → ℕ → m.B
  sides_sent ss (ToD c d) = put c (m.gives (ss c) d) ss
  sides_sent ss _ = ss

  abbrev pub sends_a : All m → DownOn m.D → All m
  sends_a w f = record w { broker = sent w.broker (conn_d f); sides = sides_sent w.sides f; down = w.down ++ f ∷ [] }

  abbrev pub lost_a : All m → All m
  lost_a w = record w { conn = Closed; chans = λ c. m.begun; unsent = []; up = []; broker = Free; down = [] }

  abbrev pub happens_a : All m → StepA m → All m
  happens_a w (CallA c k) = calls_a w w.conn c k (m.needs k && has_any w.unsent)
  happens_a w (SendA f) = if may_a w.broker w.sides f then sends_a w f else w
  happens_a w HangUpA = hangs_a w w.conn
  happens_a w NextA = hands_a w w.unsent
  happens_a w ReadA = reads_a w w.up
  happens_a w DeliverA = delivers_a w w.down
  happens_a w LoseA = lost_a w

  abbrev pub run_a : List (StepA m) → All m → All m
  run_a [] w = w
  run_a (s ∷ ss) w = run_a ss (happens_a w s)

  abbrev pub start_a : All m
  start_a = record { conn = Opened; chans = λ c. m.begun; unsent = []; up = []; broker = Open; sides = λ c. m.made; down = [] }

  -- the connection's machine
  abbrev pub conn_a : All m → World
  conn_a w = record { sess = w.conn; unsent = map conn_u w.unsent; up = map conn_u w.up; peer = w.broker; down = map conn_d w.down }

  -- one channel's machine, with a broker's side and a link up of its own
  abbrev pub chan_a : ℕ → All m → m.B → List m.U → One m
  chan_a c w b us = record { sess = w.chans c; unsent = of_u c w.unsent; up = us; broker = b; down = of_d c w.down }
