-- One channel with requests, contents, publishes and settlements. Phases are those of Machine, over kinds.
use Rattle.std.specs.Prelude.{ℕ, ◌+◌, ◌-◌, ◌==◌, Bool, true, false, ◌&&◌, List, [], ◌∷◌, ◌++◌, map, if◌then◌else◌, Option, Some, None, nat_lt, nat_le}
use Rattle.lapin_pairs.specs.Machine.{Up, UOpen, UClose, UCloseOk, UOther, Down, DOpenOk, DClose, DCloseOk, DOther, Sess, Closed, Opening, Opened, Closing, Peer, Free, Open, Leaving, World, has_close, read, may_send, sent, state_after}

-- what is left of a content that has begun
pub data Content : Type 0 where
  Idle Begun : Content
  Left : (bytes : ℕ) → Content

-- the broker's settlement of publishes: its tag, and whether it settles all tags up to that one
pub record Settle : Type 0 where
  pub tag : ℕ
  pub multiple : Bool

-- frames up: FTell asks for nothing, FSelect is a `confirm.select`, FAsk a request of a kind; the last three make a content
pub data UpF : Type 0 where
  FOpen FClose FCloseOk FTell FSelect : UpF
  FAsk : (kind : ℕ) → UpF
  FPublish : (id : ℕ) → UpF
  FHeader : (size : ℕ) → UpF
  FBody : (size : ℕ) → UpF

-- frames down: BTell answers nothing, BStart begins a content, BReply answers a request and may begin a content;
-- BHeader and BBody go on with it, BSettle settles publishes
pub data DownF : Type 0 where
  BOpenOk BClose BCloseOk BTell BStart : DownF
  BReply : (kind : ℕ) (starts : Bool) → DownF
  BHeader : (size : ℕ) → DownF
  BBody : (size : ℕ) → DownF
  BSettle : (settle : Settle) → DownF

-- the kind of a frame up
abbrev pub kind_up : UpF → Up
kind_up FOpen = UOpen
kind_up FClose = UClose
kind_up FCloseOk = UCloseOk
kind_up _ = UOther

-- the kind of a frame down
abbrev pub kind_down : DownF → Down
kind_down BOpenOk = DOpenOk
kind_down BClose = DClose
kind_down BCloseOk = DCloseOk
kind_down _ = DOther

-- the content after a header of that size, whole where the size is 0; None where no header is due
abbrev pub with_header : ℕ → Content → Option Content
with_header n Begun = Some (if n == 0 then Idle else Left n)
with_header n _ = None

-- the content after a body of that many bytes; None where no body is due, or it is empty or longer than what is left
abbrev pub with_body : ℕ → Content → Option Content
with_body n (Left m) = if nat_lt 0 n && nat_le n m then Some (if n == m then Idle else Left (m - n)) else None
with_body n _ = None

-- what both sides keep of an opening: open requests, and what is left of the content that the broker sends
pub record Data : Type 0 where
  pub asked_for : List ℕ
  pub content : Content

-- nothing kept: no open request and no content that has begun
abbrev pub none_kept : Data
none_kept = record { asked_for = []; content = Idle }

-- what is kept, with this content; None where the content was refused
abbrev pub with_content : Data → Option Content → Option Data
with_content x None = None
with_content x (Some c) = Some (record { asked_for = x.asked_for; content = c })

-- the list with the number in front; None where there is no list
abbrev pub put_back : ℕ → Option (List ℕ) → Option (List ℕ)
put_back x None = None
put_back x (Some ys) = Some (x ∷ ys)

-- takes the oldest request of the kind out
abbrev pub take_kind : ℕ → List ℕ → Option (List ℕ)
take_kind k [] = None
take_kind k (x ∷ xs) = if x == k then Some xs else put_back x (take_kind k xs)

-- a content begins; None where the one before isn't whole
abbrev pub begun : Content → Option Content
begun Idle = Some Begun
begun _ = None

-- what is kept after a reply that leaves these requests; None where none was open for it, or it begins a content within another
abbrev pub replied : Content → Bool → Option (List ℕ) → Option Data
replied c b None = None
replied c true (Some xs) = with_content (record { asked_for = xs; content = c }) (begun c)
replied c false (Some xs) = Some (record { asked_for = xs; content = c })

-- the session takes a frame; None is a refusal
abbrev pub takes : Data → DownF → Option Data
takes x BOpenOk = Some x
takes x BClose = Some none_kept
takes x BCloseOk = Some none_kept
takes x BTell = Some x
takes x (BSettle s) = Some x
takes x BStart = with_content x (begun x.content)
takes x (BReply k b) = replied x.content b (take_kind k x.asked_for)
takes x (BHeader n) = with_content x (with_header n x.content)
takes x (BBody n) = with_content x (with_body n x.content)

-- the session takes a frame, where it has refused none; a refusal stays
abbrev pub takes_in : Option Data → DownF → Option Data
takes_in None d = None
takes_in (Some x) d = takes x d

-- the broker's waiting requests and its content, after a frame that it reads
abbrev pub asked : Peer → Data → UpF → Data
asked Open x (FAsk k) = record { asked_for = x.asked_for ++ k ∷ []; content = x.content }
asked _ x _ = x

-- the content that the broker reads; None breaks it
abbrev pub reading_next : Content → UpF → Option Content
reading_next Idle (FPublish i) = Some Begun
reading_next Idle (FHeader n) = None
reading_next Idle (FBody n) = None
reading_next Idle _ = Some Idle
reading_next c (FHeader n) = with_header n c
reading_next c (FBody n) = with_body n c
reading_next c _ = None

-- the content that the broker reads, after a frame that it reads in this state; where it isn't open it has none
abbrev pub reading_in : Peer → Option Content → UpF → Option Content
reading_in Open (Some c) u = reading_next c u
reading_in Open None u = None
reading_in _ r u = Some Idle

-- no content has begun that isn't whole
abbrev pub is_idle : Content → Bool
is_idle Idle = true
is_idle _ = false

-- the oldest open request is of the kind
abbrev pub starts_with : ℕ → List ℕ → Bool
starts_with k [] = false
starts_with k (x ∷ xs) = x == k

-- no request is open
abbrev pub is_empty : List ℕ → Bool
is_empty [] = true
is_empty _ = false

-- a header is due
abbrev pub may_header : Content → Bool
may_header Begun = true
may_header _ = false

-- a body of that many bytes is due: one byte or more, and no more than what is left
abbrev pub may_body : ℕ → Content → Bool
may_body n (Left m) = nat_lt 0 n && nat_le n m
may_body n _ = false

-- the broker may send the frame by what it keeps: no content is broken into, replies come in the order of the requests,
-- and close-ok for a close that it read comes after all replies
abbrev pub may_data : Peer → Data → DownF → Bool
may_data p x BTell = is_idle x.content
may_data p x (BSettle s) = is_idle x.content
may_data p x BStart = is_idle x.content
may_data p x (BReply k b) = is_idle x.content && starts_with k x.asked_for
may_data p x (BHeader n) = may_header x.content
may_data p x (BBody n) = may_body n x.content
may_data Leaving x BCloseOk = is_idle x.content && is_empty x.asked_for
may_data p x _ = true

-- the list without its first
abbrev pub tail : List ℕ → List ℕ
tail [] = []
tail (x ∷ xs) = xs

-- what is left of a content after its header of that size
abbrev pub after_header : ℕ → Content
after_header n = if n == 0 then Idle else Left n

-- what is left of a content after a body of that many bytes
abbrev pub after_body : ℕ → Content → Content
after_body n (Left m) = if n == m then Idle else Left (m - n)
after_body n c = c

-- what the broker keeps after a frame that it sent
abbrev pub gave : Data → DownF → Data
gave x BClose = none_kept
gave x BCloseOk = none_kept
gave x BStart = record { asked_for = x.asked_for; content = Begun }
gave x (BReply k b) = record { asked_for = tail x.asked_for; content = if b then Begun else x.content }
gave x (BHeader n) = record { asked_for = x.asked_for; content = after_header n }
gave x (BBody n) = record { asked_for = x.asked_for; content = after_body n x.content }
gave x _ = x

-- the session with what it keeps of the opening (None once it refused a frame), the broker with what it keeps and the content that
-- it reads (None once that is broken), and the two links; each list oldest first
pub record World2 : Type 0 where
  pub sess : Sess
  pub unsent : List UpF
  pub open_data : Option Data
  pub up : List UpF
  pub peer : Peer
  pub kept : Data
  pub reading : Option Content
  pub down : List DownF

-- what a frame leaves unsent: the broker's close drops all for a close-ok, which goes behind the rest where the own close
-- has left; close-ok for the own close drops all
abbrev pub left_after : Sess → List UpF → DownF → List UpF
left_after Opening us BClose = FCloseOk ∷ []
left_after Opened us BClose = FCloseOk ∷ []
left_after Closing us BClose = if has_close (map kind_up us) then FCloseOk ∷ [] else us ++ FCloseOk ∷ []
left_after Closing us BCloseOk = []
left_after _ us _ = us

-- what can happen: a call, a publish begins, a frame leaves (Next2), the broker reads or sends one, and the session receives one
pub data Step2 : Type 0 where
  CallOpen2 CallClose2 CallTell2 CallSelect2 Next2 Read2 Deliver2 : Step2
  CallAsk2 : (kind : ℕ) → Step2
  Begin2 : (id : ℕ) (bodies : List ℕ) → Step2
  Send2 : (frame : DownF) → Step2

-- the bytes in all of bodies that have one byte more than these numbers
abbrev pub sum_suc : List ℕ → ℕ
sum_suc [] = 0
sum_suc (n ∷ ns) = (n + 1) + sum_suc ns

-- the bodies, each of one byte more than its number
abbrev pub bodies_of : List ℕ → List UpF
bodies_of [] = []
bodies_of (n ∷ ns) = FBody (n + 1) ∷ bodies_of ns

-- bodies of one byte or more
abbrev pub publish_frames : ℕ → List ℕ → List UpF
publish_frames i ns = FPublish i ∷ FHeader (sum_suc ns) ∷ bodies_of ns

-- what the session keeps, with one more open request of the kind behind the others
abbrev pub asks : ℕ → Option Data → Option Data
asks k None = None
asks k (Some x) = Some (record { asked_for = x.asked_for ++ k ∷ []; content = x.content })

-- the call of open: a closed channel is opening, and open is queued; in any other state nothing happens
abbrev pub opens2 : World2 → Sess → World2
opens2 w Closed = record w { sess = Opening; unsent = w.unsent ++ FOpen ∷ [] }
opens2 w _ = w

-- the call of close: an open channel is closing, and close is queued; in any other state nothing happens
abbrev pub closes2 : World2 → Sess → World2
closes2 w Opened = record w { sess = Closing; unsent = w.unsent ++ FClose ∷ [] }
closes2 w _ = w

-- a call that asks for nothing: on an open channel its frame is queued; in any other state nothing happens
abbrev pub tells2 : World2 → Sess → UpF → World2
tells2 w Opened u = record w { unsent = w.unsent ++ u ∷ [] }
tells2 w _ u = w

-- a call that asks: on an open channel its frame is queued and its request is open; in any other state nothing happens
abbrev pub asks2 : World2 → Sess → ℕ → World2
asks2 w Opened k = record w { unsent = w.unsent ++ FAsk k ∷ []; open_data = asks k w.open_data }
asks2 w _ k = w

-- a publish begins where nothing else is unsent
abbrev pub begins2 : World2 → Sess → List UpF → ℕ → List ℕ → World2
begins2 w Opened [] i ns = record w { unsent = publish_frames i ns }
begins2 w _ _ i ns = w

-- the oldest unsent frame, where there is one, leaves to the back of the link up
abbrev pub hands2 : World2 → List UpF → World2
hands2 w [] = w
hands2 w (u ∷ us) = record w { unsent = us; up = w.up ++ u ∷ [] }

-- the broker reads the front of the link up, where there is one
abbrev pub reads2 : World2 → List UpF → World2
reads2 w [] = w
reads2 w (u ∷ us) = record w { up = us; peer = read w.peer (kind_up u); kept = asked w.peer w.kept u; reading = reading_in w.peer w.reading u }

-- the session receives the front of the link down, where there is one
abbrev pub delivers2 : World2 → List DownF → World2
delivers2 w [] = w
delivers2 w (d ∷ ds) = record w {
  sess = state_after w.sess (map kind_up w.unsent) (kind_down d);
  unsent = left_after w.sess w.unsent d;
  open_data = takes_in w.open_data d;
  down = ds;
}

-- a close drops the content that is being read
abbrev pub reading_after : DownF → Option Content → Option Content
reading_after BClose r = Some Idle
reading_after _ r = r

-- the broker sends the frame
abbrev pub sends2 : World2 → DownF → World2
sends2 w d = record w { peer = sent w.peer (kind_down d); kept = gave w.kept d; reading = reading_after d w.reading; down = w.down ++ d ∷ [] }

-- the world after a step; a frame that the broker may not send is not sent
abbrev pub happens2 : World2 → Step2 → World2
happens2 w CallOpen2 = opens2 w w.sess
happens2 w CallClose2 = closes2 w w.sess
happens2 w CallTell2 = tells2 w w.sess FTell
happens2 w CallSelect2 = tells2 w w.sess FSelect
happens2 w (CallAsk2 k) = asks2 w w.sess k
happens2 w (Begin2 i ns) = begins2 w w.sess w.unsent i ns
happens2 w Next2 = hands2 w w.unsent
happens2 w Read2 = reads2 w w.up
happens2 w (Send2 d) = if may_send w.peer (kind_down d) && may_data w.peer w.kept d then sends2 w d else w
happens2 w Deliver2 = delivers2 w w.down

-- the world after the steps, the first one first
abbrev pub run2 : List Step2 → World2 → World2
run2 [] w = w
run2 (s ∷ ss) w = run2 ss (happens2 w s)

-- the world at the start: the channel is closed, the broker has it free, and nothing is kept or under way
abbrev pub start2 : World2
start2 = record { sess = Closed; unsent = []; open_data = Some none_kept; up = []; peer = Free; kept = none_kept; reading = Some Idle; down = [] }

-- the phases alone, over kinds
abbrev pub erase : World2 → World
erase w = record { sess = w.sess; unsent = map kind_up w.unsent; up = map kind_up w.up; peer = w.peer; down = map kind_down w.down }

-- there is none
abbrev pub is_none : {A : Type 0} → Option A → Bool
is_none None = true
is_none (Some x) = false
