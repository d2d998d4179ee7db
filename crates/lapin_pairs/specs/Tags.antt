-- One channel with numbered publishes and settlements.
use Rattle.std.specs.Prelude.{ℕ, ◌==◌, Bool, true, false, ◌&&◌, ◌||◌, not, List, [], ◌∷◌, ◌++◌, length, if◌then◌else◌, Option, Some, None, nat_lt, nat_le}
use Rattle.std.specs.List.{list_any}
use Rattle.lapin_pairs.specs.Machine.{Sess, Closed, Opened, Peer, Free, Open, may_send}
use Rattle.lapin_pairs.specs.Channel.{Content, Idle, Settle, UpF, FOpen, FSelect, FPublish, FHeader, FBody, DownF, BSettle, kind_down, may_data, reading_in, World2, Step2, CallOpen2, CallSelect2, Read2, Deliver2, Begin2, Send2, opens2, tells2, begins2, reads2, delivers2, sends2, happens2, start2}

-- a settlement covers a tag
abbrev pub covers : ℕ → Settle → Bool
covers t s = if s.multiple then nat_le t s.tag else t == s.tag

-- the broker's count: what it is reading, whether it read a select, the publishes read whole since then, the settlements sent
pub record TagCount : Type 0 where
  pub current : ℕ
  pub chosen : Bool
  pub numbered : List ℕ
  pub log : List Settle

-- the count of a new opening: no select read, nothing numbered and nothing settled
abbrev pub new_tag_count : TagCount
new_tag_count = record { current = 0; chosen = false; numbered = []; log = [] }

-- a content that is whole takes the next number
abbrev pub counted : TagCount → Option Content → TagCount
counted b (Some Idle) = record b { numbered = if b.chosen then b.numbered ++ b.current ∷ [] else b.numbered }
counted b _ = b

-- the broker's count after a frame that it reads: open begins it anew, and a publish that is whole takes the next number
-- where a select was read
abbrev pub tag_count_next : Peer → Option Content → TagCount → UpF → TagCount
tag_count_next Free r b FOpen = new_tag_count
tag_count_next Open r b FSelect = record b { chosen = true }
tag_count_next Open r b (FPublish i) = record b { current = i }
tag_count_next Open r b (FHeader n) = counted b (reading_in Open r (FHeader n))
tag_count_next Open r b (FBody n) = counted b (reading_in Open r (FBody n))
tag_count_next _ r b _ = b

-- the settlement's tag is one of a numbered publish, and where it is a single one no settlement before covers that tag
abbrev pub may_tag : Settle → TagCount → Bool
may_tag s b = nat_lt 0 s.tag && nat_le s.tag (length b.numbered) && (s.multiple || not (list_any (covers s.tag) b.log))

-- the frame is no settlement, or one that the broker may send: it read a select, and the tag fits
abbrev pub may_settle : TagCount → DownF → Bool
may_settle b (BSettle s) = b.chosen && may_tag s b
may_settle b _ = true

-- the broker's count after a frame that it sent: a settlement is noted
abbrev pub logged : TagCount → DownF → TagCount
logged b (BSettle s) = record b { log = b.log ++ s ∷ [] }
logged b _ = b

-- the session, with the publishes that took tags and the settlements that came
pub record World3 : Type 0 where
  pub base : World2
  pub selected : Bool
  pub tagged : List ℕ
  pub received : List Settle
  pub refusals : Bool
  pub tag_count : TagCount

-- the settlements that came, with this frame where it is one
abbrev pub with_settle : List Settle → DownF → List Settle
with_settle rs (BSettle s) = rs ++ s ∷ []
with_settle rs _ = rs

-- a single settlement of a tag that isn't pending
abbrev pub is_odd : World3 → DownF → Bool
is_odd w (BSettle s) = not s.multiple && not (nat_lt 0 s.tag && nat_le s.tag (length w.tagged) && not (list_any (covers s.tag) w.received))
is_odd w _ = false

-- the call of open: a closed channel is opening, and its tags begin anew; in any other state nothing happens
abbrev pub opens3 : World3 → Sess → World3
opens3 w Closed = record w { base = opens2 w.base Closed; selected = false; tagged = []; received = [] }
opens3 w _ = w

-- the call of `confirm.select`: on an open channel it is queued and confirms are selected; in any other state nothing happens
abbrev pub selects3 : World3 → Sess → World3
selects3 w Opened = record w { base = tells2 w.base Opened FSelect; selected = true }
selects3 w _ = w

-- a publish begins where the channel is open and nothing is unsent, and takes a tag where confirms are selected
abbrev pub begins3 : World3 → Sess → List UpF → ℕ → List ℕ → World3
begins3 w Opened [] i ns = record w { base = begins2 w.base Opened [] i ns; tagged = if w.selected then w.tagged ++ i ∷ [] else w.tagged }
begins3 w _ _ i ns = w

-- the broker reads the front of the link up, where there is one, and counts
abbrev pub reads3 : World3 → List UpF → World3
reads3 w [] = w
reads3 w (u ∷ us) = record w { base = reads2 w.base (u ∷ us); tag_count = tag_count_next w.base.peer w.base.reading w.tag_count u }

-- the session receives the front of the link down, where there is one; a settlement is noted, and a refused one is marked
abbrev pub delivers3 : World3 → List DownF → World3
delivers3 w [] = w
delivers3 w (d ∷ ds) = record w { base = delivers2 w.base (d ∷ ds); received = with_settle w.received d; refusals = w.refusals || is_odd w d }

-- the broker sends the frame; a settlement is noted
abbrev pub sends3 : World3 → DownF → World3
sends3 w d = record w { base = sends2 w.base d; tag_count = logged w.tag_count d }

-- the world after a step; a frame that the broker may not send is not sent
abbrev pub happens3 : World3 → Step2 → World3
happens3 w CallOpen2 = opens3 w w.base.sess
happens3 w CallSelect2 = selects3 w w.base.sess
happens3 w (Begin2 i ns) = begins3 w w.base.sess w.base.unsent i ns
happens3 w Read2 = reads3 w w.base.up
happens3 w Deliver2 = delivers3 w w.base.down
happens3 w (Send2 d) = if may_send w.base.peer (kind_down d) && may_data w.base.peer w.base.kept d && may_settle w.tag_count d then sends3 w d else w
happens3 w s = record w { base = happens2 w.base s }

-- the world after the steps, the first one first
abbrev pub run3 : List Step2 → World3 → World3
run3 [] w = w
run3 (s ∷ ss) w = run3 ss (happens3 w s)

-- the world at the start: the channel is closed, nothing is kept or under way, nothing is selected or numbered
abbrev pub start3 : World3
start3 = record { base = start2; selected = false; tagged = []; received = []; refusals = false; tag_count = new_tag_count }

-- the first settlement that covers a tag
abbrev pub first_covering : ℕ → List Settle → Option Settle
first_covering t [] = None
first_covering t (s ∷ ss) = if covers t s then Some s else first_covering t ss
