-- A connection from its first octet (AMQP 0-9-1, section 2.2.4): its opening, as `lapin_handshake` answers it, and behind it the run of a client.
--
-- Octets of the broker come in pieces, cut anywhere. While the connection isn't open, the frame at the head of those that came is answered once it
-- stands there whole, and passed. Where it is open, a client is made that takes the greatest frame on which both sides agreed, and what is left of
-- what came is the beginning of what it is handed.
use Rattle.std.specs.Prelude.{◌≡◌, ◌≤◌, ℕ, Bool, true, false, List, [], ◌∷◌, ◌++◌, drop, Ok, Some}
use Rattle.lapin_fields.specs.Around.{wanted_behind}
use Rattle.lapin_handshake.specs.declared.handshake.Handshake.{Handshake}
use Rattle.lapin_handshake.specs.declared.handshake.Limits.{Limits}
use Rattle.lapin_handshake.specs.declared.handshake.Reply.{Reply}
use Rattle.lapin_handshake.specs.declared.handshake.Stage.{Stage}
use Rattle.lapin_handshake.specs.declared.handshake.Stage.TheVariants as stage
use Rattle.lapin_handshake.specs.declared.mechanism.Mechanism.{Mechanism}
use Rattle.lapin_handshake.specs.declared.said.Said.{Said}
use Rattle.lapin_handshake.specs.declared.said.Said.TheVariants as said
use Rattle.lapin_handshake.specs.declared.shaking.Shaken.{Shaken}
use Rattle.lapin_handshake.specs.declared.shaking.Shaken.TheVariants as shaken
use Rattle.lapin_handshake.specs.Callers.{Who}
use Rattle.lapin_handshake.specs.Handshaking.{new_handshake, reply_to, after, agreed}
use Rattle.lapin_handshake.specs.Replies.{protocol_header, reply_bytes}
use Rattle.lapin_handshake.specs.Saying.{frame_said_at}
use Rattle.lapin_handshake.specs.Shaking.{IsShaken, locale_at}
use Rattle.lapin_client.specs.Receiving.{length_at}
use Rattle.lapin_clients.specs.Nets.{Act as Later, Comes as LaterComes, Sends, Strays, Net, IsNewNet, Leads, kept_by}
use Rattle.lapin_clients.specs.Pieces.{Of, octets_in}

-- ---- what happens in an opening

-- where it stands; the octets that came and weren't read; and all that this side said
pub record Door : Type 0 where
  pub handshake : Handshake
  pub came : List ℕ
  pub told : List ℕ

-- nothing came, and the protocol header was said
abbrev pub IsNewDoor : Mechanism → Limits → Door → Type 0
IsNewDoor wanted ours x = (x.handshake ≡ new_handshake wanted ours) × (x.came ≡ []) × (x.told ≡ protocol_header)

-- the connection is open
abbrev pub is_opened : Stage → Bool
is_opened stage.Opened = true
is_opened _ = false

-- one thing after another
pub data Act : Type 0 where
  -- octets of the broker come
  Comes : (octets : List ℕ) → Act
  -- `shake` is given those that came and weren't read
  Shakes : (answer : Shaken) → Act

-- what is left of octets: a frame that was answered is passed
abbrev pub left_by : Shaken → List ℕ → List ℕ
left_by shaken.Read bytes = drop (length_at bytes) bytes
left_by _ bytes = bytes

-- what one of them does, of a caller; `shake` isn't asked once the connection is open
abbrev pub Does : Who → Act → Door → Door → Type 0
Does who (Comes octets) x y = (y.handshake ≡ x.handshake) × (y.came ≡ x.came ++ octets) × (y.told ≡ x.told)
Does who (Shakes r) x y =
    (is_opened x.handshake.stage ≡ false) × IsShaken r x.came who x.handshake y.handshake x.told y.told × (y.came ≡ left_by r x.came)

-- these acts lead from one to the other
unfoldable pub Opens : Who → List Act → Door → Door → Type 0
Opens who [] x z = z ≡ x
Opens who (a ∷ more) x z = (y : Door) × (Does who a x y × Opens who more y z)

-- all the octets that came
abbrev pub handed : List Act → List ℕ
handed [] = []
handed (Comes octets ∷ more) = octets ++ handed more
handed (Shakes r ∷ more) = handed more

-- ---- what was read in it

-- At the head of octets stand frames that say these things, each whole, one behind the other, and behind them the rest.
abbrev pub AreSaid : List Said → List ℕ → List ℕ → Type 0
AreSaid [] bytes rest = rest ≡ bytes
AreSaid (s ∷ more) bytes rest = (wanted_behind bytes ≡ 0) × (frame_said_at bytes ≡ Some s) × AreSaid more (drop (length_at bytes) bytes) rest

-- Each of them was answered by the machine while the connection wasn't open, from one place of the opening to another: these octets are the
-- replies, one behind the other.
abbrev pub AreAnswered : Who → List Said → List ℕ → Handshake → Handshake → List ℕ → Type 0
AreAnswered who [] bytes h h' replies = (h' ≡ h) × (replies ≡ [])
AreAnswered who (s ∷ more) bytes h h' replies =
    (is_opened h.stage ≡ false) × ((r : Reply) × (later : List ℕ) × (reply_to h s ≡ Ok r) × (replies ≡ reply_bytes who (locale_at bytes) r ++ later) × AreAnswered who more (drop (length_at bytes) bytes) (after h s) h' later)

-- the last is open-ok, and none before it
abbrev pub ends_open : List Said → Bool
ends_open [] = false
ends_open (said.OpenOk ∷ []) = true
ends_open (said.OpenOk ∷ _ ∷ _) = false
ends_open (_ ∷ more) = ends_open more

-- what was said, but for heartbeats
abbrev pub spoken : List Said → List Said
spoken [] = []
spoken (said.Heartbeat ∷ more) = spoken more
spoken (s ∷ more) = s ∷ spoken more

-- challenges, then the broker's limits, then open-ok
abbrev pub IsTuned : Limits → List Said → Type 0
IsTuned theirs (said.Secure ∷ more) = IsTuned theirs more
IsTuned theirs (said.Tune channel_max frame_max heartbeat ∷ more) =
    (theirs ≡ record { channel_max = channel_max; frame_max = frame_max; heartbeat = heartbeat }) × (more ≡ said.OpenOk ∷ [])
IsTuned theirs _ = ⊥

-- a start of version 0-9, and those behind it
abbrev pub IsOpening : Limits → List Said → Type 0
IsOpening theirs (said.Start major minor offers ∷ more) = (major ≡ 0) × (minor ≡ 9) × IsTuned theirs more
IsOpening theirs _ = ⊥

-- ---- what is promised

-- A connection that is open. What came is frames that are an opening by the standard's grammar, each read whole as it stands, and what is left. What
-- this side said is the protocol header and the replies of the machine. The limits are those on which both sides agreed, and the greatest frame is
-- no smaller than a peer may ask for.
pub record IsOpened (who : Who) (wanted : Mechanism) (ours : Limits) (octets : List ℕ) (z : Door) : Type 0 where
  pub heard : List Said
  pub theirs : Limits
  pub replies : List ℕ
  pub read : AreSaid heard octets z.came
  pub opening : IsOpening theirs (spoken heard)
  pub ends : ends_open heard ≡ true
  pub limits : z.handshake.limits ≡ agreed ours theirs
  pub large : 4096 ≤ z.handshake.limits.frame_max
  pub told : z.told ≡ protocol_header ++ replies
  pub answered : AreAnswered who heard octets (new_handshake wanted ours) z.handshake replies

-- Whatever the broker is.
abbrev pub OpeningsAreRead : Who → List Act → Type 0
OpeningsAreRead who acts = (wanted : Mechanism) (ours : Limits) (x z : Door) → IsNewDoor wanted ours x → Opens who acts x z → is_opened z.handshake.stage ≡ true →
    IsOpened who wanted ours (handed acts) z

-- all that a broker sent in a run
abbrev pub sent : List Later → List ℕ
sent [] = []
sent (Sends p ∷ more) = octets_in p ++ sent more
sent (Strays f ∷ more) = octets_in (Of f) ++ sent more
sent (_ ∷ more) = sent more

-- all that the client kept of what it was handed in a run
abbrev pub taken : List Later → List ℕ
taken [] = []
taken (LaterComes octets s ∷ more) = kept_by s octets ++ taken more
taken (_ ∷ more) = taken more

-- A broker says an opening and sends, behind it, what it sends in a run of a client that takes the agreed greatest frame: these octets come, cut
-- anywhere, `behind` those that came in the opening. Then the run begins where the opening ended: what was left of the opening, and what comes
-- behind it, is what the client takes in the run, and what is on its way still.
abbrev pub RunsFollow : Who → List Act → List Later → Type 0
RunsFollow who acts run = (wanted : Mechanism) (ours : Limits) (x z : Door) → IsNewDoor wanted ours x → Opens who acts x z → is_opened z.handshake.stage ≡ true →
    (first last : Net) → IsNewNet z.handshake.limits.frame_max first → Leads run first last →
    (opening : List Said) (octets behind : List ℕ) → AreSaid opening octets [] → ends_open opening ≡ true → handed acts ++ behind ≡ octets ++ sent run →
    z.came ++ behind ≡ taken run ++ last.down
