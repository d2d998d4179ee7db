-- What a session keeps true of its states and lists, whatever comes, as far as the pair of machines asks for it.
use Rattle.std.specs.Prelude.{◌≡◌, ℕ, Bool, true, false, List, [], ◌∷◌, map}
use Rattle.lapin_tables.specs.ByChannel.{at_channel}
use Rattle.lapin_types.specs.declared.leaving.Publish.{Publish}
use Rattle.lapin_types.specs.declared.request.Request.{Request}
use Rattle.lapin_types.specs.declared.request.ReplyKind.TheVariants as reply_kind
use Rattle.lapin_types.specs.Types.frame
use Rattle.lapin_content.specs.Contents.{Expected}
use Rattle.lapin_content.specs.Channels.{expected_on}
use Rattle.lapin_rules.specs.declared.phases.ChannelPhase.{ChannelPhase}
use Rattle.lapin_rules.specs.declared.phases.ChannelPhase.TheVariants as phase
use Rattle.lapin_rules.specs.declared.phases.ConnectionPhase.{ConnectionPhase}
use Rattle.lapin_rules.specs.declared.phases.ConnectionPhase.TheVariants as link
use Rattle.lapin_rules.specs.declared.phases.CloseStage.TheVariants as stage
use Rattle.lapin_rules.specs.Words.{is_some}
use Rattle.lapin_rules.specs.Phases.{phase_in, is_up}
use Rattle.lapin_rules.specs.Requests.{first_request}
use Rattle.lapin_rules.specs.Frames.{MethodEntry, RestEntry}
use Rattle.lapin_rules.specs.Drops.{frame_channel}
use Rattle.lapin_rules.specs.Wire.{Wire, phase_of, requests_of}
use Rattle.lapin_broker.specs.Frames.{client_frame}
use Rattle.lapin_pairs.specs.Machine.{Up, UClose, has_close}
use Rattle.lapin_pairs.specs.Channel.{UpF, FHeader, FBody, kind_up}
use Rattle.lapin_pairs.specs.Every.{UpOn, OnU, CloseU, of_u}
use Rattle.lapin_pairs.specs.Asking.{U2, Plain, flats}
use Rattle.lapin_concord.specs.Frames.{up_frame, IsSent}
use Rattle.lapin_concord.specs.Wires.{asked_in, waits_as}

-- a close is the last, and there is no other
abbrev pub ends_close : List Up → Bool
ends_close [] = false
ends_close (UClose ∷ []) = true
ends_close (UClose ∷ u ∷ us) = false
ends_close (_ ∷ us) = ends_close us

-- the kinds of a channel's frames
abbrev pub way : List U2 → List Up
way us = map kind_up (flats us)

-- the marks of a channel's phase say where its close is: once it has left nothing waits, until then it is the last that waits
abbrev pub IsMarked : ChannelPhase → List U2 → Type 0
IsMarked (phase.Closing who true) us = us ≡ []
IsMarked (phase.Closing who false) us = ends_close (way us) ≡ true
IsMarked _ us = has_close (way us) ≡ false

-- the same of the connection
abbrev pub IsLinked : ConnectionPhase → List (UpOn U2) → Type 0
IsLinked (link.Closing stage.Queued) fs = fs ≡ CloseU ∷ []
IsLinked (link.Closing stage.Sent) fs = fs ≡ []
IsLinked link.Lost fs = fs ≡ []
IsLinked _ fs = Unit {0}

-- a header or a body
abbrev pub is_behind : UpF → Bool
is_behind (FHeader n) = true
is_behind (FBody n) = true
is_behind _ = false

-- the frames of the begun publish are pieces of a content on one channel
abbrev pub AreOn : ℕ → List RestEntry → Type 0
AreOn c [] = Unit {0}
AreOn c (f ∷ fs) = (frame_channel f.frame ≡ c) × ((u : UpF) × (up_frame f.frame ≡ OnU c (Plain u)) × (is_behind u ≡ true)) × AreOn c fs

-- the same of the channel of the first of them
abbrev pub IsWhole : List RestEntry → Type 0
IsWhole [] = Unit {0}
IsWhole (f ∷ fs) = AreOn (frame_channel f.frame) (f ∷ fs)

-- an open channel
abbrev pub is_open_phase : ChannelPhase → Bool
is_open_phase (phase.Open paused) = true
is_open_phase _ = false

-- publishes wait on open channels
abbrev pub AreOpen : List (ℕ × ChannelPhase) → List Publish → Type 0
AreOpen ps [] = Unit {0}
AreOpen ps (p ∷ qs) = (is_open_phase (phase_in (at_channel p.channel ps)) ≡ true) × AreOpen ps qs

-- the contents that are expected are of class 60, and there is one at most
abbrev pub IsOneContent : List Expected → Type 0
IsOneContent [] = Unit {0}
IsOneContent (e ∷ []) = e.class_id ≡ 60
IsOneContent (e ∷ f ∷ es) = ⊥

-- one channel: an opening awaits open-ok; where closes crossed no request but that of the close is open, and no content is expected
pub record HeldAt (p : ChannelPhase) (rs : List Request) (es : List Expected) (us : List U2) : Type 0 where
  pub opening : p ≡ phase.Opening → is_some (first_request reply_kind.ChannelOpenOk rs) ≡ true
  pub crossed : p ≡ phase.Crossed → (asked_in rs ≡ []) × (es ≡ [])
  pub marks : IsMarked p us
  pub contents : IsOneContent es

-- an open connection: channel 0 is closed, each channel holds the above, publishes wait on open channels, and the begun publish is
-- on one channel
pub record HeldUp (b : Wire) : Type 0 where
  pub zero : phase_of 0 b ≡ phase.Closed
  pub each : (c : ℕ) → HeldAt (phase_of c b) (requests_of c b) (expected_on c b.contents) (of_u c (waits_as b))
  pub publishes : AreOpen b.phases b.publishes
  pub rest : IsWhole b.rest

-- what waits is what a client sends
abbrev pub AreRestSent : ℕ → List RestEntry → Type 0
AreRestSent most [] = Unit {0}
AreRestSent most (f ∷ fs) = IsSent most (client_frame f.frame) × AreRestSent most fs

-- the same of the methods that wait
abbrev pub AreMethodsSent : ℕ → List MethodEntry → Type 0
AreMethodsSent most [] = Unit {0}
AreMethodsSent most (m ∷ ms) = IsSent most (client_frame (frame.Method m.channel m.method)) × AreMethodsSent most ms

-- any session: the above while its connection is open, and no publish waits once it isn't
pub record Held (b : Wire) : Type 0 where
  pub up : b.link ≡ link.Open → HeldUp b
  pub shut : is_up b.link ≡ false → b.publishes ≡ []
  pub linked : IsLinked b.link (waits_as b)
  pub rest : AreRestSent b.frame_max b.rest
  pub methods : AreMethodsSent b.frame_max b.methods
