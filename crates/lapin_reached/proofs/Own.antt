-- Which marks of confirms only a call or a frame request makes; of these a publish that leaves is the only one by which more is pending.
use Rattle.std.proofs.Common.{◌≡◌, ℕ, Bool, true, false, cond, ◌||◌, List, [], ◌∷◌, Option, Some, None, refl}
use Rattle.std.specs.List.{list_any}
use Rattle.lapin_types.specs.declared.event.Event.{Event}
use Rattle.lapin_types.specs.declared.event.Event.TheVariants as event
use Rattle.lapin_types.specs.declared.record.Record.{Record}
use Rattle.lapin_types.specs.declared.record.Record.TheVariants as record_
use Rattle.lapin_types.specs.Types.{Error}
use Rattle.lapin_types.specs.Types.error
use Rattle.lapin_rules.specs.declared.calls.Asked.{Asked}
use Rattle.lapin_rules.specs.declared.calls.Asked.TheVariants as ask
use Rattle.lapin_rules.specs.declared.broker_frames.Incoming.{Incoming}
use Rattle.lapin_rules.specs.declared.broker_frames.Incoming.TheVariants as incoming
use Rattle.lapin_rules.specs.ConfirmMarks.{ConfirmMark}
use Rattle.lapin_rules.specs.ConfirmMarks as mark
use Rattle.lapin_rules.specs.Asking.{call_marks, asked_by, is_allowed}
use Rattle.lapin_rules.specs.ChannelClose.{close_ok_end, close_marks}
use Rattle.lapin_rules.specs.declared.phases.Closer.TheVariants as closer
use Rattle.lapin_rules.specs.Content.{whole_marks, whole_on, start_marks}
use Rattle.lapin_rules.specs.ConnectionClose.{failed_at_connection_close}
use Rattle.lapin_rules.specs.Ends.{ends, ends_all, end_with, live_channels}
use Rattle.lapin_rules.specs.Events.{confirm_marks}
use Rattle.lapin_rules.specs.Incoming.{incoming_of}
use Rattle.lapin_rules.specs.Polls.{is_confirmed, is_returned, is_aside}
use Rattle.lapin_rules.specs.Receiving.{received_marks, failed_marks, refused_marks, incoming_marks}
use Rattle.lapin_rules.specs.Select.{is_select}
use Rattle.lapin_rules.specs.Wire.{Wire, state_of, phase_of, is_open}
use Rattle.lapin_content.specs.declared.start.Whole.{Whole}
use Rattle.lapin_content.specs.declared.start.Start.{Start}
use Rattle.lapin_content.specs.declared.start.Start.TheVariants as start
use Rattle.lapin_effects.specs.Effects.{is_next}

-- the mark is of a publish whose method frame leaves
abbrev pub is_left : ConfirmMark → Bool
is_left (mark.Left d k) = true
is_left _ = false

-- the mark is of a call or of a frame that leaves
abbrev pub is_own : ConfirmMark → Bool
is_own (mark.Begun d) = true
is_own (mark.SelectCalled d) = true
is_own (mark.LimitSet d n) = true
is_own (mark.Added d) = true
is_own (mark.SelectLeft d) = true
is_own (mark.Left d k) = true
is_own _ = false

-- the event is a call
abbrev pub is_call : Event → Bool
is_call (event.Call c k) = true
is_call _ = false

abbrev pub None_own : List ConfirmMark → Type 0
None_own ms = list_any is_own ms ≡ false

pub any_parts : (a b : Bool) → ◌≡◌ {A = Bool} (a || b) false → (a ≡ false) × (b ≡ false)
any_parts true b h = absurd cc
any_parts false b h = (refl, h)

pub chosen : (p : ConfirmMark → Bool) (t : Bool) (ms : List ConfirmMark) → list_any p ms ≡ false → list_any p (cond t ms []) ≡ false
chosen p true ms h = h
chosen p false ms h = refl

pub ends_none : (e : Error) (cs : List ℕ) → None_own (ends e cs)
ends_none e [] = refl
ends_none e (c ∷ cs) = ends_none e cs

end_none : (c : ℕ) (o : Option Error) → None_own (end_with c o)
end_none c None = refl
end_none c (Some e) = refl

start_none : (c : ℕ) (s : Start) (w : Whole) → None_own (start_marks c s w)
start_none c (start.Return code text exchange key) w = refl
start_none c _ w = refl

whole_none : (c : ℕ) (o : Option Whole) → None_own (whole_marks c o)
whole_none c None = refl
whole_none c (Some w) = start_none c w.start w

received_none : (i : Incoming) (b : Wire) → None_own (received_marks i b)
received_none (incoming.Content c p) b = whole_none c (whole_on c p b)
received_none (incoming.ChannelCloseOk c) b = end_none c (close_ok_end (phase_of c b))
received_none (incoming.ConnectionClose code) b = ends_none _ (live_channels b.phases)
received_none _ b = refl

failed_none : (i : Incoming) (b : Wire) → None_own (failed_marks i b)
failed_none (incoming.Settlement c s) b = chosen is_own (is_open (state_of c b)) (close_marks c closer.Session) refl
failed_none _ b = refl

refused_none : (i : Incoming) (e : Error) (b : Wire) → None_own (refused_marks i e b)
refused_none i (error.UnexpectedFrame class number) b = ends_none _ (live_channels b.phases)
refused_none i (error.PreconditionFailed tag current) b = failed_none i b
refused_none i _ b = refl

incoming_none : (i : Incoming) (r : Record) (b : Wire) → None_own (incoming_marks i r b)
incoming_none i (record_.Refused e) b = refused_none i e b
incoming_none i record_.Received b = received_none i b
incoming_none i _ b = refl

-- no other event makes such a mark
pub other_none : (b : Wire) (e : Event) (r : Record) → is_next e ≡ false → is_call e ≡ false → None_own (confirm_marks b e r)
other_none b (event.Next flow) r h g = absurd cc
other_none b (event.Call c k) r h g = absurd cc
other_none b (event.Receive f) r h g = incoming_none (incoming_of f) r b
other_none b (event.PollConfirm n) r h g = chosen is_own (is_confirmed r) (mark.Taken n ∷ []) refl
other_none b (event.PollWait c) r h g = chosen is_own (is_returned r) (mark.Drained c ∷ []) refl
other_none b (event.AsideConfirm n) r h g = chosen is_own (is_aside r) (mark.SetAside n ∷ []) refl
other_none b event.Lost r h g = ends_none _ (live_channels b.phases)
other_none b _ r h g = refl

-- ---- a publish that leaves

unleft_one : (m : ConfirmMark) → is_own m ≡ false → is_left m ≡ false
unleft_one (mark.Left d k) h = absurd cc
unleft_one _ h = refl

pub unleft : (ms : List ConfirmMark) → None_own ms → list_any is_left ms ≡ false
unleft [] h = refl
unleft (m ∷ ms) h = let parts = any_parts (is_own m) (list_any is_own ms) h in rw (unleft_one m parts.0) (unleft ms parts.1)

call_unleft : (c : ℕ) (k : Asked) (b : Wire) → list_any is_left (call_marks c k b) ≡ false
call_unleft c (ask.CloseConnection code text) b = unleft (ends_all failed_at_connection_close b) (ends_none failed_at_connection_close (live_channels b.phases))
call_unleft c (ask.Method row) b = chosen is_left (is_select row.method) (mark.SelectCalled c ∷ []) refl
call_unleft c _ b = refl

-- no event but a frame request has a publish leave
pub event_unleft : (b : Wire) (e : Event) (r : Record) → is_next e ≡ false → (t : Bool) → is_call e ≡ t → list_any is_left (confirm_marks b e r) ≡ false
event_unleft b (event.Call c k) r h t is = chosen is_left (is_allowed (asked_by k r) (state_of c b)) (call_marks c (asked_by k r) b) (call_unleft c (asked_by k r) b)
event_unleft b e r h true is = by e is
  where
    by : (f : Event) → is_call f ≡ true → list_any is_left (confirm_marks b f r) ≡ false
    by (event.Call c k) g = chosen is_left (is_allowed (asked_by k r) (state_of c b)) (call_marks c (asked_by k r) b) (call_unleft c (asked_by k r) b)
    by _ g = absurd cc
event_unleft b e r h false is = unleft (confirm_marks b e r) (other_none b e r h is)
