-- A frame that was given back: what a frame request gives and leaves where there is one and where there is none, and that no event
-- gives one back.
use Rattle.std.proofs.Common.{◌≡◌, ℕ, Bool, true, false, cond, Option, Some, None, refl, ◌∙◌, ap}
use Rattle.lapin_types.specs.declared.event.Event.{Event}
use Rattle.lapin_types.specs.declared.event.Event.TheVariants as event
use Rattle.lapin_types.specs.declared.leaving.Left.{Left}
use Rattle.lapin_types.specs.declared.record.Record.{Record}
use Rattle.lapin_types.specs.declared.record.Record.TheVariants as record_
use Rattle.lapin_types.specs.Types.{Error}
use Rattle.lapin_types.specs.Types.error
use Rattle.lapin_rules.specs.declared.broker_frames.Incoming.{Incoming}
use Rattle.lapin_rules.specs.declared.broker_frames.Incoming.TheVariants as incoming
use Rattle.lapin_rules.specs.declared.calls.Asked.{Asked}
use Rattle.lapin_rules.specs.declared.calls.Asked.TheVariants as ask
use Rattle.lapin_rules.specs.declared.phases.ConnectionPhase.{ConnectionPhase}
use Rattle.lapin_rules.specs.declared.phases.ConnectionPhase.TheVariants as link
use Rattle.lapin_rules.specs.declared.phases.CloseStage.TheVariants as stage
use Rattle.lapin_rules.specs.Incoming.{incoming_of}
use Rattle.lapin_rules.specs.Phases.{is_lost}
use Rattle.lapin_rules.specs.Leaving.{handed_of, left_lists}
use Rattle.lapin_rules.specs.Wire.{Wire, state_of, phase_of}
use Rattle.lapin_rules.specs.Asking.{asked_by, is_allowed}
use Rattle.lapin_rules.specs.Handing.{frame_record}
use Rattle.lapin_rules.specs.ChannelClose.{close_ok_end}
use Rattle.lapin_rules.specs.ConnectionClose.{has_sent}
use Rattle.lapin_outbox.specs.Outgoing.{OutboxState, with_lists}
use Rattle.lapin_outbox.specs.Returned.{is_retried, given, popped, after_pop}
use Rattle.lapin_outbox.specs.Returned as outbox
use Rattle.lapin_machine.specs.Returned.{given_back, after_asked, unless_crossed, unless_closing, after_received, after_refused, after_incoming, after_event}
use Rattle.lapin_machine.specs.World.{World, told_anew, told_or, told_by, next_anew, next_or, next, with_returned}

-- ---- what a frame request gives and leaves

none_is : (r : Option Left) → is_retried r ≡ false → r ≡ None
none_is None h = refl
none_is (Some l) h = cc

pub popped_anew : (t : ℕ → Bool) (o : OutboxState) → is_retried o.returned ≡ false → popped t o ≡ handed_of t o.lists.rest o.lists.methods o.lists.publishes
popped_anew t o h = ap (λ r. given r (handed_of t o.lists.rest o.lists.methods o.lists.publishes)) (none_is o.returned h)

pub popped_left : (t : ℕ → Bool) (o : OutboxState) → is_retried o.returned ≡ false → after_pop t o ≡ with_lists (left_lists o.frame_max t o.lists) o
popped_left t o h = left o.returned (none_is o.returned h)
  where
    left : (r : Option Left) → r ≡ None → outbox.with_returned None (with_lists (outbox.popped_lists r (left_lists o.frame_max t o.lists) o.lists) o) ≡ outbox.with_returned r (with_lists (left_lists o.frame_max t o.lists) o)
    left None e = refl
    left (Some l) e = cc

-- one that was given back is given whatever else waits, and nothing else changes
pub given_any : (r : Option Left) (x y : Option Left) → is_retried r ≡ true → given r x ≡ given r y
given_any None x y h = cc
given_any (Some l) x y h = refl

pub popped_again : (t : ℕ → Bool) (o : OutboxState) → is_retried o.returned ≡ true → after_pop t o ≡ outbox.with_returned None o
popped_again t o h = left o.returned h
  where
    left : (r : Option Left) → is_retried r ≡ true → outbox.with_returned None (with_lists (outbox.popped_lists r (left_lists o.frame_max t o.lists) o.lists) o) ≡ outbox.with_returned None o
    left None e = cc
    left (Some l) e = refl

-- the same in the words of a session
pub next_again : (r : Option Left) (new w : World) → is_retried r ≡ true → next_or r new w ≡ with_returned None w
next_again None new w h = cc
next_again (Some l) new w h = refl

pub next_over : (r : Option Left) (new w : World) → is_retried r ≡ false → next_or r new w ≡ new
next_over None new w h = refl
next_over (Some l) new w h = cc

pub record_given : (r x : Option Left) → frame_record (given r x) ≡ told_or r (frame_record x)
record_given None x = refl
record_given (Some l) x = refl

-- ---- no event gives a frame back

choose_none : (t : Bool) → ◌≡◌ {A = Option Left} (cond t None None) None
choose_none true = refl
choose_none false = refl

asked_none : (c : ℕ) (k : Asked) (b : Wire) → after_asked c k b None ≡ None
asked_none c ask.Open b = refl
asked_none c (ask.CloseChannel code text) b = refl
asked_none c (ask.CloseConnection code text) b = choose_none (is_allowed (ask.CloseConnection code text) (state_of c b))
asked_none c (ask.Method row) b = refl
asked_none c (ask.Consume m tag queue o) b = refl
asked_none c (ask.Limit limit) b = refl
asked_none c ask.Nothing b = refl
asked_none c (ask.Publish exchange key o payload properties) b = refl

crossed_none : (c : ℕ) (e : Option Error) → unless_crossed c e None ≡ None
crossed_none c None = refl
crossed_none c (Some e) = refl

closing_none : (l : ConnectionPhase) → unless_closing l None ≡ None
closing_none (link.Closing stage.Queued) = refl
closing_none _ = refl

received_none : (i : Incoming) (b : Wire) → after_received i b None ≡ None
received_none (incoming.Reply c k a) b = refl
received_none (incoming.Settlement c s) b = refl
received_none (incoming.Content c p) b = refl
received_none (incoming.Consumer c p) b = refl
received_none (incoming.Flow c active) b = refl
received_none (incoming.ChannelClose c code) b = refl
received_none (incoming.ChannelCloseOk c) b = crossed_none c (close_ok_end (phase_of c b))
received_none (incoming.ConnectionClose code) b = closing_none b.link
received_none incoming.ConnectionCloseOk b = choose_none (has_sent b.link)
received_none incoming.Other b = refl

refused_none : (e : Error) → after_refused e None ≡ None
refused_none (error.UnexpectedFrame class number) = refl
refused_none error.NoMemory = refl
refused_none error.NumbersUsedUp = refl
refused_none (error.InvalidChannelState s) = refl
refused_none (error.ProtocolError code) = refl
refused_none error.ConnectionLost = refl
refused_none (error.PreconditionFailed tag current) = refl
refused_none error.AlreadyTaken = refl
refused_none error.UnknownTicket = refl
refused_none (error.ConfirmsOutstanding limit) = refl

incoming_none : (i : Incoming) (r : Record) (b : Wire) → after_incoming i r b None ≡ None
incoming_none i (record_.Refused e) b = refused_none e
incoming_none i record_.Received b = received_none i b
incoming_none i _ b = refl

event_none : (b : Wire) (e : Event) (r : Record) → after_event b e r None ≡ None
event_none b (event.Call c k) r = asked_none c (asked_by k r) b
event_none b (event.Next flow) r = refl
event_none b (event.Receive f) r = incoming_none (incoming_of f) r b
event_none b (event.PollTicket n) r = refl
event_none b (event.PollConfirm n) r = refl
event_none b (event.PollConsumer n) r = refl
event_none b (event.PollWait c) r = refl
event_none b (event.AsideTicket n) r = refl
event_none b (event.AsideConfirm n) r = refl
event_none b (event.Acker n k) r = refl
event_none b (event.Delegate n) r = refl
event_none b (event.DropConsumer n) r = refl
event_none b event.NextJob r = refl
event_none b (event.State c) r = refl
event_none b event.Lost r = choose_none (is_lost b.link)

pub given_none : (r : Option Left) (e : Event) → r ≡ None → given_back r e ≡ None
given_none r (event.Call c k) h = refl
given_none r (event.Next flow) h = h
given_none r (event.Receive f) h = refl
given_none r (event.PollTicket n) h = refl
given_none r (event.PollConfirm n) h = refl
given_none r (event.PollConsumer n) h = refl
given_none r (event.PollWait c) h = refl
given_none r (event.AsideTicket n) h = refl
given_none r (event.AsideConfirm n) h = refl
given_none r (event.Acker n k) h = refl
given_none r (event.Delegate n) h = refl
given_none r (event.DropConsumer n) h = refl
given_none r event.NextJob h = refl
given_none r (event.State c) h = refl
given_none r event.Lost h = refl

-- where none was given back, an event is a step of the history
pub told_step : (w : World) (e : Event) → given_back w.returned e ≡ None → told_by w e ≡ told_anew w e
told_step w e h = ap (λ r. told_or r (told_anew w e)) h

pub next_step : (w : World) (e : Event) → given_back w.returned e ≡ None → next w e ≡ next_anew w e
next_step w e h = ap (λ r. next_or r (next_anew w e) w) h

pub told_none : (w : World) (e : Event) → w.returned ≡ None → told_by w e ≡ told_anew w e
told_none w e h = told_step w e (given_none w.returned e h)

pub next_none : (w : World) (e : Event) → w.returned ≡ None → next w e ≡ next_anew w e
next_none w e h = next_step w e (given_none w.returned e h)

pub still_none : (w : World) (e : Event) → w.returned ≡ None → (next w e).returned ≡ None
still_none w e h =
    ap (λ (v : World). v.returned) (next_none w e h)
    ∙ ap (λ r. after_event w.wire e (told_anew w e) r) h
    ∙ event_none w.wire e (told_anew w e)

pub still_unretried : (w v : World) (e : Event) → v ≡ next w e → is_retried w.returned ≡ false → is_retried v.returned ≡ false
still_unretried w v e is h = ap (λ (x : World). is_retried x.returned) is ∙ ap is_retried (still_none w e (none_is w.returned h))

-- a fact of what an event leaves that a frame that is handed out once more does not change
pub next_keeps : (P : World → Type 0) (w : World) (e : Event) → P (next_anew w e) → P (with_returned None w) → P (next w e)
next_keeps P w e new old = elim (given_back w.returned e) as (λ r. P (next_or r (next_anew w e) w)) [ None ↦ new | Some l ↦ old ]
