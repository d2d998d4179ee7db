-- Every event of the client is a run of the pair of machines, and keeps what the session holds; and the greatest frame stays.
use Rattle.std.proofs.Common.{◌≡◌, ℕ, Bool, true, false, cond, not, ◌==◌, ◌&&◌, [], ◌∷◌, ◌++◌, refl, sym, ◌∙◌, ap, subst, Option, Some, None}
use Rattle.lapin_types.specs.declared.call.Call.{Call}
use Rattle.lapin_types.specs.declared.event.Event.{Event}
use Rattle.lapin_types.specs.declared.event.Event.TheVariants as event
use Rattle.lapin_types.specs.declared.acker_call.AckerCall.{AckerCall}
use Rattle.lapin_types.specs.declared.acker_call.AckerCall.TheVariants as acker_call
use Rattle.lapin_types.specs.declared.leaving.Left.{Left}
use Rattle.lapin_types.specs.declared.record.Record.{Record}
use Rattle.lapin_types.specs.declared.record.Record.TheVariants as record_
use Rattle.lapin_types.specs.declared.request.Request.{Request}
use Rattle.lapin_types.specs.declared.request.Reply.TheVariants as reply
use Rattle.lapin_types.specs.Types.{Error}
use Rattle.lapin_types.specs.Types.error
use Rattle.lapin_types.specs.Types.channel_state as state
use Rattle.lapin_consumer.specs.Subscriptions.{Consumer, consumer_at, is_idle}
use Rattle.lapin_rules.specs.declared.calls.Asked.{Asked}
use Rattle.lapin_rules.specs.declared.calls.Asked.TheVariants as ask
use Rattle.lapin_rules.specs.declared.phases.ChannelPhase.{ChannelPhase}
use Rattle.lapin_rules.specs.declared.phases.ChannelPhase.TheVariants as phase
use Rattle.lapin_rules.specs.declared.phases.ConnectionPhase.{ConnectionPhase}
use Rattle.lapin_rules.specs.declared.phases.ConnectionPhase.TheVariants as link
use Rattle.lapin_rules.specs.declared.phases.CloseStage.TheVariants as stage
use Rattle.lapin_rules.specs.declared.broker_frames.ContentPart.TheVariants as part
use Rattle.lapin_rules.specs.declared.broker_frames.ConsumerPart.TheVariants as consumer
use Rattle.lapin_rules.specs.declared.broker_frames.Incoming.{Incoming}
use Rattle.lapin_rules.specs.declared.broker_frames.Incoming.TheVariants as incoming
use Rattle.lapin_rules.specs.Phases.{is_up, is_lost, channel_state}
use Rattle.lapin_rules.specs.Wire.{Wire, phase_of, requests_of, state_of, is_open, with_deliveries}
use Rattle.lapin_rules.specs.Calls.{asked}
use Rattle.lapin_rules.specs.Asking.{is_outstanding, asked_by, is_allowed, after_call, asked_wire, after_asking}
use Rattle.lapin_rules.specs.Calls.{is_try}
use Rattle.lapin_rules.specs.Ackers.{acker_asked, usable_at, acked_wire, acker_deliveries, after_acker}
use Rattle.lapin_rules.specs.Consumers.{lets_go_of, let_go_cancel, cancel_noted, after_let_go, after_drop, drop_deliveries}
use Rattle.lapin_rules.specs.Handing.{handed_out, began_on}
use Rattle.lapin_rules.specs.Handing as handing
use Rattle.lapin_rules.specs.ChannelClose.{after_close_ok}
use Rattle.lapin_rules.specs.ConnectionClose.{after_connection_close}
use Rattle.lapin_rules.specs.Receiving.{after_received, after_failed, after_refused, incoming_wire}
use Rattle.lapin_rules.specs.Incoming.{incoming_of}
use Rattle.lapin_rules.specs.Events.{after_event}
use Rattle.lapin_concord.specs.Wires.{asked_in}
use Rattle.lapin_concord.specs.Held.{Held}
use Rattle.lapin_concord.proofs.Views.{Untold, requests_with_here, requests_away}
use Rattle.lapin_concord.proofs.Queues.{tells, asks, asked-push, Queues, QueuesOf, queues}
use Rattle.lapin_concord.proofs.Queueing.{Queued, queued_held, queued_follows}
use Rattle.lapin_concord.proofs.Calling.{told_of, opened_here, Goes, goes_none, goes_deliveries, asked_goes, call_goes}
use Rattle.lapin_tables.proofs.Bools.{and_second}

-- ---- calls

pub asked_queues : (c : ℕ) (k : Call) (r : Record) → QueuesOf c (asked_by k r)
asked_queues c k r = elim (is_try k && is_outstanding r) as (λ t. QueuesOf c (cond t ask.Nothing (asked k))) [ true ↦ tt | false ↦ queues c k ]

pub call_event : (c : ℕ) (k : Call) (r : Record) (b : Wire) → Held b → Goes (told_of c (asked_by k r) (asked_queues c k r) b) b (after_asking c (asked_by k r) b)
call_event c k r b h = call_goes c (asked_by k r) b (asked_queues c k r) h

-- ---- an acker's call

abbrev pub acker_queues : (c : ℕ) (k : AckerCall) (tag : ℕ) → QueuesOf c (acker_asked k tag)
acker_queues c (acker_call.Ack o) tag = tells c _ refl (λ most. tt)
acker_queues c (acker_call.Nack o) tag = tells c _ refl (λ most. tt)
acker_queues c (acker_call.Reject o) tag = tells c _ refl (λ most. tt)

quiet_either : (t : Bool) → cond t Untold Untold ≡ Untold
quiet_either true = refl
quiet_either false = refl

acker_quiet : (c : ℕ) (k : AckerCall) (tag : ℕ) (b : Wire) → told_of c (acker_asked k tag) (acker_queues c k tag) b ≡ Untold
acker_quiet c (acker_call.Ack o) tag b = quiet_either (is_open (state_of c b))
acker_quiet c (acker_call.Nack o) tag b = quiet_either (is_open (state_of c b))
acker_quiet c (acker_call.Reject o) tag b = quiet_either (is_open (state_of c b))

acker_goes : (o : Option (ℕ × ℕ)) (k : AckerCall) (b : Wire) → Held b → Goes Untold b (acked_wire o k b)
acker_goes None k b h = goes_none b h
acker_goes (Some x) k b h = subst (λ t. Goes t b (acked_wire (Some x) k b)) (acker_quiet x.0 k x.1 b) (asked_goes x.0 (acker_asked k x.1) b (acker_queues x.0 k x.1) h)

pub acker_event : (n : ℕ) (k : AckerCall) (b : Wire) → Held b → Goes Untold b (after_acker n k b)
acker_event n k b h = goes_deliveries Untold (acker_deliveries n k b) b (acked_wire (usable_at n b) k b) (acker_goes (usable_at n b) k b h)

-- ---- a consumer is let go

up_of : (l : ConnectionPhase) (s : _) → is_open (cond (is_up l) s state.Down) ≡ true → l ≡ link.Open
up_of link.Open s h = refl
up_of (link.Closing x) s h = cc
up_of link.Closed s h = cc
up_of link.Lost s h = cc

cancel_goes : (x : Consumer) (b : Wire) → is_open (state_of x.channel b) ≡ true → Held b → Goes Untold b (cancel_noted x b)
cancel_goes x b o h =
    let c : ℕ = x.channel in
    let e : b.link ≡ link.Open = up_of b.link (cond (c == 0) state.Base (channel_state (phase_of c b))) o in
    let k : is_open (cond (c == 0) state.Base (channel_state (phase_of c b))) ≡ true = sym (ap (λ l. is_open (cond (is_up l) (cond (c == 0) state.Base (channel_state (phase_of c b))) state.Down)) e) ∙ o in
    let p = (opened_here (c == 0) (phase_of c b) k).1 in
    let t : Request = record { ticket = None; reply = reply.BasicCancelOk } in
    let q : Queues c (let_go_cancel x) (Some reply.BasicCancelOk) = asks c (let_go_cancel x) reply.BasicCancelOk refl refl (λ most. tt) in
    let y : Queued c (let_go_cancel x) (Some reply.BasicCancelOk) b (cancel_noted x b) = record {
      link_ = refl;
      phases = refl;
      rest = refl;
      ticket = None;
      methods = refl;
      publishes = refl;
      contents = refl;
      here = ap asked_in (requests_with_here c (requests_of c b ++ t ∷ []) b.requests) ∙ asked-push (requests_of c b) t refl;
      away = λ e n. requests_away c e (requests_of c b ++ t ∷ []) b.requests n;
      most = refl;
    } in
    record { held = queued_held c (let_go_cancel x) (Some reply.BasicCancelOk) b (cancel_noted x b) q y e p h; follows = λ br us ds. queued_follows c (let_go_cancel x) (Some reply.BasicCancelOk) b (cancel_noted x b) q y br us ds e p }

let_go_goes : (o : Option Consumer) (b : Wire) → Held b → Goes Untold b (after_let_go o b)
let_go_goes None b h = goes_none b h
let_go_goes (Some x) b h = by_state (lets_go_of x b) refl
  where
    by_state : (t : Bool) → lets_go_of x b ≡ t → Goes Untold b (cond (lets_go_of x b) (cancel_noted x b) b)
    by_state true e = subst (λ d. Goes Untold b d) (sym (ap (λ t. cond t (cancel_noted x b) b) e)) (cancel_goes x b (and_second (is_idle x) (is_open (state_of x.channel b)) e) h)
    by_state false e = subst (λ d. Goes Untold b d) (sym (ap (λ t. cond t (cancel_noted x b) b) e)) (goes_none b h)

pub drop_event : (n : ℕ) (b : Wire) → Held b → Goes Untold b (with_deliveries (drop_deliveries n b) (after_drop n b))
drop_event n b h = goes_deliveries Untold (drop_deliveries n b) b (after_drop n b) (let_go_goes (consumer_at n b.deliveries.subscriptions) b h)

-- ---- the greatest frame

max_cond : (t : Bool) (x y : Wire) (n : ℕ) → x.frame_max ≡ n → y.frame_max ≡ n → (cond t x y).frame_max ≡ n
max_cond true x y n a b = a
max_cond false x y n a b = b

max_call : (c : ℕ) (k : Asked) (b : Wire) → (after_call c k b).frame_max ≡ b.frame_max
max_call c ask.Open b = refl
max_call c (ask.CloseChannel code text) b = refl
max_call c (ask.CloseConnection code text) b = refl
max_call c (ask.Method row) b = refl
max_call c (ask.Consume m tag queue o) b = refl
max_call c (ask.Publish exchange key o payload properties) b = refl
max_call c (ask.Limit limit) b = refl
max_call c ask.Nothing b = refl

max_asked : (c : ℕ) (k : Asked) (b : Wire) → (asked_wire c k b).frame_max ≡ b.frame_max
max_asked c k b = max_cond (is_allowed k (state_of c b)) (after_call c k b) b b.frame_max (max_call c k b) refl

max_acked : (o : Option (ℕ × ℕ)) (k : AckerCall) (b : Wire) → (acked_wire o k b).frame_max ≡ b.frame_max
max_acked None k b = refl
max_acked (Some x) k b = max_asked x.0 (acker_asked k x.1) b

max_let_go : (o : Option Consumer) (b : Wire) → (after_let_go o b).frame_max ≡ b.frame_max
max_let_go None b = refl
max_let_go (Some x) b = max_cond (lets_go_of x b) (cancel_noted x b) b b.frame_max refl refl

max_sent : (o : Option Left) (b : Wire) → (handing.sent o b).frame_max ≡ b.frame_max
max_sent None b = refl
max_sent (Some l) b = refl

max_close_ok : (c : ℕ) (p : ChannelPhase) (b : Wire) → (after_close_ok c p b).frame_max ≡ b.frame_max
max_close_ok c phase.Closed b = refl
max_close_ok c phase.Opening b = refl
max_close_ok c (phase.Open t) b = refl
max_close_ok c (phase.Closing who sent) b = refl
max_close_ok c phase.Crossed b = refl

max_close : (l : ConnectionPhase) (b : Wire) → (after_connection_close l b).frame_max ≡ b.frame_max
max_close (link.Closing stage.Queued) b = refl
max_close _ b = refl

max_received : (i : Incoming) (b : Wire) → (after_received i b).frame_max ≡ b.frame_max
max_received (incoming.Reply c k a) b = refl
max_received (incoming.Settlement c s) b = refl
max_received (incoming.Content c (part.GetOk s)) b = refl
max_received (incoming.Content c (part.Return s)) b = refl
max_received (incoming.Content c (part.Deliver tag s)) b = refl
max_received (incoming.Content c (part.Header q)) b = refl
max_received (incoming.Content c (part.Body bytes)) b = refl
max_received (incoming.Consumer c (consumer.ConsumeOk tag)) b = refl
max_received (incoming.Consumer c (consumer.CancelOk tag)) b = refl
max_received (incoming.Consumer c (consumer.Cancel tag nowait)) b = max_cond (is_open (state_of c b) && not nowait) _ b b.frame_max refl refl
max_received (incoming.Consumer c consumer.RecoverOk) b = refl
max_received (incoming.Flow c active) b = max_cond (is_open (state_of c b)) _ b b.frame_max refl refl
max_received (incoming.ChannelClose c code) b = refl
max_received (incoming.ChannelCloseOk c) b = max_close_ok c (phase_of c b) b
max_received (incoming.ConnectionClose code) b = max_close b.link b
max_received incoming.ConnectionCloseOk b = refl
max_received incoming.Other b = refl

max_failed : (i : Incoming) (b : Wire) → (after_failed i b).frame_max ≡ b.frame_max
max_failed (incoming.Settlement c s) b = max_cond (is_open (state_of c b)) _ b b.frame_max refl refl
max_failed _ b = refl

max_refused : (i : Incoming) (x : Error) (b : Wire) → (after_refused i x b).frame_max ≡ b.frame_max
max_refused i (error.PreconditionFailed tag current) b = max_failed i b
max_refused i _ b = refl

max_incoming : (i : Incoming) (r : Record) (b : Wire) → (incoming_wire i r b).frame_max ≡ b.frame_max
max_incoming i (record_.Refused x) b = max_refused i x b
max_incoming i record_.Received b = max_received i b
max_incoming i _ b = refl

pub max_kept : (b : Wire) (e : Event) (r : Record) → (after_event b e r).frame_max ≡ b.frame_max
max_kept b (event.Call c k) r = max_asked c (asked_by k r) b
max_kept b (event.Next flow) r = max_sent (handing.handed_out (began_on r) b) _
max_kept b (event.Receive f) r = max_incoming (incoming_of f) r b
max_kept b (event.PollTicket n) r = refl
max_kept b (event.PollConfirm n) r = refl
max_kept b (event.PollConsumer n) r = refl
max_kept b (event.PollWait c) r = refl
max_kept b (event.AsideTicket n) r = refl
max_kept b (event.AsideConfirm n) r = refl
max_kept b (event.Acker n k) r = max_acked (usable_at n b) k b
max_kept b (event.Delegate n) r = refl
max_kept b (event.DropConsumer n) r = max_let_go (consumer_at n b.deliveries.subscriptions) b
max_kept b event.NextJob r = refl
max_kept b (event.State c) r = refl
max_kept b event.Lost r = max_cond (is_lost b.link) b _ b.frame_max refl refl
