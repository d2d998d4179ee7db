-- What each event leaves of a session, part by part: the values that code made are the rules' own.
use Rattle.std.proofs.Common.{◌≡◌, ℕ, ◌+◌, Bool, true, false, cond, List, [], ◌∷◌, ◌++◌, length, Option, Some, None, Ok, refl, sym, ◌∙◌, ap, length-append}
use Rattle.std.specs.List.{fold}
use Rattle.std.specs.Option.{option_map}
use Rattle.lapin_types.specs.declared.answer.Answer.TheVariants as answer
use Rattle.lapin_rules.specs.declared.calls.Row.{Row}
use Rattle.lapin_rules.specs.declared.calls.Asked.{Asked}
use Rattle.lapin_rules.specs.declared.calls.Asked.TheVariants as ask
use Rattle.lapin_types.specs.declared.event.Event.TheVariants as event
use Rattle.lapin_types.specs.declared.record.Record.TheVariants as record_
use Rattle.lapin_types.specs.declared.request.Request.{Request}
use Rattle.lapin_types.specs.declared.request.Reply.TheVariants as reply
use Rattle.lapin_types.specs.declared.request.ReplyKind.TheVariants as reply_kind
use Rattle.lapin_types.specs.declared.leaving.Left.{Left}
use Rattle.lapin_types.specs.Types.{Method, Error, BasicConsumeOptions}
use Rattle.lapin_types.specs.Types.error
use Rattle.lapin_types.specs.Types.method
use Rattle.lapin_types.specs.Types.connection
use Rattle.lapin_types.specs.Types.channel
use Rattle.lapin_tables.specs.ByChannel.{at_channel, on_channel}
use Rattle.lapin_tables.proofs.Channels.{at-on_same}
use Rattle.lapin_rules.specs.declared.marks.Settlement.{Settlement}
use Rattle.lapin_rules.specs.declared.phases.Closer.TheVariants as closer
use Rattle.lapin_rules.specs.declared.phases.ChannelPhase.{ChannelPhase}
use Rattle.lapin_rules.specs.declared.phases.ChannelPhase.TheVariants as phase
use Rattle.lapin_rules.specs.declared.phases.ConnectionPhase.{ConnectionPhase}
use Rattle.lapin_rules.specs.declared.phases.ConnectionPhase.TheVariants as link
use Rattle.lapin_rules.specs.declared.phases.CloseStage.TheVariants as stage
use Rattle.lapin_rules.specs.declared.broker_frames.Incoming.{Incoming}
use Rattle.lapin_rules.specs.declared.broker_frames.Incoming.TheVariants as incoming
use Rattle.lapin_rules.specs.Words.{with_channel}
use Rattle.lapin_rules.specs.Leaving.{Lists, handed_of, left_lists}
use Rattle.lapin_rules.specs.Frames.{MethodEntry}
use Rattle.lapin_rules.specs.Drops.{no_lists, without_publishes_of, without_channel}
use Rattle.lapin_rules.specs.Phases.{is_lost}
use Rattle.lapin_delivery.specs.Deliveries.{Deliveries}
use Rattle.lapin_delivery.specs.Deliveries as deliveries
use Rattle.lapin_delivery.specs.Marks as delivery_mark
use Rattle.lapin_rules.specs.ChannelClose.{after_broker_close, has_sent_close}
use Rattle.lapin_rules.specs.ChannelClose.{failed_at_close, close_ok_end}
use Rattle.lapin_rules.specs.ConnectionClose.{failed_at_connection_close}
use Rattle.lapin_rules.specs.Unexpected.{failed_at_unexpected, unexpected_close}
use Rattle.lapin_rules.specs.Settlement.{session_close}
use Rattle.lapin_rules.specs.Requests.{requests_in, first_request, without_kind, no_requests, close_alone, request_alone, ticket_of}
use Rattle.lapin_rules.specs.declared.marks.AtLeaving.TheVariants as leaving
use Rattle.lapin_rules.specs.TicketReadings.{TicketMark}
use Rattle.lapin_rules.specs.TicketReadings as ticket
use Rattle.lapin_rules.specs.Wire.{Wire, state_of, phase_of, is_open, is_base, requests_with, noted, with_deliveries, with_lists as base_with}
use Rattle.lapin_rules.specs.Asking.{is_allowed, after_call, call_deliveries}
use Rattle.lapin_rules.specs.Calls.{awaited_by, made_by, leaving_by}
use Rattle.lapin_rules.specs.Consumers.{next_consumer}
use Rattle.lapin_rules.specs.Registry.{line_deliveries}
use Rattle.lapin_rules.specs.ChannelClose.{closing, after_channel_close, after_close_ok, broker_close_deliveries, close_call_deliveries, close_ok_deliveries_in, consumers_end, kept_at, phases_sent}
use Rattle.lapin_rules.specs.Ends.{down}
use Rattle.lapin_rules.specs.Unexpected.{after_unexpected}
use Rattle.lapin_rules.specs.ConnectionClose.{after_connection_close, after_connection_close_ok, connection_close_deliveries, unless_sent, has_sent, link_sent}
use Rattle.lapin_rules.specs.Handing.{sent}
use Rattle.lapin_rules.specs.Ends.{ended as ended_base}
use Rattle.lapin_rules.specs.Select.{queued_marks}
use Rattle.lapin_rules.specs.Ends.{ends, deliveries_ends, live_channels, cancels_at, cancels_on, end_with, end_tickets}
use Rattle.lapin_rules.specs.Requests.{resolved_with}
use Rattle.lapin_rules.specs.Asking.{made_marks, call_marks, call_tickets}
use Rattle.lapin_rules.specs.ChannelClose.{kept_ticket, close_ticket}
use Rattle.lapin_rules.specs.ConnectionClose.{connection_close_tickets}
use Rattle.lapin_rules.specs.Handing.{left_tickets, left_marks}
use Rattle.lapin_outbox.specs.Outgoing.{OutboxState, with_method, with_lists}
use Rattle.lapin_outstanding.specs.Ended.{ended_outbox, emptied_outbox}
use Rattle.lapin_outbox.specs.Open.{requests_at}
use Rattle.lapin_ticket.specs.declared.Slot.{Slot}
use Rattle.lapin_ticket.specs.declared.Slot.TheVariants as slot
use Rattle.lapin_ticket.specs.Slots.{after_mark}
use Rattle.lapin_content.specs.Channels.{Channels}
use Rattle.lapin_content.specs.Channels as contents
use Rattle.lapin_content.specs.Marks as content
use Rattle.lapin_confirm.specs.ConfirmState.{ConfirmState}
use Rattle.lapin_confirm.specs.Machine as confirm_state
use Rattle.lapin_rules.specs.ConfirmMarks as mark
use Rattle.lapin_machine.specs.Kept.{kept_request, with_kept, is_close_sent}
use Rattle.lapin_machine.specs.World.{World, next, asking, handing, receiving}
use Rattle.lapin_machine.specs.Returned as back
use Rattle.lapin_machine.proofs.Counts.{resolved-count, made-count, marks-join, ended-count, ends-count, left_tickets-count, left_marks-count, closed_counted, rejected_counted, called-count}
use Rattle.lapin_machine.proofs.Cancelled.{opening_counted, all_failed_counted}
use Rattle.lapin_outstanding.proofs.Channels.{on_absent, on_same, on_twice}
use Rattle.lapin_machine.proofs.Seen.{base_is, world_is, seen}

-- ---- what an event leaves, once it is known how it is taken

call_next : (w : World) (c : ℕ) (k : Asked) → is_allowed k (state_of c w.wire) ≡ true
    → asking c k w ≡ record { wire = with_deliveries (call_deliveries c k w.wire) (after_call c k w.wire); confirm_state = fold confirm_state.after_mark w.confirm_state (call_marks c k w.wire); slots = fold after_mark w.slots (call_tickets c k w.wire); returned = back.after_asked c k w.wire w.returned }
call_next w c k h = rw h refl

-- the request of a close of this side is open again where the closes crossed
kept_is : (c : ℕ) (q : ChannelPhase) (rs : List (ℕ × List Request)) → with_kept c (kept_request (has_sent_close q) (requests_at c rs)) (on_channel c no_requests rs) ≡ on_channel c (kept_at q) rs
kept_is c phase.Closed rs = refl
kept_is c phase.Opening rs = refl
kept_is c (phase.Open paused) rs = refl
kept_is c (phase.Closing who false) rs = refl
kept_is c phase.Crossed rs = refl
kept_is c (phase.Closing who true) rs =
    elim (at_channel c rs) as (λ o. at_channel c rs ≡ o → with_kept c (first_request reply_kind.ChannelCloseOk (requests_in o)) (on_channel c no_requests rs) ≡ on_channel c close_alone rs) [
      | None ↦ λ e. on_absent c no_requests rs e ∙ sym (on_absent c close_alone rs e)
      | Some qs ↦ λ e. kept_some c qs rs e (first_request reply_kind.ChannelCloseOk qs) refl
    ] refl
  where
    kept_some : (c : ℕ) (qs : List Request) (rs : List (ℕ × List Request)) → at_channel c rs ≡ Some qs → (o : Option Request) → first_request reply_kind.ChannelCloseOk qs ≡ o → with_kept c o (on_channel c no_requests rs) ≡ on_channel c close_alone rs
    kept_some c qs rs e None is = on_same c no_requests close_alone qs rs e (ap request_alone (sym is))
    kept_some c qs rs e (Some r) is =
        let there : at_channel c (on_channel c no_requests rs) ≡ Some [] = at-on_same c no_requests rs ∙ ap (option_map no_requests) e in
        rw there (on_twice c no_requests (λ _. r ∷ []) rs ∙ on_same c (λ _. r ∷ []) close_alone qs rs e (ap request_alone (sym is)))

-- and its ticket is kept
kept_ticket_is : (c : ℕ) (q : ChannelPhase) (d : Wire) → ticket_of (kept_request (has_sent_close q) (requests_at c d.requests)) ≡ kept_ticket c q d
kept_ticket_is c q d = elim (has_sent_close q) as (λ t. ticket_of (cond t (first_request reply_kind.ChannelCloseOk (requests_at c d.requests)) None) ≡ cond t (close_ticket c d) None) [ true ↦ refl | false ↦ refl ]

closing_base : (c : ℕ) (q : ChannelPhase) (e : Error) (d : Wire) → close_ok_end q ≡ Some e → after_close_ok c q d ≡ ended_base c phase.Closed no_requests d
closing_base c (phase.Closing who sent) e d h = refl
closing_base c phase.Closed e d h = cc
closing_base c phase.Opening e d h = cc
closing_base c (phase.Open paused) e d h = cc
closing_base c phase.Crossed e d h = cc

closing_deliveries : (c : ℕ) (q : ChannelPhase) (e : Error) → close_ok_end q ≡ Some e → close_ok_deliveries_in c q ≡ delivery_mark.Ended c (consumers_end q) ∷ []
closing_deliveries c (phase.Closing who sent) e h = refl
closing_deliveries c phase.Closed e h = cc
closing_deliveries c phase.Opening e h = cc
closing_deliveries c (phase.Open paused) e h = cc
closing_deliveries c phase.Crossed e h = cc

crossed_deliveries : (c : ℕ) (q : ChannelPhase) → close_ok_end q ≡ None → close_ok_deliveries_in c q ≡ []
crossed_deliveries c (phase.Closing who sent) h = cc
crossed_deliveries c phase.Closed h = refl
crossed_deliveries c phase.Opening h = refl
crossed_deliveries c (phase.Open paused) h = refl
crossed_deliveries c phase.Crossed h = refl

crossed_base : (c : ℕ) (q : ChannelPhase) (d : Wire) → close_ok_end q ≡ None → after_close_ok c q d ≡ record d { phases = with_channel c phase.Closed d.phases; requests = on_channel c (without_kind reply_kind.ChannelCloseOk) d.requests }
crossed_base c (phase.Closing who sent) d h = cc
crossed_base c phase.Closed d h = refl
crossed_base c phase.Opening d h = refl
crossed_base c (phase.Open paused) d h = refl
crossed_base c phase.Crossed d h = refl

module _ (l : ConnectionPhase) (p : List (ℕ × ChannelPhase)) (o : OutboxState) (rs : List (ℕ × List Request)) (cs : Channels) (i : Deliveries) (s : List (Option Slot)) (b : ConfirmState) where
  abbrev pub old : World
  old = seen l p o rs cs i s b

  -- the fields of an outbox
  frame_max_is : {O : OutboxState} {q : OutboxState} → O ≡ q → O.frame_max ≡ q.frame_max
  frame_max_is e = ap (λ (y : OutboxState). y.frame_max) e

  rest_is : {O : OutboxState} {q : OutboxState} → O ≡ q → O.lists.rest ≡ q.lists.rest
  rest_is e = ap (λ (y : OutboxState). y.lists.rest) e

  methods_are : {O : OutboxState} {q : OutboxState} → O ≡ q → O.lists.methods ≡ q.lists.methods
  methods_are e = ap (λ (y : OutboxState). y.lists.methods) e

  publishes_are : {O : OutboxState} {q : OutboxState} → O ≡ q → O.lists.publishes ≡ q.lists.publishes
  publishes_are e = ap (λ (y : OutboxState). y.lists.publishes) e

  returned_is : {O : OutboxState} {q : OutboxState} → O ≡ q → O.returned ≡ q.returned
  returned_is e = ap (λ (y : OutboxState). y.returned) e

  pub lost_seen : (J : Deliveries) → is_lost l ≡ false → J ≡ fold deliveries.after_mark i (deliveries_ends error.ConnectionLost (live_channels p))
      → seen link.Lost [] (emptied_outbox o) [] [] J (fold after_mark s (cancels_on (live_channels p) rs ++ ticket.AllFailed error.ConnectionLost ∷ [])) (fold confirm_state.after_mark b (ends error.ConnectionLost (live_channels p))) ≡ next old event.Lost
  lost_seen J h eI =
      world_is _ _
      (base_is _ (with_deliveries (deliveries_ends error.ConnectionLost (live_channels p)) (down link.Lost old.wire)) refl refl refl refl refl refl refl refl
      (all_failed_counted (live_channels p) rs error.ConnectionLost s _ refl) (ends-count error.ConnectionLost (live_channels p) b) eI
      ∙ sym (rw h refl))
      refl (sym (rw h refl)) (sym (rw h refl))

  -- ---- closes of this side

  given-count : (c n : ℕ) (S T : List (Option Slot)) → T ≡ after_mark S (ticket.Given c leaving.Nothing) → length S ≡ n → length T ≡ n + 1
  given-count c n S T e h = ap length e ∙ length-append S (Some (slot.Open c leaving.Nothing false) ∷ []) ∙ ap (λ k. k + 1) h

  pub channel_close_seen : (c code : ℕ) (text : List ℕ) (P : List (ℕ × ChannelPhase)) (O : OutboxState) (R : List (ℕ × List Request)) (J : Deliveries) (S T : List (Option Slot)) (B : ConfirmState)
      → is_open (state_of c old.wire) ≡ true
      → P ≡ with_channel c (phase.Closing closer.Application false) p
      → S ≡ after_mark s (ticket.ClosedHere c (failed_at_close closer.Application))
      → O ≡ with_lists (with_method (record { channel = c; method = method.Channel (channel.Close code text 0 0); ticket = Some (length S + 1) }) (without_publishes_of c o.lists)) o
      → R ≡ requests_with c (length S + 1) (Some reply.ChannelCloseOk) rs
      → T ≡ after_mark S (ticket.Given c leaving.Nothing)
      → B ≡ confirm_state.after_mark b (mark.ClosedHere c (failed_at_close closer.Application))
      → J ≡ deliveries.after_mark i (delivery_mark.CloseAsked c)
      → seen l P O R cs J T B ≡ asking c (ask.CloseChannel code text) old
  channel_close_seen c code text P O R J S T B h eP eS eO eR eT eB eI =
      let count : length S ≡ length s = closed_counted c (failed_at_close closer.Application) s S eS in
      let entry : ℕ → MethodEntry = λ k. record { channel = c; method = method.Channel (channel.Close code text 0 0); ticket = Some (k + 1) } in
      world_is _ _
      (base_is _ (with_deliveries (close_call_deliveries c) (after_call c (ask.CloseChannel code text) old.wire)) (frame_max_is eO) refl eP
      (rest_is eO)
      (methods_are eO ∙ ap (λ k. o.lists.methods ++ entry k ∷ []) count)
      (publishes_are eO)
      (eR ∙ ap (λ k. requests_with c (k + 1) (Some reply.ChannelCloseOk) rs) count)
      refl
      (given-count c (length s) S T eT count)
      (rejected_counted c (failed_at_close closer.Application) b B eB)
      eI)
      eB
      (eT ∙ ap (λ y. after_mark y (ticket.Given c leaving.Nothing)) eS)
      (returned_is eO)
      ∙ sym (call_next old c (ask.CloseChannel code text) h)

  pub connection_close_seen : (c code : ℕ) (text : List ℕ) (l2 : ConnectionPhase) (P : List (ℕ × ChannelPhase)) (O : OutboxState) (R : List (ℕ × List Request)) (C : Channels) (J : Deliveries) (S T : List (Option Slot)) (B : ConfirmState)
      → is_base (state_of c old.wire) ≡ true
      → l2 ≡ link.Closing stage.Queued
      → P ≡ []
      → S ≡ fold after_mark s (cancels_on (live_channels p) rs ++ ticket.AllFailed failed_at_connection_close ∷ [])
      → O ≡ with_lists (with_method (record { channel = c; method = method.Connection (connection.Close code text 0 0); ticket = Some (length S + 1) }) no_lists) (emptied_outbox o)
      → R ≡ requests_with c (length S + 1) (Some reply.ConnectionCloseOk) []
      → C ≡ []
      → T ≡ after_mark S (ticket.Given c leaving.Nothing)
      → B ≡ fold confirm_state.after_mark b (ends failed_at_connection_close (live_channels p))
      → J ≡ fold deliveries.after_mark i (deliveries_ends failed_at_connection_close (live_channels p))
      → seen l2 P O R C J T B ≡ asking c (ask.CloseConnection code text) old
  connection_close_seen c code text l2 P O R C J S T B h el eP eS eO eR eC eT eB eI =
      let failed : List TicketMark = cancels_on (live_channels p) rs ++ ticket.AllFailed failed_at_connection_close ∷ [] in
      let count : length S ≡ length s = all_failed_counted (live_channels p) rs failed_at_connection_close s S eS in
      let entry : ℕ → MethodEntry = λ k. record { channel = c; method = method.Connection (connection.Close code text 0 0); ticket = Some (k + 1) } in
      world_is _ _
      (base_is _ (with_deliveries (deliveries_ends failed_at_connection_close (live_channels p)) (after_call c (ask.CloseConnection code text) old.wire)) (frame_max_is eO) el eP
      (rest_is eO)
      (methods_are eO ∙ ap (λ k. entry k ∷ []) count)
      (publishes_are eO)
      (eR ∙ ap (λ k. requests_with c (k + 1) (Some reply.ConnectionCloseOk) []) count)
      eC
      (given-count c (length s) S T eT count)
      (ap (λ (y : ConfirmState). length y.publish_states.cells) eB ∙ ends-count failed_at_connection_close (live_channels p) b)
      eI)
      eB
      (eT ∙ ap (λ y. after_mark y (ticket.Given c leaving.Nothing)) eS ∙ sym (marks-join failed (ticket.Given c leaving.Nothing ∷ []) s))
      (returned_is eO ∙ sym (rw h refl))
      ∙ sym (call_next old c (ask.CloseConnection code text) h)

  -- a call that is its line of the table
  pub row_seen : (c : ℕ) (row : Row) (O : OutboxState) (R : List (ℕ × List Request)) (J : Deliveries) (S : List (Option Slot)) (B : ConfirmState)
      → is_open (state_of c old.wire) ≡ true
      → O ≡ with_lists (with_method (record { channel = c; method = row.method; ticket = Some (length s + 1) }) o.lists) o
      → R ≡ requests_with c (length s + 1) (awaited_by row.answered) rs
      → S ≡ fold after_mark (after_mark s (ticket.Given c (leaving_by row.answered))) (made_marks (length s + 1) (made_by row.answered))
      → B ≡ fold confirm_state.after_mark b (queued_marks c row.method)
      → J ≡ fold deliveries.after_mark i (line_deliveries c row.method row.answered)
      → seen l p O R cs J S B ≡ asking c (ask.Method row) old
  row_seen c row O R J S B h eO eR eS eB eI =
      world_is _ _
      (base_is _ (with_deliveries (line_deliveries c row.method row.answered) (after_call c (ask.Method row) old.wire)) (frame_max_is eO) refl refl
      (rest_is eO) (methods_are eO) (publishes_are eO) eR refl
      (ap length eS ∙ made-count (length s + 1) (made_by row.answered) (after_mark s (ticket.Given c (leaving_by row.answered))) ∙ length-append s (Some (slot.Open c (leaving_by row.answered) false) ∷ []))
      (ap (λ (y : ConfirmState). length y.publish_states.cells) eB ∙ called-count c row.method b)
      eI)
      eB
      eS
      (returned_is eO)
      ∙ sym (call_next old c (ask.Method row) h)

  -- a consume without wait
  pub consume_seen : (c : ℕ) (m : Method) (tag queue : List ℕ) (q : BasicConsumeOptions) (O : OutboxState) (R : List (ℕ × List Request)) (J : Deliveries) (S : List (Option Slot))
      → is_open (state_of c old.wire) ≡ true
      → O ≡ with_lists (with_method (record { channel = c; method = m; ticket = Some (length s + 1) }) o.lists) o
      → R ≡ rs
      → S ≡ fold after_mark (after_mark s (ticket.Given c leaving.Nothing)) (made_marks (length s + 1) (Some (answer.Consumer (next_consumer i))))
      → J ≡ deliveries.after_mark i (delivery_mark.Consumed c tag queue)
      → seen l p O R cs J S b ≡ asking c (ask.Consume m tag queue q) old
  consume_seen c m tag queue q O R J S h eO eR eS eI =
      world_is _ _
      (base_is _ (with_deliveries (delivery_mark.Consumed c tag queue ∷ []) (after_call c (ask.Consume m tag queue q) old.wire)) (frame_max_is eO) refl refl
      (rest_is eO) (methods_are eO) (publishes_are eO) eR refl
      (ap length eS ∙ made-count (length s + 1) (Some (answer.Consumer (next_consumer i))) (after_mark s (ticket.Given c leaving.Nothing)) ∙ length-append s (Some (slot.Open c leaving.Nothing false) ∷ []))
      refl
      eI)
      refl
      eS
      (returned_is eO)
      ∙ sym (call_next old c (ask.Consume m tag queue q) h)

  -- ---- frames that are not received

  pub unexpected_seen : (f : Incoming) (class number : ℕ) (l2 : ConnectionPhase) (P : List (ℕ × ChannelPhase)) (O : OutboxState) (R : List (ℕ × List Request)) (C : Channels) (J : Deliveries) (S : List (Option Slot)) (B : ConfirmState)
      → l2 ≡ link.Closing stage.Queued
      → P ≡ []
      → O ≡ with_lists (with_method (record { channel = 0; method = unexpected_close class number; ticket = None }) no_lists) (emptied_outbox o)
      → R ≡ []
      → C ≡ []
      → S ≡ fold after_mark s (cancels_on (live_channels p) rs ++ ticket.AllFailed failed_at_unexpected ∷ [])
      → B ≡ fold confirm_state.after_mark b (ends failed_at_unexpected (live_channels p))
      → J ≡ fold deliveries.after_mark i (deliveries_ends failed_at_unexpected (live_channels p))
      → seen l2 P O R C J S B ≡ receiving f (record_.Refused (error.UnexpectedFrame class number)) old
  unexpected_seen f class number l2 P O R C J S B el eP eO eR eC eS eB eI =
      world_is _ _
      (base_is _ (with_deliveries (deliveries_ends failed_at_unexpected (live_channels p)) (after_unexpected class number old.wire)) (frame_max_is eO) el eP
      (rest_is eO) (methods_are eO) (publishes_are eO) eR eC
      (all_failed_counted (live_channels p) rs failed_at_unexpected s S eS)
      (ap (λ (y : ConfirmState). length y.publish_states.cells) eB ∙ ends-count failed_at_unexpected (live_channels p) b)
      eI)
      eB
      eS
      (returned_is eO)

  pub failed_seen : (c : ℕ) (z : Settlement) (tag current : ℕ) (P : List (ℕ × ChannelPhase)) (O : OutboxState) (S : List (Option Slot)) (B : ConfirmState)
      → is_open (state_of c old.wire) ≡ true
      → P ≡ with_channel c (phase.Closing closer.Session false) p
      → O ≡ with_lists (with_method (record { channel = c; method = session_close z.kind; ticket = None }) (without_publishes_of c o.lists)) o
      → S ≡ after_mark s (ticket.ClosedHere c (failed_at_close closer.Session))
      → B ≡ confirm_state.after_mark b (mark.ClosedHere c (failed_at_close closer.Session))
      → seen l P O rs cs i S B ≡ receiving (incoming.Settlement c z) (record_.Refused (error.PreconditionFailed tag current)) old
  failed_seen c z tag current P O S B h eP eO eS eB =
      let is : receiving (incoming.Settlement c z) (record_.Refused (error.PreconditionFailed tag current)) old
      ≡ record { wire = noted c (session_close z.kind) (closing c closer.Session old.wire); confirm_state = confirm_state.after_mark b (mark.ClosedHere c (failed_at_close closer.Session)); slots = after_mark s (ticket.ClosedHere c (failed_at_close closer.Session)); returned = o.returned } = rw h refl in
      world_is _ _
      (base_is _ (noted c (session_close z.kind) (closing c closer.Session old.wire)) (frame_max_is eO) refl eP
      (rest_is eO) (methods_are eO) (publishes_are eO) refl refl
      (closed_counted c (failed_at_close closer.Session) s S eS)
      (rejected_counted c (failed_at_close closer.Session) b B eB)
      refl)
      eB
      eS
      (returned_is eO)
      ∙ sym is

  pub failed_still : (c : ℕ) (z : Settlement) (tag current : ℕ) → is_open (state_of c old.wire) ≡ false → old ≡ receiving (incoming.Settlement c z) (record_.Refused (error.PreconditionFailed tag current)) old
  failed_still c z tag current h = rw h refl

  -- ---- closes of the broker

  pub channel_close_incoming : (c code : ℕ) (P : List (ℕ × ChannelPhase)) (O : OutboxState) (R : List (ℕ × List Request)) (C : Channels) (J : Deliveries) (S : List (Option Slot)) (B : ConfirmState)
      → P ≡ with_channel c (after_broker_close (phase_of c old.wire)) p
      → O ≡ with_lists (with_method (record { channel = c; method = method.Channel channel.CloseOk; ticket = None }) (without_channel c o.lists)) (ended_outbox c o)
      → R ≡ with_kept c (kept_request (has_sent_close (phase_of c old.wire)) (requests_at c rs)) (on_channel c no_requests rs)
      → C ≡ contents.after_mark cs (content.Dropped c)
      → S ≡ fold after_mark s (cancels_at c rs ++ ticket.OpeningFailed c (ticket_of (kept_request (has_sent_close (phase_of c old.wire)) (requests_at c rs))) (error.ProtocolError code) ∷ [])
      → B ≡ confirm_state.after_mark b (mark.Ended c (error.ProtocolError code))
      → J ≡ deliveries.after_mark i (delivery_mark.Ended c (Some (error.ProtocolError code)))
      → seen l P O R C J S B ≡ receiving (incoming.ChannelClose c code) record_.Received old
  channel_close_incoming c code P O R C J S B eP eO eR eC eS eB eI =
      let e : Error = error.ProtocolError code in
      let q : ChannelPhase = phase_of c old.wire in
      world_is _ _
      (base_is _ (with_deliveries (broker_close_deliveries c code) (after_channel_close c q old.wire)) (frame_max_is eO) refl eP
      (rest_is eO) (methods_are eO) (publishes_are eO)
      (eR ∙ kept_is c q rs)
      eC
      (ap length eS ∙ opening_counted c rs (ticket_of (kept_request (has_sent_close q) (requests_at c rs))) e s)
      (ap (λ (y : ConfirmState). length y.publish_states.cells) eB ∙ ended-count c e b)
      eI)
      eB
      (eS ∙ ap (λ k. fold after_mark s (cancels_at c rs ++ ticket.OpeningFailed c k e ∷ [])) (kept_ticket_is c q old.wire))
      (returned_is eO)

  pub closing_answered : (c : ℕ) (e : Error) (P : List (ℕ × ChannelPhase)) (O : OutboxState) (R : List (ℕ × List Request)) (C : Channels) (J : Deliveries) (S : List (Option Slot)) (B : ConfirmState)
      → close_ok_end (phase_of c old.wire) ≡ Some e
      → P ≡ with_channel c phase.Closed p
      → O ≡ ended_outbox c o
      → R ≡ on_channel c no_requests rs
      → C ≡ contents.after_mark cs (content.Dropped c)
      → S ≡ fold after_mark (fold after_mark s (resolved_with (Ok answer.Done) (ticket_of (first_request reply_kind.ChannelCloseOk (requests_at c rs))))) (cancels_at c rs ++ ticket.OpeningFailed c None e ∷ [])
      → B ≡ confirm_state.after_mark b (mark.Ended c e)
      → J ≡ deliveries.after_mark i (delivery_mark.Ended c (consumers_end (phase_of c old.wire)))
      → seen l P O R C J S B ≡ receiving (incoming.ChannelCloseOk c) record_.Received old
  closing_answered c e P O R C J S B h eP eO eR eC eS eB eI =
      let done : List TicketMark = resolved_with (Ok answer.Done) (close_ticket c old.wire) in
      world_is _ _
      (base_is _ (with_deliveries (close_ok_deliveries_in c (phase_of c old.wire)) (ended_base c phase.Closed no_requests old.wire)) (frame_max_is eO) refl eP
      (rest_is eO) (methods_are eO) (publishes_are eO) eR eC
      (ap length eS ∙ opening_counted c rs None e (fold after_mark s done) ∙ resolved-count (Ok answer.Done) (close_ticket c old.wire) s)
      (ap (λ (y : ConfirmState). length y.publish_states.cells) eB ∙ ended-count c e b)
      (eI ∙ sym (ap (fold deliveries.after_mark i) (closing_deliveries c (phase_of c old.wire) e h)))
      ∙ ap (with_deliveries (close_ok_deliveries_in c (phase_of c old.wire))) (sym (closing_base c (phase_of c old.wire) e old.wire h)))
      (eB ∙ ap (λ ms. fold confirm_state.after_mark b ms) (ap (end_with c) (sym h)))
      (eS ∙ sym (marks-join done (cancels_at c rs ++ ticket.OpeningFailed c None e ∷ []) s) ∙ ap (λ o. fold after_mark s (done ++ end_tickets c o old.wire)) (sym h))
      (returned_is eO ∙ sym (ap (λ x. back.unless_crossed c x o.returned) h))

  pub crossed_answered : (c : ℕ) (P : List (ℕ × ChannelPhase)) (R : List (ℕ × List Request)) (S : List (Option Slot))
      → close_ok_end (phase_of c old.wire) ≡ None
      → P ≡ with_channel c phase.Closed p
      → R ≡ on_channel c (without_kind reply_kind.ChannelCloseOk) rs
      → S ≡ fold after_mark s (resolved_with (Ok answer.Done) (ticket_of (first_request reply_kind.ChannelCloseOk (requests_at c rs))))
      → seen l P o R cs i S b ≡ receiving (incoming.ChannelCloseOk c) record_.Received old
  crossed_answered c P R S h eP eR eS =
      let done : List TicketMark = resolved_with (Ok answer.Done) (close_ticket c old.wire) in
      world_is _ _
      (base_is _ (with_deliveries (close_ok_deliveries_in c (phase_of c old.wire)) (record old.wire { phases = with_channel c phase.Closed p; requests = on_channel c (without_kind reply_kind.ChannelCloseOk) rs })) refl refl eP refl refl refl eR refl
      (ap length eS ∙ resolved-count (Ok answer.Done) (close_ticket c old.wire) s)
      refl
      (sym (ap (fold deliveries.after_mark i) (crossed_deliveries c (phase_of c old.wire) h)))
      ∙ ap (with_deliveries (close_ok_deliveries_in c (phase_of c old.wire))) (sym (crossed_base c (phase_of c old.wire) old.wire h)))
      (ap (λ ms. fold confirm_state.after_mark b ms) (ap (end_with c) (sym h)))
      (eS ∙ sym (marks-join done [] s) ∙ ap (λ o. fold after_mark s (done ++ end_tickets c o old.wire)) (sym h))
      (sym (ap (λ x. back.unless_crossed c x o.returned) h))

  pub connection_close_crossed : (code : ℕ) (l2 : ConnectionPhase) (O : OutboxState) → is_close_sent l ≡ true → p ≡ [] → l2 ≡ link.Closing stage.Crossed
      → O ≡ with_lists (with_method (record { channel = 0; method = method.Connection connection.CloseOk; ticket = None }) o.lists) o
      → seen l2 p O rs cs i s b ≡ receiving (incoming.ConnectionClose code) record_.Received old
  connection_close_crossed code l2 O h none el eO = at l h
    where
      at : (k : ConnectionPhase) → is_close_sent k ≡ true → seen l2 p O rs cs i s b ≡ receiving (incoming.ConnectionClose code) record_.Received (seen k p o rs cs i s b)
      at link.Open h = cc
      at (link.Closing stage.Queued) h = cc
      at (link.Closing t) h =
          world_is _ _ (base_is _ _ (frame_max_is eO) el refl (rest_is eO) (methods_are eO) (publishes_are eO) refl refl refl refl (ap (λ (ps : List (ℕ × ChannelPhase)). fold deliveries.after_mark i (deliveries_ends (error.ProtocolError code) (live_channels ps))) (sym none)))
          (ap (λ (ps : List (ℕ × ChannelPhase)). fold confirm_state.after_mark b (ends (error.ProtocolError code) (live_channels ps))) (sym none)) refl
          (returned_is eO)
      at link.Closed h = cc
      at link.Lost h = cc

  pub connection_close_incoming : (code : ℕ) (l2 : ConnectionPhase) (P : List (ℕ × ChannelPhase)) (O : OutboxState) (R : List (ℕ × List Request)) (C : Channels) (J : Deliveries) (S : List (Option Slot)) (B : ConfirmState) → is_close_sent l ≡ false → l2 ≡ link.Closed
      → P ≡ []
      → O ≡ with_lists (with_method (record { channel = 0; method = method.Connection connection.CloseOk; ticket = None }) no_lists) (emptied_outbox o)
      → R ≡ []
      → C ≡ []
      → S ≡ fold after_mark s (cancels_on (live_channels p) rs ++ ticket.AllFailed (error.ProtocolError code) ∷ [])
      → B ≡ fold confirm_state.after_mark b (ends (error.ProtocolError code) (live_channels p))
      → J ≡ fold deliveries.after_mark i (deliveries_ends (error.ProtocolError code) (live_channels p))
      → seen l2 P O R C J S B ≡ receiving (incoming.ConnectionClose code) record_.Received old
  connection_close_incoming code l2 P O R C J S B h el eP eO eR eC eS eB eI = at l h
    where
      by_parts : (k : ConnectionPhase) → (after_connection_close k (seen k p o rs cs i s b).wire ≡ noted 0 (method.Connection connection.CloseOk) (down link.Closed (seen k p o rs cs i s b).wire)) → connection_close_tickets k code (seen k p o rs cs i s b).wire ≡ cancels_on (live_channels p) rs ++ ticket.AllFailed (error.ProtocolError code) ∷ [] → back.unless_closing k o.returned ≡ None
          → seen l2 P O R C J S B ≡ receiving (incoming.ConnectionClose code) record_.Received (seen k p o rs cs i s b)
      by_parts k base tickets gone =
          world_is _ _
          (base_is _ (with_deliveries (connection_close_deliveries code (seen k p o rs cs i s b).wire) (noted 0 (method.Connection connection.CloseOk) (down link.Closed (seen k p o rs cs i s b).wire))) (frame_max_is eO) el eP
          (rest_is eO) (methods_are eO) (publishes_are eO) eR eC
          (all_failed_counted (live_channels p) rs (error.ProtocolError code) s S eS)
          (ap (λ (y : ConfirmState). length y.publish_states.cells) eB ∙ ends-count (error.ProtocolError code) (live_channels p) b)
          eI
          ∙ ap (with_deliveries (connection_close_deliveries code (seen k p o rs cs i s b).wire)) (sym base))
          eB
          (eS ∙ ap (λ ms. fold after_mark s ms) (sym tickets))
          (returned_is eO ∙ sym gone)

      at : (k : ConnectionPhase) → is_close_sent k ≡ false → seen l2 P O R C J S B ≡ receiving (incoming.ConnectionClose code) record_.Received (seen k p o rs cs i s b)
      at link.Open h = by_parts link.Open refl refl refl
      at (link.Closing stage.Queued) h = by_parts (link.Closing stage.Queued) refl refl refl
      at (link.Closing t) h = cc
      at link.Closed h = by_parts link.Closed refl refl refl
      at link.Lost h = by_parts link.Lost refl refl refl

  pub connection_answered : (l2 : ConnectionPhase) (O : OutboxState) (R : List (ℕ × List Request)) (S : List (Option Slot)) → l2 ≡ link.Closed
      → O ≡ cond (has_sent l) o (emptied_outbox o)
      → R ≡ on_channel 0 (without_kind reply_kind.ConnectionCloseOk) rs
      → S ≡ fold after_mark s (resolved_with (Ok answer.Done) (ticket_of (first_request reply_kind.ConnectionCloseOk (requests_at 0 rs))))
      → seen l2 p O R cs i S b ≡ receiving incoming.ConnectionCloseOk record_.Received old
  connection_answered l2 O R S el eO eR eS =
      let t : Bool = has_sent l in
      world_is _ _
      (base_is _ (after_connection_close_ok old.wire) (frame_max_is eO ∙ unsent-frame t) el refl
      (rest_is eO ∙ ap (λ (y : Lists). y.rest) (unsent-lists t)) (methods_are eO ∙ ap (λ (y : Lists). y.methods) (unsent-lists t)) (publishes_are eO ∙ ap (λ (y : Lists). y.publishes) (unsent-lists t)) eR refl
      (ap length eS ∙ resolved-count (Ok answer.Done) (ticket_of (first_request reply_kind.ConnectionCloseOk (requests_at 0 rs))) s)
      refl refl)
      refl
      eS
      (returned_is eO ∙ unsent-returned t)
    where
      unsent-frame : (t : Bool) → (cond t o (emptied_outbox o)).frame_max ≡ o.frame_max
      unsent-frame true = refl
      unsent-frame false = refl

      unsent-lists : (t : Bool) → (cond t o (emptied_outbox o)).lists ≡ unless_sent t o.lists
      unsent-lists true = refl
      unsent-lists false = refl

      unsent-returned : (t : Bool) → (cond t o (emptied_outbox o)).returned ≡ cond t o.returned None
      unsent-returned true = refl
      unsent-returned false = refl

  -- ---- a frame that leaves

  pub handing_seen : (t : ℕ → Bool) (a : Left) (l2 : ConnectionPhase) (P : List (ℕ × ChannelPhase)) (O : OutboxState) (S : List (Option Slot)) (B : ConfirmState)
      → handed_of t o.lists.rest o.lists.methods o.lists.publishes ≡ Some a
      → l2 ≡ link_sent a.frame l
      → P ≡ phases_sent a.frame p
      → O ≡ with_lists (left_lists o.frame_max t o.lists) o
      → S ≡ fold after_mark s (left_tickets (Some a))
      → B ≡ fold confirm_state.after_mark b (left_marks (Some a))
      → seen l2 P O rs cs i S B ≡ handing t old
  handing_seen t a l2 P O S B told el eP eO eS eB =
      world_is _ _
      (base_is _ (sent (Some a) (base_with (left_lists o.frame_max t o.lists) old.wire)) (frame_max_is eO) el eP
      (rest_is eO) (methods_are eO) (publishes_are eO) refl refl
      (ap length eS ∙ left_tickets-count (Some a) s)
      (ap (λ (y : ConfirmState). length y.publish_states.cells) eB ∙ left_marks-count (Some a) b)
      refl
      ∙ ap (λ h. sent h (base_with (left_lists o.frame_max t o.lists) old.wire)) (sym told))
      (eB ∙ ap (λ h. fold confirm_state.after_mark b (left_marks h)) (sym told))
      (eS ∙ ap (λ h. fold after_mark s (left_tickets h)) (sym told))
      (returned_is eO)
