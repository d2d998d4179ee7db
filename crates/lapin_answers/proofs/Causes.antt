-- Each frame of the broker that resolves a ticket with an answer is one of six kinds, and the call of the ticket awaits a reply.
use Rattle.std.proofs.Common.{◌≡◌, ◌∙◌, ℕ, ◌≤◌, ◌==◌, Bool, true, false, ◌&&◌, List, [], ◌∷◌, ◌++◌, Option, Some, None, Result, Ok, ◌⊎◌, inl, inr, refl, sym, ap, eq-eqb}
use Rattle.std.specs.List.{filter, list_any}
use Rattle.std.proofs.lemmas.Bool.{and_parts}
use Rattle.lapin_types.specs.declared.answer.Answer.{Answer}
use Rattle.lapin_types.specs.declared.answer.Answer.TheVariants as answer
use Rattle.lapin_types.specs.declared.event.Event.TheVariants as event
use Rattle.lapin_types.specs.declared.message.BasicGetMessage.{BasicGetMessage}
use Rattle.lapin_types.specs.declared.record.Record.{Record}
use Rattle.lapin_types.specs.declared.record.Record.TheVariants as record_
use Rattle.lapin_types.specs.declared.request.ReplyKind.{ReplyKind}
use Rattle.lapin_types.specs.declared.request.ReplyKind.TheVariants as reply_kind
use Rattle.lapin_types.specs.Types.{Frame, Error}
use Rattle.lapin_types.specs.Types.error
use Rattle.lapin_content.specs.declared.start.Start.{Start as Beginning}
use Rattle.lapin_content.specs.declared.start.Start.TheVariants as start
use Rattle.lapin_content.specs.declared.start.Whole.{Whole as Arrived}
use Rattle.lapin_rules.specs.declared.broker_frames.ConsumerPart.{ConsumerPart}
use Rattle.lapin_rules.specs.declared.broker_frames.ConsumerPart.TheVariants as consumer
use Rattle.lapin_rules.specs.declared.broker_frames.ContentPart.{ContentPart}
use Rattle.lapin_rules.specs.declared.broker_frames.Incoming.{Incoming}
use Rattle.lapin_rules.specs.declared.broker_frames.Incoming.TheVariants as incoming
use Rattle.lapin_rules.specs.declared.phases.ConnectionPhase.{ConnectionPhase}
use Rattle.lapin_rules.specs.declared.phases.ConnectionPhase.TheVariants as link
use Rattle.lapin_rules.specs.declared.phases.CloseStage.TheVariants as stage
use Rattle.lapin_rules.specs.ChannelClose.{close_ticket, close_ok_end, kept_ticket}
use Rattle.lapin_rules.specs.ConnectionClose.{connection_close_tickets}
use Rattle.lapin_rules.specs.Content.{got_message, start_tickets, whole_tickets, whole_on, next_acker}
use Rattle.lapin_rules.specs.Ends.{cancels_on, cancels_done, end_tickets, all_failed, live_channels}
use Rattle.lapin_rules.specs.History.{History, rec}
use Rattle.lapin_rules.specs.Incoming.{incoming_of}
use Rattle.lapin_rules.specs.Receiving.{incoming_tickets, received_tickets}
use Rattle.lapin_rules.specs.Requests.{is_kind, resolved_with}
use Rattle.lapin_rules.specs.TicketReadings.{TicketMark, gives, answer_of}
use Rattle.lapin_rules.specs.TicketReadings as ticket
use Rattle.lapin_rules.specs.Wire.{Wire, phase_of, requests_of}
use Rattle.lapin_broker.specs.declared.frames.BrokerFrame.{BrokerFrame}
use Rattle.lapin_broker.specs.declared.frames.BrokerFrame.TheVariants as broker
use Rattle.lapin_broker.specs.Frames.{channel_of, broker_frame}
use Rattle.lapin_joint.specs.declared.step.Step.{Step}
use Rattle.lapin_joint.specs.declared.step.Step.TheVariants as step
use Rattle.lapin_joint.specs.Joint.{joined_to}
use Rattle.lapin_pairs.specs.Every.{CloseOkD}
use Rattle.lapin_concord.specs.Frames.{down_kind}
use Rattle.lapin_concord.specs.Incomes.{income_as}
use Rattle.lapin_concord.specs.Refusals.{is_refusal}
use Rattle.lapin_concord.specs.Wires.{reply_number, is_asked}
use Rattle.lapin_concord.proofs.Incomes.{sorted}
use Rattle.lapin_verdicts.specs.Answers.{replies, is_open_ok}
use Rattle.lapin_verdicts.specs.Session.{past_of}
use Rattle.lapin_answers.specs.Causes.{Resolves, AsReply, AsContent, AsOpenOk, AsCloseOk, AsEndOk, AsEnd}
use Rattle.lapin_answers.specs.Closes.{is_close_ok_as, is_end_ok_as, is_open_cancel}
use Rattle.lapin_answers.proofs.Cancels.{cancel_call, done_answer, on_is, on_gives, failed_not, all_not}
use Rattle.lapin_answers.proofs.Closed.{closed, is_close_ok, either, no_gives, done_gives, end_gives, done_is}
use Rattle.lapin_answers.proofs.Closings.{ok_comes}
use Rattle.lapin_answers.proofs.Ended.{ended}
use Rattle.lapin_answers.proofs.GetAnswer.{got_message_is}
use Rattle.lapin_answers.proofs.Moved.{plain_frame, is_plain}
use Rattle.lapin_answers.proofs.Moving.{is_close_ok_in}
use Rattle.lapin_answers.proofs.OpenOks.{opened}
use Rattle.lapin_answers.proofs.Received.{unrefused, tickets_after}
use Rattle.lapin_answers.proofs.Replying.{replied}
use Rattle.lapin_answers.proofs.Rows.{reply_is, asked_comes}
use Rattle.lapin_answers.proofs.Running.{ok_comes as open_ok_comes}
use Rattle.lapin_answers.proofs.Tickets.{Answers, new_answer, none_answers, resolved_is, resolved_gives}

-- ---- marks

-- the content that became whole answers with a message
whole_is : (n c acker : ℕ) (o : Option Arrived) (a : Answer) → Answers n (whole_tickets c acker o) (Ok a) → (message : BasicGetMessage) × (a ≡ answer.Got (Some message))
whole_is n c acker None a s = absurd (none_answers n (Ok a) s)
whole_is n c acker (Some w) a s = by w.start s
  where
    same : (a b : Answer) → ◌≡◌ {A = Result Answer Error} (Ok a) (Ok b) → b ≡ a
    same a b h = cc

    by : (x : Beginning) → Answers n (start_tickets c acker x w) (Ok a) → (message : BasicGetMessage) × (a ≡ answer.Got (Some message))
    by (start.Get t tag exchange key redelivered count) s = (got_message c acker tag exchange key redelivered count w, same _ a (resolved_is n t (Ok (answer.Got (Some (got_message c acker tag exchange key redelivered count w)))) (Ok a) s).1)
    by (start.Deliver k tag exchange key redelivered) s = absurd (none_answers n (Ok a) s)
    by (start.Return code text exchange key) s = absurd (none_answers n (Ok a) s)

whole_gives : (c acker : ℕ) (o : Option Arrived) → list_any gives (whole_tickets c acker o) ≡ false
whole_gives c acker None = refl
whole_gives c acker (Some w) = by w.start
  where
    by : (x : Beginning) → list_any gives (start_tickets c acker x w) ≡ false
    by (start.Get t tag exchange key redelivered count) = resolved_gives t (Ok (answer.Got (Some (got_message c acker tag exchange key redelivered count w))))
    by (start.Deliver k tag exchange key redelivered) = refl
    by (start.Return code text exchange key) = refl

pub same_answer : (x y : Answer) → ◌≡◌ {A = Result Answer Error} (Ok x) (Ok y) → y ≡ x
same_answer x y h = cc

-- an end answers with done, or with its error
end_done : (n c : ℕ) (e : Option Error) (b : Wire) (a : Answer) → Answers n (end_tickets c e b) (Ok a) → a ≡ answer.Done
end_done n c None b a s = absurd (none_answers n (Ok a) s)
end_done n c (Some e) b a s = elim (either n (cancels_done c b) (ticket.OpeningFailed c None e ∷ []) (Ok a) s) [
  | inl t ↦ done_answer n (filter (is_kind reply_kind.BasicCancelOk) (requests_of c b)) a t
  | inr t ↦ failed_not n c None e a t
]

-- ---- what a frame is, as it is sorted

not_both : {P : Type 0} (v : Bool) → v ≡ true → v ≡ false → P
not_both v t f = let w : true ≡ false = sym t ∙ f in absurd cc

-- the connection's close-ok is one
end_back : (d : ℕ) (x : BrokerFrame) → down_kind d x ≡ CloseOkD → is_end_ok_as x ≡ true
end_back d broker.ConnectionCloseOk h = refl
end_back d _ h = absurd cc

-- a frame that isn't refused does to tickets what a received one does, or nothing
heard_marks : (i : Incoming) (x : Record) (b : Wire) → is_refusal x ≡ false → (incoming_tickets i x b ≡ received_tickets i b) ⊎ (incoming_tickets i x b ≡ [])
heard_marks i (record_.Refused e) b h = absurd cc
heard_marks i record_.Received b h = inl refl
heard_marks i _ b h = inr refl

module _ (n : ℕ) (big : 4096 ≤ n) (k : ℕ) (a : Answer) (ss : List Step) (f : Frame) (fs : List Frame) (down : (joined_to n ss).down ≡ f ∷ fs) (was : answer_of k (past_of n ss).tickets ≡ None) (now : answer_of k (past_of n (ss ++ step.Deliver ∷ [])).tickets ≡ Some (Ok a)) where
  abbrev h : History
  h = (joined_to n ss).session

  abbrev b : Wire
  b = (past_of n ss).wire

  abbrev i : Incoming
  i = incoming_of f

  abbrev Found : Type 0
  Found = Resolves h b k a f

  -- these are the marks that come
  comes : (xs : List TicketMark) → received_tickets i b ≡ xs → list_any gives xs ≡ false → Answers k xs (Ok a) ⊎ Answers k [] (Ok a)
  comes xs is plain = elim (heard_marks i (rec n h (event.Receive f)) b (unrefused n ss f fs down big)) [
    | inl y ↦ inl (new_answer (past_of n ss).tickets xs (Ok a) plain k was (ap (λ v. answer_of k ((past_of n ss).tickets ++ v)) (sym (y ∙ is)) ∙ (ap (answer_of k) (sym (tickets_after n ss f fs down)) ∙ now)))
    | inr y ↦ inr (new_answer (past_of n ss).tickets [] (Ok a) refl k was (ap (λ v. answer_of k ((past_of n ss).tickets ++ v)) (sym y) ∙ (ap (answer_of k) (sym (tickets_after n ss f fs down)) ∙ now)))
  ]

  -- where these come and give no ticket, they answer
  pub answers_by : (xs : List TicketMark) → received_tickets i b ≡ xs → list_any gives xs ≡ false → Answers k xs (Ok a)
  answers_by xs is plain = elim (comes xs is plain) [ inl y ↦ y | inr y ↦ absurd (none_answers k (Ok a) y) ]

  -- where these come, one of them answers
  by_marks : (xs : List TicketMark) → received_tickets i b ≡ xs → list_any gives xs ≡ false → (Answers k xs (Ok a) → Found) → Found
  by_marks xs is plain found = found (answers_by xs is plain)

  -- where none comes nothing is answered
  by_none : received_tickets i b ≡ [] → Found
  by_none is = by_marks [] is refl (λ s. absurd (none_answers k (Ok a) s))

  -- a content that becomes whole
  by_whole : (c : ℕ) (p : ContentPart) → i ≡ incoming.Content c p → Found
  by_whole c p is =
      let w = whole_on c p b in
      by_marks (whole_tickets c (next_acker b.deliveries) w) (ap (λ v. received_tickets v b) is) (whole_gives c (next_acker b.deliveries) w) (λ s. (
      let m = whole_is k c (next_acker b.deliveries) w a s in
      let g = got_message_is n big k ss m.0 was (now ∙ ap (λ v. Some (Ok v)) m.1) in
      AsContent g.0 g.1 g.2 m.0 m.1))

  -- an end of one opening
  by_cancels : (c : ℕ) → replies f ≡ false → Answers k (cancels_done c b) (Ok a) → Found
  by_cancels c r s =
      let open_ : is_open_cancel k c b ≡ true = done_is k (filter (is_kind reply_kind.BasicCancelOk) (requests_of c b)) (Ok a) s in
      let call = cancel_call n big c k ss open_ in
      AsEnd c call.0 call.1 open_ (done_answer k (filter (is_kind reply_kind.BasicCancelOk) (requests_of c b)) a s) r

  by_close : (c code : ℕ) → i ≡ incoming.ChannelClose c code → replies f ≡ false → Found
  by_close c code is r =
      let failed : List TicketMark = ticket.OpeningFailed c (kept_ticket c (phase_of c b) b) (error.ProtocolError code) ∷ [] in
      by_marks (cancels_done c b ++ failed) (ap (λ v. received_tickets v b) is) (no_gives (cancels_done c b) failed (done_gives (filter (is_kind reply_kind.BasicCancelOk) (requests_of c b))) refl) (λ s. elim (either k (cancels_done c b) failed (Ok a) s) [
        | inl t ↦ by_cancels c r t
        | inr t ↦ failed_not k c (kept_ticket c (phase_of c b) b) (error.ProtocolError code) a t
      ])

  -- the end of all openings
  by_all : (e : Error) → received_tickets i b ≡ all_failed e b → replies f ≡ false → Found
  by_all e is r =
      let cancels : List TicketMark = cancels_on (live_channels b.phases) b.requests in
      by_marks (cancels ++ ticket.AllFailed e ∷ []) is (no_gives cancels (ticket.AllFailed e ∷ []) (on_gives (live_channels b.phases) b.requests) refl) (λ s. elim (either k cancels (ticket.AllFailed e ∷ []) (Ok a) s) [
        | inl t ↦ (let o = on_is k (live_channels b.phases) b.requests a t in let call = cancel_call n big o.0 k ss o.2 in AsEnd o.0 call.0 call.1 o.2 o.3 r)
        | inr t ↦ all_not k e a t
      ])

  by_end : (l : ConnectionPhase) (code : ℕ) → received_tickets i b ≡ connection_close_tickets l code b → replies f ≡ false → Found
  by_end (link.Closing stage.Queued) code is r = by_all (error.ProtocolError code) is r
  by_end (link.Closing s) code is r = by_none is
  by_end link.Open code is r = by_all (error.ProtocolError code) is r
  by_end link.Closed code is r = by_all (error.ProtocolError code) is r
  by_end link.Lost code is r = by_all (error.ProtocolError code) is r

  -- a reply is one, whatever else it may be sorted as
  by_reply : (c : ℕ) (r : ReplyKind) (y : Answer) → i ≡ incoming.Reply c r y → replies f ≡ false → is_open_ok f ≡ false → Found
  by_reply c r y is calm ok = by (is_asked r) refl
    where
      other : (r : ReplyKind) → is_asked r ≡ false → i ≡ incoming.Reply c r y → Found
      other reply_kind.ChannelOpenOk q is = not_both (is_open_ok f) (open_ok_comes c f (ap income_as is)).2 ok
      other reply_kind.ChannelCloseOk q is = not_both (is_plain i) (plain_frame f) (ap is_plain is)
      other reply_kind.ConnectionCloseOk q is = not_both (is_plain i) (plain_frame f) (ap is_plain is)
      other _ q is = absurd cc

      by : (v : Bool) → is_asked r ≡ v → Found
      by true q = not_both (replies f) (reply_is c (reply_number r) false f (ap income_as is ∙ asked_comes c r y q)).replies calm
      by false q = other r q is

  by_consumer : (c : ℕ) (p : ConsumerPart) → i ≡ incoming.Consumer c p → replies f ≡ false → Found
  by_consumer c (consumer.ConsumeOk tag) is calm = not_both (replies f) (reply_is c (reply_number reply_kind.BasicConsumeOk) false f (ap income_as is)).replies calm
  by_consumer c (consumer.CancelOk tag) is calm = not_both (replies f) (reply_is c (reply_number reply_kind.BasicCancelOk) false f (ap income_as is)).replies calm
  by_consumer c consumer.RecoverOk is calm = not_both (replies f) (reply_is c (reply_number reply_kind.BasicRecoverOk) false f (ap income_as is)).replies calm
  by_consumer c (consumer.Cancel tag nowait) is calm = by_none (ap (λ v. received_tickets v b) is)

  by_close_ok : (c : ℕ) → i ≡ incoming.ChannelCloseOk c → is_close_ok_as (broker_frame f) ≡ false → Found
  by_close_ok c is ok =
      let on : is_close_ok_in c (Some i) ≡ true = ap (λ v. is_close_ok_in c (Some v)) is ∙ eq-eqb c c refl in
      not_both (is_close_ok_as (broker_frame f)) (and_parts (channel_of f == c) (is_close_ok_as (broker_frame f)) (sym (ok_comes c f) ∙ on)).1 ok

  -- any frame but a reply, open-ok and the two close-oks
  by_income : (j : Incoming) → i ≡ j → replies f ≡ false → is_open_ok f ≡ false → is_close_ok_as (broker_frame f) ≡ false → is_end_ok_as (broker_frame f) ≡ false → Found
  by_income (incoming.Reply c r y) is calm ok close end = by_reply c r y is calm ok
  by_income (incoming.Settlement c s) is calm ok close end = by_none (ap (λ v. received_tickets v b) is)
  by_income (incoming.Content c p) is calm ok close end = by_whole c p is
  by_income (incoming.Consumer c p) is calm ok close end = by_consumer c p is calm
  by_income (incoming.Flow c active) is calm ok close end = by_none (ap (λ v. received_tickets v b) is)
  by_income (incoming.ChannelClose c code) is calm ok close end = by_close c code is calm
  by_income (incoming.ChannelCloseOk c) is calm ok close end = by_close_ok c is close
  by_income (incoming.ConnectionClose code) is calm ok close end = by_end b.link code (ap (λ v. received_tickets v b) is) calm
  by_income incoming.ConnectionCloseOk is calm ok close end = not_both (is_end_ok_as (broker_frame f)) (end_back (channel_of f) (broker_frame f) (sorted f ∙ ap income_as is)) end
  by_income incoming.Other is calm ok close end = by_none (ap (λ v. received_tickets v b) is)

  -- close-ok answers with done
  pub close_done : is_close_ok_as (broker_frame f) ≡ true → a ≡ answer.Done
  close_done ok =
      let c : ℕ = channel_of f in
      let e : Option Error = close_ok_end (phase_of c b) in
      let t : Option ℕ = close_ticket c b in
      let is : i ≡ incoming.ChannelCloseOk c = is_close_ok c i (ok_comes c f ∙ (ap (λ v. v && is_close_ok_as (broker_frame f)) (eq-eqb c c refl) ∙ ok)) in
      let s = answers_by (resolved_with (Ok answer.Done) t ++ end_tickets c e b) (ap (λ v. received_tickets v b) is) (no_gives (resolved_with (Ok answer.Done) t) (end_tickets c e b) (resolved_gives t (Ok answer.Done)) (end_gives c e b)) in
      elim (either k (resolved_with (Ok answer.Done) t) (end_tickets c e b) (Ok a) s) [ inl y ↦ same_answer answer.Done a (resolved_is k t (Ok answer.Done) (Ok a) y).1 | inr y ↦ end_done k c e b a y ]

  by_close_frame : is_close_ok_as (broker_frame f) ≡ true → replies f ≡ false → Found
  by_close_frame ok calm = elim (closed n big ss k a f fs down ok was now) [
    | inl y ↦ AsCloseOk y.0 y.1 ok
    | inr y ↦ let call = cancel_call n big (channel_of f) k ss y in AsEnd (channel_of f) call.0 call.1 y (close_done ok) calm
  ]

  pub resolved : Found
  resolved = by (replies f) (is_open_ok f) (is_close_ok_as (broker_frame f)) (is_end_ok_as (broker_frame f)) refl refl refl refl
    where
      by : (r o c e : Bool) → replies f ≡ r → is_open_ok f ≡ o → is_close_ok_as (broker_frame f) ≡ c → is_end_ok_as (broker_frame f) ≡ e → Found
      by true o c e q ok close end = let y = replied n big k ss f fs (Ok a) down q was now in AsReply y.0 y.1 q
      by false true c e q ok close end = let y = opened n big ss k a f fs down ok was now in AsOpenOk y.0 ok
      by false false true e q ok close end = by_close_frame close q
      by false false false true q ok close end = let y = ended n big ss k a f fs down end was now in AsEndOk y.0 y.1 y.2 end
      by false false false false q ok close end = by_income i refl q ok close end
