-- A reply that resolves a ticket was sent as the answer to the request which that very call's frame made.
use Rattle.std.proofs.Common.{◌≡◌, ◌∙◌, ℕ, ◌≤◌, ◌==◌, Bool, true, false, cond, ◌&&◌, List, [], ◌∷◌, ◌++◌, Option, Some, None, Result, Ok, ◌⊎◌, inl, inr, refl, sym, ap, subst, eq-eqb}
use Rattle.std.specs.List.{list_any, filter}
use Rattle.std.proofs.lemmas.Bool.{and_parts}
use Rattle.std.proofs.lemmas.Bool.Decides.{eqb_tells}
use Rattle.lapin_types.specs.declared.answer.Answer.{Answer}
use Rattle.lapin_types.specs.declared.answer.Answer.TheVariants as answer
use Rattle.lapin_types.specs.declared.event.Event.TheVariants as event
use Rattle.lapin_types.specs.declared.record.Record.{Record}
use Rattle.lapin_types.specs.declared.record.Record.TheVariants as record_
use Rattle.lapin_types.specs.declared.request.ReplyKind.{ReplyKind}
use Rattle.lapin_types.specs.declared.request.ReplyKind.TheVariants as reply_kind
use Rattle.lapin_types.specs.Types.{Frame, Method, Error}
use Rattle.lapin_rules.specs.declared.broker_frames.ContentPart.TheVariants as part
use Rattle.lapin_rules.specs.declared.broker_frames.ConsumerPart.{ConsumerPart}
use Rattle.lapin_rules.specs.declared.broker_frames.ConsumerPart.TheVariants as consumer
use Rattle.lapin_rules.specs.declared.broker_frames.Incoming.{Incoming}
use Rattle.lapin_rules.specs.declared.broker_frames.Incoming.TheVariants as incoming
use Rattle.lapin_rules.specs.declared.phases.ConnectionPhase.{ConnectionPhase}
use Rattle.lapin_rules.specs.declared.phases.ConnectionPhase.TheVariants as link
use Rattle.lapin_rules.specs.ConnectionClose.{receives_down}
use Rattle.lapin_rules.specs.Consumers.{next_consumer}
use Rattle.lapin_rules.specs.History.{rec, readings_of}
use Rattle.lapin_rules.specs.Incoming.{incoming_of, frame_class, frame_method}
use Rattle.lapin_rules.specs.Phases.{is_up}
use Rattle.lapin_rules.specs.Readings.{Readings}
use Rattle.lapin_rules.specs.Receiving.{when, incoming_up, incoming_record, received_tickets, incoming_tickets}
use Rattle.lapin_rules.specs.Reply.{receives, receives_reply}
use Rattle.lapin_rules.specs.Requests.{first_request, ticket_of, resolved_with}
use Rattle.lapin_rules.specs.TicketReadings.{TicketMark, gives, answer_of}
use Rattle.lapin_rules.specs.Unexpected.{refused}
use Rattle.lapin_rules.specs.Words.{is_some}
use Rattle.lapin_rules.specs.Wire.{Wire, state_of, requests_of, receives_on, is_opening}
use Rattle.lapin_broker.specs.Frames.{channel_of}
use Rattle.lapin_joint.specs.declared.step.Step.{Step}
use Rattle.lapin_joint.specs.declared.step.Step.TheVariants as step
use Rattle.lapin_joint.specs.Joint.{joined_to}
use Rattle.lapin_pairs.specs.Channel.{BReply}
use Rattle.lapin_pairs.specs.Every.{ToD}
use Rattle.lapin_concord.specs.Refusals.{is_refusal}
use Rattle.lapin_concord.specs.Wires.{reply_number, is_asked}
use Rattle.lapin_concord.specs.Incomes.{income_as}
use Rattle.lapin_effects.specs.Effects.{hears}
use Rattle.lapin_verdicts.specs.Answers.{replies}
use Rattle.lapin_answers.specs.Replies.{IsReplied}
use Rattle.lapin_verdicts.specs.Deeds.{deeds, last_opening, sents}
use Rattle.lapin_verdicts.specs.InStep.{is_frame_on}
use Rattle.lapin_verdicts.specs.Session.{past_of}
use Rattle.lapin_answers.specs.Calls.{IsCallOf}
use Rattle.lapin_answers.proofs.Rows.{is_reply_down, reply_comes, reply_is, asked_comes, other_comes}
use Rattle.lapin_answers.proofs.Lists.{asks-first}
use Rattle.lapin_answers.proofs.Answered.{Meets}
use Rattle.lapin_answers.proofs.Running.{reply_meets}
use Rattle.lapin_answers.proofs.Received.{unrefused, tickets_after}
use Rattle.lapin_answers.proofs.Tickets.{Answers, new_answer, none_answers, resolved_is, resolved_gives}
use Rattle.lapin_answers.proofs.GetRun.{content_down}
use Rattle.lapin_concord.proofs.Hearing.{not_opens}

-- ---- a reply, as the session sorts it

-- what it answers
abbrev pub answered_by : Option Answer → Option ℕ → List TicketMark
answered_by None t = []
answered_by (Some a) t = resolved_with (Ok a) t

pub record IsReply (c : ℕ) (i : Incoming) : Type 0 where
  pub kind : ReplyKind
  pub asked : is_asked kind ≡ true
  pub content : Bool
  pub comes : income_as i ≡ ToD c (BReply (reply_number kind) content)
  pub up : (b : Wire) (readings : Readings) (r : Record) → incoming_up b readings r i ≡ when (receives_reply c kind b) r
  pub down : (l : ConnectionPhase) → receives_down l i ≡ false
  pub tickets : (b : Wire) → (o : Option Answer) × (received_tickets i b ≡ answered_by o (ticket_of (first_request kind (requests_of c b))))

reply_down : (c : ℕ) (k : ReplyKind) (a : Answer) (l : ConnectionPhase) → receives_down l (incoming.Reply c k a) ≡ false
reply_down c k a link.Open = refl
reply_down c k a (link.Closing s) = refl
reply_down c k a link.Closed = refl
reply_down c k a link.Lost = refl

consumer_down : (c : ℕ) (p : ConsumerPart) (l : ConnectionPhase) → receives_down l (incoming.Consumer c p) ≡ false
consumer_down c p link.Open = refl
consumer_down c p (link.Closing s) = refl
consumer_down c p link.Closed = refl
consumer_down c p link.Lost = refl

same_channel : (d c : ℕ) (P : ℕ → Type 0) → (d == c) ≡ true → P c → P d
same_channel d c P h p = elim (eqb_tells d c) [ inl y ↦ subst P (sym y.1) p | inr n ↦ let w : true ≡ false = sym h ∙ n.0 in absurd cc ]

pub sort_reply : (c : ℕ) (i : Incoming) → is_reply_down c (income_as i) ≡ true → IsReply c i
sort_reply c (incoming.Reply d k a) h = by (is_asked k) refl
  where
    by : (v : Bool) → is_asked k ≡ v → IsReply c (incoming.Reply d k a)
    by true q = same_channel d c (λ v. IsReply c (incoming.Reply v k a)) (ap (is_reply_down c) (sym (asked_comes d k a q)) ∙ h) (record {
      kind = k;
      asked = q;
      content = false;
      comes = asked_comes c k a q;
      up = λ b readings r. refl;
      down = reply_down c k a;
      tickets = λ b. (Some a, refl);
    })
    by false q = let w : false ≡ true = sym (other_comes c d k a q) ∙ h in absurd cc
sort_reply c (incoming.Content d (part.GetOk s)) h = same_channel d c (λ v. IsReply c (incoming.Content v (part.GetOk s))) h (record {
  kind = reply_kind.BasicGetOk;
  asked = refl;
  content = true;
  comes = refl;
  up = λ b readings r. refl;
  down = content_down c (part.GetOk s);
  tickets = λ b. (None, refl);
})
sort_reply c (incoming.Consumer d (consumer.ConsumeOk tag)) h = same_channel d c (λ v. IsReply c (incoming.Consumer v (consumer.ConsumeOk tag))) h (record {
  kind = reply_kind.BasicConsumeOk;
  asked = refl;
  content = false;
  comes = refl;
  up = λ b readings r. refl;
  down = consumer_down c (consumer.ConsumeOk tag);
  tickets = λ b. (Some (answer.Consumer (next_consumer b.deliveries)), refl);
})
sort_reply c (incoming.Consumer d (consumer.CancelOk tag)) h = same_channel d c (λ v. IsReply c (incoming.Consumer v (consumer.CancelOk tag))) h (record {
  kind = reply_kind.BasicCancelOk;
  asked = refl;
  content = false;
  comes = refl;
  up = λ b readings r. refl;
  down = consumer_down c (consumer.CancelOk tag);
  tickets = λ b. (Some answer.Done, refl);
})
sort_reply c (incoming.Consumer d consumer.RecoverOk) h = same_channel d c (λ v. IsReply c (incoming.Consumer v consumer.RecoverOk)) h (record {
  kind = reply_kind.BasicRecoverOk;
  asked = refl;
  content = false;
  comes = refl;
  up = λ b readings r. refl;
  down = consumer_down c consumer.RecoverOk;
  tickets = λ b. (Some answer.Done, refl);
})
sort_reply c (incoming.Consumer d (consumer.Cancel tag nowait)) h = absurd cc
sort_reply c (incoming.Content d (part.Return s)) h = absurd cc
sort_reply c (incoming.Content d (part.Deliver tag s)) h = absurd cc
sort_reply c (incoming.Content d (part.Header s)) h = absurd cc
sort_reply c (incoming.Content d (part.Body bytes)) h = absurd cc
sort_reply c (incoming.Settlement d s) h = absurd cc
sort_reply c (incoming.Flow d active) h = absurd cc
sort_reply c (incoming.ChannelClose d code) h = absurd cc
sort_reply c (incoming.ChannelCloseOk d) h = absurd cc
sort_reply c (incoming.ConnectionClose code) h = absurd cc
sort_reply c incoming.ConnectionCloseOk h = absurd cc
sort_reply c incoming.Other h = absurd cc

-- one that isn't refused is received where it is heard, or passed over
pub record Heard (c : ℕ) (b : Wire) (i : Incoming) (x : Record) : Type 0 where
  pub hears : hears c b ≡ true
  pub received : x ≡ record_.Received

-- heard, or it says nothing to tickets
abbrev pub ReplyComes : ℕ → Wire → Incoming → Record → Type 0
ReplyComes c b i x = Heard c b i x ⊎ (incoming_tickets i x b ≡ [])

reply_when : (c : ℕ) (b : Wire) (i : Incoming) (k : IsReply c i) (r : Record) (v : Bool) → is_refusal r ≡ true → receives_reply c k.kind b ≡ v → is_refusal (when v r) ≡ false → ReplyComes c b i (when v r)
reply_when c b i k r true q e f = inl (record {
  hears = ap (λ w. cond w (is_opening (state_of c b)) (receives_on (state_of c b))) (sym (not_opens k.kind k.asked)) ∙ (and_parts (receives k.kind (state_of c b)) (is_some (first_request k.kind (requests_of c b))) e).0;
  received = refl;
})
reply_when c b i k r false q e f = let w : true ≡ false = sym q ∙ f in absurd cc

pub heard_reply : (c class number : ℕ) (b : Wire) (readings : Readings) (i : Incoming) → IsReply c i → is_refusal (incoming_record b readings (refused class number) i) ≡ false → ReplyComes c b i (incoming_record b readings (refused class number) i)
heard_reply c class number b readings i k r = (elim (is_up b.link) as (λ v. is_refusal (cond v (incoming_up b readings (refused class number) i) (cond (receives_down b.link i) record_.Received record_.Passed)) ≡ false → ReplyComes c b i (cond v (incoming_up b readings (refused class number) i) (cond (receives_down b.link i) record_.Received record_.Passed))) [
  | true ↦ λ f. subst (ReplyComes c b i) (sym (k.up b readings (refused class number))) (reply_when c b i k (refused class number) (receives_reply c k.kind b) refl refl (ap is_refusal (sym (k.up b readings (refused class number))) ∙ f))
  | false ↦ λ f. subst (ReplyComes c b i) (ap (λ w. cond w record_.Received record_.Passed) (sym (k.down b.link))) (inr refl)
]) r

-- ---- the law

received_marks : (i : Incoming) (x : Record) (b : Wire) → x ≡ record_.Received → incoming_tickets i x b ≡ received_tickets i b
received_marks i x b e = ap (λ v. incoming_tickets i v b) e

answered_gives : (o : Option Answer) (t : Option ℕ) → list_any gives (answered_by o t) ≡ false
answered_gives None t = refl
answered_gives (Some a) t = resolved_gives t (Ok a)

answered_is : (n : ℕ) (o : Option Answer) (t : Option ℕ) (y : Result Answer Error) → Answers n (answered_by o t) y → t ≡ Some n
answered_is n None t y a = absurd (none_answers n y a)
answered_is n (Some x) t y a = (resolved_is n t (Ok x) y a).0

-- what is said of a reply that resolved a ticket
abbrev pub Replied : ℕ → ℕ → List Step → Frame → List Frame → Type 0
Replied n k ss f fs = (m : Method) × IsCallOf k (channel_of f) m (joined_to n ss).session × (v : IsReplied (channel_of f) k m f (last_opening (channel_of f) (deeds n ss))) × (sents v.behind ≡ filter (is_frame_on (channel_of f)) fs)

-- a reply that is heard is to the request that is open longest, and where somebody holds that one's ticket, to that very call
pub met : (n : ℕ) → 4096 ≤ n → (k : ℕ) (ss : List Step) (f : Frame) (fs : List Frame) → (joined_to n ss).down ≡ f ∷ fs → replies f ≡ true → (q : IsReply (channel_of f) (incoming_of f)) → hears (channel_of f) (past_of n ss).wire ≡ true → ticket_of (first_request q.kind (requests_of (channel_of f) (past_of n ss).wire)) ≡ Some k → Replied n k ss f fs
met n big k ss f fs down r q u t =
    let c : ℕ = channel_of f in
    let b : Wire = (past_of n ss).wire in
    let m : Meets c (joined_to n ss).session b q.kind f fs (last_opening c (deeds n ss)) = reply_meets n c big ss f fs q.kind down u (reply_is c (reply_number q.kind) q.content f q.comes) in
    let first : first_request q.kind (requests_of c b) ≡ Some m.request = asks-first q.kind (requests_of c b) q.asked ∙ (ap (first_request q.kind) m.open_is ∙ ap (λ v. cond v (Some m.request) (first_request q.kind m.rest)) m.kind) in
    let ticket : m.request.ticket ≡ Some k = ap ticket_of (sym first) ∙ t in
    let call = m.is.call k ticket in (
      call.0,
      call.1,
      record {
        before = m.before;
        behind = m.behind;
        request = m.answer.request;
        all = m.all;
        is_reply = r;
        was_read = m.answer.was_read;
        ticket = m.is.ticket ∙ ticket;
        method = call.2;
      },
      m.way,
    )

pub replied : (n : ℕ) → 4096 ≤ n → (k : ℕ) (ss : List Step) (f : Frame) (fs : List Frame) (y : Result Answer Error) → (joined_to n ss).down ≡ f ∷ fs → replies f ≡ true → answer_of k (past_of n ss).tickets ≡ None → answer_of k (past_of n (ss ++ step.Deliver ∷ [])).tickets ≡ Some y → Replied n k ss f fs
replied n big k ss f fs y down r was now =
    let c : ℕ = channel_of f in
    let i : Incoming = incoming_of f in
    let b : Wire = (past_of n ss).wire in
    let x : Record = rec n (joined_to n ss).session (event.Receive f) in
    let ms : List TicketMark = (past_of n ss).tickets in
    let on : is_reply_down c (income_as i) ≡ true = sym (reply_comes c f) ∙ (ap (λ v. v && replies f) (eq-eqb c c refl) ∙ r) in
    let q : IsReply c i = sort_reply c i on in
    let later : answer_of k (ms ++ incoming_tickets i x b) ≡ Some y = ap (answer_of k) (sym (tickets_after n ss f fs down)) ∙ now in
    elim (heard_reply c (frame_class f) (frame_method f) b (readings_of (past_of n ss).confirms ms) i q (unrefused n ss f fs down big)) [
      | inr none ↦ (let a : Answers k [] y = new_answer ms [] y refl k was (ap (λ v. answer_of k (ms ++ v)) (sym none) ∙ later) in absurd (none_answers k y a))
      | inl heard ↦
          let t : Option ℕ = ticket_of (first_request q.kind (requests_of c b)) in
          let marks : incoming_tickets i x b ≡ answered_by (q.tickets b).0 t = received_marks i x b heard.received ∙ (q.tickets b).1 in
          let a : Answers k (answered_by (q.tickets b).0 t) y = new_answer ms (answered_by (q.tickets b).0 t) y (answered_gives (q.tickets b).0 t) k was (ap (λ v. answer_of k (ms ++ v)) (sym marks) ∙ later) in
          met n big k ss f fs down r q heard.hears (answered_is k (q.tickets b).0 t y a)
    ]
