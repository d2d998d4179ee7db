-- Which marks answer a ticket with a message of a get: only those of a content that becomes whole.
use Rattle.std.proofs.Common.{◌≡◌, ◌∙◌, ℕ, ◌==◌, Bool, true, false, cond, not, ◌&&◌, ◌||◌, List, [], ◌∷◌, ◌++◌, Option, Some, None, Result, Ok, Err, refl, sym, ap, eq-eqb}
use Rattle.std.specs.List.{list_any, filter}
use Rattle.std.specs.Option.{option_map, option_or}
use Rattle.std.proofs.lemmas.List.Folds.{list_any-append}
use Rattle.lapin_tables.specs.ByChannel.{at_channel}
use Rattle.lapin_values.specs.Properties.{Properties}
use Rattle.lapin_types.specs.declared.answer.Answer.{Answer}
use Rattle.lapin_types.specs.declared.answer.Answer.TheVariants as answer
use Rattle.lapin_types.specs.declared.message.BasicGetMessage.{BasicGetMessage}
use Rattle.lapin_types.specs.declared.record.Record.{Record}
use Rattle.lapin_types.specs.declared.record.Record.TheVariants as record_
use Rattle.lapin_types.specs.declared.request.Request.{Request}
use Rattle.lapin_types.specs.declared.request.ReplyKind.{ReplyKind}
use Rattle.lapin_types.specs.declared.request.ReplyKind.TheVariants as reply_kind
use Rattle.lapin_types.specs.Types.{Error}
use Rattle.lapin_types.specs.Types.error
use Rattle.lapin_content.specs.declared.start.Start.{Start as Beginning}
use Rattle.lapin_content.specs.declared.start.Start.TheVariants as start
use Rattle.lapin_content.specs.Contents.{Expected}
use Rattle.lapin_rules.specs.declared.broker_frames.ConsumerPart.{ConsumerPart}
use Rattle.lapin_rules.specs.declared.broker_frames.ConsumerPart.TheVariants as consumer
use Rattle.lapin_rules.specs.declared.broker_frames.Incoming.{Incoming}
use Rattle.lapin_rules.specs.declared.broker_frames.Incoming.TheVariants as incoming
use Rattle.lapin_rules.specs.declared.marks.AtLeaving.{AtLeaving}
use Rattle.lapin_rules.specs.declared.marks.AtLeaving.TheVariants as leaving
use Rattle.lapin_rules.specs.declared.phases.ConnectionPhase.{ConnectionPhase}
use Rattle.lapin_rules.specs.declared.phases.ConnectionPhase.TheVariants as link
use Rattle.lapin_rules.specs.declared.phases.CloseStage.TheVariants as stage
use Rattle.lapin_rules.specs.ChannelClose.{close_ticket, close_ok_end}
use Rattle.lapin_rules.specs.ConnectionClose.{connection_close_tickets}
use Rattle.lapin_rules.specs.Consumers.{consumer_tickets, next_consumer}
use Rattle.lapin_rules.specs.Content.{got_message, start_tickets}
use Rattle.lapin_rules.specs.Ends.{done_with, cancels_at, cancels_on, cancels_done, end_tickets, all_failed, live_channels}
use Rattle.lapin_rules.specs.Receiving.{received_tickets, incoming_tickets}
use Rattle.lapin_rules.specs.Requests.{is_kind, first_request, ticket_of, requests_in, resolved_with}
use Rattle.lapin_rules.specs.TicketReadings.{TicketMark, gives, answer_by, answer_at, first_answer, begins, is_publish, is_spared}
use Rattle.lapin_rules.specs.TicketReadings as ticket
use Rattle.lapin_rules.specs.Wire.{Wire, phase_of, requests_of}
use Rattle.lapin_concord.specs.Refusals.{is_refusal}
use Rattle.lapin_verdicts.proofs.Turns.{any-less}
use Rattle.lapin_answers.proofs.Gets.{IsQuiet, brings_message}
use Rattle.lapin_answers.proofs.Tickets.{Answers, none_answers, resolved_is}
use Rattle.lapin_tables.proofs.Bools.{or_true}

-- ---- marks that bring a message

-- the mark answers a ticket with a message of a get, or gives a ticket
abbrev pub tells : TicketMark → Bool
tells (ticket.Given c a) = true
tells (ticket.Answered n (Ok (answer.Got (Some m)))) = true
tells _ = false

leaving_none : (l : AtLeaving) (m : BasicGetMessage) (o : Option (Result Answer Error)) → o ≡ option_map Ok (answer_at l) → o ≡ Some (Ok (answer.Got (Some m))) → ⊥
leaving_none leaving.Nothing m o h k = cc
leaving_none leaving.Done m o h k = cc
leaving_none (leaving.Confirm n) m o h k = cc
leaving_none leaving.Yes m o h k = cc

if_some : (v : Bool) (o : Option (Result Answer Error)) (y : Result Answer Error) → cond v o None ≡ Some y → o ≡ Some y
if_some true o y h = h
if_some false o y h = absurd cc

-- a mark that gives a ticket a message answers with it
message_mark : (n c : ℕ) (l : AtLeaving) (b : Bool) (m : TicketMark) (message : BasicGetMessage) → answer_by n c l b m ≡ Some (Ok (answer.Got (Some message))) → tells m ≡ true
message_mark n c l b (ticket.LastLeft j) message h = absurd (leaving_none l message (option_map Ok (answer_at l)) refl (if_some (j == n) (option_map Ok (answer_at l)) (Ok (answer.Got (Some message))) h))
message_mark n c l b (ticket.Answered j a) message h =
    let e : Some a ≡ Some (Ok (answer.Got (Some message))) = if_some (j == n) (Some a) (Ok (answer.Got (Some message))) h in
    let w : a ≡ Ok (answer.Got (Some message)) = cc in
    ap (λ v. tells (ticket.Answered j v)) w
message_mark n c l b (ticket.ClosedHere d e) message h = let w : Some (Err e) ≡ Some (Ok (answer.Got (Some message))) = if_some (d == c && (is_publish l && not b)) (Some (Err e)) (Ok (answer.Got (Some message))) h in absurd cc
message_mark n c l b (ticket.OpeningFailed d spared e) message h = let w : Some (Err e) ≡ Some (Ok (answer.Got (Some message))) = if_some (d == c && not (is_spared n spared)) (Some (Err e)) (Ok (answer.Got (Some message))) h in absurd cc
message_mark n c l b (ticket.AllFailed e) message h = absurd cc
message_mark n c l b _ message h = absurd cc

message_among : (n c : ℕ) (l : AtLeaving) (b : Bool) (xs : List TicketMark) (message : BasicGetMessage) → first_answer n c l b xs ≡ Some (Ok (answer.Got (Some message))) → list_any tells xs ≡ true
message_among n c l b [] message h = absurd cc
message_among n c l b (m ∷ xs) message h = by (message_among n c l (b || begins n m) xs message) (answer_by n c l b m) refl h
  where
    by : (first_answer n c l (b || begins n m) xs ≡ Some (Ok (answer.Got (Some message))) → list_any tells xs ≡ true) → (o : Option (Result Answer Error)) → answer_by n c l b m ≡ o → option_or o (first_answer n c l (b || begins n m) xs) ≡ Some (Ok (answer.Got (Some message))) → list_any tells (m ∷ xs) ≡ true
    by i None e k = ap (λ v. tells m || v) (i k) ∙ or_true (tells m)
    by i (Some y) e k = ap (λ v. v || list_any tells xs) (message_mark n c l b m message (e ∙ k))

pub message_comes : (n : ℕ) (xs : List TicketMark) (message : BasicGetMessage) → Answers n xs (Ok (answer.Got (Some message))) → list_any tells xs ≡ false → ⊥
message_comes n xs message a h = let w : true ≡ false = sym (message_among n a.channel a.leaving a.begun xs message a.is) ∙ h in cc

-- ---- frames of no content bring none

resolved_plain : (a : Answer) (o : Option ℕ) → tells (ticket.Answered 0 (Ok a)) ≡ false → list_any tells (resolved_with (Ok a) o) ≡ false
resolved_plain a None h = refl
resolved_plain (answer.Got (Some m)) (Some t) h = absurd cc
resolved_plain (answer.Got None) (Some t) h = refl
resolved_plain answer.Done (Some t) h = refl
resolved_plain _ (Some t) h = refl

plain-append : (xs ys : List TicketMark) → list_any tells xs ≡ false → list_any tells ys ≡ false → list_any tells (xs ++ ys) ≡ false
plain-append xs ys h k = list_any-append tells xs ys ∙ rw (h, k) refl

done_plain : (rs : List Request) → list_any tells (done_with rs) ≡ false
done_plain [] = refl
done_plain (r ∷ rs) = plain-append (resolved_with (Ok answer.Done) r.ticket) (done_with rs) (resolved_plain answer.Done r.ticket refl) (done_plain rs)

at_plain : (c : ℕ) (all : List (ℕ × List Request)) → list_any tells (cancels_at c all) ≡ false
at_plain c all = done_plain (filter (is_kind reply_kind.BasicCancelOk) (requests_in (at_channel c all)))

on_plain : (cs : List ℕ) (all : List (ℕ × List Request)) → list_any tells (cancels_on cs all) ≡ false
on_plain [] all = refl
on_plain (c ∷ cs) all = plain-append (cancels_at c all) (cancels_on cs all) (at_plain c all) (on_plain cs all)

failed_plain : (e : Error) (b : Wire) → list_any tells (all_failed e b) ≡ false
failed_plain e b = plain-append (cancels_on (live_channels b.phases) b.requests) (ticket.AllFailed e ∷ []) (on_plain (live_channels b.phases) b.requests) refl

end_plain : (c : ℕ) (o : Option Error) (b : Wire) → list_any tells (end_tickets c o b) ≡ false
end_plain c None b = refl
end_plain c (Some e) b = plain-append (cancels_done c b) (ticket.OpeningFailed c None e ∷ []) (at_plain c b.requests) refl

answer_plain : (c : ℕ) (k : ReplyKind) (a : Answer) → brings_message (incoming.Reply c k a) ≡ false → tells (ticket.Answered 0 (Ok a)) ≡ false
answer_plain c k (answer.Got (Some m)) h = absurd cc
answer_plain c k (answer.Got None) h = refl
answer_plain c k answer.Done h = refl
answer_plain c k _ h = refl

close_plain : (l : ConnectionPhase) (code : ℕ) (b : Wire) → list_any tells (connection_close_tickets l code b) ≡ false
close_plain (link.Closing stage.Queued) code b = failed_plain (error.ProtocolError code) b
close_plain (link.Closing s) code b = refl
close_plain link.Open code b = failed_plain (error.ProtocolError code) b
close_plain link.Closed code b = failed_plain (error.ProtocolError code) b
close_plain link.Lost code b = failed_plain (error.ProtocolError code) b

consumer_plain : (c : ℕ) (p : ConsumerPart) (b : Wire) → list_any tells (consumer_tickets c p b) ≡ false
consumer_plain c (consumer.ConsumeOk tag) b = resolved_plain (answer.Consumer (next_consumer b.deliveries)) (ticket_of (first_request reply_kind.BasicConsumeOk (requests_of c b))) refl
consumer_plain c (consumer.CancelOk tag) b = resolved_plain answer.Done (ticket_of (first_request reply_kind.BasicCancelOk (requests_of c b))) refl
consumer_plain c consumer.RecoverOk b = resolved_plain answer.Done (ticket_of (first_request reply_kind.BasicRecoverOk (requests_of c b))) refl
consumer_plain c (consumer.Cancel tag nowait) b = refl

received_plain : (i : Incoming) (b : Wire) → ((c : ℕ) → IsQuiet c i) → list_any tells (received_tickets i b) ≡ false
received_plain (incoming.Reply c k a) b q = resolved_plain a (ticket_of (first_request k (requests_of c b))) (answer_plain c k a (q 0).1)
received_plain (incoming.Content c p) b q = let w : true ≡ false = sym (eq-eqb c c refl) ∙ (q c).0 in absurd cc
received_plain (incoming.Consumer c p) b q = consumer_plain c p b
received_plain (incoming.ChannelClose c code) b q = list_any-append tells (cancels_done c b) _ ∙ rw (at_plain c b.requests) refl
received_plain (incoming.ChannelCloseOk c) b q = plain-append (resolved_with (Ok answer.Done) (close_ticket c b)) (end_tickets c (close_ok_end (phase_of c b)) b) (resolved_plain answer.Done (close_ticket c b) refl) (end_plain c (close_ok_end (phase_of c b)) b)
received_plain (incoming.ConnectionClose code) b q = close_plain b.link code b
received_plain incoming.ConnectionCloseOk b q = resolved_plain answer.Done (ticket_of (first_request reply_kind.ConnectionCloseOk (requests_of 0 b))) refl
received_plain (incoming.Flow c active) b q = refl
received_plain (incoming.Settlement c s) b q = refl
received_plain incoming.Other b q = refl

untold_gives : (m : TicketMark) → tells m ≡ false → gives m ≡ false
untold_gives (ticket.Given c a) h = absurd cc
untold_gives _ h = refl

pub plain_gives : (xs : List TicketMark) → list_any tells xs ≡ false → list_any gives xs ≡ false
plain_gives xs h = any-less tells gives untold_gives xs h

pub tickets_plain : (i : Incoming) (x : Record) (b : Wire) → is_refusal x ≡ false → ((c : ℕ) → IsQuiet c i) → list_any tells (incoming_tickets i x b) ≡ false
tickets_plain i (record_.Refused e) b r q = absurd cc
tickets_plain i record_.Received b r q = received_plain i b q
tickets_plain i _ b r q = refl

-- ---- a whole content of a get

-- of which get it is, and what it holds
pub record WholeGet (k : ℕ) (e : Expected) (p : Properties) (bytes : List ℕ) (c acker : ℕ) (message : BasicGetMessage) : Type 0 where
  pub tag : ℕ
  pub exchange : List ℕ
  pub key : List ℕ
  pub redelivered : Bool
  pub count : ℕ
  pub starts : e.start ≡ start.Get (Some k) tag exchange key redelivered count
  pub is : message ≡ got_message c acker tag exchange key redelivered count (record { start = e.start; properties = p; payload = bytes })

pub whole_get : (k : ℕ) (e : Expected) (p : Properties) (bytes : List ℕ) (c acker : ℕ) (message : BasicGetMessage) → Answers k (start_tickets c acker e.start (record { start = e.start; properties = p; payload = bytes })) (Ok (answer.Got (Some message))) → WholeGet k e p bytes c acker message
whole_get k e p bytes c acker message a = by e.start refl a
  where
    by : (s : Beginning) → e.start ≡ s → Answers k (start_tickets c acker s (record { start = e.start; properties = p; payload = bytes })) (Ok (answer.Got (Some message))) → WholeGet k e p bytes c acker message
    by (start.Get t tag exchange key redelivered count) q a =
        let r = resolved_is k t (Ok (answer.Got (Some (got_message c acker tag exchange key redelivered count (record { start = e.start; properties = p; payload = bytes }))))) (Ok (answer.Got (Some message))) a in
        let same = r.1 in
        let m : got_message c acker tag exchange key redelivered count (record { start = e.start; properties = p; payload = bytes }) ≡ message = cc in
        record { tag = tag; exchange = exchange; key = key; redelivered = redelivered; count = count; starts = q ∙ ap (λ v. start.Get v tag exchange key redelivered count) r.0; is = sym m }
    by (start.Deliver consumer tag exchange key redelivered) q a = absurd (none_answers k (Ok (answer.Got (Some message))) a)
    by (start.Return code text exchange key) q a = absurd (none_answers k (Ok (answer.Got (Some message))) a)
