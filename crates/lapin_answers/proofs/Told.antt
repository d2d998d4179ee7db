-- Each answer that a ticket has was given by one step of the run, and by what of the broker's.
use Rattle.std.proofs.Common.{◌≡◌, ◌∙◌, ℕ, zero, suc, ◌≤◌, Bool, true, false, cond, ◌&&◌, List, [], ◌∷◌, ◌++◌, Option, Some, None, Result, Ok, inl, inr, refl, sym, ap, subst, append-nil, append_assoc, eq-eqb}
use Rattle.std.specs.Option.{option_or}
use Rattle.std.proofs.lemmas.Bool.{cases_lt}
use Rattle.lapin_types.specs.declared.answer.Answer.{Answer}
use Rattle.lapin_types.specs.declared.answer.Answer.TheVariants as answer
use Rattle.lapin_types.specs.declared.event.Event.{Event}
use Rattle.lapin_types.specs.declared.event.Event.TheVariants as event
use Rattle.lapin_types.specs.declared.leaving.Left.{Left}
use Rattle.lapin_types.specs.declared.request.ReplyKind.TheVariants as reply_kind
use Rattle.lapin_types.specs.Types.{Frame, Error}
use Rattle.lapin_types.specs.Types.frame
use Rattle.lapin_types.specs.Types.method
use Rattle.lapin_types.specs.Types.channel
use Rattle.lapin_rules.specs.declared.broker_frames.ConsumerPart.TheVariants as consumer
use Rattle.lapin_rules.specs.declared.broker_frames.ContentPart.TheVariants as part
use Rattle.lapin_rules.specs.declared.broker_frames.Incoming.{Incoming}
use Rattle.lapin_rules.specs.declared.broker_frames.Incoming.TheVariants as incoming
use Rattle.lapin_rules.specs.Consumers.{next_consumer}
use Rattle.lapin_rules.specs.Events.{ticket_marks}
use Rattle.lapin_rules.specs.History.{Past, past, rec, History}
use Rattle.lapin_rules.specs.Incoming.{incoming_of}
use Rattle.lapin_rules.specs.Receiving.{received_tickets}
use Rattle.lapin_rules.specs.Requests.{first_request, ticket_of, resolved_with}
use Rattle.lapin_rules.specs.TicketReadings.{TicketMark, gives, answer_of, first_answer, channel_of as ticket_channel, channel_in, leaving_of, leaving_in, life}
use Rattle.lapin_rules.specs.Words.{many, nth, rest_after}
use Rattle.lapin_rules.specs.Wire.{Wire, requests_of}
use Rattle.lapin_broker.specs.Frames.{channel_of}
use Rattle.lapin_broker.specs.Sends.{may}
use Rattle.lapin_joint.specs.declared.step.Step.{Step}
use Rattle.lapin_joint.specs.declared.step.Step.TheVariants as step
use Rattle.lapin_joint.specs.Joint.{Joint, is_lawful, client, read_first, send_down, deliver_first, after, joined_to}
use Rattle.lapin_machine.specs.Way.{by_history}
use Rattle.lapin_concord.specs.Incomes.{income_as}
use Rattle.lapin_verdicts.specs.Answers.{replies, is_open_ok}
use Rattle.lapin_verdicts.specs.Session.{past_of}
use Rattle.lapin_verdicts.proofs.Runs.{joined-push, past-push}
use Rattle.lapin_verdicts.proofs.Turns.{life-append}
use Rattle.lapin_answers.specs.Causes.{Resolves}
use Rattle.lapin_answers.specs.Causes as cause
use Rattle.lapin_answers.specs.Told.{AnswersAreTheirOwn, IsAnswerBy, IsGivenBy, said_by}
use Rattle.lapin_answers.specs.Told as told
use Rattle.lapin_answers.proofs.Awaited.{awaited}
use Rattle.lapin_answers.proofs.Cancels.{cancel_call}
use Rattle.lapin_answers.proofs.Causes.{answers_by, close_done, resolved, same_answer}
use Rattle.lapin_answers.proofs.Closed.{closed}
use Rattle.lapin_answers.proofs.Ended.{end_is, ended}
use Rattle.lapin_answers.proofs.GetAnswer.{got_message_is}
use Rattle.lapin_answers.proofs.OpenOks.{opened}
use Rattle.lapin_answers.proofs.Received.{none_after}
use Rattle.lapin_answers.proofs.Replying.{replied}
use Rattle.lapin_answers.proofs.Rows.{is_reply_down, reply_comes}
use Rattle.lapin_answers.proofs.Tickets.{answers-append, none_answers, one-append, resolved_is, resolved_gives, rest_missing}

-- ---- an answer stays

stays : (ms xs : List TicketMark) (k : ℕ) (y : Result Answer Error) → answer_of k ms ≡ Some y → answer_of k (ms ++ xs) ≡ Some y
stays ms xs zero y h = absurd cc
stays ms xs (suc k) y h =
    let c : ℕ = ticket_channel (suc k) ms in
    let l = leaving_of (suc k) ms in
    elim (cases_lt k (many gives ms)) [
      | inl lt ↦
          let one : nth gives (suc k) (ms ++ xs) ≡ nth gives (suc k) ms = one-append gives k ms xs lt in
          let more : life (suc k) (ms ++ xs) ≡ life (suc k) ms ++ xs = life-append gives k ms xs lt in
          let both = answers-append (suc k) c l false (life (suc k) ms) xs in
          ap (λ o. first_answer (suc k) (channel_in o) (leaving_in o) false (life (suc k) (ms ++ xs))) one
          ∙ (ap (first_answer (suc k) c l false) more ∙ (both.1 ∙ ap (λ o. option_or o (first_answer (suc k) c l both.0 xs)) h))
      | inr le ↦
          let none : life (suc k) ms ≡ [] = ap (rest_after gives k) (sym (append-nil ms)) ∙ rest_missing gives k ms [] le refl in
          let w : None ≡ Some y = ap (first_answer (suc k) c l false) (sym none) ∙ h in
          absurd cc
    ]

-- ---- each step appends to what happened to tickets

abbrev tickets_at : ℕ → Joint History → List TicketMark
tickets_at n j = (past n j.session).tickets

abbrev Grows : ℕ → Joint History → Joint History → Type 0
Grows n j i = (more : List TicketMark) × (tickets_at n i ≡ tickets_at n j ++ more)

met : (n : ℕ) (j : Joint History) (e : Event) → (past n (j.session ++ (e, rec n j.session e) ∷ [])).tickets ≡ tickets_at n j ++ ticket_marks (past n j.session).wire e (rec n j.session e)
met n j e = ap (λ (p : Past). p.tickets) (past-push n j.session e (rec n j.session e))

same_grows : (n : ℕ) (j : Joint History) → Grows n j j
same_grows n j = ([], sym (append-nil (tickets_at n j)))

client_grows : (n : ℕ) (v : Bool) (e : Event) (j : Joint History) → Grows n j (cond v (client (by_history n) e j) j)
client_grows n true e j = (ticket_marks (past n j.session).wire e (rec n j.session e), met n j e)
client_grows n false e j = same_grows n j

read_grows : (n : ℕ) (ls : List Left) (j : Joint History) → Grows n j (read_first ls j)
read_grows n [] j = same_grows n j
read_grows n (l ∷ ls) j = same_grows n j

send_grows : (n : ℕ) (v : Bool) (f : Frame) (j : Joint History) → Grows n j (cond v (send_down f j) j)
send_grows n true f j = same_grows n j
send_grows n false f j = same_grows n j

deliver_grows : (n : ℕ) (fs : List Frame) (j : Joint History) → Grows n j (deliver_first (by_history n) fs j)
deliver_grows n [] j = same_grows n j
deliver_grows n (f ∷ fs) j = (ticket_marks (past n j.session).wire (event.Receive f) (rec n j.session (event.Receive f)), met n j (event.Receive f))

grows : (n : ℕ) (s : Step) (j : Joint History) → Grows n j (after (by_history n) s j)
grows n (step.Client e) j = client_grows n (is_lawful e) e j
grows n step.Read j = read_grows n j.up j
grows n (step.Send f) j = send_grows n (may j.broker f) f j
grows n step.Deliver j = deliver_grows n j.down j
grows n step.Lose j = (ticket_marks (past n j.session).wire event.Lost (rec n j.session event.Lost), met n j event.Lost)

stays_step : (n k : ℕ) (y : Result Answer Error) (ss : List Step) (s : Step) → answer_of k (past_of n ss).tickets ≡ Some y → answer_of k (past_of n (ss ++ s ∷ [])).tickets ≡ Some y
stays_step n k y ss s h =
    let g = grows n s (joined_to n ss) in
    ap (λ (i : Joint History). answer_of k (past n i.session).tickets) (joined-push n ss s) ∙ (ap (answer_of k) g.1 ∙ stays (past_of n ss).tickets g.0 k y h)

stays_run : (n k : ℕ) (y : Result Answer Error) (ss more : List Step) → answer_of k (past_of n ss).tickets ≡ Some y → answer_of k (past_of n (ss ++ more)).tickets ≡ Some y
stays_run n k y ss [] h = ap (λ v. answer_of k (past_of n v).tickets) (append-nil ss) ∙ h
stays_run n k y ss (s ∷ more) h = ap (λ v. answer_of k (past_of n v).tickets) (sym (append_assoc ss (s ∷ []) more)) ∙ stays_run n k y (ss ++ s ∷ []) more (stays_step n k y ss s h)

-- ---- the step that gave it

-- a ticket got this answer by one step of the run, and had none before it
record Given (n k : ℕ) (a : Answer) (ss : List Step) : Type 0 where
  before : List Step
  at : Step
  behind : List Step
  all : ss ≡ before ++ at ∷ behind
  was : answer_of k (past_of n before).tickets ≡ None
  now : answer_of k (past_of n (before ++ at ∷ [])).tickets ≡ Some (Ok a)

trace : (n k : ℕ) (a : Answer) (before more : List Step) → answer_of k (past_of n before).tickets ≡ None → answer_of k (past_of n (before ++ more)).tickets ≡ Some (Ok a) → Given n k a (before ++ more)
trace n k a before [] was now = let w : None ≡ Some (Ok a) = sym was ∙ (ap (λ v. answer_of k (past_of n v).tickets) (sym (append-nil before)) ∙ now) in absurd cc
trace n k a before (s ∷ more) was now = by (λ e. trace n k a (before ++ s ∷ []) more e (ap (λ v. answer_of k (past_of n v).tickets) (append_assoc before (s ∷ []) more) ∙ now)) (answer_of k (past_of n (before ++ s ∷ [])).tickets) refl
  where
    by : (answer_of k (past_of n (before ++ s ∷ [])).tickets ≡ None → Given n k a ((before ++ s ∷ []) ++ more)) → (o : Option (Result Answer Error)) → answer_of k (past_of n (before ++ s ∷ [])).tickets ≡ o → Given n k a (before ++ s ∷ more)
    by later None e = subst (Given n k a) (append_assoc before (s ∷ []) more) (later e)
    by later (Some y) e =
        let stood : answer_of k (past_of n ((before ++ s ∷ []) ++ more)).tickets ≡ Some y = stays_run n k y (before ++ s ∷ []) more e in
        let same : Some y ≡ Some (Ok a) = sym stood ∙ (ap (λ v. answer_of k (past_of n v).tickets) (append_assoc before (s ∷ []) more) ∙ now) in
        record { before = before; at = s; behind = more; all = refl; was = was; now = e ∙ same }

none_first : (n k : ℕ) → answer_of k (past_of n []).tickets ≡ None
none_first n zero = refl
none_first n (suc k) = refl

-- ---- what a delivered frame gave

open_sorts : (f : Frame) → is_open_ok f ≡ true → incoming_of f ≡ incoming.Reply (channel_of f) reply_kind.ChannelOpenOk (answer.Channel (channel_of f))
open_sorts (frame.Method c (method.Channel channel.OpenOk)) h = refl
open_sorts _ h = absurd cc

module _ (n : ℕ) (big : 4096 ≤ n) (k : ℕ) (a : Answer) (ss : List Step) (f : Frame) (fs : List Frame) (down : (joined_to n ss).down ≡ f ∷ fs) (was : answer_of k (past_of n ss).tickets ≡ None) (now : answer_of k (past_of n (ss ++ step.Deliver ∷ [])).tickets ≡ Some (Ok a)) where
  abbrev b : Wire
  b = (past_of n ss).wire

  -- a frame that answers the first of these requests with this answer
  by_first : (o : Option ℕ) (v : Answer) → received_tickets (incoming_of f) b ≡ resolved_with (Ok v) o → v ≡ a
  by_first o v is =
      let s = answers_by n big k a ss f fs down was now (resolved_with (Ok v) o) is (resolved_gives o (Ok v)) in
      sym (same_answer v a (resolved_is k o (Ok v) (Ok a) s).1)

  says : (i : Incoming) → incoming_of f ≡ i → is_reply_down (channel_of f) (income_as i) ≡ true → said_by b i ≡ Some a
  says (incoming.Reply c r v) is h = ap Some (by_first (ticket_of (first_request r (requests_of c b))) v (ap (λ x. received_tickets x b) is))
  says (incoming.Consumer c (consumer.ConsumeOk tag)) is h = ap Some (by_first (ticket_of (first_request reply_kind.BasicConsumeOk (requests_of c b))) (answer.Consumer (next_consumer b.deliveries)) (ap (λ x. received_tickets x b) is))
  says (incoming.Consumer c (consumer.CancelOk tag)) is h = ap Some (by_first (ticket_of (first_request reply_kind.BasicCancelOk (requests_of c b))) answer.Done (ap (λ x. received_tickets x b) is))
  says (incoming.Consumer c consumer.RecoverOk) is h = ap Some (by_first (ticket_of (first_request reply_kind.BasicRecoverOk (requests_of c b))) answer.Done (ap (λ x. received_tickets x b) is))
  says (incoming.Consumer c (consumer.Cancel tag nowait)) is h = absurd cc
  says (incoming.Content c (part.GetOk s)) is h = absurd (none_answers k (Ok a) (answers_by n big k a ss f fs down was now [] (ap (λ x. received_tickets x b) is) refl))
  says (incoming.Content c (part.Return s)) is h = absurd cc
  says (incoming.Content c (part.Deliver tag s)) is h = absurd cc
  says (incoming.Content c (part.Header s)) is h = absurd cc
  says (incoming.Content c (part.Body bytes)) is h = absurd cc
  says (incoming.Settlement c s) is h = absurd cc
  says (incoming.Flow c active) is h = absurd cc
  says (incoming.ChannelClose c code) is h = absurd cc
  says (incoming.ChannelCloseOk c) is h = absurd cc
  says (incoming.ConnectionClose code) is h = absurd cc
  says incoming.ConnectionCloseOk is h = absurd cc
  says incoming.Other is h = absurd cc

  by_frame : Resolves (joined_to n ss).session b k a f → IsAnswerBy n ss k a f
  by_frame (cause.AsReply m call is) =
      let c : ℕ = channel_of f in
      let y = replied n big k ss f fs (Ok a) down is was now in
      let on : is_reply_down c (income_as (incoming_of f)) ≡ true = sym (reply_comes c f) ∙ (ap (λ v. v && replies f) (eq-eqb c c refl) ∙ is) in
      told.AsReply y.0 y.1 y.2 (says (incoming_of f) refl on)
  by_frame (cause.AsContent c m call message is) =
      let g = got_message_is n big k ss message was (now ∙ ap (λ v. Some (Ok v)) is) in
      told.AsContent g.0 g.1 g.2 message g.3 is
  by_frame (cause.AsOpenOk call is) =
      let c : ℕ = channel_of f in
      let y = opened n big ss k a f fs down is was now in
      let given : answer.Channel c ≡ a = by_first (ticket_of (first_request reply_kind.ChannelOpenOk (requests_of c b))) (answer.Channel c) (ap (λ x. received_tickets x b) (open_sorts f is)) in
      told.AsOpenOk y.0 y.1 (sym given)
  by_frame (cause.AsCloseOk m call is) = elim (closed n big ss k a f fs down is was now) [
    | inl y ↦ told.AsCloseOk y.0 y.1 y.2 (close_done n big k a ss f fs down was now is)
    | inr y ↦ let call = cancel_call n big (channel_of f) k ss y in told.AsEnd (channel_of f) call.0 call.1 y (close_done n big k a ss f fs down was now is)
  ]
  by_frame (cause.AsEndOk c m call is) =
      let y = ended n big ss k a f fs down is was now in
      let done : answer.Done ≡ a = by_first (ticket_of (first_request reply_kind.ConnectionCloseOk (requests_of 0 b))) answer.Done (ap (λ x. received_tickets x b) (end_is f is)) in
      told.AsEndOk y.0 y.1 y.2 y.3 (sym done)
  by_frame (cause.AsEnd c m call open_ done is) = told.AsEnd c m call open_ done

  pub frame_gives : IsAnswerBy n ss k a f
  frame_gives = by_frame (resolved n big k a ss f fs down was now)

-- ---- the law

module _ (n : ℕ) (big : 4096 ≤ n) (k : ℕ) (a : Answer) (ss : List Step) (was : answer_of k (past_of n ss).tickets ≡ None) where
  abbrev IsGiven : Step → Type 0
  IsGiven s = answer_of k (past_of n (ss ++ s ∷ [])).tickets ≡ Some (Ok a)

  delivered : (fs : List Frame) → (joined_to n ss).down ≡ fs → IsGiven step.Deliver → IsGivenBy n ss step.Deliver k a
  delivered [] down now = let w : None ≡ Some (Ok a) = sym was ∙ (ap (answer_of k) (sym (none_after n ss down)) ∙ now) in absurd cc
  delivered (f ∷ fs) down now = inl (refl, f, fs, down, frame_gives n big k a ss f fs down was now)

  pub step_gives : (s : Step) → IsGiven s → IsGivenBy n ss s k a
  step_gives (step.Client e) now = inr (λ call. elim (awaited n ss k a (step.Client e) call was now) [ inl z ↦ absurd cc | inr y ↦ y ])
  step_gives step.Read now = inr (λ call. elim (awaited n ss k a step.Read call was now) [ inl z ↦ absurd cc | inr y ↦ y ])
  step_gives (step.Send f) now = inr (λ call. elim (awaited n ss k a (step.Send f) call was now) [ inl z ↦ absurd cc | inr y ↦ y ])
  step_gives step.Deliver now = delivered (joined_to n ss).down refl now
  step_gives step.Lose now = inr (λ call. elim (awaited n ss k a step.Lose call was now) [ inl z ↦ absurd cc | inr y ↦ y ])

pub answers_own : (n : ℕ) → 4096 ≤ n → (ss : List Step) → AnswersAreTheirOwn n ss
answers_own n big ss k a now =
    let g : Given n k a ss = trace n k a [] ss (none_first n k) now in
    record { before = g.before; given = g.at; behind = g.behind; all = g.all; open_ = g.was; gives = g.now; by = step_gives n big k a g.before g.was g.at g.now }
