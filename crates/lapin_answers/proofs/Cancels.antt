-- An open `basic.cancel` is that of a call; and what the ends of openings make of those that are open.
use Rattle.std.proofs.Common.{◌≡◌, ◌∙◌, ℕ, ◌≤◌, ◌==◌, Bool, true, false, cond, ◌||◌, List, [], ◌∷◌, ◌++◌, Option, Some, None, Result, Ok, Err, inl, inr, refl, sym, ap, subst, append-nil, append_assoc, eq-eqb}
use Rattle.std.specs.List.{filter, list_any}
use Rattle.std.specs.Option.{option_or}
use Rattle.std.proofs.lemmas.Bool.Decides.{eqb_tells}
use Rattle.lapin_tables.specs.ByChannel.{at_channel}
use Rattle.lapin_types.specs.declared.answer.Answer.{Answer}
use Rattle.lapin_types.specs.declared.answer.Answer.TheVariants as answer
use Rattle.lapin_types.specs.declared.event.Event.{Event}
use Rattle.lapin_types.specs.declared.event.Event.TheVariants as event
use Rattle.lapin_types.specs.declared.leaving.Left.{Left}
use Rattle.lapin_types.specs.declared.record.Record.{Record}
use Rattle.lapin_types.specs.declared.request.Request.{Request}
use Rattle.lapin_types.specs.declared.request.ReplyKind.TheVariants as reply_kind
use Rattle.lapin_types.specs.Requests.{kind_of}
use Rattle.lapin_types.specs.Types.{Frame, Method, Error}
use Rattle.lapin_types.specs.Types.channel_state as state
use Rattle.lapin_content.specs.Contents.{Expected}
use Rattle.lapin_rules.specs.declared.broker_frames.Incoming.{Incoming}
use Rattle.lapin_rules.specs.Ends.{done_with, cancels_at, cancels_on}
use Rattle.lapin_rules.specs.Events.{after_event}
use Rattle.lapin_rules.specs.Handing.{handed_out, began_on}
use Rattle.lapin_rules.specs.History.{History, Past, past, rec, readings_of}
use Rattle.lapin_rules.specs.Leaving.{left_lists}
use Rattle.lapin_rules.specs.Phases.{is_up}
use Rattle.lapin_rules.specs.Requests.{is_kind, requests_in, resolved_with}
use Rattle.lapin_rules.specs.TicketReadings.{gives}
use Rattle.lapin_rules.specs.TicketReadings as ticket
use Rattle.lapin_rules.specs.Wire.{Wire, requests_of, receives_on, lists_of, with_lists}
use Rattle.lapin_broker.specs.Sends.{may}
use Rattle.lapin_joint.specs.declared.step.Step.{Step}
use Rattle.lapin_joint.specs.declared.step.Step.TheVariants as step
use Rattle.lapin_joint.specs.Joint.{Joint, is_lawful, client, read_first, send_down, deliver_first, after, joined_to}
use Rattle.lapin_machine.specs.Way.{by_history}
use Rattle.lapin_concord.proofs.Views.{requests_at}
use Rattle.lapin_effects.specs.Effects.{is_next, hears}
use Rattle.lapin_verdicts.specs.Session.{past_of}
use Rattle.lapin_verdicts.proofs.Runs.{past-push, joined-push}
use Rattle.lapin_answers.specs.Calls.{IsCallOf}
use Rattle.lapin_answers.specs.Closes.{is_ticket, is_open_cancel}
use Rattle.lapin_answers.proofs.Closed.{either, no_gives, done_gives, done_is}
use Rattle.lapin_answers.proofs.Happens.{event_turn}
use Rattle.lapin_answers.proofs.Lets.{sent_requests}
use Rattle.lapin_answers.proofs.Lists.{asks, open_asks, asked_same}
use Rattle.lapin_answers.proofs.Running.{stands_in}
use Rattle.lapin_answers.proofs.Standing.{AreAsks}
use Rattle.lapin_answers.proofs.Tickets.{Answers, none_answers, resolved_is}
use Rattle.lapin_answers.proofs.Turns.{Turn, Stays, Grows, Shrinks, Begins, Ends, Sinks}
use Rattle.lapin_tables.proofs.Bools.{or_true}

-- ---- an open cancel is of a call

cancel_asks : (n : ℕ) (rs : List Request) → list_any (λ (r : Request). is_ticket n r.ticket) (filter (is_kind reply_kind.BasicCancelOk) rs) ≡ true → list_any (λ (r : Request). is_ticket n r.ticket) (filter asks rs) ≡ true
cancel_asks n [] h = h
cancel_asks n (r ∷ rs) h = by (cancel_asks n rs) (is_kind reply_kind.BasicCancelOk r) refl
  where
    or_more : (v : Bool) (xs : List Request) → list_any (λ (r : Request). is_ticket n r.ticket) (filter asks rs) ≡ true → list_any (λ (r : Request). is_ticket n r.ticket) (cond v (r ∷ filter asks rs) (filter asks rs)) ≡ true
    or_more true xs i = ap (λ v. is_ticket n r.ticket || v) i ∙ or_true (is_ticket n r.ticket)
    or_more false xs i = i

    by : (list_any (λ (r : Request). is_ticket n r.ticket) (filter (is_kind reply_kind.BasicCancelOk) rs) ≡ true → list_any (λ (r : Request). is_ticket n r.ticket) (filter asks rs) ≡ true) → (v : Bool) → is_kind reply_kind.BasicCancelOk r ≡ v → list_any (λ (r : Request). is_ticket n r.ticket) (cond (asks r) (r ∷ filter asks rs) (filter asks rs)) ≡ true
    by again false e = or_more (asks r) rs (again (ap (λ v. list_any (λ (r : Request). is_ticket n r.ticket) (cond v (r ∷ filter (is_kind reply_kind.BasicCancelOk) rs) (filter (is_kind reply_kind.BasicCancelOk) rs))) (sym e) ∙ h))
    by again true e =
        let a : asks r ≡ true = asked_same (kind_of r.reply) reply_kind.BasicCancelOk e in
        let here : (is_ticket n r.ticket || list_any (λ (r : Request). is_ticket n r.ticket) (filter (is_kind reply_kind.BasicCancelOk) rs)) ≡ true = ap (λ v. list_any (λ (r : Request). is_ticket n r.ticket) (cond v (r ∷ filter (is_kind reply_kind.BasicCancelOk) rs) (filter (is_kind reply_kind.BasicCancelOk) rs))) (sym e) ∙ h in
        ap (λ v. list_any (λ (r : Request). is_ticket n r.ticket) (cond v (r ∷ filter asks rs) (filter asks rs))) a ∙ at (is_ticket n r.ticket) here
      where
        at : (v : Bool) → (v || list_any (λ (r : Request). is_ticket n r.ticket) (filter (is_kind reply_kind.BasicCancelOk) rs)) ≡ true → (v || list_any (λ (r : Request). is_ticket n r.ticket) (filter asks rs)) ≡ true
        at true i = refl
        at false i = again i

ticket_is : (n : ℕ) (o : Option ℕ) → is_ticket n o ≡ true → o ≡ Some n
ticket_is n None h = absurd cc
ticket_is n (Some t) h = elim (eqb_tells t n) [ inl y ↦ ap Some y.1 | inr y ↦ let w : true ≡ false = sym h ∙ y.0 in absurd cc ]

ask_call : (n c : ℕ) (h : History) (ls : List Left) (rs : List Request) → AreAsks h c ls rs → list_any (λ (r : Request). is_ticket n r.ticket) rs ≡ true → (m : Method) × IsCallOf n c m h
ask_call n c h [] [] k i = absurd cc
ask_call n c h [] (r ∷ rs) k i = absurd k
ask_call n c h (l ∷ ls) [] k i = absurd k
ask_call n c h (l ∷ ls) (r ∷ rs) k i = by (λ j. ask_call n c h ls rs k.1 j) (is_ticket n r.ticket) refl i
  where
    by : (list_any (λ (r : Request). is_ticket n r.ticket) rs ≡ true → (m : Method) × IsCallOf n c m h) → (v : Bool) → is_ticket n r.ticket ≡ v → (v || list_any (λ (r : Request). is_ticket n r.ticket) rs) ≡ true → (m : Method) × IsCallOf n c m h
    by again true e i = let call = k.0.call n (ticket_is n r.ticket e) in (call.0, call.1)
    by again false e i = again i

-- ---- on the connection's own channel nothing asks

deaf_zero : (b : Wire) → hears 0 b ≡ false
deaf_zero b = elim (is_up b.link) as (λ v. receives_on (cond v state.Base state.Down) ≡ false) [ true ↦ refl | false ↦ refl ]

not_both : {P : Type 0} (v : Bool) → v ≡ true → v ≡ false → P
not_both v t f = let w : true ≡ false = sym t ∙ f in absurd cc

turn_quiet : (e : Event) (x : Record) (i : Option Incoming) (a u v : Bool) (rs rs' : List Request) (ws ws' : List Left) (es : List Expected) → Turn 0 e x i a u v rs rs' ws ws' es → u ≡ false → v ≡ false → rs ≡ [] → rs' ≡ []
turn_quiet e x i a u v rs rs' ws ws' es (Stays calm hear open_ waits) p q r = open_ ∙ r
turn_quiet e x i a u v rs rs' ws ws' es (Grows calm heard hear l y open_ waits fresh) p q r = not_both u heard p
turn_quiet e x i a u v rs rs' ws ws' es (Shrinks k comes asked heard hear open_ waits) p q r = not_both u heard p
turn_quiet e x i a u v rs rs' ws ws' es (Begins opens lives heard hear open_ waits) p q r = not_both v hear q
turn_quiet e x i a u v rs rs' ws ws' es (Ends over open_ waits dropped) p q r = open_
turn_quiet e x i a u v rs rs' ws ws' es (Sinks heard over open_ waits) p q r = open_ r

module _ (n : ℕ) where
  abbrev IsIdle : History → Type 0
  IsIdle h = open_asks 0 (past n h).wire ≡ []

  push_idle : (h : History) (e : Event) → open_asks 0 (after_event (past n h).wire e (rec n h e)) ≡ [] → IsIdle (h ++ (e, rec n h e) ∷ [])
  push_idle h e i = ap (λ (p : Past). open_asks 0 p.wire) (past-push n h e (rec n h e)) ∙ i

  other_idle : (h : History) (e : Event) → is_next e ≡ false → IsIdle h → IsIdle (h ++ (e, rec n h e) ∷ [])
  other_idle h e apart i =
      let b : Wire = (past n h).wire in
      push_idle h e (turn_quiet e (rec n h e) _ _ _ _ _ _ _ _ _ (event_turn 0 b (readings_of (past n h).confirms (past n h).tickets) e apart) (deaf_zero b) (deaf_zero (after_event b e (rec n h e))) i)

  next_idle : (h : History) (flow : Bool) → IsIdle h → IsIdle (h ++ (event.Next flow, rec n h (event.Next flow)) ∷ [])
  next_idle h flow i =
      let b : Wire = (past n h).wire in
      let t = began_on (rec n h (event.Next flow)) in
      push_idle h (event.Next flow) (ap (λ v. filter asks (requests_at 0 v)) (sent_requests (handed_out t b) (with_lists (left_lists b.frame_max t (lists_of b)) b)) ∙ i)

  event_idle : (h : History) (e : Event) → IsIdle h → IsIdle (h ++ (e, rec n h e) ∷ [])
  event_idle h (event.Next flow) i = next_idle h flow i
  event_idle h (event.Call c k) i = other_idle h (event.Call c k) refl i
  event_idle h (event.Receive f) i = other_idle h (event.Receive f) refl i
  event_idle h (event.PollTicket k) i = other_idle h (event.PollTicket k) refl i
  event_idle h (event.PollConfirm k) i = other_idle h (event.PollConfirm k) refl i
  event_idle h (event.PollConsumer k) i = other_idle h (event.PollConsumer k) refl i
  event_idle h (event.PollWait c) i = other_idle h (event.PollWait c) refl i
  event_idle h (event.AsideTicket k) i = other_idle h (event.AsideTicket k) refl i
  event_idle h (event.AsideConfirm k) i = other_idle h (event.AsideConfirm k) refl i
  event_idle h (event.Acker k a) i = other_idle h (event.Acker k a) refl i
  event_idle h (event.Delegate k) i = other_idle h (event.Delegate k) refl i
  event_idle h (event.DropConsumer k) i = other_idle h (event.DropConsumer k) refl i
  event_idle h event.NextJob i = other_idle h event.NextJob refl i
  event_idle h (event.State c) i = other_idle h (event.State c) refl i
  event_idle h event.Lost i = other_idle h event.Lost refl i

  step_idle : (s : Step) (j : Joint History) → IsIdle j.session → IsIdle (after (by_history n) s j).session
  step_idle (step.Client e) j i = elim (is_lawful e) as (λ v. IsIdle (cond v (client (by_history n) e j) j).session) [ true ↦ event_idle j.session e i | false ↦ i ]
  step_idle step.Read j i = by j.up
    where
      by : (ls : List Left) → IsIdle (read_first ls j).session
      by [] = i
      by (l ∷ ls) = i
  step_idle (step.Send f) j i = elim (may j.broker f) as (λ v. IsIdle (cond v (send_down f j) j).session) [ true ↦ i | false ↦ i ]
  step_idle step.Deliver j i = by j.down
    where
      by : (fs : List Frame) → IsIdle (deliver_first (by_history n) fs j).session
      by [] = i
      by (f ∷ fs) = event_idle j.session (event.Receive f) i
  step_idle step.Lose j i = event_idle j.session event.Lost i

  from_run : (pre ss : List Step) → IsIdle (joined_to n pre).session → IsIdle (joined_to n (pre ++ ss)).session
  from_run pre [] i = subst (λ v. IsIdle (joined_to n v).session) (sym (append-nil pre)) i
  from_run pre (s ∷ ss) i =
      let one : IsIdle (joined_to n (pre ++ s ∷ [])).session = subst (λ (j : Joint History). IsIdle j.session) (sym (joined-push n pre s)) (step_idle s (joined_to n pre) i) in
      subst (λ v. IsIdle (joined_to n v).session) (append_assoc pre (s ∷ []) ss) (from_run (pre ++ s ∷ []) ss one)

  idle_in : (ss : List Step) → IsIdle (joined_to n ss).session
  idle_in ss = from_run [] ss refl

-- ---- the call of an open cancel

cancel_on : (n : ℕ) → 4096 ≤ n → (c : ℕ) → (c == 0) ≡ false → (k : ℕ) (ss : List Step) → is_open_cancel k c (past_of n ss).wire ≡ true → (m : Method) × IsCallOf k c m (joined_to n ss).session
cancel_on n big c z k ss h = by (hears c (past_of n ss).wire) refl
  where
    some : list_any (λ (r : Request). is_ticket k r.ticket) (open_asks c (past_of n ss).wire) ≡ true
    some = cancel_asks k (requests_of c (past_of n ss).wire) h

    by : (v : Bool) → hears c (past_of n ss).wire ≡ v → (m : Method) × IsCallOf k c m (joined_to n ss).session
    by true u = let g = (stands_in n c big z ss).going u in ask_call k c (joined_to n ss).session g.rest (open_asks c (past_of n ss).wire) g.are some
    by false u = let q = (stands_in n c big z ss).quiet u in let w : false ≡ true = ap (list_any (λ (r : Request). is_ticket k r.ticket)) (sym q.0) ∙ some in absurd cc

pub cancel_call : (n : ℕ) → 4096 ≤ n → (c k : ℕ) (ss : List Step) → is_open_cancel k c (past_of n ss).wire ≡ true → (m : Method) × IsCallOf k c m (joined_to n ss).session
cancel_call n big c k ss h = elim (eqb_tells c 0) [
  | inl y ↦
      let some : list_any (λ (r : Request). is_ticket k r.ticket) (open_asks 0 (past_of n ss).wire) ≡ true = cancel_asks k (requests_of 0 (past_of n ss).wire) (subst (λ v. is_open_cancel k v (past_of n ss).wire ≡ true) y.1 h) in
      let w : false ≡ true = ap (list_any (λ (r : Request). is_ticket k r.ticket)) (sym (idle_in n ss)) ∙ some in
      absurd cc
  | inr y ↦ cancel_on n big c y.0 k ss h
]

-- ---- marks

pub done_answer : (n : ℕ) (rs : List Request) (a : Answer) → Answers n (done_with rs) (Ok a) → a ≡ answer.Done
done_answer n [] a s = absurd (none_answers n (Ok a) s)
done_answer n (r ∷ rs) a s = elim (either n (resolved_with (Ok answer.Done) r.ticket) (done_with rs) (Ok a) s) [
  | inl t ↦ same a (resolved_is n r.ticket (Ok answer.Done) (Ok a) t).1
  | inr t ↦ done_answer n rs a t
]
  where
    same : (a : Answer) → ◌≡◌ {A = Result Answer Error} (Ok answer.Done) (Ok a) → a ≡ answer.Done
    same a h = cc

abbrev pub is_cancel_at : ℕ → ℕ → List (ℕ × List Request) → Bool
is_cancel_at n c all = list_any (λ (r : Request). is_ticket n r.ticket) (filter (is_kind reply_kind.BasicCancelOk) (requests_in (at_channel c all)))

-- the cancel of a channel among these
pub on_is : (n : ℕ) (cs : List ℕ) (all : List (ℕ × List Request)) (a : Answer) → Answers n (cancels_on cs all) (Ok a) → (c : ℕ) × (list_any (λ d. d == c) cs ≡ true) × (is_cancel_at n c all ≡ true) × (a ≡ answer.Done)
on_is n [] all a s = absurd (none_answers n (Ok a) s)
on_is n (c ∷ cs) all a s = elim (either n (cancels_at c all) (cancels_on cs all) (Ok a) s) [
  | inl t ↦ (c, ap (λ v. v || list_any (λ d. d == c) cs) (eq-eqb c c refl), done_is n (filter (is_kind reply_kind.BasicCancelOk) (requests_in (at_channel c all))) (Ok a) t, done_answer n (filter (is_kind reply_kind.BasicCancelOk) (requests_in (at_channel c all))) a t)
  | inr t ↦ (let r = on_is n cs all a t in (r.0, ap (λ v. (c == r.0) || v) r.1 ∙ or_true (c == r.0), r.2, r.3))
]

pub on_gives : (cs : List ℕ) (all : List (ℕ × List Request)) → list_any gives (cancels_on cs all) ≡ false
on_gives [] all = refl
on_gives (c ∷ cs) all = no_gives (cancels_at c all) (cancels_on cs all) (done_gives (filter (is_kind reply_kind.BasicCancelOk) (requests_in (at_channel c all)))) (on_gives cs all)

pub failed_not : {P : Type 0} (n c : ℕ) (o : Option ℕ) (e : Error) (a : Answer) → Answers n (ticket.OpeningFailed c o e ∷ []) (Ok a) → P
failed_not n c o e a s = absurd (by _ s.is)
  where
    by : (v : Bool) → option_or (cond v (Some (Err e)) None) None ≡ Some (Ok a) → ⊥
    by true t = cc
    by false t = cc

pub all_not : {P : Type 0} (n : ℕ) (e : Error) (a : Answer) → Answers n (ticket.AllFailed e ∷ []) (Ok a) → P
all_not n e a s = absurd (by s.is)
  where
    by : option_or (Some (Err e)) None ≡ Some (Ok a) → ⊥
    by t = cc
