-- In every joined run what a channel asks for stands so.
use Rattle.std.proofs.Common.{◌≡◌, ◌∙◌, ℕ, ◌+◌, ◌≤◌, ◌==◌, Bool, true, false, cond, ◌&&◌, ◌||◌, List, [], ◌∷◌, ◌++◌, map, length, Option, Some, None, refl, sym, ap, subst, append-nil, append_assoc, length-append, arith, eq-eqb}
use Rattle.std.specs.List.{filter, list_any}
use Rattle.std.proofs.lemmas.Bool.{and_parts}
use Rattle.std.proofs.lemmas.List.Elements.{filter-append}
use Rattle.lapin_types.specs.declared.event.Event.{Event}
use Rattle.lapin_types.specs.declared.event.Event.TheVariants as event
use Rattle.lapin_types.specs.declared.leaving.Left.{Left}
use Rattle.lapin_types.specs.declared.record.Record.{Record}
use Rattle.lapin_types.specs.declared.request.ReplyKind.{ReplyKind}
use Rattle.lapin_types.specs.Types.{Frame, ChannelMethod, ExchangeMethod, QueueMethod, BasicMethod, TxMethod}
use Rattle.lapin_types.specs.Types.frame
use Rattle.lapin_types.specs.Types.method
use Rattle.lapin_types.specs.Types.channel
use Rattle.lapin_types.specs.Types.connection
use Rattle.lapin_types.specs.Types.access
use Rattle.lapin_types.specs.Types.exchange
use Rattle.lapin_types.specs.Types.queue
use Rattle.lapin_types.specs.Types.basic
use Rattle.lapin_types.specs.Types.confirm
use Rattle.lapin_types.specs.Types.tx
use Rattle.lapin_types.specs.Types.channel_state as state
use Rattle.lapin_rules.specs.ConfirmReadings.{is_full}
use Rattle.lapin_rules.specs.Events.{after_event}
use Rattle.lapin_rules.specs.Flow.{begins_on}
use Rattle.lapin_rules.specs.Handing.{handed, handed_out, began_on, after_handing}
use Rattle.lapin_rules.specs.History.{History, Past, past, rec, readings_of}
use Rattle.lapin_rules.specs.Incoming.{incoming_of}
use Rattle.lapin_rules.specs.Phases.{is_up, is_live, channel_state}
use Rattle.lapin_rules.specs.Readings.{Readings}
use Rattle.lapin_rules.specs.Requests.{without_kind}
use Rattle.lapin_rules.specs.Wire.{Wire, phase_of, receives_on}
use Rattle.lapin_broker.specs.declared.frames.BrokerFrame.{BrokerFrame}
use Rattle.lapin_broker.specs.declared.frames.BrokerFrame.TheVariants as broker
use Rattle.lapin_broker.specs.Frames.{channel_of, broker_frame, broker_method}
use Rattle.lapin_broker.specs.Sends.{may}
use Rattle.lapin_joint.specs.declared.step.Step.{Step}
use Rattle.lapin_joint.specs.declared.step.Step.TheVariants as step
use Rattle.lapin_joint.specs.Joint.{Joint, is_lawful, handed_by, left_alone, client, read_first, send_down, deliver_first, after, joined_to}
use Rattle.lapin_machine.specs.Way.{by_history}
use Rattle.lapin_joint.specs.Order.{front}
use Rattle.lapin_pairs.specs.Channel.{BOpenOk}
use Rattle.lapin_pairs.specs.Every.{ToD, of_d}
use Rattle.lapin_concord.specs.Frames.{down_kind, down_frame}
use Rattle.lapin_concord.specs.Wires.{reply_number, is_asked}
use Rattle.lapin_concord.specs.Incomes.{income_as}
use Rattle.lapin_concord.proofs.Incomes.{sorted}
use Rattle.lapin_effects.specs.Effects.{is_next, live, hears}
use Rattle.lapin_effects.proofs.Events.{has_effect}
use Rattle.lapin_verdicts.specs.Answers.{replies_as, replies, replies_in, is_open_ok, IsAnswer}
use Rattle.lapin_verdicts.specs.Deeds.{Deed, Read, Sent, is_open, joined_opening, last_opening, lefts, sents, reads_of, deed_in, deeds}
use Rattle.lapin_verdicts.specs.InStep.{is_frame_on, is_open_on, is_open_waiting}
use Rattle.lapin_verdicts.specs.Session.{past_of}
use Rattle.lapin_verdicts.proofs.Answering.{answers_in}
use Rattle.lapin_verdicts.proofs.Assembly.{as_handed, in_run}
use Rattle.lapin_verdicts.proofs.TagCounts.{sents-append, last-push, last-sent}
use Rattle.lapin_verdicts.proofs.First.{first_in}
use Rattle.lapin_verdicts.proofs.Keeping.{no_live}
use Rattle.lapin_verdicts.proofs.Numbering.{AreRest, hears_live}
use Rattle.lapin_verdicts.proofs.Opens.{unsent}
use Rattle.lapin_verdicts.proofs.Owing.{lefts-append, replies-append}
use Rattle.lapin_verdicts.proofs.Runs.{past-push, joined-push, deeds-push, Split, split_at}
use Rattle.lapin_verdicts.proofs.Together.{in_step, way_down, lost_down}
use Rattle.lapin_verdicts.proofs.Unread.{is_unread, unread_at, pairs}
use Rattle.lapin_answers.proofs.Rows.{is_reply_down, reply_comes, IsReplyOf, reply_is}
use Rattle.lapin_answers.proofs.Lists.{open_asks, waiting_asks}
use Rattle.lapin_answers.proofs.Turns as turn
use Rattle.lapin_answers.proofs.Turns.{Calm, Comes}
use Rattle.lapin_answers.proofs.Happens.{income_in, event_turn}
use Rattle.lapin_answers.proofs.Standing.{handed_asks, reply_count, AreAsks, asks_more, Going, Standing, turn_kept, begun_kept}
use Rattle.lapin_answers.proofs.Lets.{next_kept}
use Rattle.lapin_answers.proofs.Answered.{Meets, meets}
use Rattle.lapin_rules.proofs.ListLaws.{many-none}
use Rattle.lapin_tables.proofs.Bools.{or_true}

-- ---- frames on the way down

count_one : (c : ℕ) (f : Frame) (fs : List Frame) → reply_count c (f ∷ fs) ≡ cond ((channel_of f == c) && replies f) (reply_count c fs + 1) (reply_count c fs)
count_one c f fs = by (channel_of f == c) (replies f) refl
  where
    by : (v w : Bool) → replies f ≡ w → length (filter replies (cond v (f ∷ filter (is_frame_on c) fs) (filter (is_frame_on c) fs))) ≡ cond (v && replies f) (reply_count c fs + 1) (reply_count c fs)
    by true true e = rw e (omega arith)
    by true false e = rw e refl
    by false w e = refl

count-sent : (c : ℕ) (fs : List Frame) (f : Frame) → reply_count c (fs ++ f ∷ []) ≡ reply_count c fs + reply_count c (f ∷ [])
count-sent c fs f = ap (λ v. length (filter replies v)) (filter-append (is_frame_on c) fs (f ∷ [])) ∙ (ap length (filter-append replies (filter (is_frame_on c) fs) (filter (is_frame_on c) (f ∷ []))) ∙ length-append (filter replies (filter (is_frame_on c) fs)) (filter replies (filter (is_frame_on c) (f ∷ []))))

calm_count : (c : ℕ) (f : Frame) (fs : List Frame) → is_reply_down c (income_as (incoming_of f)) ≡ false → reply_count c fs ≡ reply_count c (f ∷ fs)
calm_count c f fs h = sym (count_one c f fs ∙ ap (λ v. cond v (reply_count c fs + 1) (reply_count c fs)) (reply_comes c f ∙ h))

cancel_left : {X : Type 0} (xs ys zs : List X) → xs ++ ys ≡ xs ++ zs → ys ≡ zs
cancel_left [] ys zs h = h
cancel_left (x ∷ xs) ys zs h = cancel_left xs ys zs (let w : xs ++ ys ≡ xs ++ zs = cc in w)

-- ---- open-ok

abbrev is_ok : BrokerFrame → Bool
is_ok broker.OpenOk = true
is_ok _ = false

ok_exchange : (c : ℕ) (m : ExchangeMethod) → is_ok (broker_method c (method.Exchange m)) ≡ false
ok_exchange c exchange.DeclareOk = refl
ok_exchange c _ = refl

ok_queue : (c : ℕ) (m : QueueMethod) → is_ok (broker_method c (method.Queue m)) ≡ false
ok_queue c queue.BindOk = refl
ok_queue c _ = refl

ok_basic : (c : ℕ) (m : BasicMethod) → is_ok (broker_method c (method.Basic m)) ≡ false
ok_basic c basic.QosOk = refl
ok_basic c basic.RecoverOk = refl
ok_basic c basic.GetEmpty = refl
ok_basic c _ = refl

ok_tx : (c : ℕ) (m : TxMethod) → is_ok (broker_method c (method.Tx m)) ≡ false
ok_tx c tx.SelectOk = refl
ok_tx c _ = refl

ok_own : (t : Bool) (x : BrokerFrame) → is_ok x ≡ false → is_ok (cond t x broker.Other) ≡ false
ok_own true x h = h
ok_own false x h = refl

no_ok : (P : Type 0) (v : Bool) → v ≡ false → v ≡ true → P
no_ok P v f t = let w : false ≡ true = sym f ∙ t in absurd cc

ok_channel : (c : ℕ) (m : ChannelMethod) → is_ok (broker_method c (method.Channel m)) ≡ true → is_open_ok (frame.Method c (method.Channel m)) ≡ true
ok_channel c channel.OpenOk h = refl
ok_channel c _ h = absurd cc

ok_frame : (f : Frame) → is_ok (broker_frame f) ≡ true → is_open_ok f ≡ true
ok_frame (frame.Header c h) e = absurd cc
ok_frame (frame.Body c bytes) e = absurd cc
ok_frame (frame.Method c (method.Connection (connection.Close code text class number))) e = no_ok _ _ (ok_own (c == 0) broker.ConnectionClose refl) e
ok_frame (frame.Method c (method.Connection connection.CloseOk)) e = no_ok _ _ (ok_own (c == 0) broker.ConnectionCloseOk refl) e
ok_frame (frame.Method c (method.Channel m)) e = ok_channel c m e
ok_frame (frame.Method c (method.Access access.RequestOk)) e = absurd cc
ok_frame (frame.Method c (method.Access (access.Request a b d g h i))) e = absurd cc
ok_frame (frame.Method c (method.Exchange m)) e = no_ok _ _ (ok_exchange c m) e
ok_frame (frame.Method c (method.Queue m)) e = no_ok _ _ (ok_queue c m) e
ok_frame (frame.Method c (method.Basic m)) e = no_ok _ _ (ok_basic c m) e
ok_frame (frame.Method c (method.Confirm confirm.SelectOk)) e = absurd cc
ok_frame (frame.Method c (method.Confirm (confirm.Select nowait))) e = absurd cc
ok_frame (frame.Method c (method.Tx m)) e = no_ok _ _ (ok_tx c m) e

ok_kind : (c d : ℕ) (x : BrokerFrame) → down_kind d x ≡ ToD c BOpenOk → (d ≡ c) × (x ≡ broker.OpenOk)
ok_kind c d broker.OpenOk h = (let w : d ≡ c = cc in w, refl)
ok_kind c d _ h = absurd cc

pub ok_comes : (c : ℕ) (f : Frame) → income_as (incoming_of f) ≡ ToD c BOpenOk → (channel_of f ≡ c) × (broker_frame f ≡ broker.OpenOk) × (is_open_ok f ≡ true)
ok_comes c f h = let k = ok_kind c (channel_of f) (broker_frame f) (sorted f ∙ h) in (k.0, k.1, ok_frame f (ap is_ok k.1))

-- ---- an event, which moves neither link nor deeds

module _ (n c : ℕ) where
  abbrev see : History → Readings
  see h = readings_of (past n h).confirms (past n h).tickets

  abbrev on_event : History → Event → History
  on_event h e = h ++ (e, rec n h e) ∷ []

  abbrev At : History → List Left → List Frame → ℕ → Type 0
  At h ls down k = Standing c h (past n h).wire ls down k

  wire-push : (h : History) (e : Event) → (past n (on_event h e)).wire ≡ after_event (past n h).wire e (rec n h e)
  wire-push h e = ap (λ (p : Past). p.wire) (past-push n h e (rec n h e))

  to_event : (h : History) (e : Event) (ls : List Left) (down : List Frame) (k : ℕ) → Standing c (on_event h e) (after_event (past n h).wire e (rec n h e)) ls down k → At (on_event h e) ls down k
  to_event h e ls down k s = subst (λ b. Standing c (on_event h e) b ls down k) (sym (wire-push h e)) s

  -- whatever but a frame request
  other_kept : (h : History) (e : Event) (ls : List Left) (down down' : List Frame) (k : ℕ) → is_next e ≡ false → (Calm c (income_in e) → reply_count c down' ≡ reply_count c down) → ((r : ReplyKind) → Comes c r (income_in e) → is_asked r ≡ true → hears c (past n h).wire ≡ true → open_asks c (after_event (past n h).wire e (rec n h e)) ≡ without_kind r (open_asks c (past n h).wire) → waiting_asks c (after_event (past n h).wire e (rec n h e)) ≡ waiting_asks c (past n h).wire → Going c (on_event h e) (after_event (past n h).wire e (rec n h e)) ls down' k) → (turn.Opens c (income_in e) → live c (past n h).wire ≡ true → hears c (past n h).wire ≡ false → open_asks c (after_event (past n h).wire e (rec n h e)) ≡ open_asks c (past n h).wire → waiting_asks c (after_event (past n h).wire e (rec n h e)) ≡ waiting_asks c (past n h).wire → Going c (on_event h e) (after_event (past n h).wire e (rec n h e)) ls down' k) → At h ls down k → At (on_event h e) ls down' k
  other_kept h e ls down down' k apart counts takes starts s =
      let b : Wire = (past n h).wire in
      to_event h e ls down' k (turn_kept c h e (rec n h e) (income_in e) b (after_event b e (rec n h e)) ls down down' k (event_turn c b (see h) e apart) (begun_kept c (handed_asks c ls ≡ []) b (after_event b e (rec n h e)) _ _ (has_effect b (see h) e apart) s.begun) counts takes starts s)

  calm_kept : (h : History) (e : Event) (ls : List Left) (down : List Frame) (k : ℕ) → is_next e ≡ false → income_in e ≡ None → At h ls down k → At (on_event h e) ls down k
  calm_kept h e ls down k apart none s = other_kept h e ls down down k apart (λ _. refl) (λ r on. absurd (subst (Comes c r) none on)) (λ on. absurd (subst (turn.Opens c) none on)) s

  -- a frame request
  next_event_kept : (h : History) (flow : Bool) (ls : List Left) (down : List Frame) (k d : ℕ) → AreRest d (past n h).wire.rest → (hears c (past n h).wire ≡ true → unsent c (past n h).wire ≡ 0) → At h ls down k → At (on_event h (event.Next flow)) (ls ++ left_alone (handed flow (λ v. is_full v (past n h).confirms) (past n h).wire)) down k
  next_event_kept h flow ls down k d rest shut s =
      let b : Wire = (past n h).wire in
      let r : Record = rec n h (event.Next flow) in
      let same : handed_out (began_on r) b ≡ handed flow (λ v. is_full v (past n h).confirms) b = as_handed (begins_on flow (λ v. is_full v (past n h).confirms) b) b in
      to_event h (event.Next flow) (ls ++ left_alone (handed flow (λ v. is_full v (past n h).confirms) b)) down k (subst (λ o. Standing c (on_event h (event.Next flow)) (after_handing (began_on r) b) (ls ++ left_alone o) down k) same (next_kept c d (began_on r) h (event.Next flow) r b ls down k rest shut s))

  -- ---- steps

  abbrev sent_in : List Deed → ℕ
  sent_in ds = length (replies_in (last_opening c ds))

  abbrev InRun : Joint History → List Deed → Type 0
  InRun j ds = At j.session (lefts ds ++ j.up) j.down (sent_in ds)

  -- what is known of the run before the step
  pub record Known (j : Joint History) (ds : List Deed) : Type 0 where
    pub rest : (d : ℕ) × AreRest d (past n j.session).wire.rest
    pub shut : hears c (past n j.session).wire ≡ true → (unsent c (past n j.session).wire ≡ 0) × (list_any (is_open_on c) j.up ≡ false)
    pub unread : is_up (past n j.session).wire.link ≡ true → is_unread c (past n j.session).wire j.up ≡ true → of_d c (map down_frame j.down) ≡ []
    pub way : is_up (past n j.session).wire.link ≡ true → (came : List Frame) × (sents (last_opening c ds) ≡ came ++ filter (is_frame_on c) j.down)
    pub answers : (before behind : List Deed) (f : Frame) → last_opening c ds ≡ before ++ Sent f ∷ behind → replies f ≡ true → IsAnswer before f
    pub first : (before behind : List Deed) (f : Frame) → last_opening c ds ≡ before ++ Sent f ∷ behind → is_open_ok f ≡ true → sents before ≡ []

  lefts_more : (ds : List Deed) → lefts (ds ++ []) ≡ lefts ds
  lefts_more ds = ap lefts (append-nil ds)

  same_run : (j : Joint History) (ds : List Deed) → InRun j ds → InRun j (ds ++ [])
  same_run j ds s = subst (InRun j) (sym (append-nil ds)) s

  calm : (e : Event) (j : Joint History) (ds : List Deed) → is_next e ≡ false → income_in e ≡ None → handed_by (by_history n) e j.session ≡ [] → InRun j ds → InRun (client (by_history n) e j) (ds ++ [])
  calm e j ds apart none hand s = subst (λ v. At (on_event j.session e) (lefts v ++ (j.up ++ handed_by (by_history n) e j.session)) j.down (sent_in v)) (sym (append-nil ds)) (subst (λ v. At (on_event j.session e) (lefts ds ++ v) j.down (sent_in ds)) (sym (append-nil j.up) ∙ ap (λ v. j.up ++ v) (sym hand)) (calm_kept j.session e (lefts ds ++ j.up) j.down (sent_in ds) apart none s))

  client_run : (e : Event) (j : Joint History) (ds : List Deed) → is_lawful e ≡ true → Known j ds → InRun j ds → InRun (client (by_history n) e j) (ds ++ [])
  client_run (event.Next flow) j ds l k s =
      let o : Option Left = handed flow (λ d. is_full d (past n j.session).confirms) (past n j.session).wire in
      subst (λ v. At (on_event j.session (event.Next flow)) (lefts v ++ (j.up ++ left_alone o)) j.down (sent_in v)) (sym (append-nil ds))
      (subst (λ v. At (on_event j.session (event.Next flow)) v j.down (sent_in ds)) (append_assoc (lefts ds) j.up (left_alone o))
      (next_event_kept j.session flow (lefts ds ++ j.up) j.down (sent_in ds) k.rest.0 k.rest.1 (λ u. (k.shut u).0) s))
  client_run (event.Receive f) j ds l k s = absurd cc
  client_run event.Lost j ds l k s = absurd cc
  client_run (event.Call d a) j ds l k s = calm (event.Call d a) j ds refl refl refl s
  client_run (event.PollTicket d) j ds l k s = calm (event.PollTicket d) j ds refl refl refl s
  client_run (event.PollConfirm d) j ds l k s = calm (event.PollConfirm d) j ds refl refl refl s
  client_run (event.PollConsumer d) j ds l k s = calm (event.PollConsumer d) j ds refl refl refl s
  client_run (event.PollWait d) j ds l k s = calm (event.PollWait d) j ds refl refl refl s
  client_run (event.AsideTicket d) j ds l k s = calm (event.AsideTicket d) j ds refl refl refl s
  client_run (event.AsideConfirm d) j ds l k s = calm (event.AsideConfirm d) j ds refl refl refl s
  client_run (event.Acker d a) j ds l k s = calm (event.Acker d a) j ds refl refl refl s
  client_run (event.Delegate d) j ds l k s = calm (event.Delegate d) j ds refl refl refl s
  client_run (event.DropConsumer d) j ds l k s = calm (event.DropConsumer d) j ds refl refl refl s
  client_run event.NextJob j ds l k s = calm event.NextJob j ds refl refl refl s
  client_run (event.State d) j ds l k s = calm (event.State d) j ds refl refl refl s

  -- a read
  read_sent : (ds : List Deed) (l : Left) → is_open_on c l ≡ false → sent_in (ds ++ Read l ∷ []) ≡ sent_in ds
  read_sent ds l o = ap (λ v. length (replies_in v)) (last-push c ds (Read l)) ∙ by (channel_of l.frame == c) (is_open l.frame) refl o
    where
      by : (v w : Bool) → is_open l.frame ≡ w → (v && w) ≡ false → length (replies_in (cond v (joined_opening (last_opening c ds) (Read l)) (last_opening c ds))) ≡ sent_in ds
      by true true e h = absurd cc
      by true false e h = rw e (ap length (replies-append (last_opening c ds) (Read l ∷ []) ∙ append-nil (replies_in (last_opening c ds))))
      by false w e h = refl

  with_sent : (h : History) (ls : List Left) (down : List Frame) (k k' : ℕ) → (hears c (past n h).wire ≡ true → k' ≡ k) → At h ls down k → At h ls down k'
  with_sent h ls down k k' same s = record { quiet = s.quiet; begun = s.begun; going = λ u. (let g = s.going u in record { done = g.done; rest = g.rest; all = g.all; are = g.are; count = g.count ∙ sym (same u) }) }

  read_run : (j : Joint History) (l : Left) (ls : List Left) (ds : List Deed) → (hears c (past n j.session).wire ≡ true → list_any (is_open_on c) (l ∷ ls) ≡ false) → At j.session (lefts ds ++ l ∷ ls) j.down (sent_in ds) → At j.session (lefts (ds ++ Read l ∷ []) ++ ls) j.down (sent_in (ds ++ Read l ∷ []))
  read_run j l ls ds none s = with_sent j.session _ j.down (sent_in ds) (sent_in (ds ++ Read l ∷ [])) (λ u. read_sent ds l (first (is_open_on c l) (none u)))
      (subst (λ v. At j.session v j.down (sent_in ds)) (sym (append_assoc (lefts ds) (l ∷ []) ls) ∙ ap (λ v. v ++ ls) (sym (lefts-append ds (Read l ∷ [])))) s)
    where
      first : (v : Bool) → (v || list_any (is_open_on c) ls) ≡ false → v ≡ false
      first true h = absurd cc
      first false h = refl

  -- a send
  send_run : (j : Joint History) (f : Frame) (ds : List Deed) → InRun j ds → At j.session (lefts (ds ++ Sent f ∷ []) ++ j.up) (j.down ++ f ∷ []) (sent_in (ds ++ Sent f ∷ []))
  send_run j f ds s = record {
    quiet = s.quiet;
    begun = λ l d z. ap (λ v. handed_asks c (v ++ j.up)) same ∙ s.begun l d z;
    going = λ u. (let g = s.going u in record {
      done = g.done;
      rest = g.rest;
      all = ap (λ v. handed_asks c (v ++ j.up) ++ waiting_asks c (past n j.session).wire) same ∙ g.all;
      are = g.are;
      count = (let count = g.count in let down = count-sent c j.down f in let more = sent_more in omega (arith, count, down, more));
    });
  }
    where
      same : lefts (ds ++ Sent f ∷ []) ≡ lefts ds
      same = lefts-append ds (Sent f ∷ []) ∙ append-nil (lefts ds)

      sent_more : sent_in (ds ++ Sent f ∷ []) ≡ sent_in ds + reply_count c (f ∷ [])
      sent_more = ap (λ v. length (replies_in v)) (last-sent c ds f) ∙ by (channel_of f == c)
        where
          by : (v : Bool) → length (replies_in (cond v (last_opening c ds ++ Sent f ∷ []) (last_opening c ds))) ≡ sent_in ds + length (filter replies (cond v (f ∷ []) []))
          by true = ap length (replies-append (last_opening c ds) (Sent f ∷ [])) ∙ length-append (replies_in (last_opening c ds)) (filter replies (f ∷ []))
          by false = omega arith

  -- ---- a delivery

  cut_at : (ds : List Deed) (f : Frame) (fs : List Frame) (came : List Frame) → sents (last_opening c ds) ≡ came ++ f ∷ filter (is_frame_on c) fs → (x : Split (last_opening c ds) came f) × (sents x.behind ≡ filter (is_frame_on c) fs)
  cut_at ds f fs came e =
      let x = split_at (last_opening c ds) came f (filter (is_frame_on c) fs) e in
      let both : came ++ (f ∷ sents x.behind) ≡ came ++ (f ∷ filter (is_frame_on c) fs) = ap (λ v. v ++ (f ∷ sents x.behind)) (sym x.came_is) ∙ (sym (sents-append x.before (Sent f ∷ x.behind)) ∙ (ap sents (sym x.all) ∙ e)) in
      (x, let tails : (f ∷ sents x.behind) ≡ (f ∷ filter (is_frame_on c) fs) = cancel_left came (f ∷ sents x.behind) (f ∷ filter (is_frame_on c) fs) both in let w : sents x.behind ≡ filter (is_frame_on c) fs = cc in w)

  on_way : (f : Frame) (fs : List Frame) → channel_of f ≡ c → filter (is_frame_on c) (f ∷ fs) ≡ f ∷ filter (is_frame_on c) fs
  on_way f fs e = ap (λ v. cond v (f ∷ filter (is_frame_on c) fs) (filter (is_frame_on c) fs)) (eq-eqb (channel_of f) c e)

  hears_up : (b : Wire) → hears c b ≡ true → is_up b.link ≡ true
  hears_up b h = (and_parts (is_up b.link) (is_live (phase_of c b)) (hears_live c b h)).0

  -- the reply that comes meets its request
  pub meeting : (j : Joint History) (ds : List Deed) (f : Frame) (fs : List Frame) (r : ReplyKind) → Known (record j { down = f ∷ fs }) ds → hears c (past n j.session).wire ≡ true → IsReplyOf c (reply_number r) (channel_of f) (broker_frame f) → (g : Going c j.session (past n j.session).wire (lefts ds ++ j.up) (f ∷ fs) (sent_in ds)) → (m : Meets c j.session (past n j.session).wire r f fs (last_opening c ds)) × (ls : List Left) × (g.rest ≡ m.answer.request ∷ ls) × AreAsks j.session c ls m.rest
  meeting j ds f fs r k u o g =
      let t = k.way (hears_up (past n j.session).wire u) in
      let x = cut_at ds f fs t.0 (t.1 ∙ ap (λ v. t.0 ++ v) (on_way f fs o.on)) in
      let one : reply_count c (f ∷ fs) ≡ reply_count c fs + 1 = count_one c f fs ∙ ap (λ v. cond v (reply_count c fs + 1) (reply_count c fs)) (ap (λ v. v && replies f) (eq-eqb (channel_of f) c o.on) ∙ o.replies) in
      meets c j.session (past n j.session).wire r f fs ds j.up (record { before = x.0.before; behind = x.0.behind; all = x.0.all; way = x.1 }) (k.answers x.0.before x.0.behind f x.0.all o.replies) (k.shut u).1 o g one

  abbrev before : Joint History → Wire
  before j = (past n j.session).wire

  abbrev after_receive : Joint History → Frame → Wire
  after_receive j f = after_event (before j) (event.Receive f) (rec n j.session (event.Receive f))

  deliver_run : (j : Joint History) (f : Frame) (fs : List Frame) (ds : List Deed) → Known (record j { down = f ∷ fs }) ds → At j.session (lefts ds ++ j.up) (f ∷ fs) (sent_in ds) → At (on_event j.session (event.Receive f)) (lefts ds ++ j.up) fs (sent_in ds)
  deliver_run j f fs ds k s = other_kept j.session (event.Receive f) (lefts ds ++ j.up) (f ∷ fs) fs (sent_in ds) refl (calm_count c f fs) takes starts s
    where
      takes : (r : ReplyKind) → Comes c r (Some (incoming_of f)) → is_asked r ≡ true → hears c (before j) ≡ true → open_asks c (after_receive j f) ≡ without_kind r (open_asks c (before j)) → waiting_asks c (after_receive j f) ≡ waiting_asks c (before j) → Going c (on_event j.session (event.Receive f)) (after_receive j f) (lefts ds ++ j.up) fs (sent_in ds)
      takes r on a u o w =
          let is : IsReplyOf c (reply_number r) (channel_of f) (broker_frame f) = reply_is c (reply_number r) on.0 f on.1 in
          let g = s.going u in
          let m = meeting j ds f fs r k u is g in
          let left : open_asks c (after_receive j f) ≡ m.0.rest = o ∙ (ap (without_kind r) m.0.open_is ∙ ap (λ v. cond v m.0.rest (m.0.request ∷ without_kind r m.0.rest)) m.0.kind) in
          let one : reply_count c (f ∷ fs) ≡ reply_count c fs + 1 = count_one c f fs ∙ ap (λ v. cond v (reply_count c fs + 1) (reply_count c fs)) (ap (λ v. v && replies f) (eq-eqb (channel_of f) c is.on) ∙ is.replies) in
          record {
            done = g.done ++ m.0.answer.request ∷ [];
            rest = m.1;
            all = ap (λ v. handed_asks c (lefts ds ++ j.up) ++ v) w ∙ (g.all ∙ (ap (λ v. g.done ++ v) m.2 ∙ sym (append_assoc g.done (m.0.answer.request ∷ []) m.1)));
            are = subst (AreAsks (on_event j.session (event.Receive f)) c m.1) (sym left) (asks_more j.session c m.1 m.0.rest (event.Receive f) (rec n j.session (event.Receive f)) m.3);
            count = (let count = g.count in let long = length-append g.done (m.0.answer.request ∷ []) in omega (arith, count, long, one));
          }

      none_more : (k : ℕ) → 0 + k ≡ k
      none_more k = omega arith

      unread_none : is_up (before j).link ≡ true → income_as (incoming_of f) ≡ ToD c BOpenOk → unsent c (before j) ≡ 0
      unread_none up on = elim (list_any (is_open_waiting c) (before j).methods) as (λ v. list_any (is_open_waiting c) (before j).methods ≡ v → unsent c (before j) ≡ 0) [
        | true ↦ λ h.
            let none : of_d c (map down_frame (f ∷ fs)) ≡ [] = k.unread up (ap (λ v. list_any (is_open_on c) j.up || v) h ∙ or_true (list_any (is_open_on c) j.up)) in
            let front : of_d c (ToD c BOpenOk ∷ map down_frame fs) ≡ [] = ap (λ v. of_d c (v ∷ map down_frame fs)) (sym (sorted f ∙ on)) ∙ none in
            let there : BOpenOk ∷ of_d c (map down_frame fs) ≡ [] = ap (λ v. cond v (BOpenOk ∷ of_d c (map down_frame fs)) (of_d c (map down_frame fs))) (sym (eq-eqb c c refl)) ∙ front in
            absurd cc
        | false ↦ λ h. many-none (is_open_waiting c) (before j).methods h
      ] refl

      starts : turn.Opens c (Some (incoming_of f)) → live c (before j) ≡ true → hears c (before j) ≡ false → open_asks c (after_receive j f) ≡ open_asks c (before j) → waiting_asks c (after_receive j f) ≡ waiting_asks c (before j) → Going c (on_event j.session (event.Receive f)) (after_receive j f) (lefts ds ++ j.up) fs (sent_in ds)
      starts on alive d o w =
          let up : is_up (before j).link ≡ true = (and_parts (is_up (before j).link) (is_live (phase_of c (before j))) alive).0 in
          let ok = ok_comes c f on in
          let q = s.quiet d in
          let none : handed_asks c (lefts ds ++ j.up) ≡ [] = s.begun alive d (unread_none up on) in
          let t = k.way up in
          let x = cut_at ds f fs t.0 (t.1 ∙ ap (λ v. t.0 ++ v) (on_way f fs ok.0)) in
          let came : t.0 ≡ [] = sym x.0.came_is ∙ k.first x.0.before x.0.behind f x.0.all ok.2 in
          let sent : sents (last_opening c ds) ≡ f ∷ filter (is_frame_on c) fs = t.1 ∙ (ap (λ v. t.0 ++ v) (on_way f fs ok.0) ∙ ap (λ v. v ++ f ∷ filter (is_frame_on c) fs) came) in
          let calm : replies f ≡ false = ap replies_as ok.1 in
          record {
            done = [];
            rest = [];
            all = ap (λ v. v ++ waiting_asks c (after_receive j f)) none ∙ (w ∙ q.1);
            are = subst (AreAsks (on_event j.session (event.Receive f)) c []) (sym (o ∙ q.0)) tt;
            count = none_more (reply_count c fs) ∙ sym (ap (λ v. length (filter replies v)) sent ∙ ap (λ v. length (cond v (f ∷ filter replies (filter (is_frame_on c) fs)) (filter replies (filter (is_frame_on c) fs)))) calm);
          }

  -- a loss
  lost_run : (j : Joint History) (ds : List Deed) → InRun j ds → At (on_event j.session event.Lost) (lefts (ds ++ []) ++ []) [] (sent_in (ds ++ []))
  lost_run j ds i =
      let b' : Wire = (past n (on_event j.session event.Lost)).wire in
      let s = calm_kept j.session event.Lost (lefts ds ++ j.up) j.down (sent_in ds) refl refl i in
      let dead : is_up b'.link ≡ false = ap (λ (v : Wire). is_up v.link) (wire-push j.session event.Lost) ∙ lost_down (past n j.session).wire (rec n j.session event.Lost) in
      record {
        quiet = s.quiet;
        begun = λ l d z. (let w : true ≡ false = sym l ∙ no_live c b' dead in absurd cc);
        going = λ u. (let w : true ≡ false = sym (hears_live c b' u) ∙ no_live c b' dead in absurd cc);
      }

  step_run : (s : Step) (j : Joint History) (ds : List Deed) → Known j ds → InRun j ds → InRun (after (by_history n) s j) (ds ++ deed_in s j)
  step_run (step.Client e) j ds k i = elim (is_lawful e) as (λ v. is_lawful e ≡ v → InRun (cond v (client (by_history n) e j) j) (ds ++ [])) [
    | true ↦ λ l. client_run e j ds l k i
    | false ↦ λ l. same_run j ds i
  ] refl
  step_run step.Read j ds k i = by j.up k.shut i
    where
      by : (ls : List Left) → (hears c (past n j.session).wire ≡ true → (unsent c (past n j.session).wire ≡ 0) × (list_any (is_open_on c) ls ≡ false)) → At j.session (lefts ds ++ ls) j.down (sent_in ds) → InRun (read_first ls (record j { up = ls })) (ds ++ reads_of (front ls))
      by [] q t = subst (λ v. At j.session (lefts v ++ []) j.down (sent_in v)) (sym (append-nil ds)) t
      by (l ∷ ls) q t = read_run j l ls ds (λ u. (q u).1) t
  step_run (step.Send f) j ds k i = elim (may j.broker f) as (λ v. InRun (cond v (send_down f j) j) (ds ++ cond v (Sent f ∷ []) [])) [
    | true ↦ send_run j f ds i
    | false ↦ same_run j ds i
  ]
  step_run step.Deliver j ds k i = by j.down k i
    where
      by : (fs : List Frame) → Known (record j { down = fs }) ds → At j.session (lefts ds ++ j.up) fs (sent_in ds) → InRun (deliver_first (by_history n) fs (record j { down = fs })) (ds ++ [])
      by [] q t = subst (λ v. At j.session (lefts v ++ j.up) [] (sent_in v)) (sym (append-nil ds)) t
      by (f ∷ fs) q t = subst (λ v. At (on_event j.session (event.Receive f)) (lefts v ++ j.up) fs (sent_in v)) (sym (append-nil ds)) (deliver_run j f fs ds q t)
  step_run step.Lose j ds k i = lost_run j ds i

  first_run : InRun (joined_to n []) (deeds n [])
  first_run = record { quiet = λ d. (refl, refl); begun = λ l d z. absurd cc; going = λ u. absurd (deaf (c == 0) u) }
    where
      deaf : (z : Bool) → receives_on (cond z state.Base state.Closed) ≡ true → ⊥
      deaf true h = cc
      deaf false h = cc

  known : 4096 ≤ n → (c == 0) ≡ false → (ss : List Step) → Known (joined_to n ss) (deeds n ss)
  known r z ss = record {
    rest = (in_run n c (omega (arith, r)) ss).contents;
    shut = λ u. (let t = in_step n r ss c u in (many-none (is_open_waiting c) (past_of n ss).wire.methods t.left, t.read));
    unread = λ up h. (unread_at c (past_of n ss).wire (joined_to n ss).broker (joined_to n ss).up (joined_to n ss).down (pairs n ss r) up z h).1;
    way = λ up. way_down n r ss c z up;
    answers = λ before behind f. answers_in n ss c before behind f;
    first = λ before behind f. first_in n ss c before behind f;
  }

  from_run : 4096 ≤ n → (c == 0) ≡ false → (pre ss : List Step) → InRun (joined_to n pre) (deeds n pre) → InRun (joined_to n (pre ++ ss)) (deeds n (pre ++ ss))
  from_run r z pre [] i = subst (λ v. InRun (joined_to n v) (deeds n v)) (sym (append-nil pre)) i
  from_run r z pre (s ∷ ss) i =
      let one : InRun (joined_to n (pre ++ s ∷ [])) (deeds n (pre ++ s ∷ [])) = subst (λ v. InRun (joined_to n (pre ++ s ∷ [])) v) (sym (deeds-push n pre s)) (subst (λ j. InRun j (deeds n pre ++ deed_in s (joined_to n pre))) (sym (joined-push n pre s)) (step_run s (joined_to n pre) (deeds n pre) (known r z pre) i)) in
      subst (λ v. InRun (joined_to n v) (deeds n v)) (append_assoc pre (s ∷ []) ss) (from_run r z (pre ++ s ∷ []) ss one)

  -- in every joined run
  pub stands_in : 4096 ≤ n → (c == 0) ≡ false → (ss : List Step) → InRun (joined_to n ss) (deeds n ss)
  stands_in r z ss = from_run r z [] ss first_run

  -- the reply that comes next in a run meets its request
  pub reply_meets : 4096 ≤ n → (ss : List Step) (f : Frame) (fs : List Frame) (r : ReplyKind) → (joined_to n ss).down ≡ f ∷ fs → hears c (past_of n ss).wire ≡ true → IsReplyOf c (reply_number r) (channel_of f) (broker_frame f) → Meets c (joined_to n ss).session (past_of n ss).wire r f fs (last_opening c (deeds n ss))
  reply_meets big ss f fs r down u o =
      let z : (c == 0) ≡ false = not_zero (c == 0) u in
      let k : Known (record (joined_to n ss) { down = f ∷ fs }) (deeds n ss) = subst (λ v. Known (record (joined_to n ss) { down = v }) (deeds n ss)) down (known big z ss) in
      let i : At (joined_to n ss).session (lefts (deeds n ss) ++ (joined_to n ss).up) (f ∷ fs) (sent_in (deeds n ss)) = subst (λ v. At (joined_to n ss).session (lefts (deeds n ss) ++ (joined_to n ss).up) v (sent_in (deeds n ss))) down (stands_in big z ss) in
      (meeting (joined_to n ss) (deeds n ss) f fs r k u o (i.going u)).0
    where
      base_deaf : (u : Bool) → receives_on (cond u state.Base state.Down) ≡ true → ⊥
      base_deaf true h = cc
      base_deaf false h = cc

      not_zero : (v : Bool) → receives_on (cond (is_up (past_of n ss).wire.link) (cond v state.Base (channel_state (phase_of c (past_of n ss).wire))) state.Down) ≡ true → v ≡ false
      not_zero true h = absurd (base_deaf (is_up (past_of n ss).wire.link) h)
      not_zero false h = refl
