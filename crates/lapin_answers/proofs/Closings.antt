-- In every joined run what a channel closes stands so; so a close-ok that comes was sent for the close whose ticket it resolves.
use Rattle.std.proofs.Common.{◌≡◌, ◌∙◌, ℕ, ◌+◌, ◌≤◌, ◌==◌, Bool, true, false, cond, ◌&&◌, List, [], ◌∷◌, ◌++◌, length, length-append, Option, Some, None, refl, sym, ap, subst, append-nil, append_assoc, arith}
use Rattle.std.specs.List.{filter}
use Rattle.std.proofs.lemmas.List.Elements.{filter-append}
use Rattle.lapin_types.specs.declared.event.Event.{Event}
use Rattle.lapin_types.specs.declared.event.Event.TheVariants as event
use Rattle.lapin_types.specs.declared.leaving.Left.{Left}
use Rattle.lapin_types.specs.declared.record.Record.{Record}
use Rattle.lapin_types.specs.declared.request.ReplyKind.{ReplyKind}
use Rattle.lapin_types.specs.declared.request.ReplyKind.TheVariants as reply_kind
use Rattle.lapin_types.specs.Types.{Frame}
use Rattle.lapin_rules.specs.declared.broker_frames.ConsumerPart.{ConsumerPart}
use Rattle.lapin_rules.specs.declared.broker_frames.ConsumerPart.TheVariants as consumer
use Rattle.lapin_rules.specs.declared.broker_frames.ContentPart.{ContentPart}
use Rattle.lapin_rules.specs.declared.broker_frames.ContentPart.TheVariants as part
use Rattle.lapin_rules.specs.declared.broker_frames.Incoming.{Incoming}
use Rattle.lapin_rules.specs.declared.broker_frames.Incoming.TheVariants as incoming
use Rattle.lapin_rules.specs.ConfirmReadings.{is_full}
use Rattle.lapin_rules.specs.Events.{after_event}
use Rattle.lapin_rules.specs.Flow.{begins_on}
use Rattle.lapin_rules.specs.Handing.{handed, handed_out, began_on, after_handing}
use Rattle.lapin_rules.specs.History.{History, Past, past, rec, readings_of}
use Rattle.lapin_rules.specs.Incoming.{incoming_of}
use Rattle.lapin_rules.specs.Phases.{is_up}
use Rattle.lapin_rules.specs.Readings.{Readings}
use Rattle.lapin_rules.specs.Wire.{Wire}
use Rattle.lapin_broker.specs.declared.frames.BrokerFrame.{BrokerFrame}
use Rattle.lapin_broker.specs.declared.frames.BrokerFrame.TheVariants as broker
use Rattle.lapin_broker.specs.Frames.{channel_of, broker_frame}
use Rattle.lapin_broker.specs.Sends.{may}
use Rattle.lapin_joint.specs.declared.step.Step.{Step}
use Rattle.lapin_joint.specs.declared.step.Step.TheVariants as step
use Rattle.lapin_joint.specs.Joint.{Joint, is_lawful, handed_by, left_alone, client, read_first, send_down, deliver_first, after, joined_to}
use Rattle.lapin_machine.specs.Way.{by_history}
use Rattle.lapin_joint.specs.Order.{front}
use Rattle.lapin_pairs.specs.Channel.{DownF, BCloseOk}
use Rattle.lapin_pairs.specs.Every.{DownOn, ToD}
use Rattle.lapin_concord.specs.Frames.{down_kind}
use Rattle.lapin_concord.specs.Incomes.{income_as}
use Rattle.lapin_concord.proofs.Incomes.{sorted}
use Rattle.lapin_effects.specs.Effects.{is_next}
use Rattle.lapin_verdicts.specs.Deeds.{Deed, Read, Sent, lefts, sents, reads_of, deed_in, deeds}
use Rattle.lapin_verdicts.proofs.Assembly.{as_handed, in_run}
use Rattle.lapin_verdicts.proofs.TagCounts.{sents-append}
use Rattle.lapin_verdicts.proofs.Numbering.{AreRest}
use Rattle.lapin_verdicts.proofs.Owing.{lefts-append}
use Rattle.lapin_verdicts.proofs.Runs.{past-push, joined-push, deeds-push}
use Rattle.lapin_answers.specs.Closes.{is_close_on, is_close_ok_as, is_close_ok_on, closes_in, close_oks_in}
use Rattle.lapin_answers.proofs.Happens.{income_in}
use Rattle.lapin_answers.proofs.Moving.{is_close_ok_in, place_down}
use Rattle.lapin_answers.proofs.Moved.{event_move}
use Rattle.lapin_answers.proofs.Okays.{okay_in}
use Rattle.lapin_answers.proofs.Shuts.{close_requests, waiting_closes}
use Rattle.lapin_answers.proofs.Shutting.{handed_closes, Held, Shutting, count_after, move_held, next_shutting}
use Rattle.lapin_tables.proofs.Bools.{and_true, and_false}
use Rattle.lapin_verdicts.proofs.Together.{lost_down}

-- ---- a close-ok, as the session sorts it

abbrev is_ok_down : ℕ → DownOn DownF → Bool
is_ok_down c (ToD d BCloseOk) = d == c
is_ok_down c _ = false

ok_kind : (c d : ℕ) (x : BrokerFrame) → is_ok_down c (down_kind d x) ≡ ((d == c) && is_close_ok_as x)
ok_kind c d broker.CloseOk = sym (and_true (d == c))
ok_kind c d broker.ConnectionClose = sym (and_false (d == c))
ok_kind c d broker.ConnectionCloseOk = sym (and_false (d == c))
ok_kind c d _ = sym (and_false (d == c))

ok_income : (c : ℕ) (i : Incoming) → is_ok_down c (income_as i) ≡ is_close_ok_in c (Some i)
ok_income c (incoming.Reply d reply_kind.ChannelOpenOk a) = refl
ok_income c (incoming.Reply d reply_kind.ChannelCloseOk a) = refl
ok_income c (incoming.Reply d reply_kind.ConnectionCloseOk a) = refl
ok_income c (incoming.Reply d k a) = reply_not c d k
  where
    reply_not : (c d : ℕ) (k : ReplyKind) → is_ok_down c (income_as (incoming.Reply d k a)) ≡ false
    reply_not c d reply_kind.ChannelOpenOk = refl
    reply_not c d _ = refl
ok_income c (incoming.Settlement d s) = refl
ok_income c (incoming.Content d p) = part_not p
  where
    part_not : (p : ContentPart) → is_ok_down c (income_as (incoming.Content d p)) ≡ false
    part_not (part.GetOk s) = refl
    part_not _ = refl
ok_income c (incoming.Consumer d p) = consumer_not p
  where
    consumer_not : (p : ConsumerPart) → is_ok_down c (income_as (incoming.Consumer d p)) ≡ false
    consumer_not (consumer.ConsumeOk tag) = refl
    consumer_not _ = refl
ok_income c (incoming.Flow d active) = refl
ok_income c (incoming.ChannelClose d code) = refl
ok_income c (incoming.ChannelCloseOk d) = refl
ok_income c (incoming.ConnectionClose code) = refl
ok_income c incoming.ConnectionCloseOk = refl
ok_income c incoming.Other = refl

pub ok_comes : (c : ℕ) (f : Frame) → is_close_ok_in c (Some (incoming_of f)) ≡ is_close_ok_on c f
ok_comes c f = sym (ok_income c (incoming_of f)) ∙ (ap (is_ok_down c) (sym (sorted f)) ∙ ok_kind c (channel_of f) (broker_frame f))

-- ---- numbers

count_is : (v : Bool) (c : ℕ) (f : Frame) (came : List Frame) → is_close_ok_on c f ≡ v → count_after v (length (filter (is_close_ok_on c) came)) ≡ length (filter (is_close_ok_on c) (came ++ f ∷ []))
count_is v c f came e = by v e ∙ sym (ap length (filter-append (is_close_ok_on c) came (f ∷ [])) ∙ length-append (filter (is_close_ok_on c) came) (filter (is_close_ok_on c) (f ∷ [])))
  where
    by : (v : Bool) → is_close_ok_on c f ≡ v → count_after v (length (filter (is_close_ok_on c) came)) ≡ length (filter (is_close_ok_on c) came) + length (filter (is_close_ok_on c) (f ∷ []))
    by true e = ap (λ (w : Bool). length (filter (is_close_ok_on c) came) + length (cond w (f ∷ []) [])) (sym e)
    by false e = let z : length (filter (is_close_ok_on c) (f ∷ [])) ≡ 0 = ap (λ (w : Bool). length (cond w (f ∷ []) [])) e in omega (arith, z)

-- one that is on the way was sent
pub one_sent : (c : ℕ) (f : Frame) (came fs sent : List Frame) → sent ≡ came ++ f ∷ fs → is_close_ok_on c f ≡ true → length (filter (is_close_ok_on c) came) + 1 ≤ length (filter (is_close_ok_on c) sent)
one_sent c f came fs sent e h =
    let a : length (filter (is_close_ok_on c) sent) ≡ length (filter (is_close_ok_on c) came) + length (filter (is_close_ok_on c) (f ∷ fs)) = ap (λ v. length (filter (is_close_ok_on c) v)) e ∙ (ap length (filter-append (is_close_ok_on c) came (f ∷ fs)) ∙ length-append (filter (is_close_ok_on c) came) (filter (is_close_ok_on c) (f ∷ fs))) in
    let b : length (filter (is_close_ok_on c) (f ∷ fs)) ≡ length (f ∷ filter (is_close_ok_on c) fs) = ap (λ (w : Bool). length (cond w (f ∷ filter (is_close_ok_on c) fs) (filter (is_close_ok_on c) fs))) h in
    let d : length (f ∷ filter (is_close_ok_on c) fs) ≡ length (filter (is_close_ok_on c) fs) + 1 = omega arith in
    omega (arith, a, b, d)

pub fewer_read : (c : ℕ) (ls ups : List Left) → length (filter (is_close_on c) ls) ≤ length (handed_closes c (ls ++ ups))
fewer_read c ls ups = let e : length (handed_closes c (ls ++ ups)) ≡ length (filter (is_close_on c) ls) + length (filter (is_close_on c) ups) = ap length (filter-append (is_close_on c) ls ups) ∙ length-append (filter (is_close_on c) ls) (filter (is_close_on c) ups) in omega (arith, e)

-- ---- an event, which moves neither link nor deeds

module _ (n c : ℕ) where
  abbrev see : History → Readings
  see h = readings_of (past n h).confirms (past n h).tickets

  abbrev on_event : History → Event → History
  on_event h e = h ++ (e, rec n h e) ∷ []

  abbrev At : History → List Left → ℕ → Type 0
  At h ls k = Shutting c h (past n h).wire ls k

  wire-push : (h : History) (e : Event) → (past n (on_event h e)).wire ≡ after_event (past n h).wire e (rec n h e)
  wire-push h e = ap (λ (p : Past). p.wire) (past-push n h e (rec n h e))

  to_event : (h : History) (e : Event) (ls : List Left) (k : ℕ) → Shutting c (on_event h e) (after_event (past n h).wire e (rec n h e)) ls k → At (on_event h e) ls k
  to_event h e ls k s = subst (λ b. Shutting c (on_event h e) b ls k) (sym (wire-push h e)) s

  other_kept : (h : History) (e : Event) (ls : List Left) (k : ℕ) → is_next e ≡ false → (is_close_ok_in c (income_in e) ≡ true → k + 1 ≤ length (handed_closes c ls)) → At h ls k → At (on_event h e) ls (count_after (is_close_ok_in c (income_in e)) k)
  other_kept h e ls k apart le s =
      let b : Wire = (past n h).wire in
      to_event h e ls (count_after (is_close_ok_in c (income_in e)) k) (move_held h c e (rec n h e) (handed_closes c ls) k (income_in e) _ _ _ _ _ _ (event_move c b (see h) e apart) le s)

  calm_kept : (h : History) (e : Event) (ls : List Left) (k : ℕ) → is_next e ≡ false → income_in e ≡ None → At h ls k → At (on_event h e) ls k
  calm_kept h e ls k apart none s = subst (λ (v : Bool). At (on_event h e) ls (count_after v k)) (calm (income_in e) none) (other_kept h e ls k apart (λ t. no (sym (calm (income_in e) none) ∙ t)) s)
    where
      calm : (o : Option Incoming) → o ≡ None → is_close_ok_in c o ≡ false
      calm o e = ap (is_close_ok_in c) e

      no : {P : Type 0} → false ≡ true → P
      no h = absurd cc

  next_event_kept : (h : History) (flow : Bool) (ls : List Left) (k d : ℕ) → AreRest d (past n h).wire.rest → At h ls k → At (on_event h (event.Next flow)) (ls ++ left_alone (handed flow (λ v. is_full v (past n h).confirms) (past n h).wire)) k
  next_event_kept h flow ls k d rest s =
      let b : Wire = (past n h).wire in
      let r : Record = rec n h (event.Next flow) in
      let same : handed_out (began_on r) b ≡ handed flow (λ v. is_full v (past n h).confirms) b = as_handed (begins_on flow (λ v. is_full v (past n h).confirms) b) b in
      to_event h (event.Next flow) (ls ++ left_alone (handed flow (λ v. is_full v (past n h).confirms) b)) k (subst (λ o. Shutting c (on_event h (event.Next flow)) (after_handing (began_on r) b) (ls ++ left_alone o) k) same (next_shutting c d (began_on r) h (event.Next flow) r b ls k rest s))

  -- ---- steps

  -- what came, followed by what is on the way down, was sent; and as many close-oks came as closes are answered
  pub record Closing (j : Joint History) (ds : List Deed) : Type 0 where
    pub came : List Frame
    pub order : sents ds ≡ came ++ j.down
    pub held : At j.session (lefts ds ++ j.up) (length (filter (is_close_ok_on c) came))

  record Known (j : Joint History) (ds : List Deed) : Type 0 where
    pub rest : (d : ℕ) × AreRest d (past n j.session).wire.rest
    pub most : length (close_oks_in c ds) ≤ length (closes_in c ds)

  same_closing : (j : Joint History) (ds : List Deed) → Closing j ds → Closing j (ds ++ [])
  same_closing j ds s = subst (Closing j) (sym (append-nil ds)) s

  calm : (e : Event) (j : Joint History) (ds : List Deed) → is_next e ≡ false → income_in e ≡ None → handed_by (by_history n) e j.session ≡ [] → Closing j ds → Closing (client (by_history n) e j) (ds ++ [])
  calm e j ds apart none hand s = subst (Closing (client (by_history n) e j)) (sym (append-nil ds)) (record {
    came = s.came;
    order = s.order;
    held = subst (λ v. At (on_event j.session e) (lefts ds ++ v) (length (filter (is_close_ok_on c) s.came))) (sym (append-nil j.up) ∙ ap (λ v. j.up ++ v) (sym hand)) (calm_kept j.session e (lefts ds ++ j.up) (length (filter (is_close_ok_on c) s.came)) apart none s.held);
  })

  client_closing : (e : Event) (j : Joint History) (ds : List Deed) → is_lawful e ≡ true → Known j ds → Closing j ds → Closing (client (by_history n) e j) (ds ++ [])
  client_closing (event.Next flow) j ds l k s =
      let o : Option Left = handed flow (λ d. is_full d (past n j.session).confirms) (past n j.session).wire in
      let m : ℕ = length (filter (is_close_ok_on c) s.came) in
      subst (Closing (client (by_history n) (event.Next flow) j)) (sym (append-nil ds)) (record {
        came = s.came;
        order = s.order;
        held = subst (λ v. At (on_event j.session (event.Next flow)) v m) (append_assoc (lefts ds) j.up (left_alone o)) (next_event_kept j.session flow (lefts ds ++ j.up) m k.rest.0 k.rest.1 s.held);
      })
  client_closing (event.Receive f) j ds l k s = absurd cc
  client_closing event.Lost j ds l k s = absurd cc
  client_closing (event.Call d a) j ds l k s = calm (event.Call d a) j ds refl refl refl s
  client_closing (event.PollTicket d) j ds l k s = calm (event.PollTicket d) j ds refl refl refl s
  client_closing (event.PollConfirm d) j ds l k s = calm (event.PollConfirm d) j ds refl refl refl s
  client_closing (event.PollConsumer d) j ds l k s = calm (event.PollConsumer d) j ds refl refl refl s
  client_closing (event.PollWait d) j ds l k s = calm (event.PollWait d) j ds refl refl refl s
  client_closing (event.AsideTicket d) j ds l k s = calm (event.AsideTicket d) j ds refl refl refl s
  client_closing (event.AsideConfirm d) j ds l k s = calm (event.AsideConfirm d) j ds refl refl refl s
  client_closing (event.Acker d a) j ds l k s = calm (event.Acker d a) j ds refl refl refl s
  client_closing (event.Delegate d) j ds l k s = calm (event.Delegate d) j ds refl refl refl s
  client_closing (event.DropConsumer d) j ds l k s = calm (event.DropConsumer d) j ds refl refl refl s
  client_closing event.NextJob j ds l k s = calm event.NextJob j ds refl refl refl s
  client_closing (event.State d) j ds l k s = calm (event.State d) j ds refl refl refl s

  read_closing : (j : Joint History) (l : Left) (ls : List Left) (ds : List Deed) → Closing (record j { up = l ∷ ls }) ds → Closing (read_first (l ∷ ls) j) (ds ++ Read l ∷ [])
  read_closing j l ls ds s = record {
    came = s.came;
    order = sents-append ds (Read l ∷ []) ∙ (append-nil (sents ds) ∙ s.order);
    held = subst (λ v. At j.session v (length (filter (is_close_ok_on c) s.came))) (sym (append_assoc (lefts ds) (l ∷ []) ls) ∙ ap (λ v. v ++ ls) (sym (lefts-append ds (Read l ∷ [])))) s.held;
  }

  send_closing : (j : Joint History) (f : Frame) (ds : List Deed) → Closing j ds → Closing (send_down f j) (ds ++ Sent f ∷ [])
  send_closing j f ds s = record {
    came = s.came;
    order = sents-append ds (Sent f ∷ []) ∙ (ap (λ v. v ++ f ∷ []) s.order ∙ append_assoc s.came j.down (f ∷ []));
    held = subst (λ v. At j.session (v ++ j.up) (length (filter (is_close_ok_on c) s.came))) (sym (lefts-append ds (Sent f ∷ []) ∙ append-nil (lefts ds))) s.held;
  }

  deliver_closing : (j : Joint History) (f : Frame) (fs : List Frame) (ds : List Deed) → Known (record j { down = f ∷ fs }) ds → Closing (record j { down = f ∷ fs }) ds → Closing (deliver_first (by_history n) (f ∷ fs) j) ds
  deliver_closing j f fs ds k s =
      let m : ℕ = length (filter (is_close_ok_on c) s.came) in
      let le : is_close_ok_in c (Some (incoming_of f)) ≡ true → m + 1 ≤ length (handed_closes c (lefts ds ++ j.up)) = λ t. (
      let one = one_sent c f s.came fs (sents ds) s.order (sym (ok_comes c f) ∙ t) in
      let most = k.most in
      let read = fewer_read c (lefts ds) j.up in
      omega (arith, one, most, read)) in
      record {
        came = s.came ++ f ∷ [];
        order = s.order ∙ sym (append_assoc s.came (f ∷ []) fs);
        held = subst (λ v. At (on_event j.session (event.Receive f)) (lefts ds ++ j.up) v) (ap (λ (v : Bool). count_after v m) (ok_comes c f) ∙ count_is (is_close_ok_on c f) c f s.came refl) (other_kept j.session (event.Receive f) (lefts ds ++ j.up) m refl le s.held);
      }

  lost_closing : (j : Joint History) (ds : List Deed) → Closing (after (by_history n) step.Lose j) ds
  lost_closing j ds =
      let b' : Wire = (past n (on_event j.session event.Lost)).wire in
      let dead : is_up b'.link ≡ false = ap (λ (v : Wire). is_up v.link) (wire-push j.session event.Lost) ∙ lost_down (past n j.session).wire (rec n j.session event.Lost) in
      record {
        came = sents ds;
        order = sym (append-nil (sents ds));
        held = subst (λ o. Held (on_event j.session event.Lost) c o (close_requests c b') (waiting_closes c b') (handed_closes c (lefts ds ++ [])) (length (filter (is_close_ok_on c) (sents ds)))) (sym (place_down c b' dead)) tt;
      }

  step_closing : (s : Step) (j : Joint History) (ds : List Deed) → Known j ds → Closing j ds → Closing (after (by_history n) s j) (ds ++ deed_in s j)
  step_closing (step.Client e) j ds k i = elim (is_lawful e) as (λ v. is_lawful e ≡ v → Closing (cond v (client (by_history n) e j) j) (ds ++ [])) [
    | true ↦ λ l. client_closing e j ds l k i
    | false ↦ λ l. same_closing j ds i
  ] refl
  step_closing step.Read j ds k i = by j.up i
    where
      by : (ls : List Left) → Closing (record j { up = ls }) ds → Closing (read_first ls (record j { up = ls })) (ds ++ reads_of (front ls))
      by [] t = same_closing (record j { up = [] }) ds t
      by (l ∷ ls) t = read_closing (record j { up = l ∷ ls }) l ls ds t
  step_closing (step.Send f) j ds k i = elim (may j.broker f) as (λ v. Closing (cond v (send_down f j) j) (ds ++ cond v (Sent f ∷ []) [])) [
    | true ↦ send_closing j f ds i
    | false ↦ same_closing j ds i
  ]
  step_closing step.Deliver j ds k i = by j.down k i
    where
      by : (fs : List Frame) → Known (record j { down = fs }) ds → Closing (record j { down = fs }) ds → Closing (deliver_first (by_history n) fs (record j { down = fs })) (ds ++ [])
      by [] q t = same_closing (record j { down = [] }) ds t
      by (f ∷ fs) q t = same_closing _ ds (deliver_closing (record j { down = f ∷ fs }) f fs ds q t)
  step_closing step.Lose j ds k i = same_closing (after (by_history n) step.Lose j) ds (lost_closing j ds)

  first_closing : Closing (joined_to n []) (deeds n [])
  first_closing = record { came = []; order = refl; held = record { requests = refl; waits = refl; count = refl } }

  known : 4096 ≤ n → (ss : List Step) → Known (joined_to n ss) (deeds n ss)
  known r ss = record { rest = (in_run n c (omega (arith, r)) ss).contents; most = (okay_in n c ss).most }

  from_closing : 4096 ≤ n → (pre ss : List Step) → Closing (joined_to n pre) (deeds n pre) → Closing (joined_to n (pre ++ ss)) (deeds n (pre ++ ss))
  from_closing r pre [] i = subst (λ v. Closing (joined_to n v) (deeds n v)) (sym (append-nil pre)) i
  from_closing r pre (s ∷ ss) i =
      let one : Closing (joined_to n (pre ++ s ∷ [])) (deeds n (pre ++ s ∷ [])) = subst (λ v. Closing (joined_to n (pre ++ s ∷ [])) v) (sym (deeds-push n pre s)) (subst (λ j. Closing j (deeds n pre ++ deed_in s (joined_to n pre))) (sym (joined-push n pre s)) (step_closing s (joined_to n pre) (deeds n pre) (known r pre) i)) in
      subst (λ v. Closing (joined_to n v) (deeds n v)) (append_assoc pre (s ∷ []) ss) (from_closing r (pre ++ s ∷ []) ss one)

  -- in every joined run
  pub closes_in_run : 4096 ≤ n → (ss : List Step) → Closing (joined_to n ss) (deeds n ss)
  closes_in_run r ss = from_closing r [] ss first_closing
