-- Every step of a joined run keeps what goes with it.
use Rattle.std.proofs.Common.{◌≡◌, ◌∙◌, ℕ, ◌≤◌, ◌==◌, Bool, true, false, cond, ◌&&◌, ◌||◌, List, [], ◌∷◌, ◌++◌, Some, refl, sym, ap, subst, append-nil, append_assoc, arith, slice_get, eq-eqb}
use Rattle.std.specs.List.{filter, list_any}
use Rattle.std.proofs.lemmas.List.Elements.{filter-append}
use Rattle.lapin_types.specs.declared.event.Event.{Event}
use Rattle.lapin_types.specs.declared.event.Event.TheVariants as event
use Rattle.lapin_types.specs.declared.leaving.Left.{Left}
use Rattle.lapin_types.specs.declared.record.Record.{Record}
use Rattle.lapin_types.specs.declared.record.Record.TheVariants as record_
use Rattle.lapin_types.specs.Types.{Frame}
use Rattle.lapin_content.specs.Channels.{expected_on}
use Rattle.lapin_consumer.specs.Readings.{Story}
use Rattle.lapin_rules.specs.declared.broker_frames.ContentPart.{ContentPart}
use Rattle.lapin_rules.specs.declared.broker_frames.Incoming.{Incoming}
use Rattle.lapin_rules.specs.declared.broker_frames.Incoming.TheVariants as incoming
use Rattle.lapin_rules.specs.Consumers.{queue_asked}
use Rattle.lapin_rules.specs.Events.{after_event, delivery_marks, confirm_marks}
use Rattle.lapin_rules.specs.History.{History, Past, past, rec, readings_of}
use Rattle.lapin_rules.specs.Incoming.{incoming_of}
use Rattle.lapin_rules.specs.Phases.{is_up, is_lost}
use Rattle.lapin_rules.specs.Ends.{down}
use Rattle.lapin_rules.specs.Content.{receives_part, after_part}
use Rattle.lapin_rules.specs.declared.broker_frames.ContentPart.TheVariants as part
use Rattle.lapin_rules.specs.declared.phases.ConnectionPhase.{ConnectionPhase}
use Rattle.lapin_rules.specs.declared.phases.ConnectionPhase.TheVariants as link
use Rattle.lapin_concord.specs.Held.{IsOneContent}
use Rattle.lapin_verdicts.proofs.Owing.{next_opening}
use Rattle.lapin_messages.proofs.Dealing.{event_deals}
use Rattle.std.proofs.lemmas.Bool.{and_parts, both_ways}
use Rattle.lapin_rules.specs.Receiving.{after_received}
use Rattle.lapin_rules.specs.Words.{many}
use Rattle.lapin_rules.specs.Wire.{Wire}
use Rattle.lapin_delivery.specs.Marks as deliveries
use Rattle.lapin_broker.specs.Frames.{channel_of}
use Rattle.lapin_broker.specs.Reads.{read}
use Rattle.lapin_broker.specs.Sends.{may, send}
use Rattle.lapin_broker.specs.States.{after_loss}
use Rattle.lapin_machine.specs.Way.{by_history}
use Rattle.lapin_joint.specs.declared.step.Step.{Step}
use Rattle.lapin_joint.specs.declared.step.Step.TheVariants as step
use Rattle.lapin_joint.specs.Joint.{Joint, is_lawful, client, read_first, send_down, deliver_first, lose, after, joined_to}
use Rattle.lapin_joint.specs.Order.{front}
use Rattle.lapin_concord.specs.Refusals.{is_refusal}
use Rattle.lapin_verdicts.specs.Deeds.{Deed, Read, Sent, is_open, joined_opening, last_opening, reads, sents, reads_of, deed_in, deeds}
use Rattle.lapin_verdicts.specs.InStep.{is_frame_on, is_open_on, is_open_waiting}
use Rattle.lapin_verdicts.specs.Session.{frames_of, past_of}
use Rattle.lapin_effects.specs.Effects.{publish_by}
use Rattle.lapin_verdicts.proofs.Assembly.{in_run}
use Rattle.lapin_verdicts.proofs.TagCounts.{reads-append, reads-sent, sents-append, last-push, lost_down}
use Rattle.lapin_effects.specs.Effects.{live, hears, Effect}
use Rattle.lapin_verdicts.proofs.Opens.{stays_down}
use Rattle.lapin_verdicts.proofs.Runs.{cancel, past-push, joined-push, deeds-push}
use Rattle.lapin_verdicts.proofs.Together.{in_step, way_down}
use Rattle.lapin_verdicts.proofs.Unread.{is_unread}
use Rattle.lapin_messages.specs.Openings.{begins, registers_as}
use Rattle.lapin_messages.proofs.Arrives.{is_ok, channels_drop, content_logs, content_ways, content_channels}
use Rattle.lapin_messages.proofs.Backward.{known-append}
use Rattle.lapin_messages.proofs.Channel.{IsKnown, Channel, fresh_channel}
use Rattle.lapin_messages.proofs.Comings.{receives_content, content_channel}
use Rattle.lapin_messages.proofs.Dealing.{is_content, brings}
use Rattle.lapin_messages.proofs.Facts.{shows_at, unrefused, read_open, one_content}
use Rattle.lapin_messages.proofs.Hearing.{lost_hearing, receive_hearing, part_received, ok_received, passed_content}
use Rattle.lapin_messages.proofs.Logs.{Logs, no_logs, logs-more}
use Rattle.lapin_messages.proofs.State.{Ways, Channels, ways_event}
use Rattle.lapin_messages.proofs.Tags.{Kept, kept_read, kept_send, answers_consume}
use Rattle.lapin_messages.proofs.Turn.{live_up}
use Rattle.lapin_messages.proofs.Running.{wire, marks, Good, Then, turned, effect, plain_turn, client_good}
use Rattle.lapin_tables.proofs.Bools.{not_both}
use Rattle.lapin_verdicts.proofs.Verdict.{no_start}

-- ---- lists of deeds

filter_push : (c : ℕ) (down : List Frame) (f : Frame) → filter (is_frame_on c) (down ++ f ∷ []) ≡ filter (is_frame_on c) down ++ cond (channel_of f == c) (f ∷ []) []
filter_push c down f = filter-append (is_frame_on c) down (f ∷ [])

-- ---- a frame arrives

content_is : (i : Incoming) → is_content i ≡ true → (c : ℕ) × (p : ContentPart) × (i ≡ incoming.Content c p)
content_is (incoming.Content c p) h = (c, p, refl)
content_is (incoming.Reply c k a) h = absurd cc
content_is _ h = absurd cc

content_link : (i : Incoming) (b : Wire) → is_content i ≡ true → (after_received i b).link ≡ b.link
content_link (incoming.Content c p) b h = by p
  where
    by : (p : ContentPart) → (after_part c p b).link ≡ b.link
    by (part.GetOk s) = refl
    by (part.Return s) = refl
    by (part.Deliver tag s) = refl
    by (part.Header x) = refl
    by (part.Body bytes) = refl
content_link (incoming.Reply c k a) b h = absurd cc
content_link _ b h = absurd cc

receives_is : (i : Incoming) (b : Wire) (c : ℕ) (p : ContentPart) → i ≡ incoming.Content c p → receives_part c p b ≡ true → receives_content i b ≡ true
receives_is i b c p e h = ap (λ x. receives_content x b) e ∙ h

module _ (n : ℕ) (most : 4096 ≤ n) (ss : List Step) where
  abbrev j : Joint History
  j = joined_to n ss

  abbrev ds : List Deed
  ds = deeds n ss

  opened : (c : ℕ) → hears c (wire n j) ≡ true → is_unread c (wire n j) j.up ≡ false
  opened c h = read_open n most ss c h

  come : (c : ℕ) → (c == 0) ≡ false → is_up (wire n j).link ≡ true → (came : List Frame) × (sents (last_opening c ds) ≡ came ++ filter (is_frame_on c) j.down)
  come c z u = way_down n most ss c z u

  module _ (f : Frame) (way : List Frame) (down : j.down ≡ f ∷ way) (l : Logs (marks n j) ds) (w : Ways (wire n j) (past n j.session).confirms (marks n j) (reads ds ++ frames_of j.up)) (h : Channels (wire n j) (marks n j) j.up (f ∷ way) ds) (tags : (c : ℕ) → Kept c j.broker (last_opening c ds)) where
    abbrev e : Event
    e = event.Receive f

    abbrev b : Wire
    b = wire n j

    abbrev r : Record
    r = rec n j.session e

    ways : (c : ℕ) → (c == 0) ≡ false → is_up b.link ≡ true → (came : List Frame) × (sents (last_opening c ds) ≡ came ++ filter (is_frame_on c) (f ∷ way))
    ways c z u = let k = come c z u in (k.0, k.1 ∙ ap (λ v. k.0 ++ filter (is_frame_on c) v) down)

    fine : is_refusal r ≡ false
    fine = unrefused n most ss f way down

    hearing : (c : ℕ) (t q : List ℕ) → delivery_marks b e r ≡ deliveries.Consumed c t q ∷ [] → hears c b ≡ true
    hearing c t q x = (receive_hearing b (readings_of (past n j.session).confirms (past n j.session).tickets) f c t q x).0

    plain_arrives : is_content (incoming_of f) ≡ false → Then n j e j.up way ds (reads ds ++ frames_of j.up)
    plain_arrives plain =
        let t = plain_turn n j e (f ∷ way) ds refl plain hearing opened l w h in
        let E = effect n j e refl in (
          t.0,
          t.1,
          channels_drop (after_event b e r) (marks n j ++ delivery_marks b e r) j.up f way ds plain
              (λ u lives a. known u a (stays_down E (live_up (channel_of f) (after_event b e r) lives)))
              (λ c z u. ways c z (stays_down E u))
              t.2,
        )
      where
        known : (u : List ℕ) → answers_consume u f ≡ true → is_up b.link ≡ true → IsKnown (channel_of f) (marks n j ++ delivery_marks b e r) u
        known u a up =
            let c : ℕ = channel_of f in
            let k = is_ok u f a in
            let is : delivery_marks b e r ≡ deliveries.Consumed c k.tag (queue_asked c b) ∷ [] = ok_received b (readings_of (past n j.session).confirms (past n j.session).tickets) f c k.tag k.is up fine in
            let none : many (begins c) (delivery_marks b e r) ≡ 0 = ap (many (begins c)) is in
            let one : many (registers_as c u) (delivery_marks b e r) ≡ 1 = ap (many (registers_as c u)) is ∙ rw (eq-eqb c c refl, k.same) refl in
            let m = known-append c u (marks n j) (delivery_marks b e r) none in
            omega (arith, m, one)

    -- the connection is open no more
    shut_arrives : is_content (incoming_of f) ≡ true → is_up b.link ≡ false → Then n j e j.up way ds (reads ds ++ frames_of j.up)
    shut_arrives content shut =
        let E = effect n j e refl in
        let none : delivery_marks b e r ≡ [] = passed_content b (readings_of (past n j.session).confirms (past n j.session).tickets) f content shut in
        let never = λ (u : is_up (after_event b e r).link ≡ true). both_ways (is_up b.link) shut (stays_down E u) in (
          subst (λ X. Logs (marks n j ++ X) ds) (sym none) (subst (λ m. Logs m ds) (sym (append-nil (marks n j))) l),
          ways_event (brings e) b (after_event b e r) (confirm_marks b e r) (past n j.session).confirms (delivery_marks b e r) (marks n j) (publish_by b e r) E (event_deals b e r refl) (reads ds ++ frames_of j.up) hearing (λ u. stays_down E u) (λ c u. absurd (never u)) (λ c u. absurd (never u)) w,
          record { fresh = λ c z lives. absurd (never (live_up c (after_event b e r) lives)); channel = λ c z lives. absurd (never (live_up c (after_event b e r) lives)) },
        )

    -- a part of a content
    content_arrives : is_content (incoming_of f) ≡ true → is_up b.link ≡ true → Then n j e j.up way ds (reads ds ++ frames_of j.up)
    content_arrives content up =
        let k = content_is (incoming_of f) content in
        let got = part_received b (readings_of (past n j.session).confirms (past n j.session).tickets) f k.0 k.1 k.2 up fine in
        let on : channel_of f ≡ k.0 = content_channel f k.0 k.1 k.2 in
        let heard : hears (channel_of f) b ≡ true = subst (λ v. hears v b ≡ true) (sym on) got.2 in
        let E = subst (λ x. Effect b (after_event b e x) (confirm_marks b e x) (publish_by b e r)) got.0 (effect n j e refl) in
        let R = receives_is (incoming_of f) b k.0 k.1 k.2 got.1 in
        let C = (in_step n most ss (channel_of f) heard).count ∙ sym (w.counts (channel_of f)) in
        let back = λ (u : is_up (after_event b e record_.Received).link ≡ true). stays_down E u in
        let P : Record → Type 0 = λ x. Logs (marks n j ++ delivery_marks b e x) ds × Ways (after_event b e x) ((past n j.session).confirms ++ confirm_marks b e x) (marks n j ++ delivery_marks b e x) (reads ds ++ frames_of j.up) × Channels (after_event b e x) (marks n j ++ delivery_marks b e x) j.up way ds in
        subst P (sym got.0) (
          content_logs b (past n j.session).confirms (marks n j) j.up f way ds (publish_by b e r) E back opened R content heard (one_then got.0) (shows_at n ss) l w h ways (tags (channel_of f)).are C,
          content_ways b (past n j.session).confirms (marks n j) j.up f way ds (publish_by b e r) E back opened R content heard (one_then got.0) (shows_at n ss) l w h ways (tags (channel_of f)).are C,
          content_channels b (past n j.session).confirms (marks n j) j.up f way ds (publish_by b e r) E back opened R content heard (one_then got.0) (shows_at n ss) l w h ways (tags (channel_of f)).are C,
        )
      where
        next_wire : (past_of n (ss ++ step.Deliver ∷ [])).wire ≡ after_event b e r
        next_wire =
            ap (λ (k : Joint History). (past n k.session).wire) (joined-push n ss step.Deliver)
            ∙ (ap (λ fs. (past n (deliver_first (by_history n) fs j).session).wire) down
            ∙ ap (λ (p : Past). p.wire) (past-push n j.session e r))

        one_then : r ≡ record_.Received → IsOneContent (expected_on (channel_of f) (after_received (incoming_of f) b).contents)
        one_then got =
            let to : (past_of n (ss ++ step.Deliver ∷ [])).wire ≡ after_event b e record_.Received = next_wire ∙ ap (after_event b e) got in
            let u : is_up (past_of n (ss ++ step.Deliver ∷ [])).wire.link ≡ true = ap (λ (x : Wire). is_up x.link) to ∙ (ap is_up (content_link (incoming_of f) b content) ∙ up) in
            subst (λ (x : Wire). IsOneContent (expected_on (channel_of f) x.contents)) to (one_content n most (ss ++ step.Deliver ∷ []) (channel_of f) u)

    pub arrives : Then n j e j.up way ds (reads ds ++ frames_of j.up)
    arrives = elim (is_content (incoming_of f)) as (λ v. is_content (incoming_of f) ≡ v → Then n j e j.up way ds (reads ds ++ frames_of j.up)) [
      | false ↦ λ plain. plain_arrives plain
      | true ↦ λ content. elim (is_up b.link) as (λ u. is_up b.link ≡ u → Then n j e j.up way ds (reads ds ++ frames_of j.up)) [
        | true ↦ λ up. content_arrives content up
        | false ↦ λ shut. shut_arrives content shut
      ] refl
    ] refl

  receive_good : Good n j ds → Good n (deliver_first (by_history n) j.down j) (ds ++ [])
  receive_good g = by j.down refl
    where
      same : Good n j (ds ++ [])
      same = subst (Good n j) (sym (append-nil ds)) g

      by : (fs : List Frame) → j.down ≡ fs → Good n (deliver_first (by_history n) fs j) (ds ++ [])
      by [] e = same
      by (f ∷ way) e = turned n j (event.Receive f) j.broker j.up way ds (arrives f way e g.logs g.ways (subst (λ v. Channels (wire n j) (marks n j) j.up v ds) e g.channels) g.tags) g.tags

  -- ---- the links and the broker

  lost_shut : is_up (after_event (wire n j) event.Lost (rec n j.session event.Lost)).link ≡ false
  lost_shut = by (is_lost (wire n j).link) refl
    where
      shut : (l : ConnectionPhase) → is_lost l ≡ true → is_up l ≡ false
      shut link.Lost h = refl
      shut _ h = absurd cc

      by : (v : Bool) → is_lost (wire n j).link ≡ v → is_up (cond v (wire n j) (down link.Lost (wire n j))).link ≡ false
      by true e = shut (wire n j).link e
      by false e = refl

  lose_good : Good n j ds → Good n (lose (by_history n) j) (ds ++ [])
  lose_good g =
      let b' : Wire = after_event (wire n j) event.Lost (rec n j.session event.Lost) in
      let t = plain_turn n j event.Lost j.down ds refl refl (lost_hearing (wire n j) (rec n j.session event.Lost)) opened g.logs g.ways g.channels in
      let never : (c : ℕ) → live c b' ≡ true → ⊥ = λ c lives. both_ways _ lost_shut (live_up c b' lives) in
      turned n j event.Lost (after_loss j.broker) [] [] ds (
        t.0,
        record { counts = t.1.counts; positive = t.1.positive; lives = t.1.lives; empty = t.1.empty; waits = t.1.waits; asked = λ c u lives. absurd (never c lives) },
        record { fresh = λ c z lives. absurd (never c lives); channel = λ c z lives. absurd (never c lives) },
      ) (λ c. record { tells = λ up. absurd (not_both _ up (lost_down j.broker.connection)); are = (g.tags c).are })

  read_good : Good n j ds → Good n (read_first j.up j) (ds ++ reads_of (front j.up))
  read_good g = by j.up refl
    where
      by : (ls : List Left) → j.up ≡ ls → Good n (read_first ls j) (ds ++ reads_of (front ls))
      by [] e = subst (Good n j) (sym (append-nil ds)) g
      by (x ∷ ls) e =
          let next : (c : ℕ) → last_opening c (ds ++ Read x ∷ []) ≡ next_opening c (last_opening c ds) x = λ c. last-push c ds (Read x) in
          let handed : reads (ds ++ Read x ∷ []) ++ frames_of ls ≡ reads ds ++ frames_of j.up = ap (λ v. v ++ frames_of ls) (reads-append ds (Read x ∷ [])) ∙ (append_assoc (reads ds) (x.frame ∷ []) (frames_of ls) ∙ ap (λ v. reads ds ++ frames_of v) (sym e)) in
          let h : Channels (wire n j) (marks n j) (x ∷ ls) j.down ds = subst (λ v. Channels (wire n j) (marks n j) v j.down ds) e g.channels in
          record {
            logs = logs-more (marks n j) ds (Read x ∷ []) g.logs;
            ways = subst (Ways (wire n j) (past n j.session).confirms (marks n j)) (sym handed) g.ways;
            channels = channels_read x ls h;
            tags = λ c. subst (Kept c (read j.broker x.frame)) (sym (next c)) (kept_read c x j.broker (last_opening c ds) (g.tags c));
          }
        where
          same_sents : (c : ℕ) (v q : Bool) → (channel_of x.frame == c) ≡ v → is_open x.frame ≡ q → (v && q) ≡ false → sents (last_opening c (ds ++ Read x ∷ [])) ≡ sents (last_opening c ds)
          same_sents c true true a b h = absurd cc
          same_sents c true false a b h = ap sents (last-push c ds (Read x) ∙ (ap (λ v. cond v (joined_opening (last_opening c ds) (Read x)) (last_opening c ds)) a ∙ ap (λ v. cond v [] (last_opening c ds ++ Read x ∷ [])) b)) ∙ (sents-append (last_opening c ds) (Read x ∷ []) ∙ append-nil _)
          same_sents c false q a b h = ap sents (last-push c ds (Read x) ∙ ap (λ v. cond v (joined_opening (last_opening c ds) (Read x)) (last_opening c ds)) a)

          none_sent : (c : ℕ) → ((channel_of x.frame == c) && is_open x.frame) ≡ true → sents (last_opening c (ds ++ Read x ∷ [])) ≡ []
          none_sent c h =
              let both = and_parts (channel_of x.frame == c) (is_open x.frame) h in
              ap sents (last-push c ds (Read x) ∙ (ap (λ v. cond v (joined_opening (last_opening c ds) (Read x)) (last_opening c ds)) both.0 ∙ ap (λ v. cond v [] (last_opening c ds ++ Read x ∷ [])) both.1))

          channels_read : (x' : Left) (ls : List Left) → Channels (wire n j) (marks n j) (x ∷ ls) j.down ds → Channels (wire n j) (marks n j) ls j.down (ds ++ Read x ∷ [])
          channels_read x' ls h = record {
            fresh = λ c z l u. h.fresh c z l (elim (is_open_on c x) as (λ v. ((v || list_any (is_open_on c) ls) || list_any (is_open_waiting c) (wire n j).methods) ≡ true) [ true ↦ refl | false ↦ u ]);
            channel = λ c z l u came way. elim (is_open_on c x) as (λ v. is_open_on c x ≡ v → Channel c (marks n j) (expected_on c (wire n j).contents) came) [
              | true ↦ λ o.
                  let k = h.fresh c z l (rw o refl) in
                  let none : came ≡ [] = no_start came (filter (is_frame_on c) j.down) (sym (none_sent c o) ∙ way) in
                  subst (Channel c (marks n j) (expected_on c (wire n j).contents)) (sym none) (subst (λ es. Channel c (marks n j) es []) (sym k.expected) (fresh_channel c (marks n j) k.none))
              | false ↦ λ o. h.channel c z l (rw o u) came (sym (same_sents c (channel_of x.frame == c) (is_open x.frame) refl refl o) ∙ way)
            ] refl;
          }

  send_good : (f : Frame) → Good n j ds → Good n (cond (may j.broker f) (send_down f j) j) (ds ++ cond (may j.broker f) (Sent f ∷ []) [])
  send_good f g = elim (may j.broker f) as (λ v. may j.broker f ≡ v → Good n (cond v (send_down f j) j) (ds ++ cond v (Sent f ∷ []) [])) [
    | false ↦ λ m. subst (Good n j) (sym (append-nil ds)) g
    | true ↦ λ m.
        let handed : reads (ds ++ Sent f ∷ []) ++ frames_of j.up ≡ reads ds ++ frames_of j.up = ap (λ v. v ++ frames_of j.up) (reads-sent ds f) in
        record {
          logs = logs-more (marks n j) ds (Sent f ∷ []) g.logs;
          ways = subst (Ways (wire n j) (past n j.session).confirms (marks n j)) (sym handed) g.ways;
          channels = record {
            fresh = g.channels.fresh;
            channel = λ c z l u came way. g.channels.channel c z l u came (before c came (channel_of f == c) refl way);
          };
          tags = λ c. subst (Kept c (send j.broker f)) (sym (last-push c ds (Sent f))) (kept_send c f j.broker (last_opening c ds) m (g.tags c));
        }
  ] refl
    where
      before : (c : ℕ) (came : List Frame) (v : Bool) → (channel_of f == c) ≡ v → sents (last_opening c (ds ++ Sent f ∷ [])) ≡ came ++ filter (is_frame_on c) (j.down ++ f ∷ []) → sents (last_opening c ds) ≡ came ++ filter (is_frame_on c) j.down
      before c came true on e =
          let more : sents (last_opening c (ds ++ Sent f ∷ [])) ≡ sents (last_opening c ds) ++ f ∷ [] = ap sents (last-push c ds (Sent f) ∙ ap (λ v. cond v (joined_opening (last_opening c ds) (Sent f)) (last_opening c ds)) on) ∙ sents-append (last_opening c ds) (Sent f ∷ []) in
          let down' : filter (is_frame_on c) (j.down ++ f ∷ []) ≡ filter (is_frame_on c) j.down ++ f ∷ [] = filter_push c j.down f ∙ ap (λ v. filter (is_frame_on c) j.down ++ cond v (f ∷ []) []) on in
          cancel (sents (last_opening c ds)) (came ++ filter (is_frame_on c) j.down) (f ∷ []) (sym more ∙ (e ∙ (ap (λ v. came ++ v) down' ∙ sym (append_assoc came (filter (is_frame_on c) j.down) (f ∷ [])))))
      before c came false off e =
          let same : sents (last_opening c (ds ++ Sent f ∷ [])) ≡ sents (last_opening c ds) = ap sents (last-push c ds (Sent f) ∙ ap (λ v. cond v (joined_opening (last_opening c ds) (Sent f)) (last_opening c ds)) off) in
          let down' : filter (is_frame_on c) (j.down ++ f ∷ []) ≡ filter (is_frame_on c) j.down = filter_push c j.down f ∙ (ap (λ v. filter (is_frame_on c) j.down ++ cond v (f ∷ []) []) off ∙ append-nil _) in
          sym same ∙ (e ∙ ap (λ v. came ++ v) down')

  -- ---- every step

  pub step_good : (s : Step) → Good n j ds → Good n (after (by_history n) s j) (ds ++ deed_in s j)
  step_good (step.Client e) g = elim (is_lawful e) as (λ v. is_lawful e ≡ v → Good n (cond v (client (by_history n) e j) j) (ds ++ [])) [
    | true ↦ λ l. let i = (in_run n 0 (omega (arith, most)) ss).contents in client_good n e j ds l i.0 i.1 opened g
    | false ↦ λ l. subst (Good n j) (sym (append-nil ds)) g
  ] refl
  step_good step.Read g = read_good g
  step_good (step.Send f) g = send_good f g
  step_good step.Deliver g = receive_good g
  step_good step.Lose g = lose_good g

-- ---- every joined run

first_good : (n : ℕ) → Good n (joined_to n []) (deeds n [])
first_good n = record {
  logs = no_logs;
  ways = record { counts = λ c. refl; positive = λ c l. absurd cc; lives = λ p s at. absurd (none p s at); empty = λ c u l. refl; waits = λ c t u h. absurd cc; asked = λ c t l. absurd cc };
  channels = record { fresh = λ c z l. absurd cc; channel = λ c z l. absurd cc };
  tags = λ c. record { tells = λ up. refl; are = tt };
}
  where
    none : (p : ℕ) (s : Story) → slice_get [] p ≡ Some s → ⊥
    none p s h = cc

good_from : (n : ℕ) → 4096 ≤ n → (pre ss : List Step) → Good n (joined_to n pre) (deeds n pre) → Good n (joined_to n (pre ++ ss)) (deeds n (pre ++ ss))
good_from n most pre [] g = subst (λ v. Good n (joined_to n v) (deeds n v)) (sym (append-nil pre)) g
good_from n most pre (s ∷ ss) g =
    let one : Good n (joined_to n (pre ++ s ∷ [])) (deeds n (pre ++ s ∷ [])) = subst (λ v. Good n (joined_to n (pre ++ s ∷ [])) v) (sym (deeds-push n pre s)) (subst (λ k. Good n k (deeds n pre ++ deed_in s (joined_to n pre))) (sym (joined-push n pre s)) (step_good n most pre s g)) in
    subst (λ v. Good n (joined_to n v) (deeds n v)) (append_assoc pre (s ∷ []) ss) (good_from n most (pre ++ s ∷ []) ss one)

pub good : (n : ℕ) → 4096 ≤ n → (ss : List Step) → Good n (joined_to n ss) (deeds n ss)
good n most ss = good_from n most [] ss (first_good n)
