-- In every joined run; and what a get's ticket that is resolved with a message says.
use Rattle.std.proofs.Common.{◌≡◌, ◌∙◌, ℕ, ◌≤◌, ◌==◌, Bool, true, false, cond, ◌&&◌, ◌||◌, List, [], ◌∷◌, ◌++◌, Option, Some, None, inl, inr, refl, sym, ap, subst, append-nil, append_assoc}
use Rattle.std.specs.List.{filter, list_any}
use Rattle.std.proofs.lemmas.Bool.{and_parts}
use Rattle.std.proofs.lemmas.Bool.Decides.{eqb_tells}
use Rattle.std.proofs.lemmas.List.Elements.{filter-append}
use Rattle.lapin_types.specs.declared.event.Event.{Event}
use Rattle.lapin_types.specs.declared.event.Event.TheVariants as event
use Rattle.lapin_types.specs.declared.leaving.Left.{Left}
use Rattle.lapin_types.specs.declared.record.Record.{Record}
use Rattle.lapin_types.specs.declared.record.Record.TheVariants as record_
use Rattle.lapin_types.specs.declared.request.ReplyKind.TheVariants as reply_kind
use Rattle.lapin_types.specs.Types.{Frame, Method}
use Rattle.lapin_types.specs.Types.frame
use Rattle.lapin_types.specs.Types.method
use Rattle.lapin_types.specs.Types.basic
use Rattle.lapin_content.specs.declared.start.Start.{Start as Beginning}
use Rattle.lapin_content.specs.declared.start.Start.TheVariants as start
use Rattle.lapin_content.specs.Contents.{Expected, expected, after_header, after_body, front_waits, front_takes}
use Rattle.lapin_content.specs.Channels.{expected_on, joined}
use Rattle.lapin_rules.specs.declared.broker_frames.ContentPart.{ContentPart}
use Rattle.lapin_rules.specs.declared.broker_frames.ContentPart.TheVariants as part
use Rattle.lapin_rules.specs.declared.broker_frames.Incoming.{Incoming}
use Rattle.lapin_rules.specs.declared.broker_frames.Incoming.TheVariants as incoming
use Rattle.lapin_consumer.specs.Subscriptions.{found}
use Rattle.lapin_rules.specs.Content.{get_ticket, receives_part, after_part}
use Rattle.lapin_rules.specs.Events.{after_event}
use Rattle.lapin_rules.specs.Handing.{handed_out, began_on, after_handing}
use Rattle.lapin_rules.specs.History.{History, Past, past, rec, readings_of}
use Rattle.lapin_rules.specs.Incoming.{incoming_of, frame_class, frame_method}
use Rattle.lapin_rules.specs.Leaving.{left_lists}
use Rattle.lapin_rules.specs.Phases.{is_up, is_live}
use Rattle.lapin_rules.specs.Readings.{Readings}
use Rattle.lapin_rules.specs.Receiving.{incoming_record, incoming_wire}
use Rattle.lapin_rules.specs.Unexpected.{refused}
use Rattle.lapin_rules.specs.Wire.{Wire, phase_of, state_of, receives_on, lists_of, with_lists}
use Rattle.lapin_broker.specs.Frames.{channel_of}
use Rattle.lapin_broker.specs.Sends.{may}
use Rattle.lapin_joint.specs.declared.step.Step.{Step}
use Rattle.lapin_joint.specs.declared.step.Step.TheVariants as step
use Rattle.lapin_joint.specs.Joint.{Joint, new_joint, is_lawful, client, read_first, send_down, deliver_first, after, joined_to}
use Rattle.lapin_joint.specs.Order.{front}
use Rattle.lapin_joint.proofs.Alike.{new_alike}
use Rattle.lapin_machine.specs.Way.{by_history}
use Rattle.lapin_machine.specs.World.{new_world}
use Rattle.lapin_concord.specs.Held.{Held, IsOneContent}
use Rattle.lapin_concord.specs.Refusals.{is_refusal}
use Rattle.lapin_concord.proofs.Laws.{alike_run}
use Rattle.lapin_concord.proofs.Running.{new_sound, sound_run}
use Rattle.lapin_concord.proofs.Views.{contents_on_here}
use Rattle.lapin_effects.specs.Effects.{is_next, hears}
use Rattle.lapin_verdicts.specs.Deeds.{Deed, Read, Sent, is_open, joined_opening, last_opening, reads_of, deed_in, deeds}
use Rattle.lapin_verdicts.specs.InStep.{is_frame_on, is_open_on}
use Rattle.lapin_verdicts.specs.Messages.{Start, Get, with_start, sent_after, start_in}
use Rattle.lapin_verdicts.specs.Session.{past_of}
use Rattle.lapin_verdicts.proofs.TagCounts.{last-push, last-sent}
use Rattle.lapin_verdicts.proofs.Leaving.{still_hears}
use Rattle.lapin_verdicts.proofs.Numbering.{hears_live}
use Rattle.lapin_verdicts.proofs.Runs.{past-push, joined-push, deeds-push}
use Rattle.lapin_verdicts.proofs.Together.{in_step, lost_down}
use Rattle.lapin_answers.proofs.Turns as turn
use Rattle.lapin_answers.proofs.Turns.{Turns, hears_down}
use Rattle.lapin_answers.proofs.Happens.{income_in, event_turn}
use Rattle.lapin_answers.proofs.Carried.{is_content_on, brings_content, event_kept}
use Rattle.lapin_answers.proofs.Getting.{on_way}
use Rattle.lapin_answers.proofs.Gets.{Kind, AsHeader, AsBody, AsGetOk, AsDeliver, AsReturn, AsOther, sort_kind, Getting, Gets, gets_none, getting_comes}
use Rattle.lapin_answers.proofs.GetRun.{Steps, content_down, Carrying, gets_on, quiet_carried, carried_read, carried_send, carried_away, further, header_steps, body_steps, PartComes, part_heard, front_is}
use Rattle.lapin_answers.proofs.Lets.{handing_still}
use Rattle.lapin_answers.proofs.Received.{unrefused, wire_after}
use Rattle.lapin_answers.proofs.Replying.{IsReply, Replied, met}
use Rattle.lapin_answers.proofs.Standing.{call_more}
use Rattle.lapin_rules.proofs.PhaseLaws.{up_open}
use Rattle.lapin_tables.proofs.Bools.{not_both}
use Rattle.lapin_messages.proofs.Requests.{sent_contents}
use Rattle.lapin_messages.proofs.Comings.{alone}
use Rattle.lapin_concord.proofs.Coming.{joined_here}

-- ---- one content at a time

held_in : (n : ℕ) → 4096 ≤ n → (ss : List Step) → Held (past_of n ss).wire
held_in n r ss =
    let a = alike_run n ss (new_joint [] n) (new_joint (new_world n) n) refl (new_alike n) in
    let s = sound_run ss (new_joint (new_world n) n) (new_sound n r) in
    subst Held a.session.wire s.held

one_content : (c : ℕ) (b : Wire) → Held b → is_up b.link ≡ true → IsOneContent (expected_on c b.contents)
one_content c b k u = ((k.up (up_open b.link u)).each c).contents

hears_up : (c : ℕ) (b : Wire) → hears c b ≡ true → is_up b.link ≡ true
hears_up c b h = (and_parts (is_up b.link) (is_live (phase_of c b)) (hears_live c b h)).0

-- ---- a channel that was heard, and is no more

silent_heard : (c : ℕ) (e : Event) (x : Record) (i : Option Incoming) (b b' : Wire) → Turns c e x i b b' → hears c b ≡ true → hears c b' ≡ false → expected_on c b'.contents ≡ []
silent_heard c e x i b b' (turn.Stays calm hear o w) u d = absurd (not_both _ (hear ∙ u) d)
silent_heard c e x i b b' (turn.Grows calm heard hear l r o w f) u d = absurd (not_both _ hear d)
silent_heard c e x i b b' (turn.Shrinks k on a heard hear o w) u d = absurd (not_both _ hear d)
silent_heard c e x i b b' (turn.Begins on alive heard hear o w) u d = absurd (not_both _ hear d)
silent_heard c e x i b b' (turn.Ends over o w none) u d = none
silent_heard c e x i b b' (turn.Sinks heard over o w) u d = absurd (not_both _ u heard)

-- ---- get-ok, as the session sorts it

abbrev get_reply : (c : ℕ) (s : Beginning) → IsReply c (incoming.Content c (part.GetOk s))
get_reply c s = record {
  kind = reply_kind.BasicGetOk;
  asked = refl;
  content = true;
  comes = refl;
  up = λ b readings r. refl;
  down = λ l. content_down c (part.GetOk s) l;
  tickets = λ b. (None, refl);
}

-- the start of a content as the verdicts have it
new_front : (es : List Expected) (e e' : Expected) (more : List Expected) → es ≡ [] → es ++ e ∷ [] ≡ e' ∷ more → e' ≡ e
new_front es e e' more n is = sym (front_is e e' [] more (ap (λ v. v ++ e ∷ []) (sym n) ∙ is))

module _ (n c : ℕ) (big : 4096 ≤ n) where
  abbrev on_event : History → Event → History
  on_event h e = h ++ (e, rec n h e) ∷ []

  abbrev see : History → Readings
  see h = readings_of (past n h).confirms (past n h).tickets

  abbrev For : Joint History → List Deed → Type 0
  For j ds = Carrying c j.session (past n j.session).wire j.down (last_opening c ds)

  to_event : (h : History) (e : Event) (down : List Frame) (opened : List Deed) → Carrying c (on_event h e) (after_event (past n h).wire e (rec n h e)) down opened → Carrying c (on_event h e) (past n (on_event h e)).wire down opened
  to_event h e down opened s = subst (λ b. Carrying c (on_event h e) b down opened) (sym (ap (λ (p : Past). p.wire) (past-push n h e (rec n h e)))) s

  -- ---- a delivery

  module _ (ss : List Step) (f : Frame) (fs : List Frame) (down : (joined_to n ss).down ≡ f ∷ fs) where
    abbrev h : History
    h = (joined_to n ss).session

    abbrev b : Wire
    b = (past_of n ss).wire

    abbrev x : Record
    x = rec n h (event.Receive f)

    abbrev b' : Wire
    b' = after_event b (event.Receive f) x

    abbrev opened : List Deed
    opened = last_opening c (deeds n ss)

    abbrev h' : History
    h' = on_event h (event.Receive f)

    turned : Turns c (event.Receive f) x (Some (incoming_of f)) b b'
    turned = event_turn c b (see h) (event.Receive f) refl

    -- a frame of no content, or on another channel
    away : (channel_of f == c) ≡ false → is_content_on c (incoming_of f) ≡ false → Carrying c h b (f ∷ fs) opened → Carrying c h' b' fs opened
    away off quiet s = carried_away c h' b' (f ∷ fs) fs opened (sym (ap (λ v. cond v (f ∷ filter (is_frame_on c) fs) (filter (is_frame_on c) fs)) off)) (quiet_carried c h (event.Receive f) x b b' (f ∷ fs) opened turned (event_kept c b (event.Receive f) x refl quiet) s)

    other : start_in f ≡ None → is_content_on c (incoming_of f) ≡ false → (d : ℕ) (m : Method) → f ≡ frame.Method d m → Carrying c h b (f ∷ fs) opened → Carrying c h' b' fs opened
    other none quiet d m is s = elim (channel_of f == c) as (λ v. (channel_of f == c) ≡ v → Carrying c h' b' fs opened) [
      | true ↦ λ on.
          let k = quiet_carried c h (event.Receive f) x b b' (f ∷ fs) opened turned (event_kept c b (event.Receive f) x refl quiet) s in
          record {
            silent = k.silent;
            gets = λ e more j tag exchange key redelivered count q at. getting_comes c j h' (Get tag redelivered exchange key count) e.begun e.begun f fs opened on (same (Get tag redelivered exchange key count) e) (k.gets e more j tag exchange key redelivered count q at);
          }
      | false ↦ λ off. away off quiet s
    ] refl
      where
        same : (g : Start) (e : Expected) → sent_after (on_way g e.begun) f ≡ on_way g e.begun
        same g e = ap (sent_after (on_way g e.begun)) is ∙ ap (λ v. with_start v (on_way g e.begun)) (sym (ap start_in is) ∙ none)

    -- a frame of a content on the channel
    on_channel_ : (p : ContentPart) → incoming_of f ≡ incoming.Content c p → (x ≡ record_.Received → receives_part c p b ≡ true → hears c b ≡ true → Gets c h' (expected_on c (after_part c p b).contents) fs opened) → Carrying c h b (f ∷ fs) opened → Carrying c h' b' fs opened
    on_channel_ p is gets s = by (part_heard c p (frame_class f) (frame_method f) b (see h) (ap (λ v. is_refusal (incoming_record b (see h) (refused (frame_class f) (frame_method f)) v)) (sym is) ∙ unrefused n ss f fs down big))
      where
        same : x ≡ incoming_record b (see h) (refused (frame_class f) (frame_method f)) (incoming.Content c p)
        same = ap (incoming_record b (see h) (refused (frame_class f) (frame_method f))) is

        by : PartComes c p b (incoming_record b (see h) (refused (frame_class f) (frame_method f)) (incoming.Content c p)) → Carrying c h' b' fs opened
        by (inl q) =
            let left : expected_on c b'.contents ≡ expected_on c (after_part c p b).contents = ap (λ v. expected_on c (incoming_wire v x b).contents) is ∙ ap (λ v. expected_on c (incoming_wire (incoming.Content c p) v b).contents) (same ∙ q.received) in
            record {
              silent = λ d. silent_heard c (event.Receive f) x (Some (incoming_of f)) b b' turned q.hears d;
              gets = subst (λ v. Gets c h' v fs opened) (sym left) (gets (same ∙ q.received) q.may q.hears);
            }
        by (inr q) =
            let left : expected_on c b'.contents ≡ expected_on c b.contents = ap (λ v. expected_on c (incoming_wire v x b).contents) is ∙ ap (λ v. expected_on c (incoming_wire (incoming.Content c p) v b).contents) (same ∙ q.0) in
            let none : expected_on c b'.contents ≡ [] = left ∙ s.silent (hears_down c b q.1) in
            record { silent = λ d. none; gets = gets_none c h' (expected_on c b'.contents) fs opened none }

    one : hears c b ≡ true → IsOneContent (expected_on c b.contents)
    one u = one_content c b (held_in n big ss) (hears_up c b u)

    -- a content begins: nothing was expected before
    begun : (p : ContentPart) (e : Expected) → incoming_of f ≡ incoming.Content c p → x ≡ record_.Received → (after_part c p b).contents ≡ joined c e b.contents → (after_part c p b).link ≡ b.link → hears c b ≡ true → expected_on c b.contents ≡ []
    begun p e is r joins same u =
        let held : Held b' = subst Held (wire_after n ss f fs down) (held_in n big (ss ++ step.Deliver ∷ [])) in
        let link_is : b'.link ≡ b.link = ap (λ v. (incoming_wire v x b).link) is ∙ (ap (λ v. (incoming_wire (incoming.Content c p) v b).link) r ∙ same) in
        let left : expected_on c b'.contents ≡ expected_on c b.contents ++ e ∷ [] = ap (λ v. expected_on c (incoming_wire v x b).contents) is ∙ (ap (λ v. expected_on c (incoming_wire (incoming.Content c p) v b).contents) r ∙ (ap (expected_on c) joins ∙ joined_here c e b.contents)) in
        alone (expected_on c b.contents) e (subst IsOneContent left (one_content c b' held (ap is_up link_is ∙ hears_up c b u)))

    -- the content of a get begins with the answer to that very get
    get_begins : (d tag : ℕ) (redelivered : Bool) (exchange key : List ℕ) (count : ℕ) → f ≡ frame.Method d (method.Basic (basic.GetOk tag redelivered exchange key count)) → d ≡ c → hears c b ≡ true → (k : ℕ) → get_ticket c b ≡ Some k → Getting c k h' (Get tag redelivered exchange key count) None fs opened
    get_begins d tag redelivered exchange key count is on u k t =
        let g : Frame = frame.Method d (method.Basic (basic.GetOk tag redelivered exchange key count)) in
        let q : Replied n k ss g fs = met n big k ss g fs (down ∙ ap (λ v. v ∷ fs) is) refl (get_reply d (start.Get None tag exchange key redelivered count)) (subst (λ v. hears v b ≡ true) (sym on) u) (subst (λ v. get_ticket v b ≡ Some k) (sym on) t) in
        subst (λ v. Getting v k h' (Get tag redelivered exchange key count) None fs (last_opening v (deeds n ss))) on (record {
          method_ = q.0;
          call = call_more k d q.0 h (event.Receive f) x q.1;
          reply = g;
          replied = q.2;
          starts = refl;
          came = [];
          way = q.3;
          far = refl;
        })

    -- whatever frame comes
    by_kind : Kind f → Carrying c h b (f ∷ fs) opened → Carrying c h' b' fs opened
    by_kind (AsOther none quiet m) s = other none (quiet c).0 m.0 m.1 m.2 s
    by_kind (AsHeader d hd is) s = elim (eqb_tells d c) [
      | inl y ↦
          let es : List Expected = expected_on c b.contents in
          on_channel_ (part.Header hd) (ap incoming_of is ∙ ap (λ v. incoming.Content v (part.Header hd)) y.1) (λ _ may u. subst (λ v. Gets c h' v fs opened) (sym (contents_on_here c (after_header hd) b.contents refl))
          (further c h' es (after_header hd es) f fs opened (ap (λ v. channel_of v == c) is ∙ y.0) (subst (λ v. Steps v es (after_header hd es)) (sym is) (header_steps d hd es (and_parts (receives_on (state_of c b)) (front_waits hd.class_id es) may).1 (one u))) (gets_on c h (event.Receive f) x es (f ∷ fs) opened s.gets))) s
      | inr o ↦ away (ap (λ v. channel_of v == c) is ∙ o.0) (ap (λ v. is_content_on c (incoming_of v)) is ∙ o.0) s
    ]
    by_kind (AsBody d bytes is) s = elim (eqb_tells d c) [
      | inl y ↦
          let es : List Expected = expected_on c b.contents in
          on_channel_ (part.Body bytes) (ap incoming_of is ∙ ap (λ v. incoming.Content v (part.Body bytes)) y.1) (λ _ may u. subst (λ v. Gets c h' v fs opened) (sym (contents_on_here c (after_body bytes) b.contents refl))
          (further c h' es (after_body bytes es) f fs opened (ap (λ v. channel_of v == c) is ∙ y.0) (subst (λ v. Steps v es (after_body bytes es)) (sym is) (body_steps d bytes es (and_parts (receives_on (state_of c b)) (front_takes bytes es) may).1 (one u))) (gets_on c h (event.Receive f) x es (f ∷ fs) opened s.gets))) s
      | inr o ↦ away (ap (λ v. channel_of v == c) is ∙ o.0) (ap (λ v. is_content_on c (incoming_of v)) is ∙ o.0) s
    ]
    by_kind (AsGetOk d tag redelivered exchange key count is) s = elim (eqb_tells d c) [
      | inl y ↦
          let begins : Beginning = start.Get None tag exchange key redelivered count in
          let i_is : incoming_of f ≡ incoming.Content c (part.GetOk begins) = ap incoming_of is ∙ ap (λ v. incoming.Content v (part.GetOk begins)) y.1 in
          on_channel_ (part.GetOk begins) i_is (λ r may u e more k tag' exchange' key' redelivered' count' q at.
          (let new : Expected = expected 60 (start.Get (get_ticket c b) tag exchange key redelivered count) in
          let none = begun (part.GetOk begins) new i_is r refl refl u in
          let same : e ≡ new = new_front (expected_on c b.contents) new e more none (sym (joined_here c new b.contents) ∙ q) in
          let starts : start.Get (get_ticket c b) tag exchange key redelivered count ≡ start.Get (Some k) tag' exchange' key' redelivered' count' = ap (λ (v : Expected). v.start) (sym same) ∙ at in
          let t : get_ticket c b ≡ Some k = cc in
          let g : Get tag redelivered exchange key count ≡ Get tag' redelivered' exchange' key' count' = cc in
          subst (λ v. Getting c k h' (Get tag' redelivered' exchange' key' count') v fs opened) (ap (λ (v : Expected). v.begun) (sym same)) (subst (λ v. Getting c k h' v None fs opened) g (get_begins d tag redelivered exchange key count is y.1 u k t)))) s
      | inr o ↦ away (ap (λ v. channel_of v == c) is ∙ o.0) (ap (λ v. is_content_on c (incoming_of v)) is ∙ o.0) s
    ]
    by_kind (AsDeliver d tag number redelivered exchange key is) s = elim (eqb_tells d c) [
      | inl y ↦
          let begins : Beginning = start.Deliver None number exchange key redelivered in
          let i_is : incoming_of f ≡ incoming.Content c (part.Deliver tag begins) = ap incoming_of is ∙ ap (λ v. incoming.Content v (part.Deliver tag begins)) y.1 in
          on_channel_ (part.Deliver tag begins) i_is (λ r may u e more k tag' exchange' key' redelivered' count' q at.
          (let new : Expected = expected 60 (start.Deliver (found c tag b.deliveries.subscriptions) number exchange key redelivered) in
          let none = begun (part.Deliver tag begins) new i_is r refl refl u in
          let same : e ≡ new = new_front (expected_on c b.contents) new e more none (sym (joined_here c new b.contents) ∙ q) in
          let starts : start.Deliver (found c tag b.deliveries.subscriptions) number exchange key redelivered ≡ start.Get (Some k) tag' exchange' key' redelivered' count' = ap (λ (v : Expected). v.start) (sym same) ∙ at in
          absurd cc)) s
      | inr o ↦ away (ap (λ v. channel_of v == c) is ∙ o.0) (ap (λ v. is_content_on c (incoming_of v)) is ∙ o.0) s
    ]
    by_kind (AsReturn d code text exchange key is) s = elim (eqb_tells d c) [
      | inl y ↦
          let begins : Beginning = start.Return code text exchange key in
          let i_is : incoming_of f ≡ incoming.Content c (part.Return begins) = ap incoming_of is ∙ ap (λ v. incoming.Content v (part.Return begins)) y.1 in
          on_channel_ (part.Return begins) i_is (λ r may u e more k tag' exchange' key' redelivered' count' q at.
          (let new : Expected = expected 60 begins in
          let none = begun (part.Return begins) new i_is r refl refl u in
          let same : e ≡ new = new_front (expected_on c b.contents) new e more none (sym (joined_here c new b.contents) ∙ q) in
          let starts : start.Return code text exchange key ≡ start.Get (Some k) tag' exchange' key' redelivered' count' = ap (λ (v : Expected). v.start) (sym same) ∙ at in
          absurd cc)) s
      | inr o ↦ away (ap (λ v. channel_of v == c) is ∙ o.0) (ap (λ v. is_content_on c (incoming_of v)) is ∙ o.0) s
    ]

    pub delivered_carried : Carrying c h b (f ∷ fs) opened → Carrying c h' (past n h').wire fs opened
    delivered_carried s = to_event h (event.Receive f) fs opened (by_kind (sort_kind f) s)

  -- ---- the other steps

  calm : (h : History) (e : Event) (down : List Frame) (opened : List Deed) → is_next e ≡ false → income_in e ≡ None → Carrying c h (past n h).wire down opened → Carrying c (on_event h e) (past n (on_event h e)).wire down opened
  calm h e down opened apart none s = to_event h e down opened (quiet_carried c h e (rec n h e) (past n h).wire (after_event (past n h).wire e (rec n h e)) down opened (event_turn c (past n h).wire (see h) e apart) (event_kept c (past n h).wire e (rec n h e) apart (ap (brings_content c) none)) s)

  next_carried : (h : History) (flow : Bool) (down : List Frame) (opened : List Deed) → Carrying c h (past n h).wire down opened → Carrying c (on_event h (event.Next flow)) (past n (on_event h (event.Next flow))).wire down opened
  next_carried h flow down opened s =
      let b : Wire = (past n h).wire in
      let t : ℕ → Bool = began_on (rec n h (event.Next flow)) in
      let same : (after_handing t b).contents ≡ b.contents = sent_contents (handed_out t b) (with_lists (left_lists b.frame_max t (lists_of b)) b) in
      to_event h (event.Next flow) down opened (record {
        silent = λ d. ap (expected_on c) same ∙ s.silent (sym (still_hears c b (after_handing t b) (handing_still t b)) ∙ d);
        gets = subst (λ v. Gets c (on_event h (event.Next flow)) v down opened) (sym (ap (expected_on c) same)) (gets_on c h (event.Next flow) (rec n h (event.Next flow)) (expected_on c b.contents) down opened s.gets);
      })

  client_carried : (e : Event) (j : Joint History) (opened : List Deed) → is_lawful e ≡ true → Carrying c j.session (past n j.session).wire j.down opened → Carrying c (on_event j.session e) (past n (on_event j.session e)).wire j.down opened
  client_carried (event.Next flow) j opened l s = next_carried j.session flow j.down opened s
  client_carried (event.Receive f) j opened l s = absurd cc
  client_carried event.Lost j opened l s = absurd cc
  client_carried (event.Call d a) j opened l s = calm j.session (event.Call d a) j.down opened refl refl s
  client_carried (event.PollTicket d) j opened l s = calm j.session (event.PollTicket d) j.down opened refl refl s
  client_carried (event.PollConfirm d) j opened l s = calm j.session (event.PollConfirm d) j.down opened refl refl s
  client_carried (event.PollConsumer d) j opened l s = calm j.session (event.PollConsumer d) j.down opened refl refl s
  client_carried (event.PollWait d) j opened l s = calm j.session (event.PollWait d) j.down opened refl refl s
  client_carried (event.AsideTicket d) j opened l s = calm j.session (event.AsideTicket d) j.down opened refl refl s
  client_carried (event.AsideConfirm d) j opened l s = calm j.session (event.AsideConfirm d) j.down opened refl refl s
  client_carried (event.Acker d a) j opened l s = calm j.session (event.Acker d a) j.down opened refl refl s
  client_carried (event.Delegate d) j opened l s = calm j.session (event.Delegate d) j.down opened refl refl s
  client_carried (event.DropConsumer d) j opened l s = calm j.session (event.DropConsumer d) j.down opened refl refl s
  client_carried event.NextJob j opened l s = calm j.session event.NextJob j.down opened refl refl s
  client_carried (event.State d) j opened l s = calm j.session (event.State d) j.down opened refl refl s

  -- where the session doesn't hear the channel there is nothing to say
  unheard : (h : History) (down down' : List Frame) (opened opened' : List Deed) → hears c (past n h).wire ≡ false → Carrying c h (past n h).wire down opened → Carrying c h (past n h).wire down' opened'
  unheard h down down' _ opened' d s = record { silent = s.silent; gets = gets_none c h (expected_on c (past n h).wire.contents) down' opened' (s.silent d) }

  read_carried : (j : Joint History) (l : Left) (ds : List Deed) → (hears c (past n j.session).wire ≡ true → is_open_on c l ≡ false) → For j ds → For j (ds ++ Read l ∷ [])
  read_carried j l ds none s = elim (hears c (past n j.session).wire) as (λ v. hears c (past n j.session).wire ≡ v → For j (ds ++ Read l ∷ [])) [
    | true ↦ λ u. subst (Carrying c j.session (past n j.session).wire j.down) (sym (last-push c ds (Read l))) (by (channel_of l.frame == c) (is_open l.frame) refl refl (none u))
    | false ↦ λ u. unheard j.session j.down j.down (last_opening c ds) (last_opening c (ds ++ Read l ∷ [])) u s
  ] refl
    where
      by : (v w : Bool) → (channel_of l.frame == c) ≡ v → is_open l.frame ≡ w → is_open_on c l ≡ false → Carrying c j.session (past n j.session).wire j.down (cond (channel_of l.frame == c) (joined_opening (last_opening c ds) (Read l)) (last_opening c ds))
      by true true e f h = let w : true ≡ false = sym (ap (λ v. v && is_open l.frame) e ∙ f) ∙ h in absurd cc
      by true false e f h = rw (e, f) (carried_read c j.session (past n j.session).wire j.down (last_opening c ds) l s)
      by false w e f h = rw e s

  send_carried : (j : Joint History) (f : Frame) (ds : List Deed) → For j ds → For (record j { down = j.down ++ f ∷ [] }) (ds ++ Sent f ∷ [])
  send_carried j f ds s = subst (Carrying c j.session (past n j.session).wire (j.down ++ f ∷ [])) (sym (last-sent c ds f)) (by (channel_of f == c) refl)
    where
      by : (v : Bool) → (channel_of f == c) ≡ v → Carrying c j.session (past n j.session).wire (j.down ++ f ∷ []) (cond v (last_opening c ds ++ Sent f ∷ []) (last_opening c ds))
      by true e = carried_send c j.session (past n j.session).wire j.down (last_opening c ds) f e s
      by false e = carried_away c j.session (past n j.session).wire j.down (j.down ++ f ∷ []) (last_opening c ds) (filter-append (is_frame_on c) j.down (f ∷ []) ∙ (ap (λ v. filter (is_frame_on c) j.down ++ cond v (f ∷ []) []) e ∙ append-nil (filter (is_frame_on c) j.down))) s

  same_carried : (j : Joint History) (ds : List Deed) → For j ds → For j (ds ++ [])
  same_carried j ds s = subst (For j) (sym (append-nil ds)) s

  step_carried : (ss : List Step) (s : Step) → For (joined_to n ss) (deeds n ss) → For (after (by_history n) s (joined_to n ss)) (deeds n ss ++ deed_in s (joined_to n ss))
  step_carried ss (step.Client e) i = elim (is_lawful e) as (λ v. is_lawful e ≡ v → For (cond v (client (by_history n) e (joined_to n ss)) (joined_to n ss)) (deeds n ss ++ [])) [
    | true ↦ λ l. subst (λ v. Carrying c (on_event (joined_to n ss).session e) (past n (on_event (joined_to n ss).session e)).wire (joined_to n ss).down (last_opening c v)) (sym (append-nil (deeds n ss))) (client_carried e (joined_to n ss) (last_opening c (deeds n ss)) l i)
    | false ↦ λ l. same_carried (joined_to n ss) (deeds n ss) i
  ] refl
  step_carried ss step.Read i = by (joined_to n ss).up refl
    where
      by : (ls : List Left) → (joined_to n ss).up ≡ ls → For (read_first ls (joined_to n ss)) (deeds n ss ++ reads_of (front ls))
      by [] e = same_carried (joined_to n ss) (deeds n ss) i
      by (l ∷ ls) e = read_carried (joined_to n ss) l (deeds n ss) (λ u. first (is_open_on c l) (ap (list_any (is_open_on c)) (sym e) ∙ (in_step n big ss c u).read)) i
        where
          first : (v : Bool) → (v || list_any (is_open_on c) ls) ≡ false → v ≡ false
          first true h = absurd cc
          first false h = refl
  step_carried ss (step.Send f) i = elim (may (joined_to n ss).broker f) as (λ v. For (cond v (send_down f (joined_to n ss)) (joined_to n ss)) (deeds n ss ++ cond v (Sent f ∷ []) [])) [
    | true ↦ send_carried (joined_to n ss) f (deeds n ss) i
    | false ↦ same_carried (joined_to n ss) (deeds n ss) i
  ]
  step_carried ss step.Deliver i = by (joined_to n ss).down refl i
    where
      by : (fs : List Frame) → (joined_to n ss).down ≡ fs → For (joined_to n ss) (deeds n ss) → For (deliver_first (by_history n) fs (joined_to n ss)) (deeds n ss ++ [])
      by [] e k = same_carried (joined_to n ss) (deeds n ss) k
      by (f ∷ fs) e k = subst (λ v. Carrying c (on_event (joined_to n ss).session (event.Receive f)) (past n (on_event (joined_to n ss).session (event.Receive f))).wire fs (last_opening c v)) (sym (append-nil (deeds n ss))) (delivered_carried ss f fs e (subst (λ v. Carrying c (joined_to n ss).session (past_of n ss).wire v (last_opening c (deeds n ss))) e k))
  step_carried ss step.Lose i =
      let k = calm (joined_to n ss).session event.Lost (joined_to n ss).down (last_opening c (deeds n ss)) refl refl i in
      let dead : hears c (past n (on_event (joined_to n ss).session event.Lost)).wire ≡ false = hears_down c (past n (on_event (joined_to n ss).session event.Lost)).wire (ap (λ (p : Past). is_up p.wire.link) (past-push n (joined_to n ss).session event.Lost (rec n (joined_to n ss).session event.Lost)) ∙ lost_down (past_of n ss).wire (rec n (joined_to n ss).session event.Lost)) in
      unheard (on_event (joined_to n ss).session event.Lost) (joined_to n ss).down [] (last_opening c (deeds n ss)) (last_opening c (deeds n ss ++ [])) dead k

  first_carried : For (joined_to n []) (deeds n [])
  first_carried = record { silent = λ d. refl; gets = gets_none c [] [] [] [] refl }

  from_carried : (pre ss : List Step) → For (joined_to n pre) (deeds n pre) → For (joined_to n (pre ++ ss)) (deeds n (pre ++ ss))
  from_carried pre [] i = subst (λ v. For (joined_to n v) (deeds n v)) (sym (append-nil pre)) i
  from_carried pre (s ∷ ss) i =
      let next : For (joined_to n (pre ++ s ∷ [])) (deeds n (pre ++ s ∷ [])) = subst (λ v. For (joined_to n (pre ++ s ∷ [])) v) (sym (deeds-push n pre s)) (subst (λ j. For j (deeds n pre ++ deed_in s (joined_to n pre))) (sym (joined-push n pre s)) (step_carried pre s i)) in
      subst (λ v. For (joined_to n v) (deeds n v)) (append_assoc pre (s ∷ []) ss) (from_carried (pre ++ s ∷ []) ss next)

  -- in every joined run
  pub carried_in : (ss : List Step) → For (joined_to n ss) (deeds n ss)
  carried_in ss = from_carried [] ss first_carried
