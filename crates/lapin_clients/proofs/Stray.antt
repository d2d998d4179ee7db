-- No content of an honest broker comes to a channel that hears none: the session would refuse it, and it refuses nothing of such a broker.
use Rattle.std.proofs.Common.{◌≡◌, ℕ, Bool, true, false, cond, ◌&&◌, ◌||◌, List, [], ◌∷◌, None, refl, sym, ap, subst, ◌∙◌}
use Rattle.std.specs.List.{list_any}
use Rattle.lapin_types.specs.Types.{Frame, ChannelState}
use Rattle.lapin_types.specs.Types.frame
use Rattle.lapin_types.specs.Types.channel_state as state
use Rattle.lapin_methods.specs.declared.basic.BasicMethod.TheVariants as basic
use Rattle.lapin_methods.specs.declared.method.Method.TheVariants as method
use Rattle.lapin_types.specs.declared.record.Record.{Record}
use Rattle.lapin_types.specs.declared.request.ReplyKind.TheVariants as reply_kind
use Rattle.lapin_content.specs.declared.start.Start.TheVariants as start
use Rattle.lapin_content.specs.Channels.{expected_on}
use Rattle.lapin_content.specs.Contents.{front_waits, front_takes}
use Rattle.lapin_rules.specs.declared.broker_frames.ContentPart.{ContentPart}
use Rattle.lapin_rules.specs.declared.broker_frames.ContentPart.TheVariants as part
use Rattle.lapin_rules.specs.declared.broker_frames.Incoming.TheVariants as incoming
use Rattle.lapin_rules.specs.Content.{receives_part}
use Rattle.lapin_rules.specs.Drops.{frame_channel}
use Rattle.lapin_rules.specs.Requests.{first_request}
use Rattle.lapin_rules.specs.Words.{is_some}
use Rattle.lapin_rules.specs.Incoming.{incoming_of, frame_class, frame_method}
use Rattle.lapin_rules.specs.Phases.{is_up}
use Rattle.lapin_rules.specs.Readings.{Readings}
use Rattle.lapin_rules.specs.Receiving.{incoming_record, when}
use Rattle.lapin_rules.specs.Unexpected.{refused}
use Rattle.lapin_rules.specs.Wire.{Wire, state_of, receives_on, requests_of}
use Rattle.lapin_joint.specs.declared.step.Step.TheVariants as step
use Rattle.lapin_joint.specs.Joint.{Joint, deliver_report}
use Rattle.lapin_machine.specs.Way.{by_machine}
use Rattle.lapin_machine.specs.World.{World, readings_of, told_by}
use Rattle.lapin_types.specs.declared.event.Event.TheVariants as event
use Rattle.lapin_client.specs.Receiving.{is_deaf, is_of_content, is_stray}
use Rattle.lapin_concord.specs.Refusals.{is_refusal, reports_refusal}
use Rattle.lapin_concord.proofs.Running.{Sound, no_refusals}

-- ---- a state that hears no contents

deaf_hears : (s : ChannelState) → is_deaf s ≡ true → receives_on s ≡ false
deaf_hears state.Closed h = refl
deaf_hears state.Opening h = refl
deaf_hears state.Crossed h = refl
deaf_hears _ h = absurd cc

deaf_up : (u : Bool) (s : ChannelState) → is_deaf (cond u s state.Down) ≡ true → u ≡ true
deaf_up true s h = refl
deaf_up false s h = absurd cc

-- ---- there the session refuses each part of a content

unheard : (up heard : Bool) (r x : Record) → up ≡ true → heard ≡ false → is_refusal r ≡ true → is_refusal (cond up (when heard r) x) ≡ true
unheard true false r x u h k = k
unheard true true r x u h k = absurd cc
unheard false heard r x u h k = absurd cc

module _ (b : Wire) (readings : Readings) where
  abbrev Refuses : Frame → Type 0
  Refuses f = is_refusal (incoming_record b readings (refused (frame_class f) (frame_method f)) (incoming_of f)) ≡ true

  -- a part of a content that the channel doesn't hear
  part_refused : (c : ℕ) (p : ContentPart) (class number : ℕ) → is_up b.link ≡ true → receives_part c p b ≡ false → is_refusal (incoming_record b readings (refused class number) (incoming.Content c p)) ≡ true
  part_refused c p class number up none = unheard (is_up b.link) (receives_part c p b) (refused class number) _ up none refl

  content_refused : (f : Frame) → is_of_content f ≡ true → is_up b.link ≡ true → receives_on (state_of (frame_channel f) b) ≡ false → Refuses f
  content_refused (frame.Header c h) is up none = part_refused c (part.Header h) h.class_id 0 up (ap (λ v. v && front_waits h.class_id (expected_on c b.contents)) none)
  content_refused (frame.Body c bytes) is up none = part_refused c (part.Body bytes) 0 0 up (ap (λ v. v && front_takes bytes (expected_on c b.contents)) none)
  content_refused (frame.Method c (method.Basic (basic.Deliver consumer tag redelivered exchange key))) is up none = part_refused c (part.Deliver consumer (start.Deliver None tag exchange key redelivered)) 60 60 up none
  content_refused (frame.Method c (method.Basic (basic.Return code text exchange key))) is up none = part_refused c (part.Return (start.Return code text exchange key)) 60 50 up none
  content_refused (frame.Method c (method.Basic (basic.GetOk tag redelivered exchange key count))) is up none =
      part_refused c (part.GetOk (start.Get None tag exchange key redelivered count)) 60 71 up (ap (λ v. v && is_some (first_request reply_kind.BasicGetOk (requests_of c b))) none)
  content_refused (frame.Method c (method.Basic _)) is up none = absurd cc
  content_refused (frame.Method c _) is up none = absurd cc

-- ---- and it refuses nothing that stands first on the link of an honest broker

both : (a b : Bool) → (a && b) ≡ true → (a ≡ true) × (b ≡ true)
both true true h = (refl, refl)
both true false h = absurd cc
both false b h = absurd cc

alone : (a : Bool) → (a || false) ≡ false → a ≡ false
alone true h = absurd cc
alone false h = refl

pub delivered_fine : (j : Joint World) (f : Frame) (fs : List Frame) → j.down ≡ f ∷ fs → Sound j → is_refusal (told_by j.session (event.Receive f)) ≡ false
delivered_fine j f fs down sound = alone (is_refusal (told_by j.session (event.Receive f))) (subst (λ ds. list_any reports_refusal (deliver_report by_machine ds j.session ∷ []) ≡ false) down (no_refusals (step.Deliver ∷ []) j sound))

pub unstray : (j : Joint World) (f : Frame) (fs : List Frame) → j.down ≡ f ∷ fs → Sound j → is_stray f j.session ≡ false
unstray j f fs down sound = by (is_stray f j.session) refl
  where
    fine : list_any reports_refusal (deliver_report by_machine (f ∷ fs) j.session ∷ []) ≡ false
    fine = subst (λ ds. list_any reports_refusal (deliver_report by_machine ds j.session ∷ []) ≡ false) down (no_refusals (step.Deliver ∷ []) j sound)

    by : (b : Bool) → is_stray f j.session ≡ b → is_stray f j.session ≡ false
    by false h = h
    by true h =
        let parts = both (is_of_content f) (is_deaf (state_of (frame_channel f) j.session.wire)) h in
        let up : is_up j.session.wire.link ≡ true = deaf_up (is_up j.session.wire.link) _ parts.1 in
        let none : receives_on (state_of (frame_channel f) j.session.wire) ≡ false = deaf_hears (state_of (frame_channel f) j.session.wire) parts.1 in
        let no = content_refused j.session.wire (readings_of j.session.confirm_state j.session.slots) f parts.0 up none in
        let yes : is_refusal (incoming_record j.session.wire (readings_of j.session.confirm_state j.session.slots) (refused (frame_class f) (frame_method f)) (incoming_of f)) ≡ false = alone (is_refusal (incoming_record j.session.wire (readings_of j.session.confirm_state j.session.slots) (refused (frame_class f) (frame_method f)) (incoming_of f))) fine in
        let bad : ◌≡◌ {A = Bool} true false = sym no ∙ yes in
        absurd cc
