-- The marks of any event leave the tags of the pair's session noted, and a frame that comes is not refused.
use Rattle.std.proofs.Common.{◌≡◌, Bool, true, false, cond, List, [], ◌∷◌, ◌++◌, map, refl, ◌∙◌, ap}
use Rattle.lapin_types.specs.declared.event.Event.{Event}
use Rattle.lapin_types.specs.declared.event.Event.TheVariants as event
use Rattle.lapin_types.specs.declared.record.Record.{Record}
use Rattle.lapin_types.specs.declared.record.Record.TheVariants as record_
use Rattle.lapin_types.specs.declared.leaving.Left.{Left}
use Rattle.lapin_types.specs.Types.{Frame}
use Rattle.lapin_delivery.specs.Marks.{DeliveryMark}
use Rattle.lapin_rules.specs.declared.broker_frames.Incoming.{Incoming}
use Rattle.lapin_rules.specs.declared.broker_frames.Incoming.TheVariants as incoming
use Rattle.lapin_rules.specs.declared.phases.ConnectionPhase.TheVariants as link
use Rattle.lapin_rules.specs.Asking.{asked_by, is_allowed, asking_deliveries, asked_wire}
use Rattle.lapin_rules.specs.ConfirmMarks.{ConfirmMark}
use Rattle.lapin_rules.specs.ConfirmMarks as mark
use Rattle.lapin_rules.specs.ConnectionClose.{receives_down}
use Rattle.lapin_rules.specs.Events.{after_event, confirm_marks}
use Rattle.lapin_rules.specs.History.{past}
use Rattle.lapin_rules.specs.Phases.{is_up}
use Rattle.lapin_rules.specs.Polls.{is_confirmed, is_returned, is_aside}
use Rattle.lapin_rules.specs.Receiving.{incoming_up, incoming_record}
use Rattle.lapin_rules.specs.Wire.{Wire, state_of, with_deliveries}
use Rattle.lapin_machine.specs.World.{World, readings_of}
use Rattle.lapin_broker.specs.States.{Broker}
use Rattle.lapin_pairs.specs.Every.{UpOn, DownOn, All, StepA, ReadA, SendA, reads_a, may_a, sends_a, happens_a}
use Rattle.lapin_pairs.specs.Channel.{DownF}
use Rattle.lapin_pairs.specs.Asking.{asking}
use Rattle.lapin_pairs.specs.Tagging.{tagging}
use Rattle.lapin_concord.specs.Frames.{down_frame}
use Rattle.lapin_concord.specs.Incomes.{income_as}
use Rattle.lapin_concord.specs.Wires.{link_as, pair_as}
use Rattle.lapin_concord.specs.Held.{Held}
use Rattle.lapin_concord.specs.Refusals.{is_refusal, IsSettled}
use Rattle.lapin_concord.proofs.Views.{Told, Untold, AreOwn, AreTold}
use Rattle.lapin_concord.proofs.Lifting.{bare}
use Rattle.lapin_concord.proofs.Calling.{told_of}
use Rattle.lapin_concord.proofs.Events.{asked_queues}
use Rattle.lapin_concord.proofs.Tallies.{J3, tagged_run}
use Rattle.lapin_concord.proofs.Settling.{settled_fine}
use Rattle.lapin_concord.proofs.Noting.{AreNoted}
use Rattle.lapin_concord.proofs.Marking.{Marked, AreBeside, beside, untold_run, conn_of, call_noted}
use Rattle.lapin_concord.proofs.Receiving.{notes}
use Rattle.lapin_rules.proofs.PhaseLaws.{up_open}

-- ---- events of the client but for a frame request

abbrev pub is_quiet : Event → Bool
is_quiet (event.Next flow) = false
is_quiet (event.Receive f) = false
is_quiet event.Lost = false
is_quiet _ = true

-- what such an event is to the tags
abbrev pub told_event : Wire → Record → Event → Told
told_event b r (event.Call c k) = told_of c (asked_by k r) (asked_queues c k r) b
told_event b r _ = Untold

held_outbox : (ms : List DeliveryMark) (b : Wire) → Held (with_deliveries ms b) → Held b
held_outbox ms b h = record { up = λ e. let u = h.up e in record { zero = u.zero; each = u.each; publishes = u.publishes; rest = u.rest }; shut = h.shut; linked = h.linked; rest = h.rest; methods = h.methods }

one_beside : (b : Bool) (m : ConfirmMark) → AreBeside (m ∷ []) → AreBeside (cond b (m ∷ []) [])
one_beside true m h = h
one_beside false m h = tt

pub quiet_noted : (b : Wire) (e : Event) (r : Record) (ss : List (StepA asking)) (t : All tagging) (br : Broker) (us : List Left) (ds : List Frame) (ms : List ConfirmMark) → is_quiet e ≡ true → AreOwn ss → AreTold (told_event b r e) ss → bare t ≡ pair_as b br us ds → bare (tagged_run ss t) ≡ pair_as (after_event b e r) br us ds → Held (after_event b e r) → AreNoted t ms
    → AreNoted (tagged_run ss t) (ms ++ confirm_marks b e r)
quiet_noted b (event.Call c k) r ss t br us ds ms q o u e f d h = call_noted c (asked_by k r) (asked_queues c k r) ss t b br us ds ms (is_allowed (asked_by k r) (state_of c b)) refl o u e f (held_outbox (asking_deliveries c (asked_by k r) b) (asked_wire c (asked_by k r) b) d) h
quiet_noted b (event.PollConfirm n) r ss t br us ds ms q o u e f d h = beside (tagged_run ss t) ms _ (one_beside (is_confirmed r) (mark.Taken n) (refl, tt)) (untold_run ss t ms o u h)
quiet_noted b (event.PollWait c) r ss t br us ds ms q o u e f d h = beside (tagged_run ss t) ms _ (one_beside (is_returned r) (mark.Drained c) (refl, tt)) (untold_run ss t ms o u h)
quiet_noted b (event.AsideConfirm n) r ss t br us ds ms q o u e f d h = beside (tagged_run ss t) ms _ (one_beside (is_aside r) (mark.SetAside n) (refl, tt)) (untold_run ss t ms o u h)
quiet_noted b (event.Next flow) r ss t br us ds ms q o u e f d h = cc
quiet_noted b (event.Receive x) r ss t br us ds ms q o u e f d h = cc
quiet_noted b event.Lost r ss t br us ds ms q o u e f d h = cc
quiet_noted b _ r ss t br us ds ms q o u e f d h = beside (tagged_run ss t) ms [] tt (untold_run ss t ms o u h)

-- ---- the broker's steps

pub marked_same : (w : World) (t v : All tagging) → ((ms : List ConfirmMark) → AreNoted t ms → AreNoted v ms) → Marked w t → Marked w v
marked_same w t v f m = record { most = m.most; history = m.history; stands = m.stands; noted = f (past m.most m.history).confirms m.noted }

pub read_noted : (t : All tagging) (ms : List ConfirmMark) → AreNoted t ms → AreNoted (happens_a tagging t ReadA) ms
read_noted t ms h = by_up t.up
  where
    by_up : (fs : List (UpOn _)) → AreNoted (reads_a tagging t fs) ms
    by_up [] = h
    by_up (f ∷ fs) = h

pub send_noted : (t : All tagging) (f : DownOn DownF) (ms : List ConfirmMark) → AreNoted t ms → AreNoted (happens_a tagging t (SendA f)) ms
send_noted t f ms h = by_may (may_a tagging t.broker t.sides f)
  where
    by_may : (b : Bool) → AreNoted (cond b (sends_a tagging t f) t) ms
    by_may true = h
    by_may false = h

-- ---- a frame that comes is not refused

settled_in : (w : World) (t : All tagging) (br : Broker) (us : List Left) (f : Frame) (ds : List Frame) (i : Incoming) → down_frame f ≡ income_as i → w.wire.link ≡ link.Open → bare t ≡ pair_as w.wire br us (f ∷ ds) → J3 t → Marked w t → IsSettled (readings_of w.confirm_state w.slots) i
settled_in w t br us f ds (incoming.Settlement c x) n l e g m =
    let down = ap (λ (z : All asking). z.down) e ∙ ap (λ y. y ∷ map down_frame ds) n in
    let conn = conn_of t w.wire br us (f ∷ ds) e ∙ ap link_as l in
    settled_fine t (readings_of w.confirm_state w.slots) c x (map down_frame ds) down conn g (notes t (past m.most m.history).confirms w.confirm_state w.slots c _ (map down_frame ds) m.stands.confirms.confirm_state down conn g m.noted)
settled_in w t br us f ds _ n l e g m = tt

pub comes_fine : (w : World) (t : All tagging) (br : Broker) (us : List Left) (f : Frame) (ds : List Frame) (i : Incoming) (r : Record) → down_frame f ≡ income_as i → (IsSettled (readings_of w.confirm_state w.slots) i → is_refusal (incoming_record w.wire (readings_of w.confirm_state w.slots) r i) ≡ false) → bare t ≡ pair_as w.wire br us (f ∷ ds) → J3 t → Marked w t → is_refusal (incoming_record w.wire (readings_of w.confirm_state w.slots) r i) ≡ false
comes_fine w t br us f ds i r n fine e g m = by_link (is_up w.wire.link) refl
  where
    by_link : (x : Bool) → is_up w.wire.link ≡ x → is_refusal (incoming_record w.wire (readings_of w.confirm_state w.slots) r i) ≡ false
    by_link true y = fine (settled_in w t br us f ds i n (up_open w.wire.link y) e g m)
    by_link false y = ap (λ u. is_refusal (cond u (incoming_up w.wire (readings_of w.confirm_state w.slots) r i) (cond (receives_down w.wire.link i) record_.Received record_.Passed))) y
        ∙ elim (receives_down w.wire.link i) as (λ u. is_refusal (cond u record_.Received record_.Passed) ≡ false) [ true ↦ refl | false ↦ refl ]
