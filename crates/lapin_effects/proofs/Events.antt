-- Which of the seven kinds every event but a frame request is.
use Rattle.std.proofs.Common.{◌≡◌, ◌∙◌, ℕ, Bool, true, false, cond, ◌&&◌, [], ◌∷◌, Option, Some, None, refl, sym}
use Rattle.std.specs.List.{list_any}
use Rattle.std.proofs.lemmas.Bool.{and_parts}
use Rattle.lapin_types.specs.declared.acker_call.AckerCall.{AckerCall}
use Rattle.lapin_types.specs.declared.event.Event.{Event}
use Rattle.lapin_types.specs.declared.event.Event.TheVariants as event
use Rattle.lapin_types.specs.declared.call.Call.{Call}
use Rattle.lapin_types.specs.declared.record.Record.{Record}
use Rattle.lapin_rules.specs.declared.calls.Asked.TheVariants as ask
use Rattle.lapin_rules.specs.declared.phases.ConnectionPhase.{ConnectionPhase}
use Rattle.lapin_rules.specs.declared.phases.ConnectionPhase.TheVariants as link
use Rattle.lapin_rules.specs.ConfirmMarks.{ConfirmMark}
use Rattle.lapin_rules.specs.ConfirmMarks as mark
use Rattle.lapin_rules.specs.Calls.{asked, is_try}
use Rattle.lapin_rules.specs.Asking.{is_outstanding, asked_by, asking_deliveries, asked_wire, call_told}
use Rattle.lapin_rules.specs.Ackers.{acker_method, usable_at, acked_wire, acker_deliveries}
use Rattle.lapin_rules.specs.Incoming.{incoming_of, frame_class, frame_method}
use Rattle.lapin_rules.specs.Consumers.{delegate_deliveries, job_deliveries, drop_deliveries, lets_go_of, cancel_noted, after_let_go, after_drop}
use Rattle.lapin_rules.specs.Loss.{lost_deliveries, after_lost}
use Rattle.lapin_rules.specs.Polls.{is_confirmed, is_returned, is_aside, wait_record}
use Rattle.lapin_rules.specs.Readings.{Readings}
use Rattle.lapin_rules.specs.Wire.{Wire, state_of, is_open, queued}
use Rattle.lapin_consumer.specs.Subscriptions.{Consumer, consumer_at, is_idle}
use Rattle.lapin_delivery.specs.Marks as deliveries
use Rattle.lapin_effects.specs.Effects.{live, moves, Effect, Stays, is_next, HasEffect}
use Rattle.lapin_effects.proofs.Happens.{phases_kept, inboxed, nothing, open_lives, queue_fit, IsLine, call_line, acker_line, asked_happens}
use Rattle.lapin_effects.proofs.Comes.{incoming_happens, lost_happens}

-- what a call asks for, by its record
line_by : (k : Call) (t : Bool) → IsLine (cond t ask.Nothing (asked k))
line_by k true = tt
line_by k false = call_line k

call_event : (c : ℕ) (k : Call) (b : Wire) (readings : Readings) → HasEffect b readings (event.Call c k)
call_event c k b readings =
    let r : Record = call_told c k b readings in
    inboxed (asking_deliveries c (asked_by k r) b) b (asked_wire c (asked_by k r) b) _ _ (asked_happens c (asked_by k r) b (line_by k (is_try k && is_outstanding r)))

open_up : (c : ℕ) (b : Wire) → is_open (state_of c b) ≡ true → live c b ≡ true
open_up c b h = by b.link refl
  where
    by : (l : ConnectionPhase) → b.link ≡ l → live c b ≡ true
    by link.Open e = open_lives c b e (rw e at h)
    by (link.Closing x) e = let z : is_open (state_of c b) ≡ false = rw e refl in let w : true ≡ false = sym h ∙ z in absurd cc
    by link.Closed e = let z : is_open (state_of c b) ≡ false = rw e refl in let w : true ≡ false = sym h ∙ z in absurd cc
    by link.Lost e = let z : is_open (state_of c b) ≡ false = rw e refl in let w : true ≡ false = sym h ∙ z in absurd cc

acked_event : (o : Option (ℕ × ℕ)) (k : AckerCall) (b : Wire) → Effect b (acked_wire o k b) [] []
acked_event None k b = nothing b [] refl
acked_event (Some x) k b = elim (is_open (state_of x.0 b)) as (λ v. is_open (state_of x.0 b) ≡ v → Effect b (cond v (queued x.0 (acker_method k x.1) None b) b) [] []) [
  | true ↦ λ a. Stays (phases_kept b _ refl refl refl refl refl) refl _ refl (queue_fit x.0 _ b refl (acker_line x.1 k) (open_up x.0 b a), tt) refl refl
  | false ↦ λ a. nothing b [] refl
] refl

let_go_event : (o : Option Consumer) (b : Wire) → Effect b (after_let_go o b) [] []
let_go_event None b = nothing b [] refl
let_go_event (Some x) b = elim (lets_go_of x b) as (λ v. lets_go_of x b ≡ v → Effect b (cond v (cancel_noted x b) b) [] []) [
  | true ↦ λ a. Stays (phases_kept b _ refl refl refl refl refl) refl _ refl (queue_fit x.channel _ b refl refl (open_up x.channel b (and_parts (is_idle x) _ a).1), tt) refl refl
  | false ↦ λ a. nothing b [] refl
] refl

pub still_if : (t : Bool) (m : ConfirmMark) → moves m ≡ false → list_any moves (cond t (m ∷ []) []) ≡ false
still_if true m h = rw h refl
still_if false m h = refl

pub has_effect : (b : Wire) (readings : Readings) (e : Event) → is_next e ≡ false → HasEffect b readings e
has_effect b readings (event.Call c k) h = call_event c k b readings
has_effect b readings (event.Next flow) h = absurd cc
has_effect b readings (event.Receive f) h = incoming_happens (frame_class f) (frame_method f) b.link b readings (incoming_of f) refl
has_effect b readings (event.PollTicket n) h = nothing b [] refl
has_effect b readings (event.PollConfirm n) h = nothing b _ (still_if (is_confirmed (readings.confirm n)) (mark.Taken n) refl)
has_effect b readings (event.PollConsumer n) h = inboxed (deliveries.Polled n ∷ []) b b [] [] (nothing b [] refl)
has_effect b readings (event.PollWait c) h = nothing b _ (still_if (is_returned (wait_record c b readings)) (mark.Drained c) refl)
has_effect b readings (event.AsideTicket n) h = nothing b [] refl
has_effect b readings (event.AsideConfirm n) h = nothing b _ (still_if (is_aside (readings.confirm_aside n)) (mark.SetAside n) refl)
has_effect b readings (event.Acker n k) h = inboxed (acker_deliveries n k b) b (acked_wire (usable_at n b) k b) [] [] (acked_event (usable_at n b) k b)
has_effect b readings (event.Delegate n) h = inboxed (delegate_deliveries n b) b b [] [] (nothing b [] refl)
has_effect b readings (event.DropConsumer n) h = inboxed (drop_deliveries n b) b (after_drop n b) [] [] (let_go_event (consumer_at n b.deliveries.subscriptions) b)
has_effect b readings event.NextJob h = inboxed (job_deliveries b) b b [] [] (nothing b [] refl)
has_effect b readings (event.State c) h = nothing b [] refl
has_effect b readings event.Lost h = inboxed (lost_deliveries b) b (after_lost b) _ [] (lost_happens b)
