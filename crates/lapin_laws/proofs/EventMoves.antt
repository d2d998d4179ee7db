-- What every event but a frame request does to the lists that wait, to the openings and to the connection.
use Rattle.std.proofs.Common.{◌≡◌, ℕ, Bool, true, false, cond, [], ◌∷◌, Option, Some, None, refl, sym, subst}
use Rattle.lapin_types.specs.declared.event.Event.{Event}
use Rattle.lapin_types.specs.declared.event.Event.TheVariants as event
use Rattle.lapin_types.specs.declared.acker_call.AckerCall.{AckerCall}
use Rattle.lapin_types.specs.declared.call.Call.{Call}
use Rattle.lapin_types.specs.Types.{Frame}
use Rattle.lapin_types.specs.Types.error
use Rattle.lapin_rules.specs.declared.phases.ConnectionPhase.TheVariants as link
use Rattle.lapin_rules.specs.ConfirmMarks as mark
use Rattle.lapin_rules.specs.Incoming.{incoming_of, frame_class, frame_method}
use Rattle.lapin_rules.specs.Phases.{is_lost}
use Rattle.lapin_rules.specs.Ends.{ends_all, down}
use Rattle.lapin_rules.specs.Readings.{Readings}
use Rattle.lapin_rules.specs.Wire.{Wire, state_of, is_open, queued}
use Rattle.lapin_rules.specs.Polls.{is_confirmed, is_returned, is_aside, wait_record}
use Rattle.lapin_rules.specs.Loss.{after_lost, lost_deliveries}
use Rattle.lapin_rules.specs.declared.calls.Asked.{Asked}
use Rattle.lapin_rules.specs.declared.calls.Asked.TheVariants as ask
use Rattle.lapin_rules.specs.Calls.{asked}
use Rattle.lapin_rules.specs.Asking.{asked_wire, asking_deliveries, after_asking, asking_marks, call_record}
use Rattle.lapin_rules.specs.Consumers.{delegate_deliveries, job_deliveries, lets_go_of, let_go_cancel, cancel_noted, after_let_go, after_drop, drop_deliveries}
use Rattle.lapin_rules.specs.Ackers.{acker_method, usable_at, acked_wire, acker_deliveries}
use Rattle.lapin_rules.specs.Events.{record_of, after_event, confirm_marks}
use Rattle.lapin_consumer.specs.Subscriptions.{Consumer, consumer_at, is_idle}
use Rattle.lapin_delivery.specs.Marks as deliveries
use Rattle.lapin_machine.specs.Stands.{IsShut}
use Rattle.lapin_laws.specs.Outgoing.{published_by, called_by, ended_in}
use Rattle.lapin_laws.proofs.Closes.{marks_noted}
use Rattle.lapin_laws.proofs.Rows.{IsLine, call_line, told_as, acker_line}
use Rattle.lapin_laws.proofs.Moving.{plain-push, Sound, Moves, inboxed, same, keeps, same_grows, falls, open_up, queued_up, asked_moves}
use Rattle.lapin_laws.proofs.FrameMoves.{no_ends, incoming_moves}
use Rattle.lapin_rules.proofs.PhaseLaws.{lost_down}
use Rattle.lapin_tables.proofs.Bools.{and_second}

lost_moves : (n : ℕ) (b : Wire) → IsShut b → Sound n b → Moves n b (after_lost b) (ended_in (ends_all error.ConnectionLost b)) []
lost_moves n b shut s = elim (is_lost b.link) as (λ t. is_lost b.link ≡ t → Moves n b (cond t b (down link.Lost b)) (ended_in (ends_all error.ConnectionLost b)) []) [
  | true ↦ λ h. subst (λ cs. Moves n b b cs []) (no_ends error.ConnectionLost b (shut (lost_down b.link h))) (same n b s)
  | false ↦ λ h. falls n error.ConnectionLost b _ refl refl refl refl refl tt (λ x. refl) s
] refl

pub drained_quiet : (t : Bool) (c : ℕ) → ended_in (cond t (mark.Drained c ∷ []) []) ≡ []
drained_quiet true c = refl
drained_quiet false c = refl

pub laid_quiet : (t : Bool) (m : ℕ) → ended_in (cond t (mark.SetAside m ∷ []) []) ≡ []
laid_quiet true m = refl
laid_quiet false m = refl

pub taken_quiet : (t : Bool) (m : ℕ) → ended_in (cond t (mark.Taken m ∷ []) []) ≡ []
taken_quiet true m = refl
taken_quiet false m = refl

-- an acker's call queues its method, if the acker is usable
acked_moves : (n : ℕ) (o : Option (ℕ × ℕ)) (k : AckerCall) (b : Wire) → Sound n b → Moves n b (acked_wire o k b) [] []
acked_moves n None k b s = same n b s
acked_moves n (Some x) k b s = elim (is_open (state_of x.0 b)) as (λ t. is_open (state_of x.0 b) ≡ t → Moves n b (cond t (queued x.0 (acker_method k x.1) None b) b) [] []) [
  | true ↦ λ a. queued_up n x.0 (acker_method k x.1) None b (open_up b.link _ a) (acker_line x.0 x.1 k).0 s
  | false ↦ λ a. same n b s
] refl

-- a consumer that is let go queues its cancel
let_go_moves : (n : ℕ) (x : Consumer) (b : Wire) → Sound n b → Moves n b (cond (lets_go_of x b) (cancel_noted x b) b) [] []
let_go_moves n x b s = elim (lets_go_of x b) as (λ t. lets_go_of x b ≡ t → Moves n b (cond t (cancel_noted x b) b) [] []) [
  | true ↦ λ a. keeps n b _ (open_up b.link _ (and_second (is_idle x) _ a)) refl refl refl refl (plain-push b.methods _ refl) (same_grows b.link b.phases) (marks_noted b.phases b.methods (record { channel = x.channel; method = let_go_cancel x; ticket = None }) refl) s
  | false ↦ λ a. same n b s
] refl

dropped_moves : (n : ℕ) (o : Option Consumer) (b : Wire) → Sound n b → Moves n b (after_let_go o b) [] []
dropped_moves n None b s = same n b s
dropped_moves n (Some x) b s = let_go_moves n x b s

abbrev pub MovesBy : ℕ → Wire → Readings → Event → Type 0
MovesBy n b readings e = Moves n b (after_event b e (record_of b readings e)) (ended_in (confirm_marks b e (record_of b readings e))) (called_by e (record_of b readings e))

call_moves : (n c : ℕ) (a : Asked) (b : Wire) → IsLine c a → Sound n b → Moves n b (after_asking c a b) (ended_in (asking_marks c a b)) (published_by c a (call_record c a b))
call_moves n c a b line s = inboxed n (asking_deliveries c a b) b (asked_wire c a b) _ _ (asked_moves n c a b line s)

pub call_event : (n : ℕ) (b : Wire) (readings : Readings) (c : ℕ) (k : Call) → Sound n b → MovesBy n b readings (event.Call c k)
call_event n b readings c k s = told_as c k b readings (λ a r. Moves n b (after_asking c a b) (ended_in (asking_marks c a b)) (published_by c a r)) (call_moves n c ask.Nothing b tt s) (call_moves n c (asked k) b (call_line c k) s)

pub incoming_event : (n : ℕ) (b : Wire) (readings : Readings) (f : Frame) → IsShut b → Sound n b → MovesBy n b readings (event.Receive f)
incoming_event n b readings f shut s = incoming_moves (frame_class f) (frame_method f) n b.link b readings (incoming_of f) refl shut s

pub lost_event : (n : ℕ) (b : Wire) (readings : Readings) → IsShut b → Sound n b → MovesBy n b readings event.Lost
lost_event n b readings shut s = inboxed n (lost_deliveries b) b (after_lost b) _ _ (lost_moves n b shut s)

pub ticket_event : (n : ℕ) (b : Wire) (readings : Readings) (k : ℕ) → Sound n b → MovesBy n b readings (event.PollTicket k)
ticket_event n b readings k s = same n b s

pub aside_event : (n : ℕ) (b : Wire) (readings : Readings) (k : ℕ) → Sound n b → MovesBy n b readings (event.AsideTicket k)
aside_event n b readings k s = same n b s

pub confirm_event : (n : ℕ) (b : Wire) (readings : Readings) (m : ℕ) → Sound n b → MovesBy n b readings (event.PollConfirm m)
confirm_event n b readings m s = subst (λ cs. Moves n b b cs []) (sym (taken_quiet (is_confirmed (readings.confirm m)) m)) (same n b s)

pub wait_event : (n : ℕ) (b : Wire) (readings : Readings) (c : ℕ) → Sound n b → MovesBy n b readings (event.PollWait c)
wait_event n b readings c s = subst (λ cs. Moves n b b cs []) (sym (drained_quiet (is_returned (wait_record c b readings)) c)) (same n b s)

pub laid_event : (n : ℕ) (b : Wire) (readings : Readings) (m : ℕ) → Sound n b → MovesBy n b readings (event.AsideConfirm m)
laid_event n b readings m s = subst (λ cs. Moves n b b cs []) (sym (laid_quiet (is_aside (readings.confirm_aside m)) m)) (same n b s)

pub state_event : (n : ℕ) (b : Wire) (readings : Readings) (c : ℕ) → Sound n b → MovesBy n b readings (event.State c)
state_event n b readings c s = same n b s

-- ---- consumers and ackers

pub poll_event : (n : ℕ) (b : Wire) (readings : Readings) (k : ℕ) → Sound n b → MovesBy n b readings (event.PollConsumer k)
poll_event n b readings k s = inboxed n (deliveries.Polled k ∷ []) b b [] [] (same n b s)

pub acker_event : (n : ℕ) (b : Wire) (readings : Readings) (m : ℕ) (k : AckerCall) → Sound n b → MovesBy n b readings (event.Acker m k)
acker_event n b readings m k s = inboxed n (acker_deliveries m k b) b (acked_wire (usable_at m b) k b) [] [] (acked_moves n (usable_at m b) k b s)

pub delegate_event : (n : ℕ) (b : Wire) (readings : Readings) (k : ℕ) → Sound n b → MovesBy n b readings (event.Delegate k)
delegate_event n b readings k s = inboxed n (delegate_deliveries k b) b b [] [] (same n b s)

pub drop_event : (n : ℕ) (b : Wire) (readings : Readings) (k : ℕ) → Sound n b → MovesBy n b readings (event.DropConsumer k)
drop_event n b readings k s = inboxed n (drop_deliveries k b) b (after_drop k b) [] [] (dropped_moves n (consumer_at k b.deliveries.subscriptions) b s)

pub job_event : (n : ℕ) (b : Wire) (readings : Readings) → Sound n b → MovesBy n b readings event.NextJob
job_event n b readings s = inboxed n (job_deliveries b) b b [] [] (same n b s)
