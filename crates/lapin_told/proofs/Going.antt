-- What one event leaves of a history that fits, fits.
use Rattle.std.proofs.Common.{◌≡◌, ℕ, ◌+◌, Bool, false, cond, List, [], ◌∷◌, slice_get, Option, Some, None, Ok, Err, Result, refl}
use Rattle.std.specs.List.{AllByRecursion as Each}
use Rattle.lapin_types.specs.Types.{Error}
use Rattle.lapin_types.specs.Types.error
use Rattle.lapin_types.specs.declared.answer.Answer.{Answer}
use Rattle.lapin_types.specs.declared.event.Event.{Event}
use Rattle.lapin_types.specs.declared.event.Event.TheVariants as event
use Rattle.lapin_types.specs.declared.job.Job.{Job}
use Rattle.lapin_types.specs.declared.record.Record.{Record}
use Rattle.lapin_types.specs.declared.record.Record.TheVariants as record_
use Rattle.lapin_consumer.specs.Subscriptions.{Consumer, Handed, answered, consumer_at}
use Rattle.lapin_delivery.specs.Marks as delivery
use Rattle.lapin_rules.specs.declared.broker_frames.Incoming.{Incoming}
use Rattle.lapin_rules.specs.declared.phases.ConnectionMove.TheVariants as link_move
use Rattle.lapin_rules.specs.ConfirmMarks as mark
use Rattle.lapin_rules.specs.Consumers.{delegate_deliveries, delegate_record, drop_record, item_record, job_deliveries, job_record}
use Rattle.lapin_rules.specs.Ends.{down, live_channels}
use Rattle.lapin_rules.specs.Events.{after_event, confirm_marks, ticket_marks}
use Rattle.lapin_rules.specs.Handing.{began_on, handed_as, handed_out, left_tickets}
use Rattle.lapin_rules.specs.History.{History, Past, polled_answer, readings_of, record_after, ticket_poll, was_given}
use Rattle.lapin_rules.specs.Incoming.{incoming_of}
use Rattle.lapin_rules.specs.Leaving.{left_lists}
use Rattle.lapin_rules.specs.Loss.{after_lost, lost_deliveries, lost_tickets}
use Rattle.lapin_rules.specs.Machine.{is_ticket}
use Rattle.lapin_rules.specs.Moves.{link_after}
use Rattle.lapin_rules.specs.Phases.{is_lost}
use Rattle.lapin_rules.specs.Polls.{is_answer, is_aside, is_confirmed, is_returned}
use Rattle.lapin_rules.specs.Receiving.{incoming_tickets}
use Rattle.lapin_rules.specs.TicketReadings.{TicketMark, answer_of, is_collected}
use Rattle.lapin_rules.specs.TicketReadings as ticket
use Rattle.lapin_rules.specs.Wire.{Wire, lists_of, with_lists}
use Rattle.lapin_lines.specs.KeptLines.{MayTell, OfAside, OfConfirm, OfNext, OfReceive, OfWait}
use Rattle.lapin_told.specs.Told.{MayCome}
use Rattle.lapin_told.proofs.Each.{chosen}
use Rattle.lapin_told.proofs.Fitting.{Wide, WireFits, lists_now}
use Rattle.lapin_told.proofs.Called.{KnownAs, acker_goes, call_goes}
use Rattle.lapin_told.proofs.Calling.{delegate_marks_fit, drop_fits, ends_fit, job_marks_fit}
use Rattle.lapin_told.proofs.Confirming.{Counted, ends_counted, incoming_counted, left_counted, maybe_still, nothing}
use Rattle.lapin_told.proofs.Hearing.{IncomingFits, frame_fits}
use Rattle.lapin_told.proofs.Receiving.{RefusedFits, incoming_fits}
use Rattle.lapin_told.proofs.Telling.{aside_told}
use Rattle.lapin_told.proofs.Ticketing.{Numbered, Quiet, incoming_quiet, left_quiet, lost_quiet, quiet_numbered}
use Rattle.lapin_told.proofs.Wires.{ListsFit, delivered_fits, down_fits, lists_left, sent_fits}

-- ---- records that are no tickets

not_ticket : (P : Record → Type 0) → ((n : ℕ) → P (record_.Ticket n) → ⊥) → ((t n : ℕ) → P (record_.Publish t n) → ⊥) → (r : Record) → P r → is_ticket r ≡ false
not_ticket P f g (record_.Ticket n) h = absurd (f n h)
not_ticket P f g (record_.Publish t n) h = absurd (g t n h)
not_ticket P f g _ h = refl

answer_not : (o : Option (Result Answer Error)) → is_ticket (polled_answer o) ≡ false
answer_not None = refl
answer_not (Some a) = refl

poll_not : (ms : List TicketMark) (n : ℕ) → is_ticket (ticket_poll ms n) ≡ false
poll_not ms n =
    let P : Record → Type 0 = λ r. is_ticket r ≡ false in
    let got : Record = polled_answer (answer_of n ms) in
    let taken : Record = record_.Refused error.AlreadyTaken in
    chosen P (was_given n ms) _ (record_.Refused error.UnknownTicket) (chosen P (is_collected n ms) taken got refl (answer_not (answer_of n ms))) refl

item_not : (x : Result (Option Handed) Error) → is_ticket (item_record x) ≡ false
item_not (Ok None) = refl
item_not (Ok (Some y)) = refl
item_not (Err e) = refl

delegate_not : (o : Option Consumer) → is_ticket (delegate_record o) ≡ false
delegate_not None = refl
delegate_not (Some x) = refl

drop_not : (o : Option Consumer) (b : Wire) → is_ticket (drop_record o b) ≡ false
drop_not None b = refl
drop_not (Some x) b = refl

job_not : (o : Option Job) → is_ticket (job_record o) ≡ false
job_not None = refl
job_not (Some j) = refl

-- ---- every event

module _ (K : ℕ → Bool) (p : Past) (h : WireFits K p.wire) (published : Wide (p.wire.published + 1)) where
  -- what an event with a record leaves
  abbrev pub Leaves : Event → Record → Type 0
  Leaves e r = WireFits K (after_event p.wire e r) × Numbered K (e, r) (ticket_marks p.wire e r) × Counted (confirm_marks p.wire e r)

  refused_fits : (r : Record) → OfReceive r → RefusedFits K r
  refused_fits (record_.Refused e) f = f
  refused_fits _ f = tt

  silent : (e : Event) (r : Record) → is_ticket r ≡ false → Numbered K (e, r) []
  silent e r none = quiet_numbered K (e, r) [] none tt

  once : (e : Event) (r : Record) (t : Bool) (m : TicketMark) → is_ticket r ≡ false → Quiet K m → Numbered K (e, r) (cond t (m ∷ []) [])
  once e r t m none f = quiet_numbered K (e, r) (cond t (m ∷ []) []) none (chosen (Each (Quiet K)) t (m ∷ []) [] (f, tt) tt)

  pub leaves : (past : History) (e : Event) → MayCome e → MayTell past e (record_after p e) → KnownAs K p.wire h published e (record_after p e) → Leaves e (record_after p e)
  leaves past (event.Call c k) m told q = call_goes K p.wire h published c k (readings_of p.confirms p.tickets) m.line.0 m.line.1 m.payload q
  leaves past (event.Next flow) m told q =
      let b : Wire = p.wire in
      let r : Record = record_after p (event.Next flow) in
      let lists : ListsFit (left_lists b.frame_max (began_on r) (lists_of b)) = lists_left b.frame_max (began_on r) b.rest b.methods b.publishes h.rest_fits h.methods_fit h.publishes_fit in
      let left : WireFits K (with_lists (left_lists b.frame_max (began_on r) (lists_of b)) b) = lists_now h lists.0 lists.1 lists.2 in
      (sent_fits K (handed_out (began_on r) b) (with_lists (left_lists b.frame_max (began_on r) (lists_of b)) b) left, quiet_numbered K (event.Next flow, r) (left_tickets (handed_as r b)) (not_ticket OfNext (λ _ x. x) (λ _ _ x. x) r told) (left_quiet K (handed_as r b)), left_counted (handed_as r b))
  leaves past (event.Receive f) m told q =
      let r : Record = record_after p (event.Receive f) in
      let i : Incoming = incoming_of f in
      let fits : IncomingFits K i = frame_fits K f m.line in
      (incoming_fits K i r p.wire fits (refused_fits r told) h, quiet_numbered K (event.Receive f, r) (incoming_tickets i r p.wire) (not_ticket OfReceive (λ _ x. x) (λ _ _ x. x) r told) (incoming_quiet K i r p.wire fits h), incoming_counted K i r p.wire fits h)
  leaves past (event.PollTicket n) m told q = let r : Record = record_after p (event.PollTicket n) in (h, once (event.PollTicket n) r (is_answer r) (ticket.Collected n) (poll_not p.tickets n) tt, nothing)
  leaves past (event.PollConfirm n) m told q = let r : Record = record_after p (event.PollConfirm n) in (h, silent (event.PollConfirm n) r (not_ticket OfConfirm (λ _ x. x) (λ _ _ x. x) r told), maybe_still (is_confirmed r) (mark.Taken n) tt)
  leaves past (event.PollConsumer n) m told q = (delivered_fits K (delivery.Polled n ∷ []) p.wire (tt, tt) h, silent (event.PollConsumer n) _ (item_not (answered (consumer_at n p.wire.deliveries.subscriptions))), nothing)
  leaves past (event.PollWait c) m told q = let r : Record = record_after p (event.PollWait c) in (h, silent (event.PollWait c) r (not_ticket OfWait (λ _ x. x) (λ _ _ x. x) r told), maybe_still (is_returned r) (mark.Drained c) tt)
  leaves past (event.AsideTicket n) m told q = let r : Record = record_after p (event.AsideTicket n) in (h, once (event.AsideTicket n) r (is_aside r) (ticket.SetAside n) (not_ticket OfAside (λ _ x. x) (λ _ _ x. x) r (aside_told (was_given n p.tickets) (is_collected n p.tickets))) tt, nothing)
  leaves past (event.AsideConfirm n) m told q = let r : Record = record_after p (event.AsideConfirm n) in (h, silent (event.AsideConfirm n) r (not_ticket OfAside (λ _ x. x) (λ _ _ x. x) r told), maybe_still (is_aside r) (mark.SetAside n) tt)
  leaves past (event.Acker n k) m told q = let g = acker_goes K p.wire h published n k q in (g.0, g.1, nothing)
  leaves past (event.Delegate n) m told q = let o : Option Consumer = consumer_at n p.wire.deliveries.subscriptions in (delivered_fits K (delegate_deliveries n p.wire) p.wire (delegate_marks_fit n o) h, silent (event.Delegate n) _ (delegate_not o), nothing)
  leaves past (event.DropConsumer n) m told q = (drop_fits K n p.wire h, silent (event.DropConsumer n) _ (drop_not (consumer_at n p.wire.deliveries.subscriptions) p.wire), nothing)
  leaves past event.NextJob m told q = let o : Option Job = slice_get p.wire.deliveries.subscriptions.jobs 0 in (delivered_fits K (job_deliveries p.wire) p.wire (job_marks_fit o) h, silent event.NextJob _ (job_not o), nothing)
  leaves past (event.State c) m told q = (h, silent (event.State c) _ refl, nothing)
  leaves past event.Lost m told q =
      let down_now : Wire = down (link_after p.wire.link link_move.Lost) p.wire in
      (delivered_fits K (lost_deliveries p.wire) (after_lost p.wire) (ends_fit error.ConnectionLost (live_channels p.wire.phases)) (chosen (WireFits K) (is_lost p.wire.link) p.wire down_now h (down_fits K (link_after p.wire.link link_move.Lost) p.wire h)), quiet_numbered K (event.Lost, record_.Lost) (lost_tickets p.wire) refl (lost_quiet K p.wire), ends_counted error.ConnectionLost p.wire tt)
