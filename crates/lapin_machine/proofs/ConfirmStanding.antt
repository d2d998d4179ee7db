-- Confirms stand for the longer history after each event.
use Rattle.std.proofs.Common.{◌≡◌, ◌≢◌, ℕ, suc, ◌+◌, ◌<◌, ◌≤◌, nat_lt, nat_le, Bool, true, false, cond, ◌&&◌, List, [], ◌∷◌, ◌++◌, Option, Some, None, refl, sym, ◌∙◌, ap, subst, arith, append-nil, append_assoc, add-one, ne_eqb, ltb-true}
use Rattle.std.specs.Prelude.{◌==◌, not, IsSome}
use Rattle.std.specs.List.{fold, filter, find, AllByRecursion}
use Rattle.std.specs.Option.{option_map}
use Rattle.std.proofs.lemmas.Bool.{leb-true}
use Rattle.lapin_rules.specs.declared.calls.Asked.{Asked}
use Rattle.lapin_rules.specs.declared.calls.Asked.TheVariants as ask
use Rattle.lapin_types.specs.declared.event.Event.{Event}
use Rattle.lapin_types.specs.declared.event.Event.TheVariants as event
use Rattle.lapin_types.specs.declared.leaving.Publish.{Publish}
use Rattle.lapin_types.specs.declared.record.Record.{Record}
use Rattle.lapin_types.specs.declared.record.Record.TheVariants as record_
use Rattle.lapin_types.specs.declared.acker_call.AckerCall.{AckerCall}
use Rattle.lapin_types.specs.declared.leaving.Left.{Left}
use Rattle.lapin_types.specs.Types.{Method, Error}
use Rattle.lapin_types.specs.Types.error
use Rattle.lapin_rules.specs.ConfirmMarks.{ConfirmMark}
use Rattle.lapin_rules.specs.ConfirmMarks as mark
use Rattle.lapin_types.specs.declared.outcome.Outcome.{Outcome}
use Rattle.lapin_rules.specs.declared.broker_frames.Incoming.{Incoming}
use Rattle.lapin_rules.specs.declared.broker_frames.Incoming.TheVariants as incoming
use Rattle.lapin_rules.specs.ConfirmReadings.{leaves, has_left, is_begun, is_selected, place, is_asked, limit_of, added, outcome_at, is_open_outcome, is_finished, was_added}
use Rattle.lapin_rules.specs.ReturnReadings.{is_gone, message_of}
use Rattle.lapin_tables.specs.ByChannel.{at_channel}
use Rattle.lapin_rules.specs.TicketReadings.{TicketMark}
use Rattle.lapin_rules.specs.Frames.{RestEntry, MethodEntry, left_publish}
use Rattle.lapin_rules.specs.Words.{without_first}
use Rattle.lapin_rules.specs.Leaving.{may_begin, begun_rest, left_of, handed_of}
use Rattle.lapin_rules.specs.declared.phases.ChannelPhase.{ChannelPhase}
use Rattle.lapin_rules.specs.declared.phases.ChannelPhase.TheVariants as phase
use Rattle.lapin_rules.specs.declared.phases.ConnectionPhase.{ConnectionPhase}
use Rattle.lapin_rules.specs.declared.phases.ConnectionPhase.TheVariants as link
use Rattle.lapin_rules.specs.declared.phases.CloseStage.TheVariants as stage
use Rattle.lapin_rules.specs.Phases.{is_up, is_lost}
use Rattle.lapin_rules.specs.Drops.{is_off, publish_channel}
use Rattle.lapin_rules.specs.ChannelClose.{close_ok_end}
use Rattle.lapin_rules.specs.Incoming.{incoming_of, frame_class, frame_method}
use Rattle.lapin_rules.specs.Wire.{Wire, state_of, phase_of, is_open, lists_of, with_lists, with_deliveries}
use Rattle.lapin_rules.specs.Loss.{after_lost, lost_deliveries}
use Rattle.lapin_rules.specs.declared.broker_frames.ConsumerPart.{ConsumerPart}
use Rattle.lapin_rules.specs.declared.broker_frames.ConsumerPart.TheVariants as consumer
use Rattle.lapin_consumer.specs.Subscriptions.{Consumer, consumer_at}
use Rattle.lapin_delivery.specs.Marks.{DeliveryMark}
use Rattle.lapin_rules.specs.Consumers.{after_consumer, lets_go_of, cancel_noted, after_let_go}
use Rattle.lapin_rules.specs.Ackers.{acker_asked, usable_at, acked_wire}
use Rattle.lapin_rules.specs.Asking.{asked_by, is_allowed, after_call, asked_wire, asking_deliveries}
use Rattle.lapin_rules.specs.Events.{after_event}
use Rattle.lapin_rules.specs.Receiving.{incoming_wire, after_received, after_refused, after_failed}
use Rattle.lapin_rules.specs.ChannelClose.{after_close_ok}
use Rattle.lapin_rules.specs.ConnectionClose.{after_connection_close, unless_sent, has_sent}
use Rattle.lapin_rules.specs.Handing.{sent, handed_as, began_on}
use Rattle.lapin_rules.specs.Events.{confirm_marks}
use Rattle.lapin_rules.specs.Asking.{call_marks}
use Rattle.lapin_rules.specs.Select.{queued_marks, is_select, method_marks}
use Rattle.lapin_rules.specs.Ends.{live_channels, ends, ends_all, end_with}
use Rattle.lapin_rules.specs.Handing.{left_marks}
use Rattle.lapin_rules.specs.Receiving.{incoming_deliveries, incoming_marks, received_marks, refused_marks, failed_marks}
use Rattle.lapin_rules.specs.Polls.{is_confirmed, is_returned, is_aside as is_laid}
use Rattle.lapin_types.specs.declared.message.BasicReturnMessage.{BasicReturnMessage}
use Rattle.lapin_rules.specs.declared.broker_frames.ContentPart.{ContentPart}
use Rattle.lapin_rules.specs.declared.broker_frames.ContentPart.TheVariants as part
use Rattle.lapin_content.specs.declared.start.Start.{Start}
use Rattle.lapin_content.specs.declared.start.Start.TheVariants as start
use Rattle.lapin_content.specs.declared.start.Whole.{Whole}
use Rattle.lapin_rules.specs.Content.{after_part, part_marks, start_marks, whole_marks, whole_on, returned_message}
use Rattle.lapin_rules.specs.Events.{record_of}
use Rattle.lapin_rules.specs.History.{readings_of, polled_outcome, confirm_poll, confirm_aside}
use Rattle.lapin_rules.proofs.ConfirmLaws.{added-push}
use Rattle.lapin_confirm.specs.declared.cell.Cell.TheVariants as cell
use Rattle.lapin_confirm.specs.PublishStates.{ConfirmModeState}
use Rattle.lapin_confirm.specs.ConfirmState.{ConfirmState}
use Rattle.lapin_confirm.specs.Machine.{after_mark}
use Rattle.lapin_confirm.specs.Follows.{Follows, WasAdded, MayCome, cell_in}
use Rattle.lapin_confirm.proofs.CellFollowing.{stood, cell-added}
use Rattle.lapin_confirm.proofs.Facts.{facts, leaving-stays}
use Rattle.lapin_confirm.proofs.Reading.{may-begin}
use Rattle.lapin_confirm.proofs.Following.{follows-push}
use Rattle.lapin_machine.specs.Tied.{IsTied}
use Rattle.lapin_machine.proofs.Brought.{none_begins, fresh_brought}
use Rattle.lapin_machine.proofs.HeardParts.{IsHeard, is_heard}
use Rattle.lapin_machine.proofs.Openings.{closed_over, open_confirm_mode}
use Rattle.lapin_machine.specs.Stands.{AreFresh, ConfirmsStand, IsShut}

-- the mark is of another publish than this, and leaves it queued
abbrev SparesOne : ConfirmMark → Publish → Type 0
SparesOne m p = (leaves p.confirm m ≡ false) × (stood m (Some (cell.Queued p.channel)) ≡ Some (cell.Queued p.channel))

abbrev Spares : ConfirmMark → List Publish → Type 0
Spares m ps = AllByRecursion (SparesOne m) ps

fresh_kept : (ms : List ConfirmMark) (m : ConfirmMark) (ps : List Publish) → MayCome ms m → Spares m ps → AreFresh ms ps → AreFresh (ms ++ m ∷ []) ps
fresh_kept ms m [] may other h = tt
fresh_kept ms m (p ∷ ps) may other h = (leaving-stays p.channel p.confirm ms m may h.0 other.0.0 other.0.1, h.1, fresh_kept ms m ps may other.1 h.2)

spares_all : (m : ConfirmMark) (ps : List Publish) → ((n : ℕ) → leaves n m ≡ false) → ((c : ℕ) → stood m (Some (cell.Queued c)) ≡ Some (cell.Queued c)) → Spares m ps
spares_all m [] l s = tt
spares_all m (p ∷ ps) l s = ((l p.confirm, s p.channel), spares_all m ps l s)

-- no mark
stand_still : (b d : Wire) (ms : List ConfirmMark) (bk : ConfirmState) → ConfirmsStand b ms bk → d.published ≡ b.published → d.publishes ≡ b.publishes → ConfirmsStand d (ms ++ []) bk
stand_still b d ms bk s n q =
    let P : List ConfirmMark → Type 0 = λ xs. ConfirmsStand d xs bk in
    let Q : List Publish → Type 0 = AreFresh ms in
    subst P (sym (append-nil ms)) (record { confirm_state = s.confirm_state; published = n ∙ s.published; queue = subst Q (sym q) s.queue })

stand-push : (b d : Wire) (ms : List ConfirmMark) (bk : ConfirmState) (m : ConfirmMark) → ConfirmsStand b ms bk → MayCome ms m → d.published ≡ added (ms ++ m ∷ []) → AreFresh (ms ++ m ∷ []) d.publishes → ConfirmsStand d (ms ++ m ∷ []) (after_mark bk m)
stand-push b d ms bk m s may n queue = record { confirm_state = follows-push ms bk m s.confirm_state may; published = n; queue = queue }

-- a mark that is of no publish, where the publishes that wait stay
stand_quiet : (b d : Wire) (ms : List ConfirmMark) (bk : ConfirmState) (m : ConfirmMark) → ConfirmsStand b ms bk → MayCome ms m → Spares m b.publishes → added (ms ++ m ∷ []) ≡ added ms → d.published ≡ b.published → d.publishes ≡ b.publishes → ConfirmsStand d (ms ++ m ∷ []) (after_mark bk m)
stand_quiet b d ms bk m s may other e n q =
    let P : List Publish → Type 0 = AreFresh (ms ++ m ∷ []) in
    stand-push b d ms bk m s may (n ∙ s.published ∙ sym e) (subst P (sym q) (fresh_kept ms m b.publishes may other s.queue))

choose_mark : (t : Bool) (x b : Wire) (ms : List ConfirmMark) (bk : ConfirmState) (new : List ConfirmMark) → (t ≡ true → ConfirmsStand x (ms ++ new) (fold after_mark bk new)) → ConfirmsStand b ms bk → ConfirmsStand (cond t x b) (ms ++ cond t new []) (fold after_mark bk (cond t new []))
choose_mark true x b ms bk new h s = h refl
choose_mark false x b ms bk new h s = stand_still b b ms bk s refl refl

choose_only : (t : Bool) (b : Wire) (ms : List ConfirmMark) (bk : ConfirmState) (m : ConfirmMark) → (t ≡ true → ConfirmsStand b (ms ++ m ∷ []) (after_mark bk m)) → ConfirmsStand b ms bk → ConfirmsStand b (ms ++ cond t (m ∷ []) []) (fold after_mark bk (cond t (m ∷ []) []))
choose_only true b ms bk m h s = h refl
choose_only false b ms bk m h s = stand_still b b ms bk s refl refl

-- ---- closes and ends

module _ {X : Type 0} (P : X → Type 0) (t : X → Bool) where
  all-filter : (xs : List X) → AllByRecursion P xs → AllByRecursion P (filter t xs)
  all-filter [] h = tt
  all-filter (x ∷ xs) h = elim (t x) as (λ b. AllByRecursion P (cond b (x ∷ filter t xs) (filter t xs))) [ true ↦ (h.0, all-filter xs h.1) | false ↦ all-filter xs h.1 ]

fresh_filter : (t : Publish → Bool) (ms : List ConfirmMark) (ps : List Publish) → AreFresh ms ps → AreFresh ms (filter t ps)
fresh_filter t ms [] h = tt
fresh_filter t ms (p ∷ ps) h = elim (t p) as (λ b. AreFresh ms (cond b (p ∷ filter t ps) (filter t ps))) [
  | true ↦ (h.0, all-filter (λ r. p.confirm ≢ r.confirm) t ps h.1, fresh_filter t ms ps h.2)
  | false ↦ fresh_filter t ms ps h.2
]

-- the confirms stand, and these publishes still wait
record Standing (ms : List ConfirmMark) (bk : ConfirmState) (many : ℕ) (ps : List Publish) : Type 0 where
  confirm_state : Follows ms bk
  count : added ms ≡ many
  queue : AreFresh ms ps

moved : (xs ys : List ConfirmMark) (bk : ConfirmState) (count : ℕ) (ps : List Publish) → xs ≡ ys → Standing xs bk count ps → Standing ys bk count ps
moved xs ys bk count ps e s = let P : List ConfirmMark → Type 0 = λ zs. Standing zs bk count ps in subst P e s

-- a mark of one channel alone, that adds no publish: what waits of other channels still waits
module _ (c : ℕ) (m : ConfirmMark) (leaves_none : (n : ℕ) → leaves n m ≡ false) (away : (d : ℕ) → (d == c) ≡ false → stood m (Some (cell.Queued d)) ≡ Some (cell.Queued d)) where
  spares_others : (ps : List Publish) → Spares m (filter (is_off publish_channel c) ps)
  spares_others [] = tt
  spares_others (p ∷ ps) = elim (p.channel == c) as (λ b. (p.channel == c) ≡ b → Spares m (cond (not b) (p ∷ filter (is_off publish_channel c) ps) (filter (is_off publish_channel c) ps))) [
    | true ↦ λ on. spares_others ps
    | false ↦ λ off. ((leaves_none p.confirm, away p.channel off), spares_others ps)
  ] refl

  stand_off : (b d : Wire) (ms : List ConfirmMark) (bk : ConfirmState) → ConfirmsStand b ms bk → MayCome ms m → added (ms ++ m ∷ []) ≡ added ms → d.published ≡ b.published → d.publishes ≡ filter (is_off publish_channel c) b.publishes → ConfirmsStand d (ms ++ m ∷ []) (after_mark bk m)
  stand_off b d ms bk s may same n q =
      let P : List Publish → Type 0 = AreFresh (ms ++ m ∷ []) in
      stand-push b d ms bk m s may (n ∙ s.published ∙ sym same)
      (subst P (sym q) (fresh_kept ms m (filter (is_off publish_channel c) b.publishes) may (spares_others b.publishes) (fresh_filter (is_off publish_channel c) ms b.publishes s.queue)))

-- an opening ends
stand_ended : (c : ℕ) (e : Error) (b d : Wire) (ms : List ConfirmMark) (bk : ConfirmState) → ConfirmsStand b ms bk → d.published ≡ b.published → d.publishes ≡ filter (is_off publish_channel c) b.publishes → ConfirmsStand d (ms ++ mark.Ended c e ∷ []) (after_mark bk (mark.Ended c e))
stand_ended c e b d ms bk s n q = stand_off c (mark.Ended c e) (λ k. refl) (λ x off. rw off refl) b d ms bk s tt (added-push ms (mark.Ended c e)) n q

-- this side closes a channel
stand_closed : (c : ℕ) (e : Error) (b d : Wire) (ms : List ConfirmMark) (bk : ConfirmState) → ConfirmsStand b ms bk → d.published ≡ b.published → d.publishes ≡ filter (is_off publish_channel c) b.publishes → ConfirmsStand d (ms ++ mark.ClosedHere c e ∷ []) (after_mark bk (mark.ClosedHere c e))
stand_closed c e b d ms bk s n q = stand_off c (mark.ClosedHere c e) (λ k. refl) (λ x off. rw off refl) b d ms bk s tt (added-push ms (mark.ClosedHere c e)) n q

-- these openings end, and nothing waits any more
stand_ends : (e : Error) (cs : List ℕ) (ms : List ConfirmMark) (bk : ConfirmState) → Follows ms bk → Standing (ms ++ ends e cs) (fold after_mark bk (ends e cs)) (added ms) []
stand_ends e [] ms bk f = moved ms (ms ++ []) bk (added ms) [] (sym (append-nil ms)) (record { confirm_state = f; count = refl; queue = tt })
stand_ends e (c ∷ cs) ms bk f =
    let m : ConfirmMark = mark.Ended c e in
    let same : added (ms ++ m ∷ []) ≡ added ms = added-push ms m in
    let rest = stand_ends e cs (ms ++ m ∷ []) (after_mark bk m) (follows-push ms bk m f tt) in
    moved _ _ _ (added ms) [] (append_assoc ms (m ∷ []) (ends e cs)) (record { confirm_state = rest.confirm_state; count = rest.count ∙ same; queue = tt })

-- what stands after a close or an end
stand_by : (b d : Wire) (ms new : List ConfirmMark) (bk : ConfirmState) → ConfirmsStand b ms bk → d.published ≡ b.published → Standing (ms ++ new) (fold after_mark bk new) (added ms) d.publishes → ConfirmsStand d (ms ++ new) (fold after_mark bk new)
stand_by b d ms new bk s n t = record { confirm_state = t.confirm_state; published = n ∙ s.published ∙ sym t.count; queue = t.queue }

-- no mark, and nothing waits any more
stand_dropped : (b d : Wire) (ms : List ConfirmMark) (bk : ConfirmState) → ConfirmsStand b ms bk → d.published ≡ b.published → d.publishes ≡ [] → ConfirmsStand d (ms ++ []) bk
stand_dropped b d ms bk s n q =
    let P : List ConfirmMark → Type 0 = λ xs. ConfirmsStand d xs bk in
    let Q : List Publish → Type 0 = AreFresh ms in
    subst P (sym (append-nil ms)) (record { confirm_state = s.confirm_state; published = n ∙ s.published; queue = subst Q (sym q) tt })

-- every live opening ends, if there is one
stand_down : (e : Error) (b d : Wire) (ms : List ConfirmMark) (bk : ConfirmState) → ConfirmsStand b ms bk → d.published ≡ b.published → d.publishes ≡ [] → ConfirmsStand d (ms ++ ends_all e b) (fold after_mark bk (ends_all e b))
stand_down e b d ms bk s n q =
    let P : List Publish → Type 0 = λ ps. Standing (ms ++ ends_all e b) (fold after_mark bk (ends_all e b)) (added ms) ps in
    stand_by b d ms (ends_all e b) bk s n (subst P (sym q) (stand_ends e (live_channels b.phases) ms bk s.confirm_state))

-- none is live
stand_none : (e : Error) (b d : Wire) (ms : List ConfirmMark) (bk : ConfirmState) → b.phases ≡ [] → ConfirmsStand b ms bk → d.published ≡ b.published → d.publishes ≡ b.publishes → ConfirmsStand d (ms ++ ends_all e b) (fold after_mark bk (ends_all e b))
stand_none e b d ms bk none s n q =
    let P : List (ℕ × ChannelPhase) → Type 0 = λ ps. ConfirmsStand d (ms ++ ends e (live_channels ps)) (fold after_mark bk (ends e (live_channels ps))) in
    subst P (sym none) (stand_still b d ms bk s n q)

-- ---- calls

fresh_added : (ms : List ConfirmMark) (c : ℕ) (p : Publish) (ps : List Publish) → p.channel ≡ c → p.confirm ≡ suc (added ms) → (has_left (suc (added ms)) ms ≡ false) × (is_gone (suc (added ms)) ms ≡ false) → is_begun c ms ≡ true → AreFresh ms ps → AreFresh (ms ++ mark.Added c ∷ []) (ps ++ p ∷ [])
fresh_added ms c p [] on at new begun h =
    let more : added (ms ++ mark.Added c ∷ []) ≡ added ms + 1 = added-push ms (mark.Added c) in
    let P : ℕ → Type 0 = λ i. cell_in i (ms ++ mark.Added c ∷ []) ≡ Some (cell.Queued c) in
    let Q : ℕ → Type 0 = λ d. cell_in p.confirm (ms ++ mark.Added c ∷ []) ≡ Some (cell.Queued d) in
    (((omega arith, omega arith), subst Q (sym on) (subst P (sym at) (cell-added c (added ms) ms refl new.0 new.1))), tt, tt)
fresh_added ms c p (q ∷ ps) on at new begun h =
    let last : q.confirm ≤ added ms = h.0.0.1 in
    (leaving-stays q.channel q.confirm ms (mark.Added c) begun h.0 refl refl, apart q.confirm ps (omega arith) h.1, fresh_added ms c p ps on at new begun h.2)
  where
    apart : (k : ℕ) (ps : List Publish) → k ≢ p.confirm → AllByRecursion (λ r. k ≢ r.confirm) ps → AllByRecursion (λ r. k ≢ r.confirm) (ps ++ p ∷ [])
    apart k [] ne h = (ne, tt)
    apart k (r ∷ rs) ne h = (h.0, apart k rs ne h.1)

-- of the next publish nothing is known
next_new : (ms : List ConfirmMark) (bk : ConfirmState) → Follows ms bk → (has_left (suc (added ms)) ms ≡ false) × (is_gone (suc (added ms)) ms ≡ false)
next_new ms bk f =
    let known = facts ms f.came in (
      known.unleft (added ms) (omega arith),
      elim (is_gone (suc (added ms)) ms) as (λ g. is_gone (suc (added ms)) ms ≡ g → g ≡ false) [
        | true ↦ λ gone. let last : suc (added ms) ≤ added ms = (known.known (suc (added ms)) (known.gone (suc (added ms)) gone)).1 in absurd (omega arith)
        | false ↦ λ kept. refl
      ] refl,
    )

-- a channel that had an opening
begun_by : (c : ℕ) (ms : List ConfirmMark) (bk : ConfirmState) → Follows ms bk → IsSome (at_channel c bk.publish_states.confirm_modes) → is_begun c ms ≡ true
begun_by c ms bk f h = at (is_begun c ms) (subst IsSome (f.confirm_modes c) h)
  where
    at : (b : Bool) → IsSome {T = ConfirmModeState} (cond b (Some (record { selected = is_selected c ms; last = place c ms; asked = is_asked c ms; limit = limit_of c ms })) None) → b ≡ true
    at true there = refl
    at false there = cc

-- a call that queues a method
stand_queued : (b d : Wire) (ms : List ConfirmMark) (bk : ConfirmState) (c : ℕ) (m : Method) → is_begun c ms ≡ true → ConfirmsStand b ms bk → d.published ≡ b.published → d.publishes ≡ b.publishes → ConfirmsStand d (ms ++ queued_marks c m) (fold after_mark bk (queued_marks c m))
stand_queued b d ms bk c m begun s n q = elim (is_select m) as (λ t. ConfirmsStand d (ms ++ cond t (mark.SelectCalled c ∷ []) []) (fold after_mark bk (cond t (mark.SelectCalled c ∷ []) []))) [
  | true ↦ stand_quiet b d ms bk (mark.SelectCalled c) s begun (spares_all (mark.SelectCalled c) b.publishes (λ k. refl) (λ d. refl)) (added-push ms (mark.SelectCalled c)) n q
  | false ↦ stand_still b d ms bk s n q
]

abbrev T : Wire → ConfirmState → Type 0
T b bk = IsTied b.link b.phases b.publishes bk.publish_states

stand_call : (c : ℕ) (k : Asked) (b : Wire) (ms : List ConfirmMark) (bk : ConfirmState) → T b bk → ConfirmsStand b ms bk → is_allowed k (state_of c b) ≡ true → ConfirmsStand (after_call c k b) (ms ++ call_marks c k b) (fold after_mark bk (call_marks c k b))
stand_call c ask.Open b ms bk t s h = stand_quiet b _ ms bk (mark.Begun c) s (may-begin c ms bk s.confirm_state (t.done c (closed_over b.link c b.phases h).1)) (spares_all (mark.Begun c) b.publishes (λ k. refl) (λ d. refl)) (added-push ms (mark.Begun c)) refl refl
stand_call c (ask.CloseChannel code text) b ms bk t s h = stand_closed c _ b _ ms bk s refl refl
stand_call c (ask.CloseConnection code text) b ms bk t s h = stand_down _ b _ ms bk s refl refl
stand_call c (ask.Method row) b ms bk t s h = stand_queued b _ ms bk c row.method (begun_by c ms bk s.confirm_state (open_confirm_mode b.link c b.phases b.publishes bk.publish_states h t)) s refl refl
stand_call c (ask.Consume m tag queue o) b ms bk t s h = stand_still b _ ms bk s refl refl
stand_call c (ask.Limit limit) b ms bk t s h = stand_quiet b _ ms bk (mark.LimitSet c limit) s tt (spares_all (mark.LimitSet c limit) b.publishes (λ k. refl) (λ d. refl)) (added-push ms (mark.LimitSet c limit)) refl refl
stand_call c ask.Nothing b ms bk t s h = stand_still b _ ms bk s refl refl
stand_call c (ask.Publish exchange key o payload properties) b ms bk t s h =
    let begun : is_begun c ms ≡ true = begun_by c ms bk s.confirm_state (open_confirm_mode b.link c b.phases b.publishes bk.publish_states h t) in
    stand-push b _ ms bk (mark.Added c) s begun (ap (λ n. n + 1) s.published ∙ sym (added-push ms (mark.Added c)))
    (fresh_added ms c _ b.publishes refl (ap (λ n. n + 1) s.published ∙ add-one (added ms)) (next_new ms bk s.confirm_state) begun s.queue)

-- ---- frames that leave

stand_method : (b d : Wire) (ms : List ConfirmMark) (bk : ConfirmState) (c : ℕ) (m : Method) → ConfirmsStand b ms bk → d.published ≡ b.published → d.publishes ≡ b.publishes → ConfirmsStand d (ms ++ method_marks c m) (fold after_mark bk (method_marks c m))
stand_method b d ms bk c m s n q = elim (is_select m) as (λ t. ConfirmsStand d (ms ++ cond t (mark.SelectLeft c ∷ []) []) (fold after_mark bk (cond t (mark.SelectLeft c ∷ []) []))) [
  | true ↦ stand_quiet b d ms bk (mark.SelectLeft c) s tt (spares_all (mark.SelectLeft c) b.publishes (λ k. refl) (λ d. refl)) (added-push ms (mark.SelectLeft c)) n q
  | false ↦ stand_still b d ms bk s n q
]

others : (c j : ℕ) (ps : List Publish) → AllByRecursion (λ r. j ≢ r.confirm) ps → Spares (mark.Left c j) ps
others c j [] h = tt
others c j (p ∷ ps) h = ((ne_eqb j p.confirm h.0, refl), others c j ps h.1)

abbrev base_with : Wire → List RestEntry → List MethodEntry → List Publish → Wire
base_with b rest methods publishes = record b { rest = rest; methods = methods; publishes = publishes }

abbrev NextStands : (ℕ → Bool) → Wire → List ConfirmMark → ConfirmState → List RestEntry → List MethodEntry → List Publish → Type 0
NextStands flow b ms bk rest methods publishes =
    ConfirmsStand (with_lists (left_of b.frame_max flow rest methods publishes) b) (ms ++ left_marks (handed_of flow rest methods publishes)) (fold after_mark bk (left_marks (handed_of flow rest methods publishes)))

stand_next : (flow : ℕ → Bool) (b : Wire) (ms : List ConfirmMark) (bk : ConfirmState) (rest : List RestEntry) (methods : List MethodEntry) (publishes : List Publish) → ConfirmsStand (base_with b rest methods publishes) ms bk → NextStands flow b ms bk rest methods publishes
stand_next flow b ms bk (f ∷ fs) methods publishes s = stand_still (base_with b (f ∷ fs) methods publishes) _ ms bk s refl refl
stand_next flow b ms bk [] (m ∷ more) publishes s = stand_method (base_with b [] (m ∷ more) publishes) _ ms bk m.channel m.method s refl refl
stand_next flow b ms bk [] [] ps s = at (find (may_begin flow) ps) refl
  where
    stay : List Publish
    stay = without_first (may_begin flow) ps

    at : (o : Option Publish) → find (may_begin flow) ps ≡ o → ConfirmsStand (with_lists (record { rest = begun_rest b.frame_max o; methods = []; publishes = stay }) b) (ms ++ left_marks (option_map left_publish o)) (fold after_mark bk (left_marks (option_map left_publish o)))
    at None e = stand_still (base_with b [] [] ps) _ ms bk s refl (none_begins (may_begin flow) ps e)
    at (Some p) e =
        let fresh : AreFresh ms (p ∷ stay) = fresh_brought (may_begin flow) ms ps p e s.queue in
        let m : ConfirmMark = mark.Left p.channel p.confirm in
        let same : added (ms ++ m ∷ []) ≡ added ms = added-push ms m in
        stand-push (base_with b [] [] ps) _ ms bk m s fresh.0 (s.published ∙ sym same)
        (fresh_kept ms m stay fresh.0 (others p.channel p.confirm stay fresh.1) fresh.2)

-- ---- frames of the broker

abbrev HeardStands : Wire → Wire → List ConfirmMark → List ConfirmMark → ConfirmState → Type 0
HeardStands b d ms new bk = ConfirmsStand d (ms ++ new) (fold after_mark bk new)

stand_close_ok : (c : ℕ) (p : ChannelPhase) (b : Wire) (ms : List ConfirmMark) (bk : ConfirmState) → ConfirmsStand b ms bk → HeardStands b (after_close_ok c p b) ms (end_with c (close_ok_end p)) bk
stand_close_ok c (phase.Closing who sent) b ms bk s = stand_ended c _ b _ ms bk s refl refl
stand_close_ok c phase.Closed b ms bk s = stand_still b _ ms bk s refl refl
stand_close_ok c phase.Opening b ms bk s = stand_still b _ ms bk s refl refl
stand_close_ok c (phase.Open paused) b ms bk s = stand_still b _ ms bk s refl refl
stand_close_ok c phase.Crossed b ms bk s = stand_still b _ ms bk s refl refl

stand_connection_close : (l : ConnectionPhase) (code : ℕ) (b : Wire) (ms : List ConfirmMark) (bk : ConfirmState) → b.link ≡ l → IsShut b → ConfirmsStand b ms bk → HeardStands b (after_connection_close l b) ms (ends_all (error.ProtocolError code) b) bk
stand_connection_close link.Open code b ms bk e shut s = stand_down _ b _ ms bk s refl refl
stand_connection_close (link.Closing stage.Queued) code b ms bk e shut s = stand_down _ b _ ms bk s refl refl
stand_connection_close (link.Closing t) code b ms bk e shut s = stand_none _ b _ ms bk (shut (ap is_up e)) s refl refl
stand_connection_close link.Closed code b ms bk e shut s = stand_down _ b _ ms bk s refl refl
stand_connection_close link.Lost code b ms bk e shut s = stand_down _ b _ ms bk s refl refl

stand_connection_close_ok : (x : Bool) (b d : Wire) (ms : List ConfirmMark) (bk : ConfirmState) → ConfirmsStand b ms bk → d.published ≡ b.published → d.publishes ≡ (unless_sent x (lists_of b)).publishes → ConfirmsStand d (ms ++ []) bk
stand_connection_close_ok true b d ms bk s n q = stand_still b d ms bk s n q
stand_connection_close_ok false b d ms bk s n q = stand_dropped b d ms bk s n q

stand_flow : (t : Bool) (d b : Wire) (ms : List ConfirmMark) (bk : ConfirmState) → d.published ≡ b.published → d.publishes ≡ b.publishes → ConfirmsStand b ms bk → ConfirmsStand (cond t d b) (ms ++ []) bk
stand_flow true d b ms bk n q s = stand_still b d ms bk s n q
stand_flow false d b ms bk n q s = stand_still b b ms bk s refl refl

-- contents: a returned message that came whole
stand_start : (c : ℕ) (x : Start) (w : Whole) (b d : Wire) (ms : List ConfirmMark) (bk : ConfirmState) → ConfirmsStand b ms bk → d.published ≡ b.published → d.publishes ≡ b.publishes → HeardStands b d ms (start_marks c x w) bk
stand_start c (start.Return code text exchange key) w b d ms bk s n q = stand_quiet b d ms bk (mark.Arrived c (returned_message code text exchange key w)) s tt (spares_all (mark.Arrived c (returned_message code text exchange key w)) b.publishes (λ k. refl) (λ d. refl)) (added-push ms (mark.Arrived c (returned_message code text exchange key w))) n q
stand_start c (start.Get ticket tag exchange key redelivered count) w b d ms bk s n q = stand_still b d ms bk s n q
stand_start c (start.Deliver consumer tag exchange key redelivered) w b d ms bk s n q = stand_still b d ms bk s n q

stand_whole : (c : ℕ) (w : Option Whole) (b d : Wire) (ms : List ConfirmMark) (bk : ConfirmState) → ConfirmsStand b ms bk → d.published ≡ b.published → d.publishes ≡ b.publishes → HeardStands b d ms (whole_marks c w) bk
stand_whole c None b d ms bk s n q = stand_still b d ms bk s n q
stand_whole c (Some w) b d ms bk s n q = stand_start c w.start w b d ms bk s n q

stand_part : (c : ℕ) (p : ContentPart) (b : Wire) (ms : List ConfirmMark) (bk : ConfirmState) → ConfirmsStand b ms bk → HeardStands b (after_part c p b) ms (part_marks c p b) bk
stand_part c (part.GetOk x) b ms bk s = stand_still b _ ms bk s refl refl
stand_part c (part.Return x) b ms bk s = stand_still b _ ms bk s refl refl
stand_part c (part.Deliver tag x) b ms bk s = stand_still b _ ms bk s refl refl
stand_part c (part.Header x) b ms bk s = stand_whole c (whole_on c (part.Header x) b) b _ ms bk s refl refl
stand_part c (part.Body bytes) b ms bk s = stand_whole c (whole_on c (part.Body bytes) b) b _ ms bk s refl refl

stand_consumer : (c : ℕ) (p : ConsumerPart) (b : Wire) (ms : List ConfirmMark) (bk : ConfirmState) → ConfirmsStand b ms bk → ConfirmsStand (after_consumer c p b) (ms ++ []) bk
stand_consumer c (consumer.ConsumeOk tag) b ms bk s = stand_still b _ ms bk s refl refl
stand_consumer c (consumer.CancelOk tag) b ms bk s = stand_still b _ ms bk s refl refl
stand_consumer c consumer.RecoverOk b ms bk s = stand_still b _ ms bk s refl refl
stand_consumer c (consumer.Cancel tag nowait) b ms bk s = stand_flow (is_open (state_of c b) && not nowait) _ b ms bk refl refl s

stand_received : (i : Incoming) (b : Wire) (ms : List ConfirmMark) (bk : ConfirmState) → IsHeard i record_.Received b → IsShut b → T b bk → ConfirmsStand b ms bk → HeardStands b (after_received i b) ms (received_marks i b) bk
stand_received (incoming.Reply c k a) b ms bk heard shut t s = stand_still b _ ms bk s refl refl
stand_received (incoming.Settlement c x) b ms bk heard shut t s = stand_quiet b b ms bk (mark.Settled c x) s tt (spares_all (mark.Settled c x) b.publishes (λ k. refl) (λ d. refl)) (added-push ms (mark.Settled c x)) refl refl
stand_received (incoming.Content c p) b ms bk heard shut t s = stand_part c p b ms bk s
stand_received (incoming.Consumer c p) b ms bk heard shut t s = stand_consumer c p b ms bk s
stand_received (incoming.ChannelClose c code) b ms bk heard shut t s = stand_ended c _ b _ ms bk s refl refl
stand_received (incoming.ChannelCloseOk c) b ms bk heard shut t s = stand_close_ok c (phase_of c b) b ms bk s
stand_received (incoming.ConnectionClose code) b ms bk heard shut t s = stand_connection_close b.link code b ms bk refl shut s
stand_received incoming.ConnectionCloseOk b ms bk heard shut t s = stand_connection_close_ok (has_sent b.link) b _ ms bk s refl refl
stand_received (incoming.Flow c active) b ms bk heard shut t s = stand_flow (is_open (state_of c b)) _ b ms bk refl refl s
stand_received incoming.Other b ms bk heard shut t s = stand_still b b ms bk s refl refl

stand_failed_on : (t : Bool) (c : ℕ) (e : Error) (x b : Wire) (ms : List ConfirmMark) (bk : ConfirmState) → x.published ≡ b.published → x.publishes ≡ filter (is_off publish_channel c) b.publishes → ConfirmsStand b ms bk → HeardStands b (cond t x b) ms (cond t (mark.ClosedHere c e ∷ []) []) bk
stand_failed_on true c e x b ms bk n q s = stand_closed c e b x ms bk s n q
stand_failed_on false c e x b ms bk n q s = stand_still b b ms bk s refl refl

stand_failed : (i : Incoming) (b : Wire) (ms : List ConfirmMark) (bk : ConfirmState) → ConfirmsStand b ms bk → HeardStands b (after_failed i b) ms (failed_marks i b) bk
stand_failed (incoming.Settlement c x) b ms bk s = stand_failed_on (is_open (state_of c b)) c _ _ b ms bk refl refl s
stand_failed (incoming.Reply c k a) b ms bk s = stand_still b b ms bk s refl refl
stand_failed (incoming.Content c p) b ms bk s = stand_still b b ms bk s refl refl
stand_failed (incoming.Consumer c p) b ms bk s = stand_still b b ms bk s refl refl
stand_failed (incoming.ChannelClose c code) b ms bk s = stand_still b b ms bk s refl refl
stand_failed (incoming.ChannelCloseOk c) b ms bk s = stand_still b b ms bk s refl refl
stand_failed (incoming.ConnectionClose code) b ms bk s = stand_still b b ms bk s refl refl
stand_failed incoming.ConnectionCloseOk b ms bk s = stand_still b b ms bk s refl refl
stand_failed (incoming.Flow c active) b ms bk s = stand_still b b ms bk s refl refl
stand_failed incoming.Other b ms bk s = stand_still b b ms bk s refl refl

stand_refused : (i : Incoming) (e : Error) (b : Wire) (ms : List ConfirmMark) (bk : ConfirmState) → ConfirmsStand b ms bk → HeardStands b (after_refused i e b) ms (refused_marks i e b) bk
stand_refused i (error.UnexpectedFrame class number) b ms bk s = stand_down _ b _ ms bk s refl refl
stand_refused i (error.PreconditionFailed tag current) b ms bk s = stand_failed i b ms bk s
stand_refused i error.NoMemory b ms bk s = stand_still b b ms bk s refl refl
stand_refused i error.NumbersUsedUp b ms bk s = stand_still b b ms bk s refl refl
stand_refused i (error.InvalidChannelState x) b ms bk s = stand_still b b ms bk s refl refl
stand_refused i (error.ProtocolError code) b ms bk s = stand_still b b ms bk s refl refl
stand_refused i error.ConnectionLost b ms bk s = stand_still b b ms bk s refl refl
stand_refused i error.AlreadyTaken b ms bk s = stand_still b b ms bk s refl refl
stand_refused i error.UnknownTicket b ms bk s = stand_still b b ms bk s refl refl
stand_refused i (error.ConfirmsOutstanding limit) b ms bk s = stand_still b b ms bk s refl refl

stand_incoming : (i : Incoming) (r : Record) (b : Wire) (ms : List ConfirmMark) (bk : ConfirmState) → IsHeard i r b → IsShut b → T b bk → ConfirmsStand b ms bk → HeardStands b (incoming_wire i r b) ms (incoming_marks i r b) bk
stand_incoming i (record_.Refused e) b ms bk heard shut t s = stand_refused i e b ms bk s
stand_incoming i record_.Received b ms bk heard shut t s = stand_received i b ms bk heard shut t s
stand_incoming i _ b ms bk heard shut t s = stand_still b b ms bk s refl refl

stand_lost : (l : ConnectionPhase) (b d : Wire) (ms : List ConfirmMark) (bk : ConfirmState) → b.link ≡ l → IsShut b → ConfirmsStand b ms bk → d.published ≡ b.published → d.publishes ≡ [] → HeardStands b (cond (is_lost l) b d) ms (ends_all error.ConnectionLost b) bk
stand_lost link.Open b d ms bk e shut s n q = stand_down _ b d ms bk s n q
stand_lost (link.Closing _) b d ms bk e shut s n q = stand_down _ b d ms bk s n q
stand_lost link.Closed b d ms bk e shut s n q = stand_down _ b d ms bk s n q
stand_lost link.Lost b d ms bk e shut s n q = stand_none _ b b ms bk (shut (ap is_up e)) s refl refl

-- ---- polls

confirmed_open : (m : Option BasicReturnMessage) (o : Option Outcome) → is_confirmed (polled_outcome m o) ≡ true → is_open_outcome o ≡ false
confirmed_open m None h = cc
confirmed_open m (Some o) h = refl

added_is : (n : ℕ) (ms : List ConfirmMark) → was_added n ms ≡ true → WasAdded n ms
added_is n ms h = elim (nat_lt 0 n) as (λ a. nat_lt 0 n ≡ a → (a && nat_le n (added ms)) ≡ true → WasAdded n ms) [
  | true ↦ λ above within. let some : 0 < n = ltb-true 0 n above in (omega arith, leb-true n (added ms) within)
  | false ↦ λ none h. cc
] refl h

-- a result that is given is that of a publish whose outcome is there, and is given once
given_is : (n : ℕ) (ms : List ConfirmMark) → is_confirmed (confirm_poll ms n) ≡ true → MayCome ms (mark.Taken n)
given_is n ms =
    elim (was_added n ms) as (λ a. was_added n ms ≡ a → is_confirmed (cond a (cond (is_finished n ms) (record_.Refused error.AlreadyTaken) (polled_outcome (message_of n ms) (outcome_at n ms))) (record_.Refused error.UnknownTicket)) ≡ true → MayCome ms (mark.Taken n)) [
      | true ↦ λ known.
          elim (is_finished n ms) as (λ a. is_finished n ms ≡ a → is_confirmed (cond a (record_.Refused error.AlreadyTaken) (polled_outcome (message_of n ms) (outcome_at n ms))) ≡ true → MayCome ms (mark.Taken n)) [
            | true ↦ λ over h. cc
            | false ↦ λ over h. (added_is n ms known, over, confirmed_open (message_of n ms) (outcome_at n ms) h)
          ] refl
      | false ↦ λ known h. cc
    ] refl

-- what is set aside was accepted, and is so once
laid_is : (n : ℕ) (ms : List ConfirmMark) → is_laid (confirm_aside ms n) ≡ true → MayCome ms (mark.SetAside n)
laid_is n ms =
    elim (was_added n ms) as (λ a. was_added n ms ≡ a → is_laid (cond a (cond (is_finished n ms) (record_.Refused error.AlreadyTaken) record_.Aside) (record_.Refused error.UnknownTicket)) ≡ true → MayCome ms (mark.SetAside n)) [
      | true ↦ λ known.
          elim (is_finished n ms) as (λ a. is_finished n ms ≡ a → is_laid (cond a (record_.Refused error.AlreadyTaken) record_.Aside) ≡ true → MayCome ms (mark.SetAside n)) [
            | true ↦ λ over h. cc
            | false ↦ λ over h. (added_is n ms known, over)
          ] refl
      | false ↦ λ known h. cc
    ] refl

-- a mark that a poll, a wait or a set-aside makes
stand_one : (t : Bool) (b : Wire) (ms : List ConfirmMark) (bk : ConfirmState) (m : ConfirmMark) → (t ≡ true → MayCome ms m) → Spares m b.publishes → added (ms ++ m ∷ []) ≡ added ms → ConfirmsStand b ms bk → ConfirmsStand b (ms ++ cond t (m ∷ []) []) (fold after_mark bk (cond t (m ∷ []) []))
stand_one t b ms bk m may other same s = choose_only t b ms bk m (λ h. stand_quiet b b ms bk m s (may h) other same refl refl) s

-- where channels and the connection stand is nothing to the confirms
stand_sent : (o : Option Left) (b : Wire) (ms : List ConfirmMark) (bk : ConfirmState) → ConfirmsStand b ms bk → ConfirmsStand (sent o b) ms bk
stand_sent None b ms bk s = s
stand_sent (Some l) b ms bk s = record { confirm_state = s.confirm_state; published = s.published; queue = s.queue }

-- nor is what happens to consumers and ackers
stand_boxed : (xs : List DeliveryMark) (b : Wire) (ms : List ConfirmMark) (bk : ConfirmState) → ConfirmsStand b ms bk → ConfirmsStand (with_deliveries xs b) ms bk
stand_boxed xs b ms bk s = record { confirm_state = s.confirm_state; published = s.published; queue = s.queue }

-- an acker's call publishes nothing, and neither does letting a consumer go
abbrev SamePublishes : Wire → Wire → Type 0
SamePublishes x y = (x.published ≡ y.published) × (x.publishes ≡ y.publishes)

choose_publishes : (t : Bool) (x y b : Wire) → SamePublishes x b → SamePublishes y b → SamePublishes (cond t x y) b
choose_publishes true x y b h k = h
choose_publishes false x y b h k = k

acked_publishes : (o : Option (ℕ × ℕ)) (k : AckerCall) (b : Wire) → SamePublishes (acked_wire o k b) b
acked_publishes None k b = (refl, refl)
acked_publishes (Some x) k b = choose_publishes (is_allowed (acker_asked k x.1) (state_of x.0 b)) (after_call x.0 (acker_asked k x.1) b) b b (refl, refl) (refl, refl)

let_go_publishes : (o : Option Consumer) (b : Wire) → SamePublishes (after_let_go o b) b
let_go_publishes None b = (refl, refl)
let_go_publishes (Some x) b = choose_publishes (lets_go_of x b) (cancel_noted x b) b b (refl, refl) (refl, refl)

pub confirms-next : (b : Wire) (ms : List ConfirmMark) (tms : List TicketMark) (bk : ConfirmState) (e : Event) (r : Record) → r ≡ record_of b (readings_of ms tms) e → IsShut b → T b bk → ConfirmsStand b ms bk
    → ConfirmsStand (after_event b e r) (ms ++ confirm_marks b e r) (fold after_mark bk (confirm_marks b e r))
confirms-next b ms tms bk (event.Call c k) r is shut t s =
    let a : Asked = asked_by k r in
    stand_boxed (asking_deliveries c a b) (asked_wire c a b) _ _
    (choose_mark (is_allowed a (state_of c b)) (after_call c a b) b ms bk (call_marks c a b) (stand_call c a b ms bk t s) s)
confirms-next b ms tms bk (event.Next flow) r is shut t s = stand_sent (handed_as r b) _ _ _ (stand_next (began_on r) b ms bk b.rest b.methods b.publishes s)
confirms-next b ms tms bk (event.Receive f) r is shut t s =
    stand_boxed (incoming_deliveries (incoming_of f) r b) (incoming_wire (incoming_of f) r b) _ _
    (stand_incoming (incoming_of f) r b ms bk (is_heard (incoming_of f) r b (readings_of ms tms) (frame_class f) (frame_method f) is) shut t s)
confirms-next b ms tms bk (event.PollTicket n) r is shut t s = stand_still b b ms bk s refl refl
confirms-next b ms tms bk (event.PollConfirm n) r is shut t s =
    stand_one (is_confirmed r) b ms bk (mark.Taken n) (λ h. given_is n ms (ap is_confirmed (sym is) ∙ h)) (spares_all (mark.Taken n) b.publishes (λ k. refl) (λ d. refl)) (added-push ms (mark.Taken n)) s
confirms-next b ms tms bk (event.PollConsumer n) r is shut t s = stand_still b (after_event b (event.PollConsumer n) r) ms bk s refl refl
confirms-next b ms tms bk (event.PollWait c) r is shut t s =
    stand_one (is_returned r) b ms bk (mark.Drained c) (λ h. tt) (spares_all (mark.Drained c) b.publishes (λ k. refl) (λ d. refl)) (added-push ms (mark.Drained c)) s
confirms-next b ms tms bk (event.AsideTicket n) r is shut t s = stand_still b b ms bk s refl refl
confirms-next b ms tms bk (event.AsideConfirm n) r is shut t s =
    stand_one (is_laid r) b ms bk (mark.SetAside n) (λ h. laid_is n ms (ap is_laid (sym is) ∙ h)) (spares_all (mark.SetAside n) b.publishes (λ k. refl) (λ d. refl)) (added-push ms (mark.SetAside n)) s
confirms-next b ms tms bk (event.Acker n k) r is shut t s =
    let same = acked_publishes (usable_at n b) k b in
    stand_still b (after_event b (event.Acker n k) r) ms bk s same.0 same.1
confirms-next b ms tms bk (event.Delegate n) r is shut t s = stand_still b (after_event b (event.Delegate n) r) ms bk s refl refl
confirms-next b ms tms bk (event.DropConsumer n) r is shut t s =
    let same = let_go_publishes (consumer_at n b.deliveries.subscriptions) b in
    stand_still b (after_event b (event.DropConsumer n) r) ms bk s same.0 same.1
confirms-next b ms tms bk event.NextJob r is shut t s = stand_still b (after_event b event.NextJob r) ms bk s refl refl
confirms-next b ms tms bk (event.State c) r is shut t s = stand_still b b ms bk s refl refl
confirms-next b ms tms bk event.Lost r is shut t s = stand_boxed (lost_deliveries b) (after_lost b) _ _ (stand_lost b.link b _ ms bk refl shut s refl refl)
