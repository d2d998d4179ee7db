-- A connection that is not open any more, and channels without a live opening.
use Rattle.std.proofs.Common.{◌≡◌, ℕ, Bool, true, false, List, [], ◌∷◌, refl, sym, ◌∙◌, ap, subst, drop, inl, inr, Option, Some, None, ◌&&◌, cond}
use Rattle.std.proofs.lemmas.Bool.Decides.{eqb_tells}
use Rattle.std.specs.List.{fold, list_any}
use Rattle.lapin_tables.specs.ByChannel.{at_channel}
use Rattle.lapin_types.specs.declared.event.Event.{Event}
use Rattle.lapin_types.specs.declared.event.Event.TheVariants as event
use Rattle.lapin_types.specs.declared.record.Record.{Record}
use Rattle.lapin_types.specs.declared.record.Record.TheVariants as record_
use Rattle.lapin_types.specs.declared.leaving.Left.{Left}
use Rattle.lapin_types.specs.declared.leaving.Publish.{Publish}
use Rattle.lapin_types.specs.Types.channel_state as state
use Rattle.lapin_types.specs.declared.acker_call.AckerCall.{AckerCall}
use Rattle.lapin_consumer.specs.Subscriptions.{Consumer, consumer_at}
use Rattle.lapin_rules.specs.declared.calls.Asked.{Asked}
use Rattle.lapin_rules.specs.declared.broker_frames.Incoming.{Incoming}
use Rattle.lapin_rules.specs.declared.phases.ConnectionPhase.{ConnectionPhase}
use Rattle.lapin_rules.specs.declared.phases.ConnectionPhase.TheVariants as link
use Rattle.lapin_rules.specs.Incoming.{incoming_of, frame_class, frame_method}
use Rattle.lapin_rules.specs.Phases.{is_up, is_lost}
use Rattle.lapin_rules.specs.Frames.{MethodEntry, RestEntry}
use Rattle.lapin_rules.specs.Leaving.{handed_of, left_of}
use Rattle.lapin_rules.specs.Drops.{no_lists, frame_channel, is_on, is_rest_of, publish_channel, unbegun}
use Rattle.lapin_rules.specs.Readings.{Readings}
use Rattle.lapin_rules.specs.Unexpected.{refused}
use Rattle.lapin_rules.specs.Flow.{begins_on}
use Rattle.lapin_rules.specs.Wire.{Wire, state_of, lists_of}
use Rattle.lapin_rules.specs.Asking.{is_allowed, asked_by, after_asking}
use Rattle.lapin_rules.specs.Receiving.{incoming_record, after_incoming}
use Rattle.lapin_rules.specs.Handing.{frame_record, began_on, handed_as, sent}
use Rattle.lapin_rules.specs.Events.{record_of, after_event, confirm_marks}
use Rattle.lapin_rules.specs.Ackers.{acker_asked, usable_at, acked_wire}
use Rattle.lapin_rules.specs.Consumers.{lets_go_of, cancel_noted, after_let_go}
use Rattle.lapin_machine.specs.Stands.{IsShut}
use Rattle.lapin_machine.specs.Tied.{is_live_on}
use Rattle.lapin_machine.specs.World.{World, new_world, next, next_anew, told_by, told_anew, readings_of, full_in}
use Rattle.lapin_machine.proofs.Back.{next_keeps, told_none, next_none, still_none}
use Rattle.lapin_machine.proofs.Shut.{shut-next}
use Rattle.lapin_laws.specs.Runs.{world_after}
use Rattle.lapin_laws.specs.Down.{first_method}
use Rattle.lapin_laws.specs.Outgoing.{ended_in, is_channel}
use Rattle.lapin_laws.proofs.Alive.{live_at, Alive, AreAlive, IsRestAlive, none_alive, none_begun}
use Rattle.lapin_laws.proofs.Moving.{Sound, start_sound}
use Rattle.lapin_laws.proofs.Going.{goes, lost_sent}
use Rattle.lapin_rules.proofs.PhaseLaws.{lost_down, shut_refuses}

-- no frame is given back in a run
unreturned_from : (w : World) (es : List Event) → w.returned ≡ None → (fold next w es).returned ≡ None
unreturned_from w [] h = h
unreturned_from w (e ∷ es) h = unreturned_from (next w e) es (still_none w e h)

pub unreturned_after : (n : ℕ) (es : List Event) → (world_after n es).returned ≡ None
unreturned_after n es = unreturned_from (new_world n) es refl

-- what every session keeps
pub record Kept (n : ℕ) (b : Wire) : Type 0 where
  pub sound : Sound n b
  pub shut : IsShut b

pub kept-next : (n : ℕ) (w : World) (e : Event) → Kept n w.wire → Kept n (next w e).wire
kept-next n w e k = next_keeps (λ v. Kept n v.wire) w e (record { sound = (goes n w.wire (readings_of w.confirm_state w.slots) e k.shut k.sound).sound; shut = shut-next w.wire (readings_of w.confirm_state w.slots) e k.shut }) k

kept_from : (n : ℕ) (w : World) (es : List Event) → Kept n w.wire → Kept n (fold next w es).wire
kept_from n w [] k = k
kept_from n w (e ∷ es) k = kept_from n (next w e) es (kept-next n w e k)

pub run_kept : (n : ℕ) (es : List Event) → Kept n (world_after n es).wire
run_kept n es = kept_from n (new_world n) es (record { sound = start_sound n; shut = λ _. refl })

pub run_sound : (n : ℕ) (es : List Event) → Sound n (world_after n es).wire
run_sound n es = (run_kept n es).sound

stays_from : (n : ℕ) (w : World) (es : List Event) → Kept n w.wire → is_up w.wire.link ≡ false → is_up (fold next w es).wire.link ≡ false
stays_from n w [] k d = d
stays_from n w (e ∷ es) k d = let g = goes n w.wire (readings_of w.confirm_state w.slots) e k.shut k.sound in stays_from n (next w e) es (kept-next n w e k) (next_keeps (λ v. is_up v.wire.link ≡ false) w e (g.down d) d)

pub stays_down : (n : ℕ) (es more : List Event) → is_up (world_after n es).wire.link ≡ false → is_up (fold next (world_after n es) more).wire.link ≡ false
stays_down n es more = stays_from n (world_after n es) more (run_kept n es)

-- ---- a loss

pub is_link_lost : (l : ConnectionPhase) → is_lost l ≡ true → l ≡ link.Lost
is_link_lost link.Open h = cc
is_link_lost (link.Closing s) h = cc
is_link_lost link.Closed h = cc
is_link_lost link.Lost h = refl

sent_lost : (o : Option Left) (b : Wire) → is_lost b.link ≡ true → is_lost (sent o b).link ≡ true
sent_lost None b h = h
sent_lost (Some l) b h = lost_sent l.frame b.link ∙ h

call_lost : (c : ℕ) (k : Asked) (b : Wire) → b.link ≡ link.Lost → is_lost (after_asking c k b).link ≡ true
call_lost c k b e =
    let at : state_of c b ≡ state.Down = rw e refl in
    let shut : is_allowed k (state_of c b) ≡ false = ap (is_allowed k) at ∙ shut_refuses k in
    rw shut (ap is_lost e)

acked_lost : (o : Option (ℕ × ℕ)) (k : AckerCall) (b : Wire) → b.link ≡ link.Lost → is_lost (acked_wire o k b).link ≡ true
acked_lost None k b e = ap is_lost e
acked_lost (Some x) k b e = call_lost x.0 (acker_asked k x.1) b e

let_go_link : (t : Bool) (x : Consumer) (b : Wire) → (cond t (cancel_noted x b) b).link ≡ b.link
let_go_link true x b = refl
let_go_link false x b = refl

-- a consumer that is let go moves no connection
pub dropped_link : (o : Option Consumer) (b : Wire) → (after_let_go o b).link ≡ b.link
dropped_link None b = refl
dropped_link (Some x) b = let_go_link (lets_go_of x b) x b

incoming_lost : (readings : Readings) (r : Record) (i : Incoming) (b : Wire) → b.link ≡ link.Lost → is_lost (after_incoming i (incoming_record b readings r i) b).link ≡ true
incoming_lost readings r i b e = rw e refl

lost-next : (b : Wire) (readings : Readings) (e : Event) → is_lost b.link ≡ true → is_lost (after_event b e (record_of b readings e)).link ≡ true
lost-next b readings (event.Call c k) h = call_lost c (asked_by k (record_of b readings (event.Call c k))) b (is_link_lost b.link h)
lost-next b readings (event.Next flow) h = sent_lost (handed_as (record_of b readings (event.Next flow)) b) _ h
lost-next b readings (event.Receive f) h = incoming_lost readings (refused (frame_class f) (frame_method f)) (incoming_of f) b (is_link_lost b.link h)
lost-next b readings (event.PollTicket n) h = h
lost-next b readings (event.PollConfirm n) h = h
lost-next b readings (event.PollWait c) h = h
lost-next b readings (event.AsideTicket n) h = h
lost-next b readings (event.AsideConfirm n) h = h
lost-next b readings (event.PollConsumer n) h = h
lost-next b readings (event.Acker n k) h = acked_lost (usable_at n b) k b (is_link_lost b.link h)
lost-next b readings (event.Delegate n) h = h
lost-next b readings (event.DropConsumer n) h = ap is_lost (dropped_link (consumer_at n b.deliveries.subscriptions) b) ∙ h
lost-next b readings event.NextJob h = h
lost-next b readings (event.State c) h = h
lost-next b readings event.Lost h = rw h h

pub stays_lost : (w : World) (es : List Event) → is_lost w.wire.link ≡ true → is_lost (fold next w es).wire.link ≡ true
stays_lost w [] h = h
stays_lost w (e ∷ es) h = stays_lost (next w e) es (next_keeps (λ v. is_lost v.wire.link ≡ true) w e (lost-next w.wire (readings_of w.confirm_state w.slots) e h) h)

-- ---- what waits, and what a frame request gives

given_by : (t : ℕ → Bool) (rest : List RestEntry) (methods : List MethodEntry) (publishes : List Publish) → rest ≡ [] → publishes ≡ [] → frame_record (handed_of t rest methods publishes) ≡ first_method methods
given_by t rest [] publishes r p = rw (r, p) refl
given_by t rest (m ∷ ms) publishes r p = rw r refl

sent_methods : (o : Option Left) (b : Wire) → (sent o b).methods ≡ b.methods
sent_methods None b = refl
sent_methods (Some l) b = refl

left_by : (frame_max : ℕ) (t : ℕ → Bool) (rest : List RestEntry) (methods : List MethodEntry) (publishes : List Publish) → rest ≡ [] → (left_of frame_max t rest methods publishes).methods ≡ drop 1 methods
left_by frame_max t rest [] publishes r = rw r refl
left_by frame_max t rest (m ∷ ms) publishes r = rw r refl

module _ (n : ℕ) (w : World) (s : Sound n w.wire) where
  pub no_rest : is_up w.wire.link ≡ false → w.wire.rest ≡ []
  no_rest d = none_begun w.wire.link w.wire.phases w.wire.rest d s.rest

  pub no_publishes : is_up w.wire.link ≡ false → w.wire.publishes ≡ []
  no_publishes d = none_alive w.wire.link w.wire.phases w.wire.publishes d s.publishes

  pub nothing : is_lost w.wire.link ≡ true → lists_of w.wire ≡ no_lists
  nothing h = let d : is_up w.wire.link ≡ false = lost_down w.wire.link h in rw (no_rest d, s.lost h, no_publishes d) refl

  pub gives : w.returned ≡ None → (flow : Bool) → is_up w.wire.link ≡ false → told_by w (event.Next flow) ≡ first_method w.wire.methods
  gives none flow d = told_none w (event.Next flow) none ∙ given_by (begins_on flow (full_in w.confirm_state) w.wire) w.wire.rest w.wire.methods w.wire.publishes (no_rest d) (no_publishes d)

  pub gives_none : w.returned ≡ None → (flow : Bool) → is_lost w.wire.link ≡ true → told_by w (event.Next flow) ≡ record_.NoFrame
  gives_none none flow h = gives none flow (lost_down w.wire.link h) ∙ ap first_method (s.lost h)

  pub leaves : w.returned ≡ None → (flow : Bool) → is_up w.wire.link ≡ false → (next w (event.Next flow)).wire.methods ≡ drop 1 w.wire.methods
  leaves none flow d =
      let r : Record = told_anew w (event.Next flow) in
      ap (λ (v : World). v.wire.methods) (next_none w (event.Next flow) none) ∙ sent_methods (handed_as r w.wire) _ ∙ left_by w.wire.frame_max (began_on r) w.wire.rest w.wire.methods w.wire.publishes (no_rest d)

  -- ---- what waits has a live opening

  not_dead : (c : ℕ) → Alive w.wire.link w.wire.phases c → is_live_on w.wire.link (at_channel c w.wire.phases) ≡ false → ⊥
  not_dead c a d = let live : is_live_on w.wire.link (at_channel c w.wire.phases) ≡ true = rw (a.0, a.1) refl in let z : true ≡ false = sym live ∙ d in cc

  none_unbegun : (c : ℕ) (qs : List Publish) → is_live_on w.wire.link (at_channel c w.wire.phases) ≡ false → AreAlive w.wire.link w.wire.phases qs → unbegun c qs ≡ []
  none_unbegun c [] d a = refl
  none_unbegun c (q ∷ qs) d a = elim (eqb_tells q.channel c) [
    | inl y ↦ absurd (not_dead c (subst (Alive w.wire.link w.wire.phases) y.1 a.0) d)
    | inr n ↦ let off : is_on publish_channel c q ≡ false = n.0 in rw off (none_unbegun c qs d a.1)
  ]

  pub unbegun_live : (c : ℕ) → is_live_on w.wire.link (at_channel c w.wire.phases) ≡ false → unbegun c w.wire.publishes ≡ []
  unbegun_live c d = none_unbegun c w.wire.publishes d s.publishes

  rest_of_none : (c : ℕ) (fs : List RestEntry) → is_live_on w.wire.link (at_channel c w.wire.phases) ≡ false → IsRestAlive w.wire.link w.wire.phases fs → is_rest_of c fs ≡ false
  rest_of_none c [] d a = refl
  rest_of_none c (f ∷ fs) d a = elim (eqb_tells (frame_channel f.frame) c) [
    | inl y ↦ absurd (not_dead c (subst (Alive w.wire.link w.wire.phases) y.1 a.0) d)
    | inr n ↦ n.0
  ]

  pub rest_live : (c : ℕ) → is_live_on w.wire.link (at_channel c w.wire.phases) ≡ false → is_rest_of c w.wire.rest ≡ false
  rest_live c d = rest_of_none c w.wire.rest d s.rest

-- ---- an end leaves no live opening

not_both : (x y : Bool) → ((x ≡ true) × (y ≡ true) → ⊥) → (x && y) ≡ false
not_both true true h = absurd (h (refl, refl))
not_both true false h = refl
not_both false y h = refl

pub ends_leave_none : (n : ℕ) (es : List Event) (e : Event) (c : ℕ) → list_any (is_channel c) (ended_in (confirm_marks (world_after n es).wire e (told_by (world_after n es) e))) ≡ true → is_live_on (next (world_after n es) e).wire.link (at_channel c (next (world_after n es) e).wire.phases) ≡ false
ends_leave_none n es e c h =
    let w : World = world_after n es in
    let k : Kept n w.wire = run_kept n es in
    let step = goes n w.wire (readings_of w.confirm_state w.slots) e k.shut k.sound in
    let none : w.returned ≡ None = unreturned_after n es in
    let marked = ap (λ r. list_any (is_channel c) (ended_in (confirm_marks w.wire e r))) (sym (told_none w e none)) ∙ h in
    let P : World → Type 0 = λ v. is_live_on v.wire.link (at_channel c v.wire.phases) ≡ false in
    subst P (sym (next_none w e none)) (not_both (is_up (next_anew w e).wire.link) (live_at c (next_anew w e).wire.phases) (step.dead c marked))
