-- A session that stands for a history tells the records of that history.
use Rattle.std.proofs.Common.{◌≡◌, ℕ, cond, false, List, [], ◌∷◌, ◌++◌, Option, Some, None, Result, Ok, Err, refl, sym, ◌∙◌, ap, subst, arith}
use Rattle.std.specs.Result.{IfOk, OnOk, OnErr}
use Rattle.lapin_types.specs.declared.event.Event.{Event}
use Rattle.lapin_types.specs.declared.event.Event.TheVariants as event
use Rattle.lapin_types.specs.declared.record.Record.{Record}
use Rattle.lapin_types.specs.declared.record.Record.TheVariants as record_
use Rattle.lapin_rules.specs.ConfirmMarks.{ConfirmMark}
use Rattle.lapin_rules.specs.declared.broker_frames.Incoming.{Incoming}
use Rattle.lapin_rules.specs.declared.broker_frames.Incoming.TheVariants as incoming
use Rattle.lapin_rules.specs.TicketReadings.{TicketMark}
use Rattle.lapin_rules.specs.Incoming.{incoming_of, frame_class, frame_method}
use Rattle.lapin_rules.specs.Phases.{is_up}
use Rattle.lapin_rules.specs.Wire.{Wire}
use Rattle.lapin_rules.specs.Handing.{frame_record}
use Rattle.lapin_rules.specs.Events.{after_event}
use Rattle.lapin_rules.specs.ConnectionClose.{receives_down}
use Rattle.lapin_rules.specs.Events.{confirm_marks, ticket_marks}
use Rattle.lapin_rules.specs.Events.{record_of}
use Rattle.lapin_rules.specs.Unexpected.{refused}
use Rattle.lapin_rules.specs.Receiving.{incoming_up, incoming_record}
use Rattle.lapin_rules.specs.History.{History, Past, longer, past_on, past, record_after, rec, run_from, run}
use Rattle.lapin_rules.specs.History as history
use Rattle.lapin_confirm.specs.ConfirmState.{ConfirmState}
use Rattle.lapin_confirm.specs.Follows as confirms
use Rattle.lapin_confirm.proofs.Reading.{selected-read, last-read, tag-read}
use Rattle.lapin_confirm.proofs.PublishStates.{nothing}
use Rattle.lapin_ticket.specs.declared.Slot.{Slot}
use Rattle.lapin_ticket.specs.Follows as tickets
use Rattle.lapin_types.specs.declared.leaving.Left.{Left}
use Rattle.lapin_outbox.specs.Returned.{is_retried}
use Rattle.lapin_machine.specs.Returned.{given_back}
use Rattle.lapin_machine.specs.World.{World, next, told_by, told_anew, told_or, next_anew, next_or, with_returned, outputs, new_world, readings_of}
use Rattle.lapin_machine.proofs.Back.{told_step, next_step, given_none, still_none, still_unretried}
use Rattle.lapin_machine.specs.Stands.{ConfirmsStand, TicketsStand, IsShut, Stands}
use Rattle.lapin_machine.proofs.Readings.{call_shown, handed_shown, confirm_shown, confirm_aside_shown, wait_shown, ticket_shown, aside_shown}
use Rattle.lapin_machine.specs.Tied.{IsTied}
use Rattle.lapin_machine.proofs.Keeping.{tied_new}
use Rattle.lapin_machine.proofs.Ties.{tied_anew}
use Rattle.lapin_machine.proofs.Shut.{shut-next}
use Rattle.lapin_machine.proofs.TicketStanding.{tickets-next}
use Rattle.lapin_machine.proofs.ConfirmStanding.{confirms-next}

-- ---- what is seen of the parts is what the marks show

up_same : (b : Wire) (ms : List ConfirmMark) (tms : List TicketMark) (bk : ConfirmState) (slots : List (Option Slot)) (f : Record) (i : Incoming) → confirms.Follows ms bk → incoming_up b (readings_of bk slots) f i ≡ incoming_up b (history.readings_of ms tms) f i
up_same b ms tms bk slots f (incoming.Settlement c s) h = rw (selected-read c ms bk h, last-read c ms bk h, tag-read c s.tag ms bk h) refl
up_same b ms tms bk slots f (incoming.Content c p) h = refl
up_same b ms tms bk slots f (incoming.Consumer c p) h = refl
up_same b ms tms bk slots f (incoming.Reply c k a) h = refl
up_same b ms tms bk slots f (incoming.ChannelClose c code) h = refl
up_same b ms tms bk slots f (incoming.ChannelCloseOk c) h = refl
up_same b ms tms bk slots f (incoming.ConnectionClose code) h = refl
up_same b ms tms bk slots f incoming.ConnectionCloseOk h = refl
up_same b ms tms bk slots f (incoming.Flow c active) h = refl
up_same b ms tms bk slots f incoming.Other h = refl

incoming_same : (b : Wire) (ms : List ConfirmMark) (tms : List TicketMark) (bk : ConfirmState) (slots : List (Option Slot)) (f : Record) (i : Incoming) → confirms.Follows ms bk → incoming_record b (readings_of bk slots) f i ≡ incoming_record b (history.readings_of ms tms) f i
incoming_same b ms tms bk slots f i h = ap (λ r. cond (is_up b.link) r (cond (receives_down b.link i) record_.Received record_.Passed)) (up_same b ms tms bk slots f i h)

record_same : (b : Wire) (ms : List ConfirmMark) (tms : List TicketMark) (bk : ConfirmState) (slots : List (Option Slot)) (e : Event) → confirms.Follows ms bk → tickets.Follows tms slots → record_of b (readings_of bk slots) e ≡ record_of b (history.readings_of ms tms) e
record_same b ms tms bk slots (event.Call c k) h t = call_shown c k b ms tms bk slots h
record_same b ms tms bk slots (event.Next flow) h t = ap frame_record (handed_shown flow b ms bk h)
record_same b ms tms bk slots (event.Receive f) h t = incoming_same b ms tms bk slots (refused (frame_class f) (frame_method f)) (incoming_of f) h
record_same b ms tms bk slots (event.PollTicket n) h t = ticket_shown n tms slots t
record_same b ms tms bk slots (event.PollConfirm n) h t = confirm_shown n ms bk h
record_same b ms tms bk slots (event.PollConsumer n) h t = refl
record_same b ms tms bk slots (event.PollWait c) h t = wait_shown c b ms tms bk slots h
record_same b ms tms bk slots (event.AsideTicket n) h t = aside_shown n tms slots t
record_same b ms tms bk slots (event.AsideConfirm n) h t = confirm_aside_shown n ms bk h
record_same b ms tms bk slots (event.Acker n k) h t = refl
record_same b ms tms bk slots (event.Delegate n) h t = refl
record_same b ms tms bk slots (event.DropConsumer n) h t = refl
record_same b ms tms bk slots event.NextJob h t = refl
record_same b ms tms bk slots (event.State c) h t = refl
record_same b ms tms bk slots event.Lost h t = refl

-- ---- one event

pub record Ready (p : Past) (w : World) : Type 0 where
  pub wire : w.wire ≡ p.wire
  pub shut : IsShut w.wire
  pub tied : IsTied w.wire.link w.wire.phases w.wire.publishes w.confirm_state.publish_states
  pub confirms : ConfirmsStand w.wire p.confirms w.confirm_state
  pub tickets : TicketsStand w.wire p.tickets w.slots

told_same_anew : (p : Past) (w : World) (e : Event) → Ready p w → told_anew w e ≡ record_after p e
told_same_anew p w e r =
    record_same w.wire p.confirms p.tickets w.confirm_state w.slots e r.confirms.confirm_state r.tickets.kept
    ∙ ap (λ b. record_of b (history.readings_of p.confirms p.tickets) e) r.wire

ready-anew : (p : Past) (w : World) (e : Event) → Ready p w → Ready (longer p e (told_anew w e)) (next_anew w e)
ready-anew p w e r =
    let told : Record = told_anew w e in
    let same : told ≡ record_of w.wire (history.readings_of p.confirms p.tickets) e = record_same w.wire p.confirms p.tickets w.confirm_state w.slots e r.confirms.confirm_state r.tickets.kept in
    let confirms_stand = confirms-next w.wire p.confirms p.tickets w.confirm_state e told same r.shut r.tied r.confirms in
    let tickets_stand = tickets-next w.wire p.tickets w.slots e told r.tickets in
    let D : Wire → Type 0 = λ b. ConfirmsStand (after_event w.wire e told) (p.confirms ++ confirm_marks b e told) (next_anew w e).confirm_state in
    let T : Wire → Type 0 = λ b. TicketsStand (after_event w.wire e told) (p.tickets ++ ticket_marks b e told) (next_anew w e).slots in
    record {
      wire = ap (λ b. after_event b e told) r.wire;
      shut = shut-next w.wire (readings_of w.confirm_state w.slots) e r.shut;
      tied = tied_anew w e (r.confirms.published ∙ sym r.confirms.confirm_state.count) r.tied;
      confirms = subst D r.wire confirms_stand;
      tickets = subst T r.wire tickets_stand;
    }

-- where no frame is handed out once more, the event is a step of the history
pub told_same : (p : Past) (w : World) (e : Event) → given_back w.returned e ≡ None → Ready p w → told_by w e ≡ record_after p e
told_same p w e step r = told_step w e step ∙ told_same_anew p w e r

pub ready-next : (p : Past) (w : World) (e : Event) → given_back w.returned e ≡ None → Ready p w → Ready (longer p e (told_by w e)) (next w e)
ready-next p w e step r =
    let R : Record → Type 0 = λ x. Ready (longer p e x) (next_anew w e) in
    let V : World → Type 0 = λ v. Ready (longer p e (told_by w e)) v in
    subst V (sym (next_step w e step)) (subst R (sym (told_step w e step)) (ready-anew p w e r))

-- ---- whole runs

abbrev told_from : Past → List Event → List Record
told_from p [] = []
told_from p (e ∷ es) = record_after p e ∷ told_from (longer p e (record_after p e)) es

outputs_told : (p : Past) (w : World) (es : List Event) → w.returned ≡ None → Ready p w → outputs w es ≡ told_from p es
outputs_told p w [] none r = refl
outputs_told p w (e ∷ es) none r =
    let step : given_back w.returned e ≡ None = given_none w.returned e none in
    let same : told_by w e ≡ record_after p e = told_same p w e step r in
    let R : Record → Type 0 = λ x. Ready (longer p e x) (next w e) in
    let rest : outputs (next w e) es ≡ told_from (longer p e (record_after p e)) es = outputs_told (longer p e (record_after p e)) (next w e) es (still_none w e none) (subst R same (ready-next p w e step r)) in
    cc

pub past-push : (p : Past) (h : History) (e : Event) (r : Record) → past_on p (h ++ (e, r) ∷ []) ≡ longer (past_on p h) e r
past-push p [] e r = refl
past-push p (x ∷ h) e r = past-push (longer p x.0 x.1) h e r

run_told : (n : ℕ) (h : History) (es : List Event) → run_from n h es ≡ told_from (past n h) es
run_told n h [] = refl
run_told n h (e ∷ es) = ap (λ rs. rec n h e ∷ rs) (run_told n (h ++ (e, rec n h e) ∷ []) es ∙ ap (λ p. told_from p es) (past-push _ h e (rec n h e)))

pub new_ready : (n : ℕ) → Ready (past n []) (new_world n)
new_ready n = record {
  wire = refl;
  shut = λ _. refl;
  tied = tied_new;
  confirms = record {
    confirm_state = nothing;
    published = refl;
    queue = tt;
  };
  tickets = record { kept = record { count = refl; slot = λ k lt. absurd (omega arith) }; given = refl };
}

-- a new session tells what the history determines
pub outputs_run : (n : ℕ) (es : List Event) → outputs (new_world n) es ≡ run n es
outputs_run n es = outputs_told (past n []) (new_world n) es refl (new_ready n) ∙ sym (run_told n [] es)

-- a session that stands for a history tells its record, and then stands for the longer history
pub stands-next : (n : ℕ) (h : History) (w v : World) (e : Event) (r : Record) → given_back w.returned e ≡ None → Stands n h w → r ≡ told_by w e → v ≡ next w e → (r ≡ rec n h e) × Stands n (h ++ (e, r) ∷ []) v
stands-next n h w v e r step stands told_is next_is =
    let p : Past = past n h in
    let ready : Ready p w = record { wire = stands.wire; shut = stands.shut; tied = stands.tied; confirms = stands.confirms; tickets = stands.tickets } in
    let long : past n (h ++ (e, r) ∷ []) ≡ longer p e r = past-push _ h e r in
    let R : Record → Type 0 = λ x. Ready (longer p e x) (next w e) in
    let V : World → Type 0 = λ x. Ready (longer p e r) x in
    let P : Past → Type 0 = λ x. Ready x v in
    let after : Ready (past n (h ++ (e, r) ∷ [])) v = subst P (sym long) (subst V (sym next_is) (subst R (sym told_is) (ready-next p w e step ready))) in
    (told_is ∙ told_same p w e step ready, record { wire = after.wire; shut = after.shut; tied = after.tied; confirms = after.confirms; tickets = after.tickets })

-- a frame that is given back, or handed out once more, is no step of a history
pub stands_back : (n : ℕ) (h : History) (w v : World) (r : Option Left) → v ≡ with_returned r w → Stands n h w → Stands n h v
stands_back n h w v r is s = let P : World → Type 0 = λ x. Stands n h x in subst P (sym is) (record { wire = s.wire; shut = s.shut; tied = s.tied; confirms = s.confirms; tickets = s.tickets })

pub stands_result : {E : Type 0} (res : Result Record E) (w v : World) (e : Event) → IfOk res (λ r. r ≡ told_by w e) → OnOk res (v ≡ next w e) → IfOk res (λ r. (n : ℕ) (h : History) → given_back w.returned e ≡ None → Stands n h w → (r ≡ rec n h e) × Stands n (h ++ (e, r) ∷ []) v)
stands_result (Ok r) w v e told_is next_is = λ n h step stands. stands-next n h w v e r step stands told_is next_is
stands_result (Err x) w v e told_is next_is = tt

pub again_result : {E : Type 0} (res : Result Record E) (w v : World) (e : Event) → IfOk res (λ r. r ≡ told_by w e) → OnOk res (v ≡ next w e) → IfOk res (λ r. (l : Left) (n : ℕ) (h : History) → given_back w.returned e ≡ Some l → Stands n h w → (r ≡ record_.Frame l.frame) × Stands n h v)
again_result (Ok r) w v e told_is next_is = λ l n h back stands. (
  told_is ∙ ap (λ g. told_or g (told_anew w e)) back,
  stands_back n h w v None (next_is ∙ ap (λ g. next_or g (next_anew w e) w) back) stands,
)
again_result (Err x) w v e told_is next_is = tt

pub unretried_result : {E : Type 0} (res : Result Record E) (w v : World) (e : Event) → OnOk res (v ≡ next w e) → OnErr res (v ≡ w) → is_retried w.returned ≡ false → is_retried v.returned ≡ false
unretried_result (Ok r) w v e next_is same h = still_unretried w v e next_is h
unretried_result (Err x) w v e next_is same h = ap (λ (y : World). is_retried y.returned) same ∙ h

-- a new session stands for the history in which nothing happened
pub new_stands : (n : ℕ) (w : World) → w ≡ new_world n → Stands n [] w
new_stands n w is =
    let r : Ready (past n []) (new_world n) = new_ready n in
    let P : World → Type 0 = λ v. Stands n [] v in
    subst P (sym is) (record { wire = r.wire; shut = r.shut; tied = r.tied; confirms = r.confirms; tickets = r.tickets })
