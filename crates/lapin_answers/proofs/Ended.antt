-- In every joined run the connection's close-ok that resolves a ticket was sent for the close of that very call.
use Rattle.std.proofs.Common.{◌≡◌, ◌∙◌, ℕ, ◌+◌, ◌≤◌, Bool, true, false, cond, List, [], ◌∷◌, ◌++◌, length, length-append, Option, Some, None, Ok, refl, sym, ap, subst, append-nil, append_assoc, arith}
use Rattle.std.specs.List.{filter, find}
use Rattle.std.specs.Option.{option_map}
use Rattle.std.proofs.lemmas.List.Elements.{filter-append}
use Rattle.lapin_types.specs.declared.answer.Answer.{Answer}
use Rattle.lapin_types.specs.declared.answer.Answer.TheVariants as answer
use Rattle.lapin_types.specs.declared.event.Event.{Event}
use Rattle.lapin_types.specs.declared.event.Event.TheVariants as event
use Rattle.lapin_types.specs.declared.leaving.Left.{Left}
use Rattle.lapin_types.specs.declared.leaving.Publish.{Publish}
use Rattle.lapin_types.specs.declared.record.Record.{Record}
use Rattle.lapin_types.specs.declared.record.Record.TheVariants as record_
use Rattle.lapin_types.specs.declared.request.Request.{Request}
use Rattle.lapin_types.specs.declared.request.ReplyKind.{ReplyKind}
use Rattle.lapin_types.specs.declared.request.ReplyKind.TheVariants as reply_kind
use Rattle.lapin_types.specs.Types.{Frame, Method}
use Rattle.lapin_types.specs.Types.frame
use Rattle.lapin_types.specs.Types.method
use Rattle.lapin_types.specs.Types.connection
use Rattle.lapin_rules.specs.declared.broker_frames.Incoming.{Incoming}
use Rattle.lapin_rules.specs.declared.broker_frames.Incoming.TheVariants as incoming
use Rattle.lapin_rules.specs.declared.phases.ConnectionPhase.{ConnectionPhase}
use Rattle.lapin_rules.specs.declared.phases.ConnectionPhase.TheVariants as link
use Rattle.lapin_rules.specs.declared.phases.CloseStage.TheVariants as stage
use Rattle.lapin_rules.specs.ConfirmReadings.{is_full}
use Rattle.lapin_rules.specs.ConnectionClose.{link_sent, link_close_sent, receives_down}
use Rattle.lapin_rules.specs.Ends.{down}
use Rattle.lapin_rules.specs.Events.{after_event}
use Rattle.lapin_rules.specs.Flow.{begins_on}
use Rattle.lapin_rules.specs.Frames.{MethodEntry, RestEntry, left_method, left_rest, left_publish}
use Rattle.lapin_rules.specs.Handing.{handed, handed_out, began_on, after_handing, sent}
use Rattle.lapin_rules.specs.History.{History, Past, past, rec, readings_of}
use Rattle.lapin_rules.specs.Incoming.{incoming_of, frame_class, frame_method}
use Rattle.lapin_rules.specs.Leaving.{left_of, left_lists, handed_of, may_begin}
use Rattle.lapin_rules.specs.Phases.{is_up, is_lost}
use Rattle.lapin_rules.specs.Readings.{Readings}
use Rattle.lapin_rules.specs.Receiving.{incoming_record, incoming_tickets}
use Rattle.lapin_rules.specs.Requests.{first_request, ticket_of, resolved_with}
use Rattle.lapin_rules.specs.TicketReadings.{TicketMark, answer_of}
use Rattle.lapin_rules.specs.Unexpected.{refused}
use Rattle.lapin_rules.specs.Wire.{Wire, lists_of, with_lists, requests_of}
use Rattle.lapin_broker.specs.declared.frames.BrokerFrame.{BrokerFrame}
use Rattle.lapin_broker.specs.declared.frames.BrokerFrame.TheVariants as broker
use Rattle.lapin_broker.specs.Frames.{channel_of, broker_frame}
use Rattle.lapin_broker.specs.Sends.{may}
use Rattle.lapin_joint.specs.declared.step.Step.{Step}
use Rattle.lapin_joint.specs.declared.step.Step.TheVariants as step
use Rattle.lapin_joint.specs.Joint.{Joint, is_lawful, handed_by, left_alone, client, read_first, send_down, deliver_first, after, joined_to}
use Rattle.lapin_machine.specs.Way.{by_history}
use Rattle.lapin_joint.specs.Order.{front}
use Rattle.lapin_pairs.specs.Channel.{DownF}
use Rattle.lapin_pairs.specs.Every.{DownOn, CloseOkD}
use Rattle.lapin_concord.specs.Incomes.{income_as}
use Rattle.lapin_concord.specs.Refusals.{is_refusal}
use Rattle.lapin_concord.specs.Frames.{down_kind}
use Rattle.lapin_concord.proofs.Incomes.{sorted}
use Rattle.lapin_concord.proofs.Views.{requests_at}
use Rattle.lapin_effects.specs.Effects.{is_next}
use Rattle.lapin_verdicts.specs.Deeds.{Deed, Read, Sent, lefts, reads_of, deed_in, deeds}
use Rattle.lapin_verdicts.specs.Session.{past_of}
use Rattle.lapin_verdicts.specs.Verdicts.{at_place}
use Rattle.lapin_verdicts.proofs.Assembly.{as_handed, in_run}
use Rattle.lapin_verdicts.proofs.Numbering.{AreRest, is_content}
use Rattle.lapin_verdicts.proofs.Opens.{sent_methods}
use Rattle.lapin_verdicts.proofs.Owing.{lefts-append}
use Rattle.lapin_verdicts.proofs.Runs.{past-push, joined-push, deeds-push, split_at, at-first}
use Rattle.lapin_answers.specs.Closes.{ends, is_end_left, is_end_ok_as, ends_in, IsEndOf, IsEnded}
use Rattle.lapin_answers.specs.Truth.{EndIsAnswered}
use Rattle.lapin_answers.proofs.Closings.{closes_in_run}
use Rattle.lapin_answers.proofs.Ending.{Turn, Same, Calm, Ends, Breaks, Crosses, Gone, IdleIn, is_gone, ends_it, event_ending}
use Rattle.lapin_answers.proofs.Lists.{lefts_of}
use Rattle.lapin_answers.proofs.EndOks.{end_owed_in}
use Rattle.lapin_answers.proofs.Received.{unrefused, tickets_after}
use Rattle.lapin_answers.proofs.Tickets.{Answers, new_answer, none_answers, resolved_is, resolved_gives}

-- ---- what stands

pub record IsEndFor (h : History) (l : Left) (r : Request) : Type 0 where
  pub ticket : l.ticket ≡ r.ticket
  pub call : (n : ℕ) → r.ticket ≡ Some n → (c : ℕ) × (m : Method) × IsEndOf n c m h × (l.frame ≡ frame.Method c m)

abbrev pub AreEnd : History → Left → List Request → Type 0
AreEnd h l [] = Unit {0}
AreEnd h l (r ∷ []) = IsEndFor h l r
AreEnd h l _ = ⊥

pub record NoEnd (qs : List (ℕ × List Request)) (ms : List MethodEntry) (hs : List Left) : Type 0 where
  pub idle : IdleIn qs ms
  pub handed : hs ≡ []

pub record WaitsEnd (h : History) (qs : List (ℕ × List Request)) (ms : List MethodEntry) (hs : List Left) : Type 0 where
  pub close : Left
  pub waits : filter is_end_left (lefts_of ms) ≡ close ∷ []
  pub handed : hs ≡ []
  pub are : AreEnd h close (filter ends_it (requests_at 0 qs))

pub record LeftEnd (h : History) (qs : List (ℕ × List Request)) (ms : List MethodEntry) (hs : List Left) : Type 0 where
  pub close : Left
  pub waits : filter is_end_left (lefts_of ms) ≡ []
  pub handed : hs ≡ close ∷ []
  pub are : AreEnd h close (filter ends_it (requests_at 0 qs))

abbrev pub Stands : History → ConnectionPhase → List (ℕ × List Request) → List MethodEntry → List Left → Type 0
Stands h link.Open qs ms hs = NoEnd qs ms hs
Stands h (link.Closing stage.Queued) qs ms hs = WaitsEnd h qs ms hs
Stands h (link.Closing s) qs ms hs = LeftEnd h qs ms hs
Stands h link.Closed qs ms hs = Unit {0}
Stands h link.Lost qs ms hs = Unit {0}

gone_stands : (h : History) (k : ConnectionPhase) (qs : List (ℕ × List Request)) (ms : List MethodEntry) (hs : List Left) → is_gone k ≡ true → Stands h k qs ms hs
gone_stands h link.Closed qs ms hs g = tt
gone_stands h link.Lost qs ms hs g = tt
gone_stands h link.Open qs ms hs g = absurd cc
gone_stands h (link.Closing s) qs ms hs g = absurd cc

end_more : (n c : ℕ) (m : Method) (h : History) (e : Event) (x : Record) → IsEndOf n c m h → IsEndOf n c m (h ++ (e, x) ∷ [])
end_more n c m h e x k = record { before = k.before; behind = k.behind ++ (e, x) ∷ []; event = k.event; told = k.told; all = ap (λ v. v ++ (e, x) ∷ []) k.all ∙ append_assoc k.before ((k.event, k.told) ∷ k.behind) ((e, x) ∷ []); is = k.is }

are_more : (h : History) (l : Left) (rs : List Request) (e : Event) (x : Record) → AreEnd h l rs → AreEnd (h ++ (e, x) ∷ []) l rs
are_more h l [] e x a = tt
are_more h l (r ∷ []) e x a = record { ticket = a.ticket; call = λ n t. (let was = a.call n t in (was.0, was.1, end_more n was.0 was.1 h e x was.2, was.3)) }
are_more h l (r ∷ s ∷ rs) e x a = absurd a

stands_more : (h : History) (k : ConnectionPhase) (qs : List (ℕ × List Request)) (ms : List MethodEntry) (hs : List Left) (e : Event) (x : Record) → Stands h k qs ms hs → Stands (h ++ (e, x) ∷ []) k qs ms hs
stands_more h link.Open qs ms hs e x s = s
stands_more h (link.Closing stage.Queued) qs ms hs e x s = record { close = s.close; waits = s.waits; handed = s.handed; are = are_more h s.close (filter ends_it (requests_at 0 qs)) e x s.are }
stands_more h (link.Closing t) qs ms hs e x s = record { close = s.close; waits = s.waits; handed = s.handed; are = are_more h s.close (filter ends_it (requests_at 0 qs)) e x s.are }
stands_more h link.Closed qs ms hs e x s = tt
stands_more h link.Lost qs ms hs e x s = tt

-- ---- an event

turn_stands : (h : History) (e : Event) (x : Record) (k k' : ConnectionPhase) (qs qs' : List (ℕ × List Request)) (ms ms' : List MethodEntry) (hs : List Left) → Turn e x k k' qs qs' ms ms' → Stands h k qs ms hs → Stands (h ++ (e, x) ∷ []) k' qs' ms' hs
turn_stands h e x k k' qs qs' ms ms' hs (Same links requests methods) s = subst (λ y. Stands (h ++ (e, x) ∷ []) y qs' ms' hs) (sym links) (subst (λ y. Stands (h ++ (e, x) ∷ []) k y ms' hs) (sym requests) (subst (λ y. Stands (h ++ (e, x) ∷ []) k qs y hs) (sym methods) (stands_more h k qs ms hs e x s)))
turn_stands h e x k k' qs qs' ms ms' hs (Calm was now idle) s =
    let n : NoEnd qs ms hs = subst (λ y. Stands h y qs ms hs) was s in
    subst (λ y. Stands (h ++ (e, x) ∷ []) y qs' ms' hs) (sym now) (record { idle = idle n.idle; handed = n.handed })
turn_stands h e x k k' qs qs' ms ms' hs (Ends was now l r requests waits is) s =
    let n : NoEnd qs ms hs = subst (λ y. Stands h y qs ms hs) was s in
    let a : AreEnd (h ++ (e, x) ∷ []) l (r ∷ []) = record { ticket = is.ticket; call = λ t q. (let c = is.call t q in (c.0, c.1, record { before = h; behind = []; event = e; told = x; all = refl; is = c.2 }, c.3)) } in
    subst (λ y. Stands (h ++ (e, x) ∷ []) y qs' ms' hs) (sym now) (record { close = l; waits = waits; handed = n.handed; are = subst (AreEnd (h ++ (e, x) ∷ []) l) (sym requests) a })
turn_stands h e x k k' qs qs' ms ms' hs (Breaks was now l requests waits) s =
    let n : NoEnd qs ms hs = subst (λ y. Stands h y qs ms hs) was s in
    subst (λ y. Stands (h ++ (e, x) ∷ []) y qs' ms' hs) (sym now) (record { close = l; waits = waits; handed = n.handed; are = subst (AreEnd (h ++ (e, x) ∷ []) l) (sym requests) tt })
turn_stands h e x k k' qs qs' ms ms' hs (Crosses was now requests waits) s =
    let n : LeftEnd h qs ms hs = subst (λ y. Stands h y qs ms hs) was s in
    subst (λ y. Stands (h ++ (e, x) ∷ []) y qs' ms' hs) (sym now) (record { close = n.close; waits = waits ∙ n.waits; handed = n.handed; are = subst (λ y. AreEnd (h ++ (e, x) ∷ []) n.close (filter ends_it (requests_at 0 y))) (sym requests) (are_more h n.close (filter ends_it (requests_at 0 qs)) e x n.are) })
turn_stands h e x k k' qs qs' ms ms' hs (Gone now) s = gone_stands (h ++ (e, x) ∷ []) k' qs' ms' hs now

-- ---- a frame request

abbrev handed_ends : List Left → List Left
handed_ends ls = filter is_end_left ls

data Leaves (k k' : ConnectionPhase) (ws ws' hs hs' : List Left) : Type 0 where
  Other : (place : k' ≡ k) (waits : ws' ≡ ws) (out : hs' ≡ hs) → Leaves k k' ws ws' hs hs'
  Close : (l : Left) (place : k' ≡ link_close_sent k) (waits : ws ≡ l ∷ ws') (out : hs' ≡ hs ++ l ∷ []) → Leaves k k' ws ws' hs hs'

link_apart : (f : Frame) (k : ConnectionPhase) → ends f ≡ false → link_sent f k ≡ k
link_apart (frame.Method c (method.Connection (connection.Close code text class number))) k h = absurd cc
link_apart _ k h = refl

link_ended : (f : Frame) (k : ConnectionPhase) → ends f ≡ true → link_sent f k ≡ link_close_sent k
link_ended (frame.Method c (method.Connection (connection.Close code text class number))) k h = refl
link_ended _ k h = absurd cc

one_out : (ls : List Left) (l : Left) (v : Bool) → is_end_left l ≡ v → handed_ends (ls ++ l ∷ []) ≡ handed_ends ls ++ cond v (l ∷ []) []
one_out ls l v h = filter-append is_end_left ls (l ∷ []) ∙ ap (λ y. handed_ends ls ++ cond y (l ∷ []) []) h

other_out : (ls : List Left) (l : Left) → is_end_left l ≡ false → handed_ends (ls ++ l ∷ []) ≡ handed_ends ls
other_out ls l h = one_out ls l false h ∙ append-nil (handed_ends ls)

content_calm : (f : Frame) → is_content f ≡ true → ends f ≡ false
content_calm (frame.Method d m) h = absurd cc
content_calm (frame.Header d h) e = refl
content_calm (frame.Body d bytes) e = refl

abbrev link_after : Option Left → ConnectionPhase → ConnectionPhase
link_after None k = k
link_after (Some l) k = link_sent l.frame k

leaving : (n : ℕ) (t : ℕ → Bool) (ls : List Left) (rs : List RestEntry) (es : List MethodEntry) (ps : List Publish) (d : ℕ) (k : ConnectionPhase) → AreRest d rs → Leaves k (link_after (handed_of t rs es ps) k) (filter is_end_left (lefts_of es)) (filter is_end_left (lefts_of (left_of n t rs es ps).methods)) (handed_ends ls) (handed_ends (ls ++ left_alone (handed_of t rs es ps)))
leaving n t ls (f ∷ rs) es ps d k a = let calm = content_calm f.frame a.1 in Other (link_apart f.frame k calm) refl (other_out ls (left_rest f) calm)
leaving n t ls [] (m ∷ es) ps d k a = by (is_end_left (left_method m)) refl
  where
    l : Left
    l = left_method m

    by : (v : Bool) → is_end_left l ≡ v → Leaves k (link_sent l.frame k) (cond (is_end_left l) (l ∷ filter is_end_left (lefts_of es)) (filter is_end_left (lefts_of es))) (filter is_end_left (lefts_of es)) (handed_ends ls) (handed_ends (ls ++ l ∷ []))
    by true e = Close l (link_ended l.frame k e) (ap (λ v. cond v (l ∷ filter is_end_left (lefts_of es)) (filter is_end_left (lefts_of es))) e) (one_out ls l true e)
    by false e = Other (link_apart l.frame k e) (sym (ap (λ v. cond v (l ∷ filter is_end_left (lefts_of es)) (filter is_end_left (lefts_of es))) e)) (other_out ls l e)
leaving n t ls [] [] ps d k a = by (find (may_begin t) ps)
  where
    by : (q : Option Publish) → Leaves k (link_after (option_map left_publish q) k) [] [] (handed_ends ls) (handed_ends (ls ++ left_alone (option_map left_publish q)))
    by None = Other refl refl (ap handed_ends (append-nil ls))
    by (Some q) = Other refl refl (other_out ls (left_publish q) refl)

module _ (h : History) (e : Event) (x : Record) (qs : List (ℕ × List Request)) (ms ms' : List MethodEntry) (hs hs' : List Left) where
  none_waits : (l : Left) (ws : List Left) → filter is_end_left (lefts_of ms) ≡ l ∷ ws → filter is_end_left (lefts_of ms) ≡ [] → ⊥
  none_waits l ws a b = let w : l ∷ ws ≡ [] = sym a ∙ b in cc

  other_left : (k : ConnectionPhase) → filter is_end_left (lefts_of ms') ≡ filter is_end_left (lefts_of ms) → hs' ≡ hs → Stands h k qs ms hs → Stands (h ++ (e, x) ∷ []) k qs ms' hs'
  other_left link.Open w o s = record { idle = record { requests = s.idle.requests; waits = w ∙ s.idle.waits }; handed = o ∙ s.handed }
  other_left (link.Closing stage.Queued) w o s = record { close = s.close; waits = w ∙ s.waits; handed = o ∙ s.handed; are = are_more h s.close (filter ends_it (requests_at 0 qs)) e x s.are }
  other_left (link.Closing t) w o s = record { close = s.close; waits = w ∙ s.waits; handed = o ∙ s.handed; are = are_more h s.close (filter ends_it (requests_at 0 qs)) e x s.are }
  other_left link.Closed w o s = tt
  other_left link.Lost w o s = tt

  close_left : (k : ConnectionPhase) (l : Left) → filter is_end_left (lefts_of ms) ≡ l ∷ filter is_end_left (lefts_of ms') → hs' ≡ hs ++ l ∷ [] → Stands h k qs ms hs → Stands (h ++ (e, x) ∷ []) (link_close_sent k) qs ms' hs'
  close_left link.Open l w o s = absurd (none_waits l _ w s.idle.waits)
  close_left (link.Closing stage.Queued) l w o s =
      let y : l ∷ filter is_end_left (lefts_of ms') ≡ s.close ∷ [] = sym w ∙ s.waits in
      let first : l ≡ s.close = cc in
      let none : filter is_end_left (lefts_of ms') ≡ [] = cc in
      record { close = s.close; waits = none; handed = o ∙ (ap (λ v. v ++ l ∷ []) s.handed ∙ ap (λ v. v ∷ []) first); are = are_more h s.close (filter ends_it (requests_at 0 qs)) e x s.are }
  close_left (link.Closing t) l w o s = absurd (none_waits l _ w s.waits)
  close_left link.Closed l w o s = tt
  close_left link.Lost l w o s = tt

  left_stands : (k k' : ConnectionPhase) → Leaves k k' (filter is_end_left (lefts_of ms)) (filter is_end_left (lefts_of ms')) hs hs' → Stands h k qs ms hs → Stands (h ++ (e, x) ∷ []) k' qs ms' hs'
  left_stands k k' (Other place waits out) s = subst (λ y. Stands (h ++ (e, x) ∷ []) y qs ms' hs') (sym place) (other_left k waits out s)
  left_stands k k' (Close l place waits out) s = subst (λ y. Stands (h ++ (e, x) ∷ []) y qs ms' hs') (sym place) (close_left k l waits out s)

abbrev Standing : History → Wire → List Left → Type 0
Standing h b ls = Stands h b.link b.requests b.methods (handed_ends ls)

sent_requests : (o : Option Left) (b : Wire) → (sent o b).requests ≡ b.requests
sent_requests None b = refl
sent_requests (Some l) b = refl

sent_link : (o : Option Left) (b : Wire) → (sent o b).link ≡ link_after o b.link
sent_link None b = refl
sent_link (Some l) b = refl

next_standing : (d : ℕ) (t : ℕ → Bool) (h : History) (e : Event) (x : Record) (b : Wire) (ls : List Left) → AreRest d b.rest → Standing h b ls → Standing (h ++ (e, x) ∷ []) (after_handing t b) (ls ++ left_alone (handed_out t b))
next_standing d t h e x b ls rest s =
    let o : Option Left = handed_out t b in
    let v : Wire = with_lists (left_lists b.frame_max t (lists_of b)) b in
    let ms' : List MethodEntry = (left_of b.frame_max t b.rest b.methods b.publishes).methods in
    let hs' : List Left = handed_ends (ls ++ left_alone o) in
    let g : Stands (h ++ (e, x) ∷ []) (link_after o b.link) b.requests ms' hs' = left_stands h e x b.requests b.methods ms' (handed_ends ls) hs' b.link (link_after o b.link) (leaving b.frame_max t ls b.rest b.methods b.publishes d b.link rest) s in
    subst (λ y. Stands (h ++ (e, x) ∷ []) y (sent o v).requests (sent o v).methods hs') (sym (sent_link o v))
    (subst (λ y. Stands (h ++ (e, x) ∷ []) (link_after o b.link) y (sent o v).methods hs') (sym (sent_requests o v))
    (subst (λ y. Stands (h ++ (e, x) ∷ []) (link_after o b.link) b.requests y hs') (sym (sent_methods o v)) g))

-- ---- every joined run

lost_gone : (b : Wire) (r : Record) → is_gone (after_event b event.Lost r).link ≡ true
lost_gone b r = by (is_lost b.link) refl
  where
    shut : (l : ConnectionPhase) → is_lost l ≡ true → is_gone l ≡ true
    shut link.Lost h = refl
    shut _ h = absurd cc

    by : (v : Bool) → is_lost b.link ≡ v → is_gone (cond v b (down link.Lost b)).link ≡ true
    by true e = shut b.link e
    by false e = refl

module _ (n : ℕ) where
  abbrev see : History → Readings
  see h = readings_of (past n h).confirms (past n h).tickets

  abbrev on_event : History → Event → History
  on_event h e = h ++ (e, rec n h e) ∷ []

  abbrev At : History → List Left → Type 0
  At h ls = Standing h (past n h).wire ls

  wire-push : (h : History) (e : Event) → (past n (on_event h e)).wire ≡ after_event (past n h).wire e (rec n h e)
  wire-push h e = ap (λ (p : Past). p.wire) (past-push n h e (rec n h e))

  to_event : (h : History) (e : Event) (ls : List Left) → Standing (on_event h e) (after_event (past n h).wire e (rec n h e)) ls → At (on_event h e) ls
  to_event h e ls s = subst (λ b. Standing (on_event h e) b ls) (sym (wire-push h e)) s

  other_kept : (h : History) (e : Event) (ls : List Left) → is_next e ≡ false → At h ls → At (on_event h e) ls
  other_kept h e ls apart s = to_event h e ls (turn_stands h e (rec n h e) _ _ _ _ _ _ (handed_ends ls) (event_ending (past n h).wire (see h) e apart) s)

  next_kept : (h : History) (flow : Bool) (ls : List Left) (d : ℕ) → AreRest d (past n h).wire.rest → At h ls → At (on_event h (event.Next flow)) (ls ++ left_alone (handed flow (λ v. is_full v (past n h).confirms) (past n h).wire))
  next_kept h flow ls d rest s =
      let b : Wire = (past n h).wire in
      let r : Record = rec n h (event.Next flow) in
      let same : handed_out (began_on r) b ≡ handed flow (λ v. is_full v (past n h).confirms) b = as_handed (begins_on flow (λ v. is_full v (past n h).confirms) b) b in
      to_event h (event.Next flow) (ls ++ left_alone (handed flow (λ v. is_full v (past n h).confirms) b)) (subst (λ o. Standing (on_event h (event.Next flow)) (after_handing (began_on r) b) (ls ++ left_alone o)) same (next_standing d (began_on r) h (event.Next flow) r b ls rest s))

  abbrev InRun : Joint History → List Deed → Type 0
  InRun j ds = At j.session (lefts ds ++ j.up)

  same_run : (j : Joint History) (ds : List Deed) → InRun j ds → InRun j (ds ++ [])
  same_run j ds s = subst (InRun j) (sym (append-nil ds)) s

  calm : (e : Event) (j : Joint History) (ds : List Deed) → is_next e ≡ false → handed_by (by_history n) e j.session ≡ [] → InRun j ds → InRun (client (by_history n) e j) (ds ++ [])
  calm e j ds apart hand s = subst (InRun (client (by_history n) e j)) (sym (append-nil ds)) (subst (λ v. At (on_event j.session e) (lefts ds ++ v)) (sym (append-nil j.up) ∙ ap (λ v. j.up ++ v) (sym hand)) (other_kept j.session e (lefts ds ++ j.up) apart s))

  client_run : (e : Event) (j : Joint History) (ds : List Deed) → is_lawful e ≡ true → (d : ℕ) × AreRest d (past n j.session).wire.rest → InRun j ds → InRun (client (by_history n) e j) (ds ++ [])
  client_run (event.Next flow) j ds l k s =
      let o : Option Left = handed flow (λ d. is_full d (past n j.session).confirms) (past n j.session).wire in
      subst (InRun (client (by_history n) (event.Next flow) j)) (sym (append-nil ds)) (subst (At (on_event j.session (event.Next flow))) (append_assoc (lefts ds) j.up (left_alone o)) (next_kept j.session flow (lefts ds ++ j.up) k.0 k.1 s))
  client_run (event.Receive f) j ds l k s = absurd cc
  client_run event.Lost j ds l k s = absurd cc
  client_run (event.Call d a) j ds l k s = calm (event.Call d a) j ds refl refl s
  client_run (event.PollTicket d) j ds l k s = calm (event.PollTicket d) j ds refl refl s
  client_run (event.PollConfirm d) j ds l k s = calm (event.PollConfirm d) j ds refl refl s
  client_run (event.PollConsumer d) j ds l k s = calm (event.PollConsumer d) j ds refl refl s
  client_run (event.PollWait d) j ds l k s = calm (event.PollWait d) j ds refl refl s
  client_run (event.AsideTicket d) j ds l k s = calm (event.AsideTicket d) j ds refl refl s
  client_run (event.AsideConfirm d) j ds l k s = calm (event.AsideConfirm d) j ds refl refl s
  client_run (event.Acker d a) j ds l k s = calm (event.Acker d a) j ds refl refl s
  client_run (event.Delegate d) j ds l k s = calm (event.Delegate d) j ds refl refl s
  client_run (event.DropConsumer d) j ds l k s = calm (event.DropConsumer d) j ds refl refl s
  client_run event.NextJob j ds l k s = calm event.NextJob j ds refl refl s
  client_run (event.State d) j ds l k s = calm (event.State d) j ds refl refl s

  lost_run : (j : Joint History) (ds : List Deed) → InRun (after (by_history n) step.Lose j) ds
  lost_run j ds =
      let b' : Wire = (past n (on_event j.session event.Lost)).wire in
      gone_stands (on_event j.session event.Lost) b'.link b'.requests b'.methods (handed_ends (lefts ds ++ [])) (ap (λ (v : Wire). is_gone v.link) (wire-push j.session event.Lost) ∙ lost_gone (past n j.session).wire (rec n j.session event.Lost))

  step_run : (s : Step) (j : Joint History) (ds : List Deed) → (d : ℕ) × AreRest d (past n j.session).wire.rest → InRun j ds → InRun (after (by_history n) s j) (ds ++ deed_in s j)
  step_run (step.Client e) j ds k i = elim (is_lawful e) as (λ v. is_lawful e ≡ v → InRun (cond v (client (by_history n) e j) j) (ds ++ [])) [
    | true ↦ λ l. client_run e j ds l k i
    | false ↦ λ l. same_run j ds i
  ] refl
  step_run step.Read j ds k i = by j.up i
    where
      by : (ls : List Left) → InRun (record j { up = ls }) ds → InRun (read_first ls (record j { up = ls })) (ds ++ reads_of (front ls))
      by [] t = same_run (record j { up = [] }) ds t
      by (l ∷ ls) t = subst (At j.session) (sym (append_assoc (lefts ds) (l ∷ []) ls) ∙ ap (λ v. v ++ ls) (sym (lefts-append ds (Read l ∷ [])))) t
  step_run (step.Send f) j ds k i = elim (may j.broker f) as (λ v. InRun (cond v (send_down f j) j) (ds ++ cond v (Sent f ∷ []) [])) [
    | true ↦ subst (λ v. At j.session (v ++ j.up)) (sym (lefts-append ds (Sent f ∷ []) ∙ append-nil (lefts ds))) i
    | false ↦ same_run j ds i
  ]
  step_run step.Deliver j ds k i = by j.down
    where
      by : (fs : List Frame) → InRun (deliver_first (by_history n) fs (record j { down = fs })) (ds ++ [])
      by [] = same_run (record j { down = [] }) ds i
      by (f ∷ fs) = same_run (deliver_first (by_history n) (f ∷ fs) (record j { down = f ∷ fs })) ds (other_kept j.session (event.Receive f) (lefts ds ++ j.up) refl i)
  step_run step.Lose j ds k i = same_run (after (by_history n) step.Lose j) ds (lost_run j ds)

  first_run : InRun (joined_to n []) (deeds n [])
  first_run = record { idle = record { requests = refl; waits = refl }; handed = refl }

  from_run : 4096 ≤ n → (pre ss : List Step) → InRun (joined_to n pre) (deeds n pre) → InRun (joined_to n (pre ++ ss)) (deeds n (pre ++ ss))
  from_run r pre [] i = subst (λ v. InRun (joined_to n v) (deeds n v)) (sym (append-nil pre)) i
  from_run r pre (s ∷ ss) i =
      let one : InRun (joined_to n (pre ++ s ∷ [])) (deeds n (pre ++ s ∷ [])) = subst (λ v. InRun (joined_to n (pre ++ s ∷ [])) v) (sym (deeds-push n pre s)) (subst (λ j. InRun j (deeds n pre ++ deed_in s (joined_to n pre))) (sym (joined-push n pre s)) (step_run s (joined_to n pre) (deeds n pre) (in_run n 0 (omega (arith, r)) pre).contents i)) in
      subst (λ v. InRun (joined_to n v) (deeds n v)) (append_assoc pre (s ∷ []) ss) (from_run r (pre ++ s ∷ []) ss one)

-- ---- the law

abbrev is_end_down : DownOn DownF → Bool
is_end_down CloseOkD = true
is_end_down _ = false

end_kind : (c : ℕ) (x : BrokerFrame) → is_end_ok_as x ≡ true → is_end_down (down_kind c x) ≡ true
end_kind c broker.ConnectionCloseOk h = refl
end_kind c _ h = absurd cc

reply_not : (d : ℕ) (k : ReplyKind) (a : Answer) → is_end_down (income_as (incoming.Reply d k a)) ≡ false
reply_not d reply_kind.ChannelOpenOk a = refl
reply_not d _ a = refl

end_sorts : (i : Incoming) → is_end_down (income_as i) ≡ true → i ≡ incoming.ConnectionCloseOk
end_sorts incoming.ConnectionCloseOk h = refl
end_sorts (incoming.Reply d k a) h = let w : false ≡ true = sym (reply_not d k a) ∙ h in absurd cc
end_sorts _ h = absurd cc

none_open : {P : Type 0} (k : ℕ) → ticket_of None ≡ Some k → P
none_open k t = absurd cc

first_end : (k : ℕ) (rs : List Request) → ticket_of (first_request reply_kind.ConnectionCloseOk rs) ≡ Some k → (r : Request) × (qs : List Request) × (filter ends_it rs ≡ r ∷ qs) × (r.ticket ≡ Some k)
first_end k [] t = none_open k t
first_end k (r ∷ rs) t = by (first_end k rs) (ends_it r) refl t
  where
    by : (ticket_of (first_request reply_kind.ConnectionCloseOk rs) ≡ Some k → (r : Request) × (qs : List Request) × (filter ends_it rs ≡ r ∷ qs) × (r.ticket ≡ Some k)) → (v : Bool) → ends_it r ≡ v → ticket_of (cond v (Some r) (first_request reply_kind.ConnectionCloseOk rs)) ≡ Some k → (q : Request) × (qs : List Request) × (filter ends_it (r ∷ rs) ≡ q ∷ qs) × (q.ticket ≡ Some k)
    by go true e u = (r, filter ends_it rs, ap (λ v. cond v (r ∷ filter ends_it rs) (filter ends_it rs)) e, u)
    by go false e u = let g = go u in (g.0, g.1, ap (λ v. cond v (r ∷ filter ends_it rs) (filter ends_it rs)) e ∙ g.2, g.3)

its_end : (h : History) (l : Left) (rs : List Request) (r : Request) (qs : List Request) (k : ℕ) → AreEnd h l rs → rs ≡ r ∷ qs → r.ticket ≡ Some k → (l.ticket ≡ Some k) × ((c : ℕ) × (m : Method) × IsEndOf k c m h × (l.frame ≡ frame.Method c m))
its_end h l [] r qs k a e t = absurd cc
its_end h l (s ∷ []) r qs k a e t = let w : s ≡ r = cc in let u : s.ticket ≡ Some k = ap (λ (v : Request). v.ticket) w ∙ t in (a.ticket ∙ u, a.call k u)
its_end h l (s ∷ x ∷ rs) r qs k a e t = absurd a

module _ (n : ℕ) (big : 4096 ≤ n) (k : ℕ) (ss : List Step) (f : Frame) (fs : List Frame) (down_is : (joined_to n ss).down ≡ f ∷ fs) (ok : is_end_ok_as (broker_frame f) ≡ true) where
  abbrev Found : Type 0
  Found = (c : ℕ) × (m : Method) × IsEndOf k c m (joined_to n ss).session × IsEnded c k m f (deeds n ss)

  abbrev b : Wire
  b = (past_of n ss).wire

  abbrev hs : List Left
  hs = handed_ends (lefts (deeds n ss) ++ (joined_to n ss).up)

  found : (l : ConnectionPhase) → Stands (joined_to n ss).session l b.requests b.methods hs → is_up l ≡ false → is_gone l ≡ false → ticket_of (first_request reply_kind.ConnectionCloseOk (requests_of 0 b)) ≡ Some k → Found
  found l s up gone t =
      let c = closes_in_run n 0 big ss in
      let x = split_at (deeds n ss) c.came f fs (c.order ∙ ap (λ v. c.came ++ v) down_is) in
      let owed = end_owed_in n ss x.before x.behind f x.all ok in
      let rest : List Left = lefts (Sent f ∷ x.behind) ++ (joined_to n ss).up in
      let parts : hs ≡ ends_in x.before ++ handed_ends rest = ap (λ v. handed_ends (v ++ (joined_to n ss).up)) (ap lefts x.all ∙ lefts-append x.before (Sent f ∷ x.behind)) ∙ (ap handed_ends (append_assoc (lefts x.before) (lefts (Sent f ∷ x.behind)) (joined_to n ss).up) ∙ filter-append is_end_left (lefts x.before) rest) in
      by l s up gone x.before x.behind x.all owed (handed_ends rest) parts
    where
      by : (l : ConnectionPhase) → Stands (joined_to n ss).session l b.requests b.methods hs → is_up l ≡ false → is_gone l ≡ false → (before behind : List Deed) → deeds n ss ≡ before ++ Sent f ∷ behind → 1 ≤ length (ends_in before) → (rest : List Left) → hs ≡ ends_in before ++ rest → Found
      by link.Open s up gone before behind all owed rest parts = absurd cc
      by link.Closed s up gone before behind all owed rest parts = absurd cc
      by link.Lost s up gone before behind all owed rest parts = absurd cc
      by (link.Closing stage.Queued) s up gone before behind all owed rest parts =
          let none : 0 ≡ length (ends_in before) + length rest = ap length (sym s.handed ∙ parts) ∙ length-append (ends_in before) rest in
          let z : ⊥ = omega (arith, none, owed) in
          absurd z
      by (link.Closing u) s up gone before behind all owed rest parts =
          let r = first_end k (requests_of 0 b) t in
          let its = its_end (joined_to n ss).session s.close (filter ends_it (requests_of 0 b)) r.0 r.1 k s.are r.2 r.3 in
          let at : at_place 1 (ends_in before ++ rest) ≡ Some s.close = ap (at_place 1) (sym parts ∙ s.handed) in
          (its.1.0, its.1.1, its.1.2, record { before = before; behind = behind; close = s.close; all = all; is_ok = ok; was_read = at-first 1 (ends_in before) rest s.close at owed; ticket = its.0; method = its.1.3 })

-- the connection's close-ok is sorted as such
pub end_is : (f : Frame) → is_end_ok_as (broker_frame f) ≡ true → incoming_of f ≡ incoming.ConnectionCloseOk
end_is f ok = end_sorts (incoming_of f) (ap is_end_down (sym (sorted f)) ∙ end_kind (channel_of f) (broker_frame f) ok)

pub ended : (n : ℕ) → 4096 ≤ n → (ss : List Step) → EndIsAnswered n ss
ended n big ss k a f fs down_is ok was now =
    let b : Wire = (past_of n ss).wire in
    let ms : List TicketMark = (past_of n ss).tickets in
    let readings : Readings = readings_of (past_of n ss).confirms ms in
    let no : Record = refused (frame_class f) (frame_method f) in
    let sorts : incoming_of f ≡ incoming.ConnectionCloseOk = end_is f ok in
    let x : Record = rec n (joined_to n ss).session (event.Receive f) in
    let told : x ≡ incoming_record b readings no incoming.ConnectionCloseOk = ap (incoming_record b readings no) sorts in
    let fine : is_refusal (incoming_record b readings no incoming.ConnectionCloseOk) ≡ false = ap is_refusal (sym told) ∙ unrefused n ss f fs down_is big in
    let later : answer_of k (ms ++ incoming_tickets incoming.ConnectionCloseOk (incoming_record b readings no incoming.ConnectionCloseOk) b) ≡ Some (Ok a) = ap (λ v. answer_of k (ms ++ incoming_tickets incoming.ConnectionCloseOk v b)) (sym told) ∙ (ap (λ i. answer_of k (ms ++ incoming_tickets i x b)) (sym sorts) ∙ (ap (answer_of k) (sym (tickets_after n ss f fs down_is)) ∙ now)) in
    by b.link (stands_in n big ss) fine later
  where
    stands_in : (n : ℕ) → 4096 ≤ n → (ss : List Step) → InRun n (joined_to n ss) (deeds n ss)
    stands_in n big ss = from_run n big [] ss (first_run n)

    by : (l : ConnectionPhase) → Stands (joined_to n ss).session l (past_of n ss).wire.requests (past_of n ss).wire.methods (handed_ends (lefts (deeds n ss) ++ (joined_to n ss).up)) → is_refusal (cond (is_up l) (refused (frame_class f) (frame_method f)) (cond (receives_down l incoming.ConnectionCloseOk) record_.Received record_.Passed)) ≡ false → answer_of k ((past_of n ss).tickets ++ incoming_tickets incoming.ConnectionCloseOk (cond (is_up l) (refused (frame_class f) (frame_method f)) (cond (receives_down l incoming.ConnectionCloseOk) record_.Received record_.Passed)) (past_of n ss).wire) ≡ Some (Ok a) → (c : ℕ) × (m : Method) × IsEndOf k c m (joined_to n ss).session × IsEnded c k m f (deeds n ss)
    by link.Open s fine later = absurd cc
    by link.Closed s fine later = absurd (none_answers k (Ok a) (new_answer (past_of n ss).tickets [] (Ok a) refl k was later))
    by link.Lost s fine later = absurd (none_answers k (Ok a) (new_answer (past_of n ss).tickets [] (Ok a) refl k was later))
    by (link.Closing u) s fine later =
        let t : Option ℕ = ticket_of (first_request reply_kind.ConnectionCloseOk (requests_of 0 (past_of n ss).wire)) in
        let y : Answers k (resolved_with (Ok answer.Done) t) (Ok a) = new_answer (past_of n ss).tickets (resolved_with (Ok answer.Done) t) (Ok a) (resolved_gives t (Ok answer.Done)) k was later in
        found n big k ss f fs down_is ok (link.Closing u) s refl refl (resolved_is k t (Ok answer.Done) (Ok a) y).0
