-- The message of a get's ticket is the content that the broker sent after its answer to that very get.
use Rattle.std.proofs.Common.{◌≡◌, ◌∙◌, ℕ, ◌-◌, ◌≤◌, ◌==◌, Bool, true, false, cond, List, [], ◌∷◌, ◌++◌, length, Option, Some, None, Result, Ok, Err, inl, inr, refl, sym, ap, subst, eq-eqb}
use Rattle.std.specs.List.{list_any, filter, fold}
use Rattle.std.specs.Option.{option_map}
use Rattle.std.proofs.lemmas.Bool.{and_parts}
use Rattle.std.proofs.lemmas.List.Sums.{fold-append}
use Rattle.lapin_methods.specs.declared.frame.ContentHeader.{ContentHeader}
use Rattle.lapin_values.specs.Properties.{Properties}
use Rattle.lapin_types.specs.declared.answer.Answer.{Answer}
use Rattle.lapin_types.specs.declared.answer.Answer.TheVariants as answer
use Rattle.lapin_types.specs.declared.event.Event.TheVariants as event
use Rattle.lapin_types.specs.declared.message.BasicGetMessage.{BasicGetMessage}
use Rattle.lapin_types.specs.declared.record.Record.{Record}
use Rattle.lapin_types.specs.declared.record.Record.TheVariants as record_
use Rattle.lapin_types.specs.Types.{Frame, Method, Error}
use Rattle.lapin_types.specs.Types.frame
use Rattle.lapin_content.specs.declared.start.Start.{Start as Beginning}
use Rattle.lapin_content.specs.declared.start.Start.TheVariants as start
use Rattle.lapin_content.specs.declared.start.Whole.{Whole as Arrived}
use Rattle.lapin_content.specs.Contents.{Begun, Expected, front_waits, front_takes, waits_for, takes_body, has_place_for, is_unbegun, begun_with, grown_by, grown, if_whole, is_zero, lacked, whole_with, heard_header, heard_body, refused_header, refused_body}
use Rattle.lapin_content.specs.Channels.{expected_on}
use Rattle.lapin_rules.specs.declared.broker_frames.ContentPart.{ContentPart}
use Rattle.lapin_rules.specs.declared.broker_frames.ContentPart.TheVariants as part
use Rattle.lapin_rules.specs.declared.broker_frames.Incoming.{Incoming}
use Rattle.lapin_rules.specs.declared.broker_frames.Incoming.TheVariants as incoming
use Rattle.lapin_rules.specs.Content.{next_acker, got_message, start_tickets, whole_tickets, whole_in, part_tickets, receives_part}
use Rattle.lapin_rules.specs.History.{rec, readings_of}
use Rattle.lapin_rules.specs.Incoming.{incoming_of, frame_class, frame_method}
use Rattle.lapin_rules.specs.Readings.{Readings}
use Rattle.lapin_rules.specs.Receiving.{incoming_record, incoming_tickets}
use Rattle.lapin_rules.specs.TicketReadings.{TicketMark, gives, answer_of}
use Rattle.lapin_rules.specs.Unexpected.{refused}
use Rattle.lapin_rules.specs.Wire.{Wire, state_of, receives_on}
use Rattle.lapin_broker.specs.Frames.{channel_of}
use Rattle.lapin_joint.specs.declared.step.Step.{Step}
use Rattle.lapin_joint.specs.declared.step.Step.TheVariants as step
use Rattle.lapin_joint.specs.Joint.{joined_to}
use Rattle.lapin_concord.specs.Refusals.{is_refusal}
use Rattle.lapin_verdicts.specs.Deeds.{deeds, last_opening, sents}
use Rattle.lapin_verdicts.specs.InStep.{is_frame_on}
use Rattle.lapin_verdicts.specs.Messages.{Start, Get, Whole, got, sent_after}
use Rattle.lapin_verdicts.specs.Session.{past_of}
use Rattle.lapin_verdicts.specs.Verdicts.{at_place}
use Rattle.lapin_answers.specs.Calls.{IsCallOf}
use Rattle.lapin_answers.specs.Replies.{IsGot}
use Rattle.lapin_answers.proofs.Getting.{on_way, whole_now, header_whole, body_whole, first_stays}
use Rattle.lapin_answers.proofs.Gets.{Kind, AsHeader, AsBody, AsGetOk, AsDeliver, AsReturn, AsOther, sort_kind, Getting, nothing_sent}
use Rattle.lapin_answers.proofs.GetLaw.{carried_in}
use Rattle.lapin_answers.proofs.GetMarks.{WholeGet, whole_get, message_comes, tickets_plain, plain_gives}
use Rattle.lapin_answers.proofs.GetRun.{PartComes, part_heard, unbegun_none}
use Rattle.lapin_answers.proofs.Received.{unrefused, tickets_after, none_after}
use Rattle.lapin_answers.proofs.Tickets.{Answers, new_answer, none_answers, resolved_gives}

-- what is said of a get that is resolved with a message
abbrev pub Got : ℕ → ℕ → List Step → BasicGetMessage → Type 0
Got n k ss message = (c : ℕ) × (m : Method) × IsCallOf k c m (joined_to n ss).session × IsGot c k m message (last_opening c (deeds n ss))

-- a content that becomes whole with this frame
got_whole : (n k c acker : ℕ) (ss : List Step) (e : Expected) (p : Properties) (bytes : List ℕ) (f : Frame) (fs : List Frame) (message : BasicGetMessage) → channel_of f ≡ c → (w : WholeGet k e p bytes c acker message) → Getting c k (joined_to n ss).session (Get w.tag w.redelivered w.exchange w.key w.count) e.begun (f ∷ fs) (last_opening c (deeds n ss)) → ((s : Start) → sent_after (on_way s e.begun) f ≡ whole_now s p bytes) → Got n k ss message
got_whole n k c acker ss e p bytes f fs message on w g step =
    let s : Start = Get w.tag w.redelivered w.exchange w.key w.count in
    let whole : Whole = record { start = s; properties = p; payload = bytes } in
    let way : sents g.replied.behind ≡ g.came ++ f ∷ filter (is_frame_on c) fs = g.way ∙ ap (λ v. g.came ++ cond v (f ∷ filter (is_frame_on c) fs) (filter (is_frame_on c) fs)) (eq-eqb (channel_of f) c on) in
    let sent : fold sent_after nothing_sent (g.reply ∷ sents g.replied.behind) ≡ fold sent_after (whole_now s p bytes) (filter (is_frame_on c) fs) =
    ap (λ v. fold sent_after nothing_sent (g.reply ∷ v)) way ∙ (fold-append sent_after (sent_after nothing_sent g.reply) g.came (f ∷ filter (is_frame_on c) fs) ∙ (ap (λ v. fold sent_after (sent_after v f) (filter (is_frame_on c) fs)) g.far ∙ ap (λ v. fold sent_after v (filter (is_frame_on c) fs)) (step s))) in (
      c,
      g.method_,
      g.call,
      record {
        reply = g.reply;
        replied = g.replied;
        start = s;
        starts = g.starts;
        is_its = refl;
        whole = whole;
        content = ap (λ v. at_place 1 v.wholes) sent ∙ first_stays (filter (is_frame_on c) fs) s p bytes;
        carries = w.is ∙ ap (λ (v : BasicGetMessage). got v.delivery.acker whole) (sym w.is);
      },
    )

-- ---- what a part does to tickets

part_marks : (c : ℕ) (p : ContentPart) (i : Incoming) (x : Record) (b : Wire) → i ≡ incoming.Content c p → x ≡ record_.Received → incoming_tickets i x b ≡ part_tickets c p b
part_marks c p i x b is r = ap (λ v. incoming_tickets v x b) is ∙ ap (λ v. incoming_tickets (incoming.Content c p) v b) r

start_gives : (c acker : ℕ) (w : Arrived) → list_any gives (start_tickets c acker w.start w) ≡ false
start_gives c acker w = by w.start
  where
    by : (s : Beginning) → list_any gives (start_tickets c acker s w) ≡ false
    by (start.Get t tag exchange key redelivered count) = resolved_gives t (Ok (answer.Got (Some (got_message c acker tag exchange key redelivered count w))))
    by (start.Deliver consumer tag exchange key redelivered) = refl
    by (start.Return code text exchange key) = refl

whole_gives : (c acker : ℕ) (o : Option Arrived) → list_any gives (whole_tickets c acker o) ≡ false
whole_gives c acker None = refl
whole_gives c acker (Some w) = start_gives c acker w

-- the content that a header makes whole
header_makes : (hd : ContentHeader) (e : Expected) (es : List Expected) → waits_for hd.class_id e ≡ true → whole_in (heard_header hd (e ∷ es)) ≡ cond (hd.body_size == 0) (Some (record { start = e.start; properties = hd.properties; payload = [] })) None
header_makes hd e es w = ap (λ v. whole_in (cond v (Ok (if_whole (begun_with hd e))) (Err (refused_header hd)))) w

body_makes : (bytes : List ℕ) (e : Expected) (es : List Expected) (g : Begun) → e.begun ≡ Some g → takes_body bytes e ≡ true → whole_in (heard_body bytes (e ∷ es)) ≡ cond ((g.left - length bytes) == 0) (Some (record { start = e.start; properties = g.properties; payload = g.bytes ++ bytes })) None
body_makes bytes e es g q w = ap (λ v. whole_in (cond v (Ok (if_whole (grown_by bytes e))) (Err refused_body))) w ∙ ap (λ v. cond (is_zero (lacked (option_map (grown bytes) v))) (whole_with e.start (option_map (grown bytes) v)) None) q

-- ---- the law

module _ (n : ℕ) (big : 4096 ≤ n) (k : ℕ) (ss : List Step) (message : BasicGetMessage) (was : answer_of k (past_of n ss).tickets ≡ None) (now : answer_of k (past_of n (ss ++ step.Deliver ∷ [])).tickets ≡ Some (Ok (answer.Got (Some message)))) where
  abbrev b : Wire
  b = (past_of n ss).wire

  abbrev y : Result Answer Error
  y = Ok (answer.Got (Some message))

  nothing : (joined_to n ss).down ≡ [] → Got n k ss message
  nothing down = let w : None ≡ Some y = sym was ∙ (ap (answer_of k) (sym (none_after n ss down)) ∙ now) in absurd cc

  module _ (f : Frame) (fs : List Frame) (down : (joined_to n ss).down ≡ f ∷ fs) where
    abbrev x : Record
    x = rec n (joined_to n ss).session (event.Receive f)

    abbrev see : Readings
    see = readings_of (past_of n ss).confirms (past_of n ss).tickets

    -- these are the marks that come
    comes : (xs : List TicketMark) → incoming_tickets (incoming_of f) x b ≡ xs → list_any gives xs ≡ false → Answers k xs y
    comes xs is plain = new_answer (past_of n ss).tickets xs y plain k was (ap (λ v. answer_of k ((past_of n ss).tickets ++ v)) (sym is) ∙ (ap (answer_of k) (sym (tickets_after n ss f fs down)) ∙ now))

    no_marks : incoming_tickets (incoming_of f) x b ≡ [] → Got n k ss message
    no_marks is = absurd (none_answers k y (comes [] is refl))

    -- a part of a content
    part_comes : (c : ℕ) (p : ContentPart) → incoming_of f ≡ incoming.Content c p → (x ≡ record_.Received → receives_part c p b ≡ true → Got n k ss message) → Got n k ss message
    part_comes c p is heard = by (part_heard c p (frame_class f) (frame_method f) b see (ap (λ v. is_refusal (incoming_record b see (refused (frame_class f) (frame_method f)) v)) (sym is) ∙ unrefused n ss f fs down big))
      where
        same : x ≡ incoming_record b see (refused (frame_class f) (frame_method f)) (incoming.Content c p)
        same = ap (incoming_record b see (refused (frame_class f) (frame_method f))) is

        by : PartComes c p b (incoming_record b see (refused (frame_class f) (frame_method f)) (incoming.Content c p)) → Got n k ss message
        by (inl q) = heard (same ∙ q.received) q.may
        by (inr q) = no_marks (ap (λ v. incoming_tickets (incoming_of f) v b) (same ∙ q.0))

    -- a content that its part makes whole or not
    whole_by_part : (c : ℕ) (p : ContentPart) (e : Expected) (more : List Expected) (q : Properties) (bytes : List ℕ) (done : Bool) → incoming_of f ≡ incoming.Content c p → x ≡ record_.Received → channel_of f ≡ c → expected_on c b.contents ≡ e ∷ more → part_tickets c p b ≡ whole_tickets c (next_acker b.deliveries) (cond done (Some (record { start = e.start; properties = q; payload = bytes })) None) → (done ≡ true → (s : Start) → sent_after (on_way s e.begun) f ≡ whole_now s q bytes) → Got n k ss message
    whole_by_part c p e more q bytes false is r on front marks step = no_marks (part_marks c p (incoming_of f) x b is r ∙ marks)
    whole_by_part c p e more q bytes true is r on front marks step =
        let a : Answers k (start_tickets c (next_acker b.deliveries) e.start (record { start = e.start; properties = q; payload = bytes })) y = comes _ (part_marks c p (incoming_of f) x b is r ∙ marks) (start_gives c (next_acker b.deliveries) (record { start = e.start; properties = q; payload = bytes })) in
        let w = whole_get k e q bytes c (next_acker b.deliveries) message a in
        let g = (carried_in n c big ss).gets e more k w.tag w.exchange w.key w.redelivered w.count front w.starts in
        got_whole n k c (next_acker b.deliveries) ss e q bytes f fs message on w (subst (λ v. Getting c k (joined_to n ss).session (Get w.tag w.redelivered w.exchange w.key w.count) e.begun v (last_opening c (deeds n ss))) down g) (step refl)

    header_case : (d : ℕ) (hd : ContentHeader) → f ≡ frame.Header d hd → Got n k ss message
    header_case d hd is = part_comes d (part.Header hd) (ap incoming_of is) (λ r may. by r (expected_on d b.contents) refl (and_parts (receives_on (state_of d b)) (front_waits hd.class_id (expected_on d b.contents)) may).1)
      where
        by : x ≡ record_.Received → (es : List Expected) → expected_on d b.contents ≡ es → front_waits hd.class_id es ≡ true → Got n k ss message
        by r [] q w = absurd cc
        by r (e ∷ es) q w =
            let unbegun : e.begun ≡ None = unbegun_none e.begun (and_parts (is_unbegun e.begun) (e.class_id == hd.class_id) w).0 in
            whole_by_part d (part.Header hd) e es hd.properties [] (hd.body_size == 0) (ap incoming_of is) r (ap channel_of is) q
            (ap (λ v. whole_tickets d (next_acker b.deliveries) (whole_in (heard_header hd v))) q ∙ ap (whole_tickets d (next_acker b.deliveries)) (header_makes hd e es w))
            (λ z s. ap (sent_after (on_way s e.begun)) is ∙ (ap (λ v. sent_after (on_way s v) (frame.Header d hd)) unbegun ∙ header_whole s d hd z))

    body_case : (d : ℕ) (bytes : List ℕ) → f ≡ frame.Body d bytes → Got n k ss message
    body_case d bytes is = part_comes d (part.Body bytes) (ap incoming_of is) (λ r may. by r (expected_on d b.contents) refl (and_parts (receives_on (state_of d b)) (front_takes bytes (expected_on d b.contents)) may).1)
      where
        begun : x ≡ record_.Received → (e : Expected) (es : List Expected) → expected_on d b.contents ≡ e ∷ es → takes_body bytes e ≡ true → (g : Option Begun) → e.begun ≡ g → Got n k ss message
        begun r e es q w None z = let u : false ≡ true = ap (has_place_for bytes) (sym z) ∙ w in absurd cc
        begun r e es q w (Some g) z =
            whole_by_part d (part.Body bytes) e es g.properties (g.bytes ++ bytes) ((g.left - length bytes) == 0) (ap incoming_of is) r (ap channel_of is) q
            (ap (λ v. whole_tickets d (next_acker b.deliveries) (whole_in (heard_body bytes v))) q ∙ ap (whole_tickets d (next_acker b.deliveries)) (body_makes bytes e es g z w))
            (λ o s. ap (sent_after (on_way s e.begun)) is ∙ (ap (λ v. sent_after (on_way s v) (frame.Body d bytes)) z ∙ body_whole s d g bytes (ap (has_place_for bytes) (sym z) ∙ w) o))

        by : x ≡ record_.Received → (es : List Expected) → expected_on d b.contents ≡ es → front_takes bytes es ≡ true → Got n k ss message
        by r [] q w = absurd cc
        by r (e ∷ es) q w = begun r e es q w e.begun refl

    by_frame : Kind f → Got n k ss message
    by_frame (AsHeader d hd is) = header_case d hd is
    by_frame (AsBody d bytes is) = body_case d bytes is
    by_frame (AsGetOk d tag redelivered exchange key count is) = part_comes d (part.GetOk (start.Get None tag exchange key redelivered count)) (ap incoming_of is) (λ r may. no_marks (part_marks d (part.GetOk (start.Get None tag exchange key redelivered count)) (incoming_of f) x b (ap incoming_of is) r))
    by_frame (AsDeliver d tag number redelivered exchange key is) = part_comes d (part.Deliver tag (start.Deliver None number exchange key redelivered)) (ap incoming_of is) (λ r may. no_marks (part_marks d (part.Deliver tag (start.Deliver None number exchange key redelivered)) (incoming_of f) x b (ap incoming_of is) r))
    by_frame (AsReturn d code text exchange key is) = part_comes d (part.Return (start.Return code text exchange key)) (ap incoming_of is) (λ r may. no_marks (part_marks d (part.Return (start.Return code text exchange key)) (incoming_of f) x b (ap incoming_of is) r))
    by_frame (AsOther none quiet m) =
        let plain = tickets_plain (incoming_of f) x b (unrefused n ss f fs down big) quiet in
        absurd (message_comes k (incoming_tickets (incoming_of f) x b) message (comes (incoming_tickets (incoming_of f) x b) refl (plain_gives (incoming_tickets (incoming_of f) x b) plain)) plain)

  by_down : (fs : List Frame) → (joined_to n ss).down ≡ fs → Got n k ss message
  by_down [] e = nothing e
  by_down (f ∷ fs) e = by_frame f fs e (sort_kind f)

-- a get's ticket that is resolved with a message carries the content that was sent after its answer
pub got_message_is : (n : ℕ) → 4096 ≤ n → (k : ℕ) (ss : List Step) (message : BasicGetMessage) → answer_of k (past_of n ss).tickets ≡ None → answer_of k (past_of n (ss ++ step.Deliver ∷ [])).tickets ≡ Some (Ok (answer.Got (Some message))) → Got n k ss message
got_message_is n big k ss message was now = by_down n big k ss message was now (joined_to n ss).down refl
