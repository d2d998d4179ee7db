-- Every event of a session, and every step of a joined run, keeps the numbering.
use Rattle.std.proofs.Common.{◌≡◌, ◌∙◌, ℕ, ◌<◌, ◌==◌, Bool, true, false, cond, ◌&&◌, List, [], ◌∷◌, ◌++◌, Option, Some, None, inl, inr, refl, sym, ap, subst, append-nil, append_assoc, arith, eq-eqb}
use Rattle.std.specs.List.{find}
use Rattle.std.specs.Option.{option_map}
use Rattle.std.proofs.lemmas.Bool.Decides.{eqb_tells}
use Rattle.lapin_types.specs.declared.event.Event.{Event}
use Rattle.lapin_types.specs.declared.event.Event.TheVariants as event
use Rattle.lapin_types.specs.declared.record.Record.{Record}
use Rattle.lapin_types.specs.declared.leaving.Left.{Left}
use Rattle.lapin_types.specs.declared.leaving.Publish.{Publish}
use Rattle.lapin_types.specs.Types.{Frame}
use Rattle.lapin_rules.specs.declared.phases.ConnectionPhase.TheVariants as link
use Rattle.lapin_rules.specs.Phases.{is_up, is_lost, is_live, phase_in}
use Rattle.lapin_rules.specs.Ends.{down}
use Rattle.lapin_tables.specs.ByChannel.{at_channel}
use Rattle.lapin_rules.specs.Leaving.{handed_of, may_begin}
use Rattle.lapin_rules.specs.Frames.{left_publish, MethodEntry, RestEntry}
use Rattle.lapin_rules.specs.Handing.{handed, handed_out, began_on, frame_record, after_handing, left_marks}
use Rattle.lapin_rules.specs.Flow.{begins_on}
use Rattle.lapin_rules.specs.Readings.{Readings}
use Rattle.lapin_rules.specs.Wire.{Wire}
use Rattle.lapin_rules.specs.Events.{after_event, confirm_marks}
use Rattle.lapin_rules.specs.History.{History, Past, past, rec, longer, readings_of}
use Rattle.lapin_rules.specs.ConfirmReadings.{is_full}
use Rattle.lapin_verdicts.specs.Verdicts.{message_by, messages_in}
use Rattle.lapin_effects.specs.Effects.{is_next, publish_by, live}
use Rattle.lapin_effects.proofs.Events.{has_effect}
use Rattle.lapin_verdicts.proofs.Saying.{says_added}
use Rattle.lapin_broker.specs.Sends.{may}
use Rattle.lapin_joint.specs.declared.step.Step.{Step}
use Rattle.lapin_joint.specs.declared.step.Step.TheVariants as step
use Rattle.lapin_joint.specs.Joint.{Joint, is_lawful, handed_by, left_alone, client, read_first, send_down, deliver_first, after, joined_to}
use Rattle.lapin_machine.specs.Way.{by_history}
use Rattle.lapin_joint.specs.Order.{front}
use Rattle.lapin_verdicts.specs.Deeds.{Deed, Read, Sent, reads, reads_of, deed_in, deeds}
use Rattle.lapin_verdicts.specs.Session.{frames_of, handed_frames}
use Rattle.lapin_verdicts.proofs.TagCounts.{reads-append}
use Rattle.lapin_verdicts.proofs.Runs.{past-push, joined-push, deeds-push}
use Rattle.lapin_verdicts.proofs.Whole.{messages-append}
use Rattle.lapin_verdicts.proofs.Numbering.{Inv}
use Rattle.lapin_verdicts.proofs.Keeping.{kept}
use Rattle.lapin_verdicts.proofs.Begins.{left_frames, next_kept}
use Rattle.lapin_rules.proofs.PhaseLaws.{lost_down}
use Rattle.lapin_machine.proofs.Handed.{may_begin_found}

-- ---- a frame request: the record tells what left

find_same : (t : ℕ → Bool) (ps : List Publish) (q : Publish) → find (may_begin t) ps ≡ Some q → find (may_begin (λ c. c == q.channel)) ps ≡ Some q
find_same t [] q h = absurd cc
find_same t (x ∷ ps) q h = elim (t x.channel) as (λ v. t x.channel ≡ v → cond v (Some x) (find (may_begin t) ps) ≡ Some q → cond (x.channel == q.channel) (Some x) (find (may_begin (λ c. c == q.channel)) ps) ≡ Some q) [
  | true ↦ λ _ e. (let same : x ≡ q = cc in rw (eq-eqb x.channel q.channel (ap (λ (v : Publish). v.channel) same)) e)
  | false ↦ λ f e. (let off : (x.channel == q.channel) ≡ false = elim (eqb_tells x.channel q.channel) as (λ _. (x.channel == q.channel) ≡ false) [
    | inl z ↦ (let no : true ≡ false = sym (may_begin_found t ps q e) ∙ (ap t (sym z.1) ∙ f) in absurd cc)
    | inr z ↦ z.0
  ] in rw off (find_same t ps q e))
] refl h

find_never : (ps : List Publish) → find (may_begin (λ c. false)) ps ≡ None
find_never [] = refl
find_never (x ∷ ps) = find_never ps

as_left : (t : ℕ → Bool) (rs : List RestEntry) (es : List MethodEntry) (ps : List Publish) → handed_of (began_on (frame_record (handed_of t rs es ps))) rs es ps ≡ handed_of t rs es ps
as_left t (f ∷ rs) es ps = refl
as_left t [] (m ∷ es) ps = refl
as_left t [] [] ps = by (find (may_begin t) ps) refl
  where
    by : (o : Option Publish) → find (may_begin t) ps ≡ o → option_map left_publish (find (may_begin (began_on (frame_record (option_map left_publish (find (may_begin t) ps))))) ps) ≡ option_map left_publish (find (may_begin t) ps)
    by None e = rw e (ap (option_map left_publish) (find_never ps))
    by (Some q) e = rw e (ap (option_map left_publish) (find_same t ps q e))

pub as_handed : (t : ℕ → Bool) (b : Wire) → handed_out (began_on (frame_record (handed_out t b))) b ≡ handed_out t b
as_handed t b = as_left t b.rest b.methods b.publishes

-- ---- every event

module _ (n c : ℕ) where
  abbrev pub At : History → List Frame → Type 0
  At h fs = Inv n c (messages_in h) (past n h).wire (past n h).confirms fs

  abbrev on_event : History → Event → History
  on_event h e = h ++ (e, rec n h e) ∷ []

  abbrev see : History → Readings
  see h = readings_of (past n h).confirms (past n h).tickets

  grown : (h : History) (e : Event) (fs : List Frame) → Inv n c (messages_in h ++ message_by e (rec n h e)) (after_event (past n h).wire e (rec n h e)) ((past n h).confirms ++ confirm_marks (past n h).wire e (rec n h e)) fs → At (on_event h e) fs
  grown h e fs i =
      let there : past n (on_event h e) ≡ longer (past n h) e (rec n h e) = past-push n h e (rec n h e) in
      let says : messages_in (on_event h e) ≡ messages_in h ++ message_by e (rec n h e) = messages-append h ((e, rec n h e) ∷ []) ∙ ap (λ v. messages_in h ++ v) (append-nil (message_by e (rec n h e))) in
      subst (λ (p : Past). Inv n c (messages_in (on_event h e)) p.wire p.confirms fs) (sym there) (subst (λ v. Inv n c v (after_event (past n h).wire e (rec n h e)) ((past n h).confirms ++ confirm_marks (past n h).wire e (rec n h e)) fs) (sym says) i)

  pub other_kept : (h : History) (e : Event) (fs : List Frame) → is_next e ≡ false → At h fs → At (on_event h e) fs
  other_kept h e fs apart i = grown h e fs (subst (λ v. Inv n c (messages_in h ++ v) (after_event (past n h).wire e (rec n h e)) ((past n h).confirms ++ confirm_marks (past n h).wire e (rec n h e)) fs) (says_added (past n h).wire (see h) e)
      (kept n c (messages_in h) (publish_by (past n h).wire e (rec n h e)) (past n h).wire (after_event (past n h).wire e (rec n h e)) (past n h).confirms (confirm_marks (past n h).wire e (rec n h e)) fs (has_effect (past n h).wire (see h) e apart) i))

  pub next_event_kept : 8 < n → (h : History) (flow : Bool) (fs : List Frame) → At h fs → At (on_event h (event.Next flow)) (fs ++ left_frames (handed flow (λ d. is_full d (past n h).confirms) (past n h).wire))
  next_event_kept big h flow fs i =
      let b : Wire = (past n h).wire in
      let r : Record = rec n h (event.Next flow) in
      let k = next_kept n c (began_on r) (messages_in h) b (past n h).confirms fs big i in
      let same : handed_out (began_on r) b ≡ handed flow (λ d. is_full d (past n h).confirms) b = as_handed (begins_on flow (λ d. is_full d (past n h).confirms) b) b in
      grown h (event.Next flow) _ (subst (λ v. Inv n c v (after_handing (began_on r) b) ((past n h).confirms ++ left_marks (handed_out (began_on r) b)) (fs ++ left_frames (handed flow (λ d. is_full d (past n h).confirms) b))) (sym (append-nil (messages_in h))) (subst (λ o. Inv n c (messages_in h) (after_handing (began_on r) b) ((past n h).confirms ++ left_marks (handed_out (began_on r) b)) (fs ++ left_frames o)) same k))

  -- ---- every step

  frames-append : (xs ys : List Left) → frames_of (xs ++ ys) ≡ frames_of xs ++ frames_of ys
  frames-append [] ys = refl
  frames-append (x ∷ xs) ys = ap (λ v. x.frame ∷ v) (frames-append xs ys)

  abbrev InRun : Joint History → List Deed → Type 0
  InRun j ds = At j.session (reads ds ++ frames_of j.up)

  same_frames : (j : Joint History) (ds : List Deed) (h : History) (fs gs : List Frame) → fs ≡ gs → At h fs → At h gs
  same_frames j ds h fs gs e i = subst (At h) e i

  alone_frames : (o : Option Left) → frames_of (left_alone o) ≡ left_frames o
  alone_frames None = refl
  alone_frames (Some l) = refl

  calm : (e : Event) (j : Joint History) (ds : List Deed) → is_next e ≡ false → handed_by (by_history n) e j.session ≡ [] → InRun j ds → InRun (client (by_history n) e j) (ds ++ [])
  calm e j ds apart none i = subst (At (on_event j.session e)) (ap (λ v. reads v ++ frames_of j.up) (sym (append-nil ds)) ∙ ap (λ v. reads (ds ++ []) ++ frames_of v) (sym (append-nil j.up) ∙ ap (λ v. j.up ++ v) (sym none))) (other_kept j.session e (reads ds ++ frames_of j.up) apart i)

  client_run : 8 < n → (e : Event) (j : Joint History) (ds : List Deed) → is_lawful e ≡ true → InRun j ds → InRun (client (by_history n) e j) (ds ++ [])
  client_run big (event.Next flow) j ds l i =
      let o : Option Left = handed flow (λ d. is_full d (past n j.session).confirms) (past n j.session).wire in
      subst (At (on_event j.session (event.Next flow)))
      (append_assoc (reads ds) (frames_of j.up) (left_frames o) ∙ (ap (λ v. reads ds ++ v) (ap (λ v. frames_of j.up ++ v) (sym (alone_frames o)) ∙ sym (frames-append j.up (left_alone o))) ∙ ap (λ v. reads v ++ frames_of (j.up ++ left_alone o)) (sym (append-nil ds))))
      (next_event_kept big j.session flow (reads ds ++ frames_of j.up) i)
  client_run big (event.Receive f) j ds l i = absurd cc
  client_run big event.Lost j ds l i = absurd cc
  client_run big (event.Call d k) j ds l i = calm (event.Call d k) j ds refl refl i
  client_run big (event.PollTicket k) j ds l i = calm (event.PollTicket k) j ds refl refl i
  client_run big (event.PollConfirm k) j ds l i = calm (event.PollConfirm k) j ds refl refl i
  client_run big (event.PollConsumer k) j ds l i = calm (event.PollConsumer k) j ds refl refl i
  client_run big (event.PollWait k) j ds l i = calm (event.PollWait k) j ds refl refl i
  client_run big (event.AsideTicket k) j ds l i = calm (event.AsideTicket k) j ds refl refl i
  client_run big (event.AsideConfirm k) j ds l i = calm (event.AsideConfirm k) j ds refl refl i
  client_run big (event.Acker k a) j ds l i = calm (event.Acker k a) j ds refl refl i
  client_run big (event.Delegate k) j ds l i = calm (event.Delegate k) j ds refl refl i
  client_run big (event.DropConsumer k) j ds l i = calm (event.DropConsumer k) j ds refl refl i
  client_run big event.NextJob j ds l i = calm event.NextJob j ds refl refl i
  client_run big (event.State k) j ds l i = calm (event.State k) j ds refl refl i

  -- of a channel without a live opening nothing is said of what was handed out
  refit : (h : History) (fs gs : List Frame) → live c (past n h).wire ≡ false → At h fs → At h gs
  refit h fs gs off i = record {
    max = i.max;
    plain = i.plain;
    contents = i.contents;
    counted = i.counted;
    written = i.written;
    queue = i.queue;
    accepted = i.accepted;
    opens = i.opens;
    shut_down = i.shut_down;
    publishes = i.publishes;
    begun_rest = i.begun_rest;
    quiet = i.quiet;
    begun = i.begun;
    stands = λ l. (let w : true ≡ false = sym l ∙ off in absurd cc);
  }

  lost_dead : (h : History) → live c (past n (on_event h event.Lost)).wire ≡ false
  lost_dead h =
      let b : Wire = (past n h).wire in
      let there : (past n (on_event h event.Lost)).wire ≡ after_event b event.Lost (rec n h event.Lost) = ap (λ (p : Past). p.wire) (past-push n h event.Lost (rec n h event.Lost)) in
      ap (live c) there ∙ by (is_lost b.link) refl
    where
      by : (v : Bool) → is_lost (past n h).wire.link ≡ v → (is_up (cond v (past n h).wire (down link.Lost (past n h).wire)).link && is_live (phase_in (at_channel c (cond v (past n h).wire (down link.Lost (past n h).wire)).phases))) ≡ false
      by true e = rw (lost_down (past n h).wire.link e) refl
      by false e = refl

  same_run : (j : Joint History) (ds : List Deed) → InRun j ds → InRun j (ds ++ [])
  same_run j ds i = subst (λ v. At j.session (reads v ++ frames_of j.up)) (sym (append-nil ds)) i

  step_run : 8 < n → (s : Step) (j : Joint History) (ds : List Deed) → InRun j ds → InRun (after (by_history n) s j) (ds ++ deed_in s j)
  step_run big (step.Client e) j ds i = elim (is_lawful e) as (λ v. is_lawful e ≡ v → InRun (cond v (client (by_history n) e j) j) (ds ++ [])) [
    | true ↦ λ l. client_run big e j ds l i
    | false ↦ λ l. same_run j ds i
  ] refl
  step_run big step.Read j ds i = by j.up refl
    where
      by : (ls : List Left) → j.up ≡ ls → InRun (read_first ls j) (ds ++ reads_of (front ls))
      by [] e = same_run j ds i
      by (l ∷ ls) e = subst (At j.session) (ap (λ v. reads ds ++ frames_of v) e ∙ (sym (append_assoc (reads ds) (l.frame ∷ []) (frames_of ls)) ∙ ap (λ v. v ++ frames_of ls) (sym (reads-append ds (Read l ∷ []))))) i
  step_run big (step.Send f) j ds i = elim (may j.broker f) as (λ v. InRun (cond v (send_down f j) j) (ds ++ cond v (Sent f ∷ []) [])) [
    | true ↦ subst (λ v. At j.session (v ++ frames_of j.up)) (sym (reads-append ds (Sent f ∷ []) ∙ append-nil (reads ds))) i
    | false ↦ same_run j ds i
  ]
  step_run big step.Deliver j ds i = by j.down
    where
      by : (fs : List Frame) → InRun (deliver_first (by_history n) fs j) (ds ++ [])
      by [] = same_run j ds i
      by (f ∷ fs) = subst (λ v. At (on_event j.session (event.Receive f)) (reads v ++ frames_of j.up)) (sym (append-nil ds)) (other_kept j.session (event.Receive f) (reads ds ++ frames_of j.up) refl i)
  step_run big step.Lose j ds i = refit (on_event j.session event.Lost) (reads ds ++ frames_of j.up) (reads (ds ++ []) ++ []) (lost_dead j.session) (other_kept j.session event.Lost (reads ds ++ frames_of j.up) refl i)

  first_run : At [] []
  first_run = record {
    max = refl;
    plain = tt;
    contents = (0, tt);
    counted = refl;
    written = refl;
    queue = tt;
    accepted = λ k l. absurd cc;
    opens = λ k z le on w. (let e : ⊥ = omega (arith, z, le) in absurd e);
    shut_down = λ d. absurd cc;
    publishes = λ _. refl;
    begun_rest = λ _. refl;
    quiet = λ _. tt;
    begun = λ l. absurd cc;
    stands = λ l. absurd cc;
  }

  from_run : 8 < n → (pre ss : List Step) → InRun (joined_to n pre) (deeds n pre) → InRun (joined_to n (pre ++ ss)) (deeds n (pre ++ ss))
  from_run big pre [] i = subst (λ v. InRun (joined_to n v) (deeds n v)) (sym (append-nil pre)) i
  from_run big pre (s ∷ ss) i =
      let one : InRun (joined_to n (pre ++ s ∷ [])) (deeds n (pre ++ s ∷ [])) = subst (λ v. InRun (joined_to n (pre ++ s ∷ [])) v) (sym (deeds-push n pre s)) (subst (λ j. InRun j (deeds n pre ++ deed_in s (joined_to n pre))) (sym (joined-push n pre s)) (step_run big s (joined_to n pre) (deeds n pre) i)) in
      subst (λ v. InRun (joined_to n v) (deeds n v)) (append_assoc pre (s ∷ []) ss) (from_run big (pre ++ s ∷ []) ss one)

  -- in every joined run, whatever its broker does
  pub in_run : 8 < n → (ss : List Step) → At (joined_to n ss).session (handed_frames n ss)
  in_run big ss = from_run big [] ss first_run
