-- What other laws say of a joined run after any steps, as it is used here.
use Rattle.std.proofs.Common.{◌≡◌, ◌∙◌, ℕ, ◌≤◌, Bool, true, false, cond, ◌||◌, List, [], ◌∷◌, ◌++◌, zip, refl, sym, ap, subst, append-nil, append_assoc}
use Rattle.std.specs.List.{list_any}
use Rattle.std.proofs.lemmas.List.Folds.{list_any-append}
use Rattle.lapin_types.specs.declared.event.Event.{Event}
use Rattle.lapin_types.specs.declared.event.Event.TheVariants as event
use Rattle.lapin_types.specs.declared.record.Record.{Record}
use Rattle.lapin_types.specs.declared.leaving.Left.{Left}
use Rattle.lapin_types.specs.Types.{Frame}
use Rattle.lapin_content.specs.Channels.{expected_on}
use Rattle.lapin_consumer.specs.Follows.{Follows}
use Rattle.lapin_broker.specs.Sends.{may}
use Rattle.lapin_rules.specs.Events.{delivery_marks}
use Rattle.lapin_rules.specs.History.{History, Past, longer, past_on, past, rec, run_from, run}
use Rattle.lapin_rules.specs.Phases.{is_up}
use Rattle.lapin_rules.specs.Wire.{Wire}
use Rattle.lapin_machine.specs.Way.{by_history}
use Rattle.lapin_machine.specs.World.{new_world}
use Rattle.lapin_joint.proofs.Alike.{new_alike}
use Rattle.lapin_joint.proofs.Steps.{reports-push}
use Rattle.lapin_joint.specs.declared.step.Step.{Step}
use Rattle.lapin_joint.specs.declared.step.Step.TheVariants as step
use Rattle.lapin_joint.specs.Joint.{Joint, new_joint, is_lawful, client, read_first, send_down, deliver_first, after, run as run_joint, reports, report, deliver_report, joined_to}
use Rattle.lapin_laws.specs.Consumers.{deliveries_on, deliveries_history, consumer_history}
use Rattle.lapin_laws.proofs.Subscriptions.{consumers_after}
use Rattle.lapin_laws.proofs.Traces.{stands_after}
use Rattle.lapin_concord.specs.Held.{Held, IsOneContent}
use Rattle.lapin_concord.specs.Refusals.{is_refusal, reports_refusal}
use Rattle.lapin_concord.proofs.Laws.{alike_run, none_refused}
use Rattle.lapin_concord.proofs.Running.{sound_run, new_sound}
use Rattle.lapin_verdicts.specs.Session.{past_of}
use Rattle.lapin_effects.specs.Effects.{hears}
use Rattle.lapin_verdicts.proofs.Together.{in_step}
use Rattle.lapin_verdicts.proofs.Unread.{is_unread}
use Rattle.lapin_messages.specs.Deliveries.{marks_of}
use Rattle.lapin_messages.proofs.Subscriptions.{Shows}
use Rattle.lapin_rules.proofs.PhaseLaws.{up_open}

-- ---- a joined run's session is a run of its events

zipped : (n : ℕ) (h : History) (es : List Event) (e : Event) → zip (es ++ e ∷ []) (run_from n h (es ++ e ∷ [])) ≡ zip es (run_from n h es) ++ (e, rec n (h ++ zip es (run_from n h es)) e) ∷ []
zipped n h [] e = ap (λ k. (e, rec n k e) ∷ []) (sym (append-nil h))
zipped n h (x ∷ es) e =
    let r : Record = rec n h x in
    let h' : History = h ++ (x, r) ∷ [] in
    ap (λ k. (x, r) ∷ k) (zipped n h' es e ∙ ap (λ k. zip es (run_from n h' es) ++ (e, rec n k e) ∷ []) (append_assoc h ((x, r) ∷ []) (zip es (run_from n h' es))))

record AsRun (n : ℕ) (h : History) : Type 0 where
  events : List Event
  is : h ≡ zip events (run n events)

as-push : (n : ℕ) (h : History) (e : Event) → AsRun n h → AsRun n (h ++ (e, rec n h e) ∷ [])
as-push n h e a = record { events = a.events ++ e ∷ []; is = ap (λ k. k ++ (e, rec n k e) ∷ []) a.is ∙ sym (zipped n [] a.events e) }

as_after : (n : ℕ) (s : Step) (j : Joint History) → AsRun n j.session → AsRun n (after (by_history n) s j).session
as_after n (step.Client e) j a = elim (is_lawful e) as (λ v. AsRun n (cond v (client (by_history n) e j) j).session) [ true ↦ as-push n j.session e a | false ↦ a ]
as_after n step.Read j a = by j.up
  where
    by : (ls : List Left) → AsRun n (read_first ls j).session
    by [] = a
    by (l ∷ ls) = a
as_after n (step.Send f) j a = elim (may j.broker f) as (λ v. AsRun n (cond v (send_down f j) j).session) [ true ↦ a | false ↦ a ]
as_after n step.Deliver j a = by j.down
  where
    by : (fs : List Frame) → AsRun n (deliver_first (by_history n) fs j).session
    by [] = a
    by (f ∷ fs) = as-push n j.session (event.Receive f) a
as_after n step.Lose j a = as-push n j.session event.Lost a

as_run : (n : ℕ) (ss : List Step) (j : Joint History) → AsRun n j.session → AsRun n (run_joint (by_history n) ss j).session
as_run n [] j a = a
as_run n (s ∷ ss) j a = as_run n ss (after (by_history n) s j) (as_after n s j a)

-- ---- its consumers

on-push : (p : Past) (h : History) (e : Event) (r : Record) → deliveries_on p (h ++ (e, r) ∷ []) ≡ deliveries_on p h ++ delivery_marks (past_on p h).wire e r
on-push p [] e r = append-nil (delivery_marks p.wire e r)
on-push p (x ∷ h) e r = ap (λ v. delivery_marks p.wire x.0 x.1 ++ v) (on-push (longer p x.0 x.1) h e r) ∙ sym (append_assoc (delivery_marks p.wire x.0 x.1) (deliveries_on (longer p x.0 x.1) h) (delivery_marks (past_on (longer p x.0 x.1) h).wire e r))

pub history-push : (n : ℕ) (h : History) (e : Event) (r : Record) → deliveries_history n (h ++ (e, r) ∷ []) ≡ deliveries_history n h ++ delivery_marks (past n h).wire e r
history-push n h e r = on-push (past n []) h e r

pub shows_at : (n : ℕ) (ss : List Step) → Shows (marks_of n ss) (past_of n ss).wire.deliveries.subscriptions
shows_at n ss =
    let a : AsRun n (joined_to n ss).session = as_run n ss (new_joint [] n) (record { events = []; is = refl }) in
    let P : Wire → Type 0 = λ b. Follows (consumer_history n (zip a.events (run n a.events))) b.deliveries.subscriptions in
    let Q : History → Type 0 = λ h. Follows (consumer_history n h) (past n h).wire.deliveries.subscriptions in
    (subst Q (sym a.is) (subst P (stands_after n a.events).wire (consumers_after n a.events))).consumers

-- ---- no frame that comes is refused

pub unrefused : (n : ℕ) → 4096 ≤ n → (ss : List Step) (f : Frame) (way : List Frame) → (joined_to n ss).down ≡ f ∷ way → is_refusal (rec n (joined_to n ss).session (event.Receive f)) ≡ false
unrefused n most ss f way down =
    let all : list_any reports_refusal (reports (by_history n) ss (new_joint [] n) ++ report (by_history n) step.Deliver (joined_to n ss) ∷ []) ≡ false = sym (ap (list_any reports_refusal) (reports-push (by_history n) ss step.Deliver (new_joint [] n))) ∙ none_refused n (ss ++ step.Deliver ∷ []) most in
    let last : (list_any reports_refusal (reports (by_history n) ss (new_joint [] n)) || (reports_refusal (report (by_history n) step.Deliver (joined_to n ss)) || false)) ≡ false = sym (list_any-append reports_refusal (reports (by_history n) ss (new_joint [] n)) (report (by_history n) step.Deliver (joined_to n ss) ∷ [])) ∙ all in
    sym (ap (λ fs. reports_refusal (deliver_report (by_history n) fs (joined_to n ss).session)) down) ∙ second _ _ last
  where
    second : (u v : Bool) → (u || (v || false)) ≡ false → v ≡ false
    second true v h = absurd cc
    second false true h = absurd cc
    second false false h = refl

-- ---- a channel that is heard has its opening read, and expects one content at most

pub read_open : (n : ℕ) → 4096 ≤ n → (ss : List Step) (c : ℕ) → hears c (past_of n ss).wire ≡ true → is_unread c (past_of n ss).wire (joined_to n ss).up ≡ false
read_open n most ss c h = let t = in_step n most ss c h in rw (t.read, t.left) refl

held_at : (n : ℕ) (ss : List Step) → 4096 ≤ n → Held (past_of n ss).wire
held_at n ss r =
    let a = alike_run n ss (new_joint [] n) (new_joint (new_world n) n) refl (new_alike n) in
    let s = sound_run ss (new_joint (new_world n) n) (new_sound n r) in
    subst Held a.session.wire s.held

pub one_content : (n : ℕ) → 4096 ≤ n → (ss : List Step) (c : ℕ) → is_up (past_of n ss).wire.link ≡ true → IsOneContent (expected_on c (past_of n ss).wire.contents)
one_content n most ss c u = let h = (held_at n ss most).up (up_open (past_of n ss).wire.link u) in let e = h.each c in e.contents
