-- The joined runs of a publisher are ready after every step.
use Rattle.std.proofs.Common.{◌≡◌, ◌∙◌, ℕ, Bool, true, false, true≢false, ◌&&◌, not, cond, List, [], ◌∷◌, ◌++◌, Option, Some, None, refl, sym, subst, inl}
use Rattle.std.specs.List.{AllByRecursion}
use Rattle.lapin_types.specs.declared.call.Call.TheVariants as call
use Rattle.lapin_types.specs.declared.event.Event.TheVariants as event
use Rattle.lapin_types.specs.declared.leaving.Left.{Left}
use Rattle.lapin_types.specs.Types.{Frame}
use Rattle.lapin_rules.specs.History.{History, Past, past, rec, readings_of}
use Rattle.lapin_rules.specs.Incoming.{incoming_of}
use Rattle.lapin_rules.specs.Polls.{is_confirmed}
use Rattle.lapin_rules.specs.Wire.{start, is_closed, is_open}
use Rattle.lapin_machine.proofs.Standing.{past-push}
use Rattle.lapin_machine.specs.Way.{by_history}
use Rattle.lapin_broker.specs.Sends.{may}
use Rattle.lapin_joint.specs.declared.step.Step as joined_step
use Rattle.lapin_joint.specs.declared.step.Step.TheVariants as joined
use Rattle.lapin_joint.specs.Joint.{Joint, new_joint, after, read_first, send_down, deliver_first, joined_to}
use Rattle.lapin_joint.proofs.Steps.{run-push}
use Rattle.lapin_resend.specs.declared.step.ResendStep.{ResendStep}
use Rattle.lapin_resend.specs.declared.step.ResendStep.TheVariants as step
use Rattle.lapin_resend.specs.Messages.{Standing, waits, confirm_of}
use Rattle.lapin_resend.specs.Publisher.{Publisher, Steps, Met, told, with_all, state_in, with_event, poll_at, poll_one, publishing, publish_one, each, after_polls, after_opening, after_selecting, tended}
use Rattle.lapin_resend.specs.Resend.{begun, after_step, no_publisher, new_publisher, publisher_from, publisher_after, runs_of}
use Rattle.lapin_resend.proofs.Out.{still_open}
use Rattle.lapin_resend_laws.specs.Confirms.{confirms_in, NoneIsNotRequested}
use Rattle.lapin_resend_laws.proofs.Marks.{none_not_requested}
use Rattle.lapin_resend_laws.proofs.Ready.{Ready, quiet_event, incoming_quiet, taken_quiet, open_call, select_call, publish_call, next_event}
use Rattle.lapin_tables.proofs.Bools.{and_second}
use Rattle.lapin_effects.proofs.Comes.{all_grow}

-- ---- a history with one event more

abbrev pub ReadyPast : Past → Bool → Type 0
ReadyPast p asked = Ready p.wire p.confirms asked

-- the session of a joined run
abbrev pub IsReady : ℕ → History → Bool → Type 0
IsReady n h asked = ReadyPast (past n h) asked

abbrev pub IsRunReady : ℕ → Steps → Bool → Type 0
IsRunReady n made asked = IsReady n (joined_to n made).session asked

-- a frame of the broker, a poll and a loss
receive_ready : (n : ℕ) (h : History) (f : Frame) (asked : Bool) → IsReady n h asked → IsReady n (h ++ (event.Receive f, rec n h (event.Receive f)) ∷ []) asked
receive_ready n h f asked r =
    let p : Past = past n h in
    subst (λ (x : Past). ReadyPast x asked) (sym (past-push (record { wire = start n; confirms = []; tickets = [] }) h (event.Receive f) (rec n h (event.Receive f))))
    (quiet_event p.wire p.confirms (readings_of p.confirms p.tickets) (event.Receive f) asked refl (incoming_quiet (incoming_of f) (rec n h (event.Receive f)) p.wire) r)

poll_ready : (n : ℕ) (h : History) (k : ℕ) (asked : Bool) → IsReady n h asked → IsReady n (h ++ (event.PollConfirm k, rec n h (event.PollConfirm k)) ∷ []) asked
poll_ready n h k asked r =
    let p : Past = past n h in
    subst (λ (x : Past). ReadyPast x asked) (sym (past-push (record { wire = start n; confirms = []; tickets = [] }) h (event.PollConfirm k) (rec n h (event.PollConfirm k))))
    (quiet_event p.wire p.confirms (readings_of p.confirms p.tickets) (event.PollConfirm k) asked refl (taken_quiet (is_confirmed (rec n h (event.PollConfirm k))) k) r)

lost_ready : (n : ℕ) (h : History) (asked : Bool) → IsReady n h asked → IsReady n (h ++ (event.Lost, rec n h event.Lost) ∷ []) asked
lost_ready n h asked r =
    let p : Past = past n h in
    subst (λ (x : Past). ReadyPast x asked) (sym (past-push (record { wire = start n; confirms = []; tickets = [] }) h event.Lost (rec n h event.Lost)))
    (quiet_event p.wire p.confirms (readings_of p.confirms p.tickets) event.Lost asked refl (all_grow _ p.wire) r)

pub next_ready : (n : ℕ) (h : History) (asked : Bool) → IsReady n h asked → IsReady n (h ++ (event.Next true, rec n h (event.Next true)) ∷ []) asked
next_ready n h asked r =
    let p : Past = past n h in
    subst (λ (x : Past). ReadyPast x asked) (sym (past-push (record { wire = start n; confirms = []; tickets = [] }) h (event.Next true) (rec n h (event.Next true))))
    (next_event p.wire p.confirms (readings_of p.confirms p.tickets) true asked r)

-- ---- a joined run with one step more

pub run_ready : (n : ℕ) (made : Steps) (s : joined_step.Step) (asked : Bool) → IsReady n (after (by_history n) s (joined_to n made)).session asked → IsRunReady n (made ++ s ∷ []) asked
run_ready n made s asked r = subst (λ (j : Joint History). IsReady n j.session asked) (sym (run-push (by_history n) made s (new_joint [] n))) r

pub read_ready : (n : ℕ) (j : Joint History) (asked : Bool) (ls : List Left) → IsReady n j.session asked → IsReady n (read_first ls j).session asked
read_ready n j asked [] r = r
read_ready n j asked (l ∷ ls) r = r

pub deliver_ready : (n : ℕ) (j : Joint History) (asked : Bool) (fs : List Frame) → IsReady n j.session asked → IsReady n (deliver_first (by_history n) fs j).session asked
deliver_ready n j asked [] r = r
deliver_ready n j asked (f ∷ fs) r = receive_ready n j.session f asked r

pub send_ready : (n : ℕ) (j : Joint History) (f : Frame) (asked t : Bool) → IsReady n j.session asked → IsReady n (cond t (send_down f j) j).session asked
send_ready n j f asked true r = r
send_ready n j f asked false r = r

-- ---- tending

abbrev pub StandsReady : ℕ → Publisher → Type 0
StandsReady n p = IsRunReady n p.present p.selects

pub poll_runs : (n : ℕ) (made : Steps) (s : Standing) (o : Option ℕ) (asked : Bool) → IsRunReady n made asked → IsRunReady n (poll_at n made s o).1 asked
poll_runs n made s None asked r = r
poll_runs n made s (Some k) asked r = run_ready n made (joined.Client (event.PollConfirm k)) asked (poll_ready n (joined_to n made).session k asked r)

polls_run : (n : ℕ) (made : Steps) (ss : List Standing) (asked : Bool) → IsRunReady n made asked → IsRunReady n (each (poll_one n) made ss).1 asked
polls_run n made [] asked r = r
polls_run n made (s ∷ ss) asked r = polls_run n (poll_one n made s).1 ss asked (poll_runs n made s s.outstanding asked r)

pub opening_ready : (n : ℕ) (p : Publisher) (t : Bool) → is_closed (state_in n p.present) ≡ t → StandsReady n p → StandsReady n (cond t (record p { present = with_event (event.Call 1 call.OpenChannel) p.present; selects = false }) p)
opening_ready n p true closed r =
    let h : History = (joined_to n p.present).session in
    let q : Past = past n h in
    run_ready n p.present (joined.Client (event.Call 1 call.OpenChannel)) false
    (subst (λ (x : Past). ReadyPast x false) (sym (past-push (record { wire = start n; confirms = []; tickets = [] }) h (event.Call 1 call.OpenChannel) (rec n h (event.Call 1 call.OpenChannel))))
    (open_call q.wire q.confirms (readings_of q.confirms q.tickets) p.selects closed r))
opening_ready n p false closed r = r

pub selecting_ready : (n : ℕ) (p : Publisher) (t : Bool) → (not p.selects && is_open (state_in n p.present)) ≡ t → StandsReady n p → StandsReady n (cond t (record p { present = with_event (event.Call 1 (call.ConfirmSelect (record { nowait = true }))) p.present; selects = true }) p)
selecting_ready n p true called r =
    let h : History = (joined_to n p.present).session in
    let q : Past = past n h in
    run_ready n p.present (joined.Client (event.Call 1 (call.ConfirmSelect (record { nowait = true })))) true
    (subst (λ (x : Past). ReadyPast x true) (sym (past-push (record { wire = start n; confirms = []; tickets = [] }) h (event.Call 1 (call.ConfirmSelect (record { nowait = true }))) (rec n h (event.Call 1 (call.ConfirmSelect (record { nowait = true }))))))
    (select_call q.wire q.confirms (readings_of q.confirms q.tickets) p.selects (and_second (not p.selects) (is_open (state_in n p.present)) called) r))
selecting_ready n p false called r = r

-- where the channel is open after that, its select was called
pub selected_then : (n : ℕ) (p : Publisher) → is_open (state_in n (after_selecting n p).present) ≡ true → (after_selecting n p).selects ≡ true
selected_then n p opened = at (not p.selects && is_open (state_in n p.present)) p.selects refl refl
  where
    at : (t s : Bool) → (not p.selects && is_open (state_in n p.present)) ≡ t → p.selects ≡ s → (after_selecting n p).selects ≡ true
    at true s called is = rw called refl
    at false true called is = rw called is
    at false false called is =
        let now : is_open (state_in n p.present) ≡ true = rw called at opened in
        let no : false ≡ true = sym called ∙ rw (is, now) refl in
        absurd (true≢false (sym no))

pub publish_ready : (n : ℕ) (made : Steps) (s : Standing) → is_open (state_in n made) ≡ true → IsRunReady n made true → IsRunReady n (with_event (publishing s) made) true
publish_ready n made s opened r =
    let h : History = (joined_to n made).session in
    let q : Past = past n h in
    run_ready n made (joined.Client (publishing s)) true
    (subst (λ (x : Past). ReadyPast x true) (sym (past-push (record { wire = start n; confirms = []; tickets = [] }) h (publishing s) (rec n h (publishing s))))
    (publish_call q.wire q.confirms (readings_of q.confirms q.tickets) s opened r))

publish_runs : (n : ℕ) (made : Steps) (s t : Standing) (w : Bool) → is_open (state_in n made) ≡ true → IsRunReady n made true → IsRunReady n (cond {A = Met} w (t, with_event (publishing s) made) (s, made)).1 true
publish_runs n made s t true opened r = publish_ready n made s opened r
publish_runs n made s t false opened r = r

publishes_run : (n : ℕ) (made : Steps) (ss : List Standing) → is_open (state_in n made) ≡ true → IsRunReady n made true → IsRunReady n (each (publish_one n) made ss).1 true
publishes_run n made [] opened r = r
publishes_run n made (s ∷ ss) opened r =
    publishes_run n (publish_one n made s).1 ss
    (still_open n made s (record s { outstanding = confirm_of (told n made (publishing s)) }) (waits s) opened)
    (publish_runs n made s (record s { outstanding = confirm_of (told n made (publishing s)) }) (waits s) opened r)

publishing_ready : (n : ℕ) (p : Publisher) (t : Bool) → is_open (state_in n p.present) ≡ t → (t ≡ true → p.selects ≡ true) → StandsReady n p → StandsReady n (cond t (with_all (each (publish_one n) p.present p.messages) p) p)
publishing_ready n p true opened selects r =
    let called : IsRunReady n p.present true = subst (λ (b : Bool). IsRunReady n p.present b) (selects refl) r in
    subst (λ (b : Bool). IsRunReady n (each (publish_one n) p.present p.messages).1 b) (sym (selects refl)) (publishes_run n p.present p.messages opened called)
publishing_ready n p false opened selects r = r

tended_ready : (n : ℕ) (p : Publisher) → StandsReady n p → StandsReady n (tended n p)
tended_ready n p r =
    let a : Publisher = after_polls n p in
    let b : Publisher = after_opening n a in
    let c : Publisher = after_selecting n b in
    let polls : StandsReady n a = polls_run n p.present p.messages p.selects r in
    let opens : StandsReady n b = opening_ready n a (is_closed (state_in n a.present)) refl polls in
    let selects : StandsReady n c = selecting_ready n b (not b.selects && is_open (state_in n b.present)) refl opens in
    publishing_ready n c (is_open (state_in n c.present)) refl (selected_then n b) selects

-- ---- steps

-- a new session is ready
pub new_ready : (n : ℕ) → IsRunReady n [] false
new_ready n = record {
  requested = record { on = tt; right = tt };
  one = tt;
  begun = λ alive. absurd (true≢false (sym alive));
  rests = λ _. refl;
  waits = inl refl;
  calls = λ is. absurd (true≢false (sym is));
}

-- the present run is ready, and in the earlier ones no confirm was not requested
record Keeps (n : ℕ) (p : Publisher) : Type 0 where
  pub ready : StandsReady n p
  pub earlier : AllByRecursion (NoneIsNotRequested n) p.earlier

none_of : (n : ℕ) (made : Steps) (asked : Bool) → IsRunReady n made asked → NoneIsNotRequested n made
none_of n made asked r = none_not_requested (confirms_in n made) r.requested

all_more : (n : ℕ) (rs : List Steps) (r : Steps) → AllByRecursion (NoneIsNotRequested n) rs → NoneIsNotRequested n r → AllByRecursion (NoneIsNotRequested n) (rs ++ r ∷ [])
all_more n [] r h one = (one, tt)
all_more n (x ∷ xs) r h one = (h.0, all_more n xs r h.1 one)

stepped : (n : ℕ) (s : joined_step.Step) (p : Publisher) → Keeps n p → IsReady n (after (by_history n) s (joined_to n p.present)).session p.selects → Keeps n (record p { present = p.present ++ s ∷ [] })
stepped n s p k r = record { ready = run_ready n p.present s p.selects r; earlier = k.earlier }

begun_keeps : (n : ℕ) (s : ResendStep) (p : Publisher) → Keeps n p → Keeps n (begun s p)
begun_keeps n (step.Submit m) p k = record { ready = k.ready; earlier = k.earlier }
begun_keeps n step.Next p k = stepped n (joined.Client (event.Next true)) p k (next_ready n (joined_to n p.present).session p.selects k.ready)
begun_keeps n step.Read p k = stepped n joined.Read p k (read_ready n (joined_to n p.present) p.selects (joined_to n p.present).up k.ready)
begun_keeps n (step.Send f) p k = stepped n (joined.Send f) p k (send_ready n (joined_to n p.present) f p.selects (may (joined_to n p.present).broker f) k.ready)
begun_keeps n step.Deliver p k = stepped n joined.Deliver p k (deliver_ready n (joined_to n p.present) p.selects (joined_to n p.present).down k.ready)
begun_keeps n step.Lose p k =
    let lost : IsRunReady n (p.present ++ joined.Lose ∷ []) p.selects = run_ready n p.present joined.Lose p.selects (lost_ready n (joined_to n p.present).session p.selects k.ready) in
    record { ready = new_ready n; earlier = all_more n p.earlier (p.present ++ joined.Lose ∷ []) k.earlier (none_of n (p.present ++ joined.Lose ∷ []) p.selects lost) }
begun_keeps n (step.Status i) p k = k

step_keeps : (n : ℕ) (p : Publisher) → Keeps n p → Keeps n (tended n p)
step_keeps n p k = record { ready = tended_ready n p k.ready; earlier = kept_earlier }
  where
    chosen : (t : Bool) (x y : Publisher) → x.earlier ≡ p.earlier → y.earlier ≡ p.earlier → (cond t x y).earlier ≡ p.earlier
    chosen true x y one other = one
    chosen false x y one other = other

    a : Publisher
    a = after_polls n p

    b : Publisher
    b = after_opening n a

    c : Publisher
    c = after_selecting n b

    kept_earlier : AllByRecursion (NoneIsNotRequested n) (tended n p).earlier
    kept_earlier =
        let opens : b.earlier ≡ p.earlier = chosen (is_closed (state_in n a.present)) _ a refl refl in
        let selects : c.earlier ≡ p.earlier = chosen (not b.selects && is_open (state_in n b.present)) _ b opens opens in
        subst (λ (rs : List Steps). AllByRecursion (NoneIsNotRequested n) rs) (sym (chosen (is_open (state_in n c.present)) _ c selects selects)) k.earlier

from_keeps : (n : ℕ) (ss : List ResendStep) (p : Publisher) → Keeps n p → Keeps n (publisher_from n ss p)
from_keeps n [] p k = k
from_keeps n (s ∷ ss) p k = from_keeps n ss (after_step n s p) (step_keeps n (begun s p) (begun_keeps n s p k))

pub all_requested : (n : ℕ) (steps : List ResendStep) → AllByRecursion (NoneIsNotRequested n) (runs_of (publisher_after n steps))
all_requested n steps =
    let k : Keeps n (publisher_after n steps) = from_keeps n steps (new_publisher n) (step_keeps n no_publisher (record { ready = new_ready n; earlier = tt })) in
    all_more n (publisher_after n steps).earlier (publisher_after n steps).present k.earlier (none_of n (publisher_after n steps).present (publisher_after n steps).selects k.ready)
