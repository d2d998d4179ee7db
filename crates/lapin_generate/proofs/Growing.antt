-- One publish more in a generated run, and what its reports come to.
use Rattle.std.proofs.Common.{◌≡◌, ◌∙◌, ℕ, suc, ◌+◌, ◌-◌, ◌<◌, ◌≤◌, ◌^◌, Bool, true, false, true≢false, List, [], ◌∷◌, ◌++◌, length, refl, sym, ap, subst, arith, append_assoc, add_assoc, add-zero, zero-add, append-nil, length-append, fold}
use Rattle.std.specs.Prelude.{Result, Ok, Err, OnOk, sum_by, replicate, if◌then◌else◌}
use Rattle.std.proofs.lemmas.List.{length-replicate, replicate_more}
use Rattle.lapin_types.specs.Types.{Frame, Error, Method}
use Rattle.lapin_types.specs.Types.frame
use Rattle.lapin_types.specs.Types.method
use Rattle.lapin_types.specs.Types.channel
use Rattle.lapin_types.specs.Types.basic
use Rattle.lapin_types.specs.Types.confirm
use Rattle.lapin_types.specs.declared.call.Call.{Call}
use Rattle.lapin_types.specs.declared.call.Call.TheVariants as call
use Rattle.lapin_types.specs.declared.event.Event.{Event}
use Rattle.lapin_types.specs.declared.event.Event.TheVariants as event
use Rattle.lapin_types.specs.declared.leaving.Left.{Left}
use Rattle.lapin_types.specs.declared.record.Record.{Record}
use Rattle.lapin_types.specs.declared.record.Record.TheVariants as record_
use Rattle.lapin_rules.specs.declared.calls.Asked.{Asked}
use Rattle.lapin_rules.specs.declared.calls.Asked.TheVariants as ask
use Rattle.lapin_rules.specs.Asking.{accepted_record, is_allowed, is_held}
use Rattle.lapin_rules.specs.Calls.{asked, publishes}
use Rattle.lapin_rules.specs.Wire.{Wire, state_of}
use Rattle.lapin_machine.specs.World.{World, new_world, next, told_by, readings_of}
use Rattle.lapin_machine.specs.Way.{by_machine}
use Rattle.lapin_joint.specs.declared.step.Step.{Step}
use Rattle.lapin_joint.specs.declared.step.Step.TheVariants as step
use Rattle.lapin_joint.specs.declared.step.Reported.{Reported}
use Rattle.lapin_joint.specs.declared.step.Reported.TheVariants as reported
use Rattle.lapin_joint.specs.Joint.{Joint, new_joint, after, report, run, reports, joined, is_lawful, handed_by, read_first, deliver_first, read_report, deliver_report}
use Rattle.lapin_broker.specs.Sends.{may}
use Rattle.lapin_machine.proofs.Ways.{fewer}
use Rattle.lapin_joint.proofs.Alike.{reports_joined}
use Rattle.lapin_joint.proofs.Steps.{can_take_rest, can_take_fewer, new_goes_on}
use Rattle.lapin_generate.specs.declared.summary.Summary.{Summary}
use Rattle.lapin_generate.specs.Generated.{generated, opening, selecting, answered, published, publish_call, publish_steps, frames_of, acked}
use Rattle.lapin_generate.specs.Summed.{publish_count, frame_count, body_length, ack_count, summed, with_report, with_reports, nothing}
use Rattle.lapin_generate.specs.Tally.{HasMade, HasPassed, IsPublished, HasRoom, CanGo}

-- ---- steps

generated_suc : (n m : ℕ) → suc n ≡ m → generated m ≡ generated n ++ publish_steps m
generated_suc n m e = subst (λ (k : ℕ). generated k ≡ generated n ++ publish_steps k) e (sym (append_assoc (opening ++ selecting) (published n) (publish_steps (suc n))))

run-append : (ss ts : List Step) (j : Joint World) → run by_machine (ss ++ ts) j ≡ run by_machine ts (run by_machine ss j)
run-append [] ts j = refl
run-append (s ∷ ss) ts j = run-append ss ts (after by_machine s j)

reports-append : (ss ts : List Step) (j : Joint World) → reports by_machine (ss ++ ts) j ≡ reports by_machine ss j ++ reports by_machine ts (run by_machine ss j)
reports-append [] ts j = refl
reports-append (s ∷ ss) ts j = ap (λ rs. report by_machine s j ∷ rs) (reports-append ss ts (after by_machine s j))

with-append : (s : Summary) (rs qs : List Reported) → with_reports s (rs ++ qs) ≡ with_reports (with_reports s rs) qs
with-append s [] qs = refl
with-append s (r ∷ rs) qs = with-append (with_report s r) rs qs

room_fewer : (n m : ℕ) (s : Summary) → HasRoom n s → m ≤ n → HasRoom m s
room_fewer n m s room le = record {
  publishes = omega (arith, room.publishes);
  frames = omega (arith, room.frames);
  bytes = omega (arith, room.bytes);
  acks = omega (arith, room.acks);
}

pub can_go_fewer : (n m : ℕ) (j : Joint World) (s : Summary) → CanGo n j s → m ≤ n → CanGo m j s
can_go_fewer n m j s go le = (can_take_fewer n m j go.0 le, room_fewer n m s go.1 le)

-- no step
pub made_none : (j : Joint World) (s : Summary) → HasMade [] j j s s
made_none j s = record { joint = refl; summary = refl; goes = λ n go. can_go_fewer (0 + n) n j s go (omega arith) }

-- one step
pub made_one : (x : Step) (j k : Joint World) (s t : Summary) → k ≡ after by_machine x j → t ≡ with_report s (report by_machine x j) → ((n : ℕ) → HasRoom (suc n) s → HasRoom n t) → HasMade (x ∷ []) j k s t
made_one x j k s t is told room = record {
  joint = is;
  summary = told;
  goes = λ n go. let more = can_go_fewer (1 + n) (suc n) j s go (omega arith) in (can_take_rest n x j k is more.0, room n more.1);
}

-- steps, and then others
pub made_then : (ss ts : List Step) (j k l : Joint World) (s t u : Summary) → HasMade ss j k s t → HasMade ts k l t u → HasMade (ss ++ ts) j l s u
made_then ss ts j k l s t u one two =
    let k_is : k ≡ run by_machine ss j = one.joint in
    let t_is : t ≡ with_reports s (reports by_machine ss j) = one.summary in
    record {
      joint = two.joint ∙ ap (run by_machine ts) k_is ∙ sym (run-append ss ts j);
      summary =
          two.summary
          ∙ ap (λ (x : Joint World). with_reports t (reports by_machine ts x)) k_is
          ∙ ap (λ (x : Summary). with_reports x (reports by_machine ts (run by_machine ss j))) t_is
          ∙ sym (ap (with_reports s) (reports-append ss ts j) ∙ with-append s (reports by_machine ss j) (reports by_machine ts (run by_machine ss j)));
      goes = λ n go. two.goes n (one.goes (length ts + n) (can_go_fewer (length (ss ++ ts) + n) (length ss + (length ts + n)) j s go (omega (arith, length-append ss ts))));
    }

-- no publish yet
pub made_first : (j k : Joint World) (s t : Summary) → HasMade (opening ++ selecting) j k s t → HasMade (generated 0) j k s t
made_first j k s t made = subst (λ (ss : List Step). HasMade ss j k s t) (sym (append-nil (opening ++ selecting))) made

-- one publish more
pub made_next : (n : ℕ) (j k l : Joint World) (s t u : Summary) → HasMade (generated n) j k s t → HasMade (publish_steps (n + 1)) k l t u → HasMade (generated (n + 1)) j l s u
made_next n j k l s t u one two =
    let longer : generated (n + 1) ≡ generated n ++ publish_steps (n + 1) = generated_suc n (n + 1) (omega arith) in
    subst (λ (ss : List Step). HasMade ss j l s u) (sym longer) (made_then (generated n) (publish_steps (n + 1)) j k l s t u one two)

-- one more of the same
pub made_again : (n : ℕ) (x : Step) (j k l : Joint World) (s t u : Summary) → HasMade (replicate n x) j k s t → HasMade (x ∷ []) k l t u → HasMade (replicate (n + 1) x) j l s u
made_again n x j k l s t u one two = subst (λ (ss : List Step). HasMade ss j l s u) (replicate_more n x) (made_then (replicate n x) (x ∷ []) j k l s t u one two)

-- what can be made after so many of the same
pub can_go_after : (n m : ℕ) (x : Step) (j k : Joint World) (s t : Summary) → HasMade (replicate n x) j k s t → CanGo m j s → n < m → CanGo 1 k t
can_go_after n m x j k s t made go lt = made.goes 1 (can_go_fewer m (length (replicate n x) + 1) j s go (omega (arith, length-replicate n x)))

-- ---- steps that count nothing

abbrev summary_of : ℕ → ℕ → ℕ → ℕ → Summary
summary_of p f b a = record { publishes = p; frames = f; bytes = b; acks = a }

sums : (a b c d e f g h : ℕ) → a ≡ b → c ≡ d → e ≡ f → g ≡ h → summary_of a c e g ≡ summary_of b d f h
sums a b c d e f g h p q r s = cc

-- one that counts nothing adds nothing
unchanged : (s : Summary) → s ≡ summary_of (s.publishes + 0) (s.frames + 0) (s.bytes + 0) (s.acks + 0)
unchanged s = sums _ _ _ _ _ _ _ _ (sym (add-zero s.publishes)) (sym (add-zero s.frames)) (sym (add-zero s.bytes)) (sym (add-zero s.acks))

passed_one : (x : Step) (j k : Joint World) → k ≡ after by_machine x j → ((s : Summary) → s ≡ with_report s (report by_machine x j)) → HasPassed (x ∷ []) j k
passed_one x j k is same = λ s. made_one x j k s s is (same s) (λ n room. room_fewer (suc n) n s room (omega arith))

read_counts : (ls : List Left) (s : Summary) → s ≡ with_report s (read_report ls)
read_counts [] s = unchanged s
read_counts (l ∷ ls) s = unchanged s

pub read_passed : (j k : Joint World) → k ≡ read_first j.up j → HasPassed (step.Read ∷ []) j k
read_passed j k is = passed_one step.Read j k is (read_counts j.up)

sent_counts : (b : Bool) (s : Summary) → s ≡ with_report s (if b then reported.Sent else reported.NotLawful)
sent_counts true s = unchanged s
sent_counts false s = unchanged s

pub sent_passed : (f : Frame) (j k : Joint World) → k ≡ after by_machine (step.Send f) j → HasPassed (step.Send f ∷ []) j k
sent_passed f j k is = passed_one (step.Send f) j k is (sent_counts (may j.broker f))

delivered_counts : (fs : List Frame) (w : World) (s : Summary) → s ≡ with_report s (deliver_report by_machine fs w)
delivered_counts [] w s = unchanged s
delivered_counts (f ∷ fs) w s = unchanged s

pub delivered_passed : (j k : Joint World) → k ≡ deliver_first by_machine j.down j → HasPassed (step.Deliver ∷ []) j k
delivered_passed j k is = passed_one step.Deliver j k is (delivered_counts j.down j.session)

pub passed_none : (j : Joint World) → HasPassed [] j j
passed_none j = λ s. made_none j s

pub passed_again : (n : ℕ) (x : Step) (j k l : Joint World) → HasPassed (replicate n x) j k → HasPassed (x ∷ []) k l → HasPassed (replicate (n + 1) x) j l
passed_again n x j k l one two = λ s. made_again n x j k l s s s (one s) (two s)

-- ---- calls

call_counts : (k : Asked) (b : Wire) (allowed : Bool) (e : Error) (s : Summary) → publishes k ≡ false → s ≡ with_report s (reported.Client (if allowed then accepted_record k b else record_.Refused e))
call_counts k b false e s quiet = unchanged s
call_counts (ask.Publish exchange key o payload properties) b true e s quiet = absurd (true≢false quiet)
call_counts _ b true e s quiet = unchanged s

held_counts : (held : Bool) (e : Error) (r : Record) (s : Summary) → s ≡ with_report s (reported.Client r) → s ≡ with_report s (reported.Client (if held then record_.Refused e else r))
held_counts true e r s same = unchanged s
held_counts false e r s same = same

told_counts : (c : ℕ) (k : Call) (w : World) (s : Summary) → publishes (asked k) ≡ false → s ≡ with_report s (reported.Client (told_by w (event.Call c k)))
told_counts c k w s quiet =
    let readings = readings_of w.confirm_state w.slots in
    held_counts (is_held c k w.wire readings) _ _ s (call_counts (asked k) w.wire (is_allowed (asked k) (state_of c w.wire)) _ s quiet)

pub call_passed : (k : Call) (i j : Joint World) → publishes (asked k) ≡ false → j ≡ after by_machine (step.Client (event.Call 1 k)) i → HasPassed (step.Client (event.Call 1 k) ∷ []) i j
call_passed k i j quiet is = passed_one (step.Client (event.Call 1 k)) i j is (λ s. told_counts 1 k i.session s quiet)

-- ---- a publish and a poll, which move the session alone

moved : (e : Event) (j : Joint World) (v : World) → is_lawful e ≡ true → handed_by by_machine e j.session ≡ [] → v ≡ next j.session e → record j { session = v } ≡ after by_machine (step.Client e) j
moved e j v lawful none met =
    let up : j.up ≡ j.up ++ handed_by by_machine e j.session = sym (ap (λ ls. j.up ++ ls) none ∙ append-nil j.up) in
    rw lawful (ap (λ (w : World). record j { session = w }) met ∙ ap (λ ls. record j { session = next j.session e; up = ls }) up)

-- an event with this record, which is summed
pub event_made : (e : Event) (i j : Joint World) (v : World) (s t : Summary) (r : Record) → is_lawful e ≡ true → handed_by by_machine e i.session ≡ [] → i ≡ j → v ≡ next i.session e → r ≡ told_by i.session e → t ≡ with_report s (reported.Client r) → ((n : ℕ) → HasRoom (suc n) s → HasRoom n t) → HasMade (step.Client e ∷ []) j (record i { session = v }) s t
event_made e i j v s t r lawful none same met told sum room =
    let is : with_report s (reported.Client (told_by i.session e)) ≡ with_report s (report by_machine (step.Client e) i) = rw lawful refl in
    subst (λ (x : Joint World). HasMade (step.Client e ∷ []) x (record i { session = v }) s t) same
    (made_one (step.Client e) i (record i { session = v }) s t (moved e i v lawful none met) (sum ∙ ap (λ (q : Record). with_report s (reported.Client q)) told ∙ is) room)

-- a publish that is accepted, whatever its numbers are
pub publish_made : (k : Call) (accepted : Bool) (i j : Joint World) (v : World) (s t : Summary) → accepted ≡ true → i ≡ j → v ≡ next i.session (event.Call 1 k) → IsPublished accepted (told_by i.session (event.Call 1 k)) → ((ticket number : ℕ) → t ≡ with_report s (reported.Client (record_.Publish ticket number))) → ((n : ℕ) → HasRoom (suc n) s → HasRoom n t) → HasMade (step.Client (event.Call 1 k) ∷ []) j (record i { session = v }) s t
publish_made k accepted i j v s t is same met told sum room =
    let numbers : IsPublished true (told_by i.session (event.Call 1 k)) = subst (λ (b : Bool). IsPublished b (told_by i.session (event.Call 1 k))) is told in
    event_made (event.Call 1 k) i j v s t (record_.Publish numbers.0 numbers.1) refl refl same met (sym numbers.2) (sum numbers.0 numbers.1) room

-- one that is refused
pub publish_refused : (k : Call) (accepted : Bool) (i j : Joint World) (v : World) (s : Summary) → accepted ≡ false → i ≡ j → v ≡ next i.session (event.Call 1 k) → IsPublished accepted (told_by i.session (event.Call 1 k)) → HasMade (step.Client (event.Call 1 k) ∷ []) j (record i { session = v }) s s
publish_refused k accepted i j v s is same met told =
    let refusal : IsPublished false (told_by i.session (event.Call 1 k)) = subst (λ (b : Bool). IsPublished b (told_by i.session (event.Call 1 k))) is told in
    event_made (event.Call 1 k) i j v s s (record_.Refused refusal.0) refl refl same met (sym refusal.1) (unchanged s) (λ n room. room_fewer (suc n) n s room (omega arith))

-- ---- summaries

fold_from : (f : Reported → ℕ) (n m : ℕ) (rs : List Reported) → fold (λ (a : ℕ) (x : Reported). a + f x) (n + m) rs ≡ n + fold (λ (a : ℕ) (x : Reported). a + f x) m rs
fold_from f n m [] = refl
fold_from f n m (r ∷ rs) = ap (λ (k : ℕ). fold (λ (a : ℕ) (x : Reported). a + f x) k rs) (add_assoc n m (f r)) ∙ fold_from f n (m + f r) rs

sum_from : (f : Reported → ℕ) (n : ℕ) (r : Reported) (rs : List Reported) → (n + f r) + sum_by f rs ≡ n + sum_by f (r ∷ rs)
sum_from f n r rs =
    let swap : f r + 0 ≡ 0 + f r = omega arith in
    add_assoc n (f r) (sum_by f rs) ∙ ap (λ (k : ℕ). n + k) (sym (fold_from f (f r) 0 rs) ∙ ap (λ (k : ℕ). fold (λ (a : ℕ) (x : Reported). a + f x) k rs) swap)

abbrev plus : Summary → List Reported → Summary
plus s rs = summary_of (s.publishes + sum_by publish_count rs) (s.frames + sum_by frame_count rs) (s.bytes + sum_by body_length rs) (s.acks + sum_by ack_count rs)

with-plus : (s : Summary) (rs : List Reported) → with_reports s rs ≡ plus s rs
with-plus s [] = sums _ _ _ _ _ _ _ _ (sym (add-zero s.publishes)) (sym (add-zero s.frames)) (sym (add-zero s.bytes)) (sym (add-zero s.acks))
with-plus s (r ∷ rs) = with-plus (with_report s r) rs ∙ sums _ _ _ _ _ _ _ _ (sum_from publish_count s.publishes r rs) (sum_from frame_count s.frames r rs) (sum_from body_length s.bytes r rs) (sum_from ack_count s.acks r rs)

plus_nothing : (rs : List Reported) → plus nothing rs ≡ summed rs
plus_nothing rs = sums _ _ _ _ _ _ _ _ (zero-add (sum_by publish_count rs)) (zero-add (sum_by frame_count rs)) (zero-add (sum_by body_length rs)) (zero-add (sum_by ack_count rs))

pub summed_all : (m : ℕ) (steps : List Step) (j k : Joint World) (s t : Summary) → j ≡ new_joint (new_world m) m → s ≡ nothing → HasMade steps j k s t → t ≡ summed (joined m steps)
summed_all m steps j k s t new none made =
    made.summary
    ∙ ap (λ (x : Summary). with_reports x (reports by_machine steps j)) none
    ∙ ap (λ (x : Joint World). with_reports nothing (reports by_machine steps x)) new
    ∙ ap (with_reports nothing) (reports_joined m steps)
    ∙ with-plus nothing (joined m steps)
    ∙ plus_nothing (joined m steps)

-- ---- steps together

-- what holds where a call is done
pub where_done : {E P Q : Type 0} (r : Result (Unit {0}) E) → (P → Q) → OnOk r P → OnOk r Q
where_done (Ok x) more p = more p
where_done (Err e) more p = tt

-- a method leaves and is read; the broker's answer to it is sent and delivered
pub answered_made : (m : Method) (j k l o p : Joint World) (s t : Summary) → HasMade (step.Client (event.Next true) ∷ []) j k s t → HasPassed (step.Read ∷ []) k l → HasPassed (step.Send (frame.Method 1 m) ∷ []) l o → HasPassed (step.Deliver ∷ []) o p → HasMade (answered m) j p s t
answered_made m j k l o p s t asks reads sends delivers =
    let send : Step = step.Send (frame.Method 1 m) in
    made_then (step.Client (event.Next true) ∷ []) (step.Read ∷ send ∷ step.Deliver ∷ []) j k p s t t asks
    (made_then (step.Read ∷ []) (send ∷ step.Deliver ∷ []) k l p t t t (reads t) (made_then (send ∷ []) (step.Deliver ∷ []) l o p t t t (sends t) (delivers t)))

-- before the delivery of that answer
pub asked_goes : (m : Method) (j k l o : Joint World) (s t : Summary) → HasMade (step.Client (event.Next true) ∷ []) j k s t → HasPassed (step.Read ∷ []) k l → HasPassed (step.Send (frame.Method 1 m) ∷ []) l o → CanGo 4 j s → CanGo 1 o t
asked_goes m j k l o s t asks reads sends go = (sends t).goes 1 ((reads t).goes 2 (asks.goes 3 go))

-- the channel is opened, and confirms are asked for
pub opening_made : (j k l o p : Joint World) (s t u : Summary) → HasPassed (step.Client (event.Call 1 call.OpenChannel) ∷ []) j k → HasMade (answered (method.Channel channel.OpenOk)) k l s t → HasPassed (step.Client (event.Call 1 (call.ConfirmSelect (record { nowait = false }))) ∷ []) l o → HasMade (answered (method.Confirm confirm.SelectOk)) o p t u → HasMade (opening ++ selecting) j p s u
opening_made j k l o p s t u opens open_ok selects select_ok =
    let select : Step = step.Client (event.Call 1 (call.ConfirmSelect (record { nowait = false }))) in
    made_then opening selecting j l p s t u
    (made_then (step.Client (event.Call 1 call.OpenChannel) ∷ []) (answered (method.Channel channel.OpenOk)) j k l s s t (opens s) open_ok)
    (made_then (select ∷ []) (answered (method.Confirm confirm.SelectOk)) l o p t t u (selects t) select_ok)

-- an ack is sent, delivered and polled
pub acked_made : (n : ℕ) (j k l o : Joint World) (s t : Summary) → HasPassed (step.Send (frame.Method 1 (method.Basic (basic.Ack n false))) ∷ []) j k → HasPassed (step.Deliver ∷ []) k l → HasMade (step.Client (event.PollConfirm n) ∷ []) l o s t → HasMade (acked n) j o s t
acked_made n j k l o s t sends delivers polls =
    let send : Step = step.Send (frame.Method 1 (method.Basic (basic.Ack n false))) in
    let poll : Step = step.Client (event.PollConfirm n) in
    made_then (send ∷ []) (step.Deliver ∷ poll ∷ []) j k o s s t (sends s) (made_then (step.Deliver ∷ []) (poll ∷ []) k l o s s t (delivers s) polls)

-- a publish is called; its frames leave, and are read; it is acked, and its confirm polled
pub publish_done : (n m : ℕ) (j k l o p : Joint World) (s t u v : Summary) → m ≡ frames_of n → HasMade (step.Client (event.Call 1 (publish_call n)) ∷ []) j k s t → HasMade (replicate m (step.Client (event.Next true))) k l t u → HasPassed (replicate m step.Read) l o → HasMade (acked n) o p u v → HasMade (publish_steps n) j p s v
publish_done n m j k l o p s t u v many calls asks reads acks =
    let call : Step = step.Client (event.Call 1 (publish_call n)) in
    let requests : List Step = replicate m (step.Client (event.Next true)) in
    let read : List Step = replicate m step.Read in
    let whole : HasMade ((call ∷ requests) ++ read ++ acked n) j p s v =
    made_then ((call ∷ requests) ++ read) (acked n) j o p s u v (made_then (call ∷ requests) read j l o s u u (made_then (call ∷ []) requests j k l s t u calls asks) (reads u)) acks
    in
    subst (λ (i : ℕ). HasMade (call ∷ replicate i (step.Client (event.Next true)) ++ replicate i step.Read ++ acked n) j p s v) many whole

-- the frame requests of a publish can be made
pub requests_go : (n m : ℕ) (j k : Joint World) (s t : Summary) → m ≡ frames_of n → HasMade (step.Client (event.Call 1 (publish_call n)) ∷ []) j k s t → CanGo 20 j s → CanGo m k t
requests_go n m j k s t many calls go =
    let most : m ≤ 5 = omega (arith, many) in
    calls.goes m (can_go_fewer 20 (1 + m) j s go (omega (arith, most)))

-- and so can the delivery and the poll behind them
pub ack_goes : (n m : ℕ) (j k l o : Joint World) (s t u : Summary) → m ≡ frames_of n → HasMade (step.Client (event.Call 1 (publish_call n)) ∷ []) j k s t → HasMade (replicate m (step.Client (event.Next true))) k l t u → HasPassed (replicate m step.Read) l o → CanGo 20 j s → CanGo 3 o u
ack_goes n m j k l o s t u many calls asks reads go =
    let most : m ≤ 5 = omega (arith, many) in
    let first = calls.goes 13 (can_go_fewer 20 14 j s go (omega arith)) in
    let second = asks.goes 8 (can_go_fewer 13 _ k t first (omega (arith, most, length-replicate m (step.Client (event.Next true))))) in
    (reads u).goes 3 (can_go_fewer 8 _ l u second (omega (arith, most, length-replicate m step.Read)))

-- ---- how many steps

pub few_steps : (n : ℕ) → length (publish_steps n) ≤ 20
few_steps n =
    let call : Step = step.Client (event.Call 1 (publish_call n)) in
    let requests : List Step = replicate (frames_of n) (step.Client (event.Next true)) in
    let reads : List Step = replicate (frames_of n) step.Read in
    let one : length requests ≡ frames_of n = length-replicate (frames_of n) (step.Client (event.Next true)) in
    let two : length reads ≡ frames_of n = length-replicate (frames_of n) step.Read in
    let both = length-append (call ∷ requests) reads in
    let all = length-append ((call ∷ requests) ++ reads) (acked n) in
    let most : frames_of n ≤ 5 = omega arith in
    omega (arith, one, two, both, all, most)

-- ---- what can be made at first

pub can_go_first : (m : ℕ) (j : Joint World) (s : Summary) → j ≡ new_joint (new_world m) m → s ≡ nothing → CanGo (2 ^ 32) j s
can_go_first m j s new none =
    let first = new_goes_on m j.session (ap (λ (x : Joint World). x.session) new) in
    let p : s.publishes ≡ 0 = ap (λ (x : Summary). x.publishes) none in
    let f : s.frames ≡ 0 = ap (λ (x : Summary). x.frames) none in
    let b : s.bytes ≡ 0 = ap (λ (x : Summary). x.bytes) none in
    let a : s.acks ≡ 0 = ap (λ (x : Summary). x.acks) none in (
      (fewer (2 ^ 64 - 1 - 0) (2 ^ 32) j.session first.numbers (omega arith), first.unreturned),
      record {
        publishes = omega (arith, p);
        frames = omega (arith, f);
        bytes = omega (arith, b);
        acks = omega (arith, a);
      },
    )
