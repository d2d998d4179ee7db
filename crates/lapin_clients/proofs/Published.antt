-- A whole run of a client, as a joined run, in which each publish has its number, and each call its ticket.
use Rattle.std.proofs.Common.{◌≡◌, ℕ, suc, ◌+◌, ◌≤◌, ◌<◌, Bool, true, false, cond, List, [], ◌∷◌, ◌++◌, length, map, Some, Ok, refl, sym, ap, subst, ◌∙◌, arith}
use Rattle.std.proofs.lemmas.List.{append_assoc, append-nil}
use Rattle.lapin_frames.specs.Carried.{carrying}
use Rattle.lapin_methods.specs.declared.options.BasicPublishOptions.{BasicPublishOptions}
use Rattle.lapin_types.specs.declared.call.Call.{Call as SessionCall}
use Rattle.lapin_types.specs.declared.event.Event.{Event}
use Rattle.lapin_types.specs.declared.event.Event.TheVariants as event
use Rattle.lapin_types.specs.declared.record.Record.TheVariants as record_
use Rattle.lapin_types.specs.Types.error
use Rattle.lapin_rules.specs.History.{History, rec}
use Rattle.lapin_rules.specs.Wire.{Wire, is_open, state_of}
use Rattle.lapin_broker.specs.Sends.{may}
use Rattle.lapin_joint.specs.declared.step.Step.{Step}
use Rattle.lapin_joint.specs.declared.step.Step.TheVariants as step
use Rattle.lapin_joint.specs.Joint.{Joint, run, after, client, deliver_first, is_lawful, joined_to, new_joint, read_first, send_down}
use Rattle.lapin_machine.specs.Way.{by_machine, by_history}
use Rattle.lapin_machine.specs.World.{new_world, told_by}
use Rattle.lapin_client.specs.Calls.{publishing}
use Rattle.lapin_concord.proofs.Running.{Sound, new_sound, sound_run}
use Rattle.lapin_verdicts.specs.Publishes.{Message}
use Rattle.lapin_verdicts.specs.Session.{past_of}
use Rattle.lapin_verdicts.specs.Verdicts.{at_place, messages_in}
use Rattle.lapin_verdicts.proofs.Assembly.{in_run}
use Rattle.lapin_verdicts.proofs.Numbering.{place-more}
use Rattle.lapin_verdicts.proofs.Whole.{messages-append}
use Rattle.lapin_clients.specs.Calls.{Ask, Publish}
use Rattle.lapin_clients.specs.Joined.{IsJoined, IsRun, machine_to, as_dealt, dealt, dealt_in, AreNumbered, IsMade, IsNumbered}
use Rattle.lapin_clients.specs.Nets.{Net, Act, Calls, Does, IsNewNet, Leads}
use Rattle.lapin_clients.proofs.Ended.{new_quiet, run_quiet}
use Rattle.lapin_clients.proofs.Fewer.{alive_before}
use Rattle.lapin_clients.proofs.Going.{deals, deals_append, GoesOn, one_joined, two_joined}
use Rattle.lapin_clients.proofs.Requests.{run_append}
use Rattle.lapin_clients.proofs.Runs.{act_goes, new_joined}
use Rattle.lapin_clients.proofs.Told.{deeds_are, told_is}

-- ---- what was accepted stays

abbrev Grown : ℕ → Joint History → Joint History → Type 0
Grown n j k = (more : History) × (k.session ≡ j.session ++ more)

same_grown : (n : ℕ) (j k : Joint History) → k.session ≡ j.session → Grown n j k
same_grown n j k e = ([], e ∙ sym (append-nil j.session))

grown_by : (n : ℕ) (s : Step) (j : Joint History) → Grown n j (after (by_history n) s j)
grown_by n (step.Client e) j = elim (is_lawful e) as (λ b. Grown n j (cond b (client (by_history n) e j) j)) [ true ↦ ((e, rec n j.session e) ∷ [], refl) | false ↦ same_grown n j j refl ]
grown_by n step.Read j = elim j.up as (λ ls. Grown n j (read_first ls j)) [ [] ↦ same_grown n j j refl | l ∷ ls ↦ same_grown n j (read_first (l ∷ ls) j) refl ]
grown_by n (step.Send f) j = elim (may j.broker f) as (λ b. Grown n j (cond b (send_down f j) j)) [ true ↦ same_grown n j (send_down f j) refl | false ↦ same_grown n j j refl ]
grown_by n step.Deliver j = elim j.down as (λ fs. Grown n j (deliver_first (by_history n) fs j)) [ [] ↦ same_grown n j j refl | f ∷ fs ↦ ((event.Receive f, rec n j.session (event.Receive f)) ∷ [], refl) ]
grown_by n step.Lose j = ((event.Lost, rec n j.session event.Lost) ∷ [], refl)

grown_run : (n : ℕ) (ss : List Step) (j : Joint History) → Grown n j (run (by_history n) ss j)
grown_run n [] j = same_grown n j j refl
grown_run n (s ∷ ss) j =
    let one = grown_by n s j in
    let rest = grown_run n ss (after (by_history n) s j) in
    (one.0 ++ rest.0, rest.1 ∙ (ap (λ h. h ++ rest.0) one.1 ∙ append_assoc j.session one.0 rest.0))

still_there : (n : ℕ) (ss ts : List Step) (k : ℕ) (m : Message) → at_place k (messages_in (joined_to n ss).session) ≡ Some m → at_place k (messages_in (joined_to n (ss ++ ts)).session) ≡ Some m
still_there n ss ts k m h =
    let g = grown_run n ts (joined_to n ss) in
    let all : messages_in (joined_to n (ss ++ ts)).session ≡ messages_in (joined_to n ss).session ++ messages_in g.0 =
    ap (λ (j : Joint History). messages_in j.session) (run_append (by_history n) ss ts (new_joint [] n)) ∙ (ap messages_in g.1 ∙ messages-append (joined_to n ss).session g.0) in
    ap (at_place k) all ∙ place-more k (messages_in (joined_to n ss).session) (messages_in g.0) m h

-- ---- its number

next_place : (ms more : List Message) (m : Message) → at_place (suc (length ms)) (ms ++ m ∷ more) ≡ Some m
next_place [] more m = refl
next_place (x ∷ ms) more m = next_place ms more m

-- the record of a publish that was accepted gives the next number
module _ (c : ℕ) (exchange key : List ℕ) (options : BasicPublishOptions) (payload properties : List ℕ) where
  abbrev message : Message
  message = record { exchange = exchange; routing_key = key; mandatory = options.mandatory; immediate = options.immediate; properties = carrying properties; payload = payload }

  number_given : (b : Bool) (w : Wire) (t k : ℕ) → cond b (record_.Publish (w.tickets + 1) (w.published + 1)) (record_.Refused (error.InvalidChannelState (state_of c w))) ≡ record_.Publish t k → k ≡ w.published + 1
  number_given true w t k h = (let e : w.published + 1 ≡ k = cc in sym e)
  number_given false w t k h = absurd cc

  module _ (n : ℕ) (big : 8 < n) (ss : List Step) (t k : ℕ) where
    abbrev e : Event
    e = publishing c exchange key options payload properties

    abbrev longer : List Step
    longer = ss ++ step.Client e ∷ step.Client (event.AsideTicket t) ∷ []

    accepted : rec n (joined_to n ss).session e ≡ record_.Publish t k → at_place k (messages_in (joined_to n longer).session) ≡ Some message
    accepted told =
        let h : History = (joined_to n ss).session in
        let number : k ≡ (past_of n ss).wire.published + 1 = number_given (is_open (state_of c (past_of n ss).wire)) (past_of n ss).wire t k told in
        let place : k ≡ suc (length (messages_in h)) = (let written = (in_run n 1 big ss).written in omega (arith, number, written)) in
        let grown : (joined_to n longer).session ≡ (h ++ (e, rec n h e) ∷ []) ++ (event.AsideTicket t, rec n (h ++ (e, rec n h e) ∷ []) (event.AsideTicket t)) ∷ [] = ap (λ (j : Joint History). j.session) (run_append (by_history n) ss (step.Client e ∷ step.Client (event.AsideTicket t) ∷ []) (new_joint [] n)) in
        let all : messages_in (joined_to n longer).session ≡ messages_in h ++ message ∷ [] =
        ap messages_in grown ∙ (messages-append (h ++ (e, rec n h e) ∷ []) ((event.AsideTicket t, rec n (h ++ (e, rec n h e) ∷ []) (event.AsideTicket t)) ∷ [])
        ∙ (append-nil (messages_in (h ++ (e, rec n h e) ∷ [])) ∙ (messages-append h ((e, rec n h e) ∷ []) ∙ ap (λ r. messages_in h ++ messages_in ((e, r) ∷ [])) told))) in
        ap (at_place k) all ∙ (ap (λ i. at_place i (messages_in h ++ message ∷ [])) place ∙ next_place (messages_in h) [] message)

-- ---- its ticket

-- a call that was given a ticket stands in the history, whatever comes behind it
made_there : (n : ℕ) (ss behind : List Step) (channel : ℕ) (call : SessionCall) (t : ℕ) → rec n (joined_to n ss).session (event.Call channel call) ≡ record_.Ticket t → IsMade channel call t (joined_to n ((ss ++ step.Client (event.Call channel call) ∷ []) ++ behind)).session
made_there n ss behind channel call t told =
    let e : Event = event.Call channel call in
    let h : History = (joined_to n ss).session in
    let longer : List Step = ss ++ step.Client e ∷ [] in
    let one : (joined_to n longer).session ≡ h ++ (e, record_.Ticket t) ∷ [] =
    ap (λ (j : Joint History). j.session) (run_append (by_history n) ss (step.Client e ∷ []) (new_joint [] n)) ∙ ap (λ r. h ++ (e, r) ∷ []) told in
    let g = grown_run n behind (joined_to n longer) in
    record {
      before = h;
      behind = g.0;
      all = ap (λ (j : Joint History). j.session) (run_append (by_history n) longer behind (new_joint [] n)) ∙ (g.1 ∙ (ap (λ v. v ++ g.0) one ∙ append_assoc h ((e, record_.Ticket t) ∷ []) g.0));
    }

-- ---- one act, behind these steps

at_run : (n : ℕ) (pre ss : List Step) → run by_machine ss (machine_to n pre) ≡ machine_to n (pre ++ ss)
at_run n pre ss = sym (run_append by_machine pre ss (new_joint (new_world n) n))

record One (n : ℕ) (a : Act) (y : Net) (pre : List Step) : Type 0 where
  steps : List Step
  joined : IsJoined n y (machine_to n (pre ++ steps))
  dealt_is : deals steps (machine_to n pre) ≡ dealt_in a
  numbered : (behind : List Step) → IsNumbered a (joined_to n ((pre ++ steps) ++ behind)).session

module _ (n : ℕ) (big : 8 < n) (pre : List Step) (x y : Net) (sound : Sound (machine_to n pre)) (is : IsJoined n x (machine_to n pre)) where
  plain : (a : Act) → ((h : History) → IsNumbered a h) → Does a x y → 0 < y.client.left → One n a y pre
  plain a none h alive =
      let g : GoesOn n (dealt_in a) y (machine_to n pre) = act_goes n x y (machine_to n pre) sound is (run_quiet pre (new_joint (new_world n) n) (new_quiet n)) a h alive in
      record { steps = g.steps; joined = subst (IsJoined n y) (at_run n pre g.steps) g.joined; dealt_is = g.dealt_is; numbered = λ behind. none (joined_to n ((pre ++ g.steps) ++ behind)).session }

  one_act : (a : Act) → Does a x y → 0 < y.client.left → One n a y pre
  one_act (Calls (Publish channel exchange key options payload properties (Ok k))) h alive =
      let t : ℕ = h.0.0.1.0.0 in
      let e : Event = publishing channel exchange key options payload properties in
      let both : List Step = step.Client e ∷ step.Client (event.AsideTicket t) ∷ [] in
      let told : rec n (joined_to n pre).session e ≡ record_.Publish t k = sym (told_is n pre e) ∙ (ap (λ w. told_by w e) (sym is.session) ∙ h.0.0.1.0.1) in
      record {
        steps = both;
        joined = subst (IsJoined n y) (at_run n pre both) (two_joined n x y (machine_to n pre) is (record { broker = h.1; up = h.2; down = h.3; besides = h.4 }) e (event.AsideTicket t) refl refl h.0.0.1.2 h.0.0.1.0.2);
        dealt_is = refl;
        numbered = λ behind. still_there n (pre ++ both) behind k (message channel exchange key options payload properties) (accepted channel exchange key options payload properties n big pre t k told);
      }
  one_act (Calls (Ask channel octets (Ok t))) h alive =
      let call : SessionCall = h.0.0.1.0 in
      let e : Event = event.Call channel call in
      let told : rec n (joined_to n pre).session e ≡ record_.Ticket t = sym (told_is n pre e) ∙ (ap (λ w. told_by w e) (sym is.session) ∙ h.0.0.1.2.0) in
      record {
        steps = step.Client e ∷ [];
        joined = subst (IsJoined n y) (at_run n pre (step.Client e ∷ [])) (one_joined n x y (machine_to n pre) is (record { broker = h.1; up = h.2; down = h.3; besides = h.4 }) e refl h.0.0.1.2.3 h.0.0.1.2.1);
        dealt_is = refl;
        numbered = λ behind. (call, h.0.0.1.1, made_there n pre behind channel call t told);
      }
  one_act a h alive = plain a (λ v. tt) h alive

-- ---- all acts

record Whole (n : ℕ) (as_ : List Act) (z : Net) (pre : List Step) : Type 0 where
  steps : List Step
  joined : IsJoined n z (machine_to n (pre ++ steps))
  dealt_is : deals steps (machine_to n pre) ≡ dealt as_
  numbered : AreNumbered as_ (joined_to n (pre ++ steps)).session

whole_goes : (n : ℕ) → 8 < n → (as_ : List Act) (pre : List Step) (x z : Net) → Sound (machine_to n pre) → IsJoined n x (machine_to n pre) → Leads as_ x z → 0 < z.client.left → Whole n as_ z pre
unfolding Leads
whole_goes n big [] pre x z sound is h alive = record {
  steps = [];
  joined = subst (λ ss. IsJoined n z (machine_to n ss)) (sym (append-nil pre)) (subst (λ y. IsJoined n y (machine_to n pre)) (sym h) is);
  dealt_is = refl;
  numbered = tt;
}
whole_goes n big (a ∷ more) pre x z sound is h alive =
    let one : One n a h.0 pre = one_act n big pre x h.0 sound is a h.1.0 (alive_before more h.0 z h.1.1 alive) in
    let still : Sound (machine_to n (pre ++ one.steps)) = subst Sound (at_run n pre one.steps) (sound_run one.steps (machine_to n pre) sound) in
    let rest : Whole n more z (pre ++ one.steps) = whole_goes n big more (pre ++ one.steps) h.0 z still one.joined h.1.1 alive in
    let place : (pre ++ one.steps) ++ rest.steps ≡ pre ++ (one.steps ++ rest.steps) = append_assoc pre one.steps rest.steps in
    record {
      steps = one.steps ++ rest.steps;
      joined = subst (λ ss. IsJoined n z (machine_to n ss)) place rest.joined;
      dealt_is = deals_append one.steps rest.steps (machine_to n pre)
          ∙ (ap (λ xs. xs ++ deals rest.steps (run by_machine one.steps (machine_to n pre))) one.dealt_is ∙ ap (λ xs. dealt_in a ++ xs) (ap (deals rest.steps) (at_run n pre one.steps) ∙ rest.dealt_is));
      numbered = (subst (λ ss. IsNumbered a (joined_to n ss).session) place (one.numbered rest.steps), subst (λ ss. AreNumbered more (joined_to n ss).session) place rest.numbered);
    }

-- ---- from a new client on

pub run_is : (n : ℕ) (acts : List Act) (x z : Net) → IsNewNet n x → Leads acts x z → 0 < z.client.left → (ss : List Step) × IsRun n acts z ss
run_is n acts x z new leads alive =
    let large : 4096 ≤ n = new.large in
    let g : Whole n acts z [] = whole_goes n (omega (arith, large)) acts [] x z (new_sound n new.large) (new_joined n x new) leads alive in
    (g.steps, record { joined = g.joined; dealt_is = ap (map as_dealt) (deeds_are n g.steps) ∙ g.dealt_is; numbered = g.numbered })
