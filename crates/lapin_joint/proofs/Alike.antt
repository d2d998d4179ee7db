-- A joined run by the machine tells what one by the history tells, step by step.
use Rattle.std.proofs.Common.{◌≡◌, ◌∙◌, ℕ, Bool, true, false, cond, List, [], ◌∷◌, ◌++◌, None, refl, sym, ap, subst}
use Rattle.lapin_types.specs.declared.event.Event.{Event}
use Rattle.lapin_types.specs.declared.event.Event.TheVariants as event
use Rattle.lapin_types.specs.declared.record.Record.{Record}
use Rattle.lapin_types.specs.declared.leaving.Left.{Left}
use Rattle.lapin_types.specs.Types.{Frame}
use Rattle.lapin_rules.specs.Wire.{Wire}
use Rattle.lapin_rules.specs.Handing.{handed}
use Rattle.lapin_rules.specs.History.{History, past}
use Rattle.lapin_machine.specs.World.{World, new_world}
use Rattle.lapin_machine.specs.Stands.{Stands}
use Rattle.lapin_machine.proofs.Back.{still_none}
use Rattle.lapin_machine.proofs.Ways.{told_same, stands_on}
use Rattle.lapin_rules.specs.ConfirmReadings.{is_full}
use Rattle.lapin_machine.proofs.Readings.{handed_shown}
use Rattle.lapin_machine.proofs.Standing.{new_stands}
use Rattle.lapin_broker.specs.Sends.{may}
use Rattle.lapin_joint.specs.declared.step.Step.{Step}
use Rattle.lapin_joint.specs.declared.step.Step.TheVariants as step
use Rattle.lapin_joint.specs.declared.step.Reported.{Reported}
use Rattle.lapin_joint.specs.declared.step.Reported.TheVariants as reported
use Rattle.lapin_joint.specs.Joint.{Joint, new_joint, is_lawful, left_alone, handed_by, read_first, deliver_first, after, report, reports, joined}
use Rattle.lapin_machine.specs.Way.{by_history, by_machine}
use Rattle.lapin_joint.specs.JoinedRun.{AreAlike}

-- ---- the session

handed_same : (n : ℕ) (h : History) (w : World) (e : Event) → Stands n h w → handed_by by_machine e w ≡ handed_by (by_history n) e h
handed_same n h w (event.Next flow) s =
    let full : ℕ → Bool = λ c. is_full c (past n h).confirms in
    ap left_alone (handed_shown flow w.wire (past n h).confirms w.confirm_state s.confirms.confirm_state ∙ ap (λ (b : Wire). handed flow full b) s.wire)
handed_same n h w _ s = refl

-- ---- no step gives a frame back

chosen_unreturned : (b : Bool) (j k : Joint World) → j.session.returned ≡ None → k.session.returned ≡ None → (cond b j k).session.returned ≡ None
chosen_unreturned true j k one other = one
chosen_unreturned false j k one other = other

read_unreturned : (ls : List Left) (k : Joint World) → k.session.returned ≡ None → (read_first ls k).session.returned ≡ None
read_unreturned [] k none = none
read_unreturned (l ∷ ls) k none = none

deliver_unreturned : (fs : List Frame) (k : Joint World) → k.session.returned ≡ None → (deliver_first by_machine fs k).session.returned ≡ None
deliver_unreturned [] k none = none
deliver_unreturned (f ∷ fs) k none = still_none k.session (event.Receive f) none

pub unreturned-next : (t : Step) (k : Joint World) → k.session.returned ≡ None → (after by_machine t k).session.returned ≡ None
unreturned-next (step.Client e) k none = chosen_unreturned (is_lawful e) _ k (still_none k.session e none) none
unreturned-next step.Read k none = read_unreturned k.up k none
unreturned-next (step.Send f) k none = chosen_unreturned (may k.broker f) _ k none none
unreturned-next step.Deliver k none = deliver_unreturned k.down k none
unreturned-next step.Lose k none = still_none k.session event.Lost none

-- ---- one step, where broker and links are the same ones

abbrev with_world : World → Joint History → Joint World
with_world w j = record { session = w; broker = j.broker; up = j.up; down = j.down }

abbrev Same : ℕ → Step → Joint History → Joint World → Type 0
Same n s j k = (report by_machine s k ≡ report (by_history n) s j) × AreAlike n (after (by_history n) s j) (after by_machine s k)

chosen_alike : (n : ℕ) (b : Bool) (j j' : Joint History) (k k' : Joint World) → AreAlike n j k → AreAlike n j' k' → AreAlike n (cond b j j') (cond b k k')
chosen_alike n true j j' k k' one other = one
chosen_alike n false j j' k k' one other = other

stays : (n : ℕ) (j : Joint History) (w : World) → Stands n j.session w → AreAlike n j (with_world w j)
stays n j w s = record { session = s; broker = refl; up = refl; down = refl }

same_client : (n : ℕ) (e : Event) (j : Joint History) (w : World) → w.returned ≡ None → Stands n j.session w → Same n (step.Client e) j (with_world w j)
same_client n e j w none s = (
  ap (λ (r : Record). cond (is_lawful e) (reported.Client r) reported.NotLawful) (told_same n j.session w e none s),
  chosen_alike n (is_lawful e) _ j _ (with_world w j)
      (record { session = stands_on n j.session w e none s; broker = refl; up = ap (λ (ls : List Left). j.up ++ ls) (handed_same n j.session w e s); down = refl })
      (stays n j w s),
)

same_read : (n : ℕ) (ls : List Left) (j : Joint History) (w : World) → j.up ≡ ls → Stands n j.session w → Same n step.Read (record j { up = ls }) (with_world w (record j { up = ls }))
same_read n [] j w is s = (refl, record { session = s; broker = refl; up = refl; down = refl })
same_read n (l ∷ ls) j w is s = (refl, record { session = s; broker = refl; up = refl; down = refl })

same_deliver : (n : ℕ) (fs : List Frame) (j : Joint History) (w : World) → w.returned ≡ None → Stands n j.session w → Same n step.Deliver (record j { down = fs }) (with_world w (record j { down = fs }))
same_deliver n [] j w none s = (refl, record { session = s; broker = refl; up = refl; down = refl })
same_deliver n (f ∷ fs) j w none s = (
  ap reported.Delivered (told_same n j.session w (event.Receive f) none s),
  record { session = stands_on n j.session w (event.Receive f) none s; broker = refl; up = refl; down = refl },
)

same_step : (n : ℕ) (t : Step) (j : Joint History) (w : World) → w.returned ≡ None → Stands n j.session w → Same n t j (with_world w j)
same_step n (step.Client e) j w none s = same_client n e j w none s
same_step n step.Read j w none s = same_read n j.up j w refl s
same_step n (step.Send f) j w none s = (
  refl,
  chosen_alike n (may j.broker f) _ j _ (with_world w j) (record { session = s; broker = refl; up = refl; down = refl }) (stays n j w s),
)
same_step n step.Deliver j w none s = same_deliver n j.down j w none s
same_step n step.Lose j w none s = (refl, record { session = stands_on n j.session w event.Lost none s; broker = refl; up = refl; down = refl })

-- ---- any step

alike_is : (n : ℕ) (j : Joint History) (k : Joint World) → AreAlike n j k → with_world k.session j ≡ k
alike_is n j k h = λ i. record { session = k.session; broker = sym h.broker i; up = sym h.up i; down = sym h.down i }

pub alike-next : (n : ℕ) (t : Step) (j : Joint History) (k : Joint World) → k.session.returned ≡ None → AreAlike n j k → Same n t j k
alike-next n t j k none h = subst (λ (x : Joint World). Same n t j x) (alike_is n j k h) (same_step n t j k.session none h.session)

-- ---- whole runs

pub new_alike : (n : ℕ) → AreAlike n (new_joint [] n) (new_joint (new_world n) n)
new_alike n = record { session = new_stands n (new_world n) refl; broker = refl; up = refl; down = refl }

reports_same : (n : ℕ) (ts : List Step) (j : Joint History) (k : Joint World) → k.session.returned ≡ None → AreAlike n j k → reports by_machine ts k ≡ reports (by_history n) ts j
reports_same n [] j k none h = refl
reports_same n (t ∷ ts) j k none h =
    let one = alike-next n t j k none h in
    let more = reports_same n ts (after (by_history n) t j) (after by_machine t k) (unreturned-next t k none) one.1 in
    ap (λ (r : Reported). r ∷ reports by_machine ts (after by_machine t k)) one.0 ∙ ap (λ (rs : List Reported). report (by_history n) t j ∷ rs) more

-- the reports that the machine gives are those that the history determines
pub reports_joined : (n : ℕ) (ts : List Step) → reports by_machine ts (new_joint (new_world n) n) ≡ joined n ts
reports_joined n ts = reports_same n ts (new_joint [] n) (new_joint (new_world n) n) refl (new_alike n)
