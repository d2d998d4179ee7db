-- A joined run by its history: what its broker does, and what its session tells then.
use Rattle.std.proofs.Common.{◌≡◌, ℕ, List, [], ◌∷◌, ◌++◌, None, refl, sym, ap, ◌∙◌, cond}
use Rattle.lapin_types.specs.declared.event.Event.{Event}
use Rattle.lapin_broker.specs.Sends.{may}
use Rattle.lapin_joint.specs.declared.step.Step.{Step}
use Rattle.lapin_joint.specs.declared.step.Step.TheVariants as step
use Rattle.lapin_joint.specs.Joint.{Joint, new_joint, joined_to, after}
use Rattle.lapin_joint.specs.Order.{along, front}
use Rattle.lapin_joint.specs.JoinedRun.{AreAlike}
use Rattle.lapin_joint.proofs.Alike.{alike-next, new_alike, unreturned-next}
use Rattle.lapin_machine.specs.Way.{by_machine, by_history}
use Rattle.lapin_machine.specs.World.{World, new_world, told_by}
use Rattle.lapin_rules.specs.History.{History, rec}
use Rattle.lapin_laws.proofs.Traces.{stands_told}
use Rattle.lapin_machine.proofs.Back.{given_none}
use Rattle.lapin_concord.proofs.Laws.{alike_run as alike_from}
use Rattle.lapin_verdicts.specs.Deeds.{Sent, deed_in, deeds, reads_of}
use Rattle.lapin_clients.specs.Joined.{machine_to}
use Rattle.lapin_clients.proofs.Going.{still_none}

pub alike_run : (n : ℕ) (ss : List Step) → AreAlike n (joined_to n ss) (machine_to n ss)
alike_run n ss = alike_from n ss (new_joint [] n) (new_joint (new_world n) n) refl (new_alike n)

-- what the broker does in a step shows in the broker and the link up
deed_alike : (n : ℕ) (s : Step) (j : Joint History) (k : Joint World) → AreAlike n j k → deed_in s k ≡ deed_in s j
deed_alike n step.Read j k a = ap (λ ls. reads_of (front ls)) a.up
deed_alike n (step.Send f) j k a = ap (λ b. cond (may b f) (Sent f ∷ []) []) a.broker
deed_alike n (step.Client e) j k a = refl
deed_alike n step.Deliver j k a = refl
deed_alike n step.Lose j k a = refl

deeds_from : (n : ℕ) (ss : List Step) (j : Joint History) (k : Joint World) → k.session.returned ≡ None → AreAlike n j k → along by_machine deed_in ss k ≡ along (by_history n) deed_in ss j
deeds_from n [] j k none a = refl
deeds_from n (s ∷ ss) j k none a =
    ap (λ ds. ds ++ along by_machine deed_in ss (after by_machine s k)) (deed_alike n s j k a)
    ∙ ap (λ ds. deed_in s j ++ ds) (deeds_from n ss (after (by_history n) s j) (after by_machine s k) (unreturned-next s k none) (alike-next n s j k none a).1)

pub deeds_are : (n : ℕ) (ss : List Step) → deeds n ss ≡ along by_machine deed_in ss (new_joint (new_world n) n)
deeds_are n ss = sym (deeds_from n ss (new_joint [] n) (new_joint (new_world n) n) refl (new_alike n))

-- ---- what the session tells then

pub told_is : (n : ℕ) (ss : List Step) (e : Event) → told_by (machine_to n ss).session e ≡ rec n (joined_to n ss).session e
told_is n ss e = stands_told n (joined_to n ss).session (machine_to n ss).session e (given_none (machine_to n ss).session.returned e (still_none ss (new_joint (new_world n) n) refl)) (alike_run n ss).session
