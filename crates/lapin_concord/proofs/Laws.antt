-- What holds of every joined run by machine holds of it by history.
use Rattle.std.proofs.Common.{◌≡◌, ℕ, ◌≤◌, true, false, List, [], ◌∷◌, refl, sym, ◌∙◌, ap, Some, None}
use Rattle.std.specs.List.{list_any}
use Rattle.lapin_machine.specs.World.{World, new_world}
use Rattle.lapin_broker.specs.States.{Broker, is_broken as is_broken_broker}
use Rattle.lapin_joint.specs.declared.step.Step.{Step}
use Rattle.lapin_joint.specs.Joint.{Joint, new_joint, after, run, joined, joined_to}
use Rattle.lapin_machine.specs.Way.{by_machine, by_history}
use Rattle.lapin_joint.specs.JoinedRun.{AreAlike}
use Rattle.lapin_joint.proofs.Alike.{unreturned-next, alike-next, new_alike, reports_joined}
use Rattle.lapin_rules.specs.History.{History}
use Rattle.lapin_rules.specs.ConfirmReadings.{has_left, channel_of as channel_of_publish, tag_of as tag_of_publish}
use Rattle.lapin_concord.specs.Openings.{opening_of, confirms_in}
use Rattle.lapin_concord.proofs.Tags.{tags_differ}
use Rattle.lapin_concord.specs.Refusals.{reports_refusal}
use Rattle.lapin_concord.proofs.Running.{new_sound, sound_run, never_broken, no_refusals}

pub alike_run : (n : ℕ) (ts : List Step) (j : Joint History) (k : Joint World) → k.session.returned ≡ None → AreAlike n j k → AreAlike n (run (by_history n) ts j) (run by_machine ts k)
alike_run n [] j k r a = a
alike_run n (t ∷ ts) j k r a = alike_run n ts (after (by_history n) t j) (after by_machine t k) (unreturned-next t k r) (alike-next n t j k r a).1

pub whole_broker : (n : ℕ) (ts : List Step) → 4096 ≤ n → is_broken_broker (joined_to n ts).broker.connection ≡ false
whole_broker n ts r =
    let a = alike_run n ts (new_joint [] n) (new_joint (new_world n) n) refl (new_alike n) in
    ap (λ (b : Broker). is_broken_broker b.connection) (sym a.broker) ∙ never_broken (run by_machine ts (new_joint (new_world n) n)) (sound_run ts (new_joint (new_world n) n) (new_sound n r))

pub none_refused : (n : ℕ) (ts : List Step) → 4096 ≤ n → list_any reports_refusal (joined n ts) ≡ false
none_refused n ts r = ap (list_any reports_refusal) (sym (reports_joined n ts)) ∙ no_refusals ts (new_joint (new_world n) n) (new_sound n r)

-- the tags of one opening
pub tags_in : (n : ℕ) (ts : List Step) (k l t : ℕ) → has_left k (confirms_in n ts) ≡ true → has_left l (confirms_in n ts) ≡ true → channel_of_publish k (confirms_in n ts) ≡ channel_of_publish l (confirms_in n ts) → opening_of k (confirms_in n ts) ≡ opening_of l (confirms_in n ts) → tag_of_publish k (confirms_in n ts) ≡ Some t → tag_of_publish l (confirms_in n ts) ≡ Some t → k ≡ l
tags_in n ts k l t =
    let a = alike_run n ts (new_joint [] n) (new_joint (new_world n) n) refl (new_alike n) in
    tags_differ k l t (confirms_in n ts) a.session.confirms.confirm_state.came
