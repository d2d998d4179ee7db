-- What is seen of a joined run by the machine is what is seen of one by the history.
use Rattle.std.proofs.Common.{◌≡◌, ◌∙◌, ℕ, cond, None, List, [], ◌∷◌, ◌++◌, refl, ap, append_assoc}
use Rattle.lapin_rules.specs.History.{History}
use Rattle.lapin_machine.specs.World.{World, new_world}
use Rattle.lapin_broker.specs.States.{Broker}
use Rattle.lapin_broker.specs.Sends.{may}
use Rattle.lapin_joint.specs.declared.step.Step.{Step}
use Rattle.lapin_joint.specs.declared.step.Step.TheVariants as step
use Rattle.lapin_joint.specs.Joint.{Joint, new_joint, after}
use Rattle.lapin_machine.specs.Way.{by_history, by_machine}
use Rattle.lapin_joint.specs.JoinedRun.{AreAlike}
use Rattle.lapin_joint.specs.Order.{along}
use Rattle.lapin_joint.proofs.Alike.{alike-next, unreturned-next, new_alike}
use Rattle.lapin_check.specs.declared.seen.Seen.{Seen}
use Rattle.lapin_check.specs.declared.seen.Seen.TheVariants as seen
use Rattle.lapin_machine.specs.Growing.{IsLonger}
use Rattle.lapin_transcript.specs.Transcript.{first_up, seen_in, transcript}

seen_same : (n : ℕ) (t : Step) (j : Joint History) (k : Joint World) → AreAlike n j k → seen_in t k ≡ seen_in t j
seen_same n (step.Client e) j k h = refl
seen_same n step.Read j k h = ap first_up h.up
seen_same n (step.Send f) j k h = ap (λ (b : Broker). cond (may b f) (seen.Down f ∷ []) []) h.broker
seen_same n step.Deliver j k h = refl
seen_same n step.Lose j k h = refl

pub along_same : (n : ℕ) (ts : List Step) (j : Joint History) (k : Joint World) → k.session.returned ≡ None → AreAlike n j k → along by_machine seen_in ts k ≡ along (by_history n) seen_in ts j
along_same n [] j k none h = refl
along_same n (t ∷ ts) j k none h =
    let one = alike-next n t j k none h in
    let more = along_same n ts (after (by_history n) t j) (after by_machine t k) (unreturned-next t k none) one.1 in
    ap (λ (xs : List Seen). xs ++ along by_machine seen_in ts (after by_machine t k)) (seen_same n t j k h) ∙ ap (λ (xs : List Seen). seen_in t j ++ xs) more

-- of a whole run
pub transcript_same : (n : ℕ) (ts : List Step) → along by_machine seen_in ts (new_joint (new_world n) n) ≡ transcript n ts
transcript_same n ts = along_same n ts (new_joint [] n) (new_joint (new_world n) n) refl (new_alike n)

-- the transcript grows by what is seen of a step
pub longer-all : (old new new' all rest more : List Seen) → IsLonger old new all (more ++ rest) → new' ≡ new ++ more → IsLonger old new' all rest
longer-all old new new' all rest more l e = record {
  done = l.done ++ more;
  whole = append_assoc l.done more rest ∙ l.whole;
  new_is = e ∙ ap (λ xs. xs ++ more) l.new_is ∙ append_assoc old l.done more;
}
