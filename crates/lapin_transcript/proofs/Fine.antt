-- A broker that is never broken is broken by no frame that it reads, and a joined run sends what may be sent; after a loss nothing is
-- seen any more. So what is seen is fine.
use Rattle.std.proofs.Common.{◌≡◌, ◌∙◌, ℕ, suc, Bool, true, false, cond, List, [], ◌∷◌, ◌++◌, refl, sym, ap, subst}
use Rattle.lapin_types.specs.declared.leaving.Left.{Left}
use Rattle.lapin_types.specs.Types.{Frame}
use Rattle.lapin_broker.specs.Sends.{may}
use Rattle.lapin_broker.specs.States.{Broker, is_broken}
use Rattle.lapin_rules.specs.History.{History}
use Rattle.lapin_machine.specs.Way.{Way, by_history}
use Rattle.lapin_joint.specs.declared.step.Step.{Step}
use Rattle.lapin_joint.specs.declared.step.Step.TheVariants as step
use Rattle.lapin_joint.specs.Joint.{Joint, new_joint, client, send_down, read_first, deliver_first, is_lawful, after, joined_to}
use Rattle.lapin_joint.specs.Order.{along}
use Rattle.lapin_joint.proofs.Steps.{run-push}
use Rattle.lapin_check.specs.declared.seen.Seen.TheVariants as seen
use Rattle.lapin_check.specs.declared.finding.Finding.TheVariants as found
use Rattle.lapin_check.specs.Finding.{finding_from, finding}
use Rattle.lapin_transcript.specs.Transcript.{first_up, seen_in, transcript}
use Rattle.lapin_transcript.proofs.Over.{IsForGood, LeavesNothing, none_after_loss}

module _ {S : Type 0} (m : Way S) (ss : List Step) where
  -- what is seen from this joined run on is fine
  abbrev IsFine : Joint S → Type 0
  IsFine j = (place : ℕ) → finding_from place j.broker (along m seen_in ss j) ≡ found.Fine

  fine_client : (b : Bool) (j k : Joint S) → k.broker ≡ j.broker → IsFine (cond b k j) → (place : ℕ) → finding_from place j.broker (along m seen_in ss (cond b k j)) ≡ found.Fine
  fine_client true j k same rest place = ap (λ (x : Broker). finding_from place x (along m seen_in ss k)) (sym same) ∙ rest place
  fine_client false j k same rest place = rest place

  fine_read : (ls : List Left) (j : Joint S) → is_broken (read_first ls j).broker.connection ≡ false → IsFine (read_first ls j) → (place : ℕ) → finding_from place j.broker (first_up ls ++ along m seen_in ss (read_first ls j)) ≡ found.Fine
  fine_read [] j sound rest place = rest place
  fine_read (l ∷ ls) j sound rest place = rw sound (rest (suc place))

  fine_send : (f : Frame) (j : Joint S) (b : Bool) → may j.broker f ≡ b → IsFine (cond b (send_down f j) j) → (place : ℕ) → finding_from place j.broker (cond b (seen.Down f ∷ []) [] ++ along m seen_in ss (cond b (send_down f j) j)) ≡ found.Fine
  fine_send f j true allowed rest place = rw allowed (rest (suc place))
  fine_send f j false allowed rest place = rest place

  fine_deliver : (fs : List Frame) (j : Joint S) → IsFine (deliver_first m fs j) → (place : ℕ) → finding_from place j.broker (along m seen_in ss (deliver_first m fs j)) ≡ found.Fine
  fine_deliver [] j rest place = rest place
  fine_deliver (f ∷ fs) j rest place = rest place

  -- one step, after which the broker isn't broken; after a loss nothing is seen
  fine_step : (s : Step) (j : Joint S) → is_broken (after m s j).broker.connection ≡ false → (along m seen_in ss (after m step.Lose j) ≡ []) → IsFine (after m s j) → (place : ℕ) → finding_from place j.broker (seen_in s j ++ along m seen_in ss (after m s j)) ≡ found.Fine
  fine_step (step.Client e) j sound over rest place = fine_client (is_lawful e) j (client m e j) refl rest place
  fine_step step.Read j sound over rest place = fine_read j.up j sound rest place
  fine_step (step.Send f) j sound over rest place = fine_send f j (may j.broker f) refl rest place
  fine_step step.Deliver j sound over rest place = fine_deliver j.down j rest place
  fine_step step.Lose j sound over rest place = ap (finding_from place j.broker) over

-- the broker is never broken
abbrev pub IsSound : ℕ → Type 0
IsSound n = (steps : List Step) → is_broken (joined_to n steps).broker.connection ≡ false

module _ (stays : IsForGood) (nothing : LeavesNothing) (n : ℕ) (sound : IsSound n) where
  fine_from : (made ss : List Step) → IsFine (by_history n) ss (joined_to n made)
  fine_from made [] place = refl
  fine_from made (s ∷ ss) place =
      let next : joined_to n (made ++ s ∷ []) ≡ after (by_history n) s (joined_to n made) = run-push (by_history n) made s (new_joint [] n) in
      let rest : IsFine (by_history n) ss (after (by_history n) s (joined_to n made)) = subst (λ (j : Joint History). IsFine (by_history n) ss j) next (fine_from (made ++ s ∷ []) ss) in
      let good : is_broken (after (by_history n) s (joined_to n made)).broker.connection ≡ false = subst (λ (j : Joint History). is_broken j.broker.connection ≡ false) next (sound (made ++ s ∷ [])) in
      fine_step (by_history n) ss s (joined_to n made) good (none_after_loss stays nothing n made ss) rest place

  pub transcript_fine : (steps : List Step) → finding n (transcript n steps) ≡ found.Fine
  transcript_fine steps = fine_from [] steps 0
