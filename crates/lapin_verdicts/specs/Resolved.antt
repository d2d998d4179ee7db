-- By which step a confirm is resolved as Ack or Nack: by the delivery of the settlement that is the broker's verdict on its publish.
use Rattle.std.specs.Prelude.{◌≡◌, ℕ, List, [], ◌∷◌, ◌++◌, Some, None}
use Rattle.lapin_types.specs.Types.{Frame}
use Rattle.lapin_rules.specs.declared.marks.SettleKind.{SettleKind}
use Rattle.lapin_rules.specs.ConfirmReadings.{channel_of, tag_of, outcome_at, kind_outcome}
use Rattle.lapin_joint.specs.declared.step.Step.{Step}
use Rattle.lapin_joint.specs.declared.step.Step.TheVariants as step
use Rattle.lapin_joint.specs.Joint.{joined_to}
use Rattle.lapin_verdicts.specs.Deeds.{deeds, last_opening}
use Rattle.lapin_verdicts.specs.Publishes.{Message}
use Rattle.lapin_verdicts.specs.Session.{past_of}
use Rattle.lapin_verdicts.specs.Verdicts.{at_place, messages_in, IsVerdict}

-- Publish k has a tag, and in its channel's last opening the broker had read the message of that very call whole, as the number that is
-- the tag; after that it sent the settlement that is its verdict of this kind, which now stands at the front of the link down.
pub record IsAtTheFront (frame_max k : ℕ) (kind : SettleKind) (steps : List Step) : Type 0 where
  pub tag : ℕ
  pub taken : tag_of k (past_of frame_max steps).confirms ≡ Some tag
  pub message : Message
  pub called : at_place k (messages_in (joined_to frame_max steps).session) ≡ Some message
  pub verdict : IsVerdict tag kind message (last_opening (channel_of k (past_of frame_max steps).confirms) (deeds frame_max steps))
  pub way : List Frame
  pub front : (joined_to frame_max steps).down ≡ verdict.frame ∷ way

-- where one step more resolves a confirm as Ack or Nack, it is a delivery, and the verdict on that publish is what it delivers
abbrev pub VerdictsAreDelivered : ℕ → List Step → Type 0
VerdictsAreDelivered frame_max steps = (k : ℕ) (kind : SettleKind) (s : Step) → outcome_at k (past_of frame_max steps).confirms ≡ None → outcome_at k (past_of frame_max (steps ++ s ∷ [])).confirms ≡ Some (kind_outcome kind) →
    (s ≡ step.Deliver) × IsAtTheFront frame_max k kind steps
